-- Beta and let: from what replacement wrote to the arguments applied after it.
-- Assumes nothing.
use Prim.Native.Nat.{ℕ, ◌+◌, ◌*◌, ◌/◌, ◌≤◌, ◌<◌}
use native.Mathlib.Nat.{le_refl}
use native.Mathlib.Omega.{arith}
use mathlib.Core.Path.{◌≡◌, refl, sym, ap, ◌∙◌}
use mathlib.Core.List.{List}
use mathlib.Core.Option.{some}
use lib.ListN.{length, take, drop}
use lib.Seq.{take-take}
use Rattle.rules.specs.Rows as rules
use Rattle.rules.specs.Rows.{Store, got, cell_at}
use Rattle.rules.specs.RowCheck.{AllPass}
use Rattle.rules.specs.Firings.{Tally, opened}
use Rattle.rules.specs.Refusals.{Limits}
use Rattle.course.specs.Views.{Cmp, up_to, over, cmp, number_view}
use Rattle.course.specs.Charged as course
use Rattle.course.specs.Charged.{and_on, join_in, replace_in, give_in, due_in}
use Rattle.substitution.specs.Stores.{scope_good, Ext}
use Rattle.substitution.specs.Passing.{pass_formed}
use Rattle.substitution.specs.Existence.{some_good}
use Rattle.safety.specs.Sane.{in_later}
use Rattle.ways.specs.Steps.{Step, out_step, fire_in_on, fire_in}
use Rattle.ways.specs.Spines.{args_of, args_later}
use Rattle.rows.specs.declared.Ptr.{Ptr}
use Rattle.rows.specs.Refusals.{Out}
use Rattle.rows.specs.Words.{ptr_of, store_of}
use Rattle.rows.specs.Writes.{Wrote}
use Rattle.rows.proofs.InTurn.{grown_on, done_held, done_are_rows}
use Rattle.replace.specs.declared.Sub.{Sub}
use Rattle.replace.specs.Replaced.{PtrReady, Replaced}
use Rattle.replace.proofs.Later.{held_room}
use Rattle.replace.proofs.Comes.{Came, came}
use Rattle.state.specs.declared.Given.{Given}
use Rattle.state.specs.declared.Meter.{Meter}
use Rattle.state.specs.State.{Answer}
use Rattle.state.specs.State.{metered_at, tally_of, limits_in, Headed, Left}
use Rattle.firing.specs.Fires.{Opens}
use Rattle.firing.proofs.Ends.{none_some, left_as}
use Rattle.std.specs.Prelude.{Err, Ok, Some}
use Rattle.rows.specs.Refusals.{number_of}
use Rattle.rows.specs.declared.refusals.Refusal.{Refusal}

-- ONE WRITE, AND THEN AN ANSWER

-- rows below the old mark stand through both
fewer : (xs ys : List ℕ) (a b : ℕ) → a ≤ b → take b xs ≡ take b ys → take a xs ≡ take a ys
fewer xs ys a b h e = sym (take-take a b xs h) ∙ ap (take a) e ∙ take-take a b ys h

module _ (l sc : List ℕ) (m : Meter) (p : Ptr) (mark : ℕ) (sc₁ : List ℕ) (out : course.Out) (first : Wrote l sc m.mark (Ok (p, mark)) sc₁ out) where
  pub left_after : {r : Answer} {sc₂ : List ℕ} {step : Step} (steps : ℕ) → Left l sc₁ (record { mark = mark; steps = steps }) r sc₂ step → Left l sc m r sc₂ step
  left_after {sc₂ = sc₂} steps k =
      let g = first.grown p mark refl in
      record {
        says = k.says;
        kept = fewer sc₂ sc₁ (9 * m.mark) (9 * mark) (let h = g.upward in omega arith) k.kept ∙ first.kept;
        same_length = k.same_length ∙ first.same_length;
        grown = λ m' q. grown_on sc sc₁ sc₂ m.mark mark m'.mark k.kept g (k.grown m' q);
      }

  -- the term, headed again in the grown store
  pub headed_after : (g : Given) (t : Ptr) (count : ℕ) (h : Headed l sc g m t count) → Ext (store_of l sc m.mark) (store_of l sc₁ mark) →
      AllPass h.used.declarations (store_of l sc₁ mark) →
      Headed l sc₁ g (record { mark = mark; steps = m.steps }) t count
  headed_after g t count h e a =
      let old = h.used in
      record {
        used = record {
          held = done_held l sc m.mark p mark sc₁ out first g.nlib old.held;
          words = (done_are_rows l sc m.mark p mark sc₁ out first g.nlib old.held (record { each = old.words })).each;
          declarations = old.declarations;
          pass = a;
        };
        scope = in_later e h.scope;
        small = h.small;
        counted = ap length (args_later (pass_formed old.pass) (pass_formed a) e (scope_good h.scope)) ∙ h.counted;
        metered = h.metered;
        budget = h.budget;
      }

-- REPLACEMENT FIRST

-- the step is there, and no number is written
opened_fires : (lim : Limits) (m : Tally) (b v : rules.Ptr) (k : ℕ) (xs : List rules.Ptr) → m.steps < lim.steps →
    out_step lim m.steps (and_on (replace_in lim.rows (some v) k (cell_at m.store b.row).height 0 m.store b) (λ g. join_in lim.rows g.store g.at xs)) ≡ fire_in lim m (opened b v k) xs
unfolding fire_in number_view due_in give_in
opened_fires lim m b v k xs h = go (cmp lim.steps m.steps)
  where
    go : (c : Cmp lim.steps m.steps) → out_step lim m.steps (due_in lim.rows m.store (opened b v k) xs) ≡ fire_in_on lim m (opened b v k) xs c (number_view (opened b v k))
    go (up_to l) = absurd (omega arith)
    go (over l) = refl

module _ (l sc : List ℕ) (g : Given) (m : Meter) (body value : Ptr) (by : ℕ) (t : Ptr) (count : ℕ)
    (h : Headed l sc g m t count) (o : Opens (store_of l sc m.mark) body value by) where
  abbrev x : Sub
  x = record { value = Some value; by = by }

  pub may_replace : PtrReady l sc g.nlib m.mark body 0 x
  may_replace =
      let old = h.used in
      let f = (old.pass.each body.row o.body_good.lower).fits.height in
      record {
        ready = record {
          sound = record { held = old.held; words = old.words; declarations = old.declarations; pass = old.pass };
          value = some_good o.value_good;
          value_shift = o.value_shift;
          move = o.move;
        };
        good = o.body_good;
        near = omega arith;
        shift = o.body_shift;
      }

  abbrev s : Store
  s = store_of l sc m.mark

  abbrev most : ℕ
  most = g.nlib + length sc / 9

  -- what replacement has due
  abbrev due : course.Out
  due = replace_in most (some (ptr_of value)) by (cell_at s body.row).height 0 s (ptr_of body)

  -- the firing, from what replacement comes to
  fires_from : m.steps < g.steps → (u : course.Out) → u ≡ due → (xs : List rules.Ptr) →
      out_step (limits_in g sc) m.steps (and_on u (λ q. join_in most q.store q.at xs)) ≡ fire_in (limits_in g sc) (tally_of l sc m) (opened (ptr_of body) (ptr_of value) by) xs
  fires_from n u e xs =
      ap (λ (y : course.Out). out_step (limits_in g sc) m.steps (and_on y (λ q. join_in most q.store q.at xs))) e ∙
      opened_fires (limits_in g sc) (tally_of l sc m) (ptr_of body) (ptr_of value) by xs n

  module _ (sc₁ : List ℕ) where
    -- what replacement promises, for whatever it answered
    abbrev Done : Out → Type 0
    Done r = Replaced l sc g.nlib m.mark body 0 x r sc₁

    written : {r : Out} → Done r → Wrote l sc m.mark r sc₁ due
    written done = done.wrote (cell_at s body.row).height (le_refl _)

    pub replace_stops : m.steps < g.steps → {k : Refusal} → Done (Err k) → (xs : List rules.Ptr) →
        Left l sc m (Err k) sc₁ (fire_in (limits_in g sc) (tally_of l sc m) (opened (ptr_of body) (ptr_of value) by) xs)
    replace_stops n {k} done xs =
        let w = written done in
        record {
          says = fires_from n (course.refused (number_of k)) w.says xs;
          kept = w.kept;
          same_length = w.same_length;
          grown = λ m' z. absurd (none_some z);
        }

    module _ {p : Ptr} {mark : ℕ} (done : Done (Ok (p, mark))) where
      wrote_first : Wrote l sc m.mark (Ok (p, mark)) sc₁ due
      wrote_first = written done

      came_to : Came h.used.declarations (some (ptr_of value)) by 0 s (ptr_of body) (got (store_of l sc₁ mark) (ptr_of p))
      came_to =
          came h.used.declarations (some (ptr_of value)) by 0 s (ptr_of body) most (cell_at s body.row).height h.used.pass o.body_good (some_good o.value_good)
          (held_room l sc m.mark g.nlib h.used.held) (le_refl _) wrote_first.says

      pub rest_headed : Headed l sc₁ g (metered_at m mark) t count
      rest_headed = headed_after l sc m p mark sc₁ due wrote_first g t count h came_to.more came_to.pass

      pub rest_below : p.row < g.nlib + mark
      rest_below = done.near.below p mark refl

      -- the arguments are those that t had, and as many rows may stand
      same_rest : (from : ℕ) →
          join_in (g.nlib + length sc₁ / 9) (store_of l sc₁ mark) (ptr_of p) (drop from (args_of (store_of l sc₁ mark) (ptr_of t))) ≡
          join_in most (store_of l sc₁ mark) (ptr_of p) (drop from (args_of s (ptr_of t)))
      same_rest from = λ i.
          join_in (g.nlib + wrote_first.same_length i / 9) (store_of l sc₁ mark) (ptr_of p)
          (drop from (args_later (pass_formed h.used.pass) (pass_formed came_to.pass) came_to.more (scope_good h.scope) i))

      pub rest_left : m.steps < g.steps → (from : ℕ) (a : Answer) (sc₂ : List ℕ) →
          Left l sc₁ (metered_at m mark) a sc₂
          (out_step (limits_in g sc₁) m.steps
          (join_in (g.nlib + length sc₁ / 9) (store_of l sc₁ mark) (ptr_of p) (drop from (args_of (store_of l sc₁ mark) (ptr_of t))))) →
          Left l sc m a sc₂
          (fire_in (limits_in g sc) (tally_of l sc m) (opened (ptr_of body) (ptr_of value) by) (drop from (args_of s (ptr_of t))))
      rest_left n from a sc₂ k =
          left_after l sc m p mark sc₁ due wrote_first m.steps
          (left_as
          (ap (out_step (limits_in g sc) m.steps) (same_rest from)
          ∙ fires_from n (course.wrote (got (store_of l sc₁ mark) (ptr_of p))) wrote_first.says (drop from (args_of s (ptr_of t)))) k)
