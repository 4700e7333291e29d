-- A quotient's firing: from the one row of an application to the arguments applied after it.
-- Assumes nothing.
use Prim.Native.Nat.{ℕ, ◌+◌, ◌/◌, ◌<◌}
use native.Mathlib.Omega.{arith}
use mathlib.Core.Path.{◌≡◌, refl, sym, ap, ◌∙◌}
use mathlib.Core.List.{List, ◌∷◌}
use lib.ListN.{length, drop}
use Rattle.rules.specs.Kinds.{app}
use Rattle.rules.specs.Rows as rules
use Rattle.rules.specs.Rows.{Store, got, node, blank}
use Rattle.rules.specs.Firings.{itself}
use Rattle.course.specs.Charged as course
use Rattle.course.specs.Charged.{and_on, put_in, join_in}
use Rattle.substitution.specs.Stores.{Good, scope_good}
use Rattle.substitution.specs.Passing.{pass_formed}
use Rattle.ways.specs.Steps.{out_step, fire_in}
use Rattle.ways.specs.Spines.{args_of, args_later}
use Rattle.ways.specs.Stages.{Stage, app_stage}
use Rattle.rows.specs.declared.Ptr.{Ptr}
use Rattle.rows.specs.Words.{ptr_of, store_of}
use Rattle.rows.specs.Writes.{Wrote}
use Rattle.rows.proofs.Store.{held_length}
use Rattle.rows.proofs.InTurn.{done_held}
use Rattle.state.specs.declared.Given.{Given}
use Rattle.state.specs.declared.Meter.{Meter}
use Rattle.state.specs.State.{Answer}
use Rattle.state.specs.State.{metered_at, tally_of, limits_in, Headed, Left}
use Rattle.firing.proofs.Ends.{none_some, left_as, itself_fires}
use Rattle.firing.proofs.Opening.{left_after, headed_after}
use Rattle.std.specs.Prelude.{Err, Ok}
use Rattle.rows.specs.Refusals.{number_of}
use Rattle.rows.specs.declared.refusals.Refusal.{Refusal}

-- the first argument is the first row, and the others follow on what it came to
first_then : (most : ℕ) (s : Store) (f a : rules.Ptr) (xs : List rules.Ptr) →
    and_on (put_in most s (node app f a blank)) (λ q. join_in most q.store q.at xs) ≡ join_in most s f (a ∷ xs)
unfolding join_in
first_then most s f a xs = refl

module _ (l sc : List ℕ) (g : Given) (m : Meter) (t : Ptr) (count : ℕ) (h : Headed l sc g m t count) where
  abbrev s : Store
  s = store_of l sc m.mark

  abbrev most : ℕ
  most = g.nlib + length sc / 9

  -- what stands in the store stands below the mark
  pub stands_below : {f : Ptr} → Good s (ptr_of f) → f.row < g.nlib + m.mark
  stands_below o =
      let many = held_length l sc m.mark g.nlib h.used.held in
      let low = o.lower in omega arith

  -- the row of f applied to a
  abbrev due : Ptr → Ptr → course.Out
  due f a = put_in most s (node app (ptr_of f) (ptr_of a) blank)

  -- the firing, from what that row comes to
  fires_from : m.steps < g.steps → (f a : Ptr) (u : course.Out) → u ≡ due f a → (xs : List rules.Ptr) →
      out_step (limits_in g sc) m.steps (and_on u (λ q. join_in most q.store q.at xs)) ≡ fire_in (limits_in g sc) (tally_of l sc m) (itself (ptr_of f)) (ptr_of a ∷ xs)
  fires_from n f a u e xs =
      ap (λ (y : course.Out). out_step (limits_in g sc) m.steps (and_on y (λ q. join_in most q.store q.at xs))) e
      ∙ ap (out_step (limits_in g sc) m.steps) (first_then most s (ptr_of f) (ptr_of a) xs)
      ∙ itself_fires (limits_in g sc) (tally_of l sc m) (ptr_of f) (ptr_of a ∷ xs) n

  module _ (f a : Ptr) {sc₁ : List ℕ} where
    pub first_stops : m.steps < g.steps → {k : Refusal} → Wrote l sc m.mark (Err k) sc₁ (due f a) → (xs : List rules.Ptr) →
        Left l sc m (Err k) sc₁ (fire_in (limits_in g sc) (tally_of l sc m) (itself (ptr_of f)) (ptr_of a ∷ xs))
    first_stops n {k} w xs = record {
      says = fires_from n f a (course.refused (number_of k)) w.says xs;
      kept = w.kept;
      same_length = w.same_length;
      grown = λ m' z. absurd (none_some z);
    }

    -- both stand, in whichever order they are applied
    module _ (f_good : Good s (ptr_of f)) (a_good : Good s (ptr_of a)) {p : Ptr} {mark : ℕ} (wrote_first : Wrote l sc m.mark (Ok (p, mark)) sc₁ (due f a)) where
      stage : Stage h.used.declarations s (got (store_of l sc₁ mark) (ptr_of p))
      stage = app_stage most h.used.pass f_good a_good (sym wrote_first.says)

      pub others_headed : Headed l sc₁ g (metered_at m mark) t count
      others_headed = headed_after l sc m p mark sc₁ (due f a) wrote_first g t count h stage.more stage.pass

      pub first_below : p.row < g.nlib + mark
      first_below =
          let many = held_length l sc₁ mark g.nlib (done_held l sc m.mark p mark sc₁ (due f a) wrote_first g.nlib h.used.held) in
          let low = stage.good.lower in omega arith

      -- the arguments are those that t had, and as many rows may stand
      same_others : (from : ℕ) →
          join_in (g.nlib + length sc₁ / 9) (store_of l sc₁ mark) (ptr_of p) (drop from (args_of (store_of l sc₁ mark) (ptr_of t))) ≡
          join_in most (store_of l sc₁ mark) (ptr_of p) (drop from (args_of s (ptr_of t)))
      same_others from = λ i.
          join_in (g.nlib + wrote_first.same_length i / 9) (store_of l sc₁ mark) (ptr_of p)
          (drop from (args_later (pass_formed h.used.pass) (pass_formed stage.pass) stage.more (scope_good h.scope) i))

      pub others_left : m.steps < g.steps → (from : ℕ) {z : Answer} {sc₂ : List ℕ} →
          Left l sc₁ (metered_at m mark) z sc₂
          (out_step (limits_in g sc₁) m.steps
          (join_in (g.nlib + length sc₁ / 9) (store_of l sc₁ mark) (ptr_of p) (drop from (args_of (store_of l sc₁ mark) (ptr_of t))))) →
          Left l sc m z sc₂
          (fire_in (limits_in g sc) (tally_of l sc m) (itself (ptr_of f)) (ptr_of a ∷ drop from (args_of s (ptr_of t))))
      others_left n from k =
          left_after l sc m p mark sc₁ (due f a) wrote_first m.steps
          (left_as
          (ap (out_step (limits_in g sc) m.steps) (same_others from)
          ∙ fires_from n f a (course.wrote (got (store_of l sc₁ mark) (ptr_of p))) wrote_first.says (drop from (args_of s (ptr_of t)))) k)
