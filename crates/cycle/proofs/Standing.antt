-- What stands after a member of the cycle has answered: the next one is given all that the first was given, in the rows that are left.
-- Assumes what a member is given.
use Prim.Native.Nat.{ℕ, ◌+◌, ◌*◌, ◌/◌, ◌≤◌, ◌<◌}
use native.Mathlib.Nat.{le_refl}
use native.Mathlib.Omega.{arith}
use mathlib.Core.Path.{◌≡◌, refl, sym, ap, ◌∙◌, subst}
use mathlib.Core.List.{List}
use mathlib.Core.Option.{some}
use lib.ListN.{length, take}
use lib.Seq.{take-take}
use Rattle.rules.specs.Rows as rules
use Rattle.rules.specs.Rows.{Store, got}
use Rattle.rules.specs.RowCheck.{InScope}
use Rattle.rules.specs.Declarations.{Env}
use Rattle.rules.specs.Refusals.{Within}
use Rattle.course.specs.Tries.{Try}
use Rattle.course.specs.Charged as course
use Rattle.course.specs.Eval.{Ans, try, side_at, Res}
use Rattle.substitution.specs.Stores.{Ext, scope_good}
use Rattle.substitution.specs.Passing.{pass_formed}
use Rattle.safety.specs.Sane.{depth_of, decl_count, Sane, in_later}
use Rattle.safety.specs.Safe.{Safe}
use Rattle.safety.specs.Leaves.{LeavesTerm, LeavesRows, side_leaves, miss_leaves, fire_leaves, fire_steps}
use Rattle.ways.specs.Steps.{Step, step_of}
use Rattle.ways.specs.Spines.{args_later}
use Rattle.rows.specs.declared.Ptr.{Ptr}
use Rattle.rows.specs.Words.{ptr_of, store_of}
use Rattle.rows.specs.Writes.{Grown, Wrote}
use Rattle.rows.proofs.RefusalNumbers.{same_mark}
use Rattle.rows.proofs.Store.{held_length}
use Rattle.rows.proofs.InTurn.{grown_on, done_held, done_are_rows}
use Rattle.tables.specs.Records.{records_many}
use Rattle.tables.specs.Env.{env_of, decl_of, entry_of}
use Rattle.state.specs.declared.Given.{Given}
use Rattle.state.specs.declared.Meter.{Meter}
use Rattle.state.specs.State.{Answer}
use Rattle.state.specs.State.{Reduced}
use Rattle.state.specs.State.{tally_of, limits_in, meter_of, Headed, Left}
use Rattle.cycle.specs.Cycle.{Stand, Asked, Counted, Passed, Ran, res_by, meter_after}
use Rattle.cycle.specs.Course.{step_missed, step_fired}
use Rattle.std.specs.Prelude.{Ok}
use Rattle.state.specs.declared.Tried.TheVariants.{Term, Final}

-- THE ENVIRONMENT: as deep as the call says
pub depth_is : (ds rs cs : List ℕ) (depth : ℕ) → depth_of (env_of ds rs cs depth) ≡ depth
depth_is ds rs cs depth = records_many 5 cs entry_of 0 depth

pub declarations_are : (ds rs cs : List ℕ) (depth : ℕ) → decl_count (env_of ds rs cs depth) ≡ length ds / 16
declarations_are ds rs cs depth = records_many 16 ds (decl_of rs) 0 (length ds / 16)

-- WHAT HAS PASSED, in turn
fewer : (xs ys : List ℕ) (a b : ℕ) → a ≤ b → take b xs ≡ take b ys → take a xs ≡ take a ys
fewer xs ys a b h e = sym (take-take a b xs h) ∙ ap (take a) e ∙ take-take a b ys h

module _ {sc : List ℕ} {m : Meter} {sc₁ : List ℕ} {m₁ : Meter} (p : Passed sc m sc₁ m₁) where
  kept_on : (sc₂ : List ℕ) → take (9 * m₁.mark) sc₂ ≡ take (9 * m₁.mark) sc₁ → take (9 * m.mark) sc₂ ≡ take (9 * m.mark) sc
  kept_on sc₂ k = fewer sc₂ sc₁ (9 * m.mark) (9 * m₁.mark) (let h = p.grown.upward in omega arith) k ∙ p.kept

  -- a step from there on is a step from the start
  pub left_on : {l sc₂ : List ℕ} {r : Answer} {step : Step} → Left l sc₁ m₁ r sc₂ step → Left l sc m r sc₂ step
  left_on {sc₂ = sc₂} k = record {
    says = k.says;
    kept = kept_on sc₂ k.kept;
    same_length = k.same_length ∙ p.same_length;
    grown = λ m' q. grown_on sc sc₁ sc₂ m.mark m₁.mark m'.mark k.kept p.grown (k.grown m' q);
  }

  pub passed_on : {sc₂ : List ℕ} {m₂ : Meter} → Passed sc₁ m₁ sc₂ m₂ → Passed sc m sc₂ m₂
  passed_on {sc₂} {m₂} k = record {
    kept = kept_on sc₂ k.kept;
    same_length = k.same_length ∙ p.same_length;
    grown = grown_on sc sc₁ sc₂ m.mark m₁.mark m₂.mark k.kept p.grown k.grown;
  }

-- nothing written
pub nothing_passed : (sc : List ℕ) (m : Meter) → 9 * m.mark ≤ length sc → Passed sc m sc m
nothing_passed sc m room = record {
  kept = refl;
  same_length = refl;
  grown = record { upward = le_refl _; room = room; past = refl; rows = λ i low high. absurd (omega arith) };
}

pub left_passed : {l sc sc₁ : List ℕ} {m m₁ : Meter} {r : Answer} {step : Step} → Left l sc m r sc₁ step → meter_of r ≡ some m₁ → Passed sc m sc₁ m₁
left_passed k q = record { kept = k.kept; same_length = k.same_length; grown = k.grown _ q }

pub ran_passed : {l sc sc₁ : List ℕ} {m m₁ : Meter} {r : Reduced} {res : Res} → Ran l sc m r sc₁ res → meter_after r ≡ some m₁ → Passed sc m sc₁ m₁
ran_passed k q = record { kept = k.kept; same_length = k.same_length; grown = k.grown _ q }

-- the limits are those of the start
pub limits_on : {sc sc₁ : List ℕ} {m m₁ : Meter} (g : Given) → Passed sc m sc₁ m₁ → limits_in g sc₁ ≡ limits_in g sc
limits_on g p = ap (λ (n : ℕ). record { steps = g.steps; rows = g.nlib + n / 9 }) p.same_length

-- a write with this answer, as the rows' laws take it
as_wrote : (l : List ℕ) {sc sc₁ : List ℕ} {m m₁ : Meter} (q : Ptr) → Passed sc m sc₁ m₁ →
    Wrote l sc m.mark (Ok (q, m₁.mark)) sc₁ (course.wrote (got (store_of l sc₁ m₁.mark) (ptr_of q)))
as_wrote l {sc} {sc₁} {m} {m₁} q p = record {
  says = refl;
  kept = p.kept;
  same_length = p.same_length;
  grown = λ q' m' e. subst (Grown sc m.mark sc₁) (same_mark e) p.grown;
}

-- WHAT STANDS
module _ {l ds rs cs sc : List ℕ} {g : Given} {m : Meter} (s : Stand l ds rs cs sc g m) where
  abbrev Here : Env
  Here = env_of ds rs cs g.depth

  pub stand_within : Within (limits_in g sc) (tally_of l sc m)
  stand_within = record { steps = s.metered; rows = let n = held_length l sc m.mark g.nlib s.held in let h = s.held.room in omega arith }

  pub stand_on : {sc₁ : List ℕ} {m₁ : Meter} → Passed sc m sc₁ m₁ → Sane Here (store_of l sc₁ m₁.mark) → m₁.steps ≤ g.steps → Stand l ds rs cs sc₁ g m₁
  stand_on {sc₁} {m₁} p sane steps =
      let nowhere : Ptr = record { row = 0; shift = 0 } in
      let w = as_wrote l nowhere p in
      record {
        held = done_held l sc m.mark nowhere m₁.mark sc₁ _ w g.nlib s.held;
        words = (done_are_rows l sc m.mark nowhere m₁.mark sc₁ _ w g.nlib s.held (record { each = s.words })).each;
        sane = sane;
        tabled = s.tabled;
        small = s.small;
        metered = steps;
        budget = s.budget;
      }

  -- a term in scope stays in scope, with the arguments that it had
  pub asked_on : {sc₁ : List ℕ} {m₁ : Meter} {t : Ptr} → Stand l ds rs cs sc₁ g m₁ → Ext (store_of l sc m.mark) (store_of l sc₁ m₁.mark) →
      InScope (store_of l sc m.mark) g.depth (ptr_of t) → Asked l ds rs cs sc₁ g m₁ t
  asked_on s₁ more i = record { stand = s₁; scope = in_later more i }

  pub counted_on : {sc₁ : List ℕ} {m₁ : Meter} {t : Ptr} {count : ℕ} → Stand l ds rs cs sc₁ g m₁ → Ext (store_of l sc m.mark) (store_of l sc₁ m₁.mark) →
      Counted l ds rs cs sc g m t count → Counted l ds rs cs sc₁ g m₁ t count
  counted_on s₁ more c = record {
    asked = asked_on s₁ more c.asked.scope;
    counted =
        ap length (args_later (pass_formed s.sane.pass) (pass_formed s₁.sane.pass) more (scope_good c.asked.scope))
        ∙ c.counted;
  }

  in_depth : {st : Store} {p : rules.Ptr} → InScope st (depth_of Here) p → InScope st g.depth p
  in_depth {st} {p} = subst (λ (d : ℕ). InScope st d p) (depth_is ds rs cs g.depth)

  pub to_depth : {st : Store} {p : rules.Ptr} → InScope st g.depth p → InScope st (depth_of Here) p
  to_depth {st} {p} = subst (λ (d : ℕ). InScope st d p) (sym (depth_is ds rs cs g.depth))

  -- after an answer with a term: that term may be asked for next
  pub record Next (sc₁ : List ℕ) (m₁ : Meter) (q : Ptr) : Type 0 where
    pub asked : Asked l ds rs cs sc₁ g m₁ q
    pub more : Ext (store_of l sc m.mark) (store_of l sc₁ m₁.mark)

  next_of : {sc₁ : List ℕ} {m₁ : Meter} {q : Ptr} → Passed sc m sc₁ m₁ → LeavesTerm Here (limits_in g sc) (tally_of l sc m) (tally_of l sc₁ m₁) (ptr_of q) → Next sc₁ m₁ q
  next_of p k = record {
    asked = record { stand = stand_on p k.leaves.sane k.within.steps; scope = in_depth k.leaves.term };
    more = k.leaves.more;
  }

  pub after_side : {sc₁ : List ℕ} {m₁ : Meter} {p q : Ptr} (n : ℕ) → InScope (store_of l sc m.mark) g.depth (ptr_of p) →
      Ran l sc m (Ok (q, m₁)) sc₁ (res_by l ds rs cs sc g m n (ptr_of p)) → Next sc₁ m₁ q
  after_side n i r = next_of (ran_passed r refl) (side_leaves Here (limits_in g sc) n stand_within s.sane (to_depth i) (sym r.says))

  module _ (n : ℕ) {y : Try} (safe : Safe (decl_count Here) (depth_of Here) (store_of l sc m.mark) y) where
    abbrev answer : Ans
    answer = try (limits_in g sc) (side_at Here (limits_in g sc) n) y (tally_of l sc m)

    -- after no rule: the next is tried in the rows that are left
    pub after_miss : {sc₁ : List ℕ} {m₁ : Meter} → Left l sc m (Ok (Final m₁)) sc₁ (step_of (limits_in g sc) answer) →
        LeavesRows Here (limits_in g sc) (tally_of l sc m) (tally_of l sc₁ m₁)
    after_miss k = miss_leaves Here (limits_in g sc) n stand_within s.sane safe (step_missed (limits_in g sc) answer (sym k.says))

    pub stand_after_miss : {sc₁ : List ℕ} {m₁ : Meter} → Left l sc m (Ok (Final m₁)) sc₁ (step_of (limits_in g sc) answer) → Stand l ds rs cs sc₁ g m₁
    stand_after_miss k = let h = after_miss k in stand_on (left_passed k refl) h.sane h.within.steps

    -- after a firing: its term is asked for, and a step was taken
    pub after_fire : {sc₁ : List ℕ} {m₁ : Meter} {q : Ptr} → Left l sc m (Ok (Term q m₁)) sc₁ (step_of (limits_in g sc) answer) → Next sc₁ m₁ q
    after_fire k =
        let f = step_fired (limits_in g sc) answer (sym k.says) in
        next_of (left_passed k refl) (fire_leaves Here (limits_in g sc) n stand_within s.sane safe f.answer f.paid)

    pub step_taken : {sc₁ : List ℕ} {m₁ : Meter} {q : Ptr} → Left l sc m (Ok (Term q m₁)) sc₁ (step_of (limits_in g sc) answer) → m.steps < m₁.steps
    step_taken k =
        let f = step_fired (limits_in g sc) answer (sym k.says) in
        fire_steps Here (limits_in g sc) n stand_within s.sane safe f.answer f.paid

-- for the firings: what they are given
pub headed_of : {l ds rs cs sc : List ℕ} {g : Given} {m : Meter} {t : Ptr} {count : ℕ} → Counted l ds rs cs sc g m t count → Headed l sc g m t count
headed_of c =
    let s = c.asked.stand in
    record {
      used = record { held = s.held; words = s.words; declarations = _; pass = s.sane.pass };
      scope = c.asked.scope;
      small = s.small;
      counted = c.counted;
      metered = s.metered;
      budget = s.budget;
    }
