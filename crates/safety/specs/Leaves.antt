-- What an answer of the evaluator leaves, for the code that goes on from it: the store has grown, is sane and within the limits, and its term is in scope.
-- Of a side reduction, of a try that misses and of a firing that is paid. Assumes a sane store within the limits, a term in scope or a safe try.
use Rattle.std.specs.Prelude.{ℕ, ◌<◌, ◌≡◌, List}
use Rattle.std.proofs.Common.{arith, ap, subst}
use Rattle.rules.specs.Rows.{Ptr}
use Rattle.rules.specs.RowCheck.{InScope}
use Rattle.rules.specs.Declarations.{Env}
use Rattle.rules.specs.Firings.{Tally, Result, Pays}
use Rattle.rules.specs.Refusals.{Limits, Within}
use Rattle.course.specs.Tries.{Try, firing, Comes}
use Rattle.course.specs.Eval.{ok, try, fire, side_at}
use Rattle.course.specs.Eval as E
use Rattle.substitution.specs.Stores.{Ext, ext_then}
use Rattle.promises.specs.Stores.{Later, later_trans, later_comes, later_pays, later_runs}
use Rattle.promises.specs.Says.{SideSays, a_level_left, r_ok, AnsSays, a_missed, a_firing, PaySays, p_paid, side_says, try_says, fire_says}
use Rattle.safety.specs.Sane.{depth_of, decl_count, Sane}
use Rattle.safety.specs.Safe.{Safe}
use Rattle.safety.specs.Keeps.{Leaves, pays_keep, runs_keep, comes_keep}

module _ (e : Env) (lim : Limits) where
  -- a term that code may go on from
  pub record LeavesTerm (m m' : Tally) (t : Ptr) : Type 0 where
    pub leaves : Leaves e m.store m'.store t
    pub within : Within lim m'
    pub later : Later m m'

  -- no rule so far: the next may be tried
  pub record LeavesRows (m m' : Tally) : Type 0 where
    pub more : Ext m.store m'.store
    pub sane : Sane e m'.store
    pub within : Within lim m'
    pub later : Later m m'

  module _ (d : ℕ) {m : Tally} (within : Within lim m) (sane : Sane e m.store) where
    -- A SIDE REDUCTION
    pub side_leaves : {m' : Tally} {p q : Ptr} → InScope m.store (depth_of e) p → side_at e lim d m p ≡ ok m' q → LeavesTerm m m' q
    side_leaves {m'} {p} {q} i answer = on (subst (SideSays e lim m p d) answer (side_says e lim d m p within))
      where
        on : {d : ℕ} → SideSays e lim m p d (ok m' q) → LeavesTerm m m' q
        on (a_level_left (r_ok r w)) = record { leaves = runs_keep r sane i; within = w; later = later_runs e r }

    -- TRYING
    module _ {y : Try} (safe : Safe (decl_count e) (depth_of e) m.store y) where
      pub miss_leaves : {m' : Tally} → try lim (side_at e lim d) y m ≡ E.missed m' → LeavesRows m m'
      miss_leaves {m'} answer = on (subst (AnsSays e lim d m y) answer (try_says e lim d (side_at e lim d) (side_says e lim d) y m within))
        where
          on : AnsSays e lim d m y (E.missed m') → LeavesRows m m'
          on (a_missed c w) = let k = comes_keep c sane safe in record { more = k.more; sane = k.sane; within = w; later = later_comes e c }

      module _ {m₁ m' : Tally} {r : Result} {xs : List Ptr} {t : Ptr} (answer : try lim (side_at e lim d) y m ≡ E.firing m₁ r xs) (paid : fire lim m₁ r xs ≡ ok m' t) where
        -- the course of a paid firing
        record PaidCourse : Type 0 where
          comes : Comes e d m y m₁ (firing r xs)
          pays : Pays m₁ r xs m' t
          stays : Within lim m'

        course : PaidCourse
        course = on (subst (AnsSays e lim d m y) answer (try_says e lim d (side_at e lim d) (side_says e lim d) y m within))
          where
            pay : Comes e d m y m₁ (firing r xs) → PaySays lim m₁ r xs (ok m' t) → PaidCourse
            pay c (p_paid p w) = record { comes = c; pays = p; stays = w }

            on : AnsSays e lim d m y (E.firing m₁ r xs) → PaidCourse
            on (a_firing c w) = pay c (subst (PaySays lim m₁ r xs) paid (fire_says lim m₁ r xs w))

        pub fire_leaves : LeavesTerm m m' t
        fire_leaves =
            let k = comes_keep course.comes sane safe in
            let q = pays_keep k.sane k.end course.pays in
            record {
              leaves = record { more = ext_then k.more q.more; sane = q.sane; term = q.term };
              within = course.stays;
              later = later_trans (later_comes e course.comes) (later_pays course.pays);
            }

        -- it takes a step, so the loop over firings ends
        pub fire_steps : m.steps < m'.steps
        fire_steps = omega (arith, (later_comes e course.comes).steps, ap (λ (n : Tally). n.steps) course.pays.then_tally)
