-- What it means that a final term, reduced again, answers itself: from the store that the first run left no rule fires at level 0, and no more steps
-- are taken and no more rows written than the first run took and wrote. It is shown in proofs/Again.antt.
use Rattle.std.specs.Prelude.{ℕ, ◌+◌, ◌-◌, ◌≤◌, ◌≡◌, Bool, true, false, List, [], length, ltb}
use Rattle.rules.specs.Rows.{Ptr, Store}
use Rattle.rules.specs.Declarations.{Env}
use Rattle.rules.specs.Spines.{Spine}
use Rattle.rules.specs.Firings.{Tally, tally}
use Rattle.rules.specs.HeadRules.{Reduces, Stuck}
use Rattle.rules.specs.HeadRules as H
use Rattle.rules.specs.Refusals.{Limits, Within, Answered}
use Rattle.course.specs.Tries.{rules, missed, Comes}
use Rattle.course.specs.Eval.{ok, eval}

-- OLD ROWS STAY, NEW ONES MOVE PAST THE END

abbrev move_on : Bool → ℕ → ℕ → ℕ
move_on true k r = r
move_on false k r = r + k

-- the rows from n on are moved up by k
unfoldable pub moved : ℕ → ℕ → ℕ → ℕ
moved n k r = move_on (ltb r n) k r

-- REDUCED AGAIN

-- against the first run, from s to m: no more steps, and no more rows written. Not none: side reductions that led to no rule are made once more.
pub record NoDearer (s : Store) (m to : Tally) : Type 0 where
  pub steps : to.steps ≤ m.steps
  pub rows : length to.store - length m.store ≤ length m.store - length s

-- the second run, from the store that the first left, is one try that is missed
pub record Again (e : Env) (d : ℕ) (s : Store) (m : Tally) (t : Ptr) : Type 0 where
  pub to : Tally
  pub head : Ptr
  pub arguments : List Ptr
  pub spine : Spine m.store t [] head arguments
  pub comes : Comes e d (tally 0 m.store) (rules e m.store head arguments) to missed
  pub cost : NoDearer s m to

-- WITHIN THE LIMITS: the same steps, and as many free rows as the first call had

unfoldable pub room_again : Limits → Store → Store → Limits
room_again lim s s' = record { steps = lim.steps; rows = length s' + (lim.rows - length s) }

-- THE RULES: no rule fires at level 0

pub record AnsweredAgain (e : Env) (lim : Limits) (n : ℕ) (s : Store) (m : Tally) (t : Ptr) : Type 0 where
  pub to : Tally
  pub stuck : Stuck e n (tally 0 m.store) t to
  pub within : Within (room_again lim s m.store) to
  pub cost : NoDearer s m to

-- so the rules' answer to it is the pointer it had
pub answered_again : {e : Env} {lim : Limits} {n : ℕ} {s : Store} {m : Tally} {t : Ptr} (a : AnsweredAgain e lim n s m t) →
    Answered e (room_again lim s m.store) n m.store t t a.to.steps a.to.store
answered_again a = record { reduces = H.final a.stuck; within = a.within }

-- THE EVALUATOR

pub record EvalAgain (e : Env) (lim : Limits) (n : ℕ) (s : Store) (m : Tally) (t : Ptr) : Type 0 where
  pub to : Tally
  pub evals : eval e (room_again lim s m.store) n m.store t ≡ ok to t
  pub cost : NoDearer s m to
