-- The call `whnf` as a whole: what it answers, and what it leaves in the words that it was lent.
use Rattle.std.specs.Prelude.{ℕ, ◌+◌, ◌*◌, ◌-◌, ◌/◌, ◌≡◌, List, ◌++◌, length, take, drop, replicate}
use Rattle.rules.specs.Rows.{Ptr, Cell, Store}
use Rattle.rules.specs.Declarations.{Env, nth}
use Rattle.rules.specs.Accepted.{Lent, IsRow, part, library_rows, Accepted, NotAccepted}
use Rattle.rules.specs.Refusals.{Limits, Refused, Answered}
use Rattle.std.proofs.Math.Option.{some}

-- a term with its steps and rows, or one numbered refusal with its place
pub data Answer : Type 0 where
  term : (t : Ptr) (steps rows : ℕ) → Answer
  refused : (number place : ℕ) → Answer

-- the mark, the scratch and the context after the call
pub record Left : Type 0 where
  pub mark : ℕ
  pub scratch : List ℕ
  pub context : List ℕ

-- rows are free from the mark to the end of the scratch
abbrev pub limits_of : Lent → Limits
limits_of w = record { steps = w.steps; rows = library_rows w + length w.scratch / 9 }

-- 1 to 3 write nothing
pub record Untouched (w : Lent) (l : Left) : Type 0 where
  pub mark : l.mark ≡ w.mark
  pub scratch : l.scratch ≡ w.scratch
  pub context : l.context ≡ w.context

-- "After 4 to 11 the used mark is the old one and scratch words from it to the end are 0."
pub record Zeroed (w : Lent) (l : Left) : Type 0 where
  pub mark : l.mark ≡ w.mark
  pub scratch : l.scratch ≡ take (9 * w.mark) w.scratch ++ replicate (length w.scratch - 9 * w.mark) 0
  pub context : l.context ≡ w.context

-- on a term: the mark moves on over the new rows, which stand there; "words past the new mark are untouched"; "reduction writes no record"
pub record Grown (w : Lent) (s s' : Store) (l : Left) : Type 0 where
  pub mark : l.mark ≡ w.mark + (length s' - length s)
  pub kept : take (9 * w.mark) l.scratch ≡ take (9 * w.mark) w.scratch
  pub rows : (i : ℕ) (x : Cell) → nth s' (length s + i) ≡ some x → IsRow (part 9 l.scratch (w.mark + i)) x
  pub past : drop (9 * l.mark) l.scratch ≡ drop (9 * l.mark) w.scratch
  pub context : l.context ≡ w.context

pub data Whnf (w : Lent) : Answer → Left → Type 0 where
  not_accepted : {number place : ℕ} {l : Left} → NotAccepted w number place → Untouched w l → Whnf w (refused number place) l
  refuses : {e : Env} {s : Store} {number : ℕ} {l : Left} → Accepted w e s →
      Refused e (limits_of w) w.nesting s w.term number → Zeroed w l → Whnf w (refused number 0) l
  answers : {e : Env} {s s' : Store} {t : Ptr} {steps rows : ℕ} {l : Left} → Accepted w e s →
      Answered e (limits_of w) w.nesting s w.term t steps s' → length s' - length s ≡ rows → Grown w s s' l → Whnf w (term t steps rows) l
