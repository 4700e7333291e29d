-- What a firing writes and costs. No budget stands here: steps and rows are counted, and sizes (7, 8) are asked of what is written.
use Rattle.std.specs.Prelude.{ℕ, suc, ◌≤◌, ◌≡◌, List, [], ◌∷◌, ◌++◌}
use Rattle.std.proofs.Math.Option.{some}
use Rattle.rules.specs.Maxima.{most_number}
use Rattle.rules.specs.Kinds.{const, num}
use Rattle.rules.specs.Rows.{Ptr, leaf, Cell, Store, Got, got, put}
use Rattle.rules.specs.RowCheck.{Fits}
use Rattle.rules.specs.Replacement.{Replaces}
use Rattle.rules.specs.Spines.{joined}

-- the steps taken, and the rows as they stand
pub record Tally : Type 0 where
  pub steps : ℕ
  pub store : Store

abbrev pub tally : ℕ → Store → Tally
tally n s = record { steps = n; store = s }

-- what a rule gives, before the remaining arguments are applied: a value replaced into a body with a move k, a pointer
-- that stands already, a number, a constant
pub data Result : Type 0 where
  opened : (body value : Ptr) (k : ℕ) → Result
  itself : Ptr → Result
  a_number : ℕ → Result
  a_constant : (declaration : ℕ) → Result

-- its rows, and the pointer to it; "Constants written by a rule give 0 levels."
pub data Gives (s : Store) : Result → Got → Type 0 where
  by_replacement : {b v : Ptr} {k : ℕ} {g : Got} → Replaces (some v) k 0 s b g → Gives s (opened b v k) g
  no_row : {p : Ptr} {g : Got} → got s p ≡ g → Gives s (itself p) g
  number_row : {n : ℕ} {g : Got} → put s (leaf (num n)) ≡ g → Gives s (a_number n) g
  constant_row : {d : ℕ} {g : Got} → put s (leaf (const d 0)) ≡ g → Gives s (a_constant d) g

-- what is due: the result's rows, "then applies the remaining arguments, one row each"
pub record Due (s : Store) (r : Result) (xs : List Ptr) (g : Got) : Type 0 where
  pub result : Got
  pub gives : Gives s r result
  pub applied : joined result.store result.at xs ≡ g

-- a number that is written is at most 2^64 - 1
pub data NumberFits : Result → Type 0 where
  opened_fits : {b v : Ptr} {k : ℕ} → NumberFits (opened b v k)
  itself_fits : {p : Ptr} → NumberFits (itself p)
  number_fits : {n : ℕ} → n ≤ most_number → NumberFits (a_number n)
  constant_fits : {d : ℕ} → NumberFits (a_constant d)

pub data AllFit : List Cell → Type 0 where
  none_left : AllFit []
  and_then : {x : Cell} {xs : List Cell} → Fits x → AllFit xs → AllFit (x ∷ xs)

-- from s to s' rows were written, each within the sizes
pub record Written (s s' : Store) : Type 0 where
  pub new : List Cell
  pub after : s ++ new ≡ s'
  pub fit : AllFit new

-- "A rule that fires costs one step, then writes its rows"
pub record Pays (m : Tally) (r : Result) (xs : List Ptr) (m' : Tally) (t' : Ptr) : Type 0 where
  pub due : Got
  pub is_due : Due m.store r xs due
  pub number_fits : NumberFits r
  pub written : Written m.store due.store
  pub then_tally : tally (suc m.steps) due.store ≡ m'
  pub then_term : due.at ≡ t'
