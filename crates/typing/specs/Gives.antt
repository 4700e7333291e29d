-- What the functions of inference promise: a piece gives a value for whatever is asked next, or a refusal; a form answers its type.
-- Assumes nothing: these are definitions.
use Rattle.std.specs.Prelude.{ℕ, ◌≡◌, List}
use Rattle.rules.specs.Rows as rules
use Rattle.rules.specs.Rows.{Store}
use Rattle.rules.specs.RowCheck.{InScope}
use Rattle.course.specs.Eval.{Res, ok, no}
use Rattle.inferring.specs.Asks.{Ask}
use Rattle.rows.specs.Words.{ptr_of}
use Rattle.state.specs.declared.Meter.{Meter}
use Rattle.state.specs.State.{Reduced, tally_of}
use Rattle.typing.specs.Here.{Here, later, depth_at, store_at, res_at, Keeps, After}
use Rattle.std.specs.Prelude.{Err, Ok}
use Rattle.rows.specs.Refusals.{number_of}

-- a value with the meter after it, or the refusal's number
pub data Outcome (A : Type 0) : Type 0 where
  gave : A → Meter → Outcome A
  refused : ℕ → Outcome A

abbrev pub outcome_of : Reduced → Outcome rules.Ptr
outcome_of (Ok (p, m)) = gave (ptr_of p) m
outcome_of (Err k) = refused (number_of k)

-- what follows an outcome, when the words are cs and sc
abbrev pub then_on : {A : Type 0} → ℕ → Here → (cs sc : List ℕ) → (Store → A → Ask) → Outcome A → Res
then_on n h cs sc next (gave a m) = res_at n (later h cs sc m) (next (store_at (later h cs sc m)) a)
then_on n h cs sc next (refused k) = no k

-- the value may be used from here on
pub record Value {A : Type 0} (In : Store → A → Type 0) (h : Here) (cs sc : List ℕ) (a : A) (m : Meter) : Type 0 where
  pub after : After h cs sc m
  pub fits : In (store_at (later h cs sc m)) a

-- A PIECE: whatever is asked next, the ask comes to what follows the outcome
pub record Gives {A : Type 0} (In : Store → A → Type 0) (n : ℕ) (h : Here) (Y : (Store → A → Ask) → Ask) (o : Outcome A) (cs sc : List ℕ) : Type 0 where
  pub says : (next : Store → A → Ask) → res_at n h (Y next) ≡ then_on n h cs sc next o
  pub keeps : Keeps h cs sc
  pub value : (a : A) (m : Meter) → o ≡ gave a m → Value In h cs sc a m

-- in scope at the depth d
abbrev pub InAt : ℕ → Store → rules.Ptr → Type 0
InAt d s p = InScope s d p

-- a pointer in scope where the caller stands
abbrev pub GivesPtr : ℕ → Here → ((Store → rules.Ptr → Ask) → Ask) → Reduced → (cs sc : List ℕ) → Type 0
GivesPtr n h Y r cs sc = Gives (InAt (depth_at h)) n h Y (outcome_of r) cs sc

-- A FORM: the ask's own answer
abbrev pub res_by : (library scratch : List ℕ) → Outcome rules.Ptr → Res
res_by l sc (gave p m) = ok (tally_of l sc m) p
res_by l sc (refused k) = no k

pub record Infers (n : ℕ) (h : Here) (y : Ask) (r : Reduced) (cs sc : List ℕ) : Type 0 where
  pub says : res_by h.library sc (outcome_of r) ≡ res_at n h y
  pub keeps : Keeps h cs sc
  pub value : (p : rules.Ptr) (m : Meter) → outcome_of r ≡ gave p m → Value (InAt (depth_at h)) h cs sc p m
