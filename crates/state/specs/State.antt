-- The state of a reduction as the code carries it, in the terms of the rules: what every function is given, what an answer means, what a call leaves.
-- Assumes nothing: these are definitions.
use Rattle.std.specs.Prelude.{ℕ, ◌+◌, ◌*◌, ◌/◌, ◌≤◌, ◌<◌, ◌≡◌, List, length, take, Result, Ok, Err}
use Rattle.std.proofs.Math.Option.{Option, none, some}
use Rattle.rules.specs.Maxima.{most_bound, most_steps}
use Rattle.rules.specs.RowCheck.{AllPass, InScope}
use Rattle.rules.specs.Accepted.{IsRow}
use Rattle.rules.specs.Firings.{Tally, tally}
use Rattle.rules.specs.Refusals.{Limits}
use Rattle.ways.specs.Steps.{Step, fired, final, stopped}
use Rattle.ways.specs.Spines.{args_of}
use Rattle.rows.specs.declared.Ptr.{Ptr}
use Rattle.rows.specs.Words.{ptr_of, decode, words_at, store_of, Held}
use Rattle.rows.specs.Writes.{Grown}
use Rattle.state.specs.declared.Given.{Given}
use Rattle.state.specs.declared.Meter.{Meter}
use Rattle.state.specs.declared.Tried.{Tried}
use Rattle.state.specs.declared.Tried.TheVariants.{Term, Final}
use Rattle.rows.specs.declared.refusals.Refusal.{Refusal}
use Rattle.rows.specs.Refusals.{number_of}

-- WHAT THE CODE'S VALUES MEAN

-- steps and rows used, by the meter
abbrev pub tally_of : List ℕ → List ℕ → Meter → Tally
tally_of l sc m = tally m.steps (store_of l sc m.mark)

abbrev pub limits_in : Given → List ℕ → Limits
limits_in g sc = record { steps = g.steps; rows = g.nlib + length sc / 9 }

-- the same steps with another mark, and one step more
abbrev pub metered_at : Meter → ℕ → Meter
metered_at m mark = record { mark = mark; steps = m.steps }

abbrev pub one_step : Meter → ℕ → Meter
one_step m mark = record { mark = mark; steps = m.steps + 1 }

-- the answer of a try, and of a reduction
abbrev pub Answer : Type 0
Answer = Result Tried Refusal

abbrev pub Reduced : Type 0
Reduced = Result (Ptr × Meter) Refusal

-- "an enum of term, final or refusal": a firing's term, no rule, the document's number
abbrev pub step_as : Answer → List ℕ → List ℕ → Step
step_as (Ok (Term p m)) l sc = fired (tally_of l sc m) (ptr_of p)
step_as (Ok (Final m)) l sc = final (tally_of l sc m)
step_as (Err k) l sc = stopped (number_of k)

abbrev pub meter_of : Answer → Option Meter
meter_of (Ok (Term p m)) = some m
meter_of (Ok (Final m)) = some m
meter_of (Err k) = none

-- WHAT IS GIVEN

-- the rows in use are nine words as the rules have them, and pass the row check
pub record Used (l sc : List ℕ) (nlib m : ℕ) : Type 0 where
  pub held : Held l sc m nlib
  pub words : (n : ℕ) → n < nlib + m → IsRow (words_at l sc n) (decode (words_at l sc n))
  pub declarations : ℕ
  pub pass : AllPass declarations (store_of l sc m)

-- a term in scope, whose spine has `count` arguments; steps are within the budget
pub record Headed (l sc : List ℕ) (g : Given) (m : Meter) (t : Ptr) (count : ℕ) : Type 0 where
  pub used : Used l sc g.nlib m.mark
  pub scope : InScope (store_of l sc m.mark) g.depth (ptr_of t)
  pub small : g.depth ≤ most_bound
  pub counted : length (args_of (store_of l sc m.mark) (ptr_of t)) ≡ count
  pub metered : m.steps ≤ g.steps
  pub budget : g.steps ≤ most_steps

-- WHAT IS LEFT

-- the answer is this step; rows below the old mark stand, and on a term or final the new ones do too
pub record Left (l sc : List ℕ) (m : Meter) (r : Answer) (sc' : List ℕ) (step : Step) : Type 0 where
  pub says : step_as r l sc' ≡ step
  pub kept : take (9 * m.mark) sc' ≡ take (9 * m.mark) sc
  pub same_length : length sc' ≡ length sc
  pub grown : (m' : Meter) → meter_of r ≡ some m' → Grown sc m.mark sc' m'.mark
