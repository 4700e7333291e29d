-- The pieces' answers as outcomes. Assumes nothing: these are definitions.
use Rattle.std.specs.Prelude.{ℕ, Result, Err, Ok}
use Rattle.rows.specs.declared.refusals.Refusal.{Refusal}
use Rattle.rows.specs.Refusals.{number_of}
use Rattle.rows.specs.Words.{ptr_of}
use Rattle.state.specs.declared.Meter.{Meter}
use Rattle.typing.specs.Gives.{Outcome, gave, refused}
use Rattle.typing.specs.Pieces.{PiParts}
use Rattle.pieces.specs.declared.ReachedPi.{ReachedPi}

-- a sort's level or a pi, each with the meter after it; or the refusal
abbrev pub SortTo : Type 0
SortTo = Result (ℕ × Meter) Refusal

abbrev pub PiTo : Type 0
PiTo = Result (ReachedPi × Meter) Refusal

abbrev pub sort_outcome : SortTo → Outcome ℕ
sort_outcome (Ok (l, m)) = gave l m
sort_outcome (Err k) = refused (number_of k)

-- a pi by value, as the asks'
abbrev pub parts_of : ReachedPi → PiParts
parts_of a = record { type = ptr_of a.ty; body = ptr_of a.body; by = a.by }

abbrev pub pi_outcome : PiTo → Outcome PiParts
pi_outcome (Ok (a, m)) = gave (parts_of a) m
pi_outcome (Err k) = refused (number_of k)
