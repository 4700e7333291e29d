-- The document's numbers of the refusals. Assumes nothing: these are definitions.
use Rattle.std.specs.Prelude.{ℕ, Result}
use Rattle.rows.specs.declared.Ptr.{Ptr}
use Rattle.rows.specs.declared.refusals.Refusal.{Refusal}
use Rattle.rows.specs.declared.refusals.Refused.{Refused}
use Rattle.rows.specs.declared.refusals.Refusal.TheVariants.{Sizes, Row, Table, NoStep, NoFreeRow, NoLevel, TooLarge, NoSize, NoType, SortLevel, NoRecord}

abbrev pub number_of : Refusal → ℕ
number_of Sizes = 1
number_of Row = 2
number_of Table = 3
number_of NoStep = 4
number_of NoFreeRow = 5
number_of NoLevel = 6
number_of TooLarge = 7
number_of NoSize = 8
number_of NoType = 9
number_of SortLevel = 10
number_of NoRecord = 11

abbrev pub refused_at : Refusal → ℕ → Refused
refused_at k place = record { refusal = k; place = place }

-- the answer of whatever writes rows: a pointer and the new mark, or the refusal
abbrev pub Out : Type 0
Out = Result (Ptr × ℕ) Refusal
