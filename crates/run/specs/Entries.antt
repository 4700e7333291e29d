-- A line that a call answers, as far as it is put together. Assumes nothing: these are definitions.
use Rattle.std.specs.Prelude.{ℕ, ◌+◌, ◌<◌, ◌⊎◌, Option, Some, None, List, ◌++◌, length}
use Rattle.io.specs.Digits.{last_digits, IsDigitCount}
use Rattle.readout.specs.Buffers.{Wrote}

-- the name, and the number in decimal, stand behind the first `at` bytes, which are as before; or the name has no room, or both have none
abbrev pub Entered : List ℕ → ℕ → List ℕ → ℕ → List ℕ → Option ℕ → Type 0
Entered before at name number after (Some n) =
    (k : ℕ) × IsDigitCount 10 1 number k × Wrote before at (name ++ last_digits 10 k number) after (Some n)
Entered before at name number after None =
    (length before < at + length name)
    ⊎ ((k : ℕ) × IsDigitCount 10 1 number k × Wrote before at (name ++ last_digits 10 k number) after None)
