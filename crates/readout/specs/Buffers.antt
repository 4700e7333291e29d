-- A buffer that is written from its front. Assumes nothing: these are definitions.
use Rattle.std.specs.Prelude.{ℕ, ◌+◌, ◌≤◌, ◌<◌, ◌≡◌, Option, Some, None, List, ◌++◌, length, take}
use Rattle.io.specs.Digits.{last_digits, IsDigitCount}

-- the bytes stand behind the first `at` bytes, which are as before; or they have no room, and of the buffer nothing is said
abbrev pub Wrote : List ℕ → ℕ → List ℕ → List ℕ → Option ℕ → Type 0
Wrote before at bytes after (Some n) = (n ≡ at + length bytes) × (n ≤ length before) × (take n after ≡ take at before ++ bytes)
Wrote before at bytes after None = length before < at + length bytes

-- the same for a number's decimal digits
abbrev pub WroteNumber : List ℕ → ℕ → ℕ → List ℕ → Option ℕ → Type 0
WroteNumber before at number after r = (k : ℕ) × IsDigitCount 10 1 number k × Wrote before at (last_digits 10 k number) after r
