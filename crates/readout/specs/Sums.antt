-- The sum of a list of words. Assumes nothing: these are definitions.
use Rattle.std.specs.Prelude.{ℕ, ◌+◌, ◌*◌, ◌%◌, List, fold}

-- "for each word w take (31 h + w) mod 2^32"
abbrev pub sum_from : ℕ → List ℕ → ℕ
sum_from h ws = fold (λ h w. (31 * h + w) % 0x1_0000_0000) h ws

-- "start with 1"
abbrev pub sum_of : List ℕ → ℕ
sum_of ws = sum_from 1 ws
