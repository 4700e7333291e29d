-- Arithmetic on numbers as values: the seven operations.
-- "sub stops at 0; div by 0 is 0; mod by 0 is the dividend"; a number over 2^64 - 1 is refusal 7, and no rule passes it on.
use Rattle.std.specs.Prelude.{ℕ, zero, suc, ◌+◌, ◌*◌, ◌-◌, ◌/◌, ◌%◌, Bool, eqb, leb}

pub data Op : Type 0 where
  add sub mul div mod' beq ble : Op

-- a number's two words, low then high
abbrev pub words_value : ℕ → ℕ → ℕ
words_value low high = low + 4294967296 * high

abbrev pub quotient : ℕ → ℕ → ℕ
quotient x zero = 0
quotient x (suc y) = x / suc y

abbrev pub remainder : ℕ → ℕ → ℕ
remainder x zero = x
remainder x (suc y) = x % suc y

-- what comes out: a number, or yes or no
pub data Computed : Type 0 where
  number : ℕ → Computed
  truth : Bool → Computed

-- the subtraction of natural numbers stops at 0
unfoldable pub compute : Op → ℕ → ℕ → Computed
compute add x y = number (x + y)
compute sub x y = number (x - y)
compute mul x y = number (x * y)
compute div x y = number (quotient x y)
compute mod' x y = number (remainder x y)
compute beq x y = truth (eqb x y)
compute ble x y = truth (leb x y)
