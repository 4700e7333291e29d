-- The contracts of `arith` fix their results: an outcome is known from its meaning, and two words and their value from each other.
-- Assumes nothing.
use mathlib.Core.Path.{◌≡◌, refl, ap}
use Prim.Native.Nat.{ℕ, ◌^◌, ◌<◌}
use native.Mathlib.Omega.{arith}
use Rattle.std.specs.Prelude.{Ok, Err}
use Rattle.arith.specs.declared.Number as numbers
use Rattle.arith.specs.declared.Value.TheVariants.{Number, Truth}
use Rattle.arith.specs.Meaning.{Outcome, value_of, words_of, meaning}

pub same_words : (n m : numbers.Number) → n.low ≡ m.low → n.high ≡ m.high → n ≡ m
same_words n m low high = λ i. record { low = low i; high = high i }

pub one_outcome : (r s : Outcome) → meaning r ≡ meaning s → r ≡ s
one_outcome (Ok (Number n)) (Ok (Number m)) e = ap (λ (n : numbers.Number). Ok (Number n)) (same_words n m (cc) (cc))
one_outcome (Ok (Number n)) (Ok (Truth b)) e = cc
one_outcome (Ok (Number n)) (Err s) e = cc
one_outcome (Ok (Truth a)) (Ok (Number m)) e = cc
one_outcome (Ok (Truth a)) (Ok (Truth b)) e = cc
one_outcome (Ok (Truth a)) (Err s) e = cc
one_outcome (Err r) (Ok (Number m)) e = cc
one_outcome (Err r) (Ok (Truth b)) e = cc
one_outcome (Err r) (Err s) e = refl

pub value_of_words : (v : ℕ) → value_of (words_of v) ≡ v
value_of_words v = omega arith

pub words_of_value : (n : numbers.Number) → n.low < 2 ^ 32 → words_of (value_of n) ≡ n
words_of_value n h = same_words _ n (omega arith) (omega arith)
