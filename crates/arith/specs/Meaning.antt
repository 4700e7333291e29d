-- What the types of src/ mean in the document's terms, and what an operation's result comes out as.
-- Assumes nothing.
use Rattle.std.specs.Prelude.{Bool, true, false, Result, Ok, Err, ℕ, ◌/◌, ◌%◌, ◌-◌, ◌^◌, leb}
use Rattle.rules.specs.Arithmetic as rules
use Rattle.arith.specs.declared.Number as numbers
use Rattle.arith.specs.declared.Op.{Op}
use Rattle.arith.specs.declared.Op.TheVariants.{Add, Sub, Mul, Div, Mod, Beq, Ble}
use Rattle.arith.specs.declared.Value.{Value}
use Rattle.arith.specs.declared.Value.TheVariants.{Number, Truth}
use Rattle.arith.specs.declared.TooLarge.{TooLarge}

abbrev pub op_of : Op → rules.Op
op_of Add = rules.add
op_of Sub = rules.sub
op_of Mul = rules.mul
op_of Div = rules.div
op_of Mod = rules.mod'
op_of Beq = rules.beq
op_of Ble = rules.ble

abbrev pub value_of : numbers.Number → ℕ
value_of n = rules.words_value n.low n.high

abbrev pub words_of : ℕ → numbers.Number
words_of v = record { low = v % 2 ^ 32; high = v / 2 ^ 32 }

-- what the document says of a computation: the two words of a number, yes or no, or the refusal's number
pub data Said : Type 0 where
  words : ℕ → ℕ → Said
  truth : Bool → Said
  refusal : ℕ → Said

-- what a computation answers
abbrev pub Outcome : Type 0
Outcome = Result Value TooLarge

abbrev pub meaning : Outcome → Said
meaning (Ok (Number n)) = words n.low n.high
meaning (Ok (Truth b)) = truth b
meaning (Err e) = refusal 7

abbrev pub pick : Bool → Said → Said → Said
pick true x y = x
pick false x y = y

-- a number up to 2^64 - 1 is its two words, one over it refusal 7; a truth value is itself
unfoldable pub settled : rules.Computed → Said
settled (rules.number n) = pick (leb n (2 ^ 64 - 1)) (words (n % 2 ^ 32) (n / 2 ^ 32)) (refusal 7)
settled (rules.truth b) = truth b
