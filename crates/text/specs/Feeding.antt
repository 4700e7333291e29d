-- What a byte does to the text that is under way. Assumes nothing: these are definitions.
use Rattle.std.specs.Prelude.{ℕ, ◌+◌, ◌*◌, ◌-◌, Bool, true, false, Option, Some, None, ltb, leb, eqb}
use Rattle.text.specs.declared.Part.{Part}
use Rattle.text.specs.declared.Part.TheVariants as part
use Rattle.text.specs.declared.Token.{Token}
use Rattle.text.specs.declared.Token.TheVariants as token
use Rattle.text.specs.declared.Reader.{Reader}
use Rattle.text.specs.declared.Fed.{Fed}

abbrev pub pick : {A : Type 0} → Bool → A → A → A
pick true a b = a
pick false a b = b

-- `a` to `z`
abbrev pub is_letter : ℕ → Bool
is_letter b = pick (ltb b 97) false (leb b 122)

-- `0` to `9`
abbrev pub is_digit : ℕ → Bool
is_digit b = pick (ltb b 48) false (leb b 57)

-- space, tab, carriage return
abbrev pub is_blank : ℕ → Bool
is_blank b = pick (eqb b 32) true (pick (eqb b 9) true (eqb b 13))

-- the number with the digit b behind it, if that is at most 4,294,967,295
abbrev pub with_digit : ℕ → ℕ → Option ℕ
with_digit n b = pick (ltb 4294967295 (10 * n + (b - 48))) None (Some (10 * n + (b - 48)))

-- six letters can have one behind them; all longer words are the same
abbrev pub with_letter : ℕ → ℕ → ℕ
with_letter w b = pick (leb 0x1_0000_0000_0000 w) 0x100_0000_0000_0000 (256 * w + b)

abbrev pub next_line : ℕ → ℕ
next_line n = pick (eqb n 0xffff_ffff_ffff_ffff) n (n + 1)

-- before the first byte
abbrev pub at_start : Reader
at_start = record { line = 1; part = part.Gap }

abbrev pub going_on : ℕ → Part → Fed
going_on l p = record { reader = record { line = l; part = p }; token = None; ends = false }

-- after a token
abbrev pub stopped : ℕ → Option Token → Fed
stopped l t = record { reader = record { line = l; part = part.Gap }; token = t; ends = false }

abbrev pub commented : ℕ → Option Token → Fed
commented l t = record { reader = record { line = l; part = part.Comment }; token = t; ends = false }

abbrev pub line_ended : ℕ → Option Token → Fed
line_ended l t = record { reader = record { line = next_line l; part = part.Gap }; token = t; ends = true }

-- a token stands before the byte b
abbrev pub ended : ℕ → Option Token → ℕ → Fed
ended l t b =
    pick (eqb b 10) (line_ended l t)
    (pick (eqb b 35) (commented l t)
    (pick (is_blank b) (stopped l t)
    (stopped l (Some token.Stray))))

abbrev pub numbered : ℕ → Option ℕ → Fed
numbered l (Some n) = going_on l (part.Number n)
numbered l None = stopped l (Some token.TooLarge)

abbrev pub in_number : ℕ → ℕ → ℕ → Fed
in_number l n b = pick (is_digit b) (numbered l (with_digit n b)) (ended l (Some (token.Number n)) b)

abbrev pub in_word : ℕ → ℕ → ℕ → Fed
in_word l w b = pick (is_letter b) (going_on l (part.Word (with_letter w b))) (ended l (Some (token.Word w)) b)

abbrev pub in_gap : ℕ → ℕ → Fed
in_gap l b = pick (is_letter b) (in_word l 0 b) (pick (is_digit b) (in_number l 0 b) (ended l None b))

abbrev pub in_comment : ℕ → ℕ → Fed
in_comment l b = pick (eqb b 10) (line_ended l None) (going_on l part.Comment)

abbrev pub in_part : ℕ → Part → ℕ → Fed
in_part l part.Gap b = in_gap l b
in_part l (part.Word w) b = in_word l w b
in_part l (part.Number n) b = in_number l n b
in_part l part.Comment b = in_comment l b

abbrev pub fed : Reader → ℕ → Fed
fed r b = in_part r.line r.part b
