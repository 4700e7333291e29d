-- What is left in the context's words after a record is pushed, and after the spare ones are cleared.
-- Assumes nothing: these are definitions.
use Rattle.std.specs.Prelude.{ℕ, ◌+◌, ◌*◌, ◌-◌, List, [], ◌∷◌, ◌++◌, length, take, drop, replicate}
use Rattle.rows.specs.declared.Ptr.{Ptr}

-- a record's five words: this type, and no value
abbrev pub record_of : Ptr → List ℕ
record_of x = x.row ∷ x.shift ∷ 0 ∷ 0 ∷ 0 ∷ []

-- record `depth` written, the words before and after it as they were
abbrev pub pushed : List ℕ → ℕ → Ptr → List ℕ
pushed cs depth x = take (5 * depth) cs ++ (record_of x ++ drop (5 * depth + 5) cs)

-- words from a place to the end are 0
abbrev pub cleared_from : ℕ → List ℕ → List ℕ
cleared_from from cs = take from cs ++ replicate (length cs - from) 0
