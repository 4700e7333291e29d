-- The keywords' letters, and how many numbers follow each. Assumes nothing: these are definitions.
use Rattle.std.specs.Prelude.{ℕ, ◌≡◌, ◌≢◌, Option, Some, None, List, [], ◌∷◌, Result, MatchResult}
use Rattle.std.specs.Int.{to_be_bytes, w64}
use Rattle.run.specs.declared.stop.Wrong.{Wrong}
use Rattle.run.specs.declared.stop.Wrong.TheVariants.{UnknownStatement}
use Rattle.run.specs.declared.keyword.Keyword.{Keyword}
use Rattle.run.specs.declared.keyword.Keyword.TheVariants.{Lib, Decl, Rule, Ctx, Scr, Fill, Spare, Mark, Depth, Steps, Nesting, Whnf, Infer, Again, Reset}

-- None at a list, which takes any count of words
abbrev pub numbers_after : Keyword → Option ℕ
numbers_after Lib = None
numbers_after Decl = None
numbers_after Rule = None
numbers_after Ctx = None
numbers_after Scr = None
numbers_after Fill = Some 1
numbers_after Spare = Some 1
numbers_after Mark = Some 1
numbers_after Depth = Some 1
numbers_after Steps = Some 1
numbers_after Nesting = Some 1
numbers_after Whnf = Some 2
numbers_after Infer = Some 2
numbers_after Again = Some 0
numbers_after Reset = Some 0

-- eight bytes, zeros in front of the letters
abbrev pub letters : Keyword → List ℕ
letters Lib = 0 ∷ 0 ∷ 0 ∷ 0 ∷ 0 ∷ 108 ∷ 105 ∷ 98 ∷ []
letters Decl = 0 ∷ 0 ∷ 0 ∷ 0 ∷ 100 ∷ 101 ∷ 99 ∷ 108 ∷ []
letters Rule = 0 ∷ 0 ∷ 0 ∷ 0 ∷ 114 ∷ 117 ∷ 108 ∷ 101 ∷ []
letters Ctx = 0 ∷ 0 ∷ 0 ∷ 0 ∷ 0 ∷ 99 ∷ 116 ∷ 120 ∷ []
letters Scr = 0 ∷ 0 ∷ 0 ∷ 0 ∷ 0 ∷ 115 ∷ 99 ∷ 114 ∷ []
letters Fill = 0 ∷ 0 ∷ 0 ∷ 0 ∷ 102 ∷ 105 ∷ 108 ∷ 108 ∷ []
letters Spare = 0 ∷ 0 ∷ 0 ∷ 115 ∷ 112 ∷ 97 ∷ 114 ∷ 101 ∷ []
letters Mark = 0 ∷ 0 ∷ 0 ∷ 0 ∷ 109 ∷ 97 ∷ 114 ∷ 107 ∷ []
letters Depth = 0 ∷ 0 ∷ 0 ∷ 100 ∷ 101 ∷ 112 ∷ 116 ∷ 104 ∷ []
letters Steps = 0 ∷ 0 ∷ 0 ∷ 115 ∷ 116 ∷ 101 ∷ 112 ∷ 115 ∷ []
letters Nesting = 0 ∷ 110 ∷ 101 ∷ 115 ∷ 116 ∷ 105 ∷ 110 ∷ 103 ∷ []
letters Whnf = 0 ∷ 0 ∷ 0 ∷ 0 ∷ 119 ∷ 104 ∷ 110 ∷ 102 ∷ []
letters Infer = 0 ∷ 0 ∷ 0 ∷ 105 ∷ 110 ∷ 102 ∷ 101 ∷ 114 ∷ []
letters Again = 0 ∷ 0 ∷ 0 ∷ 97 ∷ 103 ∷ 97 ∷ 105 ∷ 110 ∷ []
letters Reset = 0 ∷ 0 ∷ 0 ∷ 114 ∷ 101 ∷ 115 ∷ 101 ∷ 116 ∷ []

-- the keyword that a word spells, or the word is none
abbrev pub Spells : ℕ → Result Keyword Wrong → Type 0
Spells word r =
    MatchResult r (λ k. to_be_bytes w64 word ≡ letters k)
    (λ e. (e ≡ UnknownStatement) × ((k : Keyword) → to_be_bytes w64 word ≢ letters k))
