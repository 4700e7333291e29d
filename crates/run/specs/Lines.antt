-- What a word or a number more makes of a line that is under way. Assumes nothing: these are definitions.
use Rattle.std.specs.Prelude.{ℕ, ◌+◌, ◌≤◌, ◌<◌, ◌≡◌, Option, Some, None, [], ◌∷◌, set, Result, Ok, Err, IsSome, ⊤}
use Rattle.text.specs.declared.Token.{Token}
use Rattle.text.specs.declared.Token.TheVariants as token
use Rattle.run.specs.Keywords.{numbers_after}
use Rattle.run.specs.declared.keyword.Keyword.{Keyword}
use Rattle.run.specs.declared.stop.Stop.{Stop}
use Rattle.run.specs.declared.stop.Stop.TheVariants as stop
use Rattle.run.specs.declared.kept.Settings.{Settings}
use Rattle.run.specs.declared.kept.Statement.{Statement}
use Rattle.run.specs.declared.stop.Wrong.{Wrong}
use Rattle.run.specs.declared.stop.Wrong.TheVariants as wrong

-- all numbers at their start
abbrev pub unset : Settings
unset = record { mark = 0; depth = 0; steps = 0; nesting = 0 }

-- before a line's first word
abbrev pub unbegun : Statement
unbegun = record { keyword = None; count = 0; numbers = 0 ∷ 0 ∷ [] }

-- the first word is the line's keyword; where it is none, and at a second word, the line stays as it was
abbrev pub Begins : Statement → Statement → Result ⊤ Wrong → Type 0
Begins old new (Ok _) = (old.keyword ≡ None) × IsSome new.keyword × (new.count ≡ old.count) × (new.numbers ≡ old.numbers)
Begins old new (Err e) = (IsSome old.keyword → e ≡ wrong.SecondWord) × (new ≡ old)

-- one number more, where fewer than `wanted` are behind the keyword; else the line stays as it was
abbrev pub Pushes : Statement → ℕ → ℕ → Statement → Result ⊤ Wrong → Type 0
Pushes old number wanted new (Ok _) =
    (old.count < wanted) × (new.keyword ≡ old.keyword) × (new.count ≡ old.count + 1) × (new.numbers ≡ set old.numbers old.count number)
Pushes old number wanted new (Err e) = (old.count < 2 → wanted ≤ old.count) × (e ≡ wrong.Count wanted) × (new ≡ old)

-- what a token is answered on a line with this keyword, or with none yet: a second word and a number before the first word are wrong,
-- and what is neither is answered by what is wrong with it
abbrev pub Answers : Option Keyword → Token → Result ⊤ Wrong → Type 0
Answers k (token.Word w) r = IsSome k → r ≡ Err wrong.SecondWord
Answers k (token.Number n) r = k ≡ None → r ≡ Err wrong.NoWord
Answers k token.TooLarge r = r ≡ Err wrong.TooLarge
Answers k token.Stray r = r ≡ Err wrong.Stray

-- a line that ends: with no keyword it asks for nothing, with too few numbers it is wrong
pub record Ends (old : Statement) (r : Result ⊤ Stop) : Type 0 where
  pub empty : old.keyword ≡ None → r ≡ Ok tt
  pub lacking : (k : Keyword) (n : ℕ) → old.keyword ≡ Some k → numbers_after k ≡ Some n → old.count < n → r ≡ Err (stop.Line (wrong.Count n))
