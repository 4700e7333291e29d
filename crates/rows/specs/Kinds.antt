-- The code's kinds and marks as the rules' table has them. Assumes nothing: these are definitions.
use Rattle.std.specs.Prelude.{ℕ, ◌<◌, ◌≡◌, Result, MatchResult}
use Rattle.rules.specs.Kinds as rules
use Rattle.rows.specs.declared.kinds.Kind.{Kind}
use Rattle.rows.specs.declared.kinds.Kind.TheVariants.{Variable, Sort, Constant, Application, Lambda, Pi, Let, Projection, Number}
use Rattle.rows.specs.declared.kinds.UnknownCode.{UnknownCode}
use Rattle.rows.specs.declared.kinds.Tag.{Tag}
use Rattle.rows.specs.declared.kinds.Tag.TheVariants.{Plain, Term, Body}

-- a kind's number
abbrev pub code_of : Kind → ℕ
code_of Variable = 0
code_of Sort = 1
code_of Constant = 2
code_of Application = 3
code_of Lambda = 4
code_of Pi = 5
code_of Let = 6
code_of Projection = 7
code_of Number = 8

-- the kind with this number, or the word that no kind has
abbrev pub IsKind : ℕ → Result Kind UnknownCode → Type 0
IsKind code r = MatchResult r (λ k. code_of k ≡ code) (λ e. (e.0 ≡ code) × (8 < code))

-- what the code's marks say of a field
abbrev pub tag_of : Tag → rules.Tag
tag_of Plain = rules.plain
tag_of Term = rules.term
tag_of Body = rules.body
