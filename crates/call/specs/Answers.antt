-- The exported call's answer in the rules' words: the document's number and values for each case.
-- Assumes nothing: these are definitions.
use Rattle.std.specs.Prelude.{ℕ, ◌-◌, ◌/◌, ◌≡◌, List, ◌++◌, length, take, replicate, Result, Ok, Err}
use Rattle.rules.specs.Call as rules
use Rattle.rules.specs.Accepted.{Accepted}
use Rattle.rows.specs.Refusals.{number_of}
use Rattle.rows.specs.Words.{ptr_of}
use Rattle.rows.specs.declared.refusals.Refused.{Refused}
use Rattle.tables.specs.Verdicts.{lent_by, env_in, store_in}
use Rattle.tables.specs.declared.lent.Asked.{Asked}
use Rattle.tables.specs.declared.lent.Lent.{Lent}
use Rattle.tables.specs.Read.{HoldersOf}
use Rattle.state.specs.declared.Given.{Given}
use Rattle.call.specs.declared.Answered.{Answered}

-- "a term with its steps and rows, or one numbered refusal with its place"
abbrev pub answer_as : Result Answered Refused → rules.Answer
answer_as (Ok a) = rules.term (ptr_of a.term) a.steps a.rows
answer_as (Err k) = rules.refused (number_of k.refusal) k.place

-- on a term the mark moves on; after a refusal it is the old one
abbrev pub mark_as : Result Answered Refused → ℕ → ℕ
mark_as (Ok a) mark = a.mark
mark_as (Err k) mark = mark

abbrev pub left_as : Result Answered Refused → ℕ → List ℕ → List ℕ → rules.Left
left_as r mark scratch context = record { mark = mark_as r mark; scratch = scratch; context = context }

-- THE CONTRACT: the rules' own statement of the call, over what is lent, the scratch and what is asked; then the answer, and the scratch and the
-- context after the call
abbrev pub Answers : Lent → List ℕ → Asked → Result Answered Refused → List ℕ → List ℕ → Type 0
Answers w sc asked r sc' cs' = rules.Whnf (lent_by w sc asked) (answer_as r) (left_as r asked.mark sc' cs')

-- accepted as the environment and the store that the words stand for
abbrev pub AcceptedAs : Lent → List ℕ → Asked → Type 0
AcceptedAs w sc asked = Accepted (lent_by w sc asked) (env_in (lent_by w sc asked)) (store_in (lent_by w sc asked))

-- words from a place to the end are 0
abbrev pub zeroed_from : ℕ → List ℕ → List ℕ
zeroed_from from sc = take from sc ++ replicate (length sc - from) 0

-- what stays the same in a call, as it was read from the words
pub record GivenBy (l ds : List ℕ) (depth steps : ℕ) (g : Given) : Type 0 where
  pub rows : g.nlib ≡ length l / 9
  pub deep : g.depth ≡ depth
  pub budget : g.steps ≡ steps
  pub holders : HoldersOf ds g.holders
