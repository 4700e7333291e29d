-- `tables::clauses::rules_ok` meets its contract: each rule of the range is right.
-- Assumes nothing.
use Rattle.std.proofs.Common.{ℕ, rules, refl, arith}
use Rattle.std.proofs.lemmas.Iterator.{cases_from_all, YieldsList-from_range}
use Rattle.rows.specs.Words.{whole}
use Rattle.rows.proofs.Answers.{says_same}
use Rattle.tables.specs.Clauses.{RuleRight}
use Rattle.tables.proofs.Everywhere.{says_within}
use Rattle.tables.proofs.clauses.rules_ok.Goals as goal

pub returns : goal.returns
returns c =
    let lent = c.args.lent in
    let Right : ℕ → Type 0 = RuleRight lent.declarations.now lent.rules.now (whole lent.library.now c.args.scratch.now) c.args.nlib in
    says_same (λ each. record { each = each }) (λ all. all.each)
    (says_within Right _ _ _
    (cases_from_all _ _ _ Right (λ i. Right i → ⊥) c.all.ensures.ran (YieldsList-from_range _ _ c.args.count refl (omega arith)) (λ x q k. search rules)
    (λ x q k. search rules)))
