-- `tables::clauses::idle_from` meets its contract: each word from there on is 0.
-- Assumes nothing.
use Rattle.std.proofs.Common.{◌≡◌, ◌≢◌, length, rules, tests}
use Rattle.std.proofs.lemmas.Iterator.{cases_from_all, YieldsList-from_slice}
use Rattle.rows.proofs.Answers.{says_same}
use Rattle.tables.proofs.Everywhere.{says_from}
use Rattle.tables.proofs.clauses.idle_from.Goals as goal

pub returns : goal.returns
returns c =
    let many : length c.args.w.now ≡ 16 = search rules in
    says_same (λ each. record { each = each }) (λ idle. idle.each)
    (says_from (λ x. x ≡ 0) _ _ _ _ many
    (cases_from_all _ _ _ (λ x. x ≡ 0) (λ x. x ≢ 0) c.all.ensures.ran (YieldsList-from_slice _ c.iter.ensures.rest) (λ x q k. search (rules, tests))
    (λ x q k. search (rules, tests))))
