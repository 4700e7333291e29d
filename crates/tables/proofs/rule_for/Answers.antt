-- `tables::rule_for` meets its contract: what `find` takes of the rules that are read is what the rules' own search finds.
-- Assumes nothing.
use Rattle.std.proofs.Common.{rules, tests, refl, sym, ap, ◌∙◌, arith, ◌+◌}
use Rattle.std.proofs.lemmas.Iterator.{YieldsList-from_range, YieldsList-from_map}
use Rattle.std.proofs.lemmas.Iterator.Consumers.{YieldsList-at}
use Rattle.std.proofs.lemmas.Iterator.Search.{find_from_yields_List}
use Rattle.rules.specs.Accepted.{part}
use Rattle.tables.specs.Read.{rule_read, found_rule}
use Rattle.tables.proofs.Reading.{is_for, option_same, rules_found}
use Rattle.tables.proofs.rule_for.Goals as goal

pub returns : goal.returns
returns c =
    let rs = c.args.rules.now in
    let con = c.args.constructor in
    let numbers = YieldsList-from_range c.args.first (c.args.first + c.args.count) c.args.count refl (omega arith) in
    let first_of = find_from_yields_List (is_for rs con) _ _ c.find.result c.find.ensures.ran
    (YieldsList-from_map _ (λ i. rule_read (part 4 rs i)) (YieldsList-at c.map.ensures.source numbers) c.map.ensures.closure
    (λ x r q k. search rules))
    (λ x b q k. search (rules, tests)) in
    ap found_rule (sym (option_same c.find.result) ∙ first_of) ∙ rules_found rs con c.args.first c.args.count
