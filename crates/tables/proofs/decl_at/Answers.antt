-- `tables::decl_at` meets its contract: each field is the word that stands there, or what it codes.
-- Assumes nothing.
use Rattle.std.proofs.Common.{ap, ◌∙◌}
use Rattle.tables.specs.CodeLaws.{kind_ok, role_ok}
use Rattle.tables.specs.Read.{decl_read}
use Rattle.tables.proofs.decl_at.Goals as goal

pub returns : goal.returns
returns c =
    let kind = c.ok.ensures.value ∙ kind_ok _ _ c.try_from.ensures in
    let role = c.ok-2.ensures.value ∙ role_ok _ _ c.try_from-2.ensures in
    (λ i. record (decl_read c.record_at-w.result.now) { kind = kind i; role = role i })
    ∙ ap decl_read c.record_at-w.ensures
