-- What acceptance gives to whoever reads the tables: each reader's `requires`, and that role words are codes.
-- Assumes `Accepted w e s`.
use Prim.Native.Nat.{ℕ, ◌+◌, ◌*◌, ◌≤◌, ◌<◌}
use native.Mathlib.Omega.{arith}
use mathlib.Core.Path.{◌≡◌, subst}
use Rattle.std.specs.Prelude.{Some}
use lib.ListN.{length, get_or}
use Rattle.rules.specs.Rows.{Store}
use Rattle.rules.specs.Declarations.{Env}
use Rattle.rules.specs.Accepted.{Lent, part, library_rows, declaration_count, Accepted}
use Rattle.tables.specs.declared.Decl as code
use Rattle.tables.specs.declared.codes.DeclKind.TheVariants.{Recursor}
use Rattle.tables.specs.Env.{decl_of}
use Rattle.tables.specs.CodeLaws.{kind_word}
use Rattle.tables.specs.Read.{decl_read}
use Rattle.tables.specs.Clauses.{DeclKeeps, FormRight, RecursorRight}
use Rattle.tables.proofs.Listed.{nth_there}
use Rattle.tables.proofs.Holding.{word_of}
use Rattle.tables.proofs.FormTests.{form_has}
use Rattle.tables.proofs.DeclLaws.{decls_mean}

module _ {w : Lent} {e : Env} {s : Store} (a : Accepted w e s) where
  pub few_declarations : length w.declarations ≤ 65536
  few_declarations = a.sizes.declarations

  pub context_there : 5 * w.depth ≤ length w.context
  context_there = a.sizes.depth

  module _ (d : ℕ) (there : d < declaration_count w) where
    abbrev words : code.Decl
    words = decl_read (part 16 w.declarations d)

    pub decl_there : 16 * d + 16 ≤ length w.declarations
    decl_there = omega arith

    -- the clauses hold of what is accepted
    pub decl_given : DeclKeeps w.declarations w.rules s (library_rows w) d
    decl_given =
        let x = get_or e.decls d (decl_of w.rules (part 16 w.declarations d)) in
        let here = nth_there e.decls d (decl_of w.rules (part 16 w.declarations d)) (omega (arith, a.declarations.many)) in
        let mean = decls_mean w.declarations w.rules s (library_rows w) (declaration_count w) (omega arith) in
        mean.right d x (a.declarations.words d x here) e.decls here (a.declarations.rules d there)

    pub recursor_given : words.kind ≡ Some Recursor → RecursorRight w.declarations w.rules s (library_rows w) (part 16 w.declarations d)
    recursor_given k =
        let ws = part 16 w.declarations d in
        form_has w.declarations w.rules s (library_rows w) ws Recursor
        (subst (FormRight w.declarations w.rules s (library_rows w) ws) (kind_word (get_or ws 0 0) Recursor k) decl_given.words.form)

    pub rules_there : words.kind ≡ Some Recursor → 4 * (words.first_rule + words.rules) ≤ length w.rules
    rules_there k = (recursor_given k).inside

    pub role_given : get_or (part 16 w.declarations d) 7 0 ≤ 15
    role_given = let code = decl_given.role.code in omega (arith, word_of 16 w.declarations d 7 (omega arith))
