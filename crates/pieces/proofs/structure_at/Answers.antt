-- `pieces::structure_at` meets its contract: each test that fails, and the one structure that passes them all.
-- Assumes nothing.
use Rattle.std.proofs.Common.{◌≡◌, ◌∙◌, Some, rules}
use Rattle.tables.specs.declared.codes.DeclKind.TheVariants as kinds
use Rattle.pieces.proofs.Structures.{head_stands, no_constant, another_constant, another_form, constructor_words, other_levels, its_structure}
use Rattle.pieces.proofs.structure_at.Goals as goal

pub row_at-requires : goal.row_at-requires
row_at-requires c = head_stands c.requires c.head_of-s.ensures

pub returns-then-w-into : goal.returns-then-w-into
returns-then-w-into c =
    no_constant c.requires c.head_of-s.ensures c.row_at.ensures c.shape_of-w.ensures (rw c.into.ensures at c.if-w-into.true)

pub returns-then-words-c : goal.returns-then-words-c
returns-then-words-c c =
    another_constant c.requires c.head_of-s.ensures c.row_at.ensures c.shape_of-w.ensures (c.if-w-into.false ∙ c.into.ensures) c.if-words-c.true

pub returns-then-ne : goal.returns-then-ne
returns-then-ne c =
    let other : c.decl_at-d.result.kind ≡ Some kinds.Structure → ⊥ = λ e. search rules in
    another_form c.requires c.head_of-s.ensures c.row_at.ensures c.shape_of-w.ensures (c.if-w-into.false ∙ c.into.ensures) c.decl_at-d.ensures other

pub decl_at-requires : goal.decl_at-requires
decl_at-requires c =
    let kind : c.decl_at-d.result.kind ≡ Some kinds.Structure = search rules in
    constructor_words c.requires c.head_of-s.ensures c.row_at.ensures c.shape_of-w.ensures (c.if-w-into.false ∙ c.into.ensures) c.decl_at-d.ensures kind

pub returns-then-decl_at-words : goal.returns-then-decl_at-words
returns-then-decl_at-words c =
    let kind : c.decl_at-d.result.kind ≡ Some kinds.Structure = search rules in
    other_levels c.requires c.head_of-s.ensures c.row_at.ensures c.shape_of-w.ensures (c.if-w-into.false ∙ c.into.ensures) c.decl_at-d.ensures kind
    c.decl_at.ensures c.if-decl_at-words.true

pub returns : goal.returns
returns c =
    let kind : c.decl_at-d.result.kind ≡ Some kinds.Structure = search rules in
    its_structure c.requires c.head_of-s.ensures c.row_at.ensures c.shape_of-w.ensures (c.if-w-into.false ∙ c.into.ensures) c.decl_at-d.ensures kind
    c.decl_at.ensures c.if-words-c.false c.if-decl_at-words.false
