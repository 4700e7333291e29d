-- A declaration's form, by its kind: what a right one has, and that this is all.
-- Assumes nothing.
use Prim.Native.Nat.{ℕ}
use mathlib.Core.Path.{◌≡◌, subst}
use mathlib.Core.Bool.{Bool}
use mathlib.Core.List.{List}
use lib.ListN.{get_or}
use Rattle.rules.specs.Rows.{Store}
use Rattle.rules.specs.Accepted.{IsConstructor}
use Rattle.rows.specs.Checks.{Says}
use Rattle.rows.proofs.Answers.{says_same}
use Rattle.tables.specs.declared.codes.DeclKind.{DeclKind}
use Rattle.tables.specs.declared.codes.DeclKind.TheVariants.{Plain, Constructor, Recursor, Structure}
use Rattle.tables.specs.Codes.{kind_code}
use Rattle.tables.specs.Clauses.{Idle, RecursorRight, FormRight, plain_right, constructor_right, recursor_right, structure_right}

module _ (ds rs : List ℕ) (s : Store) (L : ℕ) (ws : List ℕ) where
  -- THE FORM, by kind

  -- what a right form has
  abbrev pub FormHas : DeclKind → Type 0
  FormHas Plain = Idle 8 ws
  FormHas Constructor = Idle 10 ws
  FormHas Recursor = RecursorRight ds rs s L ws
  FormHas Structure = Idle 10 ws × IsConstructor ds (get_or ws 9 0)

  pub form_has : (kind : DeclKind) → FormRight ds rs s L ws (kind_code kind) → FormHas kind
  form_has Plain (plain_right i) = i
  form_has Constructor (constructor_right i) = i
  form_has Recursor (recursor_right r) = r
  form_has Structure (structure_right i c) = (i, c)

  has_form : (kind : DeclKind) → FormHas kind → FormRight ds rs s L ws (kind_code kind)
  has_form Plain i = plain_right i
  has_form Constructor i = constructor_right i
  has_form Recursor r = recursor_right r
  has_form Structure h = structure_right h.0 h.1

  pub form_says : (kind : DeclKind) (code : ℕ) (b : Bool) → kind_code kind ≡ code → Says (FormHas kind) b → Says (FormRight ds rs s L ws code) b
  form_says kind code b e says =
      subst (λ (n : ℕ). Says (FormRight ds rs s L ws n) b) e (says_same (has_form kind) (form_has kind) says)
