-- What the readers hand over, against the rules' declarations: a field of the rules' declaration d is the one that the code reads.
-- Assumes that d is one of the declarations.
use Prim.Native.Nat.{ℕ, zero, suc, ◌+◌, ◌/◌, ◌≤◌, ◌<◌}
use Rattle.std.proofs.Common.{zero-add, arith, sym, ◌∙◌}
use Rattle.std.specs.Prelude.{◌≡◌, List, length, get_or, Option as Maybe, Some, None}
use Rattle.std.proofs.Math.Path.{refl, ap}
use Rattle.std.proofs.Math.Option.{none, some}
use Rattle.std.proofs.Math.ListN.{get_or-map}
use Rattle.rules.specs.Rows as rows
use Rattle.rules.specs.Declarations as rules
use Rattle.rules.specs.Declarations.{role_code, Form, plain, constructor, recursor, structure, Decl, decl_at}
use Rattle.rules.specs.HeadTests.{parameters_of, recursor_of}
use Rattle.rules.specs.Accepted.{part}
use Rattle.rows.specs.declared.Ptr.{Ptr}
use Rattle.rows.specs.Words.{ptr_of}
use Rattle.tables.specs.declared.Decl as code
use Rattle.tables.specs.declared.codes.DeclKind.{DeclKind}
use Rattle.tables.specs.declared.codes.DeclKind.TheVariants.{Plain, Constructor, Recursor, Structure}
use Rattle.tables.specs.declared.codes.Role.{Role}
use Rattle.tables.specs.Records.{records_from}
use Rattle.tables.specs.Env.{value_by, rule_of, form_by, decl_of, env_of}
use Rattle.tables.specs.Codes.{kinds, kind_in, role_as, role_on}
use Rattle.tables.specs.CodeLaws.{role_code_lem, role_on_is, role_known}
use Rattle.tables.specs.Read.{value_in, value_given, decl_read, found_value}

-- the element that a list of records has at a position
pub records_at : {A : Type 0} (k : ℕ) (ws : List ℕ) (read : List ℕ → A) (i n j : ℕ) (x : A) → j < n →
    get_or (records_from k ws read i n) j x ≡ read (part k ws (i + j))
unfolding records_from
records_at k ws read i zero j x h = absurd (omega arith)
records_at k ws read i (suc n) zero x h = ap (λ (m : ℕ). read (part k ws m)) (omega arith)
records_at k ws read i (suc n) (suc j) x h =
    records_at k ws read (suc i) n j x (omega arith) ∙ ap (λ (m : ℕ). read (part k ws m)) (omega arith)

-- VALUES, by the flag

pub value_is_found : (flag : ℕ) (p : Ptr) → value_by flag (ptr_of p) ≡ found_value (value_in flag p)
unfolding value_by
value_is_found zero p = refl
value_is_found (suc n) p = refl

pub value_there : (flag : ℕ) (p : rows.Ptr) → (flag ≡ 0 → ⊥) → value_by flag p ≡ some p
unfolding value_by
value_there zero p h = absurd (h refl)
value_there (suc n) p h = refl

pub value_absent : (flag : ℕ) (p : rows.Ptr) → flag ≡ 0 → value_by flag p ≡ none
unfolding value_by
value_absent flag p e = ap (λ (n : ℕ). value_by n p) e

-- FORMS, by kind; a kind that the code does not know is read as plain

module _ (rs ws : List ℕ) where
  abbrev pub recursor_read : rules.Recursor
  recursor_read = record {
    parameters = get_or ws 8 0;
    motives = get_or ws 9 0;
    minors = get_or ws 10 0;
    indices = get_or ws 11 0;
    rules = records_from 4 rs rule_of (get_or ws 13 0) (get_or ws 14 0);
  }

  abbrev pub form_on : Maybe DeclKind → Form
  form_on None = plain
  form_on (Some Plain) = plain
  form_on (Some Constructor) = constructor (get_or ws 8 0) (get_or ws 9 0)
  form_on (Some Recursor) = recursor recursor_read
  form_on (Some Structure) = structure (get_or ws 8 0) (get_or ws 9 0)

  pub form_by_is : (kind : ℕ) → form_by rs kind ws ≡ form_on (kind_in kind)
  unfolding form_by kind_in
  form_by_is kind = get_or-map form_on kinds kind None

  -- the same by the word
  recursor_at : (kind : ℕ) → kind ≡ 2 → recursor_of (form_by rs kind ws) ≡ some recursor_read
  unfolding form_by
  recursor_at kind e = ap (λ (n : ℕ). recursor_of (form_by rs n ws)) e

  no_recursor_at : (kind : ℕ) → (kind ≡ 2 → ⊥) → recursor_of (form_by rs kind ws) ≡ none
  unfolding form_by
  no_recursor_at zero h = refl
  no_recursor_at (suc zero) h = refl
  no_recursor_at (suc (suc zero)) h = absurd (h refl)
  no_recursor_at (suc (suc (suc zero))) h = refl
  no_recursor_at (suc (suc (suc (suc n)))) h = refl

  parameters_at : (kind : ℕ) → kind ≡ 1 → parameters_of (form_by rs kind ws) ≡ some (get_or ws 8 0)
  unfolding form_by
  parameters_at kind e = ap (λ (n : ℕ). parameters_of (form_by rs n ws)) e

  no_parameters_at : (kind : ℕ) → (kind ≡ 1 → ⊥) → parameters_of (form_by rs kind ws) ≡ none
  unfolding form_by
  no_parameters_at zero h = refl
  no_parameters_at (suc zero) h = absurd (h refl)
  no_parameters_at (suc (suc zero)) h = refl
  no_parameters_at (suc (suc (suc zero))) h = refl
  no_parameters_at (suc (suc (suc (suc n)))) h = refl

  no_recursor_on : (kind : Maybe DeclKind) → (kind ≡ Some Recursor → ⊥) → recursor_of (form_on kind) ≡ none
  no_recursor_on None h = refl
  no_recursor_on (Some Plain) h = refl
  no_recursor_on (Some Constructor) h = refl
  no_recursor_on (Some Recursor) h = absurd (h refl)
  no_recursor_on (Some Structure) h = refl

  no_parameters_on : (kind : Maybe DeclKind) → (kind ≡ Some Constructor → ⊥) → parameters_of (form_on kind) ≡ none
  no_parameters_on None h = refl
  no_parameters_on (Some Plain) h = refl
  no_parameters_on (Some Constructor) h = absurd (h refl)
  no_parameters_on (Some Recursor) h = refl
  no_parameters_on (Some Structure) h = refl

  no_structure_on : (kind : Maybe DeclKind) → (kind ≡ Some Structure → ⊥) → (ps i : ℕ) → form_on kind ≡ structure ps i → ⊥
  no_structure_on None h ps i e = cc
  no_structure_on (Some Plain) h ps i e = cc
  no_structure_on (Some Constructor) h ps i e = cc
  no_structure_on (Some Recursor) h ps i e = cc
  no_structure_on (Some Structure) h ps i e = h refl

-- DECLARATION d

module _ (ds rs cs : List ℕ) (depth d : ℕ) (there : d < length ds / 16) where
  -- the rules' declaration, and what the code reads
  abbrev pub Said : Decl
  Said = decl_at (env_of ds rs cs depth).decls d

  abbrev pub Read : code.Decl
  Read = decl_read (part 16 ds d)

  pub decl_is : Said ≡ decl_of rs (part 16 ds d)
  unfolding decl_at
  decl_is = records_at 16 ds (decl_of rs) 0 (length ds / 16) d _ there ∙ ap (λ (n : ℕ). decl_of rs (part 16 ds n)) (zero-add d)

  pub levels_is : Said.levels ≡ Read.levels
  unfolding decl_of
  levels_is = ap (λ (x : Decl). x.levels) decl_is

  pub form_is : Said.form ≡ form_on rs (part 16 ds d) Read.kind
  unfolding decl_of
  form_is = ap (λ (x : Decl). x.form) decl_is ∙ form_by_is rs (part 16 ds d) (get_or (part 16 ds d) 0 0)

  pub recursor_is : Read.kind ≡ Some Recursor → recursor_of Said.form ≡ some (recursor_read rs (part 16 ds d))
  recursor_is e = ap recursor_of (form_is ∙ ap (form_on rs (part 16 ds d)) e)

  pub no_recursor : (Read.kind ≡ Some Recursor → ⊥) → recursor_of Said.form ≡ none
  no_recursor h = ap recursor_of form_is ∙ no_recursor_on rs (part 16 ds d) Read.kind h

  pub parameters_are : Read.kind ≡ Some Constructor → parameters_of Said.form ≡ some Read.parameters
  parameters_are e = ap parameters_of (form_is ∙ ap (form_on rs (part 16 ds d)) e)

  pub no_parameters : (Read.kind ≡ Some Constructor → ⊥) → parameters_of Said.form ≡ none
  no_parameters h = ap parameters_of form_is ∙ no_parameters_on rs (part 16 ds d) Read.kind h

  pub structure_is : Read.kind ≡ Some Structure → Said.form ≡ structure Read.parameters Read.second
  structure_is e = form_is ∙ ap (form_on rs (part 16 ds d)) e

  pub no_structure : (Read.kind ≡ Some Structure → ⊥) → (ps i : ℕ) → Said.form ≡ structure ps i → ⊥
  no_structure h ps i e = no_structure_on rs (part 16 ds d) Read.kind h ps i (sym form_is ∙ e)

  pub value_is : Said.value ≡ found_value (value_given Read)
  unfolding decl_of
  value_is =
      ap (λ (x : Decl). x.value) decl_is
      ∙ value_is_found (get_or (part 16 ds d) 4 0) (record { row = get_or (part 16 ds d) 5 0; shift = get_or (part 16 ds d) 6 0 })

  pub valued_is : {p : Ptr} → value_given Read ≡ Some p → Said.value ≡ some (ptr_of p)
  valued_is e = value_is ∙ ap found_value e

  pub no_value : value_given Read ≡ None → Said.value ≡ none
  no_value e = value_is ∙ ap found_value e

  pub role_is : Said.role ≡ role_on Read.role
  unfolding decl_of
  role_is = ap (λ (x : Decl). x.role) decl_is ∙ sym (role_on_is (get_or (part 16 ds d) 7 0))

  -- the rules' test of a role is the code's
  pub has_role : (role : Role) → Read.role ≡ Some role → role_code Said.role ≡ role_code (role_as role)
  has_role role e = ap role_code (role_is ∙ ap role_on e)

  pub has_no_such_role : (role : Role) → (Read.role ≡ Some role → ⊥) → role_code Said.role ≡ role_code (role_as role) → ⊥
  has_no_such_role role h e = h (role_known Read.role role (sym (ap role_code role_is) ∙ e))

  -- by the word
  pub role_code_is : get_or (part 16 ds d) 7 0 ≤ 15 → role_code Said.role ≡ get_or (part 16 ds d) 7 0
  unfolding decl_of
  role_code_is h = ap (λ (x : Decl). role_code x.role) decl_is ∙ role_code_lem (get_or (part 16 ds d) 7 0) h
