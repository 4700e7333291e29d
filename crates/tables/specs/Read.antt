-- What the readers hand over by value, as the rules' own: a declaration's and a rule's words, what was found, the table of holders.
-- Assumes nothing: these are definitions.
use Rattle.std.specs.Prelude.{ℕ, zero, suc, ◌≡◌, List, get_or, Option as Maybe, Some, None}
use Rattle.std.proofs.Math.Option.{Option, none, some}
use Rattle.rules.specs.Rows as rows
use Rattle.rules.specs.Declarations as rules
use Rattle.rules.specs.Declarations.{role_code, holder, value_of}
use Rattle.rows.specs.declared.Ptr.{Ptr}
use Rattle.rows.specs.Words.{ptr_of}
use Rattle.tables.specs.declared.Decl.{Decl}
use Rattle.tables.specs.declared.DeclWords.{DeclWords}
use Rattle.tables.specs.declared.Rule.{Rule}
use Rattle.tables.specs.declared.Holders.{Holders}
use Rattle.tables.specs.declared.codes.Role.{Role}
use Rattle.tables.specs.Env.{env_of}
use Rattle.tables.specs.Codes.{kind_in, role_in, role_as}

-- a value, by its flag
abbrev pub value_in : ℕ → Ptr → Maybe Ptr
value_in zero p = None
value_in (suc n) p = Some p

-- the words that kind, value and role are read from
abbrev pub words_read : List ℕ → DeclWords
words_read ws = record {
  kind = get_or ws 0 0;
  flag = get_or ws 4 0;
  value = record { row = get_or ws 5 0; shift = get_or ws 6 0 };
  role = get_or ws 7 0;
}

-- sixteen words, as `decl_at` gives them
abbrev pub decl_read : List ℕ → Decl
decl_read ws = record {
  words = words_read ws;
  kind = kind_in (get_or ws 0 0);
  levels = get_or ws 1 0;
  role = role_in (get_or ws 7 0);
  parameters = get_or ws 8 0;
  second = get_or ws 9 0;
  minors = get_or ws 10 0;
  indices = get_or ws 11 0;
  first_rule = get_or ws 13 0;
  rules = get_or ws 14 0;
}

-- the value that a declaration has, by its flag
abbrev pub value_given : Decl → Maybe Ptr
value_given d = value_in d.words.flag d.words.value

abbrev pub rule_read : List ℕ → Rule
rule_read ws = record { constructor = get_or ws 0 0; fields = get_or ws 1 0; value = record { row = get_or ws 2 0; shift = get_or ws 3 0 } }

-- the rule by value as the rules' rule
abbrev pub as_rule : Rule → rules.Rule
as_rule ρ = record { constructor = ρ.constructor; fields = ρ.fields; value = ptr_of ρ.value }

-- WHAT WAS FOUND, the code's option as the rules'

abbrev pub found : {A B : Type 0} → (A → B) → Maybe A → Option B
found f None = none
found f (Some x) = some (f x)

abbrev pub found_rule : Maybe Rule → Option rules.Rule
found_rule = found as_rule

abbrev pub found_value : Maybe Ptr → Option rows.Ptr
found_value = found ptr_of

abbrev pub found_number : Maybe ℕ → Option ℕ
found_number = found (λ n. n)

-- THE HOLDERS

-- the declaration that the table has for a role
abbrev pub holder_in : Holders → Role → Maybe ℕ
holder_in h role = get_or h.of (role_code (role_as role)) None

-- each of the fifteen roles has its holder in the table, whatever the rules and the context are
pub record HoldersOf (ds : List ℕ) (h : Holders) : Type 0 where
  pub holds : (rs cs : List ℕ) (depth : ℕ) (role : Role) → found_number (holder_in h role) ≡ holder (env_of ds rs cs depth) (role_as role)

-- the value of variable i, whatever the declarations and the rules are
pub record ValueOf (cs : List ℕ) (depth i : ℕ) (v : Option rows.Ptr) : Type 0 where
  pub value : (ds rs : List ℕ) → v ≡ value_of (env_of ds rs cs depth) i
