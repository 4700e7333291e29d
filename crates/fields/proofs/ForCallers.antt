-- What a caller reads off the answers, at the mark that it knows: what the rules take, or that they take nothing; and what was taken is
-- in scope where the term is.
-- Assumes rows that pass up to the mark and a term in scope there.
use Prim.Native.Nat.{ℕ, ◌/◌}
use mathlib.Core.Path.{◌≡◌, sym, ap, ◌∙◌}
use mathlib.Core.List.{List}
use mathlib.Core.Option.{none, some}
use lib.ListN.{length}
use Rattle.std.specs.Prelude.{Option as Maybe, Some, None}
use Rattle.rules.specs.Rows as rules
use Rattle.rules.specs.Rows.{Row, Store}
use Rattle.rules.specs.RowCheck.{AllPass, InScope}
use Rattle.rules.specs.Declarations.{Env}
use Rattle.rules.specs.HeadTests.{field_at, quot_made}
use Rattle.substitution.specs.Stores.{scope_good}
use Rattle.substitution.specs.Passing.{pass_formed}
use Rattle.safety.specs.Scope.{AllIn, none_in, spine_in}
use Rattle.safety.specs.Parts.{field_in, made_in}
use Rattle.ways.specs.Spines.{args_of, spine_of}
use Rattle.rows.specs.declared.Ptr.{Ptr}
use Rattle.rows.specs.Words.{ptr_of, store_of, Held}
use Rattle.tables.specs.Env.{env_of}
use Rattle.fields.specs.Fields.{head_row, found_field, FieldAt, QuotMade}

module _ (l ds sc : List ℕ) (q : Ptr) (nlib m d : ℕ) (held : Held l sc m nlib) (pass : AllPass (length ds / 16) (store_of l sc m))
    (scope : InScope (store_of l sc m) d (ptr_of q)) (rs cs : List ℕ) (depth : ℕ) (r : Maybe Ptr) where
  abbrev s : Store
  s = store_of l sc m

  abbrev env : Env
  env = env_of ds rs cs depth

  abbrev row : Row
  row = head_row s (ptr_of q)

  abbrev args : List rules.Ptr
  args = args_of s (ptr_of q)

  args_in : AllIn s d args
  args_in = (spine_in pass scope none_in (spine_of (pass_formed pass) (scope_good scope))).arguments

  module _ (index : ℕ) (answered : FieldAt l ds sc q index r) where
    field_is : (r' : Maybe Ptr) → r ≡ r' → field_at env row args index ≡ found_field r'
    field_is r' e = sym (answered.is rs cs depth nlib m d held pass scope) ∙ ap found_field e

    pub field_missed : r ≡ None → field_at env row args index ≡ none
    field_missed e = field_is None e

    pub field_found : (p : Ptr) → r ≡ Some p → field_at env row args index ≡ some (ptr_of p)
    field_found p e = field_is (Some p) e

    pub field_scope : (p : Ptr) → r ≡ Some p → InScope s d (ptr_of p)
    field_scope p e = field_in env row index args_in (field_is (Some p) e)

  module _ (answered : QuotMade l ds sc q r) where
    element_is : (r' : Maybe Ptr) → r ≡ r' → quot_made env row args ≡ found_field r'
    element_is r' e = sym (answered.is rs cs depth nlib m d held pass scope) ∙ ap found_field e

    pub element_missed : r ≡ None → quot_made env row args ≡ none
    element_missed e = element_is None e

    pub element_found : (p : Ptr) → r ≡ Some p → quot_made env row args ≡ some (ptr_of p)
    element_found p e = element_is (Some p) e

    pub element_scope : (p : Ptr) → r ≡ Some p → InScope s d (ptr_of p)
    element_scope p e = made_in env row args_in (element_is (Some p) e)
