-- The environment that the lent words stand for: every word list is read as some environment, and accepted words as the one that the rules have.
-- Assumes nothing: these are definitions.
use Rattle.std.specs.Prelude.{ℕ, zero, suc, ◌/◌, List, [], ◌∷◌, length, get_or}
use Rattle.std.proofs.Math.Option.{Option, none, some}
use Rattle.rules.specs.Rows.{Ptr, ptr}
use Rattle.rules.specs.Arithmetic.{add, sub, mul, div, mod', beq, ble}
use Rattle.rules.specs.Declarations.{Role, no_role, nat, zero', succ', true', false', quot_mk, quot_lift, quot_ind, arith, Rule, Form, plain}
use Rattle.rules.specs.Declarations.{constructor, recursor, structure, Decl, Entry, Env}
use Rattle.tables.specs.Records.{records_from}

-- the roles by their codes
abbrev pub roles : List Role
roles =
    no_role
    ∷ nat
    ∷ zero'
    ∷ succ'
    ∷ true'
    ∷ false'
    ∷ quot_mk
    ∷ quot_lift
    ∷ quot_ind
    ∷ arith add
    ∷ arith sub
    ∷ arith mul
    ∷ arith div
    ∷ arith mod'
    ∷ arith beq
    ∷ arith ble
    ∷ []

unfoldable pub role_by : ℕ → Role
role_by n = get_or roles n no_role

unfoldable pub value_by : ℕ → Ptr → Option Ptr
value_by zero p = none
value_by (suc n) p = some p

unfoldable pub rule_of : List ℕ → Rule
rule_of ws = record { constructor = get_or ws 0 0; fields = get_or ws 1 0; value = ptr (get_or ws 2 0) (get_or ws 3 0) }

-- by kind: plain, constructor, recursor, structure
unfoldable pub form_by : List ℕ → ℕ → List ℕ → Form
unfolding rule_of
form_by all kind ws =
    get_or
    (plain
    ∷ constructor (get_or ws 8 0) (get_or ws 9 0)
    ∷ recursor (record {
      parameters = get_or ws 8 0;
      motives = get_or ws 9 0;
      minors = get_or ws 10 0;
      indices = get_or ws 11 0;
      rules = records_from 4 all rule_of (get_or ws 13 0) (get_or ws 14 0);
    })
    ∷ structure (get_or ws 8 0) (get_or ws 9 0)
    ∷ [])
    kind plain

unfoldable pub decl_of : List ℕ → List ℕ → Decl
unfolding form_by value_by role_by
decl_of all ws = record {
  form = form_by all (get_or ws 0 0) ws;
  levels = get_or ws 1 0;
  type = ptr (get_or ws 2 0) (get_or ws 3 0);
  value = value_by (get_or ws 4 0) (ptr (get_or ws 5 0) (get_or ws 6 0));
  role = role_by (get_or ws 7 0);
}

unfoldable pub entry_of : List ℕ → Entry
unfolding value_by
entry_of ws = record { type = ptr (get_or ws 0 0) (get_or ws 1 0); value = value_by (get_or ws 4 0) (ptr (get_or ws 2 0) (get_or ws 3 0)) }

-- declarations, rules, context, depth
abbrev pub env_of : List ℕ → List ℕ → List ℕ → ℕ → Env
env_of ds rs cs depth = record { decls = records_from 16 ds (decl_of rs) 0 (length ds / 16); context = records_from 5 cs entry_of 0 depth }
