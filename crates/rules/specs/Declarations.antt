-- Declarations, roles, recursor rules, the context.
use Rattle.std.specs.Prelude.{ℕ, zero, suc, ◌-◌, Bool, true, false, List, [], ◌∷◌, length, get_or, eqb}
use Rattle.std.proofs.Math.Option.{Option, none, some}
use Rattle.rules.specs.Rows.{Ptr, blank}
use Rattle.rules.specs.Arithmetic.{Op, add, sub, mul, div, mod', beq, ble}

pub data Role : Type 0 where
  no_role nat zero' succ' true' false' quot_mk quot_lift quot_ind : Role
  arith : Op → Role

-- "rules (constructor, field count, closed value)"
pub record Rule : Type 0 where
  pub constructor : ℕ
  pub fields : ℕ
  pub value : Ptr

-- the K flag is 0 in whatever is accepted, so none stands here
pub record Recursor : Type 0 where
  pub parameters : ℕ
  pub motives : ℕ
  pub minors : ℕ
  pub indices : ℕ
  pub rules : List Rule

pub data Form : Type 0 where
  plain : Form
  constructor : (parameters fields : ℕ) → Form
  recursor : Recursor → Form
  structure : (parameters its_constructor : ℕ) → Form

-- "Declarations: kind, level count .., closed type, closed value or none, role."
pub record Decl : Type 0 where
  pub form : Form
  pub levels : ℕ
  pub type : Ptr
  pub value : Option Ptr
  pub role : Role

-- "The context is lent as a list of records, oldest first: a type and perhaps a value"
pub record Entry : Type 0 where
  pub type : Ptr
  pub value : Option Ptr

-- what a reduction is given beside the rows
pub record Env : Type 0 where
  pub decls : List Decl
  pub context : List Entry

-- the element at a position, from 0
unfoldable pub nth : {A : Type 0} → List A → ℕ → Option A
nth [] i = none
nth (x ∷ xs) zero = some x
nth (x ∷ xs) (suc i) = nth xs i

-- past the list, which no accepted row names, stands an axiom without a role
unfoldable pub decl_at : List Decl → ℕ → Decl
decl_at ds d = get_or ds d (record { form = plain; levels = 0; type = blank; value = none; role = no_role })

abbrev pub op_code : Op → ℕ
op_code add = 9
op_code sub = 10
op_code mul = 11
op_code div = 12
op_code mod' = 13
op_code beq = 14
op_code ble = 15

abbrev pub role_code : Role → ℕ
role_code no_role = 0
role_code nat = 1
role_code zero' = 2
role_code succ' = 3
role_code true' = 4
role_code false' = 5
role_code quot_mk = 6
role_code quot_lift = 7
role_code quot_ind = 8
role_code (arith o) = op_code o

-- the number of the declaration that holds a role: "each held at most once"
abbrev pub holder_on : Bool → Option ℕ → Option ℕ → Option ℕ
holder_on true here later = here
holder_on false here later = later

unfoldable pub holder_from : ℕ → Role → List Decl → Option ℕ
holder_from n r [] = none
holder_from n r (d ∷ ds) = holder_on (eqb (role_code d.role) (role_code r)) (some n) (holder_from (suc n) r ds)

unfoldable pub holder : Env → Role → Option ℕ
unfolding holder_from
holder e r = holder_from 0 r e.decls

-- the context value of variable i: index 0 is the newest record
abbrev pub value_on : Option Entry → Option Ptr
value_on none = none
value_on (some x) = x.value

unfoldable pub value_of : Env → ℕ → Option Ptr
unfolding nth
value_of e i = value_on (nth e.context (length e.context - suc i))
