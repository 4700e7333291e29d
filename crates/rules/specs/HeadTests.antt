-- What a head rule tests without a reduction: which declaration, role, count of arguments or number stands there, and what the rule takes from it.
use Rattle.std.specs.Prelude.{ℕ, zero, suc, ◌+◌, ◌-◌, Bool, true, false, List, [], ◌∷◌, ◌++◌, length, take, drop, eqb, leb}
use Rattle.std.proofs.Math.Option.{Option, none, some}
use Rattle.rules.specs.Kinds.{sort, const, app, lam, pi, let', proj, num}
use Rattle.rules.specs.Rows.{Ptr, ptr, blank, Row, var, node, leaf, Store}
use Rattle.rules.specs.Declarations.{Role, no_role, nat, zero', succ', true', false', quot_mk, quot_lift, quot_ind, arith, Rule, Recursor, Form, plain, constructor, recursor, structure, Decl, Env, nth, decl_at, role_code, holder}
use Rattle.rules.specs.Arithmetic.{Op, add, sub, mul, div, mod', beq, ble, Computed, number, truth}
use Rattle.rules.specs.Firings.{Result, a_number, a_constant}

abbrev pub given : {A B : Type 0} → Option A → (A → Option B) → Option B
given none next = none
given (some a) next = next a

abbrev pub provided : {A : Type 0} → Bool → Option A → Option A
provided true x = x
provided false x = none

abbrev pub held : Option ℕ → Bool
held none = false
held (some d) = true

abbrev pub both : Bool → Bool → Bool
both true b = b
both false b = false

-- the declaration that a constant names
unfoldable pub as_constant : Row → Option ℕ
as_constant (var i) = none
as_constant (node (sort l) x y z) = none
as_constant (node (const d n) x y z) = some d
as_constant (node app x y z) = none
as_constant (node lam x y z) = none
as_constant (node pi x y z) = none
as_constant (node let' x y z) = none
as_constant (node (proj d i) x y z) = none
as_constant (node (num n) x y z) = none

-- a number, with no arguments
unfoldable pub as_number : Row → List Ptr → Option ℕ
as_number (var i) ys = none
as_number (node (sort l) x y z) ys = none
as_number (node (const d n) x y z) ys = none
as_number (node app x y z) ys = none
as_number (node lam x y z) ys = none
as_number (node pi x y z) ys = none
as_number (node let' x y z) ys = none
as_number (node (proj d i) x y z) ys = none
as_number (node (num n) x y z) [] = some n
as_number (node (num n) x y z) (a ∷ ys) = none

-- Projection: "a constructor with an argument at parameters + index"
abbrev pub parameters_of : Form → Option ℕ
parameters_of plain = none
parameters_of (constructor ps fs) = some ps
parameters_of (recursor r) = none
parameters_of (structure ps c) = none

unfoldable pub field_at : Env → Row → List Ptr → ℕ → Option Ptr
field_at e w ys i =
    given (as_constant w) λ c.
    given (parameters_of (decl_at e.decls c).form) λ ps.
    nth ys (ps + i)

-- "Quot.lift: major at position 5 (from 0), Quot.ind: 4"
abbrev pub quot_position : Role → Option ℕ
quot_position no_role = none
quot_position nat = none
quot_position zero' = none
quot_position succ' = none
quot_position true' = none
quot_position false' = none
quot_position quot_mk = none
quot_position quot_lift = some 5
quot_position quot_ind = some 4
quot_position (arith o) = none

-- argument 3, the major, and the rest after the major
pub record QuotParts : Type 0 where
  pub function : Ptr
  pub major : Ptr
  pub rest : List Ptr

abbrev pub quot_parts_of : Ptr → Ptr → List Ptr → QuotParts
quot_parts_of f x zs = record { function = f; major = x; rest = zs }

unfoldable pub quot_parts : Decl → List Ptr → Option QuotParts
quot_parts D xs =
    given (quot_position D.role) λ n.
    given (nth xs 3) λ f.
    given (nth xs n) λ x.
    some (quot_parts_of f x (drop (suc n) xs))

-- "Quot.mk with exactly 3 arguments": the third
abbrev pub third_of_three : List Ptr → Option Ptr
third_of_three [] = none
third_of_three (a ∷ []) = none
third_of_three (a ∷ b ∷ []) = none
third_of_three (a ∷ b ∷ c ∷ []) = some c
third_of_three (a ∷ b ∷ c ∷ d ∷ ys) = none

unfoldable pub quot_made : Env → Row → List Ptr → Option Ptr
quot_made e w ys =
    given (as_constant w) λ c.
    provided (eqb (role_code (decl_at e.decls c).role) (role_code quot_mk)) (third_of_three ys)

-- "Recursor, counts of levels equal: major at parameters + motives + minors + indices"
abbrev pub recursor_of : Form → Option Recursor
recursor_of plain = none
recursor_of (constructor ps fs) = none
recursor_of (recursor r) = some r
recursor_of (structure ps c) = none

abbrev pub before_indices : Recursor → ℕ
before_indices r = r.parameters + r.motives + r.minors

abbrev pub major_position : Recursor → ℕ
major_position r = before_indices r + r.indices

pub record RecParts : Type 0 where
  pub of : Recursor
  pub major : Ptr

abbrev pub rec_parts_of : Recursor → Ptr → RecParts
rec_parts_of r x = record { of = r; major = x }

unfoldable pub rec_parts : Decl → ℕ → List Ptr → Option RecParts
rec_parts D n xs =
    given (provided (eqb D.levels n) (recursor_of D.form)) λ r.
    given (nth xs (major_position r)) λ x.
    some (rec_parts_of r x)

-- the reduced major as a constructor: its declaration, its arguments, and the rows that are written for it
pub record Made : Type 0 where
  pub declaration : ℕ
  pub arguments : List Ptr
  pub rows : List Row

abbrev pub made : ℕ → List Ptr → List Row → Made
made c ys ws = record { declaration = c; arguments = ys; rows = ws }

-- "A number becomes zero (1 row) or succ of the number below (constant, number, application) if that role is held, else stays"
unfoldable pub number_made : Env → Store → ℕ → Option Made
number_made e s zero =
    given (holder e zero') λ c.
    some (made c [] (leaf (const c 0) ∷ []))
number_made e s (suc n) =
    given (holder e succ') λ c.
    let function : Ptr = ptr (length s) 0 in
    let below : Ptr = ptr (suc (length s)) 0 in
    some (made c (below ∷ []) (leaf (const c 0) ∷ leaf (num n) ∷ node app function below blank ∷ []))

abbrev pub made_on : Env → Store → Row → List Ptr → Option ℕ → Option Made
made_on e s w ys none = given (as_constant w) λ c. some (made c ys [])
made_on e s w ys (some n) = number_made e s n

unfoldable pub as_constructor : Env → Store → Row → List Ptr → Option Made
as_constructor e s w ys = made_on e s w ys (as_number w ys)

-- "The first rule for the constructor counts, and needs at least its field count of arguments."
abbrev pub rule_on : Bool → Option Rule → Option Rule → Option Rule
rule_on true here later = here
rule_on false here later = later

unfoldable pub rule_for : ℕ → List Rule → Option Rule
rule_for c [] = none
rule_for c (ρ ∷ rs) = rule_on (eqb ρ.constructor c) (some ρ) (rule_for c rs)

abbrev pub last_of : ℕ → List Ptr → Option (List Ptr)
last_of n ys = provided (leb n (length ys)) (some (drop (length ys - n) ys))

-- "Result: rule value, the first parameters + motives + minors arguments, the constructor's last fields, the rest."
pub record Ruled : Type 0 where
  pub value : Ptr
  pub arguments : List Ptr

abbrev pub ruled : Ptr → List Ptr → Ruled
ruled v zs = record { value = v; arguments = zs }

unfoldable pub by_rule : Recursor → List Ptr → Made → Option Ruled
by_rule r xs c =
    given (rule_for c.declaration r.rules) λ ρ.
    given (last_of ρ.fields c.arguments) λ fs.
    some (ruled ρ.value (take (before_indices r) xs ++ fs ++ drop (suc (major_position r)) xs))

-- "Arithmetic role with exactly two arguments"; "beq and ble are tried only if roles true and false are held"
abbrev pub operation_of : Role → Option Op
operation_of no_role = none
operation_of nat = none
operation_of zero' = none
operation_of succ' = none
operation_of true' = none
operation_of false' = none
operation_of quot_mk = none
operation_of quot_lift = none
operation_of quot_ind = none
operation_of (arith o) = some o

abbrev pub tried : Env → Op → Bool
tried e add = true
tried e sub = true
tried e mul = true
tried e div = true
tried e mod' = true
tried e beq = both (held (holder e true')) (held (holder e false'))
tried e ble = both (held (holder e true')) (held (holder e false'))

pub record Operands : Type 0 where
  pub op : Op
  pub first : Ptr
  pub second : Ptr

abbrev pub operands_of : Op → Ptr → Ptr → Operands
operands_of o a b = record { op = o; first = a; second = b }

abbrev pub exactly_two : Op → List Ptr → Option Operands
exactly_two o [] = none
exactly_two o (a ∷ []) = none
exactly_two o (a ∷ b ∷ []) = some (operands_of o a b)
exactly_two o (a ∷ b ∷ c ∷ xs) = none

unfoldable pub operands : Env → Decl → List Ptr → Option Operands
operands e D xs =
    given (operation_of D.role) λ o.
    provided (tried e o) (exactly_two o xs)

-- a number, or the constant that holds true or false
unfoldable pub outcome : Env → Computed → Option Result
outcome e (number n) = some (a_number n)
outcome e (truth true) = given (holder e true') λ c. some (a_constant c)
outcome e (truth false) = given (holder e false') λ c. some (a_constant c)

-- "Delta: a value and equal level counts."
unfoldable pub unfolds : Decl → ℕ → Option Ptr
unfolds D n = provided (eqb D.levels n) D.value
