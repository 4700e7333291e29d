-- The head rules on plain trees, in the shape that the Lean reference has: a record for each rule, then a step by one of them, then steps in a row.
-- No budget stands here, and rows and pointers only where a declaration, a rule or a context record has a value: its tree is read in the rows s.
-- In each record `before` is the tree that the rule is at and `after` the tree that it gives; where the rule asks for a side reduction,
-- `asked` is what is reduced and `found` what it must end in. Definitions only.
use Rattle.std.specs.Prelude.{ℕ, zero, suc, ◌+◌, ◌-◌, ◌≤◌, ◌≡◌, true, false, List, [], ◌∷◌, ◌++◌, length, take, drop}
use Rattle.std.proofs.Math.Option.{some}
use Rattle.rules.specs.Rows.{Ptr, Store}
use Rattle.rules.specs.Declarations.{zero', succ', true', false', quot_mk, arith, Rule, Recursor, constructor, recursor, Env, nth, decl_at, holder, value_of}
use Rattle.rules.specs.Arithmetic.{Op, Computed, number, truth, compute}
use Rattle.rules.specs.HeadTests.{quot_position, before_indices, major_position, rule_for, tried}
use Rattle.rules.specs.ReadOut.{Tree, var, const, app, lam, let', proj, num, shift, subst, Reads}
use Rattle.substitution.specs.Applied.{apply}

-- RULES WITHOUT A SIDE REDUCTION

-- "Lambda, at least one argument: one argument a time, replaced into the body": (λ type. body) argument rest.. is body[argument] rest..
pub record Beta (before after : Tree) : Type 0 where
  pub type : Tree
  pub body : Tree
  pub argument : Tree
  pub rest : List Tree
  pub is_before : apply (lam type body) (argument ∷ rest) ≡ before
  pub is_after : apply (subst argument 0 body) rest ≡ after

-- "Let: its value .. into the body": (let type := value in body) rest.. is body[value] rest..
pub record Zeta (before after : Tree) : Type 0 where
  pub type : Tree
  pub value : Tree
  pub body : Tree
  pub rest : List Tree
  pub is_before : apply (let' type value body) rest ≡ before
  pub is_after : apply (subst value 0 body) rest ≡ after

-- "Variable i with a context value: the value shifted i + 1."
pub record LocalDelta (e : Env) (s : Store) (before after : Tree) : Type 0 where
  pub index : ℕ
  pub at : Ptr
  pub value : Tree
  pub rest : List Tree
  pub is_before : apply (var index) rest ≡ before
  pub has_value : value_of e index ≡ some at
  pub reads_value : Reads s at value
  pub is_after : apply (shift (suc index) 0 value) rest ≡ after

-- "Delta: a value and equal level counts."
pub record Delta (e : Env) (s : Store) (before after : Tree) : Type 0 where
  pub declaration : ℕ
  pub levels : ℕ
  pub at : Ptr
  pub value : Tree
  pub rest : List Tree
  pub is_before : apply (const declaration levels) rest ≡ before
  pub equal_levels : (decl_at e.decls declaration).levels ≡ levels
  pub has_value : (decl_at e.decls declaration).value ≡ some at
  pub reads_value : Reads s at value
  pub is_after : apply value rest ≡ after

-- RULES WITH A SIDE REDUCTION

-- "Projection: the structure's side reduction must end in a constructor with an argument at parameters + index; that argument."
pub record Projection (e : Env) (before asked found after : Tree) : Type 0 where
  pub type : ℕ
  pub index : ℕ
  pub rest : List Tree
  pub is_before : apply (proj type index asked) rest ≡ before
  pub named : ℕ
  pub levels : ℕ
  pub arguments : List Tree
  pub is_found : apply (const named levels) arguments ≡ found
  pub parameters : ℕ
  pub fields : ℕ
  pub is_constructor : (decl_at e.decls named).form ≡ constructor parameters fields
  pub field : Tree
  pub is_field : nth arguments (parameters + index) ≡ some field
  pub is_after : apply field rest ≡ after

-- "Quot.lift: major at position 5 (from 0), Quot.ind: 4; side reduction must end in Quot.mk with exactly 3 arguments.
-- Result: argument 3 applied to the third, rest after the major."
pub record Quotient (e : Env) (before asked found after : Tree) : Type 0 where
  pub declaration : ℕ
  pub levels : ℕ
  pub arguments : List Tree
  pub is_before : apply (const declaration levels) arguments ≡ before
  pub position : ℕ
  pub is_position : quot_position (decl_at e.decls declaration).role ≡ some position
  pub function : Tree
  pub is_function : nth arguments 3 ≡ some function
  pub is_major : nth arguments position ≡ some asked
  pub made : ℕ
  pub made_levels : ℕ
  pub type : Tree
  pub relation : Tree
  pub element : Tree
  pub is_found : apply (const made made_levels) (type ∷ relation ∷ element ∷ []) ≡ found
  pub is_mk : (decl_at e.decls made).role ≡ quot_mk
  pub is_after : apply function (element ∷ drop (suc position) arguments) ≡ after

-- a reduced major as a constructor with its arguments: itself, or "A number becomes zero .. or succ of the number below .. if that role is held"
pub data StandsFor (e : Env) : Tree → ℕ → List Tree → Type 0 where
  itself : {c : ℕ} {us : List Tree} {t : Tree} (n : ℕ) → apply (const c n) us ≡ t → StandsFor e t c us
  as_zero : {c : ℕ} → holder e zero' ≡ some c → StandsFor e (num zero) c []
  as_succ : {c n : ℕ} → holder e succ' ≡ some c → StandsFor e (num (suc n)) c (num n ∷ [])

-- "Recursor, counts of levels equal: major at parameters + motives + minors + indices, reduced. .. The first rule for the constructor counts,
-- and needs at least its field count of arguments. Result: rule value, the first parameters + motives + minors arguments, the
-- constructor's last fields, the rest."
pub record Iota (e : Env) (s : Store) (before asked found after : Tree) : Type 0 where
  pub declaration : ℕ
  pub levels : ℕ
  pub arguments : List Tree
  pub is_before : apply (const declaration levels) arguments ≡ before
  pub equal_levels : (decl_at e.decls declaration).levels ≡ levels
  pub of : Recursor
  pub is_recursor : (decl_at e.decls declaration).form ≡ recursor of
  pub is_major : nth arguments (major_position of) ≡ some asked
  pub made : ℕ
  pub made_of : List Tree
  pub stands_for : StandsFor e found made made_of
  pub rule : Rule
  pub is_rule : rule_for made of.rules ≡ some rule
  pub enough : rule.fields ≤ length made_of
  pub value : Tree
  pub reads_value : Reads s rule.value value
  pub is_after : apply value (take (before_indices of) arguments ++ drop (length made_of - rule.fields) made_of ++ drop (suc (major_position of)) arguments) ≡ after

-- a number is itself, yes and no are the constants that hold true and false
pub data Outcome (e : Env) : Computed → Tree → Type 0 where
  a_number : {n : ℕ} → Outcome e (number n) (num n)
  a_yes : {c : ℕ} → holder e true' ≡ some c → Outcome e (truth true) (const c 0)
  a_no : {c : ℕ} → holder e false' ≡ some c → Outcome e (truth false) (const c 0)

-- "Arithmetic role with exactly two arguments: both reduce to numbers"; "beq and ble are tried only if roles true and false are held".
-- `compute` of the rules has what sub, div and mod do at 0.
pub record Arithmetic (e : Env) (before first second : Tree) (x y : ℕ) (after : Tree) : Type 0 where
  pub declaration : ℕ
  pub levels : ℕ
  pub is_before : app (app (const declaration levels) first) second ≡ before
  pub operation : Op
  pub is_operation : (decl_at e.decls declaration).role ≡ arith operation
  pub is_tried : tried e operation ≡ true
  pub outcome : Outcome e (compute operation x y) after

-- STEPS

mutual
  -- one rule, its side reductions among the premises
  pub data Step (e : Env) (s : Store) : Tree → Tree → Type 0 where
    beta : {t u : Tree} → Beta t u → Step e s t u
    zeta : {t u : Tree} → Zeta t u → Step e s t u
    local_delta : {t u : Tree} → LocalDelta e s t u → Step e s t u
    projection : {t a f u : Tree} → Projection e t a f u → Steps e s a f → Step e s t u
    quotient : {t a f u : Tree} → Quotient e t a f u → Steps e s a f → Step e s t u
    iota : {t a f u : Tree} → Iota e s t a f u → Steps e s a f → Step e s t u
    arithmetic : {t a b u : Tree} {x y : ℕ} → Arithmetic e t a b x y u → Steps e s a (num x) → Steps e s b (num y) → Step e s t u
    delta : {t u : Tree} → Delta e s t u → Step e s t u

  pub data Steps (e : Env) (s : Store) : Tree → Tree → Type 0 where
    done : {t : Tree} → Steps e s t t
    then : {t u v : Tree} → Step e s t u → Steps e s u v → Steps e s t v

-- a rule together with the side reduction that it asked for
pub record AfterSide (e : Env) (s : Store) (P : Tree → Tree → Tree → Tree → Type 0) (before after : Tree) : Type 0 where
  pub asked : Tree
  pub found : Tree
  pub rule : P before asked found after
  pub steps : Steps e s asked found

-- arithmetic together with its two: "first then second"
pub record AfterBoth (e : Env) (s : Store) (before after : Tree) : Type 0 where
  pub first : Tree
  pub second : Tree
  pub x : ℕ
  pub y : ℕ
  pub rule : Arithmetic e before first second x y after
  pub first_steps : Steps e s first (num x)
  pub second_steps : Steps e s second (num y)
