-- Arithmetic's tests against the rules': an operation that the code tries is the rules' and is tried there, and what is tried has an outcome.
-- Assumes a table of holders that the environment agrees with.
use Prim.Native.Nat.{ℕ, ◌/◌, ◌-◌, ◌%◌, ◌^◌}
use mathlib.Core.Path.{◌≡◌, refl, sym, ap, ◌∙◌}
use mathlib.Core.Bool.{Bool, true, false}
use mathlib.Core.List.{List}
use mathlib.Core.Option.{Option, none, some}
use lib.Dec.{leb}
use Rattle.std.specs.Prelude.{Option as Maybe, Some, None}
use Rattle.rules.specs.Rows.{Ptr}
use Rattle.rules.specs.Arithmetic.{Op, add, sub, mul, div, mod', beq, ble, Computed, number, truth, compute}
use Rattle.rules.specs.Declarations.{Role, true', false', Decl, Env, holder}
use Rattle.rules.specs.Firings.{Result, a_number, a_constant}
use Rattle.rules.specs.HeadTests.{held, both, operation_of, tried, operands, outcome}
use Rattle.arith.specs.declared.Op as code
use Rattle.arith.specs.Meaning as said
use Rattle.arith.specs.Meaning.{Outcome, words, refusal, pick, op_of, meaning, settled}
use Rattle.rows.specs.Words.{ite}
use Rattle.tables.specs.declared.Holders.{Holders}
use Rattle.tables.specs.declared.codes.Role as codes
use Rattle.tables.specs.declared.codes.Role.TheVariants.{True, False}
use Rattle.tables.specs.Codes.{role_on}
use Rattle.tables.specs.Read.{found, found_number, holder_in}
use Rattle.majors.specs.Majors.{Agrees, TruthHeld}
use Rattle.cycle.proofs.Tests.{not_an_operation, truths_not_held}
use Rattle.reduce.specs.Members.{only, OpTried}

-- an operation that is tried for a role
pub record Operation (e : Env) (ρ : Role) (o : code.Op) : Type 0 where
  pub of : operation_of ρ ≡ some (op_of o)
  pub tries : tried e (op_of o) ≡ true

-- what an outcome is, where there is one
pub record Comes (x : Option Result) : Type 0 where
  pub to : Result
  pub is : x ≡ some to

module _ {e : Env} {hs : Holders} (agrees : Agrees e hs) where
  -- WHAT THE CODE TRIES

  module _ (D : Decl) {role : Maybe codes.Role} (read : D.role ≡ role_on role) where
    -- what the code tried, as an answer on the rules' role
    tried_as : {r : Maybe code.Op} → OpTried hs role r → found op_of r ≡ only (tried e) (operation_of D.role)
    tried_as tries = tries.is e agrees ∙ ap (λ (ρ : Role). only (tried e) (operation_of ρ)) (sym read)

    pub tried_operation : {o : code.Op} → OpTried hs role (Some o) → Operation e D.role o
    tried_operation {o} tries = on (operation_of D.role) refl (tried_as tries)
      where
        on_test : (p : Op) → operation_of D.role ≡ some p → (b : Bool) → tried e p ≡ b → some (op_of o) ≡ ite b (some p) none →
            Operation e D.role o
        on_test p z true t q =
            let is : p ≡ op_of o = cc in
            record { of = z ∙ ap some is; tries = sym (ap (tried e) is) ∙ t }
        on_test p z false t q = cc

        on : (x : Option Op) → operation_of D.role ≡ x → some (op_of o) ≡ only (tried e) x → Operation e D.role o
        on none z q = cc
        on (some p) z q = on_test p z (tried e p) refl q

    pub no_operands : OpTried hs role None → (xs : List Ptr) → operands e D xs ≡ none
    no_operands tries xs = on (operation_of D.role) refl (tried_as tries)
      where
        on_test : (p : Op) → operation_of D.role ≡ some p → (b : Bool) → tried e p ≡ b → none ≡ ite b (some p) none → operands e D xs ≡ none
        on_test p z true t q = cc
        on_test p z false t q = truths_not_held e D xs z t

        on : (x : Option Op) → operation_of D.role ≡ x → none ≡ only (tried e) x → operands e D xs ≡ none
        on none z q = not_an_operation e D xs z
        on (some p) z q = on_test p z (tried e p) refl q

  -- WHAT AN OPERATION COMES TO

  abbrev truths_held : Bool
  truths_held = both (held (holder e true')) (held (holder e false'))

  -- beq and ble alone come to a truth value, and these are tried only where both are held
  held_for : (o : Op) → tried e o ≡ true → (a b : ℕ) (v : Bool) → compute o a b ≡ truth v → truths_held ≡ true
  unfolding compute
  held_for add t a b v q = cc
  held_for sub t a b v q = cc
  held_for mul t a b v q = cc
  held_for div t a b v q = cc
  held_for mod' t a b v q = cc
  held_for beq t a b v q = t
  held_for ble t a b v q = t

  truth_comes : truths_held ≡ true → (v : Bool) → Comes (outcome e (truth v))
  unfolding outcome
  truth_comes h v = on (holder e true') (holder e false') refl refl h v
    where
      on : (x y : Option ℕ) → holder e true' ≡ x → holder e false' ≡ y → both (held x) (held y) ≡ true → (v : Bool) → Comes (outcome e (truth v))
      on none y p r h v = cc
      on (some c) none p r h v = cc
      on (some c) (some d) p r h true = record { to = a_constant c; is = rw p refl }
      on (some c) (some d) p r h false = record { to = a_constant d; is = rw r refl }

  pub outcome_comes : (o : Op) → tried e o ≡ true → (a b : ℕ) → Comes (outcome e (compute o a b))
  unfolding outcome
  outcome_comes o t a b = on (compute o a b) refl
    where
      on : (c : Computed) → compute o a b ≡ c → Comes (outcome e c)
      on (number n) q = record { to = a_number n; is = refl }
      on (truth v) q = truth_comes (held_for o t a b v q) v

  both_held : truths_held ≡ true → (holder_in hs True ≡ None → ⊥) × (holder_in hs False ≡ None → ⊥)
  both_held h = on (holder_in hs True) (holder_in hs False) (rw (agrees.holds True, agrees.holds False) at h)
    where
      on : (x y : Maybe ℕ) → both (held (found_number x)) (held (found_number y)) ≡ true → (x ≡ None → ⊥) × (y ≡ None → ⊥)
      on None y h = cc
      on (Some c) None h = cc
      on (Some c) (Some d) h = (λ z. cc, λ z. cc)

  no_truth : (n : ℕ) {v : Bool} → said.truth v ≡ settled (number n) → ⊥
  unfolding settled
  no_truth n {v} = on (leb n (2 ^ 64 - 1))
    where
      on : (b : Bool) → said.truth v ≡ pick b (words (n % 2 ^ 32) (n / 2 ^ 32)) (refusal 7) → ⊥
      on true q = cc
      on false q = cc

  pub truth_held : (o : Op) → tried e o ≡ true → (a b : ℕ) (r : Outcome) → meaning r ≡ settled (compute o a b) → TruthHeld hs r
  truth_held o t a b r m = record { both = λ v z. on (compute o a b) refl v (sym (ap meaning z) ∙ m) }
    where
      on : (c : Computed) → compute o a b ≡ c → (v : Bool) → said.truth v ≡ settled c → (holder_in hs True ≡ None → ⊥) × (holder_in hs False ≡ None → ⊥)
      on (number n) q v w = absurd (no_truth n w)
      on (truth u) q v w = both_held (held_for o t a b u q)
