-- `reduce::tried_op` meets its contract: beq and ble where both truth values are held; every other role by the check alone.
-- Assumes nothing.
use mathlib.Core.Logic.{◌⊎◌, ⊎_elim}
use mathlib.Core.Path.{◌≡◌, refl, ap}
use mathlib.Core.Option.{some}
use Rattle.std.specs.Prelude.{ℕ, Option as Maybe, Some, None}
use Rattle.rules.specs.Declarations.{Env, holder, true', false'}
use Rattle.rules.specs.HeadTests.{held, both, operation_of, tried}
use Rattle.arith.specs.declared.Op.{Op}
use Rattle.arith.specs.declared.Op.TheVariants.{Beq, Ble}
use Rattle.arith.specs.Meaning.{op_of}
use Rattle.tables.specs.declared.Holders.{Holders}
use Rattle.tables.specs.declared.codes.Role.{Role}
use Rattle.tables.specs.declared.codes.Role.TheVariants.{True, False}
use Rattle.tables.specs.Codes.{role_as}
use Rattle.tables.specs.Read.{found, found_number, holder_in}
use Rattle.rows.specs.Words.{ite}
use Rattle.reduce.specs.Members.{OpTried}
use Rattle.reduce.proofs.tried_op.Goals as goal

-- o, if both are there
abbrev with_both : Maybe ℕ → Maybe ℕ → Op → Maybe Op
with_both None y o = None
with_both (Some c) None o = None
with_both (Some c) (Some d) o = Some o

-- beq and ble ask for both
asks : (e : Env) {o : Op} → (o ≡ Beq) ⊎ (o ≡ Ble) → tried e (op_of o) ≡ both (held (holder e true')) (held (holder e false'))
asks e = ⊎_elim (λ z. ap (λ (p : Op). tried e (op_of p)) z) (λ z. ap (λ (p : Op). tried e (op_of p)) z)

-- with what the table has for true and for false
on_truths : {hs : Holders} {role : Role} {o : Op} → some (op_of o) ≡ operation_of (role_as role) → (o ≡ Beq) ⊎ (o ≡ Ble) →
    (x y : Maybe ℕ) → x ≡ holder_in hs True → y ≡ holder_in hs False → OpTried hs (Some role) (with_both x y o)
on_truths {o = o} of test x y p q = record {
  is = λ e agrees. rw (← of, asks e test, agrees.holds True, agrees.holds False, ← p, ← q) (here x y);
}
  where
    here : (x y : Maybe ℕ) →
        found op_of (with_both x y o) ≡ ite (both (held (found_number x)) (held (found_number y))) (some (op_of o)) (found op_of None)
    here None y = refl
    here (Some c) None = refl
    here (Some c) (Some d) = refl

pub returns-in_err-holder-in-Beq : goal.returns-in_err-holder-in-Beq
returns-in_err-holder-in-Beq c =
    rw (c.from_residual-in_err-holder-in-Beq.ensures, c.in_ok-role.was)
    (on_truths c.in_ok-op.ensures c.in-Beq.is None _ c.in_err-holder-in-Beq.ensures refl)

pub returns-in_err-holder-in-Beq-2 : goal.returns-in_err-holder-in-Beq-2
returns-in_err-holder-in-Beq-2 c =
    rw (c.from_residual-in_err-holder-in-Beq-2.ensures, c.in_ok-role.was)
    (on_truths c.in_ok-op.ensures c.in-Beq.is (Some _) None c.in_ok-holder-in-Beq.ensures c.in_err-holder-in-Beq-2.ensures)

pub returns-in_ok-holder-in-Beq-2 : goal.returns-in_ok-holder-in-Beq-2
returns-in_ok-holder-in-Beq-2 c =
    rw c.in_ok-role.was
    (on_truths c.in_ok-op.ensures c.in-Beq.is (Some _) (Some _) c.in_ok-holder-in-Beq.ensures c.in_ok-holder-in-Beq-2.ensures)
