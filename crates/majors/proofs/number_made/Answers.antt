-- `majors::number_made` meets its contract: zero where the number is 0, else succ of the number below; nothing where that role is not held.
-- Assumes nothing.
use Prim.Native.Nat.{◌-◌}
use native.Mathlib.Omega.{arith}
use mathlib.Core.Path.{sym, ap, ◌∙◌}
use Rattle.arith.specs.Meaning.{value_of}
use Rattle.arith.proofs.Determined.{value_of_words}
use Rattle.majors.proofs.Constructing.{zero_nothing, zero_made_by, succ_nothing, succ_made_by}
use Rattle.majors.proofs.number_made.Goals as goal

pub returns-in_default : goal.returns-in_default
returns-in_default c = zero_nothing _ _ _ _ c.requires _ (sym c.from-v.ensures ∙ c.if-v-eq0.true) (sym c.holder.ensures ∙ c.in_default.is)

pub returns-then-v-eq0 : goal.returns-then-v-eq0
returns-then-v-eq0 c =
    rw c.made_from.ensures
    (zero_made_by _ _ _ _ c.requires _ (sym c.from-v.ensures ∙ c.if-v-eq0.true) _ (sym c.holder.ensures ∙ c.in-Some.is) _ _ c.make_const-out.ensures)

pub returns-in_default-holder : goal.returns-in_default-holder
returns-in_default-holder c =
    succ_nothing _ _ _ _ c.requires _ (λ q. c.if-v-eq0.false (c.from-v.ensures ∙ q)) (sym c.holder-2.ensures ∙ c.in_default-holder.is)

pub returns : goal.returns
returns c =
    rw c.made_from-2.ensures
    (succ_made_by _ _ _ _ c.requires _ (λ q. c.if-v-eq0.false (c.from-v.ensures ∙ q)) (omega (arith, c.from-v.ensures, c.from-v.type_inv)) _
    (sym c.holder-2.ensures ∙ c.in-Some-holder.is) _
    (ap value_of c.from.ensures ∙ value_of_words _ ∙ ap (◌- 1) c.from-v.ensures) _ _ c.write_succ-out.ensures)
