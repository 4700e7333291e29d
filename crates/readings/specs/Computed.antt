-- Arithmetic, from what its premises say to the tree rule that it stands for: the number's tree, or the constant that holds true or false.
-- Assumes formed stores, a good term, and the premises of the rule's constructor.
use Rattle.std.specs.Prelude.{ℕ, ◌≡◌, refl, true, false, List, [], ◌∷◌}
use Rattle.std.proofs.Common.{sym, ap, ap₂, ◌∙◌, subst as along}
use Rattle.std.proofs.Math.Option.{some}
use Rattle.rules.specs.Rows.{Ptr, Row, Store}
use Rattle.rules.specs.Declarations.{Role, no_role, nat, zero', succ', true', false', quot_mk, quot_lift, quot_ind, arith, Decl, Env, holder}
use Rattle.rules.specs.Arithmetic.{Op, Computed, number, truth, compute}
use Rattle.rules.specs.Firings.{Result}
use Rattle.rules.specs.HeadTests.{as_number, operation_of, tried, Operands, operands_of, exactly_two, operands, outcome}
use Rattle.rules.specs.HeadRules.{Constant}
use Rattle.rules.specs.ReadOut.{Tree, const, app, num, Reads}
use Rattle.substitution.specs.Stores.{Formed, Good, Ext, ext_then}
use Rattle.substitution.specs.Reading.{reads_unique, reads_later}
use Rattle.substitution.specs.Applied.{apply, ReadAll, none_left, and_then}
use Rattle.substitution.specs.Fired.{ResultReads, number_reads, constant_reads}
use Rattle.safety.specs.Lists.{none_some, some_same}
use Rattle.safety.specs.Parts.{given_some, provided_some}
use Rattle.readings.specs.TreeRules.{Outcome, a_number, a_yes, a_no, Steps, AfterBoth}
use Rattle.readings.specs.Taken.{number_head}
use Rattle.readings.specs.Rules.{Given, SideRead}
use Rattle.readings.specs.Constants.{provided_true, constant_read}

-- THE OPERANDS

operation_of_lem : {o : Op} (r : Role) → operation_of r ≡ some o → r ≡ arith o
operation_of_lem no_role q = absurd (none_some q)
operation_of_lem nat q = absurd (none_some q)
operation_of_lem zero' q = absurd (none_some q)
operation_of_lem succ' q = absurd (none_some q)
operation_of_lem true' q = absurd (none_some q)
operation_of_lem false' q = absurd (none_some q)
operation_of_lem quot_mk q = absurd (none_some q)
operation_of_lem quot_lift q = absurd (none_some q)
operation_of_lem quot_ind q = absurd (none_some q)
operation_of_lem (arith o) q = ap arith (some_same q)

-- "exactly two arguments", with their trees
record Two (s : Store) (us : List Tree) (o : Op) (q : Operands) : Type 0 where
  first : Tree
  second : Tree
  all : us ≡ first ∷ second ∷ []
  same : o ≡ q.op
  good_first : Good s q.first
  reads_first : Reads s q.first first
  good_second : Good s q.second
  reads_second : Reads s q.second second

read_two : {s : Store} {xs : List Ptr} {us : List Tree} {q : Operands} (o : Op) → ReadAll s xs us → exactly_two o xs ≡ some q → Two s us o q
read_two o none_left q = absurd (none_some q)
read_two o (and_then y r none_left) q = absurd (none_some q)
read_two {s} o (and_then {u = u} y r (and_then {u = v} y' r' none_left)) q =
    along (Two s (u ∷ v ∷ []) o) (some_same q)
    (record { first = u; second = v; all = refl; same = refl; good_first = y; reads_first = r; good_second = y'; reads_second = r' })
read_two o (and_then y r (and_then y' r' (and_then y'' r'' rs))) q = absurd (none_some q)

-- THE OUTCOME

-- what is computed has a tree, which the rule's result reads as
record OutcomeRead (e : Env) (s : Store) (c : Computed) (r : Result) : Type 0 where
  tree : Tree
  reads : ResultReads s r tree
  is : Outcome e c tree

outcome_read : {r : Result} (e : Env) (s : Store) (c : Computed) → outcome e c ≡ some r → OutcomeRead e s c r
unfolding outcome
outcome_read e s (number n) q =
    along (OutcomeRead e s (number n)) (some_same q) (record { tree = num n; reads = number_reads; is = a_number })
outcome_read e s (truth true) q =
    let h = given_some (holder e true') _ q in
    along (OutcomeRead e s (truth true)) (some_same h.then) (record { tree = const h.it 0; reads = constant_reads; is = a_yes h.first })
outcome_read e s (truth false) q =
    let h = given_some (holder e false') _ q in
    along (OutcomeRead e s (truth false)) (some_same h.then) (record { tree = const h.it 0; reads = constant_reads; is = a_no h.first })

-- a side reduction that ended in a number
to_number : {e : Env} {base s s₁ : Store} {p : Ptr} {w : Row} {ys : List Ptr} {n : ℕ} (d : SideRead e base s p s₁ w ys) → as_number w ys ≡ some n →
    Steps e base d.asked (num n)
unfolding apply
to_number {e} {base} d q =
    let k = number_head d.reads_head d.reads_arguments q in
    let same = ap (apply d.head) k.alone ∙ sym k.is in
    along (Steps e base d.asked) same d.steps

-- the constant applied to the two operands, each in the tree that its side reduction was asked with
two_before : {c n : ℕ} {us : List Tree} {u a b a' b' : Tree} → apply (const c n) us ≡ u → us ≡ a ∷ b ∷ [] → a' ≡ a → b' ≡ b →
    app (app (const c n) a') b' ≡ u
unfolding apply
two_before {c} {n} e all p q = ap₂ (λ (a b : Tree). app (app (const c n) a) b) p q ∙ ap (apply (const c n)) (sym all) ∙ e

-- s: where the term stands; s₁: where the first operand is asked; s₂: where it is reduced; s₃: where the second is
pub arithmetic_read : {e : Env} {base s s₁ s₂ s₃ : Store} {t a b : Ptr} {D : Decl} {n x y : ℕ} {o : Op} {r : Result} {w w' : Row} {xs ys ys' : List Ptr} {u : Tree} →
    Formed s → Good s t → Reads s t u → Ext s s₁ → Constant e s t D n xs → operands e D xs ≡ some (operands_of o a b) →
    SideRead e base s₁ a s₂ w ys → as_number w ys ≡ some x → SideRead e base s₂ b s₃ w' ys' → as_number w' ys' ≡ some y → outcome e (compute o x y) ≡ some r →
    Given (AfterBoth e base u) s₃ r []
unfolding operands apply
arithmetic_read {e} {s₃ = s₃} {D = D} {n} {x} {y} {o} {xs = xs} f g r z h q d nx d' ny p =
    let k = constant_read f g r h in
    let op = given_some (operation_of D.role) _ q in
    let two = read_two op.it k.arguments (provided_some (tried e op.it) (exactly_two op.it xs) op.then) in
    let first = reads_unique d.reads_asked (reads_later f z two.good_first two.reads_first) in
    let second = reads_unique d'.reads_asked (reads_later f (ext_then z d.more) two.good_second two.reads_second) in
    let out = outcome_read e s₃ (compute o x y) p in
    record {
      result = out.tree;
      rest = [];
      reads_result = out.reads;
      reads_rest = none_left;
      rule = record {
        first = d.asked;
        second = d'.asked;
        x = x;
        y = y;
        rule = record {
          declaration = h.named;
          levels = n;
          is_before = two_before k.is two.all first second;
          operation = o;
          is_tried = ap (tried e) (sym two.same) ∙ provided_true (tried e op.it) (exactly_two op.it xs) op.then;
          is_operation = ap (λ (z : Decl). z.role) h.declared ∙ operation_of_lem D.role op.first ∙ ap arith two.same;
          outcome = out.is;
        };
        first_steps = to_number d nx;
        second_steps = to_number d' ny;
      };
    }
