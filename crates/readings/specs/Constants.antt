-- The rules of a constant, from what their premises say to the tree rules that they stand for: quotients, recursors, arithmetic, delta.
-- Assumes formed stores, a good term, and the premises of the rule's constructor; what stands in the environment is good in `base`.
use Rattle.std.specs.Prelude.{ℕ, suc, ◌≤◌, ◌≡◌, refl, Bool, true, false, List, [], ◌∷◌, drop, T, eqb, leb}
use Rattle.std.proofs.Common.{arith, sym, ap, ◌∙◌, subst as along, eqb→eq, leb→le}
use Rattle.std.proofs.Math.Option.{Option, some}
use Rattle.rules.specs.Kinds as K
use Rattle.rules.specs.Rows.{Ptr, Row, node, Store}
use Rattle.rules.specs.Declarations.{Role, no_role, nat, zero', succ', true', false', quot_mk, quot_lift, quot_ind}
use Rattle.rules.specs.Declarations.{Decl, Env, nth, decl_at, role_code, op_code}
use Rattle.rules.specs.Declarations as D
use Rattle.rules.specs.Arithmetic.{Op, add, sub, mul, div, mod', beq, ble}
use Rattle.rules.specs.Firings.{itself}
use Rattle.rules.specs.HeadTests.{provided, as_constant, quot_position, QuotParts, quot_parts_of, quot_parts, third_of_three, quot_made}
use Rattle.rules.specs.HeadTests.{unfolds}
use Rattle.rules.specs.HeadRules.{Constant}
use Rattle.rules.specs.ReadOut.{Tree, const, shift, Reads, ReadsRow, reads_const}
use Rattle.substitution.specs.Stores.{Formed, Good, Ext}
use Rattle.substitution.specs.Reading.{reads_exists, reads_unique, at_row}
use Rattle.substitution.specs.Applied.{apply, ReadAll, and_then, all_later}
use Rattle.substitution.specs.Fired.{head_reads}
use Rattle.safety.specs.Lists.{none_some, some_same}
use Rattle.safety.specs.Parts.{given_some, provided_some}
use Rattle.readings.specs.TreeRules.{Delta, Quotient, AfterSide}
use Rattle.readings.specs.Taken.{read_nth, read_drop, read_three, const_head}
use Rattle.readings.specs.Rules.{Given, itself_later, SideRead, found}

-- TESTS

pub provided_true : {A : Type 0} {x : A} (b : Bool) (o : Option A) → provided b o ≡ some x → b ≡ true
provided_true true o q = refl
provided_true false o q = absurd (none_some q)

pub same_number : (i j : ℕ) → eqb i j ≡ true → i ≡ j
same_number i j q = eqb→eq i j (along T (sym q) tt)

pub up_to : (i j : ℕ) → leb i j ≡ true → i ≤ j
up_to i j q = leb→le i j (along T (sym q) tt)

-- THE HEAD

-- the term reads as its constant applied to its arguments' trees
pub record ConstantRead (s : Store) (c n : ℕ) (xs : List Ptr) (u : Tree) : Type 0 where
  pub trees : List Tree
  pub arguments : ReadAll s xs trees
  pub is : apply (const c n) trees ≡ u

const_tree : {s : Store} {d n : ℕ} {x y z : Ptr} {t u : Tree} (k : ℕ) → ReadsRow s (node (K.const d n) x y z) u → shift k 0 u ≡ t → const d n ≡ t
unfolding shift
const_tree k reads_const e = e

pub constant_read : {e : Env} {s : Store} {t : Ptr} {D : Decl} {n : ℕ} {xs : List Ptr} {u : Tree} → Formed s → Good s t → Reads s t u →
    (h : Constant e s t D n xs) → ConstantRead s h.named n xs u
constant_read f o r h =
    let p = head_reads f o r h.head in
    let w = at_row h.head.row p.reads in
    record {
      trees = p.trees;
      arguments = p.arguments;
      is = ap (λ (z : Tree). apply z p.trees) (const_tree h.head.at.shift w.row w.is) ∙ p.whole;
    }

-- DELTA

pub delta_read : {e : Env} {base s s₁ : Store} {t v : Ptr} {D : Decl} {n : ℕ} {xs : List Ptr} {u : Tree} → Formed base → Good base v → Ext base s₁ →
    Formed s → Good s t → Reads s t u → Ext s s₁ → (h : Constant e s t D n xs) → unfolds D n ≡ some v → Given (Delta e base u) s₁ (itself v) xs
unfolding unfolds
delta_read {v = v} {D} {n} f₀ o₀ x₀ f o r x h q =
    let c = constant_read f o r h in
    let value = reads_exists f₀ o₀ in
    record {
      result = value.tree;
      rest = c.trees;
      reads_result = itself_later f₀ x₀ o₀ value.reads;
      reads_rest = all_later f x c.arguments;
      rule = record {
        declaration = h.named;
        levels = n;
        at = v;
        value = value.tree;
        rest = c.trees;
        is_before = c.is;
        equal_levels = ap (λ (d : Decl). d.levels) h.declared ∙ same_number D.levels n (provided_true (eqb D.levels n) D.value q);
        has_value = ap (λ (d : Decl). d.value) h.declared ∙ provided_some (eqb D.levels n) D.value q;
        reads_value = value.reads;
        is_after = refl;
      };
    }

-- QUOTIENTS

-- what the test picked, position by position
record QuotPicked (D : Decl) (xs : List Ptr) (f x : Ptr) (zs : List Ptr) : Type 0 where
  position : ℕ
  is_position : quot_position D.role ≡ some position
  function : nth xs 3 ≡ some f
  major : nth xs position ≡ some x
  rest : drop (suc position) xs ≡ zs

quot_picked : {f x : Ptr} {zs : List Ptr} (D : Decl) (xs : List Ptr) → quot_parts D xs ≡ some (quot_parts_of f x zs) → QuotPicked D xs f x zs
unfolding quot_parts
quot_picked {f} {x} {zs} D xs q =
    let n = given_some (quot_position D.role) _ q in
    let g = given_some (nth xs 3) _ n.then in
    let y = given_some (nth xs n.it) _ g.then in
    let same = some_same y.then in
    record {
      position = n.it;
      is_position = n.first;
      function = g.first ∙ ap (λ (z : QuotParts). some z.function) same;
      major = y.first ∙ ap (λ (z : QuotParts). some z.major) same;
      rest = ap (λ (z : QuotParts). z.rest) same;
    }

-- role 6 is Quot.mk's alone
op_code_lem : (o : Op) → op_code o ≡ 6 → ⊥
op_code_lem add q = omega (arith, q)
op_code_lem sub q = omega (arith, q)
op_code_lem mul q = omega (arith, q)
op_code_lem div q = omega (arith, q)
op_code_lem mod' q = omega (arith, q)
op_code_lem beq q = omega (arith, q)
op_code_lem ble q = omega (arith, q)

mk_role : (r : Role) → role_code r ≡ 6 → r ≡ quot_mk
mk_role no_role q = absurd (omega (arith, q))
mk_role nat q = absurd (omega (arith, q))
mk_role zero' q = absurd (omega (arith, q))
mk_role succ' q = absurd (omega (arith, q))
mk_role true' q = absurd (omega (arith, q))
mk_role false' q = absurd (omega (arith, q))
mk_role quot_mk q = refl
mk_role quot_lift q = absurd (omega (arith, q))
mk_role quot_ind q = absurd (omega (arith, q))
mk_role (D.arith o) q = absurd (op_code_lem o q)

record MadePicked (e : Env) (w : Row) (ys : List Ptr) (a : Ptr) : Type 0 where
  made : ℕ
  named : as_constant w ≡ some made
  is_mk : (decl_at e.decls made).role ≡ quot_mk
  third : third_of_three ys ≡ some a

made_picked : {a : Ptr} (e : Env) (w : Row) (ys : List Ptr) → quot_made e w ys ≡ some a → MadePicked e w ys a
unfolding quot_made
made_picked e w ys q =
    let c = given_some (as_constant w) _ q in
    let ρ = (decl_at e.decls c.it).role in
    let test = eqb (role_code ρ) (role_code quot_mk) in
    record {
      made = c.it;
      named = c.first;
      is_mk = mk_role ρ (same_number (role_code ρ) 6 (provided_true test (third_of_three ys) c.then));
      third = provided_some test (third_of_three ys) c.then;
    }

pub quotient_read : {e : Env} {base s s₁ : Store} {t f x a : Ptr} {D : Decl} {n : ℕ} {w : Row} {xs ys zs : List Ptr} {u : Tree} →
    Formed s → Good s t → Reads s t u → (h : Constant e s t D n xs) → quot_parts D xs ≡ some (quot_parts_of f x zs) →
    SideRead e base s x s₁ w ys → quot_made e w ys ≡ some a → Given (AfterSide e base (Quotient e) u) s₁ (itself f) (a ∷ zs)
quotient_read {e} {s₁ = s₁} {D = D} {n} {w} {xs} {ys} f o r h q d p =
    let c = constant_read f o r h in
    let picked = quot_picked D xs q in
    let function = read_nth 3 c.arguments picked.function in
    let major = read_nth picked.position c.arguments picked.major in
    let mk = made_picked e w ys p in
    let head = const_head d.reads_head mk.named in
    let three = read_three d.reads_arguments mk.third in
    let after = drop (suc picked.position) c.trees in
    record {
      result = function.tree;
      rest = three.third ∷ after;
      reads_result = itself_later f d.more function.good function.reads;
      reads_rest = and_then three.good three.reads
          (along (λ (ps : List Ptr). ReadAll s₁ ps after) picked.rest (all_later f d.more (read_drop (suc picked.position) c.arguments)));
      rule = record {
        asked = d.asked;
        found = found d;
        rule = record {
          declaration = h.named;
          levels = n;
          arguments = c.trees;
          is_before = c.is;
          position = picked.position;
          is_position = ap (λ (z : Decl). quot_position z.role) h.declared ∙ picked.is_position;
          function = function.tree;
          is_function = function.there;
          is_major = major.there ∙ ap some (reads_unique major.reads d.reads_asked);
          made = mk.made;
          made_levels = head.levels;
          type = three.first;
          relation = three.second;
          element = three.third;
          is_found = ap (λ (z : Tree). apply z (three.first ∷ three.second ∷ three.third ∷ [])) head.is ∙ ap (apply d.head) (sym three.all);
          is_mk = mk.is_mk;
          is_after = refl;
        };
        steps = d.steps;
      };
    }
