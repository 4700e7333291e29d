-- What a head rule's tests take is in scope: the fields, majors, operands and rule values that crates/rules/HeadTests picks out of arguments in scope,
-- and the rows that stand for a number. A lemma for each test. Assumes a sane store.
use Rattle.std.specs.Prelude.{ℕ, zero, suc, ◌+◌, ◌-◌, ◌≤◌, ◌<◌, ◌≡◌, refl, Bool, true, false, List, [], ◌∷◌, length, drop, eqb, leb}
use Rattle.std.proofs.Common.{arith, ap, subst}
use Rattle.std.proofs.Math.Option.{Option, none, some}
use Rattle.rules.specs.Maxima.{most_number}
use Rattle.rules.specs.Kinds.{const, app, num, table, fields}
use Rattle.rules.specs.Rows.{Ptr, ptr, blank, Row, node, leaf, Cell, Store, cell, bound_on, field_bound, grow, put}
use Rattle.rules.specs.RowCheck.{sort_in, const_in, app_in, lam_in, pi_in, let_in, proj_in, num_in, AllPass, InScope}
use Rattle.rules.specs.Declarations.{zero', succ', true', false', quot_mk, role_code, Rule, Recursor, Form, plain, constructor, recursor, structure}
use Rattle.rules.specs.Declarations.{Decl, Env, nth, decl_at, holder}
use Rattle.rules.specs.Arithmetic.{Op, Computed, number, truth}
use Rattle.rules.specs.Accepted.{Closed}
use Rattle.rules.specs.Firings.{Result, Written}
use Rattle.rules.specs.HeadTests.{given, provided, as_constant, as_number, parameters_of, field_at, quot_position, QuotParts, quot_parts, third_of_three}
use Rattle.rules.specs.HeadTests.{quot_made, recursor_of, before_indices, major_position, RecParts, rec_parts, Made, made, number_made, made_on}
use Rattle.rules.specs.HeadTests.{as_constructor, rule_on, rule_for, last_of, Ruled, by_rule, operation_of, tried, Operands, exactly_two, operands, outcome}
use Rattle.rules.specs.HeadTests.{unfolds}
use Rattle.substitution.specs.Stores.{FieldsOk, Formed, Good, ext_put, put_formed, put_good, put-length, end_cell, ext_good}
use Rattle.substitution.specs.Passing.{Worded, var_worded, node_worded, AllWorded, pass_formed, pass_worded, pass_sized, all_pass, put_worded, written_sized}
use Rattle.substitution.specs.Applied.{app_fields}
use Rattle.substitution.specs.Fired.{num_fields, const_fields}
use Rattle.safety.specs.Lists.{none_some, some_same}
use Rattle.safety.specs.Sane.{decl_count, in_later, closed_in, holder_below}
use Rattle.safety.specs.Scope.{AllIn, none_in, and_in, take_in, drop_in, append_in, ResultIn, number_in, constant_in}

-- TESTS IN A ROW

-- where the whole is there, each test was passed
pub record Given {A B : Type 0} (o : Option A) (next : A → Option B) (b : B) : Type 0 where
  pub it : A
  pub first : o ≡ some it
  pub then : next it ≡ some b

pub given_some : {A B : Type 0} {b : B} (o : Option A) (next : A → Option B) → given o next ≡ some b → Given o next b
given_some none next q = absurd (none_some q)
given_some (some a) next q = record { it = a; first = refl; then = q }

pub provided_some : {A : Type 0} {x : A} (b : Bool) (o : Option A) → provided b o ≡ some x → o ≡ some x
provided_some true o q = q
provided_some false o q = absurd (none_some q)

-- ARGUMENTS

pub nth_in : {s : Store} {d : ℕ} {xs : List Ptr} {a : Ptr} (i : ℕ) → AllIn s d xs → nth xs i ≡ some a → InScope s d a
unfolding nth
nth_in i none_in q = absurd (none_some q)
nth_in {s} {d} zero (and_in h hs) q = subst (InScope s d) (some_same q) h
nth_in (suc i) (and_in h hs) q = nth_in i hs q

-- PROJECTION

pub field_in : (e : Env) {s : Store} {d : ℕ} {ys : List Ptr} {a : Ptr} (w : Row) (i : ℕ) → AllIn s d ys → field_at e w ys i ≡ some a → InScope s d a
unfolding field_at
field_in e {ys = ys} w i h q =
    let c = given_some (as_constant w) _ q in
    let p = given_some (parameters_of (decl_at e.decls c.it).form) _ c.then in
    nth_in (p.it + i) h p.then

-- QUOTIENTS

pub record QuotIn (s : Store) (d : ℕ) (q : QuotParts) : Type 0 where
  pub function : InScope s d q.function
  pub major : InScope s d q.major
  pub rest : AllIn s d q.rest

pub quot_in : {s : Store} {d : ℕ} {xs : List Ptr} {q : QuotParts} (D : Decl) → AllIn s d xs → quot_parts D xs ≡ some q → QuotIn s d q
unfolding quot_parts
quot_in {s} {d} {xs} {q} D h e =
    let n = given_some (quot_position D.role) _ e in
    let f = given_some (nth xs 3) _ n.then in
    let x = given_some (nth xs n.it) _ f.then in
    subst (QuotIn s d) (some_same x.then) (record { function = nth_in 3 h f.first; major = nth_in n.it h x.first; rest = drop_in (suc n.it) h })

third_in : {s : Store} {d : ℕ} {ys : List Ptr} {a : Ptr} → AllIn s d ys → third_of_three ys ≡ some a → InScope s d a
third_in none_in q = absurd (none_some q)
third_in (and_in x none_in) q = absurd (none_some q)
third_in (and_in x (and_in y none_in)) q = absurd (none_some q)
third_in {s} {d} (and_in x (and_in y (and_in z none_in))) q = subst (InScope s d) (some_same q) z
third_in (and_in x (and_in y (and_in z (and_in u h)))) q = absurd (none_some q)

pub made_in : (e : Env) {s : Store} {d : ℕ} {ys : List Ptr} {a : Ptr} (w : Row) → AllIn s d ys → quot_made e w ys ≡ some a → InScope s d a
unfolding quot_made
made_in e {ys = ys} w h q =
    let c = given_some (as_constant w) _ q in
    third_in h (provided_some (eqb (role_code (decl_at e.decls c.it).role) (role_code quot_mk)) (third_of_three ys) c.then)

-- RECURSORS

pub record RecIn (s : Store) (d : ℕ) (D : Decl) (q : RecParts) : Type 0 where
  pub form : D.form ≡ recursor q.of
  pub major : InScope s d q.major

recursor_of_lem : {o : Recursor} (φ : Form) → recursor_of φ ≡ some o → φ ≡ recursor o
recursor_of_lem plain q = absurd (none_some q)
recursor_of_lem (constructor ps fs) q = absurd (none_some q)
recursor_of_lem (recursor o) q = ap recursor (some_same q)
recursor_of_lem (structure ps c) q = absurd (none_some q)

pub rec_in : {s : Store} {d : ℕ} {xs : List Ptr} {q : RecParts} (D : Decl) (n : ℕ) → AllIn s d xs → rec_parts D n xs ≡ some q → RecIn s d D q
unfolding rec_parts
rec_in {s} {d} {xs} D n h e =
    let o = given_some (provided (eqb D.levels n) (recursor_of D.form)) _ e in
    let x = given_some (nth xs (major_position o.it)) _ o.then in
    subst (RecIn s d D) (some_same x.then) (record {
      form = recursor_of_lem D.form (provided_some (eqb D.levels n) (recursor_of D.form) o.first);
      major = nth_in (major_position o.it) h x.first;
    })

-- rows written in turn, each in the store that the ones before it left
pub data RowsIn (D : ℕ) : Store → List Row → Type 0 where
  no_rows : {s : Store} → RowsIn D s []
  a_row : {s : Store} {w : Row} {ws : List Row} → FieldsOk s (length s) w → Worded D w → RowsIn D (put s w).store ws → RowsIn D s (w ∷ ws)

grow_formed : {D : ℕ} {s : Store} {ws : List Row} → Formed s → RowsIn D s ws → Formed (grow s ws)
unfolding grow
grow_formed f no_rows = f
grow_formed f (a_row o b r) = grow_formed (put_formed f o) r

grow_worded : {D : ℕ} {s : Store} {ws : List Row} → AllWorded D s → RowsIn D s ws → AllWorded D (grow s ws)
unfolding grow
grow_worded a no_rows = a
grow_worded a (a_row o b r) = grow_worded (put_worded a b) r

pub grow_pass : {D : ℕ} {s : Store} {ws : List Row} → AllPass D s → RowsIn D s ws → Written s (grow s ws) → AllPass D (grow s ws)
grow_pass a r w = all_pass (grow_formed (pass_formed a) r) (grow_worded (pass_worded a) r) (written_sized (pass_sized a) w)

-- the reduced major as a constructor
pub record MadeIn (D : ℕ) (s : Store) (d : ℕ) (c : Made) : Type 0 where
  pub rows : RowsIn D s c.rows
  pub arguments : AllIn (grow s c.rows) d c.arguments

constant_row : {D : ℕ} (s : Store) {c : ℕ} {ws : List Row} → c < D → RowsIn D (put s (leaf (const c 0))).store ws → RowsIn D s (leaf (const c 0) ∷ ws)
constant_row s {c} h r = a_row (const_fields s c 0) (node_worded (const_in {n = 0} h (omega arith))) r

number_row : {D : ℕ} (s : Store) {n : ℕ} {ws : List Row} → n ≤ most_number → RowsIn D (put s (leaf (num n))).store ws → RowsIn D s (leaf (num n) ∷ ws)
number_row s {n} h r = a_row (num_fields s n) (node_worded (num_in h)) r

-- a number's row, written last, is closed
number_at_end : (s : Store) (n d : ℕ) → InScope (put s (leaf (num n))).store d (put s (leaf (num n))).at
unfolding cell field_bound fields table
number_at_end s n d =
    let g = put_good s (leaf (num n)) in
    record { there = g.lower; still = g.still; within = omega (arith, ap (λ (c : Cell). bound_on c.bound 0) (end_cell s (cell s (leaf (num n))))) }

zero_in : {D : ℕ} (s : Store) (d : ℕ) {c : ℕ} → c < D → MadeIn D s d (made c [] (leaf (const c 0) ∷ []))
zero_in s d h = record { rows = constant_row s h no_rows; arguments = none_in }

-- succ of the number below: a constant, the number, their application
succ_in : {D : ℕ} (s : Store) (d : ℕ) {c : ℕ} (n : ℕ) → c < D → n ≤ most_number →
    MadeIn D s d (made c (ptr (suc (length s)) 0 ∷ []) (leaf (const c 0) ∷ leaf (num n) ∷ node app (ptr (length s) 0) (ptr (suc (length s)) 0) blank ∷ []))
unfolding grow
succ_in s d {c} n h l = record {
  rows = constant_row s h (number_row s₁ l (a_row (app_fields function below.lower_good) (node_worded app_in) no_rows));
  arguments = and_in (in_later (ext_put s₂ _) below.number) none_in;
}
  where
    s₁ : Store
    s₁ = (put s (leaf (const c 0))).store

    s₂ : Store
    s₂ = (put s₁ (leaf (num n))).store

    function : Good s₂ (ptr (length s) 0)
    function = ext_good (ext_put s₁ _) (put_good s (leaf (const c 0)))

    below : record { lower_good : Good s₂ (ptr (suc (length s)) 0); number : InScope s₂ d (ptr (suc (length s)) 0) }
    below = record {
      lower_good = subst (λ (r : ℕ). Good s₂ (ptr r 0)) (put-length s (leaf (const c 0))) (put_good s₁ (leaf (num n)));
      number = subst (λ (r : ℕ). InScope s₂ d (ptr r 0)) (put-length s (leaf (const c 0))) (number_at_end s₁ n d);
    }

number_made_in : (e : Env) {s : Store} {d : ℕ} {c : Made} (n : ℕ) → n ≤ most_number → number_made e s n ≡ some c → MadeIn (decl_count e) s d c
unfolding number_made
number_made_in e {s} {d} zero l q =
    let h = given_some (holder e zero') _ q in
    subst (MadeIn (decl_count e) s d) (some_same h.then) (zero_in s d (holder_below e zero' h.first))
number_made_in e {s} {d} (suc n) l q =
    let h = given_some (holder e succ') _ q in
    subst (MadeIn (decl_count e) s d) (some_same h.then) (succ_in s d n (holder_below e succ' h.first) (omega arith))

-- a number in a row that passes is within 2^64 - 1
number_fits : {D n : ℕ} {w : Row} (ys : List Ptr) → Worded D w → as_number w ys ≡ some n → n ≤ most_number
unfolding as_number
number_fits ys var_worded q = absurd (none_some q)
number_fits ys (node_worded (sort_in h)) q = absurd (none_some q)
number_fits ys (node_worded (const_in h l)) q = absurd (none_some q)
number_fits ys (node_worded app_in) q = absurd (none_some q)
number_fits ys (node_worded lam_in) q = absurd (none_some q)
number_fits ys (node_worded pi_in) q = absurd (none_some q)
number_fits ys (node_worded let_in) q = absurd (none_some q)
number_fits ys (node_worded (proj_in h)) q = absurd (none_some q)
number_fits [] (node_worded (num_in h)) q = omega (arith, h, some_same q)
number_fits (a ∷ ys) (node_worded (num_in h)) q = absurd (none_some q)

pub constructor_in : (e : Env) {s : Store} {d : ℕ} {w : Row} {ys : List Ptr} {c : Made} →
    Worded (decl_count e) w → AllIn s d ys → as_constructor e s w ys ≡ some c → MadeIn (decl_count e) s d c
unfolding as_constructor grow
constructor_in e {s} {d} {w} {ys} {c} b h q = on (as_number w ys) refl q
  where
    as_it_is : (x : ℕ) → MadeIn (decl_count e) s d (made x ys [])
    as_it_is x = record { rows = no_rows; arguments = h }

    on : (o : Option ℕ) → as_number w ys ≡ o → made_on e s w ys o ≡ some c → MadeIn (decl_count e) s d c
    on none z q = let k = given_some (as_constant w) _ q in subst (MadeIn (decl_count e) s d) (some_same k.then) (as_it_is k.it)
    on (some n) z q = number_made_in e n (number_fits ys b z) q

-- the first rule for the constructor is one of the rules
record Ruling (rs : List Rule) (ρ : Rule) : Type 0 where
  position : ℕ
  found : nth rs position ≡ some ρ

rule_found : {ρ : Rule} (c : ℕ) (rs : List Rule) → rule_for c rs ≡ some ρ → Ruling rs ρ
unfolding rule_for nth
rule_found c [] q = absurd (none_some q)
rule_found {ρ} c (x ∷ rs) q = on (eqb x.constructor c) q (λ r. rule_found c rs r)
  where
    on : (b : Bool) → rule_on b (some x) (rule_for c rs) ≡ some ρ → (rule_for c rs ≡ some ρ → Ruling rs ρ) → Ruling (x ∷ rs) ρ
    on true q ih = record { position = 0; found = q }
    on false q ih = let r = ih q in record { position = suc r.position; found = r.found }

pub record RuledIn (s : Store) (d : ℕ) (ρ : Ruled) : Type 0 where
  pub value : InScope s d ρ.value
  pub arguments : AllIn s d ρ.arguments

pub by_rule_in : {s : Store} {d : ℕ} {xs : List Ptr} {ρ : Ruled} (o : Recursor) (c : Made) →
    ((i : ℕ) (x : Rule) → nth o.rules i ≡ some x → Closed s (length s) x.value) → AllIn s d xs → AllIn s d c.arguments →
    by_rule o xs c ≡ some ρ → RuledIn s d ρ
unfolding by_rule
by_rule_in {s} {d} {xs} o c closed h hs q =
    let r = given_some (rule_for c.declaration o.rules) _ q in
    let ys = c.arguments in
    let n = r.it.fields in
    let fs = given_some (last_of n ys) _ r.then in
    let last = provided_some (leb n (length ys)) (some (drop (length ys - n) ys)) fs.first in
    let i = rule_found c.declaration o.rules r.first in
    let fields_in = subst (AllIn s d) (some_same last) (drop_in (length ys - n) hs) in
    subst (RuledIn s d) (some_same fs.then) (record {
      value = closed_in d (closed i.position r.it i.found);
      arguments = append_in (append_in (take_in (before_indices o) h) fields_in) (drop_in (suc (major_position o)) h);
    })

-- ARITHMETIC

pub record OperandsIn (s : Store) (d : ℕ) (q : Operands) : Type 0 where
  pub first : InScope s d q.first
  pub second : InScope s d q.second

two_in : {s : Store} {d : ℕ} {xs : List Ptr} {q : Operands} (o : Op) → AllIn s d xs → exactly_two o xs ≡ some q → OperandsIn s d q
two_in o none_in q = absurd (none_some q)
two_in o (and_in x none_in) q = absurd (none_some q)
two_in {s} {d} o (and_in x (and_in y none_in)) q = subst (OperandsIn s d) (some_same q) (record { first = x; second = y })
two_in o (and_in x (and_in y (and_in z h))) q = absurd (none_some q)

pub operands_in : (e : Env) {s : Store} {d : ℕ} {xs : List Ptr} {q : Operands} (D : Decl) → AllIn s d xs → operands e D xs ≡ some q → OperandsIn s d q
unfolding operands
operands_in e {xs = xs} D h q =
    let o = given_some (operation_of D.role) _ q in
    two_in o.it h (provided_some (tried e o.it) (exactly_two o.it xs) o.then)

pub outcome_in : (e : Env) {s : Store} {d : ℕ} {r : Result} (c : Computed) → outcome e c ≡ some r → ResultIn (decl_count e) s d r
unfolding outcome
outcome_in e {s} {d} (number n) q = subst (ResultIn (decl_count e) s d) (some_same q) number_in
outcome_in e {s} {d} (truth true) q =
    let h = given_some (holder e true') _ q in
    subst (ResultIn (decl_count e) s d) (some_same h.then) (constant_in (holder_below e true' h.first))
outcome_in e {s} {d} (truth false) q =
    let h = given_some (holder e false') _ q in
    subst (ResultIn (decl_count e) s d) (some_same h.then) (constant_in (holder_below e false' h.first))

-- DELTA

pub unfolds_to_lem : {v : Ptr} (D : Decl) (n : ℕ) → unfolds D n ≡ some v → D.value ≡ some v
unfolding unfolds
unfolds_to_lem D n q = provided_some (eqb D.levels n) D.value q
