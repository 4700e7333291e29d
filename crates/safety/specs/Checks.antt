-- A test that computes and keeps what it found: rows that pass, declarations and context values in scope, a term in scope. Where it comes out as
-- something, the input is `Ready`. It is sound by its type; that it finds whatever there is is not shown. Assumes nothing.
use Rattle.std.specs.Prelude.{ℕ, zero, suc, ◌+◌, ◌≤◌, ◌<◌, ◌≡◌, refl, Bool, true, false, List, [], ◌∷◌, length}
use Rattle.std.proofs.Common.{arith, sym, subst}
use Rattle.std.proofs.Math.Option.{Option, none, some}
use Rattle.rules.specs.Maxima.{most_index, most_level, most_levels, most_number, most_bound, most_height}
use Rattle.rules.specs.Kinds.{Kind, sort, const, app, lam, pi, let', proj, num, Tag, plain, term, body, fields}
use Rattle.rules.specs.Rows.{Ptr, blank, Row, var, node, Store, cell_at, row_at, bound, cell, field_bound, field_height}
use Rattle.rules.specs.RowCheck.{InRange, sort_in, const_in, app_in, lam_in, pi_in, let_in, proj_in, num_in, ChildOk, FieldOk, plain_ok, term_ok}
use Rattle.rules.specs.RowCheck.{body_ok, RowOk, var_ok, node_ok, Passes, InScope}
use Rattle.rules.specs.Declarations.{Rule, Form, constructor, recursor, structure, Decl, Entry, Env, nth, decl_at}
use Rattle.rules.specs.Declarations as D
use Rattle.rules.specs.Accepted.{Closed}
use Rattle.rules.specs.HeadTests.{given}
use Rattle.rules.specs.Refusals.{Limits}
use Rattle.course.specs.Views.{Cmp, up_to, over, cmp}
use Rattle.substitution.specs.Stores.{cell_row}
use Rattle.safety.specs.Lists.{nth_there, none_some, some_same}
use Rattle.safety.specs.Sane.{depth_of, decl_count, DeclIn, sane_of, Ready}

-- a test's outcome, and what it found
abbrev pub passed : {A : Type 0} → Option A → Bool
passed none = false
passed (some a) = true

false_true : false ≡ true → ⊥
false_true q = let z : ◌≡◌ {A = ℕ} 0 1 = cc in omega arith

pub what_passed : {A : Type 0} (o : Option A) → passed o ≡ true → A
what_passed none q = absurd (false_true q)
what_passed (some a) q = a

-- NUMBERS

abbrev at_most_on : {a b : ℕ} → Cmp a b → Option (a ≤ b)
at_most_on (up_to h) = some h
at_most_on (over h) = none

unfoldable pub at_most : (a b : ℕ) → Option (a ≤ b)
unfolding cmp
at_most a b = at_most_on (cmp a b)

pub both_ways : {a b : ℕ} → a ≤ b → b ≤ a → a ≡ b
both_ways h l = omega arith

unfoldable pub same : (a b : ℕ) → Option (a ≡ b)
unfolding at_most
same a b = given (at_most a b) λ h. given (at_most b a) λ l. some (both_ways h l)

-- ROWS

unfoldable pub still_at : (b k : ℕ) → Option (b ≡ 0 → k ≡ 0)
still_at zero zero = some (λ z. refl)
still_at zero (suc k) = none
still_at (suc b) k = some (λ z. absurd (omega arith))

unfoldable pub child_at : (s : Store) (n : ℕ) (p : Ptr) → Option (ChildOk s n p)
unfolding at_most still_at cell_at
child_at s n p =
    given (at_most (suc p.row) n) λ l.
    given (still_at (cell_at s p.row).bound p.shift) λ h.
    some (record { lower = l; still = h })

unfoldable pub blank_at : (p : Ptr) → Option (p ≡ blank)
unfolding same
blank_at p = given (same p.row 0) λ r. given (same p.shift 0) λ k. some (λ i. record { row = r i; shift = k i })

unfoldable pub field_ok_at : (s : Store) (n : ℕ) (p : Ptr) (τ : Tag) → Option (FieldOk s n p τ)
unfolding blank_at child_at
field_ok_at s n p plain = given (blank_at p) λ q. some (plain_ok q)
field_ok_at s n p term = given (child_at s n p) λ o. some (term_ok o)
field_ok_at s n p body = given (child_at s n p) λ o. some (body_ok o)

unfoldable pub range_at : (D : ℕ) (κ : Kind) → Option (InRange D κ)
unfolding at_most
range_at D (sort l) = given (at_most l most_level) λ h. some (sort_in h)
range_at D (const d n) = given (at_most (suc d) D) λ h. given (at_most n most_levels) λ l. some (const_in h l)
range_at D app = some app_in
range_at D lam = some lam_in
range_at D pi = some pi_in
range_at D let' = some let_in
range_at D (proj d i) = given (at_most (suc d) D) λ h. some (proj_in h)
range_at D (num n) = given (at_most n most_number) λ h. some (num_in h)

unfoldable pub row_ok_at : (D : ℕ) (s : Store) (n : ℕ) (w : Row) → Option (RowOk D s n w)
unfolding at_most range_at field_ok_at fields
row_ok_at D s n (var i) = given (at_most i most_index) λ h. some (var_ok h)
row_ok_at D s n (node κ x y z) =
    given (range_at D κ) λ r.
    given (field_ok_at s n x (fields κ).first) λ a.
    given (field_ok_at s n y (fields κ).second) λ b.
    given (field_ok_at s n z (fields κ).third) λ c.
    some (node_ok r a b c)

-- a cell is known by its row, bound and height
pub exact_cell : (s : Store) (n : ℕ) →
    (cell_at s n).bound ≡ (cell s (row_at s n)).bound → (cell_at s n).height ≡ (cell s (row_at s n)).height → cell_at s n ≡ cell s (row_at s n)
exact_cell s n b h = λ i. record { row = sym (cell_row s (row_at s n)) i; bound = b i; height = h i }

unfoldable pub passes_at : (D : ℕ) (s : Store) (n : ℕ) → Option (Passes D s n)
unfolding row_ok_at same at_most cell cell_at field_bound field_height
passes_at D s n =
    given (row_ok_at D s n (row_at s n)) λ o.
    given (same (cell_at s n).bound (cell s (row_at s n)).bound) λ b.
    given (same (cell_at s n).height (cell s (row_at s n)).height) λ h.
    given (at_most (cell_at s n).bound most_bound) λ l.
    given (at_most (cell_at s n).height most_height) λ k.
    some (record { fields = o; exact = exact_cell s n b h; fits = record { bound = l; height = k } })

pub below_next : {P : ℕ → Type 0} {k : ℕ} → ((n : ℕ) → n < k → P n) → P k → (n : ℕ) → n < suc k → P n
below_next {P} {k} old new n h = on (cmp k n)
  where
    on : Cmp k n → P n
    on (up_to l) = let q : k ≡ n = omega arith in subst P q new
    on (over l) = old n l

unfoldable pub rows_pass : (D : ℕ) (s : Store) (k : ℕ) → Option ((n : ℕ) → n < k → Passes D s n)
unfolding passes_at
rows_pass D s zero = some (λ n h. absurd (omega arith))
rows_pass D s (suc k) = given (rows_pass D s k) λ old. given (passes_at D s k) λ new. some (below_next old new)

-- LISTS

-- every element, with its position from n on
pub data Each {A : Type 0} (P : ℕ → A → Type 0) : ℕ → List A → Type 0 where
  none_left : {n : ℕ} → Each P n []
  and_then : {n : ℕ} {x : A} {xs : List A} → P n x → Each P (suc n) xs → Each P n (x ∷ xs)

each_nth : {A : Type 0} {P : ℕ → A → Type 0} {n : ℕ} {x : A} {xs : List A} (i : ℕ) → Each P n xs → nth xs i ≡ some x → P (n + i) x
unfolding nth
each_nth i none_left q = absurd (none_some q)
each_nth {P = P} {n} {x} zero (and_then {x = y} h hs) q =
    let here : n ≡ n + 0 = omega arith in
    subst (λ (j : ℕ). P j x) here (subst (P n) (some_same q) h)
each_nth {P = P} {n} {x} (suc i) (and_then h hs) q =
    let there : suc n + i ≡ n + suc i = omega arith in
    subst (λ (j : ℕ). P j x) there (each_nth i hs q)

pub each_at : {A : Type 0} {P : ℕ → A → Type 0} {x : A} {xs : List A} (i : ℕ) → Each P 0 xs → nth xs i ≡ some x → P i x
each_at {P = P} {x} i h q = let same_place : 0 + i ≡ i = omega arith in subst (λ (j : ℕ). P j x) same_place (each_nth i h q)

unfoldable pub each_of : {A : Type 0} {P : ℕ → A → Type 0} → ((n : ℕ) (x : A) → Option (P n x)) → (n : ℕ) (xs : List A) → Option (Each P n xs)
each_of test n [] = some none_left
each_of test n (x ∷ xs) = given (test n x) λ h. given (each_of test (suc n) xs) λ hs. some (and_then h hs)

-- DECLARATIONS AND RECORDS

unfoldable pub closed_at : (s : Store) (p : Ptr) → Option (Closed s (length s) p)
unfolding at_most same cell_at
closed_at s p =
    given (at_most (suc p.row) (length s)) λ l.
    given (same (cell_at s p.row).bound 0) λ b.
    given (same p.shift 0) λ k.
    some (record { there = l; closed = b; still = k })

unfoldable pub in_scope_at : (s : Store) (d : ℕ) (p : Ptr) → Option (InScope s d p)
unfolding at_most still_at cell_at
in_scope_at s d p =
    given (at_most (suc p.row) (length s)) λ l.
    given (still_at (cell_at s p.row).bound p.shift) λ k.
    given (at_most (bound s p) d) λ h.
    some (record { there = l; still = k; within = h })

-- a value, if there is one
pub data ValueIs (P : Ptr → Type 0) : Option Ptr → Type 0 where
  no_value : ValueIs P none
  a_value : {v : Ptr} → P v → ValueIs P (some v)

pub value_is : {P : Ptr → Type 0} {o : Option Ptr} {v : Ptr} → ValueIs P o → o ≡ some v → P v
value_is no_value q = absurd (none_some q)
value_is {P} (a_value h) q = subst P (some_same q) h

unfoldable pub value_at : {P : Ptr → Type 0} → ((v : Ptr) → Option (P v)) → (o : Option Ptr) → Option (ValueIs P o)
value_at test none = some no_value
value_at test (some v) = given (test v) λ h. some (a_value h)

-- the rules of a form, if it is a recursor's
abbrev rules_of : Form → List Rule
rules_of D.plain = []
rules_of (constructor ps fs) = []
rules_of (recursor o) = o.rules
rules_of (structure ps c) = []

abbrev pub RuleClosed : Store → ℕ → Rule → Type 0
RuleClosed s n ρ = Closed s (length s) ρ.value

pub decl_closed : {s : Store} (x : Decl) → ValueIs (Closed s (length s)) x.value → Each (RuleClosed s) 0 (rules_of x.form) → DeclIn s x
decl_closed {s} x v rs = record {
  value = λ p q. value_is v q;
  rule = λ o i ρ q r. each_at i (subst (λ (φ : Form). Each (RuleClosed s) 0 (rules_of φ)) q rs) r;
}

unfoldable pub decl_in_at : (s : Store) (n : ℕ) (x : Decl) → Option (DeclIn s x)
unfolding value_at closed_at each_of
decl_in_at s n x =
    given (value_at (closed_at s) x.value) λ v.
    given (each_of (λ n ρ. closed_at s ρ.value) 0 (rules_of x.form)) λ rs.
    some (decl_closed x v rs)

abbrev pub EntryIn : Store → ℕ → Entry → Type 0
EntryIn s n x = ValueIs (InScope s n) x.value

-- THE WHOLE

pub all_ready : (e : Env) (lim : Limits) (s : Store) (t : Ptr) →
    ((n : ℕ) → n < length s → Passes (decl_count e) s n) → Each (λ n x. DeclIn s x) 0 e.decls →
    Each (EntryIn s) 0 e.context → InScope s (depth_of e) t → length s ≤ lim.rows → Ready e lim s t
unfolding decl_at
all_ready e lim s t rows ds xs i l = record {
  sane = sane_of e s (λ j h. each_at j ds (nth_there e.decls j _ h)) (λ j x v q. value_is (each_at j xs q)) (record { each = rows });
  term = i;
  room = l;
}

unfoldable pub ready_at : (e : Env) (lim : Limits) (s : Store) (t : Ptr) → Option (Ready e lim s t)
unfolding rows_pass each_of decl_in_at value_at in_scope_at at_most
ready_at e lim s t =
    given (rows_pass (decl_count e) s (length s)) λ rows.
    given (each_of (decl_in_at s) 0 e.decls) λ ds.
    given (each_of (λ n x. value_at (in_scope_at s n) x.value) 0 e.context) λ xs.
    given (in_scope_at s (depth_of e) t) λ i.
    given (at_most (length s) lim.rows) λ l.
    some (all_ready e lim s t rows ds xs i l)
