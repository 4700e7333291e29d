-- Tests that keep what they found: a row that is a pi, one that is a sort, two counts that are equal, a head that is the named structure.
-- Each is a decision with its proof, so that a case of the evaluator has the premise of its rule at hand.
use Rattle.std.specs.Prelude.{ℕ, ◌≡◌, refl}
use Rattle.std.proofs.Common.{arith, sym, ap, ◌∙◌}
use Rattle.rules.specs.Kinds.{sort, const, app, lam, pi, let', proj, num}
use Rattle.rules.specs.Rows.{Ptr, Row, var, node}
use Rattle.rules.specs.Declarations.{Form, plain, constructor, recursor, structure, Env, decl_at}
use Rattle.course.specs.Views.{Cmp, up_to, over, cmp}

-- EQUAL COUNTS
pub data EqView (a b : ℕ) : Type 0 where
  equal : a ≡ b → EqView a b
  differ : (a ≡ b → ⊥) → EqView a b

abbrev pub eq_on : {a b : ℕ} → Cmp a b → Cmp b a → EqView a b
eq_on (up_to h) (up_to l) = equal (omega arith)
eq_on (up_to h) (over l) = differ (λ q. omega arith)
eq_on (over h) l = differ (λ q. omega arith)

unfoldable pub eq_view : (a b : ℕ) → EqView a b
unfolding cmp
eq_view a b = eq_on (cmp a b) (cmp b a)

-- A PI
pub data PiView (w : Row) : Type 0 where
  is_pi : (x b z : Ptr) → w ≡ node pi x b z → PiView w
  no_pi : ((x b z : Ptr) → w ≡ node pi x b z → ⊥) → PiView w

-- rows of different kinds are not equal
abbrev kind_of : Row → ℕ
kind_of (var i) = 0
kind_of (node (sort l) x y z) = 1
kind_of (node (const d n) x y z) = 2
kind_of (node app x y z) = 3
kind_of (node lam x y z) = 4
kind_of (node pi x y z) = 5
kind_of (node let' x y z) = 6
kind_of (node (proj d i) x y z) = 7
kind_of (node (num n) x y z) = 8

unfoldable pub pi_view : (w : Row) → PiView w
pi_view (var i) = no_pi (λ x b z q. let h = ap kind_of q in omega arith)
pi_view (node (sort l) x y z) = no_pi (λ x b z q. let h = ap kind_of q in omega arith)
pi_view (node (const d n) x y z) = no_pi (λ x b z q. let h = ap kind_of q in omega arith)
pi_view (node app x y z) = no_pi (λ x b z q. let h = ap kind_of q in omega arith)
pi_view (node lam x y z) = no_pi (λ x b z q. let h = ap kind_of q in omega arith)
pi_view (node pi x y z) = is_pi x y z refl
pi_view (node let' x y z) = no_pi (λ x b z q. let h = ap kind_of q in omega arith)
pi_view (node (proj d i) x y z) = no_pi (λ x b z q. let h = ap kind_of q in omega arith)
pi_view (node (num n) x y z) = no_pi (λ x b z q. let h = ap kind_of q in omega arith)

-- A SORT
pub data SortView (w : Row) : Type 0 where
  is_sort : (l : ℕ) (x y z : Ptr) → w ≡ node (sort l) x y z → SortView w
  no_sort : ((l : ℕ) (x y z : Ptr) → w ≡ node (sort l) x y z → ⊥) → SortView w

unfoldable pub sort_view : (w : Row) → SortView w
sort_view (var i) = no_sort (λ l x y z q. let h = ap kind_of q in omega arith)
sort_view (node (sort l) x y z) = is_sort l x y z refl
sort_view (node (const d n) x y z) = no_sort (λ l x y z q. let h = ap kind_of q in omega arith)
sort_view (node app x y z) = no_sort (λ l x y z q. let h = ap kind_of q in omega arith)
sort_view (node lam x y z) = no_sort (λ l x y z q. let h = ap kind_of q in omega arith)
sort_view (node pi x y z) = no_sort (λ l x y z q. let h = ap kind_of q in omega arith)
sort_view (node let' x y z) = no_sort (λ l x y z q. let h = ap kind_of q in omega arith)
sort_view (node (proj d i) x y z) = no_sort (λ l x y z q. let h = ap kind_of q in omega arith)
sort_view (node (num n) x y z) = no_sort (λ l x y z q. let h = ap kind_of q in omega arith)

-- THE NAMED STRUCTURE, given as many levels as its constructor counts

-- a constant that names c
pub data NamesView (c : ℕ) (w : Row) : Type 0 where
  names : (n : ℕ) (x y z : Ptr) → w ≡ node (const c n) x y z → NamesView c w
  no_names : ((n : ℕ) (x y z : Ptr) → w ≡ node (const c n) x y z → ⊥) → NamesView c w

pub const_differ : {d c n n' : ℕ} {x y z x' y' z' : Ptr} → (d ≡ c → ⊥) → node (const d n) x y z ≡ node (const c n') x' y' z' → ⊥
const_differ {d} {c} h q = let j : d ≡ c = cc in h j

abbrev pub names_on : {d c : ℕ} (n : ℕ) (x y z : Ptr) → EqView d c → NamesView c (node (const d n) x y z)
names_on n x y z (equal q) = names n x y z (ap (λ (d : ℕ). node (const d n) x y z) q)
names_on n x y z (differ h) = no_names (λ n' x' y' z' q. const_differ h q)

unfoldable pub names_view : (c : ℕ) (w : Row) → NamesView c w
unfolding eq_view
names_view c (var i) = no_names (λ n x y z q. let h = ap kind_of q in omega arith)
names_view c (node (sort l) x y z) = no_names (λ n x y z q. let h = ap kind_of q in omega arith)
names_view c (node (const d n) x y z) = names_on n x y z (eq_view d c)
names_view c (node app x y z) = no_names (λ n x y z q. let h = ap kind_of q in omega arith)
names_view c (node lam x y z) = no_names (λ n x y z q. let h = ap kind_of q in omega arith)
names_view c (node pi x y z) = no_names (λ n x y z q. let h = ap kind_of q in omega arith)
names_view c (node let' x y z) = no_names (λ n x y z q. let h = ap kind_of q in omega arith)
names_view c (node (proj d i) x y z) = no_names (λ n x y z q. let h = ap kind_of q in omega arith)
names_view c (node (num n) x y z) = no_names (λ n x y z q. let h = ap kind_of q in omega arith)

-- a declaration of the kind structure
pub data FormView (φ : Form) : Type 0 where
  a_structure : (parameters its_constructor : ℕ) → φ ≡ structure parameters its_constructor → FormView φ
  no_form : ((parameters its_constructor : ℕ) → φ ≡ structure parameters its_constructor → ⊥) → FormView φ

abbrev form_of : Form → ℕ
form_of plain = 0
form_of (constructor ps fs) = 1
form_of (recursor o) = 2
form_of (structure ps c) = 3

unfoldable pub form_view : (φ : Form) → FormView φ
form_view plain = no_form (λ ps c q. let h = ap form_of q in omega arith)
form_view (constructor ps fs) = no_form (λ ps c q. let h = ap form_of q in omega arith)
form_view (recursor o) = no_form (λ ps c q. let h = ap form_of q in omega arith)
form_view (structure ps c) = a_structure ps c refl

-- all three, for a head's row
pub record IsStructure (e : Env) (c : ℕ) (w : Row) (parameters its_constructor : ℕ) : Type 0 where
  pub n : ℕ
  pub x : Ptr
  pub y : Ptr
  pub z : Ptr
  pub row : w ≡ node (const c n) x y z
  pub form : (decl_at e.decls c).form ≡ structure parameters its_constructor
  pub levels : n ≡ (decl_at e.decls its_constructor).levels

pub data StructureView (e : Env) (c : ℕ) (w : Row) : Type 0 where
  the_structure : (parameters its_constructor : ℕ) → IsStructure e c w parameters its_constructor → StructureView e c w
  no_structure : ((parameters its_constructor : ℕ) → IsStructure e c w parameters its_constructor → ⊥) → StructureView e c w

-- one row names one structure
pub structure_same : {e : Env} {c ps i ps' i' : ℕ} {w : Row} → IsStructure e c w ps i → IsStructure e c w ps' i' → (ps ≡ ps') × (i ≡ i')
structure_same {ps = ps} {i = i} {ps' = ps'} {i' = i'} a b =
    let q : structure ps i ≡ structure ps' i' = sym a.form ∙ b.form in
    let p : ps ≡ ps' = cc in
    let j : i ≡ i' = cc in
    (p, j)

module _ (e : Env) (c : ℕ) (w : Row) where
  pub levels_differ : {n ps i : ℕ} {x y z : Ptr} → w ≡ node (const c n) x y z → (decl_at e.decls c).form ≡ structure ps i →
      (n ≡ (decl_at e.decls i).levels → ⊥) → (ps' i' : ℕ) → IsStructure e c w ps' i' → ⊥
  levels_differ {n} {ps} {i} {x} {y} {z} q f h ps' i' s =
      let row : node (const c n) x y z ≡ node (const c s.n) s.x s.y s.z = sym q ∙ s.row in
      let same : n ≡ s.n = cc in
      let forms : structure ps i ≡ structure ps' i' = sym f ∙ s.form in
      let j : i' ≡ i = cc in
      h (same ∙ s.levels ∙ ap (λ (k : ℕ). (decl_at e.decls k).levels) j)

  abbrev pub levels_on : (n ps i : ℕ) (x y z : Ptr) → w ≡ node (const c n) x y z → (decl_at e.decls c).form ≡ structure ps i →
      EqView n (decl_at e.decls i).levels → StructureView e c w
  levels_on n ps i x y z q f (equal h) = the_structure ps i (record { n = n; x = x; y = y; z = z; row = q; form = f; levels = h })
  levels_on n ps i x y z q f (differ h) = no_structure (levels_differ {n = n} {ps = ps} {i = i} q f h)

  abbrev pub form_on : (n : ℕ) (x y z : Ptr) → w ≡ node (const c n) x y z → FormView (decl_at e.decls c).form → StructureView e c w
  form_on n x y z q (a_structure ps i f) = levels_on n ps i x y z q f (eq_view n (decl_at e.decls i).levels)
  form_on n x y z q (no_form h) = no_structure (λ ps i s. h ps i s.form)

  abbrev pub named_on : NamesView c w → StructureView e c w
  named_on (names n x y z q) = form_on n x y z q (form_view (decl_at e.decls c).form)
  named_on (no_names h) = no_structure (λ ps i s. h s.n s.x s.y s.z s.row)

  unfoldable pub structure_view : StructureView e c w
  unfolding names_view form_view eq_view
  structure_view = named_on (names_view c w)
