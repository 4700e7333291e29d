-- The row rules on a kind and three pairs: each part that the code tests, and that together they are the rules' own.
-- Assumes nothing.
use Prim.Native.Nat.{ℕ, zero, suc, ◌≤◌, ◌<◌}
use native.Mathlib.Omega.{arith}
use mathlib.Core.Path.{◌≡◌, refl, sym, ap, subst, ◌∙◌}
use mathlib.Core.Bool.{Bool, true, false}
use lib.Dec.{ltb, leb, eqb}
use Rattle.rules.specs.Maxima.{most_index, most_level, most_levels}
use Rattle.rules.specs.Kinds.{Kind, sort, const, proj, Tag, plain, term, body, Tags, table, fields}
use Rattle.rules.specs.Rows.{Ptr, Row, var, node, Cell, Store, cell, cell_at}
use Rattle.rules.specs.RowCheck.{InRange, sort_in, const_in, app_in, lam_in, pi_in, let_in, proj_in, num_in, ChildOk, FieldOk, plain_ok, term_ok}
use Rattle.rules.specs.RowCheck.{body_ok, RowOk, var_ok, node_ok}
use Rattle.rows.specs.declared.kinds.Sizes.{Sizes}
use Rattle.rows.specs.Words.{kind_of, tags_at, tag_at, shown, row_by}
use Rattle.rows.specs.Checks.{Ranged, var_ranged, node_ranged, Sized, Within, Says, sizes_of}
use Rattle.rows.proofs.NineKinds.{each_kind, fields_are}
use Rattle.rows.proofs.Agree.{cell_row}
use Rattle.rows.proofs.Answers.{says_yes, says_no, says_same, says_equal, says_at_most, says_below}

-- RANGES

in_range : {D : ℕ} {κ : Kind} {x y z : Ptr} → Ranged D (node κ x y z) → InRange D κ
in_range (node_ranged r) = r

var_index : {D i : ℕ} → Ranged D (var i) → i ≤ most_index
var_index (var_ranged h) = h

sort_level : {D l : ℕ} → InRange D (sort l) → l ≤ most_level
sort_level (sort_in h) = h

const_names : {D d n : ℕ} → InRange D (const d n) → d < D
const_names (const_in h k) = h

const_levels : {D d n : ℕ} → InRange D (const d n) → n ≤ most_levels
const_levels (const_in h k) = k

proj_names : {D d i : ℕ} → InRange D (proj d i) → d < D
proj_names (proj_in h) = h

module _ (D k : ℕ) (a b c : Ptr) where
  pub var_range : k ≡ 0 → Says (Ranged D (row_by k a b c)) (leb a.row 4095)
  unfolding row_by
  var_range e = rw e (says_same var_ranged var_index (says_at_most a.row 4095))

  pub sort_range : k ≡ 1 → Says (Ranged D (row_by k a b c)) (leb a.row 255)
  unfolding row_by kind_of
  sort_range e = rw e (says_same (λ h. node_ranged (sort_in h)) (λ r. sort_level (in_range r)) (says_at_most a.row 255))

  pub const_range : k ≡ 2 → a.row < D → Says (Ranged D (row_by k a b c)) (leb a.shift 16)
  unfolding row_by kind_of
  const_range e h = rw e (says_same (λ g. node_ranged (const_in h g)) (λ r. const_levels (in_range r)) (says_at_most a.shift 16))

  pub const_unknown : k ≡ 2 → D ≤ a.row → Says (Ranged D (row_by k a b c)) (ltb a.row D)
  unfolding row_by kind_of
  const_unknown e h =
      rw e (record {
        yes = λ t. absurd (let g : a.row < D = (says_below a.row D).yes t in omega arith);
        no = λ _ r. let g = const_names (in_range r) in omega arith;
      })

  pub proj_range : k ≡ 7 → Says (Ranged D (row_by k a b c)) (ltb b.row D)
  unfolding row_by kind_of
  proj_range e = rw e (says_same (λ h. node_ranged (proj_in h)) (λ r. proj_names (in_range r)) (says_below b.row D))

  -- an application, lambda, pi, let or number, whose words are any
  module _ (low : a.row < 4294967296) (high : a.shift < 4294967296) where
    abbrev Free : ℕ → Type 0
    Free i = (i ≡ 0 → ⊥) → (i ≡ 1 → ⊥) → (i ≡ 2 → ⊥) → (i ≡ 7 → ⊥) → Ranged D (row_by i a b c)

    free : (i : ℕ) → i ≤ 8 → Free i
    unfolding row_by kind_of
    free =
        each_kind Free (λ f _ _ _. absurd (f refl)) (λ _ f _ _. absurd (f refl)) (λ _ _ f _. absurd (f refl))
        (λ _ _ _ _. node_ranged app_in)
        (λ _ _ _ _. node_ranged lam_in)
        (λ _ _ _ _. node_ranged pi_in)
        (λ _ _ _ _. node_ranged let_in)
        (λ _ _ _ f. absurd (f refl))
        (λ _ _ _ _. node_ranged (num_in (omega arith)))

    pub other_range : k ≤ 8 → (k ≡ 0 → ⊥) → (k ≡ 1 → ⊥) → (k ≡ 2 → ⊥) → (k ≡ 7 → ⊥) → Says (Ranged D (row_by k a b c)) true
    other_range h n0 n1 n2 n7 = says_yes (free k h n0 n1 n2 n7)

-- FIELDS

module _ (s : Store) (n : ℕ) (t : Tag) (p : Ptr) where
  pub plain_says : t ≡ plain → Says (FieldOk s n (shown t p) t) true
  plain_says e = rw e (says_yes (plain_ok refl))

  child_ok : ChildOk s n p → (t ≡ plain → ⊥) → FieldOk s n (shown t p) t
  child_ok child f = go t f
    where
      go : (g : Tag) → (g ≡ plain → ⊥) → FieldOk s n (shown g p) g
      go plain f = absurd (f refl)
      go term f = term_ok child
      go body f = body_ok child

  pub ok_child : FieldOk s n (shown t p) t → (t ≡ plain → ⊥) → ChildOk s n p
  ok_child ok f = go t f ok
    where
      go : (g : Tag) → (g ≡ plain → ⊥) → FieldOk s n (shown g p) g → ChildOk s n p
      go plain f ok = absurd (f refl)
      go term f (term_ok child) = child
      go body f (body_ok child) = child

  pub child_says : {b : Bool} → (t ≡ plain → ⊥) → Says (ChildOk s n p) b → Says (FieldOk s n (shown t p) t) b
  child_says child says = says_same (λ ok. child_ok ok child) (λ ok. ok_child ok child) says

-- the tests of a child: its row is lower, and where it is closed its shift is 0
module _ (s : Store) (n : ℕ) (p : Ptr) where
  pub not_lower : n ≤ p.row → Says (ChildOk s n p) false
  not_lower h = says_no (λ ok. let low = ok.lower in omega arith)

  pub closed_child : p.row < n → (cell_at s p.row).bound ≡ 0 → Says (ChildOk s n p) (eqb p.shift 0)
  closed_child low closed = says_same (λ e. record { lower = low; still = λ _. e }) (λ ok. ok.still closed) (says_equal p.shift 0)

  pub open_child : p.row < n → ((cell_at s p.row).bound ≡ 0 → ⊥) → Says (ChildOk s n p) true
  open_child low loose = says_yes (record { lower = low; still = λ e. absurd (loose e) })

-- A ROW'S RULES ARE THOSE OF ITS PARTS

ok_ranged : {D n : ℕ} {s : Store} {w : Row} → RowOk D s n w → Ranged D w
ok_ranged (var_ok h) = var_ranged h
ok_ranged (node_ok range x y z) = node_ranged range

ok_first : {D n : ℕ} {s : Store} {κ : Kind} {x y z : Ptr} → RowOk D s n (node κ x y z) → FieldOk s n x (fields κ).first
ok_first (node_ok range x y z) = x

ok_second : {D n : ℕ} {s : Store} {κ : Kind} {x y z : Ptr} → RowOk D s n (node κ x y z) → FieldOk s n y (fields κ).second
ok_second (node_ok range x y z) = y

ok_third : {D n : ℕ} {s : Store} {κ : Kind} {x y z : Ptr} → RowOk D s n (node κ x y z) → FieldOk s n z (fields κ).third
ok_third (node_ok range x y z) = z

-- the four parts, as the code has them
pub record Parts (D : ℕ) (s : Store) (n k : ℕ) (a b c : Ptr) : Type 0 where
  pub range : Ranged D (row_by k a b c)
  pub first : FieldOk s n (shown (tag_at k 0) a) (tag_at k 0)
  pub second : FieldOk s n (shown (tag_at k 1) b) (tag_at k 1)
  pub third : FieldOk s n (shown (tag_at k 2) c) (tag_at k 2)

module _ (D : ℕ) (s : Store) (n : ℕ) (a b c : Ptr) where
  pub row_parts : (k : ℕ) → k ≤ 8 → RowOk D s n (row_by k a b c) → Parts D s n k a b c
  unfolding row_by tags_at table
  row_parts zero h ok = record { range = ok_ranged ok; first = plain_ok refl; second = plain_ok refl; third = plain_ok refl }
  row_parts (suc k) h ok =
      let e : fields (kind_of (suc k) a b) ≡ tags_at (suc k) = fields_are (suc k) a b h in
      record {
        range = ok_ranged ok;
        first = subst (λ (g : Tags). FieldOk s n (shown (tag_at (suc k) 0) a) g.first) e (ok_first ok);
        second = subst (λ (g : Tags). FieldOk s n (shown (tag_at (suc k) 1) b) g.second) e (ok_second ok);
        third = subst (λ (g : Tags). FieldOk s n (shown (tag_at (suc k) 2) c) g.third) e (ok_third ok);
      }

  pub parts_row : (k : ℕ) → k ≤ 8 → Parts D s n k a b c → RowOk D s n (row_by k a b c)
  unfolding row_by
  parts_row zero h parts = var_ok (var_index parts.range)
  parts_row (suc k) h parts =
      let e : tags_at (suc k) ≡ fields (kind_of (suc k) a b) = sym (fields_are (suc k) a b h) in
      node_ok (in_range parts.range)
      (subst (λ (g : Tags). FieldOk s n (shown (tag_at (suc k) 0) a) g.first) e parts.first)
      (subst (λ (g : Tags). FieldOk s n (shown (tag_at (suc k) 1) b) g.second) e parts.second)
      (subst (λ (g : Tags). FieldOk s n (shown (tag_at (suc k) 2) c) g.third) e parts.third)

-- BOUND AND HEIGHT

-- a recorded row x, and the sizes z that its children give
module _ (s : Store) (x : Cell) (z : Sizes) (gives : z ≡ sizes_of (cell s x.row)) where
  exact_bound : Sized s x → z.bound ≡ x.bound
  exact_bound sized = ap (λ (y : Sizes). y.bound) gives ∙ sym (ap (λ (y : Cell). y.bound) sized.exact)

  exact-height : Sized s x → z.height ≡ x.height
  exact-height sized = ap (λ (y : Sizes). y.height) gives ∙ sym (ap (λ (y : Cell). y.height) sized.exact)

  pub other_bound : (b : ℕ) → x.bound ≡ b → (z.bound ≡ b → ⊥) → Says (Sized s x) false
  other_bound b e f = says_no (λ sized. f (exact_bound sized ∙ e))

  pub other_height : (h : ℕ) → x.height ≡ h → (z.height ≡ h → ⊥) → Says (Sized s x) false
  other_height h e f = says_no (λ sized. f (exact-height sized ∙ e))

  cell_exact : z.bound ≡ x.bound → z.height ≡ x.height → x ≡ cell s x.row
  cell_exact eb eh = λ i. record {
    row = sym (cell_row s x.row) i;
    bound = (sym eb ∙ ap (λ (y : Sizes). y.bound) gives) i;
    height = (sym eh ∙ ap (λ (y : Sizes). y.height) gives) i;
  }

  pub right_sizes : {t : Bool} → z.bound ≡ x.bound → z.height ≡ x.height → Says (Within z) t → Says (Sized s x) t
  right_sizes eb eh says =
      says_same
      (λ small. record { exact = cell_exact eb eh; fits = record { bound = rw (← eb) small.bound; height = rw (← eh) small.height } })
      (λ sized. record { bound = rw eb sized.fits.bound; height = rw eh sized.fits.height })
      says

-- THE PARTS TESTED IN TURN

module _ (D : ℕ) (s : Store) (n k : ℕ) (a b c : Ptr) (kind : k ≤ 8) where
  -- a part that fails fails the row
  pub part_fails : {P : Type 0} {t : Bool} → (Parts D s n k a b c → P) → Says P t → t ≡ false → Says (RowOk D s n (row_by k a b c)) false
  part_fails part says e = says_no (λ ok. says.no e (part (row_parts D s n a b c k kind ok)))

  -- where the first three hold, the last decides
  pub last_part : {r x y z : Bool} → Says (Ranged D (row_by k a b c)) r → r ≡ true →
      Says (FieldOk s n (shown (tag_at k 0) a) (tag_at k 0)) x → x ≡ true →
      Says (FieldOk s n (shown (tag_at k 1) b) (tag_at k 1)) y → y ≡ true →
      Says (FieldOk s n (shown (tag_at k 2) c) (tag_at k 2)) z → Says (RowOk D s n (row_by k a b c)) z
  last_part sr er sx ex sy ey sz =
      says_same (λ third. parts_row D s n a b c k kind (record { range = sr.yes er; first = sx.yes ex; second = sy.yes ey; third = third }))
      (λ ok. (row_parts D s n a b c k kind ok).third) sz
