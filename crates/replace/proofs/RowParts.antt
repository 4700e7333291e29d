-- A row below the mark, taken apart as code reads it: which row of the rules its nine words are, that its kind and unused words are right,
-- and what each of its three fields is ready for. Assumes nothing but what the code is given.
use Prim.Native.Nat.{ℕ, zero, suc, ◌+◌, ◌*◌, ◌≤◌, ◌<◌, max, pred}
use native.Mathlib.Nat.{le_refl}
use native.Mathlib.Omega.{arith}
use mathlib.Core.Path.{◌≡◌, refl, sym, ap, subst, ◌∙◌}
use mathlib.Core.List.{List}
use lib.ListN.{length}
use Rattle.rules.specs.Maxima.{most_bound}
use Rattle.rules.specs.Kinds.{Kind, Tag, plain, term, body, Tags, fields}
use Rattle.rules.specs.Rows as rules
use Rattle.rules.specs.Rows.{Row, var, node, Cell, Store, cell, cell_at, row_at, bound_on, bound, field_bound, field_height}
use Rattle.rules.specs.RowCheck.{FieldOk, term_ok, body_ok}
use Rattle.course.specs.Charged.{row_in, replace_in}
use Rattle.substitution.specs.Stores.{FieldsOk, first_ok, second_ok, third_ok, Good, good_fields, ext_good_field, ext_field_height}
use Rattle.substitution.specs.Passing.{pass_formed}
use Rattle.safety.specs.NeverLost.{never_flat}
use Rattle.rows.specs.declared.Ptr.{Ptr}
use Rattle.rows.specs.declared.Shape.{Shape}
use Rattle.rows.specs.declared.kinds.Tag as kinds
use Rattle.rows.specs.Refusals.{Out}
use Rattle.rows.specs.Words.{ptr_of, kind_of, tags_at, tag_at, shown, row_by, row_of, shape_at, store_of, words_at, Held}
use Rattle.rows.specs.Kinds.{tag_of}
use Rattle.rows.specs.Checks.{Formed}
use Rattle.rows.proofs.Store.{row_used, held_length}
use Rattle.rows.proofs.Formed.{row_formed}
use Rattle.rows.proofs.NineKinds as nine
use Rattle.rows.proofs.NineKinds.{fields_are, height_shown, row_height, row_bound}
use Rattle.replace.specs.declared.Sub.{Sub}
use Rattle.replace.specs.Replaced.{value_of, most_rows, height_of, IndexReady, FieldReady, RowReady, IndexDone, RowDone}
use Rattle.replace.proofs.Later.{says_also, Went}

-- a row below the mark, as it was read
pub record Seen (l sc : List ℕ) (nlib m row c : ℕ) (x : Sub) (w : Shape) : Type 0 where
  pub given : RowReady l sc nlib m row c x
  pub is : w ≡ shape_at (words_at l sc row)

-- a child of a row of height h
pub record Child (s : Store) (h : ℕ) (τ : Tag) (p : Ptr) : Type 0 where
  pub ok : FieldOk s (length s) (shown τ (ptr_of p)) τ
  pub lower : suc (field_height s τ (ptr_of p)) ≤ h
  pub shift : (τ ≡ plain → ⊥) → p.shift ≤ 65536

-- a child's shift is at most its bound, and is 0 if it is closed
child_shift : (s : Store) (τ : Tag) (p : Ptr) → FieldOk s (length s) (shown τ (ptr_of p)) τ → field_bound s τ (ptr_of p) ≤ most_bound →
    (τ ≡ plain → ⊥) → p.shift ≤ 65536
unfolding field_bound
child_shift s plain p o b h = absurd (h refl)
child_shift s term p (term_ok o) b h = go (cell_at s p.row).bound o.still b
  where
    go : (n : ℕ) → (n ≡ 0 → p.shift ≡ 0) → bound_on n p.shift ≤ most_bound → p.shift ≤ 65536
    go zero f b = omega (arith, f refl)
    go (suc n) f b = omega arith
child_shift s body p (body_ok o) b h = go (cell_at s p.row).bound o.still b
  where
    go : (n : ℕ) → (n ≡ 0 → p.shift ≡ 0) → pred (bound_on n p.shift) ≤ most_bound → p.shift ≤ 65536
    go zero f b = omega (arith, f refl)
    go (suc n) f b = omega arith

-- A ROW BELOW THE MARK

module _ {l sc : List ℕ} {nlib m row c : ℕ} {x : Sub} (given : RowReady l sc nlib m row c x) where
  abbrev held : Held l sc m nlib
  held = given.ready.sound.held

  at_row : Good (store_of l sc m) (rules.ptr row 0)
  at_row = record { lower = omega (arith, given.there, held_length l sc m nlib held); still = λ _. refl }

  -- a row has some height
  pub row_high : 0 < height_of l sc m row
  row_high = go (height_of l sc m row) refl
    where
      go : (h : ℕ) → height_of l sc m row ≡ h → 0 < h
      go zero e = absurd (never_flat (pass_formed given.ready.sound.pass) at_row (let z : height_of l sc m row ≤ 0 = omega (arith, e) in z))
      go (suc h) e = omega arith

  module _ {ws : List ℕ} (looked_up : ws ≡ words_at l sc row) {w : Shape} (shape : w ≡ shape_at ws) where
    pub sees : Seen l sc nlib m row c x w
    sees = record { given = given; is = shape ∙ ap shape_at looked_up }

module _ {l sc : List ℕ} {nlib m row c : ℕ} {x : Sub} {w : Shape} (seen : Seen l sc nlib m row c x w) where
  abbrev given : RowReady l sc nlib m row c x
  given = seen.given

  abbrev s : Store
  s = store_of l sc m

  pub row_is : row_at s row ≡ row_of w
  row_is = row_used l sc m nlib given.ready.sound.held row given.there w seen.is

  pub formed : Formed w
  formed = subst Formed (sym seen.is) (row_formed (given.ready.sound.words row given.there))

  row_fields : FieldsOk s (length s) (row_of w)
  row_fields = subst (FieldsOk s (length s)) row_is (good_fields (pass_formed given.ready.sound.pass) (at_row given))

  row-cell : cell_at s row ≡ cell s (row_of w)
  row-cell = (given.ready.sound.pass.each row (at_row given).lower).exact ∙ ap (cell s) row_is

  small : (cell s (row_of w)).bound ≤ most_bound
  small = let b = (given.ready.sound.pass.each row (at_row given).lower).fits.bound in omega (arith, ap (λ (y : Cell). y.bound) row-cell)

  -- A VARIABLE

  module _ (kind : w.kind ≡ 0) where
    row_var : row_of w ≡ var w.first.row
    unfolding row_by
    row_var = ap (λ (k : ℕ). row_by k (ptr_of w.first) (ptr_of w.second) (ptr_of w.third)) kind

    var_small : (cell s (var w.first.row)).bound ≤ most_bound
    var_small = subst (λ (r : Row). (cell s r).bound ≤ most_bound) row_var small

    pub index_ready : IndexReady l sc nlib m row w.first.row c x
    unfolding cell
    index_ready = record {
      ready = given.ready;
      there = given.there;
      index = omega (arith, var_small);
      cutoff = let n = given.near in omega arith;
    }

    abbrev most : ℕ
    most = most_rows nlib sc

    pub index_row : {r : Out} {sc' : List ℕ} → IndexDone l sc nlib m row w.first.row c x r sc' → RowDone l sc nlib m row c x r sc'
    unfolding row_in
    index_row d = record {
      wrote = λ f h. says_also d.wrote (ap (row_in most (value_of x) x.by (replace_in most (value_of x) x.by f) c s row) (sym (row_is ∙ row_var)));
      near = d.near;
    }

  -- CHILDREN

  module _ (kind : w.kind ≡ 0 → ⊥) where
    abbrev high : ℕ
    high = height_of l sc m row

    -- what the table says of field j
    abbrev mark : ℕ → Tag
    mark j = tag_at w.kind j

    -- the row by its table's marks
    abbrev pub the_kind : Kind
    the_kind = kind_of w.kind (ptr_of w.first) (ptr_of w.second)

    pub marks : fields the_kind ≡ tags_at w.kind
    marks = fields_are w.kind (ptr_of w.first) (ptr_of w.second) formed.kind

    abbrev by_marks : Row
    by_marks = node the_kind (shown (mark 0) (ptr_of w.first)) (shown (mark 1) (ptr_of w.second)) (shown (mark 2) (ptr_of w.third))

    pub row_node : row_at s row ≡ by_marks
    row_node = row_is ∙ nine.row_node w.kind (ptr_of w.first) (ptr_of w.second) (ptr_of w.third) kind

    node_fields : FieldsOk s (length s) by_marks
    node_fields = subst (FieldsOk s (length s)) row_node (good_fields (pass_formed given.ready.sound.pass) (at_row given))

    -- its bound and height are its fields' largest
    abbrev largest : (Tag → rules.Ptr → ℕ) → ℕ
    largest f = max (max (f (mark 0) (ptr_of w.first)) (f (mark 1) (ptr_of w.second))) (f (mark 2) (ptr_of w.third))

    record Sizes : Type 0 where
      height : high ≡ suc (largest (field_height s))
      bound : largest (field_bound s) ≤ most_bound

    sizes : Sizes
    sizes = go w.kind refl kind formed.kind
      where
        go : (k : ℕ) → w.kind ≡ k → (k ≡ 0 → ⊥) → k ≤ 8 → Sizes
        go zero e f h = absurd (f refl)
        go (suc k) e f h = record {
          height = ap (λ (y : Cell). y.height) row-cell ∙ rw e (row_height s k (ptr_of w.first) (ptr_of w.second) (ptr_of w.third) h);
          bound = rw e (rw (← row_bound s k (ptr_of w.first) (ptr_of w.second) (ptr_of w.third) h, ← e) small);
        }

    -- a field of the row by its kind is one by its number
    child : (f : Tags → Tag) (p : Ptr) → FieldOk s (length s) (shown (f (tags_at w.kind)) (ptr_of p)) (f (fields the_kind)) →
        suc (field_height s (f (tags_at w.kind)) (ptr_of p)) ≤ high → field_bound s (f (tags_at w.kind)) (ptr_of p) ≤ most_bound →
        Child s high (f (tags_at w.kind)) p
    child f p o lower bound =
        let ok = subst (λ (t : Tags). FieldOk s (length s) (shown (f (tags_at w.kind)) (ptr_of p)) (f t)) marks o in
        record { ok = ok; lower = lower; shift = child_shift s _ _ ok bound }

    pub first_child : Child s high (mark 0) w.first
    first_child = child (λ t. t.first) w.first (first_ok node_fields) (omega (arith, sizes.height)) (let b = sizes.bound in omega arith)

    pub second_child : Child s high (mark 1) w.second
    second_child = child (λ t. t.second) w.second (second_ok node_fields) (omega (arith, sizes.height)) (let b = sizes.bound in omega arith)

    pub third_child : Child s high (mark 2) w.third
    third_child = child (λ t. t.third) w.third (third_ok node_fields) (omega (arith, sizes.height)) (let b = sizes.bound in omega arith)

pub kind_known : {l sc : List ℕ} {nlib m row c : ℕ} {x : Sub} → RowReady l sc nlib m row c x → {ws : List ℕ} → ws ≡ words_at l sc row →
    {w : Shape} → w ≡ shape_at ws → w.kind ≤ 8
kind_known given looked_up shape = (formed (sees given looked_up shape)).kind

-- A CHILD AFTER OTHERS

-- field p of mark τ is next, at scratch sc' with m' rows used
pub record Next (l sc : List ℕ) (nlib m row : ℕ) (x : Sub) (τ : Tag) (p : Ptr) (sc' : List ℕ) (m' : ℕ) : Type 0 where
  pub went : Went l sc nlib m x sc' m'
  pub child : Child (store_of l sc m) (height_of l sc m row) τ p

-- it is ready, with the height that it had
module _ {l sc : List ℕ} {nlib m row : ℕ} {x : Sub} {τ : Tag} {p : Ptr} {sc' : List ℕ} {m' : ℕ} (next : Next l sc nlib m row x τ p sc' m') where
  abbrev now : Store
  now = store_of l sc' m'

  pub child_ok : FieldOk now (length now) (shown τ (ptr_of p)) τ
  child_ok = ext_good_field next.went.more next.child.ok

  pub same_height : field_height now τ (ptr_of p) ≡ field_height (store_of l sc m) τ (ptr_of p)
  same_height =
      sym (height_shown now τ (ptr_of p)) ∙ ext_field_height next.went.more (le_refl _) next.child.ok ∙ height_shown (store_of l sc m) τ (ptr_of p)

  pub child_lower : suc (field_height now τ (ptr_of p)) ≤ height_of l sc m row
  child_lower = let h = next.child.lower in omega (arith, same_height)

  -- what the cycle asks for it: that it is lower, and that it is ready
  pub field_asked : {c : ℕ} → RowReady l sc nlib m row c x → {rank : ℕ} → 3 * height_of l sc m row ≡ rank → {tag : kinds.Tag} → tag_of tag ≡ τ →
      (3 * field_height now (tag_of tag) (ptr_of p) + 2 < rank) × FieldReady l sc' nlib m' tag p c x
  field_asked given e {tag} is_tag =
      let height = ap (λ (t : Tag). field_height now t (ptr_of p)) is_tag in (
        omega (arith, e, height, child_lower),
        record {
          ready = next.went.ready;
          field = subst (λ (t : Tag). FieldOk now (length now) (shown t (ptr_of p)) t) (sym is_tag) child_ok;
          near = let n = given.near in omega (arith, height, child_lower);
          shift = λ f. next.child.shift (λ z. f (is_tag ∙ z));
        },
      )
