-- Replacement on a formed store, with a good pointer and a good value, has exactly one result for every cutoff and move.
-- That there is one is shown by the recorded height, which falls from a row to its children; that there is only one needs nothing.
use Rattle.std.specs.Prelude.{ℕ, zero, suc, ◌+◌, ◌-◌, ◌≤◌, ◌<◌, ◌≡◌, refl, length}
use Rattle.std.proofs.Common.{le_refl, arith, sym, ap, ◌∙◌, subst}
use Rattle.std.proofs.Math.Decide.{dec_le}
use Rattle.std.proofs.Math.Option.{Option, none, some}
use Rattle.rules.specs.Kinds.{Kind, Tag, term, body, fields}
use Rattle.rules.specs.Rows.{Ptr, ptr, Row, var, node, Cell, Store, cell_at, row_at, bound, up, field_height, cell, Got, got, put}
use Rattle.rules.specs.RowCheck.{FieldOk, plain_ok, term_ok, body_ok}
use Rattle.rules.specs.Replacement.{count, Replaces, same, moved, inside, OnRow, stays, value, moves, children, OnField, word, child, under}
use Rattle.substitution.specs.Places.{Place, below, here, past, place}
use Rattle.substitution.specs.Stores.{FieldsOk, var_fields, node_fields, Formed, Good, good_fields, Ext, ext_same, ext_then, ext_good}
use Rattle.substitution.specs.Stores.{ext_good_field, ext_field_height}
use Rattle.substitution.specs.Reading.{reads_exists}
use Rattle.substitution.specs.Replacing.{no_value, a_value, replace_moves}

-- the value, if there is one, is a good pointer
pub data ValueGood (s : Store) : Option Ptr → Type 0 where
  none_good : ValueGood s none
  some_good : {v : Ptr} → Good s v → ValueGood s (some v)

pub value_good_later : {s s' : Store} {v : Option Ptr} → Ext s s' → ValueGood s v → ValueGood s' v
value_good_later e none_good = none_good
value_good_later e (some_good o) = some_good (ext_good e o)

-- WHAT REPLACEMENT KEEPS, WITH NO WORD ON TREES

pub record Kept (s : Store) (g : Got) : Type 0 where
  pub more : Ext s g.store
  pub formed : Formed g.store
  pub good : Good g.store g.at

pub replace_keeps : {v : Option Ptr} {k c : ℕ} {s : Store} {p : Ptr} {g : Got} → Formed s → Good s p → ValueGood s v → Replaces v k c s p g → Kept s g
replace_keeps f o none_good q =
    let d = replace_moves f o no_value (reads_exists f o).reads q in
    record { more = d.more; formed = d.formed; good = d.good }
replace_keeps f o (some_good y) q =
    let d = replace_moves f o (a_value y (reads_exists f y).reads) (reads_exists f o).reads q in
    record { more = d.more; formed = d.formed; good = d.good }

-- THERE IS ONE

pub record ReplacesTo (v : Option Ptr) (k c : ℕ) (s : Store) (p : Ptr) : Type 0 where
  pub result : Got
  pub replaces : Replaces v k c s p result

record OnRowTo (v : Option Ptr) (k c : ℕ) (s : Store) (r : ℕ) (w : Row) : Type 0 where
  result : Got
  on_row : OnRow v k c s r w result

-- with what the next field starts from
record OnFieldTo (v : Option Ptr) (k : ℕ) (τ : Tag) (c : ℕ) (s : Store) (p : Ptr) : Type 0 where
  result : Got
  on_field : OnField v k τ c s p result
  more : Ext s result.store
  formed : Formed result.store

pub height_positive : (s : Store) (w : Row) → 0 < (cell s w).height
unfolding cell
height_positive s (var i) = omega arith
height_positive s (node κ x y z) = omega arith

index_moves : (v : Option Ptr) (k c : ℕ) (s : Store) (r i : ℕ) → c + count v ≤ i → OnRowTo v k c s r (var i)
index_moves v k c s r i h = record { result = put s (var (i - count v + k)); on_row = moves h refl }

var_replaced : (v : Option Ptr) (k c : ℕ) (s : Store) (r i : ℕ) → Place i c → OnRowTo v k c s r (var i)
var_replaced v k c s r i (below h) = record { result = got s (ptr r 0); on_row = stays h refl }
var_replaced none k c s r i (here h) = index_moves none k c s r i (omega arith)
var_replaced (some x) k c s r i (here h) = record { result = got s (up s x c); on_row = value h refl refl }
var_replaced none k c s r i (past h) = index_moves none k c s r i (omega arith)
var_replaced (some x) k c s r i (past h) = index_moves (some x) k c s r i (omega arith)

module _ (v : Option Ptr) (k : ℕ) where
  -- pointers at rows of height at most h are replaced
  record Ready (h : ℕ) : Type 0 where
    at : (c : ℕ) (s : Store) (p : Ptr) → Formed s → Good s p → ValueGood s v → (cell_at s p.row).height ≤ h → ReplacesTo v k c s p

  term_replaced : {c : ℕ} {s : Store} {p : Ptr} → Formed s → Good s p → ValueGood s v → ReplacesTo v k c s p → OnFieldTo v k term c s p
  term_replaced f o x d =
      let q = replace_keeps f o x d.replaces in record { result = d.result; on_field = child d.replaces; more = q.more; formed = q.formed }

  body_replaced : {c : ℕ} {s : Store} {p : Ptr} → Formed s → Good s p → ValueGood s v → ReplacesTo v k (suc c) s p → OnFieldTo v k body c s p
  body_replaced f o x d =
      let q = replace_keeps f o x d.replaces in record { result = d.result; on_field = under d.replaces; more = q.more; formed = q.formed }

  field_replaced : {h : ℕ} {s : Store} {p : Ptr} {τ : Tag} →
      Ready h → (c : ℕ) → Formed s → FieldOk s (length s) p τ → ValueGood s v → field_height s τ p ≤ h → OnFieldTo v k τ c s p
  unfolding field_height
  field_replaced {s = s} {p} r c f (plain_ok o) x l = record { result = got s p; on_field = word refl; more = ext_same s; formed = f }
  field_replaced {s = s} {p} r c f (term_ok o) x l = term_replaced f o x (r.at c s p f o x l)
  field_replaced {s = s} {p} r c f (body_ok o) x l = body_replaced f o x (r.at (suc c) s p f o x l)

  -- a field of a row, after others: its height is the one it had
  later_replaced : {h : ℕ} {s s' : Store} {p : Ptr} {τ : Tag} →
      Ready h → (c : ℕ) → Ext s s' → Formed s' → FieldOk s (length s) p τ → ValueGood s v → field_height s τ p ≤ h → OnFieldTo v k τ c s' p
  later_replaced y c e f o x l = field_replaced y c f (ext_good_field e o) (value_good_later e x) (omega (arith, l, ext_field_height e (le_refl _) o))

  -- the three fields in turn, from the last to the first
  after_three : {c : ℕ} {s : Store} {κ : Kind} {x y z : Ptr} (r : ℕ)
      (d₁ : OnFieldTo v k (fields κ).first c s x) (d₂ : OnFieldTo v k (fields κ).second c d₁.result.store y) →
      OnFieldTo v k (fields κ).third c d₂.result.store z → OnRowTo v k c s r (node κ x y z)
  after_three {κ = κ} r d₁ d₂ d₃ = record {
    result = put d₃.result.store (node κ d₁.result.at d₂.result.at d₃.result.at);
    on_row = children d₁.on_field d₂.on_field d₃.on_field refl;
  }

  after_two : {h c : ℕ} {s : Store} {κ : Kind} {x y z : Ptr} (r : ℕ) →
      Ready h → (d₁ : OnFieldTo v k (fields κ).first c s x) → OnFieldTo v k (fields κ).second c d₁.result.store y →
      FieldOk s (length s) z (fields κ).third → ValueGood s v → field_height s (fields κ).third z ≤ h → OnRowTo v k c s r (node κ x y z)
  after_two {c = c} r i d₁ d₂ o₃ g l₃ = after_three r d₁ d₂ (later_replaced i c (ext_then d₁.more d₂.more) d₂.formed o₃ g l₃)

  after_one : {h c : ℕ} {s : Store} {κ : Kind} {x y z : Ptr} (r : ℕ) →
      Ready h → OnFieldTo v k (fields κ).first c s x → FieldOk s (length s) y (fields κ).second → FieldOk s (length s) z (fields κ).third → ValueGood s v →
      field_height s (fields κ).second y ≤ h → field_height s (fields κ).third z ≤ h → OnRowTo v k c s r (node κ x y z)
  after_one {c = c} r i d₁ o₂ o₃ g l₂ l₃ = after_two r i d₁ (later_replaced i c d₁.more d₁.formed o₂ g l₂) o₃ g l₃

  row_replaced : {h : ℕ} {s : Store} {w : Row} →
      Ready h → (c r : ℕ) → Formed s → FieldsOk s (length s) w → ValueGood s v → (cell s w).height ≤ suc h → OnRowTo v k c s r w
  unfolding cell
  row_replaced {s = s} i c r f (var_fields {i = j}) g l = var_replaced v k c s r j (place j c)
  row_replaced {s = s} i c r f (node_fields o₁ o₂ o₃) g l = after_one r i (field_replaced i c f o₁ g (omega arith)) o₂ o₃ g (omega arith) (omega arith)

  pointer_replaced : {h : ℕ} {s : Store} {p : Ptr} →
      Ready h → (c : ℕ) → Formed s → Good s p → ValueGood s v → (cell_at s p.row).height ≤ suc h → ReplacesTo v k c s p
  pointer_replaced {h} {s} {p} i c f o g l = go (dec_le (bound s p) c) (dec_le (c + count v) p.shift)
    where
      recorded : (cell s (row_at s p.row)).height ≤ suc h
      recorded = omega (arith, l, ap (λ (z : Cell). z.height) (f.each p.row o.lower).exact)

      within : c < bound s p → p.shift < c + count v → OnRowTo v k (c - p.shift) s p.row (row_at s p.row) → ReplacesTo v k c s p
      within a b d = record { result = got d.result.store (up d.result.store d.result.at p.shift); replaces = inside a b d.on_row refl }

      beyond : c < bound s p → c + count v ≤ p.shift → ReplacesTo v k c s p
      beyond a b = record { result = got s (ptr p.row (p.shift - count v + k)); replaces = moved a b refl }

      go : Dec (bound s p ≤ c) → Dec (c + count v ≤ p.shift) → ReplacesTo v k c s p
      go (yes a) b = record { result = got s p; replaces = same a refl }
      go (no a) (yes b) = beyond (omega arith) b
      go (no a) (no b) = within (omega arith) (omega arith) (row_replaced i (c - p.shift) p.row f (good_fields f o) g recorded)

  ready : (h : ℕ) → Ready h
  ready zero = record {
    at = λ c s p f o x l. absurd (omega (arith, height_positive s (row_at s p.row), ap (λ (z : Cell). z.height) (f.each p.row o.lower).exact));
  }
  ready (suc h) = record { at = λ c s p f o x l. pointer_replaced (ready h) c f o x l }

pub replaces_exists : (v : Option Ptr) (k c : ℕ) {s : Store} {p : Ptr} → Formed s → Good s p → ValueGood s v → ReplacesTo v k c s p
replaces_exists v k c {s} {p} f o x = (ready v k (cell_at s p.row).height).at c s p f o x (le_refl _)

-- THERE IS ONLY ONE

mutual
  pub replaces_unique : {v : Option Ptr} {k c : ℕ} {s : Store} {p : Ptr} {g g' : Got} → Replaces v k c s p g → Replaces v k c s p g' → g ≡ g'
  replaces_unique (same h e) (same h' e') = sym e ∙ e'
  replaces_unique (same h e) (moved h' l' e') = absurd (omega arith)
  replaces_unique (same h e) (inside h' l' r' e') = absurd (omega arith)
  replaces_unique (moved h l e) (same h' e') = absurd (omega arith)
  replaces_unique (moved h l e) (moved h' l' e') = sym e ∙ e'
  replaces_unique (moved h l e) (inside h' l' r' e') = absurd (omega arith)
  replaces_unique (inside h l r e) (same h' e') = absurd (omega arith)
  replaces_unique (inside h l r e) (moved h' l' e') = absurd (omega arith)
  replaces_unique {p = p} (inside h l r e) (inside h' l' r' e') =
      sym e ∙ ap (λ (g : Got). got g.store (up g.store g.at p.shift)) (row_unique r r') ∙ e'

  row_unique : {v : Option Ptr} {k c : ℕ} {s : Store} {r : ℕ} {w : Row} {g g' : Got} → OnRow v k c s r w g → OnRow v k c s r w g' → g ≡ g'
  row_unique (stays h e) (stays h' e') = sym e ∙ e'
  row_unique (stays h e) (value h' q' e') = absurd (omega arith)
  row_unique (stays h e) (moves h' e') = absurd (omega arith)
  row_unique (value h q e) (stays h' e') = absurd (omega arith)
  row_unique {c = c} {s} (value {x = x} h q e) (value {x = x'} h' q' e') = let z : x ≡ x' = cc in sym e ∙ ap (λ (y : Ptr). got s (up s y c)) z ∙ e'
  row_unique (value h q e) (moves h' e') = let z = ap count q in absurd (omega arith)
  row_unique (moves h e) (stays h' e') = absurd (omega arith)
  row_unique (moves h e) (value h' q e') = let z = ap count q in absurd (omega arith)
  row_unique (moves h e) (moves h' e') = sym e ∙ e'
  row_unique {v} {k} {c} (children {κ = κ} {y = y} {z = z} {g₁ = g₁} {g₂ = g₂} {g₃ = g₃} a b d e) (children {g₁ = g₁'} {g₂ = g₂'} {g₃ = g₃'} a' b' d' e') =
      let q₁ : g₁' ≡ g₁ = sym (field_unique a a') in
      let q₂ : g₂' ≡ g₂ = sym (field_unique b (subst (λ (g : Got). OnField v k (fields κ).second c g.store y g₂') q₁ b')) in
      let q₃ : g₃' ≡ g₃ = sym (field_unique d (subst (λ (g : Got). OnField v k (fields κ).third c g.store z g₃') q₂ d')) in
      sym e ∙ sym (λ i. put (q₃ i).store (node κ (q₁ i).at (q₂ i).at (q₃ i).at)) ∙ e'

  field_unique : {v : Option Ptr} {k : ℕ} {τ : Tag} {c : ℕ} {s : Store} {p : Ptr} {g g' : Got} → OnField v k τ c s p g → OnField v k τ c s p g' → g ≡ g'
  field_unique (word e) (word e') = sym e ∙ e'
  field_unique (child r) (child r') = replaces_unique r r'
  field_unique (under r) (under r') = replaces_unique r r'
