-- Replacement, at cutoff c, with one value (n = 1) or none (n = 0) and a move k: from a store and a pointer to the store grown and a pointer.
use Rattle.std.specs.Prelude.{ℕ, suc, ◌+◌, ◌-◌, ◌≤◌, ◌<◌, ◌≡◌}
use Rattle.std.proofs.Math.Option.{Option, none, some}
use Rattle.rules.specs.Kinds.{Kind, Tag, plain, term, body, fields}
use Rattle.rules.specs.Rows.{Ptr, ptr, Row, var, node, Store, row_at, bound, up, Got, got, put}

-- n
abbrev pub count : Option Ptr → ℕ
count none = 0
count (some v) = 1

mutual
  -- on a pointer: "Pointer bound at most c", "Shift s at least c + n", "Otherwise", tested in this order
  pub data Replaces (v : Option Ptr) (k : ℕ) : ℕ → Store → Ptr → Got → Type 0 where
    same : {c : ℕ} {s : Store} {p : Ptr} {g : Got} → bound s p ≤ c → got s p ≡ g → Replaces v k c s p g
    moved : {c : ℕ} {s : Store} {p : Ptr} {g : Got} → c < bound s p → c + count v ≤ p.shift →
        got s (ptr p.row (p.shift - count v + k)) ≡ g → Replaces v k c s p g
    inside : {c : ℕ} {s : Store} {p : Ptr} {g g₁ : Got} → c < bound s p → p.shift < c + count v →
        OnRow v k (c - p.shift) s p.row (row_at s p.row) g₁ →
        got g₁.store (up g₁.store g₁.at p.shift) ≡ g → Replaces v k c s p g

  -- on an unshifted row: a variable, or children in field order, then the new row
  pub data OnRow (v : Option Ptr) (k : ℕ) : ℕ → Store → ℕ → Row → Got → Type 0 where
    stays : {c : ℕ} {s : Store} {r i : ℕ} {g : Got} → i < c → got s (ptr r 0) ≡ g → OnRow v k c s r (var i) g
    value : {c : ℕ} {s : Store} {r i : ℕ} {x : Ptr} {g : Got} → i ≡ c → v ≡ some x → got s (up s x c) ≡ g → OnRow v k c s r (var i) g
    moves : {c : ℕ} {s : Store} {r i : ℕ} {g : Got} → c + count v ≤ i → put s (var (i - count v + k)) ≡ g → OnRow v k c s r (var i) g
    children : {c : ℕ} {s : Store} {r : ℕ} {κ : Kind} {x y z : Ptr} {g g₁ g₂ g₃ : Got} →
        OnField v k (fields κ).first c s x g₁ → OnField v k (fields κ).second c g₁.store y g₂ → OnField v k (fields κ).third c g₂.store z g₃ →
        put g₃.store (node κ g₁.at g₂.at g₃.at) ≡ g → OnRow v k c s r (node κ x y z) g

  -- by the table: a plain word stays, "bodies at c + 1"
  pub data OnField (v : Option Ptr) (k : ℕ) : Tag → ℕ → Store → Ptr → Got → Type 0 where
    word : {c : ℕ} {s : Store} {p : Ptr} {g : Got} → got s p ≡ g → OnField v k plain c s p g
    child : {c : ℕ} {s : Store} {p : Ptr} {g : Got} → Replaces v k c s p g → OnField v k term c s p g
    under : {c : ℕ} {s : Store} {p : Ptr} {g : Got} → Replaces v k (suc c) s p g → OnField v k body c s p g
