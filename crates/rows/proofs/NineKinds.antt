-- The nine kinds: a row's kind has the fields that the rules' table gives its number, and its bound and height follow from them.
-- Assumes nothing.
use Prim.Native.Nat.{ℕ, zero, suc, ◌≤◌, ◌<◌, max}
use native.Mathlib.Omega.{arith}
use mathlib.Core.Path.{◌≡◌, refl, ap}
use Rattle.rules.specs.Kinds.{Tag, plain, term, body, table, fields}
use Rattle.rules.specs.Rows.{Ptr, node, Store, cell, field_bound, field_height}
use Rattle.rows.specs.Words.{kind_of, tags_at, tag_at, shown, row_by}

-- what holds of each of the nine holds of every kind up to 8
pub each_kind : (P : ℕ → Type 0) → P 0 → P 1 → P 2 → P 3 → P 4 → P 5 → P 6 → P 7 → P 8 → (k : ℕ) → k ≤ 8 → P k
each_kind P p0 p1 p2 p3 p4 p5 p6 p7 p8 zero h = p0
each_kind P p0 p1 p2 p3 p4 p5 p6 p7 p8 (suc zero) h = p1
each_kind P p0 p1 p2 p3 p4 p5 p6 p7 p8 (suc (suc zero)) h = p2
each_kind P p0 p1 p2 p3 p4 p5 p6 p7 p8 (suc (suc (suc zero))) h = p3
each_kind P p0 p1 p2 p3 p4 p5 p6 p7 p8 (suc (suc (suc (suc zero)))) h = p4
each_kind P p0 p1 p2 p3 p4 p5 p6 p7 p8 (suc (suc (suc (suc (suc zero))))) h = p5
each_kind P p0 p1 p2 p3 p4 p5 p6 p7 p8 (suc (suc (suc (suc (suc (suc zero)))))) h = p6
each_kind P p0 p1 p2 p3 p4 p5 p6 p7 p8 (suc (suc (suc (suc (suc (suc (suc zero))))))) h = p7
each_kind P p0 p1 p2 p3 p4 p5 p6 p7 p8 (suc (suc (suc (suc (suc (suc (suc (suc zero)))))))) h = p8
each_kind P p0 p1 p2 p3 p4 p5 p6 p7 p8 (suc (suc (suc (suc (suc (suc (suc (suc (suc k))))))))) h = absurd (omega arith)

-- what holds of each of the three holds of every field
pub each_field : (P : ℕ → Type 0) → P 0 → P 1 → P 2 → (j : ℕ) → j < 3 → P j
each_field P p0 p1 p2 zero h = p0
each_field P p0 p1 p2 (suc zero) h = p1
each_field P p0 p1 p2 (suc (suc zero)) h = p2
each_field P p0 p1 p2 (suc (suc (suc j))) h = absurd (omega arith)

pub fields_are : (k : ℕ) (a b : Ptr) → k ≤ 8 → fields (kind_of k a b) ≡ tags_at k
unfolding fields table kind_of tags_at
fields_are k a b h =
    each_kind (λ (i : ℕ). fields (kind_of i a b) ≡ tags_at i) refl refl refl refl refl refl refl refl refl k h

pub row_node : (k : ℕ) (a b c : Ptr) → (k ≡ 0 → ⊥) →
    row_by k a b c ≡ node (kind_of k a b) (shown (tag_at k 0) a) (shown (tag_at k 1) b) (shown (tag_at k 2) c)
unfolding row_by
row_node zero a b c f = absurd (f refl)
row_node (suc k) a b c f = refl

-- a kind's plain words stand in its plain fields alone
pub kind_kept : (k : ℕ) (a b a' b' : Ptr) → k ≤ 8 → (tag_at k 0 ≡ plain → a' ≡ a) → (tag_at k 1 ≡ plain → b' ≡ b) → kind_of k a' b' ≡ kind_of k a b
unfolding kind_of tags_at table
kind_kept k a b a' b' h =
    each_kind (λ (i : ℕ). (tag_at i 0 ≡ plain → a' ≡ a) → (tag_at i 1 ≡ plain → b' ≡ b) → kind_of i a' b' ≡ kind_of i a b)
    (λ _ _. refl)
    (λ f _. ap (λ (p : Ptr). kind_of 1 p b) (f refl))
    (λ f _. ap (λ (p : Ptr). kind_of 2 p b) (f refl))
    (λ _ _. refl)
    (λ _ _. refl)
    (λ _ _. refl)
    (λ _ _. refl)
    (λ _ g. ap (λ (p : Ptr). kind_of 7 a p) (g refl))
    (λ f _. ap (λ (p : Ptr). kind_of 8 p b) (f refl))
    k h

-- what a field adds is read from its pair, also where a plain word's pair is shown as blank
pub bound_shown : (s : Store) (t : Tag) (p : Ptr) → field_bound s t (shown t p) ≡ field_bound s t p
unfolding field_bound
bound_shown s plain p = refl
bound_shown s term p = refl
bound_shown s body p = refl

pub height_shown : (s : Store) (t : Tag) (p : Ptr) → field_height s t (shown t p) ≡ field_height s t p
unfolding field_height
height_shown s plain p = refl
height_shown s term p = refl
height_shown s body p = refl

-- a row with a kind other than 0 takes its bound and height from its three pairs, by the table
module _ (s : Store) (k : ℕ) (a b c : Ptr) (kind : suc k ≤ 8) where
  pub row_bound : (cell s (row_by (suc k) a b c)).bound
      ≡ max (max (field_bound s (tag_at (suc k) 0) a) (field_bound s (tag_at (suc k) 1) b)) (field_bound s (tag_at (suc k) 2) c)
  unfolding cell row_by
  row_bound = rw (fields_are (suc k) a b kind) (simp bound_shown)

  pub row_height : (cell s (row_by (suc k) a b c)).height
      ≡ suc (max (max (field_height s (tag_at (suc k) 0) a) (field_height s (tag_at (suc k) 1) b)) (field_height s (tag_at (suc k) 2) c))
  unfolding cell row_by
  row_height = rw (fields_are (suc k) a b kind) (simp height_shown)

pub term_not_plain : term ≡ plain → ⊥
term_not_plain e = cc

pub body_not_plain : body ≡ plain → ⊥
body_not_plain e = cc

-- a child's pair is shown as it stands
pub child_shown : (t : Tag) (p : Ptr) → (t ≡ plain → ⊥) → shown t p ≡ p
child_shown plain p f = absurd (f refl)
child_shown term p f = refl
child_shown body p f = refl
