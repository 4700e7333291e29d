-- An embedding of stores: the same rows up to their numbers. Its laws: what a pointer reads on both sides, a row put at the end, rows written in turn,
-- and that the new rows on one side are the new rows on the other, renamed. Assumes nothing: past the ends, too, the two sides agree.
use Prim.Native.Nat.{ℕ, zero, suc, ◌+◌, ◌-◌, ◌≤◌, ◌<◌, pred, max}
use Rattle.std.proofs.Common.{add-zero, arith, sym, ◌∙◌, subst, length-append, ext_get_or}
use Rattle.std.specs.Prelude.{◌≡◌, length, get_or}
use Rattle.std.proofs.Math.Path.{refl, ap}
use mathlib.Core.List.{List, [], ◌∷◌, ◌++◌, map, append_assoc}
use Rattle.std.proofs.lemmas.List.{length-map}
use Rattle.std.proofs.Math.ListN.{get_or-map}
use Rattle.rules.specs.Kinds.{Tag, plain, term, body, table, fields}
use Rattle.rules.specs.Rows.{Ptr, ptr, Row, var, node, Cell, Store, cell_at, row_at, bound_on, bound, up_on, up, field_bound, field_height, cell, grow, put}
use Rattle.rules.specs.RowCheck.{Fits}
use Rattle.rules.specs.Firings.{AllFit, none_left, and_then, Written}
use Rattle.rules.specs.Refusals.{RowDue}
use Rattle.substitution.specs.Places.{Place, below, here, past, place}
use Rattle.substitution.specs.Stores.{Ext, ext_put, ext_written, ext_cell, ext_new, ext_length, no_cell, past_end, end_cell, put-length, by_end}

module _ (ρ : ℕ → ℕ) where
  -- RENAMING: the row is renamed, the shift stays
  abbrev pub ren : Ptr → Ptr
  ren p = ptr (ρ p.row) p.shift

  -- by the table: a plain word stays
  abbrev pub ren_field : Tag → Ptr → Ptr
  ren_field plain p = p
  ren_field term p = ren p
  ren_field body p = ren p

  unfoldable pub ren_row : Row → Row
  ren_row (var i) = var i
  ren_row (node κ x y z) = node κ (ren_field (fields κ).first x) (ren_field (fields κ).second y) (ren_field (fields κ).third z)

  abbrev pub ren_cell : Cell → Cell
  ren_cell c = record { row = ren_row c.row; bound = c.bound; height = c.height }

  -- rows below the end go to their copies, and new rows to new rows; two rows may go to one
  pub record Embeds (s s̃ : Store) : Type 0 where
    pub cells : (r : ℕ) → r < length s → cell_at s̃ (ρ r) ≡ ren_cell (cell_at s r)
    pub low : (r : ℕ) → r < length s → ρ r < length s̃
    pub new : (j : ℕ) → ρ (length s + j) ≡ length s̃ + j

  -- WHAT A POINTER READS

  no_cell_renamed : ren_cell no_cell ≡ no_cell
  unfolding no_cell ren_row fields table
  no_cell_renamed = refl

  past_renamed : {s s̃ : Store} → Embeds s s̃ → (r : ℕ) → length s ≤ r → ρ r ≡ length s̃ + (r - length s)
  past_renamed {s} m r h = let q : length s + (r - length s) ≡ r = omega arith in ap ρ (sym q) ∙ m.new (r - length s)

  past_cells : {s s̃ : Store} → Embeds s s̃ → (r : ℕ) → length s ≤ r → cell_at s̃ (ρ r) ≡ ren_cell (cell_at s r)
  past_cells {s} {s̃} m r h =
      past_end s̃ (ρ r) (let q = past_renamed m r h in omega arith) ∙ sym no_cell_renamed ∙ ap ren_cell (sym (past_end s r h))

  -- at every row, past the end too, where sort 0 stands on both sides
  pub cell_at_lem : {s s̃ : Store} → Embeds s s̃ → (r : ℕ) → cell_at s̃ (ρ r) ≡ ren_cell (cell_at s r)
  cell_at_lem {s} {s̃} m r = go (place r (length s))
    where
      go : Place r (length s) → cell_at s̃ (ρ r) ≡ ren_cell (cell_at s r)
      go (below h) = m.cells r h
      go (here h) = past_cells m r (omega arith)
      go (past h) = past_cells m r (omega arith)

  pub row_at_lem : {s s̃ : Store} → Embeds s s̃ → (r : ℕ) → row_at s̃ (ρ r) ≡ ren_row (row_at s r)
  row_at_lem m r = ap (λ (c : Cell). c.row) (cell_at_lem m r)

  pub bound_at : {s s̃ : Store} → Embeds s s̃ → (p : Ptr) → bound s̃ (ren p) ≡ bound s p
  bound_at m p = ap (λ (c : Cell). bound_on c.bound p.shift) (cell_at_lem m p.row)

  height_at : {s s̃ : Store} → Embeds s s̃ → (p : Ptr) → (cell_at s̃ (ren p).row).height ≡ (cell_at s p.row).height
  height_at m p = ap (λ (c : Cell). c.height) (cell_at_lem m p.row)

  up_renamed : (b : ℕ) (p : Ptr) (k : ℕ) → up_on b (ren p) k ≡ ren (up_on b p k)
  up_renamed zero p k = refl
  up_renamed (suc b) p k = refl

  pub up_at : {s s̃ : Store} → Embeds s s̃ → (p : Ptr) (k : ℕ) → up s̃ (ren p) k ≡ ren (up s p k)
  up_at {s} m p k = ap (λ (c : Cell). up_on c.bound (ren p) k) (cell_at_lem m p.row) ∙ up_renamed (cell_at s p.row).bound p k

  -- A ROW'S BOUND AND HEIGHT

  field_bound_lem : {s s̃ : Store} → Embeds s s̃ → (τ : Tag) (p : Ptr) → field_bound s̃ τ (ren_field τ p) ≡ field_bound s τ p
  unfolding field_bound
  field_bound_lem m plain p = refl
  field_bound_lem m term p = bound_at m p
  field_bound_lem m body p = ap pred (bound_at m p)

  field_height_lem : {s s̃ : Store} → Embeds s s̃ → (τ : Tag) (p : Ptr) → field_height s̃ τ (ren_field τ p) ≡ field_height s τ p
  unfolding field_height
  field_height_lem m plain p = refl
  field_height_lem m term p = height_at m p
  field_height_lem m body p = height_at m p

  pub new_cell : {s s̃ : Store} → Embeds s s̃ → (w : Row) → cell s̃ (ren_row w) ≡ ren_cell (cell s w)
  unfolding cell ren_row
  new_cell m (var i) = refl
  new_cell m (node κ x y z) = λ i. record {
    row = ren_row (node κ x y z);
    bound = max (max (field_bound_lem m (fields κ).first x i) (field_bound_lem m (fields κ).second y i)) (field_bound_lem m (fields κ).third z i);
    height = suc (max (max (field_height_lem m (fields κ).first x i) (field_height_lem m (fields κ).second y i)) (field_height_lem m (fields κ).third z i));
  }

  -- ROWS WRITTEN

  pub end_renamed : {s s̃ : Store} → Embeds s s̃ → ρ (length s) ≡ length s̃
  end_renamed {s} {s̃} m = ap ρ (sym (add-zero (length s))) ∙ m.new 0 ∙ add-zero (length s̃)

  -- a row and its copy put at the ends
  pub put_embeds : {s s̃ : Store} → Embeds s s̃ → (w : Row) → Embeds (put s w).store (put s̃ (ren_row w)).store
  put_embeds {s} {s̃} m w = record {
    cells = by_end {P = λ r. cell_at s̃' (ρ r) ≡ ren_cell (cell_at s' r)} s w
        (λ r h. ext_cell (ext_put s̃ _) (ρ r) (m.low r h) ∙ m.cells r h ∙ ap ren_cell (sym (ext_cell (ext_put s _) r h)))
        (ap (cell_at s̃') (end_renamed m) ∙ end_cell s̃ _ ∙ new_cell m w ∙ ap ren_cell (sym (end_cell s _)));
    low = by_end {P = λ r. ρ r < length s̃'} s w
        (λ r h. let l = m.low r h in omega (arith, put-length s̃ (ren_row w)))
        (let q = end_renamed m in omega (arith, put-length s̃ (ren_row w)));
    new = λ j.
        ap ρ (ap (◌+ j) (put-length s w) ∙ (let q : suc (length s) + j ≡ length s + suc j = omega arith in q)) ∙ m.new (suc j) ∙
        (let l = put-length s̃ (ren_row w) in omega arith);
  }
    where
      s' : Store
      s' = (put s w).store

      s̃' : Store
      s̃' = (put s̃ (ren_row w)).store

  pub grow_embeds : {s s̃ : Store} → Embeds s s̃ → (ws : List Row) → Embeds (grow s ws) (grow s̃ (map ren_row ws))
  unfolding grow
  grow_embeds m [] = m
  grow_embeds {s = s} m (w ∷ ws) = grow_embeds {s = (put s w).store} (put_embeds m w) ws

  -- FROM STORE TO STORE: with one ρ before and after, the new rows on one side are those on the other, renamed

  -- as many
  pub as_many : {s s̃ s' s̃' : Store} → Embeds s s̃ → Embeds s' s̃' → length s ≤ length s' → length s̃' + length s ≡ length s̃ + length s'
  as_many {s} {s̃} {s'} {s̃'} m m' h = let p = past_renamed m (length s') h in let q = end_renamed m' in omega arith

  new_at : {s s' : Store} (a : Ext s s') (i : ℕ) → cell_at s' (length s + i) ≡ get_or a.new i no_cell
  new_at {s} a i = ext_new a (length s + i) (omega arith) ∙ ap (λ (n : ℕ). get_or a.new n no_cell) (let q : length s + i - length s ≡ i = omega arith in q)

  ext_count : {s s' : Store} (a : Ext s s') → length s' ≡ length s + length a.new
  ext_count {s} a = ap length (sym a.after) ∙ length-append s a.new

  pub new_rows : {s s̃ s' s̃' : Store} → Embeds s s̃ → Embeds s' s̃' → (a : Ext s s') (b : Ext s̃ s̃') → map ren_cell a.new ≡ b.new
  new_rows {s} {s̃} {s'} {s̃'} m m' a b =
      ext_get_or no_cell _ _ (length-map a.new ren_cell ∙ same_length) λ i h.
      ap (get_or (map ren_cell a.new) i) (sym no_cell_renamed) ∙ get_or-map ren_cell a.new i no_cell ∙ ap ren_cell (sym (new_at a i)) ∙
      sym (cell_at_lem m' (length s + i)) ∙ ap (cell_at s̃') (m.new i) ∙ new_at b i
    where
      same_length : length a.new ≡ length b.new
      same_length = let p = ext_count a in let q = ext_count b in let l = as_many m m' (ext_length a) in omega arith

  pub fits_renamed : {x : Cell} → Fits x → Fits (ren_cell x)
  fits_renamed f = record { bound = f.bound; height = f.height }

  pub fits_back : {x : Cell} → Fits (ren_cell x) → Fits x
  fits_back f = record { bound = f.bound; height = f.height }

  fit_renamed : {xs : List Cell} → AllFit xs → AllFit (map ren_cell xs)
  fit_renamed none_left = none_left
  fit_renamed (and_then f fs) = and_then (fits_renamed f) (fit_renamed fs)

  -- rows within the sizes on one side are so on the other
  pub written_carried : {s s̃ s' s̃' : Store} → Embeds s s̃ → Embeds s' s̃' → Ext s̃ s̃' → Written s s' → Written s̃ s̃'
  written_carried m m' b w = record { new = b.new; after = b.after; fit = subst AllFit (new_rows m m' (ext_written w) b) (fit_renamed w.fit) }

  -- part of the way
  between : {s s̃ s₁ s̃₁ s' s̃' : Store} → Embeds s s̃ → Embeds s' s̃' → Ext s s₁ → Ext s₁ s' → Ext s̃ s̃₁ → Ext s̃₁ s̃' →
      length s̃₁ + length s ≡ length s̃ + length s₁ → Embeds s₁ s̃₁
  between {s} {s̃} {s₁} {s̃₁} m m' a a' b b' l = record {
    cells = λ r h. sym (ext_cell b' (ρ r) (lower r h (place r (length s)))) ∙ cell_at_lem m' r ∙ ap ren_cell (ext_cell a' r h);
    low = λ r h. lower r h (place r (length s));
    new = λ j.
        let h = ext_length a in
        let p : length s₁ + j ≡ length s + ((length s₁ - length s) + j) = omega arith in
        let q : length s̃ + ((length s₁ - length s) + j) ≡ length s̃₁ + j = omega arith in
        ap ρ p ∙ m.new ((length s₁ - length s) + j) ∙ q;
  }
    where
      new_lower : (r : ℕ) → r < length s₁ → length s ≤ r → ρ r < length s̃₁
      new_lower r h k = let q = past_renamed m r k in omega arith

      lower : (r : ℕ) → r < length s₁ → Place r (length s) → ρ r < length s̃₁
      lower r h (below k) = let q = m.low r k in let u = ext_length b in omega arith
      lower r h (here k) = new_lower r h (omega arith)
      lower r h (past k) = new_lower r h (omega arith)

  -- a due row is due on the other side, when the copies of those before it stand
  pub record RowDueTo (s̃ s̃' : Store) (x : Cell) (now : Store) : Type 0 where
    pub then : Store
    pub due : RowDue s̃ s̃' (ren_cell x) then
    pub embeds : Embeds now then

  map_append : (xs ys : List Cell) → map ren_cell (xs ++ ys) ≡ map ren_cell xs ++ map ren_cell ys
  map_append [] ys = refl
  map_append (x ∷ xs) ys = ap (ren_cell x ∷◌) (map_append xs ys)

  pub row_due_carried : {s s̃ s' s̃' : Store} {x : Cell} {now : Store} → Embeds s s̃ → Embeds s' s̃' → Ext s̃ s̃' → RowDue s s' x now → RowDueTo s̃ s̃' x now
  row_due_carried {s} {s̃} {s'} {s̃'} {x} {now} m m' b q = record {
    then = s̃ ++ before;
    due = record { before = before; after = after; split = split; fit = fit_renamed q.fit; stand = refl };
    embeds = between m m' to_now from_now (record { new = before; after = refl })
        (record { new = ren_cell x ∷ after; after = append_assoc s̃ before (ren_cell x ∷ after) ∙ split })
        (let l = ext_count to_now in let l' = length-append s̃ before in let k = length-map q.before ren_cell in omega arith);
  }
    where
      before : List Cell
      before = map ren_cell q.before

      after : List Cell
      after = map ren_cell q.after

      split : s̃ ++ (before ++ (ren_cell x ∷ after)) ≡ s̃'
      split =
          ap (s̃ ++◌) (sym (map_append q.before (x ∷ q.after)) ∙ new_rows m m' (record { new = q.before ++ (x ∷ q.after); after = q.split }) b) ∙ b.after

      to_now : Ext s now
      to_now = record { new = q.before; after = q.stand }

      from_now : Ext now s'
      from_now = record {
        new = x ∷ q.after;
        after = ap (◌++ (x ∷ q.after)) (sym q.stand) ∙ append_assoc s q.before (x ∷ q.after) ∙ q.split;
      }
