-- Replacement down the rows reads out as textbook shifting and substitution of what the rows read out as.
-- Assumes a formed store, a good pointer and a good value; says that the grown store keeps the old rows and is formed, that the
-- result is a good pointer, and which tree it reads as. By induction on how replacement came about: a lemma for each of its cases.
use Rattle.std.specs.Prelude.{ℕ, suc, ◌+◌, ◌-◌, ◌≤◌, ◌<◌, ◌≡◌, refl, length}
use Rattle.std.proofs.Common.{arith, sym, ap, ◌∙◌, subst as along}
use Rattle.std.proofs.Math.Option.{Option, none, some}
use Rattle.rules.specs.Kinds.{Kind, Tag, plain, fields}
use Rattle.rules.specs.Rows.{Ptr, ptr, Row, node, Store, row_at, bound_on, bound, up, cell, Got, got, put}
use Rattle.rules.specs.Rows as R
use Rattle.rules.specs.RowCheck.{FieldOk, term_ok, body_ok}
use Rattle.rules.specs.Replacement.{count, Replaces, same, moved, inside, OnRow, stays, value, moves, children, OnField, word, child, under}
use Rattle.rules.specs.ReadOut.{Tree, var, shift, subst, Reads, shifted, ReadsRow, reads_var}
use Rattle.substitution.specs.Trees.{move, build, cutoff, move-build, move_low, move_here, move_high}
use Rattle.substitution.specs.Trees as T
use Rattle.substitution.specs.TreeLaws.{move_closed, move-shift, move_under, move-none, move_some}
use Rattle.substitution.specs.Stores.{FieldsOk, var_fields, node_fields, first_ok, second_ok, third_ok, term_child, body_child, Formed, Good}
use Rattle.substitution.specs.Stores.{good_fields, Ext, ext_same, ext_then, ext_put, ext_good, ext_good_field, end_row, put_good, put_formed}
use Rattle.substitution.specs.Stores.{up_child}
use Rattle.substitution.specs.Reading.{ReadsField, no_term, as_term, as_body, row_fields, fields_row, of_term, of_body, before_shift}
use Rattle.substitution.specs.Reading.{reads_unshifted, reads_later, row_later, field_later}
use Rattle.substitution.specs.Bounds.{bound_is_loose, reads_up}

-- what replacement leaves: rows put at the end of the store, which stays formed, and a good pointer that reads as t
pub record Replaced (s : Store) (g : Got) (t : Tree) : Type 0 where
  pub more : Ext s g.store
  pub formed : Formed g.store
  pub good : Good g.store g.at
  pub reads : Reads g.store g.at t

-- likewise at a field
record FieldReplaced (s : Store) (τ : Tag) (g : Got) (t : Tree) : Type 0 where
  more : Ext s g.store
  formed : Formed g.store
  good : FieldOk g.store (length g.store) g.at τ
  reads : ReadsField g.store τ g.at t

-- the value, if there is one, is a good pointer and reads as the tree
pub data ValueReads (s : Store) : Option Ptr → Option Tree → Type 0 where
  no_value : ValueReads s none none
  a_value : {p : Ptr} {t : Tree} → Good s p → Reads s p t → ValueReads s (some p) (some t)

value_later : {s s' : Store} {v : Option Ptr} {u : Option Tree} → Formed s → Ext s s' → ValueReads s v u → ValueReads s' v u
value_later f e no_value = no_value
value_later f e (a_value o r) = a_value (ext_good e o) (reads_later f e o r)

value_count : {s : Store} {v : Option Ptr} {u : Option Tree} → ValueReads s v u → T.count u ≡ count v
value_count no_value = refl
value_count (a_value o r) = refl

-- a row put at the end reads as it would before
pub put_reads : {s : Store} {w : Row} {t : Tree} → Formed s → FieldsOk s (length s) w → ReadsRow s w t → Replaced s (put s w) t
put_reads {s} {w} f o r = record {
  more = ext_put s (cell s w);
  formed = put_formed f o;
  good = put_good s w;
  reads = reads_unshifted (end_row s w) (row_later f (ext_put s (cell s w)) o r);
}

-- what is not closed may be shifted
open_good : {s : Store} {p : Ptr} {c : ℕ} (k : ℕ) → Good s p → c < bound s p → Good s (ptr p.row k)
open_good {p = p} k o h = record { lower = o.lower; still = λ z. absurd (omega (arith, h, ap (λ (n : ℕ). bound_on n p.shift) z)) }

moved_tree : {s : Store} {v : Option Ptr} {u : Option Tree} (k c n : ℕ) (t : Tree) →
    ValueReads s v u → c + count v ≤ n → shift (n - count v + k) 0 t ≡ move u k c (shift n 0 t)
moved_tree {u = u} k c n t x h =
    ap (λ (m : ℕ). shift (n - m + k) 0 t) (sym (value_count x)) ∙ sym (move-shift u k c n 0 t (omega arith) (omega (arith, value_count x)))

moved_index : {s : Store} {v : Option Ptr} {u : Option Tree} (k c i : ℕ) → ValueReads s v u → c + count v ≤ i → var (i - count v + k) ≡ move u k c (var i)
moved_index {u = u} k c i x h = ap (λ (n : ℕ). var (i - n + k)) (sym (value_count x)) ∙ sym (move_high u k c i (omega (arith, value_count x)))

-- A LEMMA FOR EACH CASE

module _ {s : Store} (k c : ℕ) (f : Formed s) where
  same_case : {p : Ptr} {t : Tree} (u : Option Tree) → Good s p → Reads s p t → bound s p ≤ c → Replaced s (got s p) (move u k c t)
  same_case {p} {t} u o r h = record {
    more = ext_same s;
    formed = f;
    good = o;
    reads = along (Reads s p) (sym (move_closed u k c t (omega (arith, bound_is_loose f o r)))) r;
  }

  moved_case : {p : Ptr} {t : Tree} {v : Option Ptr} {u : Option Tree} →
      Good s p → ValueReads s v u → Reads s p t → c < bound s p → c + count v ≤ p.shift →
      Replaced s (got s (ptr p.row (p.shift - count v + k))) (move u k c t)
  moved_case {p} {u = u} o x (shifted {u = t₀} r e) h l = record {
    more = ext_same s;
    formed = f;
    good = open_good _ o h;
    reads = shifted r (moved_tree k c p.shift t₀ x l ∙ ap (move u k c) e);
  }

  stays_case : {r i : ℕ} (u : Option Tree) → r < length s → row_at s r ≡ R.var i → i < c → Replaced s (got s (ptr r 0)) (move u k c (var i))
  stays_case {r} {i} u l e h = record {
    more = ext_same s;
    formed = f;
    good = record { lower = l; still = λ z. refl };
    reads = along (Reads s (ptr r 0)) (sym (move_low u k c i h)) (reads_unshifted e reads_var);
  }

  value_there : {x : Ptr} {u : Option Tree} (i : ℕ) → ValueReads s (some x) u → i ≡ c → Replaced s (got s (up s x c)) (move u k c (var i))
  value_there {x} i (a_value {t = w} o r) h = record {
    more = ext_same s;
    formed = f;
    good = up_child c o;
    reads = along (Reads s (up s x c)) (sym (move_here w k c i h)) (reads_up c f o r);
  }

  value_case : {v : Option Ptr} {x : Ptr} {u : Option Tree} (i : ℕ) →
      ValueReads s v u → v ≡ some x → i ≡ c → Replaced s (got s (up s x c)) (move u k c (var i))
  value_case {u = u} i y e h = value_there i (along (λ (v : Option Ptr). ValueReads s v u) e y) h

  moves_case : {v : Option Ptr} {u : Option Tree} (i : ℕ) →
      ValueReads s v u → c + count v ≤ i → Replaced s (put s (R.var (i - count v + k))) (move u k c (var i))
  moves_case i x h = along (Replaced s _) (moved_index k c i x h) (put_reads f var_fields reads_var)

-- from what the unshifted row leaves, n the pointer's shift
inside_case : {s : Store} {t : Tree} {g : Got} (u : Option Tree) (k c n : ℕ) (t₀ : Tree) →
    n ≤ c → shift n 0 t₀ ≡ t → Replaced s g (move u k (c - n) t₀) → Replaced s (got g.store (up g.store g.at n)) (move u k c t)
inside_case {t = t} {g = g} u k c n t₀ h e d = record {
  more = d.more;
  formed = d.formed;
  good = up_child n d.good;
  reads = along (Reads g.store (up g.store g.at n)) carried (reads_up n d.formed d.good d.reads);
}
  where
    carried : shift n 0 (move u k (c - n) t₀) ≡ move u k c t
    carried = sym (move_under u k (c - n) n 0 t₀ (omega arith)) ∙ ap (λ (m : ℕ). move u k m (shift n 0 t₀)) (omega arith) ∙ ap (move u k c) e

-- the three fields replaced in turn, each in the store that the one before left, then the new row
children_case : {s : Store} {g₁ g₂ g₃ : Got} (κ : Kind) {t₁ t₂ t₃ : Tree} →
    FieldReplaced s (fields κ).first g₁ t₁ → FieldReplaced g₁.store (fields κ).second g₂ t₂ → FieldReplaced g₂.store (fields κ).third g₃ t₃ →
    Replaced s (put g₃.store (node κ g₁.at g₂.at g₃.at)) (build κ t₁ t₂ t₃)
children_case κ a b c =
    let e = ext_then b.more c.more in
    let good = node_fields (ext_good_field e a.good) (ext_good_field c.more b.good) c.good in
    let reads = fields_row κ (field_later a.formed e a.good a.reads) (field_later b.formed c.more b.good b.reads) c.reads in
    let d = put_reads c.formed good reads in
    record { more = ext_then a.more (ext_then e d.more); formed = d.formed; good = d.good; reads = d.reads }

-- IN ALL

count_one : (v : Option Ptr) → count v ≤ 1
count_one none = omega arith
count_one (some v) = omega arith

pub to : {s : Store} {g g' : Got} {t : Tree} → g ≡ g' → Replaced s g t → Replaced s g' t
to {s} {t = t} e d = along (λ (g : Got). Replaced s g t) e d

as_field : {s : Store} {τ : Tag} {g : Got} {t : Tree} →
    (Good g.store g.at → FieldOk g.store (length g.store) g.at τ) → (Reads g.store g.at t → ReadsField g.store τ g.at t) →
    Replaced s g t → FieldReplaced s τ g t
as_field good reads d = record { more = d.more; formed = d.formed; good = good d.good; reads = reads d.reads }

mutual
  -- in document 01's words
  pub replace_moves : {v : Option Ptr} {u : Option Tree} {k c : ℕ} {s : Store} {p : Ptr} {g : Got} {t : Tree} →
      Formed s → Good s p → ValueReads s v u → Reads s p t → Replaces v k c s p g → Replaced s g (move u k c t)
  replace_moves {u = u} {k} {c} f o x r (same h e) = to e (same_case k c f u o r h)
  replace_moves {k = k} {c} f o x r (moved h l e) = to e (moved_case k c f o x r h l)
  replace_moves {v} {u} {k} {c} {p = p} f o x r (inside h l q e) =
      let b = before_shift r in
      let d = row_moves f o.lower refl (good_fields f o) x b.row q in
      to e (inside_case u k c p.shift b.tree (omega (arith, count_one v)) b.is d)

  row_moves : {v : Option Ptr} {u : Option Tree} {k c : ℕ} {s : Store} {r : ℕ} {w : Row} {g : Got} {t : Tree} →
      Formed s → r < length s → row_at s r ≡ w → FieldsOk s (length s) w → ValueReads s v u → ReadsRow s w t → OnRow v k c s r w g →
      Replaced s g (move u k c t)
  row_moves {u = u} {k} {c} f l q o x reads_var (stays h e) = to e (stays_case k c f u l q h)
  row_moves {k = k} {c} f l q o x reads_var (value {i = i} h z e) = to e (value_case k c f i x z h)
  row_moves {k = k} {c} f l q o x reads_var (moves {i = i} h e) = to e (moves_case k c f i x h)
  row_moves {u = u} {k} {c} {s} f l q o x y (children {κ = κ} a b d e) =
      let z = row_fields y in
      let d₁ = field_moves f (first_ok o) x z.reads_first a in
      let m₁ = d₁.more in
      let d₂ = field_moves d₁.formed (ext_good_field m₁ (second_ok o)) (value_later f m₁ x) (field_later f m₁ (second_ok o) z.reads_second) b in
      let m₂ = ext_then m₁ d₂.more in
      let d₃ = field_moves d₂.formed (ext_good_field m₂ (third_ok o)) (value_later f m₂ x) (field_later f m₂ (third_ok o) z.reads_third) d in
      to e (along (Replaced s _) (move-build u k c κ z.first z.second z.third ∙ ap (move u k c) z.built) (children_case κ d₁ d₂ d₃))

  field_moves : {v : Option Ptr} {u : Option Tree} {k : ℕ} {τ : Tag} {c : ℕ} {s : Store} {p : Ptr} {g : Got} {t : Tree} →
      Formed s → FieldOk s (length s) p τ → ValueReads s v u → ReadsField s τ p t → OnField v k τ c s p g → FieldReplaced s τ g (move u k (cutoff τ c) t)
  field_moves {u = u} {k} {c = c} {s} {t = t} f o x r (word e) =
      along (λ (g : Got). FieldReplaced s plain g (move u k c t)) e (record { more = ext_same s; formed = f; good = o; reads = no_term })
  field_moves f o x r (child q) = as_field term_ok as_term (replace_moves f (term_child o) x (of_term r) q)
  field_moves f o x r (under q) = as_field body_ok as_body (replace_moves f (body_child o) x (of_body r) q)

-- IN TEXTBOOK WORDS

-- no value: what the pointer reads as, shifted by k from c on
pub replace_none_reads : {k c : ℕ} {s : Store} {p : Ptr} {g : Got} {t : Tree} →
    Formed s → Good s p → Reads s p t → Replaces none k c s p g → Replaced s g (shift k c t)
replace_none_reads {k} {c} {s} {g = g} {t} f o r q = along (Replaced s g) (move-none k c t) (replace_moves f o no_value r q)

-- one value: what is above c shifted by k, then the value, shifted past the c binders, substituted for index c
pub replace_some_reads : {v : Ptr} {k c : ℕ} {s : Store} {p : Ptr} {g : Got} {t u : Tree} →
    Formed s → Good s p → Good s v → Reads s p t → Reads s v u → Replaces (some v) k c s p g → Replaced s g (subst (shift c 0 u) c (shift k (suc c) t))
replace_some_reads {k = k} {c} {s} {g = g} {t} {u} f o y r a q = along (Replaced s g) (move_some u k c t) (replace_moves f o (a_value y a) r q)
