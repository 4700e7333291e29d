-- Rows charged one by one, as code does, are the plain computation's rows charged in turn. It holds for all stores; where the plain computation runs out of
-- recorded height, nothing is said.
use Prim.Native.Nat.{ℕ, zero, suc, ◌+◌, ◌-◌}
use Rattle.std.proofs.Common.{arith, sym, ap, ◌∙◌}
use Rattle.std.specs.Prelude.{◌≡◌, length}
use Rattle.std.proofs.Math.Path.{refl}
use mathlib.Core.List.{List, [], ◌∷◌, ◌++◌, append-nil, append_assoc}
use Rattle.std.proofs.Math.Option.{Option, none, some}
use Rattle.std.proofs.Math.Seq.{drop-length, drop-append_seam}
use Rattle.rules.specs.Kinds.{app, const, num, Tag, plain, term, body, fields}
use Rattle.rules.specs.Rows.{Ptr, ptr, blank, Row, var, node, leaf, Cell, Store, cell, cell_at, row_at, bound, up, Got, got, put}
use Rattle.rules.specs.Replacement.{count}
use Rattle.rules.specs.Spines.{joined}
use Rattle.rules.specs.Firings.{Result, opened, itself, a_number, a_constant}
use Rattle.rules.specs.HeadTests.{given}
use Rattle.rules.specs.Refusals.{Limits}
use Rattle.course.specs.Views.{Cmp, up_to, over, cmp, FitView, fits, no_fit, fit_view}
use Rattle.course.specs.Eval.{on_index, on_field, on_row, on_ptr, replace_by, give, due_of, emit_on, emit, charge}
use Rattle.course.specs.Charged.{Out, wrote, refused, and_on, put_on, put_in, join_in, index_in, field_in, row_in, ptr_in, replace_in, give_in, due_in}
use Rattle.substitution.specs.Stores.{Ext, ext_same, ext_then, ext_put}

abbrev pub settle_on : Got → Option ℕ → Out
settle_on g none = wrote g
settle_on g (some n) = refused n

-- the rows from s to g's store charged in turn
abbrev pub settle : Limits → Store → Got → Out
settle lim s g = settle_on g (charge lim s g.store)

-- the first refusal counts
abbrev pub first_of : Option ℕ → Option ℕ → Option ℕ
first_of none o = o
first_of (some k) o = some k

module _ (lim : Limits) where
  -- THE KEY LAW: rows after rows
  pub emit_append : (s : Store) (xs ys : List Cell) → emit lim s (xs ++ ys) ≡ first_of (emit lim s xs) (emit lim (s ++ xs) ys)
  unfolding emit
  emit_append s [] ys = rw append-nil
  emit_append s (x ∷ xs) ys =
      on _ (emit lim (s ++ (x ∷ [])) xs) (emit lim (s ++ (x ∷ xs)) ys) (fit_view x) (cmp lim.rows (length s))
      (rw append_assoc at (emit_append (s ++ (x ∷ [])) xs ys))
    where
      on : (o o₁ o₂ : Option ℕ) (f : FitView x) (c : Cmp lim.rows (length s)) → o ≡ first_of o₁ o₂ → emit_on lim x s f c o ≡ first_of (emit_on lim x s f c o₁) o₂
      on o o₁ o₂ (no_fit h) c q = refl
      on o o₁ o₂ (fits h) (up_to l) q = refl
      on o o₁ o₂ (fits h) (over l) q = q

  pub charge_append : {s s₁ s₂ : Store} → Ext s s₁ → Ext s₁ s₂ → charge lim s s₂ ≡ first_of (charge lim s s₁) (charge lim s₁ s₂)
  charge_append {s} a b =
      rw (← b.after, ← a.after, drop-append_seam (s ++ a.new) b.new, append_assoc, drop-append_seam s (a.new ++ b.new), drop-append_seam s a.new)
      (emit_append s a.new b.new)

  -- the plain computation and the charging one, from s
  pub data Charges (s : Store) : Option Got → Out → Type 0 where
    nothing_said : {o : Out} → Charges s none o
    in_turn : {g : Got} {o : Out} → Ext s g.store → settle lim s g ≡ o → Charges s (some g) o

  pub settled : {s : Store} {x : Option Got} {g : Got} {o : Out} → Charges s x o → x ≡ some g → o ≡ settle lim s g
  settled {s} {g = g} nothing_said q = absurd (let z : ◌≡◌ {A = ℕ} 0 1 = cc in omega arith)
  settled {s} {g = g} (in_turn {g = g'} a e) q = let z : g' ≡ g = cc in sym e ∙ ap (settle lim s) z

  -- ONE AFTER THE OTHER
  on_from : {s : Store} {x : Option Got} (next : Got → Out) (g : Got) → Ext s g.store → (c : Option ℕ) → charge lim s g.store ≡ c →
      Charges g.store x (next g) → Charges s x (and_on (settle_on g c) next)
  on_from next g a c q nothing_said = nothing_said
  on_from next g a none q (in_turn {g = g₁} b e) = in_turn {g = g₁} {o = next g} (ext_then a b) (rw (charge_append a b, q) e)
  on_from next g a (some k) q (in_turn {g = g₁} b e) = in_turn {g = g₁} {o = refused k} (ext_then a b) (rw (charge_append a b, q))

  and_then_charges : {s : Store} {f : Got → Option Got} {next : Got → Out} {x : Option Got} {o : Out} → Charges s x o →
      ((g : Got) → Charges g.store (f g) (next g)) → Charges s (given x f) (and_on o next)
  and_then_charges nothing_said k = nothing_said
  and_then_charges {s} {f} {next} (in_turn {g = g} a e) k = rw (← e) (on_from next g a (charge lim s g.store) refl (k g))

  -- NO ROW, AND ONE ROW
  no_row_charges : (s : Store) (p : Ptr) → Charges s (some (got s p)) (wrote (got s p))
  unfolding emit
  no_row_charges s p = in_turn {g = got s p} {o = wrote (got s p)} (ext_same s) (rw drop-length)

  put_charges : (s : Store) (w : Row) → Charges s (some (put s w)) (put_in lim.rows s w)
  unfolding emit put_in
  put_charges s w = in_turn {g = put s w} {o = put_in lim.rows s w} (ext_put s (cell s w)) (rw drop-append_seam (on (fit_view (cell s w)) (cmp lim.rows (length s))))
    where
      on : (f : FitView (cell s w)) (c : Cmp lim.rows (length s)) → settle_on (put s w) (emit_on lim (cell s w) s f c none) ≡ put_on lim.rows s w f c
      on (no_fit h) c = refl
      on (fits h) (up_to l) = refl
      on (fits h) (over l) = refl

  -- ARGUMENTS
  pub join_charges : (s : Store) (p : Ptr) (xs : List Ptr) → Charges s (some (joined s p xs)) (join_in lim.rows s p xs)
  unfolding joined join_in
  join_charges s p [] = no_row_charges s p
  join_charges s p (a ∷ xs) = and_then_charges (put_charges s (node app p a blank)) λ g. join_charges g.store g.at xs

  -- REPLACEMENT
  module _ (v : Option Ptr) (k : ℕ) where
    index_charges : (w : Option Ptr) (c : ℕ) (s : Store) (r i : ℕ) (a : Cmp c i) (b : Cmp i c) →
        Charges s (some (on_index v k w c s r i a b)) (index_in lim.rows v k w c s r i a b)
    index_charges w c s r i (over h) b = no_row_charges s (ptr r 0)
    index_charges none c s r i (up_to h) (over l) = put_charges s (var (i - count v + k))
    index_charges (some x) c s r i (up_to h) (over l) = put_charges s (var (i - count v + k))
    index_charges none c s r i (up_to h) (up_to l) = put_charges s (var (i - count v + k))
    index_charges (some x) c s r i (up_to h) (up_to l) = no_row_charges s (up s x c)

    module _ (by : ℕ → Store → Ptr → Option Got) (rec : ℕ → Store → Ptr → Out) (rec_charges : (c : ℕ) (s : Store) (p : Ptr) → Charges s (by c s p) (rec c s p)) where
      field_charges : (τ : Tag) (c : ℕ) (s : Store) (p : Ptr) → Charges s (on_field v k by τ c s p) (field_in lim.rows v k rec τ c s p)
      field_charges plain c s p = no_row_charges s p
      field_charges term c s p = rec_charges c s p
      field_charges body c s p = rec_charges (suc c) s p

      row_charges : (c : ℕ) (s : Store) (r : ℕ) (w : Row) → Charges s (on_row v k by c s r w) (row_in lim.rows v k rec c s r w)
      unfolding on_row row_in
      row_charges c s r (var i) = index_charges v c s r i (cmp c i) (cmp i c)
      row_charges c s r (node κ x y z) =
          and_then_charges (field_charges (fields κ).first c s x) λ g₁.
          and_then_charges (field_charges (fields κ).second c g₁.store y) λ g₂.
          and_then_charges (field_charges (fields κ).third c g₂.store z) λ g₃.
          put_charges g₃.store (node κ g₁.at g₂.at g₃.at)

      ptr_charges : (c : ℕ) (s : Store) (p : Ptr) (a : Cmp (bound s p) c) (b : Cmp (c + count v) p.shift) →
          Charges s (on_ptr v k by c s p a b) (ptr_in lim.rows v k rec c s p a b)
      ptr_charges c s p (up_to h) b = no_row_charges s p
      ptr_charges c s p (over h) (up_to l) = no_row_charges s (ptr p.row (p.shift - count v + k))
      ptr_charges c s p (over h) (over l) =
          and_then_charges (row_charges (c - p.shift) s p.row (row_at s p.row)) λ g.
          no_row_charges g.store (up g.store g.at p.shift)

    pub replace_charges : (f c : ℕ) (s : Store) (p : Ptr) → Charges s (replace_by v k f c s p) (replace_in lim.rows v k f c s p)
    unfolding replace_by replace_in
    replace_charges zero c s p = nothing_said
    replace_charges (suc f) c s p =
        ptr_charges (λ c' s' p'. replace_by v k f c' s' p') (λ c' s' p'. replace_in lim.rows v k f c' s' p') (replace_charges f) c s p
        (cmp (bound s p) c) (cmp (c + count v) p.shift)

  -- A FIRING
  pub give_charges : (s : Store) (r : Result) → Charges s (give s r) (give_in lim.rows s r)
  unfolding give give_in
  give_charges s (opened b v k) = replace_charges (some v) k (cell_at s b.row).height 0 s b
  give_charges s (itself p) = no_row_charges s p
  give_charges s (a_number n) = put_charges s (leaf (num n))
  give_charges s (a_constant d) = put_charges s (leaf (const d 0))

  pub due_charges : (s : Store) (r : Result) (xs : List Ptr) → Charges s (due_of s r xs) (due_in lim.rows s r xs)
  unfolding due_of due_in
  due_charges s r xs = and_then_charges (give_charges s r) λ g. join_charges g.store g.at xs

  -- WHAT CODE CITES
  pub replace_in_lem : (v : Option Ptr) (k f c : ℕ) (s : Store) (p : Ptr) {g : Got} → replace_by v k f c s p ≡ some g → replace_in lim.rows v k f c s p ≡ settle lim s g
  replace_in_lem v k f c s p q = settled (replace_charges v k f c s p) q

  pub join_in_lem : (s : Store) (p : Ptr) (xs : List Ptr) → join_in lim.rows s p xs ≡ settle lim s (joined s p xs)
  join_in_lem s p xs = settled (join_charges s p xs) refl

  pub give_in_lem : (s : Store) (r : Result) {g : Got} → give s r ≡ some g → give_in lim.rows s r ≡ settle lim s g
  give_in_lem s r q = settled (give_charges s r) q

  pub due_in_lem : (s : Store) (r : Result) (xs : List Ptr) {g : Got} → due_of s r xs ≡ some g → due_in lim.rows s r xs ≡ settle lim s g
  due_in_lem s r xs q = settled (due_charges s r xs) q
