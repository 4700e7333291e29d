-- The ways out of a variable's row, each as the course has it: the index is the value, or moves and is written. That it stays needs no
-- lemma. Assumes nothing.
use Prim.Native.Nat.{ℕ, zero, suc, ◌+◌, ◌-◌, ◌≤◌, ◌<◌}
use native.Mathlib.Omega.{arith}
use mathlib.Core.Path.{◌≡◌, refl, ap, subst, ◌∙◌}
use mathlib.Core.List.{List}
use mathlib.Core.Option as maybe
use mathlib.Core.Option.{none, some}
use lib.ListN.{length}
use Rattle.rules.specs.Rows as rules
use Rattle.rules.specs.Rows.{Row, Store, var, cell, cell_at, up, up_on, Got, got, put}
use Rattle.rules.specs.Replacement.{count}
use Rattle.course.specs.Views.{Cmp, up_to, over, cmp, FitView, fits, no_fit, fit_view}
use Rattle.course.specs.Charged as course
use Rattle.course.specs.Charged.{put_on, put_in, index_in}
use Rattle.substitution.specs.Stores.{put-length}
use Rattle.substitution.specs.Existence.{ValueGood, some_good}
use Rattle.rows.specs.declared.Ptr.{Ptr}
use Rattle.rows.specs.declared.refusals.Refusal.{Refusal}
use Rattle.rows.specs.Refusals.{Out}
use Rattle.std.specs.Prelude.{Option, Ok, Err, Some, None}
use Rattle.rows.specs.Words.{ptr_of, store_of, whole, Stands, Held}
use Rattle.rows.specs.Writes.{Wrote}
use Rattle.rows.proofs.RefusalNumbers.{same_mark, same_at}
use Rattle.rows.proofs.Store.{used_stands, up_used, held_length}
use Rattle.rows.proofs.InTurn.{wrote_nothing, done_held}
use Rattle.replace.specs.declared.Sub.{Sub}
use Rattle.replace.specs.Replaced.{value_by, value_of, shift_of, most_rows, IndexReady, IndexDone, Near}
use Rattle.replace.proofs.Later.{says_also}

-- NEAR ANSWERS

pub near_done : {nlib most m : ℕ} {p : Ptr} → p.row < nlib + m → p.shift ≤ most → Near nlib most (Ok (p, m))
near_done {nlib} {most} {m} {p} below shift = record {
  below = λ q m' e. subst (λ (r : Ptr). r.row < nlib + m') (same_at e) (subst (λ (n : ℕ). p.row < nlib + n) (same_mark e) below);
  shift = λ q m' e. subst (λ (r : Ptr). r.shift ≤ most) (same_at e) shift;
}

pub near_refused : {nlib most : ℕ} {k : Refusal} → Near nlib most (Err k)
near_refused = record { below = λ q m' e. absurd cc; shift = λ q m' e. absurd cc }

pub near_wider : {nlib a b : ℕ} {r : Out} → a ≤ b → Near nlib a r → Near nlib b r
near_wider h n = record { below = n.below; shift = λ q m' e. let k = n.shift q m' e in omega arith }

-- where a row that was due stands, if it was written
put_at : (most : ℕ) (s : Store) (w : Row) (g : Got) → course.wrote g ≡ put_in most s w → put s w ≡ g
unfolding put_in
put_at most s w g e = go (fit_view (cell s w)) (cmp most (length s)) e
  where
    go : (f : FitView (cell s w)) (q : Cmp most (length s)) → course.wrote g ≡ put_on most s w f q → put s w ≡ g
    go (no_fit h) q e = absurd cc
    go (fits h) (up_to l) e = absurd cc
    go (fits h) (over l) e = cc

-- the row that a writer was asked for: the pointer to it has no shift
module _ (l sc : List ℕ) (nlib m most : ℕ) (w : Row) (held : Held l sc m nlib) where
  pub near_put : (z : ℕ) (r : Out) (sc' : List ℕ) → Wrote l sc m r sc' (put_in most (store_of l sc m) w) → Near nlib z r
  near_put z (Err k) sc' wrote = near_refused
  near_put z (Ok (p, m')) sc' wrote = near_done (omega (arith, row, length_now, many, put-length (store_of l sc m) w)) (omega (arith, shift))
    where
      is : put (store_of l sc m) w ≡ got (store_of l sc' m') (ptr_of p)
      is = put_at most (store_of l sc m) w (got (store_of l sc' m') (ptr_of p)) wrote.says

      row : length (store_of l sc m) ≡ p.row
      row = ap (λ (g : Got). g.at.row) is

      shift : 0 ≡ p.shift
      shift = ap (λ (g : Got). g.at.shift) is

      many : length (put (store_of l sc m) w).store ≡ length (store_of l sc' m')
      many = ap (λ (g : Got). length g.store) is

      length_now : length (store_of l sc' m') ≡ nlib + m'
      length_now = held_length l sc' m' nlib (done_held l sc m p m' sc' _ wrote nlib held)

-- a shifted-up pointer's row and shift
pub up_near : (b : ℕ) (p : rules.Ptr) (k : ℕ) → ((up_on b p k).row ≡ p.row) × ((up_on b p k).shift ≤ p.shift + k)
up_near zero p k = (refl, omega arith)
up_near (suc b) p k = (refl, omega arith)

-- THE COURSE'S CASES

module _ (most : ℕ) (v : maybe.Option rules.Ptr) (k c : ℕ) (s : Store) (r i : ℕ) where
  index_value : (x : rules.Ptr) → i ≡ c → (a : Cmp c i) (b : Cmp i c) → course.wrote (got s (up s x c)) ≡ index_in most v k (some x) c s r i a b
  index_value x h (over l) b = absurd (omega arith)
  index_value x h (up_to l) (over q) = absurd (omega arith)
  index_value x h (up_to l) (up_to q) = refl

  index_moves : (w : maybe.Option rules.Ptr) → c + count w ≤ i → (a : Cmp c i) (b : Cmp i c) →
      put_in most s (var (i - count v + k)) ≡ index_in most v k w c s r i a b
  index_moves none h (over l) b = absurd (omega arith)
  index_moves none h (up_to l) (over q) = refl
  index_moves none h (up_to l) (up_to q) = refl
  index_moves (some x) h (over l) b = absurd (omega arith)
  index_moves (some x) h (up_to l) (over q) = refl
  index_moves (some x) h (up_to l) (up_to q) = absurd (omega arith)

-- THE CODE'S WAYS OUT

value_lower : {s : Store} {v : rules.Ptr} → ValueGood s (some v) → v.row < length s
value_lower (some_good o) = o.lower

module _ {l sc : List ℕ} {nlib m row i c : ℕ} {x : Sub} (given : IndexReady l sc nlib m row i c x) where
  abbrev held : Held l sc m nlib
  held = given.ready.sound.held

  module _ {v : Ptr} (is : x.value ≡ Some v) where
    value_is : value_of x ≡ some (ptr_of v)
    value_is = ap value_by is

    there : v.row < nlib + m
    there =
        let o = value_lower (subst (ValueGood (store_of l sc m)) value_is given.ready.value) in
        omega (arith, o, held_length l sc m nlib held)

    pub value_stands : Stands l sc v.row
    value_stands = used_stands l sc m nlib held v.row there

    pub value_done : i ≡ c → {q : Ptr} → ptr_of q ≡ up (whole l sc) (ptr_of v) c → IndexDone l sc nlib m row i c x (Ok (q, m)) sc
    value_done h {q} e =
        let raised : ptr_of q ≡ up (store_of l sc m) (ptr_of v) c = e ∙ up_used l sc m nlib held v.row there v.shift c in
        let near = up_near (cell_at (store_of l sc m) v.row).bound (ptr_of v) c in
        record {
          wrote = says_also (wrote_nothing l sc m q held.room)
              (ap (λ (p : rules.Ptr). course.wrote (got (store_of l sc m) p)) raised
              ∙ rw value_is (index_value _ (some (ptr_of v)) x.by _ _ row _ _ h (cmp c i) (cmp i c)));
          near = near_done
              (omega (arith, there, ap (λ (p : rules.Ptr). p.row) raised, near.0))
              (omega (arith, ap (λ (p : rules.Ptr). p.shift) raised, near.1, ap shift_of is));
        }

  -- an index that is neither below the cutoff nor the value's
  pub past_value : c ≤ i → ((v : Ptr) → x.value ≡ Some v → i ≡ c → ⊥) → c + count (value_of x) ≤ i
  past_value h f = go x.value f
    where
      go : (o : Option Ptr) → ((v : Ptr) → o ≡ Some v → i ≡ c → ⊥) → c + count (value_by o) ≤ i
      go None f = omega arith
      go (Some v) f = let g = f v refl in omega arith

  pub moves_done : c + count (value_of x) ≤ i → {n : ℕ} → n ≡ count (value_of x) → {r : Out} {sc' : List ℕ} →
      Wrote l sc m r sc' (put_in (most_rows nlib sc) (store_of l sc m) (var (i - n + x.by))) → IndexDone l sc nlib m row i c x r sc'
  moves_done h e {r} {sc'} w = record {
    wrote = says_also w
        (ap (λ (j : ℕ). put_in (most_rows nlib sc) (store_of l sc m) (var (i - j + x.by))) e
        ∙ index_moves _ (value_of x) _ _ _ _ _ (value_of x) h (cmp c i) (cmp i c));
    near = near_put l sc nlib m _ _ held _ r sc' w;
  }
