-- Replacement and application as code does them: each row is charged when it is due, and the first refusal ends it.
-- `Charges` of Charge.antt says that this is the rows of the plain computation charged in turn.
use Rattle.std.specs.Prelude.{ℕ, zero, suc, ◌+◌, ◌-◌, List, [], ◌∷◌, length}
use Rattle.std.proofs.Math.Option.{Option, none, some}
use Rattle.rules.specs.Kinds.{app, const, num, Tag, plain, term, body, fields}
use Rattle.rules.specs.Rows.{Ptr, ptr, blank, Row, var, node, leaf, Store, cell, cell_at, row_at, bound, up, Got, got, put}
use Rattle.rules.specs.Replacement.{count}
use Rattle.rules.specs.Firings.{Result, opened, itself, a_number, a_constant}
use Rattle.course.specs.Views.{Cmp, up_to, over, cmp, FitView, fits, no_fit, fit_view}

-- the store grown and a pointer, a refusal's number, or lost
pub data Out : Type 0 where
  wrote : Got → Out
  refused : ℕ → Out
  lost : Out

abbrev pub and_on : Out → (Got → Out) → Out
and_on (wrote g) next = next g
and_on (refused k) next = refused k
and_on lost next = lost

-- `most` is the number of rows in all that may stand
module _ (most : ℕ) where
  -- a row is due: 8, 5
  abbrev pub put_on : (s : Store) (w : Row) → FitView (cell s w) → Cmp most (length s) → Out
  put_on s w (no_fit h) q = refused 8
  put_on s w (fits h) (up_to l) = refused 5
  put_on s w (fits h) (over l) = wrote (put s w)

  unfoldable pub put_in : Store → Row → Out
  put_in s w = put_on s w (fit_view (cell s w)) (cmp most (length s))

  unfoldable pub join_in : Store → Ptr → List Ptr → Out
  join_in s p [] = wrote (got s p)
  join_in s p (a ∷ xs) = and_on (put_in s (node app p a blank)) λ g. join_in g.store g.at xs

  module _ (v : Option Ptr) (k : ℕ) where
    abbrev pub index_in : Option Ptr → (c : ℕ) → Store → ℕ → (i : ℕ) → Cmp c i → Cmp i c → Out
    index_in w c s r i (over h) q = wrote (got s (ptr r 0))
    index_in w c s r i (up_to h) (over l) = put_in s (var (i - count v + k))
    index_in none c s r i (up_to h) (up_to l) = put_in s (var (i - count v + k))
    index_in (some x) c s r i (up_to h) (up_to l) = wrote (got s (up s x c))

    abbrev pub field_in : (ℕ → Store → Ptr → Out) → Tag → ℕ → Store → Ptr → Out
    field_in rec plain c s p = wrote (got s p)
    field_in rec term c s p = rec c s p
    field_in rec body c s p = rec (suc c) s p

    unfoldable pub row_in : (ℕ → Store → Ptr → Out) → ℕ → Store → ℕ → Row → Out
    row_in rec c s r (var i) = index_in v c s r i (cmp c i) (cmp i c)
    row_in rec c s r (node κ x y z) =
        and_on (field_in rec (fields κ).first c s x) λ g₁.
        and_on (field_in rec (fields κ).second c g₁.store y) λ g₂.
        and_on (field_in rec (fields κ).third c g₂.store z) λ g₃.
        put_in g₃.store (node κ g₁.at g₂.at g₃.at)

    abbrev pub ptr_in : (ℕ → Store → Ptr → Out) → (c : ℕ) (s : Store) (p : Ptr) → Cmp (bound s p) c → Cmp (c + count v) p.shift → Out
    ptr_in rec c s p (up_to h) q = wrote (got s p)
    ptr_in rec c s p (over h) (up_to l) = wrote (got s (ptr p.row (p.shift - count v + k)))
    ptr_in rec c s p (over h) (over l) =
        and_on (row_in rec (c - p.shift) s p.row (row_at s p.row)) λ g.
        wrote (got g.store (up g.store g.at p.shift))

    unfoldable pub replace_in : ℕ → ℕ → Store → Ptr → Out
    replace_in zero c s p = lost
    replace_in (suc f) c s p = ptr_in (λ c' s' p'. replace_in f c' s' p') c s p (cmp (bound s p) c) (cmp (c + count v) p.shift)

  unfoldable pub give_in : Store → Result → Out
  give_in s (opened b v k) = replace_in (some v) k (cell_at s b.row).height 0 s b
  give_in s (itself p) = wrote (got s p)
  give_in s (a_number n) = put_in s (leaf (num n))
  give_in s (a_constant d) = put_in s (leaf (const d 0))

  unfoldable pub due_in : Store → Result → List Ptr → Out
  due_in s r xs = and_on (give_in s r) λ g. join_in g.store g.at xs
