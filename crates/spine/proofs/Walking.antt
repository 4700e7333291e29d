-- A walk along a spine, one application at a time: what a row of kind 3 is, what its two children are, and what a step of the walk keeps.
-- Assumes a term in scope in formed rows (`Walks`).
use Prim.Native.Nat.{ℕ, zero, suc, ◌+◌, ◌≤◌, ◌<◌}
use native.Mathlib.Omega.{arith}
use mathlib.Core.Path.{◌≡◌, refl, ap, ◌∙◌, subst}
use mathlib.Core.List.{List, ◌∷◌}
use lib.ListN.{get_or}
use Rattle.rules.specs.Maxima.{most_bound}
use Rattle.rules.specs.Kinds.{app, table}
use Rattle.rules.specs.Rows as rules
use Rattle.rules.specs.Rows.{node, Cell, Store, blank, row_at, cell_at, bound, bound_on, up, up_on}
use Rattle.rules.specs.RowCheck.{InScope}
use Rattle.rules.specs.Spines.{Spine, through, NoApp, no_var, no_sort, no_const, no_lam, no_pi, no_let, no_proj, no_num}
use Rattle.substitution.specs.Stores.{Formed, Good, scope_good}
use Rattle.ways.specs.Spines.{function_good, argument_good, function_lower, function_scope, argument_scope, up_row}
use Rattle.rows.specs.declared.Ptr.{Ptr}
use Rattle.rows.specs.Words.{ptr_of, kind_of, tags_at, row_by, row_of, pair_at, shape_at, decode, words_at, store_of, whole, Held}
use Rattle.rows.proofs.Store.{cell_is, used_stands, up_used, held_length}
use Rattle.spine.specs.Walks.{HasChild}

-- WHICH ROW A KIND WORD GIVES

pub app_row : (a b c : rules.Ptr) → row_by 3 a b c ≡ node app a b blank
unfolding row_by kind_of tags_at table
app_row a b c = refl

pub no_app_row : (k : ℕ) (a b c : rules.Ptr) → (k ≡ 3 → ⊥) → NoApp (row_by k a b c)
unfolding row_by kind_of tags_at table
no_app_row zero a b c f = no_var
no_app_row (suc zero) a b c f = no_sort
no_app_row (suc (suc zero)) a b c f = no_const
no_app_row (suc (suc (suc zero))) a b c f = absurd (f refl)
no_app_row (suc (suc (suc (suc zero)))) a b c f = no_lam
no_app_row (suc (suc (suc (suc (suc zero))))) a b c f = no_pi
no_app_row (suc (suc (suc (suc (suc (suc zero)))))) a b c f = no_let
no_app_row (suc (suc (suc (suc (suc (suc (suc zero))))))) a b c f = no_proj
no_app_row (suc (suc (suc (suc (suc (suc (suc (suc zero)))))))) a b c f = no_num
no_app_row (suc (suc (suc (suc (suc (suc (suc (suc (suc k))))))))) a b c f = no_sort

module _ (l sc : List ℕ) (m nlib : ℕ) (held : Held l sc m nlib) where
  -- the row that stands there, as the store has it
  pub row_there : (n : ℕ) → n < nlib + m → row_at (store_of l sc m) n ≡ row_of (shape_at (words_at l sc n))
  unfolding decode
  row_there n h = ap (λ (x : Cell). x.row) (cell_is l sc nlib held.whole_library m n h)

-- SHIFTS ARE SMALL: at most the depth
pub shift_small : {s : Store} {d : ℕ} {p : rules.Ptr} → InScope s d p → p.shift ≤ d
shift_small {s} {d} {p} i = go (cell_at s p.row).bound refl
  where
    go : (b : ℕ) → (cell_at s p.row).bound ≡ b → p.shift ≤ d
    go zero e = let z = i.still e in omega arith
    go (suc b) e = let w : bound_on (suc b) p.shift ≤ d = rw e at i.within in omega arith

sum_small : {s : Store} {d k : ℕ} {x : rules.Ptr} → Good s x → InScope s d (up s x k) → k ≤ d → x.shift + k ≤ d
sum_small {s} {d} {k} {x} o i h = go (cell_at s x.row).bound refl
  where
    go : (b : ℕ) → (cell_at s x.row).bound ≡ b → x.shift + k ≤ d
    go zero e = let z = o.still e in omega arith
    go (suc b) e = let w : (up_on (suc b) x k).shift ≤ d = rw e at (shift_small i) in w

-- ONE APPLICATION: p is in scope and its kind word is 3
module _ (l sc : List ℕ) (m nlib d : ℕ) (held : Held l sc m nlib) (formed : Formed (store_of l sc m)) (small : d ≤ most_bound)
    (p : Ptr) (i : InScope (store_of l sc m) d (ptr_of p)) (three : get_or (words_at l sc p.row) 0 0 ≡ 3) where
  abbrev s : Store
  s = store_of l sc m

  abbrev function : Ptr
  function = pair_at (words_at l sc p.row) 0

  abbrev argument : Ptr
  argument = pair_at (words_at l sc p.row) 1

  below : (x : rules.Ptr) → Good s x → x.row < nlib + m
  below x o = let e = held_length l sc m nlib held in let h = o.lower in omega arith

  pub is_application : row_at s p.row ≡ node app (ptr_of function) (ptr_of argument) blank
  is_application =
      row_there l sc m nlib held p.row (below (ptr_of p) (scope_good i)) ∙
      ap (λ (k : ℕ). row_by k (ptr_of function) (ptr_of argument) (ptr_of (pair_at (words_at l sc p.row) 2))) three ∙ app_row _ _ _

  child_fits : (x : Ptr) → Good s (ptr_of x) → InScope s d (up s (ptr_of x) p.shift) → x.shift + p.shift < 4294967296
  child_fits x o c = let h = sum_small o c (shift_small i) in omega arith

  pub has_function : HasChild l sc p 0
  has_function =
      let o = function_good formed is_application (scope_good i) in
      record {
        here = used_stands l sc m nlib held p.row (below (ptr_of p) (scope_good i));
        there = used_stands l sc m nlib held function.row (below (ptr_of function) o);
        fits = child_fits function o (function_scope formed is_application i);
      }

  pub has_argument : HasChild l sc p 1
  has_argument =
      let o = argument_good formed is_application (scope_good i) in
      record {
        here = used_stands l sc m nlib held p.row (below (ptr_of p) (scope_good i));
        there = used_stands l sc m nlib held argument.row (below (ptr_of argument) o);
        fits = child_fits argument o (argument_scope formed is_application i);
      }

  -- the child that the code answers is the rules' child
  module _ (r : Ptr) where
    pub function_answered : ptr_of r ≡ up (whole l sc) (ptr_of function) p.shift → ptr_of r ≡ up s (ptr_of function) p.shift
    function_answered e = e ∙ up_used l sc m nlib held function.row (below (ptr_of function) (function_good formed is_application (scope_good i))) function.shift p.shift

    pub argument_answered : ptr_of r ≡ up (whole l sc) (ptr_of argument) p.shift → ptr_of r ≡ up s (ptr_of argument) p.shift
    argument_answered e = e ∙ up_used l sc m nlib held argument.row (below (ptr_of argument) (argument_good formed is_application (scope_good i))) argument.shift p.shift

    -- a step of the walk: still in scope, lower, and the spine goes on
    module _ (e : ptr_of r ≡ up s (ptr_of function) p.shift) where
      pub step_scope : InScope s d (ptr_of r)
      step_scope = rw e (function_scope formed is_application i)

      pub step_lower : (cell_at s r.row).height < (cell_at s p.row).height
      step_lower =
          let q : r.row ≡ function.row = ap (λ (x : rules.Ptr). x.row) e ∙ up_row (cell_at s function.row).bound (ptr_of function) p.shift in
          rw q (function_lower formed is_application (scope_good i))

      pub step_spine : {xs ys : List rules.Ptr} {h : rules.Ptr} → Spine s (ptr_of r) (up s (ptr_of argument) p.shift ∷ xs) h ys → Spine s (ptr_of p) xs h ys
      step_spine {xs} {ys} {h} k = through is_application (subst (λ (x : rules.Ptr). Spine s x (up s (ptr_of argument) p.shift ∷ xs) h ys) e k)

-- THE HEAD: its kind word is not 3
pub head_there : (l sc : List ℕ) (m nlib : ℕ) → Held l sc m nlib → {d : ℕ} (p : Ptr) → InScope (store_of l sc m) d (ptr_of p) → (get_or (words_at l sc p.row) 0 0 ≡ 3 → ⊥) →
    NoApp (row_at (store_of l sc m) p.row)
head_there l sc m nlib held p i f =
    let e = held_length l sc m nlib held in
    let h = i.there in
    rw (row_there l sc m nlib held p.row (omega arith)) (no_app_row _ _ _ _ f)
