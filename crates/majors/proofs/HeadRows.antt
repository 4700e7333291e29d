-- What the words at a term's own row, or at its head's, say of the major: which number or which constant it is, or that it is none.
-- Assumes rows that are used and a term in scope.
use Prim.Native.Nat.{ℕ, zero, suc}
use native.Mathlib.Omega.{arith}
use mathlib.Core.Path.{◌≡◌, refl, sym, ap, ap₂, ◌∙◌, subst}
use mathlib.Core.List.{List, [], ◌∷◌}
use mathlib.Core.Option.{none, some}
use lib.ListN.{length}
use Rattle.rules.specs.Kinds.{sort, const, app, lam, pi, let', proj, num, table}
use Rattle.rules.specs.Rows as rules
use Rattle.rules.specs.Rows.{Row, var, node, leaf, Store, row_at}
use Rattle.rules.specs.RowCheck.{InScope}
use Rattle.rules.specs.Spines.{Spine, head, through, NoApp, no_num}
use Rattle.rules.specs.Arithmetic.{words_value}
use Rattle.rules.specs.HeadTests.{as_constant, as_number}
use Rattle.substitution.specs.Stores.{Formed, scope_good}
use Rattle.substitution.specs.Passing.{pass_formed}
use Rattle.ways.specs.Spines.{args_of, head_is, args_are, spine_of}
use Rattle.rows.specs.declared.Ptr.{Ptr}
use Rattle.rows.specs.declared.Shape.{Shape}
use Rattle.rows.specs.Words.{ptr_of, kind_of, tags_at, row_by, row_of, shape_at, words_at, store_of, whole, Stands}
use Rattle.rows.proofs.Store.{used_stands, row_used, held_length}
use Rattle.spine.specs.declared.Spined.{Spined}
use Rattle.spine.specs.Walks.{Walks, Walked}
use Rattle.spine.proofs.ForCallers.{walked_head, walked_count, walked_head_scope}
use Rattle.state.specs.State.{Used}
use Rattle.majors.specs.Majors.{head_row}

-- WHICH ROW A KIND WORD GIVES

pub number_row : (a b c : rules.Ptr) → row_by 8 a b c ≡ leaf (num (words_value a.row a.shift))
unfolding row_by kind_of tags_at table
number_row a b c = refl

pub constant_row : (a b c : rules.Ptr) → as_constant (row_by 2 a b c) ≡ some a.row
unfolding row_by kind_of tags_at table as_constant
constant_row a b c = refl

no_number_row : (k : ℕ) (a b c : rules.Ptr) → (k ≡ 8 → ⊥) → as_number (row_by k a b c) [] ≡ none
unfolding row_by kind_of tags_at table as_number
no_number_row zero a b c f = refl
no_number_row (suc zero) a b c f = refl
no_number_row (suc (suc zero)) a b c f = refl
no_number_row (suc (suc (suc zero))) a b c f = refl
no_number_row (suc (suc (suc (suc zero)))) a b c f = refl
no_number_row (suc (suc (suc (suc (suc zero))))) a b c f = refl
no_number_row (suc (suc (suc (suc (suc (suc zero)))))) a b c f = refl
no_number_row (suc (suc (suc (suc (suc (suc (suc zero))))))) a b c f = refl
no_number_row (suc (suc (suc (suc (suc (suc (suc (suc zero)))))))) a b c f = absurd (f refl)
no_number_row (suc (suc (suc (suc (suc (suc (suc (suc (suc k))))))))) a b c f = refl

no_constant_row : (k : ℕ) (a b c : rules.Ptr) → (k ≡ 2 → ⊥) → as_constant (row_by k a b c) ≡ none
unfolding row_by kind_of tags_at table as_constant
no_constant_row zero a b c f = refl
no_constant_row (suc zero) a b c f = refl
no_constant_row (suc (suc zero)) a b c f = absurd (f refl)
no_constant_row (suc (suc (suc zero))) a b c f = refl
no_constant_row (suc (suc (suc (suc zero)))) a b c f = refl
no_constant_row (suc (suc (suc (suc (suc zero))))) a b c f = refl
no_constant_row (suc (suc (suc (suc (suc (suc zero)))))) a b c f = refl
no_constant_row (suc (suc (suc (suc (suc (suc (suc zero))))))) a b c f = refl
no_constant_row (suc (suc (suc (suc (suc (suc (suc (suc zero)))))))) a b c f = refl
no_constant_row (suc (suc (suc (suc (suc (suc (suc (suc (suc k))))))))) a b c f = refl

-- A NUMBER HAS NO ARGUMENTS

applied_no_number : (w : Row) (a : rules.Ptr) (ys : List rules.Ptr) → as_number w (a ∷ ys) ≡ none
unfolding as_number
applied_no_number (var i) a ys = refl
applied_no_number (node (sort l) x y z) a ys = refl
applied_no_number (node (const d n) x y z) a ys = refl
applied_no_number (node app x y z) a ys = refl
applied_no_number (node lam x y z) a ys = refl
applied_no_number (node pi x y z) a ys = refl
applied_no_number (node let' x y z) a ys = refl
applied_no_number (node (proj d i) x y z) a ys = refl
applied_no_number (node (num n) x y z) a ys = refl

more_no_number : {s : Store} {p h x : rules.Ptr} {xs ys : List rules.Ptr} (w : Row) → Spine s p (x ∷ xs) h ys → as_number w ys ≡ none
more_no_number w (head n) = applied_no_number w _ _
more_no_number w (through q r) = more_no_number w r

spine_no_number : {s : Store} {p h : rules.Ptr} {ys : List rules.Ptr} → Spine s p [] h ys → as_number (row_at s p.row) [] ≡ none → as_number (row_at s h.row) ys ≡ none
spine_no_number (head n) e = e
spine_no_number (through q r) e = more_no_number _ r

-- WHAT A LOOKUP SAYS

pub scope_stands : (l sc : List ℕ) (nlib m d : ℕ) → Used l sc nlib m → (q : Ptr) → InScope (store_of l sc m) d (ptr_of q) → Stands l sc q.row
scope_stands l sc nlib m d used q scope =
    used_stands l sc m nlib used.held q.row (omega (arith, held_length l sc m nlib used.held, scope.there))

pub walk_stands : (l sc : List ℕ) (t : Ptr) → Walks l sc t → Stands l sc t.row
walk_stands l sc t w =
    used_stands l sc w.mark w.nlib w.held t.row (omega (arith, held_length l sc w.mark w.nlib w.held, w.scope.there))

-- the words w were read at the row of t
module _ (l sc : List ℕ) (nlib m d : ℕ) (used : Used l sc nlib m) (t : Ptr) (scope : InScope (store_of l sc m) d (ptr_of t))
    (w : Shape) (read : w ≡ shape_at (words_at l sc t.row)) where
  abbrev s : Store
  s = store_of l sc m

  formed : Formed s
  formed = pass_formed used.pass

  row_is : row_at s t.row ≡ row_of w
  row_is = row_used l sc m nlib used.held t.row (omega (arith, held_length l sc m nlib used.held, scope.there)) w read

  row_by_lem : (k : ℕ) → w.kind ≡ k → row_at s t.row ≡ row_by k (ptr_of w.first) (ptr_of w.second) (ptr_of w.third)
  row_by_lem k e = row_is ∙ ap (λ (n : ℕ). row_by n (ptr_of w.first) (ptr_of w.second) (ptr_of w.third)) e

  row_number : w.kind ≡ 8 → row_at s t.row ≡ leaf (num (words_value w.first.row w.first.shift))
  row_number e = row_by_lem 8 e ∙ number_row _ _ _

  own_spine : w.kind ≡ 8 → Spine s (ptr_of t) [] (ptr_of t) []
  own_spine e = head (subst NoApp (sym (row_number e)) no_num)

  pub is_number : w.kind ≡ 8 → some (words_value w.first.row w.first.shift) ≡ as_number (head_row s (ptr_of t)) (args_of s (ptr_of t))
  unfolding as_number
  is_number e =
      let good = scope_good scope in
      ap₂ as_number (sym (ap (λ (h : rules.Ptr). row_at s h.row) (head_is formed good (own_spine e)) ∙ row_number e)) (sym (args_are formed good (own_spine e)))

  pub is_no_number : (w.kind ≡ 8 → ⊥) → none ≡ as_number (head_row s (ptr_of t)) (args_of s (ptr_of t))
  is_no_number f =
      sym (spine_no_number (spine_of formed (scope_good scope)) (ap (λ (v : Row). as_number v []) row_is ∙ no_number_row _ _ _ _ f))

  pub is_constant : w.kind ≡ 2 → as_constant (row_at s t.row) ≡ some w.first.row
  is_constant e = ap as_constant (row_by_lem 2 e) ∙ constant_row _ _ _

  pub is_no_constant : (w.kind ≡ 2 → ⊥) → as_constant (row_at s t.row) ≡ none
  is_no_constant f = ap as_constant row_is ∙ no_constant_row _ _ _ _ f

-- the words w were read at the head that a walk found
module _ (l sc : List ℕ) (nlib m d : ℕ) (used : Used l sc nlib m) (t : Ptr) (scope : InScope (store_of l sc m) d (ptr_of t))
    (sp : Spined) (walked : Walked (whole l sc) (ptr_of t) sp) where
  pub head_scope : InScope (store_of l sc m) d (ptr_of sp.head)
  head_scope = walked_head_scope l sc m nlib _ d used.held used.pass t scope sp walked

  pub many_arguments : length (args_of (store_of l sc m) (ptr_of t)) ≡ sp.count
  many_arguments = sym (walked_count l sc m nlib _ d used.held used.pass t scope sp walked)

  head_row_is : row_at (store_of l sc m) sp.head.row ≡ head_row (store_of l sc m) (ptr_of t)
  head_row_is = ap (λ (h : rules.Ptr). row_at (store_of l sc m) h.row) (walked_head l sc m nlib _ d used.held used.pass t scope sp walked)

  module _ (w : Shape) (read : w ≡ shape_at (words_at l sc sp.head.row)) where
    pub head_constant : w.kind ≡ 2 → as_constant (head_row (store_of l sc m) (ptr_of t)) ≡ some w.first.row
    head_constant e = ap as_constant (sym head_row_is) ∙ is_constant l sc nlib m d used sp.head head_scope w read e

    pub head_no_constant : (w.kind ≡ 2 → ⊥) → as_constant (head_row (store_of l sc m) (ptr_of t)) ≡ none
    head_no_constant f = ap as_constant (sym head_row_is) ∙ is_no_constant l sc nlib m d used sp.head head_scope w read f

-- the head of a walk stands, at whatever mark
pub head_stands : (l sc : List ℕ) (t : Ptr) → Walks l sc t → (sp : Spined) → Walked (whole l sc) (ptr_of t) sp → Stands l sc sp.head.row
head_stands l sc t w sp walked =
    let scope = walked_head_scope l sc w.mark w.nlib _ w.depth w.held w.pass t w.scope sp walked in
    used_stands l sc w.mark w.nlib w.held sp.head.row (omega (arith, held_length l sc w.mark w.nlib w.held, scope.there))
