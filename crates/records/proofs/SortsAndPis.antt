-- A row as a sort or as a pi: what its words say, and, in rows that are used, that the store's row is just that one, or no such row at all.
-- Assumes, for the store's rows, that the words in use are rows of the rules: a kind over 8 would be read as sort 0.
use Prim.Native.Nat.{ℕ, ◌+◌, ◌≤◌, ◌<◌}
use native.Mathlib.Omega.{arith}
use mathlib.Core.Path.{◌≡◌, refl, sym, ap, ◌∙◌}
use mathlib.Core.Bool.{Bool, true, false}
use mathlib.Core.List.{List}
use borrow.Author.Tests.{eq-eqb, eqb-true}
use lib.Dec.{eqb}
use Rattle.std.specs.Prelude.{Option as Maybe, Some, None}
use Rattle.rules.specs.Kinds.{sort, const, app, lam, pi, let', proj, num, table}
use Rattle.rules.specs.Rows as rules
use Rattle.rules.specs.Rows.{Row, var, node, leaf, blank, row_at}
use Rattle.rules.specs.RowCheck.{InScope}
use Rattle.rows.specs.declared.Ptr.{Ptr}
use Rattle.rows.specs.declared.Shape.{Shape}
use Rattle.rows.specs.Words.{ite, ptr_of, kind_of, tags_at, row_by, row_of, shape_at, words_at, store_of, Stands}
use Rattle.rows.proofs.Store.{used_stands, row_used, held_length}
use Rattle.rows.proofs.Formed.{row_formed}
use Rattle.rows.proofs.NineKinds.{each_kind}
use Rattle.state.specs.State.{Used}
use Rattle.records.specs.declared.Pi.{Pi}
use Rattle.records.specs.Read.{sort_read, pi_read}

-- WHAT AN ANSWER BY A KIND SAYS OF THE KIND WORD

module _ {A : Type 0} (n kind : ℕ) (x : A) where
  pub of_kind : (y : A) → ite (eqb n kind) (Some x) None ≡ Some y → (n ≡ kind) × (x ≡ y)
  of_kind y = go (eqb n kind) refl
    where
      go : (b : Bool) → eqb n kind ≡ b → ite b (Some x) None ≡ Some y → (n ≡ kind) × (x ≡ y)
      go true e q = (eqb-true n kind e, cc)
      go false e q = cc

  pub of_no_kind : ite (eqb n kind) (Some x) None ≡ None → n ≡ kind → ⊥
  of_no_kind q e = let z : ite true (Some x) None ≡ None = rw (eq-eqb n kind e) at q in cc

-- WHICH ROW A KIND WORD GIVES

abbrev kind_number : Row → ℕ
kind_number (var i) = 0
kind_number (node (sort l) x y z) = 1
kind_number (node (const d n) x y z) = 2
kind_number (node app x y z) = 3
kind_number (node lam x y z) = 4
kind_number (node pi x y z) = 5
kind_number (node let' x y z) = 6
kind_number (node (proj d i) x y z) = 7
kind_number (node (num n) x y z) = 8

kind_number_lem : (k : ℕ) (a b c : rules.Ptr) → k ≤ 8 → kind_number (row_by k a b c) ≡ k
unfolding row_by kind_of tags_at table
kind_number_lem k a b c h = each_kind (λ (n : ℕ). kind_number (row_by n a b c) ≡ n) refl refl refl refl refl refl refl refl refl k h

sort_row : (a b c : rules.Ptr) → row_by 1 a b c ≡ leaf (sort a.row)
unfolding row_by kind_of tags_at table
sort_row a b c = refl

pi_row : (a b c : rules.Ptr) → row_by 5 a b c ≡ node pi a b blank
unfolding row_by kind_of tags_at table
pi_row a b c = refl

-- ROWS IN USE

-- a pointer in scope points at a row in use, which therefore stands
pub scope_used : (l sc : List ℕ) (nlib m d : ℕ) → Used l sc nlib m → (q : Ptr) → InScope (store_of l sc m) d (ptr_of q) → q.row < nlib + m
scope_used l sc nlib m d used q scope = omega (arith, held_length l sc m nlib used.held, scope.there)

module _ (l sc : List ℕ) (nlib m : ℕ) (used : Used l sc nlib m) (q : Ptr) (there : q.row < nlib + m) where
  pub in_use_stands : Stands l sc q.row
  in_use_stands = used_stands l sc m nlib used.held q.row there

  abbrev words : Shape
  words = shape_at (words_at l sc q.row)

  abbrev row : Row
  row = row_at (store_of l sc m) q.row

  row_is : row ≡ row_of words
  row_is = row_used l sc m nlib used.held q.row there words refl

  row_by_lem : (k : ℕ) → words.kind ≡ k → row ≡ row_by k (ptr_of words.first) (ptr_of words.second) (ptr_of words.third)
  row_by_lem k e = row_is ∙ ap (λ (n : ℕ). row_by n (ptr_of words.first) (ptr_of words.second) (ptr_of words.third)) e

  kind_is : (w : Row) → row ≡ w → words.kind ≡ kind_number w
  kind_is w e =
      sym (kind_number_lem words.kind (ptr_of words.first) (ptr_of words.second) (ptr_of words.third) (row_formed (used.words q.row there)).kind)
      ∙ ap kind_number (sym row_is ∙ e)

  -- `sort_at` answered r
  module _ (r : Maybe ℕ) (read : r ≡ sort_read words) where
    pub sort_found : (level : ℕ) → r ≡ Some level → row ≡ leaf (sort level)
    unfolding sort_read
    sort_found level e =
        let said = of_kind words.kind 1 words.first.row level (sym read ∙ e) in
        row_by_lem 1 said.0 ∙ sort_row _ _ _ ∙ ap (λ (n : ℕ). leaf (sort n)) said.1

    pub no_sort_found : r ≡ None → (level : ℕ) (x y z : rules.Ptr) → row ≡ node (sort level) x y z → ⊥
    unfolding sort_read
    no_sort_found e level x y z is = of_no_kind words.kind 1 words.first.row (sym read ∙ e) (kind_is (node (sort level) x y z) is)

  -- `pi_at` answered r
  module _ (r : Maybe Pi) (read : r ≡ pi_read words) where
    pub pi_found : (p : Pi) → r ≡ Some p → row ≡ node pi (ptr_of p.ty) (ptr_of p.body) blank
    unfolding pi_read
    pi_found p e =
        let said = of_kind words.kind 5 (record { ty = words.first; body = words.second }) p (sym read ∙ e) in
        row_by_lem 5 said.0 ∙ pi_row _ _ _ ∙ ap (λ (q : Pi). node pi (ptr_of q.ty) (ptr_of q.body) blank) said.1

    pub no_pi_found : r ≡ None → (x b z : rules.Ptr) → row ≡ node pi x b z → ⊥
    unfolding pi_read
    no_pi_found e x b z is =
        of_no_kind words.kind 5 (record { ty = words.first; body = words.second }) (sym read ∙ e) (kind_is (node pi x b z) is)
