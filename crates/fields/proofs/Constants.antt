-- What the words at a term's head say of it: which declaration it names, or that it is no constant.
-- Assumes rows that pass and a term in scope.
use Prim.Native.Nat.{ℕ, zero, suc, ◌+◌, ◌*◌, ◌≤◌, ◌<◌}
use native.Mathlib.Omega.{arith}
use mathlib.Core.Path.{◌≡◌, refl, sym, ap, ap₂, ◌∙◌}
use mathlib.Core.List.{List}
use mathlib.Core.Option.{none, some}
use lib.ListN.{length}
use Rattle.std.specs.Prelude.{Some, None}
use Rattle.rules.specs.Kinds.{table}
use Rattle.rules.specs.Rows as rules
use Rattle.rules.specs.Rows.{Row, Store, row_at}
use Rattle.rules.specs.RowCheck.{sort_in, const_in, app_in, lam_in, pi_in, let_in, proj_in, num_in, AllPass}
use Rattle.rules.specs.Accepted.{part}
use Rattle.rules.specs.HeadTests.{as_constant}
use Rattle.substitution.specs.Passing.{Worded, var_worded, node_worded, pass_worded}
use Rattle.ways.specs.Spines.{head_of, args_of}
use Rattle.rows.specs.declared.Ptr.{Ptr}
use Rattle.rows.specs.declared.Shape.{Shape}
use Rattle.rows.specs.Words.{ptr_of, kind_of, tags_at, row_by, row_of, shape_at, words_at, store_of, whole, Stands}
use Rattle.rows.proofs.Store.{used_stands, row_used, held_length}
use Rattle.spine.specs.declared.Spined.{Spined}
use Rattle.spine.specs.Walks.{Walks, Walked}
use Rattle.spine.proofs.ForCallers.{may_walk, walked_head, walked_count, walked_head_scope}
use Rattle.tables.specs.declared.Decl.{Decl}
use Rattle.tables.specs.Read.{decl_read}
use Rattle.fields.specs.Fields.{Reduced, head_row, constant_read, Marked, ConstantAt}

-- WHICH ROW A KIND WORD GIVES

constant_row : (a b c : rules.Ptr) → as_constant (row_by 2 a b c) ≡ some a.row
unfolding row_by kind_of tags_at table as_constant
constant_row a b c = refl

no_constant_row : (k : ℕ) (a b c : rules.Ptr) → (k ≡ 2 → ⊥) → as_constant (row_by k a b c) ≡ none
unfolding row_by kind_of tags_at table as_constant
no_constant_row zero a b c f = refl
no_constant_row (suc zero) a b c f = refl
no_constant_row (suc (suc zero)) a b c f = absurd (f refl)
no_constant_row (suc (suc (suc zero))) a b c f = refl
no_constant_row (suc (suc (suc (suc zero)))) a b c f = refl
no_constant_row (suc (suc (suc (suc (suc zero))))) a b c f = refl
no_constant_row (suc (suc (suc (suc (suc (suc zero)))))) a b c f = refl
no_constant_row (suc (suc (suc (suc (suc (suc (suc zero))))))) a b c f = refl
no_constant_row (suc (suc (suc (suc (suc (suc (suc (suc zero)))))))) a b c f = refl
no_constant_row (suc (suc (suc (suc (suc (suc (suc (suc (suc k))))))))) a b c f = refl

-- A CONSTANT IN A ROW THAT PASSES NAMES A DECLARATION

names : {D : ℕ} {w : Row} {c : ℕ} → Worded D w → as_constant w ≡ some c → c < D
unfolding as_constant
names var_worded e = cc
names (node_worded (sort_in h)) e = cc
names {c = c} (node_worded (const_in {d = d} h n)) e = let z : d ≡ c = cc in omega arith
names (node_worded app_in) e = cc
names (node_worded lam_in) e = cc
names (node_worded pi_in) e = cc
names (node_worded let_in) e = cc
names (node_worded (proj_in h)) e = cc
names (node_worded (num_in h)) e = cc

pub names_here : {D : ℕ} {s : Store} (q : rules.Ptr) {c : ℕ} → AllPass D s → as_constant (head_row s q) ≡ some c → c < D
names_here {s = s} q pass e = names ((pass_worded pass).each (head_of s q).row) e

-- WHAT A WALK TO THE HEAD AND A LOOKUP THERE SAY

pub walks_to : (l ds sc : List ℕ) (q : Ptr) → Reduced l ds sc q → Walks l sc q
walks_to l ds sc q k = may_walk l sc k.mark k.nlib _ k.depth k.held k.pass q k.scope k.small

-- the mark of the call itself
abbrev pub its_mark : {l ds sc : List ℕ} {q : Ptr} → Reduced l ds sc q → Marked l ds sc q
its_mark k = record { nlib = k.nlib; mark = k.mark; depth = k.depth; held = k.held; pass = k.pass; scope = k.scope }

module _ (l ds sc : List ℕ) (q : Ptr) (sp : Spined) (walked : Walked (whole l sc) (ptr_of q) sp) where
  module _ (k : Marked l ds sc q) where
    abbrev s : Store
    s = store_of l sc k.mark

    head_below : sp.head.row < k.nlib + k.mark
    head_below =
        let i = walked_head_scope l sc k.mark k.nlib _ k.depth k.held k.pass q k.scope sp walked in
        omega (arith, held_length l sc k.mark k.nlib k.held, i.there)

    many : length (args_of s (ptr_of q)) ≡ sp.count
    many = sym (walked_count l sc k.mark k.nlib _ k.depth k.held k.pass q k.scope sp walked)

    module _ (w : Shape) (read : w ≡ shape_at (words_at l sc sp.head.row)) where
      head_row_is : head_row s (ptr_of q) ≡ row_of w
      head_row_is =
          ap (λ (h : rules.Ptr). row_at s h.row) (sym (walked_head l sc k.mark k.nlib _ k.depth k.held k.pass q k.scope sp walked))
          ∙ row_used l sc k.mark k.nlib k.held sp.head.row head_below w read

      is_constant : w.kind ≡ 2 → as_constant (head_row s (ptr_of q)) ≡ some w.first.row
      is_constant e =
          ap as_constant (head_row_is ∙ ap (λ (n : ℕ). row_by n (ptr_of w.first) (ptr_of w.second) (ptr_of w.third)) e) ∙ constant_row _ _ _

      no_constant : (w.kind ≡ 2 → ⊥) → as_constant (head_row s (ptr_of q)) ≡ none
      no_constant f = ap as_constant head_row_is ∙ no_constant_row _ _ _ _ f

  pub head_stands : Reduced l ds sc q → Stands l sc sp.head.row
  head_stands k = used_stands l sc k.mark k.nlib k.held sp.head.row (head_below (its_mark k))

  module _ (w : Shape) (read : w ≡ shape_at (words_at l sc sp.head.row)) where
    pub declared : Reduced l ds sc q → w.kind ≡ 2 → 16 * w.first.row + 16 ≤ length ds
    declared k e = let h = names_here (ptr_of q) k.pass (is_constant (its_mark k) w read e) in omega arith

    -- THE TWO WAYS OUT

    pub at_constant : w.kind ≡ 2 → (D : Decl) → D ≡ decl_read (part 16 ds w.first.row) → ConstantAt l ds sc q (Some (D, sp.count))
    at_constant e D r = record {
      is = λ k. ap₂ (constant_read ds) (is_constant k w read e) (many k) ∙ ap (λ (x : Decl). Some (x, sp.count)) (sym r);
    }

    pub at_no_constant : (w.kind ≡ 2 → ⊥) → ConstantAt l ds sc q None
    at_no_constant f = record {
      is = λ k. ap₂ (constant_read ds) (no_constant k w read f) (many k);
    }
