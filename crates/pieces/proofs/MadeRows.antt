-- Rows that inference makes, for callers: a pi, a projection and a sort as `made` takes them, what it requires, and the row that it answers.
-- Assumes what a member is given, and children in scope: a pi's body one deeper.
use Prim.Native.Nat.{ℕ, suc, ◌+◌, ◌≤◌, ◌<◌}
use native.Mathlib.Omega.{arith}
use mathlib.Core.Path.{◌≡◌, refl, sym, subst}
use mathlib.Core.List.{List}
use lib.ListN.{length}
use Rattle.rules.specs.Maxima.{most_level}
use Rattle.rules.specs.Kinds.{sort, const, pi, proj, table, fields}
use Rattle.rules.specs.Rows as rules
use Rattle.rules.specs.Rows.{Row, node, leaf, blank, Store, bound, field_bound, cell}
use Rattle.rules.specs.RowCheck.{InScope, sort_in, const_in, pi_in, proj_in, plain_ok, term_ok, body_ok}
use Rattle.course.specs.Charged.{put_in}
use Rattle.substitution.specs.Stores.{FieldsOk, node_fields, Good, scope_good}
use Rattle.substitution.specs.Passing.{Worded, node_worded}
use Rattle.safety.specs.Sane.{decl_count}
use Rattle.inferring.specs.Asks.{writes}
use Rattle.inferring.specs.Scope.{pi-bound}
use Rattle.rows.specs.declared.Ptr.{Ptr}
use Rattle.rows.specs.declared.Shape.{Shape}
use Rattle.rows.specs.Words.{ptr_of, row_of, pair, leaf_shape}
use Rattle.rows.specs.Writes.{Due}
use Rattle.rows.proofs.Store.{held_length}
use Rattle.rows.proofs.Formed.{shape}
use Rattle.rows.proofs.DueRows.{sort_due, const_due, two_due, proj_due, sort_row_is, const_row_is, pi_row_is, proj_row_is}
use Rattle.state.specs.State.{Reduced}
use Rattle.typing.specs.Here.{Here, depth_at, env_at, store_at, limits_at, Scope, Ready}
use Rattle.typing.specs.Gives.{GivesPtr, outcome_of, Gives, InAt}
use Rattle.typing.specs.Written.{Written, Writable}
use Rattle.typing.proofs.Writing.{row_gives}

-- THE SHAPES

abbrev pub pi_shape : Ptr → Ptr → Shape
pi_shape x b = shape 5 x b (pair 0 0)

abbrev pub proj_shape : ℕ → ℕ → Ptr → Shape
proj_shape c j x = shape 7 x (pair c j) (pair 0 0)

abbrev pub sort_shape : ℕ → Shape
sort_shape l = leaf_shape 1 (pair l 0)

abbrev pub const_shape : ℕ → Shape
const_shape c = leaf_shape 2 (pair c 0)

-- ROWS THAT MAY BE MADE

module _ {h : Here} (ready : Ready h) where
  abbrev s : Store
  s = store_at h

  abbrev rows : ℕ
  rows = h.given.nlib + h.meter.mark

  good_there : {p : rules.Ptr} → Good s p → p.row < rows
  good_there g = omega (arith, g.lower, held_length h.library h.scratch h.meter.mark h.given.nlib ready.stand.held)

  writable_as : {w : Shape} {v : Row} → row_of w ≡ v → Due rows w → FieldsOk s (length s) v → Worded (decl_count (env_at h)) v → (cell s v).bound ≤ depth_at h →
      Writable h w
  writable_as {w} {v} e due f o b = record {
    due = due;
    fields = subst (FieldsOk s (length s)) (sym e) f;
    worded = subst (Worded (decl_count (env_at h))) (sym e) o;
    bound = subst (λ (x : Row). (cell s x).bound ≤ depth_at h) (sym e) b;
  }

  made_gives : (n : ℕ) {w : Shape} {v : Row} → row_of w ≡ v → Writable h w → {r : Reduced} {sc : List ℕ} →
      Written h.library h.scratch h.meter r sc (put_in (limits_at h).rows s (row_of w)) → GivesPtr n h (writes v) r h.context sc
  made_gives n {w} e may {r} {sc} k =
      subst (λ (x : Row). Gives (InAt (depth_at h)) n h (writes x) (outcome_of r) h.context sc) e (row_gives n h ready w may k)

  -- A PI
  module _ {x b : Ptr} (type : Scope h (ptr_of x)) (body : InScope s (suc (depth_at h)) (ptr_of b)) where
    pub made_pi_due : Due rows (pi_shape x b)
    made_pi_due = two_due rows 5 x b (omega arith) (omega arith) (good_there (scope_good type)) (good_there (scope_good body))

    pi-fields : FieldsOk s (length s) (node pi (ptr_of x) (ptr_of b) blank)
    unfolding fields table
    pi-fields = node_fields (term_ok (scope_good type)) (body_ok (scope_good body)) (plain_ok refl)

    pub made_pi_gives : (n : ℕ) {r : Reduced} {sc : List ℕ} → Written h.library h.scratch h.meter r sc (put_in (limits_at h).rows s (row_of (pi_shape x b))) →
        GivesPtr n h (writes (node pi (ptr_of x) (ptr_of b) blank)) r h.context sc
    made_pi_gives n k =
        made_gives n (pi_row_is x b)
        (writable_as (pi_row_is x b) made_pi_due pi-fields (node_worded pi_in)
        (omega (arith, pi-bound s (ptr_of x) (ptr_of b) blank, type.within, body.within))) k

  -- A PROJECTION of field j of the structure c
  module _ {x : Ptr} (structure : Scope h (ptr_of x)) (c j : ℕ) where
    pub made_proj_due : Due rows (proj_shape c j x)
    made_proj_due = proj_due rows c j x (good_there (scope_good structure))

    proj-fields : FieldsOk s (length s) (node (proj c j) (ptr_of x) blank blank)
    unfolding fields table
    proj-fields = node_fields (term_ok (scope_good structure)) (plain_ok refl) (plain_ok refl)

    proj-bound : (cell s (node (proj c j) (ptr_of x) blank blank)).bound ≡ bound s (ptr_of x)
    unfolding cell field_bound fields table
    proj-bound = omega arith

    pub made_proj_gives : c < decl_count (env_at h) → (n : ℕ) {r : Reduced} {sc : List ℕ} →
        Written h.library h.scratch h.meter r sc (put_in (limits_at h).rows s (row_of (proj_shape c j x))) →
        GivesPtr n h (writes (node (proj c j) (ptr_of x) blank blank)) r h.context sc
    made_proj_gives named n k =
        made_gives n (proj_row_is x c j)
        (writable_as (proj_row_is x c j) made_proj_due proj-fields (node_worded (proj_in named)) (omega (arith, proj-bound, structure.within))) k

  -- A SORT
  module _ (l : ℕ) where
    pub made_sort_due : Due rows (sort_shape l)
    made_sort_due = sort_due rows l

    sort-fields : FieldsOk s (length s) (leaf (sort l))
    unfolding fields table
    sort-fields = node_fields (plain_ok refl) (plain_ok refl) (plain_ok refl)

    sort-bound : (cell s (leaf (sort l))).bound ≡ 0
    unfolding cell field_bound fields table
    sort-bound = refl

    may_make_sort : l ≤ most_level → Writable h (sort_shape l)
    may_make_sort low = writable_as (sort_row_is l) made_sort_due sort-fields (node_worded (sort_in low)) (omega (arith, sort-bound))

    pub made_sort_gives : l ≤ most_level → (n : ℕ) {r : Reduced} {sc : List ℕ} →
        Written h.library h.scratch h.meter r sc (put_in (limits_at h).rows s (row_of (sort_shape l))) →
        GivesPtr n h (writes (leaf (sort l))) r h.context sc
    made_sort_gives low n k = made_gives n (sort_row_is l) (may_make_sort low) k

  -- A CONSTANT without levels
  module _ (c : ℕ) where
    const_fields : FieldsOk s (length s) (leaf (const c 0))
    unfolding fields table
    const_fields = node_fields (plain_ok refl) (plain_ok refl) (plain_ok refl)

    const-bound : (cell s (leaf (const c 0))).bound ≡ 0
    unfolding cell field_bound fields table
    const-bound = refl

    pub made_const_gives : c < decl_count (env_at h) → (n : ℕ) {r : Reduced} {sc : List ℕ} →
        Written h.library h.scratch h.meter r sc (put_in (limits_at h).rows s (leaf (const c 0))) → GivesPtr n h (writes (leaf (const c 0))) r h.context sc
    made_const_gives named n {r} {sc} k =
        made_gives n (const_row_is c 0)
        (writable_as (const_row_is c 0) (const_due rows c 0) const_fields (node_worded (const_in named (omega arith))) (omega (arith, const-bound)))
        (subst (λ (w : Row). Written h.library h.scratch h.meter r sc (put_in (limits_at h).rows s w)) (sym (const_row_is c 0)) k)
