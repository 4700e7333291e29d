-- What is computed down the rows is what the rules say: replacement, spines, and the rows that a firing owes. It holds for all stores;
-- of a computation that runs out of recorded height nothing is said.
use Prim.Native.Nat.{ℕ, zero, suc, ◌+◌, ◌-◌, ◌≤◌}
use Rattle.std.proofs.Common.{arith}
use Rattle.std.specs.Prelude.{◌≡◌, List, ◌∷◌}
use Rattle.std.proofs.Math.Path.{refl}
use Rattle.std.proofs.Math.Option.{Option, none, some}
use Rattle.rules.specs.Kinds.{Tag, plain, term, body, fields}
use Rattle.rules.specs.Rows.{Ptr, Row, var, node, Store, cell_at, row_at, bound, up, Got}
use Rattle.rules.specs.Replacement.{count, Replaces, same, moved, inside, OnRow, stays, value, moves, children, OnField, word, child, under}
use Rattle.rules.specs.Spines.{Spine, head, through}
use Rattle.rules.specs.Firings.{Result, opened, itself, a_number, a_constant, Gives, by_replacement, no_row, number_row, constant_row, Due}
use Rattle.rules.specs.HeadTests.{given}
use Rattle.course.specs.Views.{Cmp, up_to, over, cmp, AppView, is_app, no_app, app_view}
use Rattle.course.specs.Eval.{on_index, on_field, on_row, on_ptr, replace_by, Spined, spine_on, spine_by, give, due_of}

-- whatever comes out is so
pub data All {A : Type 0} (P : A → Type 0) : Option A → Type 0 where
  nothing : All P none
  just : {a : A} → P a → All P (some a)

all_map : {A : Type 0} {P Q : A → Type 0} {x : Option A} → ((a : A) → P a → Q a) → All P x → All Q x
all_map h nothing = nothing
all_map h (just p) = just (h _ p)

all_given : {A B : Type 0} {P : A → Type 0} {Q : B → Type 0} {x : Option A} {f : A → Option B} → All P x → ((a : A) → P a → All Q (f a)) → All Q (given x f)
all_given nothing h = nothing
all_given (just p) h = h _ p

-- REPLACEMENT
module _ (v : Option Ptr) (k : ℕ) where
  index_says : (c : ℕ) (s : Store) (r i : ℕ) (w : Option Ptr) → v ≡ w → (a : Cmp c i) (b : Cmp i c) → OnRow v k c s r (var i) (on_index v k w c s r i a b)
  index_says c s r i w e (over h) q = stays h refl
  index_says c s r i none e (up_to h) (over l) = let z : c + count v ≤ i = rw e (omega arith) in moves z refl
  index_says c s r i (some x) e (up_to h) (over l) = let z : c + count v ≤ i = rw e (omega arith) in moves z refl
  index_says c s r i none e (up_to h) (up_to l) = let z : c + count v ≤ i = rw e (omega arith) in moves z refl
  index_says c s r i (some x) e (up_to h) (up_to l) = let z : i ≡ c = omega arith in value z e refl

  module _ (rec : ℕ → Store → Ptr → Option Got) (rec_says : (c : ℕ) (s : Store) (p : Ptr) → All (Replaces v k c s p) (rec c s p)) where
    field_says : (τ : Tag) (c : ℕ) (s : Store) (p : Ptr) → All (OnField v k τ c s p) (on_field v k rec τ c s p)
    field_says plain c s p = just (word refl)
    field_says term c s p = all_map (λ g r. child r) (rec_says c s p)
    field_says body c s p = all_map (λ g r. under r) (rec_says (suc c) s p)

    row_says : (c : ℕ) (s : Store) (r : ℕ) (w : Row) → All (OnRow v k c s r w) (on_row v k rec c s r w)
    unfolding on_row
    row_says c s r (var i) = just (index_says c s r i v refl (cmp c i) (cmp i c))
    row_says c s r (node κ x y z) =
        all_given (field_says (fields κ).first c s x) λ g₁ r₁.
        all_given (field_says (fields κ).second c g₁.store y) λ g₂ r₂.
        all_given (field_says (fields κ).third c g₂.store z) λ g₃ r₃.
        just (children r₁ r₂ r₃ refl)

    ptr_says : (c : ℕ) (s : Store) (p : Ptr) (a : Cmp (bound s p) c) (b : Cmp (c + count v) p.shift) → All (Replaces v k c s p) (on_ptr v k rec c s p a b)
    ptr_says c s p (up_to l) b = just (same l refl)
    ptr_says c s p (over l) (up_to q) = just (moved l q refl)
    ptr_says c s p (over l) (over q) =
        all_given (row_says (c - p.shift) s p.row (row_at s p.row)) λ g r.
        just (inside l q r refl)

  pub replace_says : (f c : ℕ) (s : Store) (p : Ptr) → All (Replaces v k c s p) (replace_by v k f c s p)
  unfolding replace_by
  replace_says zero c s p = nothing
  replace_says (suc f) c s p = ptr_says (λ c' s' p'. replace_by v k f c' s' p') (replace_says f) c s p (cmp (bound s p) c) (cmp (c + count v) p.shift)

-- SPINES
abbrev pub IsSpine : Store → Ptr → List Ptr → Spined → Type 0
IsSpine s p xs h = Spine s p xs h.head h.arguments

pub spine_says : (f : ℕ) (s : Store) (p : Ptr) (xs : List Ptr) → All (IsSpine s p xs) (spine_by f s p xs)
unfolding spine_by
spine_says zero s p xs = nothing
spine_says (suc f) s p xs = on (spine_says f s) (app_view (row_at s p.row))
  where
    on : ((q : Ptr) (ys : List Ptr) → All (IsSpine s q ys) (spine_by f s q ys)) → (w : AppView (row_at s p.row)) →
        All (IsSpine s p xs) (spine_on (λ p' xs'. spine_by f s p' xs') s p xs w)
    on ih (is_app g a z e) = all_map (λ h r. through e r) (ih (up s g p.shift) (up s a p.shift ∷ xs))
    on ih (no_app h) = just (head h)

-- A FIRING'S ROWS
give_says : (s : Store) (r : Result) → All (Gives s r) (give s r)
unfolding give
give_says s (opened b v k) = all_map (λ g r. by_replacement r) (replace_says (some v) k (cell_at s b.row).height 0 s b)
give_says s (itself p) = just (no_row refl)
give_says s (a_number n) = just (number_row refl)
give_says s (a_constant d) = just (constant_row refl)

pub due_says : (s : Store) (r : Result) (xs : List Ptr) → All (Due s r xs) (due_of s r xs)
unfolding due_of
due_says s r xs = all_given (give_says s r) λ g q. just (record { result = g; gives = q; applied = refl })
