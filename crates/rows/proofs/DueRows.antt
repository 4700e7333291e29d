-- Which kinds and pairs are due, kind by kind, and the rules' rows that they are: what a caller of the row writer shows and learns.
-- Assumes nothing.
use Prim.Native.Nat.{ℕ, ◌≤◌, ◌<◌}
use native.Mathlib.Omega.{arith}
use mathlib.Core.Path.{◌≡◌, refl, ap, ◌∙◌}
use mathlib.Core.List.{List}
use borrow.Author.Tests.{lt-ltb, le-ltb}
use Rattle.rules.specs.Maxima.{most_level}
use Rattle.rules.specs.Kinds.{plain, Tags, tags, table, sort, const, app, lam, pi, let', proj, num}
use Rattle.rules.specs.Rows.{Store, blank, var, node, leaf}
use Rattle.rules.specs.Arithmetic.{words_value}
use Rattle.course.specs.Charged.{put_in}
use Rattle.rows.specs.declared.Ptr.{Ptr}
use Rattle.rows.specs.declared.refusals.Refusal.TheVariants.{SortLevel}
use Rattle.rows.specs.Refusals.{Out}
use Rattle.std.specs.Prelude.{Err}
use Rattle.rows.specs.Words.{pair, ptr_of, kind_of, tags_at, tag_at, row_by, row_of, leaf_shape}
use Rattle.rows.specs.Checks.{used, Tidy, Formed}
use Rattle.rows.specs.Writes.{sort_in, Wrote, Due}
use Rattle.rows.proofs.NineKinds.{each_kind}
use Rattle.rows.proofs.Formed.{shape, one_word, two_words, two_pairs, three_pairs}

-- PLAIN WORDS

leaf_due : (n k : ℕ) (p : Ptr) → Formed (leaf_shape k p) → tags_at k ≡ tags plain plain plain → Due n (leaf_shape k p)
leaf_due n k p f e = record {
  kind = f.kind;
  tidy = f.tidy;
  first = λ child. absurd (child (ap (λ (t : Tags). t.first) e));
  second = λ child. absurd (child (ap (λ (t : Tags). t.second) e));
  third = λ child. absurd (child (ap (λ (t : Tags). t.third) e));
}

pub var_due : (n i : ℕ) → Due n (leaf_shape 0 (pair i 0))
unfolding tags_at table
var_due n i = leaf_due n 0 (pair i 0) (one_word 0 i (omega arith)) refl

pub sort_due : (n i : ℕ) → Due n (leaf_shape 1 (pair i 0))
unfolding tags_at table
sort_due n i = leaf_due n 1 (pair i 0) (one_word 1 i (omega arith)) refl

pub const_due : (n d i : ℕ) → Due n (leaf_shape 2 (pair d i))
unfolding tags_at table used
const_due n d i = leaf_due n 2 (pair d i) (two_words 2 d i (omega arith) (omega arith)) refl

pub number_due : (n low high : ℕ) → Due n (leaf_shape 8 (pair low high))
unfolding tags_at table used
number_due n low high = leaf_due n 8 (pair low high) (two_words 8 low high (omega arith) (omega arith)) refl

pub var_row_is : (i : ℕ) → row_of (leaf_shape 0 (pair i 0)) ≡ var i
unfolding row_by
var_row_is i = refl

pub sort_row_is : (i : ℕ) → row_of (leaf_shape 1 (pair i 0)) ≡ leaf (sort i)
unfolding row_by kind_of tags_at table
sort_row_is i = refl

pub const_row_is : (d i : ℕ) → row_of (leaf_shape 2 (pair d i)) ≡ leaf (const d i)
unfolding row_by kind_of tags_at table
const_row_is d i = refl

pub number_row_is : (low high : ℕ) → row_of (leaf_shape 8 (pair low high)) ≡ leaf (num (words_value low high))
unfolding row_by kind_of tags_at table
number_row_is low high = refl

-- CHILDREN

-- kinds 3 to 7 use the first two pairs
uses_two : (k : ℕ) → k ≤ 8 → 3 ≤ k → k ≤ 7 → 4 ≤ used k
unfolding used
uses_two =
    each_kind (λ (k : ℕ). 3 ≤ k → k ≤ 7 → 4 ≤ used k)
    (λ h _. absurd (omega arith))
    (λ h _. absurd (omega arith))
    (λ h _. absurd (omega arith))
    (λ _ _. omega arith)
    (λ _ _. omega arith)
    (λ _ _. omega arith)
    (λ _ _. omega arith)
    (λ _ _. omega arith)
    (λ _ h. absurd (omega arith))

-- an application, lambda or pi
pub two_due : (n k : ℕ) (a b : Ptr) → 3 ≤ k → k ≤ 5 → a.row < n → b.row < n → Due n (shape k a b (pair 0 0))
two_due n k a b low high first second =
    let formed : Formed (shape k a b (pair 0 0)) = two_pairs k a b (omega arith) (uses_two k (omega arith) low (omega arith)) in
    record { kind = formed.kind; tidy = formed.tidy; first = λ _. first; second = λ _. second; third = λ _. omega arith }

pub let_due : (n : ℕ) (a b c : Ptr) → a.row < n → b.row < n → c.row < n → Due n (shape 6 a b c)
unfolding used
let_due n a b c first second third =
    let formed : Formed (shape 6 a b c) = three_pairs 6 a b c (omega arith) (omega arith) in
    record { kind = formed.kind; tidy = formed.tidy; first = λ _. first; second = λ _. second; third = λ _. third }

pub proj_due : (n d i : ℕ) (a : Ptr) → a.row < n → Due n (shape 7 a (pair d i) (pair 0 0))
unfolding used tags_at table
proj_due n d i a first =
    let formed : Formed (shape 7 a (pair d i) (pair 0 0)) = two_pairs 7 a (pair d i) (omega arith) (omega arith) in
    record { kind = formed.kind; tidy = formed.tidy; first = λ _. first; second = λ child. absurd (child refl); third = λ _. omega arith }

pub app_row_is : (a b : Ptr) → row_of (shape 3 a b (pair 0 0)) ≡ node app (ptr_of a) (ptr_of b) blank
unfolding row_by kind_of tags_at table
app_row_is a b = refl

pub lam_row_is : (a b : Ptr) → row_of (shape 4 a b (pair 0 0)) ≡ node lam (ptr_of a) (ptr_of b) blank
unfolding row_by kind_of tags_at table
lam_row_is a b = refl

pub pi_row_is : (a b : Ptr) → row_of (shape 5 a b (pair 0 0)) ≡ node pi (ptr_of a) (ptr_of b) blank
unfolding row_by kind_of tags_at table
pi_row_is a b = refl

pub let_row_is : (a b c : Ptr) → row_of (shape 6 a b c) ≡ node let' (ptr_of a) (ptr_of b) (ptr_of c)
unfolding row_by kind_of tags_at table
let_row_is a b c = refl

pub proj_row_is : (a : Ptr) (d i : ℕ) → row_of (shape 7 a (pair d i) (pair 0 0)) ≡ node (proj d i) (ptr_of a) blank blank
unfolding row_by kind_of tags_at table
proj_row_is a d i = refl

-- A ROW AGAIN, WITH OTHER CHILDREN

-- a field with an unused word is plain

unused_first : (k : ℕ) → k ≤ 8 → used k < 2 → tag_at k 0 ≡ plain
unfolding tags_at table used
unused_first =
    each_kind (λ (k : ℕ). used k < 2 → tag_at k 0 ≡ plain)
    (λ _. refl)
    (λ _. refl)
    (λ _. refl)
    (λ h. absurd (omega arith))
    (λ h. absurd (omega arith))
    (λ h. absurd (omega arith))
    (λ h. absurd (omega arith))
    (λ h. absurd (omega arith))
    (λ _. refl)

unused_second : (k : ℕ) → k ≤ 8 → used k < 4 → tag_at k 1 ≡ plain
unfolding tags_at table used
unused_second =
    each_kind (λ (k : ℕ). used k < 4 → tag_at k 1 ≡ plain)
    (λ _. refl)
    (λ _. refl)
    (λ _. refl)
    (λ h. absurd (omega arith))
    (λ h. absurd (omega arith))
    (λ h. absurd (omega arith))
    (λ h. absurd (omega arith))
    (λ _. refl)
    (λ _. refl)

unused_third : (k : ℕ) → k ≤ 8 → used k < 6 → tag_at k 2 ≡ plain
unfolding tags_at table used
unused_third =
    each_kind (λ (k : ℕ). used k < 6 → tag_at k 2 ≡ plain)
    (λ _. refl)
    (λ _. refl)
    (λ _. refl)
    (λ _. refl)
    (λ _. refl)
    (λ _. refl)
    (λ h. absurd (omega arith))
    (λ _. refl)
    (λ _. refl)

-- a formed row whose children are replaced and whose plain fields stay is due again
module _ (n k : ℕ) (a b c a' b' c' : Ptr) (formed : Formed (shape k a b c))
    (first : tag_at k 0 ≡ plain → a' ≡ a) (second : tag_at k 1 ≡ plain → b' ≡ b) (third : tag_at k 2 ≡ plain → c' ≡ c) where
  tidy_again : Tidy (shape k a' b' c')
  tidy_again =
      let kind = formed.kind in
      let tidy = formed.tidy in
      record {
        word2 = λ h. ap (λ (p : Ptr). p.shift) (first (unused_first k kind h)) ∙ tidy.word2 h;
        word3 = λ h. ap (λ (p : Ptr). p.row) (second (unused_second k kind (omega arith))) ∙ tidy.word3 h;
        word4 = λ h. ap (λ (p : Ptr). p.shift) (second (unused_second k kind h)) ∙ tidy.word4 h;
        word5 = λ h. ap (λ (p : Ptr). p.row) (third (unused_third k kind (omega arith))) ∙ tidy.word5 h;
        word6 = λ h. ap (λ (p : Ptr). p.shift) (third (unused_third k kind h)) ∙ tidy.word6 h;
      }

  pub due_again : ((tag_at k 0 ≡ plain → ⊥) → a'.row < n) → ((tag_at k 1 ≡ plain → ⊥) → b'.row < n) → ((tag_at k 2 ≡ plain → ⊥) → c'.row < n) →
      Due n (shape k a' b' c')
  due_again f g h = record { kind = formed.kind; tidy = tidy_again; first = f; second = g; third = h }

-- A SORT'S LEVEL: 10 before anything else
pub level_refused : (l sc : List ℕ) (m most : ℕ) (s : Store) (level : ℕ) → most_level < level → Wrote l sc m (Err SortLevel) sc (sort_in most s level)
level_refused l sc m most s level h = record {
  says = simp (lt-ltb _ _ h);
  kept = refl;
  same_length = refl;
  grown = λ p m' e. absurd (let z : ◌≡◌ {A = ℕ} 0 1 = cc in omega arith);
}

pub level_kept : (l sc : List ℕ) (m most : ℕ) (s : Store) (level : ℕ) {r : Out} {sc' : List ℕ} → level ≤ most_level → Wrote l sc m r sc' (put_in most s (leaf (sort level))) →
    Wrote l sc m r sc' (sort_in most s level)
level_kept l sc m most s level h w = record { says = w.says ∙ simp (le-ltb _ _ h); kept = w.kept; same_length = w.same_length; grown = w.grown }
