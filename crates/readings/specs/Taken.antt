-- What a head rule picks out of arguments, read out: the same pick out of their trees. And the head's row by what a test finds in it.
-- Assumes good pointers with their trees (`ReadAll`), and of a row what it reads as.
use Rattle.std.specs.Prelude.{ℕ, zero, suc, ◌≡◌, refl, List, [], ◌∷◌, ◌++◌, length, take, drop}
use Rattle.std.proofs.Common.{sym, ap, ◌∙◌}
use Rattle.std.proofs.Math.Option.{some}
use Rattle.rules.specs.Rows.{Ptr, Row, Store}
use Rattle.rules.specs.Declarations.{nth}
use Rattle.rules.specs.HeadTests.{as_constant, as_number, third_of_three}
use Rattle.rules.specs.ReadOut.{Tree, const, num, shift, Reads, ReadsRow, reads_var, reads_sort, reads_const, reads_app, reads_lam, reads_pi, reads_let}
use Rattle.rules.specs.ReadOut.{reads_proj, reads_num}
use Rattle.substitution.specs.Stores.{Good}
use Rattle.substitution.specs.Reading.{RowReads}
use Rattle.substitution.specs.Applied.{ReadAll, none_left, and_then}
use Rattle.safety.specs.Lists.{none_some, some_same}

-- POSITIONS

-- the pointer at a position, with the tree at that position
pub record ReadAt (s : Store) (us : List Tree) (i : ℕ) (a : Ptr) : Type 0 where
  pub tree : Tree
  pub there : nth us i ≡ some tree
  pub good : Good s a
  pub reads : Reads s a tree

pub read_nth : {s : Store} {xs : List Ptr} {us : List Tree} {a : Ptr} (i : ℕ) → ReadAll s xs us → nth xs i ≡ some a → ReadAt s us i a
unfolding nth
read_nth i none_left q = absurd (none_some q)
read_nth {s} zero (and_then {u = u} o r rs) q = rw (← some_same q) (record { tree = u; there = refl; good = o; reads = r })
read_nth (suc i) (and_then o r rs) q =
    let z = read_nth i rs q in record { tree = z.tree; there = z.there; good = z.good; reads = z.reads }

pub read_take : {s : Store} {xs : List Ptr} {us : List Tree} (n : ℕ) → ReadAll s xs us → ReadAll s (take n xs) (take n us)
read_take zero r = none_left
read_take (suc n) none_left = none_left
read_take (suc n) (and_then o r rs) = and_then o r (read_take n rs)

pub read_drop : {s : Store} {xs : List Ptr} {us : List Tree} (n : ℕ) → ReadAll s xs us → ReadAll s (drop n xs) (drop n us)
read_drop zero r = r
read_drop (suc n) none_left = none_left
read_drop (suc n) (and_then o r rs) = read_drop n rs

pub read_append : {s : Store} {xs ys : List Ptr} {us vs : List Tree} → ReadAll s xs us → ReadAll s ys vs → ReadAll s (xs ++ ys) (us ++ vs)
read_append none_left k = k
read_append (and_then o r rs) k = and_then o r (read_append rs k)

pub read_length : {s : Store} {xs : List Ptr} {us : List Tree} → ReadAll s xs us → length us ≡ length xs
read_length none_left = refl
read_length (and_then o r rs) = ap suc (read_length rs)

-- "exactly 3 arguments": the third, and that there are three
pub record Three (s : Store) (us : List Tree) (a : Ptr) : Type 0 where
  pub first : Tree
  pub second : Tree
  pub third : Tree
  pub all : us ≡ first ∷ second ∷ third ∷ []
  pub good : Good s a
  pub reads : Reads s a third

pub read_three : {s : Store} {xs : List Ptr} {us : List Tree} {a : Ptr} → ReadAll s xs us → third_of_three xs ≡ some a → Three s us a
read_three none_left q = absurd (none_some q)
read_three (and_then o r none_left) q = absurd (none_some q)
read_three (and_then o r (and_then o' r' none_left)) q = absurd (none_some q)
read_three (and_then {u = u} o r (and_then {u = v} o' r' (and_then {u = w} y z none_left))) q =
    rw (← some_same q) (record { first = u; second = v; third = w; all = refl; good = y; reads = z })
read_three (and_then o r (and_then o' r' (and_then y z (and_then y' z' rs)))) q = absurd (none_some q)

-- HEADS

-- the tree of a head in which the test found a constant
pub record IsConst (c : ℕ) (t : Tree) : Type 0 where
  pub levels : ℕ
  pub is : const c levels ≡ t

const_row : {s : Store} {w : Row} {c : ℕ} {u t : Tree} (k : ℕ) → ReadsRow s w u → as_constant w ≡ some c → shift k 0 u ≡ t → IsConst c t
unfolding as_constant shift
const_row k reads_var q e = absurd (none_some q)
const_row k reads_sort q e = absurd (none_some q)
const_row k (reads_const {n = n}) q e = record { levels = n; is = ap (λ (d : ℕ). const d n) (sym (some_same q)) ∙ e }
const_row k (reads_app a b) q e = absurd (none_some q)
const_row k (reads_lam a b) q e = absurd (none_some q)
const_row k (reads_pi a b) q e = absurd (none_some q)
const_row k (reads_let a b c) q e = absurd (none_some q)
const_row k (reads_proj a) q e = absurd (none_some q)
const_row k reads_num q e = absurd (none_some q)

pub const_head : {s : Store} {w : Row} {c k : ℕ} {t : Tree} → RowReads s w k t → as_constant w ≡ some c → IsConst c t
const_head {k = k} r q = const_row k r.row q r.is

-- a number, with no arguments
pub record IsNumber (n : ℕ) (t : Tree) (us : List Tree) : Type 0 where
  pub is : num n ≡ t
  pub alone : us ≡ []

number_row : {s : Store} {w : Row} {n : ℕ} {ys : List Ptr} {us : List Tree} {u t : Tree} (k : ℕ) →
    ReadsRow s w u → ReadAll s ys us → as_number w ys ≡ some n → shift k 0 u ≡ t → IsNumber n t us
unfolding as_number shift
number_row k reads_var rs q e = absurd (none_some q)
number_row k reads_sort rs q e = absurd (none_some q)
number_row k reads_const rs q e = absurd (none_some q)
number_row k (reads_app a b) rs q e = absurd (none_some q)
number_row k (reads_lam a b) rs q e = absurd (none_some q)
number_row k (reads_pi a b) rs q e = absurd (none_some q)
number_row k (reads_let a b c) rs q e = absurd (none_some q)
number_row k (reads_proj a) rs q e = absurd (none_some q)
number_row k reads_num none_left q e = record { is = ap num (sym (some_same q)) ∙ e; alone = refl }
number_row k reads_num (and_then o r rs) q e = absurd (none_some q)

pub number_head : {s : Store} {w : Row} {n k : ℕ} {ys : List Ptr} {us : List Tree} {t : Tree} →
    RowReads s w k t → ReadAll s ys us → as_number w ys ≡ some n → IsNumber n t us
number_head {k = k} r rs q = number_row k r.row rs q r.is
