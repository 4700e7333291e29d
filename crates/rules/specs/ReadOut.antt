-- The read-out: plain trees, the tree that a pointer stands for with all shifts carried out, and textbook shifting and substitution.
use Rattle.std.specs.Prelude.{ℕ, suc, ◌+◌, ◌-◌, ◌≡◌, Bool, true, false, ltb, eqb}
use Rattle.rules.specs.Kinds as K
use Rattle.rules.specs.Rows.{Ptr, Row, node, Store, row_at}
use Rattle.rules.specs.Rows as R

pub data Tree : Type 0 where
  var : (index : ℕ) → Tree
  sort : (level : ℕ) → Tree
  const : (declaration levels : ℕ) → Tree
  app : (function argument : Tree) → Tree
  lam : (type body : Tree) → Tree
  pi : (type body : Tree) → Tree
  let' : (type value body : Tree) → Tree
  proj : (declaration index : ℕ) (structure : Tree) → Tree
  num : (value : ℕ) → Tree

-- indices from c on go up by k
abbrev pub shift_index : Bool → ℕ → ℕ → Tree
shift_index true i k = var i
shift_index false i k = var (i + k)

unfoldable pub shift : ℕ → ℕ → Tree → Tree
shift k c (var i) = shift_index (ltb i c) i k
shift k c (sort l) = sort l
shift k c (const d n) = const d n
shift k c (app f a) = app (shift k c f) (shift k c a)
shift k c (lam t b) = lam (shift k c t) (shift k (suc c) b)
shift k c (pi t b) = pi (shift k c t) (shift k (suc c) b)
shift k c (let' t v b) = let' (shift k c t) (shift k c v) (shift k (suc c) b)
shift k c (proj d i x) = proj d i (shift k c x)
shift k c (num n) = num n

-- v for index c: v goes up by one under a binder, indices above c come down
abbrev pub subst_index : Bool → Bool → Tree → ℕ → Tree
subst_index true same v i = var i
subst_index false true v i = v
subst_index false false v i = var (i - 1)

unfoldable pub subst : Tree → ℕ → Tree → Tree
unfolding shift
subst v c (var i) = subst_index (ltb i c) (eqb i c) v i
subst v c (sort l) = sort l
subst v c (const d n) = const d n
subst v c (app f a) = app (subst v c f) (subst v c a)
subst v c (lam t b) = lam (subst v c t) (subst (shift 1 0 v) (suc c) b)
subst v c (pi t b) = pi (subst v c t) (subst (shift 1 0 v) (suc c) b)
subst v c (let' t w b) = let' (subst v c t) (subst v c w) (subst (shift 1 0 v) (suc c) b)
subst v c (proj d i x) = proj d i (subst v c x)
subst v c (num n) = num n

mutual
  -- a pointer reads as its row does, shifted
  pub data Reads (s : Store) : Ptr → Tree → Type 0 where
    shifted : {p : Ptr} {u u' : Tree} → ReadsRow s (row_at s p.row) u → shift p.shift 0 u ≡ u' → Reads s p u'

  pub data ReadsRow (s : Store) : Row → Tree → Type 0 where
    reads_var : {i : ℕ} → ReadsRow s (R.var i) (var i)
    reads_sort : {l : ℕ} {x y z : Ptr} → ReadsRow s (node (K.sort l) x y z) (sort l)
    reads_const : {d n : ℕ} {x y z : Ptr} → ReadsRow s (node (K.const d n) x y z) (const d n)
    reads_app : {f a z : Ptr} {t u : Tree} → Reads s f t → Reads s a u → ReadsRow s (node K.app f a z) (app t u)
    reads_lam : {x b z : Ptr} {t u : Tree} → Reads s x t → Reads s b u → ReadsRow s (node K.lam x b z) (lam t u)
    reads_pi : {x b z : Ptr} {t u : Tree} → Reads s x t → Reads s b u → ReadsRow s (node K.pi x b z) (pi t u)
    reads_let : {x v b : Ptr} {t u w : Tree} → Reads s x t → Reads s v u → Reads s b w → ReadsRow s (node K.let' x v b) (let' t u w)
    reads_proj : {d i : ℕ} {x y z : Ptr} {t : Tree} → Reads s x t → ReadsRow s (node (K.proj d i) x y z) (proj d i t)
    reads_num : {n : ℕ} {x y z : Ptr} → ReadsRow s (node (K.num n) x y z) (num n)
