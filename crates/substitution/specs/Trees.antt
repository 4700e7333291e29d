-- Trees: the move of document 01's first sentence on replacement, loose bound, height, a node by the kinds table; and what shifting,
-- substitution and the move do at a variable. Assumes nothing.
use Rattle.std.specs.Prelude.{ℕ, suc, ◌+◌, ◌-◌, ◌≤◌, ◌<◌, pred, max, ◌≡◌, refl, Bool, eqb}
use Rattle.std.proofs.Common.{arith, ap, ap₂}
use Rattle.std.proofs.Math.Option.{Option, none, some}
use Rattle.rules.specs.Kinds.{Kind, Tag, plain, term, body, table, fields}
use Rattle.rules.specs.Kinds as K
use Rattle.rules.specs.ReadOut.{Tree, var, sort, const, app, lam, pi, let', proj, num, shift_index, shift, subst_index, subst}
use Rattle.substitution.specs.Places.{Place, below, here, past, place, ltb_below, ltb_from, eqb_here, eqb_past}

-- "At cutoff c, with one value (n = 1) or none (n = 0) and a move k: index below c stays; index c with n = 1 becomes the value
-- shifted up c; index i from c + n on becomes i - n + k."
abbrev pub move_index : Option Tree → ℕ → (c i : ℕ) → Place i c → Tree
move_index v k c i (below h) = var i
move_index none k c i (here h) = var (i + k)
move_index (some v) k c i (here h) = shift c 0 v
move_index none k c i (past h) = var (i + k)
move_index (some v) k c i (past h) = var (i - 1 + k)

unfoldable pub move : Option Tree → ℕ → ℕ → Tree → Tree
move v k c (var i) = move_index v k c i (place i c)
move v k c (sort l) = sort l
move v k c (const d n) = const d n
move v k c (app f a) = app (move v k c f) (move v k c a)
move v k c (lam t b) = lam (move v k c t) (move v k (suc c) b)
move v k c (pi t b) = pi (move v k c t) (move v k (suc c) b)
move v k c (let' t w b) = let' (move v k c t) (move v k c w) (move v k (suc c) b)
move v k c (proj d i x) = proj d i (move v k c x)
move v k c (num n) = num n

-- n
abbrev pub count : Option Tree → ℕ
count none = 0
count (some v) = 1

-- the least depth that has every index
unfoldable pub loose : Tree → ℕ
loose (var i) = suc i
loose (sort l) = 0
loose (const d n) = 0
loose (app f a) = max (loose f) (loose a)
loose (lam t b) = max (loose t) (pred (loose b))
loose (pi t b) = max (loose t) (pred (loose b))
loose (let' t v b) = max (max (loose t) (loose v)) (pred (loose b))
loose (proj d i x) = loose x
loose (num n) = 0

unfoldable pub tree_height : Tree → ℕ
tree_height (var i) = 1
tree_height (sort l) = 1
tree_height (const d n) = 1
tree_height (app f a) = suc (max (tree_height f) (tree_height a))
tree_height (lam t b) = suc (max (tree_height t) (tree_height b))
tree_height (pi t b) = suc (max (tree_height t) (tree_height b))
tree_height (let' t v b) = suc (max (max (tree_height t) (tree_height v)) (tree_height b))
tree_height (proj d i x) = suc (tree_height x)
tree_height (num n) = 1

-- the tree of a kind from the trees of its three fields; those of plain fields are left out
unfoldable pub build : Kind → Tree → Tree → Tree → Tree
build (K.sort l) x y z = sort l
build (K.const d n) x y z = const d n
build K.app x y z = app x y
build K.lam x y z = lam x y
build K.pi x y z = pi x y
build K.let' x y z = let' x y z
build (K.proj d i) x y z = proj d i x
build (K.num n) x y z = num n

-- "bodies at c + 1"
abbrev pub cutoff : Tag → ℕ → ℕ
cutoff plain c = c
cutoff term c = c
cutoff body c = suc c

-- the move goes into the fields as the table says
pub move-build : (v : Option Tree) (k c : ℕ) (κ : Kind) (x y z : Tree) →
    build κ (move v k (cutoff (fields κ).first c) x) (move v k (cutoff (fields κ).second c) y) (move v k (cutoff (fields κ).third c) z) ≡
    move v k c (build κ x y z)
unfolding build move fields table
move-build v k c (K.sort l) x y z = refl
move-build v k c (K.const d n) x y z = refl
move-build v k c K.app x y z = refl
move-build v k c K.lam x y z = refl
move-build v k c K.pi x y z = refl
move-build v k c K.let' x y z = refl
move-build v k c (K.proj d i) x y z = refl
move-build v k c (K.num n) x y z = refl

pub let_eq : {x x' y y' z z' : Tree} → x ≡ x' → y ≡ y' → z ≡ z' → let' x y z ≡ let' x' y' z'
let_eq p q r = λ i. let' (p i) (q i) (r i)

pub build_eq : (κ : Kind) {x x' y y' z z' : Tree} → x ≡ x' → y ≡ y' → z ≡ z' → build κ x y z ≡ build κ x' y' z'
build_eq κ p q r = λ i. build κ (p i) (q i) (r i)

-- AT A VARIABLE

pub shift_low : (k c i : ℕ) → i < c → shift k c (var i) ≡ var i
unfolding shift
shift_low k c i h = ap (λ (b : Bool). shift_index b i k) (ltb_below i c h)

pub shift_high : (k c i : ℕ) → c ≤ i → shift k c (var i) ≡ var (i + k)
unfolding shift
shift_high k c i h = ap (λ (b : Bool). shift_index b i k) (ltb_from i c h)

pub subst_low : (v : Tree) (c i : ℕ) → i < c → subst v c (var i) ≡ var i
unfolding subst
subst_low v c i h = ap (λ (b : Bool). subst_index b (eqb i c) v i) (ltb_below i c h)

pub subst_here : (v : Tree) (c i : ℕ) → i ≡ c → subst v c (var i) ≡ v
unfolding subst
subst_here v c i h = ap₂ (λ (a b : Bool). subst_index a b v i) (ltb_from i c (omega arith)) (eqb_here i c h)

pub subst_past : (v : Tree) (c i : ℕ) → c < i → subst v c (var i) ≡ var (i - 1)
unfolding subst
subst_past v c i h = ap₂ (λ (a b : Bool). subst_index a b v i) (ltb_from i c (omega arith)) (eqb_past i c h)

pub move_low : (v : Option Tree) (k c i : ℕ) → i < c → move v k c (var i) ≡ var i
unfolding move
move_low v k c i h = go (place i c)
  where
    go : (q : Place i c) → move_index v k c i q ≡ var i
    go (below q) = refl
    go (here q) = absurd (omega arith)
    go (past q) = absurd (omega arith)

pub move_here : (v : Tree) (k c i : ℕ) → i ≡ c → move (some v) k c (var i) ≡ shift c 0 v
unfolding move
move_here v k c i h = go (place i c)
  where
    go : (q : Place i c) → move_index (some v) k c i q ≡ shift c 0 v
    go (below q) = absurd (omega arith)
    go (here q) = refl
    go (past q) = absurd (omega arith)

-- with a value or without: past the cutoff, and past what the value takes
pub move_high : (v : Option Tree) (k c i : ℕ) → c + count v ≤ i → move v k c (var i) ≡ var (i - count v + k)
unfolding move
move_high v k c i h = go v (place i c) h
  where
    go : (v : Option Tree) (q : Place i c) → c + count v ≤ i → move_index v k c i q ≡ var (i - count v + k)
    go none (below q) h = absurd (omega arith)
    go none (here q) h = ap var (omega arith)
    go none (past q) h = ap var (omega arith)
    go (some v) (below q) h = absurd (omega arith)
    go (some v) (here q) h = absurd (omega arith)
    go (some v) (past q) h = refl
