-- Laws of shifting and moving trees, with those two in textbook words: without a value the move is a shift, with one it is a
-- shift and a substitution. Each law is an induction on the tree whose one interesting case is the variable. Assumes nothing.
use Rattle.std.specs.Prelude.{ℕ, suc, ◌+◌, ◌-◌, ◌≤◌, ◌≡◌, refl}
use Rattle.std.proofs.Common.{arith, sym, ap, ap₂, ◌∙◌}
use Rattle.std.proofs.Math.Option.{Option, none, some}
use Rattle.rules.specs.ReadOut.{Tree, var, sort, const, app, lam, pi, let', proj, num, shift, subst}
use Rattle.substitution.specs.Places.{Place, below, here, past, place}
use Rattle.substitution.specs.Trees.{move, count, loose, let_eq, shift_low, shift_high, subst_low, subst_here, subst_past, move_low, move_here, move_high}

-- nothing is loose from the cutoff on: nothing moves
pub move_closed : (v : Option Tree) (k c : ℕ) (t : Tree) → loose t ≤ c → move v k c t ≡ t
unfolding move loose
move_closed v k c (var i) h = move_low v k c i h
move_closed v k c (sort l) h = refl
move_closed v k c (const d n) h = refl
move_closed v k c (app f a) h = ap₂ app (move_closed v k c f (omega arith)) (move_closed v k c a (omega arith))
move_closed v k c (lam t b) h = ap₂ lam (move_closed v k c t (omega arith)) (move_closed v k (suc c) b (omega arith))
move_closed v k c (pi t b) h = ap₂ pi (move_closed v k c t (omega arith)) (move_closed v k (suc c) b (omega arith))
move_closed v k c (let' t w b) h = let_eq (move_closed v k c t (omega arith)) (move_closed v k c w (omega arith)) (move_closed v k (suc c) b (omega arith))
move_closed v k c (proj d i x) h = ap (proj d i) (move_closed v k c x h)
move_closed v k c (num n) h = refl

-- without a value the move is the textbook's shift
pub move-none : (k c : ℕ) (t : Tree) → move none k c t ≡ shift k c t
unfolding move shift
move-none k c (var i) = go (place i c)
  where
    go : Place i c → move none k c (var i) ≡ shift k c (var i)
    go (below q) = move_low none k c i q ∙ sym (shift_low k c i q)
    go (here q) = move_high none k c i (omega arith) ∙ ap var (omega arith) ∙ sym (shift_high k c i (omega arith))
    go (past q) = move_high none k c i (omega arith) ∙ ap var (omega arith) ∙ sym (shift_high k c i (omega arith))
move-none k c (sort l) = refl
move-none k c (const d n) = refl
move-none k c (app f a) = ap₂ app (move-none k c f) (move-none k c a)
move-none k c (lam t b) = ap₂ lam (move-none k c t) (move-none k (suc c) b)
move-none k c (pi t b) = ap₂ pi (move-none k c t) (move-none k (suc c) b)
move-none k c (let' t w b) = let_eq (move-none k c t) (move-none k c w) (move-none k (suc c) b)
move-none k c (proj d i x) = ap (proj d i) (move-none k c x)
move-none k c (num n) = refl

pub shift_closed : (k c : ℕ) (t : Tree) → loose t ≤ c → shift k c t ≡ t
shift_closed k c t h = sym (move-none k c t) ∙ move_closed none k c t h

pub shift_zero : (c : ℕ) (t : Tree) → shift 0 c t ≡ t
unfolding shift
shift_zero c (var i) = go (place i c)
  where
    go : Place i c → shift 0 c (var i) ≡ var i
    go (below q) = shift_low 0 c i q
    go (here q) = shift_high 0 c i (omega arith) ∙ ap var (omega arith)
    go (past q) = shift_high 0 c i (omega arith) ∙ ap var (omega arith)
shift_zero c (sort l) = refl
shift_zero c (const d n) = refl
shift_zero c (app f a) = ap₂ app (shift_zero c f) (shift_zero c a)
shift_zero c (lam t b) = ap₂ lam (shift_zero c t) (shift_zero (suc c) b)
shift_zero c (pi t b) = ap₂ pi (shift_zero c t) (shift_zero (suc c) b)
shift_zero c (let' t w b) = let_eq (shift_zero c t) (shift_zero c w) (shift_zero (suc c) b)
shift_zero c (proj d i x) = ap (proj d i) (shift_zero c x)
shift_zero c (num n) = refl

-- a move whose cutoff falls among the indices that a shift opened is a smaller or larger shift
pub move-shift : (v : Option Tree) (k c s d : ℕ) (t : Tree) → d ≤ c → c + count v ≤ d + s → move v k c (shift s d t) ≡ shift (s - count v + k) d t
unfolding move shift
move-shift v k c s d (var i) h g = go (place i d)
  where
    from : d ≤ i → move v k c (shift s d (var i)) ≡ shift (s - count v + k) d (var i)
    from q = ap (move v k c) (shift_high s d i q) ∙ move_high v k c (i + s) (omega arith) ∙ ap var (omega arith) ∙ sym (shift_high (s - count v + k) d i q)

    go : Place i d → move v k c (shift s d (var i)) ≡ shift (s - count v + k) d (var i)
    go (below q) = ap (move v k c) (shift_low s d i q) ∙ move_low v k c i (omega arith) ∙ sym (shift_low (s - count v + k) d i q)
    go (here q) = from (omega arith)
    go (past q) = from (omega arith)
move-shift v k c s d (sort l) h g = refl
move-shift v k c s d (const e n) h g = refl
move-shift v k c s d (app f a) h g = ap₂ app (move-shift v k c s d f h g) (move-shift v k c s d a h g)
move-shift v k c s d (lam t b) h g = ap₂ lam (move-shift v k c s d t h g) (move-shift v k (suc c) s (suc d) b (omega arith) (omega arith))
move-shift v k c s d (pi t b) h g = ap₂ pi (move-shift v k c s d t h g) (move-shift v k (suc c) s (suc d) b (omega arith) (omega arith))
move-shift v k c s d (let' t w b) h g =
    let_eq (move-shift v k c s d t h g) (move-shift v k c s d w h g) (move-shift v k (suc c) s (suc d) b (omega arith) (omega arith))
move-shift v k c s d (proj e i x) h g = ap (proj e i) (move-shift v k c s d x h g)
move-shift v k c s d (num n) h g = refl

-- two shifts make one
pub shift-shift : (a b d : ℕ) (t : Tree) (c : ℕ) → d ≤ c → c ≤ d + a → shift b c (shift a d t) ≡ shift (a + b) d t
shift-shift a b d t c h g = sym (move-none b c (shift a d t)) ∙ move-shift none b c a d t h (omega arith) ∙ ap (λ (n : ℕ). shift n d t) (omega arith)

-- a move further out goes through a shift: at an index that both move, at one that the shift moves, under a binder, at a tree
under_high : (v : Option Tree) (k c s d i : ℕ) → d ≤ c → c + count v ≤ i → move v k (c + s) (var (i + s)) ≡ shift s d (move v k c (var i))
under_high v k c s d i h g =
    move_high v k (c + s) (i + s) (omega arith) ∙ ap var (omega arith) ∙ sym (shift_high s d (i - count v + k) (omega arith)) ∙
    ap (shift s d) (sym (move_high v k c i g))

under_var : (v : Option Tree) (k c s d i : ℕ) → d ≤ c → d ≤ i → Place i c → move v k (c + s) (var (i + s)) ≡ shift s d (move v k c (var i))
under_var v k c s d i h l (below q) = move_low v k (c + s) (i + s) (omega arith) ∙ sym (shift_high s d i l) ∙ ap (shift s d) (sym (move_low v k c i q))
under_var none k c s d i h l (here q) = under_high none k c s d i h (omega arith)
under_var (some v) k c s d i h l (here q) =
    move_here v k (c + s) (i + s) (omega arith) ∙ sym (shift-shift c s 0 v d (omega arith) (omega arith)) ∙ ap (shift s d) (sym (move_here v k c i q))
under_var none k c s d i h l (past q) = under_high none k c s d i h (omega arith)
under_var (some v) k c s d i h l (past q) = under_high (some v) k c s d i h (omega arith)

under_binder : (v : Option Tree) (k c s d : ℕ) (b : Tree) →
    move v k (suc c + s) (shift s (suc d) b) ≡ shift s (suc d) (move v k (suc c) b) →
    move v k (suc (c + s)) (shift s (suc d) b) ≡ shift s (suc d) (move v k (suc c) b)
under_binder v k c s d b e = ap (λ (n : ℕ). move v k n (shift s (suc d) b)) (omega arith) ∙ e

pub move_under : (v : Option Tree) (k c s d : ℕ) (t : Tree) → d ≤ c → move v k (c + s) (shift s d t) ≡ shift s d (move v k c t)
unfolding move shift
move_under v k c s d (var i) h = go (place i d)
  where
    from : d ≤ i → move v k (c + s) (shift s d (var i)) ≡ shift s d (move v k c (var i))
    from q = ap (move v k (c + s)) (shift_high s d i q) ∙ under_var v k c s d i h q (place i c)

    go : Place i d → move v k (c + s) (shift s d (var i)) ≡ shift s d (move v k c (var i))
    go (below q) =
        ap (move v k (c + s)) (shift_low s d i q) ∙ move_low v k (c + s) i (omega arith) ∙ sym (shift_low s d i q) ∙
        ap (shift s d) (sym (move_low v k c i (omega arith)))
    go (here q) = from (omega arith)
    go (past q) = from (omega arith)
move_under v k c s d (sort l) h = refl
move_under v k c s d (const e n) h = refl
move_under v k c s d (app f a) h = ap₂ app (move_under v k c s d f h) (move_under v k c s d a h)
move_under v k c s d (lam t b) h = ap₂ lam (move_under v k c s d t h) (under_binder v k c s d b (move_under v k (suc c) s (suc d) b (omega arith)))
move_under v k c s d (pi t b) h = ap₂ pi (move_under v k c s d t h) (under_binder v k c s d b (move_under v k (suc c) s (suc d) b (omega arith)))
move_under v k c s d (let' t w b) h =
    let_eq (move_under v k c s d t h) (move_under v k c s d w h) (under_binder v k c s d b (move_under v k (suc c) s (suc d) b (omega arith)))
move_under v k c s d (proj e i x) h = ap (proj e i) (move_under v k c s d x h)
move_under v k c s d (num n) h = refl

some_binder : (v : Tree) (k c : ℕ) (b : Tree) →
    move (some v) k (suc c) b ≡ subst (shift (suc c) 0 v) (suc c) (shift k (suc (suc c)) b) →
    move (some v) k (suc c) b ≡ subst (shift 1 0 (shift c 0 v)) (suc c) (shift k (suc (suc c)) b)
some_binder v k c b e =
    let up_one : shift (suc c) 0 v ≡ shift 1 0 (shift c 0 v) = ap (λ (n : ℕ). shift n 0 v) (omega arith) ∙ sym (shift-shift c 1 0 v 0 (omega arith) (omega arith)) in
    e ∙ ap (λ (w : Tree). subst w (suc c) (shift k (suc (suc c)) b)) up_one

-- with a value the move is the textbook's: what is above c goes up by k, then the value is put in at c
pub move_some : (v : Tree) (k c : ℕ) (t : Tree) → move (some v) k c t ≡ subst (shift c 0 v) c (shift k (suc c) t)
unfolding move subst shift
move_some v k c (var i) = go (place i c)
  where
    go : Place i c → move (some v) k c (var i) ≡ subst (shift c 0 v) c (shift k (suc c) (var i))
    go (below q) = move_low (some v) k c i q ∙ sym (subst_low (shift c 0 v) c i q) ∙ ap (subst (shift c 0 v) c) (sym (shift_low k (suc c) i (omega arith)))
    go (here q) = move_here v k c i q ∙ sym (subst_here (shift c 0 v) c i q) ∙ ap (subst (shift c 0 v) c) (sym (shift_low k (suc c) i (omega arith)))
    go (past q) =
        move_high (some v) k c i (omega arith) ∙ ap var (omega arith) ∙ sym (subst_past (shift c 0 v) c (i + k) (omega arith)) ∙
        ap (subst (shift c 0 v) c) (sym (shift_high k (suc c) i q))
move_some v k c (sort l) = refl
move_some v k c (const d n) = refl
move_some v k c (app f a) = ap₂ app (move_some v k c f) (move_some v k c a)
move_some v k c (lam t b) = ap₂ lam (move_some v k c t) (some_binder v k c b (move_some v k (suc c) b))
move_some v k c (pi t b) = ap₂ pi (move_some v k c t) (some_binder v k c b (move_some v k (suc c) b))
move_some v k c (let' t w b) = let_eq (move_some v k c t) (move_some v k c w) (some_binder v k c b (move_some v k (suc c) b))
move_some v k c (proj d i x) = ap (proj d i) (move_some v k c x)
move_some v k c (num n) = refl
