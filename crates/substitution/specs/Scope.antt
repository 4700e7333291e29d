-- Firings keep scope: a term whose bound is at most the depth leads to a term whose bound is.
-- By the recorded bound's being the tree's loose bound, it is a law of trees: substitution of a value in scope keeps scope.
-- Assumes a formed store, the term in scope, and for a context value that its own scope ends where its record stands.
use Rattle.std.specs.Prelude.{ℕ, suc, ◌+◌, ◌-◌, ◌≤◌, ◌<◌, pred, max, List, [], ◌∷◌}
use Rattle.std.proofs.Math.Decide.{dec_le}
use Rattle.std.proofs.Common.{arith, sym, subst as along}
use Rattle.rules.specs.Rows.{Ptr, Store, Got}
use Rattle.rules.specs.RowCheck.{InScope}
use Rattle.rules.specs.ReadOut.{Tree, var, sort, const, app, lam, pi, let', proj, num, shift, subst, Reads}
use Rattle.substitution.specs.Places.{Place, below, here, past, place}
use Rattle.substitution.specs.Trees.{loose, subst_low, subst_here, subst_past}
use Rattle.substitution.specs.Stores.{Formed, Good, scope_good}
use Rattle.substitution.specs.Bounds.{loose-shift, bound_is_loose}
use Rattle.substitution.specs.Replacing.{Replaced}
use Rattle.substitution.specs.Applied.{apply}
use Rattle.substitution.specs.Fired.{Beta, Zeta, Unfolds}

-- OF TREES

pub shift_scope : (k c d : ℕ) (t : Tree) → loose t ≤ d → loose (shift k c t) ≤ d + k
shift_scope k c d t h = go (dec_le (loose t) c)
  where
    go : Dec (loose t ≤ c) → loose (shift k c t) ≤ d + k
    go (yes q) = omega (arith, (loose-shift k c t).low q)
    go (no q) = omega (arith, (loose-shift k c t).high (omega arith))

subst_var_scope : (v : Tree) (c d i : ℕ) → c ≤ d → loose v ≤ d → i ≤ d → Place i c → loose (subst v c (var i)) ≤ d
unfolding loose
subst_var_scope v c d i l h g (below q) = along (λ (t : Tree). loose t ≤ d) (sym (subst_low v c i q)) (omega arith)
subst_var_scope v c d i l h g (here q) = along (λ (t : Tree). loose t ≤ d) (sym (subst_here v c i q)) h
subst_var_scope v c d i l h g (past q) = along (λ (t : Tree). loose t ≤ d) (sym (subst_past v c i q)) (omega arith)

-- the value goes up by one under a binder
up_scope : (v : Tree) (d : ℕ) → loose v ≤ d → loose (shift 1 0 v) ≤ suc d
up_scope v d h = omega (arith, shift_scope 1 0 d v h)

pub subst_scope : (v : Tree) (c d : ℕ) (t : Tree) → c ≤ d → loose v ≤ d → loose t ≤ suc d → loose (subst v c t) ≤ d
unfolding subst loose
subst_scope v c d (var i) l h g = subst_var_scope v c d i l h (omega arith) (place i c)
subst_scope v c d (sort n) l h g = omega arith
subst_scope v c d (const e n) l h g = omega arith
subst_scope v c d (app f a) l h g = omega (arith, subst_scope v c d f l h (omega arith), subst_scope v c d a l h (omega arith))
subst_scope v c d (lam t b) l h g =
    omega (arith, subst_scope v c d t l h (omega arith), subst_scope (shift 1 0 v) (suc c) (suc d) b (omega arith) (up_scope v d h) (omega arith))
subst_scope v c d (pi t b) l h g =
    omega (arith, subst_scope v c d t l h (omega arith), subst_scope (shift 1 0 v) (suc c) (suc d) b (omega arith) (up_scope v d h) (omega arith))
subst_scope v c d (let' t w b) l h g =
    let first = subst_scope v c d t l h (omega arith) in
    let second = subst_scope v c d w l h (omega arith) in
    omega (arith, first, second, subst_scope (shift 1 0 v) (suc c) (suc d) b (omega arith) (up_scope v d h) (omega arith))
subst_scope v c d (proj e i x) l h g = subst_scope v c d x l h g
subst_scope v c d (num n) l h g = omega arith

-- a head in scope for another, under the same arguments
head_scope : (t : Tree) (us : List Tree) (d : ℕ) → loose (apply t us) ≤ d → loose t ≤ d
unfolding apply loose
head_scope t [] d h = h
head_scope t (u ∷ us) d h = let q : max (loose t) (loose u) ≤ d = head_scope (app t u) us d h in omega arith

swap_scope : (t t' : Tree) (us : List Tree) (d : ℕ) → loose (apply t us) ≤ d → loose t' ≤ d → loose (apply t' us) ≤ d
unfolding apply loose
swap_scope t t' [] d h g = g
swap_scope t t' (u ∷ us) d h g =
    let q : max (loose t) (loose u) ≤ d = head_scope (app t u) us d h in
    swap_scope (app t u) (app t' u) us d h (omega arith)

-- OF POINTERS

pub scope_loose : {s : Store} {d : ℕ} {p : Ptr} {t : Tree} → Formed s → InScope s d p → Reads s p t → loose t ≤ d
scope_loose f i r = omega (arith, i.within, bound_is_loose f (scope_good i) r)

pub loose_scope : {s : Store} {d : ℕ} {p : Ptr} {t : Tree} → Formed s → Good s p → Reads s p t → loose t ≤ d → InScope s d p
loose_scope f o r h = record { there = o.lower; still = o.still; within = omega (arith, h, bound_is_loose f o r) }

replaced_scope : {s : Store} {g : Got} {t : Tree} (d : ℕ) → Replaced s g t → loose t ≤ d → InScope g.store d g.at
replaced_scope d x h = loose_scope x.formed x.good x.reads h

-- OF FIRINGS

pub beta_scope : {s : Store} {d : ℕ} {t : Ptr} {g : Got} → Formed s → InScope s d t → Beta s t g → InScope g.store d g.at
unfolding loose
beta_scope {d = d} f i b =
    let head : Tree = app (lam b.type b.body) b.argument in
    let whole = scope_loose f i b.before in
    let parts : max (max (loose b.type) (pred (loose b.body))) (loose b.argument) ≤ d = head_scope head b.rest d whole in
    let opened = subst_scope b.argument 0 d b.body (omega arith) (omega arith) (omega arith) in
    replaced_scope d b.after (swap_scope head (subst b.argument 0 b.body) b.rest d whole opened)

pub zeta_scope : {s : Store} {d : ℕ} {t : Ptr} {g : Got} → Formed s → InScope s d t → Zeta s t g → InScope g.store d g.at
unfolding loose
zeta_scope {d = d} f i b =
    let head : Tree = let' b.type b.value b.body in
    let whole = scope_loose f i b.before in
    let parts : max (max (loose b.type) (loose b.value)) (pred (loose b.body)) ≤ d = head_scope head b.rest d whole in
    let opened = subst_scope b.value 0 d b.body (omega arith) (omega arith) (omega arith) in
    replaced_scope d b.after (swap_scope head (subst b.value 0 b.body) b.rest d whole opened)

pub unfolds_scope : {s s₁ : Store} {d : ℕ} {t : Ptr} {g : Got} {head value : Tree} → Formed s → InScope s d t → loose value ≤ d → Unfolds s t head s₁ g value →
    InScope g.store d g.at
unfolds_scope {d = d} {head = head} {value = value} f i h b = replaced_scope d b.after (swap_scope head value b.rest d (scope_loose f i b.before) h)

-- a context value of variable i: "bound at most the record's position", which is the depth less i + 1
pub value_scope : (i d : ℕ) (value : Tree) → i < d → loose value ≤ d - suc i → loose (shift (suc i) 0 value) ≤ d
value_scope i d value h g = omega (arith, shift_scope (suc i) 0 (d - suc i) value g)
