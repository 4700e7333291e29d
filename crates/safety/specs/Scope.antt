-- Laws of scope: a pointer shifted up, a row's children shifted with it, a head and its arguments, what a firing writes.
-- Assumes that every row passes. The last rests on the read-out: a pointer's bound is its tree's loose bound, and a substitution's is known.
use Rattle.std.specs.Prelude.{ℕ, zero, suc, ◌+◌, ◌-◌, ◌≤◌, ◌<◌, pred, max, ◌≡◌, refl, List, [], ◌∷◌, ◌++◌, length, take, drop}
use Rattle.std.proofs.Common.{arith, ap, subst as along}
use Rattle.rules.specs.Kinds.{app, lam, let', proj, table, fields}
use Rattle.rules.specs.Rows.{Ptr, Row, node, Cell, Store, cell_at, row_at, bound_on, bound, up_on, up, field_bound, cell, Got}
use Rattle.rules.specs.RowCheck.{AllPass, InScope}
use Rattle.rules.specs.Spines.{Spine, head, through}
use Rattle.rules.specs.Firings.{Result, opened, itself, a_number, a_constant, Due}
use Rattle.rules.specs.ReadOut.{Reads, Tree, var, sort, const, num, shift, subst}
use Rattle.rules.specs.ReadOut as T
use Rattle.substitution.specs.Places.{Place, below, here, past, place}
use Rattle.substitution.specs.Trees.{loose, subst_low, subst_here, subst_past}
use Rattle.substitution.specs.Bounds.{loose-shift, bound_is_loose}
use Rattle.substitution.specs.Stores.{FieldsOk, first_ok, second_ok, third_ok, term_child, body_child, Formed, Good, good_fields, scope_good, Ext, up_child}
use Rattle.substitution.specs.Reading.{reads_exists}
use Rattle.substitution.specs.Passing.{Worded, pass_formed, pass_worded}
use Rattle.substitution.specs.Applied.{apply, ReadAll, none_left, and_then, AllGood, no_more, and_good}
use Rattle.substitution.specs.Fired.{ResultReads, opened_reads, itself_reads, number_reads, constant_reads, due_reads}
use Rattle.substitution.specs.Dues.{ResultGood, opened_good, itself_good, number_good, constant_good}
use Rattle.safety.specs.Sane.{in_later}

-- ARGUMENTS

pub data AllIn (s : Store) (d : ℕ) : List Ptr → Type 0 where
  none_in : AllIn s d []
  and_in : {x : Ptr} {xs : List Ptr} → InScope s d x → AllIn s d xs → AllIn s d (x ∷ xs)

pub all_later : {s s' : Store} {d : ℕ} {xs : List Ptr} → Ext s s' → AllIn s d xs → AllIn s' d xs
all_later x none_in = none_in
all_later x (and_in h hs) = and_in (in_later x h) (all_later x hs)

pub take_in : {s : Store} {d : ℕ} {xs : List Ptr} (n : ℕ) → AllIn s d xs → AllIn s d (take n xs)
take_in zero h = none_in
take_in (suc n) none_in = none_in
take_in (suc n) (and_in h hs) = and_in h (take_in n hs)

pub drop_in : {s : Store} {d : ℕ} {xs : List Ptr} (n : ℕ) → AllIn s d xs → AllIn s d (drop n xs)
drop_in zero h = h
drop_in (suc n) none_in = none_in
drop_in (suc n) (and_in h hs) = drop_in n hs

pub append_in : {s : Store} {d : ℕ} {xs ys : List Ptr} → AllIn s d xs → AllIn s d ys → AllIn s d (xs ++ ys)
append_in none_in k = k
append_in (and_in h hs) k = and_in h (append_in hs k)

pub all_good : {s : Store} {d : ℕ} {xs : List Ptr} → AllIn s d xs → AllGood s xs
all_good none_in = no_more
all_good (and_in h hs) = and_good (scope_good h) (all_good hs)

-- A POINTER SHIFTED UP

-- a closed pointer stays as it is, so only an open one needs the room
pub up_in : {s : Store} {d : ℕ} {p : Ptr} (k : ℕ) → Good s p → (0 < bound s p → bound s p + k ≤ d) → InScope s d (up s p k)
up_in {s} {d} {p} k o h =
    let u = up_child k o in record { there = u.lower; still = u.still; within = go (cell_at s p.row).bound refl h }
  where
    go : (b : ℕ) → (cell_at s p.row).bound ≡ b → (0 < bound_on b p.shift → bound_on b p.shift + k ≤ d) → bound s (up_on b p k) ≤ d
    go zero e h = omega (arith, ap (λ (n : ℕ). bound_on n p.shift) e)
    go (suc b) e h = omega (arith, ap (λ (n : ℕ). bound_on n (p.shift + k)) e, h (omega arith))

-- a context value of variable i, brought to where the variable stands
pub value_in : {s : Store} {d : ℕ} {v : Ptr} (i : ℕ) → InScope s (d - suc i) v → InScope s d (up s v (suc i))
value_in i h = up_in (suc i) (scope_good h) (λ z. omega (arith, h.within))

-- A ROW AND ITS CHILDREN

-- row w under the shift k of a pointer in scope at d
pub record RowIn (D : ℕ) (s : Store) (d k : ℕ) (w : Row) : Type 0 where
  pub fields : FieldsOk s (length s) w
  pub words : Worded D w
  pub within : bound_on (cell s w).bound k ≤ d

pub row_in : {D : ℕ} {s : Store} {d : ℕ} {p : Ptr} → AllPass D s → InScope s d p → RowIn D s d p.shift (row_at s p.row)
row_in {p = p} a i = record {
  fields = good_fields (pass_formed a) (scope_good i);
  words = (pass_worded a).each p.row;
  within = omega (arith, i.within, ap (λ (c : Cell). bound_on c.bound p.shift) (a.each p.row i.there).exact);
}

-- a body under a binder that is shifted k: what is loose beside the binder's own index goes up by k and stays in scope
pub record BodyIn (s : Store) (d k : ℕ) (b : Ptr) : Type 0 where
  pub good : Good s b
  pub within : 1 < bound s b → bound s b + k ≤ suc d

-- a row's bound n, shifted k, has room for each child's share m of it
shared : (n m k d : ℕ) → bound_on n k ≤ d → m ≤ n → 0 < m → m + k ≤ d
shared zero m k d h l z = absurd (omega arith)
shared (suc n) m k d h l z = omega arith

lambda_bound : (s : Store) (x y z : Ptr) → (cell s (node lam x y z)).bound ≡ max (max (bound s x) (pred (bound s y))) 0
unfolding cell field_bound fields table
lambda_bound s x y z = refl

let_bound : (s : Store) (x y z : Ptr) → (cell s (node let' x y z)).bound ≡ max (max (bound s x) (bound s y)) (pred (bound s z))
unfolding cell field_bound fields table
let_bound s x y z = refl

module _ {D : ℕ} {s : Store} {d k : ℕ} {x y z : Ptr} where
  pub function_in : RowIn D s d k (node app x y z) → InScope s d (up s x k)
  unfolding cell field_bound fields table
  function_in r = up_in k (term_child (first_ok r.fields)) (λ h. shared (cell s (node app x y z)).bound (bound s x) k d r.within (omega arith) h)

  pub argument_in : RowIn D s d k (node app x y z) → InScope s d (up s y k)
  unfolding cell field_bound fields table
  argument_in r = up_in k (term_child (second_ok r.fields)) (λ h. shared (cell s (node app x y z)).bound (bound s y) k d r.within (omega arith) h)

  pub lambda_body_in : RowIn D s d k (node lam x y z) → BodyIn s d k y
  unfolding fields table
  lambda_body_in r = record {
    good = body_child (second_ok r.fields);
    within = λ h. omega (arith, shared (cell s (node lam x y z)).bound (pred (bound s y)) k d r.within (omega (arith, lambda_bound s x y z)) (omega arith));
  }

  pub let_value_in : RowIn D s d k (node let' x y z) → InScope s d (up s y k)
  unfolding cell field_bound fields table
  let_value_in r = up_in k (term_child (second_ok r.fields)) (λ h. shared (cell s (node let' x y z)).bound (bound s y) k d r.within (omega arith) h)

  pub let_body_in : RowIn D s d k (node let' x y z) → BodyIn s d k z
  unfolding fields table
  let_body_in r = record {
    good = body_child (third_ok r.fields);
    within = λ h. omega (arith, shared (cell s (node let' x y z)).bound (pred (bound s z)) k d r.within (omega (arith, let_bound s x y z)) (omega arith));
  }

  pub structure_in : {c i : ℕ} → RowIn D s d k (node (proj c i) x y z) → InScope s d (up s x k)
  unfolding cell field_bound fields table
  structure_in {c} {i} r =
      up_in k (term_child (first_ok r.fields)) (λ h. shared (cell s (node (proj c i) x y z)).bound (bound s x) k d r.within (omega arith) h)

-- DOWN A SPINE

pub record SpineIn (s : Store) (d : ℕ) (h : Ptr) (ys : List Ptr) : Type 0 where
  pub head : InScope s d h
  pub arguments : AllIn s d ys

pub spine_in : {D : ℕ} {s : Store} {d : ℕ} {p h : Ptr} {xs ys : List Ptr} →
    AllPass D s → InScope s d p → AllIn s d xs → Spine s p xs h ys → SpineIn s d h ys
spine_in a i q (head n) = record { head = i; arguments = q }
spine_in {D} {s} {d} {p} a i q (through e c) =
    let r = along (RowIn D s d p.shift) e (row_in a i) in
    spine_in a (function_in r) (and_in (argument_in r) q) c

-- LOOSE BOUNDS OF TREES

shift-loose : (k c : ℕ) (t : Tree) → loose (shift k c t) ≤ loose t + k
shift-loose k c t = go (place (loose t) c)
  where
    go : Place (loose t) c → loose (shift k c t) ≤ loose t + k
    go (below h) = omega (arith, (loose-shift k c t).low (omega arith))
    go (here h) = omega (arith, (loose-shift k c t).low (omega arith))
    go (past h) = omega (arith, (loose-shift k c t).high h)

-- under a binder
shifted_low : {n : ℕ} (u : Tree) → loose u ≤ n → loose (shift 1 0 u) ≤ suc n
shifted_low u g = omega (arith, shift-loose 1 0 u)

subst-loose : (u : Tree) (c n : ℕ) (t : Tree) → c ≤ n → loose t ≤ suc n → loose u ≤ n → loose (subst u c t) ≤ n
unfolding loose subst
subst-loose u c n (var i) l h g = go (place i c)
  where
    go : Place i c → loose (subst u c (var i)) ≤ n
    go (below q) = omega (arith, ap loose (subst_low u c i q))
    go (here q) = omega (arith, ap loose (subst_here u c i q))
    go (past q) = omega (arith, ap loose (subst_past u c i q))
subst-loose u c n (sort v) l h g = omega arith
subst-loose u c n (const e v) l h g = omega arith
subst-loose u c n (T.app f a) l h g = omega (arith, subst-loose u c n f l (omega arith) g, subst-loose u c n a l (omega arith) g)
subst-loose u c n (T.lam t b) l h g =
    omega (arith, subst-loose u c n t l (omega arith) g, subst-loose (shift 1 0 u) (suc c) (suc n) b (omega arith) (omega arith) (shifted_low u g))
subst-loose u c n (T.pi t b) l h g =
    omega (arith, subst-loose u c n t l (omega arith) g, subst-loose (shift 1 0 u) (suc c) (suc n) b (omega arith) (omega arith) (shifted_low u g))
subst-loose u c n (T.let' t v b) l h g =
    let type = subst-loose u c n t l (omega arith) g in
    let value = subst-loose u c n v l (omega arith) g in
    omega (arith, type, value, subst-loose (shift 1 0 u) (suc c) (suc n) b (omega arith) (omega arith) (shifted_low u g))
subst-loose u c n (T.proj e i x) l h g = subst-loose u c n x l h g
subst-loose u c n (num v) l h g = omega arith

-- a body opened: the value goes in for the binder's own index
opened_loose : (u t : Tree) (k n : ℕ) → (1 < loose t → loose t + k ≤ suc n) → loose u ≤ n → loose (subst u 0 (shift k 1 t)) ≤ n
opened_loose u t k n h g = subst-loose u 0 n (shift k 1 t) (omega arith) (go (place 1 (loose t))) g
  where
    go : Place 1 (loose t) → loose (shift k 1 t) ≤ suc n
    go (below q) = omega (arith, (loose-shift k 1 t).high q, h q)
    go (here q) = omega (arith, (loose-shift k 1 t).low (omega arith))
    go (past q) = omega (arith, (loose-shift k 1 t).low (omega arith))

data AllLow (n : ℕ) : List Tree → Type 0 where
  none_low : AllLow n []
  and_low : {u : Tree} {us : List Tree} → loose u ≤ n → AllLow n us → AllLow n (u ∷ us)

apply-loose : {n : ℕ} {us : List Tree} (t : Tree) → loose t ≤ n → AllLow n us → loose (apply t us) ≤ n
unfolding apply loose
apply-loose t h none_low = h
apply-loose t h (and_low {u = u} l ls) = apply-loose (T.app t u) (omega arith) ls

-- WHAT A FIRING WRITES

pub data ResultIn (D : ℕ) (s : Store) (d : ℕ) : Result → Type 0 where
  opened_in : {b v : Ptr} {k : ℕ} → BodyIn s d k b → InScope s d v → ResultIn D s d (opened b v k)
  itself_in : {p : Ptr} → InScope s d p → ResultIn D s d (itself p)
  number_in : {n : ℕ} → ResultIn D s d (a_number n)
  constant_in : {c : ℕ} → c < D → ResultIn D s d (a_constant c)

pub result_good : {D : ℕ} {s : Store} {d : ℕ} {r : Result} → ResultIn D s d r → ResultGood D s r
result_good (opened_in b v) = opened_good b.good (scope_good v)
result_good (itself_in p) = itself_good (scope_good p)
result_good number_in = number_good
result_good (constant_in h) = constant_good h

-- a pointer in scope reads as a tree that has no loose index from the depth on
in_low : {s : Store} {d : ℕ} {p : Ptr} {t : Tree} → Formed s → InScope s d p → Reads s p t → loose t ≤ d
in_low f i r = omega (arith, bound_is_loose f (scope_good i) r, i.within)

body_low : {s : Store} {d k : ℕ} {b : Ptr} {t : Tree} → Formed s → BodyIn s d k b → Reads s b t → 1 < loose t → loose t + k ≤ suc d
body_low f b r h = let same = bound_is_loose f b.good r in omega (arith, same, b.within (omega arith))

record ReadLow (s : Store) (d : ℕ) (r : Result) : Type 0 where
  tree : Tree
  reads : ResultReads s r tree
  low : loose tree ≤ d

result_low : {D : ℕ} {s : Store} {d : ℕ} {r : Result} → Formed s → ResultIn D s d r → ReadLow s d r
unfolding loose
result_low {d = d} f (opened_in {k = k} b v) =
    let t = reads_exists f b.good in
    let u = reads_exists f (scope_good v) in
    record {
      tree = subst u.tree 0 (shift k 1 t.tree);
      reads = opened_reads (record { base = t.tree; good = b.good; reads = t.reads; is = refl }) (scope_good v) u.reads refl;
      low = opened_loose u.tree t.tree k d (body_low f b t.reads) (in_low f v u.reads);
    }
result_low f (itself_in i) =
    let r = reads_exists f (scope_good i) in
    record { tree = r.tree; reads = itself_reads (scope_good i) r.reads; low = in_low f i r.reads }
result_low f (number_in {n = n}) = record { tree = num n; reads = number_reads; low = omega arith }
result_low f (constant_in {c = c} h) = record { tree = const c 0; reads = constant_reads; low = omega arith }

record AllReadLow (s : Store) (d : ℕ) (xs : List Ptr) : Type 0 where
  trees : List Tree
  reads : ReadAll s xs trees
  low : AllLow d trees

all_low : {s : Store} {d : ℕ} {xs : List Ptr} → Formed s → AllIn s d xs → AllReadLow s d xs
all_low f none_in = record { trees = []; reads = none_left; low = none_low }
all_low f (and_in i is) =
    let r = reads_exists f (scope_good i) in
    let c = all_low f is in
    record { trees = r.tree ∷ c.trees; reads = and_then (scope_good i) r.reads c.reads; low = and_low {u = r.tree} (in_low f i r.reads) c.low }

pub due_in : {D : ℕ} {s : Store} {d : ℕ} {r : Result} {xs : List Ptr} {g : Got} →
    Formed s → ResultIn D s d r → AllIn s d xs → Due s r xs g → InScope g.store d g.at
due_in f i is q =
    let r = result_low f i in
    let c = all_low f is in
    let x = due_reads f r.reads c.reads q in
    record {
      there = x.good.lower;
      still = x.good.still;
      within = omega (arith, bound_is_loose x.formed x.good x.reads, apply-loose r.tree r.low c.low);
    }
