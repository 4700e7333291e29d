-- Laws of scope that inference needs beside those of safety: the type and the body of a lambda or a pi, a body moved under its binder, a row at the end.
-- Assumes that every row passes. The moved body rests on the read-out: a pointer's bound is its tree's loose bound, and a shift's is known.
use Rattle.std.specs.Prelude.{ℕ, zero, suc, ◌+◌, ◌≤◌, ◌<◌, pred, max, ◌≡◌, refl, [], length}
use Rattle.std.proofs.Common.{arith, ap}
use Rattle.std.proofs.Math.Option.{none, some}
use Rattle.rules.specs.Kinds.{lam, pi, table, fields}
use Rattle.rules.specs.Rows.{Ptr, Row, node, Cell, Store, cell_at, bound_on, bound, up, field_bound, cell, Got, put}
use Rattle.rules.specs.RowCheck.{InScope}
use Rattle.rules.specs.Replacement.{Replaces}
use Rattle.rules.specs.Spines.{joined}
use Rattle.rules.specs.Firings.{opened, by_replacement, Due}
use Rattle.rules.specs.ReadOut.{Tree, shift}
use Rattle.substitution.specs.Places.{Place, below, here, past, place}
use Rattle.substitution.specs.Trees.{loose}
use Rattle.substitution.specs.Bounds.{loose-shift, bound_is_loose}
use Rattle.substitution.specs.Stores.{first_ok, second_ok, term_child, body_child, Formed, put_good, end_cell}
use Rattle.substitution.specs.Reading.{reads_exists}
use Rattle.substitution.specs.Replacing.{replace_none_reads}
use Rattle.safety.specs.Scope.{up_in, RowIn, BodyIn, none_in, opened_in, due_in}

-- a row's bound n, shifted k, has room for each child's share m of it
shared : (n m k d : ℕ) → bound_on n k ≤ d → m ≤ n → 0 < m → m + k ≤ d
shared zero m k d h l z = absurd (omega arith)
shared (suc n) m k d h l z = omega arith

lambda_bound : (s : Store) (x y z : Ptr) → (cell s (node lam x y z)).bound ≡ max (max (bound s x) (pred (bound s y))) 0
unfolding cell field_bound fields table
lambda_bound s x y z = refl

pub pi-bound : (s : Store) (x y z : Ptr) → (cell s (node pi x y z)).bound ≡ max (max (bound s x) (pred (bound s y))) 0
unfolding cell field_bound fields table
pi-bound s x y z = refl

module _ {D : ℕ} {s : Store} {d k : ℕ} {x y z : Ptr} where
  pub lambda_type_in : RowIn D s d k (node lam x y z) → InScope s d (up s x k)
  unfolding fields table
  lambda_type_in r =
      up_in k (term_child (first_ok r.fields))
      (λ h. shared (cell s (node lam x y z)).bound (bound s x) k d r.within (omega (arith, lambda_bound s x y z)) h)

  pub pi_type_in : RowIn D s d k (node pi x y z) → InScope s d (up s x k)
  unfolding fields table
  pi_type_in r =
      up_in k (term_child (first_ok r.fields))
      (λ h. shared (cell s (node pi x y z)).bound (bound s x) k d r.within (omega (arith, pi-bound s x y z)) h)

  pub pi_body_in : RowIn D s d k (node pi x y z) → BodyIn s d k y
  unfolding fields table
  pi_body_in r = record {
    good = body_child (second_ok r.fields);
    within = λ h. omega (arith, shared (cell s (node pi x y z)).bound (pred (bound s y)) k d r.within (omega (arith, pi-bound s x y z)) (omega arith));
  }

-- a value replaced into a body
pub opened_scope : {s : Store} {d k : ℕ} {b v : Ptr} {g : Got} → Formed s → BodyIn s d k b → InScope s d v → Replaces (some v) k 0 s b g →
    InScope g.store d g.at
unfolding joined
opened_scope {s} {d} {k} {b} {v} {g} f i j q = due_in {D = 0} f (opened_in i j) none_in due
  where
    due : Due s (opened b v k) [] g
    due = record { result = g; gives = by_replacement q; applied = refl }

-- a body under its binder, as it stands ..
pub standing_scope : {s : Store} {d : ℕ} {b : Ptr} → BodyIn s d 0 b → InScope s (suc d) b
standing_scope {s} {d} {b} i = record { there = i.good.lower; still = i.good.still; within = go (place 1 (bound s b)) }
  where
    go : Place 1 (bound s b) → bound s b ≤ suc d
    go (below h) = omega (arith, i.within h)
    go (here h) = omega arith
    go (past h) = omega arith

-- .. and moved by the binder's shift
pub moved_scope : {s : Store} {d k : ℕ} {b : Ptr} {g : Got} → Formed s → BodyIn s d k b → Replaces none k 1 s b g → InScope g.store (suc d) g.at
moved_scope {s} {d} {k} {b} {g} f i q =
    let t = reads_exists f i.good in
    let r = replace_none_reads f i.good t.reads q in
    let was = bound_is_loose f i.good t.reads in
    let is = bound_is_loose r.formed r.good r.reads in
    record { there = r.good.lower; still = r.good.still; within = omega (arith, is, go t.tree was (place 1 (loose t.tree))) }
  where
    go : (u : Tree) → loose u ≡ bound s b → Place 1 (loose u) → loose (shift k 1 u) ≤ suc d
    go u was (below h) = omega (arith, (loose-shift k 1 u).high h, i.within (omega arith))
    go u was (here h) = omega (arith, (loose-shift k 1 u).low (omega arith))
    go u was (past h) = omega (arith, (loose-shift k 1 u).low (omega arith))

-- a row at the end
pub put_scope : (s : Store) (w : Row) (d : ℕ) → (cell s w).bound ≤ d → InScope (put s w).store d (put s w).at
put_scope s w d h =
    let g = put_good s w in
    record { there = g.lower; still = g.still; within = omega (arith, h, on (cell s w).bound (ap (λ (c : Cell). c.bound) (end_cell s (cell s w)))) }
  where
    on : (n : ℕ) → (cell_at (put s w).store (length s)).bound ≡ n → bound (put s w).store (put s w).at ≤ n
    on zero q = omega (arith, ap (λ (b : ℕ). bound_on b 0) q)
    on (suc n) q = omega (arith, ap (λ (b : ℕ). bound_on b 0) q)
