-- Pointers and values: what the clauses say of them is what the rules say, and it goes by the rows below a number alone.
-- Assumes nothing.
use Prim.Native.Nat.{ℕ, zero, suc, ◌≤◌, ◌<◌}
use native.Mathlib.Omega.{arith}
use mathlib.Core.Path.{◌≡◌, refl, sym, ap, subst, ◌∙◌}
use mathlib.Core.Option.{Option, none, some}
use lib.ListN.{length}
use Rattle.rules.specs.Rows.{Ptr, ptr, Cell, Store, cell_at, bound_on}
use Rattle.rules.specs.RowCheck.{InScope}
use Rattle.rules.specs.Accepted.{Closed, IsValue, absent, present}
use Rattle.tables.specs.Env.{value_by}
use Rattle.tables.specs.Clauses.{Scoped, ValueRight, no_value, a_value}
use Rattle.tables.proofs.Listed.{some_same}

-- CLOSED TERMS are those in scope at depth 0

no_bound : (b k : ℕ) → bound_on b k ≤ 0 → b ≡ 0
no_bound zero k h = refl
no_bound (suc b) k h = absurd (omega arith)

pub to_closed : {s : Store} {L : ℕ} {p : Ptr} → Scoped s L 0 p → Closed s L p
to_closed {s} {L} {p} h =
    let none : (cell_at s p.row).bound ≡ 0 = no_bound _ p.shift h.within in
    record { there = h.there; closed = none; still = h.still none }

pub from_closed : {s : Store} {L : ℕ} {p : Ptr} → Closed s L p → Scoped s L 0 p
from_closed {p = p} c = record {
  there = c.there;
  still = λ _. c.still;
  within = omega (arith, ap (λ (b : ℕ). bound_on b p.shift) c.closed);
}

-- TERMS IN SCOPE are those at a row of the store

pub to_scope : {s : Store} {rows d : ℕ} {p : Ptr} → rows ≡ length s → Scoped s rows d p → InScope s d p
to_scope e h = record { there = omega (arith, h.there); still = h.still; within = h.within }

pub from_scope : {s : Store} {rows d : ℕ} {p : Ptr} → rows ≡ length s → InScope s d p → Scoped s rows d p
from_scope e h = record { there = omega (arith, h.there); still = h.still; within = h.within }

-- VALUES, as the rules read them

module _ {s : Store} {rows d : ℕ} {p : Ptr} where
  pub to_value : {flag : ℕ} → ValueRight s rows d p flag → IsValue flag p.row p.shift (value_by flag p)
  unfolding value_by
  to_value (no_value e) = subst (λ (q : Ptr). IsValue 0 q.row q.shift none) (sym e) absent
  to_value (a_value h) = present

  pub value_is : {flag : ℕ} → ValueRight s rows d p flag → (v : Ptr) → value_by flag p ≡ some v → Scoped s rows d v
  unfolding value_by
  value_is (no_value e) v q = cc
  value_is (a_value h) v q = subst (Scoped s rows d) (some_same q) h

pub from_value : {s : Store} {rows d flag r k : ℕ} {o : Option Ptr} → IsValue flag r k o → ((v : Ptr) → o ≡ some v → Scoped s rows d v) →
    ValueRight s rows d (ptr r k) flag
from_value absent h = no_value refl
from_value present h = a_value (h _ refl)

-- TWO STORES that agree on the rows below a number

module _ {s t : Store} {rows : ℕ} (agree : (r : ℕ) → r < rows → cell_at s r ≡ cell_at t r) where
  pub scoped_agrees : {d : ℕ} {p : Ptr} → Scoped s rows d p → Scoped t rows d p
  scoped_agrees {d} {p} h =
      let same : cell_at s p.row ≡ cell_at t p.row = agree p.row h.there in
      record {
        there = h.there;
        still = λ e. h.still (ap (λ (x : Cell). x.bound) same ∙ e);
        within = subst (λ (x : Cell). bound_on x.bound p.shift ≤ d) same h.within;
      }

  pub value_agrees : {d flag : ℕ} {p : Ptr} → ValueRight s rows d p flag → ValueRight t rows d p flag
  value_agrees (no_value e) = no_value e
  value_agrees (a_value h) = a_value (scoped_agrees h)
