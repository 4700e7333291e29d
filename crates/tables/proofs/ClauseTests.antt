-- What a pointer's and a value's clause answer, from the tests that lead to it, on plain values.
-- Assumes nothing.
use Prim.Native.Nat.{ℕ, ◌+◌, ◌<◌}
use native.Mathlib.Omega.{arith}
use mathlib.Core.Path.{◌≡◌, sym, ap, subst, ◌∙◌}
use mathlib.Core.Bool.{Bool}
use mathlib.Core.List.{List}
use lib.Dec.{eqb, leb}
use lib.ListN.{get_or}
use Rattle.rules.specs.Rows.{Ptr, ptr, blank, Store, cell_at}
use Rattle.rows.specs.Words.{words_at, whole}
use Rattle.rows.specs.Checks.{Says}
use Rattle.rows.proofs.Answers.{says_same, says_equal, says_at_most}
use Rattle.rows.proofs.Lookup.{bound_read, closed_bound, open_bound}
use Rattle.tables.specs.Clauses.{Rows, Scoped, ValueRight, no_value, a_value}

-- POINTERS

-- the bound that is read of a row
pub bound_there : (l sc : List ℕ) (rows : ℕ) → Rows l sc rows → (n : ℕ) → n < rows →
    (ws : List ℕ) → ws ≡ words_at l sc n → (b : ℕ) → b ≡ get_or ws 7 0 → (cell_at (whole l sc) n).bound ≡ b
bound_there l sc rows r n h ws read =
    bound_read l sc n (record { whole_library = r.whole_library; whole_scratch = r.whole_scratch; there = omega (arith, r.room) }) ws read

module _ (s : Store) (rows depth : ℕ) (p : Ptr) (b : ℕ) (is_bound : (cell_at s p.row).bound ≡ b) (there : p.row < rows) where
  pub closed_scoped : b ≡ 0 → Says (Scoped s rows depth p) (eqb p.shift 0)
  closed_scoped e =
      says_same (λ still. record { there = there; still = λ _. still; within = omega (arith, closed_bound s p b is_bound e) })
      (λ h. h.still (is_bound ∙ e)) (says_equal p.shift 0)

  pub open_scoped : (b ≡ 0 → ⊥) → Says (Scoped s rows depth p) (leb (b + p.shift) depth)
  open_scoped ne =
      let bound_is = open_bound s p b is_bound ne in
      says_same (λ small. record { there = there; still = λ e. absurd (ne (sym is_bound ∙ e)); within = omega (arith, bound_is) })
      (λ h. omega (arith, h.within, bound_is)) (says_at_most (b + p.shift) depth)

-- VALUES, by the flag

module _ (s : Store) (rows depth : ℕ) (p : Ptr) where
  value_blank : {flag : ℕ} → ValueRight s rows depth p flag → flag ≡ 0 → p ≡ blank
  value_blank (no_value e) z = e
  value_blank (a_value h) z = absurd (omega arith)

  value_scoped : {flag : ℕ} → ValueRight s rows depth p flag → flag ≡ 1 → Scoped s rows depth p
  value_scoped (no_value e) z = absurd (omega arith)
  value_scoped (a_value h) z = h

  pub given_value : (flag : ℕ) {b : Bool} → flag ≡ 1 → Says (Scoped s rows depth p) b → Says (ValueRight s rows depth p flag) b
  given_value flag e = says_same (λ h. subst (ValueRight s rows depth p) (sym e) (a_value h)) (λ v. value_scoped v e)

  pub shift_left : (flag : ℕ) → flag ≡ 0 → p.row ≡ 0 → Says (ValueRight s rows depth p flag) (eqb p.shift 0)
  shift_left flag e z =
      says_same (λ still. subst (ValueRight s rows depth p) (sym e) (no_value (λ i. ptr (z i) (still i))))
      (λ v. ap (λ (q : Ptr). q.shift) (value_blank v e)) (says_equal p.shift 0)
