-- Shifts are small: a pointer in scope is shifted at most the depth, so no sum of shifts wraps, and a body may be opened.
-- Assumes what the member is given.
use Prim.Native.Nat.{ℕ, zero, suc, ◌+◌, ◌≤◌, ◌<◌}
use native.Mathlib.Omega.{arith}
use mathlib.Core.Path.{◌≡◌, refl, sym, subst}
use mathlib.Core.List.{List}
use mathlib.Core.Option.{some}
use Rattle.rules.specs.Kinds.{lam, let'}
use Rattle.rules.specs.Rows as rules
use Rattle.rules.specs.Rows.{node, Store, cell_at, row_at, bound, bound_on, up}
use Rattle.rules.specs.RowCheck.{InScope}
use Rattle.rules.specs.Declarations.{nth}
use Rattle.substitution.specs.Stores.{scope_good}
use Rattle.safety.specs.Sane.{depth_of}
use Rattle.safety.specs.Scope.{BodyIn, lambda_body_in, let_value_in, let_body_in}
use Rattle.safety.specs.Parts.{nth_in}
use Rattle.ways.specs.Spines.{head_of, args_of}
use Rattle.rows.specs.declared.Ptr.{Ptr}
use Rattle.rows.specs.Words.{ptr_of, store_of}
use Rattle.tables.specs.Env.{env_of}
use Rattle.state.specs.declared.Given.{Given}
use Rattle.state.specs.declared.Meter.{Meter}
use Rattle.firing.specs.Fires.{Opens}
use Rattle.cycle.specs.Cycle.{Asked}
use Rattle.cycle.specs.Course.{parts_in}
use Rattle.cycle.proofs.Standing.{depth_is}
use Rattle.cycle.proofs.Binders.{arguments_in, head_row_in}

-- a shift is part of the bound, or 0
shift_in_bound : (b k n : ℕ) → (b ≡ 0 → k ≡ 0) → bound_on b k ≤ n → k ≤ n
shift_in_bound zero k n still h = omega (arith, still refl)
shift_in_bound (suc b) k n still h = omega arith

pub scope_shift : {s : Store} {d : ℕ} {p : rules.Ptr} → InScope s d p → p.shift ≤ d
scope_shift {s} {d} {p} i = shift_in_bound (cell_at s p.row).bound p.shift d i.still i.within

pub body_shift : {s : Store} {d k : ℕ} {b : rules.Ptr} → BodyIn s d k b → b.shift ≤ suc d
body_shift {s} {d} {k} {b} i = shift_in_bound (cell_at s b.row).bound b.shift (suc d) i.good.still (small (bound s b) i.within)
  where
    small : (n : ℕ) → (1 < n → n + k ≤ suc d) → n ≤ suc d
    small zero h = omega arith
    small (suc zero) h = omega arith
    small (suc (suc n)) h = let w = h (omega arith) in omega arith

module _ {l ds rs cs sc : List ℕ} {g : Given} {m : Meter} {t : Ptr} (a : Asked l ds rs cs sc g m t) where
  abbrev s : Store
  s = store_of l sc m.mark

  abbrev h : rules.Ptr
  h = head_of s (ptr_of t)

  pub head-shift : h.shift ≤ g.depth
  head-shift = scope_shift (parts_in a.stand.sane a.scope).head

  opens : {body value : Ptr} → BodyIn s g.depth h.shift (ptr_of body) → InScope s g.depth (ptr_of value) → Opens s body value h.shift
  opens b v = let small = a.stand.small in record {
    body_good = b.good;
    value_good = scope_good v;
    body_shift = omega (arith, body_shift b);
    value_shift = omega (arith, scope_shift v);
    move = omega (arith, head-shift);
  }

  body_here : {b : rules.Ptr} → BodyIn s (depth_of (env_of ds rs cs g.depth)) h.shift b → BodyIn s g.depth h.shift b
  body_here {b} = subst (λ (d : ℕ). BodyIn s d h.shift b) (depth_is ds rs cs g.depth)

  scope_here : {p : rules.Ptr} → InScope s (depth_of (env_of ds rs cs g.depth)) p → InScope s g.depth p
  scope_here {p} = subst (λ (d : ℕ). InScope s d p) (depth_is ds rs cs g.depth)

  -- a lambda with an argument, and a let, may be opened
  pub lambda_opens : {body value : Ptr} {x z : rules.Ptr} → row_at s h.row ≡ node lam x (ptr_of body) z → nth (args_of s (ptr_of t)) 0 ≡ some (ptr_of value) → Opens s body value h.shift
  lambda_opens q first = opens (body_here (lambda_body_in (head_row_in a 0 q))) (scope_here (nth_in 0 (arguments_in a 0) first))

  pub let_opens : {body value : Ptr} {x y : rules.Ptr} → row_at s h.row ≡ node let' x y (ptr_of body) → ptr_of value ≡ up s y h.shift → Opens s body value h.shift
  let_opens q shifted = opens (body_here (let_body_in (head_row_in a 0 q))) (scope_here (subst (InScope s (depth_of (env_of ds rs cs g.depth))) (sym shifted) (let_value_in (head_row_in a 0 q))))
