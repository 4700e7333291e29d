-- One rule after the other: what `y or_else z` comes to, and what it asks for on the way, is y's, or z's from the tally at which y was missed.
-- First for the evaluator, then for the tries. It holds for all stores. The other way, from y and z to the whole, is `first_fires`, `first_missed`,
-- `first_meets` and `next_meets` of course/ToTries.
use Rattle.std.specs.Prelude.{ℕ, suc, ◌≡◌, List}
use Rattle.std.proofs.Math.Path.{refl}
use Rattle.std.proofs.Math.Option.{Option, none, some}
use Rattle.rules.specs.Rows.{Ptr, row_at, grow}
use Rattle.rules.specs.Declarations.{Env}
use Rattle.rules.specs.Firings.{Tally, tally, Result}
use Rattle.rules.specs.Refusals.{Demand, Limits}
use Rattle.course.specs.Tries.{Try, no_rule, fires, writes, reduces, ◌or_else◌, End, missed, firing, Comes, misses, fires_now, wrote, side, TryMeets}
use Rattle.course.specs.Tries.{writing, after_writing, too_deep, within, after_side}
use Rattle.course.specs.Eval.{Spined, spine, Res, ok, no, lost, Ans, refuse, gone, Side, charge, wrote_on, spine_then, side_on, try}
use Rattle.course.specs.Eval as E

-- THE EVALUATOR: an answer, and what follows if no rule fired
abbrev pub and_then : Ans → (Tally → Ans) → Ans
and_then (E.missed m) next = next m
and_then (E.firing m r xs) next = E.firing m r xs
and_then (refuse k) next = refuse k
and_then gone next = gone

module _ (lim : Limits) (next : Tally → Ans) where
  rows_then : (a a' : Ans) (o : Option ℕ) → a' ≡ and_then a next → wrote_on lim (λ u. a') o ≡ and_then (wrote_on lim (λ u. a) o) next
  rows_then a a' none q = q
  rows_then a a' (some k) q = refl

  spine_then_lem : (a a' : Ptr → List Ptr → Ans) (x : Option Spined) → ((h : Ptr) (ys : List Ptr) → a' h ys ≡ and_then (a h ys) next) →
      spine_then lim a' x ≡ and_then (spine_then lim a x) next
  spine_then_lem a a' none q = refl
  spine_then_lem a a' (some h) q = q h.head h.arguments

  side_then : (a a' : Tally → Ptr → List Ptr → Ans) (o : Res) → ((m : Tally) (h : Ptr) (ys : List Ptr) → a' m h ys ≡ and_then (a m h ys) next) →
      side_on lim a' o ≡ and_then (side_on lim a o) next
  side_then a a' (ok m t) q = spine_then_lem (a m) (a' m) (spine m.store t) (q m)
  side_then a a' (no k) q = refl
  side_then a a' lost q = refl

module _ (lim : Limits) (sd : Side) where
  -- what code that tries one rule after the other follows
  pub try_else : (y z : Try) (m : Tally) → try lim sd (y or_else z) m ≡ and_then (try lim sd y m) (λ m₁. try lim sd z m₁)
  unfolding try ◌or_else◌
  try_else no_rule z m = refl
  try_else (fires r xs) z m = refl
  try_else (writes ws y) z m =
      let m₁ : Tally = tally m.steps (grow m.store ws) in
      rows_then lim (λ m₁. try lim sd z m₁) (try lim sd y m₁) (try lim sd (y or_else z) m₁) (charge lim m.store (grow m.store ws)) (try_else y z m₁)
  try_else (reduces p y) z m =
      side_then lim (λ m₁. try lim sd z m₁) (λ m₁ h ys. try lim sd (y m₁.store (row_at m₁.store h.row) ys) m₁)
      (λ m₁ h ys. try lim sd (y m₁.store (row_at m₁.store h.row) ys or_else z) m₁) (sd m p)
      (λ m₁ h ys. try_else (y m₁.store (row_at m₁.store h.row) ys) z m₁)

-- THE TRIES
module _ (e : Env) where
  -- what it comes to
  pub data ElseComes (d : ℕ) (m : Tally) (y z : Try) (m' : Tally) : End → Type 0 where
    of_first : {r : Result} {xs : List Ptr} → Comes e d m y m' (firing r xs) → ElseComes d m y z m' (firing r xs)
    of_second : {m₁ : Tally} {o : End} → Comes e d m y m₁ missed → Comes e d m₁ z m' o → ElseComes d m y z m' o

  pub else_comes : {d : ℕ} {m m' : Tally} {o : End} (y z : Try) → Comes e d m (y or_else z) m' o → ElseComes d m y z m' o
  unfolding ◌or_else◌
  else_comes no_rule z c = of_second misses c
  else_comes (fires r xs) z fires_now = of_first fires_now
  else_comes {d} {m} (writes ws y) z (wrote w c) = on (else_comes {m = tally m.steps (grow m.store ws)} y z c)
    where
      on : {m' : Tally} {o : End} → ElseComes d (tally m.steps (grow m.store ws)) y z m' o → ElseComes d m (writes ws y) z m' o
      on (of_first c) = of_first (wrote w c)
      on (of_second c k) = of_second (wrote w c) k
  else_comes (reduces p y) z (side {d = d} {m = m} {m₁ = m₁} {h = h} {ys = ys} r s c) = on (else_comes {d = suc d} {m = m₁} (y m₁.store (row_at m₁.store h.row) ys) z c)
    where
      on : {m' : Tally} {o : End} → ElseComes (suc d) m₁ (y m₁.store (row_at m₁.store h.row) ys) z m' o → ElseComes (suc d) m (reduces p y) z m' o
      on (of_first c) = of_first (side r s c)
      on (of_second c k) = of_second (side r s c) k

  -- what it asks for on the way
  pub data ElseMeets (d : ℕ) (m : Tally) (y z : Try) (a : Demand) (m₁ : Tally) : Type 0 where
    in_first : TryMeets e d m y a m₁ → ElseMeets d m y z a m₁
    in_second : {m₂ : Tally} → Comes e d m y m₂ missed → TryMeets e d m₂ z a m₁ → ElseMeets d m y z a m₁

  pub else_meets : {d : ℕ} {m m₁ : Tally} {a : Demand} (y z : Try) → TryMeets e d m (y or_else z) a m₁ → ElseMeets d m y z a m₁
  unfolding ◌or_else◌
  else_meets no_rule z x = in_second misses x
  else_meets (fires r xs) z x = elim x [ ]
  else_meets (writes ws y) z (writing x q) = in_first (writing x q)
  else_meets {d} {m} (writes ws y) z (after_writing w x) = on (else_meets {m = tally m.steps (grow m.store ws)} y z x)
    where
      on : {a : Demand} {m₁ : Tally} → ElseMeets d (tally m.steps (grow m.store ws)) y z a m₁ → ElseMeets d m (writes ws y) z a m₁
      on (in_first x) = in_first (after_writing w x)
      on (in_second c k) = in_second (wrote w c) k
  else_meets (reduces p y) z too_deep = in_first too_deep
  else_meets (reduces p y) z (within x) = in_first (within x)
  else_meets (reduces p y) z (after_side {d = d} {m = m} {m₁ = n} {h = h} {ys = ys} r s x) = on (else_meets {d = suc d} {m = n} (y n.store (row_at n.store h.row) ys) z x)
    where
      on : {a : Demand} {m₁ : Tally} → ElseMeets (suc d) n (y n.store (row_at n.store h.row) ys) z a m₁ → ElseMeets (suc d) m (reduces p y) z a m₁
      on (in_first x) = in_first (after_side r s x)
      on (in_second c k) = in_second (side r s c) k
