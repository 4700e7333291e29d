-- Stores only grow, and so do tallies: whatever is written stands after what stood. It holds for all stores.
use Rattle.std.specs.Prelude.{ℕ, ◌≤◌, ◌≡◌, List, [], ◌∷◌, ◌++◌, length, drop}
use Rattle.std.proofs.Common.{arith, le_refl, le_trans, sym, ap, ◌∙◌, subst}
use Rattle.std.proofs.Math.Option.{Option}
use Rattle.std.proofs.Math.Seq.{drop-append_seam}
use Rattle.rules.specs.Kinds.{Tag, app}
use Rattle.rules.specs.Rows.{Ptr, Row, Cell, Store, cell, node, blank, put, grow, Got}
use Rattle.rules.specs.Declarations.{Env}
use Rattle.rules.specs.Replacement.{Replaces, same, moved, inside, OnRow, stays, value, moves, children, OnField, word, child, under}
use Rattle.rules.specs.Spines.{joined}
use Rattle.rules.specs.Firings.{Tally, tally, Result, Gives, by_replacement, no_row, number_row, constant_row, Due, Pays}
use Rattle.rules.specs.Refusals.{Demand, RowDue, Asks, its_step, its_number, its_row, Limits, Within}
use Rattle.substitution.specs.Stores.{Ext, ext_same, ext_then, ext_put, ext_length}
use Rattle.course.specs.Tries.{Try, End, Runs, final, then, Comes, misses, fires_now, wrote, side, RunMeets, trying, paying, later, TryMeets, writing}
use Rattle.course.specs.Tries.{after_writing, too_deep, within, after_side}

-- STORES

-- the new rows are those past the old end
pub ext_tail : {s s' : Store} (x : Ext s s') → drop (length s) s' ≡ x.new
ext_tail {s} x = ap (drop (length s)) (sym x.after) ∙ drop-append_seam s x.new

pub ext_grow : (s : Store) (ws : List Row) → Ext s (grow s ws)
unfolding grow
ext_grow s [] = ext_same s
ext_grow s (w ∷ ws) = ext_then (ext_put s (cell s w)) (ext_grow (s ++ cell s w ∷ []) ws)

pub ext_joined : (s : Store) (p : Ptr) (xs : List Ptr) → Ext s (joined s p xs).store
unfolding joined
ext_joined s p [] = ext_same s
ext_joined s p (a ∷ xs) = ext_then (ext_put s _) (ext_joined (put s (node app p a blank)).store _ xs)

by_got : {s : Store} {g g' : Got} → g ≡ g' → Ext s g.store → Ext s g'.store
by_got {s} e x = subst (λ (g : Got). Ext s g.store) e x

mutual
  pub ext_replaces : {v : Option Ptr} {k c : ℕ} {s : Store} {p : Ptr} {g : Got} → Replaces v k c s p g → Ext s g.store
  ext_replaces {s = s} (same h e) = by_got e (ext_same s)
  ext_replaces {s = s} (moved h l e) = by_got e (ext_same s)
  ext_replaces (inside h l r e) = by_got e (ext_row r)

  ext_row : {v : Option Ptr} {k c : ℕ} {s : Store} {t : ℕ} {w : Row} {g : Got} → OnRow v k c s t w g → Ext s g.store
  ext_row {s = s} (stays h e) = by_got e (ext_same s)
  ext_row {s = s} (value h q e) = by_got e (ext_same s)
  ext_row {s = s} (moves h e) = by_got e (ext_put s _)
  ext_row (children {g₃ = g₃} a b c e) = by_got e (ext_then (ext_field a) (ext_then (ext_field b) (ext_then (ext_field c) (ext_put g₃.store _))))

  ext_field : {v : Option Ptr} {k : ℕ} {τ : Tag} {c : ℕ} {s : Store} {p : Ptr} {g : Got} → OnField v k τ c s p g → Ext s g.store
  ext_field {s = s} (word e) = by_got e (ext_same s)
  ext_field (child r) = ext_replaces r
  ext_field (under r) = ext_replaces r

pub ext_gives : {s : Store} {r : Result} {g : Got} → Gives s r g → Ext s g.store
ext_gives (by_replacement r) = ext_replaces r
ext_gives {s} (no_row e) = by_got e (ext_same s)
ext_gives {s} (number_row e) = by_got e (ext_put s _)
ext_gives {s} (constant_row e) = by_got e (ext_put s _)

pub ext_due : {s : Store} {r : Result} {xs : List Ptr} {g : Got} → Due s r xs g → Ext s g.store
ext_due d = by_got d.applied (ext_then (ext_gives d.gives) (ext_joined _ _ _))

pub ext_row_due : {s s' : Store} {x : Cell} {now : Store} → RowDue s s' x now → Ext s now
ext_row_due q = record { new = q.before; after = q.stand }

-- TALLIES

pub record Later (m m' : Tally) : Type 0 where
  pub steps : m.steps ≤ m'.steps
  pub rows : Ext m.store m'.store

pub later_refl : (m : Tally) → Later m m
later_refl m = record { steps = le_refl m.steps; rows = ext_same m.store }

pub later_trans : {a b c : Tally} → Later a b → Later b c → Later a c
later_trans x y = record { steps = le_trans x.steps y.steps; rows = ext_then x.rows y.rows }

pub later_writes : (m : Tally) (ws : List Row) → Later m (tally m.steps (grow m.store ws))
later_writes m ws = record { steps = le_refl m.steps; rows = ext_grow m.store ws }

pub later_pays : {m m' : Tally} {r : Result} {xs : List Ptr} {t : Ptr} → Pays m r xs m' t → Later m m'
later_pays {m} p = subst (Later m) p.then_tally (record { steps = omega arith; rows = ext_due p.is_due })

pub later_asks : {m m₁ : Tally} {r : Result} {xs : List Ptr} {a : Demand} → Asks m r xs a m₁ → Later m m₁
later_asks {m} its_step = later_refl m
later_asks {m} (its_number q) = subst (Later m) q (record { steps = omega arith; rows = ext_same m.store })
later_asks {m} (its_row f d x q) = subst (Later m) q (record { steps = omega arith; rows = ext_row_due x })

module _ (e : Env) where
  mutual
    pub later_runs : {d : ℕ} {m m' : Tally} {t t' : Ptr} → Runs e d m t m' t' → Later m m'
    later_runs (final s c) = later_comes c
    later_runs (then s c p r) = later_trans (later_comes c) (later_trans (later_pays p) (later_runs r))

    pub later_comes : {d : ℕ} {m m' : Tally} {y : Try} {o : End} → Comes e d m y m' o → Later m m'
    later_comes {m = m} misses = later_refl m
    later_comes {m = m} fires_now = later_refl m
    later_comes {m = m} (wrote {ws = ws} w c) = later_trans (later_writes m ws) (later_comes c)
    later_comes (side r s c) = later_trans (later_runs r) (later_comes c)

  mutual
    pub later_run_meets : {d : ℕ} {m m₁ : Tally} {t : Ptr} {a : Demand} → RunMeets e d m t a m₁ → Later m m₁
    later_run_meets (trying s y) = later_try_meets y
    later_run_meets (paying s c q) = later_trans (later_comes c) (later_asks q)
    later_run_meets (later s c p x) = later_trans (later_comes c) (later_trans (later_pays p) (later_run_meets x))

    pub later_try_meets : {d : ℕ} {m m₁ : Tally} {y : Try} {a : Demand} → TryMeets e d m y a m₁ → Later m m₁
    later_try_meets {m = m} (writing x q) = subst (Later m) q (record { steps = le_refl m.steps; rows = ext_row_due x })
    later_try_meets {m = m} (after_writing {ws = ws} w y) = later_trans (later_writes m ws) (later_try_meets y)
    later_try_meets {m = m} too_deep = later_refl m
    later_try_meets (within x) = later_run_meets x
    later_try_meets (after_side r s y) = later_trans (later_runs r) (later_try_meets y)

-- whoever is within the limits was so before
pub within_earlier : {lim : Limits} {m m' : Tally} → Later m m' → Within lim m' → Within lim m
within_earlier l w = record { steps = le_trans l.steps w.steps; rows = le_trans (ext_length l.rows) w.rows }
