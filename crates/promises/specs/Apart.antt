-- Never both: a course that ends within the limits comes to no demand that fails them. It holds for all stores. The demand has at least the depth
-- of the course that ended: with less, it may be for a level.
use Rattle.std.specs.Prelude.{ℕ, ◌≤◌, ◌<◌, ◌≡◌, List, [], ◌∷◌, ◌++◌, length}
use Rattle.std.proofs.Common.{arith, sym, ap, ◌∙◌, subst, length-append}
use Rattle.std.proofs.lemmas.List.{append_cancel_left}
use Rattle.rules.specs.Maxima.{most_number}
use Rattle.rules.specs.Rows.{Ptr, Cell, Store, Got}
use Rattle.rules.specs.RowCheck.{Fits}
use Rattle.rules.specs.Declarations.{Env}
use Rattle.rules.specs.Spines.{Spine}
use Rattle.rules.specs.Firings.{Tally, tally, Result, a_number, NumberFits, number_fits, AllFit, and_then, Written, Pays}
use Rattle.rules.specs.Refusals.{Demand, row, RowDue, Asks, its_step, its_number, its_row, Limits, Within, Fails, no_step, no_free_row, too_large, no_size}
use Rattle.course.specs.Tries.{Try, rules, End, Runs, final, then, Comes, misses, fires_now, wrote, side, RunMeets, trying, paying, later, TryMeets, writing}
use Rattle.course.specs.Tries.{after_writing, too_deep, within, after_side}
use Rattle.promises.specs.Stores.{within_earlier, later_trans, later_pays, later_runs, later_comes}
use Rattle.promises.specs.Same.{spine_same, due_same, not_both, same_firing, pays_on, side_same, through_one, runs_same, comes_same}

-- ROWS
fit_at : (before : List Cell) (x : Cell) (after : List Cell) → AllFit (before ++ (x ∷ after)) → Fits x
fit_at [] x after (and_then h a) = h
fit_at (y ∷ before) x after (and_then h a) = fit_at before x after a

-- rows that were written within the limits, one of which fails them
pub row_apart : {lim : Limits} {s s' now : Store} {x : Cell} {n k : ℕ} → Written s s' → length s' ≤ lim.rows → RowDue s s' x now → Fails lim (tally n now) (row x) k → ⊥
row_apart {s = s} {x = x} w l d (no_size h) = h (fit_at d.before x d.after (subst AllFit new w.fit))
  where
    new : w.new ≡ d.before ++ (x ∷ d.after)
    new = append_cancel_left s w.new (d.before ++ (x ∷ d.after)) (w.after ∙ sym d.split)
row_apart w l d (no_free_row h r) =
    let a = simp length-append at (ap length d.split) in
    let b = simp length-append at (ap length d.stand) in
    omega arith

-- A FIRING
pub number_apart : {n : ℕ} → NumberFits (a_number n) → most_number < n → ⊥
number_apart (number_fits h) l = omega arith

-- a firing that was paid within the limits asks for nothing that fails them
pub pays_apart : {lim : Limits} {m m₁ m₂ : Tally} {r : Result} {xs : List Ptr} {t : Ptr} {a : Demand} {k : ℕ} →
    Pays m r xs m₁ t → Within lim m₁ → Asks m r xs a m₂ → Fails lim m₂ a k → ⊥
pays_apart {lim} p v its_step (no_step h) = let u = (subst (Within lim) (sym p.then_tally) v).steps in omega arith
pays_apart p v (its_number q) (too_large h) = number_apart p.number_fits h
pays_apart {lim} {m} p v (its_row {x = x} {now = now} f d w q) h =
    let u = (subst (Within lim) (sym p.then_tally) v).rows in
    row_apart p.written u (subst (λ (g : Got). RowDue m.store g.store x now) (due_same d p.is_due) w) (rw (← q) at h)

-- A COURSE
module _ (e : Env) where
  -- the same rules are tried at either reading of the spine
  pub meets_through : {d : ℕ} {m m₁ : Tally} {t h h' : Ptr} {xs xs' : List Ptr} {a : Demand} → Spine m.store t [] h xs → Spine m.store t [] h' xs' →
      TryMeets e d m (rules e m.store h' xs') a m₁ → TryMeets e d m (rules e m.store h xs) a m₁
  meets_through s s' y = let q = spine_same s s' in rw (← q.head, ← q.arguments) at y

  module _ (lim : Limits) where
    mutual
      pub runs_apart : {d D : ℕ} {m m' m₁ : Tally} {t t' : Ptr} {a : Demand} {k : ℕ} → Runs e d m t m' t' → Within lim m' → d ≤ D →
          RunMeets e D m t a m₁ → Fails lim m₁ a k → ⊥
      runs_apart (final s c) v l (trying s' y) f = comes_apart c v l (meets_through s s' y) f
      runs_apart (final s c) v l (paying s' c' q) f = not_both (comes_same e c (through_one e s s' c')).end
      runs_apart (final s c) v l (later s' c' p' x) f = not_both (comes_same e c (through_one e s s' c')).end
      runs_apart (then s c p r) v l (trying s' y) f =
          comes_apart c (within_earlier (later_trans (later_pays p) (later_runs e r)) v) l (meets_through s s' y) f
      runs_apart (then s c p r) v l (paying {m₂ = n} {a = a} s' c' q) f =
          pays_apart p (within_earlier (later_runs e r) v) (same_firing (comes_same e c (through_one e s s' c')) (λ m r xs. Asks m r xs a n) q) f
      runs_apart (then s c p r) v l (later s' c' p' x) f =
          let z = pays_on (comes_same e c (through_one e s s' c')) p p' in runs_apart r v l (rw (← z.tally, ← z.term) at x) f

      pub comes_apart : {d D : ℕ} {m m' m₁ : Tally} {y : Try} {o : End} {a : Demand} {k : ℕ} → Comes e d m y m' o → Within lim m' → d ≤ D →
          TryMeets e D m y a m₁ → Fails lim m₁ a k → ⊥
      comes_apart misses v l x f = elim x [ ]
      comes_apart fires_now v l x f = elim x [ ]
      comes_apart (wrote w c) v l (writing x q) f = row_apart w (within_earlier (later_comes e c) v).rows x (rw (← q) at f)
      comes_apart (wrote w c) v l (after_writing w' y) f = comes_apart c v l y f
      comes_apart (side r s c) v l too_deep f = omega arith
      comes_apart (side r s c) v l (within x) f = runs_apart r (within_earlier (later_comes e c) v) (omega arith) x f
      comes_apart (side r s c) v l (after_side r' s' y) f =
          let z = side_same (runs_same e r r') s s' in comes_apart c v l (rw (← z.tally, ← z.head, ← z.arguments) at y) f
