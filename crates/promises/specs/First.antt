-- Two refusals have one number: of the demands that one course comes to within the limits, at most one fails them. It holds for all stores.
use Rattle.std.specs.Prelude.{ℕ, suc, ◌≤◌, ◌≡◌, refl, List, [], ◌∷◌, ◌++◌, length}
use Rattle.std.proofs.Common.{arith, le_refl, sym, ap, ◌∙◌}
use Rattle.std.proofs.lemmas.List.{append_cancel_left}
use Rattle.rules.specs.Rows.{Ptr, Cell, Store}
use Rattle.rules.specs.Declarations.{Env}
use Rattle.rules.specs.Spines.{Spine}
use Rattle.rules.specs.Firings.{Tally, tally, Result, a_number, NumberFits, Written, Pays}
use Rattle.rules.specs.Refusals.{Demand, step, fitting, row, RowDue, Asks, its_step, its_number, its_row, Limits, Within, Fails, no_step, no_free_row}
use Rattle.rules.specs.Refusals.{no_level, too_large, no_size}
use Rattle.course.specs.Tries.{Try, rules, End, firing, Runs, Comes, RunMeets, trying, paying, later, TryMeets, writing, after_writing, too_deep}
use Rattle.course.specs.Tries.{within, after_side}
use Rattle.promises.specs.Stores.{within_earlier, later_trans, later_asks, later_pays, later_run_meets, later_try_meets}
use Rattle.promises.specs.Same.{due_same, same_firing, pays_on, side_same, through_one, runs_same, comes_same}
use Rattle.promises.specs.Apart.{row_apart, number_apart, pays_apart, meets_through, runs_apart, comes_apart}

-- a demand within the limits that fails them
pub record Stops (lim : Limits) (m : Tally) (a : Demand) (number : ℕ) : Type 0 where
  pub within : Within lim m
  pub fails : Fails lim m a number

pub record SameDemand (a b : Demand) (m m' : Tally) : Type 0 where
  pub demand : a ≡ b
  pub tally : m ≡ m'

-- ROWS: of two places in one list, they are one or one comes first
data Places (p : List Cell) (x : Cell) (q : List Cell) (y : Cell) : Type 0 where
  one_place : p ≡ q → x ≡ y → Places p x q y
  x_first : (rest : List Cell) → p ++ (x ∷ rest) ≡ q → Places p x q y
  y_first : (rest : List Cell) → q ++ (y ∷ rest) ≡ p → Places p x q y

places : (p q a b : List Cell) (x y : Cell) → p ++ (x ∷ a) ≡ q ++ (y ∷ b) → Places p x q y
places [] [] a b x y e = one_place refl (cc)
places [] (z ∷ q) a b x y e = let h : x ≡ z = cc in x_first q (ap (◌∷ q) h)
places (z ∷ p) [] a b x y e = let h : y ≡ z = cc in y_first p (ap (◌∷ p) h)
places (z ∷ p) (w ∷ q) a b x y e = on (places p q a b x y (cc))
  where
    h : z ≡ w
    h = cc

    on : Places p x q y → Places (z ∷ p) x (w ∷ q) y
    on (one_place i j) = one_place (cc) j
    on (x_first rest i) = x_first rest (cc)
    on (y_first rest i) = y_first rest (cc)

module _ {lim : Limits} {s s' : Store} {n : ℕ} where
  -- a row that fails comes before no row within the limits
  not_first : {x y : Cell} {now now' : Store} {k : ℕ} (d : RowDue s s' x now) (d' : RowDue s s' y now') (rest : List Cell) → d.before ++ (x ∷ rest) ≡ d'.before →
      Fails lim (tally n now) (row x) k → Within lim (tally n now') → ⊥
  not_first d d' rest i f v =
      row_apart {s = s} (record { new = d'.before; after = d'.stand; fit = d'.fit }) v.rows
      (record { before = d.before; after = rest; split = ap (s ++◌) i ∙ d'.stand; fit = d.fit; stand = d.stand }) f

  rows_same : {x y : Cell} {now now' : Store} {k j : ℕ} → RowDue s s' x now → Stops lim (tally n now) (row x) k →
      RowDue s s' y now' → Stops lim (tally n now') (row y) j → SameDemand (row x) (row y) (tally n now) (tally n now')
  rows_same {x} {y} {now} {now'} d h d' h' =
      on (places d.before d'.before d.after d'.after x y (append_cancel_left s _ _ (d.split ∙ sym d'.split)))
    where
      on : Places d.before x d'.before y → SameDemand (row x) (row y) (tally n now) (tally n now')
      on (one_place i j) = record { demand = ap row j; tally = ap (tally n) (sym d.stand ∙ ap (s ++◌) i ∙ d'.stand) }
      on (x_first rest i) = absurd (not_first d d' rest i h.fails h'.within)
      on (y_first rest i) = absurd (not_first d' d rest i h'.fails h.within)

-- A FIRING
module _ {lim : Limits} where
  -- what asks for more than the step comes after a step that may be taken, and rows after a number that fits
  step_first : {m m₁ : Tally} {s : Store} {k : ℕ} → Fails lim m step k → Within lim m₁ → tally (suc m.steps) s ≡ m₁ → ⊥
  step_first (no_step l) v q = let z = ap (λ (m : Tally). m.steps) q in let u = v.steps in omega arith

  number_first : {m : Tally} {n k : ℕ} → Fails lim m (fitting n) k → NumberFits (a_number n) → ⊥
  number_first (too_large l) f = number_apart f l

  asks_same : {m m₁ m₂ : Tally} {r : Result} {xs : List Ptr} {a b : Demand} {k j : ℕ} → Asks m r xs a m₁ → Stops lim m₁ a k →
      Asks m r xs b m₂ → Stops lim m₂ b j → SameDemand a b m₁ m₂
  asks_same its_step h its_step h' = record { demand = refl; tally = refl }
  asks_same its_step h (its_number q') h' = absurd (step_first h.fails h'.within q')
  asks_same its_step h (its_row f' d' w' q') h' = absurd (step_first h.fails h'.within q')
  asks_same (its_number q) h its_step h' = absurd (step_first h'.fails h.within q)
  asks_same (its_number q) h (its_number q') h' = record { demand = refl; tally = sym q ∙ q' }
  asks_same (its_number q) h (its_row f' d' w' q') h' = absurd (number_first h.fails f')
  asks_same (its_row f d w q) h its_step h' = absurd (step_first h'.fails h.within q)
  asks_same (its_row f d w q) h (its_number q') h' = absurd (number_first h'.fails f)
  asks_same (its_row f d w q) h (its_row f' d' w' q') h' =
      let z = rows_same w (rw (← q) at h) (rw (← due_same d d') at w') (rw (← q') at h') in record { demand = z.demand; tally = sym q ∙ z.tally ∙ q' }

-- A COURSE: whatever is asked in trying comes before the firing, whatever is asked in a firing before it is paid, and a row's or a side
-- reduction's demand before what follows it
module _ (e : Env) (lim : Limits) where
  trying_first : {d k : ℕ} {m m₁ m₂ : Tally} {t h h' : Ptr} {xs xs' : List Ptr} {a : Demand} {o : End} →
      Spine m.store t [] h xs → TryMeets e d m (rules e m.store h xs) a m₁ → Fails lim m₁ a k →
      Spine m.store t [] h' xs' → Comes e d m (rules e m.store h' xs') m₂ o → Within lim m₂ → ⊥
  trying_first s y f s' c v = comes_apart e lim c v (le_refl _) (meets_through e s' s y) f

  paying_first : {d k : ℕ} {m m₁ m₂ m₃ n : Tally} {t t' h h' : Ptr} {xs xs' zs zs' : List Ptr} {r r' : Result} {a : Demand} →
      Spine m.store t [] h xs → Comes e d m (rules e m.store h xs) m₁ (firing r zs) → Asks m₁ r zs a n → Fails lim n a k →
      Spine m.store t [] h' xs' → Comes e d m (rules e m.store h' xs') m₂ (firing r' zs') → Pays m₂ r' zs' m₃ t' → Within lim m₃ → ⊥
  paying_first {n = n} {a = a} s c q f s' c' p' v = pays_apart p' v (same_firing (comes_same e c' (through_one e s' s c)) (λ m r xs. Asks m r xs a n) q) f

  row_first : {m m₁ : Tally} {s now : Store} {x : Cell} {k : ℕ} → RowDue m.store s x now → tally m.steps now ≡ m₁ → Fails lim m₁ (row x) k →
      Written m.store s → length s ≤ lim.rows → ⊥
  row_first x q f w v = row_apart w v x (rw (← q) at f)

  side_first : {d k : ℕ} {m m₁ m₂ : Tally} {p t : Ptr} {a : Demand} → RunMeets e d m p a m₁ → Fails lim m₁ a k → Runs e d m p m₂ t → Within lim m₂ → ⊥
  side_first x f r v = runs_apart e lim r v (le_refl _) x f

  mutual
    pub demands_same : {d : ℕ} {m m₁ m₂ : Tally} {t : Ptr} {a b : Demand} {k j : ℕ} → RunMeets e d m t a m₁ → Stops lim m₁ a k →
        RunMeets e d m t b m₂ → Stops lim m₂ b j → SameDemand a b m₁ m₂
    demands_same (trying s y) h (trying s' y') h' = tried_same y h (meets_through e s s' y') h'
    demands_same (trying s y) h (paying s' c' q') h' = absurd (trying_first s y h.fails s' c' (within_earlier (later_asks q') h'.within))
    demands_same (trying s y) h (later s' c' p' x') h' =
        absurd (trying_first s y h.fails s' c' (within_earlier (later_trans (later_pays p') (later_run_meets e x')) h'.within))
    demands_same (paying s c q) h (trying s' y') h' = absurd (trying_first s' y' h'.fails s c (within_earlier (later_asks q) h.within))
    demands_same (paying s c q) h (paying {m₂ = n} {a = b} s' c' q') h' =
        asks_same q h (same_firing (comes_same e c (through_one e s s' c')) (λ m r xs. Asks m r xs b n) q') h'
    demands_same (paying s c q) h (later s' c' p' x') h' =
        absurd (paying_first s c q h.fails s' c' p' (within_earlier (later_run_meets e x') h'.within))
    demands_same (later s c p x) h (trying s' y') h' =
        absurd (trying_first s' y' h'.fails s c (within_earlier (later_trans (later_pays p) (later_run_meets e x)) h.within))
    demands_same (later s c p x) h (paying s' c' q') h' =
        absurd (paying_first s' c' q' h'.fails s c p (within_earlier (later_run_meets e x) h.within))
    demands_same (later s c p x) h (later s' c' p' x') h' =
        let z = pays_on (comes_same e c (through_one e s s' c')) p p' in demands_same x h (rw (← z.tally, ← z.term) at x') h'

    pub tried_same : {d : ℕ} {m m₁ m₂ : Tally} {y : Try} {a b : Demand} {k j : ℕ} → TryMeets e d m y a m₁ → Stops lim m₁ a k →
        TryMeets e d m y b m₂ → Stops lim m₂ b j → SameDemand a b m₁ m₂
    tried_same (writing w q) h (writing w' q') h' =
        let z = rows_same w (rw (← q) at h) w' (rw (← q') at h') in record { demand = z.demand; tally = sym q ∙ z.tally ∙ q' }
    tried_same (writing x q) h (after_writing w' y') h' = absurd (row_first x q h.fails w' (within_earlier (later_try_meets e y') h'.within).rows)
    tried_same (after_writing w y) h (writing x' q') h' = absurd (row_first x' q' h'.fails w (within_earlier (later_try_meets e y) h.within).rows)
    tried_same (after_writing w y) h (after_writing w' y') h' = tried_same y h y' h'
    tried_same too_deep h too_deep h' = record { demand = refl; tally = refl }
    tried_same (within x) h (within x') h' = demands_same x h x' h'
    tried_same (within x) h (after_side r' s' y') h' = absurd (side_first x h.fails r' (within_earlier (later_try_meets e y') h'.within))
    tried_same (after_side r s y) h (within x') h' = absurd (side_first x' h'.fails r (within_earlier (later_try_meets e y) h.within))
    tried_same (after_side r s y) h (after_side r' s' y') h' =
        let z = side_same (runs_same e r r') s s' in tried_same y h (rw (← z.tally, ← z.head, ← z.arguments) at y') h'

-- one demand fails with one number
numbers_same : {lim : Limits} {m : Tally} {a : Demand} {k j : ℕ} → Fails lim m a k → Fails lim m a j → k ≡ j
numbers_same (no_step h) (no_step h') = refl
numbers_same (no_free_row f h) (no_free_row f' h') = refl
numbers_same (no_free_row f h) (no_size n) = absurd (n f)
numbers_same no_level no_level = refl
numbers_same (too_large h) (too_large h') = refl
numbers_same (no_size n) (no_free_row f h) = absurd (n f)
numbers_same (no_size n) (no_size n') = refl

pub refusals_same : (e : Env) (lim : Limits) {d : ℕ} {m m₁ m₂ : Tally} {t : Ptr} {a b : Demand} {k j : ℕ} →
    RunMeets e d m t a m₁ → Stops lim m₁ a k → RunMeets e d m t b m₂ → Stops lim m₂ b j → k ≡ j
refusals_same e lim x h x' h' =
    let z = demands_same e lim x h x' h' in numbers_same h.fails (rw (← z.demand, ← z.tally) at h'.fails)
