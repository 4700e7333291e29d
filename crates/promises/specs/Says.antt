-- The evaluator says what the tries say: on a term, that they bring t there within the limits; on a refusal, that their course comes to this demand
-- within the limits, and that the demand fails them with this number; on `lost`, that their course comes to rows whose recorded height is too small.
-- It holds for all stores that the limits allow. The loop's count never runs out: each firing takes a step.
use Prim.Native.Nat.{ℕ, zero, suc, ◌+◌, ◌-◌, ◌≤◌, ◌<◌}
use Rattle.std.proofs.Common.{arith, ap}
use Rattle.std.specs.Prelude.{◌≡◌, List, [], length}
use Rattle.std.proofs.Math.Path.{refl}
use Rattle.std.proofs.Math.Option.{Option, none}
use Rattle.rules.specs.Rows.{Ptr, Row, Store, row_at, grow, Got}
use Rattle.rules.specs.Declarations.{Env}
use Rattle.rules.specs.Spines.{Spine}
use Rattle.rules.specs.Firings.{Tally, tally, Result, a_number, Due, NumberFits, Pays}
use Rattle.rules.specs.Refusals.{Demand, Asks, its_step, its_number, its_row, Limits, Within, Fails, no_step, no_level, too_large}
use Rattle.course.specs.Views.{Cmp, up_to, over, cmp, NumberView, in_range, too_big, number_view}
use Rattle.course.specs.Tries.{Try, no_rule, fires, writes, reduces, rules, missed, firing, Runs, final, then, Comes, misses, fires_now, wrote, side}
use Rattle.course.specs.Tries.{RunMeets, trying, paying, later, TryMeets, writing, after_writing, too_deep, within, after_side}
use Rattle.course.specs.Eval.{Spined, spine, due_of, Res, ok, no, lost, Ans, refuse, gone, Side, paid_on, due_on, fire_on, fire, wrote_on, spine_then}
use Rattle.course.specs.Eval.{side_on, try, at_the_head, go_on, next, loop, side_at, eval}
use Rattle.course.specs.Eval as E
use Rattle.promises.specs.Stores.{ext_due, ext_grow, Later, later_comes}
use Rattle.promises.specs.Lost.{RunLoses, no_head, in_trying, in_paying, in_the_rest, TryLoses, past_rows, in_side, no_side_head, past_side}
use Rattle.promises.specs.SaysRows.{All, nothing, just, IsSpine, spine_says, due_says}
use Rattle.promises.specs.SaysCharge.{ChargeSays, c_all, c_no, charge_says}

module _ (e : Env) (lim : Limits) where
  -- of a reduction with d levels left below it
  pub data ResSays (d : ℕ) (m : Tally) (t : Ptr) : Res → Type 0 where
    r_ok : {m' : Tally} {t' : Ptr} → Runs e d m t m' t' → Within lim m' → ResSays d m t (ok m' t')
    r_no : {m₁ : Tally} {a : Demand} {k : ℕ} → RunMeets e d m t a m₁ → Within lim m₁ → Fails lim m₁ a k → ResSays d m t (no k)
    r_lost : RunLoses e d m t → ResSays d m t lost

  -- of a side reduction: it needs a level
  pub data SideSays (m : Tally) (p : Ptr) : ℕ → Res → Type 0 where
    no_level_left : SideSays m p zero (no 6)
    a_level_left : {d : ℕ} {o : Res} → ResSays d m p o → SideSays m p (suc d) o

  -- of trying
  pub data AnsSays (d : ℕ) (m : Tally) (y : Try) : Ans → Type 0 where
    a_missed : {m' : Tally} → Comes e d m y m' missed → Within lim m' → AnsSays d m y (E.missed m')
    a_firing : {m' : Tally} {r : Result} {xs : List Ptr} → Comes e d m y m' (firing r xs) → Within lim m' → AnsSays d m y (E.firing m' r xs)
    a_refuse : {m₁ : Tally} {a : Demand} {k : ℕ} → TryMeets e d m y a m₁ → Within lim m₁ → Fails lim m₁ a k → AnsSays d m y (refuse k)
    a_gone : TryLoses e d m y → AnsSays d m y gone

-- A FIRING: the step, the number, the rows
module _ (lim : Limits) where
  pub data PaySays (m : Tally) (r : Result) (xs : List Ptr) : Res → Type 0 where
    p_paid : {m' : Tally} {t' : Ptr} → Pays m r xs m' t' → Within lim m' → PaySays m r xs (ok m' t')
    p_asks : {m₁ : Tally} {a : Demand} {k : ℕ} → Asks m r xs a m₁ → Within lim m₁ → Fails lim m₁ a k → PaySays m r xs (no k)
    p_lost : due_of m.store r xs ≡ none → PaySays m r xs lost

  module _ (m : Tally) (r : Result) (xs : List Ptr) (v : Within lim m) (l : m.steps < lim.steps) (f : NumberFits r) where
    charged_says : {g : Got} {o : Option ℕ} → Due m.store r xs g → ChargeSays lim m.store g.store o →
        PaySays m r xs (paid_on lim (tally (suc m.steps) g.store) g.at o)
    charged_says {g} q (c_all w h) =
        p_paid (record { due = g; is_due = q; number_fits = f; written = w; then_tally = refl; then_term = refl }) (record { steps = l; rows = h })
    charged_says q (c_no x h k) = p_asks (its_row f q x refl) (record { steps = l; rows = h }) (k _)

    rows_say : {x : Option Got} → due_of m.store r xs ≡ x → All (Due m.store r xs) x → PaySays m r xs (due_on lim m x)
    rows_say i nothing = p_lost i
    rows_say i (just q) = charged_says q (charge_says lim m.store _ (ext_due q) v.rows)

  pub fire_says : (m : Tally) (r : Result) (xs : List Ptr) → Within lim m → PaySays m r xs (fire lim m r xs)
  unfolding fire
  fire_says m r xs v = on r (cmp lim.steps m.steps) (number_view r)
    where
      on : (r : Result) (c : Cmp lim.steps m.steps) (n : NumberView r) → PaySays m r xs (fire_on lim m r xs c n)
      on r (up_to h) n = p_asks its_step v (no_step h)
      on (a_number n) (over h) (too_big l) = p_asks (its_number refl) (record { steps = h; rows = v.rows }) (too_large l)
      on r (over h) (in_range l) = rows_say m r xs v h l refl (due_says m.store r xs)

a_step_more : {m m₁ m₂ : Tally} {r : Result} {xs : List Ptr} {t : Ptr} → Later m m₁ → Pays m₁ r xs m₂ t → m.steps < m₂.steps
a_step_more l p = let z = ap (λ (m : Tally). m.steps) p.then_tally in let h = l.steps in omega arith

-- TRYING, whatever the rules are
module _ (e : Env) (lim : Limits) where
  -- what is said of the rest is said of the whole, after rows written ..
  after_rows : {d : ℕ} {m : Tally} {ws : List Row} {y : Try} {a : Ans} {o : Option ℕ} → ChargeSays lim m.store (grow m.store ws) o →
      (Within lim (tally m.steps (grow m.store ws)) → AnsSays e lim d (tally m.steps (grow m.store ws)) y a) →
      Within lim m → AnsSays e lim d m (writes ws y) (wrote_on lim (λ z. a) o)
  after_rows {d} {m} {ws} {y} (c_all w h) rest v = on (rest (record { steps = v.steps; rows = h }))
    where
      on : {a : Ans} → AnsSays e lim d (tally m.steps (grow m.store ws)) y a → AnsSays e lim d m (writes ws y) a
      on (a_missed c u) = a_missed (wrote w c) u
      on (a_firing c u) = a_firing (wrote w c) u
      on (a_refuse c u f) = a_refuse (after_writing w c) u f
      on (a_gone x) = a_gone (past_rows w x)
  after_rows (c_no x h k) rest v = a_refuse (writing x refl) (record { steps = v.steps; rows = h }) (k _)

  -- .. and after a side reduction
  after_side_says : {d : ℕ} {m m₁ : Tally} {p q h : Ptr} {ys : List Ptr} {y : Store → Row → List Ptr → Try} {a : Ans} →
      Runs e d m p m₁ q → Spine m₁.store q [] h ys → AnsSays e lim (suc d) m₁ (y m₁.store (row_at m₁.store h.row) ys) a →
      AnsSays e lim (suc d) m (reduces p y) a
  after_side_says r s (a_missed c u) = a_missed (side r s c) u
  after_side_says r s (a_firing c u) = a_firing (side r s c) u
  after_side_says r s (a_refuse c u f) = a_refuse (after_side r s c) u f
  after_side_says r s (a_gone x) = a_gone (past_side r s x)

  -- from a side reduction's answer on
  from_side : {m : Tally} {p : Ptr} {D : ℕ} {o : Res} (y : Store → Row → List Ptr → Try) (rest : Tally → Ptr → List Ptr → Ans) →
      ((m₁ : Tally) (h : Ptr) (ys : List Ptr) → Within lim m₁ → AnsSays e lim D m₁ (y m₁.store (row_at m₁.store h.row) ys) (rest m₁ h ys)) →
      Within lim m → SideSays e lim m p D o → AnsSays e lim D m (reduces p y) (side_on lim rest o)
  from_side y rest ih v no_level_left = a_refuse too_deep v no_level
  from_side y rest ih v (a_level_left (r_no c u f)) = a_refuse (within c) u f
  from_side y rest ih v (a_level_left (r_lost x)) = a_gone (in_side x)
  from_side {m} {p} y rest ih v (a_level_left {d = b} (r_ok {m' = m₁} {t' = q} c u)) = on refl (spine_says _ m₁.store q [])
    where
      on : {x : Option Spined} → spine m₁.store q ≡ x → All (IsSpine m₁.store q []) x → AnsSays e lim (suc b) m (reduces p y) (spine_then lim (rest m₁) x)
      on i nothing = a_gone (no_side_head c i)
      on i (just s) = after_side_says c s (ih m₁ _ _ u)

  module _ (d : ℕ) (sd : Side) (sd_says : (m : Tally) (p : Ptr) → Within lim m → SideSays e lim m p d (sd m p)) where
    pub try_says : (y : Try) (m : Tally) → Within lim m → AnsSays e lim d m y (try lim sd y m)
    unfolding try
    try_says no_rule m v = a_missed misses v
    try_says (fires r xs) m v = a_firing fires_now v
    try_says (writes ws y) m v = after_rows (charge_says lim m.store (grow m.store ws) (ext_grow m.store ws) v.rows) (λ u. try_says y _ u) v
    try_says (reduces p y) m v = from_side y _ (λ m₁ h ys u. try_says (y m₁.store (row_at m₁.store h.row) ys) m₁ u) v (sd_says m p v)

    -- THE LOOP: one more head, and on with the result, for which enough of the count is left
    goes_on : {m : Tally} {t : Ptr} {h : Ptr} {xs zs : List Ptr} {m₁ : Tally} {r : Result} {again : Side} {o : Res} →
        Spine m.store t [] h xs → Comes e d m (rules e m.store h xs) m₁ (firing r zs) →
        ((m₂ : Tally) (t₂ : Ptr) → Within lim m₂ → m.steps < m₂.steps → ResSays e lim d m₂ t₂ (again m₂ t₂)) → PaySays lim m₁ r zs o →
        ResSays e lim d m t (go_on lim again o)
    goes_on s c ih (p_asks q u f) = r_no (paying s c q) u f
    goes_on s c ih (p_lost i) = r_lost (in_paying s c i)
    goes_on {m} {t} s c ih (p_paid {m' = m₂} {t' = t₂} p u) = on (ih m₂ t₂ u (a_step_more (later_comes e c) p))
      where
        on : {o : Res} → ResSays e lim d m₂ t₂ o → ResSays e lim d m t o
        on (r_ok q w) = r_ok (then s c p q) w
        on (r_no q w f) = r_no (later s c p q) w f
        on (r_lost x) = r_lost (in_the_rest s c p x)

    from_head : {m : Tally} {t : Ptr} {h : Ptr} {xs : List Ptr} {again : Side} {a : Ans} → Spine m.store t [] h xs →
        ((m₂ : Tally) (t₂ : Ptr) → Within lim m₂ → m.steps < m₂.steps → ResSays e lim d m₂ t₂ (again m₂ t₂)) →
        AnsSays e lim d m (rules e m.store h xs) a → ResSays e lim d m t (next lim again t a)
    from_head s ih (a_missed c u) = r_ok (final s c) u
    from_head s ih (a_firing {m' = m₁} {r = r} {xs = zs} c u) = goes_on s c ih (fire_says lim m₁ r zs u)
    from_head s ih (a_refuse c u f) = r_no (trying s c) u f
    from_head s ih (a_gone x) = r_lost (in_trying s x)

    pub loop_says : (f : ℕ) (m : Tally) (t : Ptr) → Within lim m → lim.steps < f + m.steps → ResSays e lim d m t (loop e lim sd f m t)
    unfolding loop at_the_head
    loop_says zero m t v l = let z = v.steps in absurd (omega arith)
    loop_says (suc f) m t v l = on (λ m₂ t₂ u h. loop_says f m₂ t₂ u (omega arith)) refl (spine_says _ m.store t [])
      where
        on : ((m₂ : Tally) (t₂ : Ptr) → Within lim m₂ → m.steps < m₂.steps → ResSays e lim d m₂ t₂ (loop e lim sd f m₂ t₂)) →
            {x : Option Spined} → spine m.store t ≡ x → All (IsSpine m.store t []) x →
            ResSays e lim d m t (next lim (λ m₂ t₂. loop e lim sd f m₂ t₂) t (spine_then lim (λ h xs. try lim sd (rules e m.store h xs) m) x))
        on ih i nothing = r_lost (no_head i)
        on ih i (just s) = from_head s ih (try_says _ m v)

  -- THE WHOLE
  pub side_says : (d : ℕ) (m : Tally) (t : Ptr) → Within lim m → SideSays e lim m t d (side_at e lim d m t)
  unfolding side_at
  side_says zero m t v = no_level_left
  side_says (suc d) m t v = a_level_left (loop_says d (side_at e lim d) (side_says d) (suc (lim.steps - m.steps)) m t v (omega arith))

  below : {d : ℕ} {m : Tally} {p : Ptr} {o : Res} → SideSays e lim m p (suc d) o → ResSays e lim d m p o
  below (a_level_left r) = r

  pub eval_says : (d : ℕ) (m : Tally) (t : Ptr) → Within lim m → ResSays e lim d m t (side_at e lim (suc d) m t)
  eval_says d m t v = below (side_says (suc d) m t v)

  pub says : (nesting : ℕ) (s : Store) (t : Ptr) → length s ≤ lim.rows → ResSays e lim nesting (tally 0 s) t (eval e lim nesting s t)
  unfolding eval
  says nesting s t h = eval_says nesting (tally 0 s) t (record { steps = omega arith; rows = h })
