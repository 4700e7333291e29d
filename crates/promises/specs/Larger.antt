-- Larger budgets give the same term: more steps, more rows, more nesting change no answer that is a term. It holds for all stores. No premise says that
-- the evaluator is not lost: what it goes down by is the rows' heights, and they are the same under all budgets.
use Prim.Native.Nat.{ℕ, zero, suc, ◌-◌, ◌≤◌}
use Rattle.std.proofs.Common.{arith}
use Rattle.std.specs.Prelude.{◌≡◌, length, drop}
use mathlib.Core.List.{List, [], ◌∷◌, ◌++◌}
use Rattle.std.proofs.Math.Option.{Option, none, some}
use Rattle.rules.specs.Rows.{Ptr, Cell, Store, row_at, grow, Got}
use Rattle.rules.specs.Declarations.{Env}
use Rattle.rules.specs.Firings.{Tally, tally, Result, a_number}
use Rattle.rules.specs.Refusals.{Limits}
use Rattle.course.specs.Views.{Cmp, up_to, over, cmp, FitView, fits, no_fit, fit_view, NumberView, in_range, too_big, number_view}
use Rattle.course.specs.Tries.{Try, no_rule, fires, writes, reduces, rules, End, Runs, final, then, Comes, misses, fires_now, wrote, side}
use Rattle.course.specs.Eval.{Spined, spine, due_of, Res, ok, no, lost, Ans, missed, firing, refuse, gone, Side, emit_on, emit, paid_on, due_on, fire_on}
use Rattle.course.specs.Eval.{fire, wrote_on, spine_then, side_on, try, at_the_head, go_on, next, loop, side_at, eval}

pub record AtLeast (lim lim' : Limits) : Type 0 where
  pub steps : lim.steps ≤ lim'.steps
  pub rows : lim.rows ≤ lim'.rows

-- THE TRIES: a run with d levels left is one with more
module _ (e : Env) where
  mutual
    pub runs_deeper : {d d' : ℕ} {m m' : Tally} {t t' : Ptr} → Runs e d m t m' t' → d ≤ d' → Runs e d' m t m' t'
    runs_deeper (final s c) l = final s (comes_deeper c l)
    runs_deeper (then s c p r) l = then s (comes_deeper c l) p (runs_deeper r l)

    pub comes_deeper : {d d' : ℕ} {m m' : Tally} {y : Try} {o : End} → Comes e d m y m' o → d ≤ d' → Comes e d' m y m' o
    comes_deeper misses l = misses
    comes_deeper fires_now l = fires_now
    comes_deeper (wrote w c) l = wrote w (comes_deeper c l)
    comes_deeper {d' = zero} (side r s c) l = absurd (omega arith)
    comes_deeper {d' = suc d'} (side r s c) l = side (runs_deeper {d' = d'} r (omega arith)) s (comes_deeper c l)

-- THE EVALUATOR: what the first answer is, under larger budgets; of a refusal, and of `lost`, nothing is said
data Kept : Res → Res → Type 0 where
  the_term : {m : Tally} {t : Ptr} → Kept (ok m t) (ok m t)
  was_no : {k : ℕ} {o : Res} → Kept (no k) o
  was_lost : {o : Res} → Kept lost o

kept_term : {o o' : Res} {m : Tally} {t : Ptr} → Kept o o' → o ≡ ok m t → o' ≡ ok m t
kept_term the_term q = q
kept_term {m = m} {t = t} (was_no {k = k}) q = absurd (let z : ◌≡◌ {A = ℕ} 0 1 = cc in omega arith)
kept_term {m = m} {t = t} was_lost q = absurd (let z : ◌≡◌ {A = ℕ} 0 1 = cc in omega arith)

data KeptAns : Ans → Ans → Type 0 where
  the_miss : {m : Tally} → KeptAns (missed m) (missed m)
  the_firing : {m : Tally} {r : Result} {xs : List Ptr} → KeptAns (firing m r xs) (firing m r xs)
  was_refuse : {k : ℕ} {o : Ans} → KeptAns (refuse k) o
  was_gone : {o : Ans} → KeptAns gone o

data KeptRows : Option ℕ → Option ℕ → Type 0 where
  all_stand : KeptRows none none
  one_fails : {k : ℕ} {o : Option ℕ} → KeptRows (some k) o

module _ (lim lim' : Limits) (more : AtLeast lim lim') where
  emit_larger : (s : Store) (xs : List Cell) → KeptRows (emit lim s xs) (emit lim' s xs)
  unfolding emit
  emit_larger s [] = all_stand
  emit_larger s (x ∷ xs) = on (fit_view x) (cmp lim.rows (length s)) (cmp lim'.rows (length s)) (emit_larger (s ++ (x ∷ [])) xs)
    where
      on : {o o' : Option ℕ} (f : FitView x) (c : Cmp lim.rows (length s)) (c' : Cmp lim'.rows (length s)) → KeptRows o o' →
          KeptRows (emit_on lim x s f c o) (emit_on lim' x s f c' o')
      on (no_fit n) c c' k = one_fails
      on (fits h) (up_to l) c' k = one_fails
      on (fits h) (over l) (up_to l') k = let z = more.rows in absurd (omega arith)
      on (fits h) (over l) (over l') k = k

  fire_larger : (m : Tally) (r : Result) (xs : List Ptr) → Kept (fire lim m r xs) (fire lim' m r xs)
  unfolding fire
  fire_larger m r xs = on r (cmp lim.steps m.steps) (cmp lim'.steps m.steps) (number_view r)
    where
      paid : (m₁ : Tally) (t : Ptr) {o o' : Option ℕ} → KeptRows o o' → Kept (paid_on lim m₁ t o) (paid_on lim' m₁ t o')
      paid m₁ t all_stand = the_term
      paid m₁ t one_fails = was_no

      due : (x : Option Got) → Kept (due_on lim m x) (due_on lim' m x)
      due none = was_lost
      due (some g) = paid (tally (suc m.steps) g.store) g.at (emit_larger m.store (drop (length m.store) g.store))

      on : (r : Result) (c : Cmp lim.steps m.steps) (c' : Cmp lim'.steps m.steps) (n : NumberView r) → Kept (fire_on lim m r xs c n) (fire_on lim' m r xs c' n)
      on r (up_to h) c' n = was_no
      on r (over h) (up_to h') n = let z = more.steps in absurd (omega arith)
      on (a_number n) (over h) (over h') (too_big l) = was_no
      on r (over h) (over h') (in_range l) = due (due_of m.store r xs)

  -- after rows written, and after a side reduction
  wrote_larger : {a a' : Ans} {o o' : Option ℕ} → KeptRows o o' → KeptAns a a' → KeptAns (wrote_on lim (λ z. a) o) (wrote_on lim' (λ z. a') o')
  wrote_larger all_stand k = k
  wrote_larger one_fails k = was_refuse

  spine_larger : {a a' : Ptr → List Ptr → Ans} (x : Option Spined) → ((h : Ptr) (ys : List Ptr) → KeptAns (a h ys) (a' h ys)) →
      KeptAns (spine_then lim a x) (spine_then lim' a' x)
  spine_larger none k = was_gone
  spine_larger (some h) k = k h.head h.arguments

  side_then_larger : {a a' : Tally → Ptr → List Ptr → Ans} {o o' : Res} → ((m : Tally) (h : Ptr) (ys : List Ptr) → KeptAns (a m h ys) (a' m h ys)) → Kept o o' →
      KeptAns (side_on lim a o) (side_on lim' a' o')
  side_then_larger k (the_term {m = m} {t = q}) = spine_larger (spine m.store q) (k m)
  side_then_larger k was_no = was_refuse
  side_then_larger k was_lost = was_gone

  module _ (e : Env) where
    module _ (sd sd' : Side) (sd_larger : (m : Tally) (p : Ptr) → Kept (sd m p) (sd' m p)) where
      try_larger : (y : Try) (m : Tally) → KeptAns (try lim sd y m) (try lim' sd' y m)
      unfolding try
      try_larger no_rule m = the_miss
      try_larger (fires r xs) m = the_firing
      try_larger (writes ws y) m =
          wrote_larger (emit_larger m.store (drop (length m.store) (grow m.store ws))) (try_larger y (tally m.steps (grow m.store ws)))
      try_larger (reduces p y) m = side_then_larger (λ m₁ h ys. try_larger (y m₁.store (row_at m₁.store h.row) ys) m₁) (sd_larger m p)

      next_larger : {again again' : Side} {a a' : Ans} (t : Ptr) → ((m : Tally) (t : Ptr) → Kept (again m t) (again' m t)) → KeptAns a a' →
          Kept (next lim again t a) (next lim' again' t a')
      next_larger t k the_miss = the_term
      next_larger t k was_refuse = was_no
      next_larger t k was_gone = was_lost
      next_larger {again} {again'} t k (the_firing {m = m} {r = r} {xs = xs}) = on (fire_larger m r xs)
        where
          on : {o o' : Res} → Kept o o' → Kept (go_on lim again o) (go_on lim' again' o')
          on (the_term {m = m} {t = t}) = k m t
          on was_no = was_no
          on was_lost = was_lost

      loop_larger : (f f' : ℕ) → f ≤ f' → (m : Tally) (t : Ptr) → Kept (loop e lim sd f m t) (loop e lim' sd' f' m t)
      unfolding loop at_the_head
      loop_larger zero f' l m t = was_lost
      loop_larger (suc f) zero l m t = absurd (omega arith)
      loop_larger (suc f) (suc f') l m t =
          next_larger t (λ m₁ t₁. loop_larger f f' (omega arith) m₁ t₁) (spine_larger (spine m.store t) (λ h xs. try_larger (rules e m.store h xs) m))

    side_larger : (d d' : ℕ) → d ≤ d' → (m : Tally) (t : Ptr) → Kept (side_at e lim d m t) (side_at e lim' d' m t)
    unfolding side_at
    side_larger zero d' l m t = was_no
    side_larger (suc d) zero l m t = absurd (omega arith)
    side_larger (suc d) (suc d') l m t =
        let z = more.steps in
        loop_larger (side_at e lim d) (side_at e lim' d') (side_larger d d' (omega arith)) (suc (lim.steps - m.steps)) (suc (lim'.steps - m.steps)) (omega arith) m t

pub larger : (e : Env) {lim lim' : Limits} {n n' : ℕ} (s : Store) (t : Ptr) {m : Tally} {t' : Ptr} → AtLeast lim lim' → n ≤ n' →
    eval e lim n s t ≡ ok m t' → eval e lim' n' s t ≡ ok m t'
unfolding eval
larger e {lim} {lim'} {n} {n'} s t more l q = kept_term (side_larger lim lim' more e (suc n) (suc n') (omega arith) (tally 0 s) t) q
