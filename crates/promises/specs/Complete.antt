-- The evaluator is complete: a run within the limits is what it answers, and the demand that fails them is what it refuses with. It holds for all stores,
-- where the evaluator is not lost; and it is lost only where a course comes to a recorded height that is too small. (A run alone does not exclude that:
-- the rules go down the rows without counting.)
use Rattle.std.specs.Prelude.{ℕ, ◌≤◌, ◌≡◌, refl, length}
use Rattle.std.proofs.Common.{arith, le_refl}
use Rattle.rules.specs.Rows.{Ptr, Store}
use Rattle.rules.specs.Declarations.{Env}
use Rattle.rules.specs.Firings.{Tally, tally}
use Rattle.rules.specs.Refusals.{Demand, Limits, Within, Fails}
use Rattle.course.specs.Tries.{Runs, RunMeets}
use Rattle.course.specs.Eval.{Res, ok, no, lost, eval}
use Rattle.promises.specs.Stores.{within_earlier, later_runs, later_run_meets}
use Rattle.promises.specs.Lost.{RunLoses}
use Rattle.promises.specs.Says.{ResSays, r_ok, r_no, r_lost, says}
use Rattle.promises.specs.Same.{runs_same}
use Rattle.promises.specs.Apart.{runs_apart}
use Rattle.promises.specs.First.{Stops, refusals_same}

module _ (e : Env) (lim : Limits) where
  -- an answer of which something is said is the run's end ..
  term_only : {d : ℕ} {m m₁ : Tally} {t t₁ : Ptr} {o : Res} → Runs e d m t m₁ t₁ → Within lim m₁ → ResSays e lim d m t o → (o ≡ lost → ⊥) → o ≡ ok m₁ t₁
  term_only r v (r_ok r' v') l = let z = runs_same e r r' in rw (z.tally, z.term)
  term_only r v (r_no x v' f) l = absurd (runs_apart e lim r v (le_refl _) x f)
  term_only r v (r_lost x) l = absurd (l refl)

  -- .. or the failing demand's number
  refusal_only : {d k : ℕ} {m m₁ : Tally} {t : Ptr} {a : Demand} {o : Res} → RunMeets e d m t a m₁ → Stops lim m₁ a k → ResSays e lim d m t o → (o ≡ lost → ⊥) → o ≡ no k
  refusal_only x h (r_ok r v) l = absurd (runs_apart e lim r v (le_refl _) x h.fails)
  refusal_only x h (r_no x' v f) l = rw (refusals_same e lim x h x' (record { within = v; fails = f }))
  refusal_only x h (r_lost y) l = absurd (l refl)

  pub eval_complete_term : {n : ℕ} {s : Store} {t t' : Ptr} {m : Tally} → Runs e n (tally 0 s) t m t' → Within lim m →
      (eval e lim n s t ≡ lost → ⊥) → eval e lim n s t ≡ ok m t'
  eval_complete_term {n} {s} {t} r v l = term_only r v (says e lim n s t (within_earlier (later_runs e r) v).rows) l

  pub eval_complete_refusal : {n k : ℕ} {s : Store} {t : Ptr} {a : Demand} {m : Tally} → RunMeets e n (tally 0 s) t a m → Within lim m → Fails lim m a k →
      (eval e lim n s t ≡ lost → ⊥) → eval e lim n s t ≡ no k
  eval_complete_refusal {n} {s = s} {t = t} x v f l =
      refusal_only x (record { within = v; fails = f }) (says e lim n s t (within_earlier (later_run_meets e x) v).rows) l

  lost_only : {d : ℕ} {m : Tally} {t : Ptr} {o : Res} → ResSays e lim d m t o → o ≡ lost → RunLoses e d m t
  lost_only (r_ok {m' = m'} {t' = t'} r v) q = absurd (let z : ◌≡◌ {A = ℕ} 0 1 = cc in omega arith)
  lost_only (r_no {k = k} x v f) q = absurd (let z : ◌≡◌ {A = ℕ} 0 1 = cc in omega arith)
  lost_only (r_lost x) q = x

  pub eval_lost : {n : ℕ} {s : Store} {t : Ptr} → length s ≤ lim.rows → eval e lim n s t ≡ lost → RunLoses e n (tally 0 s) t
  eval_lost {n} {s} {t} h q = lost_only (says e lim n s t h) q
