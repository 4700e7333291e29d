-- A side reduction at each count of levels: none left is 6, and one more level is the loop over firings with one less.
-- Assumes nothing.
use Prim.Native.Nat.{ℕ, suc, ◌-◌}
use native.Mathlib.Omega.{arith}
use mathlib.Core.Path.{◌≡◌, refl, sym, ap, subst}
use mathlib.Core.List.{List}
use Rattle.course.specs.Eval.{side_at}
use Rattle.safety.specs.Lists.{none_some}
use Rattle.rows.specs.declared.Ptr.{Ptr}
use Rattle.rows.specs.Words.{ptr_of}
use Rattle.tables.specs.Env.{env_of}
use Rattle.state.specs.declared.Given.{Given}
use Rattle.state.specs.declared.Meter.{Meter}
use Rattle.state.specs.State.{Reduced}
use Rattle.state.specs.State.{tally_of, limits_in}
use Rattle.cycle.specs.Cycle.{Ran, res_by}
use Rattle.std.specs.Prelude.{Err}
use Rattle.rows.specs.declared.refusals.Refusal.TheVariants.{NoLevel}

module _ (l ds rs cs sc : List ℕ) (g : Given) (m : Meter) (p : Ptr) (n : ℕ) where
  pub no_level_left : n ≡ 0 → Ran l sc m (Err NoLevel) sc (res_by l ds rs cs sc g m n (ptr_of p))
  unfolding side_at
  no_level_left none = record {
    says = sym (ap (λ (k : ℕ). side_at (env_of ds rs cs g.depth) (limits_in g sc) k (tally_of l sc m) (ptr_of p)) none);
    kept = refl;
    same_length = refl;
    grown = λ m' z. absurd (none_some z);
  }

  pub one_level_deeper : (n ≡ 0 → ⊥) → {r : Reduced} {sc' : List ℕ} → Ran l sc m r sc' (res_by l ds rs cs sc g m (suc (n - 1)) (ptr_of p)) →
      Ran l sc m r sc' (res_by l ds rs cs sc g m n (ptr_of p))
  one_level_deeper some {r} {sc'} ran =
      let same : suc (n - 1) ≡ n = omega arith in subst (λ (k : ℕ). Ran l sc m r sc' (res_by l ds rs cs sc g m k (ptr_of p))) same ran
