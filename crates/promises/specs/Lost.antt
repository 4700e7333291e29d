-- What `lost` means: a course comes to a place where the recorded height is too small, for the spine of a term or for the rows of a firing.
-- Definitions only. `eval_lost` of Complete.antt shows that the evaluator is lost in no other way; that a course over rows which pass comes to no such
-- place is `run_never_lost` of safety/NeverLost.antt.
use Rattle.std.specs.Prelude.{ℕ, suc, ◌≡◌, List, []}
use Rattle.std.proofs.Math.Option.{none}
use Rattle.rules.specs.Rows.{Ptr, Row, Store, row_at, grow}
use Rattle.rules.specs.Declarations.{Env}
use Rattle.rules.specs.Spines.{Spine}
use Rattle.rules.specs.Firings.{Tally, tally, Result, Written, Pays}
use Rattle.course.specs.Tries.{Try, writes, reduces, rules, firing, Runs, Comes}
use Rattle.course.specs.Eval.{spine, due_of}

mutual
  -- with d levels left below this one
  pub data RunLoses (e : Env) : ℕ → Tally → Ptr → Type 0 where
    no_head : {d : ℕ} {m : Tally} {t : Ptr} → spine m.store t ≡ none → RunLoses e d m t
    in_trying : {d : ℕ} {m : Tally} {t h : Ptr} {xs : List Ptr} → Spine m.store t [] h xs → TryLoses e d m (rules e m.store h xs) → RunLoses e d m t
    in_paying : {d : ℕ} {m m₁ : Tally} {t h : Ptr} {xs zs : List Ptr} {r : Result} →
        Spine m.store t [] h xs → Comes e d m (rules e m.store h xs) m₁ (firing r zs) → due_of m₁.store r zs ≡ none → RunLoses e d m t
    in_the_rest : {d : ℕ} {m m₁ m₂ : Tally} {t t₂ h : Ptr} {xs zs : List Ptr} {r : Result} →
        Spine m.store t [] h xs → Comes e d m (rules e m.store h xs) m₁ (firing r zs) → Pays m₁ r zs m₂ t₂ → RunLoses e d m₂ t₂ → RunLoses e d m t

  pub data TryLoses (e : Env) : ℕ → Tally → Try → Type 0 where
    past_rows : {d : ℕ} {m : Tally} {ws : List Row} {y : Try} →
        Written m.store (grow m.store ws) → TryLoses e d (tally m.steps (grow m.store ws)) y → TryLoses e d m (writes ws y)
    in_side : {d : ℕ} {m : Tally} {p : Ptr} {y : Store → Row → List Ptr → Try} → RunLoses e d m p → TryLoses e (suc d) m (reduces p y)
    no_side_head : {d : ℕ} {m m₁ : Tally} {p q : Ptr} {y : Store → Row → List Ptr → Try} →
        Runs e d m p m₁ q → spine m₁.store q ≡ none → TryLoses e (suc d) m (reduces p y)
    past_side : {d : ℕ} {m m₁ : Tally} {p q h : Ptr} {ys : List Ptr} {y : Store → Row → List Ptr → Try} →
        Runs e d m p m₁ q → Spine m₁.store q [] h ys → TryLoses e (suc d) m₁ (y m₁.store (row_at m₁.store h.row) ys) →
        TryLoses e (suc d) m (reduces p y)
