-- The simulation in the rules' own words: with as many steps and as many free rows on both sides an embedding carries an answer to the same answer, its
-- term renamed, with the same steps and as many rows, and a refusal to the same refusal. Assumes the embedding and environments that are alike under it.
use Rattle.std.specs.Prelude.{ℕ, ◌+◌, ◌≡◌, length}
use Rattle.std.proofs.Common.{arith, subst}
use Rattle.rules.specs.Rows.{Ptr, Store}
use Rattle.rules.specs.Declarations.{Env}
use Rattle.rules.specs.Firings.{tally}
use Rattle.rules.specs.HeadRules.{Reduces}
use Rattle.rules.specs.Refusals.{Limits, Refused, Answered}
use Rattle.course.specs.ToTries.{to_runs, to_meets}
use Rattle.course.specs.FromTries.{from_runs}
use Rattle.course.specs.FromDemands.{from_meets}
use Rattle.again.specs.Embeds.{ren, Embeds}
use Rattle.again.specs.Course.{EnvCarried, runs_carried, SameRoom, within_renamed, refusal_carried}

module _ (ρ : ℕ → ℕ) (e ẽ : Env) where
  -- as many steps and as many free rows
  pub record SameFree (lim l̃im : Limits) (s s̃ : Store) : Type 0 where
    pub steps : l̃im.steps ≡ lim.steps
    pub rows : l̃im.rows + length s ≡ length s̃ + lim.rows

  at_start : {lim l̃im : Limits} {s s̃ : Store} → SameFree lim l̃im s s̃ → SameRoom ρ e ẽ lim l̃im (tally 0 s) (tally 0 s̃)
  at_start z = record { steps = let p = z.steps in omega arith; rows = z.rows }

  pub record AnswerCarried (l̃im : Limits) (n : ℕ) (s s̃ : Store) (t t' : Ptr) (steps : ℕ) (s' : Store) : Type 0 where
    pub store : Store
    pub answered : Answered ẽ l̃im n s̃ (ren ρ t) (ren ρ t') steps store
    pub embeds : Embeds ρ s' store
    pub rows : length store + length s ≡ length s̃ + length s'

  pub answer_carried : {lim l̃im : Limits} {n steps : ℕ} {s s̃ s' : Store} {t t' : Ptr} → Embeds ρ s s̃ → EnvCarried ρ e ẽ s s̃ → SameFree lim l̃im s s̃ →
      Answered e lim n s t t' steps s' → AnswerCarried l̃im n s s̃ t t' steps s'
  answer_carried {lim} {l̃im} {n} {steps} {s} {s̃} {s'} {t} {t'} i v z a =
      let k = runs_carried ρ e ẽ {m̃ = tally 0 s̃} i v (to_runs e a.reduces) in
      let same : k.to.steps ≡ steps = let q = k.steps in omega arith in
      let room : SameRoom ρ e ẽ lim l̃im (tally steps s') (tally steps k.to.store) = record {
        steps = let p = z.steps in omega arith;
        rows = let p = z.rows in let q = k.rows in omega arith;
      } in
      record {
        store = k.to.store;
        answered = record {
          reduces = subst (λ (u : ℕ). Reduces ẽ n (tally 0 s̃) (ren ρ t) (tally u k.to.store) (ren ρ t')) same (from_runs ẽ k.runs);
          within = within_renamed ρ e ẽ room a.within;
        };
        embeds = k.embeds;
        rows = k.rows;
      }

  pub refused_carried : {lim l̃im : Limits} {n k : ℕ} {s s̃ : Store} {t : Ptr} → Embeds ρ s s̃ → EnvCarried ρ e ẽ s s̃ → SameFree lim l̃im s s̃ →
      Refused e lim n s t k → Refused ẽ l̃im n s̃ (ren ρ t) k
  refused_carried {s̃ = s̃} i v z a =
      let j = refusal_carried ρ e ẽ {m̃ = tally 0 s̃} i v (at_start z) (to_meets e a.meets) a.within a.fails in
      record { demand = j.demand; at = j.at; meets = from_meets ẽ j.meets; within = j.within; fails = j.fails }
