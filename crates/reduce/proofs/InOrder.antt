-- The rules of a constant in order: a place in the course of trying them, where those before have missed, and its two ways on: to the answer of the
-- rule that is tried there, or past it to the next. Assumes what `constant` is given.
use Prim.Native.Nat.{ℕ}
use mathlib.Core.Path.{◌≡◌, refl, ap}
use mathlib.Core.List.{List}
use Rattle.rules.specs.Rows as rules
use Rattle.rules.specs.Declarations.{Env}
use Rattle.course.specs.Tries.{Try, ◌or_else◌}
use Rattle.safety.specs.Sane.{depth_of, decl_count}
use Rattle.safety.specs.Safe.{Safe}
use Rattle.ways.specs.Steps.{Step}
use Rattle.ways.specs.Spines.{args_of}
use Rattle.rows.specs.declared.Ptr.{Ptr}
use Rattle.rows.specs.Words.{ptr_of, store_of}
use Rattle.tables.specs.Env.{env_of}
use Rattle.state.specs.declared.Given.{Given}
use Rattle.state.specs.declared.Meter.{Meter}
use Rattle.state.specs.State.{Answer}
use Rattle.state.specs.State.{Left}
use Rattle.cycle.specs.Cycle.{Counted}
use Rattle.cycle.proofs.WaysOut.{left_as}
use Rattle.cycle.proofs.Constants.{tried, else_fires, else_stops, else_passes, counted_after_miss, arguments_after_miss}
use Rattle.reduce.proofs.Answers.{left_when}
use Rattle.std.specs.Prelude.{Err, Ok}
use Rattle.state.specs.declared.Tried.TheVariants.{Term, Final}

-- begun with sc and m, the call stands at sc₁ and m₁, and the rules from `rest` on are still to be tried: their answer is the call's
pub record Place (l ds rs cs sc : List ℕ) (g : Given) (m : Meter) (t : Ptr) (count n : ℕ) (whole : Step) (sc₁ : List ℕ) (m₁ : Meter) (rest : List rules.Ptr → Try) : Type 0 where
  pub counted : Counted l ds rs cs sc₁ g m₁ t count
  pub through : (r : Answer) (sc₂ : List ℕ) →
      Left l sc₁ m₁ r sc₂ (tried (env_of ds rs cs g.depth) l g n sc₁ m₁ (rest (args_of (store_of l sc₁ m₁.mark) (ptr_of t)))) → Left l sc m r sc₂ whole

-- no rule was tried yet
pub begins : {l ds rs cs sc : List ℕ} {g : Given} {m : Meter} {t : Ptr} {count : ℕ} (n : ℕ) (rest : List rules.Ptr → Try) → Counted l ds rs cs sc g m t count →
    Place l ds rs cs sc g m t count n (tried (env_of ds rs cs g.depth) l g n sc m (rest (args_of (store_of l sc m.mark) (ptr_of t)))) sc m rest
begins n rest c = record { counted = c; through = λ r sc₂ k. k }

module _ {l ds rs cs sc : List ℕ} {g : Given} {m : Meter} {t : Ptr} {count n : ℕ} {whole : Step} {sc₁ : List ℕ} {m₁ : Meter} (y z : List rules.Ptr → Try)
    (p : Place l ds rs cs sc g m t count n whole sc₁ m₁ (λ xs. y xs or_else z xs)) where
  abbrev e : Env
  e = env_of ds rs cs g.depth

  abbrev xs : List rules.Ptr
  xs = args_of (store_of l sc₁ m₁.mark) (ptr_of t)

  module _ {r : Answer} {sc₂ : List ℕ} (first : Left l sc₁ m₁ r sc₂ (tried e l g n sc₁ m₁ (y xs))) where
    -- the rule that is tried here misses, and the next one stands where it ended
    pub passes : {m₂ : Meter} → Safe (decl_count e) (depth_of e) (store_of l sc₁ m₁.mark) (y xs) → r ≡ Ok (Final m₂) → Place l ds rs cs sc g m t count n whole sc₂ m₂ z
    passes {m₂} safe is =
        let missed = left_when is first in
        record {
          counted = counted_after_miss p.counted n safe missed;
          through = λ r' sc₃ k.
              p.through r' sc₃
              (else_passes e l g n sc₁ m₁ (y xs) (z xs) missed
              (left_as (ap (λ (ys : List rules.Ptr). tried e l g n sc₂ m₂ (z ys)) (arguments_after_miss p.counted n safe missed)) k));
        }

    -- it does not miss, and its answer is the call's
    pub answers : ((m₂ : Meter) → r ≡ Ok (Final m₂) → ⊥) → Left l sc m r sc₂ whole
    answers other = p.through r sc₂ (on r first other)
      where
        on : (a : Answer) → Left l sc₁ m₁ a sc₂ (tried e l g n sc₁ m₁ (y xs)) → ((m₂ : Meter) → a ≡ Ok (Final m₂) → ⊥) →
            Left l sc₁ m₁ a sc₂ (tried e l g n sc₁ m₁ (y xs or_else z xs))
        on (Ok (Term q m₂)) k h = else_fires e l g n sc₁ m₁ (y xs) (z xs) k
        on (Ok (Final m₂)) k h = absurd (h m₂ refl)
        on (Err j) k h = else_stops e l g n sc₁ m₁ (y xs) (z xs) k
