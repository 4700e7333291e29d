-- The four rules of a constant as places in their order: quotients, then recursors, then arithmetic, then delta.
-- Assumes what `constant` is given.
use Prim.Native.Nat.{ℕ, ◌+◌, ◌/◌, ◌<◌}
use mathlib.Core.Path.{◌≡◌, sym, ap, ◌∙◌, subst}
use mathlib.Core.List.{List}
use lib.ListN.{length}
use Rattle.rules.specs.Rows as rules
use Rattle.rules.specs.Accepted.{part}
use Rattle.rules.specs.Declarations.{Decl, Env, decl_at}
use Rattle.course.specs.Tries.{Try, ◌or_else◌, quot, recursion, arithmetic, delta, constant}
use Rattle.safety.specs.Safe.{safe_quot, safe_recursion, safe_arithmetic}
use Rattle.ways.specs.Spines.{args_of}
use Rattle.rows.specs.declared.Ptr.{Ptr}
use Rattle.rows.specs.Words.{ptr_of, store_of}
use Rattle.tables.specs.Env.{env_of}
use Rattle.tables.specs.declared.Decl as words
use Rattle.tables.specs.Read.{decl_read, value_given}
use Rattle.state.specs.declared.Given.{Given}
use Rattle.state.specs.declared.Meter.{Meter}
use Rattle.state.specs.State.{Answer}
use Rattle.state.specs.State.{tally_of, limits_in, Left}
use Rattle.firing.specs.Fires.{unfold_step, unfolds_to}
use Rattle.cycle.specs.Cycle.{Counted}
use Rattle.cycle.specs.Members.{quotient, recursed, computed, constantly}
use Rattle.cycle.proofs.WaysOut.{left_as}
use Rattle.cycle.proofs.Unfolding.{delta_tried}
use Rattle.cycle.proofs.Values.{value_below}
use Rattle.cycle.proofs.Binders.{arguments_in}
use Rattle.reduce.proofs.InOrder.{Place, begins, passes, answers}
use Rattle.std.specs.Prelude.{IfSome, Ok}
use Rattle.state.specs.declared.Tried.TheVariants.{Final}

-- what is still to be tried at each place, over the constant's arguments
module _ (e : Env) (d levels : ℕ) where
  abbrev D : Decl
  D = decl_at e.decls d

  abbrev pub by_delta : List rules.Ptr → Try
  by_delta xs = delta D levels xs

  abbrev pub from_arithmetic : List rules.Ptr → Try
  from_arithmetic xs = arithmetic e D xs or_else by_delta xs

  abbrev pub from_recursion : List rules.Ptr → Try
  from_recursion xs = recursion e D levels xs or_else from_arithmetic xs

  abbrev pub from_quotients : List rules.Ptr → Try
  from_quotients xs = quot e D xs or_else from_recursion xs

-- a place of the call that was begun with sc and m
abbrev pub At : (l ds rs cs sc : List ℕ) (g : Given) (m : Meter) (t : Ptr) (count n d levels : ℕ) → List ℕ → Meter → (Env → ℕ → ℕ → List rules.Ptr → Try) → Type 0
At l ds rs cs sc g m t count n d levels sc₁ m₁ rest =
    Place l ds rs cs sc g m t count n (constantly l ds rs cs sc g m t n d levels) sc₁ m₁ (rest (env_of ds rs cs g.depth) d levels)

pub quotients_first : {l ds rs cs sc : List ℕ} {g : Given} {m : Meter} {t : Ptr} {count : ℕ} (n d levels : ℕ) → Counted l ds rs cs sc g m t count →
    At l ds rs cs sc g m t count n d levels sc m from_quotients
unfolding constant
quotients_first {ds = ds} {rs} {cs} {g = g} n d levels c = begins n (from_quotients (env_of ds rs cs g.depth) d levels) c

module _ (d levels : ℕ) {l ds rs cs sc : List ℕ} {g : Given} {m : Meter} {t : Ptr} {count n : ℕ} {sc₁ : List ℕ} {m₁ : Meter} {r : Answer} {sc₂ : List ℕ} where
  -- QUOTIENTS
  module _ (p : At l ds rs cs sc g m t count n d levels sc₁ m₁ from_quotients) (k : Left l sc₁ m₁ r sc₂ (quotient l ds rs cs sc₁ g m₁ t n d)) where
    pub quotients_answer : ((m₂ : Meter) → r ≡ Ok (Final m₂) → ⊥) → Left l sc m r sc₂ (constantly l ds rs cs sc g m t n d levels)
    quotients_answer = answers (quot _ _) (from_recursion _ d levels) p k

    pub recursion_next : {m₂ : Meter} → r ≡ Ok (Final m₂) → At l ds rs cs sc g m t count n d levels sc₂ m₂ from_recursion
    recursion_next = passes (quot _ _) (from_recursion _ d levels) p k (safe_quot p.counted.asked.stand.sane (arguments_in p.counted.asked n) _)

  -- RECURSORS
  module _ (p : At l ds rs cs sc g m t count n d levels sc₁ m₁ from_recursion) (k : Left l sc₁ m₁ r sc₂ (recursed l ds rs cs sc₁ g m₁ t n d levels)) where
    pub recursion_answers : ((m₂ : Meter) → r ≡ Ok (Final m₂) → ⊥) → Left l sc m r sc₂ (constantly l ds rs cs sc g m t n d levels)
    recursion_answers = answers (recursion _ _ levels) (from_arithmetic _ d levels) p k

    pub arithmetic_next : {m₂ : Meter} → r ≡ Ok (Final m₂) → At l ds rs cs sc g m t count n d levels sc₂ m₂ from_arithmetic
    arithmetic_next = passes (recursion _ _ levels) (from_arithmetic _ d levels) p k (safe_recursion p.counted.asked.stand.sane (arguments_in p.counted.asked n) d levels)

  -- ARITHMETIC
  module _ (p : At l ds rs cs sc g m t count n d levels sc₁ m₁ from_arithmetic) (k : Left l sc₁ m₁ r sc₂ (computed l ds rs cs sc₁ g m₁ t n d)) where
    pub arithmetic_answers : ((m₂ : Meter) → r ≡ Ok (Final m₂) → ⊥) → Left l sc m r sc₂ (constantly l ds rs cs sc g m t n d levels)
    arithmetic_answers = answers (arithmetic _ _) (by_delta (env_of ds rs cs g.depth) d levels) p k

    pub delta_last : {m₂ : Meter} → r ≡ Ok (Final m₂) → At l ds rs cs sc g m t count n d levels sc₂ m₂ by_delta
    delta_last = passes (arithmetic _ _) (by_delta (env_of ds rs cs g.depth) d levels) p k (safe_arithmetic p.counted.asked.stand.sane (arguments_in p.counted.asked n) _)

-- DELTA, with the declaration that was read; whatever it answers
module _ (d levels : ℕ) {l ds rs cs sc : List ℕ} {g : Given} {m : Meter} {t : Ptr} {count n : ℕ} {sc₁ : List ℕ} {m₁ : Meter}
    (p : At l ds rs cs sc g m t count n d levels sc₁ m₁ by_delta) (there : d < length ds / 16) {read : words.Decl} (is : read ≡ decl_read (part 16 ds d)) where
  pub value_stands : IfSome (value_given read) (λ v. v.row < g.nlib + m₁.mark)
  value_stands = subst (λ (z : words.Decl). IfSome (value_given z) (λ v. v.row < g.nlib + m₁.mark)) (sym is) (value_below p.counted.asked.stand d there)

  pub delta_answers : {r : Answer} {sc₂ : List ℕ} →
      Left l sc₁ m₁ r sc₂ (unfold_step (limits_in g sc₁) (tally_of l sc₁ m₁) (unfolds_to read levels) (args_of (store_of l sc₁ m₁.mark) (ptr_of t))) →
      Left l sc m r sc₂ (constantly l ds rs cs sc g m t n d levels)
  delta_answers {r} {sc₂} k =
      p.through r sc₂
      (left_as
      (ap (λ (z : words.Decl). unfold_step (limits_in g sc₁) (tally_of l sc₁ m₁) (unfolds_to z levels) (args_of (store_of l sc₁ m₁.mark) (ptr_of t))) is
      ∙ delta_tried p.counted.asked n d levels there)
      k)
