-- What arithmetic gives, as every environment that agrees with the table of holders has it: the number, or the constant that holds the truth
-- value; and so the row that is due for it, or refusal 7.
-- Assumes nothing.
use Prim.Native.Nat.{ℕ, ◌+◌, ◌/◌, ◌%◌, ◌-◌, ◌^◌, ◌≤◌, ◌<◌}
use native.Mathlib.Omega.{arith}
use mathlib.Core.Path.{◌≡◌, refl, sym, ap, ◌∙◌}
use mathlib.Core.Bool.{Bool, true, false}
use mathlib.Core.List.{List, []}
use mathlib.Core.Option.{Option, some}
use borrow.Author.Tests.{leb-true, leb-false}
use lib.Dec.{leb}
use lib.ListN.{length}
use Rattle.rules.specs.Maxima.{most_number}
use Rattle.rules.specs.Kinds.{const, num}
use Rattle.rules.specs.Rows.{leaf}
use Rattle.rules.specs.Declarations.{Env}
use Rattle.rules.specs.Arithmetic.{Computed, number, truth, words_value}
use Rattle.rules.specs.Firings.{Tally, Result, a_number, a_constant}
use Rattle.rules.specs.HeadTests.{given, outcome}
use Rattle.rules.specs.Refusals.{Limits}
use Rattle.course.specs.Charged.{put_in}
use Rattle.ways.specs.Steps.{Step, stopped, out_step, fire_in}
use Rattle.arith.specs.Meaning.{Outcome, words, refusal, pick, meaning, settled}
use Rattle.arith.specs.Meaning as said
use Rattle.rows.specs.Refusals.{Out}
use Rattle.rows.specs.Words.{store_of}
use Rattle.rows.specs.Writes.{Wrote}
use Rattle.state.specs.declared.Given.{Given}
use Rattle.state.specs.declared.Meter.{Meter}
use Rattle.state.specs.State.{Answer}
use Rattle.state.specs.State.{tally_of, limits_in, Left}
use Rattle.majors.specs.Majors.{Agrees, answered, truth_role, OutcomeLeft}
use Rattle.tables.specs.declared.Holders.{Holders}
use Rattle.tables.specs.declared.codes.Role.TheVariants.{True, False}
use Rattle.tables.specs.Read.{found_number, holder_in}
use Rattle.majors.proofs.Firing.{no_step, too_large_stops, number_due, constant_due, fired_left, stopped_left}
use Rattle.std.specs.Prelude.{Err, Some}
use Rattle.rows.specs.declared.refusals.Refusal.TheVariants.{NoStep, TooLarge}

-- the constant of a role that is held
held_constant : {x : Option ℕ} {d : ℕ} {r' : Result} → x ≡ some d → given x (λ c. some (a_constant c)) ≡ some r' → a_constant d ≡ r'
held_constant {x} {d} {r'} e q = let z : some (a_constant d) ≡ some r' = rw e at q in cc

-- NUMBERS

fitting : (n : ℕ) {low high : ℕ} → words low high ≡ settled (number n) → (words_value low high ≡ n) × (n ≤ most_number)
unfolding settled
fitting n {low} {high} = go (leb n (2 ^ 64 - 1)) refl
  where
    go : (b : Bool) → leb n (2 ^ 64 - 1) ≡ b → words low high ≡ pick b (words (n % 2 ^ 32) (n / 2 ^ 32)) (refusal 7) → (words_value low high ≡ n) × (n ≤ most_number)
    go true e q =
        let first : low ≡ n % 2 ^ 32 = cc in
        let second : high ≡ n / 2 ^ 32 = cc in
        (omega arith, leb-true n (2 ^ 64 - 1) e)
    go false e q = absurd (let z : ◌≡◌ {A = ℕ} 0 1 = cc in omega arith)

too_large : (n : ℕ) → refusal 7 ≡ settled (number n) → most_number < n
unfolding settled
too_large n = go (leb n (2 ^ 64 - 1)) refl
  where
    go : (b : Bool) → leb n (2 ^ 64 - 1) ≡ b → refusal 7 ≡ pick b (words (n % 2 ^ 32) (n / 2 ^ 32)) (refusal 7) → most_number < n
    go true e q = absurd (let z : ◌≡◌ {A = ℕ} 0 1 = cc in omega arith)
    go false e q = leb-false n (2 ^ 64 - 1) e

-- WHAT IS DUE

module _ (lim : Limits) (m : Tally) (step : m.steps < lim.steps) (e : Env) {r' : Result} where
  too_large_step : (c : Computed) → refusal 7 ≡ settled c → outcome e c ≡ some r' → fire_in lim m r' [] ≡ stopped 7
  unfolding settled outcome
  too_large_step (number n) q o =
      let same : a_number n ≡ r' = cc in
      rw (← same) (too_large_stops lim m [] step n (too_large n q))
  too_large_step (truth b) q o = absurd (let z : ◌≡◌ {A = ℕ} 0 1 = cc in omega arith)

  number_step : (c : Computed) {low high : ℕ} → words low high ≡ settled c → outcome e c ≡ some r' →
      fire_in lim m r' [] ≡ out_step lim m.steps (put_in lim.rows m.store (leaf (num (words_value low high))))
  unfolding settled outcome
  number_step (number n) {low} {high} q o =
      let same : a_number n ≡ r' = cc in
      let fits = fitting n q in
      rw (← same, fits.0) (number_due lim m step n fits.1)
  number_step (truth b) q o = absurd (let z : ◌≡◌ {A = ℕ} 0 1 = cc in omega arith)

  truth_step : (hs : Holders) → Agrees e hs → (c : Computed) {b : Bool} {d : ℕ} → said.truth b ≡ settled c → holder_in hs (truth_role b) ≡ Some d →
      outcome e c ≡ some r' → fire_in lim m r' [] ≡ out_step lim m.steps (put_in lim.rows m.store (leaf (const d 0)))
  unfolding settled outcome
  truth_step hs agrees (number n) {b} q held o = absurd (go (leb n (2 ^ 64 - 1)) q)
    where
      go : (f : Bool) → said.truth b ≡ pick f (words (n % 2 ^ 32) (n / 2 ^ 32)) (refusal 7) → ⊥
      go true q = let z : ◌≡◌ {A = ℕ} 0 1 = cc in omega arith
      go false q = let z : ◌≡◌ {A = ℕ} 0 1 = cc in omega arith
  truth_step hs agrees (truth true) {b} {d} q held o =
      let same : b ≡ true = cc in
      let due = held_constant (agrees.holds True ∙ ap found_number (rw same at held)) o in
      rw (← due) (constant_due lim m step d)
  truth_step hs agrees (truth false) {b} {d} q held o =
      let same : b ≡ false = cc in
      let due = held_constant (agrees.holds False ∙ ap found_number (rw same at held)) o in
      rw (← due) (constant_due lim m step d)

-- THE FOUR WAYS OUT

module _ (l sc : List ℕ) (g : Given) (m : Meter) (o : Outcome) where
  left_as : {r : Answer} {sc' : List ℕ} {step : Step} → Left l sc m r sc' step →
      ((e : Env) → Agrees e g.holders → (c : Computed) → meaning o ≡ settled c → (r' : Result) → outcome e c ≡ some r' → fire_in (limits_in g sc) (tally_of l sc m) r' [] ≡ step) →
      OutcomeLeft l sc g m o r sc'
  left_as left same = record {
    says = λ e agrees c q r' h. left.says ∙ sym (same e agrees c q r' h);
    kept = left.kept;
    same_length = left.same_length;
    grown = left.grown;
  }

  pub out_of_steps : g.steps ≤ m.steps → OutcomeLeft l sc g m o (Err NoStep) sc
  out_of_steps h = left_as (stopped_left l sc m NoStep) (λ e agrees c q r' i. no_step (limits_in g sc) (tally_of l sc m) [] r' h)

  module _ (step : m.steps < g.steps) where
    pub over_two_words : meaning o ≡ refusal 7 → OutcomeLeft l sc g m o (Err TooLarge) sc
    over_two_words is = left_as (stopped_left l sc m TooLarge) (λ e agrees c q r' i. too_large_step (limits_in g sc) (tally_of l sc m) step e c (sym is ∙ q) i)

    pub number_left : (low high : ℕ) → meaning o ≡ words low high → (out : Out) (sc' : List ℕ) →
        Wrote l sc m.mark out sc' (put_in (g.nlib + length sc / 9) (store_of l sc m.mark) (leaf (num (words_value low high)))) → OutcomeLeft l sc g m o (answered m out) sc'
    number_left low high is out sc' w =
        left_as (fired_left l sc (limits_in g sc) m out sc' _ w) (λ e agrees c q r' i. number_step (limits_in g sc) (tally_of l sc m) step e c (sym is ∙ q) i)

    pub truth_left : (b : Bool) → meaning o ≡ said.truth b → (out : Out) (sc' : List ℕ) (d : ℕ) → holder_in g.holders (truth_role b) ≡ Some d →
        Wrote l sc m.mark out sc' (put_in (g.nlib + length sc / 9) (store_of l sc m.mark) (leaf (const d 0))) → OutcomeLeft l sc g m o (answered m out) sc'
    truth_left b is out sc' d holds w =
        left_as (fired_left l sc (limits_in g sc) m out sc' _ w)
        (λ e agrees c q r' i. truth_step (limits_in g sc) (tally_of l sc m) step e g.holders agrees c (sym is ∙ q) holds i)
