-- The rule of a recursor, way by way: no rule for the constructor, too few arguments for its fields, no step left, or the rule's value applied.
-- Assumes what `by_rule` is given (`MayRule`).
use Prim.Native.Nat.{ℕ, suc, ◌+◌, ◌*◌, ◌-◌, ◌/◌, ◌≤◌, ◌<◌}
use native.Mathlib.Omega.{arith}
use native.Mathlib.Numerals.{add-one}
use mathlib.Core.Path.{◌≡◌, refl, sym, ap, ◌∙◌, subst}
use mathlib.Core.Bool.{Bool, true, false}
use mathlib.Core.List.{List, [], ◌∷◌, ◌++◌}
use mathlib.Core.Option.{Option, none, some}
use borrow.Author.Tests.{le-leb, lt-leb}
use lib.Dec.{eqb}
use lib.ListN.{length, take, drop}
use Rattle.rules.specs.Rows as rules
use Rattle.rules.specs.Rows.{Store}
use Rattle.rules.specs.Declarations as declarations
use Rattle.rules.specs.Declarations.{nth}
use Rattle.rules.specs.HeadTests.{Ruled, ruled, given, provided, rule_on, rule_for, last_of}
use Rattle.rules.specs.Firings.{Tally, itself}
use Rattle.rules.specs.Refusals.{Limits}
use Rattle.course.specs.Charged.{join_in}
use Rattle.substitution.specs.Stores.{Good}
use Rattle.ways.specs.Steps.{Step, final, out_step, fire_in}
use Rattle.ways.specs.Spines.{args_of}
use Rattle.tables.specs.declared.Rule.{Rule}
use Rattle.tables.specs.Records.{records_from}
use Rattle.tables.specs.Env.{rule_of}
use Rattle.tables.specs.Read.{as_rule, found_rule}
use Rattle.rows.specs.declared.Ptr.{Ptr}
use Rattle.rows.specs.Refusals.{Out}
use Rattle.rows.specs.Words.{ptr_of, store_of}
use Rattle.rows.specs.Writes.{Grown, Wrote}
use Rattle.majors.specs.declared.Made.{Made}
use Rattle.state.specs.declared.Given.{Given}
use Rattle.state.specs.declared.Meter.{Meter}
use Rattle.state.specs.State.{tally_of, limits_in, Left}
use Rattle.majors.specs.Majors.{answered, three_runs, RunsApply, ruled_by, ruled_step, MayRule}
use Rattle.majors.proofs.Firing.{no_step, itself_due, fired_left, stopped_left}
use Rattle.std.specs.Prelude.{Err, None, Ok, Option as Maybe, Some}
use Rattle.state.specs.declared.Tried.TheVariants.{Final}
use Rattle.rows.specs.declared.refusals.Refusal.TheVariants.{NoStep}

-- the rule that was found is one of the list
rule_among : {P : declarations.Rule → Type 0} {ρ : declarations.Rule} (c : ℕ) (rs : List declarations.Rule) →
    ((i : ℕ) (σ : declarations.Rule) → nth rs i ≡ some σ → P σ) → some ρ ≡ rule_for c rs → P ρ
unfolding rule_for nth
rule_among c [] all q = absurd (let z : ◌≡◌ {A = ℕ} 0 1 = cc in omega arith)
rule_among {P = P} {ρ = ρ} c (σ ∷ rs) all q = go (λ q'. rule_among {P = P} c rs (λ i τ e. all (suc i) τ e) q') (eqb σ.constructor c) q
  where
    go : (some ρ ≡ rule_for c rs → P ρ) → (b : Bool) → some ρ ≡ rule_on b (some σ) (rule_for c rs) → P ρ
    go later true q' = subst P (let z : σ ≡ ρ = cc in z) (all 0 σ refl)
    go later false q' = later q'

-- WHICH RULE, AND WHAT IT GIVES

module _ (rs : List declarations.Rule) (c : ℕ) (ys : List rules.Ptr) (before position : ℕ) (xs : List rules.Ptr) where
  abbrev of_fields : declarations.Rule → Option (List rules.Ptr) → Option Ruled
  of_fields ρ o = given o λ fs. some (ruled ρ.value (take before xs ++ fs ++ drop (suc position) xs))

  abbrev of_rule : Option declarations.Rule → Option Ruled
  of_rule o = given o λ ρ. of_fields ρ (last_of ρ.fields ys)

  pub no_rule_for : none ≡ rule_for c rs → ruled_by rs c ys before position xs ≡ none
  no_rule_for q = ap of_rule (sym q)

  module _ (ρ : declarations.Rule) (found : some ρ ≡ rule_for c rs) where
    pub too_few : length ys < ρ.fields → ruled_by rs c ys before position xs ≡ none
    too_few h = ap of_rule (sym found) ∙ ap (λ (b : Bool). of_fields ρ (provided b (some (drop (length ys - ρ.fields) ys)))) (lt-leb _ _ h)

    pub counts : ρ.fields ≤ length ys → ruled_by rs c ys before position xs ≡ some (ruled ρ.value (three_runs xs before (suc position) ys ρ.fields))
    counts h = ap of_rule (sym found) ∙ ap (λ (b : Bool). of_fields ρ (provided b (some (drop (length ys - ρ.fields) ys)))) (le-leb _ _ h)

-- nothing is written, and no rule fires
final_left : (l sc : List ℕ) (m : Meter) → 9 * m.mark ≤ length sc → Left l sc m (Ok (Final m)) sc (final (tally_of l sc m))
final_left l sc m room = record {
  says = refl;
  kept = refl;
  same_length = refl;
  grown = λ m' q. subst (λ (x : Meter). Grown sc m.mark sc x.mark) (let z : m ≡ m' = cc in z)
      (record { upward = omega arith; room = room; past = refl; rows = λ i low high. absurd (omega arith) });
}

-- THE WAYS OUT

module _ (l rs sc : List ℕ) (g : Given) (m : Meter) (first many : ℕ) (made : Made) (t : Ptr) (count before position : ℕ)
    (may : MayRule l rs sc g m first many made t count before position) where
  abbrev c : ℕ
  c = made.constructor

  abbrev s : Store
  s = store_of l sc m.mark

  abbrev lim : Limits
  lim = limits_in g sc

  abbrev now : Tally
  now = tally_of l sc m

  abbrev all_rules : List declarations.Rule
  all_rules = records_from 4 rs rule_of first many

  abbrev xs : List rules.Ptr
  xs = args_of s (ptr_of t)

  abbrev ys : List rules.Ptr
  ys = args_of s (ptr_of made.term)

  abbrev step : Step
  step = ruled_step lim now (ruled_by all_rules c ys before position xs)

  room : 9 * m.mark ≤ length sc
  room = may.headed.used.held.room

  left_final : ruled_by all_rules c ys before position xs ≡ none → Left l sc m (Ok (Final m)) sc step
  left_final q = subst (Left l sc m (Ok (Final m)) sc) (ap (ruled_step lim now) (sym q)) (final_left l sc m room)

  module _ (r : Maybe Rule) (answered_rule : found_rule r ≡ rule_for c all_rules) where
    pub no_rule_left : r ≡ None → Left l sc m (Ok (Final m)) sc step
    no_rule_left q = left_final (no_rule_for all_rules c ys before position xs (sym (ap found_rule q) ∙ answered_rule))

    module _ (ρ : Rule) (is : r ≡ Some ρ) where
      found : some (as_rule ρ) ≡ rule_for c all_rules
      found = sym (ap found_rule is) ∙ answered_rule

      pub few_left : made.spine.count < ρ.fields → Left l sc m (Ok (Final m)) sc step
      few_left h = left_final (too_few all_rules c ys before position xs (as_rule ρ) found (omega (arith, may.counted)))

      module _ (enough : ρ.fields ≤ made.spine.count) where
        fires : step ≡ fire_in lim now (itself (ptr_of ρ.value)) (three_runs xs before (suc position) ys ρ.fields)
        fires = ap (ruled_step lim now) (counts all_rules c ys before position xs (as_rule ρ) found (omega (arith, may.counted)))

        pub no_step_left : g.steps ≤ m.steps → Left l sc m (Err NoStep) sc step
        no_step_left h = subst (Left l sc m (Err NoStep) sc) (sym (fires ∙ no_step lim now _ _ h)) (stopped_left l sc m NoStep)

        pub may_apply : RunsApply l sc g.nlib m.mark ρ.value t count before (position + 1) made.term made.spine.count ρ.fields
        may_apply = record {
          depth = g.depth;
          small = may.headed.small;
          used = may.headed.used;
          scope = may.headed.scope;
          counted = may.headed.counted;
          made_scope = may.scope;
          made_counted = may.counted;
          value = rule_among {P = λ σ. Good s σ.value} c all_rules may.values found;
          before_inside = omega (arith, may.order, may.inside);
          after_inside = omega (arith, may.inside);
          fields_inside = enough;
        }

        pub rule_fired : m.steps < g.steps → (out : Out) (sc' : List ℕ) →
            Wrote l sc m.mark out sc' (join_in (g.nlib + length sc / 9) s (ptr_of ρ.value) (three_runs xs before (position + 1) ys ρ.fields)) →
            Left l sc m (answered m out) sc' step
        rule_fired h out sc' w =
            subst (Left l sc m (answered m out) sc')
            (ap (λ (n : ℕ). out_step lim m.steps (join_in lim.rows s (ptr_of ρ.value) (three_runs xs before n ys ρ.fields))) (add-one position)
            ∙ sym (fires ∙ itself_due lim now _ h (ptr_of ρ.value)))
            (fired_left l sc lim m out sc' _ w)
