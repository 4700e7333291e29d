-- A record of a lent list, the rule that is found among some, and the context record of a variable: what a need of a reader cites.
-- Assumes nothing.
use Prim.Native.Nat.{ℕ, zero, suc, ◌-◌, ◌<◌}
use native.Mathlib.Nat.{zero-add}
use native.Mathlib.Numerals.{add-one}
use native.Mathlib.Omega.{arith}
use mathlib.Core.Path.{◌≡◌, refl, sym, ap, ◌∙◌}
use mathlib.Core.Bool.{Bool, true, false, cond}
use mathlib.Core.List.{List, map}
use mathlib.Core.Option.{Option, none}
use lib.Dec.{eqb}
use lib.ListN.{length, get_or}
use Rattle.std.specs.Prelude.{Option as Maybe, Some, None, option_map}
use Rattle.std.specs.List.{find, range_with_len}
use Rattle.rules.specs.Declarations as rules
use Rattle.rules.specs.Declarations.{nth, value_on, value_of}
use Rattle.rules.specs.HeadTests.{rule_on, rule_for}
use Rattle.rules.specs.Accepted.{part}
use Rattle.rows.specs.declared.Ptr.{Ptr}
use Rattle.tables.specs.declared.Rule.{Rule}
use Rattle.tables.specs.Records.{records_from, records_many, records_nth}
use Rattle.tables.specs.Env.{rule_of, entry_of, env_of}
use Rattle.tables.specs.Read.{value_in, rule_read, found_rule, found_value, ValueOf}
use Rattle.tables.specs.ReadLaws.{value_is_found}

-- RULES

-- what was found, read as it is
pub option_same : {A : Type 0} (o : Maybe A) → option_map (λ x. x) o ≡ o
option_same None = refl
option_same (Some x) = refl

module _ (rs : List ℕ) (con : ℕ) where
  abbrev pub is_for : Rule → Bool
  is_for ρ = eqb ρ.constructor con

  abbrev pub read_from : ℕ → ℕ → List Rule
  read_from i n = map (λ k. rule_read (part 4 rs k)) (range_with_len i n)

  first_or_later : (b : Bool) (ρ : Rule) (later : Maybe Rule) (o : Option rules.Rule) → found_rule later ≡ o →
      found_rule (cond b (Some ρ) later) ≡ rule_on b (found_rule (Some ρ)) o
  first_or_later true ρ later o e = refl
  first_or_later false ρ later o e = e

  -- the first of the rules that are read is the first of the rules'
  pub rules_found : (i n : ℕ) → found_rule (find is_for (read_from i n)) ≡ rule_for con (records_from 4 rs rule_of i n)
  unfolding rule_for records_from rule_of
  rules_found i zero = refl
  rules_found i (suc n) =
      first_or_later (eqb (get_or (part 4 rs i) 0 0) con) (rule_read (part 4 rs i)) _ _
      (ap (λ (k : ℕ). found_rule (find is_for (read_from k n))) (add-one i) ∙ rules_found (suc i) n)

-- THE CONTEXT

module _ (cs : List ℕ) (depth i : ℕ) where
  pub no_context : depth ≡ 0 → ValueOf cs depth i none
  unfolding value_of nth records_from
  no_context e = record { value = λ ds rs. ap (λ (d : ℕ). value_of (env_of ds rs cs d) i) (sym e) }

  -- a record's value, of its words
  abbrev pub value_words : List ℕ → Maybe Ptr
  value_words ws = value_in (get_or ws 4 0) (record { row = get_or ws 2 0; shift = get_or ws 3 0 })

  pub in_record : (depth ≡ 0 → ⊥) → (ws : List ℕ) → ws ≡ part 5 cs (depth - suc i) → ValueOf cs depth i (found_value (value_words ws))
  unfolding value_of entry_of
  in_record some_record ws read =
      let many : length (records_from 5 cs entry_of 0 depth) ≡ depth = records_many 5 cs entry_of 0 depth in
      let inside : depth - suc i < depth = omega arith in
      record {
        value = λ ds rs.
            rw many
            (sym (value_is_found (get_or ws 4 0) (record { row = get_or ws 2 0; shift = get_or ws 3 0 }))
            ∙ ap (λ (us : List ℕ). (entry_of us).value) (read ∙ ap (part 5 cs) (sym (zero-add (depth - suc i))))
            ∙ ap value_on (sym (records_nth 5 cs entry_of 0 depth (depth - suc i) inside)));
      }
