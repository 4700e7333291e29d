-- What a caller reads off the promises: the outcome's answer as the state's `Left`, the recursor's rule as the rules' `by_rule`, and an environment
-- that agrees with the table of holders.
-- Assumes nothing.
use Prim.Native.Nat.{ℕ}
use mathlib.Core.Path.{◌≡◌, refl, sym}
use mathlib.Core.List.{List, []}
use mathlib.Core.Option.{some}
use Rattle.rules.specs.Rows as rules
use Rattle.rules.specs.Declarations.{Recursor, Env}
use Rattle.rules.specs.Arithmetic.{Computed}
use Rattle.rules.specs.Firings.{Result}
use Rattle.rules.specs.HeadTests as heads
use Rattle.rules.specs.HeadTests.{before_indices, major_position, outcome, by_rule}
use Rattle.ways.specs.Steps.{fire_in}
use Rattle.arith.specs.Meaning.{Outcome, meaning, settled}
use Rattle.state.specs.declared.Given.{Given}
use Rattle.state.specs.declared.Meter.{Meter}
use Rattle.state.specs.State.{Answer}
use Rattle.state.specs.State.{tally_of, limits_in, Left}
use Rattle.tables.specs.declared.Holders.{Holders}
use Rattle.tables.specs.Read.{HoldersOf}
use Rattle.tables.specs.Env.{env_of}
use Rattle.majors.specs.Majors.{Agrees, OutcomeLeft, ruled_by}

pub outcome_left : {l sc : List ℕ} {g : Given} {m : Meter} {o : Outcome} {r : Answer} {sc' : List ℕ} → OutcomeLeft l sc g m o r sc' →
    (e : Env) → Agrees e g.holders → (c : Computed) → meaning o ≡ settled c → (r' : Result) → outcome e c ≡ some r' →
    Left l sc m r sc' (fire_in (limits_in g sc) (tally_of l sc m) r' [])
outcome_left left e agrees c q r' i = record {
  says = left.says e agrees c q r' i;
  kept = left.kept;
  same_length = left.same_length;
  grown = left.grown;
}

-- for every recursor and constructor with these rules, counts and arguments
pub ruled_is : (o : Recursor) (a : heads.Made) (xs : List rules.Ptr) →
    ruled_by o.rules a.declaration a.arguments (before_indices o) (major_position o) xs ≡ by_rule o xs a
unfolding by_rule
ruled_is o a xs = refl

-- the environment that the words stand for agrees with the holders that were read from them
pub holders_agree : (ds rs cs : List ℕ) (hs : Holders) (depth : ℕ) → HoldersOf ds hs → Agrees (env_of ds rs cs depth) hs
holders_agree ds rs cs hs depth h = record { holds = λ role. sym (h.holds rs cs depth role) }
