-- What the functions on a reduced major are given and what they promise: a major as a number, as a constructor, arithmetic's outcome
-- written, and a recursor's rule fired. Assumes nothing: these are definitions.
use Rattle.std.specs.Prelude.{ℕ, suc, ◌+◌, ◌*◌, ◌-◌, ◌≤◌, ◌<◌, ◌≡◌, Bool, true, false, List, [], ◌++◌, length, take, drop}
use Rattle.std.proofs.Math.Option.{Option, none, some}
use Rattle.rules.specs.Maxima.{most_bound, most_steps}
use Rattle.rules.specs.Kinds.{const, num, app}
use Rattle.rules.specs.Rows as rules
use Rattle.rules.specs.Rows.{Row, Store, node, leaf, blank, row_at, grow}
use Rattle.rules.specs.RowCheck.{InScope}
use Rattle.rules.specs.Declarations.{Rule, Env, nth, holder}
use Rattle.rules.specs.Arithmetic.{Computed}
use Rattle.rules.specs.Firings.{Tally, Result, itself}
use Rattle.rules.specs.HeadTests as heads
use Rattle.rules.specs.HeadTests.{Ruled, ruled, given, as_constant, as_number, as_constructor, rule_for, last_of, outcome}
use Rattle.rules.specs.Refusals.{Limits}
use Rattle.course.specs.Charged as course
use Rattle.course.specs.Charged.{and_on, put_in}
use Rattle.course.specs.Eval.{charge}
use Rattle.substitution.specs.Stores.{Good}
use Rattle.ways.specs.Steps.{Step, final, fire_in}
use Rattle.ways.specs.Spines.{head_of, args_of}
use Rattle.tables.specs.Records.{records_from}
use Rattle.tables.specs.Env.{rule_of}
use Rattle.tables.specs.declared.Holders.{Holders}
use Rattle.tables.specs.declared.codes.Role.{Role}
use Rattle.tables.specs.declared.codes.Role.TheVariants.{True, False}
use Rattle.tables.specs.Codes.{role_as}
use Rattle.tables.specs.Read.{found_number, holder_in}
use Rattle.arith.specs.declared.Number.{Number}
use Rattle.arith.specs.declared.Value.TheVariants.{Truth}
use Rattle.arith.specs.Meaning.{Outcome, value_of, meaning, settled}
use Rattle.rows.specs.declared.Ptr.{Ptr}
use Rattle.rows.specs.Refusals.{Out}
use Rattle.rows.specs.Words.{ptr_of, store_of}
use Rattle.rows.specs.Writes.{Grown}
use Rattle.spine.specs.declared.Spined.{Spined}
use Rattle.state.specs.declared.Given.{Given}
use Rattle.state.specs.declared.Meter.{Meter}
use Rattle.state.specs.State.{Answer}
use Rattle.state.specs.State.{metered_at, one_step, tally_of, limits_in, step_as, meter_of, Used, Headed}
use Rattle.majors.specs.declared.Made.{Made}
use Rattle.std.specs.Prelude.{Result as Answers, Err, None, Ok, Option as Maybe, Some}
use Rattle.rows.specs.Refusals.{number_of}
use Rattle.state.specs.declared.Tried.TheVariants.{Term}
use Rattle.rows.specs.declared.refusals.Refusal.{Refusal}

-- WHO HOLDS A ROLE

-- the code knows the table alone; a contract speaks of every environment that agrees with it
pub record Agrees (e : Env) (hs : Holders) : Type 0 where
  pub holds : (role : Role) → holder e (role_as role) ≡ found_number (holder_in hs role)

-- THE MAJOR AS A NUMBER

-- the row of a term's head
abbrev pub head_row : Store → rules.Ptr → Row
head_row s q = row_at s (head_of s q).row

abbrev pub number_in : Maybe Number → Option ℕ
number_in (Some n) = some (value_of n)
number_in None = none

-- whichever mark the rows are used up to
pub record NumberAt (l sc : List ℕ) (q : Ptr) (r : Maybe Number) : Type 0 where
  pub is : (nlib m d : ℕ) → Used l sc nlib m → InScope (store_of l sc m) d (ptr_of q) →
      number_in r ≡ as_number (head_row (store_of l sc m) (ptr_of q)) (args_of (store_of l sc m) (ptr_of q))

-- WHAT ARITHMETIC GIVES

pub record MayFire (l sc : List ℕ) (g : Given) (m : Meter) : Type 0 where
  pub used : Used l sc g.nlib m.mark
  pub metered : m.steps ≤ g.steps
  pub budget : g.steps ≤ most_steps

-- a truth value is written only where true and false are held
pub record TruthHeld (hs : Holders) (o : Outcome) : Type 0 where
  pub both : (b : Bool) → o ≡ Ok (Truth b) → (holder_in hs True ≡ None → ⊥) × (holder_in hs False ≡ None → ⊥)

-- rows written in a firing whose step is there
abbrev pub answered : Meter → Out → Answer
answered m (Ok (p, mark)) = Ok (Term p (one_step m mark))
answered m (Err k) = Err k

-- the role of a truth value
abbrev pub truth_role : Bool → Role
truth_role true = True
truth_role false = False

-- what `Left` of the state says, for whatever the outcome stands for in an environment that agrees
pub record OutcomeLeft (l sc : List ℕ) (g : Given) (m : Meter) (o : Outcome) (r : Answer) (sc' : List ℕ) : Type 0 where
  pub says : (e : Env) → Agrees e g.holders → (c : Computed) → meaning o ≡ settled c → (r' : Result) → outcome e c ≡ some r' →
      step_as r l sc' ≡ fire_in (limits_in g sc) (tally_of l sc m) r' []
  pub kept : take (9 * m.mark) sc' ≡ take (9 * m.mark) sc
  pub same_length : length sc' ≡ length sc
  pub grown : (m' : Meter) → meter_of r ≡ some m' → Grown sc m.mark sc' m'.mark

-- THE MAJOR AS A CONSTRUCTOR

-- a reduced major, in scope, in rows that are used
pub record Major (l sc : List ℕ) (g : Given) (m : Meter) (q : Ptr) : Type 0 where
  pub used : Used l sc g.nlib m.mark
  pub scope : InScope (store_of l sc m.mark) g.depth (ptr_of q)
  pub small : g.depth ≤ most_bound

-- the rules' constructor for a term of a store
abbrev pub major_of : Store → rules.Ptr → Env → Option heads.Made
major_of s q e = as_constructor e s (head_row s q) (args_of s q)

-- the major as a constructor, if it is one, with the meter after its rows; or the refusal
abbrev pub Construction : Type 0
Construction = Answers (Maybe Made × Meter) Refusal

abbrev pub meter_made : Construction → Option Meter
meter_made (Ok (z, m)) = some m
meter_made (Err k) = none

-- no constructor: nothing is written, and the meter stays
pub record NotMade (sc : List ℕ) (m : Meter) (major : Option heads.Made) (m' : Meter) (sc' : List ℕ) : Type 0 where
  pub is : major ≡ none
  pub meter : m' ≡ m
  pub words : sc' ≡ sc

-- its rows are refused
pub record RefusedMade (lim : Limits) (s : Store) (major : Option heads.Made) (k : ℕ) : Type 0 where
  pub made : heads.Made
  pub is : major ≡ some made
  pub charged : charge lim s (grow s made.rows) ≡ some k

-- its rows stand, and its arguments are those of the spine at its term
pub record MadeAs (l sc : List ℕ) (g : Given) (m : Meter) (major : Option heads.Made) (z : Made) (m' : Meter) (sc' : List ℕ) : Type 0 where
  pub made : heads.Made
  pub is : major ≡ some made
  pub declaration : made.declaration ≡ z.constructor
  pub charged : charge (limits_in g sc) (store_of l sc m.mark) (grow (store_of l sc m.mark) made.rows) ≡ none
  pub store : store_of l sc' m'.mark ≡ grow (store_of l sc m.mark) made.rows
  pub arguments : args_of (store_of l sc' m'.mark) (ptr_of z.term) ≡ made.arguments
  pub many : length made.arguments ≡ z.spine.count
  pub scope : InScope (store_of l sc' m'.mark) g.depth (ptr_of z.term)
  pub steps : m'.steps ≡ m.steps
  pub used : Used l sc' g.nlib m'.mark

-- each way out, for every environment that agrees; rows below the old mark stand, and the new ones do too
pub record Constructed (l sc : List ℕ) (g : Given) (m : Meter) (major : Env → Option heads.Made) (r : Construction) (sc' : List ℕ) : Type 0 where
  pub nothing : (m' : Meter) → r ≡ Ok (None, m') → (e : Env) → Agrees e g.holders → NotMade sc m (major e) m' sc'
  pub refused : (k : Refusal) → r ≡ Err k → (e : Env) → Agrees e g.holders → RefusedMade (limits_in g sc) (store_of l sc m.mark) (major e) (number_of k)
  pub made : (z : Made) (m' : Meter) → r ≡ Ok (Some z, m') → (e : Env) → Agrees e g.holders → MadeAs l sc g m (major e) z m' sc'
  pub kept : take (9 * m.mark) sc' ≡ take (9 * m.mark) sc
  pub same_length : length sc' ≡ length sc
  pub grown : (m' : Meter) → meter_made r ≡ some m' → Grown sc m.mark sc' m'.mark

-- a constant's major is itself
abbrev pub constant_in : Ptr → Spined → Option ℕ → Maybe Made
constant_in q sp none = None
constant_in q sp (some c) = Some (record { constructor = c; term = q; spine = sp })

-- whichever mark the rows are used up to
pub record ConstantMade (l sc : List ℕ) (q : Ptr) (r : Maybe Made) : Type 0 where
  pub spined : Spined
  pub is : (nlib m d : ℕ) → Used l sc nlib m → InScope (store_of l sc m) d (ptr_of q) →
      (r ≡ constant_in q spined (as_constant (head_row (store_of l sc m) (ptr_of q)))) × (length (args_of (store_of l sc m) (ptr_of q)) ≡ spined.count)

-- "succ of the number below (constant, number, application)", each row charged when it is due
unfoldable pub succ_in : ℕ → Store → ℕ → ℕ → course.Out
succ_in most s c n =
    and_on (put_in most s (leaf (const c 0))) λ f.
    and_on (put_in most f.store (leaf (num n))) λ below.
    put_in most below.store (node app f.at below.at blank)

-- rows written for a constructor with `count` arguments; the constant is the first of them
abbrev pub made_from : Given → Meter → ℕ → ℕ → Out → Construction
made_from g m c count (Ok (p, mark)) =
    Ok (Some (record { constructor = c; term = p; spine = record { head = record { row = g.nlib + m.mark; shift = 0 }; count = count } }), metered_at m mark)
made_from g m c count (Err k) = Err k

-- A RULE FIRED

-- `by_rule` of the rules, over what it reads of the recursor and of the constructor
abbrev pub ruled_by : List Rule → ℕ → List rules.Ptr → ℕ → ℕ → List rules.Ptr → Option Ruled
ruled_by rs c ys before position xs =
    given (rule_for c rs) λ ρ.
    given (last_of ρ.fields ys) λ fs.
    some (ruled ρ.value (take before xs ++ fs ++ drop (suc position) xs))

-- a rule that counts fires; else no rule does
abbrev pub ruled_step : Limits → Tally → Option Ruled → Step
ruled_step lim m none = final m
ruled_step lim m (some ρ) = fire_in lim m (itself ρ.value) ρ.arguments

-- t is a recursor's spine with its major at `position`, the constructor's arguments are those at made, and rule values stand
pub record MayRule (l rs sc : List ℕ) (g : Given) (m : Meter) (first many : ℕ) (made : Made) (t : Ptr) (count before position : ℕ) : Type 0 where
  pub headed : Headed l sc g m t count
  pub scope : InScope (store_of l sc m.mark) g.depth (ptr_of made.term)
  pub counted : length (args_of (store_of l sc m.mark) (ptr_of made.term)) ≡ made.spine.count
  pub rules : 4 * (first + many) ≤ length rs
  pub values : (i : ℕ) (ρ : Rule) → nth (records_from 4 rs rule_of first many) i ≡ some ρ → Good (store_of l sc m.mark) ρ.value
  pub order : before ≤ position
  pub inside : position < count

-- the arguments of a rule's value, in turn: the recursor's before the indices, the constructor's last fields, the rest after the major
abbrev pub three_runs : List rules.Ptr → ℕ → ℕ → List rules.Ptr → ℕ → List rules.Ptr
three_runs xs before after ys fields = take before xs ++ drop (length ys - fields) ys ++ drop after xs

-- both spines are counted and in scope, the runs lie inside them, and the rule's value stands
pub record RunsApply (l sc : List ℕ) (nlib m : ℕ) (rule t : Ptr) (count before after : ℕ) (made : Ptr) (arity fields : ℕ) : Type 0 where
  pub depth : ℕ
  pub small : depth ≤ most_bound
  pub used : Used l sc nlib m
  pub scope : InScope (store_of l sc m) depth (ptr_of t)
  pub counted : length (args_of (store_of l sc m) (ptr_of t)) ≡ count
  pub made_scope : InScope (store_of l sc m) depth (ptr_of made)
  pub made_counted : length (args_of (store_of l sc m) (ptr_of made)) ≡ arity
  pub value : Good (store_of l sc m) (ptr_of rule)
  pub before_inside : before ≤ count
  pub after_inside : after ≤ count
  pub fields_inside : fields ≤ arity
