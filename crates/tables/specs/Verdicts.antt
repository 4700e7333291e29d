-- What acceptance is lent, as the rules' record, and what its verdict says, both ways.
-- Assumes nothing: these are definitions.
use Rattle.std.specs.Prelude.{ℕ, ◌*◌, ◌%◌, ◌≤◌, ◌≡◌, List, length, Result, Ok, Err, ⊤}
use Rattle.rules.specs.Maxima.{most_rows, most_declarations, most_records, most_rules_in_all}
use Rattle.rules.specs.Rows as rules
use Rattle.rules.specs.Declarations.{Env}
use Rattle.rules.specs.Accepted.{Lent, Accepted, NotAccepted}
use Rattle.rows.specs.declared.Ptr.{Ptr}
use Rattle.rows.specs.Words.{ptr_of, store_of}
use Rattle.rows.specs.declared.refusals.Refused.{Refused}
use Rattle.rows.specs.Refusals.{number_of}
use Rattle.tables.specs.declared.lent.Lent as code
use Rattle.tables.specs.declared.lent.Asked.{Asked}
use Rattle.tables.specs.Env.{env_of}

-- in the order of the call's arguments
abbrev pub lent_of : (library declarations rules context : List ℕ) (depth : ℕ) (scratch : List ℕ) (mark : ℕ) → Ptr → (steps nesting : ℕ) → Lent
lent_of l ds rs cs depth sc mark p steps nesting = record {
  library = l;
  declarations = ds;
  rules = rs;
  context = cs;
  depth = depth;
  scratch = sc;
  mark = mark;
  term = ptr_of p;
  steps = steps;
  nesting = nesting;
}

-- the same, of what the code hands on
abbrev pub lent_by : code.Lent → List ℕ → Asked → Lent
lent_by w sc a =
    lent_of w.library.now w.declarations.now w.rules.now w.context.now a.depth sc a.mark a.term a.steps a.nesting

-- the environment and the store that the lent words stand for
abbrev pub env_in : Lent → Env
env_in w = env_of w.declarations w.rules w.context w.depth

abbrev pub store_in : Lent → rules.Store
store_in w = store_of w.library w.scratch w.mark

-- accepted as exactly that environment and store, or refused with the rules' number and place
pub data Accepts (w : Lent) : Result ⊤ Refused → Type 0 where
  accepted : Accepted w (env_in w) (store_in w) → Accepts w (Ok tt)
  refused : {r : Refused} → NotAccepted w (number_of r.refusal) r.place → Accepts w (Err r)

-- the part of `Sizes` that speaks of the lists alone
pub record Whole (l ds rs cs sc : List ℕ) : Type 0 where
  pub whole_library : length l % 9 ≡ 0
  pub whole_declarations : length ds % 16 ≡ 0
  pub whole_rules : length rs % 4 ≡ 0
  pub whole_context : length cs % 5 ≡ 0
  pub whole_scratch : length sc % 9 ≡ 0
  pub library : length l ≤ 9 * most_rows
  pub scratch : length sc ≤ 9 * most_rows
  pub declarations : length ds ≤ 16 * most_declarations
  pub context : length cs ≤ 5 * most_records
  pub rules : length rs ≤ 4 * most_rules_in_all
