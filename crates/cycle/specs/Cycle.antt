-- What the members of the cycle are given and what they promise: the evaluator's own answer, at the environment and the store that the words stand for.
-- Assumes nothing: these are definitions.
use Rattle.std.specs.Prelude.{ℕ, ◌+◌, ◌*◌, ◌/◌, ◌≤◌, ◌<◌, ◌≡◌, List, length, take}
use Rattle.std.proofs.Math.Option.{Option, none, some}
use Rattle.rules.specs.Maxima.{most_bound, most_steps}
use Rattle.rules.specs.Rows as rules
use Rattle.rules.specs.Rows.{Store}
use Rattle.rules.specs.RowCheck.{InScope}
use Rattle.rules.specs.Accepted.{IsRow, part}
use Rattle.rules.specs.Declarations.{Env}
use Rattle.course.specs.Tries.{Try}
use Rattle.course.specs.Eval.{Res, ok, no, try, at_the_head, side_at}
use Rattle.safety.specs.Sane.{Sane}
use Rattle.ways.specs.Steps.{Step, step_of}
use Rattle.ways.specs.Spines.{args_of}
use Rattle.rows.specs.declared.Ptr.{Ptr}
use Rattle.rows.specs.Words.{ptr_of, decode, words_at, store_of, Held}
use Rattle.rows.specs.Writes.{Grown}
use Rattle.rows.specs.Refusals.{number_of}
use Rattle.tables.specs.declared.codes.DeclKind.TheVariants.{Recursor}
use Rattle.tables.specs.Env.{env_of}
use Rattle.tables.specs.Read.{decl_read, HoldersOf}
use Rattle.state.specs.declared.Given.{Given}
use Rattle.state.specs.declared.Meter.{Meter}
use Rattle.state.specs.State.{Reduced}
use Rattle.state.specs.State.{tally_of, limits_in}
use Rattle.std.specs.Prelude.{Err, Ok, Some}

-- WHAT IS GIVEN

-- a recursor's rules and the context's records can be read, and the table of holders is that of the declarations
pub record Tabled (ds rs cs : List ℕ) (g : Given) : Type 0 where
  pub rules : (d : ℕ) → d < length ds / 16 → (decl_read (part 16 ds d)).kind ≡ Some Recursor →
      4 * ((decl_read (part 16 ds d)).first_rule + (decl_read (part 16 ds d)).rules) ≤ length rs
  pub records : 5 * g.depth ≤ length cs
  pub holders : HoldersOf ds g.holders

-- each declaration's role word is a code: so it is on accepted input, and no member asks it
pub record CodedRoles (ds : List ℕ) : Type 0 where
  pub coded : (d : ℕ) → d < length ds / 16 → (decl_read (part 16 ds d)).words.role ≤ 15

-- the rows in use are rows, environment and store are sane, and the budgets hold
pub record Stand (l ds rs cs sc : List ℕ) (g : Given) (m : Meter) : Type 0 where
  pub held : Held l sc m.mark g.nlib
  pub words : (n : ℕ) → n < g.nlib + m.mark → IsRow (words_at l sc n) (decode (words_at l sc n))
  pub sane : Sane (env_of ds rs cs g.depth) (store_of l sc m.mark)
  pub tabled : Tabled ds rs cs g
  pub small : g.depth ≤ most_bound
  pub metered : m.steps ≤ g.steps
  pub budget : g.steps ≤ most_steps

-- and t is in scope
pub record Asked (l ds rs cs sc : List ℕ) (g : Given) (m : Meter) (t : Ptr) : Type 0 where
  pub stand : Stand l ds rs cs sc g m
  pub scope : InScope (store_of l sc m.mark) g.depth (ptr_of t)

-- and its spine has `count` arguments
pub record Counted (l ds rs cs sc : List ℕ) (g : Given) (m : Meter) (t : Ptr) (count : ℕ) : Type 0 where
  pub asked : Asked l ds rs cs sc g m t
  pub counted : length (args_of (store_of l sc m.mark) (ptr_of t)) ≡ count

-- WHAT IS ANSWERED, with n levels left for side reductions

-- what trying comes to, a firing paid
abbrev pub step_by : List ℕ → List ℕ → List ℕ → List ℕ → List ℕ → Given → Meter → ℕ → (Env → Store → Try) → Step
step_by l ds rs cs sc g m n y =
    step_of (limits_in g sc)
    (try (limits_in g sc) (side_at (env_of ds rs cs g.depth) (limits_in g sc) n) (y (env_of ds rs cs g.depth) (store_of l sc m.mark))
    (tally_of l sc m))

-- of the rules at t's head
abbrev pub head_by : List ℕ → List ℕ → List ℕ → List ℕ → List ℕ → Given → Meter → ℕ → rules.Ptr → Step
head_by l ds rs cs sc g m n t =
    step_of (limits_in g sc)
    (at_the_head (limits_in g sc) (env_of ds rs cs g.depth) (side_at (env_of ds rs cs g.depth) (limits_in g sc) n) (tally_of l sc m) t)

-- a reduction's term, or its refusal
abbrev pub res_as : Reduced → List ℕ → List ℕ → Res
res_as (Ok (p, m)) l sc = ok (tally_of l sc m) (ptr_of p)
res_as (Err k) l sc = no (number_of k)

abbrev pub meter_after : Reduced → Option Meter
meter_after (Ok (p, m)) = some m
meter_after (Err k) = none

abbrev pub res_by : List ℕ → List ℕ → List ℕ → List ℕ → List ℕ → Given → Meter → ℕ → rules.Ptr → Res
res_by l ds rs cs sc g m n t = side_at (env_of ds rs cs g.depth) (limits_in g sc) n (tally_of l sc m) t

-- WHAT IS LEFT

-- rows below the old mark stand, and so do the new ones
pub record Passed (sc : List ℕ) (m : Meter) (sc' : List ℕ) (m' : Meter) : Type 0 where
  pub kept : take (9 * m.mark) sc' ≡ take (9 * m.mark) sc
  pub same_length : length sc' ≡ length sc
  pub grown : Grown sc m.mark sc' m'.mark

-- the answer is this reduction's
pub record Ran (l sc : List ℕ) (m : Meter) (r : Reduced) (sc' : List ℕ) (res : Res) : Type 0 where
  pub says : res_as r l sc' ≡ res
  pub kept : take (9 * m.mark) sc' ≡ take (9 * m.mark) sc
  pub same_length : length sc' ≡ length sc
  pub grown : (m' : Meter) → meter_after r ≡ some m' → Grown sc m.mark sc' m'.mark
