-- The values that pieces give beside a pointer, and what the pieces promise of them.
-- Assumes nothing: these are definitions.
use Rattle.std.specs.Prelude.{ℕ, suc, ◌≤◌, ◌≡◌, List}
use Rattle.std.proofs.Math.Option.{Option, none, some}
use Rattle.rules.specs.Maxima.{most_level}
use Rattle.rules.specs.Rows as rules
use Rattle.rules.specs.Rows.{Store, up}
use Rattle.rules.specs.RowCheck.{InScope}
use Rattle.rules.specs.Declarations.{Env}
use Rattle.rules.specs.Firings.{Tally}
use Rattle.rules.specs.Inference.{under}
use Rattle.rules.specs.Refusals.{Limits}
use Rattle.course.specs.Eval.{Res, no, side_at}
use Rattle.safety.specs.Scope.{BodyIn}
use Rattle.inferring.specs.Asks.{Ask, step_then, infers, with_record, pi_of, sort_of, allowed, is_zero}
use Rattle.inferring.specs.Eval.{run, type_at}
use Rattle.rows.specs.Words.{store_of}
use Rattle.state.specs.declared.Given.{Given}
use Rattle.state.specs.declared.Meter.{Meter}
use Rattle.state.specs.State.{Reduced, tally_of}
use Rattle.typing.specs.Here.{Here, here, later, depth_at, env_at, tally_at, limits_at, Ready, Keeps}
use Rattle.typing.specs.Gives.{Outcome, gave, refused, outcome_of, Value, Gives, InAt}

-- an ask with these limits, in this environment, with r spare records
abbrev pub ran_with : ℕ → Limits → Env → ℕ → Ask → Tally → Res
ran_with n lim e r y m = run lim e (λ e'. side_at e' lim n) (λ e' r' m' t. type_at lim n e' r' m' t) r y m

-- A PI: its type, shifted; its body as it stands, and the shift that the body is under
pub record PiParts : Type 0 where
  pub type : rules.Ptr
  pub body : rules.Ptr
  pub by : ℕ

pub record PiIn (d : ℕ) (s : Store) (a : PiParts) : Type 0 where
  pub type : InScope s d a.type
  pub body : BodyIn s d a.by a.body
  pub by : a.by ≤ d

unfoldable pub pi_ask : rules.Ptr → (Store → PiParts → Ask) → Ask
pi_ask p next = pi_of p λ s x b k. next s (record { type = up s x k; body = b; by = k })

-- A SORT: its level
abbrev pub LevelIn : Store → ℕ → Type 0
LevelIn s l = l ≤ most_level

-- what follows an outcome, with these limits in this environment
abbrev pub ran_then : ℕ → Limits → Env → ℕ → (library scratch : List ℕ) → (Store → ℕ → Ask) → Outcome ℕ → Res
ran_then n lim e r l sc next (gave a m) = ran_with n lim e r (next (store_of l sc m.mark) a) (tally_of l sc m)
ran_then n lim e r l sc next (refused k) = no k

-- reduced to a sort here, which may be the environment under a new record of whoever asks
pub record Sorted (n : ℕ) (h : Here) (p : rules.Ptr) (o : Outcome ℕ) (sc : List ℕ) : Type 0 where
  pub says : (e : Env) (X : Option rules.Ptr) (r : ℕ) → with_record e X ≡ env_at h → (next : Store → ℕ → Ask) →
      ran_with n (limits_at h) e r (sort_of X p next) (tally_at h) ≡ ran_then n (limits_at h) e r h.library sc next o
  pub keeps : Keeps h h.context sc
  pub value : (l : ℕ) (m : Meter) → o ≡ gave l m → Value LevelIn h h.context sc l m

-- THE QUESTION: the level of the type of p's type; p is a proposition if it is 0
unfoldable pub level_ask : rules.Ptr → (Store → ℕ → Ask) → Ask
level_ask p next = step_then (infers none p λ s T. sort_of none T next)

-- "if the structure type is a proposition the field type must be one": the field's type p again
unfoldable pub allowed_ask : Store → rules.Ptr → ℕ → (Store → rules.Ptr → Ask) → Ask
allowed_ask s p level next = allowed s p (is_zero level) λ s₁. next s₁ p

-- UNDER A NEW RECORD: one deeper
abbrev pub deeper : Given → Given
deeper g = record { nlib = g.nlib; depth = suc g.depth; steps = g.steps; holders = g.holders }

abbrev pub within : Here → (cs sc : List ℕ) → Meter → Here
within h cs sc m = here h.library h.decls h.rules cs sc (deeper h.given) m

-- the record still stands when the type of the body is known
pub record Entered (h : Here) (X : rules.Ptr) (cs sc : List ℕ) (m : Meter) : Type 0 where
  pub ready : Ready (within h cs sc m)
  pub is : env_at (within h cs sc m) ≡ under (env_at (later h cs sc m)) X

pub record UnderGives (n : ℕ) (h : Here) (X b : rules.Ptr) (r : Reduced) (cs sc : List ℕ) : Type 0 where
  pub gives : Gives (InAt (suc (depth_at h))) n h (infers (some X) b) (outcome_of r) cs sc
  pub entered : (p : rules.Ptr) (m : Meter) → outcome_of r ≡ gave p m → Entered h X cs sc m
