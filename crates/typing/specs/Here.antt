-- Where inference stands: the words, what stays the same, and the meter; what they stand for in the rules; and what every member is given.
-- Assumes nothing: these are definitions.
use Rattle.std.specs.Prelude.{ℕ, ◌*◌, ◌-◌, ◌/◌, ◌≤◌, ◌≡◌, List, length, take}
use Rattle.rules.specs.Maxima.{most_records}
use Rattle.rules.specs.Rows as rules
use Rattle.rules.specs.Rows.{Store}
use Rattle.rules.specs.RowCheck.{InScope}
use Rattle.rules.specs.Declarations.{Env}
use Rattle.rules.specs.Firings.{Tally}
use Rattle.rules.specs.Refusals.{Limits}
use Rattle.course.specs.Eval.{Res, side_at}
use Rattle.substitution.specs.Stores.{Ext}
use Rattle.inferring.specs.Asks.{Ask}
use Rattle.inferring.specs.Eval.{run, type_at}
use Rattle.inferring.specs.Typed.{Typed}
use Rattle.rows.specs.Words.{store_of}
use Rattle.tables.specs.Env.{env_of}
use Rattle.state.specs.declared.Given.{Given}
use Rattle.state.specs.declared.Meter.{Meter}
use Rattle.state.specs.State.{tally_of, limits_in}
use Rattle.cycle.specs.Cycle.{Stand, Passed}

pub record Here : Type 0 where
  pub library : List ℕ
  pub decls : List ℕ
  pub rules : List ℕ
  pub context : List ℕ
  pub scratch : List ℕ
  pub given : Given
  pub meter : Meter

abbrev pub here : (library decls rules context scratch : List ℕ) → Given → Meter → Here
here l ds rs cs sc g m = record { library = l; decls = ds; rules = rs; context = cs; scratch = sc; given = g; meter = m }

-- the same call, later: context and scratch were written, and the meter went on
abbrev pub later : Here → (context scratch : List ℕ) → Meter → Here
later h cs sc m = here h.library h.decls h.rules cs sc h.given m

abbrev pub depth_at : Here → ℕ
depth_at h = h.given.depth

abbrev pub env_at : Here → Env
env_at h = env_of h.decls h.rules h.context (depth_at h)

abbrev pub store_at : Here → Store
store_at h = store_of h.library h.scratch h.meter.mark

abbrev pub tally_at : Here → Tally
tally_at h = tally_of h.library h.scratch h.meter

abbrev pub limits_at : Here → Limits
limits_at h = limits_in h.given h.scratch

-- records that are lent past the depth
abbrev pub spare_at : Here → ℕ
spare_at h = length h.context / 5 - depth_at h

-- what an ask comes to here, with n levels left for parts and reductions
abbrev pub res_at : ℕ → Here → Ask → Res
res_at n h y =
    run (limits_at h) (env_at h) (λ e. side_at e (limits_at h) n) (λ e r m t. type_at (limits_at h) n e r m t) (spare_at h) y (tally_at h)

abbrev pub Scope : Here → rules.Ptr → Type 0
Scope h p = InScope (store_at h) (depth_at h) p

-- WHAT IS GIVEN: what reduction is given; types are in scope; and no more records than the document's maximum
pub record Ready (h : Here) : Type 0 where
  pub stand : Stand h.library h.decls h.rules h.context h.scratch h.given h.meter
  pub typed : Typed (env_at h) (store_at h)
  pub few : length h.context ≤ 5 * most_records

-- WHAT IS LEFT

-- the first records stand, and the list is as long as it was
pub record Kept (depth : ℕ) (cs cs' : List ℕ) : Type 0 where
  pub records : take (5 * depth) cs' ≡ take (5 * depth) cs
  pub same_length : length cs' ≡ length cs

-- whatever the answer is
pub record Keeps (h : Here) (cs sc : List ℕ) : Type 0 where
  pub kept : take (9 * h.meter.mark) sc ≡ take (9 * h.meter.mark) h.scratch
  pub same_length : length sc ≡ length h.scratch
  pub context : Kept (depth_at h) h.context cs

-- and where it is no refusal: whoever goes on is given all that was given before
pub record After (h : Here) (cs sc : List ℕ) (m : Meter) : Type 0 where
  pub ready : Ready (later h cs sc m)
  pub passed : Passed h.scratch h.meter sc m
  pub context : Kept (depth_at h) h.context cs
  pub more : Ext (store_at h) (store_at (later h cs sc m))
