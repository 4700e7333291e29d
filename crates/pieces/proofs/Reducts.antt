-- The term that a side reduction left: it is in scope in the rows that were left, and its row can be read.
-- Assumes what a member is given, and a term in scope.
use Prim.Native.Nat.{ℕ, ◌+◌, ◌<◌}
use mathlib.Core.List.{List}
use Rattle.course.specs.Eval.{side_at}
use Rattle.rows.specs.declared.Ptr.{Ptr}
use Rattle.rows.specs.Words.{ptr_of, Stands}
use Rattle.records.proofs.SortsAndPis.{scope_used, in_use_stands}
use Rattle.state.specs.declared.Meter.{Meter}
use Rattle.state.specs.State.{Reduced, Used}
use Rattle.cycle.specs.Cycle.{Ran}
use Rattle.typing.specs.Here.{Here, depth_at, env_at, tally_at, limits_at, Scope, Ready}
use Rattle.typing.specs.Gives.{Value, InAt}
use Rattle.typing.proofs.Reducing.{reduced_after}
use Rattle.std.specs.Prelude.{Ok}

pub ready_used : {h : Here} → Ready h → Used h.library h.scratch h.given.nlib h.meter.mark
ready_used r = record { held = r.stand.held; words = r.stand.words; declarations = _; pass = r.stand.sane.pass }

module _ {h : Here} (ready : Ready h) {t : Ptr} (scope : Scope h (ptr_of t)) where
  pub scope_there : t.row < h.given.nlib + h.meter.mark
  scope_there = scope_used h.library h.scratch h.given.nlib h.meter.mark (depth_at h) (ready_used ready) t scope

  pub scope_stands : Stands h.library h.scratch t.row
  scope_stands = in_use_stands h.library h.scratch h.given.nlib h.meter.mark (ready_used ready) t scope_there

-- what a side reduction of p answered, with n levels left
abbrev pub SideRan : ℕ → Here → Ptr → Reduced → List ℕ → Type 0
SideRan n h p r sc = Ran h.library h.scratch h.meter r sc (side_at (env_at h) (limits_at h) n (tally_at h) (ptr_of p))

module _ (n : ℕ) {h : Here} (ready : Ready h) {p : Ptr} (scope : Scope h (ptr_of p)) {t : Ptr} {m : Meter} {sc : List ℕ}
    (ran : SideRan n h p (Ok (t, m)) sc) where
  pub reduct : Value (InAt (depth_at h)) h h.context sc (ptr_of t) m
  reduct = reduced_after n h ready {p = p} scope ran

  pub reduct_stands : Stands h.library sc t.row
  reduct_stands = scope_stands reduct.after.ready reduct.fits
