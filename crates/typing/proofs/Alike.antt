-- The call goes on in the same environment: what an ask comes to later is computed with the limits, records and spare records of the start.
-- Assumes that the first records and the lengths were kept.
use Prim.Native.Nat.{ℕ, ◌+◌, ◌-◌, ◌/◌, ◌≤◌}
use mathlib.Core.Path.{◌≡◌, ap, ap₂, ◌∙◌}
use mathlib.Core.List.{List}
use lib.ListN.{length}
use Rattle.rules.specs.RowCheck.{AllPass}
use Rattle.rules.specs.Declarations.{Env}
use Rattle.substitution.specs.Stores.{Ext}
use Rattle.safety.specs.Sane.{decl_count, sane_later}
use Rattle.inferring.specs.Asks.{Ask}
use Rattle.inferring.specs.Typed.{typed_later}
use Rattle.state.specs.declared.Meter.{Meter}
use Rattle.cycle.specs.Cycle.{Passed}
use Rattle.cycle.proofs.Standing.{stand_on}
use Rattle.records.proofs.Contexts.{env_same}
use Rattle.typing.specs.Here.{Here, later, depth_at, env_at, store_at, tally_at, limits_at, spare_at, res_at, Ready, Kept, After}
use Rattle.typing.specs.Pieces.{ran_with}
use Rattle.typing.proofs.Places.{nothing_kept}

pub env_alike : (h : Here) {cs : List ℕ} (sc : List ℕ) (m : Meter) → Kept (depth_at h) h.context cs → env_at (later h cs sc m) ≡ env_at h
env_alike h {cs} sc m k = env_same h.decls h.rules h.context cs (depth_at h) k.records

module _ (n : ℕ) (h : Here) {cs : List ℕ} (sc : List ℕ) (m : Meter) (kept : Kept (depth_at h) h.context cs) (same : length sc ≡ length h.scratch) where
  pub res_alike : (y : Ask) → res_at n (later h cs sc m) y ≡ ran_with n (limits_at h) (env_at h) (spare_at h) y (tally_at (later h cs sc m))
  res_alike y =
      ap (λ (e : Env). ran_with n (limits_at (later h cs sc m)) e (spare_at (later h cs sc m)) y (tally_at (later h cs sc m))) (env_alike h sc m kept)
      ∙ ap₂
      (λ (a b : ℕ).
      ran_with n (record { steps = h.given.steps; rows = h.given.nlib + a / 9 }) (env_at h) (b / 5 - depth_at h) y (tally_at (later h cs sc m)))
      same kept.same_length

-- rows were written, and the context was not
module _ {h : Here} (r : Ready h) where
  pub after_rows : {sc : List ℕ} {m : Meter} → Passed h.scratch h.meter sc m → Ext (store_at h) (store_at (later h h.context sc m)) →
      AllPass (decl_count (env_at h)) (store_at (later h h.context sc m)) → m.steps ≤ h.given.steps → After h h.context sc m
  after_rows p more pass steps = record {
    ready = record {
      stand = stand_on r.stand p (sane_later more pass r.stand.sane) steps;
      typed = typed_later more pass r.typed;
      few = r.few;
    };
    passed = p;
    context = nothing_kept (depth_at h) h.context;
    more = more;
  }
