-- Reductions and parts as asks: what a side reduction or the inference of a part answered is what the ask comes to.
-- Assumes what a member is given.
use Prim.Native.Nat.{ℕ}
use mathlib.Core.Path.{◌≡◌, refl, sym, ap, ◌∙◌}
use mathlib.Core.List.{List}
use mathlib.Core.Option.{none}
use Rattle.rules.specs.Rows as rules
use Rattle.rules.specs.Rows.{Store}
use Rattle.course.specs.Eval.{Res, ok, no, lost, side_at}
use Rattle.inferring.specs.Asks.{Ask, answers, infers, reduces}
use Rattle.inferring.specs.Eval as eval
use Rattle.inferring.specs.Eval.{run, type_at}
use Rattle.rows.specs.declared.Ptr.{Ptr}
use Rattle.rows.specs.Words.{ptr_of}
use Rattle.state.specs.declared.Meter.{Meter}
use Rattle.state.specs.State.{Reduced}
use Rattle.cycle.specs.Cycle.{Asked, Ran, res_as}
use Rattle.cycle.proofs.Standing.{after_side, ran_passed}
use Rattle.typing.specs.Here.{Here, later, depth_at, env_at, store_at, tally_at, limits_at, spare_at, res_at, Scope, Ready, Keeps}
use Rattle.typing.specs.Gives.{Outcome, gave, refused, outcome_of, then_on, Value, Gives, GivesPtr, InAt, res_by}
use Rattle.typing.specs.Pieces.{ran_with}
use Rattle.typing.proofs.Places.{gave_apart, nothing_kept, value_is}
use Rattle.typing.proofs.Alike.{res_alike, after_rows}
use Rattle.std.specs.Prelude.{Err, Ok}
use Rattle.rows.specs.Refusals.{number_of}

-- what follows an answer, here
abbrev pub followed : ℕ → Here → (Store → rules.Ptr → Ask) → Res → Res
followed n h next x = eval.then_on (λ m p. ran_with n (limits_at h) (env_at h) (spare_at h) (next m.store p) m) x

-- an answer x, and the outcome that says it
module _ (n : ℕ) (h : Here) (In : Store → rules.Ptr → Type 0) (Y : (Store → rules.Ptr → Ask) → Ask) (x : Res)
    (is : (next : Store → rules.Ptr → Ask) → res_at n h (Y next) ≡ followed n h next x) where
  says_by : {cs sc : List ℕ} (o : Outcome rules.Ptr) → res_by h.library sc o ≡ x → Keeps h cs sc → (next : Store → rules.Ptr → Ask) →
      res_at n h (Y next) ≡ then_on n h cs sc next o
  says_by {cs} {sc} (gave p m) q k next =
      is next ∙ ap (followed n h next) (sym q) ∙ sym (res_alike n h sc m k.context k.same_length (next (store_at (later h cs sc m)) p))
  says_by (refused j) q k next = is next ∙ ap (followed n h next) (sym q)

  pub answer_gives : {cs sc : List ℕ} (o : Outcome rules.Ptr) → res_by h.library sc o ≡ x → Keeps h cs sc →
      ((p : rules.Ptr) (m : Meter) → o ≡ gave p m → Value In h cs sc p m) → Gives In n h Y o cs sc
  answer_gives o q k v = record { says = says_by o q k; keeps = k; value = v }

-- A REDUCTION

pub reduces_is : (n : ℕ) (h : Here) (p : rules.Ptr) (next : Store → rules.Ptr → Ask) →
    res_at n h (reduces none p next) ≡ followed n h next (side_at (env_at h) (limits_at h) n (tally_at h) p)
unfolding run
reduces_is n h p next = refl

-- what is given to the reduction
pub may_reduce : {h : Here} {p : Ptr} → Ready h → Scope h (ptr_of p) → Asked h.library h.decls h.rules h.context h.scratch h.given h.meter p
may_reduce r s = record { stand = r.stand; scope = s }

res_as_lem : (r : Reduced) (l sc : List ℕ) → res_by l sc (outcome_of r) ≡ res_as r l sc
res_as_lem (Ok (p, m)) l sc = refl
res_as_lem (Err k) l sc = refl

module _ (n : ℕ) (h : Here) (ready : Ready h) {p : Ptr} (scope : Scope h (ptr_of p)) {r : Reduced} {sc : List ℕ}
    (ran : Ran h.library h.scratch h.meter r sc (side_at (env_at h) (limits_at h) n (tally_at h) (ptr_of p))) where
  pub reduced_keeps : Keeps h h.context sc
  reduced_keeps = record { kept = ran.kept; same_length = ran.same_length; context = nothing_kept (depth_at h) h.context }

  pub reduced_says : res_by h.library sc (outcome_of r) ≡ side_at (env_at h) (limits_at h) n (tally_at h) (ptr_of p)
  reduced_says = res_as_lem r h.library sc ∙ ran.says

-- the term of a reduction stands, and may be used
pub reduced_after : (n : ℕ) (h : Here) (ready : Ready h) {p q : Ptr} {m : Meter} {sc : List ℕ} → Scope h (ptr_of p) →
    Ran h.library h.scratch h.meter (Ok (q, m)) sc (side_at (env_at h) (limits_at h) n (tally_at h) (ptr_of p)) →
    Value (InAt (depth_at h)) h h.context sc (ptr_of q) m
reduced_after n h ready scope ran =
    let k = after_side ready.stand n scope ran in
    record {
      after = after_rows ready (ran_passed ran refl) k.more k.asked.stand.sane.pass k.asked.stand.metered;
      fits = k.asked.scope;
    }

pub side_gives : (n : ℕ) (h : Here) (ready : Ready h) {p : Ptr} → Scope h (ptr_of p) → (r : Reduced) {sc : List ℕ} →
    Ran h.library h.scratch h.meter r sc (side_at (env_at h) (limits_at h) n (tally_at h) (ptr_of p)) → GivesPtr n h (reduces none (ptr_of p)) r h.context sc
side_gives n h ready {p} scope (Ok (q, m)) ran =
    answer_gives n h (InAt (depth_at h)) (reduces none (ptr_of p)) _ (reduces_is n h (ptr_of p)) (gave (ptr_of q) m) ran.says
    (reduced_keeps n h ready scope ran)
    (λ b m₁ e. let v = reduced_after n h ready scope ran in value_is v.after v.fits e)
side_gives n h ready {p} scope (Err k) ran =
    answer_gives n h (InAt (depth_at h)) (reduces none (ptr_of p)) _ (reduces_is n h (ptr_of p)) (refused (number_of k)) ran.says
    (reduced_keeps n h ready scope ran)
    (λ b m₁ e. absurd (gave_apart e))

-- A PART

pub infers_is : (n : ℕ) (h : Here) (t : rules.Ptr) (next : Store → rules.Ptr → Ask) →
    res_at n h (infers none t next) ≡ followed n h next (type_at (limits_at h) n (env_at h) (spare_at h) (tally_at h) t)
unfolding run
infers_is n h t next = refl

ok_follows : (x : Res) → eval.then_on (λ m p. ok m p) x ≡ x
ok_follows (ok m p) = refl
ok_follows (no k) = refl
ok_follows lost = refl

answered : (n : ℕ) (h : Here) (cs sc : List ℕ) (o : Outcome rules.Ptr) → then_on n h cs sc (λ s p. answers p) o ≡ res_by h.library sc o
unfolding run
answered n h cs sc (gave p m) = refl
answered n h cs sc (refused k) = refl

-- the type itself, from what the part gives
pub part_is : (n : ℕ) (h : Here) (t : rules.Ptr) {In : Store → rules.Ptr → Type 0} {o : Outcome rules.Ptr} {cs sc : List ℕ} →
    Gives In n h (infers none t) o cs sc →
    res_by h.library sc o ≡ type_at (limits_at h) n (env_at h) (spare_at h) (tally_at h) t
unfolding run
part_is n h t {o = o} {cs} {sc} g =
    sym (answered n h cs sc o) ∙ sym (g.says (λ s p. answers p)) ∙ infers_is n h t (λ s p. answers p)
    ∙ ok_follows (type_at (limits_at h) n (env_at h) (spare_at h) (tally_at h) t)
