-- A body under a new record: 11 where none is spare; else the record is pushed, and what the part answers is what is asked outside.
-- Assumes what a member is given.
use Prim.Native.Nat.{ℕ, suc, ◌+◌, ◌*◌, ◌≤◌, ◌<◌}
use native.Mathlib.Omega.{arith}
use mathlib.Core.Path.{◌≡◌, refl, sym, ap, ◌∙◌, subst}
use mathlib.Core.List.{List}
use mathlib.Core.Option.{none, some}
use lib.ListN.{length}
use Rattle.rules.specs.Rows as rules
use Rattle.rules.specs.Rows.{Store}
use Rattle.rules.specs.RowCheck.{InScope}
use Rattle.rules.specs.Declarations.{Env}
use Rattle.rules.specs.Inference.{under}
use Rattle.course.specs.Eval.{no}
use Rattle.inferring.specs.Asks.{Ask, infers}
use Rattle.inferring.specs.Eval.{run, part_on, type_at}
use Rattle.inferring.specs.Typed.{Typed, typed_under}
use Rattle.rows.specs.declared.Ptr.{Ptr}
use Rattle.rows.specs.Words.{ptr_of}
use Rattle.records.specs.Write.{pushed}
use Rattle.records.proofs.Words.{push_keeps, push_length}
use Rattle.records.proofs.Contexts.{env_pushed}
use Rattle.cycle.proofs.Standing.{depth_is}
use Rattle.state.specs.declared.Meter.{Meter}
use Rattle.state.specs.State.{Reduced}
use Rattle.typing.specs.Here.{Here, later, depth_at, env_at, store_at, tally_at, limits_at, spare_at, res_at, Scope, Ready, Kept, Keeps, After}
use Rattle.typing.specs.Gives.{gave, refused, outcome_of, Value, GivesPtr, InAt, res_by}
use Rattle.typing.specs.Pieces.{within, Entered, UnderGives}
use Rattle.typing.proofs.Places.{fewer, nothing_keeps, gave_apart}
use Rattle.typing.proofs.Alike.{env_alike, after_rows}
use Rattle.typing.proofs.Reducing.{followed, answer_gives, part_is}
use Rattle.std.specs.Prelude.{Err}
use Rattle.rows.specs.declared.refusals.Refusal.TheVariants.{NoRecord}

-- what is asked outside
under_is : (n : ℕ) (h : Here) (X b : rules.Ptr) (next : Store → rules.Ptr → Ask) →
    res_at n h (infers (some X) b next) ≡ followed n h next
    (part_on (env_at h) (λ e r m t. type_at (limits_at h) n e r m t) (some X) (spare_at h) (tally_at h) b)
unfolding run
under_is n h X b next = refl

-- NONE IS SPARE

module _ (n : ℕ) (h : Here) (X b : rules.Ptr) where
  pub no_record_spare : length h.context < 5 * depth_at h + 5 → UnderGives n h X b (Err NoRecord) h.context h.scratch
  no_record_spare full = record {
    gives = answer_gives n h (InAt (suc (depth_at h))) (infers (some X) b) _ (under_is n h X b) (refused 11) refused_so (nothing_keeps h)
        (λ p m e. absurd (gave_apart e));
    entered = λ p m e. absurd (gave_apart e);
  }
    where
      none_spare : spare_at h ≡ 0
      none_spare = omega (arith, full)

      refused_so : no 11 ≡ part_on (env_at h) (λ e r m t. type_at (limits_at h) n e r m t) (some X) (spare_at h) (tally_at h) b
      refused_so = ap (λ (k : ℕ). part_on (env_at h) (λ e r m t. type_at (limits_at h) n e r m t) (some X) k (tally_at h) b) (sym none_spare)

-- A RECORD IS PUSHED

module _ (n : ℕ) (h : Here) (ready : Ready h) (X b : Ptr) (type_in : Scope h (ptr_of X)) (room : 5 * depth_at h + 5 ≤ length h.context)
    (cs : List ℕ) (is_pushed : cs ≡ pushed h.context (depth_at h) X) where
  abbrev inner : Here
  inner = within h cs h.scratch h.meter

  env_inside : env_at inner ≡ under (env_at h) (ptr_of X)
  env_inside = env_pushed h.context cs (depth_at h) X room is_pushed h.decls h.rules

  as_long : length cs ≡ length h.context
  as_long = push_length h.context cs (depth_at h) X room is_pushed

  typed_inside : Typed (env_at inner) (store_at inner)
  typed_inside =
      subst (λ (e : Env). Typed e (store_at h)) (sym env_inside)
      (typed_under ready.typed (subst (λ (d : ℕ). InScope (store_at h) d (ptr_of X)) (sym (depth_is h.decls h.rules h.context (depth_at h))) type_in))

  pub ready_inside : Ready inner
  ready_inside = record {
    stand = record {
      held = ready.stand.held;
      words = ready.stand.words;
      sane = typed_inside.sane;
      tabled = record {
        rules = ready.stand.tabled.rules;
        records = omega (arith, as_long, room);
        holders = ready.stand.tabled.holders;
      };
      small = omega (arith, room, ready.few);
      metered = ready.stand.metered;
      budget = ready.stand.budget;
    };
    typed = typed_inside;
    few = omega (arith, as_long, ready.few);
  }

  -- what the part answered, seen from outside
  module _ (r : Reduced) {cs₁ sc₁ : List ℕ} (part : GivesPtr n inner (infers none (ptr_of b)) r cs₁ sc₁) where
    kept : Kept (depth_at h) h.context cs₁
    kept = record {
      records = fewer cs₁ cs (5 * depth_at h) (5 * suc (depth_at h)) (omega arith) part.keeps.context.records
          ∙ push_keeps h.context cs (depth_at h) X room is_pushed;
      same_length = part.keeps.context.same_length ∙ as_long;
    }

    keeps : Keeps h cs₁ sc₁
    keeps = record { kept = part.keeps.kept; same_length = part.keeps.same_length; context = kept }

    answered : res_by h.library sc₁ (outcome_of r) ≡ part_on (env_at h) (λ e r m t. type_at (limits_at h) n e r m t) (some (ptr_of X)) (spare_at h)
        (tally_at h) (ptr_of b)
    answered =
        let less : spare_at h ≡ suc (spare_at inner) = omega (arith, as_long, room) in
        part_is n inner (ptr_of b) part
        ∙ ap (λ (e : Env). type_at (limits_at h) n e (spare_at inner) (tally_at h) (ptr_of b)) env_inside
        ∙ ap (λ (k : ℕ). part_on (env_at h) (λ e r m t. type_at (limits_at h) n e r m t) (some (ptr_of X)) k (tally_at h) (ptr_of b)) (sym less)

    -- the type stands outside too
    value_outside : (p : rules.Ptr) (m : Meter) → outcome_of r ≡ gave p m → Value (InAt (suc (depth_at h))) h cs₁ sc₁ p m
    value_outside p m e =
        let v = part.value p m e in
        let pass = v.after.ready.stand.sane.pass in
        let rows = after_rows ready v.after.passed v.after.more pass v.after.ready.stand.metered in
        record { after = outside m rows; fits = v.fits }
      where
        outside : (m₁ : Meter) → After h h.context sc₁ m₁ → After h cs₁ sc₁ m₁
        outside m₁ a =
            let same : env_at (later h cs₁ sc₁ m₁) ≡ env_at h = env_alike h sc₁ m₁ kept in
            let typed : Typed (env_at (later h cs₁ sc₁ m₁)) (store_at (later h cs₁ sc₁ m₁)) =
            subst (λ (x : Env). Typed x (store_at (later h cs₁ sc₁ m₁))) (sym same) a.ready.typed in
            record {
              ready = record {
                stand = record {
                  held = a.ready.stand.held;
                  words = a.ready.stand.words;
                  sane = typed.sane;
                  tabled = record {
                    rules = a.ready.stand.tabled.rules;
                    records = omega (arith, kept.same_length, room);
                    holders = a.ready.stand.tabled.holders;
                  };
                  small = a.ready.stand.small;
                  metered = a.ready.stand.metered;
                  budget = a.ready.stand.budget;
                };
                typed = typed;
                few = omega (arith, kept.same_length, ready.few);
              };
              passed = a.passed;
              context = kept;
              more = a.more;
            }

    -- and the record is still there
    entered_still : (p : rules.Ptr) (m : Meter) → outcome_of r ≡ gave p m → Entered h (ptr_of X) cs₁ sc₁ m
    entered_still p m e =
        let v = part.value p m e in
        record {
          ready = v.after.ready;
          is =
              env_alike inner sc₁ m part.keeps.context
              ∙ env_inside
              ∙ ap (λ (x : Env). under x (ptr_of X)) (sym (env_alike h sc₁ m kept));
        }

    pub under_gives : UnderGives n h (ptr_of X) (ptr_of b) r cs₁ sc₁
    under_gives = record {
      gives = answer_gives n h (InAt (suc (depth_at h))) (infers (some (ptr_of X)) (ptr_of b)) _ (under_is n h (ptr_of X) (ptr_of b)) (outcome_of r) answered
          keeps value_outside;
      entered = entered_still;
    }
