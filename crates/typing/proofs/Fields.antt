-- The fields of a projection: an earlier one, the loop over them, and the chosen one; from place to place, and each way out.
-- Assumes what a member is given.
use Prim.Native.Nat.{ℕ, zero, suc, ◌-◌, ◌≤◌, ◌<◌}
use native.Mathlib.Nat.{sub-zero}
use native.Mathlib.Omega.{arith}
use mathlib.Core.Path.{◌≡◌, refl, subst}
use mathlib.Core.List.{List}
use mathlib.Core.Option.{some}
use Rattle.rules.specs.Kinds.{proj}
use Rattle.rules.specs.Rows as rules
use Rattle.rules.specs.Rows.{Store, blank, node, bound}
use Rattle.rules.specs.RowCheck.{InScope}
use Rattle.safety.specs.Sane.{in_later}
use Rattle.safety.specs.Scope.{BodyIn}
use Rattle.inferring.specs.Asks.{Ask, untyped, answers, writes, opens, is_zero, if_loose, earlier, chosen}
use Rattle.state.specs.declared.Meter.{Meter}
use Rattle.state.specs.State.{Reduced}
use Rattle.typing.specs.Here.{Here, later, depth_at, store_at, res_at, Scope, Ready, After}
use Rattle.typing.specs.Gives.{Outcome, gave, refused, Gives, GivesPtr, InAt, Infers}
use Rattle.typing.specs.Pieces.{PiParts, PiIn, pi_ask, allowed_ask}
use Rattle.typing.specs.Fields.{earlier_field, chosen_of}
use Rattle.typing.proofs.Places.{At, begins, goes_on, stops, keeps_then, piece_gives, piece_stops, piece_by_piece, form_stops, form_by_piece, nothing_after}
use Rattle.std.specs.Prelude.{Err}
use Rattle.rows.specs.Refusals.{number_of}
use Rattle.rows.specs.declared.refusals.Refusal.{Refusal}

-- THE CHOSEN FIELD

module _ (n : ℕ) (h : Here) (ready : Ready h) (level : ℕ) (F : rules.Ptr) where
  abbrev its_type : Store → PiParts → Ask
  its_type s q = allowed_ask s q.type level λ s₁ p. answers p

  at_chosen : At n h (res_at n h (chosen_of level F)) h.context h.scratch h.meter (pi_ask F its_type)
  unfolding chosen pi_ask allowed_ask
  at_chosen = begins ready

  module _ {o : Outcome PiParts} {cs sc : List ℕ} (pi : Gives (PiIn (depth_at h)) n h (pi_ask F) o cs sc) where
    pub chosen_refused : {r : Reduced} {k : Refusal} → r ≡ Err k → o ≡ refused (number_of k) → Infers n h (chosen_of level F) r cs sc
    chosen_refused q e = form_stops q (stops pi its_type at_chosen e)

    pub chosen_answers : {q : PiParts} {m : Meter} → o ≡ gave q m → {r : Reduced} {cs₁ sc₁ : List ℕ} →
        GivesPtr n (later h cs sc m) (allowed_ask (store_at (later h cs sc m)) q.type level) r cs₁ sc₁ → Infers n h (chosen_of level F) r cs₁ sc₁
    chosen_answers e last = form_by_piece (goes_on pi its_type at_chosen e) last

-- AN EARLIER FIELD

-- a closed body
closed_body : {s : Store} {d k : ℕ} {b : rules.Ptr} → BodyIn s d k b → bound s b ≡ 0 → InScope s d b
closed_body i z = record { there = i.good.lower; still = i.good.still; within = omega arith }

module _ (n : ℕ) (h : Here) (ready : Ready h) (c : ℕ) (X : rules.Ptr) (level j : ℕ) (W : rules.Ptr) where
  abbrev replaced : (Store → rules.Ptr → Ask) → PiParts → Store → rules.Ptr → Ask
  replaced next q s f = opens (some f) q.by 0 q.body next

  abbrev projected : (Store → rules.Ptr → Ask) → PiParts → Store → rules.Ptr → Ask
  projected next q s p = writes (node (proj c j) X blank blank) (replaced next q)

  abbrev by_bound : (Store → rules.Ptr → Ask) → Store → PiParts → Ask
  by_bound next s q = if_loose (bound s q.body) (next s q.body) (allowed_ask s q.type level (projected next q))

  at_field : (next : Store → rules.Ptr → Ask) → At n h (res_at n h (earlier_field c X level j W next)) h.context h.scratch h.meter (pi_ask W (by_bound next))
  unfolding earlier_field pi_ask allowed_ask
  at_field next = begins ready

  loose_not : (b : ℕ) (y z : Ask) → b ≡ 0 → if_loose b y z ≡ y
  loose_not zero y z e = refl
  loose_not (suc b) y z e = absurd (omega arith)

  loose_so : (b : ℕ) (y z : Ask) → (b ≡ 0 → ⊥) → if_loose b y z ≡ z
  loose_so zero y z f = absurd (f refl)
  loose_so (suc b) y z f = refl

  module _ {o : Outcome PiParts} {cs sc : List ℕ} (pi : Gives (PiIn (depth_at h)) n h (pi_ask W) o cs sc) where
    pub field_refused : {r : Outcome rules.Ptr} {k : ℕ} → r ≡ refused k → o ≡ refused k → Gives (InAt (depth_at h)) n h (earlier_field c X level j W) r cs sc
    field_refused q e = piece_stops q (λ next. stops pi (by_bound next) (at_field next) e) pi.keeps

    module _ {q : PiParts} {m : Meter} (e : o ≡ gave q m) where
      abbrev now : Here
      now = later h cs sc m

      at_bound : (next : Store → rules.Ptr → Ask) → At n h (res_at n h (earlier_field c X level j W next)) cs sc m (by_bound next (store_at now) q)
      at_bound next = goes_on pi (by_bound next) (at_field next) e

      -- the remaining body is closed: it is gone on with
      pub not_loose : bound (store_at now) q.body ≡ 0 → {r : Outcome rules.Ptr} → r ≡ gave q.body m →
          Gives (InAt (depth_at h)) n h (earlier_field c X level j W) r cs sc
      not_loose z is =
          piece_gives is
          (λ next. subst (At n h (res_at n h (earlier_field c X level j W next)) cs sc m) (loose_not (bound (store_at now) q.body) _ _ z) (at_bound next))
          (pi.value q m e).after (closed_body (pi.value q m e).fits.body z)

      module _ (loose : bound (store_at now) q.body ≡ 0 → ⊥) where
        at_condition : (next : Store → rules.Ptr → Ask) →
            At n h (res_at n h (earlier_field c X level j W next)) cs sc m (allowed_ask (store_at now) q.type level (projected next q))
        at_condition next = subst (At n h (res_at n h (earlier_field c X level j W next)) cs sc m) (loose_so (bound (store_at now) q.body) _ _ loose)
            (at_bound next)

        module _ {o₁ : Outcome rules.Ptr} {cs₁ sc₁ : List ℕ} (may : Gives (InAt (depth_at h)) n now (allowed_ask (store_at now) q.type level) o₁ cs₁ sc₁) where
          pub condition_fails : {r : Outcome rules.Ptr} {k : ℕ} → r ≡ refused k → o₁ ≡ refused k →
              Gives (InAt (depth_at h)) n h (earlier_field c X level j W) r cs₁ sc₁
          condition_fails is e₁ = piece_stops is (λ next. stops may (projected next q) (at_condition next) e₁) (keeps_then (pi.value q m e).after may.keeps)

          module _ {p : rules.Ptr} {m₁ : Meter} (e₁ : o₁ ≡ gave p m₁) where
            at_row : (next : Store → rules.Ptr → Ask) →
                At n h (res_at n h (earlier_field c X level j W next)) cs₁ sc₁ m₁ (writes (node (proj c j) X blank blank) (replaced next q))
            at_row next = goes_on may (projected next q) (at_condition next) e₁

            module _ {In : Store → rules.Ptr → Type 0} {o₂ : Outcome rules.Ptr} {cs₂ sc₂ : List ℕ}
                (row : Gives In n (later h cs₁ sc₁ m₁) (writes (node (proj c j) X blank blank)) o₂ cs₂ sc₂) where
              pub row_refused : {r : Outcome rules.Ptr} {k : ℕ} → r ≡ refused k → o₂ ≡ refused k →
                  Gives (InAt (depth_at h)) n h (earlier_field c X level j W) r cs₂ sc₂
              row_refused is e₂ =
                  piece_stops is (λ next. stops row (replaced next q) (at_row next) e₂) (keeps_then (at_row (λ s p. untyped)).after row.keeps)

              pub field_replaced : {f : rules.Ptr} {m₂ : Meter} → o₂ ≡ gave f m₂ → {o₃ : Outcome rules.Ptr} {cs₃ sc₃ : List ℕ} →
                  Gives (InAt (depth_at h)) n (later h cs₂ sc₂ m₂) (opens (some f) q.by 0 q.body) o₃ cs₃ sc₃ →
                  Gives (InAt (depth_at h)) n h (earlier_field c X level j W) o₃ cs₃ sc₃
              field_replaced e₂ last =
                  piece_by_piece (λ next. goes_on row (replaced next q) (at_row next) e₂)
                  (goes_on row (replaced (λ s p. untyped) q) (at_row (λ s p. untyped)) e₂).after last

-- THE LOOP OVER THE EARLIER FIELDS

-- begun at h with W, the loop stands at field j and at w: what is asked from here on comes to the answer of the start
pub record Going (n : ℕ) (h : Here) (c : ℕ) (X : rules.Ptr) (level many : ℕ) (W : rules.Ptr) (cs sc : List ℕ) (m : Meter) (w : rules.Ptr) (j : ℕ) : Type 0 where
  pub at : (next : Store → rules.Ptr → Ask) →
      At n h (res_at n h (earlier c X (is_zero level) 0 many (store_at h) W next)) cs sc m
      (earlier c X (is_zero level) j (many - j) (store_at (later h cs sc m)) w next)
  pub after : After h cs sc m
  pub scope : Scope (later h cs sc m) w
  pub structure : Scope (later h cs sc m) X
  pub within : j ≤ many

module _ (n : ℕ) (h : Here) (ready : Ready h) (c : ℕ) (X : rules.Ptr) (level many : ℕ) (W : rules.Ptr) where
  pub going_begins : Scope h W → Scope h X → Going n h c X level many W h.context h.scratch h.meter W 0
  going_begins w x = record {
    at = λ next. rw (sub-zero many) (begins ready);
    after = nothing_after ready;
    scope = w;
    structure = x;
    within = omega arith;
  }

  module _ {cs sc : List ℕ} {m : Meter} {w : rules.Ptr} {j : ℕ} (k : Going n h c X level many W cs sc m w j) where
    -- what is asked with i fields left
    abbrev left_at : (Store → rules.Ptr → Ask) → ℕ → Type 0
    left_at next i =
        At n h (res_at n h (earlier c X (is_zero level) 0 many (store_at h) W next)) cs sc m
        (earlier c X (is_zero level) j i (store_at (later h cs sc m)) w next)

    -- a field is left
    at_next : j < many → (next : Store → rules.Ptr → Ask) →
        At n h (res_at n h (earlier c X (is_zero level) 0 many (store_at h) W next)) cs sc m
        (earlier_field c X level j w λ s p. earlier c X (is_zero level) (suc j) (many - suc j) s p next)
    unfolding earlier earlier_field
    at_next l next =
        let left : many - j ≡ suc (many - suc j) = omega arith in
        subst (left_at next) left (k.at next)

    module _ (l : j < many) {o : Outcome rules.Ptr} {cs₁ sc₁ : List ℕ}
        (field : Gives (InAt (depth_at h)) n (later h cs sc m) (earlier_field c X level j w) o cs₁ sc₁) where
      abbrev rest : (Store → rules.Ptr → Ask) → Store → rules.Ptr → Ask
      rest next s p = earlier c X (is_zero level) (suc j) (many - suc j) s p next

      pub going_on : {w₁ : rules.Ptr} {m₁ : Meter} → o ≡ gave w₁ m₁ → Going n h c X level many W cs₁ sc₁ m₁ w₁ (suc j)
      going_on {w₁} {m₁} e =
          let v = field.value w₁ m₁ e in
          record {
            at = λ next. goes_on field (rest next) (at_next l next) e;
            after = (goes_on field (rest (λ s p. untyped)) (at_next l (λ s p. untyped)) e).after;
            scope = v.fits;
            structure = in_later v.after.more k.structure;
            within = l;
          }

      pub going_stops : {r : Outcome rules.Ptr} {i : ℕ} → r ≡ refused i → o ≡ refused i →
          Gives (InAt (depth_at h)) n h (earlier c X (is_zero level) 0 many (store_at h) W) r cs₁ sc₁
      going_stops is e = piece_stops is (λ next. stops field (rest next) (at_next l next) e) (keeps_then k.after field.keeps)

    -- none is left
    at_end : many ≤ j → (next : Store → rules.Ptr → Ask) →
        At n h (res_at n h (earlier c X (is_zero level) 0 many (store_at h) W next)) cs sc m (next (store_at (later h cs sc m)) w)
    unfolding earlier
    at_end l next =
        let none_left : many - j ≡ 0 = omega arith in
        subst (left_at next) none_left (k.at next)

    pub going_ends : many ≤ j → {r : Outcome rules.Ptr} → r ≡ gave w m →
        Gives (InAt (depth_at h)) n h (earlier c X (is_zero level) 0 many (store_at h) W) r cs sc
    going_ends l is = piece_gives is (at_end l) k.after k.scope
