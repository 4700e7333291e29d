-- What a write that was done leaves ready for the next: rows that stood stand, new ones are rows, and the value is good still.
-- Assumes nothing.
use Prim.Native.Nat.{ℕ, ◌+◌, ◌*◌, ◌-◌, ◌≤◌, ◌<◌}
use native.Mathlib.Omega.{arith}
use mathlib.Core.Path.{◌≡◌, refl, sym, subst, ◌∙◌}
use mathlib.Core.List.{List}
use mathlib.Core.Logic.{⊎_elim}
use lib.ListN.{length}
use Rattle.rules.specs.RowCheck.{AllPass}
use Rattle.rules.specs.Accepted.{IsRow, part}
use Rattle.course.specs.Charged as course
use Rattle.substitution.specs.Stores.{Ext, ext_same, ext_then}
use Rattle.substitution.specs.Existence.{value_good_later}
use Rattle.rows.specs.declared.Ptr.{Ptr}
use Rattle.rows.specs.Refusals.{Out}
use Rattle.std.specs.Prelude.{Ok}
use Rattle.rows.specs.Words.{decode, store_of, words_at, Held}
use Rattle.rows.specs.Writes.{Grown, Wrote}
use Rattle.rows.proofs.Parts.{lt_or_ge, part_same}
use Rattle.rows.proofs.Store.{words_in_library, words_in_scratch, held_length}
use Rattle.rows.proofs.InTurn.{done_held}
use Rattle.replace.specs.declared.Sub.{Sub}
use Rattle.replace.specs.Replaced.{Sound, Ready, most_rows}

abbrev Is : List ℕ → Type 0
Is ws = IsRow ws (decode ws)

-- the used rows fit in what may stand
pub held_room : (l sc : List ℕ) (m nlib : ℕ) → Held l sc m nlib → length (store_of l sc m) ≤ most_rows nlib sc
held_room l sc m nlib held = let many = held_length l sc m nlib held in omega arith

module _ (l sc : List ℕ) (nlib m : ℕ) (sound : Sound l sc nlib m) (q : Ptr) (m' : ℕ) (sc' : List ℕ) (out : course.Out)
    (done : Wrote l sc m (Ok (q, m')) sc' out) where
  abbrev whole_library : length l ≡ 9 * nlib
  whole_library = sound.held.whole_library

  grown : Grown sc m sc' m'
  grown = done.grown q m' refl

  -- scratch row i is a row: it stood, or is new
  row_later : (i : ℕ) → i < m' → Is (part 9 sc' i)
  row_later i h =
      ⊎_elim
      (λ (k : i < m).
      subst Is (words_in_scratch l sc nlib whole_library i ∙ sym (part_same sc' sc m i done.kept k)) (sound.words (nlib + i) (omega arith)))
      (λ (k : m ≤ i). grown.rows i k h)
      (lt_or_ge i m)

  words_later : (n : ℕ) → n < nlib + m' → Is (words_at l sc' n)
  words_later n h =
      ⊎_elim
      (λ (k : n < nlib).
      subst Is (words_in_library l sc nlib whole_library n k ∙ sym (words_in_library l sc' nlib whole_library n k)) (sound.words n (omega arith)))
      (λ (k : nlib ≤ n).
      let at : nlib + (n - nlib) ≡ n = omega arith in
      subst (λ (i : ℕ). Is (words_at l sc' i)) at (subst Is (sym (words_in_scratch l sc' nlib whole_library (n - nlib))) (row_later (n - nlib) (omega arith))))
      (lt_or_ge n nlib)

  pub sound_later : AllPass sound.declarations (store_of l sc' m') → Sound l sc' nlib m'
  sound_later pass = record {
    held = done_held l sc m q m' sc' out done nlib sound.held;
    words = words_later;
    declarations = sound.declarations;
    pass = pass;
  }

pub ready_later : {l sc : List ℕ} {nlib m : ℕ} {x : Sub} {sc' : List ℕ} {m' : ℕ} → Ready l sc nlib m x →
    Ext (store_of l sc m) (store_of l sc' m') → Sound l sc' nlib m' → Ready l sc' nlib m' x
ready_later ready more sound = record {
  sound = sound;
  value = value_good_later more ready.value;
  value_shift = ready.value_shift;
  move = ready.move;
}

-- an answer says what equals what it said
pub says_also : {l sc : List ℕ} {m : ℕ} {r : Out} {sc' : List ℕ} {out out' : course.Out} → Wrote l sc m r sc' out → out ≡ out' → Wrote l sc m r sc' out'
says_also {l} {sc} {m} {r} {sc'} w e = subst (Wrote l sc m r sc') e w

-- from one mark to a later one, ready at both
pub record Went (l sc : List ℕ) (nlib m : ℕ) (x : Sub) (sc' : List ℕ) (m' : ℕ) : Type 0 where
  pub ready : Ready l sc' nlib m' x
  pub more : Ext (store_of l sc m) (store_of l sc' m')
  pub same_length : length sc' ≡ length sc

pub went_nowhere : (l sc : List ℕ) (nlib m : ℕ) (x : Sub) → Ready l sc nlib m x → Went l sc nlib m x sc m
went_nowhere l sc nlib m x ready = record { ready = ready; more = ext_same _; same_length = refl }

pub went_then : {l sc : List ℕ} {nlib m : ℕ} {x : Sub} {sc₁ : List ℕ} {m₁ : ℕ} {sc₂ : List ℕ} {m₂ : ℕ} → Went l sc nlib m x sc₁ m₁ →
    Went l sc₁ nlib m₁ x sc₂ m₂ → Went l sc nlib m x sc₂ m₂
went_then a b = record { ready = b.ready; more = ext_then a.more b.more; same_length = b.same_length ∙ a.same_length }
