-- What a write leaves to whoever comes after it: rows that were used stand, what is held stays held, and two writes in turn are one.
-- Assumes nothing.
use Prim.Native.Nat.{ℕ, ◌+◌, ◌*◌, ◌-◌, ◌≤◌, ◌<◌}
use native.Mathlib.Omega.{arith}
use mathlib.Core.Path.{◌≡◌, refl, sym, ap, subst, ◌∙◌}
use mathlib.Core.List.{List}
use mathlib.Core.Logic.{⊎_elim}
use lib.ListN.{length, take, drop}
use lib.Seq.{take-take, drop-drop}
use Rattle.rules.specs.Rows.{got}
use Rattle.rules.specs.Accepted.{IsRow, part}
use Rattle.course.specs.Charged as course
use Rattle.rows.specs.declared.Ptr.{Ptr}
use Rattle.rows.specs.Refusals.{Out}
use Rattle.std.specs.Prelude.{Ok}
use Rattle.rows.specs.Words.{ptr_of, decode, store_of, words_at, Held}
use Rattle.rows.specs.Writes.{AreRows, Grown, Wrote}
use Rattle.rows.proofs.RefusalNumbers.{same_mark}
use Rattle.rows.proofs.Parts.{lt_or_ge, part_same}
use Rattle.rows.proofs.Store.{by_place, words_in_library, words_in_scratch, store_same}

-- a prefix of what is kept is kept
fewer_kept : (xs ys : List ℕ) (a b : ℕ) → a ≤ b → take b xs ≡ take b ys → take a xs ≡ take a ys
fewer_kept xs ys a b h e = sym (take-take a b xs h) ∙ ap (take a) e ∙ take-take a b ys h

later_past : (xs ys : List ℕ) (a b : ℕ) → a ≤ b → drop a xs ≡ drop a ys → drop b xs ≡ drop b ys
later_past xs ys a b h e =
    let at : a + (b - a) ≡ b = omega arith in
    ap (λ (n : ℕ). drop n xs) (sym at) ∙ sym (drop-drop (b - a) a xs) ∙ ap (drop (b - a)) e ∙ drop-drop (b - a) a ys ∙ ap (λ (n : ℕ). drop n ys) at

-- an answer that writes nothing
pub wrote_nothing : (l sc : List ℕ) (m : ℕ) (p : Ptr) → 9 * m ≤ length sc → Wrote l sc m (Ok (p, m)) sc (course.wrote (got (store_of l sc m) (ptr_of p)))
wrote_nothing l sc m p room = record { says = refl; kept = refl; same_length = refl; grown = λ q m' e. subst (λ (n : ℕ). Grown sc m sc n) (same_mark e) none }
  where
    none : Grown sc m sc m
    none = record { upward = omega arith; room = room; past = refl; rows = λ i low high. absurd (omega arith) }

pub grown_on : (sc sc₁ sc₂ : List ℕ) (m m₁ m₂ : ℕ) → take (9 * m₁) sc₂ ≡ take (9 * m₁) sc₁ → Grown sc m sc₁ m₁ → Grown sc₁ m₁ sc₂ m₂ → Grown sc m sc₂ m₂
grown_on sc sc₁ sc₂ m m₁ m₂ kept g h = record {
  upward = omega arith;
  room = h.room;
  past = h.past ∙ later_past sc₁ sc (9 * m₁) (9 * m₂) (omega arith) g.past;
  rows = λ i low high.
      ⊎_elim
      (λ (k : i < m₁). subst (λ (ws : List ℕ). IsRow ws (decode ws)) (sym (part_same sc₂ sc₁ m₁ i kept k)) (g.rows i low k))
      (λ (k : m₁ ≤ i). h.rows i k high)
      (lt_or_ge i m₁);
}

abbrev IsWords : List ℕ → Type 0
IsWords ws = IsRow ws (decode ws)

-- a first write that was done, from mark m to m₁, and what follows from there
module _ (l sc : List ℕ) (m : ℕ) (p : Ptr) (m₁ : ℕ) (sc₁ : List ℕ) (out₁ : course.Out) (first : Wrote l sc m (Ok (p, m₁)) sc₁ out₁) where
  first_grown : Grown sc m sc₁ m₁
  first_grown = first.grown p m₁ refl

  pub done_held : (nlib : ℕ) → Held l sc m nlib → Held l sc₁ m₁ nlib
  done_held nlib held =
      let same = first.same_length in
      let grown = first_grown in
      record { whole_library = held.whole_library; few = held.few; whole_scratch = rw same held.whole_scratch; fewer = rw same held.fewer; room = grown.room }

  pub done_says : course.wrote (got (store_of l sc₁ m₁) (ptr_of p)) ≡ out₁
  done_says = first.says

  -- the old rows are the first of the new store
  pub done_prefix : store_of l sc₁ m ≡ store_of l sc m
  done_prefix = store_same l sc₁ sc m first.kept

  module _ (nlib : ℕ) (held : Held l sc m nlib) (old : AreRows l sc m nlib) where
    library_row : (k : ℕ) → k < nlib → IsWords (words_at l sc₁ k)
    library_row k h =
        let same : words_at l sc k ≡ words_at l sc₁ k = words_in_library l sc nlib held.whole_library k h ∙ sym (words_in_library l sc₁ nlib held.whole_library k h) in
        subst IsWords same (old.each k (omega arith))

    scratch_row : (i : ℕ) → i < m₁ → IsWords (part 9 sc₁ i)
    scratch_row i h =
        ⊎_elim
        (λ (k : i < m).
        let same : words_at l sc (nlib + i) ≡ part 9 sc₁ i = words_in_scratch l sc nlib held.whole_library i ∙ sym (part_same sc₁ sc m i first.kept k) in
        subst IsWords same (old.each (nlib + i) (omega arith)))
        (λ (k : m ≤ i). first_grown.rows i k h)
        (lt_or_ge i m)

    -- rows stay as the rules have them
    pub done_are_rows : AreRows l sc₁ m₁ nlib
    done_are_rows = record {
      each = λ n.
          by_place l sc₁ nlib held.whole_library (λ (k : ℕ). IsWords (words_at l sc₁ k)) m₁ n library_row
          (λ i h. subst IsWords (sym (words_in_scratch l sc₁ nlib held.whole_library i)) (scratch_row i h));
    }

  pub wrote_then : (r : Out) (sc₂ : List ℕ) (out : course.Out) → Wrote l sc₁ m₁ r sc₂ out → Wrote l sc m r sc₂ out
  wrote_then r sc₂ out second =
      let grown = first_grown in
      record {
        says = second.says;
        kept = fewer_kept sc₂ sc₁ (9 * m) (9 * m₁) (omega arith) second.kept ∙ first.kept;
        same_length = second.same_length ∙ first.same_length;
        grown = λ q m₂ e. grown_on sc sc₁ sc₂ m m₁ m₂ second.kept grown (second.grown q m₂ e);
      }
