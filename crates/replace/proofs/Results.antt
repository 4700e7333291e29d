-- What a caller has of an answer: a pointer is what the rules replace to, in rows that are sound for the next call; a refusal is the first
-- of the rules' due rows that may not stand. And rows that were checked are sound. Assumes nothing but the contract.
use Prim.Native.Nat.{ℕ, ◌+◌, ◌*◌, ◌≤◌, ◌<◌}
use native.Mathlib.Nat.{le_refl}
use native.Mathlib.Omega.{arith}
use mathlib.Core.Path.{◌≡◌, sym, ap, subst, ◌∙◌}
use mathlib.Core.List.{List, ◌++◌}
use lib.ListN.{length, take}
use Rattle.rules.specs.Rows.{Cell, cell_at, got}
use Rattle.rules.specs.RowCheck.{Passes, AllPass}
use Rattle.rules.specs.Accepted.{IsRow, Keep}
use Rattle.course.specs.Charged as course
use Rattle.course.specs.Charged.{replace_in}
use Rattle.rows.specs.declared.Ptr.{Ptr}
use Rattle.rows.specs.declared.refusals.Refusal.{Refusal}
use Rattle.rows.specs.Refusals.{Out, number_of}
use Rattle.std.specs.Prelude.{Ok, Err}
use Rattle.rows.specs.Words.{ptr_of, decode, store_of, words_at, Held}
use Rattle.rows.specs.Writes.{out_of, Wrote}
use Rattle.rows.proofs.Store.{cell_is, held_length, part_of_words}
use Rattle.rows.proofs.KeptRows.{cell_nth}
use Rattle.replace.specs.declared.Sub.{Sub}
use Rattle.replace.specs.Replaced.{value_of, most_rows, height_of, Sound, PtrReady, Replaced}
use Rattle.replace.proofs.Comes.{Came, Stopped, came, stopped}
use Rattle.replace.proofs.Later.{held_room, sound_later}

-- AN ANSWER

module _ {l sc : List ℕ} {nlib m : ℕ} {p : Ptr} {c : ℕ} {x : Sub} {r : Out} {sc' : List ℕ} (given : PtrReady l sc nlib m p c x)
    (done : Replaced l sc nlib m p c x r sc') where
  abbrev most : ℕ
  most = most_rows nlib sc

  abbrev enough : ℕ
  enough = height_of l sc m p.row

  abbrev answer : course.Out
  answer = replace_in most (value_of x) x.by enough c (store_of l sc m) (ptr_of p)

  abbrev room : length (store_of l sc m) ≤ most
  room = held_room l sc m nlib given.ready.sound.held

  wrote : Wrote l sc m r sc' answer
  wrote = done.wrote enough (le_refl _)

  says : {o : Out} → r ≡ o → out_of o l sc' ≡ answer
  says e = ap (λ (o : Out). out_of o l sc') (sym e) ∙ wrote.says

  pub replaced_came : {q : Ptr} {m' : ℕ} → r ≡ Ok (q, m') →
      Came given.ready.sound.declarations (value_of x) x.by c (store_of l sc m) (ptr_of p) (got (store_of l sc' m') (ptr_of q))
  replaced_came e = came _ _ _ _ _ _ most enough given.ready.sound.pass given.good given.ready.value room (le_refl _) (says e)

  pub replaced_stopped : {k : Refusal} → r ≡ Err k → Stopped most (value_of x) x.by c (store_of l sc m) (ptr_of p) (number_of k)
  replaced_stopped e = stopped _ _ _ _ _ _ most enough given.ready.sound.pass given.good given.ready.value room (le_refl _) (says e)

  pub replaced_sound : {q : Ptr} {m' : ℕ} → r ≡ Ok (q, m') → Sound l sc' nlib m'
  replaced_sound {q} {m'} e =
      let done_wrote = subst (λ (o : Out). Wrote l sc m o sc' answer) e wrote in
      sound_later l sc nlib m given.ready.sound q m' sc' answer done_wrote (replaced_came e).pass

-- ROWS THAT WERE CHECKED

module _ {D : ℕ} {l sc : List ℕ} {nlib m : ℕ} (held : Held l sc m nlib)
    (keep : Keep 9 (l ++ take (9 * m) sc) IsRow (Passes D) (nlib + m) (store_of l sc m)) where
  checked_words : (n : ℕ) → n < nlib + m → IsRow (words_at l sc n) (decode (words_at l sc n))
  checked_words n h =
      let there : n < length (store_of l sc m) = omega (arith, held_length l sc m nlib held) in
      let row = keep.words n (cell_at (store_of l sc m) n) (cell_nth (store_of l sc m) n there) in
      subst (λ (y : Cell). IsRow (words_at l sc n) y) (cell_is l sc nlib held.whole_library m n h)
      (subst (λ (ws : List ℕ). IsRow ws (cell_at (store_of l sc m) n)) (part_of_words l sc nlib held.whole_library m n h) row)

  checked_pass : AllPass D (store_of l sc m)
  checked_pass = record { each = λ n h. keep.rules n (omega (arith, h, held_length l sc m nlib held)) }

  pub checked_sound : Sound l sc nlib m
  checked_sound = record { held = held; words = checked_words; declarations = D; pass = checked_pass }
