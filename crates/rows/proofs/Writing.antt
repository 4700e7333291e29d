-- The row writer against the course's `put_in`: 8, 5, or the row at the mark; and two writes in turn.
-- Assumes nothing.
use Prim.Native.Nat.{ℕ, ◌+◌, ◌*◌, ◌-◌, ◌/◌, ◌≤◌, ◌<◌}
use native.Mathlib.Omega.{arith}
use native.Mathlib.Numerals.{add-one}
use mathlib.Core.Path.{◌≡◌, refl, sym, ap, ap₂, subst, ◌∙◌}
use mathlib.Core.List.{List, [], ◌∷◌, ◌++◌}
use borrow.Rule.Slice.PartMut.{put_mid}
use lib.ListN.{length, take, drop, length-append, length-drop}
use lib.Seq.{take_at, drop_at, drop-drop, length-take-le}
use Rattle.rules.specs.Rows as rules
use Rattle.rules.specs.Rows.{Row, Cell, Store, got, put, cell}
use Rattle.rules.specs.RowCheck.{Fits}
use Rattle.rules.specs.Accepted.{IsRow, part}
use Rattle.course.specs.Views.{Cmp, up_to, over, cmp, FitView, fit_view}
use Rattle.course.specs.Views as view
use Rattle.course.specs.Charged as course
use Rattle.course.specs.Charged.{put_on, put_in}
use Rattle.rows.specs.declared.Ptr.{Ptr}
use Rattle.rows.specs.declared.Shape.{Shape}
use Rattle.rows.specs.declared.refusals.Refusal.{Refusal}
use Rattle.rows.specs.declared.refusals.Refusal.TheVariants.{NoFreeRow, NoSize}
use Rattle.rows.specs.Refusals.{Out, number_of}
use Rattle.std.specs.Prelude.{Ok, Err}
use Rattle.rows.specs.declared.kinds.Sizes.{Sizes}
use Rattle.rows.specs.Words.{ptr_of, row_of, decode, words_of, store_of, whole, Children, Held}
use Rattle.rows.specs.Checks.{Formed, Within, sizes_of}
use Rattle.rows.specs.Writes.{Grown, Wrote, Due, Pushed, too_large, none_free, at_mark}
use Rattle.rows.proofs.RefusalNumbers.{same_mark}
use Rattle.rows.proofs.Store.{used_stands, cell_used, held_length, store_same, store_suc}
use Rattle.rows.proofs.Formed.{formed_row}
use Rattle.rows.proofs.Agree.{cell_row, row_agree}

-- WORDS

-- a list with nine words from `at` on replaced
pub pasted : (xs ws ys : List ℕ) (at : ℕ) → ys ≡ ws → put_mid at (at + 9 - at) xs ys ≡ take at xs ++ (ws ++ drop (at + 9) xs)
pasted xs ws ys at e =
    let nine : at + 9 - at ≡ 9 = omega arith in
    rw (e, nine, drop-drop) refl

-- what stands in a list of words after nine of them are written at mark m
module _ (sc ws sc' : List ℕ) (m : ℕ) (nine : length ws ≡ 9) (room : 9 * m + 9 ≤ length sc)
    (written : sc' ≡ take (9 * m) sc ++ (ws ++ drop (9 * m + 9) sc)) where
  before_mark : length (take (9 * m) sc) ≡ 9 * m
  before_mark = length-take-le (9 * m) sc (omega arith)

  write_keeps : take (9 * m) sc' ≡ take (9 * m) sc
  write_keeps = ap (take (9 * m)) written ∙ take_at (take (9 * m) sc) (ws ++ drop (9 * m + 9) sc) (9 * m) before_mark

  from_mark : drop (9 * m) sc' ≡ ws ++ drop (9 * m + 9) sc
  from_mark = ap (drop (9 * m)) written ∙ drop_at (take (9 * m) sc) (ws ++ drop (9 * m + 9) sc) (9 * m) before_mark

  write_part : part 9 sc' m ≡ ws
  write_part = ap (take 9) from_mark ∙ take_at ws (drop (9 * m + 9) sc) 9 nine

  write_past : drop (9 * (m + 1)) sc' ≡ drop (9 * (m + 1)) sc
  write_past =
      let at : 9 * (m + 1) ≡ 9 * m + 9 = omega arith in
      ap (λ (n : ℕ). drop n sc') at ∙ sym (drop-drop 9 (9 * m) sc') ∙ ap (drop 9) from_mark ∙ drop_at ws (drop (9 * m + 9) sc) 9 nine ∙ ap (λ (n : ℕ). drop n sc) (sym at)

  write_length : length sc' ≡ length sc
  write_length =
      ap length written ∙ simp (length-append, length-drop) (omega (arith, before_mark, nine))

-- THE COURSE'S WRITE

module _ (most : ℕ) (s : Store) (w : Row) where
  put_large : (Fits (cell s w) → ⊥) → put_in most s w ≡ course.refused 8
  unfolding put_in
  put_large large = go (fit_view (cell s w)) (cmp most (length s))
    where
      go : (f : FitView (cell s w)) (q : Cmp most (length s)) → put_on most s w f q ≡ course.refused 8
      go (view.fits h) q = absurd (large h)
      go (view.no_fit h) q = refl

  put_full : Fits (cell s w) → most ≤ length s → put_in most s w ≡ course.refused 5
  unfolding put_in
  put_full small none = go (fit_view (cell s w)) (cmp most (length s))
    where
      go : (f : FitView (cell s w)) (q : Cmp most (length s)) → put_on most s w f q ≡ course.refused 5
      go (view.fits h) (up_to l) = refl
      go (view.fits h) (over l) = absurd (omega arith)
      go (view.no_fit h) q = absurd (h small)

  put_done : Fits (cell s w) → length s < most → put_in most s w ≡ course.wrote (put s w)
  unfolding put_in
  put_done small room = go (fit_view (cell s w)) (cmp most (length s))
    where
      go : (f : FitView (cell s w)) (q : Cmp most (length s)) → put_on most s w f q ≡ course.wrote (put s w)
      go (view.fits h) (up_to l) = absurd (omega arith)
      go (view.fits h) (over l) = refl
      go (view.no_fit h) q = absurd (h small)

-- THE ROW WRITER

module _ (l sc : List ℕ) (nlib m : ℕ) (w : Shape) (held : Held l sc m nlib) (due : Due (nlib + m) w) where
  pub due_children : Children l sc w
  due_children = record {
    kind = due.kind;
    first = λ child. used_stands l sc m nlib held w.first.row (due.first child);
    second = λ child. used_stands l sc m nlib held w.second.row (due.second child);
    third = λ child. used_stands l sc m nlib held w.third.row (due.third child);
  }

  -- the children stand below the mark, so the row's bound and height are those of the used store
  due_cell : cell (whole l sc) (row_of w) ≡ cell (store_of l sc m) (row_of w)
  due_cell =
      row_agree (whole l sc) (store_of l sc m) w.kind (ptr_of w.first) (ptr_of w.second) (ptr_of w.third) due.kind
      (λ child. cell_used l sc m nlib held w.first.row (due.first child))
      (λ child. cell_used l sc m nlib held w.second.row (due.second child))
      (λ child. cell_used l sc m nlib held w.third.row (due.third child))

  abbrev answer : course.Out
  answer = put_in (nlib + length sc / 9) (store_of l sc m) (row_of w)

  refused_wrote : (k : Refusal) → answer ≡ course.refused (number_of k) → Wrote l sc m (Err k) sc answer
  refused_wrote k e = record { says = sym e; kept = refl; same_length = refl; grown = λ p m' d. absurd (let z : ◌≡◌ {A = ℕ} 0 1 = cc in omega arith) }

  module _ (z : Sizes) (size : z ≡ sizes_of (cell (whole l sc) (row_of w))) (word : w.first.row < 4294967296) where
    size_is : z ≡ sizes_of (cell (store_of l sc m) (row_of w))
    size_is = size ∙ ap sizes_of due_cell

    bound_is : z.bound ≡ (cell (store_of l sc m) (row_of w)).bound
    bound_is = ap (λ (y : Sizes). y.bound) size_is

    height_is : z.height ≡ (cell (store_of l sc m) (row_of w)).height
    height_is = ap (λ (y : Sizes). y.height) size_is

    -- the nine words are the row that is due
    words_due : decode (words_of w z.bound z.height) ≡ cell (store_of l sc m) (row_of w)
    unfolding decode
    words_due = λ i. record { row = sym (cell_row (store_of l sc m) (row_of w)) i; bound = bound_is i; height = height_is i }

    small : Within z → Fits (cell (store_of l sc m) (row_of w))
    small h = record { bound = rw (← bound_is) h.bound; height = rw (← height_is) h.height }

    large : (Within z → ⊥) → Fits (cell (store_of l sc m) (row_of w)) → ⊥
    large f h = f (record { bound = rw bound_is h.bound; height = rw height_is h.height })

    module _ (p : Ptr) (sc' : List ℕ) (room : 9 * m + 9 ≤ length sc) (at : p ≡ record { row = nlib + m; shift = 0 })
        (written : sc' ≡ take (9 * m) sc ++ (words_of w z.bound z.height ++ drop (9 * m + 9) sc)) where
      part_is : part 9 sc' m ≡ words_of w z.bound z.height
      part_is = write_part sc (words_of w z.bound z.height) sc' m refl room written

      keeps : take (9 * m) sc' ≡ take (9 * m) sc
      keeps = write_keeps sc (words_of w z.bound z.height) sc' m refl room written

      store_written : store_of l sc' (m + 1) ≡ store_of l sc m ++ (cell (store_of l sc m) (row_of w) ∷ [])
      store_written =
          ap (store_of l sc') (add-one m) ∙ store_suc l sc' nlib held.whole_library m
          ∙ ap₂ (λ (s : Store) (x : Cell). s ++ (x ∷ [])) (store_same l sc' sc m keeps) (ap decode part_is ∙ words_due)

      place : ptr_of p ≡ rules.ptr (length (store_of l sc m)) 0
      place = ap ptr_of at ∙ ap (λ (n : ℕ). rules.ptr n 0) (sym (held_length l sc m nlib held))

      is_row : IsRow (part 9 sc' m) (decode (part 9 sc' m))
      is_row =
          let formed : Formed w = record { kind = due.kind; tidy = due.tidy } in
          subst (λ (ws : List ℕ). IsRow ws (decode ws)) (sym part_is) (formed_row w z.bound z.height formed word)

      one_row : Grown sc m sc' (m + 1)
      one_row = record {
        upward = omega arith;
        room = let same = write_length sc (words_of w z.bound z.height) sc' m refl room written in omega arith;
        past = write_past sc (words_of w z.bound z.height) sc' m refl room written;
        rows = λ i low high.
            let here : m ≡ i = omega arith in
            subst (λ (j : ℕ). IsRow (part 9 sc' j) (decode (part 9 sc' j))) here is_row;
      }

      done_wrote : Fits (cell (store_of l sc m) (row_of w)) → Wrote l sc m (Ok (p, m + 1)) sc' answer
      done_wrote f = record {
        says =
            ap₂ (λ (s : Store) (q : rules.Ptr). course.wrote (got s q)) store_written place
            ∙ sym (put_done (nlib + length sc / 9) (store_of l sc m) (row_of w) f (let many = held_length l sc m nlib held in omega arith));
        kept = keeps;
        same_length = write_length sc (words_of w z.bound z.height) sc' m refl room written;
        grown = λ q m' e. subst (λ (n : ℕ). Grown sc m sc' n) (same_mark e) one_row;
      }

    pub pushed_wrote : {r : Out} {sc' : List ℕ} → Pushed sc nlib m w z r sc' → Wrote l sc m r sc' answer
    pushed_wrote (too_large f) = refused_wrote NoSize (put_large _ _ _ (large f))
    pushed_wrote (none_free h none) =
        refused_wrote NoFreeRow (put_full _ _ _ (small h) (let many = held_length l sc m nlib held in omega arith))
    pushed_wrote (at_mark {p} {sc'} h room at written) = done_wrote p sc' room at written (small h)
