-- A term applied to a run of arguments, one row each: what is written after one more argument, and what a refusal on the way leaves.
-- Assumes what `apply` is given (`Applies`).
use Prim.Native.Nat.{ℕ, zero, suc, ◌+◌, ◌-◌, ◌/◌, ◌≤◌, ◌<◌}
use native.Mathlib.Omega.{arith}
use mathlib.Core.Path.{◌≡◌, refl, sym, ap, ◌∙◌}
use mathlib.Core.List.{List, [], ◌∷◌, ◌++◌}
use mathlib.Core.Option.{some}
use lib.ListN.{length, take, drop, length-append}
use lib.Seq.{take-add, drop-drop}
use Rattle.rules.specs.Kinds.{app}
use Rattle.rules.specs.Rows as rules
use Rattle.rules.specs.Rows.{Row, Store, Got, got, put, node, blank, cell}
use Rattle.rules.specs.RowCheck.{AllPass, InScope}
use Rattle.rules.specs.Declarations.{nth}
use Rattle.course.specs.Views.{Cmp, up_to, over, cmp, FitView, fits, no_fit, fit_view}
use Rattle.course.specs.Charged as course
use Rattle.course.specs.Charged.{and_on, put_on, put_in, join_in}
use Rattle.ways.specs.Spines.{args_of}
use Rattle.rows.specs.declared.Ptr.{Ptr}
use Rattle.rows.specs.Refusals.{Out, number_of}
use Rattle.std.specs.Prelude.{Ok, Err}
use Rattle.rows.specs.declared.refusals.Refusal.{Refusal}
use Rattle.rows.specs.Words.{ptr_of, store_of, whole, Held}
use Rattle.rows.specs.Writes.{Wrote}
use Rattle.rows.proofs.Store.{held_length}
use Rattle.rows.proofs.InTurn.{wrote_nothing, done_held, done_prefix, wrote_then}
use Rattle.spine.specs.Walks.{Argument, Counted, Applies, run_in}
use Rattle.spine.proofs.ForCallers.{may_ask, argument_is, argument_scope}

-- a row that was written stands below the new mark
put_there : (most : ℕ) (s : Store) (w : Row) (g : Got) → course.wrote g ≡ put_in most s w → g.at.row < length g.store
unfolding put_in
put_there most s w g = go (fit_view (cell s w)) (cmp most (length s))
  where
    go : (f : FitView (cell s w)) (q : Cmp most (length s)) → course.wrote g ≡ put_on most s w f q → g.at.row < length g.store
    go (no_fit h) q e = absurd (let z : ◌≡◌ {A = ℕ} 0 1 = cc in omega arith)
    go (fits h) (up_to l) e = absurd (let z : ◌≡◌ {A = ℕ} 0 1 = cc in omega arith)
    go (fits h) (over l) e =
        let same : g ≡ put s w = cc in
        rw same (simp length-append (omega arith))

-- A RUN OF A LIST

abbrev run : ℕ → ℕ → List rules.Ptr → List rules.Ptr
run from to xs = take (to - from) (drop from xs)

run_split : (from i to : ℕ) (xs : List rules.Ptr) → from ≤ i → i ≤ to → run from to xs ≡ run from i xs ++ run i to xs
run_split from i to xs low high =
    let whole : to - from ≡ (i - from) + (to - i) = omega arith in
    let seam : from + (i - from) ≡ i = omega arith in
    ap (λ (n : ℕ). take n (drop from xs)) whole ∙ take-add (i - from) (to - i) (drop from xs)
    ∙ ap (λ (ys : List rules.Ptr). run from i xs ++ take (to - i) ys) (drop-drop (i - from) from xs ∙ ap (λ (n : ℕ). drop n xs) seam)

first_of : (i : ℕ) (xs : List rules.Ptr) (x : rules.Ptr) → nth xs i ≡ some x → take 1 (drop i xs) ≡ x ∷ []
unfolding nth
first_of i [] x e = absurd (let z : ◌≡◌ {A = ℕ} 0 1 = cc in omega arith)
first_of zero (y ∷ xs) x e = let same : y ≡ x = cc in ap (λ (z : rules.Ptr). z ∷ []) same
first_of (suc i) (y ∷ xs) x e = first_of i xs x e

run_one : (i : ℕ) (xs : List rules.Ptr) (x : rules.Ptr) → nth xs i ≡ some x → run i (i + 1) xs ≡ x ∷ []
run_one i xs x e =
    let one : i + 1 - i ≡ 1 = omega arith in ap (λ (n : ℕ). take n (drop i xs)) one ∙ first_of i xs x e

-- ARGUMENTS APPLIED IN TURN

module _ (most : ℕ) where
  pub join_append : (s : Store) (p : rules.Ptr) (xs ys : List rules.Ptr) →
      join_in most s p (xs ++ ys) ≡ and_on (join_in most s p xs) (λ g. join_in most g.store g.at ys)
  unfolding join_in
  join_append s p [] ys = refl
  join_append s p (a ∷ xs) ys = go (λ s' p'. join_append s' p' xs ys) (put_in most s (node app p a blank))
    where
      go : ((s' : Store) (p' : rules.Ptr) → join_in most s' p' (xs ++ ys) ≡ and_on (join_in most s' p' xs) (λ g. join_in most g.store g.at ys)) → (o : course.Out) →
          and_on o (λ g. join_in most g.store g.at (xs ++ ys)) ≡ and_on (and_on o (λ g. join_in most g.store g.at xs)) (λ g. join_in most g.store g.at ys)
      go ih (course.wrote g) = ih g.store g.at
      go ih (course.refused k) = refl
      go ih course.lost = refl

  join_one : (s : Store) (p a : rules.Ptr) → join_in most s p (a ∷ []) ≡ put_in most s (node app p a blank)
  unfolding join_in
  join_one s p a = go (put_in most s (node app p a blank))
    where
      go : (o : course.Out) → and_on o (λ g. course.wrote (got g.store g.at)) ≡ o
      go (course.wrote g) = refl
      go (course.refused k) = refl
      go course.lost = refl

  module _ (s : Store) (f : rules.Ptr) (xs : List rules.Ptr) (from i : ℕ) (low : from ≤ i) where
    -- one more argument is one more row
    join_next : (g : Got) (x : rules.Ptr) → course.wrote g ≡ join_in most s f (run from i xs) → nth xs i ≡ some x →
        put_in most g.store (node app g.at x blank) ≡ join_in most s f (run from (i + 1) xs)
    join_next g x so_far e =
        sym (join_one g.store g.at x)
        ∙ ap (λ (o : course.Out). and_on o (λ h. join_in most h.store h.at (x ∷ []))) so_far
        ∙ sym (join_append s f (run from i xs) (x ∷ []))
        ∙ ap (join_in most s f) (ap (λ (ys : List rules.Ptr). run from i xs ++ ys) (sym (run_one i xs x e)) ∙ sym (run_split from i (i + 1) xs low (omega arith)))

    -- a refusal on the way is the answer
    join_refused : (k to : ℕ) → i ≤ to → course.refused k ≡ join_in most s f (run from i xs) → course.refused k ≡ join_in most s f (run from to xs)
    join_refused k to high e =
        ap (λ (o : course.Out). and_on o (λ h. join_in most h.store h.at (run i to xs))) e
        ∙ sym (join_append s f (run from i xs) (run i to xs))
        ∙ ap (join_in most s f) (sym (run_split from i to xs low high))

-- THE LOOP

-- the arguments from..i have been applied: result stands for them, and rows are used up to `at`
pub record Applied (l sc : List ℕ) (nlib m : ℕ) (f t : Ptr) (from : ℕ) (sc₁ : List ℕ) (result : Ptr) (at i : ℕ) : Type 0 where
  pub wrote : Wrote l sc m (Ok (result, at)) sc₁ (run_in (nlib + length sc / 9) (store_of l sc m) (ptr_of f) (ptr_of t) from i)
  pub there : result.row < nlib + at
  pub begun : from ≤ i

module _ (l sc : List ℕ) (nlib m : ℕ) (f t : Ptr) (count from to : ℕ) (given : Applies l sc nlib m f t count from to) where
  abbrev most : ℕ
  most = nlib + length sc / 9

  abbrev args : List rules.Ptr
  args = args_of (store_of l sc m) (ptr_of t)

  pub none_applied : Applied l sc nlib m f t from sc f m from
  unfolding join_in
  none_applied =
      let none : from - from ≡ 0 = omega arith in
      record {
        wrote = rw none (wrote_nothing l sc m f given.held.room);
        there = given.there;
        begun = omega arith;
      }

  module _ (sc₁ : List ℕ) (result : Ptr) (at i : ℕ) (k : Applied l sc nlib m f t from sc₁ result at i) where
    old_rows : store_of l sc₁ m ≡ store_of l sc m
    old_rows = done_prefix l sc m result at sc₁ _ k.wrote

    now_held : Held l sc₁ at nlib
    now_held = done_held l sc m result at sc₁ _ k.wrote nlib given.held

    upward : m ≤ at
    upward = (k.wrote.grown result at refl).upward

    -- the walk is asked of the rows below the old mark, so nothing need be known of the new ones
    old_held : Held l sc₁ m nlib
    old_held =
        let up = upward in
        let room = now_held.room in
        record { whole_library = now_held.whole_library; few = now_held.few; whole_scratch = now_held.whole_scratch; fewer = now_held.fewer; room = omega arith }

    old_pass : AllPass given.declarations (store_of l sc₁ m)
    old_pass = rw old_rows given.pass

    old_scope : InScope (store_of l sc₁ m) given.depth (ptr_of t)
    old_scope = rw old_rows given.scope

    old_count : length (args_of (store_of l sc₁ m) (ptr_of t)) ≡ count
    old_count = rw old_rows given.counted

    pub counted_still : Counted l sc₁ t count
    counted_still = may_ask l sc₁ m nlib _ _ old_held old_pass t old_scope given.small count old_count

    module _ (a : Ptr) (answered : Argument (whole l sc₁) (ptr_of t) count i a) where
      the_argument : nth args i ≡ some (ptr_of a)
      the_argument = rw old_rows at (argument_is l sc₁ m nlib _ _ old_held old_pass t old_scope count i a old_count answered)

      argument_there : a.row < nlib + at
      argument_there =
          let low = (argument_scope l sc₁ m nlib _ _ old_held old_pass t old_scope count i a old_count answered).there in
          let many = held_length l sc₁ m nlib old_held in
          let up = upward in omega arith

      pub may_apply : Held l sc₁ at nlib × ((result.row < nlib + at) × (a.row < nlib + at))
      may_apply = (now_held, (k.there, argument_there))

      -- the row of one more application
      abbrev next : course.Out
      next = put_in (nlib + length sc₁ / 9) (store_of l sc₁ at) (node app (ptr_of result) (ptr_of a) blank)

      next_is : next ≡ join_in most (store_of l sc m) (ptr_of f) (run from (i + 1) args)
      next_is = rw k.wrote.same_length (join_next most (store_of l sc m) (ptr_of f) args from i k.begun (got (store_of l sc₁ at) (ptr_of result)) (ptr_of a) k.wrote.says the_argument)

      one_more : {out : Out} {sc₂ : List ℕ} → Wrote l sc₁ at out sc₂ next → Wrote l sc m out sc₂ (run_in most (store_of l sc m) (ptr_of f) (ptr_of t) from (i + 1))
      one_more {out} {sc₂} w = rw next_is at (wrote_then l sc m result at sc₁ _ k.wrote out sc₂ next w)

      pub applied_next : {out : Out} {sc₂ : List ℕ} (p : Ptr) (at₂ : ℕ) → out ≡ Ok (p, at₂) → Wrote l sc₁ at out sc₂ next → Applied l sc nlib m f t from sc₂ p at₂ (i + 1)
      applied_next {out} {sc₂} p at₂ e w =
          let done : Wrote l sc₁ at (Ok (p, at₂)) sc₂ next = rw e at w in
          let low = put_there _ _ _ _ done.says in
          let many = held_length l sc₂ at₂ nlib (done_held l sc₁ at p at₂ sc₂ _ done nlib now_held) in
          let begun = k.begun in
          record { wrote = one_more done; there = omega arith; begun = omega arith }

      pub refused_there : {sc₂ : List ℕ} (n : Refusal) → i < to → Wrote l sc₁ at (Err n) sc₂ next →
          Wrote l sc m (Err n) sc₂ (run_in most (store_of l sc m) (ptr_of f) (ptr_of t) from to)
      refused_there {sc₂} n h w =
          let begun = k.begun in
          let so_far = one_more w in
          record {
            says = join_refused most (store_of l sc m) (ptr_of f) args from (i + 1) (omega arith) (number_of n) to (omega arith) so_far.says;
            kept = so_far.kept;
            same_length = so_far.same_length;
            grown = λ p m' q. absurd (let z : ◌≡◌ {A = ℕ} 0 1 = cc in omega arith);
          }

    pub all_applied : i ≡ to → Wrote l sc m (Ok (result, at)) sc₁ (run_in most (store_of l sc m) (ptr_of f) (ptr_of t) from to)
    all_applied e = rw (← e) k.wrote
