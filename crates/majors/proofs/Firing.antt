-- A firing as the code ends it: 4 first, then the number, then the rows. Rows written where the step is there are the firing's answer.
-- Assumes nothing.
use Prim.Native.Nat.{ℕ, ◌≤◌, ◌<◌}
use native.Mathlib.Omega.{arith}
use native.Mathlib.Numerals.{add-one}
use mathlib.Core.Path.{◌≡◌, refl, ap, ◌∙◌, subst}
use mathlib.Core.List.{List, []}
use mathlib.Core.Option.{none, some}
use Rattle.rules.specs.Maxima.{most_number}
use Rattle.rules.specs.Kinds.{const, num}
use Rattle.rules.specs.Rows as rules
use Rattle.rules.specs.Rows.{leaf, got}
use Rattle.rules.specs.Firings.{Tally, tally, Result, itself, a_number, a_constant, NumberFits, itself_fits, number_fits, constant_fits}
use Rattle.rules.specs.Refusals.{Limits}
use Rattle.course.specs.Views.{Cmp, up_to, over, cmp, NumberView, in_range, too_big, number_view}
use Rattle.course.specs.Charged as course
use Rattle.course.specs.Charged.{and_on, put_in, join_in, give_in, due_in}
use Rattle.ways.specs.Steps as ways
use Rattle.ways.specs.Steps.{stopped, out_step, fire_in_on, fire_in}
use Rattle.rows.specs.Refusals.{Out}
use Rattle.rows.specs.Words.{ptr_of, store_of}
use Rattle.rows.specs.Writes.{Grown, Wrote}
use Rattle.state.specs.declared.Meter.{Meter}
use Rattle.state.specs.State.{one_step, Left}
use Rattle.majors.specs.Majors.{answered}
use Rattle.std.specs.Prelude.{Err, Ok}
use Rattle.rows.specs.Refusals.{number_of}
use Rattle.rows.specs.declared.refusals.Refusal.{Refusal}

-- 4, 7, THEN THE ROWS

fits_not_large : {n : ℕ} → NumberFits (a_number n) → most_number < n → ⊥
fits_not_large (number_fits h) l = omega arith

module _ (lim : Limits) (m : Tally) (xs : List rules.Ptr) where
  pub no_step : (r : Result) → lim.steps ≤ m.steps → fire_in lim m r xs ≡ stopped 4
  unfolding fire_in
  no_step r h = go (cmp lim.steps m.steps)
    where
      go : (c : Cmp lim.steps m.steps) → fire_in_on lim m r xs c (number_view r) ≡ stopped 4
      go (up_to l) = refl
      go (over l) = absurd (omega arith)

  module _ (step : m.steps < lim.steps) where
    -- the step is there
    stepped : (r : Result) → fire_in lim m r xs ≡ fire_in_on lim m r xs (over step) (number_view r)
    unfolding fire_in
    stepped r = go r (cmp lim.steps m.steps) (number_view r)
      where
        go : (r : Result) (c : Cmp lim.steps m.steps) (v : NumberView r) → fire_in_on lim m r xs c v ≡ fire_in_on lim m r xs (over step) v
        go r (up_to l) v = absurd (omega arith)
        go r (over l) (in_range f) = refl
        go r (over l) (too_big f) = refl

    pub too_large_stops : (n : ℕ) → most_number < n → fire_in lim m (a_number n) xs ≡ stopped 7
    too_large_stops n h = stepped (a_number n) ∙ go (number_view (a_number n))
      where
        go : (v : NumberView (a_number n)) → fire_in_on lim m (a_number n) xs (over step) v ≡ stopped 7
        go (in_range f) = absurd (fits_not_large f h)
        go (too_big l) = refl

    rows_due : (r : Result) → NumberFits r → fire_in lim m r xs ≡ out_step lim m.steps (due_in lim.rows m.store r xs)
    rows_due r f = stepped r ∙ go r f (number_view r)
      where
        go : (r : Result) → NumberFits r → (v : NumberView r) → fire_in_on lim m r xs (over step) v ≡ out_step lim m.steps (due_in lim.rows m.store r xs)
        go r f (in_range h) = refl
        go r f (too_big l) = absurd (fits_not_large f l)

    -- a pointer that stands already, applied to its arguments
    pub itself_due : (p : rules.Ptr) → fire_in lim m (itself p) xs ≡ out_step lim m.steps (join_in lim.rows m.store p xs)
    unfolding due_in give_in
    itself_due p = rows_due (itself p) itself_fits

wrote_again : (o : course.Out) → and_on o (λ g. course.wrote (got g.store g.at)) ≡ o
wrote_again (course.wrote g) = refl
wrote_again (course.refused k) = refl
wrote_again course.lost = refl

-- one row, with no remaining arguments
module _ (lim : Limits) (m : Tally) (step : m.steps < lim.steps) where
  pub number_due : (n : ℕ) → n ≤ most_number → fire_in lim m (a_number n) [] ≡ out_step lim m.steps (put_in lim.rows m.store (leaf (num n)))
  unfolding due_in give_in join_in
  number_due n h = rows_due lim m [] step (a_number n) (number_fits h) ∙ ap (out_step lim m.steps) (wrote_again (put_in lim.rows m.store (leaf (num n))))

  pub constant_due : (d : ℕ) → fire_in lim m (a_constant d) [] ≡ out_step lim m.steps (put_in lim.rows m.store (leaf (const d 0)))
  unfolding due_in give_in join_in
  constant_due d = rows_due lim m [] step (a_constant d) constant_fits ∙ ap (out_step lim m.steps) (wrote_again (put_in lim.rows m.store (leaf (const d 0))))

-- WHAT IS LEFT

none_some : {A : Type 0} {x : A} → none ≡ some x → ⊥
none_some {A} {x} q = let z : ◌≡◌ {A = ℕ} 0 1 = cc in omega arith

pub fired_left : (l sc : List ℕ) (lim : Limits) (m : Meter) (out : Out) (sc' : List ℕ) (o : course.Out) → Wrote l sc m.mark out sc' o →
    Left l sc m (answered m out) sc' (out_step lim m.steps o)
fired_left l sc lim m (Ok (p, mark)) sc' o w = record {
  says = ap (λ (n : ℕ). ways.fired (tally n (store_of l sc' mark)) (ptr_of p)) (add-one m.steps) ∙ ap (out_step lim m.steps) w.says;
  kept = w.kept;
  same_length = w.same_length;
  grown = λ m' q. subst (λ (n : ℕ). Grown sc m.mark sc' n) (let z : some (one_step m mark) ≡ some m' = q in cc) (w.grown p mark refl);
}
fired_left l sc lim m (Err k) sc' o w = record {
  says = ap (out_step lim m.steps) w.says;
  kept = w.kept;
  same_length = w.same_length;
  grown = λ m' q. absurd (none_some q);
}

-- a refusal before any row
pub stopped_left : (l sc : List ℕ) (m : Meter) (k : Refusal) → Left l sc m (Err k) sc (stopped (number_of k))
stopped_left l sc m k = record { says = refl; kept = refl; same_length = refl; grown = λ m' q. absurd (none_some q) }
