-- How a firing ends: from what was written to the answer, on plain values.
-- Assumes nothing.
use Prim.Native.Nat.{ℕ, ◌-◌, ◌≤◌, ◌<◌}
use native.Mathlib.Numerals.{add-one}
use native.Mathlib.Omega.{arith}
use mathlib.Core.Path.{◌≡◌, refl, ap, ◌∙◌, subst}
use mathlib.Core.List.{List}
use mathlib.Core.Option.{none, some}
use lib.ListN.{length, drop, length-drop}
use lib.Seq.{take_all}
use Rattle.rules.specs.Rows as rules
use Rattle.rules.specs.Rows.{Store}
use Rattle.rules.specs.Firings.{Tally, tally, Result, itself}
use Rattle.rules.specs.Refusals.{Limits}
use Rattle.course.specs.Views.{Cmp, up_to, over, cmp, number_view}
use Rattle.course.specs.Charged as course
use Rattle.course.specs.Charged.{join_in, give_in, due_in}
use Rattle.ways.specs.Steps.{Step, fired, stopped, out_step, fire_in_on, fire_in}
use Rattle.ways.specs.Spines.{args_of}
use Rattle.rows.specs.declared.Ptr.{Ptr}
use Rattle.rows.specs.Words.{ptr_of, store_of}
use Rattle.rows.specs.Writes.{Grown, Wrote}
use Rattle.state.specs.declared.Meter.{Meter}
use Rattle.state.specs.State.{Answer}
use Rattle.state.specs.State.{one_step, Left}
use Rattle.spine.specs.Walks.{run_in}
use Rattle.std.specs.Prelude.{Err, Ok}
use Rattle.state.specs.declared.Tried.TheVariants.{Term}
use Rattle.rows.specs.Refusals.{number_of}
use Rattle.rows.specs.declared.refusals.Refusal.{Refusal}

pub none_some : {A : Type 0} {x : A} → none ≡ some x → ⊥
none_some {A} {x} q = let z : ◌≡◌ {A = ℕ} 0 1 = cc in omega arith

-- WHAT WAS WRITTEN, AS AN ANSWER. The step is there: it is counted with the term.
module _ (lim : Limits) (l sc : List ℕ) (m : Meter) (sc' : List ℕ) (out : course.Out) where
  pub wrote_term : {p : Ptr} {mark : ℕ} → Wrote l sc m.mark (Ok (p, mark)) sc' out →
      Left l sc m (Ok (Term p (one_step m mark))) sc' (out_step lim m.steps out)
  wrote_term {p} {mark} w = record {
    says = ap (λ (n : ℕ). fired (tally n (store_of l sc' mark)) (ptr_of p)) (add-one m.steps) ∙ ap (out_step lim m.steps) w.says;
    kept = w.kept;
    same_length = w.same_length;
    grown = λ m' q. let z : one_step m mark ≡ m' = cc in subst (λ (x : Meter). Grown sc m.mark sc' x.mark) z (w.grown p mark refl);
  }

  pub wrote_refused : {k : Refusal} → Wrote l sc m.mark (Err k) sc' out → Left l sc m (Err k) sc' (out_step lim m.steps out)
  wrote_refused w = record {
    says = ap (out_step lim m.steps) w.says;
    kept = w.kept;
    same_length = w.same_length;
    grown = λ m' q. absurd (none_some q);
  }

-- a refusal before anything is written
pub stopped_before : {l sc : List ℕ} {m : Meter} {step : Step} (k : Refusal) → stopped (number_of k) ≡ step → Left l sc m (Err k) sc step
stopped_before k e = record { says = e; kept = refl; same_length = refl; grown = λ m' q. absurd (none_some q) }

-- A RUN TO THE END of the arguments is all from `from` on
pub rest_is : (most : ℕ) (s : Store) (f t : rules.Ptr) (count from : ℕ) → length (args_of s t) ≡ count → run_in most s f t from count ≡ join_in most s f (drop from (args_of s t))
rest_is most s f t count from q = ap (join_in most s f) (take_all (count - from) (drop from (args_of s t)) (let h = length-drop from (args_of s t) in omega arith))

-- THE STEP: 4 before anything else
pub no_step : (lim : Limits) (m : Tally) (r : Result) (xs : List rules.Ptr) → lim.steps ≤ m.steps → stopped 4 ≡ fire_in lim m r xs
unfolding fire_in
no_step lim m r xs h = go (cmp lim.steps m.steps)
  where
    go : (c : Cmp lim.steps m.steps) → stopped 4 ≡ fire_in_on lim m r xs c (number_view r)
    go (up_to l) = refl
    go (over l) = absurd (omega arith)

-- where the step is there and no number is written, the rows follow
pub itself_fires : (lim : Limits) (m : Tally) (p : rules.Ptr) (xs : List rules.Ptr) → m.steps < lim.steps →
    out_step lim m.steps (join_in lim.rows m.store p xs) ≡ fire_in lim m (itself p) xs
unfolding fire_in number_view due_in give_in
itself_fires lim m p xs h = go (cmp lim.steps m.steps)
  where
    go : (c : Cmp lim.steps m.steps) → out_step lim m.steps (join_in lim.rows m.store p xs) ≡ fire_in_on lim m (itself p) xs c (number_view (itself p))
    go (up_to l) = absurd (omega arith)
    go (over l) = refl

pub left_as : {l sc : List ℕ} {m : Meter} {r : Answer} {sc' : List ℕ} {step step' : Step} → step ≡ step' → Left l sc m r sc' step → Left l sc m r sc' step'
left_as e k = record { says = k.says ∙ e; kept = k.kept; same_length = k.same_length; grown = k.grown }
