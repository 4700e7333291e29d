-- One step at a head, as code answers it: fired, with the firing paid; final; or refused. `fire_in` pays row by row, as code does, and comes to the same.
use Rattle.std.specs.Prelude.{ℕ, suc, ◌≡◌, List}
use Rattle.std.proofs.Math.Path.{refl, ap}
use Rattle.std.proofs.Common.{sym, ◌∙◌}
use Rattle.std.proofs.Math.Option.{Option, none, some}
use Rattle.rules.specs.Rows.{Ptr, Got}
use Rattle.rules.specs.Firings.{Tally, tally, Result}
use Rattle.rules.specs.Refusals.{Limits}
use Rattle.course.specs.Views.{Cmp, up_to, over, cmp, NumberView, in_range, too_big, number_view}
use Rattle.course.specs.Charged.{Out, wrote, refused, due_in}
use Rattle.course.specs.Charged as C
use Rattle.course.specs.Eval.{Res, ok, no, lost, Ans, missed, firing, refuse, gone, due_of, charge, paid_on, due_on, fire_on, fire}
use Rattle.promises.specs.Charge.{settle_on, settle, due_in_lem}

pub data Step : Type 0 where
  fired : Tally → Ptr → Step
  final : Tally → Step
  stopped : ℕ → Step
  adrift : Step

module _ (lim : Limits) where
  abbrev pub paid_step : Res → Step
  paid_step (ok m t) = fired m t
  paid_step (no k) = stopped k
  paid_step lost = adrift

  -- an answer of trying, with a firing paid
  abbrev pub step_of : Ans → Step
  step_of (missed m) = final m
  step_of (firing m r xs) = paid_step (fire lim m r xs)
  step_of (refuse k) = stopped k
  step_of gone = adrift

  -- the rows written one by one
  abbrev pub out_step : ℕ → Out → Step
  out_step n (wrote g) = fired (tally (suc n) g.store) g.at
  out_step n (refused k) = stopped k
  out_step n C.lost = adrift

  abbrev pub fire_in_on : (m : Tally) (r : Result) → List Ptr → Cmp lim.steps m.steps → NumberView r → Step
  fire_in_on m r xs (up_to h) q = stopped 4
  fire_in_on m r xs (over h) (too_big l) = stopped 7
  fire_in_on m r xs (over h) (in_range l) = out_step m.steps (due_in lim.rows m.store r xs)

  -- 4, 7, then each row in turn
  unfoldable pub fire_in : Tally → Result → List Ptr → Step
  fire_in m r xs = fire_in_on m r xs (cmp lim.steps m.steps) (number_view r)

  settled_step : (m : Tally) (g : Got) → out_step m.steps (settle lim m.store g) ≡ paid_step (due_on lim m (some g))
  settled_step m g = go (charge lim m.store g.store)
    where
      go : (o : Option ℕ) → out_step m.steps (settle_on g o) ≡ paid_step (paid_on lim (tally (suc m.steps) g.store) g.at o)
      go none = refl
      go (some k) = refl

  -- where the firing's rows are there at all, paying row by row comes to what the evaluator says
  pub fire_in_lem : (m : Tally) (r : Result) (xs : List Ptr) {g : Got} → due_of m.store r xs ≡ some g → fire_in m r xs ≡ paid_step (fire lim m r xs)
  unfolding fire_in fire
  fire_in_lem m r xs {g} q = go r q (cmp lim.steps m.steps) (number_view r)
    where
      go : (r : Result) → due_of m.store r xs ≡ some g → (c : Cmp lim.steps m.steps) (n : NumberView r) → fire_in_on m r xs c n ≡ paid_step (fire_on lim m r xs c n)
      go r q (up_to h) n = refl
      go r q (over h) (too_big l) = refl
      go r q (over h) (in_range l) =
          ap (out_step m.steps) (due_in_lem lim m.store r xs q) ∙ settled_step m g ∙ ap (λ (x : Option Got). paid_step (due_on lim m x)) (sym q)
