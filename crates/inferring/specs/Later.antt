-- Tallies only grow along a course of inference, so whoever is within the limits was so before; and what limits do to rows that are due.
-- It holds for all stores.
use Rattle.std.specs.Prelude.{ℕ, suc, ◌≤◌, ◌<◌, ◌≡◌, refl}
use Rattle.std.proofs.Common.{le_refl, arith, ap, ◌∙◌, subst}
use mathlib.Core.List.{List, [], ◌∷◌, ◌++◌, append-nil, append_assoc}
use Rattle.std.proofs.Math.Option.{Option, none, some}
use Rattle.std.proofs.Math.ListN.{length, length-append}
use Rattle.rules.specs.Rows.{Ptr, Row, Cell, Store}
use Rattle.rules.specs.RowCheck.{Fits}
use Rattle.rules.specs.Declarations.{Env}
use Rattle.rules.specs.Firings.{Tally, tally, AllFit, and_then, Written}
use Rattle.rules.specs.Refusals.{row, RowDue, Limits, Fails, no_free_row, no_size}
use Rattle.rules.specs.Inference.{Puts, Opens}
use Rattle.rules.specs.InferRefusals.{InferDemand, PutsMeets, OpensMeets}
use Rattle.rules.specs.InferRefusals as F
use Rattle.course.specs.Views.{Cmp, up_to, over, cmp, FitView, fits, no_fit, fit_view}
use Rattle.course.specs.Eval.{emit_on, emit, charge}
use Rattle.substitution.specs.Stores.{Ext, ext_length, ext_written}
use Rattle.promises.specs.Stores.{ext_tail, ext_row_due, Later, later_refl, later_trans, later_runs, later_run_meets}
use Rattle.promises.specs.SaysCharge.{ChargeSays, c_all, c_no, charge_says}
use Rattle.promises.specs.Apart.{row_apart}
use Rattle.inferring.specs.Asks.{Ask, with_record}
use Rattle.inferring.specs.Courses.{Types, Comes, TypeMeets, AskMeets}
use Rattle.inferring.specs.Courses as C

-- TALLIES

pub later_puts : {m m₁ : Tally} {w : Row} {p : Ptr} → Puts m w m₁ p → Later m m₁
later_puts {m} {w = w} q = subst (Later m) q.then_tally (record { steps = le_refl m.steps; rows = ext_written q.written })

pub later_opens : {m m₁ : Tally} {v : Option Ptr} {k c : ℕ} {b p : Ptr} → Opens m v k c b m₁ p → Later m m₁
later_opens {m} q = subst (Later m) q.then_tally (record { steps = le_refl m.steps; rows = ext_written q.written })

later_step : (m : Tally) → Later m (tally (suc m.steps) m.store)
later_step m = record { steps = omega arith; rows = (later_refl m).rows }

mutual
  pub later_types : {e : Env} {d r : ℕ} {m m' : Tally} {t p : Ptr} → Types e d r m t m' p → Later m m'
  later_types (C.Types.by_asks c) = later_comes c

  pub later_comes : {e : Env} {d r : ℕ} {m m' : Tally} {y : Ask} {p : Ptr} → Comes e d r m y m' p → Later m m'
  later_comes {m = m} C.answered = later_refl m
  later_comes {m = m} (C.stepped c) = later_trans (later_step m) (later_comes c)
  later_comes (C.leveled h c) = later_comes c
  later_comes (C.wrote w c) = later_trans (later_puts w) (later_comes c)
  later_comes (C.opened w c) = later_trans (later_opens w) (later_comes c)
  later_comes {e} (C.reduced {X = X} h c) = later_trans (later_runs (with_record e X) h) (later_comes c)
  later_comes (C.part i c) = later_trans (later_types i) (later_comes c)
  later_comes (C.part_under i c) = later_trans (later_types i) (later_comes c)
  later_comes (C.structured o c) = later_comes c

puts_meet_later : {m m₁ : Tally} {w : Row} {a : InferDemand} → PutsMeets m w a m₁ → Later m m₁
puts_meet_later {m} (F.PutsMeets.its_row q d z) = subst (Later m) z (record { steps = le_refl m.steps; rows = ext_row_due d })

opens_meet_later : {m m₁ : Tally} {v : Option Ptr} {k c : ℕ} {b : Ptr} {a : InferDemand} → OpensMeets m v k c b a m₁ → Later m m₁
opens_meet_later {m} (F.OpensMeets.its_row q d z) = subst (Later m) z (record { steps = le_refl m.steps; rows = ext_row_due d })

mutual
  pub later_type_meets : {e : Env} {d r : ℕ} {m m₁ : Tally} {t : Ptr} {a : InferDemand} → TypeMeets e d r m t a m₁ → Later m m₁
  later_type_meets (C.TypeMeets.by_asks x) = later_ask_meets x

  pub later_ask_meets : {e : Env} {d r : ℕ} {m m₁ : Tally} {y : Ask} {a : InferDemand} → AskMeets e d r m y a m₁ → Later m m₁
  later_ask_meets {m = m} C.no_type_there = later_refl m
  later_ask_meets {m = m} C.its_step = later_refl m
  later_ask_meets {m = m} (C.after_step x) = later_trans (later_step m) (later_ask_meets x)
  later_ask_meets {m = m} C.its_level = later_refl m
  later_ask_meets (C.after_level h x) = later_ask_meets x
  later_ask_meets (C.its_row w) = puts_meet_later w
  later_ask_meets (C.after_row w x) = later_trans (later_puts w) (later_ask_meets x)
  later_ask_meets (C.its_rows w) = opens_meet_later w
  later_ask_meets (C.after_rows w x) = later_trans (later_opens w) (later_ask_meets x)
  later_ask_meets {m = m} C.too_deep = later_refl m
  later_ask_meets {e} (C.in_reduction {X = X} h) = later_run_meets (with_record e X) h
  later_ask_meets {e} (C.after_reduction {X = X} h x) = later_trans (later_runs (with_record e X) h) (later_ask_meets x)
  later_ask_meets {m = m} C.part_too_deep = later_refl m
  later_ask_meets (C.in_part x) = later_type_meets x
  later_ask_meets (C.after_part i x) = later_trans (later_types i) (later_ask_meets x)
  later_ask_meets {m = m} C.its_record = later_refl m
  later_ask_meets {m = m} C.under_too_deep = later_refl m
  later_ask_meets (C.in_part_under x) = later_type_meets x
  later_ask_meets (C.after_part_under i x) = later_trans (later_types i) (later_ask_meets x)
  later_ask_meets {m = m} (C.no_structure_there n) = later_refl m
  later_ask_meets (C.after_structure o x) = later_ask_meets x

-- ROWS THAT ARE DUE
module _ (lim : Limits) where
  -- rows within the sizes and the limits may stand
  pub rows_stand : {s s' : Store} → Written s s' → length s' ≤ lim.rows → charge lim s s' ≡ none
  rows_stand {s} {s'} w l = on (charge_says lim s s' (ext_written w) (omega (arith, ext_length (ext_written w))))
    where
      on : {o : Option ℕ} → ChargeSays lim s s' o → o ≡ none
      on (c_all x h) = refl
      on (c_no x h k) = absurd (row_apart w l x (k 0))

  -- the first row that fails is what they are refused with
  first_fails : (s : Store) (x : Cell) (rest : Option ℕ) {n k : ℕ} → Fails lim (tally n s) (row x) k → (f : FitView x) (c : Cmp lim.rows (length s)) →
      emit_on lim x s f c rest ≡ some k
  first_fails s x rest (no_free_row h l) (no_fit f) c = absurd (f h)
  first_fails s x rest (no_free_row h l) (fits f) (up_to q) = refl
  first_fails s x rest (no_free_row h l) (fits f) (over q) = absurd (omega arith)
  first_fails s x rest (no_size h) (no_fit f) c = refl
  first_fails s x rest (no_size h) (fits f) c = absurd (h f)

  row_stands : (s : Store) (x : Cell) (rest : Option ℕ) → Fits x → length s < lim.rows → (f : FitView x) (c : Cmp lim.rows (length s)) →
      emit_on lim x s f c rest ≡ rest
  row_stands s x rest h l (no_fit f) c = absurd (f h)
  row_stands s x rest h l (fits f) (up_to q) = absurd (omega arith)
  row_stands s x rest h l (fits f) (over q) = refl

  emit_fails : (s : Store) (before after : List Cell) (x : Cell) {n k : ℕ} → AllFit before → length (s ++ before) ≤ lim.rows →
      Fails lim (tally n (s ++ before)) (row x) k → emit lim s (before ++ (x ∷ after)) ≡ some k
  unfolding emit
  emit_fails s [] after x a l f = first_fails s x _ (rw append-nil at f) (fit_view x) (cmp lim.rows (length s))
  emit_fails s (z ∷ before) after x {n} {k} (and_then h a) l f =
      let room : length s < lim.rows = omega (arith, length-append s (z ∷ before)) in
      let same = append_assoc s (z ∷ []) before in
      row_stands s z _ h room (fit_view z) (cmp lim.rows (length s)) ∙ emit_fails (s ++ (z ∷ [])) before after x {n = n} {k = k} a (rw same l) (rw same f)

  pub rows_fail : {s s' now : Store} {x : Cell} {n k : ℕ} → RowDue s s' x now → length now ≤ lim.rows → Fails lim (tally n now) (row x) k → charge lim s s' ≡ some k
  rows_fail {s} {s'} {now} {x} {n} {k} d l f =
      let more : Ext s s' = record { new = d.before ++ (x ∷ d.after); after = d.split } in
      ap (emit lim s) (ext_tail more) ∙ emit_fails s d.before d.after x {n = n} {k = k} d.fit (rw d.stand l) (rw d.stand f)
