-- From the rules to the asks, demands: whatever a course of inference in crates/rules demands, the asks demand too, form by form.
-- Holds for every store and every environment; nothing is assumed.
use Rattle.std.specs.Prelude.{ℕ, zero, suc, ◌<◌, ◌≡◌, Bool, List, []}
use Rattle.std.proofs.Common.{sym, ap, ◌∙◌, subst}
use Rattle.std.proofs.Math.Option.{Option, none, some}
use Rattle.rules.specs.Rows.{Ptr, Row, Store, row_at, Got}
use Rattle.rules.specs.Declarations.{Env, decl_at}
use Rattle.rules.specs.Replacement.{Replaces}
use Rattle.rules.specs.Spines.{joined}
use Rattle.rules.specs.Firings.{Tally, tally, opened, Gives, by_replacement}
use Rattle.rules.specs.Refusals.{Demand, step, level, Asks, its_step, its_row, SideMeets, its_level, within}
use Rattle.rules.specs.Inference.{under, Body, as_it_stands, moved, Reduced, deeper, ToSort, ToPi, SortZero, zero_level, not_zero}
use Rattle.rules.specs.Inference.{IsProp, asked, Parameters, walked, next, Earlier, chosen, not_used, used, Allowed, no_condition, is_one}
use Rattle.rules.specs.InferRefusals.{InferDemand, as_reduction, a_type, BodyMeets, in_move, SortMeets, PiMeets}
use Rattle.rules.specs.InferRefusals.{InferMeets, PartMeets, UnderMeets, PropMeets, FieldMeets, ParametersMeet, EarlierMeet, AllowedMeets}
use Rattle.rules.specs.InferRefusals as F
use Rattle.course.specs.ToTries.{to_runs, to_meets}
use Rattle.inferring.specs.Views.{eq_view, pi_view, sort_view}
use Rattle.inferring.specs.Asks.{Ask, answers, step_then, opens, reduces, infers, with_record, if_loose, is_zero, pi_of, sort_of}
use Rattle.inferring.specs.Asks.{body_of, question, allowed, sort_type, constant_type, variable_type, number_type, application_type, lambda_type}
use Rattle.inferring.specs.Asks.{pi_type, let_type, parameters, earlier, field_type, projection_type, at_row}
use Rattle.inferring.specs.Tests.{at_pi, at_sort, not_equal, not_pi, not_sort, at_loose}
use Rattle.inferring.specs.Courses.{TypeMeets, AskMeets, no_type_there, after_step, after_level, its_rows, after_row, after_rows, too_deep}
use Rattle.inferring.specs.Courses.{in_reduction, after_reduction, part_too_deep, in_part, after_part, under_too_deep, in_part_under, after_part_under}
use Rattle.inferring.specs.Courses.{no_structure_there, after_structure}
use Rattle.inferring.specs.Courses as C
use Rattle.inferring.specs.ToAsks.{row_asks, let_opens, Deeper, deeper_types, to_part}

by_row : {e : Env} {d r : ℕ} {m m₁ : Tally} {t : Ptr} {w : Row} {a : InferDemand} → row_at m.store t.row ≡ w →
    AskMeets e d r m (at_row e m.store t.shift w) a m₁ → TypeMeets e d r m t a m₁
by_row {e} {d} {r} {m} {m₁} {t} {a = a} q c = C.by_asks (subst (λ (y : Ask). AskMeets e d r m y a m₁) (row_asks e m.store t q) c)

-- a part's demand, by asks: its level first
pub data DeeperMeets : Env → ℕ → ℕ → Tally → Ptr → InferDemand → Tally → Type 0 where
  no_level_left : {e : Env} {r : ℕ} {m : Tally} {t : Ptr} → DeeperMeets e zero r m t (as_reduction level) m
  deeper_meets : {e : Env} {d r : ℕ} {m m₁ : Tally} {t : Ptr} {a : InferDemand} → TypeMeets e d r m t a m₁ → DeeperMeets e (suc d) r m t a m₁

-- PIECES: in them, and after them

let_asks : {e : Env} {d r : ℕ} {m m₁ : Tally} {b v : Ptr} {k : ℕ} {a : Demand} (y : Store → Ptr → Ask) → Asks m (opened b v k) [] a m₁ →
    AskMeets e d r m (step_then (opens (some v) k 0 b y)) (as_reduction a) m₁
unfolding joined
let_asks y its_step = C.its_step
let_asks {m = m} {b = b} {v = v} {k = k} y (its_row {g = g} {x = x} {now = now} n d w q) =
    after_step (its_rows (F.its_row (on d.gives) (rw (← d.applied) at w) q))
  where
    on : {g : Got} → Gives m.store (opened b v k) g → Replaces (some v) k 0 m.store b g
    on (by_replacement r) = r

in_the_part : {e : Env} {d r : ℕ} {m m₁ : Tally} {t : Ptr} {a : InferDemand} (y : Store → Ptr → Ask) → DeeperMeets e d r m t a m₁ →
    AskMeets e d r m (infers none t y) a m₁
in_the_part y no_level_left = part_too_deep
in_the_part y (deeper_meets x) = in_part x

past_part : {e : Env} {d r : ℕ} {m m₁ m₂ : Tally} {t T : Ptr} {a : InferDemand} (y : Store → Ptr → Ask) → Deeper e d r m t m₁ T →
    AskMeets e d r m₁ (y m₁.store T) a m₂ → AskMeets e d r m (infers none t y) a m₂
past_part y (deeper_types i) x = after_part i x

in_the_body : {e : Env} {d r : ℕ} {m m₁ : Tally} {b : Ptr} {k : ℕ} {a : InferDemand} (y : Store → Ptr → Ask) → BodyMeets m b k a m₁ →
    AskMeets e d r m (body_of m.store b k y) a m₁
unfolding body_of
in_the_body y (in_move o) = its_rows o

past_body : {e : Env} {d r : ℕ} {m m₁ m₂ : Tally} {b b₁ : Ptr} {k : ℕ} {a : InferDemand} (y : Store → Ptr → Ask) → Body m b k m₁ b₁ →
    AskMeets e d r m₁ (y m₁.store b₁) a m₂ → AskMeets e d r m (body_of m.store b k y) a m₂
unfolding body_of
past_body y as_it_stands x = x
past_body y (moved o) x = after_rows o x

past_reduced : {e : Env} {d r : ℕ} {m m₁ m₂ : Tally} {q q' : Ptr} {a : InferDemand} (X : Option Ptr) (y : Store → Ptr → Ask) → Reduced (with_record e X) d m q m₁ q' →
    AskMeets e d r m₁ (y m₁.store q') a m₂ → AskMeets e d r m (reduces X q y) a m₂
past_reduced {e} X y (deeper h) x = after_reduction (to_runs (with_record e X) h) x

in_the_side : {e : Env} {d r : ℕ} {m m₁ : Tally} {q : Ptr} {a : Demand} (X : Option Ptr) (y : Store → Ptr → Ask) → SideMeets (with_record e X) d m q a m₁ →
    AskMeets e d r m (reduces X q y) (as_reduction a) m₁
in_the_side {e} X y its_level = too_deep
in_the_side {e} X y (within x) = in_reduction (to_meets (with_record e X) x)

in_the_sort : {e : Env} {d r : ℕ} {m m₁ : Tally} {q : Ptr} {a : InferDemand} (X : Option Ptr) (y : Store → ℕ → Ask) → SortMeets (with_record e X) d m q a m₁ →
    AskMeets e d r m (sort_of X q y) a m₁
unfolding sort_of
in_the_sort X y (F.SortMeets.in_reduction x) = in_the_side X _ x
in_the_sort {e} {d} {r} X y (F.no_sort {m₁ = m₁} {q = q} o n) =
    past_reduced X _ o (subst (λ (z : Ask). AskMeets e d r m₁ z a_type m₁) (sym (not_sort (sort_view (row_at m₁.store q.row)) (y m₁.store) n)) no_type_there)

past_sort : {e : Env} {d r : ℕ} {m m₁ m₂ : Tally} {q : Ptr} {l : ℕ} {a : InferDemand} (X : Option Ptr) (y : Store → ℕ → Ask) → ToSort (with_record e X) d m q m₁ l →
    AskMeets e d r m₁ (y m₁.store l) a m₂ → AskMeets e d r m (sort_of X q y) a m₂
unfolding sort_of
past_sort {e} {d} {r} {m₁ = m₁} {m₂ = m₂} {a = a} X y o x =
    past_reduced X _ o.reduced
    (subst (λ (z : Ask). AskMeets e d r m₁ z a m₂) (sym (at_sort (sort_view (row_at m₁.store o.to.row)) (y m₁.store) o.row)) x)

in_the_pi : {e : Env} {d r : ℕ} {m m₁ : Tally} {q : Ptr} {a : InferDemand} (y : Store → Ptr → Ptr → ℕ → Ask) → PiMeets e d m q a m₁ → AskMeets e d r m (pi_of q y) a m₁
unfolding pi_of
in_the_pi y (F.PiMeets.in_reduction x) = in_the_side none _ x
in_the_pi {e} {d} {r} y (F.no_pi {m₁ = m₁} {q = q} o n) =
    past_reduced none _ o
    (subst (λ (z : Ask). AskMeets e d r m₁ z a_type m₁)
    (sym (not_pi (pi_view (row_at m₁.store q.row)) (λ x b. y m₁.store x b q.shift) n)) no_type_there)

past_pi : {e : Env} {d r : ℕ} {m m₁ m₂ : Tally} {q x b : Ptr} {k : ℕ} {a : InferDemand} (y : Store → Ptr → Ptr → ℕ → Ask) → ToPi e d m q m₁ x b k →
    AskMeets e d r m₁ (y m₁.store x b k) a m₂ → AskMeets e d r m (pi_of q y) a m₂
unfolding pi_of
past_pi {e} {d} {r} {m₁ = m₁} {m₂ = m₂} {x = x} {b = b} {a = a} y o z =
    past_reduced none _ o.reduced
    (subst (λ (z : Ask). AskMeets e d r m₁ z a m₂)
    (sym (at_pi (pi_view (row_at m₁.store o.to.row)) (λ x b. y m₁.store x b o.to.shift) o.row ∙ ap (y m₁.store x b) o.shift)) z)

-- under a new record: its rows, the record, the level
in_the_part_under : {e : Env} {d r : ℕ} {m m₁ : Tally} {X t : Ptr} {a : InferDemand} (y : Store → Ptr → Ask) → DeeperMeets (under e X) d r m t a m₁ →
    AskMeets e d (suc r) m (infers (some X) t y) a m₁
in_the_part_under y no_level_left = under_too_deep
in_the_part_under y (deeper_meets x) = in_part_under x

past_part_under : {e : Env} {d r : ℕ} {m m₁ m₂ : Tally} {X t T : Ptr} {a : InferDemand} (y : Store → Ptr → Ask) → Deeper (under e X) d r m t m₁ T →
    AskMeets e d (suc r) m₁ (y m₁.store T) a m₂ → AskMeets e d (suc r) m (infers (some X) t y) a m₂
past_part_under y (deeper_types i) x = after_part_under i x

-- the question, with what it asks after its step
past_question : {e : Env} {d r l : ℕ} {m m₁ m₂ m₃ : Tally} {t T : Ptr} {q : Bool} {a : InferDemand} (y : Store → Bool → Ask) →
    Deeper e d r (tally (suc m.steps) m.store) t m₁ T → ToSort e d m₁ T m₂ l → SortZero l q → AskMeets e d r m₂ (y m₂.store q) a m₃ →
    AskMeets e d r m (question t y) a m₃
unfolding question
past_question {e} {d} {r} {m₂ = m₂} {m₃ = m₃} {a = a} y f o z x = after_step (past_part _ f (past_sort none _ o (on y z x)))
  where
    on : {l : ℕ} {q : Bool} (y : Store → Bool → Ask) → SortZero l q → AskMeets e d r m₂ (y m₂.store q) a m₃ → AskMeets e d r m₂ (y m₂.store (is_zero l)) a m₃
    on y zero_level x = x
    on y not_zero x = x

question_type : {e : Env} {d r : ℕ} {m m₁ : Tally} {t : Ptr} {a : InferDemand} (y : Store → Bool → Ask) →
    DeeperMeets e d r (tally (suc m.steps) m.store) t a m₁ → AskMeets e d r m (question t y) a m₁
unfolding question
question_type y x = after_step (in_the_part _ x)

question_sort : {e : Env} {d r : ℕ} {m m₁ m₂ : Tally} {t T : Ptr} {a : InferDemand} (y : Store → Bool → Ask) →
    Deeper e d r (tally (suc m.steps) m.store) t m₁ T → SortMeets e d m₁ T a m₂ → AskMeets e d r m (question t y) a m₂
unfolding question
question_sort y f x = after_step (past_part _ f (in_the_sort none _ x))

question_step : {e : Env} {d r : ℕ} {m : Tally} (t : Ptr) (y : Store → Bool → Ask) → AskMeets e d r m (question t y) (as_reduction step) m
unfolding question
question_step t y = C.its_step

past_prop : {e : Env} {d r : ℕ} {m m₁ m₂ : Tally} {t : Ptr} {q : Bool} {a : InferDemand} (y : Store → Bool → Ask) → IsProp e d r m t m₁ q →
    AskMeets e d r m₁ (y m₁.store q) a m₂ → AskMeets e d r m (question t y) a m₂
past_prop y (asked f o z) x = past_question y (to_part f) o z x

past_allowed : {e : Env} {d r : ℕ} {m m₁ m₂ : Tally} {t : Ptr} {q : Bool} {a : InferDemand} (y : Store → Ask) → Allowed e d r m t q m₁ →
    AskMeets e d r m₁ (y m₁.store) a m₂ → AskMeets e d r m (allowed m.store t q y) a m₂
unfolding allowed
past_allowed y no_condition x = x
past_allowed y (is_one i) x = past_prop _ i x

past_parameters : {e : Env} {d r n : ℕ} {m m₁ m₂ : Tally} {W W₁ : Ptr} {ys : List Ptr} {a : InferDemand} (y : Store → Ptr → Ask) →
    Parameters e d r m W n ys m₁ W₁ → AskMeets e d r m₁ (y m₁.store W₁) a m₂ → AskMeets e d r m (parameters n ys m.store W y) a m₂
unfolding parameters
past_parameters y walked x = x
past_parameters y (next o u i) x = past_pi _ o (after_rows u (past_parameters y i x))

-- a remaining body with a loose variable
meets_loose : {e : Env} {d r n : ℕ} {m m₁ : Tally} {a : InferDemand} (y z : Ask) → 0 < n → AskMeets e d r m z a m₁ → AskMeets e d r m (if_loose n y z) a m₁
meets_loose {e} {d} {r} {n} {m} {m₁} {a} y z h x = subst (λ (u : Ask). AskMeets e d r m u a m₁) (sym (at_loose n y z h)) x

past_earlier : {e : Env} {d r c j n : ℕ} {m m₁ m₂ : Tally} {W X W₁ : Ptr} {q : Bool} {a : InferDemand} (y : Store → Ptr → Ask) →
    Earlier e d r m W c X q j n m₁ W₁ → AskMeets e d r m₁ (y m₁.store W₁) a m₂ → AskMeets e d r m (earlier c X q j n m.store W y) a m₂
unfolding earlier
past_earlier y chosen x = x
past_earlier y (not_used o z i) x = past_pi _ o (rw z (past_earlier y i x))
past_earlier y (used o z g w u i) x = past_pi _ o (meets_loose _ _ z (past_allowed _ g (after_row w (after_rows u (past_earlier y i x)))))

-- WHAT THE RULES DEMAND
mutual
  unfolding at_row sort_type constant_type variable_type number_type application_type lambda_type pi_type let_type projection_type allowed parameters earlier

  pub to_type_meets : {e : Env} {d r : ℕ} {m m₁ : Tally} {t : Ptr} {a : InferDemand} → InferMeets e d r m t a m₁ → TypeMeets e d r m t a m₁
  to_type_meets (F.sort_level q) = by_row q C.its_level
  to_type_meets (F.sort_row q l w) = by_row q (after_level l (C.its_row w))
  to_type_meets {e} {d} {r} {m} (F.counts_differ {c = c} {n = n} q h) =
      by_row q (subst (λ (y : Ask). AskMeets e d r m y a_type m)
      (sym (not_equal (eq_view (decl_at e.decls c).levels n) (answers (decl_at e.decls c).type) h)) no_type_there)
  to_type_meets (F.no_record q h) = by_row q (rw h no_type_there)
  to_type_meets (F.no_nat q h) = by_row q (rw h no_type_there)
  to_type_meets (F.nat_row q h w) = by_row q (rw h (C.its_row w))
  to_type_meets (F.in_function q x) = by_row q (in_the_part _ (to_part_meets x))
  to_type_meets (F.in_function_type q f x) = by_row q (past_part _ (to_part f) (in_the_pi _ x))
  to_type_meets (F.in_argument q f o u) = by_row q (past_part _ (to_part f) (past_pi _ o (its_rows u)))
  to_type_meets (F.in_body q x) = by_row q (to_under _ x)
  to_type_meets (F.pi_row q h b f w) = by_row q (rw h (past_body _ b (past_part_under _ (to_part f) (C.its_row w))))
  to_type_meets (F.in_type q x) = by_row q (in_the_part _ (to_part_meets x))
  to_type_meets (F.in_sort q f x) = by_row q (past_part _ (to_part f) (in_the_sort none _ x))
  to_type_meets (F.in_pi_body q f o x) = by_row q (past_part _ (to_part f) (past_sort none _ o (to_under _ x)))
  to_type_meets (F.in_body_sort q h f o b g x) =
      by_row q (rw h (past_part _ (to_part f) (past_sort none _ o (past_body _ b (past_part_under _ (to_part g) (in_the_sort (some _) _ x))))))
  to_type_meets (F.imax_row q h f o b g k w) =
      by_row q (rw h (past_part _ (to_part f) (past_sort none _ o (past_body _ b (past_part_under _ (to_part g) (past_sort (some _) _ k (C.its_row w)))))))
  to_type_meets (F.in_value q x) = by_row q (let_asks _ x)
  to_type_meets (F.in_result q o x) = by_row q (after_step (after_rows (let_opens o) (in_the_part _ (to_part_meets x))))
  to_type_meets (F.in_structure q x) = by_row q (in_the_part _ (to_part_meets x))
  to_type_meets (F.after_structure q h f x) = by_row q (rw h (past_part _ (to_part f) (to_field x)))

  pub to_part_meets : {e : Env} {d r : ℕ} {m m₁ : Tally} {t : Ptr} {a : InferDemand} → PartMeets e d r m t a m₁ → DeeperMeets e d r m t a m₁
  to_part_meets F.its_level = no_level_left
  to_part_meets (F.within x) = deeper_meets (to_type_meets x)

  -- a binder's body under a new record
  to_under : {e : Env} {d r s : ℕ} {m m₁ : Tally} {X b : Ptr} {a : InferDemand} (y : Store → Ptr → Store → Ptr → Ask) → UnderMeets e d r m X b s a m₁ →
      AskMeets e d r m (body_of m.store b s λ s₁ b₁. infers (some X) b₁ (y s₁ b₁)) a m₁
  to_under y (F.its_rows x) = in_the_body _ x
  to_under y (F.its_record b) = past_body _ b C.its_record
  to_under y (F.its_part b x) = past_body _ b (in_the_part_under _ (to_part_meets x))

  to_question : {e : Env} {d r : ℕ} {m m₁ : Tally} {t : Ptr} {a : InferDemand} (y : Store → Bool → Ask) → PropMeets e d r m t a m₁ →
      AskMeets e d r m (question t y) a m₁
  to_question y F.its_step = question_step _ y
  to_question y (F.its_type x) = question_type y (to_part_meets x)
  to_question y (F.its_sort f x) = question_sort y (to_part f) x

  to_field : {e : Env} {d r c i : ℕ} {m m₁ : Tally} {X S : Ptr} {a : InferDemand} → FieldMeets e d r m c i X S a m₁ → AskMeets e d r m (field_type c i X S) a m₁
  to_field (F.FieldMeets.in_reduction x) = in_the_side none _ x
  to_field (F.in_question o x) = past_reduced none _ o (to_question _ x)
  to_field (F.no_structure o i n) = past_reduced none _ o (past_prop _ i (no_structure_there n))
  to_field (F.in_parameters o i h x) = past_reduced none _ o (past_prop _ i (after_structure h (to_parameters_meet _ x)))
  to_field (F.in_earlier o i h g x) = past_reduced none _ o (past_prop _ i (after_structure h (past_parameters _ g (to_earlier_meet _ x))))
  to_field (F.in_chosen o i h g b x) = past_reduced none _ o (past_prop _ i (after_structure h (past_parameters _ g (past_earlier _ b (in_the_pi _ x)))))
  to_field (F.not_allowed o i h g b k x) =
      past_reduced none _ o (past_prop _ i (after_structure h (past_parameters _ g (past_earlier _ b (past_pi _ k (to_allowed_meets _ x))))))

  to_parameters_meet : {e : Env} {d r n : ℕ} {m m₁ : Tally} {W : Ptr} {ys : List Ptr} {a : InferDemand} (y : Store → Ptr → Ask) →
      ParametersMeet e d r m W n ys a m₁ → AskMeets e d r m (parameters n ys m.store W y) a m₁
  to_parameters_meet y (F.in_pi x) = in_the_pi _ x
  to_parameters_meet y (F.no_argument o) = past_pi _ o no_type_there
  to_parameters_meet y (F.argument_rows o u) = past_pi _ o (its_rows u)
  to_parameters_meet y (F.later o u x) = past_pi _ o (after_rows u (to_parameters_meet y x))

  to_earlier_meet : {e : Env} {d r c j n : ℕ} {m m₁ : Tally} {W X : Ptr} {q : Bool} {a : InferDemand} (y : Store → Ptr → Ask) →
      EarlierMeet e d r m W c X q j n a m₁ → AskMeets e d r m (earlier c X q j n m.store W y) a m₁
  to_earlier_meet y (F.in_field x) = in_the_pi _ x
  to_earlier_meet y (F.after_unused o z x) = past_pi _ o (rw z (to_earlier_meet y x))
  to_earlier_meet y (F.its_question o z x) = past_pi _ o (meets_loose _ _ z (to_allowed_meets _ x))
  to_earlier_meet y (F.its_projection o z g w) = past_pi _ o (meets_loose _ _ z (past_allowed _ g (C.its_row w)))
  to_earlier_meet y (F.replaced_in o z g w u) = past_pi _ o (meets_loose _ _ z (past_allowed _ g (after_row w (its_rows u))))
  to_earlier_meet y (F.after_used o z g w u x) = past_pi _ o (meets_loose _ _ z (past_allowed _ g (after_row w (after_rows u (to_earlier_meet y x)))))

  to_allowed_meets : {e : Env} {d r : ℕ} {m m₁ : Tally} {t : Ptr} {q : Bool} {a : InferDemand} (y : Store → Ask) → AllowedMeets e d r m t q a m₁ →
      AskMeets e d r m (allowed m.store t q y) a m₁
  to_allowed_meets y (F.in_asking x) = to_question _ x
  to_allowed_meets y (F.no_proposition i) = past_prop _ i no_type_there
