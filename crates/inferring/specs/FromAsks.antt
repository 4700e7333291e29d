-- From the asks to the rules: whatever the asks come to, and whatever they demand on the way, the rules of inference in crates/rules say too, form by form.
-- Holds for every store and every environment; nothing is assumed.
use Prim.Native.Nat.{ℕ, zero, suc, ◌+◌}
use Rattle.std.specs.Prelude.{◌≡◌, []}
use Rattle.std.proofs.Math.Path.{refl}
use Rattle.std.proofs.Math.Option.{none, some}
use Rattle.rules.specs.Kinds.{sort, const, app, lam, pi, let', proj, num}
use Rattle.rules.specs.Rows.{Ptr, Row, var, node, row_at, up}
use Rattle.rules.specs.Declarations.{nat, Env, decl_at, holder}
use Rattle.rules.specs.Spines.{joined}
use Rattle.rules.specs.Firings.{Tally, tally, opened, by_replacement, opened_fits, Pays}
use Rattle.rules.specs.Refusals as R
use Rattle.rules.specs.Inference.{type_of, Opens, deeper, ToSort, Infers, of_sort, of_constant, of_variable, of_number, of_application, of_lambda}
use Rattle.rules.specs.Inference.{of_pi, of_let, of_projection, Part, inferred}
use Rattle.rules.specs.InferRefusals.{InferDemand, OpensMeets, InferMeets, FieldMeets}
use Rattle.rules.specs.InferRefusals as F
use Rattle.course.specs.FromTries.{from_runs}
use Rattle.course.specs.FromDemands.{from_meets}
use Rattle.inferring.specs.Views.{EqView, equal, differ, eq_view}
use Rattle.inferring.specs.Asks.{Ask, answers, with_record, if_equal, sort_type, constant_type, variable_type, number_type}
use Rattle.inferring.specs.Asks.{application_type, lambda_type, pi_body, pi_type, let_type, chosen, field_type, projection_type}
use Rattle.inferring.specs.Asks.{at_row, asks}
use Rattle.inferring.specs.Courses.{Types, Comes, TypeMeets, AskMeets}
use Rattle.inferring.specs.Courses as C
use Rattle.inferring.specs.Understood.{End, gives, demands, Understood, u_answers, u_untyped, u_step, u_stepped, u_level, u_leveled, u_row, u_wrote}
use Rattle.inferring.specs.Understood.{u_rows, u_opened, u_in_side, u_reduced, u_in_part, u_part, u_record, u_in_under, u_under, u_no_structure}
use Rattle.inferring.specs.Understood.{u_structure, on_answers, on_untyped, on_step, on_level, on_writes, on_opens, on_reduces, on_part, on_record}
use Rattle.inferring.specs.Understood.{on_under, on_structure, on_there, on_sort, on_pi, on_body, on_question, on_allowed, on_parameters, on_earlier}

-- what the rules say of t's end
pub data InferEnd (e : Env) (d r : ℕ) (m : Tally) (t : Ptr) : End → Type 0 where
  is_type : {m' : Tally} {p : Ptr} → Infers e d r m t m' p → InferEnd e d r m t (gives m' p)
  is_demand : {a : InferDemand} {m₁ : Tally} → InferMeets e d r m t a m₁ → InferEnd e d r m t (demands a m₁)

-- A LET: a step and a replacement, as one firing

let_pays : {m m₁ : Tally} {b v t : Ptr} {k : ℕ} → Opens (tally (suc m.steps) m.store) (some v) k 0 b m₁ t → Pays m (opened b v k) [] m₁ t
unfolding joined
let_pays o = record {
  due = o.due;
  is_due = record { result = o.due; gives = by_replacement o.is_due; applied = refl };
  number_fits = opened_fits;
  written = o.written;
  then_tally = o.then_tally;
  then_term = o.then_at;
}

let_meets : {e : Env} {d r : ℕ} {m m₁ : Tally} {t x v b : Ptr} {a : InferDemand} → row_at m.store t.row ≡ node let' x v b →
    OpensMeets (tally (suc m.steps) m.store) (some (up m.store v t.shift)) t.shift 0 b a m₁ → InferMeets e d r m t a m₁
unfolding joined
let_meets q (F.OpensMeets.its_row {g = g} h w z) = F.in_value q (R.its_row opened_fits (record { result = g; gives = by_replacement h; applied = refl }) w z)

-- FORMS
module _ {e : Env} {d : ℕ} {m : Tally} {t : Ptr} where
  sort_end : {r l : ℕ} {x y z : Ptr} {o : End} → row_at m.store t.row ≡ node (sort l) x y z → Understood e d r m (sort_type l) o → InferEnd e d r m t o
  unfolding sort_type
  sort_end {r} row =
      on_level P _ (is_demand (F.sort_level row)) λ h.
      on_writes P _ (λ a m₁ x. is_demand (F.sort_row row h x)) λ m₁ p w.
      on_answers P (is_type (of_sort row h w))
    where
      P : End → Type 0
      P = InferEnd e d r m t

  constant_end : {r c n : ℕ} {x y z : Ptr} {o : End} → row_at m.store t.row ≡ node (const c n) x y z →
      Understood e d r m (constant_type e c n) o → InferEnd e d r m t o
  unfolding constant_type
  constant_end {r} {c} {n} {o = o} row = on (eq_view (decl_at e.decls c).levels n)
    where
      on : (v : EqView (decl_at e.decls c).levels n) → Understood e d r m (if_equal v (answers (decl_at e.decls c).type)) o → InferEnd e d r m t o
      on (equal q) = on_answers (InferEnd e d r m t) (is_type (of_constant row q refl))
      on (differ h) = on_untyped (InferEnd e d r m t) (is_demand (F.counts_differ row h))

  variable_end : {r i : ℕ} {o : End} → row_at m.store t.row ≡ var i → Understood e d r m (variable_type e m.store (i + t.shift)) o → InferEnd e d r m t o
  unfolding variable_type
  variable_end {r} {i} row =
      on_there (InferEnd e d r m t) (type_of e (i + t.shift)) _ (λ h. is_demand (F.no_record row h)) λ x h.
      on_answers (InferEnd e d r m t) (is_type (of_variable row h refl))

  number_end : {r n : ℕ} {x y z : Ptr} {o : End} → row_at m.store t.row ≡ node (num n) x y z → Understood e d r m (number_type e) o → InferEnd e d r m t o
  unfolding number_type
  number_end {r} row =
      on_there P (holder e nat) _ (λ h. is_demand (F.no_nat row h)) λ c h.
      on_writes P _ (λ a m₁ x. is_demand (F.nat_row row h x)) λ m₁ p w.
      on_answers P (is_type (of_number row h w))
    where
      P : End → Type 0
      P = InferEnd e d r m t

  application_end : {r : ℕ} {f a z : Ptr} {o : End} → row_at m.store t.row ≡ node app f a z →
      Understood e d r m (application_type (up m.store f t.shift) (up m.store a t.shift)) o → InferEnd e d r m t o
  unfolding application_type
  application_end {r} row =
      on_part P _ (λ a m₁ x. is_demand (F.in_function row x)) λ m₁ T h.
      on_pi P _ (λ a m₂ x. is_demand (F.in_function_type row h x)) λ m₂ x b k h₂.
      on_opens P _ (λ a m₃ x. is_demand (F.in_argument row h h₂ x)) λ m₃ p u.
      on_answers P (is_type (of_application row h h₂ u))
    where
      P : End → Type 0
      P = InferEnd e d r m t

  lambda_end : (r : ℕ) {x b z : Ptr} {o : End} → row_at m.store t.row ≡ node lam x b z →
      Understood e d r m (lambda_type m.store (up m.store x t.shift) b t.shift) o → InferEnd e d r m t o
  unfolding lambda_type
  lambda_end zero {b = b} row =
      on_body P b t.shift _ (λ a m₁ x. is_demand (F.in_body row (F.its_rows x))) λ m₁ b₁ h.
      on_record P _ (is_demand (F.in_body row (F.its_record h)))
    where
      P : End → Type 0
      P = InferEnd e d zero m t
  lambda_end (suc r) {b = b} row =
      on_body P b t.shift _ (λ a m₁ x. is_demand (F.in_body row (F.its_rows x))) λ m₁ b₁ h.
      on_under P _ (λ a m₂ x. is_demand (F.in_body row (F.its_part h x))) λ m₂ B h₂.
      on_writes P _ (λ a m₃ x. is_demand (F.pi_row row refl h h₂ x)) λ m₃ p w.
      on_answers P (is_type (of_lambda row refl h h₂ w))
    where
      P : End → Type 0
      P = InferEnd e d (suc r) m t

  -- from the type's sort on
  pi_body_end : (r : ℕ) {u : ℕ} {m₁ m₂ : Tally} {x b z T : Ptr} {o : End} → row_at m.store t.row ≡ node pi x b z →
      Part e d r m (up m.store x t.shift) m₁ T → ToSort e d m₁ T m₂ u →
      Understood e d r m₂ (pi_body m₂.store (up m.store x t.shift) b t.shift u) o → InferEnd e d r m t o
  unfolding pi_body
  pi_body_end zero {b = b} row f s =
      on_body P b t.shift _ (λ a m₃ x. is_demand (F.in_pi_body row f s (F.its_rows x))) λ m₃ b₁ h.
      on_record P _ (is_demand (F.in_pi_body row f s (F.its_record h)))
    where
      P : End → Type 0
      P = InferEnd e d zero m t
  pi_body_end (suc r) {x = x} {b = b} row f s =
      on_body P b t.shift _ (λ a m₃ x. is_demand (F.in_pi_body row f s (F.its_rows x))) λ m₃ b₁ h.
      on_under P _ (λ a m₄ x. is_demand (F.in_pi_body row f s (F.its_part h x))) λ m₄ B h₂.
      on_sort P (some (up m.store x t.shift)) _ (λ a m₅ x. is_demand (F.in_body_sort row refl f s h h₂ x)) λ m₅ v h₃.
      on_writes P _ (λ a m₆ x. is_demand (F.imax_row row refl f s h h₂ h₃ x)) λ m₆ p w.
      on_answers P (is_type (of_pi row refl f s h h₂ h₃ w))
    where
      P : End → Type 0
      P = InferEnd e d (suc r) m t

  pi_end : (r : ℕ) {x b z : Ptr} {o : End} → row_at m.store t.row ≡ node pi x b z →
      Understood e d r m (pi_type (up m.store x t.shift) b t.shift) o → InferEnd e d r m t o
  unfolding pi_type
  pi_end r row =
      on_part P _ (λ a m₁ x. is_demand (F.in_type row x)) λ m₁ T f.
      on_sort P none _ (λ a m₂ x. is_demand (F.in_sort row f x)) λ m₂ u s.
      pi_body_end r row f s
    where
      P : End → Type 0
      P = InferEnd e d r m t

  let_end : {r : ℕ} {x v b : Ptr} {o : End} → row_at m.store t.row ≡ node let' x v b →
      Understood e d r m (let_type (up m.store v t.shift) b t.shift) o → InferEnd e d r m t o
  unfolding let_type
  let_end {r} row =
      on_step P _ (is_demand (F.in_value row R.its_step))
      (on_opens P _ (λ a m₁ x. is_demand (let_meets row x)) λ m₁ t₁ h.
      on_part P _ (λ a m₂ x. is_demand (F.in_result row (let_pays h) x)) λ m₂ p f.
      on_answers P (is_type (of_let row (let_pays h) f)))
    where
      P : End → Type 0
      P = InferEnd e d r m t

  projection_end : {r c i : ℕ} {v y z : Ptr} {o : End} → row_at m.store t.row ≡ node (proj c i) v y z →
      Understood e d r m (projection_type c i (up m.store v t.shift)) o → InferEnd e d r m t o
  unfolding projection_type field_type chosen
  projection_end {r} {c} {i} {v} row =
      on_part P _ (λ a m₁ x. is_demand (F.in_structure row x)) λ m₁ S f.
      on_reduces P _ (λ a m₂ x. is_demand (F.after_structure row refl f (F.FieldMeets.in_reduction x))) λ m₂ S₁ h.
      on_question P _ (λ a m₃ x. is_demand (F.after_structure row refl f (F.in_question h x))) λ m₃ q p.
      on_structure P _ (λ n. is_demand (F.after_structure row refl f (F.no_structure h p n))) λ n C ys s.
      on_parameters P n ys _ (λ a m₄ x. is_demand (F.after_structure row refl f (F.in_parameters h p s x))) λ m₄ W g.
      on_earlier P c (up m.store v t.shift) q 0 i _ (λ a m₅ x. is_demand (F.after_structure row refl f (F.in_earlier h p s g x))) λ m₅ W₁ b.
      on_pi P _ (λ a m₆ x. is_demand (F.after_structure row refl f (F.in_chosen h p s g b x))) λ m₆ x b₁ k u.
      on_allowed P q _ (λ a m₇ x. is_demand (F.after_structure row refl f (F.not_allowed h p s g b u x))) λ m₇ l.
      on_answers P (is_type (of_projection row refl f h p s g b u l refl))
    where
      P : End → Type 0
      P = InferEnd e d r m t

-- a row under the pointer's shift
row_end : {e : Env} {d r : ℕ} {m : Tally} {t : Ptr} {o : End} (w : Row) → row_at m.store t.row ≡ w →
    Understood e d r m (at_row e m.store t.shift w) o → InferEnd e d r m t o
unfolding at_row
row_end (var i) q u = variable_end q u
row_end (node (sort l) x y z) q u = sort_end q u
row_end (node (const c n) x y z) q u = constant_end q u
row_end (node app f a z) q u = application_end q u
row_end {r = r} (node lam x b z) q u = lambda_end r q u
row_end {r = r} (node pi x b z) q u = pi_end r q u
row_end (node let' x v b) q u = let_end q u
row_end (node (proj c i) v y z) q u = projection_end q u
row_end (node (num n) x y z) q u = number_end q u

asks_end : {e : Env} {d r : ℕ} {m : Tally} {t : Ptr} {o : End} → Understood e d r m (asks e m.store t) o → InferEnd e d r m t o
unfolding asks
asks_end {m = m} {t = t} u = row_end (row_at m.store t.row) refl u

type_of_lem : {e : Env} {d r : ℕ} {m m' : Tally} {t p : Ptr} → InferEnd e d r m t (gives m' p) → Infers e d r m t m' p
type_of_lem (is_type i) = i

demand_of : {e : Env} {d r : ℕ} {m m₁ : Tally} {t : Ptr} {a : InferDemand} → InferEnd e d r m t (demands a m₁) → InferMeets e d r m t a m₁
demand_of (is_demand x) = x

-- THE WHOLE
mutual
  pub from_types : {e : Env} {d r : ℕ} {m m' : Tally} {t p : Ptr} → Types e d r m t m' p → Infers e d r m t m' p
  from_types (C.Types.by_asks c) = type_of_lem (asks_end (from_comes c))

  from_comes : {e : Env} {d r : ℕ} {m m' : Tally} {y : Ask} {p : Ptr} → Comes e d r m y m' p → Understood e d r m y (gives m' p)
  from_comes C.answered = u_answers
  from_comes (C.stepped c) = u_stepped (from_comes c)
  from_comes (C.leveled h c) = u_leveled h (from_comes c)
  from_comes (C.wrote w c) = u_wrote w (from_comes c)
  from_comes (C.opened w c) = u_opened w (from_comes c)
  from_comes {e} (C.reduced {X = X} h c) = u_reduced (deeper (from_runs (with_record e X) h)) (from_comes c)
  from_comes (C.part i c) = u_part (inferred (from_types i)) (from_comes c)
  from_comes (C.part_under i c) = u_under (inferred (from_types i)) (from_comes c)
  from_comes (C.structured h c) = u_structure h (from_comes c)

mutual
  pub from_type_meets : {e : Env} {d r : ℕ} {m m₁ : Tally} {t : Ptr} {a : InferDemand} → TypeMeets e d r m t a m₁ → InferMeets e d r m t a m₁
  from_type_meets (C.TypeMeets.by_asks x) = demand_of (asks_end (from_ask_meets x))

  from_ask_meets : {e : Env} {d r : ℕ} {m m₁ : Tally} {y : Ask} {a : InferDemand} → AskMeets e d r m y a m₁ → Understood e d r m y (demands a m₁)
  from_ask_meets C.no_type_there = u_untyped
  from_ask_meets C.its_step = u_step
  from_ask_meets (C.after_step x) = u_stepped (from_ask_meets x)
  from_ask_meets C.its_level = u_level
  from_ask_meets (C.after_level h x) = u_leveled h (from_ask_meets x)
  from_ask_meets (C.its_row w) = u_row w
  from_ask_meets (C.after_row w x) = u_wrote w (from_ask_meets x)
  from_ask_meets (C.its_rows w) = u_rows w
  from_ask_meets (C.after_rows w x) = u_opened w (from_ask_meets x)
  from_ask_meets C.too_deep = u_in_side R.its_level
  from_ask_meets {e} (C.in_reduction {X = X} h) = u_in_side (R.within (from_meets (with_record e X) h))
  from_ask_meets {e} (C.after_reduction {X = X} h x) = u_reduced (deeper (from_runs (with_record e X) h)) (from_ask_meets x)
  from_ask_meets C.part_too_deep = u_in_part F.its_level
  from_ask_meets (C.in_part x) = u_in_part (F.within (from_type_meets x))
  from_ask_meets (C.after_part i x) = u_part (inferred (from_types i)) (from_ask_meets x)
  from_ask_meets C.its_record = u_record
  from_ask_meets C.under_too_deep = u_in_under F.its_level
  from_ask_meets (C.in_part_under x) = u_in_under (F.within (from_type_meets x))
  from_ask_meets (C.after_part_under i x) = u_under (inferred (from_types i)) (from_ask_meets x)
  from_ask_meets (C.no_structure_there n) = u_no_structure n
  from_ask_meets (C.after_structure h x) = u_structure h (from_ask_meets x)
