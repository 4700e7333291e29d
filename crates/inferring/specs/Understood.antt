-- Asks with the rules' own premises, and how one is taken apart, piece by piece. An end is a type with its tally, or a demand with the tally at which it
-- is met, so that both are treated at once. Holds for every store and every environment; nothing is assumed.
use Prim.Native.Nat.{ℕ, zero, suc, ◌≤◌}
use Rattle.std.proofs.Common.{arith}
use Rattle.std.specs.Prelude.{◌≡◌, Bool}
use Rattle.std.proofs.Math.Path.{refl}
use Rattle.std.proofs.Math.Bool.{true, false}
use mathlib.Core.List.{List, [], ◌∷◌}
use Rattle.std.proofs.Math.Option.{Option, none, some}
use Rattle.rules.specs.Maxima.{most_level}
use Rattle.rules.specs.Kinds.{sort, pi, proj}
use Rattle.rules.specs.Rows.{Ptr, blank, Row, node, Store, row_at, bound, up}
use Rattle.rules.specs.Declarations.{Decl, Env}
use Rattle.rules.specs.Firings.{Tally, tally}
use Rattle.rules.specs.Refusals.{Demand, step, SideMeets}
use Rattle.rules.specs.Inference.{under, Puts, Opens, Body, as_it_stands, moved, Reduced, ToSort, ToPi, OfStructure, SortZero, zero_level, not_zero, Part}
use Rattle.rules.specs.Inference.{IsProp, asked, Parameters, walked, next, Earlier, chosen, not_used, used, Allowed, no_condition, is_one}
use Rattle.rules.specs.InferRefusals.{InferDemand, as_reduction, a_type, a_level, a_record, PutsMeets, OpensMeets, BodyMeets, in_move, SortMeets, PiMeets}
use Rattle.rules.specs.InferRefusals.{PartMeets, PropMeets, ParametersMeet, EarlierMeet, AllowedMeets}
use Rattle.rules.specs.InferRefusals as F
use Rattle.inferring.specs.Views.{PiView, is_pi, no_pi, pi_view, SortView, is_sort, no_sort, sort_view}
use Rattle.inferring.specs.Asks.{Ask, answers, untyped, step_then, level_then, writes, opens, reduces, infers, structures, with_record, if_there, if_pi}
use Rattle.inferring.specs.Asks.{if_sort, if_true, is_zero, if_loose, pi_of, sort_of, body_of, question, allowed, parameters, earlier}

pub data End : Type 0 where
  gives : Tally → Ptr → End
  demands : InferDemand → Tally → End

pub data Understood : Env → ℕ → ℕ → Tally → Ask → End → Type 0 where
  u_answers : {e : Env} {d r : ℕ} {m : Tally} {p : Ptr} → Understood e d r m (answers p) (gives m p)
  u_untyped : {e : Env} {d r : ℕ} {m : Tally} → Understood e d r m untyped (demands a_type m)
  u_step : {e : Env} {d r : ℕ} {m : Tally} {y : Ask} → Understood e d r m (step_then y) (demands (as_reduction step) m)
  u_stepped : {e : Env} {d r : ℕ} {m : Tally} {y : Ask} {o : End} →
      Understood e d r (tally (suc m.steps) m.store) y o → Understood e d r m (step_then y) o
  u_level : {e : Env} {d r l : ℕ} {m : Tally} {y : Ask} → Understood e d r m (level_then l y) (demands (a_level l) m)
  u_leveled : {e : Env} {d r l : ℕ} {m : Tally} {y : Ask} {o : End} → l ≤ most_level → Understood e d r m y o → Understood e d r m (level_then l y) o
  u_row : {e : Env} {d r : ℕ} {m m₁ : Tally} {a : InferDemand} {w : Row} {y : Store → Ptr → Ask} →
      PutsMeets m w a m₁ → Understood e d r m (writes w y) (demands a m₁)
  u_wrote : {e : Env} {d r : ℕ} {m m₁ : Tally} {q : Ptr} {w : Row} {y : Store → Ptr → Ask} {o : End} →
      Puts m w m₁ q → Understood e d r m₁ (y m₁.store q) o → Understood e d r m (writes w y) o
  u_rows : {e : Env} {d r k c : ℕ} {m m₁ : Tally} {a : InferDemand} {v : Option Ptr} {b : Ptr} {y : Store → Ptr → Ask} →
      OpensMeets m v k c b a m₁ → Understood e d r m (opens v k c b y) (demands a m₁)
  u_opened : {e : Env} {d r k c : ℕ} {m m₁ : Tally} {v : Option Ptr} {b q : Ptr} {y : Store → Ptr → Ask} {o : End} →
      Opens m v k c b m₁ q → Understood e d r m₁ (y m₁.store q) o → Understood e d r m (opens v k c b y) o
  u_in_side : {e : Env} {d r : ℕ} {m m₁ : Tally} {a : Demand} {X : Option Ptr} {q : Ptr} {y : Store → Ptr → Ask} →
      SideMeets (with_record e X) d m q a m₁ → Understood e d r m (reduces X q y) (demands (as_reduction a) m₁)
  u_reduced : {e : Env} {d r : ℕ} {m m₁ : Tally} {X : Option Ptr} {q q' : Ptr} {y : Store → Ptr → Ask} {o : End} →
      Reduced (with_record e X) d m q m₁ q' → Understood e d r m₁ (y m₁.store q') o → Understood e d r m (reduces X q y) o
  u_in_part : {e : Env} {d r : ℕ} {m m₁ : Tally} {a : InferDemand} {q : Ptr} {y : Store → Ptr → Ask} →
      PartMeets e d r m q a m₁ → Understood e d r m (infers none q y) (demands a m₁)
  u_part : {e : Env} {d r : ℕ} {m m₁ : Tally} {q q' : Ptr} {y : Store → Ptr → Ask} {o : End} →
      Part e d r m q m₁ q' → Understood e d r m₁ (y m₁.store q') o → Understood e d r m (infers none q y) o
  u_record : {e : Env} {d : ℕ} {m : Tally} {X q : Ptr} {y : Store → Ptr → Ask} → Understood e d zero m (infers (some X) q y) (demands a_record m)
  u_in_under : {e : Env} {d r : ℕ} {m m₁ : Tally} {a : InferDemand} {X q : Ptr} {y : Store → Ptr → Ask} →
      PartMeets (under e X) d r m q a m₁ → Understood e d (suc r) m (infers (some X) q y) (demands a m₁)
  u_under : {e : Env} {d r : ℕ} {m m₁ : Tally} {X q q' : Ptr} {y : Store → Ptr → Ask} {o : End} →
      Part (under e X) d r m q m₁ q' → Understood e d (suc r) m₁ (y m₁.store q') o → Understood e d (suc r) m (infers (some X) q y) o
  u_no_structure : {e : Env} {d r c : ℕ} {m : Tally} {q : Ptr} {y : ℕ → Decl → List Ptr → Ask} →
      ((n : ℕ) (C : Decl) (ys : List Ptr) → OfStructure e m.store q c n C ys → ⊥) → Understood e d r m (structures q c y) (demands a_type m)
  u_structure : {e : Env} {d r c n : ℕ} {m : Tally} {q : Ptr} {C : Decl} {ys : List Ptr} {y : ℕ → Decl → List Ptr → Ask} {o : End} →
      OfStructure e m.store q c n C ys → Understood e d r m (y n C ys) o → Understood e d r m (structures q c y) o

-- TAKING AN ASK APART. P is what is to be shown of the end.
module _ (P : End → Type 0) where
  pub on_answers : {e : Env} {d r : ℕ} {m : Tally} {p : Ptr} {o : End} → P (gives m p) → Understood e d r m (answers p) o → P o
  on_answers p u_answers = p

  pub on_untyped : {e : Env} {d r : ℕ} {m : Tally} {o : End} → P (demands a_type m) → Understood e d r m untyped o → P o
  on_untyped p u_untyped = p

  pub on_step : {e : Env} {d r : ℕ} {m : Tally} {o : End} (y : Ask) → P (demands (as_reduction step) m) →
      (Understood e d r (tally (suc m.steps) m.store) y o → P o) → Understood e d r m (step_then y) o → P o
  on_step y f g u_step = f
  on_step y f g (u_stepped u) = g u

  pub on_level : {e : Env} {d r l : ℕ} {m : Tally} {o : End} (y : Ask) → P (demands (a_level l) m) → (l ≤ most_level → Understood e d r m y o → P o) →
      Understood e d r m (level_then l y) o → P o
  on_level y f g u_level = f
  on_level y f g (u_leveled h u) = g h u

  pub on_writes : {e : Env} {d r : ℕ} {m : Tally} {w : Row} {o : End} (y : Store → Ptr → Ask) →
      ((a : InferDemand) (m₁ : Tally) → PutsMeets m w a m₁ → P (demands a m₁)) →
      ((m₁ : Tally) (q : Ptr) → Puts m w m₁ q → Understood e d r m₁ (y m₁.store q) o → P o) → Understood e d r m (writes w y) o → P o
  on_writes y f g (u_row x) = f _ _ x
  on_writes y f g (u_wrote x u) = g _ _ x u

  pub on_opens : {e : Env} {d r k c : ℕ} {m : Tally} {v : Option Ptr} {b : Ptr} {o : End} (y : Store → Ptr → Ask) →
      ((a : InferDemand) (m₁ : Tally) → OpensMeets m v k c b a m₁ → P (demands a m₁)) →
      ((m₁ : Tally) (q : Ptr) → Opens m v k c b m₁ q → Understood e d r m₁ (y m₁.store q) o → P o) → Understood e d r m (opens v k c b y) o → P o
  on_opens y f g (u_rows x) = f _ _ x
  on_opens y f g (u_opened x u) = g _ _ x u

  pub on_reduces : {e : Env} {d r : ℕ} {m : Tally} {X : Option Ptr} {q : Ptr} {o : End} (y : Store → Ptr → Ask) →
      ((a : Demand) (m₁ : Tally) → SideMeets (with_record e X) d m q a m₁ → P (demands (as_reduction a) m₁)) →
      ((m₁ : Tally) (q' : Ptr) → Reduced (with_record e X) d m q m₁ q' → Understood e d r m₁ (y m₁.store q') o → P o) →
      Understood e d r m (reduces X q y) o → P o
  on_reduces y f g (u_in_side x) = f _ _ x
  on_reduces y f g (u_reduced x u) = g _ _ x u

  pub on_part : {e : Env} {d r : ℕ} {m : Tally} {q : Ptr} {o : End} (y : Store → Ptr → Ask) →
      ((a : InferDemand) (m₁ : Tally) → PartMeets e d r m q a m₁ → P (demands a m₁)) →
      ((m₁ : Tally) (T : Ptr) → Part e d r m q m₁ T → Understood e d r m₁ (y m₁.store T) o → P o) → Understood e d r m (infers none q y) o → P o
  on_part y f g (u_in_part x) = f _ _ x
  on_part y f g (u_part x u) = g _ _ x u

  -- no record is spare
  pub on_record : {e : Env} {d : ℕ} {m : Tally} {X q : Ptr} {o : End} (y : Store → Ptr → Ask) → P (demands a_record m) →
      Understood e d zero m (infers (some X) q y) o → P o
  on_record y f u_record = f

  -- one is
  pub on_under : {e : Env} {d r : ℕ} {m : Tally} {X q : Ptr} {o : End} (y : Store → Ptr → Ask) →
      ((a : InferDemand) (m₁ : Tally) → PartMeets (under e X) d r m q a m₁ → P (demands a m₁)) →
      ((m₁ : Tally) (T : Ptr) → Part (under e X) d r m q m₁ T → Understood e d (suc r) m₁ (y m₁.store T) o → P o) →
      Understood e d (suc r) m (infers (some X) q y) o → P o
  on_under y f g (u_in_under x) = f _ _ x
  on_under y f g (u_under x u) = g _ _ x u

  pub on_structure : {e : Env} {d r c : ℕ} {m : Tally} {q : Ptr} {o : End} (y : ℕ → Decl → List Ptr → Ask) →
      (((n : ℕ) (C : Decl) (ys : List Ptr) → OfStructure e m.store q c n C ys → ⊥) → P (demands a_type m)) →
      ((n : ℕ) (C : Decl) (ys : List Ptr) → OfStructure e m.store q c n C ys → Understood e d r m (y n C ys) o → P o) →
      Understood e d r m (structures q c y) o → P o
  on_structure y f g (u_no_structure x) = f x
  on_structure y f g (u_structure x u) = g _ _ _ x u

  pub on_there : {A : Type 0} {e : Env} {d r : ℕ} {m : Tally} {o : End} (x : Option A) (y : A → Ask) → (x ≡ none → P (demands a_type m)) →
      ((a : A) → x ≡ some a → Understood e d r m (y a) o → P o) → Understood e d r m (if_there x y) o → P o
  on_there none y f g u = on_untyped (f refl) u
  on_there (some a) y f g u = g a refl u

  -- PIECES

  if_sort_end : {e : Env} {d r : ℕ} {m : Tally} {w : Row} {o : End} (v : SortView w) (y : ℕ → Ask) →
      (((l : ℕ) (x y z : Ptr) → w ≡ node (sort l) x y z → ⊥) → P (demands a_type m)) →
      ((l : ℕ) (x y' z : Ptr) → w ≡ node (sort l) x y' z → Understood e d r m (y l) o → P o) → Understood e d r m (if_sort v y) o → P o
  if_sort_end (is_sort l x y' z q) y f g u = g l x y' z q u
  if_sort_end (no_sort h) y f g u = on_untyped (f h) u

  pub on_sort : {e : Env} {d r : ℕ} {m : Tally} {q : Ptr} {o : End} (X : Option Ptr) (y : Store → ℕ → Ask) →
      ((a : InferDemand) (m₁ : Tally) → SortMeets (with_record e X) d m q a m₁ → P (demands a m₁)) →
      ((m₁ : Tally) (l : ℕ) → ToSort (with_record e X) d m q m₁ l → Understood e d r m₁ (y m₁.store l) o → P o) → Understood e d r m (sort_of X q y) o → P o
  unfolding sort_of
  on_sort X y f g =
      on_reduces _ (λ a m₁ x. f _ m₁ (F.SortMeets.in_reduction x)) λ m₁ p h.
      if_sort_end (sort_view (row_at m₁.store p.row)) _ (λ n. f _ m₁ (F.no_sort h n)) λ l a b c row.
      g m₁ l (record { to = p; x = a; y = b; z = c; reduced = h; row = row })

  if_pi_end : {e : Env} {d r : ℕ} {m : Tally} {w : Row} {o : End} (v : PiView w) (y : Ptr → Ptr → Ask) →
      (((x b z : Ptr) → w ≡ node pi x b z → ⊥) → P (demands a_type m)) →
      ((x b z : Ptr) → w ≡ node pi x b z → Understood e d r m (y x b) o → P o) → Understood e d r m (if_pi v y) o → P o
  if_pi_end (is_pi x b z q) y f g u = g x b z q u
  if_pi_end (no_pi h) y f g u = on_untyped (f h) u

  pub on_pi : {e : Env} {d r : ℕ} {m : Tally} {q : Ptr} {o : End} (y : Store → Ptr → Ptr → ℕ → Ask) →
      ((a : InferDemand) (m₁ : Tally) → PiMeets e d m q a m₁ → P (demands a m₁)) →
      ((m₁ : Tally) (x b : Ptr) (k : ℕ) → ToPi e d m q m₁ x b k → Understood e d r m₁ (y m₁.store x b k) o → P o) → Understood e d r m (pi_of q y) o → P o
  unfolding pi_of
  on_pi y f g =
      on_reduces _ (λ a m₁ x. f _ m₁ (F.PiMeets.in_reduction x)) λ m₁ p h.
      if_pi_end (pi_view (row_at m₁.store p.row)) _ (λ n. f _ m₁ (F.no_pi h n)) λ x b c row.
      g m₁ x b p.shift (record { to = p; z = c; reduced = h; row = row; shift = refl })

  pub on_body : {e : Env} {d r : ℕ} {m : Tally} {o : End} (b : Ptr) (k : ℕ) (y : Store → Ptr → Ask) →
      ((a : InferDemand) (m₁ : Tally) → BodyMeets m b k a m₁ → P (demands a m₁)) →
      ((m₁ : Tally) (b₁ : Ptr) → Body m b k m₁ b₁ → Understood e d r m₁ (y m₁.store b₁) o → P o) → Understood e d r m (body_of m.store b k y) o → P o
  unfolding body_of
  on_body {m = m} b zero y f g u = g m b as_it_stands u
  on_body b (suc k) y f g u = on_opens y (λ a m₁ x. f a m₁ (in_move x)) (λ m₁ q x. g m₁ q (moved x)) u

  zero_end : (l : ℕ) → SortZero l (is_zero l)
  zero_end zero = zero_level
  zero_end (suc l) = not_zero

  pub on_question : {e : Env} {d r : ℕ} {m : Tally} {p : Ptr} {o : End} (y : Store → Bool → Ask) →
      ((a : InferDemand) (m₁ : Tally) → PropMeets e d r m p a m₁ → P (demands a m₁)) →
      ((m₁ : Tally) (q : Bool) → IsProp e d r m p m₁ q → Understood e d r m₁ (y m₁.store q) o → P o) → Understood e d r m (question p y) o → P o
  unfolding question
  on_question y f g =
      on_step _ (f _ _ F.its_step)
      (on_part _ (λ a m₁ x. f a m₁ (F.its_type x)) λ m₁ T h.
      on_sort none _ (λ a m₂ x. f a m₂ (F.its_sort h x)) λ m₂ l h₂.
      g m₂ (is_zero l) (asked h h₂ (zero_end l)))

  pub on_allowed : {e : Env} {d r : ℕ} {m : Tally} {p : Ptr} {o : End} (q : Bool) (y : Store → Ask) →
      ((a : InferDemand) (m₁ : Tally) → AllowedMeets e d r m p q a m₁ → P (demands a m₁)) →
      ((m₁ : Tally) → Allowed e d r m p q m₁ → Understood e d r m₁ (y m₁.store) o → P o) → Understood e d r m (allowed m.store p q y) o → P o
  unfolding allowed
  on_allowed {m = m} false y f g u = g m no_condition u
  on_allowed {e} {d} {r} {m} {p} {o} true y f g u = on_question _ (λ a m₁ x. f a m₁ (F.in_asking x)) go u
    where
      go : (m₁ : Tally) (q : Bool) → IsProp e d r m p m₁ q → Understood e d r m₁ (if_true q (y m₁.store)) o → P o
      go m₁ true h u = g m₁ (is_one h) u
      go m₁ false h u = on_untyped (f a_type m₁ (F.no_proposition h)) u

  pub on_parameters : {e : Env} {d r : ℕ} {m : Tally} {W : Ptr} {o : End} (n : ℕ) (ys : List Ptr) (y : Store → Ptr → Ask) →
      ((a : InferDemand) (m₁ : Tally) → ParametersMeet e d r m W n ys a m₁ → P (demands a m₁)) →
      ((m₁ : Tally) (W₁ : Ptr) → Parameters e d r m W n ys m₁ W₁ → Understood e d r m₁ (y m₁.store W₁) o → P o) →
      Understood e d r m (parameters n ys m.store W y) o → P o
  unfolding parameters
  on_parameters {m = m} {W = W} zero ys y f g u = g m W walked u
  on_parameters (suc n) [] y f g u = on_pi _ (λ a m₁ x. f a m₁ (F.in_pi x)) (λ m₁ x b k h. on_untyped (f a_type m₁ (F.no_argument h))) u
  on_parameters (suc n) (v ∷ ys) y f g u =
      on_pi _ (λ a m₁ x. f a m₁ (F.in_pi x)) (λ m₁ x b k h.
      on_opens _ (λ a m₂ z. f a m₂ (F.argument_rows h z)) λ m₂ W₁ z.
      on_parameters n ys y (λ a m₃ t. f a m₃ (F.later h z t)) (λ m₃ W₂ t. g m₃ W₂ (next h z t))) u

  pub on_earlier : {e : Env} {d r : ℕ} {m : Tally} {W : Ptr} {o : End} (c : ℕ) (X : Ptr) (q : Bool) (j n : ℕ) (y : Store → Ptr → Ask) →
      ((a : InferDemand) (m₁ : Tally) → EarlierMeet e d r m W c X q j n a m₁ → P (demands a m₁)) →
      ((m₁ : Tally) (W₁ : Ptr) → Earlier e d r m W c X q j n m₁ W₁ → Understood e d r m₁ (y m₁.store W₁) o → P o) →
      Understood e d r m (earlier c X q j n m.store W y) o → P o
  unfolding earlier
  on_earlier {m = m} {W = W} c X q j zero y f g u = g m W chosen u
  on_earlier {e} {d} {r} {m} {W} {o} c X q j (suc n) y f g u =
      on_pi _ (λ a m₁ x. f a m₁ (F.in_field x)) (λ m₁ x b k h. go m₁ x b k h (bound m₁.store b) refl (λ m₁ W₁ s t. on_earlier c X q (suc j) n y s t)) u
    where
      -- the remaining fields, from m₁ and W₁ on
      Rest : Tally → Ptr → Type 0
      Rest m₁ W₁ = ((a : InferDemand) (m₂ : Tally) → EarlierMeet e d r m₁ W₁ c X q (suc j) n a m₂ → P (demands a m₂)) →
          ((m₂ : Tally) (W₂ : Ptr) → Earlier e d r m₁ W₁ c X q (suc j) n m₂ W₂ → Understood e d r m₂ (y m₂.store W₂) o → P o) →
          Understood e d r m₁ (earlier c X q (suc j) n m₁.store W₁ y) o → P o

      go : (m₁ : Tally) (x b : Ptr) (k : ℕ) → ToPi e d m W m₁ x b k → (l : ℕ) → bound m₁.store b ≡ l → ((m₁ : Tally) (W₁ : Ptr) → Rest m₁ W₁) →
          Understood e d r m₁ (if_loose l (earlier c X q (suc j) n m₁.store b y)
          (allowed m₁.store (up m₁.store x k) q λ s₂.
          writes (node (proj c j) X blank blank) λ s₃ v.
          opens (some v) k 0 b λ s₄ W₁.
          earlier c X q (suc j) n s₄ W₁ y)) o → P o
      go m₁ x b k h zero z rest u = rest m₁ b (λ a m₂ t. f a m₂ (F.after_unused h z t)) (λ m₂ W₂ t. g m₂ W₂ (not_used h z t)) u
      go m₁ x b k h (suc l) z rest u =
          on_allowed q _ (λ a m₂ t. f a m₂ (F.its_question h (omega (arith, z)) t)) (λ m₂ i.
          on_writes _ (λ a m₃ t. f a m₃ (F.its_projection h (omega (arith, z)) i t)) λ m₃ v w.
          on_opens _ (λ a m₄ t. f a m₄ (F.replaced_in h (omega (arith, z)) i w t)) λ m₄ W₁ p.
          rest m₄ W₁ (λ a m₅ t. f a m₅ (F.after_used h (omega (arith, z)) i w p t)) (λ m₅ W₂ t. g m₅ W₂ (used h (omega (arith, z)) i w p t))) u
