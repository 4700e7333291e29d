-- From the rules to the asks: whatever the rules of inference in crates/rules say, the asks say too, form by form.
-- Holds for every store and every environment; nothing is assumed.
use Rattle.std.specs.Prelude.{ℕ, suc, ◌≡◌, Bool, List, []}
use Rattle.std.proofs.Common.{sym, ◌∙◌, subst}
use Rattle.std.proofs.Math.Path.{ap}
use Rattle.std.proofs.Math.Option.{Option, none, some}
use Rattle.rules.specs.Rows.{Ptr, Row, Store, row_at}
use Rattle.rules.specs.Declarations.{Env, decl_at}
use Rattle.rules.specs.Spines.{joined}
use Rattle.rules.specs.Firings.{Tally, tally, opened, Gives, by_replacement, Pays}
use Rattle.rules.specs.Inference.{under, Opens, Body, as_it_stands, moved, Reduced, deeper, ToSort, ToPi, SortZero, zero_level, not_zero}
use Rattle.rules.specs.Inference.{Infers, of_sort, of_constant, of_variable, of_number, of_application, of_lambda, of_pi, of_let, of_projection}
use Rattle.rules.specs.Inference.{Part, inferred, IsProp, asked, Parameters, walked, next, Earlier, chosen, not_used, used, Allowed, no_condition, is_one}
use Rattle.course.specs.ToTries.{to_runs}
use Rattle.inferring.specs.Views.{eq_view, pi_view, sort_view}
use Rattle.inferring.specs.Asks.{Ask, answers, reduces, infers, with_record}
use Rattle.inferring.specs.Asks.{if_pi, if_sort, is_zero, pi_of, sort_of, body_of}
use Rattle.inferring.specs.Asks.{question, allowed, sort_type, constant_type, variable_type, number_type, application_type, lambda_type, pi_type, let_type}
use Rattle.inferring.specs.Asks.{parameters, earlier, projection_type, at_row, asks}
use Rattle.inferring.specs.Tests.{at_equal, at_pi, at_sort, at_loose}
use Rattle.inferring.specs.Courses.{Types, Comes, answered, stepped, leveled, wrote, reduced, part, part_under, structured}
use Rattle.inferring.specs.Courses as C

-- the asks of a pointer are those of its row
pub row_asks : (e : Env) (s : Store) (t : Ptr) {w : Row} → row_at s t.row ≡ w → at_row e s t.shift w ≡ asks e s t
unfolding asks
row_asks e s t q = ap (at_row e s t.shift) (sym q)

by_row : {e : Env} {d r : ℕ} {m m' : Tally} {t p : Ptr} {w : Row} → row_at m.store t.row ≡ w → Comes e d r m (at_row e m.store t.shift w) m' p →
    Types e d r m t m' p
by_row {e} {d} {r} {m} {m'} {t} {p} q c = C.by_asks (subst (λ (y : Ask). Comes e d r m y m' p) (row_asks e m.store t q) c)

answered_at : {e : Env} {d r : ℕ} {m : Tally} {q p : Ptr} → q ≡ p → Comes e d r m (answers q) m p
answered_at h = rw h answered

-- PIECES

-- a value replaced with its step, as a step and a replacement
pub let_opens : {m m₁ : Tally} {b v t : Ptr} {k : ℕ} → Pays m (opened b v k) [] m₁ t → Opens (tally (suc m.steps) m.store) (some v) k 0 b m₁ t
unfolding joined
let_opens {m} {m₁} {b} {v} {t} {k} p = on p.is_due.gives
  where
    on : Gives m.store (opened b v k) p.is_due.result → Opens (tally (suc m.steps) m.store) (some v) k 0 b m₁ t
    on (by_replacement q) = record {
      due = p.due;
      is_due = rw (← p.is_due.applied) q;
      written = p.written;
      then_tally = p.then_tally;
      then_at = p.then_term;
    }

module _ {e : Env} {d r : ℕ} where
  comes_body : {m m₁ m' : Tally} {b b₁ p : Ptr} {k : ℕ} (y : Store → Ptr → Ask) → Body m b k m₁ b₁ → Comes e d r m₁ (y m₁.store b₁) m' p →
      Comes e d r m (body_of m.store b k y) m' p
  unfolding body_of
  comes_body y as_it_stands c = c
  comes_body y (moved o) c = C.opened o c

  comes_sort : {m m₁ m' : Tally} {q p : Ptr} {l : ℕ} (X : Option Ptr) (y : Store → ℕ → Ask) → ToSort (with_record e X) d m q m₁ l →
      Comes e d r m₁ (y m₁.store l) m' p → Comes e d r m (sort_of X q y) m' p
  unfolding sort_of
  comes_sort {m} {m₁} {m'} {q} {p} {l} X y o c = go o.reduced
      (subst (λ (z : Ask). Comes e d r m₁ z m' p) (sym (at_sort (sort_view (row_at m₁.store o.to.row)) (y m₁.store) o.row)) c)
    where
      go : {n : ℕ} {q' : Ptr} → Reduced (with_record e X) n m q m₁ q' →
          Comes e n r m₁ (if_sort (sort_view (row_at m₁.store q'.row)) (λ l. y m₁.store l)) m' p → Comes e n r m (sort_of X q y) m' p
      go (deeper h) k = reduced (to_runs (with_record e X) h) k

  comes_pi : {m m₁ m' : Tally} {q x b p : Ptr} {k : ℕ} (y : Store → Ptr → Ptr → ℕ → Ask) → ToPi e d m q m₁ x b k →
      Comes e d r m₁ (y m₁.store x b k) m' p → Comes e d r m (pi_of q y) m' p
  unfolding pi_of
  comes_pi {m} {m₁} {m'} {q} {x} {b} {p} {k} y o c = go o.reduced
      (subst (λ (z : Ask). Comes e d r m₁ z m' p)
      (sym (at_pi (pi_view (row_at m₁.store o.to.row)) (λ x b. y m₁.store x b o.to.shift) o.row ∙ ap (y m₁.store x b) o.shift)) c)
    where
      go : {n : ℕ} {q' : Ptr} → Reduced e n m q m₁ q' →
          Comes e n r m₁ (if_pi (pi_view (row_at m₁.store q'.row)) (λ x b. y m₁.store x b q'.shift)) m' p → Comes e n r m (pi_of q y) m' p
      go (deeper h) k = reduced (to_runs e h) k

-- the type of a part, by asks: "one nesting level deeper"
pub data Deeper : Env → ℕ → ℕ → Tally → Ptr → Tally → Ptr → Type 0 where
  deeper_types : {e : Env} {d r : ℕ} {m m' : Tally} {t p : Ptr} → Types e d r m t m' p → Deeper e (suc d) r m t m' p

comes_part : {e : Env} {d r : ℕ} {m m₁ m' : Tally} {t T p : Ptr} (y : Store → Ptr → Ask) → Deeper e d r m t m₁ T → Comes e d r m₁ (y m₁.store T) m' p →
    Comes e d r m (infers none t y) m' p
comes_part y (deeper_types i) c = part i c

comes_part_under : {e : Env} {d r : ℕ} {m m₁ m' : Tally} {X t T p : Ptr} (y : Store → Ptr → Ask) → Deeper (under e X) d r m t m₁ T →
    Comes e d (suc r) m₁ (y m₁.store T) m' p → Comes e d (suc r) m (infers (some X) t y) m' p
comes_part_under y (deeper_types i) c = part_under i c

comes_reduced : {e : Env} {d r : ℕ} {m m₁ m' : Tally} {q q' p : Ptr} (y : Store → Ptr → Ask) → Reduced e d m q m₁ q' →
    Comes e d r m₁ (y m₁.store q') m' p → Comes e d r m (reduces none q y) m' p
comes_reduced {e} y (deeper h) c = reduced (to_runs e h) c

comes_zero : {e : Env} {d r l : ℕ} {m m' : Tally} {p : Ptr} {q : Bool} (y : Store → Bool → Ask) → SortZero l q → Comes e d r m (y m.store q) m' p →
    Comes e d r m (y m.store (is_zero l)) m' p
comes_zero y zero_level c = c
comes_zero y not_zero c = c

comes_question : {e : Env} {d r l : ℕ} {m m₁ m₂ m' : Tally} {t T p : Ptr} {q : Bool} (y : Store → Bool → Ask) →
    Deeper e d r (tally (suc m.steps) m.store) t m₁ T → ToSort e d m₁ T m₂ l → SortZero l q → Comes e d r m₂ (y m₂.store q) m' p →
    Comes e d r m (question t y) m' p
unfolding question
comes_question y f o z c = stepped (comes_part _ f (comes_sort none _ o (comes_zero y z c)))

-- WHAT THE RULES GIVE
mutual
  unfolding at_row sort_type constant_type variable_type number_type application_type lambda_type pi_type let_type projection_type allowed parameters earlier

  pub to_types : {e : Env} {d r : ℕ} {m m' : Tally} {t p : Ptr} → Infers e d r m t m' p → Types e d r m t m' p
  to_types (of_sort q l w) = by_row q (leveled l (wrote w answered))
  to_types {e} {d} {r} {m} {m'} {p = p} (of_constant {c = c} {n = n} q l h) =
      by_row q (subst (λ (y : Ask). Comes e d r m y m' p)
      (ap answers (sym h) ∙ sym (at_equal (eq_view (decl_at e.decls c).levels n) (answers (decl_at e.decls c).type) l)) answered)
  to_types (of_variable q h u) = by_row q (rw (h, u) answered)
  to_types (of_number q h w) = by_row q (rw h (wrote w answered))
  to_types (of_application q f o u) = by_row q (comes_part _ (to_part f) (comes_pi _ o (C.opened u answered)))
  to_types (of_lambda q x o f w) = by_row q (rw x (comes_body _ o (comes_part_under _ (to_part f) (wrote w answered))))
  to_types (of_pi q x f o b g k w) =
      by_row q (rw x (comes_part _ (to_part f) (comes_sort none _ o (comes_body _ b (comes_part_under _ (to_part g) (comes_sort (some _) _ k (wrote w answered)))))))
  to_types (of_let q o f) = by_row q (stepped (C.opened (let_opens o) (comes_part _ (to_part f) answered)))
  to_types (of_projection q x f o i h a b k g u) =
      by_row q (rw x (comes_part _ (to_part f) (comes_reduced _ o (to_question _ i (structured h
      (to_parameters _ a (to_earlier _ b (comes_pi _ k (to_allowed _ g (answered_at u))))))))))

  pub to_part : {e : Env} {d r : ℕ} {m m' : Tally} {t p : Ptr} → Part e d r m t m' p → Deeper e d r m t m' p
  to_part (inferred i) = deeper_types (to_types i)

  pub to_question : {e : Env} {d r : ℕ} {m m₁ m' : Tally} {t p : Ptr} {q : Bool} (y : Store → Bool → Ask) → IsProp e d r m t m₁ q →
      Comes e d r m₁ (y m₁.store q) m' p → Comes e d r m (question t y) m' p
  to_question y (asked f o z) c = comes_question y (to_part f) o z c

  pub to_allowed : {e : Env} {d r : ℕ} {m m₁ m' : Tally} {t p : Ptr} {q : Bool} (y : Store → Ask) → Allowed e d r m t q m₁ →
      Comes e d r m₁ (y m₁.store) m' p → Comes e d r m (allowed m.store t q y) m' p
  to_allowed y no_condition c = c
  to_allowed y (is_one i) c = to_question _ i c

  pub to_parameters : {e : Env} {d r n : ℕ} {m m₁ m' : Tally} {W W₁ p : Ptr} {ys : List Ptr} (y : Store → Ptr → Ask) → Parameters e d r m W n ys m₁ W₁ →
      Comes e d r m₁ (y m₁.store W₁) m' p → Comes e d r m (parameters n ys m.store W y) m' p
  to_parameters y walked c = c
  to_parameters y (next o u i) c = comes_pi _ o (C.opened u (to_parameters y i c))

  pub to_earlier : {e : Env} {d r c j n : ℕ} {m m₁ m' : Tally} {W X W₁ p : Ptr} {q : Bool} (y : Store → Ptr → Ask) → Earlier e d r m W c X q j n m₁ W₁ →
      Comes e d r m₁ (y m₁.store W₁) m' p → Comes e d r m (earlier c X q j n m.store W y) m' p
  to_earlier y chosen c = c
  to_earlier y (not_used o z i) c = comes_pi _ o (rw z (to_earlier y i c))
  to_earlier {e} {d} {r} {m' = m'} {p = p} y (used {m₁ = m₁} o z a w u i) c =
      comes_pi _ o (subst (λ (x : Ask). Comes e d r m₁ x m' p) (sym (at_loose _ _ _ z)) (to_allowed _ a (wrote w (C.opened u (to_earlier y i c)))))
