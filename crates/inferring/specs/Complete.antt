-- The evaluator is complete: a type that the asks come to within the limits is what it answers, and the demand that fails them is what it refuses with.
-- Assumes `Typed` and a term in scope. First a lemma for each ask, on its own or before the rest, then the two inductions.
use Prim.Native.Nat.{ℕ, suc, ◌≤◌, ◌<◌}
use Rattle.std.proofs.Common.{le_refl, arith, sym, ◌∙◌}
use Rattle.std.specs.Prelude.{◌≡◌, length}
use Rattle.std.proofs.Math.Path.{refl, ap, subst}
use mathlib.Core.List.{List, []}
use Rattle.std.proofs.Math.Option.{Option, none, some}
use Rattle.rules.specs.Maxima.{most_level}
use Rattle.rules.specs.Rows.{Ptr, Row, Cell, Store, cell_at, row_at, cell, Got, put}
use Rattle.rules.specs.RowCheck.{AllPass, InScope}
use Rattle.rules.specs.Declarations.{Decl, Env, decl_at}
use Rattle.rules.specs.Accepted.{Closed}
use Rattle.rules.specs.Replacement.{Replaces}
use Rattle.rules.specs.Spines.{Spine}
use Rattle.rules.specs.Firings.{Tally, tally, Written}
use Rattle.rules.specs.Refusals.{Demand, row, RowDue, Limits, Within, Fails, no_step, no_level}
use Rattle.rules.specs.Inference.{under, Puts, Opens, OfStructure}
use Rattle.rules.specs.InferRefusals.{InferDemand, a_record, PutsMeets, OpensMeets, InferFails, as_reduction_fails, no_type}
use Rattle.rules.specs.InferRefusals.{too_high, no_spare_record}
use Rattle.rules.specs.InferRefusals as F
use Rattle.course.specs.Views.{Cmp, up_to, over, cmp}
use Rattle.course.specs.Tries.{Runs, RunMeets}
use Rattle.course.specs.Eval.{replace_by, Spined, spine, Res, ok, no, Side, charge, side_at}
use Rattle.substitution.specs.Stores.{ext_put}
use Rattle.substitution.specs.Existence.{replaces_unique}
use Rattle.promises.specs.Stores.{within_earlier, later_runs, later_run_meets}
use Rattle.promises.specs.Lost.{no_head}
use Rattle.promises.specs.Same.{spine_same, runs_same}
use Rattle.promises.specs.Apart.{runs_apart}
use Rattle.promises.specs.First.{Stops, refusals_same}
use Rattle.promises.specs.SaysRows.{All, nothing, just, IsSpine, spine_says, replace_says}
use Rattle.promises.specs.Says.{ResSays, r_ok, r_no, r_lost, eval_says}
use Rattle.safety.specs.Sane.{depth_of, decl_count, Sane}
use Rattle.safety.specs.Scope.{none_in, spine_in}
use Rattle.safety.specs.Keeps.{runs_keep}
use Rattle.safety.specs.NeverLost.{Found, found, run_never_lost}
use Rattle.inferring.specs.Views.{structure_same, StructureView, the_structure, no_structure, structure_view}
use Rattle.inferring.specs.Asks.{Ask, writes, opens, reduces, infers, structures, with_record}
use Rattle.inferring.specs.Eval.{then_on, step_on, level_on, charged_on, opened_on, structure_on, head_on, run, type_at}
use Rattle.inferring.specs.Courses.{Types, Comes, TypeMeets, AskMeets}
use Rattle.inferring.specs.Courses as C
use Rattle.inferring.specs.Typed.{Typed, typed_later, a_record, typed_with, same_count, typed_under}
use Rattle.inferring.specs.Safe.{OpensIn, Safe, safe_step, safe_level, safe_writes, safe_opens, safe_reduces, safe_infers, safe_structures}
use Rattle.inferring.specs.SafeForms.{asks_safe}
use Rattle.inferring.specs.Says.{Stands, s_ok, PartSays, a_level_there, opens_found, opens_stand, row_passes, of_view, to_view, part_says}
use Rattle.inferring.specs.Later.{later_types, later_comes, later_ask_meets, rows_stand, rows_fail}

-- REDUCTIONS
module _ (e : Env) (lim : Limits) {d : ℕ} {m : Tally} {q : Ptr} (sane : Sane e m.store) (i : InScope m.store (depth_of e) q) where
  side_answers : {m₁ : Tally} {p : Ptr} → Runs e d m q m₁ p → Within lim m₁ → side_at e lim (suc d) m q ≡ ok m₁ p
  side_answers {m₁} {p} r v = go (eval_says e lim d m q (within_earlier (later_runs e r) v))
    where
      go : {o : Res} → ResSays e lim d m q o → o ≡ ok m₁ p
      go (r_ok r' v') = let z = runs_same e r r' in rw (z.tally, z.term)
      go (r_no x v' f) = absurd (runs_apart e lim r v (le_refl _) x f)
      go (r_lost x) = absurd (run_never_lost x sane i)

  side_refuses : {m₁ : Tally} {a : Demand} {k : ℕ} → RunMeets e d m q a m₁ → Within lim m₁ → Fails lim m₁ a k → side_at e lim (suc d) m q ≡ no k
  side_refuses {m₁} {a} {k} x v f = go (eval_says e lim d m q (within_earlier (later_run_meets e x) v))
    where
      stops : Stops lim m₁ a k
      stops = record { within = v; fails = f }

      go : {o : Res} → ResSays e lim d m q o → o ≡ no k
      go (r_ok r v') = absurd (runs_apart e lim r v' (le_refl _) x f)
      go (r_no x' v' f') = rw (refusals_same e lim x stops x' (record { within = v'; fails = f' }))
      go (r_lost y) = absurd (run_never_lost y sane i)

-- REPLACEMENT
replaced_so : {D : ℕ} {s : Store} {n k c : ℕ} {v : Option Ptr} {b : Ptr} {g : Got} → AllPass D s → OpensIn s n v k c b → Replaces v k c s b g →
    replace_by v k (cell_at s b.row).height c s b ≡ some g
replaced_so {s = s} {k = k} {c = c} {v = v} {b = b} {g = g} a i q = go (opens_found a i) (replace_says v k _ c s b)
  where
    go : {x : Option Got} → Found x → All (Replaces v k c s b) x → x ≡ some g
    go found (just q') = ap some (replaces_unique q' q)

module _ (lim : Limits) where
  -- what the evaluator gets from asks, with d levels left
  pub record Gets (d : ℕ) (e : Env) (r : ℕ) (m : Tally) (y : Ask) (o : Res) : Type 0 where
    pub same : run lim e (λ e'. side_at e' lim d) (λ e' r' m' t'. type_at lim d e' r' m' t') r y m ≡ o

  -- A STEP, A LEVEL

  step_there : (o : Res) {a b : ℕ} (c : Cmp a b) → b < a → step_on c o ≡ o
  step_there o (up_to h) l = absurd (omega arith)
  step_there o (over h) l = refl

  no_step_there : (o : Res) {a b : ℕ} (c : Cmp a b) → a ≤ b → step_on c o ≡ no 4
  no_step_there o (up_to h) l = refl
  no_step_there o (over h) l = absurd (omega arith)

  level_there : (o : Res) {a b : ℕ} (c : Cmp a b) → a ≤ b → level_on c o ≡ o
  level_there o (up_to h) l = refl
  level_there o (over h) l = absurd (omega arith)

  no_level_there : (o : Res) {a b : ℕ} (c : Cmp a b) → b < a → level_on c o ≡ no 10
  no_level_there o (up_to h) l = absurd (omega arith)
  no_level_there o (over h) l = refl

  -- ROWS

  charged_next : (next : Side) {m m₁ : Tally} {p : Ptr} (g : Got) → Written m.store g.store → tally m.steps g.store ≡ m₁ → g.at ≡ p →
      length m₁.store ≤ lim.rows → charged_on next m g (charge lim m.store g.store) ≡ next m₁ p
  charged_next next {m} g w q z l =
      let room : length g.store ≤ lim.rows = subst (λ (x : Tally). length x.store ≤ lim.rows) (sym q) l in
      ap (charged_on next m g) (rows_stand lim w room) ∙ λ i. next (q i) (z i)

  due_refused : {m m₁ : Tally} {s : Store} {x : Cell} {now : Store} {k : ℕ} → RowDue m.store s x now → tally m.steps now ≡ m₁ → Within lim m₁ →
      Fails lim m₁ (row x) k → charge lim m.store s ≡ some k
  due_refused {x = x} {k = k} d z v f =
      rows_fail lim d (subst (Within lim) (sym z) v).rows (subst (λ (m : Tally). Fails lim m (row x) k) (sym z) f)

  -- the asks that go on from a tally and a pointer, evaluated
  abbrev going_on : ℕ → Env → ℕ → (Store → Ptr → Ask) → Side
  going_on d e r y m p = run lim e (λ e'. side_at e' lim d) (λ e' r' m' t'. type_at lim d e' r' m' t') r (y m.store p) m

  module _ {d : ℕ} {e : Env} {r : ℕ} where
    writes_run : {m m₁ : Tally} {w : Row} {q : Ptr} {y : Store → Ptr → Ask} {o : Res} → Puts m w m₁ q → Within lim m₁ → Typed e m.store →
        Safe e m.store (writes w y) → (Typed e m₁.store → Safe e m₁.store (y m₁.store q) → Gets d e r m₁ (y m₁.store q) o) →
        Gets d e r m (writes w y) o
    unfolding run
    writes_run {m} {m₁} {w} {q} {y} {o} u v typed (safe_writes f b g) rest =
        record { same = charged_next (going_on d e r y) (put m.store w) written stored pointed v.rows ∙ (rest (subst (λ (x : Tally). Typed e x.store) stored after) next).same }
      where
        written : Written m.store (put m.store w).store
        written = subst (λ (g : Got). Written m.store g.store) (sym u.is_due) u.written

        stored : tally m.steps (put m.store w).store ≡ m₁
        stored = ap (λ (g : Got). tally m.steps g.store) u.is_due ∙ u.then_tally

        pointed : (put m.store w).at ≡ q
        pointed = ap (λ (g : Got). g.at) u.is_due ∙ u.then_at

        passes : AllPass (decl_count e) (put m.store w).store
        passes = row_passes typed.sane.pass f b written

        after : Typed e (put m.store w).store
        after = typed_later (ext_put m.store (cell m.store w)) passes typed

        next : Safe e m₁.store (y m₁.store q)
        next =
            subst (λ (x : Tally). Safe e x.store (y x.store q)) stored
            (subst (λ (p : Ptr). Safe e (put m.store w).store (y (put m.store w).store p)) pointed (g passes))

    writes_refused : {m m₁ : Tally} {w : Row} {y : Store → Ptr → Ask} {a : InferDemand} {k : ℕ} → PutsMeets m w a m₁ → Within lim m₁ → InferFails lim m₁ a k →
        Gets d e r m (writes w y) (no k)
    unfolding run
    writes_refused {m} {w = w} {y = y} {k = k} (F.PutsMeets.its_row {x = x} {now = now} q c z) v (as_reduction_fails f) =
        record { same = ap (charged_on (going_on d e r y) m (put m.store w)) (due_refused (subst (λ (g : Got). RowDue m.store g.store x now) (sym q) c) z v f) }

    opens_run : {m m₁ : Tally} {v : Option Ptr} {k c : ℕ} {b q : Ptr} {y : Store → Ptr → Ask} {o : Res} → Opens m v k c b m₁ q → Within lim m₁ →
        Typed e m.store → Safe e m.store (opens v k c b y) →
        (Typed e m₁.store → Safe e m₁.store (y m₁.store q) → Gets d e r m₁ (y m₁.store q) o) → Gets d e r m (opens v k c b y) o
    unfolding run
    opens_run {m} {m₁} {v} {k} {c} {b} {q} {y} {o} u w typed (safe_opens {n = n} i f) rest =
        record {
          same = ap (opened_on lim (going_on d e r y) m) (replaced_so typed.sane.pass i u.is_due) ∙ charged_next (going_on d e r y) u.due u.written u.then_tally u.then_at w.rows ∙
              (rest (typed_later stands.more stands.pass typed) (f _ _ stands.more stands.pass stands.scope)).same;
        }
      where
        stands : Stands (decl_count e) n m.store m₁.store q
        stands =
            subst (λ (x : Tally). Stands (decl_count e) n m.store x.store q) u.then_tally
            (subst (Stands (decl_count e) n m.store u.due.store) u.then_at (opens_stand typed.sane.pass i u.is_due u.written))

    opens_refused : {m m₁ : Tally} {v : Option Ptr} {k c : ℕ} {b : Ptr} {y : Store → Ptr → Ask} {a : InferDemand} {n : ℕ} → OpensMeets m v k c b a m₁ →
        Within lim m₁ → InferFails lim m₁ a n → Typed e m.store → Safe e m.store (opens v k c b y) → Gets d e r m (opens v k c b y) (no n)
    unfolding run
    opens_refused {m} {y = y} (F.OpensMeets.its_row {g = g} q x z) v (as_reduction_fails f) typed (safe_opens i h) =
        record { same = ap (opened_on lim (going_on d e r y) m) (replaced_so typed.sane.pass i q) ∙ ap (charged_on (going_on d e r y) m g) (due_refused x z v f) }

    -- REDUCTIONS AND PARTS

    reduces_run : {m m₁ : Tally} {X : Option Ptr} {q p : Ptr} {y : Store → Ptr → Ask} {o : Res} → Runs (with_record e X) d m q m₁ p → Within lim m₁ →
        Typed e m.store → Safe e m.store (reduces X q y) →
        (Typed e m₁.store → Safe e m₁.store (y m₁.store p) → Gets (suc d) e r m₁ (y m₁.store p) o) → Gets (suc d) e r m (reduces X q y) o
    unfolding run
    reduces_run {m₁ = m₁} {X = X} x v typed (safe_reduces c i f) rest =
        let k = runs_keep x (typed_with typed c).sane i in
        let a = subst (λ (D : ℕ). AllPass D m₁.store) (same_count c) k.sane.pass in
        record {
          same = ap (then_on _) (side_answers (with_record e X) lim (typed_with typed c).sane i x v) ∙
              (rest (typed_later k.more a typed) (f _ _ k.more a k.term)).same;
        }

    reduces_refused : {m m₁ : Tally} {X : Option Ptr} {q : Ptr} {y : Store → Ptr → Ask} {a : Demand} {k : ℕ} → RunMeets (with_record e X) d m q a m₁ →
        Within lim m₁ → Fails lim m₁ a k → Typed e m.store → Safe e m.store (reduces X q y) → Gets (suc d) e r m (reduces X q y) (no k)
    unfolding run
    reduces_refused {X = X} x v h typed (safe_reduces c i f) =
        record { same = ap (then_on _) (side_refuses (with_record e X) lim (typed_with typed c).sane i x v h) }

  stands_of : {d r : ℕ} {e : Env} {m m₁ : Tally} {q p : Ptr} → PartSays lim e (suc d) r m q (ok m₁ p) → Stands (decl_count e) (depth_of e) m.store m₁.store p
  stands_of (a_level_there (s_ok c v k)) = k

  part_stands : (d : ℕ) (e : Env) (r : ℕ) {m m₁ : Tally} {q p : Ptr} → Within lim m → Typed e m.store → InScope m.store (depth_of e) q →
      type_at lim (suc d) e r m q ≡ ok m₁ p → Stands (decl_count e) (depth_of e) m.store m₁.store p
  part_stands d e r {m} {q = q} v typed i z = stands_of (subst (PartSays lim e (suc d) r m q) z (part_says lim (suc d) e r m q v typed i))

  module _ {d : ℕ} {e : Env} {r : ℕ} where
    part_run : {m m₁ : Tally} {q p : Ptr} {y : Store → Ptr → Ask} {o : Res} → Within lim m → Typed e m.store → Safe e m.store (infers none q y) →
        (InScope m.store (depth_of e) q → type_at lim (suc d) e r m q ≡ ok m₁ p) →
        (Typed e m₁.store → Safe e m₁.store (y m₁.store p) → Gets (suc d) e r m₁ (y m₁.store p) o) → Gets (suc d) e r m (infers none q y) o
    unfolding run
    part_run v typed (safe_infers c i f) z rest =
        let k = part_stands d e r v typed i (z i) in
        record { same = ap (then_on _) (z i) ∙ (rest (typed_later k.more k.pass typed) (f _ _ k.more k.pass k.scope)).same }

    part_refused : {m : Tally} {q : Ptr} {y : Store → Ptr → Ask} {k : ℕ} → Safe e m.store (infers none q y) →
        (InScope m.store (depth_of e) q → type_at lim (suc d) e r m q ≡ no k) → Gets (suc d) e r m (infers none q y) (no k)
    unfolding run
    part_refused (safe_infers c i f) z = record { same = ap (then_on _) (z i) }

    under_run : {m m₁ : Tally} {X q p : Ptr} {y : Store → Ptr → Ask} {o : Res} → Within lim m → Typed e m.store → Safe e m.store (infers (some X) q y) →
        (Typed (under e X) m.store → InScope m.store (depth_of (under e X)) q → type_at lim (suc d) (under e X) r m q ≡ ok m₁ p) →
        (Typed e m₁.store → Safe e m₁.store (y m₁.store p) → Gets (suc d) e (suc r) m₁ (y m₁.store p) o) →
        Gets (suc d) e (suc r) m (infers (some X) q y) o
    unfolding run
    under_run {X = X} v typed (safe_infers (a_record h) i f) z rest =
        let below = typed_under typed h in
        let k = part_stands d (under e X) r v below i (z below i) in
        record { same = ap (then_on _) (z below i) ∙ (rest (typed_later k.more k.pass typed) (f _ _ k.more k.pass k.scope)).same }

    under_refused : {m : Tally} {X q : Ptr} {y : Store → Ptr → Ask} {k : ℕ} → Typed e m.store → Safe e m.store (infers (some X) q y) →
        (Typed (under e X) m.store → InScope m.store (depth_of (under e X)) q → type_at lim (suc d) (under e X) r m q ≡ no k) →
        Gets (suc d) e (suc r) m (infers (some X) q y) (no k)
    unfolding run
    under_refused typed (safe_infers (a_record h) i f) z = record { same = ap (then_on _) (z (typed_under typed h) i) }

    -- THE NAMED STRUCTURE

    structures_run : {m : Tally} {q : Ptr} {c n : ℕ} {C : Decl} {ys : List Ptr} {y : ℕ → Decl → List Ptr → Ask} {o : Res} → OfStructure e m.store q c n C ys →
        Typed e m.store → Safe e m.store (structures q c y) → (Safe e m.store (y n C ys) → Gets d e r m (y n C ys) o) →
        Gets d e r m (structures q c y) o
    unfolding run
    structures_run {m} {q} {c} {n} {C} {ys} {y} {o} u typed (safe_structures i f) rest =
        record { same = on_head refl (spine_says _ m.store q []) ∙ (rest safe).same }
      where
        next : ℕ → Decl → List Ptr → Res
        next n C ys = run lim e (λ e'. side_at e' lim d) (λ e' r' m' t'. type_at lim d e' r' m' t') r (y n C ys) m

        safe : Safe e m.store (y n C ys)
        safe =
            let a = typed.type u.its_constructor (typed.constructor c n u.its_constructor u.is_structure) in
            f n C ys (subst (λ (C : Decl). Closed m.store (length m.store) C.type) u.constructor a)
            (spine_in typed.sane.pass i none_in u.head.spine).arguments

        on_view : {h : Ptr} {zs : List Ptr} → Spine m.store q [] h zs → (v : StructureView e c (row_at m.store h.row)) →
            structure_on (λ n C. next n C zs) v ≡ next n C ys
        on_view sp (the_structure n' j is) =
            let z = structure_same is (to_view sp u) in
            let a = (spine_same sp u.head.spine).arguments in
            (λ k. next (z.0 k) (decl_at e.decls (z.1 k)) (a k)) ∙ ap (λ (C : Decl). next n C ys) u.constructor
        on_view sp (no_structure h) = absurd (h _ _ (to_view sp u))

        on_head : {x : Option Spined} → spine m.store q ≡ x → All (IsSpine m.store q []) x → head_on e c next m.store x ≡ next n C ys
        on_head z nothing = absurd (run_never_lost {d = 0} {m = m} (no_head z) typed.sane i)
        on_head z (just {a = h} sp) = on_view sp (structure_view e c (row_at m.store h.head.row))

    structures_refused : {m : Tally} {q : Ptr} {c : ℕ} {y : ℕ → Decl → List Ptr → Ask} →
        ((n : ℕ) (C : Decl) (ys : List Ptr) → OfStructure e m.store q c n C ys → ⊥) → Typed e m.store → Safe e m.store (structures q c y) →
        Gets d e r m (structures q c y) (no 9)
    unfolding run
    structures_refused {m} {q} {c} {y} n typed (safe_structures i f) = record { same = on_head refl (spine_says _ m.store q []) }
      where
        next : ℕ → Decl → List Ptr → Res
        next n C ys = run lim e (λ e'. side_at e' lim d) (λ e' r' m' t'. type_at lim d e' r' m' t') r (y n C ys) m

        on_view : {h : Ptr} {zs : List Ptr} → Spine m.store q [] h zs → (v : StructureView e c (row_at m.store h.row)) →
            structure_on (λ n C. next n C zs) v ≡ no 9
        on_view sp (the_structure n' j is) = absurd (n _ _ _ (of_view sp is))
        on_view sp (no_structure h) = refl

        on_head : {x : Option Spined} → spine m.store q ≡ x → All (IsSpine m.store q []) x → head_on e c next m.store x ≡ no 9
        on_head z nothing = absurd (run_never_lost {d = 0} {m = m} (no_head z) typed.sane i)
        on_head z (just {a = h} sp) = on_view sp (structure_view e c (row_at m.store h.head.row))

  -- THE TYPE, and the demand that fails
  mutual
    unfolding run type_at

    pub types_got : {e : Env} {d r : ℕ} {m m' : Tally} {t p : Ptr} → Types e d r m t m' p → Within lim m' → Typed e m.store →
        InScope m.store (depth_of e) t → type_at lim (suc d) e r m t ≡ ok m' p
    types_got (C.Types.by_asks c) v typed i = (comes_got c v typed (asks_safe typed i)).same

    pub comes_got : {e : Env} {d r : ℕ} {m m' : Tally} {y : Ask} {p : Ptr} → Comes e d r m y m' p → Within lim m' → Typed e m.store →
        Safe e m.store y → Gets d e r m y (ok m' p)
    comes_got C.answered v typed s = record { same = refl }
    comes_got {m = m} (C.stepped c) v typed (safe_step s) =
        let u = within_earlier (later_comes c) v in
        record { same = step_there _ (cmp lim.steps m.steps) u.steps ∙ (comes_got c v typed s).same }
    comes_got (C.leveled {l = l} h c) v typed (safe_level s) = record { same = level_there _ (cmp l most_level) h ∙ (comes_got c v typed (s h)).same }
    comes_got (C.wrote w c) v typed s = writes_run w (within_earlier (later_comes c) v) typed s λ typed' s'. comes_got c v typed' s'
    comes_got (C.opened w c) v typed s = opens_run w (within_earlier (later_comes c) v) typed s λ typed' s'. comes_got c v typed' s'
    comes_got (C.reduced x c) v typed s = reduces_run x (within_earlier (later_comes c) v) typed s λ typed' s'. comes_got c v typed' s'
    comes_got (C.part x c) v typed s =
        let u = within_earlier (later_comes c) v in
        part_run (within_earlier (later_types x) u) typed s (λ i. types_got x u typed i) λ typed' s'. comes_got c v typed' s'
    comes_got (C.part_under x c) v typed s =
        let u = within_earlier (later_comes c) v in
        under_run (within_earlier (later_types x) u) typed s (λ below i. types_got x u below i) λ typed' s'. comes_got c v typed' s'
    comes_got (C.structured o c) v typed s = structures_run o typed s λ s'. comes_got c v typed s'

  mutual
    unfolding run type_at side_at

    pub type_refused : {e : Env} {d r : ℕ} {m m₁ : Tally} {t : Ptr} {a : InferDemand} {k : ℕ} → TypeMeets e d r m t a m₁ → Within lim m₁ →
        InferFails lim m₁ a k → Typed e m.store → InScope m.store (depth_of e) t → type_at lim (suc d) e r m t ≡ no k
    type_refused (C.TypeMeets.by_asks x) v h typed i = (meets_refused x v h typed (asks_safe typed i)).same

    pub meets_refused : {e : Env} {d r : ℕ} {m m₁ : Tally} {y : Ask} {a : InferDemand} {k : ℕ} → AskMeets e d r m y a m₁ → Within lim m₁ →
        InferFails lim m₁ a k → Typed e m.store → Safe e m.store y → Gets d e r m y (no k)
    meets_refused C.no_type_there v no_type typed s = record { same = refl }
    meets_refused {m = m} C.its_step v (as_reduction_fails (no_step h)) typed s = record { same = no_step_there _ (cmp lim.steps m.steps) h }
    meets_refused {m = m} (C.after_step x) v h typed (safe_step s) =
        let u = within_earlier (later_ask_meets x) v in
        record { same = step_there _ (cmp lim.steps m.steps) u.steps ∙ (meets_refused x v h typed s).same }
    meets_refused (C.its_level {l = l}) v (too_high h) typed s = record { same = no_level_there _ (cmp l most_level) h }
    meets_refused (C.after_level {l = l} g x) v h typed (safe_level s) =
        record { same = level_there _ (cmp l most_level) g ∙ (meets_refused x v h typed (s g)).same }
    meets_refused (C.its_row w) v h typed s = writes_refused w v h
    meets_refused (C.after_row w x) v h typed s = writes_run w (within_earlier (later_ask_meets x) v) typed s λ typed' s'. meets_refused x v h typed' s'
    meets_refused (C.its_rows w) v h typed s = opens_refused w v h typed s
    meets_refused (C.after_rows w x) v h typed s = opens_run w (within_earlier (later_ask_meets x) v) typed s λ typed' s'. meets_refused x v h typed' s'
    meets_refused C.too_deep v (as_reduction_fails no_level) typed s = record { same = refl }
    meets_refused (C.in_reduction x) v (as_reduction_fails h) typed s = reduces_refused x v h typed s
    meets_refused (C.after_reduction y x) v h typed s = reduces_run y (within_earlier (later_ask_meets x) v) typed s λ typed' s'. meets_refused x v h typed' s'
    meets_refused C.part_too_deep v (as_reduction_fails no_level) typed s = record { same = refl }
    meets_refused (C.in_part x) v h typed s = part_refused s (λ i. type_refused x v h typed i)
    meets_refused (C.after_part y x) v h typed s =
        let u = within_earlier (later_ask_meets x) v in
        part_run (within_earlier (later_types y) u) typed s (λ i. types_got y u typed i) λ typed' s'. meets_refused x v h typed' s'
    meets_refused C.its_record v no_spare_record typed s = record { same = refl }
    meets_refused C.under_too_deep v (as_reduction_fails no_level) typed s = record { same = refl }
    meets_refused (C.in_part_under x) v h typed s = under_refused typed s (λ below i. type_refused x v h below i)
    meets_refused (C.after_part_under y x) v h typed s =
        let u = within_earlier (later_ask_meets x) v in
        under_run (within_earlier (later_types y) u) typed s (λ below i. types_got y u below i) λ typed' s'. meets_refused x v h typed' s'
    meets_refused (C.no_structure_there n) v no_type typed s = structures_refused n typed s
    meets_refused (C.after_structure o x) v h typed s = structures_run o typed s λ s'. meets_refused x v h typed s'
