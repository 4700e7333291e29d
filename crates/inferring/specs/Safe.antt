-- Safe asks: every pointer that an ask names is in scope and every row that it writes passes, whatever its reductions and parts leave.
-- Shows that the asks of a term in scope are safe, a lemma for each piece and each form. Assumes `Typed`.
use Prim.Native.Nat.{ℕ, zero, suc, ◌≤◌, ◌<◌}
use Rattle.std.proofs.Common.{arith, subst}
use Rattle.std.specs.Prelude.{◌≡◌, Bool, true, false, length}
use Rattle.std.proofs.Math.Path.{refl}
use mathlib.Core.List.{List, [], ◌∷◌}
use Rattle.std.proofs.Math.Option.{Option, none, some}
use Rattle.rules.specs.Maxima.{most_level}
use Rattle.rules.specs.Kinds.{sort, proj, table, fields}
use Rattle.rules.specs.Rows.{Ptr, blank, Row, node, Store, row_at, bound, up, field_bound, cell, put}
use Rattle.rules.specs.RowCheck.{sort_in, proj_in, plain_ok, term_ok, AllPass, InScope}
use Rattle.rules.specs.Declarations.{Decl, Env}
use Rattle.rules.specs.Accepted.{Closed}
use Rattle.substitution.specs.Stores.{FieldsOk, node_fields, Good, scope_good, Ext, ext_same, ext_then, ext_put, ext_good, ext_bound}
use Rattle.substitution.specs.Passing.{Worded, node_worded, pass_worded}
use Rattle.safety.specs.Sane.{depth_of, decl_count, in_later}
use Rattle.safety.specs.Scope.{AllIn, and_in, all_later, RowIn, row_in, BodyIn}
use Rattle.inferring.specs.Views.{PiView, is_pi, no_pi, pi_view, SortView, is_sort, no_sort, sort_view}
use Rattle.inferring.specs.Asks.{Ask, answers, untyped, step_then, level_then, writes, opens, reduces, infers, structures, with_record, if_pi}
use Rattle.inferring.specs.Asks.{if_sort, if_true, if_there, is_zero, if_loose, pi_of, sort_of, body_of, question, allowed}
use Rattle.inferring.specs.Asks.{parameters}
use Rattle.inferring.specs.Asks.{earlier, chosen}
use Rattle.inferring.specs.Typed.{RecordIn, no_record}
use Rattle.inferring.specs.Scope.{pi_type_in, pi_body_in, standing_scope, put_scope}

-- a replacement whose result is in scope at n: a value into a body, or a body moved under its binder
pub data OpensIn (s : Store) : ℕ → Option Ptr → (k c : ℕ) → Ptr → Type 0 where
  value_opened : {n k : ℕ} {v b : Ptr} → BodyIn s n k b → InScope s n v → OpensIn s n (some v) k 0 b
  body_moved : {n k : ℕ} {b : Ptr} → BodyIn s n k b → OpensIn s (suc n) none k 1 b

-- what follows is asked only of stores whose rows pass, and of pointers in scope
pub data Safe (e : Env) : Store → Ask → Type 0 where
  safe_answers : {s : Store} {p : Ptr} → InScope s (depth_of e) p → Safe e s (answers p)
  safe_untyped : {s : Store} → Safe e s untyped
  safe_step : {s : Store} {y : Ask} → Safe e s y → Safe e s (step_then y)
  safe_level : {s : Store} {l : ℕ} {y : Ask} → (l ≤ most_level → Safe e s y) → Safe e s (level_then l y)
  safe_writes : {s : Store} {w : Row} {y : Store → Ptr → Ask} → FieldsOk s (length s) w → Worded (decl_count e) w →
      (AllPass (decl_count e) (put s w).store → Safe e (put s w).store (y (put s w).store (put s w).at)) → Safe e s (writes w y)
  safe_opens : {s : Store} {n k c : ℕ} {v : Option Ptr} {b : Ptr} {y : Store → Ptr → Ask} → OpensIn s n v k c b →
      ((s' : Store) (q : Ptr) → Ext s s' → AllPass (decl_count e) s' → InScope s' n q → Safe e s' (y s' q)) → Safe e s (opens v k c b y)
  safe_reduces : {s : Store} {X : Option Ptr} {q : Ptr} {y : Store → Ptr → Ask} → RecordIn e s X → InScope s (depth_of (with_record e X)) q →
      ((s' : Store) (q' : Ptr) → Ext s s' → AllPass (decl_count e) s' → InScope s' (depth_of (with_record e X)) q' → Safe e s' (y s' q')) →
      Safe e s (reduces X q y)
  safe_infers : {s : Store} {X : Option Ptr} {q : Ptr} {y : Store → Ptr → Ask} → RecordIn e s X → InScope s (depth_of (with_record e X)) q →
      ((s' : Store) (q' : Ptr) → Ext s s' → AllPass (decl_count e) s' → InScope s' (depth_of (with_record e X)) q' → Safe e s' (y s' q')) →
      Safe e s (infers X q y)
  safe_structures : {s : Store} {q : Ptr} {c : ℕ} {y : ℕ → Decl → List Ptr → Ask} → InScope s (depth_of e) q →
      ((n : ℕ) (C : Decl) (ys : List Ptr) → Closed s (length s) C.type → AllIn s (depth_of e) ys → Safe e s (y n C ys)) → Safe e s (structures q c y)

-- what may follow from s on, with a pointer in scope at n
abbrev pub Follows : Env → Store → ℕ → (Store → Ptr → Ask) → Type 0
Follows e s n y = (s' : Store) (q : Ptr) → Ext s s' → AllPass (decl_count e) s' → InScope s' n q → Safe e s' (y s' q)

-- PIECES

pub safe_there : {A : Type 0} {e : Env} {s : Store} (o : Option A) (y : A → Ask) → ((a : A) → o ≡ some a → Safe e s (y a)) → Safe e s (if_there o y)
safe_there none y k = safe_untyped
safe_there (some a) y k = k a refl

pub safe_pi_of : {e : Env} {s : Store} (q : Ptr) (y : Store → Ptr → Ptr → ℕ → Ask) → InScope s (depth_of e) q →
    ((s' : Store) (x b : Ptr) (k : ℕ) → Ext s s' → AllPass (decl_count e) s' → InScope s' (depth_of e) (up s' x k) → BodyIn s' (depth_of e) k b →
    Safe e s' (y s' x b k)) → Safe e s (pi_of q y)
unfolding pi_of
safe_pi_of {e} {s} q y i f = safe_reduces no_record i λ s' p x a j. on s' p x a (row_in a j) (pi_view (row_at s' p.row))
  where
    on : (s' : Store) (p : Ptr) → Ext s s' → AllPass (decl_count e) s' → RowIn (decl_count e) s' (depth_of e) p.shift (row_at s' p.row) →
        (v : PiView (row_at s' p.row)) → Safe e s' (if_pi v λ x b. y s' x b p.shift)
    on s' p x a r (no_pi h) = safe_untyped
    on s' p x a r (is_pi t b z w) =
        let r' = subst (RowIn (decl_count e) s' (depth_of e) p.shift) w r in
        f s' t b p.shift x a (pi_type_in r') (pi_body_in r')

sort_level_in : {D l : ℕ} {x y z : Ptr} → Worded D (node (sort l) x y z) → l ≤ most_level
sort_level_in (node_worded (sort_in h)) = h

pub safe_sort_of : {e : Env} {s : Store} (X : Option Ptr) (q : Ptr) (y : Store → ℕ → Ask) → RecordIn e s X → InScope s (depth_of (with_record e X)) q →
    ((s' : Store) (l : ℕ) → Ext s s' → AllPass (decl_count e) s' → l ≤ most_level → Safe e s' (y s' l)) → Safe e s (sort_of X q y)
unfolding sort_of
safe_sort_of {e} {s} X q y c i f = safe_reduces c i λ s' p x a j. on s' p x a ((pass_worded a).each p.row) (sort_view (row_at s' p.row))
  where
    on : (s' : Store) (p : Ptr) → Ext s s' → AllPass (decl_count e) s' → Worded (decl_count e) (row_at s' p.row) → (v : SortView (row_at s' p.row)) →
        Safe e s' (if_sort v λ l. y s' l)
    on s' p x a w (no_sort h) = safe_untyped
    on s' p x a w (is_sort l t b z r) = f s' l x a (sort_level_in (subst (Worded (decl_count e)) r w))

pub safe_body_of : {e : Env} {s : Store} (b : Ptr) (k : ℕ) (y : Store → Ptr → Ask) → AllPass (decl_count e) s → BodyIn s (depth_of e) k b →
    Follows e s (suc (depth_of e)) y → Safe e s (body_of s b k y)
unfolding body_of
safe_body_of {s = s} b zero y a i f = f s b (ext_same s) a (standing_scope i)
safe_body_of b (suc k) y a i f = safe_opens (body_moved i) f

pub safe_question : {e : Env} {s : Store} (p : Ptr) (y : Store → Bool → Ask) → InScope s (depth_of e) p →
    ((s' : Store) (q : Bool) → Ext s s' → AllPass (decl_count e) s' → Safe e s' (y s' q)) → Safe e s (question p y)
unfolding question
safe_question p y i f =
    safe_step (safe_infers no_record i λ s₁ T x₁ a₁ j.
    safe_sort_of none T _ no_record j λ s₂ l x₂ a₂ h. f s₂ (is_zero l) (ext_then x₁ x₂) a₂)

safe_allowed : {e : Env} {s : Store} (p : Ptr) (q : Bool) (y : Store → Ask) → AllPass (decl_count e) s → InScope s (depth_of e) p →
    ((s' : Store) → Ext s s' → AllPass (decl_count e) s' → Safe e s' (y s')) → Safe e s (allowed s p q y)
unfolding allowed
safe_allowed {s = s} p false y a i f = f s (ext_same s) a
safe_allowed {e} {s} p true y a i f = safe_question p _ i on
  where
    on : (s' : Store) (q : Bool) → Ext s s' → AllPass (decl_count e) s' → Safe e s' (if_true q (y s'))
    on s' true x b = f s' x b
    on s' false x b = safe_untyped

-- a body, and a field's type, over a store that has grown
pub body_later : {s s' : Store} {d k : ℕ} {b : Ptr} → Ext s s' → BodyIn s d k b → BodyIn s' d k b
body_later {b = b} x i = record {
  good = ext_good x i.good;
  within = λ h. let z = ext_bound x b i.good.lower in omega (arith, i.within (omega arith));
}

-- the projection of an earlier field
projection_fields : {s : Store} {X : Ptr} (c j : ℕ) → Good s X → FieldsOk s (length s) (node (proj c j) X blank blank)
unfolding fields table
projection_fields c j g = node_fields (term_ok g) (plain_ok refl) (plain_ok refl)

projection_bound : (s : Store) (X : Ptr) (c j : ℕ) → (cell s (node (proj c j) X blank blank)).bound ≡ bound s X
unfolding cell field_bound fields table
projection_bound s X c j = omega arith

-- a closed body
closed_body : {s : Store} {d k : ℕ} {b : Ptr} → BodyIn s d k b → bound s b ≡ 0 → InScope s d b
closed_body i z = record { there = i.good.lower; still = i.good.still; within = omega arith }

module _ {e : Env} where
  pub safe_parameters : {s : Store} (n : ℕ) (ys : List Ptr) (W : Ptr) (y : Store → Ptr → Ask) → AllPass (decl_count e) s → InScope s (depth_of e) W →
      AllIn s (depth_of e) ys → Follows e s (depth_of e) y → Safe e s (parameters n ys s W y)
  unfolding parameters
  safe_parameters {s} zero ys W y a i is f = f s W (ext_same s) a i
  safe_parameters {s} (suc n) [] W y a i is f = safe_pi_of W _ i λ s₁ x b k x₁ a₁ j h. safe_untyped
  safe_parameters {s} (suc n) (v ∷ ys) W y a i (and_in g gs) f =
      safe_pi_of W _ i λ s₁ x b k x₁ a₁ j h.
      safe_opens (value_opened h (in_later x₁ g)) λ s₂ W₁ x₂ a₂ i₂.
      safe_parameters n ys W₁ y a₂ i₂ (all_later (ext_then x₁ x₂) gs) λ s₃ q x₃. f s₃ q (ext_then x₁ (ext_then x₂ x₃))

  pub safe_earlier : {s : Store} (c : ℕ) (X : Ptr) (q : Bool) (j n : ℕ) (W : Ptr) (y : Store → Ptr → Ask) → c < decl_count e → AllPass (decl_count e) s →
      InScope s (depth_of e) X → InScope s (depth_of e) W → Follows e s (depth_of e) y → Safe e s (earlier c X q j n s W y)
  unfolding earlier
  safe_earlier {s} c X q j zero W y l a g i f = f s W (ext_same s) a i
  safe_earlier {s} c X q j (suc n) W y l a g i f =
      safe_pi_of W _ i λ s₁ x b k x₁ a₁ t h.
      on s₁ x b k x₁ a₁ t h (λ s₂ W₁ x₂ a₂ i₂. safe_earlier c X q (suc j) n W₁ y l a₂ (in_later x₂ g) i₂ λ s₃ p x₃. f s₃ p (ext_then x₂ x₃)) (bound s₁ b) refl
    where
      on : (s₁ : Store) (x b : Ptr) (k : ℕ) → Ext s s₁ → AllPass (decl_count e) s₁ → InScope s₁ (depth_of e) (up s₁ x k) → BodyIn s₁ (depth_of e) k b →
          ((s₂ : Store) (W₁ : Ptr) → Ext s s₂ → AllPass (decl_count e) s₂ → InScope s₂ (depth_of e) W₁ → Safe e s₂ (earlier c X q (suc j) n s₂ W₁ y)) →
          (z : ℕ) → bound s₁ b ≡ z →
          Safe e s₁ (if_loose z (earlier c X q (suc j) n s₁ b y)
          (allowed s₁ (up s₁ x k) q λ s₂.
          writes (node (proj c j) X blank blank) λ s₃ v.
          opens (some v) k 0 b λ s₄ W₁.
          earlier c X q (suc j) n s₄ W₁ y))
      on s₁ x b k x₁ a₁ t h rest zero z = rest s₁ b x₁ a₁ (closed_body h z)
      on s₁ x b k x₁ a₁ t h rest (suc z) r =
          safe_allowed (up s₁ x k) q _ a₁ t λ s₂ x₂ a₂.
          let g₂ = in_later (ext_then x₁ x₂) g in
          let w : Row = node (proj c j) X blank blank in
          safe_writes (projection_fields c j (scope_good g₂)) (node_worded (proj_in l)) λ a₃.
          let x₃ = ext_put s₂ (cell s₂ w) in
          let v = put_scope s₂ w (depth_of e) (omega (arith, projection_bound s₂ X c j, g₂.within)) in
          safe_opens (value_opened (body_later (ext_then x₂ x₃) h) v) λ s₄ W₁ x₄ a₄ i₄.
          rest s₄ W₁ (ext_then x₁ (ext_then x₂ (ext_then x₃ x₄))) a₄ i₄

  pub safe_chosen : {s : Store} (q : Bool) (W : Ptr) → InScope s (depth_of e) W → Safe e s (chosen q W)
  unfolding chosen
  safe_chosen q W i =
      safe_pi_of W _ i λ s₁ x b k x₁ a₁ t h.
      safe_allowed (up s₁ x k) q _ a₁ t λ s₂ x₂ a₂.
      safe_answers (in_later x₂ t)
