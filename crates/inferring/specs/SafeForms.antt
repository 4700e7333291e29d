-- The asks of a term in scope are safe: a lemma for each form. Assumes `Typed`.
use Rattle.std.specs.Prelude.{ℕ, zero, suc, ◌+◌, ◌≤◌, ◌<◌, ◌≡◌, refl, length}
use Rattle.std.proofs.Common.{arith, sym, subst}
use Rattle.std.proofs.Math.Option.{none, some}
use Rattle.rules.specs.Maxima.{most_level}
use Rattle.rules.specs.Kinds.{sort, const, app, lam, pi, let', proj, num, table, fields}
use Rattle.rules.specs.Rows.{Ptr, blank, Row, var, node, leaf, Store, row_at, up, field_bound, cell}
use Rattle.rules.specs.RowCheck.{sort_in, const_in, pi_in, proj_in, plain_ok, term_ok, body_ok, AllPass, InScope}
use Rattle.rules.specs.Declarations.{nat, Env, decl_at, holder}
use Rattle.rules.specs.Inference.{type_of, under, imax}
use Rattle.substitution.specs.Stores.{FieldsOk, node_fields, Good, scope_good, ext_then}
use Rattle.substitution.specs.Passing.{Worded, node_worded}
use Rattle.substitution.specs.Fired.{const_fields}
use Rattle.safety.specs.Sane.{depth_of, decl_count, in_later, closed_in, holder_below}
use Rattle.safety.specs.Scope.{value_in, RowIn, row_in, BodyIn, function_in, argument_in, lambda_body_in, let_value_in, let_body_in, structure_in}
use Rattle.inferring.specs.Views.{EqView, equal, differ, eq_view}
use Rattle.inferring.specs.Asks.{answers, if_equal, sort_type, constant_type, variable_type, number_type, application_type, lambda_type, pi_body, pi_type}
use Rattle.inferring.specs.Asks.{let_type, field_type, projection_type, at_row, asks}
use Rattle.inferring.specs.Typed.{Typed, depth_under, no_record, a_record}
use Rattle.inferring.specs.Scope.{pi-bound, lambda_type_in, pi_type_in, pi_body_in, put_scope}
use Rattle.inferring.specs.Safe.{value_opened, Safe, safe_answers, safe_untyped, safe_step, safe_level, safe_writes, safe_opens, safe_reduces, safe_infers}
use Rattle.inferring.specs.Safe.{safe_structures, body_later, safe_there, safe_pi_of, safe_sort_of, safe_body_of, safe_question, safe_parameters}
use Rattle.inferring.specs.Safe.{safe_earlier, safe_chosen}

-- ROWS THAT INFERENCE WRITES

sort-fields : (s : Store) (l : ℕ) → FieldsOk s (length s) (leaf (sort l))
unfolding fields table
sort-fields s l = node_fields (plain_ok refl) (plain_ok refl) (plain_ok refl)

sort-bound : (s : Store) (l : ℕ) → (cell s (leaf (sort l))).bound ≡ 0
unfolding cell field_bound fields table
sort-bound s l = omega arith

const-bound : (s : Store) (c n : ℕ) → (cell s (leaf (const c n))).bound ≡ 0
unfolding cell field_bound fields table
const-bound s c n = omega arith

pi-fields : {s : Store} {X B : Ptr} → Good s X → Good s B → FieldsOk s (length s) (node pi X B blank)
unfolding fields table
pi-fields x b = node_fields (term_ok x) (body_ok b) (plain_ok refl)

-- the level of a pi is at most the levels that it comes from
imax_in : (u v : ℕ) → u ≤ most_level → v ≤ most_level → imax u v ≤ most_level
imax_in u zero h l = omega arith
imax_in u (suc v) h l = omega arith

-- the plain words of a row
constant_named : {D c n : ℕ} {x y z : Ptr} → Worded D (node (const c n) x y z) → c < D
constant_named (node_worded (const_in h l)) = h

projection_named : {D c i : ℕ} {x y z : Ptr} → Worded D (node (proj c i) x y z) → c < D
projection_named (node_worded (proj_in h)) = h

-- in scope under a new record
scope_under : (e : Env) (X : Ptr) {s : Store} {q : Ptr} → InScope s (suc (depth_of e)) q → InScope s (depth_of (under e X)) q
scope_under e X {s} {q} i = subst (λ (d : ℕ). InScope s d q) (sym (depth_under e X)) i

-- FORMS
module _ {e : Env} {s : Store} (typed : Typed e s) where
  pass_here : AllPass (decl_count e) s
  pass_here = typed.sane.pass

  safe_sort : (l : ℕ) → Safe e s (sort_type l)
  unfolding sort_type
  safe_sort l =
      safe_level λ h.
      safe_writes (sort-fields s (suc l)) (node_worded (sort_in h)) λ a.
      safe_answers (put_scope s (leaf (sort (suc l))) (depth_of e) (omega (arith, sort-bound s (suc l))))

  safe_constant : (c n : ℕ) → c < decl_count e → Safe e s (constant_type e c n)
  unfolding constant_type
  safe_constant c n h = on (eq_view (decl_at e.decls c).levels n)
    where
      on : (v : EqView (decl_at e.decls c).levels n) → Safe e s (if_equal v (answers (decl_at e.decls c).type))
      on (equal q) = safe_answers (closed_in (depth_of e) (typed.type c h))
      on (differ q) = safe_untyped

  safe_variable : (i : ℕ) → Safe e s (variable_type e s i)
  unfolding variable_type
  safe_variable i = safe_there (type_of e i) _ λ x q. safe_answers (value_in i (typed.record_type i x q))

  safe_number : Safe e s (number_type e)
  unfolding number_type
  safe_number =
      safe_there (holder e nat) _ λ c q.
      safe_writes (const_fields s c 0) (node_worded (const_in (holder_below e nat q) (omega arith))) λ a.
      safe_answers (put_scope s (leaf (const c 0)) (depth_of e) (omega (arith, const-bound s c 0)))

  safe_application : (f a : Ptr) → InScope s (depth_of e) f → InScope s (depth_of e) a → Safe e s (application_type f a)
  unfolding application_type
  safe_application f a i j =
      safe_infers no_record i λ s₁ T x₁ a₁ i₁.
      safe_pi_of T _ i₁ λ s₂ x b k x₂ a₂ t h.
      safe_opens (value_opened h (in_later (ext_then x₁ x₂) j)) λ s₃ p x₃ a₃ i₃.
      safe_answers i₃

  safe_lambda : (X b : Ptr) (k : ℕ) → InScope s (depth_of e) X → BodyIn s (depth_of e) k b → Safe e s (lambda_type s X b k)
  unfolding lambda_type
  safe_lambda X b k i h =
      safe_body_of b k _ pass_here h λ s₁ b₁ x₁ a₁ i₁.
      safe_infers (a_record (in_later x₁ i)) (scope_under e X i₁) λ s₂ B x₂ a₂ i₂.
      let j = in_later (ext_then x₁ x₂) i in
      safe_writes (pi-fields (scope_good j) (scope_good i₂)) (node_worded pi_in) λ a₃.
      safe_answers (put_scope s₂ (node pi X B blank) (depth_of e) (omega (arith, pi-bound s₂ X B blank, j.within, i₂.within, depth_under e X)))

  safe_pi_type : (X b : Ptr) (k : ℕ) → InScope s (depth_of e) X → BodyIn s (depth_of e) k b → Safe e s (pi_type X b k)
  unfolding pi_type pi_body
  safe_pi_type X b k i h =
      safe_infers no_record i λ s₁ T x₁ a₁ i₁.
      safe_sort_of none T _ no_record i₁ λ s₂ u x₂ a₂ l₂.
      let x = ext_then x₁ x₂ in
      safe_body_of b k _ a₂ (body_later x h) λ s₃ b₁ x₃ a₃ i₃.
      let y = ext_then x x₃ in
      safe_infers (a_record (in_later y i)) (scope_under e X i₃) λ s₄ B x₄ a₄ i₄.
      safe_sort_of (some X) B _ (a_record (in_later (ext_then y x₄) i)) i₄ λ s₅ v x₅ a₅ l₅.
      safe_writes (sort-fields s₅ (imax u v)) (node_worded (sort_in (imax_in u v l₂ l₅))) λ a₆.
      safe_answers (put_scope s₅ (leaf (sort (imax u v))) (depth_of e) (omega (arith, sort-bound s₅ (imax u v))))

  safe_let : (v b : Ptr) (k : ℕ) → InScope s (depth_of e) v → BodyIn s (depth_of e) k b → Safe e s (let_type v b k)
  unfolding let_type
  safe_let v b k i h =
      safe_step (safe_opens (value_opened h i) λ s₁ t x₁ a₁ i₁.
      safe_infers no_record i₁ λ s₂ p x₂ a₂ i₂.
      safe_answers i₂)

  safe_projection : (c i : ℕ) (X : Ptr) → c < decl_count e → InScope s (depth_of e) X → Safe e s (projection_type c i X)
  unfolding projection_type field_type
  safe_projection c i X l h =
      safe_infers no_record h λ s₁ S x₁ a₁ i₁.
      safe_reduces no_record i₁ λ s₂ S₁ x₂ a₂ i₂.
      safe_question S₁ _ i₂ λ s₃ q x₃ a₃.
      safe_structures (in_later x₃ i₂) λ n C ys t is.
      safe_parameters n ys C.type _ a₃ (closed_in (depth_of e) t) is λ s₄ W x₄ a₄ i₄.
      safe_earlier c X q 0 i W _ l a₄ (in_later (ext_then x₁ (ext_then x₂ (ext_then x₃ x₄))) h) i₄ λ s₅ F x₅ a₅ i₅.
      safe_chosen q F i₅

  safe_row : (k : ℕ) (w : Row) → RowIn (decl_count e) s (depth_of e) k w → Safe e s (at_row e s k w)
  unfolding at_row
  safe_row k (var i) r = safe_variable (i + k)
  safe_row k (node (sort l) x y z) r = safe_sort l
  safe_row k (node (const c n) x y z) r = safe_constant c n (constant_named r.words)
  safe_row k (node app f a z) r = safe_application (up s f k) (up s a k) (function_in r) (argument_in r)
  safe_row k (node lam x b z) r = safe_lambda (up s x k) b k (lambda_type_in r) (lambda_body_in r)
  safe_row k (node pi x b z) r = safe_pi_type (up s x k) b k (pi_type_in r) (pi_body_in r)
  safe_row k (node let' x v b) r = safe_let (up s v k) b k (let_value_in r) (let_body_in r)
  safe_row k (node (proj c i) v y z) r = safe_projection c i (up s v k) (projection_named r.words) (structure_in r)
  safe_row k (node (num n) x y z) r = safe_number

  pub asks_safe : {t : Ptr} → InScope s (depth_of e) t → Safe e s (asks e s t)
  unfolding asks
  asks_safe {t} i = safe_row t.shift (row_at s t.row) (row_in pass_here i)
