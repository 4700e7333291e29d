-- Safe tries: every pointer that a try names is in scope and every row that it writes passes, whatever its side reductions leave.
-- Shows that the rules at the head of a term in scope are safe, a lemma for each rule. Assumes a sane store.
use Rattle.std.specs.Prelude.{ℕ, ◌+◌, ◌≡◌, refl, List, []}
use Rattle.std.proofs.Math.Option.{Option, none, some}
use Rattle.rules.specs.Kinds.{sort, const, app, lam, pi, let', proj, num}
use Rattle.rules.specs.Rows.{Ptr, Row, var, node, Store, row_at, up, grow}
use Rattle.rules.specs.RowCheck.{AllPass, InScope}
use Rattle.rules.specs.Declarations.{Decl, Env, decl_at, value_of}
use Rattle.rules.specs.Spines.{Spine}
use Rattle.rules.specs.Arithmetic.{compute}
use Rattle.rules.specs.Firings.{Result}
use Rattle.rules.specs.HeadTests.{field_at, quot_parts, quot_made, rec_parts, as_constructor, by_rule, as_number, operands, outcome, unfolds}
use Rattle.course.specs.Tries.{Try, no_rule, fires, writes, reduces, with_it, ◌or_else◌, lambda, variable, projection, quot, recursion, arithmetic}
use Rattle.course.specs.Tries.{delta, constant, at_row, rules}
use Rattle.substitution.specs.Stores.{Ext, ext_same, ext_then}
use Rattle.substitution.specs.Passing.{Worded}
use Rattle.promises.specs.Stores.{ext_grow}
use Rattle.safety.specs.Sane.{depth_of, decl_count, Sane, in_later, sane_later, closed_in}
use Rattle.safety.specs.Scope.{AllIn, none_in, and_in, all_later, value_in, RowIn, row_in, lambda_body_in, let_value_in, let_body_in}
use Rattle.safety.specs.Scope.{structure_in, spine_in, ResultIn, opened_in, itself_in}
use Rattle.safety.specs.Parts.{field_in, quot_in, made_in, rec_in, RowsIn, constructor_in, by_rule_in, operands_in, outcome_in, unfolds_to_lem}

-- with D declarations, at depth d; what follows rows or a side reduction is asked only of stores whose rows pass
pub data Safe (D d : ℕ) : Store → Try → Type 0 where
  safe_none : {s : Store} → Safe D d s no_rule
  safe_fires : {s : Store} {r : Result} {xs : List Ptr} → ResultIn D s d r → AllIn s d xs → Safe D d s (fires r xs)
  safe_writes : {s : Store} {ws : List Row} {y : Try} → RowsIn D s ws → (AllPass D (grow s ws) → Safe D d (grow s ws) y) → Safe D d s (writes ws y)
  safe_reduces : {s : Store} {p : Ptr} {y : Store → Row → List Ptr → Try} → InScope s d p →
      ((s' : Store) (w : Row) (ys : List Ptr) → Ext s s' → AllPass D s' → Worded D w → AllIn s' d ys → Safe D d s' (y s' w ys)) →
      Safe D d s (reduces p y)

-- what may follow a side reduction from s on: the head's row is worded, its arguments are in scope
abbrev pub Follows : (D d : ℕ) → Store → (Store → Row → List Ptr → Try) → Type 0
Follows D d s y = (s' : Store) (w : Row) (ys : List Ptr) → Ext s s' → AllPass D s' → Worded D w → AllIn s' d ys → Safe D d s' (y s' w ys)

safe_with : {A : Type 0} {D d : ℕ} {s : Store} (o : Option A) (next : A → Try) →
    ((a : A) → o ≡ some a → Safe D d s (next a)) → Safe D d s (with_it o next)
safe_with none next k = safe_none
safe_with (some a) next k = k a refl

-- the next rule is tried from whatever store the first left
safe_else : {D d : ℕ} {s : Store} {y : Try} (z : Try) →
    AllPass D s → Safe D d s y → ((s' : Store) → Ext s s' → AllPass D s' → Safe D d s' z) → Safe D d s (y or_else z)
unfolding ◌or_else◌
safe_else {s = s} z a safe_none k = k s (ext_same s) a
safe_else z a (safe_fires r h) k = safe_fires r h
safe_else {s = s} z a (safe_writes {ws = ws} r f) k = safe_writes r λ b. safe_else z b (f b) λ s' x. k s' (ext_then (ext_grow s ws) x)
safe_else z a (safe_reduces h f) k = safe_reduces h λ s₁ w ys x b q hs. safe_else z b (f s₁ w ys x b q hs) λ s₂ x'. k s₂ (ext_then x x')

-- EACH RULE
module _ {e : Env} {s : Store} {xs : List Ptr} (sane : Sane e s) (args : AllIn s (depth_of e) xs) where
  pub safe_variable : (i : ℕ) → Safe (decl_count e) (depth_of e) s (variable e s i xs)
  unfolding variable
  safe_variable i = safe_with (value_of e i) _ λ v q. safe_fires (itself_in (value_in i (sane.context i v q))) args

  pub safe_projection : (x : Ptr) (i : ℕ) → InScope s (depth_of e) x → Safe (decl_count e) (depth_of e) s (projection e x i xs)
  unfolding projection
  safe_projection x i h =
      safe_reduces h λ s₁ w ys x₁ a b hs.
      safe_with (field_at e w ys i) _ λ f q.
      safe_fires (itself_in (field_in e w i hs q)) (all_later x₁ args)

  pub safe_quot : (D : Decl) → Safe (decl_count e) (depth_of e) s (quot e D xs)
  unfolding quot
  safe_quot D =
      safe_with (quot_parts D xs) _ λ q h.
      let parts = quot_in D args h in
      safe_reduces parts.major λ s₁ w ys x₁ a b hs.
      safe_with (quot_made e w ys) _ λ c r.
      safe_fires (itself_in (in_later x₁ parts.function)) (and_in (made_in e w hs r) (all_later x₁ parts.rest))

  pub safe_recursion : (j n : ℕ) → Safe (decl_count e) (depth_of e) s (recursion e (decl_at e.decls j) n xs)
  unfolding recursion
  safe_recursion j n =
      safe_with (rec_parts (decl_at e.decls j) n xs) _ λ q h.
      let parts = rec_in (decl_at e.decls j) n args h in
      safe_reduces parts.major λ s₁ w ys x₁ a b hs.
      safe_with (as_constructor e s₁ w ys) _ λ c k.
      let made = constructor_in e b hs k in
      safe_writes made.rows λ a₂.
      let x₂ = ext_then x₁ (ext_grow s₁ c.rows) in
      safe_with (by_rule q.of xs c) _ λ ρ r.
      let ruled = by_rule_in q.of c (λ i x. (sane_later x₂ a₂ sane).rule j q.of i x parts.form) (all_later x₂ args) made.arguments r in
      safe_fires (itself_in ruled.value) ruled.arguments

  pub safe_arithmetic : (D : Decl) → Safe (decl_count e) (depth_of e) s (arithmetic e D xs)
  unfolding arithmetic
  safe_arithmetic D =
      safe_with (operands e D xs) _ λ q h.
      let parts = operands_in e D args h in
      safe_reduces parts.first λ s₁ w ys x₁ a b hs.
      safe_with (as_number w ys) _ λ x i.
      safe_reduces (in_later x₁ parts.second) λ s₂ w' ys' x₂ a₂ b₂ hs₂.
      safe_with (as_number w' ys') _ λ y i'.
      safe_with (outcome e (compute q.op x y)) _ λ r o.
      safe_fires (outcome_in e (compute q.op x y) o) none_in

  pub safe_delta : (j n : ℕ) → Safe (decl_count e) (depth_of e) s (delta (decl_at e.decls j) n xs)
  unfolding delta
  safe_delta j n =
      safe_with (unfolds (decl_at e.decls j) n) _ λ v q.
      safe_fires (itself_in (closed_in (depth_of e) (sane.value j v (unfolds_to_lem (decl_at e.decls j) n q)))) args

pub safe_constant : {e : Env} {s : Store} {xs : List Ptr} → Sane e s → AllIn s (depth_of e) xs → (j n : ℕ) →
    Safe (decl_count e) (depth_of e) s (constant e (decl_at e.decls j) n xs)
unfolding constant
safe_constant {e} {s} {xs} sane args j n =
    let D = decl_at e.decls j in
    safe_else _ sane.pass (safe_quot sane args D) λ s₁ x₁ a₁.
    let sane₁ = sane_later x₁ a₁ sane in
    safe_else _ a₁ (safe_recursion sane₁ (all_later x₁ args) j n) λ s₂ x₂ a₂.
    let x = ext_then x₁ x₂ in
    let sane₂ = sane_later x a₂ sane in
    safe_else _ a₂ (safe_arithmetic sane₂ (all_later x args) D) λ s₃ x₃ a₃.
    let x' = ext_then x x₃ in
    safe_delta (sane_later x' a₃ sane) (all_later x' args) j n

pub safe_lambda : {D d k : ℕ} {s : Store} {x b z : Ptr} {xs : List Ptr} → RowIn D s d k (node lam x b z) → AllIn s d xs → Safe D d s (lambda b k xs)
unfolding lambda
safe_lambda r none_in = safe_none
safe_lambda r (and_in h hs) = safe_fires (opened_in (lambda_body_in r) h) hs

-- THE RULES AT A HEAD

safe_row : {e : Env} {s : Store} {xs : List Ptr} (k : ℕ) (w : Row) → Sane e s → AllIn s (depth_of e) xs → RowIn (decl_count e) s (depth_of e) k w →
    Safe (decl_count e) (depth_of e) s (at_row e s k xs w)
unfolding at_row
safe_row k (var i) sane args r = safe_variable sane args (i + k)
safe_row k (node (sort l) x y z) sane args r = safe_none
safe_row k (node (const j n) x y z) sane args r = safe_constant sane args j n
safe_row k (node app x y z) sane args r = safe_none
safe_row k (node lam x y z) sane args r = safe_lambda r args
safe_row k (node pi x y z) sane args r = safe_none
safe_row k (node let' x y z) sane args r = safe_fires (opened_in (let_body_in r) (let_value_in r)) args
safe_row {s = s} k (node (proj j i) x y z) sane args r = safe_projection sane args (up s x k) i (structure_in r)
safe_row k (node (num n) x y z) sane args r = safe_none

pub rules_safe : {e : Env} {s : Store} {h : Ptr} {xs : List Ptr} → Sane e s → InScope s (depth_of e) h → AllIn s (depth_of e) xs →
    Safe (decl_count e) (depth_of e) s (rules e s h xs)
unfolding rules
rules_safe {s = s} {h = h} sane i args = safe_row h.shift (row_at s h.row) sane args (row_in sane.pass i)

-- at the head of a term in scope
pub term_safe : {e : Env} {s : Store} {t h : Ptr} {xs : List Ptr} → Sane e s → InScope s (depth_of e) t → Spine s t [] h xs →
    Safe (decl_count e) (depth_of e) s (rules e s h xs)
term_safe sane i q = let k = spine_in sane.pass i none_in q in rules_safe sane k.head k.arguments
