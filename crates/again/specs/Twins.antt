-- Tries that are twins: on two sides that are alike they ask for the same in the same order. Shows that the rules at heads that are alike are twins.
-- Assumes a likeness, and stores, environments, heads and arguments that are alike. Whatever is shown of all twins holds of the rules.
use Rattle.std.specs.Prelude.{ℕ, suc, ◌+◌, ◌≡◌, List}
use Rattle.std.proofs.Math.Path.{subst}
use Rattle.std.proofs.Math.Option.{Option, none, some}
use Rattle.rules.specs.Rows.{Ptr, Row, Store, row_at, grow}
use Rattle.rules.specs.Declarations.{Decl, Env}
use Rattle.rules.specs.Arithmetic.{Op, compute}
use Rattle.rules.specs.Firings.{Result}
use Rattle.rules.specs.HeadTests.{outcome}
use Rattle.course.specs.Tries.{Try, no_rule, fires, writes, reduces, with_it, ◌or_else◌, lambda, variable, projection, quot, recursion, arithmetic}
use Rattle.course.specs.Tries.{delta, constant, at_row, rules}
use Rattle.again.specs.Alike.{Opt, nones, somes, Each, ended, next, Grown, Likeness, grown_same, grown_then, pointers_later, RowsLike}
use Rattle.again.specs.Alike.{rows_grown, ResultLike, opened_like, itself_like, HeadLike, head_var, head_sort, head_const, head_app, head_lam}
use Rattle.again.specs.Alike.{head_pi, head_let, head_proj, head_num, recursor_later, DeclLike, decl_later, EnvLike, env_later}
use Rattle.again.specs.Tests.{RowLike, vars, nodes, same_number, field_like, quot_parts_like, quot_made_like, rec_parts_like, made_like}
use Rattle.again.specs.Tests.{by_rule_like, operands_like, outcome_like, unfolds_like}

module _ (L : Likeness) where
  -- no rule on either side; results and arguments alike; rows alike, and twins after them; pointers alike, and whatever the side reductions end in, if
  -- that is alike, twins from there
  pub data Twin : Store → Store → Try → Try → Type 0 where
    no_rules : {s s̃ : Store} → Twin s s̃ no_rule no_rule
    both_fire : {s s̃ : Store} {r r̃ : Result} {xs x̃s : List Ptr} → ResultLike L s s̃ r r̃ → Each (L.pointers s s̃) xs x̃s → Twin s s̃ (fires r xs) (fires r̃ x̃s)
    both_write : {s s̃ : Store} {ws w̃s : List Row} {y ỹ : Try} → RowsLike L s s̃ ws w̃s → Twin (grow s ws) (grow s̃ w̃s) y ỹ → Twin s s̃ (writes ws y) (writes w̃s ỹ)
    both_reduce : {s s̃ : Store} {p p̃ : Ptr} {y ỹ : Store → Row → List Ptr → Try} → L.pointers s s̃ p p̃ →
        ((s₁ s̃₁ : Store) → Grown L.stores s s̃ s₁ s̃₁ → (w w̃ : Row) (ys ỹs : List Ptr) → RowLike w w̃ → Each (L.pointers s₁ s̃₁) ys ỹs →
        Twin s₁ s̃₁ (y s₁ w ys) (ỹ s̃₁ w̃ ỹs)) →
        Twin s s̃ (reduces p y) (reduces p̃ ỹ)

  with_twin : {A B : Type 0} {R : A → B → Type 0} {s s̃ : Store} {x : Option A} {y : Option B} (f : A → Try) (g : B → Try) →
      Opt R x y → ((a : A) (b : B) → R a b → Twin s s̃ (f a) (g b)) → Twin s s̃ (with_it x f) (with_it y g)
  with_twin f g nones k = no_rules
  with_twin f g (somes r) k = k _ _ r

  same_with_twin : {A : Type 0} {s s̃ : Store} {x y : Option A} (f g : A → Try) → x ≡ y → ((a : A) → Twin s s̃ (f a) (g a)) → Twin s s̃ (with_it x f) (with_it y g)
  same_with_twin {A} {s} {s̃} {x} f g e k = subst (λ (y : Option A). Twin s s̃ (with_it x f) (with_it y g)) e (go x)
    where
      go : (z : Option A) → Twin s s̃ (with_it z f) (with_it z g)
      go none = no_rules
      go (some a) = k a

  -- rules in order: the next are twins from wherever the first left off
  or_else_twin : {s s̃ : Store} {y ỹ z z̃ : Try} → Twin s s̃ y ỹ → L.stores s s̃ →
      ((s₁ s̃₁ : Store) → Grown L.stores s s̃ s₁ s̃₁ → Twin s₁ s̃₁ z z̃) → Twin s s̃ (y or_else z) (ỹ or_else z̃)
  unfolding ◌or_else◌
  or_else_twin no_rules a k = k _ _ (grown_same L a)
  or_else_twin (both_fire r q) a k = both_fire r q
  or_else_twin (both_write ws t) a k =
      let g = rows_grown L a ws in both_write ws (or_else_twin t g.alike λ s₁ s̃₁ h. k s₁ s̃₁ (grown_then L g h))
  or_else_twin (both_reduce p t) a k =
      both_reduce p λ s₁ s̃₁ g w w̃ ys ỹs r q. or_else_twin (t s₁ s̃₁ g w w̃ ys ỹs r q) g.alike λ s₂ s̃₂ h. k s₂ s̃₂ (grown_then L g h)

  -- EACH RULE

  lambda_twin : {s s̃ : Store} {b b̃ : Ptr} {k l : ℕ} {xs x̃s : List Ptr} → L.bodies s s̃ b k b̃ l → Each (L.pointers s s̃) xs x̃s → Twin s s̃ (lambda b k xs) (lambda b̃ l x̃s)
  unfolding lambda
  lambda_twin o ended = no_rules
  lambda_twin o (next a q) = both_fire (opened_like o a) q

  variable_twin : {s s̃ : Store} {e ẽ : Env} {xs x̃s : List Ptr} (i : ℕ) → L.stores s s̃ → EnvLike L s s̃ e ẽ → Each (L.pointers s s̃) xs x̃s →
      Twin s s̃ (variable e s i xs) (variable ẽ s̃ i x̃s)
  unfolding variable
  variable_twin i a v q = with_twin _ _ (v.values i) λ x x̃ r. both_fire (itself_like (L.shifted a r (suc i))) q

  projection_twin : {s s̃ : Store} {e ẽ : Env} {x x̃ : Ptr} {xs x̃s : List Ptr} (i : ℕ) → EnvLike L s s̃ e ẽ → L.pointers s s̃ x x̃ → Each (L.pointers s s̃) xs x̃s →
      Twin s s̃ (projection e x i xs) (projection ẽ x̃ i x̃s)
  unfolding projection
  projection_twin i v p q =
      both_reduce p λ s₁ s̃₁ g w w̃ ys ỹs r z.
      with_twin _ _ (field_like L i v r z) λ a ã b.
      both_fire (itself_like b) (pointers_later L g q)

  quot_twin : {s s̃ : Store} {e ẽ : Env} {D D̃ : Decl} {xs x̃s : List Ptr} → EnvLike L s s̃ e ẽ → DeclLike L s s̃ D D̃ → Each (L.pointers s s̃) xs x̃s →
      Twin s s̃ (quot e D xs) (quot ẽ D̃ x̃s)
  unfolding quot
  quot_twin v d q =
      with_twin _ _ (quot_parts_like L d q) λ u ũ c.
      both_reduce c.major λ s₁ s̃₁ g w w̃ ys ỹs r z.
      with_twin _ _ (quot_made_like L v r z) λ a ã b.
      both_fire (itself_like (L.later g c.function)) (next b (pointers_later L g c.rest))

  recursion_twin : {s s̃ : Store} {e ẽ : Env} {D D̃ : Decl} {xs x̃s : List Ptr} (n : ℕ) → EnvLike L s s̃ e ẽ → DeclLike L s s̃ D D̃ → Each (L.pointers s s̃) xs x̃s →
      Twin s s̃ (recursion e D n xs) (recursion ẽ D̃ n x̃s)
  unfolding recursion
  recursion_twin n v d q =
      with_twin _ _ (rec_parts_like L n d q) λ u ũ c.
      both_reduce c.major λ s₁ s̃₁ g w w̃ ys ỹs r z.
      with_twin _ _ (made_like L g.alike (env_later L g v) r z) λ k k̃ b.
      let h = grown_then L g (rows_grown L g.alike b.rows) in
      both_write b.rows
      (with_twin _ _ (by_rule_like L k k̃ (recursor_later L h c.of) (pointers_later L h q) b.declaration b.arguments) λ x x̃ y.
      both_fire (itself_like y.value) y.arguments)

  arithmetic_twin : {s s̃ : Store} {e ẽ : Env} {D D̃ : Decl} {xs x̃s : List Ptr} → EnvLike L s s̃ e ẽ → DeclLike L s s̃ D D̃ → Each (L.pointers s s̃) xs x̃s →
      Twin s s̃ (arithmetic e D xs) (arithmetic ẽ D̃ x̃s)
  unfolding arithmetic
  arithmetic_twin {e = e} {ẽ = ẽ} v d q =
      with_twin _ _ (operands_like L v d q) λ u ũ c.
      both_reduce c.first λ s₁ s̃₁ g w w̃ ys ỹs r z.
      same_with_twin _ _ (same_number r z) λ x.
      both_reduce (L.later g c.second) λ s₂ s̃₂ h w' w̃' ys' ỹs' r' z'.
      same_with_twin _ _ (same_number r' z') λ y.
      with_twin _ _
      (subst (λ (o : Op). Opt (ResultLike L s₂ s̃₂) (outcome e (compute u.op x y)) (outcome ẽ (compute o x y))) c.op (outcome_like L (compute u.op x y) v))
      λ t t̃ b. both_fire b ended

  delta_twin : {s s̃ : Store} {D D̃ : Decl} {xs x̃s : List Ptr} (n : ℕ) → DeclLike L s s̃ D D̃ → Each (L.pointers s s̃) xs x̃s → Twin s s̃ (delta D n xs) (delta D̃ n x̃s)
  unfolding delta
  delta_twin n d q = with_twin _ _ (unfolds_like L n d) λ v ṽ b. both_fire (itself_like b) q

  constant_twin : {s s̃ : Store} {e ẽ : Env} {D D̃ : Decl} {xs x̃s : List Ptr} (n : ℕ) → L.stores s s̃ → EnvLike L s s̃ e ẽ →
      DeclLike L s s̃ D D̃ → Each (L.pointers s s̃) xs x̃s →
      Twin s s̃ (constant e D n xs) (constant ẽ D̃ n x̃s)
  unfolding constant
  constant_twin n a v d q =
      or_else_twin (quot_twin v d q) a λ s₁ s̃₁ g.
      or_else_twin (recursion_twin n (env_later L g v) (decl_later L g d) (pointers_later L g q)) g.alike λ s₂ s̃₂ h.
      let k = grown_then L g h in
      or_else_twin (arithmetic_twin (env_later L k v) (decl_later L k d) (pointers_later L k q)) k.alike λ s₃ s̃₃ i.
      let l = grown_then L k i in
      delta_twin n (decl_later L l d) (pointers_later L l q)

  -- THE RULES

  at_row_twin : {s s̃ : Store} {e ẽ : Env} {w w̃ : Row} {k l : ℕ} {xs x̃s : List Ptr} → HeadLike L s s̃ w k w̃ l → L.stores s s̃ → EnvLike L s s̃ e ẽ →
      Each (L.pointers s s̃) xs x̃s → Twin s s̃ (at_row e s k xs w) (at_row ẽ s̃ l x̃s w̃)
  unfolding at_row
  at_row_twin {s} {s̃} {e} {ẽ} {xs = xs} {x̃s = x̃s} (head_var {i = i} {k = k} h) a v q =
      subst (λ (n : ℕ). Twin s s̃ (variable e s (i + k) xs) (variable ẽ s̃ n x̃s)) h (variable_twin (i + k) a v q)
  at_row_twin head_sort a v q = no_rules
  at_row_twin (head_const {d = d} {n = n}) a v q = constant_twin n a v (v.declared d) q
  at_row_twin head_app a v q = no_rules
  at_row_twin (head_lam o) a v q = lambda_twin o q
  at_row_twin head_pi a v q = no_rules
  at_row_twin (head_let p o) a v q = both_fire (opened_like o p) q
  at_row_twin (head_proj {i = i} p) a v q = projection_twin i v p q
  at_row_twin head_num a v q = no_rules

  -- at heads that are alike the rules are twins
  pub rules_twin : {s s̃ : Store} {e ẽ : Env} (h h̃ : Ptr) {xs x̃s : List Ptr} → L.stores s s̃ → EnvLike L s s̃ e ẽ →
      HeadLike L s s̃ (row_at s h.row) h.shift (row_at s̃ h̃.row) h̃.shift → Each (L.pointers s s̃) xs x̃s → Twin s s̃ (rules e s h xs) (rules ẽ s̃ h̃ x̃s)
  unfolding rules
  rules_twin h h̃ a v r q = at_row_twin r a v q

  -- and a side reduction that ends there hands on a row that is alike
  pub head_row_is : {s s̃ : Store} {w w̃ : Row} {k l : ℕ} → HeadLike L s s̃ w k w̃ l → RowLike w w̃
  head_row_is (head_var h) = vars
  head_row_is head_sort = nodes
  head_row_is head_const = nodes
  head_row_is head_app = nodes
  head_row_is (head_lam o) = nodes
  head_row_is head_pi = nodes
  head_row_is (head_let p o) = nodes
  head_row_is (head_proj p) = nodes
  head_row_is head_num = nodes
