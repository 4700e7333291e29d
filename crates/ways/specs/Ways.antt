-- The ways out of each head rule, over the evaluator: which tests lead to which answer. Each is what one return of the code shows.
-- Holds for every store, every limits and every way `sd` to reduce aside; nothing is assumed.
use Rattle.std.specs.Prelude.{ℕ, suc, ◌≡◌, List, [], ◌∷◌}
use Rattle.std.proofs.Math.Path.{refl, ap}
use Rattle.std.proofs.Common.{◌∙◌}
use Rattle.std.proofs.Math.Option.{Option, none, some}
use Rattle.rules.specs.Rows.{Ptr, Row, Store, row_at, up, grow}
use Rattle.rules.specs.Declarations.{Decl, Env, value_of}
use Rattle.rules.specs.Arithmetic.{compute}
use Rattle.rules.specs.Firings.{Tally, tally, Result, itself}
use Rattle.rules.specs.HeadTests.{field_at, QuotParts, quot_parts, quot_made, RecParts, rec_parts, Made, as_constructor, Ruled, by_rule, as_number, Operands}
use Rattle.rules.specs.HeadTests.{operands, outcome, unfolds}
use Rattle.rules.specs.Refusals.{Limits}
use Rattle.course.specs.Tries.{Try, fires, writes, reduces, with_it, variable, projection, quot, recursion, arithmetic}
use Rattle.course.specs.Tries.{delta, constant, at_row, rules}
use Rattle.course.specs.Eval.{Spined, spine, ok, no, missed, firing, refuse, Side, charge, try, at_the_head}
use Rattle.promises.specs.Else.{and_then, try_else}

module _ (e : Env) (lim : Limits) (sd : Side) where
  -- A SIDE REDUCTION: where it ended, and the head that it ended in
  pub record Ended (m : Tally) (p : Ptr) (m₁ : Tally) (w : Row) (ys : List Ptr) : Type 0 where
    pub to : Ptr
    pub spined : Spined
    pub reduced : sd m p ≡ ok m₁ to
    pub spine_is : spine m₁.store to ≡ some spined
    pub row_is : row_at m₁.store spined.head.row ≡ w
    pub arguments_are : spined.arguments ≡ ys

  side_ended : {m m₁ : Tally} {p : Ptr} {w : Row} {ys : List Ptr} (y : Store → Row → List Ptr → Try) → Ended m p m₁ w ys →
      try lim sd (reduces p y) m ≡ try lim sd (y m₁.store w ys) m₁
  unfolding try
  side_ended {m₁ = m₁} y s = rw (s.reduced, s.spine_is, s.row_is, s.arguments_are)

  side_refused : {m : Tally} {p : Ptr} {k : ℕ} (y : Store → Row → List Ptr → Try) → sd m p ≡ no k → try lim sd (reduces p y) m ≡ refuse k
  unfolding try
  side_refused y q = rw q

  with_none : {A : Type 0} {x : Option A} (next : A → Try) (m : Tally) → x ≡ none → try lim sd (with_it x next) m ≡ missed m
  unfolding try
  with_none next m q = rw q

  with_some : {A : Type 0} {x : Option A} {a : A} (next : A → Try) (m : Tally) → x ≡ some a → try lim sd (with_it x next) m ≡ try lim sd (next a) m
  with_some next m q = rw q

  written : (ws : List Row) (y : Try) (m : Tally) → charge lim m.store (grow m.store ws) ≡ none → try lim sd (writes ws y) m ≡ try lim sd y (tally m.steps (grow m.store ws))
  unfolding try
  written ws y m q = rw q

  not_written : {k : ℕ} (ws : List Row) (y : Try) (m : Tally) → charge lim m.store (grow m.store ws) ≡ some k → try lim sd (writes ws y) m ≡ refuse k
  unfolding try
  not_written ws y m q = rw q

  fires_at : (m : Tally) (r : Result) (xs : List Ptr) → try lim sd (fires r xs) m ≡ firing m r xs
  unfolding try
  fires_at m r xs = refl

  -- VARIABLE
  pub variable_none : (m : Tally) (i : ℕ) (xs : List Ptr) → value_of e i ≡ none → try lim sd (variable e m.store i xs) m ≡ missed m
  unfolding variable
  variable_none m i xs q = with_none _ m q

  pub variable_fires : (m : Tally) (i : ℕ) (xs : List Ptr) {v : Ptr} → value_of e i ≡ some v → try lim sd (variable e m.store i xs) m ≡ firing m (itself (up m.store v (suc i))) xs
  unfolding variable
  variable_fires m i xs q = with_some _ m q ∙ fires_at m _ _

  -- PROJECTION
  pub projection_refused : {m : Tally} {x : Ptr} {k : ℕ} (i : ℕ) (xs : List Ptr) → sd m x ≡ no k → try lim sd (projection e x i xs) m ≡ refuse k
  unfolding projection
  projection_refused i xs q = side_refused _ q

  pub projection_missed : {m m₁ : Tally} {x : Ptr} {w : Row} {ys : List Ptr} (i : ℕ) (xs : List Ptr) → Ended m x m₁ w ys → field_at e w ys i ≡ none →
      try lim sd (projection e x i xs) m ≡ missed m₁
  unfolding projection
  projection_missed {m₁ = m₁} i xs s q = side_ended _ s ∙ with_none _ m₁ q

  pub projection_fires : {m m₁ : Tally} {x : Ptr} {w : Row} {ys : List Ptr} (i : ℕ) (xs : List Ptr) {a : Ptr} → Ended m x m₁ w ys → field_at e w ys i ≡ some a →
      try lim sd (projection e x i xs) m ≡ firing m₁ (itself a) xs
  unfolding projection
  projection_fires {m₁ = m₁} i xs s q = side_ended _ s ∙ with_some _ m₁ q ∙ fires_at m₁ _ _

  -- QUOTIENTS
  pub quot_none : (m : Tally) (D : Decl) (xs : List Ptr) → quot_parts D xs ≡ none → try lim sd (quot e D xs) m ≡ missed m
  unfolding quot
  quot_none m D xs q = with_none _ m q

  pub quot_refused : (m : Tally) (D : Decl) (xs : List Ptr) {c : QuotParts} {k : ℕ} → quot_parts D xs ≡ some c → sd m c.major ≡ no k → try lim sd (quot e D xs) m ≡ refuse k
  unfolding quot
  quot_refused m D xs q r = with_some _ m q ∙ side_refused _ r

  pub quot_missed : {m m₁ : Tally} (D : Decl) (xs : List Ptr) {c : QuotParts} {w : Row} {ys : List Ptr} → quot_parts D xs ≡ some c → Ended m c.major m₁ w ys →
      quot_made e w ys ≡ none → try lim sd (quot e D xs) m ≡ missed m₁
  unfolding quot
  quot_missed {m} {m₁} D xs q s a = with_some _ m q ∙ side_ended _ s ∙ with_none _ m₁ a

  pub quot_fires : {m m₁ : Tally} (D : Decl) (xs : List Ptr) {c : QuotParts} {w : Row} {ys : List Ptr} {a : Ptr} → quot_parts D xs ≡ some c → Ended m c.major m₁ w ys →
      quot_made e w ys ≡ some a → try lim sd (quot e D xs) m ≡ firing m₁ (itself c.function) (a ∷ c.rest)
  unfolding quot
  quot_fires {m} {m₁} D xs q s a = with_some _ m q ∙ side_ended _ s ∙ with_some _ m₁ a ∙ fires_at m₁ _ _

  -- RECURSORS
  pub rec_none : (m : Tally) (D : Decl) (n : ℕ) (xs : List Ptr) → rec_parts D n xs ≡ none → try lim sd (recursion e D n xs) m ≡ missed m
  unfolding recursion
  rec_none m D n xs q = with_none _ m q

  pub rec_refused : (m : Tally) (D : Decl) (n : ℕ) (xs : List Ptr) {c : RecParts} {k : ℕ} → rec_parts D n xs ≡ some c →
      sd m c.major ≡ no k → try lim sd (recursion e D n xs) m ≡ refuse k
  unfolding recursion
  rec_refused m D n xs q r = with_some _ m q ∙ side_refused _ r

  pub rec_no_constructor : {m m₁ : Tally} (D : Decl) (n : ℕ) (xs : List Ptr) {c : RecParts} {w : Row} {ys : List Ptr} → rec_parts D n xs ≡ some c → Ended m c.major m₁ w ys →
      as_constructor e m₁.store w ys ≡ none → try lim sd (recursion e D n xs) m ≡ missed m₁
  unfolding recursion
  rec_no_constructor {m} {m₁} D n xs q s a = with_some _ m q ∙ side_ended _ s ∙ with_none _ m₁ a

  pub rec_rows_refused : {m m₁ : Tally} (D : Decl) (n : ℕ) (xs : List Ptr) {c : RecParts} {w : Row} {ys : List Ptr} {a : Made} {k : ℕ} → rec_parts D n xs ≡ some c →
      Ended m c.major m₁ w ys → as_constructor e m₁.store w ys ≡ some a → charge lim m₁.store (grow m₁.store a.rows) ≡ some k →
      try lim sd (recursion e D n xs) m ≡ refuse k
  unfolding recursion
  rec_rows_refused {m} {m₁} D n xs q s a r = with_some _ m q ∙ side_ended _ s ∙ with_some _ m₁ a ∙ not_written _ _ m₁ r

  pub rec_missed : {m m₁ : Tally} (D : Decl) (n : ℕ) (xs : List Ptr) {c : RecParts} {w : Row} {ys : List Ptr} {a : Made} → rec_parts D n xs ≡ some c →
      Ended m c.major m₁ w ys → as_constructor e m₁.store w ys ≡ some a → charge lim m₁.store (grow m₁.store a.rows) ≡ none →
      by_rule c.of xs a ≡ none → try lim sd (recursion e D n xs) m ≡ missed (tally m₁.steps (grow m₁.store a.rows))
  unfolding recursion
  rec_missed {m} {m₁} D n xs q s a r ρ = with_some _ m q ∙ side_ended _ s ∙ with_some _ m₁ a ∙ written _ _ m₁ r ∙ with_none _ _ ρ

  pub rec_fires : {m m₁ : Tally} (D : Decl) (n : ℕ) (xs : List Ptr) {c : RecParts} {w : Row} {ys : List Ptr} {a : Made} {o : Ruled} → rec_parts D n xs ≡ some c →
      Ended m c.major m₁ w ys → as_constructor e m₁.store w ys ≡ some a → charge lim m₁.store (grow m₁.store a.rows) ≡ none →
      by_rule c.of xs a ≡ some o →
      try lim sd (recursion e D n xs) m ≡ firing (tally m₁.steps (grow m₁.store a.rows)) (itself o.value) o.arguments
  unfolding recursion
  rec_fires {m} {m₁} D n xs q s a r ρ = with_some _ m q ∙ side_ended _ s ∙ with_some _ m₁ a ∙ written _ _ m₁ r ∙ with_some _ _ ρ ∙ fires_at _ _ _

  -- ARITHMETIC
  pub arith_none : (m : Tally) (D : Decl) (xs : List Ptr) → operands e D xs ≡ none → try lim sd (arithmetic e D xs) m ≡ missed m
  unfolding arithmetic
  arith_none m D xs q = with_none _ m q

  pub arith_first_refused : (m : Tally) (D : Decl) (xs : List Ptr) {c : Operands} {k : ℕ} → operands e D xs ≡ some c →
      sd m c.first ≡ no k → try lim sd (arithmetic e D xs) m ≡ refuse k
  unfolding arithmetic
  arith_first_refused m D xs q r = with_some _ m q ∙ side_refused _ r

  pub arith_no_first : {m m₁ : Tally} (D : Decl) (xs : List Ptr) {c : Operands} {w : Row} {ys : List Ptr} → operands e D xs ≡ some c → Ended m c.first m₁ w ys →
      as_number w ys ≡ none → try lim sd (arithmetic e D xs) m ≡ missed m₁
  unfolding arithmetic
  arith_no_first {m} {m₁} D xs q s x = with_some _ m q ∙ side_ended _ s ∙ with_none _ m₁ x

  pub arith_second_refused : {m m₁ : Tally} (D : Decl) (xs : List Ptr) {c : Operands} {w : Row} {ys : List Ptr} {x k : ℕ} → operands e D xs ≡ some c →
      Ended m c.first m₁ w ys → as_number w ys ≡ some x → sd m₁ c.second ≡ no k → try lim sd (arithmetic e D xs) m ≡ refuse k
  unfolding arithmetic
  arith_second_refused {m} {m₁} D xs q s x r = with_some _ m q ∙ side_ended _ s ∙ with_some _ m₁ x ∙ side_refused _ r

  pub arith_no_second : {m m₁ m₂ : Tally} (D : Decl) (xs : List Ptr) {c : Operands} {w w' : Row} {ys ys' : List Ptr} {x : ℕ} → operands e D xs ≡ some c →
      Ended m c.first m₁ w ys → as_number w ys ≡ some x → Ended m₁ c.second m₂ w' ys' → as_number w' ys' ≡ none → try lim sd (arithmetic e D xs) m ≡ missed m₂
  unfolding arithmetic
  arith_no_second {m} {m₁} {m₂} D xs q s x s' y = with_some _ m q ∙ side_ended _ s ∙ with_some _ m₁ x ∙ side_ended _ s' ∙ with_none _ m₂ y

  pub arith_fires : {m m₁ m₂ : Tally} (D : Decl) (xs : List Ptr) {c : Operands} {w w' : Row} {ys ys' : List Ptr} {x y : ℕ} {r : Result} → operands e D xs ≡ some c →
      Ended m c.first m₁ w ys → as_number w ys ≡ some x → Ended m₁ c.second m₂ w' ys' → as_number w' ys' ≡ some y → outcome e (compute c.op x y) ≡ some r →
      try lim sd (arithmetic e D xs) m ≡ firing m₂ r []
  unfolding arithmetic
  arith_fires {m} {m₁} {m₂} D xs q s x s' y r = with_some _ m q ∙ side_ended _ s ∙ with_some _ m₁ x ∙ side_ended _ s' ∙ with_some _ m₂ y ∙ with_some _ m₂ r ∙ fires_at m₂ _ _

  -- DELTA
  pub delta_none : (m : Tally) (D : Decl) (n : ℕ) (xs : List Ptr) → unfolds D n ≡ none → try lim sd (delta D n xs) m ≡ missed m
  unfolding delta
  delta_none m D n xs q = with_none _ m q

  pub delta_fires : (m : Tally) (D : Decl) (n : ℕ) (xs : List Ptr) {v : Ptr} → unfolds D n ≡ some v → try lim sd (delta D n xs) m ≡ firing m (itself v) xs
  unfolding delta
  delta_fires m D n xs q = with_some _ m q ∙ fires_at m _ _

  -- A CONSTANT: the rules in order, each from the tally that the missed one before it left
  pub constant_is : (m : Tally) (D : Decl) (n : ℕ) (xs : List Ptr) →
      try lim sd (constant e D n xs) m ≡
      and_then (try lim sd (quot e D xs) m) (λ m₁. and_then (try lim sd (recursion e D n xs) m₁) (λ m₂. and_then (try lim sd (arithmetic e D xs) m₂) (λ m₃. try lim sd (delta D n xs) m₃)))
  unfolding constant
  constant_is m D n xs =
      try_else lim sd (quot e D xs) _ m ∙
      ap (and_then (try lim sd (quot e D xs) m)) λ i m₁. (try_else lim sd (recursion e D n xs) _ m₁ ∙ ap (and_then (try lim sd (recursion e D n xs) m₁)) λ j m₂. try_else lim sd (arithmetic e D xs) (delta D n xs) m₂ j) i

  -- THE HEAD
  pub at_head : (m : Tally) (t : Ptr) {h : Spined} {w : Row} → spine m.store t ≡ some h → row_at m.store h.head.row ≡ w →
      at_the_head lim e sd m t ≡ try lim sd (at_row e m.store h.head.shift h.arguments w) m
  unfolding at_the_head rules
  at_head m t {h} q r = rw q (ap (λ (w : Row). try lim sd (at_row e m.store h.head.shift h.arguments w) m) r)
