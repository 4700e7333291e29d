-- From the rules to the tries: whatever the head rules of crates/rules say, the tries say too, rule by rule.
-- Holds for every store and every environment; nothing is assumed.
use Rattle.std.specs.Prelude.{ℕ, suc, refl, List, []}
use Rattle.std.proofs.Math.Path.{◌≡◌, subst}
use Rattle.std.proofs.Common.{sym, ap, ◌∙◌}
use native.Mathlib.Omega.{arith}
use Rattle.rules.specs.Rows.{Ptr, Row, Store}
use Rattle.rules.specs.Declarations.{Decl, Env}
use Rattle.rules.specs.Spines.{Spine}
use Rattle.rules.specs.Firings.{Tally, tally, Result, Written}
use Rattle.rules.specs.HeadTests.{Made}
use Rattle.rules.specs.HeadRules.{Head, Constant, Constructs, NoRuleFor, a_sort, a_pi, a_num, a_lambda, Reduces, Side, ends, Fires, beta, zeta, field}
use Rattle.rules.specs.HeadRules.{by_quot, by_recursor, by_arithmetic, by_delta, Stuck, no_rule_for, no_value, no_field, none_fires, Quot, is_made}
use Rattle.rules.specs.HeadRules.{NoQuot, no_quot, not_made, Rec, by_a_rule, NoRec, no_recursor, no_constructor, Arith, computed, NoArith, no_operands}
use Rattle.rules.specs.HeadRules.{no_first, no_second}
use Rattle.rules.specs.HeadRules as H
use Rattle.rules.specs.Refusals.{Demand, row, Meets, in_premise, in_firing, SideMeets, its_level, Premise, structure, quot_major}
use Rattle.rules.specs.Refusals.{rec_major, number_row, first_number, second_number}
use Rattle.rules.specs.Refusals as F
use Rattle.course.specs.Tries.{Try, no_rule, fires, writes, reduces, ◌or_else◌, lambda, variable, projection, quot, recursion}
use Rattle.course.specs.Tries.{arithmetic, delta, constant, at_row, rules, End, missed, firing, Runs, Comes, misses, fires_now, wrote, side}
use Rattle.course.specs.Tries.{RunMeets, trying, paying, TryMeets, writing, after_writing, too_deep, after_side}
use Rattle.course.specs.Tries as Y

module _ (e : Env) where
  -- trying the rules at the head of t comes to an end
  pub record AtHead (d : ℕ) (m : Tally) (t : Ptr) (m₁ : Tally) (o : End) : Type 0 where
    pub head : Ptr
    pub arguments : List Ptr
    pub spine : Spine m.store t [] head arguments
    pub comes : Comes e d m (rules e m.store head arguments) m₁ o

  -- a side reduction by tries, and the head that it ends in
  pub data Sided : ℕ → Tally → Ptr → Tally → Row → List Ptr → Type 0 where
    sided : {d k : ℕ} {m m₁ : Tally} {p q : Ptr} {w : Row} {ys : List Ptr} → Runs e d m p m₁ q → Head m₁.store q w k ys → Sided (suc d) m p m₁ w ys

  head_rules : {s : Store} {t : Ptr} {w : Row} {k : ℕ} {xs : List Ptr} (h : Head s t w k xs) → at_row e s k xs w ≡ rules e s h.at xs
  unfolding rules
  head_rules {s} {xs = xs} h = λ i. at_row e s (sym h.shift i) xs (sym h.row i)

  pub by_head : {d : ℕ} {m m₁ : Tally} {t : Ptr} {w : Row} {k : ℕ} {xs : List Ptr} {o : End} → Head m.store t w k xs →
      Comes e d m (at_row e m.store k xs w) m₁ o → AtHead d m t m₁ o
  by_head {d} {m} {m₁} {xs = xs} {o = o} h c = record {
    head = h.at;
    arguments = xs;
    spine = h.spine;
    comes = subst (λ (y : Try). Comes e d m y m₁ o) (head_rules h) c;
  }

  pub by_side : {d : ℕ} {m m₁ m' : Tally} {p : Ptr} {w : Row} {ys : List Ptr} (y : Store → Row → List Ptr → Try) {o : End} → Sided d m p m₁ w ys →
      Comes e d m₁ (y m₁.store w ys) m' o → Comes e d m (reduces p y) m' o
  by_side {m₁ = m₁} {m' = m'} {ys = ys} y {o} (sided {d = d} r h) c =
      side r h.spine (subst (λ (w : Row). Comes e (suc d) m₁ (y m₁.store w ys) m' o) (sym h.row) c)

  by_writing : {d : ℕ} {m m₁ m' : Tally} {w : Row} {ys : List Ptr} {c : Made} (y : Try) {o : End} → Constructs e m w ys c m₁ →
      Comes e d m₁ y m' o → Comes e d m (writes c.rows y) m' o
  by_writing {d} {m} {m₁} {m'} {c = c} y {o} k r =
      wrote (subst (Written m.store) (sym k.grown) k.written)
      (subst (λ (x : Tally). Comes e d x y m' o) (sym k.then_tally ∙ ap (λ (s : Store). tally m.steps s) (sym k.grown)) r)

  -- the first fires; or it is missed, and the next goes on from the tally that it left
  pub first_fires : {d : ℕ} {m m₁ : Tally} {y : Try} {o : End} → Comes e d m y m₁ o → (r : Result) (xs : List Ptr) → o ≡ firing r xs → (z : Try) →
      Comes e d m (y or_else z) m₁ (firing r xs)
  unfolding ◌or_else◌
  first_fires misses r xs q z = absurd (never q)
    where
      never : missed ≡ firing r xs → ⊥
      never q = let n : ◌≡◌ {A = ℕ} 0 1 = cc in omega arith
  first_fires {d} {m} (fires_now {r = r'} {xs = xs'}) r xs q z = subst (λ (o : End). Comes e d m (fires r' xs') m o) q fires_now
  first_fires (wrote w c) r xs q z = wrote w (first_fires c r xs q z)
  first_fires (side r' s c) r xs q z = side r' s (first_fires c r xs q z)

  pub first_missed : {d : ℕ} {m m₁ : Tally} {y : Try} {o : End} → Comes e d m y m₁ o → o ≡ missed → (z : Try) {m' : Tally} {o' : End} →
      Comes e d m₁ z m' o' → Comes e d m (y or_else z) m' o'
  unfolding ◌or_else◌
  first_missed misses q z k = k
  first_missed (fires_now {r = r} {xs = xs}) q z k = absurd (never q)
    where
      never : firing r xs ≡ missed → ⊥
      never q = let n : ◌≡◌ {A = ℕ} 0 1 = cc in omega arith
  first_missed (wrote w c) q z k = wrote w (first_missed c q z k)
  first_missed (side r s c) q z k = side r s (first_missed c q z k)

  by_constant : {d n : ℕ} {m m₁ : Tally} {t : Ptr} {D : Decl} {xs : List Ptr} {o : End} → Constant e m.store t D n xs →
      Comes e d m (constant e D n xs) m₁ o → AtHead d m t m₁ o
  unfolding at_row
  by_constant {d} {n} {m} {m₁} {xs = xs} {o = o} h c =
      by_head h.head (subst (λ (D : Decl). Comes e d m (constant e D n xs) m₁ o) (sym h.declared) c)

  no_rule_comes : {d : ℕ} {m : Tally} (k : ℕ) {w : Row} {xs : List Ptr} → NoRuleFor w xs → Comes e d m (at_row e m.store k xs w) m missed
  unfolding at_row lambda
  no_rule_comes k a_sort = misses
  no_rule_comes k a_pi = misses
  no_rule_comes k a_num = misses
  no_rule_comes k a_lambda = misses

  mutual
    unfolding at_row lambda variable projection quot recursion arithmetic delta constant

    pub to_runs : {d : ℕ} {m m' : Tally} {t t' : Ptr} → Reduces e d m t m' t' → Runs e d m t m' t'
    to_runs (H.final s) = let a = to_stuck s in Y.final a.spine a.comes
    to_runs (H.then f p r) = let a = to_fires f in Y.then a.spine a.comes p (to_runs r)

    pub to_side : {d : ℕ} {m m₁ : Tally} {p : Ptr} {w : Row} {ys : List Ptr} → Side e d m p m₁ w ys → Sided d m p m₁ w ys
    to_side (ends r h) = sided (to_runs r) h

    pub to_fires : {d : ℕ} {m m₁ : Tally} {t : Ptr} {r : Result} {xs : List Ptr} → Fires e d m t m₁ r xs → AtHead d m t m₁ (firing r xs)
    to_fires (beta h) = by_head h fires_now
    to_fires (zeta h q) = by_head h (rw q fires_now)
    to_fires (H.variable h v u) = by_head h (rw (v, u) fires_now)
    to_fires (field h s a) = by_head h (by_side _ (to_side s) (rw a fires_now))
    to_fires (by_quot h q) = by_constant h (first_fires (to_quot q) _ _ refl _)
    to_fires (by_recursor h a r) = by_constant h (first_missed (to_no_quot a) refl _ (first_fires (to_rec r) _ _ refl _))
    to_fires (by_arithmetic h a b r) =
        by_constant h (first_missed (to_no_quot a) refl _ (first_missed (to_no_rec b) refl _ (first_fires (to_arith r) _ _ refl _)))
    to_fires (by_delta h a b c v) =
        by_constant h (first_missed (to_no_quot a) refl _ (first_missed (to_no_rec b) refl _ (first_missed (to_no_arith c) refl _ (rw v fires_now))))

    pub to_stuck : {d : ℕ} {m m₁ : Tally} {t : Ptr} → Stuck e d m t m₁ → AtHead d m t m₁ missed
    to_stuck (no_rule_for h n) = by_head h (no_rule_comes _ n)
    to_stuck (no_value h v) = by_head h (rw v misses)
    to_stuck (no_field h s a) = by_head h (by_side _ (to_side s) (rw a misses))
    to_stuck (none_fires h a b c v) =
        by_constant h (first_missed (to_no_quot a) refl _ (first_missed (to_no_rec b) refl _ (first_missed (to_no_arith c) refl _ (rw v misses))))

    pub to_quot : {d : ℕ} {m m₁ : Tally} {D : Decl} {r : Result} {xs ys : List Ptr} → Quot e d m D xs m₁ r ys → Comes e d m (quot e D xs) m₁ (firing r ys)
    to_quot (is_made q s a) = rw q (by_side _ (to_side s) (rw a fires_now))

    pub to_no_quot : {d : ℕ} {m m₁ : Tally} {D : Decl} {xs : List Ptr} → NoQuot e d m D xs m₁ → Comes e d m (quot e D xs) m₁ missed
    to_no_quot (no_quot q) = rw q misses
    to_no_quot (not_made q s a) = rw q (by_side _ (to_side s) (rw a misses))

    pub to_rec : {d n : ℕ} {m m₁ : Tally} {D : Decl} {r : Result} {xs ys : List Ptr} → Rec e d m D n xs m₁ r ys → Comes e d m (recursion e D n xs) m₁ (firing r ys)
    to_rec (by_a_rule q s c ρ) = rw q (by_side _ (to_side s) (rw c.constructor (by_writing _ c (rw ρ fires_now))))

    pub to_no_rec : {d n : ℕ} {m m₁ : Tally} {D : Decl} {xs : List Ptr} → NoRec e d m D n xs m₁ → Comes e d m (recursion e D n xs) m₁ missed
    to_no_rec (no_recursor q) = rw q misses
    to_no_rec (no_constructor q s c) = rw q (by_side _ (to_side s) (rw c misses))
    to_no_rec (H.no_rule q s c ρ) = rw q (by_side _ (to_side s) (rw c.constructor (by_writing _ c (rw ρ misses))))

    pub to_arith : {d : ℕ} {m m₁ : Tally} {D : Decl} {r : Result} {xs ys : List Ptr} → Arith e d m D xs m₁ r ys → Comes e d m (arithmetic e D xs) m₁ (firing r ys)
    to_arith (computed q s x s' y o) = rw q (by_side _ (to_side s) (rw x (by_side _ (to_side s') (rw (y, o) fires_now))))

    pub to_no_arith : {d : ℕ} {m m₁ : Tally} {D : Decl} {xs : List Ptr} → NoArith e d m D xs m₁ → Comes e d m (arithmetic e D xs) m₁ missed
    to_no_arith (no_operands q) = rw q misses
    to_no_arith (no_first q s x) = rw q (by_side _ (to_side s) (rw x misses))
    to_no_arith (no_second q s x s' y) = rw q (by_side _ (to_side s) (rw x (by_side _ (to_side s') (rw y misses))))

  -- DEMANDS

  -- trying the rules at the head of t comes to a demand
  pub record HeadMeets (d : ℕ) (m : Tally) (t : Ptr) (a : Demand) (m₁ : Tally) : Type 0 where
    pub head : Ptr
    pub arguments : List Ptr
    pub spine : Spine m.store t [] head arguments
    pub meets : TryMeets e d m (rules e m.store head arguments) a m₁

  meets_at_head : {d : ℕ} {m m₁ : Tally} {t : Ptr} {w : Row} {k : ℕ} {xs : List Ptr} {a : Demand} → Head m.store t w k xs →
      TryMeets e d m (at_row e m.store k xs w) a m₁ → HeadMeets d m t a m₁
  meets_at_head {d} {m} {m₁} {xs = xs} {a = a} h c = record {
    head = h.at;
    arguments = xs;
    spine = h.spine;
    meets = subst (λ (y : Try). TryMeets e d m y a m₁) (head_rules h) c;
  }

  meets_at_constant : {d n : ℕ} {m m₁ : Tally} {t : Ptr} {D : Decl} {xs : List Ptr} {a : Demand} → Constant e m.store t D n xs →
      TryMeets e d m (constant e D n xs) a m₁ → HeadMeets d m t a m₁
  unfolding at_row
  meets_at_constant {d} {n} {m} {m₁} {xs = xs} {a = a} h c =
      meets_at_head h.head (subst (λ (D : Decl). TryMeets e d m (constant e D n xs) a m₁) (sym h.declared) c)

  meets_after_side : {d : ℕ} {m m₁ m₂ : Tally} {p : Ptr} {w : Row} {ys : List Ptr} (y : Store → Row → List Ptr → Try) {a : Demand} → Sided d m p m₁ w ys →
      TryMeets e d m₁ (y m₁.store w ys) a m₂ → TryMeets e d m (reduces p y) a m₂
  meets_after_side {m₁ = m₁} {m₂ = m₂} {ys = ys} y {a} (sided {d = d} r h) c =
      after_side r h.spine (subst (λ (w : Row). TryMeets e (suc d) m₁ (y m₁.store w ys) a m₂) (sym h.row) c)

  pub first_meets : {d : ℕ} {m m₁ : Tally} {y : Try} {a : Demand} → TryMeets e d m y a m₁ → (z : Try) → TryMeets e d m (y or_else z) a m₁
  unfolding ◌or_else◌
  first_meets (writing w q) z = writing w q
  first_meets (after_writing w c) z = after_writing w (first_meets c z)
  first_meets too_deep z = too_deep
  first_meets (Y.within r) z = Y.within r
  first_meets (after_side r s c) z = after_side r s (first_meets c z)

  pub next_meets : {d : ℕ} {m m₁ : Tally} {y : Try} {o : End} → Comes e d m y m₁ o → o ≡ missed → (z : Try) {m₂ : Tally} {a : Demand} →
      TryMeets e d m₁ z a m₂ → TryMeets e d m (y or_else z) a m₂
  unfolding ◌or_else◌
  next_meets misses q z k = k
  next_meets (fires_now {r = r} {xs = xs}) q z k = absurd (never q)
    where
      never : firing r xs ≡ missed → ⊥
      never q = let n : ◌≡◌ {A = ℕ} 0 1 = cc in omega arith
  next_meets (wrote w c) q z k = after_writing w (next_meets c q z k)
  next_meets (side r s c) q z k = after_side r s (next_meets c q z k)

  mutual
    unfolding at_row projection quot recursion arithmetic constant

    pub to_meets : {d : ℕ} {m m₁ : Tally} {t : Ptr} {a : Demand} → Meets e d m t a m₁ → RunMeets e d m t a m₁
    to_meets (in_premise p) = let a = to_premise p in trying a.spine a.meets
    to_meets (in_firing f q) = let a = to_fires f in paying a.spine a.comes q
    to_meets (F.later f p r) = let a = to_fires f in Y.later a.spine a.comes p (to_meets r)

    pub to_side_meets : {d : ℕ} {m m₁ : Tally} {p : Ptr} {a : Demand} → SideMeets e d m p a m₁ → (y : Store → Row → List Ptr → Try) → TryMeets e d m (reduces p y) a m₁
    to_side_meets its_level y = too_deep
    to_side_meets (F.within r) y = Y.within (to_meets r)

    pub to_premise : {d : ℕ} {m m₁ : Tally} {t : Ptr} {a : Demand} → Premise e d m t a m₁ → HeadMeets d m t a m₁
    to_premise (structure h s) = meets_at_head h (to_side_meets s _)
    to_premise (quot_major h q s) = meets_at_constant h (first_meets (rw q (to_side_meets s _)) _)
    to_premise (rec_major h a q s) = meets_at_constant h (next_meets (to_no_quot a) refl _ (first_meets (rw q (to_side_meets s _)) _))
    to_premise (number_row h a q s c w n) =
        meets_at_constant h (next_meets (to_no_quot a) refl _ (first_meets (rw q (meets_after_side _ (to_side s) (rw c (writing w n)))) _))
    to_premise (first_number h a b q s) =
        meets_at_constant h (next_meets (to_no_quot a) refl _ (next_meets (to_no_rec b) refl _ (first_meets (rw q (to_side_meets s _)) _)))
    to_premise (second_number h a b q s x s') =
        meets_at_constant h
        (next_meets (to_no_quot a) refl _ (next_meets (to_no_rec b) refl _ (first_meets (rw q (meets_after_side _ (to_side s) (rw x (to_side_meets s' _)))) _)))
