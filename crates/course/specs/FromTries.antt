-- From the tries to the rules: whatever the tries say, the head rules of crates/rules say too, rule by rule.
-- Holds for every store and every environment; nothing is assumed.
use Rattle.std.specs.Prelude.{ℕ, ◌+◌, eqb, leb, ◌≡◌, Bool}
use Rattle.std.proofs.Common.{arith, sym, ◌∙◌, subst}
use Rattle.std.proofs.Math.Path.{refl, ap}
use Rattle.std.proofs.Math.Bool.{true, false}
use mathlib.Core.List.{List, [], ◌∷◌}
use Rattle.std.proofs.Math.Option.{Option, none, some}
use Rattle.rules.specs.Kinds.{sort, const, app, lam, pi, let', proj, num}
use Rattle.rules.specs.Rows.{Ptr, Row, var, node, Store, row_at, grow}
use Rattle.rules.specs.Declarations.{Decl, Env, decl_at, value_of, holder, true', false'}
use Rattle.rules.specs.Arithmetic.{Op, add, sub, mul, div, mod', beq, ble, truth, compute}
use Rattle.rules.specs.Spines.{Spine, NoApp, head, through}
use Rattle.rules.specs.Firings.{Tally, tally, Result, a_constant, Written}
use Rattle.rules.specs.HeadTests.{given, provided, held, both, tried, Made, as_constructor, by_rule, as_number, field_at, quot_parts, quot_made, rec_parts}
use Rattle.rules.specs.HeadTests.{operation_of, Operands, exactly_two, operands, outcome, unfolds}
use Rattle.rules.specs.HeadRules.{Head, Constant, Constructs, a_sort, a_pi, a_num, a_lambda, Reduces, Side, ends, Fires, beta, zeta, field, by_quot}
use Rattle.rules.specs.HeadRules.{by_recursor, by_arithmetic, by_delta, Stuck, no_rule_for, no_value, no_field, none_fires, Quot, is_made, NoQuot}
use Rattle.rules.specs.HeadRules.{no_quot, not_made, Rec, by_a_rule, NoRec, no_recursor, no_constructor, Arith, computed, NoArith, no_operands, no_first}
use Rattle.rules.specs.HeadRules.{no_second}
use Rattle.rules.specs.HeadRules as H
use Rattle.course.specs.Tries.{Try, no_rule, fires, writes, reduces, with_it, ◌or_else◌, lambda, variable, projection, quot, recursion}
use Rattle.course.specs.Tries.{arithmetic, delta, constant, at_row, rules, End, missed, firing, Runs, Comes, misses, fires_now, wrote, side}
use Rattle.course.specs.Tries as Y

-- constructors that differ
none_some : {A : Type 0} {a : A} → none ≡ some a → ⊥
none_some {A} {a} q = let n : ◌≡◌ {A = ℕ} 0 1 = cc in omega arith

false_true : false ≡ true → ⊥
false_true q = let n : ◌≡◌ {A = ℕ} 0 1 = cc in omega arith

module _ (e : Env) where
  -- what trying comes to, with the rules' own side reductions
  pub data Understood : ℕ → Tally → Try → Tally → End → Type 0 where
    u_misses : {d : ℕ} {m : Tally} → Understood d m no_rule m missed
    u_fires : {d : ℕ} {m : Tally} {r : Result} {xs : List Ptr} → Understood d m (fires r xs) m (firing r xs)
    u_wrote : {d : ℕ} {m m' : Tally} {ws : List Row} {y : Try} {o : End} →
        Written m.store (grow m.store ws) → Understood d (tally m.steps (grow m.store ws)) y m' o → Understood d m (writes ws y) m' o
    u_side : {d : ℕ} {m m₁ m' : Tally} {p : Ptr} {w : Row} {ys : List Ptr} {y : Store → Row → List Ptr → Try} {o : End} →
        Side e d m p m₁ w ys → Understood d m₁ (y m₁.store w ys) m' o → Understood d m (reduces p y) m' o

  -- TAKING A TRY APART. P is what is to be shown of the tally and the end.
  module _ (P : Tally → End → Type 0) where
    on_none : {d : ℕ} {m m' : Tally} {o : End} → P m missed → Understood d m no_rule m' o → P m' o
    on_none p u_misses = p

    on_fires : {d : ℕ} {m m' : Tally} {r : Result} {xs : List Ptr} {o : End} → P m (firing r xs) → Understood d m (fires r xs) m' o → P m' o
    on_fires p u_fires = p

    on_with : {A : Type 0} {d : ℕ} {m m' : Tally} {o : End} (x : Option A) (next : A → Try) →
        (x ≡ none → P m missed) → ((a : A) → x ≡ some a → Understood d m (next a) m' o → P m' o) → Understood d m (with_it x next) m' o → P m' o
    on_with none next without with' u = on_none (without refl) u
    on_with (some a) next without with' u = with' a refl u

    on_side : {d : ℕ} {m m' : Tally} {p : Ptr} {o : End} (y : Store → Row → List Ptr → Try) →
        ((m₁ : Tally) (w : Row) (ys : List Ptr) → Side e d m p m₁ w ys → Understood d m₁ (y m₁.store w ys) m' o → P m' o) →
        Understood d m (reduces p y) m' o → P m' o
    on_side y k (u_side s u) = k _ _ _ s u

    on_writes : {d : ℕ} {m m' : Tally} {o : End} (ws : List Row) (y : Try) →
        (Written m.store (grow m.store ws) → Understood d (tally m.steps (grow m.store ws)) y m' o → P m' o) →
        Understood d m (writes ws y) m' o → P m' o
    on_writes ws y k (u_wrote w u) = k w u

    -- the first rule fires, or it is missed and the next goes on from there
    on_else : {d : ℕ} {m m' : Tally} {o : End} (y z : Try) →
        ((r : Result) (xs : List Ptr) → Understood d m y m' (firing r xs) → P m' (firing r xs)) →
        ((m₁ : Tally) → Understood d m y m₁ missed → Understood d m₁ z m' o → P m' o) → Understood d m (y or_else z) m' o → P m' o
    unfolding ◌or_else◌
    on_else no_rule z f g u = g _ u_misses u
    on_else (fires r xs) z f g u_fires = f r xs u_fires
    on_else {m = m} (writes ws y) z f g (u_wrote w u) = on_else {m = tally m.steps (grow m.store ws)} y z (λ r xs v. f r xs (u_wrote w v)) (λ m₁ v k. g m₁ (u_wrote w v) k) u
    on_else (reduces p y) z f g (u_side {m₁ = m₁} {w = w} {ys = ys} s u) =
        on_else (y m₁.store w ys) z (λ r xs v. f r xs (u_side s v)) (λ m₂ v k. g m₂ (u_side s v) k) u

  -- THE RULES OF A CONSTANT

  pub data QuotEnd (d : ℕ) (m : Tally) (D : Decl) (xs : List Ptr) : Tally → End → Type 0 where
    missed_quot : {m' : Tally} → NoQuot e d m D xs m' → QuotEnd d m D xs m' missed
    fired_quot : {m' : Tally} {r : Result} {ys : List Ptr} → Quot e d m D xs m' r ys → QuotEnd d m D xs m' (firing r ys)

  pub quot_end : {d : ℕ} {m m' : Tally} {D : Decl} {xs : List Ptr} {o : End} → Understood d m (quot e D xs) m' o → QuotEnd d m D xs m' o
  unfolding quot
  quot_end {d} {m} {D = D} {xs = xs} = on_with P (quot_parts D xs) _ (λ q. missed_quot (no_quot q)) λ parts q.
      on_side P _ λ m₁ w ys s.
      on_with P (quot_made e w ys) _ (λ a. missed_quot (not_made q s a)) λ x a.
      on_fires P (fired_quot (is_made q s a))
    where
      P : Tally → End → Type 0
      P = QuotEnd d m D xs

  pub data RecEnd (d : ℕ) (m : Tally) (D : Decl) (n : ℕ) (xs : List Ptr) : Tally → End → Type 0 where
    missed_rec : {m' : Tally} → NoRec e d m D n xs m' → RecEnd d m D n xs m' missed
    fired_rec : {m' : Tally} {r : Result} {ys : List Ptr} → Rec e d m D n xs m' r ys → RecEnd d m D n xs m' (firing r ys)

  made_by : {m : Tally} {w : Row} {ys : List Ptr} {c : Made} → as_constructor e m.store w ys ≡ some c → Written m.store (grow m.store c.rows) →
      Constructs e m w ys c (tally m.steps (grow m.store c.rows))
  made_by q w = record { rows = _; constructor = q; grown = refl; written = w; then_tally = refl }

  pub rec_end : {d n : ℕ} {m m' : Tally} {D : Decl} {xs : List Ptr} {o : End} → Understood d m (recursion e D n xs) m' o → RecEnd d m D n xs m' o
  unfolding recursion
  rec_end {d} {n} {m} {D = D} {xs = xs} = on_with P (rec_parts D n xs) _ (λ q. missed_rec (no_recursor q)) λ parts q.
      on_side P _ λ m₁ w ys s.
      on_with P (as_constructor e m₁.store w ys) _ (λ a. missed_rec (no_constructor q s a)) λ c a.
      on_writes P _ _ λ r.
      on_with P (by_rule parts.of xs c) _ (λ ρ. missed_rec (H.no_rule q s (made_by a r) ρ)) λ x ρ.
      on_fires P (fired_rec (by_a_rule q s (made_by a r) ρ))
    where
      P : Tally → End → Type 0
      P = RecEnd d m D n xs

  -- beq and ble are tried only where both answers can be written, so an operation that is tried has an outcome
  truth_there : both (held (holder e true')) (held (holder e false')) ≡ true → (t : Bool) → outcome e (truth t) ≡ none → ⊥
  unfolding outcome
  truth_there q true z = first (holder e true') (holder e false') q z
    where
      first : (a b : Option ℕ) → both (held a) (held b) ≡ true → given a (λ c. some (a_constant c)) ≡ none → ⊥
      first none b q z = false_true q
      first (some a) b q z = none_some (sym z)
  truth_there q false z = second (holder e true') (holder e false') q z
    where
      second : (a b : Option ℕ) → both (held a) (held b) ≡ true → given b (λ c. some (a_constant c)) ≡ none → ⊥
      second none b q z = false_true q
      second (some a) none q z = false_true q
      second (some a) (some b) q z = none_some (sym z)

  outcome_there : (o : Op) → tried e o ≡ true → (x y : ℕ) → outcome e (compute o x y) ≡ none → ⊥
  unfolding outcome compute
  outcome_there add q x y z = none_some (sym z)
  outcome_there sub q x y z = none_some (sym z)
  outcome_there mul q x y z = none_some (sym z)
  outcome_there div q x y z = none_some (sym z)
  outcome_there mod' q x y z = none_some (sym z)
  outcome_there beq q x y z = truth_there q (eqb x y) z
  outcome_there ble q x y z = truth_there q (leb x y) z

  two_op : (o : Op) (xs : List Ptr) {q : Operands} → exactly_two o xs ≡ some q → q.op ≡ o
  two_op o [] z = absurd (none_some z)
  two_op o (a ∷ []) z = absurd (none_some z)
  two_op o (a ∷ b ∷ []) {q} z = let r : q.op ≡ o = cc in r
  two_op o (a ∷ b ∷ c ∷ xs) z = absurd (none_some z)

  operands_tried : (D : Decl) (xs : List Ptr) {q : Operands} → operands e D xs ≡ some q → tried e q.op ≡ true
  unfolding operands
  operands_tried D xs {q} z = go (operation_of D.role) z
    where
      held_true : (o : Op) (b : Bool) → tried e o ≡ b → provided b (exactly_two o xs) ≡ some q → tried e q.op ≡ true
      held_true o true t z = ap (tried e) (two_op o xs z) ∙ t
      held_true o false t z = absurd (none_some z)

      go : (x : Option Op) → given x (λ o. provided (tried e o) (exactly_two o xs)) ≡ some q → tried e q.op ≡ true
      go none z = absurd (none_some z)
      go (some o) z = held_true o (tried e o) refl z

  pub data ArithEnd (d : ℕ) (m : Tally) (D : Decl) (xs : List Ptr) : Tally → End → Type 0 where
    missed_arith : {m' : Tally} → NoArith e d m D xs m' → ArithEnd d m D xs m' missed
    fired_arith : {m' : Tally} {r : Result} {ys : List Ptr} → Arith e d m D xs m' r ys → ArithEnd d m D xs m' (firing r ys)

  pub arith_end : {d : ℕ} {m m' : Tally} {D : Decl} {xs : List Ptr} {o : End} → Understood d m (arithmetic e D xs) m' o → ArithEnd d m D xs m' o
  unfolding arithmetic
  arith_end {d} {m} {D = D} {xs = xs} = on_with P (operands e D xs) _ (λ q. missed_arith (no_operands q)) λ ab q.
      on_side P _ λ m₁ w ys s.
      on_with P (as_number w ys) _ (λ x. missed_arith (no_first q s x)) λ x qx.
      on_side P _ λ m₂ w' ys' s'.
      on_with P (as_number w' ys') _ (λ y. missed_arith (no_second q s qx s' y)) λ y qy.
      on_with P (outcome e (compute ab.op x y)) _ (λ z. absurd (outcome_there ab.op (operands_tried D xs q) x y z)) λ r qr.
      on_fires P (fired_arith (computed q s qx s' qy qr))
    where
      P : Tally → End → Type 0
      P = ArithEnd d m D xs

  quot_fired : {d : ℕ} {m m' : Tally} {D : Decl} {xs ys : List Ptr} {r : Result} → QuotEnd d m D xs m' (firing r ys) → Quot e d m D xs m' r ys
  quot_fired (fired_quot q) = q

  pub quot_missed : {d : ℕ} {m m' : Tally} {D : Decl} {xs : List Ptr} → QuotEnd d m D xs m' missed → NoQuot e d m D xs m'
  quot_missed (missed_quot q) = q

  rec_fired : {d n : ℕ} {m m' : Tally} {D : Decl} {xs ys : List Ptr} {r : Result} → RecEnd d m D n xs m' (firing r ys) → Rec e d m D n xs m' r ys
  rec_fired (fired_rec q) = q

  pub rec_missed : {d n : ℕ} {m m' : Tally} {D : Decl} {xs : List Ptr} → RecEnd d m D n xs m' missed → NoRec e d m D n xs m'
  rec_missed (missed_rec q) = q

  arith_fired : {d : ℕ} {m m' : Tally} {D : Decl} {xs ys : List Ptr} {r : Result} → ArithEnd d m D xs m' (firing r ys) → Arith e d m D xs m' r ys
  arith_fired (fired_arith q) = q

  arith_missed : {d : ℕ} {m m' : Tally} {D : Decl} {xs : List Ptr} → ArithEnd d m D xs m' missed → NoArith e d m D xs m'
  arith_missed (missed_arith q) = q

  -- THE HEAD

  pub data HeadEnd (d : ℕ) (m : Tally) (t : Ptr) : Tally → End → Type 0 where
    is_stuck : {m' : Tally} → Stuck e d m t m' → HeadEnd d m t m' missed
    is_firing : {m' : Tally} {r : Result} {xs : List Ptr} → Fires e d m t m' r xs → HeadEnd d m t m' (firing r xs)

  constant_end : {d n : ℕ} {m m' : Tally} {t : Ptr} {D : Decl} {xs : List Ptr} {o : End} → Constant e m.store t D n xs →
      Understood d m (constant e D n xs) m' o → HeadEnd d m t m' o
  unfolding constant delta
  constant_end {d} {n} {m} {t = t} {D = D} {xs = xs} h =
      on_else P _ _ (λ r zs u. is_firing (by_quot h (quot_fired (quot_end u)))) λ m₁ u₁.
      on_else P _ _ (λ r zs u. is_firing (by_recursor h (quot_missed (quot_end u₁)) (rec_fired (rec_end u)))) λ m₂ u₂.
      on_else P _ _ (λ r zs u. is_firing (by_arithmetic h (quot_missed (quot_end u₁)) (rec_missed (rec_end u₂)) (arith_fired (arith_end u)))) λ m₃ u₃.
      on_with P (unfolds D n) _ (λ v. is_stuck (none_fires h (quot_missed (quot_end u₁)) (rec_missed (rec_end u₂)) (arith_missed (arith_end u₃)) v)) λ v qv.
      on_fires P (is_firing (by_delta h (quot_missed (quot_end u₁)) (rec_missed (rec_end u₂)) (arith_missed (arith_end u₃)) qv))
    where
      P : Tally → End → Type 0
      P = HeadEnd d m t

  pub is_constant : {s : Store} {t x y z : Ptr} {c n k : ℕ} {xs : List Ptr} → Head s t (node (const c n) x y z) k xs → Constant e s t (decl_at e.decls c) n xs
  is_constant {x = x} {y = y} {z = z} {c = c} {k = k} h = record { named = c; x = x; y = y; z = z; k = k; head = h; declared = refl }

  no_app_head : {s : Store} {p q : Ptr} {xs ys : List Ptr} → Spine s p xs q ys → NoApp (row_at s q.row)
  no_app_head (head n) = n
  no_app_head (through q r) = no_app_head r

  pub app_no_head : {s : Store} {t x y z : Ptr} {k : ℕ} {xs : List Ptr} → Head s t (node app x y z) k xs → ⊥
  app_no_head {x = x} {y = y} {z = z} h = go (subst NoApp h.row (no_app_head h.spine))
    where
      go : NoApp (node app x y z) → ⊥
      go = elim [ ]

  head_end : {d : ℕ} {m m' : Tally} {t : Ptr} (w : Row) (k : ℕ) (xs : List Ptr) {o : End} → Head m.store t w k xs →
      Understood d m (at_row e m.store k xs w) m' o → HeadEnd d m t m' o
  unfolding at_row lambda variable projection
  head_end {d} {m} {t = t} (var i) k xs h u =
      on_with (HeadEnd d m t) (value_of e (i + k)) _ (λ q. is_stuck (no_value h q)) (λ v q. on_fires (HeadEnd d m t) (is_firing (H.variable h q refl))) u
  head_end {d} {m} {t = t} (node (sort l) x y z) k xs h u = on_none (HeadEnd d m t) (is_stuck (no_rule_for h a_sort)) u
  head_end (node (const c n) x y z) k xs h u = constant_end (is_constant h) u
  head_end (node app x y z) k xs h u = absurd (app_no_head h)
  head_end {d} {m} {t = t} (node lam x y z) k [] h u = on_none (HeadEnd d m t) (is_stuck (no_rule_for h a_lambda)) u
  head_end {d} {m} {t = t} (node lam x y z) k (a ∷ xs) h u = on_fires (HeadEnd d m t) (is_firing (beta h)) u
  head_end {d} {m} {t = t} (node pi x y z) k xs h u = on_none (HeadEnd d m t) (is_stuck (no_rule_for h a_pi)) u
  head_end {d} {m} {t = t} (node let' x y z) k xs h u = on_fires (HeadEnd d m t) (is_firing (zeta h refl)) u
  head_end {d} {m} {t = t} (node (proj c i) x y z) k xs h u =
      on_side (HeadEnd d m t) _ (λ m₁ w ys s. on_with (HeadEnd d m t) (field_at e w ys i) _ (λ q. is_stuck (no_field h s q)) λ a q. on_fires (HeadEnd d m t) (is_firing (field h s q))) u
  head_end {d} {m} {t = t} (node (num n) x y z) k xs h u = on_none (HeadEnd d m t) (is_stuck (no_rule_for h a_num)) u

  pub rules_end : {d : ℕ} {m m' : Tally} {t h : Ptr} {xs : List Ptr} {o : End} → Spine m.store t [] h xs → Understood d m (rules e m.store h xs) m' o → HeadEnd d m t m' o
  unfolding rules
  rules_end {m = m} {h = h} {xs = xs} s u = head_end (row_at m.store h.row) h.shift xs (record { at = h; spine = s; row = refl; shift = refl }) u

  stuck_of : {d : ℕ} {m m' : Tally} {t : Ptr} → HeadEnd d m t m' missed → Stuck e d m t m'
  stuck_of (is_stuck s) = s

  pub fires_of : {d : ℕ} {m m' : Tally} {t : Ptr} {r : Result} {xs : List Ptr} → HeadEnd d m t m' (firing r xs) → Fires e d m t m' r xs
  fires_of (is_firing f) = f

  mutual
    pub from_runs : {d : ℕ} {m m' : Tally} {t t' : Ptr} → Runs e d m t m' t' → Reduces e d m t m' t'
    from_runs (Y.final s c) = H.final (stuck_of (rules_end s (from_comes c)))
    from_runs (Y.then s c p r) = H.then (fires_of (rules_end s (from_comes c))) p (from_runs r)

    pub from_comes : {d : ℕ} {m m' : Tally} {y : Try} {o : End} → Comes e d m y m' o → Understood d m y m' o
    from_comes misses = u_misses
    from_comes fires_now = u_fires
    from_comes (wrote w c) = u_wrote w (from_comes c)
    from_comes (side {h = h} r s c) = u_side (ends (from_runs r) (record { at = h; spine = s; row = refl; shift = refl })) (from_comes c)
