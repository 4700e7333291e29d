-- From the demands of the tries to those of the rules: the demand that a course of tries comes to is one that the rules' own course comes to.
-- Holds for every store and every environment; nothing is assumed.
use Rattle.std.specs.Prelude.{ℕ, ◌+◌, ◌≡◌}
use Rattle.std.proofs.Math.Path.{refl}
use mathlib.Core.List.{List, [], ◌∷◌}
use Rattle.std.proofs.Math.Option.{Option, none, some}
use Rattle.rules.specs.Kinds.{sort, const, app, lam, pi, let', proj, num}
use Rattle.rules.specs.Rows.{Ptr, Row, var, node, Cell, Store, row_at, grow}
use Rattle.rules.specs.Declarations.{Decl, Env, value_of}
use Rattle.rules.specs.Spines.{Spine}
use Rattle.rules.specs.Firings.{Tally, tally, Result, Written}
use Rattle.rules.specs.HeadTests.{as_constructor, by_rule, as_number, field_at, quot_parts, quot_made, rec_parts, operands, outcome, unfolds}
use Rattle.rules.specs.Arithmetic.{compute}
use Rattle.rules.specs.HeadRules.{Head, Constant, Side, ends}
use Rattle.rules.specs.Refusals.{Demand, row, RowDue, Meets, in_premise, in_firing, SideMeets, its_level, Premise, structure, quot_major, rec_major}
use Rattle.rules.specs.Refusals.{number_row, first_number, second_number}
use Rattle.rules.specs.Refusals as F
use Rattle.course.specs.Tries.{Try, no_rule, fires, writes, reduces, with_it, ◌or_else◌, lambda, variable, projection, quot, recursion}
use Rattle.course.specs.Tries.{arithmetic, delta, constant, at_row, rules, missed, RunMeets, trying, paying, TryMeets, writing}
use Rattle.course.specs.Tries.{after_writing, too_deep, after_side}
use Rattle.course.specs.Tries as Y
use Rattle.course.specs.FromTries.{Understood, u_misses, u_wrote, u_side, quot_end, rec_end, quot_missed, rec_missed, is_constant}
use Rattle.course.specs.FromTries.{fires_of, rules_end, from_comes, from_runs}

module _ (e : Env) where
  -- a demand met while trying, with the rules' own side reductions
  data Asked : ℕ → Tally → Try → Demand → Tally → Type 0 where
    a_row : {d : ℕ} {m m₁ : Tally} {ws : List Row} {y : Try} {x : Cell} {now : Store} →
        RowDue m.store (grow m.store ws) x now → tally m.steps now ≡ m₁ → Asked d m (writes ws y) (row x) m₁
    after_rows : {d : ℕ} {m m₁ : Tally} {ws : List Row} {y : Try} {a : Demand} →
        Written m.store (grow m.store ws) → Asked d (tally m.steps (grow m.store ws)) y a m₁ → Asked d m (writes ws y) a m₁
    in_side : {d : ℕ} {m m₁ : Tally} {p : Ptr} {y : Store → Row → List Ptr → Try} {a : Demand} → SideMeets e d m p a m₁ → Asked d m (reduces p y) a m₁
    past_side : {d : ℕ} {m m₁ m₂ : Tally} {p : Ptr} {w : Row} {ys : List Ptr} {y : Store → Row → List Ptr → Try} {a : Demand} →
        Side e d m p m₁ w ys → Asked d m₁ (y m₁.store w ys) a m₂ → Asked d m (reduces p y) a m₂

  never_none : {d : ℕ} {m m₁ : Tally} {a : Demand} → Asked d m no_rule a m₁ → ⊥
  never_none = elim [ ]

  never_fires : {d : ℕ} {m m₁ : Tally} {r : Result} {xs : List Ptr} {a : Demand} → Asked d m (fires r xs) a m₁ → ⊥
  never_fires = elim [ ]

  -- TAKING A TRY APART. P is what is to be shown of the demand and the tally.
  module _ (P : Demand → Tally → Type 0) where
    on_with : {A : Type 0} {d : ℕ} {m m₁ : Tally} {a : Demand} (x : Option A) (next : A → Try) →
        ((b : A) → x ≡ some b → Asked d m (next b) a m₁ → P a m₁) → Asked d m (with_it x next) a m₁ → P a m₁
    on_with none next k u = absurd (never_none u)
    on_with (some b) next k u = k b refl u

    on_side : {d : ℕ} {m m₂ : Tally} {p : Ptr} {a : Demand} (y : Store → Row → List Ptr → Try) → (SideMeets e d m p a m₂ → P a m₂) →
        ((m₁ : Tally) (w : Row) (ys : List Ptr) → Side e d m p m₁ w ys → Asked d m₁ (y m₁.store w ys) a m₂ → P a m₂) →
        Asked d m (reduces p y) a m₂ → P a m₂
    on_side y f g (in_side s) = f s
    on_side y f g (past_side s u) = g _ _ _ s u

    on_writes : {d : ℕ} {m m₁ : Tally} {a : Demand} (ws : List Row) (y : Try) →
        ((x : Cell) (now : Store) → RowDue m.store (grow m.store ws) x now → tally m.steps now ≡ m₁ → P (row x) m₁) →
        (Asked d (tally m.steps (grow m.store ws)) y a m₁ → P a m₁) → Asked d m (writes ws y) a m₁ → P a m₁
    on_writes ws y f g (a_row w q) = f _ _ w q
    on_writes ws y f g (after_rows w u) = g u

    -- a demand of the first rule, or the first is missed and it is one of the next
    on_else : {d : ℕ} {m m₂ : Tally} {a : Demand} (y z : Try) → (Asked d m y a m₂ → P a m₂) →
        ((m₁ : Tally) → Understood e d m y m₁ missed → Asked d m₁ z a m₂ → P a m₂) → Asked d m (y or_else z) a m₂ → P a m₂
    unfolding ◌or_else◌
    on_else no_rule z f g u = g _ u_misses u
    on_else (fires r xs) z f g u = absurd (never_fires u)
    on_else (writes ws y) z f g (a_row w q) = f (a_row w q)
    on_else {m = m} (writes ws y) z f g (after_rows w u) = on_else {m = tally m.steps (grow m.store ws)} y z (λ v. f (after_rows w v)) (λ m₁ v k. g m₁ (u_wrote w v) k) u
    on_else (reduces p y) z f g (in_side s) = f (in_side s)
    on_else (reduces p y) z f g (past_side {m₁ = m₁} {w = w} {ys = ys} s u) =
        on_else (y m₁.store w ys) z (λ v. f (past_side s v)) (λ m₂ v k. g m₂ (u_side s v) k) u

  constant_asks : {d n : ℕ} {m m₁ : Tally} {t : Ptr} {D : Decl} {xs : List Ptr} {a : Demand} → Constant e m.store t D n xs →
      Asked d m (constant e D n xs) a m₁ → Premise e d m t a m₁
  unfolding constant quot recursion arithmetic delta
  constant_asks {d} {n} {m} {t = t} {D = D} {xs = xs} h =
      on_else P _ _ of_quot λ m₁ u₁.
      on_else P _ _ (of_rec m₁ u₁) λ m₂ u₂.
      on_else P _ _ (of_arith m₁ m₂ u₁ u₂) λ m₃ u₃.
      on_with P (unfolds D n) _ λ v q u. absurd (never_fires u)
    where
      P : Demand → Tally → Type 0
      P = Premise e d m t

      of_quot : {a : Demand} {m' : Tally} → Asked d m (quot e D xs) a m' → P a m'
      of_quot =
          on_with P (quot_parts D xs) _ λ parts q.
          on_side P _ (λ s. quot_major h q s) λ m₁ w ys s.
          on_with P (quot_made e w ys) _ λ x b u. absurd (never_fires u)

      of_rec : (m₁ : Tally) → Understood e d m (quot e D xs) m₁ missed → {a : Demand} {m' : Tally} → Asked d m₁ (recursion e D n xs) a m' → P a m'
      of_rec m₁ u₁ =
          on_with P (rec_parts D n xs) _ λ parts q.
          on_side P _ (λ s. rec_major h (quot_missed e (quot_end e u₁)) q s) λ m₂ w ys s.
          on_with P (as_constructor e m₂.store w ys) _ λ c b.
          on_writes P _ _ (λ x now w' z. number_row h (quot_missed e (quot_end e u₁)) q s b w' z)
          (on_with P (by_rule parts.of xs c) _ λ x ρ u. absurd (never_fires u))

      of_arith : (m₁ m₂ : Tally) → Understood e d m (quot e D xs) m₁ missed → Understood e d m₁ (recursion e D n xs) m₂ missed → {a : Demand} {m' : Tally} →
          Asked d m₂ (arithmetic e D xs) a m' → P a m'
      of_arith m₁ m₂ u₁ u₂ =
          on_with P (operands e D xs) _ λ ab q.
          on_side P _ (λ s. first_number h (quot_missed e (quot_end e u₁)) (rec_missed e (rec_end e u₂)) q s) λ m₃ w ys s.
          on_with P (as_number w ys) _ λ x qx.
          on_side P _ (λ s'. second_number h (quot_missed e (quot_end e u₁)) (rec_missed e (rec_end e u₂)) q s qx s') λ m₄ w' ys' s'.
          on_with P (as_number w' ys') _ λ y qy.
          on_with P (outcome e (compute ab.op x y)) _ λ r qr u. absurd (never_fires u)

  head_asks : {d : ℕ} {m m₁ : Tally} {t : Ptr} (w : Row) (k : ℕ) (xs : List Ptr) {a : Demand} → Head m.store t w k xs →
      Asked d m (at_row e m.store k xs w) a m₁ → Premise e d m t a m₁
  unfolding at_row lambda variable projection
  head_asks {d} {m} {t = t} (var i) k xs h u = on_with (Premise e d m t) (value_of e (i + k)) _ (λ v q z. absurd (never_fires z)) u
  head_asks (node (sort l) x y z) k xs h u = absurd (never_none u)
  head_asks (node (const c n) x y z) k xs h u = constant_asks (is_constant e h) u
  head_asks (node app x y z) k xs h u = absurd (never_none u)
  head_asks (node lam x y z) k [] h u = absurd (never_none u)
  head_asks (node lam x y z) k (b ∷ xs) h u = absurd (never_fires u)
  head_asks (node pi x y z) k xs h u = absurd (never_none u)
  head_asks (node let' x y z) k xs h u = absurd (never_fires u)
  head_asks {d} {m} {t = t} (node (proj c i) x y z) k xs h u =
      on_side (Premise e d m t) _ (λ s. structure h s) (λ m₁ w ys s. on_with (Premise e d m t) (field_at e w ys i) _ λ b q v. absurd (never_fires v)) u
  head_asks (node (num n) x y z) k xs h u = absurd (never_none u)

  rules_ask : {d : ℕ} {m m₁ : Tally} {t h : Ptr} {xs : List Ptr} {a : Demand} → Spine m.store t [] h xs → Asked d m (rules e m.store h xs) a m₁ → Premise e d m t a m₁
  unfolding rules
  rules_ask {m = m} {h = h} {xs = xs} s u = head_asks (row_at m.store h.row) h.shift xs (record { at = h; spine = s; row = refl; shift = refl }) u

  mutual
    pub from_meets : {d : ℕ} {m m₁ : Tally} {t : Ptr} {a : Demand} → RunMeets e d m t a m₁ → Meets e d m t a m₁
    from_meets (trying s c) = in_premise (rules_ask s (from_trying c))
    from_meets (paying s c q) = in_firing (fires_of e (rules_end e s (from_comes e c))) q
    from_meets (Y.later s c p r) = F.later (fires_of e (rules_end e s (from_comes e c))) p (from_meets r)

    from_trying : {d : ℕ} {m m₁ : Tally} {y : Try} {a : Demand} → TryMeets e d m y a m₁ → Asked d m y a m₁
    from_trying (writing w q) = a_row w q
    from_trying (after_writing w c) = after_rows w (from_trying c)
    from_trying too_deep = in_side its_level
    from_trying (Y.within r) = in_side (F.within (from_meets r))
    from_trying (after_side {h = h} r s c) = past_side (ends (from_runs e r) (record { at = h; spine = s; row = refl; shift = refl })) (from_trying c)
