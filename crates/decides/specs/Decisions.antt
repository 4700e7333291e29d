-- Deciding: of all below a number, of an option, of a list's elements; and of a list of records: each keeps its rule, or one is the lowest that does not.
-- Assumes of a list of records that its words are read in one way or none, that a record's rule is decided, and that it stays when records follow.
use Prim.Native.Nat.{ℕ, zero, suc, ◌<◌}
use Rattle.std.proofs.Common.{arith, sym, ◌∙◌, subst, length-append}
use Rattle.std.specs.Prelude.{◌≡◌, refl, length, get_or}
use mathlib.Core.List.{List, [], ◌∷◌, ◌++◌}
use Rattle.std.proofs.Math.Option.{Option, none, some}
use Rattle.rules.specs.Declarations.{nth}
use Rattle.rules.specs.Accepted.{part, Keep, Lowest}
use Rattle.substitution.specs.Places.{Place, below, here, past, place}
use Rattle.safety.specs.Lists.{nth_inside, nth_there, nth_append, nth_seam, some_same, none_some}

-- A PART, AN IMPLICATION, ALL BELOW

-- what has a part that fails fails; where the part holds, the rest is asked
pub needs : {A C : Type 0} → Dec A → (C → A) → (A → Dec C) → Dec C
needs (yes a) part rest = rest a
needs (no h) part rest = no (λ c. h (part c))

pub dec_implies : {A B : Type 0} → Dec A → Dec B → Dec (A → B)
dec_implies (yes a) (yes b) = yes (λ _. b)
dec_implies (yes a) (no h) = no (λ f. h (f a))
dec_implies (no h) b = yes (λ a. absurd (h a))

pub dec_below : {P : ℕ → Type 0} → ((i : ℕ) → Dec (P i)) → (n : ℕ) → Dec ((i : ℕ) → i < n → P i)
dec_below d zero = yes (λ i h. absurd (omega arith))
dec_below {P} d (suc n) = on (dec_below d n) (d n)
  where
    on : Dec ((i : ℕ) → i < n → P i) → Dec (P n) → Dec ((i : ℕ) → i < suc n → P i)
    on (yes f) (yes p) = yes (λ i h. at i h (place i n))
      where
        at : (i : ℕ) → i < suc n → Place i n → P i
        at i h (below q) = f i q
        at i h (here q) = subst P (sym q) p
        at i h (past q) = absurd (omega arith)
    on (yes f) (no g) = no (λ k. g (k n (omega arith)))
    on (no g) p = no (λ k. g (λ i h. k i (omega arith)))

-- AN OPTION, A LIST

pub dec_there : {A : Type 0} {P : A → Type 0} → ((x : A) → Dec (P x)) → (o : Option A) → Dec ((x : A) → o ≡ some x → P x)
dec_there d none = yes (λ x q. absurd (none_some q))
dec_there {P = P} d (some y) = on (d y)
  where
    on : Dec (P y) → Dec ((x : _) → some y ≡ some x → P x)
    on (yes p) = yes (λ x q. subst P (some_same q) p)
    on (no h) = no (λ f. h (f y refl))

pub dec_each : {A : Type 0} {P : A → Type 0} → ((x : A) → Dec (P x)) → (xs : List A) → Dec ((i : ℕ) (x : A) → nth xs i ≡ some x → P x)
unfolding nth
dec_each d [] = yes (λ i x q. absurd (none_some q))
dec_each {A} {P} d (y ∷ xs) = on (d y) (dec_each d xs)
  where
    on : Dec (P y) → Dec ((i : ℕ) (x : A) → nth xs i ≡ some x → P x) → Dec ((i : ℕ) (x : A) → nth (y ∷ xs) i ≡ some x → P x)
    on (yes p) (yes f) = yes each
      where
        each : (i : ℕ) (x : A) → nth (y ∷ xs) i ≡ some x → P x
        each zero x q = subst P (some_same q) p
        each (suc i) x q = f i x q
    on (yes p) (no h) = no (λ f. h (λ i x q. f (suc i) x q))
    on (no h) f = no (λ g. h (g 0 y refl))

-- SOMETHING OR NOTHING

-- P holds of something, or of nothing
pub data Found {A : Type 0} (P : A → Type 0) : Type 0 where
  it_is : (x : A) → P x → Found P
  nothing : ((x : A) → P x → ⊥) → Found P

-- whatever Q holds of has a part that P holds of: so the part is looked for, and then the rest
pub finding : {A B : Type 0} {P : A → Type 0} {Q : B → Type 0} → Found P → (part : B → A) → ((y : B) → Q y → P (part y)) → ((x : A) → P x → Found Q) → Found Q
finding (it_is x p) part has rest = rest x p
finding (nothing h) part has rest = nothing (λ y q. h (part y) (has y q))

-- likewise a test
pub provided_that : {A B : Type 0} {Q : B → Type 0} → Dec A → ((y : B) → Q y → A) → (A → Found Q) → Found Q
provided_that (yes a) has rest = rest a
provided_that (no h) has rest = nothing (λ y q. h (has y q))

-- x stands in the list
pub record In {A : Type 0} (xs : List A) (x : A) : Type 0 where
  pub position : ℕ
  pub there : nth xs position ≡ some x

-- through a list that has whatever P may hold of
pub look_through : {A : Type 0} {P : A → Type 0} → ((x : A) → Dec (P x)) → (xs : List A) → ((x : A) → P x → In xs x) → Found P
unfolding nth
look_through d [] listed = nothing (λ x p. none_some (listed x p).there)
look_through {A} {P} d (y ∷ xs) listed = on (d y) (λ k. look_through d xs k)
  where
    later : (P y → ⊥) → (x : A) → P x → (i : ℕ) → nth (y ∷ xs) i ≡ some x → In xs x
    later h x p zero q = absurd (h (subst P (sym (some_same q)) p))
    later h x p (suc i) q = record { position = i; there = q }

    on : Dec (P y) → (((x : A) → P x → In xs x) → Found P) → Found P
    on (yes p) rest = it_is y p
    on (no h) rest = rest λ x p. later h x p (listed x p).position (listed x p).there

-- A LIST OF RECORDS

-- each of the first n records keeps its rule, or one is the lowest that does not
pub data Decided {A : Type 0} (k : ℕ) (ws : List ℕ) (Is : List ℕ → A → Type 0) (Ok : List A → ℕ → Type 0) (n : ℕ) : Type 0 where
  all_keep : (xs : List A) → Keep k ws Is Ok n xs → Decided k ws Is Ok n
  one_breaks : (j : ℕ) → Lowest k ws Is Ok n j → Decided k ws Is Ok n

pub record Decidable {A : Type 0} (Is : List ℕ → A → Type 0) (Ok : List A → ℕ → Type 0) : Type 0 where
  pub parse : (ws : List ℕ) → Found (Is ws)
  pub one : {ws : List ℕ} {x y : A} → Is ws x → Is ws y → x ≡ y
  pub ok : (xs : List A) (j : ℕ) → Dec (Ok xs j)
  pub later : (xs : List A) (x : A) (j : ℕ) → j < length xs → Ok xs j → Ok (xs ++ (x ∷ [])) j

module _ {A : Type 0} (k : ℕ) (ws : List ℕ) {Is : List ℕ → A → Type 0} {Ok : List A → ℕ → Type 0} (d : Decidable Is Ok) where
  -- one more record that keeps its rule
  keep_more : {n : ℕ} {xs : List A} {x : A} → Keep k ws Is Ok n xs → Is (part k ws n) x → Ok (xs ++ (x ∷ [])) n → Keep k ws Is Ok (suc n) (xs ++ (x ∷ []))
  keep_more {n} {xs} {x} a is ok = record {
    many = omega (arith, length-append xs (x ∷ []), a.many);
    words = λ i y q. words i y q (place i n);
    rules = λ i h. rules i h (place i n);
  }
    where
      words : (i : ℕ) (y : A) → nth (xs ++ (x ∷ [])) i ≡ some y → Place i n → Is (part k ws i) y
      words i y q (below h) =
          let old = nth_there xs i x (omega (arith, h, a.many)) in
          subst (Is (part k ws i)) (some_same (sym (nth_append xs (x ∷ []) i old) ∙ q)) (a.words i (get_or xs i x) old)
      words i y q (here h) =
          let last = nth_seam xs x [] i (a.many ∙ sym h) in
          subst (Is (part k ws i)) (some_same (sym last ∙ q)) (subst (λ (j : ℕ). Is (part k ws j) x) (sym h) is)
      words i y q (past h) = absurd (omega (arith, nth_inside (xs ++ (x ∷ [])) i q, length-append xs (x ∷ []), a.many))

      rules : (i : ℕ) → i < suc n → Place i n → Ok (xs ++ (x ∷ [])) i
      rules i h (below q) = d.later xs x i (omega (arith, q, a.many)) (a.rules i q)
      rules i h (here q) = subst (Ok (xs ++ (x ∷ []))) (sym q) ok
      rules i h (past q) = absurd (omega arith)

  one_more : {n : ℕ} (xs : List A) → Keep k ws Is Ok n xs → Decided k ws Is Ok (suc n)
  one_more {n} xs a = on (d.parse (part k ws n))
    where
      breaks : ((x : A) → Is (part k ws n) x → Ok (xs ++ (x ∷ [])) n → ⊥) → Decided k ws Is Ok (suc n)
      breaks h = one_breaks n (record { inside = omega arith; lower = xs; keep = a; breaks = h })

      on : Found (Is (part k ws n)) → Decided k ws Is Ok (suc n)
      on (nothing h) = breaks (λ x is ok. h x is)
      on (it_is x is) = by (d.ok (xs ++ (x ∷ [])) n)
        where
          by : Dec (Ok (xs ++ (x ∷ [])) n) → Decided k ws Is Ok (suc n)
          by (yes ok) = all_keep (xs ++ (x ∷ [])) (keep_more a is ok)
          by (no h) = breaks (λ y is' ok. h (subst (λ (z : A). Ok (xs ++ (z ∷ [])) n) (d.one is' is) ok))

  pub decide_records : (n : ℕ) → Decided k ws Is Ok n
  unfolding nth
  decide_records zero = all_keep [] (record { many = refl; words = λ i x q. absurd (none_some q); rules = λ i h. absurd (omega arith) })
  decide_records (suc n) = on (decide_records n)
    where
      on : Decided k ws Is Ok n → Decided k ws Is Ok (suc n)
      on (all_keep xs a) = one_more xs a
      on (one_breaks j l) = one_breaks j (record { inside = omega (arith, l.inside); lower = l.lower; keep = l.keep; breaks = l.breaks })
