-- Where an index stands to a cutoff, and what the read-out's tests (ltb, eqb) say there.
-- Shows: one of three places holds, and each test's answer at each place. Assumes nothing.
use Rattle.std.specs.Prelude.{ℕ, ◌≤◌, ◌<◌, ◌≡◌, refl, Bool, true, false, T, ltb, eqb}
use Rattle.std.proofs.Math.Decide.{dec_lt}
use Rattle.std.proofs.Common.{arith, subst, ltb→lt, lt→ltb, eqb→eq}
use Rattle.std.proofs.Math.Dec.{eqb_refl}

pub data Place (i c : ℕ) : Type 0 where
  below : i < c → Place i c
  here : i ≡ c → Place i c
  past : c < i → Place i c

pub place : (i c : ℕ) → Place i c
place i c = go (dec_lt i c) (dec_lt c i)
  where
    go : Dec (i < c) → Dec (c < i) → Place i c
    go (yes h) k = below h
    go (no h) (yes k) = past k
    go (no h) (no k) = here (omega arith)

passed : (b : Bool) → T b → b ≡ true
passed true t = refl
passed false t = absurd t

failed : (b : Bool) → (T b → ⊥) → b ≡ false
failed true f = absurd (f tt)
failed false f = refl

pub ltb_below : (i c : ℕ) → i < c → ltb i c ≡ true
ltb_below i c h = passed (ltb i c) (lt→ltb i c h)

pub ltb_from : (i c : ℕ) → c ≤ i → ltb i c ≡ false
ltb_from i c h = failed (ltb i c) (λ t. omega (arith, ltb→lt i c t))

pub eqb_here : (i c : ℕ) → i ≡ c → eqb i c ≡ true
eqb_here i c e = passed (eqb i c) (subst (λ (n : ℕ). T (eqb i n)) e (eqb_refl i))

pub eqb_past : (i c : ℕ) → c < i → eqb i c ≡ false
eqb_past i c h = failed (eqb i c) (λ t. omega (arith, eqb→eq i c t))
