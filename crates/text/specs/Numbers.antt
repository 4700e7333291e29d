-- A number's digits, one byte after the other, give its decimal value; where that is over 4,294,967,295, one of them is answered
-- None, however many more follow. Assumes nothing.
use Rattle.std.specs.Prelude.{ℕ, ◌+◌, ◌*◌, ◌-◌, ◌≤◌, ◌<◌, ◌≡◌, refl, Bool, true, false, Option, Some, None, List, [], ◌∷◌, ltb}
use Rattle.std.proofs.Common.{arith, ltb-true, ltb-false, lt-ltb, le-ltb}
use Rattle.text.specs.Feeding.{pick, with_digit}

-- the number n with the digits bs behind it
abbrev pub decimal : ℕ → List ℕ → ℕ
decimal n [] = n
decimal n (b ∷ bs) = decimal (10 * n + (b - 48)) bs

-- one byte more
abbrev pub and_digit : Option ℕ → ℕ → Option ℕ
and_digit (Some n) b = with_digit n b
and_digit None b = None

-- the bytes bs, each after what the ones before it are read as
abbrev pub read_all : Option ℕ → List ℕ → Option ℕ
read_all d [] = d
read_all d (b ∷ bs) = read_all (and_digit d b) bs

abbrev pub limited : ℕ → Option ℕ
limited n = pick (ltb 4294967295 n) None (Some n)

grows : (n : ℕ) (bs : List ℕ) → n ≤ decimal n bs
grows n [] = omega arith
grows n (b ∷ bs) = omega (arith, grows (10 * n + (b - 48)) bs)

stays : (bs : List ℕ) → read_all None bs ≡ None
stays [] = refl
stays (b ∷ bs) = stays bs

-- one digit more, of which m is made: what holds of the rest
step :
    (m : ℕ) (bs : List ℕ) (t : Bool) →
    ltb 4294967295 m ≡ t →
    (m ≤ 4294967295 → read_all (Some m) bs ≡ limited (decimal m bs)) →
    read_all (pick t None (Some m)) bs ≡ limited (decimal m bs)
step m bs true e rest =
    let big : 4294967295 < decimal m bs = omega (arith, ltb-true 4294967295 m e, grows m bs) in
    simp (lt-ltb 4294967295 (decimal m bs) big) (stays bs)
step m bs false e rest = rest (ltb-false 4294967295 m e)

pub read_as_decimal : (n : ℕ) (bs : List ℕ) → n ≤ 4294967295 → read_all (Some n) bs ≡ limited (decimal n bs)
read_as_decimal n [] h = simp (le-ltb 4294967295 n h)
read_as_decimal n (b ∷ bs) h =
    step (10 * n + (b - 48)) bs (ltb 4294967295 (10 * n + (b - 48))) refl (read_as_decimal (10 * n + (b - 48)) bs)
