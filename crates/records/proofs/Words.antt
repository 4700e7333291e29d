-- A record that was written at a place of a list: what stands there, and what stands before it.
-- Assumes nothing.
use Prim.Native.Nat.{ℕ, zero, suc, ◌+◌, ◌*◌, ◌-◌, ◌≤◌, ◌<◌}
use native.Mathlib.Nat.{suc-add, zero-add}
use native.Mathlib.Omega.{arith}
use mathlib.Core.Path.{◌≡◌, sym, ap, ◌∙◌}
use mathlib.Core.List.{List, [], ◌∷◌, ◌++◌}
use lib.ListN.{length, take, drop, length-append, length-drop}
use lib.Seq.{take-nil, take-take, take_at, drop_at, length-take-le}
use Rattle.rules.specs.Accepted.{part}
use Rattle.rows.specs.declared.Ptr.{Ptr}
use Rattle.records.specs.Write.{record_of, pushed}

-- AFTER A PUSH

module _ (cs cs' : List ℕ) (depth : ℕ) (x : Ptr) (room : 5 * depth + 5 ≤ length cs) (is : cs' ≡ pushed cs depth x) where
  before : length (take (5 * depth) cs) ≡ 5 * depth
  before = length-take-le (5 * depth) cs (omega arith)

  pub push_keeps : take (5 * depth) cs' ≡ take (5 * depth) cs
  push_keeps = ap (take (5 * depth)) is ∙ take_at (take (5 * depth) cs) (record_of x ++ drop (5 * depth + 5) cs) (5 * depth) before

  pub push_part : part 5 cs' depth ≡ record_of x
  push_part = ap (take 5) (ap (drop (5 * depth)) is ∙ drop_at (take (5 * depth) cs) (record_of x ++ drop (5 * depth + 5) cs) (5 * depth) before)

  pub push_length : length cs' ≡ length cs
  push_length = ap length is ∙ simp (length-append, length-drop) (omega (arith, before))

-- RECORDS OF A PREFIX

drop-take : (n k : ℕ) (xs : List ℕ) → drop n (take (n + k) xs) ≡ take k (drop n xs)
drop-take zero k xs = rw zero-add
drop-take (suc n) k [] = rw (suc-add, take-nil)
drop-take (suc n) k (x ∷ xs) = rw suc-add (drop-take n k xs)

part_of_take : (ws : List ℕ) (n i : ℕ) → i < n → part 5 (take (5 * n) ws) i ≡ part 5 ws i
part_of_take ws n i h =
    let e : 5 * n ≡ 5 * i + 5 * (n - i) = omega arith in
    let few : 5 ≤ 5 * (n - i) = omega arith in
    rw (e, drop-take) (take-take 5 (5 * (n - i)) (drop (5 * i) ws) few)

-- two lists that agree on n records have the same parts there
pub part_same : (ws vs : List ℕ) (n i : ℕ) → take (5 * n) ws ≡ take (5 * n) vs → i < n → part 5 ws i ≡ part 5 vs i
part_same ws vs n i e h = sym (part_of_take ws n i h) ∙ ap (λ (us : List ℕ). part 5 us i) e ∙ part_of_take vs n i h
