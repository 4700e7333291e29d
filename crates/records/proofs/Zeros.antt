-- What callers read off the words that were cleared from a place to the end.
-- Assumes nothing.
use mathlib.Core.Path.{◌≡◌, ap, ap₂}
use mathlib.Core.List.{List, ◌++◌}
use Prim.Native.Nat.{ℕ, ◌*◌, ◌-◌, ◌≤◌}
use native.Mathlib.Omega.{arith}
use lib.ListN.{length, take, replicate, length-append, length-replicate}
use lib.Seq.{length-take-le, take_at}
use Rattle.rules.specs.Accepted.{Lent}
use Rattle.rules.specs.InferCall.{records_after}
use Rattle.records.specs.Write.{cleared_from}

pub cleared_keeps : (cs : List ℕ) (from : ℕ) → from ≤ length cs → take from (cleared_from from cs) ≡ take from cs
cleared_keeps cs from h = take_at (take from cs) (replicate (length cs - from) 0) from (length-take-le from cs h)

pub cleared_length : (cs : List ℕ) (from : ℕ) → from ≤ length cs → length (cleared_from from cs) ≡ length cs
cleared_length cs from h = simp (length-append, length-replicate) (omega (arith, length-take-le from cs h))

-- whatever was written from there on, the cleared words are those of the words as lent
pub cleared_same : (cs cs' : List ℕ) (from : ℕ) → take from cs' ≡ take from cs → length cs' ≡ length cs → cleared_from from cs' ≡ cleared_from from cs
cleared_same cs cs' from e q = ap₂ ◌++◌ e (ap (λ (n : ℕ). replicate (n - from) 0) q)

-- and those of the whole call: what the rules have the context's words be after inference
pub cleared_after : (w : Lent) (cs : List ℕ) → take (5 * w.depth) cs ≡ take (5 * w.depth) w.context → length cs ≡ length w.context →
    cleared_from (5 * w.depth) cs ≡ records_after w
cleared_after w cs e q = cleared_same w.context cs (5 * w.depth) e q
