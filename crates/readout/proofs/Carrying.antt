-- What the loop over a path keeps, at i entries left: they carry the index to the same number, and no entry adds 2^32. Assumes nothing:
-- this is a definition.
use Prim.Native.Nat.{ℕ, ◌+◌, ◌*◌, ◌≤◌}
use mathlib.Core.Path.{◌≡◌}
use mathlib.Core.List.{List}
use Rattle.readout.specs.declared.Place.{Place}
use Rattle.readout.specs.Places.{carried_by}

pub record Carrying (path : List ℕ) (place : Place) (index i carried : ℕ) : Type 0 where
  pub bounded : carried + 4294967295 * i ≤ 4294967295 * (place.shifted + 1)
  pub same : carried_by path place.binders i carried ≡ carried_by path place.binders place.shifted index
