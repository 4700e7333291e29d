-- Where the writer stands on its way down the rows, and a variable's index with the shifts on that way carried out. Assumes nothing:
-- these are definitions.
use Rattle.std.specs.Prelude.{ℕ, zero, suc, ◌+◌, ◌*◌, ◌-◌, ◌%◌, ◌≤◌, ◌<◌, ◌≡◌, Bool, true, false, List, leb, length, get_or}
use Rattle.readout.specs.declared.Place.{Place}

-- an index that was loose at the shifted pointer goes up by its shift
abbrev pub raised : Bool → ℕ → ℕ → ℕ
raised true shift i = i + shift
raised false shift i = i

-- the last k entries of a path, two words each: the binders crossed to a shifted pointer, and its shift; `binders` is their count where
-- the variable stands
abbrev pub carried_by : List ℕ → ℕ → ℕ → ℕ → ℕ
carried_by path binders zero i = i
carried_by path binders (suc k) i =
    carried_by path binders k (raised (leb (binders - get_or path (2 * k) 0) i) (get_or path (2 * k + 1) 0) i)

-- both lists are whole rows
pub record Whole (l sc : List ℕ) : Type 0 where
  pub library : length l % 9 ≡ 0
  pub scratch : length sc % 9 ≡ 0

-- before a pointer: a path has at most 2,000 levels, so it passes no more shifted pointers, and crosses no more binders
pub record Room (p : Place) : Type 0 where
  pub shifts : p.shifted + p.levels ≤ 2000
  pub binders : p.binders + p.levels ≤ 2000

-- at its row, below which one level less follows
pub record RoomBelow (p : Place) : Type 0 where
  pub some_level : 0 < p.levels
  pub shifts : p.shifted + p.levels ≤ 2001
  pub binders : p.binders + p.levels ≤ 2000
