-- What the program tests before it asks for a walk. Assumes nothing: these are definitions.
use Rattle.std.specs.Prelude.{ℕ, ◌≡◌, Bool, true, List}
use Rattle.rules.specs.RowCheck.{AllPass, InScope}
use Rattle.rows.specs.declared.Ptr.{Ptr}
use Rattle.rows.specs.Words.{ptr_of, store_of}

-- all rows pass, and t is in scope at the largest depth
pub record Ready (l sc : List ℕ) (m : ℕ) (t : Ptr) : Type 0 where
  pub pass : AllPass 1 (store_of l sc m)
  pub scope : InScope (store_of l sc m) 4096 (ptr_of t)

-- a test that answers yes only where P holds
pub record Shows (P : Type 0) (b : Bool) : Type 0 where
  pub yes : b ≡ true → P
