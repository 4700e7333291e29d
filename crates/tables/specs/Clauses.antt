-- What acceptance tests, clause by clause, on the words where they stand; ClauseLaws shows that together they are the rules' own.
-- Assumes nothing: these are definitions.
use Rattle.std.specs.Prelude.{ℕ, ◌+◌, ◌*◌, ◌%◌, ◌≤◌, ◌<◌, ◌≡◌, List, length, get_or, Result, Ok, Err, ⊤}
use Rattle.rules.specs.Maxima.{most_levels, most_rules}
use Rattle.rules.specs.Rows.{Ptr, ptr, blank, Store, cell_at, bound}
use Rattle.rules.specs.Accepted.{part, IsConstructor}
use Rattle.rows.specs.declared.refusals.Refused.{Refused}
use Rattle.rows.specs.declared.refusals.Refusal.TheVariants.{Table}
use Rattle.rows.specs.Refusals.{refused_at}

-- both slices are whole rows, and the first `rows` of them stand there
pub record Rows (l sc : List ℕ) (rows : ℕ) : Type 0 where
  pub whole_library : length l % 9 ≡ 0
  pub whole_scratch : length sc % 9 ≡ 0
  pub room : 9 * rows ≤ length l + length sc

-- a pointer at one of the first `rows` rows, in scope at `depth`. At depth 0 that is a closed term, at the store's length a term in scope.
pub record Scoped (s : Store) (rows depth : ℕ) (p : Ptr) : Type 0 where
  pub there : p.row < rows
  pub still : (cell_at s p.row).bound ≡ 0 → p.shift ≡ 0
  pub within : bound s p ≤ depth

-- a value by its flag
pub data ValueRight (s : Store) (rows depth : ℕ) (p : Ptr) : ℕ → Type 0 where
  no_value : p ≡ blank → ValueRight s rows depth p 0
  a_value : Scoped s rows depth p → ValueRight s rows depth p 1

-- A DECLARATION'S SIXTEEN WORDS

-- those from word n on are 0
pub record Idle (n : ℕ) (ws : List ℕ) : Type 0 where
  pub each : (i : ℕ) → n ≤ i → i < 16 → get_or ws i 0 ≡ 0

-- rule i of the list names a constructor, and its value is closed
pub record RuleRight (ds rs : List ℕ) (s : Store) (L i : ℕ) : Type 0 where
  pub constructor : IsConstructor ds (get_or (part 4 rs i) 0 0)
  pub value : Scoped s L 0 (ptr (get_or (part 4 rs i) 2 0) (get_or (part 4 rs i) 3 0))

pub record RulesRight (ds rs : List ℕ) (s : Store) (L first count : ℕ) : Type 0 where
  pub each : (i : ℕ) → i < count → RuleRight ds rs s L (first + i)

pub record RecursorRight (ds rs : List ℕ) (s : Store) (L : ℕ) (ws : List ℕ) : Type 0 where
  pub k_flag : get_or ws 12 0 ≡ 0
  pub last : get_or ws 15 0 ≡ 0
  pub few : get_or ws 14 0 ≤ most_rules
  pub inside : 4 * (get_or ws 13 0 + get_or ws 14 0) ≤ length rs
  pub rules : RulesRight ds rs s L (get_or ws 13 0) (get_or ws 14 0)

-- by kind: plain, constructor, recursor, structure
pub data FormRight (ds rs : List ℕ) (s : Store) (L : ℕ) (ws : List ℕ) : ℕ → Type 0 where
  plain_right : Idle 8 ws → FormRight ds rs s L ws 0
  constructor_right : Idle 10 ws → FormRight ds rs s L ws 1
  recursor_right : RecursorRight ds rs s L ws → FormRight ds rs s L ws 2
  structure_right : Idle 10 ws → IsConstructor ds (get_or ws 9 0) → FormRight ds rs s L ws 3

-- all but the role
pub record DeclRight (ds rs : List ℕ) (s : Store) (L : ℕ) (ws : List ℕ) : Type 0 where
  pub levels : get_or ws 1 0 ≤ most_levels
  pub type : Scoped s L 0 (ptr (get_or ws 2 0) (get_or ws 3 0))
  pub value : ValueRight s L 0 (ptr (get_or ws 5 0) (get_or ws 6 0)) (get_or ws 4 0)
  pub form : FormRight ds rs s L ws (get_or ws 0 0)

-- declaration j has a role that no lower one has, or none
pub record RoleRight (ds : List ℕ) (j role : ℕ) : Type 0 where
  pub code : role ≤ 15
  pub first : (i : ℕ) → i < j → get_or ds (16 * i + 7) 0 ≡ role → role ≡ 0

pub record DeclKeeps (ds rs : List ℕ) (s : Store) (L j : ℕ) : Type 0 where
  pub words : DeclRight ds rs s L (part 16 ds j)
  pub role : RoleRight ds j (get_or ds (16 * j + 7) 0)

-- what is remembered of the lower declarations: 0 at a role that is free
pub record RoleFree (seen : List ℕ) (role : ℕ) : Type 0 where
  pub code : role ≤ 15
  pub free : (role ≡ 0 → ⊥) → get_or seen role 0 ≡ 0

-- A CONTEXT RECORD'S FIVE WORDS

pub record EntryRight (cs : List ℕ) (s : Store) (rows j : ℕ) : Type 0 where
  pub type : Scoped s rows j (ptr (get_or (part 5 cs j) 0 0) (get_or (part 5 cs j) 1 0))
  pub value : ValueRight s rows j (ptr (get_or (part 5 cs j) 2 0) (get_or (part 5 cs j) 3 0)) (get_or (part 5 cs j) 4 0)

-- THE LOWEST

-- what is asked of each below n: it holds of all, or refusal 3 at the lowest of which it does not
pub data Upward (P : ℕ → Type 0) (n : ℕ) : Result ⊤ Refused → Type 0 where
  all_hold : ((i : ℕ) → i < n → P i) → Upward P n (Ok tt)
  fails_at : {j : ℕ} → j < n → ((i : ℕ) → i < j → P i) → (P j → ⊥) → Upward P n (Err (refused_at Table j))
