-- What the walks along a spine are given and what they answer. Assumes nothing: these are definitions.
use Rattle.std.specs.Prelude.{ℕ, ◌+◌, ◌-◌, ◌≤◌, ◌<◌, ◌≡◌, List, [], length, take, drop}
use Rattle.std.proofs.Math.Option.{some}
use Rattle.rules.specs.Maxima.{most_bound}
use Rattle.rules.specs.Rows as rules
use Rattle.rules.specs.Rows.{Store}
use Rattle.rules.specs.RowCheck.{AllPass, InScope}
use Rattle.rules.specs.Declarations.{nth}
use Rattle.rules.specs.Spines.{Spine}
use Rattle.course.specs.Charged.{Out, join_in}
use Rattle.ways.specs.Spines.{args_of}
use Rattle.rows.specs.declared.Ptr.{Ptr}
use Rattle.rows.specs.Words.{ptr_of, pair_at, words_at, store_of, Stands, Held}
use Rattle.spine.specs.declared.Spined.{Spined}

-- t is a term in scope at some depth, in rows that pass; scratch rows are used up to some mark
pub record Walks (l sc : List ℕ) (t : Ptr) : Type 0 where
  pub mark : ℕ
  pub nlib : ℕ
  pub depth : ℕ
  pub declarations : ℕ
  pub held : Held l sc mark nlib
  pub pass : AllPass declarations (store_of l sc mark)
  pub scope : InScope (store_of l sc mark) depth (ptr_of t)
  pub small : depth ≤ most_bound

-- pair j of t's row can be read and take t's shift on
pub record HasChild (l sc : List ℕ) (t : Ptr) (j : ℕ) : Type 0 where
  pub here : Stands l sc t.row
  pub there : Stands l sc (pair_at (words_at l sc t.row) j).row
  pub fits : (pair_at (words_at l sc t.row) j).shift + t.shift < 4294967296

-- the head and the count of arguments; `Spine` is the rules', and fixes both
pub record Walked (s : Store) (t : rules.Ptr) (r : Spined) : Type 0 where
  pub arguments : List rules.Ptr
  pub spine : Spine s t [] (ptr_of r.head) arguments
  pub many : length arguments ≡ r.count

-- the argument at a position of the spine at t, which has `count` of them
pub record Argument (s : Store) (t : rules.Ptr) (count i : ℕ) (r : Ptr) : Type 0 where
  pub is : (h : rules.Ptr) (xs : List rules.Ptr) → Spine s t [] h xs → length xs ≡ count → nth xs i ≡ some (ptr_of r)

-- the spine at t has `count` arguments
pub record Counted (l sc : List ℕ) (t : Ptr) (count : ℕ) : Type 0 where
  pub walks : Walks l sc t
  pub counted : length (args_of (store_of l sc walks.mark) (ptr_of t)) ≡ count

-- f applied to the arguments from..to of the spine at t
abbrev pub run_in : ℕ → Store → rules.Ptr → rules.Ptr → ℕ → ℕ → Out
run_in most s f t from to = join_in most s f (take (to - from) (drop from (args_of s t)))

-- what applying a run is given: rows that pass up to the mark, t in scope with `count` arguments, f below the mark
pub record Applies (l sc : List ℕ) (nlib m : ℕ) (f t : Ptr) (count from to : ℕ) : Type 0 where
  pub depth : ℕ
  pub declarations : ℕ
  pub held : Held l sc m nlib
  pub pass : AllPass declarations (store_of l sc m)
  pub scope : InScope (store_of l sc m) depth (ptr_of t)
  pub small : depth ≤ most_bound
  pub counted : length (args_of (store_of l sc m) (ptr_of t)) ≡ count
  pub there : f.row < nlib + m
  pub run : from ≤ to
  pub inside : to ≤ count
