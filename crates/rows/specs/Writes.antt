-- What a function that writes rows is given and what it promises. Assumes nothing: these are definitions.
use Rattle.std.specs.Prelude.{ℕ, ◌+◌, ◌*◌, ◌≤◌, ◌<◌, ◌≡◌, List, ◌++◌, ltb, length, take, drop}
use Rattle.rules.specs.Maxima.{most_level}
use Rattle.rules.specs.Kinds.{sort, plain}
use Rattle.rules.specs.Rows.{Store, leaf, got}
use Rattle.rules.specs.Accepted.{IsRow, part}
use Rattle.course.specs.Charged as course
use Rattle.course.specs.Charged.{put_in}
use Rattle.rows.specs.declared.Ptr.{Ptr}
use Rattle.rows.specs.declared.Shape.{Shape}
use Rattle.rows.specs.Refusals.{Out, number_of}
use Rattle.rows.specs.declared.refusals.Refusal.TheVariants.{NoFreeRow, NoSize}
use Rattle.std.specs.Prelude.{Ok, Err}
use Rattle.rows.specs.declared.kinds.Sizes.{Sizes}
use Rattle.rows.specs.Words.{ite, ptr_of, tag_at, decode, words_of, words_at, store_of}
use Rattle.rows.specs.Checks.{Tidy, Within}

-- an answer, with the words that were left, as the course's
abbrev pub out_of : Out → List ℕ → List ℕ → course.Out
out_of (Ok (p, m)) l sc = course.wrote (got (store_of l sc m) (ptr_of p))
out_of (Err k) l sc = course.refused (number_of k)

-- "A row with level over 255 gives 10 before 8"
abbrev pub sort_in : ℕ → Store → ℕ → course.Out
sort_in most s level = ite (ltb most_level level) (course.refused 10) (put_in most s (leaf (sort level)))

-- every used row is nine words as the rules have them
pub record AreRows (l sc : List ℕ) (m nlib : ℕ) : Type 0 where
  pub each : (n : ℕ) → n < nlib + m → IsRow (words_at l sc n) (decode (words_at l sc n))

-- from mark m to mark m': the new rows are nine words as the rules have them, and words past the new mark are as they were
pub record Grown (sc : List ℕ) (m : ℕ) (sc' : List ℕ) (m' : ℕ) : Type 0 where
  pub upward : m ≤ m'
  pub room : 9 * m' ≤ length sc'
  pub past : drop (9 * m') sc' ≡ drop (9 * m') sc
  pub rows : (i : ℕ) → m ≤ i → i < m' → IsRow (part 9 sc' i) (decode (part 9 sc' i))

-- what every writing function ensures: it answers what the course says, and rows below the old mark stand
pub record Wrote (l sc : List ℕ) (m : ℕ) (r : Out) (sc' : List ℕ) (out : course.Out) : Type 0 where
  pub says : out_of r l sc' ≡ out
  pub kept : take (9 * m) sc' ≡ take (9 * m) sc
  pub same_length : length sc' ≡ length sc
  pub grown : (p : Ptr) (m' : ℕ) → r ≡ Ok (p, m') → Grown sc m sc' m'

-- a kind and three pairs that may be written where n rows stand: children are there, and words that the kind does not use are 0
pub record Due (n : ℕ) (w : Shape) : Type 0 where
  pub kind : w.kind ≤ 8
  pub tidy : Tidy w
  pub first : (tag_at w.kind 0 ≡ plain → ⊥) → w.first.row < n
  pub second : (tag_at w.kind 1 ≡ plain → ⊥) → w.second.row < n
  pub third : (tag_at w.kind 2 ≡ plain → ⊥) → w.third.row < n

-- the row writer's own promise, on words: 8, 5, or the nine words at the mark
pub data Pushed (sc : List ℕ) (nlib m : ℕ) (w : Shape) (z : Sizes) : Out → List ℕ → Type 0 where
  too_large : (Within z → ⊥) → Pushed sc nlib m w z (Err NoSize) sc
  none_free : Within z → length sc < 9 * m + 9 → Pushed sc nlib m w z (Err NoFreeRow) sc
  at_mark : {p : Ptr} {sc' : List ℕ} → Within z → 9 * m + 9 ≤ length sc → p ≡ record { row = nlib + m; shift = 0 } →
      sc' ≡ take (9 * m) sc ++ (words_of w z.bound z.height ++ drop (9 * m + 9) sc) → Pushed sc nlib m w z (Ok (p, m + 1)) sc'
