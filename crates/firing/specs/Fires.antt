-- What a firing is given beside its term. Assumes nothing: these are definitions.
use Rattle.std.specs.Prelude.{ℕ, suc, ◌*◌, ◌≤◌, ◌<◌, ◌≡◌, List, [], eqb, length}
use Rattle.std.proofs.Math.Option.{Option, none, some}
use Rattle.rules.specs.Rows as rules
use Rattle.rules.specs.Rows.{Store, up}
use Rattle.rules.specs.Declarations.{value_of}
use Rattle.rules.specs.Firings.{Tally, itself}
use Rattle.rules.specs.Refusals.{Limits}
use Rattle.ways.specs.Steps.{Step, final, fire_in}
use Rattle.substitution.specs.Stores.{Good}
use Rattle.rows.specs.declared.Ptr.{Ptr}
use Rattle.rows.specs.Words.{ite, ptr_of}
use Rattle.tables.specs.declared.Decl.{Decl}
use Rattle.tables.specs.Env.{env_of}
use Rattle.tables.specs.Read.{found_value, value_given}

-- body and value stand in the store, and no sum of shifts wraps
pub record Opens (s : Store) (body value : Ptr) (by : ℕ) : Type 0 where
  pub body_good : Good s (ptr_of body)
  pub value_good : Good s (ptr_of value)
  pub body_shift : body.shift ≤ 65536
  pub value_shift : value.shift ≤ 65536
  pub move : by ≤ 65536

-- a pointer to go on with, or no rule
abbrev pub unfold_step : Limits → Tally → Option rules.Ptr → List rules.Ptr → Step
unfold_step lim m none xs = final m
unfold_step lim m (some v) xs = fire_in lim m (itself v) xs

abbrev pub raised : Store → ℕ → Option rules.Ptr → Option rules.Ptr
raised s k none = none
raised s k (some v) = some (up s v k)

-- "the value shifted i + 1"; the declarations and rules do not matter
abbrev pub context_value : List ℕ → ℕ → Store → ℕ → Option rules.Ptr
context_value cs depth s i = raised s (suc i) (value_of (env_of [] [] cs depth) i)

-- the record is there, its value stands among n rows, and no sum wraps
pub record HasContext (cs : List ℕ) (depth n i : ℕ) : Type 0 where
  pub records : 5 * depth ≤ length cs
  pub index : i < 65536
  pub there : (v : rules.Ptr) → value_of (env_of [] [] cs depth) i ≡ some v → v.row < n
  pub near : (v : rules.Ptr) → value_of (env_of [] [] cs depth) i ≡ some v → v.shift ≤ 65536

-- "Delta: a value and equal level counts"
abbrev pub unfolds_to : Decl → ℕ → Option rules.Ptr
unfolds_to d n = ite (eqb d.levels n) (found_value (value_given d)) none
