-- What a function that writes rows promises inference: the writer's own answer, with the steps as they were.
-- Assumes nothing: these are definitions.
use Rattle.std.specs.Prelude.{ℕ, ◌+◌, ◌≤◌, ◌≡◌, List, length}
use Rattle.rules.specs.Rows.{cell}
use Rattle.substitution.specs.Stores.{FieldsOk}
use Rattle.substitution.specs.Passing.{Worded}
use Rattle.course.specs.Charged as course
use Rattle.safety.specs.Sane.{decl_count}
use Rattle.rows.specs.Refusals.{Out}
use Rattle.rows.specs.declared.Shape.{Shape}
use Rattle.rows.specs.Words.{row_of}
use Rattle.rows.specs.Writes.{Wrote, Due}
use Rattle.state.specs.declared.Meter.{Meter}
use Rattle.state.specs.State.{Reduced}
use Rattle.typing.specs.Here.{Here, depth_at, env_at, store_at}
use Rattle.std.specs.Prelude.{Err, Ok}

abbrev pub reduced_by : ℕ → Out → Reduced
reduced_by steps (Ok (p, mark)) = Ok (p, record { mark = mark; steps = steps })
reduced_by steps (Err k) = Err k

pub record Written (l sc : List ℕ) (m : Meter) (r : Reduced) (sc' : List ℕ) (due : course.Out) : Type 0 where
  pub answer : Out
  pub wrote : Wrote l sc m.mark answer sc' due
  pub is : r ≡ reduced_by m.steps answer

-- a row that may be written here: its children stand, its words are in range, and it is in scope
pub record Writable (h : Here) (w : Shape) : Type 0 where
  pub due : Due (h.given.nlib + h.meter.mark) w
  pub fields : FieldsOk (store_at h) (length (store_at h)) (row_of w)
  pub worded : Worded (decl_count (env_at h)) (row_of w)
  pub bound : (cell (store_at h) (row_of w)).bound ≤ depth_at h
