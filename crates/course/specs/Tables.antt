-- What the tables of examples share: a case with its budgets, and the evaluator's answer to it.
use Rattle.std.specs.Prelude.{ℕ, ◌+◌, ◌-◌, List, length}
use Rattle.std.proofs.Math.Option.{Option, none, some}
use Rattle.rules.specs.Kinds.{fields, app}
use Rattle.rules.specs.Rows.{Ptr, ptr, blank, Row, node, Store, cell, cell_at, field_bound, field_height, grow}
use Rattle.rules.specs.Declarations.{Role, Form, plain, Decl, Entry, Env, nth, decl_at, holder_from, holder, value_of}
use Rattle.rules.specs.Spines.{joined}
use Rattle.rules.specs.Arithmetic.{compute}
use Rattle.rules.specs.HeadTests.{as_constant, as_number, field_at, quot_parts, quot_made, rec_parts, number_made, as_constructor, rule_for, by_rule, operands}
use Rattle.rules.specs.HeadTests.{outcome, unfolds}
use Rattle.rules.specs.Call.{Answer, term, refused}
use Rattle.rules.specs.ReadOut.{Tree}
use Rattle.course.specs.Views.{cmp, app_view, fit_view, number_view}
use Rattle.course.specs.Tries.{◌or_else◌, lambda, variable, projection, quot, recursion, arithmetic, delta, constant, at_row, rules}
use Rattle.course.specs.Eval.{on_row, replace_by, spine_by, give, due_of, Res, ok, no, lost, emit, fire, try, at_the_head, loop, side_at, eval}
use Rattle.course.specs.Reading.{read_out}

-- row r, not shifted
abbrev pub at : ℕ → Ptr
at r = ptr r 0

-- an application of two rows
abbrev pub ap' : ℕ → ℕ → Row
ap' f a = node app (at f) (at a) blank

-- an axiom that holds a role
abbrev pub axiom' : Role → Decl
axiom' r = record { form = plain; levels = 0; type = at 0; value = none; role = r }

abbrev pub of_form : Form → Role → Decl
of_form φ r = record { form = φ; levels = 0; type = at 0; value = none; role = r }

abbrev pub declared : List Decl → List Entry → Env
declared ds xs = record { decls = ds; context = xs }

-- what is asked, within which budgets, and what the document answers; `reads` is the read-out of a term
pub record Case : Type 0 where
  pub context : List Entry
  pub asked : Ptr
  pub steps : ℕ
  pub free : ℕ
  pub nesting : ℕ
  pub says : Answer
  pub reads : Option Tree

-- what is seen of a result: none where the evaluator is lost
unfoldable pub answer_of : Store → Res → Option Answer
answer_of s (ok m t) = some (term t m.steps (length m.store - length s))
answer_of s (no k) = some (refused k 0)
answer_of s lost = none

unfoldable pub read_of : Res → Option Tree
unfolding read_out
read_of (ok m t) = read_out m.store t
read_of (no k) = none
read_of lost = none

pub record Seen : Type 0 where
  pub answer : Option Answer
  pub reads : Option Tree

-- the evaluator's answer over one library and one list of declarations
unfoldable pub seen : List Decl → Store → Case → Seen
unfolding answer_of read_of eval side_at loop at_the_head try fire emit due_of give spine_by replace_by on_row cmp app_view fit_view number_view rules at_row constant ◌or_else◌ delta arithmetic recursion quot projection variable lambda unfolds outcome operands by_rule rule_for as_constructor number_made rec_parts quot_made quot_parts field_at as_number as_constant compute joined value_of holder holder_from decl_at nth fields cell cell_at field_bound field_height grow
seen ds s c =
    let r : Res = eval (declared ds c.context) (record { steps = c.steps; rows = length s + c.free }) c.nesting s c.asked in
    record { answer = answer_of s r; reads = read_of r }

abbrev pub expected : Case → Seen
expected c = record { answer = some c.says; reads = c.reads }
