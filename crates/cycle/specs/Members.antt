-- What each member of the cycle answers: the step that the evaluator comes to when it tries that member's rule. Assumes nothing: these are definitions.
use Rattle.std.specs.Prelude.{ℕ, List}
use Rattle.rules.specs.Declarations.{decl_at}
use Rattle.course.specs.Tries.{projection, quot, recursion, arithmetic, constant}
use Rattle.ways.specs.Steps.{Step}
use Rattle.ways.specs.Spines.{args_of}
use Rattle.rows.specs.declared.Ptr.{Ptr}
use Rattle.rows.specs.Words.{ptr_of}
use Rattle.state.specs.declared.Given.{Given}
use Rattle.state.specs.declared.Meter.{Meter}
use Rattle.cycle.specs.Cycle.{step_by}

-- t is the term whose head is tried, n the levels that are left for side reductions
module _ (l ds rs cs sc : List ℕ) (g : Given) (m : Meter) (t : Ptr) (n : ℕ) where
  abbrev pub projected : Ptr → ℕ → Step
  projected x index = step_by l ds rs cs sc g m n λ e s. projection e (ptr_of x) index (args_of s (ptr_of t))

  -- d is the constant's declaration
  abbrev pub quotient : ℕ → Step
  quotient d = step_by l ds rs cs sc g m n λ e s. quot e (decl_at e.decls d) (args_of s (ptr_of t))

  abbrev pub recursed : ℕ → ℕ → Step
  recursed d levels = step_by l ds rs cs sc g m n λ e s. recursion e (decl_at e.decls d) levels (args_of s (ptr_of t))

  abbrev pub computed : ℕ → Step
  computed d = step_by l ds rs cs sc g m n λ e s. arithmetic e (decl_at e.decls d) (args_of s (ptr_of t))

  abbrev pub constantly : ℕ → ℕ → Step
  constantly d levels = step_by l ds rs cs sc g m n λ e s. constant e (decl_at e.decls d) levels (args_of s (ptr_of t))
