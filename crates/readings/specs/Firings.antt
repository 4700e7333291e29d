-- What it means that a firing, or a reduction, reads out as what the tree rules lead to. The tree rules stand in TreeRules.antt, and the statements for
-- the head rules, and for reduction as a whole, in proofs/Firings.antt.
use Rattle.rules.specs.Rows.{Ptr, Store, Got}
use Rattle.rules.specs.Declarations.{Env}
use Rattle.rules.specs.ReadOut.{Tree, Reads}
use Rattle.substitution.specs.Replacing.{Replaced}
use Rattle.readings.specs.TreeRules.{Steps}

-- t reads as `before` in the rows s, what is due over the rows s₁ reads as `after`, and the tree rule P leads from the one to the other
pub record FiredAs (P : Tree → Tree → Type 0) (s : Store) (t : Ptr) (s₁ : Store) (g : Got) : Type 0 where
  pub before : Tree
  pub after : Tree
  pub reads_before : Reads s t before
  pub rule : P before after
  pub reads_after : Replaced s₁ g after

-- t reads as `before` in s, the answer t' as `after` in s', and tree rules lead from the one to the other
pub record ReducedAs (e : Env) (s : Store) (t : Ptr) (s' : Store) (t' : Ptr) : Type 0 where
  pub before : Tree
  pub after : Tree
  pub reads_before : Reads s t before
  pub steps : Steps e s before after
  pub reads_after : Reads s' t' after
