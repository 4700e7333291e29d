-- "Under nesting 0 inference gives a type only for sort, constant, variable and number", of the rules themselves. It holds for all stores.
use Rattle.std.specs.Prelude.{ℕ, zero}
use Rattle.std.proofs.Common.{sym, subst}
use Rattle.rules.specs.Kinds.{sort, const, num}
use Rattle.rules.specs.Rows.{Ptr, Row, var, node, row_at}
use Rattle.rules.specs.Declarations.{Env}
use Rattle.rules.specs.Firings.{Tally}
use Rattle.rules.specs.Inference.{Infers, of_sort, of_constant, of_variable, of_number, of_application, of_lambda, of_pi, of_let, of_projection, Part}

-- a row whose type is asked of no part
pub data NoPart : Row → Type 0 where
  a_sort : {l : ℕ} {x y z : Ptr} → NoPart (node (sort l) x y z)
  a_constant : {c n : ℕ} {x y z : Ptr} → NoPart (node (const c n) x y z)
  a_variable : {i : ℕ} → NoPart (var i)
  a_number : {n : ℕ} {x y z : Ptr} → NoPart (node (num n) x y z)

no_part : {e : Env} {r : ℕ} {m m' : Tally} {t p : Ptr} → Part e zero r m t m' p → ⊥
no_part = elim [ ]

pub nesting_zero : {e : Env} {r : ℕ} {m m' : Tally} {t p : Ptr} → Infers e zero r m t m' p → NoPart (row_at m.store t.row)
nesting_zero (of_sort q l w) = subst NoPart (sym q) a_sort
nesting_zero (of_constant q l h) = subst NoPart (sym q) a_constant
nesting_zero (of_variable q h u) = subst NoPart (sym q) a_variable
nesting_zero (of_number q h w) = subst NoPart (sym q) a_number
nesting_zero (of_application q f o u) = absurd (no_part f)
nesting_zero (of_lambda q x b f w) = absurd (no_part f)
nesting_zero (of_pi q x f o b g k w) = absurd (no_part f)
nesting_zero (of_let q o f) = absurd (no_part f)
nesting_zero (of_projection q x f o i h a b k g u) = absurd (no_part f)
