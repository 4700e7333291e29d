-- Each firing of the rules reads out as the tree rule that it stands for: a statement for each head rule in document 01's order, then one for all
-- eight, then reduction as a whole. The tree rules stand in specs/TreeRules.antt.
-- Assumes a sane store and a term in scope, which accepted input gives, and the premises of the rule as crates/rules has them.
-- What is due reads out the same when it is paid for: `pays_due` of crates/substitution leads from `Pays` to `Due`.
use Rattle.std.specs.Prelude.{ℕ, suc, ◌+◌, ◌≡◌, List, ◌∷◌}
use Rattle.std.proofs.Math.Option.{some}
use Rattle.rules.specs.Kinds as K
use Rattle.rules.specs.Rows.{Ptr, Row, node, Store, up, Got}
use Rattle.rules.specs.Rows as R
use Rattle.rules.specs.RowCheck.{InScope}
use Rattle.rules.specs.Declarations.{Decl, Env, value_of}
use Rattle.rules.specs.Accepted.{Lent, Accepted}
use Rattle.rules.specs.Firings.{Tally, Result, opened, itself, Due}
use Rattle.rules.specs.HeadTests.{field_at, unfolds}
use Rattle.rules.specs.HeadRules.{Head, Constant, Reduces, Side, Fires, field, by_quot, by_recursor, by_arithmetic, by_delta}
use Rattle.rules.specs.HeadRules.{Quot, NoQuot, Rec, NoRec, Arith, NoArith}
use Rattle.rules.specs.Refusals.{Limits, Answered}
use Rattle.rules.specs.ReadOut.{Tree}
use Rattle.course.specs.ToTries.{to_fires}
use Rattle.substitution.specs.Stores.{Formed, scope_good, ext_same}
use Rattle.substitution.specs.Reading.{Read, reads_exists}
use Rattle.substitution.specs.Applied.{apply}
use Rattle.safety.specs.Sane.{depth_of, Sane, accepted_ready}
use Rattle.safety.specs.Safe.{term_safe}
use Rattle.safety.specs.Keeps.{comes_keep}
use Rattle.readings.specs.TreeRules.{Beta, Zeta, LocalDelta, Delta, Projection, Quotient, Iota, Step, AfterSide, AfterBoth}
use Rattle.readings.specs.Rules.{Given, given_due, beta_read, zeta_read, projection_read}
use Rattle.readings.proofs.Course.{formed, structure_scope, at_head, past_quot, past_two, past_arithmetic, local_at, delta_at, side_read, quot_read, rec_read}
use Rattle.readings.proofs.Course.{arith_read, firing_read, reduction_read}
use Rattle.readings.specs.Firings.{FiredAs, ReducedAs}

-- what a term in scope reads as
the_tree : {e : Env} {s : Store} {t : Ptr} → Sane e s → InScope s (depth_of e) t → Read s t
the_tree sane scope = reads_exists (formed sane) (scope_good scope)

fired_as : {P : Tree → Tree → Type 0} {s s₁ : Store} {t : Ptr} {r : Result} {xs : List Ptr} {g : Got} (u : Read s t) → Formed s₁ → Given (P u.tree) s₁ r xs →
    Due s₁ r xs g → FiredAs P s t s₁ g
fired_as u f v due = record {
  before = u.tree;
  after = apply v.result v.rest;
  reads_before = u.reads;
  rule = v.rule;
  reads_after = given_due f v due;
}

-- RULES WITHOUT A SIDE REDUCTION

module _ {e : Env} {s : Store} {t : Ptr} (sane : Sane e s) (scope : InScope s (depth_of e) t) where
  -- "Lambda, at least one argument: one argument a time, replaced into the body with k the head's shift."
  pub lambda_fires : {k : ℕ} {x b z a : Ptr} {xs : List Ptr} {g : Got} →
      Head s t (node K.lam x b z) k (a ∷ xs) → Due s (opened b a k) xs g → FiredAs Beta s t s g
  lambda_fires h due = fired_as (the_tree sane scope) (formed sane) (beta_read (formed sane) (scope_good scope) (the_tree sane scope).reads h) due

  -- "Let: its value (shifted with the head) into the body, same k."
  pub let_fires : {k : ℕ} {x v b a : Ptr} {xs : List Ptr} {g : Got} →
      Head s t (node K.let' x v b) k xs → up s v k ≡ a → Due s (opened b a k) xs g → FiredAs Zeta s t s g
  let_fires h q due = fired_as (the_tree sane scope) (formed sane) (zeta_read (formed sane) (scope_good scope) (the_tree sane scope).reads h q) due

  -- "Variable i with a context value: the value shifted i + 1."
  pub variable_fires : {k i : ℕ} {v a : Ptr} {xs : List Ptr} {g : Got} →
      Head s t (R.var i) k xs → value_of e (i + k) ≡ some v → up s v (suc (i + k)) ≡ a → Due s (itself a) xs g →
      FiredAs (LocalDelta e s) s t s g
  variable_fires h q y due = fired_as (the_tree sane scope) (formed sane) (local_at sane (ext_same s) sane scope (the_tree sane scope).reads h q y) due

-- RULES WITH A SIDE REDUCTION, AND DELTA AFTER THEM

module _ {e : Env} {d : ℕ} {m : Tally} {t : Ptr} (sane : Sane e m.store) (scope : InScope m.store (depth_of e) t) where
  -- a firing leaves a formed store
  fired : {P : Tree → Tree → Type 0} {m₁ : Tally} {r : Result} {xs : List Ptr} {g : Got} → Fires e d m t m₁ r xs →
      Given (P (the_tree sane scope).tree) m₁.store r xs → Due m₁.store r xs g → FiredAs P m.store t m₁.store g
  fired f v due =
      let a = to_fires e f in
      fired_as (the_tree sane scope) (formed (comes_keep a.comes sane (term_safe sane scope a.spine)).sane) v due

  -- "Projection: the structure's side reduction must end in a constructor with an argument at parameters + index; that argument."
  pub projection_fires : {k c i : ℕ} {m₁ : Tally} {x y z a : Ptr} {w : Row} {xs ys : List Ptr} {g : Got} →
      Head m.store t (node (K.proj c i) x y z) k xs → Side e d m (up m.store x k) m₁ w ys → field_at e w ys i ≡ some a → Due m₁.store (itself a) xs g →
      FiredAs (AfterSide e m.store (Projection e)) m.store t m₁.store g
  projection_fires h sd q due =
      let side = side_read sane (ext_same m.store) sane (structure_scope sane scope h) sd in
      fired (field h sd q) (projection_read (formed sane) (scope_good scope) (the_tree sane scope).reads h side q) due

  -- "Quot.lift .., Quot.ind ..: side reduction must end in Quot.mk with exactly 3 arguments. Result: argument 3 applied to the third, rest after the major."
  pub quotient_fires : {n : ℕ} {m₁ : Tally} {D : Decl} {r : Result} {xs ys : List Ptr} {g : Got} →
      Constant e m.store t D n xs → Quot e d m D xs m₁ r ys → Due m₁.store r ys g →
      FiredAs (AfterSide e m.store (Quotient e)) m.store t m₁.store g
  quotient_fires h q due = fired (by_quot h q) (quot_read sane (ext_same m.store) sane scope (the_tree sane scope).reads h q) due

  -- "Recursor ..: Result: rule value, the first parameters + motives + minors arguments, the constructor's last fields, the rest."
  pub recursor_fires : {n : ℕ} {m₁ m₂ : Tally} {D : Decl} {r : Result} {xs ys : List Ptr} {g : Got} →
      Constant e m.store t D n xs → NoQuot e d m D xs m₁ → Rec e d m₁ D n xs m₂ r ys → Due m₂.store r ys g →
      FiredAs (AfterSide e m.store (Iota e m.store)) m.store t m₂.store g
  recursor_fires h nq q due =
      fired (by_recursor h nq q) (rec_read sane (ext_same m.store) sane scope (the_tree sane scope).reads h (past_quot (at_head sane scope h) nq) q) due

  -- "Arithmetic role with exactly two arguments: both reduce to numbers": the number's tree, or the constant that holds true or false
  pub arithmetic_fires : {n : ℕ} {m₁ m₂ m₃ : Tally} {D : Decl} {r : Result} {xs ys : List Ptr} {g : Got} →
      Constant e m.store t D n xs → NoQuot e d m D xs m₁ → NoRec e d m₁ D n xs m₂ → Arith e d m₂ D xs m₃ r ys → Due m₃.store r ys g →
      FiredAs (AfterBoth e m.store) m.store t m₃.store g
  arithmetic_fires h nq nr q due =
      fired (by_arithmetic h nq nr q) (arith_read sane (ext_same m.store) sane scope (the_tree sane scope).reads h (past_two (at_head sane scope h) h nq nr) q) due

  -- "Delta: a value and equal level counts."
  pub delta_fires : {n : ℕ} {m₁ m₂ m₃ : Tally} {D : Decl} {v : Ptr} {xs : List Ptr} {g : Got} →
      Constant e m.store t D n xs → NoQuot e d m D xs m₁ → NoRec e d m₁ D n xs m₂ → NoArith e d m₂ D xs m₃ → unfolds D n ≡ some v →
      Due m₃.store (itself v) xs g → FiredAs (Delta e m.store) m.store t m₃.store g
  delta_fires h nq nr na q due =
      let past = past_arithmetic (past_two (at_head sane scope h) h nq nr) na in
      fired (by_delta h nq nr na q) (delta_at sane (ext_same m.store) sane scope (the_tree sane scope).reads h past q) due

  -- "A rule that fires costs one step, then writes its rows, then applies the remaining arguments": whichever rule it is, its tree rule
  pub firing_reads : {m₁ : Tally} {r : Result} {xs : List Ptr} {g : Got} → Fires e d m t m₁ r xs → Due m₁.store r xs g →
      FiredAs (Step e m.store) m.store t m₁.store g
  firing_reads f due = fired f (firing_read sane (ext_same m.store) sane scope (the_tree sane scope).reads f) due

  -- "reduction goes on with the result": tree rules in a row
  pub reduction_reads : {m' : Tally} {t' : Ptr} → Reduces e d m t m' t' → ReducedAs e m.store t m'.store t'
  reduction_reads r =
      let z = reduction_read sane (ext_same m.store) sane scope (the_tree sane scope).reads r in
      record { before = (the_tree sane scope).tree; after = z.tree; reads_before = (the_tree sane scope).reads; steps = z.steps; reads_after = z.reads }

-- so the answer to an accepted call reads out as what the tree rules lead the asked term to
pub accepted_reads : {w : Lent} {e : Env} {s : Store} {lim : Limits} {n k : ℕ} {t' : Ptr} {s' : Store} → Accepted w e s →
    Answered e lim n s w.term t' k s' → ReducedAs e s w.term s' t'
accepted_reads a q = reduction_reads (accepted_ready a).sane (accepted_ready a).term q.reduces
