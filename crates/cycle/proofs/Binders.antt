-- A lambda or a let at the head, and heads that no rule is for: what the code answers is what trying the rules at the head comes to.
-- Assumes what the member is given.
use Prim.Native.Nat.{ℕ}
use native.Mathlib.Omega.{arith}
use mathlib.Core.Path.{◌≡◌, refl, sym, ap, ◌∙◌, subst}
use mathlib.Core.List.{List, [], ◌∷◌}
use mathlib.Core.Option.{some}
use lib.ListN.{length, drop}
use Rattle.rules.specs.Kinds.{lam, let', proj}
use Rattle.rules.specs.Rows as rules
use Rattle.rules.specs.Rows.{Row, node, Store, row_at, up}
use Rattle.rules.specs.RowCheck.{InScope}
use Rattle.rules.specs.Declarations.{Env, nth}
use Rattle.rules.specs.Firings.{Result, opened}
use Rattle.course.specs.Tries.{no_rule, fires, lambda}
use Rattle.course.specs.Eval.{try}
use Rattle.safety.specs.Lists.{none_some}
use Rattle.safety.specs.Sane.{depth_of, decl_count}
use Rattle.safety.specs.Scope.{AllIn, BodyIn, RowIn, row_in, lambda_body_in, let_value_in, let_body_in, structure_in, ResultIn, opened_in}
use Rattle.safety.specs.Parts.{nth_in}
use Rattle.ways.specs.Steps.{Step, final, fire_in}
use Rattle.ways.specs.Spines.{head_of, args_of}
use Rattle.rows.specs.declared.Ptr.{Ptr}
use Rattle.rows.specs.Words.{ptr_of, store_of}
use Rattle.tables.specs.Env.{env_of}
use Rattle.state.specs.declared.Given.{Given}
use Rattle.state.specs.declared.Meter.{Meter}
use Rattle.state.specs.State.{tally_of, limits_in}
use Rattle.cycle.specs.Cycle.{Asked, head_by}
use Rattle.cycle.specs.Course.{parts_in, fires_in}
use Rattle.cycle.proofs.Standing.{to_depth}
use Rattle.cycle.proofs.Constants.{tried}
use Rattle.cycle.proofs.Heads.{head_lambda, head_let}

module _ {l ds rs cs sc : List ℕ} {g : Given} {m : Meter} {t : Ptr} (a : Asked l ds rs cs sc g m t) (n : ℕ) where
  abbrev e : Env
  e = env_of ds rs cs g.depth

  abbrev s : Store
  s = store_of l sc m.mark

  abbrev h : rules.Ptr
  h = head_of s (ptr_of t)

  abbrev xs : List rules.Ptr
  xs = args_of s (ptr_of t)

  abbrev head : Step
  head = head_by l ds rs cs sc g m n (ptr_of t)

  pub arguments_in : AllIn s (depth_of e) xs
  arguments_in = (parts_in a.stand.sane (to_depth a.stand a.scope)).arguments

  -- the head's row, with its children's bounds
  pub head_row_in : {w : Row} → row_at s h.row ≡ w → RowIn (decl_count e) s (depth_of e) h.shift w
  head_row_in q =
      subst (RowIn (decl_count e) s (depth_of e) h.shift) q (row_in a.stand.sane.pass (parts_in a.stand.sane (to_depth a.stand a.scope)).head)

  -- no rule
  pub no_rule_tried : final (tally_of l sc m) ≡ tried e l g n sc m no_rule
  unfolding try
  no_rule_tried = refl

  fires_tried : (r : Result) (ys : List rules.Ptr) → ResultIn (decl_count e) s (depth_of e) r → fire_in (limits_in g sc) (tally_of l sc m) r ys ≡ tried e l g n sc m (fires r ys)
  unfolding try
  fires_tried r ys i = fires_in (limits_in g sc) (tally_of l sc m) r ys a.stand.sane i

  -- LET
  pub let_fires : {x y z : rules.Ptr} → row_at s h.row ≡ node let' x y z →
      fire_in (limits_in g sc) (tally_of l sc m) (opened z (up s y h.shift) h.shift) xs ≡ head
  let_fires q = fires_tried _ xs (opened_in (let_body_in (head_row_in q)) (let_value_in (head_row_in q))) ∙ sym (head_let a n q)

  -- LAMBDA, with or without an argument
  lambda_none : (y : rules.Ptr) (ys : List rules.Ptr) → length ys ≡ 0 → final (tally_of l sc m) ≡ tried e l g n sc m (lambda y h.shift ys)
  unfolding lambda
  lambda_none y [] z = no_rule_tried
  lambda_none y (v ∷ ys) z = absurd (omega arith)

  pub lambda_stays : {x y z : rules.Ptr} → row_at s h.row ≡ node lam x y z → length xs ≡ 0 → final (tally_of l sc m) ≡ head
  lambda_stays {y = y} q empty = lambda_none y xs empty ∙ sym (head_lambda a n q)

  lambda_some : {v : rules.Ptr} (y : rules.Ptr) (ys : List rules.Ptr) → nth ys 0 ≡ some v → BodyIn s (depth_of e) h.shift y → InScope s (depth_of e) v →
      fire_in (limits_in g sc) (tally_of l sc m) (opened y v h.shift) (drop 1 ys) ≡ tried e l g n sc m (lambda y h.shift ys)
  unfolding lambda nth
  lambda_some y [] q b i = absurd (none_some q)
  lambda_some {v} y (u ∷ ys) q b i =
      let same : u ≡ v = cc in
      fires_tried (opened y v h.shift) ys (opened_in b i) ∙ ap (λ (p : rules.Ptr). tried e l g n sc m (fires (opened y p h.shift) ys)) (sym same)

  pub lambda_fires : {x y z v : rules.Ptr} → row_at s h.row ≡ node lam x y z → nth xs 0 ≡ some v →
      fire_in (limits_in g sc) (tally_of l sc m) (opened y v h.shift) (drop 1 xs) ≡ head
  lambda_fires {y = y} q first = lambda_some y xs first (lambda_body_in (head_row_in q)) (nth_in 0 arguments_in first) ∙ sym (head_lambda a n q)

  -- PROJECTION: its structure may be asked for
  pub structure_asked : {d i : ℕ} {x y z : rules.Ptr} → row_at s h.row ≡ node (proj d i) x y z → InScope s (depth_of e) (up s x h.shift)
  structure_asked q = structure_in (head_row_in q)
