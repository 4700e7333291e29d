-- The rules at the head of a term, by the head's row; and the loop over firings, from one term to the next.
-- Assumes what the member is given.
use Prim.Native.Nat.{ℕ, suc, ◌+◌, ◌-◌}
use native.Mathlib.Omega.{arith}
use mathlib.Core.Path.{◌≡◌, refl, ap}
use mathlib.Core.List.{List}
use Rattle.rules.specs.Kinds.{sort, const, lam, pi, let', proj, num}
use Rattle.rules.specs.Rows as rules
use Rattle.rules.specs.Rows.{Row, var, node, Store, row_at, up}
use Rattle.rules.specs.Declarations.{Env, decl_at}
use Rattle.rules.specs.Firings.{opened}
use Rattle.course.specs.Tries.{Try, no_rule, fires, lambda, variable, projection, constant, at_row, rules}
use Rattle.course.specs.Eval.{side_at}
use Rattle.substitution.specs.Stores.{scope_good}
use Rattle.substitution.specs.Passing.{pass_formed}
use Rattle.safety.specs.Sane.{depth_of, decl_count}
use Rattle.safety.specs.Safe.{Safe, rules_safe}
use Rattle.ways.specs.Steps.{Step, step_of}
use Rattle.ways.specs.Spines.{head_of, args_of, spine_is, spine_of}
use Rattle.ways.specs.Ways.{at_head}
use Rattle.rows.specs.declared.Ptr.{Ptr}
use Rattle.rows.specs.Words.{ptr_of, store_of}
use Rattle.tables.specs.Env.{env_of}
use Rattle.state.specs.declared.Given.{Given}
use Rattle.state.specs.declared.Meter.{Meter}
use Rattle.state.specs.State.{tally_of, limits_in}
use Rattle.cycle.specs.Cycle.{Asked, head_by, res_by}
use Rattle.cycle.specs.Course.{parts_in, Remains}
use Rattle.cycle.proofs.Standing.{to_depth}
use Rattle.cycle.proofs.Constants.{tried}

module _ {l ds rs cs sc : List ℕ} {g : Given} {m : Meter} {t : Ptr} (a : Asked l ds rs cs sc g m t) (n : ℕ) where
  abbrev e : Env
  e = env_of ds rs cs g.depth

  abbrev s : Store
  s = store_of l sc m.mark

  abbrev h : rules.Ptr
  h = head_of s (ptr_of t)

  abbrev xs : List rules.Ptr
  xs = args_of s (ptr_of t)

  abbrev step : Try → Step
  step y = tried e l g n sc m y

  -- the rules at a head are safe, so whatever they answer can be gone on from
  pub head_safe : Safe (decl_count e) (depth_of e) s (rules e s h xs)
  head_safe = let k = parts_in a.stand.sane (to_depth a.stand a.scope) in rules_safe a.stand.sane k.head k.arguments

  -- BY THE HEAD'S ROW
  pub head_at : {w : Row} → row_at s h.row ≡ w → head_by l ds rs cs sc g m n (ptr_of t) ≡ step (at_row e s h.shift xs w)
  head_at q =
      let f = pass_formed a.stand.sane.pass in
      ap (step_of (limits_in g sc)) (at_head e (limits_in g sc) _ (tally_of l sc m) (ptr_of t) (spine_is f (scope_good a.scope) (spine_of f (scope_good a.scope))) q)

  pub head_is : head_by l ds rs cs sc g m n (ptr_of t) ≡ step (rules e s h xs)
  unfolding rules
  head_is = head_at refl

  pub head_variable : {i : ℕ} → row_at s h.row ≡ var i → head_by l ds rs cs sc g m n (ptr_of t) ≡ step (variable e s (i + h.shift) xs)
  unfolding at_row
  head_variable q = head_at q

  pub head_constant : {d k : ℕ} {x y z : rules.Ptr} → row_at s h.row ≡ node (const d k) x y z → head_by l ds rs cs sc g m n (ptr_of t) ≡ step (constant e (decl_at e.decls d) k xs)
  unfolding at_row
  head_constant q = head_at q

  pub head_lambda : {x y z : rules.Ptr} → row_at s h.row ≡ node lam x y z → head_by l ds rs cs sc g m n (ptr_of t) ≡ step (lambda y h.shift xs)
  unfolding at_row
  head_lambda q = head_at q

  pub head_let : {x y z : rules.Ptr} → row_at s h.row ≡ node let' x y z → head_by l ds rs cs sc g m n (ptr_of t) ≡ step (fires (opened z (up s y h.shift) h.shift) xs)
  unfolding at_row
  head_let q = head_at q

  pub head_projection : {d i : ℕ} {x y z : rules.Ptr} → row_at s h.row ≡ node (proj d i) x y z → head_by l ds rs cs sc g m n (ptr_of t) ≡ step (projection e (up s x h.shift) i xs)
  unfolding at_row
  head_projection q = head_at q

  -- heads that no rule is for
  pub head_sort : {k : ℕ} {x y z : rules.Ptr} → row_at s h.row ≡ node (sort k) x y z → head_by l ds rs cs sc g m n (ptr_of t) ≡ step no_rule
  unfolding at_row
  head_sort q = head_at q

  pub head_pi : {x y z : rules.Ptr} → row_at s h.row ≡ node pi x y z → head_by l ds rs cs sc g m n (ptr_of t) ≡ step no_rule
  unfolding at_row
  head_pi q = head_at q

  pub head_number : {k : ℕ} {x y z : rules.Ptr} → row_at s h.row ≡ node (num k) x y z → head_by l ds rs cs sc g m n (ptr_of t) ≡ step no_rule
  unfolding at_row
  head_number q = head_at q

  -- THE LOOP: at the start all remains, and the count is enough
  pub all_remains : Remains e (limits_in g sc) (side_at e (limits_in g sc) n) (tally_of l sc m) (ptr_of t) (res_by l ds rs cs sc g m (suc n) (ptr_of t))
  unfolding side_at
  all_remains = record { count = suc (g.steps - m.steps); enough = let k = a.stand.metered in omega arith; is = refl }
