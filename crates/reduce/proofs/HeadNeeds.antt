-- The rules at the head over plain values: the head's shape was read; by its kind, what each call is given, and that its answer is the call's.
-- Assumes what `at_head` is given.
use Prim.Native.Nat.{ℕ, zero, suc, ◌+◌, ◌/◌, ◌≤◌, ◌<◌}
use native.Mathlib.Omega.{arith}
use mathlib.Core.Path.{◌≡◌, refl, sym, ap, ◌∙◌, subst}
use mathlib.Core.List.{List}
use lib.ListN.{length, drop}
use Rattle.rules.specs.Kinds.{const, lam, let', proj}
use Rattle.rules.specs.Rows as rules
use Rattle.rules.specs.Rows.{var, node, blank, Store, cell_at, row_at, up, up_on}
use Rattle.rules.specs.RowCheck.{InScope, const_in}
use Rattle.rules.specs.Declarations.{Env}
use Rattle.rules.specs.Firings.{opened}
use Rattle.course.specs.Tries.{projection}
use Rattle.substitution.specs.Passing.{Worded, node_worded}
use Rattle.safety.specs.Sane.{depth_of}
use Rattle.safety.specs.Scope.{let_value_in}
use Rattle.ways.specs.Steps.{fire_in}
use Rattle.ways.specs.Spines.{head_of, args_of}
use Rattle.rows.specs.Checks.{Formed}
use Rattle.rows.specs.Kinds.{code_of}
use Rattle.rows.specs.declared.kinds.Kind.{Kind}
use Rattle.rows.specs.declared.kinds.Kind.TheVariants.{Variable, Constant, Lambda, Let, Projection}
use Rattle.rows.specs.declared.Ptr.{Ptr}
use Rattle.rows.specs.declared.Shape.{Shape}
use Rattle.rows.specs.Words.{ptr_of, shape_at, words_at, store_of, whole, Stands}
use Rattle.rows.proofs.Codes.{not_code}
use Rattle.rows.proofs.Formed.{row_formed}
use Rattle.rows.proofs.Store.{used_stands, up_used, held_length}
use Rattle.spine.specs.declared.Spined.{Spined}
use Rattle.spine.specs.Walks as walks
use Rattle.tables.specs.Env.{env_of}
use Rattle.state.specs.declared.Given.{Given}
use Rattle.state.specs.declared.Meter.{Meter}
use Rattle.state.specs.State.{Answer}
use Rattle.state.specs.State.{tally_of, limits_in, Left}
use Rattle.firing.specs.Fires.{Opens, HasContext, unfold_step, context_value}
use Rattle.cycle.specs.Cycle.{Asked, Counted, head_by}
use Rattle.cycle.specs.Members.{projected, constantly}
use Rattle.cycle.proofs.Standing.{depth_is, declarations_are, nothing_passed}
use Rattle.cycle.proofs.WaysOut.{final_left, left_as}
use Rattle.cycle.proofs.Constants.{tried}
use Rattle.cycle.proofs.Unfolding.{variable_tried}
use Rattle.cycle.proofs.Heads.{head_variable, head_constant, head_projection}
use Rattle.cycle.proofs.Binders.{head_row_in, let_fires, lambda_stays, lambda_fires, structure_asked}
use Rattle.cycle.proofs.Shifts.{scope_shift, head-shift, lambda_opens, let_opens}
use Rattle.cycle.proofs.Values.{head_index, variable_held}
use Rattle.cycle.proofs.HeadShapes.{head_walked, walked_counted, head_below, shape_variable, shape_constant}
use Rattle.cycle.proofs.HeadShapes.{shape_lambda, shape_let, shape_projection, shape_other}
use Rattle.reduce.proofs.Sides.{taken_is}
use Rattle.std.specs.Prelude.{Ok}
use Rattle.state.specs.declared.Tried.TheVariants.{Final}

-- the head of t was walked to, and its shape read
pub record Seen (l ds rs cs sc : List ℕ) (g : Given) (m : Meter) (t : Ptr) (sp : Spined) (w : Shape) : Type 0 where
  pub asked : Asked l ds rs cs sc g m t
  pub walked : walks.Walked (whole l sc) (ptr_of t) sp
  pub read : w ≡ shape_at (words_at l sc sp.head.row)

-- a child shifted by k is in scope: so the child stands in the rows, and the sum of the shifts is small
raised : {s : Store} {d : ℕ} (p : rules.Ptr) (k b : ℕ) → (cell_at s p.row).bound ≡ b → InScope s d (up_on b p k) → k ≤ d → (p.row < length s) × (p.shift + k ≤ d)
raised p k zero q i h = let still = i.still q in (i.there, omega arith)
raised p k (suc b) q i h = (i.there, scope_shift i)

module _ {l ds rs cs sc : List ℕ} {g : Given} {m : Meter} {t : Ptr} {sp : Spined} {w : Shape} (k : Seen l ds rs cs sc g m t sp w) where
  abbrev s : Store
  s = store_of l sc m.mark

  abbrev e : Env
  e = env_of ds rs cs g.depth

  abbrev by : ℕ
  by = sp.head.shift

  abbrev xs : List rules.Ptr
  xs = args_of s (ptr_of t)

  pub seen_counted : Counted l ds rs cs sc g m t sp.count
  seen_counted = walked_counted k.asked sp k.walked

  -- its kind is one of the nine
  pub kind_known : w.kind ≤ 8
  kind_known = (subst Formed (sym k.read) (row_formed (k.asked.stand.words sp.head.row (head_below k.asked sp k.walked)))).kind

  -- the head's shift is the spine's
  same_shift : (head_of s (ptr_of t)).shift ≡ by
  same_shift = ap (λ (h : rules.Ptr). h.shift) (sym (head_walked k.asked sp k.walked))

  small_shift : by ≤ g.depth
  small_shift = omega (arith, same_shift, head-shift k.asked)

  here : {p : rules.Ptr} → InScope s (depth_of (env_of ds rs cs g.depth)) p → InScope s g.depth p
  here {p} = subst (λ (d : ℕ). InScope s d p) (depth_is ds rs cs g.depth)

  -- A VARIABLE
  module _ (kind : w.kind ≡ 0) where
    variable_row : row_at s (head_of s (ptr_of t)).row ≡ var w.first.row
    variable_row = shape_variable k.asked sp k.walked w k.read kind

    pub index_small : w.first.row + by < 65536
    index_small = let small = k.asked.stand.small in omega (arith, head_index k.asked variable_row, same_shift)

    pub value_there : HasContext cs g.depth (g.nlib + m.mark) (w.first.row + by)
    value_there = subst (λ (j : ℕ). HasContext cs g.depth (g.nlib + m.mark) (w.first.row + j)) same_shift (variable_held k.asked variable_row)

    pub variable_answers : (n : ℕ) {r : Answer} {sc₁ : List ℕ} →
        Left l sc m r sc₁ (unfold_step (limits_in g sc) (tally_of l sc m) (context_value cs g.depth s (w.first.row + by)) xs) →
        Left l sc m r sc₁ (head_by l ds rs cs sc g m n (ptr_of t))
    variable_answers n =
        left_as
        (ap (λ (j : ℕ). unfold_step (limits_in g sc) (tally_of l sc m) (context_value cs g.depth s (w.first.row + j)) xs) (sym same_shift)
        ∙ variable_tried k.asked n (w.first.row + (head_of s (ptr_of t)).shift)
        ∙ sym (head_variable k.asked n variable_row))

  -- A CONSTANT
  module _ (kind : w.kind ≡ 2) where
    constant_row : row_at s (head_of s (ptr_of t)).row ≡ node (const w.first.row w.first.shift) blank blank blank
    constant_row = shape_constant k.asked sp k.walked w k.read kind

    pub declared : w.first.row < length ds / 16
    declared = omega (arith, in_range (head_row_in k.asked 0 constant_row).words, declarations_are ds rs cs g.depth)
      where
        in_range : {D d n : ℕ} {x y z : rules.Ptr} → Worded D (node (const d n) x y z) → d < D
        in_range (node_worded (const_in h h')) = h

    pub constant_answers : (n : ℕ) {r : Answer} {sc₁ : List ℕ} → Left l sc m r sc₁ (constantly l ds rs cs sc g m t n w.first.row w.first.shift) →
        Left l sc m r sc₁ (head_by l ds rs cs sc g m n (ptr_of t))
    constant_answers n = left_as (sym (head_constant k.asked n constant_row))

  -- A LAMBDA
  module _ (kind : w.kind ≡ 4) where
    lambda_row : row_at s (head_of s (ptr_of t)).row ≡ node lam (ptr_of w.first) (ptr_of w.second) blank
    lambda_row = shape_lambda k.asked sp k.walked w k.read kind

    pub lambda_alone : (n : ℕ) → sp.count ≡ 0 → Left l sc m (Ok (Final m)) sc (head_by l ds rs cs sc g m n (ptr_of t))
    lambda_alone n none =
        final_left (nothing_passed sc m k.asked.stand.held.room) (lambda_stays k.asked n lambda_row (seen_counted.counted ∙ none))

    module _ {v : Ptr} (taken : walks.Argument (whole l sc) (ptr_of t) sp.count 0 v) where
      pub lambda_may_open : Opens s w.second v by
      lambda_may_open = subst (Opens s w.second v) same_shift (lambda_opens k.asked lambda_row (taken_is seen_counted taken))

      pub lambda_answers : (n : ℕ) {r : Answer} {sc₁ : List ℕ} →
          Left l sc m r sc₁ (fire_in (limits_in g sc) (tally_of l sc m) (opened (ptr_of w.second) (ptr_of v) by) (drop 1 xs)) →
          Left l sc m r sc₁ (head_by l ds rs cs sc g m n (ptr_of t))
      lambda_answers n =
          left_as
          (ap (λ (j : ℕ). fire_in (limits_in g sc) (tally_of l sc m) (opened (ptr_of w.second) (ptr_of v) j) (drop 1 xs)) (sym same_shift)
          ∙ lambda_fires k.asked n lambda_row (taken_is seen_counted taken))

  -- A CHILD SHIFTED BY THE HEAD'S SHIFT
  module _ (p : Ptr) (i : InScope s g.depth (up s (ptr_of p) (head_of s (ptr_of t)).shift)) where
    child : (p.row < length s) × (p.shift + (head_of s (ptr_of t)).shift ≤ g.depth)
    child = raised (ptr_of p) (head_of s (ptr_of t)).shift (cell_at s p.row).bound refl i (head-shift k.asked)

    child_below : p.row < g.nlib + m.mark
    child_below = omega (arith, held_length l sc m.mark g.nlib k.asked.stand.held, child.0)

    may_raise : Stands l sc p.row × (p.shift + by < 4294967296)
    may_raise =
        let small = k.asked.stand.small in
        (used_stands l sc m.mark g.nlib k.asked.stand.held p.row child_below, omega (arith, child.1, same_shift))

    raised_is : {v : Ptr} → ptr_of v ≡ up (whole l sc) (ptr_of p) by → ptr_of v ≡ up s (ptr_of p) (head_of s (ptr_of t)).shift
    raised_is q =
        q ∙ up_used l sc m.mark g.nlib k.asked.stand.held p.row child_below p.shift by ∙ ap (up s (ptr_of p)) (sym same_shift)

  -- A LET
  module _ (kind : w.kind ≡ 6) where
    let_row : row_at s (head_of s (ptr_of t)).row ≡ node let' (ptr_of w.first) (ptr_of w.second) (ptr_of w.third)
    let_row = shape_let k.asked sp k.walked w k.read kind

    value_scope : InScope s g.depth (up s (ptr_of w.second) (head_of s (ptr_of t)).shift)
    value_scope = here (let_value_in (head_row_in k.asked 0 let_row))

    pub let_value_stands : Stands l sc w.second.row × (w.second.shift + by < 4294967296)
    let_value_stands = may_raise w.second value_scope

    module _ {v : Ptr} (shifted : ptr_of v ≡ up (whole l sc) (ptr_of w.second) by) where
      pub let_may_open : Opens s w.third v by
      let_may_open = subst (Opens s w.third v) same_shift (let_opens k.asked let_row (raised_is w.second value_scope shifted))

      pub let_answers : (n : ℕ) {r : Answer} {sc₁ : List ℕ} →
          Left l sc m r sc₁ (fire_in (limits_in g sc) (tally_of l sc m) (opened (ptr_of w.third) (ptr_of v) by) xs) →
          Left l sc m r sc₁ (head_by l ds rs cs sc g m n (ptr_of t))
      let_answers n =
          left_as
          ((λ j. fire_in (limits_in g sc) (tally_of l sc m) (opened (ptr_of w.third) (raised_is w.second value_scope shifted j) (sym same_shift j)) xs)
          ∙ let_fires k.asked n let_row)

  -- A PROJECTION
  module _ (kind : w.kind ≡ 7) where
    projection_row : row_at s (head_of s (ptr_of t)).row ≡ node (proj w.second.row w.second.shift) (ptr_of w.first) blank blank
    projection_row = shape_projection k.asked sp k.walked w k.read kind

    structure_scope : InScope s g.depth (up s (ptr_of w.first) (head_of s (ptr_of t)).shift)
    structure_scope = here (structure_asked k.asked 0 projection_row)

    pub structure_stands : Stands l sc w.first.row × (w.first.shift + by < 4294967296)
    structure_stands = may_raise w.first structure_scope

    module _ {v : Ptr} (shifted : ptr_of v ≡ up (whole l sc) (ptr_of w.first) by) where
      pub structure_in_scope : InScope s g.depth (ptr_of v)
      structure_in_scope = subst (InScope s g.depth) (sym (raised_is w.first structure_scope shifted)) structure_scope

      pub projection_answers : (n : ℕ) {r : Answer} {sc₁ : List ℕ} → Left l sc m r sc₁ (projected l ds rs cs sc g m t n v w.second.shift) →
          Left l sc m r sc₁ (head_by l ds rs cs sc g m n (ptr_of t))
      projection_answers n =
          left_as
          (ap (λ (p : rules.Ptr). tried e l g n sc m (projection e p w.second.shift xs)) (raised_is w.first structure_scope shifted)
          ∙ sym (head_projection k.asked n projection_row))

  -- ANY OTHER KIND
  pub no_rule_there : (n : ℕ) {j : Kind} → code_of j ≡ w.kind → (j ≡ Variable → ⊥) → (j ≡ Constant → ⊥) → (j ≡ Lambda → ⊥) → (j ≡ Let → ⊥) →
      (j ≡ Projection → ⊥) → Left l sc m (Ok (Final m)) sc (head_by l ds rs cs sc g m n (ptr_of t))
  no_rule_there n is v c f l' p =
      final_left (nothing_passed sc m k.asked.stand.held.room)
      (shape_other k.asked sp k.walked w k.read n (not_code Variable v is) (not_code Constant c is) (not_code Lambda f is) (not_code Let l' is)
      (not_code Projection p is))
