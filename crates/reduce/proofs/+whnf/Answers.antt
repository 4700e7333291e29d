-- `reduce::whnf`, with the eight functions that it shares a cycle of calls with, meets its contract; the answers member by member.
-- Assumes nothing.
use native.Mathlib.Omega.{arith}
use Prim.Native.Nat.{ℕ}
use mathlib.Core.Path.{refl, sym, ap, ◌∙◌}
use borrow.Author.Rules.{rules}
use Rattle.std.specs.Prelude.{Ok, Some, Option as Maybe, ◌≡◌}
use Rattle.tables.specs.declared.codes.DeclKind.TheVariants.{Recursor}
use Rattle.state.specs.declared.Meter.{Meter}
use Rattle.state.specs.declared.Tried.{Tried}
use Rattle.state.specs.declared.Tried.TheVariants.{Final}
use Rattle.state.specs.State.{Answer}
use Rattle.majors.specs.declared.Made.{Made}
use Rattle.majors.specs.Majors.{Construction}
use Rattle.rows.proofs.HandedOn.{handed_on}
use Rattle.reduce.proofs.ConstantRules.{At, from_recursion, from_arithmetic, by_delta, quotients_first, quotients_answer, recursion_next}
use Rattle.reduce.proofs.ConstantRules.{recursion_answers, arithmetic_next, arithmetic_answers, delta_last, value_stands, delta_answers}
use Rattle.reduce.proofs.QuotNeeds.{no_major, Major, major_scope, major_asked, major_refused, no_element, element_there, element_given}
use Rattle.reduce.proofs.QuotNeeds.{lifts, inducts, no_quotient}
use Rattle.reduce.proofs.ProjNeeds.{structure_refused, no_field, field_there, field_given}
use Rattle.reduce.proofs.ArithNeeds.{Call, Operand, Known, Trying, First, FirstDone, Second, SecondDone, may_fire}
use Rattle.reduce.proofs.ArithNeeds.{untried, miscounted, trying, first_asked, first_refused, first_end, counted_on, no_first_number, first_number}
use Rattle.reduce.proofs.ArithNeeds.{second_asked, second_refused, second_end, no_second_number, truths, arithmetic_done}
use Rattle.reduce.proofs.RecNeeds.{Opened, levels_differ, no_recursors, too_few, Majored, major_stops, Reached, major_stands}
use Rattle.reduce.proofs.RecNeeds.{nothing_made, rows_refused, Built, built, may_rule, ruled_left}
use Rattle.reduce.proofs.RecNeeds.{major_asked as rec_major_asked}
use Rattle.rows.proofs.Store.{used_stands}
use Rattle.rows.proofs.Lookup.{shape_read}
use Rattle.cycle.proofs.Standing.{headed_of}
use Rattle.cycle.proofs.HeadShapes.{walk_allowed, head_below}
use Rattle.reduce.proofs.HeadNeeds.{Seen, seen_counted, kind_known, index_small, value_there, variable_answers, declared, constant_answers}
use Rattle.reduce.proofs.HeadNeeds.{lambda_alone, lambda_may_open, lambda_answers, let_value_stands, let_may_open, let_answers}
use Rattle.reduce.proofs.HeadNeeds.{structure_stands, structure_in_scope, projection_answers, no_rule_there}
use Rattle.reduce.proofs.Sides.{side_falls, ran_as, may_take, Came, came_read, still_counted, still_headed}
use Rattle.reduce.proofs.Levels.{no_level_left, one_level_deeper}
use Rattle.reduce.proofs.Loop.{going_begins, going_on, fewer_left, going_ends, going_stops}
use Rattle.reduce.proofs.+whnf.Goals as goal
use Rattle.reduce.proofs.+whnf.Goals.{at_head-After-shape_of-w, constant-In-Final, constant-In-Final-by_rec}
use Rattle.reduce.proofs.+whnf.Goals.{constant-In-Final-by_arith, quot_major-After-argument-major, quot_major-In-Ok, reduce_proj-In-Ok}
use Rattle.reduce.proofs.+whnf.Goals.{reduce_rec-After-decl_at-d, reduce_rec-After-argument-major, reduce_rec-In-Ok, reduce_rec-In-Some}
use Rattle.reduce.proofs.+whnf.Goals.{reduce_arith-Start, reduce_arith-After-decl_at, reduce_arith-Else-count-ne2, reduce_arith-After-argument-first}
use Rattle.reduce.proofs.+whnf.Goals.{reduce_arith-In-Ok, reduce_arith-After-argument-second, reduce_arith-In-Ok-next}

-- AT_HEAD: the rules at the head, by the kind that was read there.

-- THE HEAD IS READ
pub at_head-row_at-requires : goal.at_head-row_at-requires
at_head-row_at-requires t c = used_stands _ _ _ _ c.requires.stand.held _ (head_below c.requires _ c.head_of-s.ensures)

seen : (t : ℕ) (c : at_head-After-shape_of-w t) → Seen c.args.lent.library.now c.args.lent.declarations.now c.args.lent.rules.now c.args.lent.context.now
    c.args.scratch.now c.args.g c.args.m c.args.t c.head_of-s.result c.shape_of-w.result
seen t c = record {
  asked = c.requires;
  walked = c.head_of-s.ensures;
  read = shape_read _ _ _ (used_stands _ _ _ _ c.requires.stand.held _ (head_below c.requires _ c.head_of-s.ensures)) _ c.row_at.ensures _ c.shape_of-w.ensures;
}

pub at_head-known-requires : goal.at_head-known-requires
at_head-known-requires t c = kind_known (seen t (goal.at.at_head-known-requires t c).After-shape_of-w)

-- A VARIABLE
pub at_head-overflow_add-first : goal.at_head-overflow_add-first
at_head-overflow_add-first t c =
    record { fits = omega (arith, index_small (seen t (goal.at.at_head-overflow_add-first t c).After-shape_of-w) (sym c.in-Variable.ensures)) }

pub at_head-variable-requires-clause-headed : goal.at_head-variable-requires-clause-headed
at_head-variable-requires-clause-headed t c = headed_of (seen_counted (seen t (goal.at.at_head-variable-requires-clause-headed t c).After-shape_of-w))

pub at_head-variable-requires-clause-has_context : goal.at_head-variable-requires-clause-has_context
at_head-variable-requires-clause-has_context t c =
    value_there (seen t (goal.at.at_head-variable-requires-clause-has_context t c).After-shape_of-w) (sym c.in-Variable.ensures)

pub at_head-returns-in-Variable : goal.at_head-returns-in-Variable
at_head-returns-in-Variable t c =
    variable_answers (seen t (goal.at.at_head-returns-in-Variable t c).After-shape_of-w) (sym c.in-Variable.ensures) _ c.variable.ensures

-- A CONSTANT
pub at_head-constant-requires : goal.at_head-constant-requires
at_head-constant-requires t c =
    let k = seen t (goal.at.at_head-constant-requires t c).After-shape_of-w in
    (omega (arith, c.decreases), (seen_counted k, declared k (sym c.in-Constant.ensures)))

pub at_head-returns-in-Constant : goal.at_head-returns-in-Constant
at_head-returns-in-Constant t c =
    constant_answers (seen t (goal.at.at_head-returns-in-Constant t c).After-shape_of-w) (sym c.in-Constant.ensures) _ c.constant.ensures

-- A LAMBDA
pub at_head-returns-then-s-eq0 : goal.at_head-returns-then-s-eq0
at_head-returns-then-s-eq0 t c =
    lambda_alone (seen t (goal.at.at_head-returns-then-s-eq0 t c).After-shape_of-w) (sym c.in-Lambda.ensures) _ c.if-s-eq0.true

pub at_head-argument-a-requires-clause-counted : goal.at_head-argument-a-requires-clause-counted
at_head-argument-a-requires-clause-counted t c =
    may_take (seen_counted (seen t (goal.at.at_head-argument-a-requires-clause-counted t c).After-shape_of-w))

pub at_head-open-requires-clause-headed : goal.at_head-open-requires-clause-headed
at_head-open-requires-clause-headed t c = headed_of (seen_counted (seen t (goal.at.at_head-open-requires-clause-headed t c).After-shape_of-w))

pub at_head-open-requires-clause-opens : goal.at_head-open-requires-clause-opens
at_head-open-requires-clause-opens t c =
    lambda_may_open (seen t (goal.at.at_head-open-requires-clause-opens t c).After-shape_of-w) (sym c.in-Lambda.ensures) c.argument-a.ensures

pub at_head-returns-else-s-eq0 : goal.at_head-returns-else-s-eq0
at_head-returns-else-s-eq0 t c =
    lambda_answers (seen t (goal.at.at_head-returns-else-s-eq0 t c).After-shape_of-w) (sym c.in-Lambda.ensures) c.argument-a.ensures _ c.open.ensures

-- A LET
pub at_head-shift_up-value-requires-clause-stands : goal.at_head-shift_up-value-requires-clause-stands
at_head-shift_up-value-requires-clause-stands t c =
    (let_value_stands (seen t (goal.at.at_head-shift_up-value-requires-clause-stands t c).After-shape_of-w) (sym c.in-Let.ensures)).0

pub at_head-shift_up-value-requires-clause-k_bound : goal.at_head-shift_up-value-requires-clause-k_bound
at_head-shift_up-value-requires-clause-k_bound t c =
    (let_value_stands (seen t (goal.at.at_head-shift_up-value-requires-clause-k_bound t c).After-shape_of-w) (sym c.in-Let.ensures)).1

pub at_head-open-requires-in-Let-clause-headed : goal.at_head-open-requires-in-Let-clause-headed
at_head-open-requires-in-Let-clause-headed t c =
    headed_of (seen_counted (seen t (goal.at.at_head-open-requires-in-Let-clause-headed t c).After-shape_of-w))

pub at_head-open-requires-in-Let-clause-opens : goal.at_head-open-requires-in-Let-clause-opens
at_head-open-requires-in-Let-clause-opens t c =
    let_may_open (seen t (goal.at.at_head-open-requires-in-Let-clause-opens t c).After-shape_of-w) (sym c.in-Let.ensures) c.shift_up-value.ensures

pub at_head-returns-in-Let : goal.at_head-returns-in-Let
at_head-returns-in-Let t c =
    let_answers (seen t (goal.at.at_head-returns-in-Let t c).After-shape_of-w) (sym c.in-Let.ensures) c.shift_up-value.ensures _ c.open-in-Let.ensures

-- A PROJECTION
pub at_head-shift_up-structure-requires-clause-stands : goal.at_head-shift_up-structure-requires-clause-stands
at_head-shift_up-structure-requires-clause-stands t c =
    (structure_stands (seen t (goal.at.at_head-shift_up-structure-requires-clause-stands t c).After-shape_of-w) (sym c.in-Projection.ensures)).0

pub at_head-shift_up-structure-requires-clause-k_bound : goal.at_head-shift_up-structure-requires-clause-k_bound
at_head-shift_up-structure-requires-clause-k_bound t c =
    (structure_stands (seen t (goal.at.at_head-shift_up-structure-requires-clause-k_bound t c).After-shape_of-w) (sym c.in-Projection.ensures)).1

pub at_head-reduce_proj-requires : goal.at_head-reduce_proj-requires
at_head-reduce_proj-requires t c =
    let k = seen t (goal.at.at_head-reduce_proj-requires t c).After-shape_of-w in
    (omega (arith, c.decreases), (seen_counted k, structure_in_scope k (sym c.in-Projection.ensures) c.shift_up-structure.ensures))

pub at_head-returns-in-Projection : goal.at_head-returns-in-Projection
at_head-returns-in-Projection t c =
    projection_answers (seen t (goal.at.at_head-returns-in-Projection t c).After-shape_of-w) (sym c.in-Projection.ensures) c.shift_up-structure.ensures _
    c.reduce_proj.ensures

-- ANY OTHER KIND
pub at_head-returns-in_default : goal.at_head-returns-in_default
at_head-returns-in_default t c =
    no_rule_there (seen t (goal.at.at_head-returns-in_default t c).After-shape_of-w) _ c.known.ensures c.in_default.not-Variable c.in_default.not-Constant
    c.in_default.not-Lambda c.in_default.not-Let c.in_default.not-Projection

-- CONSTANT: the four rules in order.

abbrev answered : Tried → Answer
answered a = Ok a

-- what is no miss is no miss as an answer either
another_way : {a : Tried} → ((m : Meter) → a ≡ Final m → ⊥) → (m : Meter) → answered a ≡ Ok (Final m) → ⊥
another_way f m e = f m cc

-- QUOTIENTS
pub constant-returns-in_err-by_quot : goal.constant-returns-in_err-by_quot
constant-returns-in_err-by_quot t c =
    rw (handed_on c.from_residual.ensures.1) (quotients_answer _ _ (quotients_first _ _ _ c.requires.counted) c.in_err-by_quot.ensures λ m e. cc)

pub constant-returns-in_default : goal.constant-returns-in_default
constant-returns-in_default t c =
    quotients_answer _ _ (quotients_first _ _ _ c.requires.counted) c.in_ok-by_quot.ensures (another_way c.in_default.not-Final)

-- RECURSORS
at_recursion : (t : ℕ) (c : constant-In-Final t) → At c.args.lent.library.now c.args.lent.declarations.now c.args.lent.rules.now c.args.lent.context.now
    c.args.scratch.now c.args.g c.args.m c.args.t c.args.count c.args.nesting c.args.declaration c.args.levels
    c.reduce_quot.new.scratch c.in-Final.m1 from_recursion
at_recursion t c = recursion_next _ _ (quotients_first _ _ _ c.requires.counted) c.in_ok-by_quot.ensures (ap Ok c.in-Final.is)

pub constant-reduce_rec-requires : goal.constant-reduce_rec-requires
constant-reduce_rec-requires t c =
    (omega (arith, c.decreases), ((at_recursion t (goal.at.constant-reduce_rec-requires t c).In-Final).counted, c.requires.declaration_in_bounds))

pub constant-returns-in_err-by_rec : goal.constant-returns-in_err-by_rec
constant-returns-in_err-by_rec t c =
    rw (handed_on c.from_residual-in_err-by_rec.ensures.1)
    (recursion_answers _ _ (at_recursion t (goal.at.constant-returns-in_err-by_rec t c).In-Final) c.in_err-by_rec.ensures λ m e. cc)

pub constant-returns-in_default-by_rec : goal.constant-returns-in_default-by_rec
constant-returns-in_default-by_rec t c =
    recursion_answers _ _ (at_recursion t (goal.at.constant-returns-in_default-by_rec t c).In-Final) c.in_ok-by_rec.ensures
    (another_way c.in_default-by_rec.not-Final)

-- ARITHMETIC
at_arithmetic : (t : ℕ) (c : constant-In-Final-by_rec t) → At c.args.lent.library.now c.args.lent.declarations.now c.args.lent.rules.now
    c.args.lent.context.now c.args.scratch.now c.args.g c.args.m c.args.t c.args.count c.args.nesting c.args.declaration c.args.levels
    c.reduce_rec.new.scratch c.in-Final-by_rec.m2 from_arithmetic
at_arithmetic t c =
    arithmetic_next _ _ (at_recursion t (goal.at.constant-In-Final-by_rec t c).In-Final) c.in_ok-by_rec.ensures (ap Ok c.in-Final-by_rec.is)

pub constant-reduce_arith-requires : goal.constant-reduce_arith-requires
constant-reduce_arith-requires t c = (
  omega (arith, c.decreases),
  ((at_arithmetic t (goal.at.constant-reduce_arith-requires t c).In-Final-by_rec).counted, c.requires.declaration_in_bounds),
)

pub constant-returns-in_err-by_arith : goal.constant-returns-in_err-by_arith
constant-returns-in_err-by_arith t c =
    rw (handed_on c.from_residual-in_err-by_arith.ensures.1)
    (arithmetic_answers _ _ (at_arithmetic t (goal.at.constant-returns-in_err-by_arith t c).In-Final-by_rec) c.in_err-by_arith.ensures λ m e. cc)

pub constant-returns-in_default-by_arith : goal.constant-returns-in_default-by_arith
constant-returns-in_default-by_arith t c =
    arithmetic_answers _ _ (at_arithmetic t (goal.at.constant-returns-in_default-by_arith t c).In-Final-by_rec) c.in_ok-by_arith.ensures
    (another_way c.in_default-by_arith.not-Final)

-- DELTA
at_delta : (t : ℕ) (c : constant-In-Final-by_arith t) → At c.args.lent.library.now c.args.lent.declarations.now c.args.lent.rules.now
    c.args.lent.context.now c.args.scratch.now c.args.g c.args.m c.args.t c.args.count c.args.nesting c.args.declaration c.args.levels
    c.reduce_arith.new.scratch c.in-Final-by_arith.m3 by_delta
at_delta t c =
    delta_last _ _ (at_arithmetic t (goal.at.constant-In-Final-by_arith t c).In-Final-by_rec) c.in_ok-by_arith.ensures (ap Ok c.in-Final-by_arith.is)

pub constant-unfold_def-requires-clause-headed : goal.constant-unfold_def-requires-clause-headed
constant-unfold_def-requires-clause-headed t c =
    headed_of (at_delta t (goal.at.constant-unfold_def-requires-clause-headed t c).In-Final-by_arith).counted

pub constant-unfold_def-requires-clause-row_bound : goal.constant-unfold_def-requires-clause-row_bound
constant-unfold_def-requires-clause-row_bound t c =
    value_stands _ _ (at_delta t (goal.at.constant-unfold_def-requires-clause-row_bound t c).In-Final-by_arith) c.requires.declaration_in_bounds
    c.decl_at-d.ensures

pub constant-returns : goal.constant-returns
constant-returns t c =
    delta_answers _ _ (at_delta t (goal.at.constant-returns t c).In-Final-by_arith) c.requires.declaration_in_bounds c.decl_at-d.ensures c.unfold_def.ensures

-- QUOT_MAJOR: Quot.lift and Quot.ind, with the major at a position.
pub quot_major-returns-then-count-position : goal.quot_major-returns-then-count-position
quot_major-returns-then-count-position t c = no_major c.requires.counted _ _ c.if-count-position.true

pub quot_major-argument-major-requires-clause-counted : goal.quot_major-argument-major-requires-clause-counted
quot_major-argument-major-requires-clause-counted t c = may_take c.requires.counted

quotient_major : (t : ℕ) (c : quot_major-After-argument-major t) → Major c.args.lent.library.now c.args.lent.declarations.now c.args.lent.rules.now
    c.args.lent.context.now c.args.scratch.now c.args.g c.args.m c.args.t c.args.count c.args.position c.argument-major.result
quotient_major t c = record {
  given = c.requires.counted;
  low = c.requires.lt_position.0;
  inside = omega (arith, c.if-count-position.false);
  taken = c.argument-major.ensures;
}

pub quot_major-side-got-requires : goal.quot_major-side-got-requires
quot_major-side-got-requires t c =
    (side_falls _ c.decreases, major_asked (quotient_major t (goal.at.quot_major-side-got-requires t c).After-argument-major))

pub quot_major-returns-in_default : goal.quot_major-returns-in_default
quot_major-returns-in_default t c =
    major_refused (quotient_major t (goal.at.quot_major-returns-in_default t c).After-argument-major) _ c.side-got.ensures c.unwrap_err.ensures

quotient_came : (t : ℕ) (c : quot_major-In-Ok t) → Came c.args.lent.library.now c.args.lent.declarations.now c.args.lent.rules.now
    c.args.lent.context.now c.args.scratch.now c.args.g c.args.m c.args.t c.args.count c.args.nesting c.argument-major.result
    c.side-got.new.scratch c.in-Ok.q c.in-Ok.m1
quotient_came t c = record {
  given = c.requires.counted;
  scope = major_scope (quotient_major t (goal.at.quot_major-In-Ok t c).After-argument-major);
  ran = c.in-Ok.ensures;
}

pub quot_major-quot_made-requires : goal.quot_major-quot_made-requires
quot_major-quot_made-requires t c = came_read (quotient_came t (goal.at.quot_major-quot_made-requires t c).In-Ok)

pub quot_major-returns-in_default-quot_made : goal.quot_major-returns-in_default-quot_made
quot_major-returns-in_default-quot_made t c =
    let at = goal.at.quot_major-returns-in_default-quot_made t c in
    no_element (quotient_major t at.After-argument-major) (quotient_came t at.In-Ok) c.quot_made.ensures c.in_default-quot_made.is

pub quot_major-argument-f-requires-clause-counted : goal.quot_major-argument-f-requires-clause-counted
quot_major-argument-f-requires-clause-counted t c =
    may_take (still_counted (quotient_came t (goal.at.quot_major-argument-f-requires-clause-counted t c).In-Ok))

pub quot_major-give_with-requires-clause-headed : goal.quot_major-give_with-requires-clause-headed
quot_major-give_with-requires-clause-headed t c =
    still_headed (quotient_came t (goal.at.quot_major-give_with-requires-clause-headed t c).In-Ok)

pub quot_major-give_with-requires-clause-good : goal.quot_major-give_with-requires-clause-good
quot_major-give_with-requires-clause-good t c =
    let at = goal.at.quot_major-give_with-requires-clause-good t c in
    (element_there (quotient_major t at.After-argument-major) (quotient_came t at.In-Ok) c.quot_made.ensures c.in-Some.is c.argument-f.ensures).1.0

pub quot_major-returns : goal.quot_major-returns
quot_major-returns t c =
    let at = goal.at.quot_major-returns t c in
    element_given (quotient_major t at.After-argument-major) (quotient_came t at.In-Ok) c.quot_made.ensures c.in-Some.is c.argument-f.ensures
    c.give_with.ensures

-- REDUCE_ARITH: two side reductions, two numbers, the outcome written.

abbrev arith_call : (t : ℕ) → reduce_arith-Start t → Call
arith_call t c = record {
  library = c.args.lent.library.now;
  decls = c.args.lent.declarations.now;
  rules = c.args.lent.rules.now;
  context = c.args.lent.context.now;
  scratch = c.args.scratch.now;
  g = c.args.g;
  m = c.args.m;
  declaration = c.args.declaration;
  t = c.args.t;
  count = c.args.count;
  nesting = c.args.nesting;
}

-- WHICH OPERATION

arith_known : (t : ℕ) (c : reduce_arith-After-decl_at t) → Known (arith_call t (goal.at.reduce_arith-After-decl_at t c).Start) c.decl_at.result
arith_known t c = record { counted = c.requires.counted; there = c.requires.declaration_in_bounds; is = c.decl_at.ensures }

pub reduce_arith-returns-in_default : goal.reduce_arith-returns-in_default
reduce_arith-returns-in_default t c = untried (arith_known t (goal.at.reduce_arith-returns-in_default t c).After-decl_at) c.in_default.ensures

pub reduce_arith-returns-then-count-ne2 : goal.reduce_arith-returns-then-count-ne2
reduce_arith-returns-then-count-ne2 t c =
    miscounted (arith_known t (goal.at.reduce_arith-returns-then-count-ne2 t c).After-decl_at) c.in-Some.ensures c.if-count-ne2.true

arith_trying : (t : ℕ) (c : reduce_arith-Else-count-ne2 t) → Trying (arith_call t (goal.at.reduce_arith-Else-count-ne2 t c).Start) c.in-Some.op
arith_trying t c = trying (arith_known t (goal.at.reduce_arith-Else-count-ne2 t c).After-decl_at) c.in-Some.ensures c.if-count-ne2.false

-- THE FIRST OPERAND

pub reduce_arith-argument-first-requires-clause-counted : goal.reduce_arith-argument-first-requires-clause-counted
reduce_arith-argument-first-requires-clause-counted t c = may_take c.requires.counted

arith_first : (t : ℕ) (c : reduce_arith-After-argument-first t) →
    First (arith_call t (goal.at.reduce_arith-After-argument-first t c).Start) c.in-Some.op c.argument-first.result
arith_first t c = record { trying = arith_trying t (goal.at.reduce_arith-After-argument-first t c).Else-count-ne2; argument = c.argument-first.ensures }

pub reduce_arith-side-got-requires : goal.reduce_arith-side-got-requires
reduce_arith-side-got-requires t c =
    (side_falls _ c.decreases, first_asked (arith_first t (goal.at.reduce_arith-side-got-requires t c).After-argument-first))

pub reduce_arith-returns-in_default-got : goal.reduce_arith-returns-in_default-got
reduce_arith-returns-in_default-got t c =
    first_refused (arith_first t (goal.at.reduce_arith-returns-in_default-got t c).After-argument-first) (ran_as c.unwrap_err.ensures c.side-got.ensures)

abbrev arith_one : (t : ℕ) → reduce_arith-In-Ok t → Operand
arith_one t c = record { read = c.argument-first.result; end = c.in-Ok.q; m = c.in-Ok.m1; scratch = c.side-got.new.scratch }

arith_first_done : (t : ℕ) (c : reduce_arith-In-Ok t) →
    FirstDone (arith_call t (goal.at.reduce_arith-In-Ok t c).Start) c.in-Some.op (arith_one t c)
arith_first_done t c = record { first = arith_first t (goal.at.reduce_arith-In-Ok t c).After-argument-first; ran = c.in-Ok.ensures }

pub reduce_arith-number_at-requires : goal.reduce_arith-number_at-requires
reduce_arith-number_at-requires t c = walk_allowed (first_end (arith_first_done t (goal.at.reduce_arith-number_at-requires t c).In-Ok))

pub reduce_arith-returns-in_default-number_at : goal.reduce_arith-returns-in_default-number_at
reduce_arith-returns-in_default-number_at t c =
    no_first_number (arith_first_done t (goal.at.reduce_arith-returns-in_default-number_at t c).In-Ok) c.in_default-number_at.ensures

-- THE SECOND OPERAND

pub reduce_arith-argument-second-requires-clause-counted : goal.reduce_arith-argument-second-requires-clause-counted
reduce_arith-argument-second-requires-clause-counted t c =
    may_take (counted_on (arith_first_done t (goal.at.reduce_arith-argument-second-requires-clause-counted t c).In-Ok))

arith_second : (t : ℕ) (c : reduce_arith-After-argument-second t) →
    Second (arith_call t (goal.at.reduce_arith-After-argument-second t c).Start) c.in-Some.op
    (arith_one t (goal.at.reduce_arith-After-argument-second t c).In-Ok) c.in-Some-number_at.x c.argument-second.result
arith_second t c = record {
  first = first_number (arith_first_done t (goal.at.reduce_arith-After-argument-second t c).In-Ok) c.in-Some-number_at.ensures;
  argument = c.argument-second.ensures;
}

pub reduce_arith-side-next-requires : goal.reduce_arith-side-next-requires
reduce_arith-side-next-requires t c =
    (side_falls _ c.decreases, second_asked (arith_second t (goal.at.reduce_arith-side-next-requires t c).After-argument-second))

pub reduce_arith-returns-in_default-next : goal.reduce_arith-returns-in_default-next
reduce_arith-returns-in_default-next t c =
    second_refused (arith_second t (goal.at.reduce_arith-returns-in_default-next t c).After-argument-second)
    (ran_as c.unwrap_err-in_default-next.ensures c.side-next.ensures)

arith_second_done : (t : ℕ) (c : reduce_arith-In-Ok-next t) →
    SecondDone (arith_call t (goal.at.reduce_arith-In-Ok-next t c).Start) c.in-Some.op
    (arith_one t (goal.at.reduce_arith-In-Ok-next t c).In-Ok) c.in-Some-number_at.x
    (record { read = c.argument-second.result; end = c.in-Ok-next.q2; m = c.in-Ok-next.m2; scratch = c.side-next.new.scratch })
arith_second_done t c = record {
  second = arith_second t (goal.at.reduce_arith-In-Ok-next t c).After-argument-second;
  ran = c.in-Ok-next.ensures;
}

pub reduce_arith-number_at-requires-2 : goal.reduce_arith-number_at-requires-2
reduce_arith-number_at-requires-2 t c = walk_allowed (second_end (arith_second_done t (goal.at.reduce_arith-number_at-requires-2 t c).In-Ok-next))

pub reduce_arith-returns-in_default-number_at-2 : goal.reduce_arith-returns-in_default-number_at-2
reduce_arith-returns-in_default-number_at-2 t c =
    no_second_number (arith_second_done t (goal.at.reduce_arith-returns-in_default-number_at-2 t c).In-Ok-next) c.in_default-number_at-2.ensures

-- THE OUTCOME

pub reduce_arith-write_outcome-requires-clause-may_fire : goal.reduce_arith-write_outcome-requires-clause-may_fire
reduce_arith-write_outcome-requires-clause-may_fire t c =
    may_fire (second_end (arith_second_done t (goal.at.reduce_arith-write_outcome-requires-clause-may_fire t c).In-Ok-next))

pub reduce_arith-write_outcome-requires-clause-truth_held : goal.reduce_arith-write_outcome-requires-clause-truth_held
reduce_arith-write_outcome-requires-clause-truth_held t c =
    truths (arith_second_done t (goal.at.reduce_arith-write_outcome-requires-clause-truth_held t c).In-Ok-next) _ c.compute.ensures

pub reduce_arith-returns : goal.reduce_arith-returns
reduce_arith-returns t c =
    arithmetic_done (arith_second_done t (goal.at.reduce_arith-returns t c).In-Ok-next) _ c.compute.ensures c.in-Some-number_at-2.ensures
    c.write_outcome.ensures

-- REDUCE_PROJ: the structure's reduction, and the field there.
pub reduce_proj-returns-in_default : goal.reduce_proj-returns-in_default
reduce_proj-returns-in_default t c =
    structure_refused c.requires.counted _ _ c.requires.in_scope c.side-got.ensures c.unwrap_err.ensures

structure_came : (t : ℕ) (c : reduce_proj-In-Ok t) → Came c.args.lent.library.now c.args.lent.declarations.now c.args.lent.rules.now
    c.args.lent.context.now c.args.scratch.now c.args.g c.args.m c.args.t c.args.count c.args.nesting c.args.structure
    c.side-got.new.scratch c.in-Ok.q c.in-Ok.m1
structure_came t c = record { given = c.requires.counted; scope = c.requires.in_scope; ran = c.in-Ok.ensures }

pub reduce_proj-field_at-requires : goal.reduce_proj-field_at-requires
reduce_proj-field_at-requires t c = came_read (structure_came t (goal.at.reduce_proj-field_at-requires t c).In-Ok)

pub reduce_proj-returns-in_default-field_at : goal.reduce_proj-returns-in_default-field_at
reduce_proj-returns-in_default-field_at t c =
    no_field (structure_came t (goal.at.reduce_proj-returns-in_default-field_at t c).In-Ok) c.field_at.ensures c.in_default-field_at.is

pub reduce_proj-give-requires-clause-headed : goal.reduce_proj-give-requires-clause-headed
reduce_proj-give-requires-clause-headed t c = still_headed (structure_came t (goal.at.reduce_proj-give-requires-clause-headed t c).In-Ok)

pub reduce_proj-give-requires-clause-row_bound : goal.reduce_proj-give-requires-clause-row_bound
reduce_proj-give-requires-clause-row_bound t c =
    (field_there (structure_came t (goal.at.reduce_proj-give-requires-clause-row_bound t c).In-Ok) c.field_at.ensures c.in-Some.is).1

pub reduce_proj-returns : goal.reduce_proj-returns
reduce_proj-returns t c =
    field_given (structure_came t (goal.at.reduce_proj-returns t c).In-Ok) c.field_at.ensures c.in-Some.is c.give.ensures

-- REDUCE_QUOT: which of the two rules, by the role.
pub reduce_quot-returns-in_default : goal.reduce_quot-returns-in_default
reduce_quot-returns-in_default t c =
    no_quotient c.requires.counted _ _ c.requires.declaration_in_bounds c.decl_at.ensures (λ e. cc) λ e. cc

pub reduce_quot-returns-in-QuotLift : goal.reduce_quot-returns-in-QuotLift
reduce_quot-returns-in-QuotLift t c =
    lifts c.requires.counted _ _ c.requires.declaration_in_bounds c.decl_at.ensures (c.in-Some.is ∙ ap Some c.in-QuotLift.is) c.quot_major.ensures

pub reduce_quot-returns-in-QuotInd : goal.reduce_quot-returns-in-QuotInd
reduce_quot-returns-in-QuotInd t c =
    inducts c.requires.counted _ _ c.requires.declaration_in_bounds c.decl_at.ensures (c.in-Some.is ∙ ap Some c.in-QuotInd.is)
    c.quot_major-in-QuotInd.ensures

pub reduce_quot-returns-in_default-role : goal.reduce_quot-returns-in_default-role
reduce_quot-returns-in_default-role t c =
    no_quotient c.requires.counted _ _ c.requires.declaration_in_bounds c.decl_at.ensures
    (λ e. c.in_default-role.not-QuotLift cc) λ e. c.in_default-role.not-QuotInd cc

-- REDUCE_REC: the major as a constructor, and the rule for it.
opened : (t : ℕ) (c : reduce_rec-After-decl_at-d t) → Opened c.args.lent.library.now c.args.lent.declarations.now c.args.lent.rules.now
    c.args.lent.context.now c.args.scratch.now c.args.g c.args.m c.args.t c.args.count c.args.declaration c.decl_at-d.result
opened t c = record { counted = c.requires.counted; there = c.requires.declaration_in_bounds; read = c.decl_at-d.ensures }

pub reduce_rec-returns-then-d-levels : goal.reduce_rec-returns-then-d-levels
reduce_rec-returns-then-d-levels t c =
    levels_differ (opened t (goal.at.reduce_rec-returns-then-d-levels t c).After-decl_at-d) _ _ c.if-d-levels.true

pub reduce_rec-returns-then-ne : goal.reduce_rec-returns-then-ne
reduce_rec-returns-then-ne t c =
    let other : c.decl_at-d.result.kind ≡ Some Recursor → ⊥ = λ e. search rules in
    no_recursors (opened t (goal.at.reduce_rec-returns-then-ne t c).After-decl_at-d) _ _ other

pub reduce_rec-overflow_add-position : goal.reduce_rec-overflow_add-position
reduce_rec-overflow_add-position t c = record { fits = omega arith }

pub reduce_rec-overflow_cast-position : goal.reduce_rec-overflow_cast-position
reduce_rec-overflow_cast-position t c = record { fits = omega arith }

pub reduce_rec-returns-then-count-position : goal.reduce_rec-returns-then-count-position
reduce_rec-returns-then-count-position t c =
    let kind : c.decl_at-d.result.kind ≡ Some Recursor = search rules in
    too_few (opened t (goal.at.reduce_rec-returns-then-count-position t c).After-decl_at-d) _ _ c.if-d-levels.false kind
    c.if-count-position.true

pub reduce_rec-argument-major-requires-clause-counted : goal.reduce_rec-argument-major-requires-clause-counted
reduce_rec-argument-major-requires-clause-counted t c = may_take c.requires.counted

majored : (t : ℕ) (c : reduce_rec-After-argument-major t) → Majored c.args.lent.library.now c.args.lent.declarations.now c.args.lent.rules.now
    c.args.lent.context.now c.args.scratch.now c.args.g c.args.m c.args.t c.args.count c.args.declaration c.args.levels
    c.decl_at-d.result c.argument-major.result
majored t c =
    let kind : c.decl_at-d.result.kind ≡ Some Recursor = search rules in
    record {
      opened = opened t (goal.at.reduce_rec-After-argument-major t c).After-decl_at-d;
      levelled = c.if-d-levels.false;
      kind = kind;
      inside = c.if-count-position.false;
      major = c.argument-major.ensures;
    }

pub reduce_rec-side-got-requires : goal.reduce_rec-side-got-requires
reduce_rec-side-got-requires t c =
    (omega (arith, c.decreases), rec_major_asked (majored t (goal.at.reduce_rec-side-got-requires t c).After-argument-major))

pub reduce_rec-returns-in_default : goal.reduce_rec-returns-in_default
reduce_rec-returns-in_default t c =
    major_stops (majored t (goal.at.reduce_rec-returns-in_default t c).After-argument-major) _ c.side-got.ensures c.unwrap_err.ensures

major_reached : (t : ℕ) (c : reduce_rec-In-Ok t) → Reached c.args.lent.library.now c.args.lent.declarations.now c.args.lent.rules.now
    c.args.lent.context.now c.args.scratch.now c.args.g c.args.m c.args.t c.args.count c.args.declaration c.args.levels
    c.decl_at-d.result c.argument-major.result c.args.nesting c.in-Ok.q c.in-Ok.m1 c.side-got.new.scratch
major_reached t c = record { majored = majored t (goal.at.reduce_rec-In-Ok t c).After-argument-major; ran = c.in-Ok.ensures }

pub reduce_rec-constructor_of-requires : goal.reduce_rec-constructor_of-requires
reduce_rec-constructor_of-requires t c = major_stands (major_reached t (goal.at.reduce_rec-constructor_of-requires t c).In-Ok)

pub reduce_rec-returns-in_err-made : goal.reduce_rec-returns-in_err-made
reduce_rec-returns-in_err-made t c =
    rw (handed_on c.from_residual.ensures.1) (rows_refused (major_reached t (goal.at.reduce_rec-returns-in_err-made t c).In-Ok) c.in_err-made.ensures refl)

abbrev constructed : Maybe Made × Meter → Construction
constructed p = Ok p

pub reduce_rec-returns-in_default-made : goal.reduce_rec-returns-in_default-made
reduce_rec-returns-in_default-made t c =
    nothing_made (major_reached t (goal.at.reduce_rec-returns-in_default-made t c).In-Ok) c.in_ok-made.ensures
    (ap (λ (z : Maybe Made). constructed (z, c.in_ok-made.m2)) c.in_default-made.is)

constructor_built : (t : ℕ) (c : reduce_rec-In-Some t) → Built c.args.lent.library.now c.args.lent.declarations.now c.args.lent.rules.now
    c.args.lent.context.now c.args.scratch.now c.args.g c.args.m c.args.t c.args.count c.args.declaration c.args.levels
    c.decl_at-d.result c.argument-major.result c.args.nesting c.in-Ok.q c.in-Ok.m1 c.side-got.new.scratch
    c.in-Some.made c.in_ok-made.m2 c.constructor_of.new.scratch
constructor_built t c =
    built (major_reached t (goal.at.reduce_rec-In-Some t c).In-Ok) c.in_ok-made.ensures
    (ap (λ (z : Maybe Made). constructed (z, c.in_ok-made.m2)) c.in-Some.is)

pub reduce_rec-by_rule-requires : goal.reduce_rec-by_rule-requires
reduce_rec-by_rule-requires t c = may_rule (constructor_built t (goal.at.reduce_rec-by_rule-requires t c).In-Some)

pub reduce_rec-returns : goal.reduce_rec-returns
reduce_rec-returns t c = ruled_left (constructor_built t (goal.at.reduce_rec-returns t c).In-Some) c.by_rule.ensures

-- SIDE: one level deeper, or 6.
pub side-returns-then-nesting-eq0 : goal.side-returns-then-nesting-eq0
side-returns-then-nesting-eq0 t c = no_level_left _ _ _ _ _ c.args.g _ _ _ c.if-nesting-eq0.true

pub side-whnf-requires : goal.side-whnf-requires
side-whnf-requires t c = (omega (arith, c.decreases, c.if-nesting-eq0.false), c.requires)

pub side-returns : goal.side-returns
side-returns t c = one_level_deeper _ _ _ _ _ c.args.g _ _ _ c.if-nesting-eq0.false c.whnf.ensures

-- WHNF: the loop over firings.
pub whnf-loop-q-init : goal.whnf-loop-q-init
whnf-loop-q-init t c = going_begins _ c.requires

pub whnf-at_head-requires : goal.whnf-at_head-requires
whnf-at_head-requires t c = (omega (arith, c.decreases), c.loop-q.invariant.asked)

pub whnf-returns-in_err-q : goal.whnf-returns-in_err-q
whnf-returns-in_err-q t c =
    rw (handed_on c.from_residual.ensures.1) (going_stops c.loop-q.invariant c.in_err-q.ensures refl)

pub whnf-loop-q-smaller : goal.whnf-loop-q-smaller
whnf-loop-q-smaller t c = fewer_left c.loop-q.invariant c.in_ok-q.ensures (ap Ok c.in-Term.is)

pub whnf-loop-q-preserved : goal.whnf-loop-q-preserved
whnf-loop-q-preserved t c = going_on c.loop-q.invariant c.in_ok-q.ensures (ap Ok c.in-Term.is)

pub whnf-returns-in-Final : goal.whnf-returns-in-Final
whnf-returns-in-Final t c = going_ends c.loop-q.invariant c.in_ok-q.ensures (ap Ok c.in-Final.is)
