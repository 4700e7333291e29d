-- Arithmetic at each place of the code, on plain values: what is known there, what the next call is given, and each way out.
-- Assumes what the member is given.
use Prim.Native.Nat.{ℕ, ◌/◌, ◌<◌}
use native.Mathlib.Omega as O
use mathlib.Core.Path.{◌≡◌, sym, ap, ◌∙◌}
use mathlib.Core.List.{List}
use mathlib.Core.Option.{Option, some}
use lib.ListN.{length, get_or}
use Rattle.std.specs.Prelude.{Option as Maybe, Some, None, Ok, Err}
use Rattle.rules.specs.Rows as rules
use Rattle.rules.specs.RowCheck.{InScope}
use Rattle.rules.specs.Accepted.{part}
use Rattle.rules.specs.Arithmetic.{compute}
use Rattle.rules.specs.Declarations.{Decl, Env, nth, decl_at}
use Rattle.rules.specs.HeadTests.{operands, operands_of, as_number}
use Rattle.safety.specs.Lists.{nth_there}
use Rattle.ways.specs.Spines.{args_of}
use Rattle.rows.specs.declared.Ptr.{Ptr}
use Rattle.rows.specs.declared.refusals.Refusal.{Refusal}
use Rattle.rows.specs.Words.{ptr_of, store_of, whole}
use Rattle.spine.specs.Walks.{Argument}
use Rattle.tables.specs.Env.{env_of}
use Rattle.tables.specs.Codes.{role_on}
use Rattle.tables.specs.Read.{decl_read}
use Rattle.tables.specs.ReadLaws.{role_is}
use Rattle.tables.specs.declared.Decl as code
use Rattle.arith.specs.declared.Number.{Number}
use Rattle.arith.specs.declared.Op.{Op}
use Rattle.arith.specs.Meaning.{Outcome, op_of, value_of, meaning, settled}
use Rattle.state.specs.declared.Given.{Given}
use Rattle.state.specs.declared.Meter.{Meter}
use Rattle.state.specs.declared.Tried.TheVariants.{Final}
use Rattle.state.specs.State.{Answer, Reduced, Used, Left}
use Rattle.majors.specs.Majors.{Agrees, number_in, NumberAt, MayFire, TruthHeld, OutcomeLeft}
use Rattle.majors.proofs.ForCallers.{outcome_left}
use Rattle.cycle.specs.Cycle.{Asked, Counted, Ran, res_by}
use Rattle.cycle.specs.Members.{computed}
use Rattle.cycle.proofs.Tests.{not_two_operands, two_operands}
use Rattle.cycle.proofs.Recursing.{holders_known}
use Rattle.cycle.proofs.WaysOut.{head_row, q_asked, t_counted, same_arguments}
use Rattle.cycle.proofs.Computing.{not_computed, first_stops, first_no_number, second_stops, second_no_number, computes}
use Rattle.reduce.specs.Members.{OpTried}
use Rattle.reduce.proofs.Sides.{nth_taken, taken_is, taken_asked}
use Rattle.reduce.proofs.ArithTests.{Operation, tried_operation, no_operands, outcome_comes, truth_held}

-- A REDUCED OPERAND, read as a number
module _ {l ds rs cs sc : List ℕ} {g : Given} {m : Meter} {q : Ptr} (a : Asked l ds rs cs sc g m q) where
  used : Used l sc g.nlib m.mark
  used = let s = a.stand in record { held = s.held; words = s.words; declarations = _; pass = s.sane.pass }

  pub number_read : {r : Maybe Number} → NumberAt l sc q r →
      number_in r ≡ as_number (head_row (store_of l sc m.mark) (ptr_of q)) (args_of (store_of l sc m.mark) (ptr_of q))
  number_read n = n.is g.nlib m.mark g.depth used a.scope

  pub may_fire : MayFire l sc g m
  may_fire = record { used = used; metered = a.stand.metered; budget = a.stand.budget }

-- THE CALL: its arguments, and what is promised of its answer

pub record Call : Type 0 where
  pub library : List ℕ
  pub decls : List ℕ
  pub rules : List ℕ
  pub context : List ℕ
  pub scratch : List ℕ
  pub g : Given
  pub m : Meter
  pub declaration : ℕ
  pub t : Ptr
  pub count : ℕ
  pub nesting : ℕ

module _ (k : Call) where
  abbrev Here : Env
  Here = env_of k.decls k.rules k.context k.g.depth

  abbrev D : Decl
  D = decl_at Here.decls k.declaration

  -- in the rows sc up to a meter
  abbrev args : List ℕ → Meter → List rules.Ptr
  args sc m = args_of (store_of k.library sc m.mark) (ptr_of k.t)

  abbrev CountedIn : List ℕ → Meter → Type 0
  CountedIn sc m = Counted k.library k.decls k.rules k.context sc k.g m k.t k.count

  abbrev AskedIn : List ℕ → Meter → Ptr → Type 0
  AskedIn sc m p = Asked k.library k.decls k.rules k.context sc k.g m p

  abbrev SideRan : List ℕ → Meter → Ptr → Reduced → List ℕ → Type 0
  SideRan sc m p r sc' = Ran k.library sc m r sc' (res_by k.library k.decls k.rules k.context sc k.g m k.nesting (ptr_of p))

  abbrev Promised : Answer → List ℕ → Type 0
  Promised r sc' =
      Left k.library k.scratch k.m r sc'
      (computed k.library k.decls k.rules k.context k.scratch k.g k.m k.t k.nesting k.declaration)

  abbrev number_at : List ℕ → Meter → Ptr → Option ℕ
  number_at sc m q =
      as_number (head_row (store_of k.library sc m.mark) (ptr_of q)) (args_of (store_of k.library sc m.mark) (ptr_of q))

-- THE TESTS

-- the declaration that was read
pub record Known (k : Call) (d : code.Decl) : Type 0 where
  pub counted : CountedIn k k.scratch k.m
  pub there : k.declaration < length k.decls / 16
  pub is : d ≡ decl_read (part 16 k.decls k.declaration)

-- o is tried, on two arguments
pub record Trying (k : Call) (o : Op) : Type 0 where
  pub counted : CountedIn k k.scratch k.m
  pub operation : Operation (Here k) (D k).role o
  pub two : k.count ≡ 2

-- the table of holders is that of the declarations
agreed : (k : Call) {sc : List ℕ} {m : Meter} → CountedIn k sc m → Agrees (Here k) k.g.holders
agreed k c = holders_known c k.nesting k.declaration 0

module _ {k : Call} {d : code.Decl} (known : Known k d) where
  role_read : (D k).role ≡ role_on d.role
  role_read =
      role_is k.decls k.rules k.context k.g.depth k.declaration known.there ∙ ap (λ (x : code.Decl). role_on x.role) (sym known.is)

  pub untried : OpTried k.g.holders d.role None → Promised k (Ok (Final k.m)) k.scratch
  untried tries =
      not_computed known.counted k.nesting k.declaration
      (no_operands (agreed k known.counted) (D k) role_read tries (args k k.scratch k.m))

  module _ {o : Op} (tries : OpTried k.g.holders d.role (Some o)) where
    operation : Operation (Here k) (D k).role o
    operation = tried_operation (agreed k known.counted) (D k) role_read tries

    pub miscounted : (k.count ≡ 2 → ⊥) → Promised k (Ok (Final k.m)) k.scratch
    miscounted h =
        not_computed known.counted k.nesting k.declaration
        (not_two_operands (Here k) (D k) (args k k.scratch k.m) operation.of (λ z. h (sym known.counted.counted ∙ z)))

    pub trying : k.count ≡ 2 → Trying k o
    trying h = record { counted = known.counted; operation = operation; two = h }

-- THE FIRST OPERAND

-- an operand: as it was read, the term that it was reduced to, and the rows and the meter then
pub record Operand : Type 0 where
  pub read : Ptr
  pub end : Ptr
  pub m : Meter
  pub scratch : List ℕ

pub record First (k : Call) (o : Op) (x : Ptr) : Type 0 where
  pub trying : Trying k o
  pub argument : Argument (whole k.library k.scratch) (ptr_of k.t) k.count 0 x

-- it was reduced
pub record FirstDone (k : Call) (o : Op) (x : Operand) : Type 0 where
  pub first : First k o x.read
  pub ran : SideRan k k.scratch k.m x.read (Ok (x.end, x.m)) x.scratch

-- it is the number a
pub record FirstNumber (k : Call) (o : Op) (x : Operand) (a : Number) : Type 0 where
  pub done : FirstDone k o x
  pub number : some (value_of a) ≡ number_at k x.scratch x.m x.end

module _ {k : Call} {o : Op} {x : Ptr} (first : First k o x) where
  pub first_asked : AskedIn k k.scratch k.m x
  first_asked = taken_asked first.trying.counted first.argument

  -- with whatever stands second
  operands_with : {y : rules.Ptr} → nth (args k k.scratch k.m) 1 ≡ some y →
      operands (Here k) (D k) (args k k.scratch k.m) ≡ some (operands_of (op_of o) (ptr_of x) y)
  operands_with q =
      let c = first.trying.counted in
      let p = first.trying.operation in
      two_operands (Here k) (D k) (args k k.scratch k.m) p.of p.tries (c.counted ∙ first.trying.two) (taken_is c first.argument) q

  -- the second, which is there before it is read
  unread : Ptr
  unread = let y = get_or (args k k.scratch k.m) 1 (ptr_of x) in record { row = y.row; shift = y.shift }

  unread_second : nth (args k k.scratch k.m) 1 ≡ some (ptr_of unread)
  unfolding unread
  unread_second =
      let many = first.trying.counted.counted in
      let two = first.trying.two in
      nth_there (args k k.scratch k.m) 1 (ptr_of x) (omega (O.arith, many, two))

  pub first_refused : {n : Refusal} {sc₁ : List ℕ} → SideRan k k.scratch k.m x (Err n) sc₁ → Promised k (Err n) sc₁
  first_refused ran =
      first_stops first.trying.counted k.nesting k.declaration {y = unread} (operands_with unread_second) first_asked.scope ran

module _ {k : Call} {o : Op} {x : Operand} (done : FirstDone k o x) where
  abbrev start : First k o x.read
  start = done.first

  pub first_end : AskedIn k x.scratch x.m x.end
  first_end = q_asked start.trying.counted k.nesting (first_asked start).scope done.ran

  pub counted_on : CountedIn k x.scratch x.m
  counted_on = t_counted start.trying.counted k.nesting (first_asked start).scope done.ran

  pub no_first_number : NumberAt k.library x.scratch x.end None → Promised k (Ok (Final x.m)) x.scratch
  no_first_number n =
      first_no_number start.trying.counted k.nesting k.declaration {y = unread start} (operands_with start (unread_second start))
      (first_asked start).scope done.ran (number_read first_end n)

  pub first_number : {a : Number} → NumberAt k.library x.scratch x.end (Some a) → FirstNumber k o x a
  first_number n = record { done = done; number = number_read first_end n }

-- THE SECOND OPERAND

pub record Second (k : Call) (o : Op) (x : Operand) (a : Number) (y : Ptr) : Type 0 where
  pub first : FirstNumber k o x a
  pub argument : Argument (whole k.library x.scratch) (ptr_of k.t) k.count 1 y

-- it was reduced
pub record SecondDone (k : Call) (o : Op) (x : Operand) (a : Number) (y : Operand) : Type 0 where
  pub second : Second k o x a y.read
  pub ran : SideRan k x.scratch x.m y.read (Ok (y.end, y.m)) y.scratch

module _ {k : Call} {o : Op} {x : Operand} {a : Number} {y : Ptr} (second : Second k o x a y) where
  abbrev done₁ : FirstDone k o x
  done₁ = second.first.done

  abbrev start₁ : First k o x.read
  start₁ = done₁.first

  pub second_asked : AskedIn k x.scratch x.m y
  second_asked = taken_asked (counted_on done₁) second.argument

  -- it stood second before the first was reduced, too
  second_nth : nth (args k k.scratch k.m) 1 ≡ some (ptr_of y)
  second_nth =
      ap (λ (xs : List rules.Ptr). nth xs 1) (sym (same_arguments start₁.trying.counted k.nesting (first_asked start₁).scope done₁.ran))
      ∙ taken_is (counted_on done₁) second.argument

  second_scope : InScope (store_of k.library k.scratch k.m.mark) k.g.depth (ptr_of y)
  second_scope = nth_taken start₁.trying.counted 1 second_nth

  pub second_refused : {n : Refusal} {sc₂ : List ℕ} → SideRan k x.scratch x.m y (Err n) sc₂ → Promised k (Err n) sc₂
  second_refused ran =
      second_stops start₁.trying.counted k.nesting k.declaration (operands_with start₁ second_nth) (first_asked start₁).scope done₁.ran
      second.first.number second_scope ran

module _ {k : Call} {o : Op} {x : Operand} {a : Number} {y : Operand} (done : SecondDone k o x a y) where
  abbrev begun : First k o x.read
  begun = start₁ done.second

  pub second_end : AskedIn k y.scratch y.m y.end
  second_end = q_asked (counted_on (done₁ done.second)) k.nesting (second_asked done.second).scope done.ran

  pub no_second_number : NumberAt k.library y.scratch y.end None → Promised k (Ok (Final y.m)) y.scratch
  no_second_number n =
      second_no_number begun.trying.counted k.nesting k.declaration (operands_with begun (second_nth done.second)) (first_asked begun).scope
      (done₁ done.second).ran done.second.first.number (second_scope done.second) done.ran (number_read second_end n)

  -- THE OUTCOME: b is the second number, z what was computed
  module _ (b : Number) {z : Outcome} (means : meaning z ≡ settled (compute (op_of o) (value_of a) (value_of b))) where
    pub truths : TruthHeld k.g.holders z
    truths = truth_held (agreed k begun.trying.counted) (op_of o) begun.trying.operation.tries (value_of a) (value_of b) z means

    pub arithmetic_done : {r : Answer} {sc₃ : List ℕ} → NumberAt k.library y.scratch y.end (Some b) →
        OutcomeLeft k.library y.scratch k.g y.m z r sc₃ → Promised k r sc₃
    arithmetic_done n left =
        let agrees = agreed k begun.trying.counted in
        let comes = outcome_comes agrees (op_of o) begun.trying.operation.tries (value_of a) (value_of b) in
        computes begun.trying.counted k.nesting k.declaration (operands_with begun (second_nth done.second)) (first_asked begun).scope
        (done₁ done.second).ran done.second.first.number (second_scope done.second) done.ran (number_read second_end n) comes.is
        (outcome_left left (Here k) agrees (compute (op_of o) (value_of a) (value_of b)) means comes.to comes.is)
