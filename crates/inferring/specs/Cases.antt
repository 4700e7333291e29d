-- Inference by computation on one small library: every form of a term, each refusal number, and the order in which refusals come.
-- The first table has document 01's own lines on inference; each line of the second says in words what it shows.
use Rattle.std.specs.Prelude.{ℕ, ◌+◌, ◌≡◌, refl, List, [], ◌∷◌, map, length}
use Rattle.std.proofs.Math.Option.{Option, none, some}
use Rattle.rules.specs.Kinds.{sort, const, lam, pi, let', proj, num}
use Rattle.rules.specs.Rows.{Ptr, ptr, blank, var, node, leaf, Store, grow}
use Rattle.rules.specs.Arithmetic.{mul}
use Rattle.rules.specs.Refusals.{Limits}
use Rattle.rules.specs.Declarations.{Env, Role, no_role, nat, arith, Form, plain, constructor, structure, Decl, Entry}
use Rattle.rules.specs.Call.{Answer, term, refused}
use Rattle.rules.specs.Inference.{type_of}
use Rattle.rules.specs.ReadOut.{Tree}
use Rattle.rules.specs.ReadOut as T
use Rattle.course.specs.Eval.{Res}
use Rattle.course.specs.Tables.{at, ap', declared, answer_of, read_of, Seen}
use Rattle.course.specs.Tables as C
use Rattle.inferring.specs.Views.{eq_view, pi_view, sort_view, names_view, form_view, structure_view}
use Rattle.inferring.specs.Asks.{Ask, pi_of, sort_of, body_of, question, allowed, sort_type, constant_type, variable_type, number_type, application_type}
use Rattle.inferring.specs.Asks.{lambda_type, pi_type, let_type, parameters, earlier, chosen, projection_type, at_row, asks}
use Rattle.inferring.specs.Eval.{run, type_at, infer_eval}

-- what is asked, within which budgets, and what the document answers; `reads` is the read-out of a type
pub record Case : Type 0 where
  pub context : List Entry
  pub asked : Ptr
  pub steps : ℕ
  pub free : ℕ
  pub nesting : ℕ
  pub spare : ℕ
  pub says : Answer
  pub reads : Option Tree

-- the asks, the tests in them and the evaluator, each with all that it computes with
unfoldable pub asks_of : Env → Store → Ptr → Ask
unfolding asks at_row projection_type chosen earlier parameters let_type pi_type lambda_type application_type number_type variable_type constant_type sort_type
asks_of e s t = asks e s t

unfoldable pub inferred_by : Env → Limits → ℕ → ℕ → Store → Ptr → Res
unfolding C.seen asks_of allowed question body_of sort_of pi_of eq_view pi_view sort_view names_view form_view structure_view type_of infer_eval type_at run
inferred_by e lim nesting spare s t = infer_eval e lim nesting spare s t

unfoldable pub seen : List Decl → Store → Case → Seen
unfolding inferred_by answer_of read_of
seen ds s c =
    let r : Res = inferred_by (declared ds c.context) (record { steps = c.steps; rows = length s + c.free }) c.nesting c.spare s c.asked in
    record { answer = answer_of s r; reads = read_of r }

abbrev pub expected : Case → Seen
expected c = record { answer = some c.says; reads = c.reads }

-- a declaration of a form, with a type
abbrev of_type : Form → ℕ → Role → Decl
of_type φ t r = record { form = φ; levels = 0; type = at t; value = none; role = r }

unfoldable pub decls : List Decl
decls =
    -- 0 Nat : sort 1; 1 f : pi A : sort 0. pi A. A; 2 P : sort 0
    of_type plain 1 nat ∷ of_type plain 11 no_role ∷ of_type plain 0 no_role ∷
    -- 3 Pair : pi sort 1. sort 1, a structure of one parameter; 4 its constructor : pi A : sort 1. pi A. pi A. Pair A; 5 an axiom of the type Pair Nat
    of_type (structure 1 4) 18 no_role ∷ of_type (constructor 1 2) 24 no_role ∷ of_type plain 25 no_role ∷
    -- 6 R : pi P. sort 0; 7 Both : sort 0, a structure; 8 its constructor : pi h : P. pi R h. Both; 9 an axiom of the type Both
    of_type plain 26 no_role ∷ of_type (structure 0 8) 0 no_role ∷ of_type (constructor 0 2) 31 no_role ∷ of_type plain 28 no_role ∷
    -- 10 Some : sort 0, a structure; 11 its constructor : pi Nat. Some; 12 an axiom of the type Some
    of_type (structure 0 11) 0 no_role ∷ of_type (constructor 0 1) 33 no_role ∷ of_type plain 32 no_role ∷
    -- 13 an axiom that counts one level; 14 a definition that stands for f's type; 15 g of that type
    record { form = plain; levels = 1; type = at 0; value = none; role = no_role } ∷
    record { form = plain; levels = 0; type = at 0; value = some (at 11); role = no_role } ∷ of_type plain 34 no_role ∷
    -- 16 mul; 17 an axiom whose type reduces to no number: mul 2^63 2
    of_type plain 0 (arith mul) ∷ of_type plain 39 no_role ∷ []

-- five rows a line
unfoldable pub library : Store
library = grow [] (
    leaf (sort 0) ∷ leaf (sort 1) ∷ leaf (sort 255) ∷ var 0 ∷ var 1 ∷
    -- 5 pi sort 0. v0, 6 lambda sort 0. v0, 7 Nat, 8 the number 7, 9 f
    node pi (at 0) (at 3) blank ∷ node lam (at 0) (at 3) blank ∷ leaf (const 0 0) ∷ leaf (num 7) ∷ leaf (const 1 0) ∷
    -- 10 pi v0. v1, 11 f's type, 12 P, 13 f P, 14 let sort 1 := sort 0 in v0
    node pi (at 3) (at 4) blank ∷ node pi (at 0) (at 10) blank ∷ leaf (const 2 0) ∷ ap' 9 12 ∷ node let' (at 1) (at 0) (at 3) ∷
    -- 15 lambda v0. v1, 16 pi sort 0. sort 0, 17 Pair, 18 Pair's type, 19 v2
    node lam (at 3) (at 4) blank ∷ node pi (at 0) (at 0) blank ∷ leaf (const 3 0) ∷ node pi (at 1) (at 1) blank ∷ var 2 ∷
    -- 20 Pair v2, 21 pi v1. Pair v2, 22 pi v0. pi v1. Pair v2, 23 not used, 24 the type of Pair's constructor
    ap' 17 19 ∷ node pi (at 4) (at 20) blank ∷ node pi (at 3) (at 21) blank ∷ leaf (sort 2) ∷ node pi (at 1) (at 22) blank ∷
    -- 25 Pair Nat, 26 R's type, 27 R, 28 Both, 29 R v0
    ap' 17 7 ∷ node pi (at 12) (at 0) blank ∷ leaf (const 6 0) ∷ leaf (const 7 0) ∷ ap' 27 3 ∷
    -- 30 pi R v0. Both, 31 the type of Both's constructor, 32 Some, 33 the type of Some's constructor, 34 the definition
    node pi (at 29) (at 28) blank ∷ node pi (at 12) (at 30) blank ∷ leaf (const 10 0) ∷ node pi (at 7) (at 32) blank ∷ leaf (const 14 0) ∷
    -- 35 mul, 36 2^63, 37 the number 2, 38 mul 2^63, 39 mul 2^63 2
    leaf (const 16 0) ∷ leaf (num 9223372036854775808) ∷ leaf (num 2) ∷ ap' 35 36 ∷ ap' 38 37 ∷
    -- 40 the pair, 41 its field 0, 42 its field 1, 43 its field 2, 44 the axiom of Both
    leaf (const 5 0) ∷ node (proj 3 0) (at 40) blank blank ∷ node (proj 3 1) (at 40) blank blank ∷ node (proj 3 2) (at 40) blank blank ∷ leaf (const 9 0) ∷
    -- 45 field 0 of it, 46 field 1 of it, 47 the axiom of Some, 48 its field 0, 49 Both's field 0 of the pair
    node (proj 7 0) (at 44) blank blank ∷ node (proj 7 1) (at 44) blank blank ∷ leaf (const 12 0) ∷ node (proj 10 0) (at 47) blank blank ∷
    node (proj 7 0) (at 40) blank blank ∷
    -- 50 the axiom of one level, given none, 51 g, 52 g P, 53 the number 7 applied, 54 pi of the number 7
    leaf (const 13 0) ∷ leaf (const 15 0) ∷ ap' 51 12 ∷ ap' 8 0 ∷ node pi (at 8) (at 0) blank ∷
    -- 55 pi sort 0. the number 7, 56 the axiom of the type mul 2^63 2, 57 it applied
    node pi (at 0) (at 8) blank ∷ leaf (const 17 0) ∷ ap' 56 0 ∷ [])

-- context, term; steps, free rows, nesting, spare records; the answer, its read-out
abbrev ask : List Entry → Ptr → ℕ → ℕ → ℕ → ℕ → Answer → Option Tree → Case
ask xs t steps free nesting spare a r = record {
  context = xs;
  asked = t;
  steps = steps;
  free = free;
  nesting = nesting;
  spare = spare;
  says = a;
  reads = r;
}

-- at depth 0, with a hundred of each budget
abbrev easy : ℕ → Answer → Tree → Case
easy t a r = ask [] (at t) 100 100 100 100 a (some r)

-- at depth 0 and refused
abbrev scarce : ℕ → ℕ → ℕ → ℕ → ℕ → ℕ → Case
scarce t steps free nesting spare k = ask [] (at t) steps free nesting spare (refused k 0) none

-- at depth 0 and refused, with a hundred of each budget
abbrev never : ℕ → ℕ → Case
never t k = scarce t 100 100 100 100 k

abbrev of : Ptr → Entry
of x = record { type = x; value = none }

-- DOCUMENT 01'S LINES. New rows have the numbers from 58 on.
unfoldable pub lines : List Case
lines =
    -- "inference of pi sort 0. var 0 gives sort 0": with just one level, one record and two rows
    ask [] (at 5) 0 2 1 1 (term (at 59) 0 2) (some (T.sort 0)) ∷
    -- "of sort 255 gives 10"; with no free row, too
    never 2 10 ∷
    scarce 2 0 0 0 0 10 ∷
    -- nesting 0 gives a type for a sort, a constant, a variable and a number ..
    ask [] (at 0) 0 1 0 0 (term (at 58) 0 1) (some (T.sort 1)) ∷
    ask [] (at 7) 0 0 0 0 (term (at 1) 0 0) (some (T.sort 1)) ∷
    ask (of (at 0) ∷ []) (at 3) 0 0 0 0 (term (at 0) 0 0) (some (T.sort 0)) ∷
    ask [] (at 8) 0 1 0 0 (term (at 58) 0 1) (some (T.const 0 0)) ∷
    -- .. and for nothing else: application, lambda, pi, let, projection
    scarce 13 100 100 0 100 6 ∷
    scarce 6 100 100 0 100 6 ∷
    scarce 5 100 100 0 100 6 ∷
    scarce 14 100 100 0 100 6 ∷
    scarce 41 100 100 0 100 6 ∷
    []

pub lines_hold : map (seen decls library) lines ≡ map expected lines
unfolding seen decls library lines
lines_hold = refl

unfoldable pub cases : List Case
cases =
    -- VARIABLE. The newest record's type is v0 of the one before it: shifted 1
    ask (of (at 0) ∷ of (at 3) ∷ []) (at 3) 0 0 0 0 (term (ptr 3 1) 0 0) (some (T.var 1)) ∷
    -- v0 shifted 1: the record before the newest
    ask (of (at 1) ∷ of (at 3) ∷ []) (ptr 3 1) 0 0 0 0 (term (at 1) 0 0) (some (T.sort 1)) ∷
    -- CONSTANT. given another count of levels
    never 50 9 ∷
    -- APPLICATION. f P: P goes in for both variables of pi v0. v1, one row
    easy 13 (term (at 58) 0 1) (T.pi (T.const 2 0) (T.const 2 0)) ∷
    -- g P: the function's type is a definition, whose step it costs
    easy 52 (term (at 58) 1 1) (T.pi (T.const 2 0) (T.const 2 0)) ∷
    -- a number is no function
    never 53 9 ∷
    -- LAMBDA. lambda sort 0. v0, with one spare record
    ask [] (at 6) 0 1 1 1 (term (at 58) 0 1) (some (T.pi (T.sort 0) (T.sort 0))) ∷
    -- lambda v0. v1 shifted 1: v1 is opened to v2, one row; it is the oldest record, of the type sort 1; then the pi
    ask (of (at 1) ∷ of (at 0) ∷ []) (ptr 15 1) 0 2 1 1 (term (at 59) 0 2) (some (T.pi (T.var 1) (T.sort 1))) ∷
    -- PI. pi sort 0. sort 0: the larger of 1 and 1
    easy 16 (term (at 60) 0 3) (T.sort 1) ∷
    -- a number is no type, nor is it as a body
    never 54 9 ∷
    never 55 9 ∷
    -- LET. let sort 1 := sort 0 in v0: one step, then sort 0's type
    ask [] (at 14) 1 1 1 0 (term (at 58) 1 1) (some (T.sort 1)) ∷
    -- PROJECTION. fields 0 and 1 of the pair: one question, three rows for the parameter; the second body is closed, so no projection is written
    easy 41 (term (at 7) 1 3) (T.const 0 0) ∷
    easy 42 (term (at 7) 1 3) (T.const 0 0) ∷
    -- there is no field 2
    never 43 9 ∷
    -- Both is a proposition, and so is its field 0, by a second question
    easy 45 (term (at 12) 2 0) (T.const 2 0) ∷
    -- field 1: asked of Both, of field 0, which its body mentions, and of itself; the projection of field 0 and two rows
    easy 46 (term (at 59) 3 3) (T.app (T.const 6 0) (T.proj 7 0 (T.const 9 0))) ∷
    -- Some is a proposition, its field is none
    never 48 9 ∷
    -- another structure than the named one; but the question comes first, and has no step
    never 49 9 ∷
    scarce 49 0 100 100 100 4 ∷
    -- REFUSALS. 4 before 6: a let's step, then its level
    scarce 14 0 0 0 0 4 ∷
    scarce 14 1 0 0 0 6 ∷
    -- 5: no free row for sort 1, for the opened body, for the pi of a lambda
    scarce 0 0 0 0 0 5 ∷
    ask (of (at 1) ∷ of (at 0) ∷ []) (ptr 15 1) 0 0 0 0 (refused 5 0) none ∷
    ask (of (at 1) ∷ of (at 0) ∷ []) (ptr 15 1) 0 1 1 1 (refused 5 0) none ∷
    -- the opened body, the record, then the level: 11 before 6
    ask (of (at 1) ∷ of (at 0) ∷ []) (ptr 15 1) 0 1 0 0 (refused 11 0) none ∷
    scarce 6 0 0 0 0 11 ∷
    scarce 6 0 0 0 1 6 ∷
    -- a pi's body comes after its type's sort: 9 before 11, and 11 where there is a sort
    scarce 54 100 100 100 0 9 ∷
    scarce 5 100 100 100 0 11 ∷
    -- 7: a number over 2^64 - 1 in a reduction that inference starts; its own side reductions are a level deeper
    never 57 7 ∷
    scarce 57 100 100 1 0 6 ∷
    []

pub cases_hold : map (seen decls library) cases ≡ map expected cases
unfolding seen decls library cases
cases_hold = refl

-- 8, before 5: the opened body's index is over 4,095. The term is in scope at depth 4,096, which is not written out: no record is read.
pub no_size : map (seen decls library) (ask [] (ptr 15 4095) 0 0 0 0 (refused 8 0) none ∷ []) ≡ map expected (ask [] (ptr 15 4095) 0 0 0 0 (refused 8 0) none ∷ [])
unfolding seen decls library
no_size = refl

-- a number where nobody holds the role of Nat
pub no_nat : map (seen [] library) (never 8 9 ∷ []) ≡ map expected (never 8 9 ∷ [])
unfolding seen library
no_nat = refl
