-- A second table in the way of E1 to E11: for each head rule cases that fire and cases that do not, and for each order of refusals that document 01 fixes
-- a case that shows it. The answers are worked out by hand from the document; the statement is proved by computation.
use Rattle.std.specs.Prelude.{ℕ, ◌≡◌, refl, List, [], ◌∷◌, map}
use Rattle.std.proofs.Math.Option.{Option, none, some}
use Rattle.rules.specs.Kinds.{sort, const, app, lam, pi, let', proj, num}
use Rattle.rules.specs.Rows.{Ptr, ptr, blank, var, node, leaf, Store, grow}
use Rattle.rules.specs.Arithmetic.{add, sub, mul, div, mod', beq, ble}
use Rattle.rules.specs.Declarations.{Role, no_role, zero', succ', true', false', quot_mk, quot_lift, quot_ind, arith, Rule, plain, constructor}
use Rattle.rules.specs.Declarations.{recursor, structure, Decl, Entry}
use Rattle.rules.specs.Call.{Answer, term, refused}
use Rattle.rules.specs.ReadOut.{Tree}
use Rattle.rules.specs.ReadOut as T
use Rattle.course.specs.Tables.{at, ap', axiom', of_form, Case, seen, expected}

abbrev rec_of : ℕ → ℕ → List Rule → Option Ptr → Decl
rec_of ps mi rs v = record { form = recursor (record { parameters = ps; motives = 0; minors = mi; indices = 0; rules = rs }); levels = 0; type = at 0; value = v; role = no_role }

abbrev rule : ℕ → ℕ → Rule
rule d n = record { constructor = d; fields = n; value = at 5 }

abbrev def : ℕ → Role → Decl
def n r = record { form = plain; levels = n; type = at 0; value = some (at 5); role = r }

-- Every rule value, and every value but that of 23 (sort 1), is the axiom f.
pub decls : List Decl
decls =
    -- 0 f, 1 zero, 2 succ, 3 true, 4 false
    axiom' no_role ∷ of_form (constructor 0 0) zero' ∷ of_form (constructor 0 1) succ' ∷ of_form (constructor 0 0) true' ∷ of_form (constructor 0 0) false' ∷
    -- 5 Quot.mk, 6 Quot.lift, 7 Quot.ind
    axiom' quot_mk ∷ axiom' quot_lift ∷ axiom' quot_ind ∷
    -- 8 add, 9 sub, 10 mul, 11 div, 12 mod, with a value, 13 beq, 14 ble
    axiom' (arith add) ∷ axiom' (arith sub) ∷ axiom' (arith mul) ∷ axiom' (arith div) ∷ def 0 (arith mod') ∷ axiom' (arith beq) ∷ axiom' (arith ble) ∷
    -- 15 pair, with one parameter and two fields, 16 its structure type
    of_form (constructor 1 2) no_role ∷ of_form (structure 1 15) no_role ∷
    -- 17 a recursor on pairs: 1 parameter, 1 minor; 18 one on numbers
    rec_of 1 1 (rule 15 2 ∷ []) none ∷ rec_of 0 0 (rule 1 0 ∷ rule 2 1 ∷ []) none ∷
    -- 19 a definition, 20 another
    def 0 no_role ∷ def 0 no_role ∷
    -- recursors on numbers: 21 with no rule for succ, 22 whose rule for zero wants a field, 23 with a value of its own
    rec_of 0 0 (rule 1 0 ∷ []) none ∷ rec_of 0 0 (rule 1 1 ∷ []) none ∷ rec_of 0 0 (rule 1 0 ∷ []) (some (at 1)) ∷
    -- 24 a definition of level count 1
    def 1 no_role ∷ []

-- ten rows a line
pub library : Store
library = grow [] (
    leaf (sort 0) ∷ leaf (sort 1) ∷ var 0 ∷ var 1 ∷ var 2 ∷ leaf (const 0 0) ∷ leaf (const 1 0) ∷ leaf (const 2 0) ∷ leaf (const 5 0) ∷ leaf (const 15 0) ∷
    leaf (num 0) ∷ leaf (num 2) ∷ leaf (num 3) ∷ leaf (num 9223372036854775808) ∷ node lam (at 0) (at 2) blank ∷
    node lam (at 0) (at 3) blank ∷ node lam (at 0) (at 15) blank ∷ node lam (at 0) (at 5) blank ∷ ap' 14 1 ∷ ap' 14 5 ∷
    ap' 19 1 ∷ ap' 16 1 ∷ ap' 21 5 ∷ ap' 2 3 ∷ node lam (at 0) (at 23) blank ∷ node app (ptr 24 2) (at 3) blank ∷
    node let' (at 0) (at 2) (at 23) ∷ node app (ptr 26 2) (at 5) blank ∷ ap' 2 5 ∷ ap' 9 0 ∷
    ap' 29 5 ∷ ap' 30 1 ∷ node (proj 16 0) (at 31) blank blank ∷ node (proj 16 1) (at 31) blank blank ∷
    node (proj 16 2) (at 31) blank blank ∷ node (proj 16 0) (at 5) blank blank ∷ node lam (at 0) (at 31) blank ∷ ap' 36 0 ∷ node (proj 16 0) (at 37) blank blank ∷ ap' 17 0 ∷
    node (proj 16 0) (at 39) blank blank ∷ ap' 8 0 ∷ ap' 41 0 ∷ ap' 42 1 ∷ leaf (const 6 0) ∷ ap' 44 0 ∷ ap' 45 0 ∷ ap' 46 0 ∷ ap' 47 5 ∷ ap' 48 0 ∷
    ap' 49 43 ∷ ap' 50 0 ∷ ap' 49 5 ∷ ap' 49 42 ∷ leaf (const 7 0) ∷ ap' 54 0 ∷ ap' 55 0 ∷ ap' 56 0 ∷ ap' 57 5 ∷ ap' 58 43 ∷
    leaf (const 17 0) ∷ ap' 60 1 ∷ ap' 61 5 ∷ ap' 62 31 ∷ ap' 63 0 ∷ leaf (const 18 0) ∷ ap' 65 10 ∷ ap' 65 11 ∷ ap' 65 6 ∷ ap' 65 5 ∷
    ap' 65 17 ∷ leaf (const 18 1) ∷ ap' 71 10 ∷ leaf (const 21 0) ∷ ap' 73 11 ∷ leaf (const 22 0) ∷ ap' 75 10 ∷ leaf (const 23 0) ∷ ap' 77 6 ∷ ap' 77 5 ∷
    leaf (const 8 0) ∷ leaf (const 9 0) ∷ leaf (const 10 0) ∷ leaf (const 11 0) ∷ leaf (const 12 0) ∷ leaf (const 13 0) ∷ leaf (const 14 0) ∷
    ap' 80 11 ∷ ap' 87 12 ∷ ap' 81 12 ∷
    ap' 89 11 ∷ ap' 82 11 ∷ ap' 91 12 ∷ ap' 83 12 ∷ ap' 93 11 ∷ ap' 83 12 ∷ ap' 95 10 ∷ ap' 84 12 ∷ ap' 97 10 ∷ ap' 84 12 ∷
    ap' 99 11 ∷ ap' 85 11 ∷ ap' 101 11 ∷ ap' 86 12 ∷ ap' 103 11 ∷ ap' 82 13 ∷ ap' 105 11 ∷ ap' 88 11 ∷ ap' 80 5 ∷ ap' 108 106 ∷
    ap' 80 88 ∷ ap' 110 11 ∷ ap' 80 11 ∷ ap' 112 5 ∷ ap' 80 6 ∷ ap' 114 11 ∷ ap' 84 5 ∷ ap' 116 5 ∷ ap' 7 11 ∷ leaf (const 19 0) ∷
    ap' 119 1 ∷ leaf (const 24 0) ∷ leaf (const 24 1) ∷ node pi (at 0) (at 2) blank ∷ ap' 123 0 ∷ ap' 11 0 ∷ ap' 5 3 ∷
    node lam (at 0) (at 126) blank ∷ node lam (at 0) (at 127) blank ∷ node app (at 128) (ptr 2 4095) blank ∷
    ap' 4 3 ∷ node lam (at 0) (at 130) blank ∷ node lam (at 0) (at 131) blank ∷ node app (at 132) (ptr 2 4095) blank ∷ ap' 80 106 ∷
    ap' 134 111 ∷ ap' 80 111 ∷ ap' 136 106 ∷ node (proj 16 0) (at 106) blank blank ∷ [])

abbrev no_value : Entry
no_value = record { type = at 0; value = none }

abbrev valued : Ptr → Entry
valued p = record { type = at 0; value = some p }

-- context, term; steps, free rows, nesting; the answer, its read-out
abbrev ask : List Entry → Ptr → ℕ → ℕ → ℕ → Answer → Option Tree → Case
ask xs t steps free nesting a r = record { context = xs; asked = t; steps = steps; free = free; nesting = nesting; says = a; reads = r }

-- at depth 0, with a hundred of each budget
abbrev easy : ℕ → Answer → Tree → Case
easy t a r = ask [] (at t) 100 100 100 a (some r)

-- at depth 0 and refused
abbrev scarce : ℕ → ℕ → ℕ → ℕ → ℕ → Case
scarce t steps free nesting k = ask [] (at t) steps free nesting (refused k 0) none

-- new rows have the numbers from 139 on
pub table : List Case
table =
    -- LAMBDA. (lambda. v0) s1, with no level to spare: the argument
    ask [] (at 18) 100 100 0 (term (at 1) 1 0) (some (T.sort 1)) ∷
    -- (lambda. v0) f s1: the remaining argument is applied, one row
    easy 20 (term (at 139) 1 1) (T.app (T.const 0 0) (T.sort 1)) ∷
    -- (lambda. lambda. v1) s1 f: one argument a time; the inner lambda and the application of f are written
    easy 22 (term (at 1) 2 2) (T.sort 1) ∷
    -- (lambda. v0 v1) shifted 2, to v1: v1 goes in as it is, only the body's own index moves
    easy 25 (term (at 140) 1 2) (T.app (T.var 1) (T.var 2)) ∷
    -- a lambda without an argument is final
    easy 14 (term (at 14) 0 0) (T.lam (T.sort 0) (T.var 0)) ∷
    -- LET. (let := v0 in v0 v1) shifted 2, to f: the value is shifted with the head
    ask (no_value ∷ no_value ∷ no_value ∷ []) (at 27) 100 100 100 (term (at 141) 1 3) (some (T.app (T.app (T.var 2) (T.var 2)) (T.const 0 0))) ∷
    -- VARIABLE. v0 f with value s1
    ask (valued (at 1) ∷ []) (at 28) 100 100 100 (term (at 139) 1 1) (some (T.app (T.sort 1) (T.const 0 0))) ∷
    -- v0 shifted 1: the record before the newest
    ask (valued (at 5) ∷ no_value ∷ []) (ptr 2 1) 100 100 100 (term (at 5) 1 0) (some (T.const 0 0)) ∷
    -- v0 without a value is final
    ask (no_value ∷ []) (at 2) 100 100 100 (term (at 2) 0 0) (some (T.var 0)) ∷
    -- PROJECTION. field 0 of pair s0 f s1, which has one parameter: f
    easy 32 (term (at 5) 1 0) (T.const 0 0) ∷
    -- field 1: s1
    easy 33 (term (at 1) 1 0) (T.sort 1) ∷
    -- field 2 is past the arguments
    easy 34 (term (at 34) 0 0) (T.proj 16 2 (T.app (T.app (T.app (T.const 15 0) (T.sort 0)) (T.const 0 0)) (T.sort 1))) ∷
    -- an axiom is no constructor
    easy 35 (term (at 35) 0 0) (T.proj 16 0 (T.const 0 0)) ∷
    -- the structure reduces to a pair first: its step and then the own one
    easy 38 (term (at 5) 2 0) (T.const 0 0) ∷
    -- the structure reduces to an axiom: the step stays, the answer is the pointer it had
    easy 40 (term (at 40) 1 0) (T.proj 16 0 (T.app (T.lam (T.sort 0) (T.const 0 0)) (T.sort 0))) ∷
    -- QUOTIENTS. Quot.lift with 7 arguments: f a, applied to the rest
    easy 51 (term (at 140) 1 2) (T.app (T.app (T.const 0 0) (T.sort 1)) (T.sort 0)) ∷
    -- Quot.lift with 5 arguments has no major: no level is entered
    ask [] (at 49) 100 100 0 (term (at 49) 0 0) (some (T.app (T.app (T.app (T.app (T.app (T.const 6 0) (T.sort 0)) (T.sort 0)) (T.sort 0)) (T.const 0 0)) (T.sort 0))) ∷
    -- an axiom is no Quot.mk
    easy 52 (term (at 52) 0 0) (T.app (T.app (T.app (T.app (T.app (T.app (T.const 6 0) (T.sort 0)) (T.sort 0)) (T.sort 0)) (T.const 0 0)) (T.sort 0)) (T.const 0 0)) ∷
    -- Quot.mk of 2 arguments does not do
    easy 53 (term (at 53) 0 0) (T.app (T.app (T.app (T.app (T.app (T.app (T.const 6 0) (T.sort 0)) (T.sort 0)) (T.sort 0)) (T.const 0 0)) (T.sort 0)) (T.app (T.app (T.const 5 0) (T.sort 0)) (T.sort 0))) ∷
    -- Quot.ind has its major at 4
    easy 59 (term (at 139) 1 1) (T.app (T.const 0 0) (T.sort 1)) ∷
    -- RECURSORS. 1 parameter, 1 minor: rule value, those two, the constructor's last 2 arguments (its parameter s0 is none of them)
    easy 63 (term (at 142) 1 4) (T.app (T.app (T.app (T.app (T.const 0 0) (T.sort 1)) (T.const 0 0)) (T.const 0 0)) (T.sort 1)) ∷
    -- an argument after the major is applied last
    easy 64 (term (at 143) 1 5) (T.app (T.app (T.app (T.app (T.app (T.const 0 0) (T.sort 1)) (T.const 0 0)) (T.const 0 0)) (T.sort 1)) (T.sort 0)) ∷
    -- the number 0 becomes zero, 1 row
    easy 66 (term (at 5) 1 1) (T.const 0 0) ∷
    -- the number 2 becomes succ 1, 3 rows; its last argument is 1
    easy 67 (term (at 142) 1 4) (T.app (T.const 0 0) (T.num 1)) ∷
    -- the constant zero as it stands
    easy 68 (term (at 5) 1 0) (T.const 0 0) ∷
    -- another count of levels: not tried, no level is entered
    ask [] (at 72) 100 100 0 (term (at 72) 0 0) (some (T.app (T.const 18 1) (T.num 0))) ∷
    -- no rule for succ: the number's rows stay
    easy 74 (term (at 74) 0 3) (T.app (T.const 21 0) (T.num 2)) ∷
    -- the rule for zero wants a field
    easy 76 (term (at 76) 0 1) (T.app (T.const 22 0) (T.num 0)) ∷
    -- no major
    ask [] (at 65) 100 100 0 (term (at 65) 0 0) (some (T.const 18 0)) ∷
    -- no rule for an axiom
    easy 69 (term (at 69) 0 0) (T.app (T.const 18 0) (T.const 0 0)) ∷
    -- a lambda is no constructor
    easy 70 (term (at 70) 0 0) (T.app (T.const 18 0) (T.lam (T.sort 0) (T.const 0 0))) ∷
    -- a recursor with a value: its rule comes first
    easy 78 (term (at 5) 1 0) (T.const 0 0) ∷
    -- .. and its value where no rule fires
    easy 79 (term (at 139) 1 1) (T.app (T.sort 1) (T.const 0 0)) ∷
    -- ARITHMETIC. add 2 3
    easy 88 (term (at 139) 1 1) (T.num 5) ∷
    -- sub 3 2
    easy 90 (term (at 139) 1 1) (T.num 1) ∷
    -- mul 2 3
    easy 92 (term (at 139) 1 1) (T.num 6) ∷
    -- div 3 2
    easy 94 (term (at 139) 1 1) (T.num 1) ∷
    -- div 3 0
    easy 96 (term (at 139) 1 1) (T.num 0) ∷
    -- mod 3 2
    easy 100 (term (at 139) 1 1) (T.num 1) ∷
    -- mod 3 0
    easy 98 (term (at 139) 1 1) (T.num 3) ∷
    -- beq 2 2: the constant true
    easy 102 (term (at 139) 1 1) (T.const 3 0) ∷
    -- ble 3 2: the constant false
    easy 104 (term (at 139) 1 1) (T.const 4 0) ∷
    -- the first argument reduces: its step and row, then the own ones
    easy 111 (term (at 140) 2 2) (T.num 7) ∷
    -- one argument
    ask [] (at 87) 100 100 0 (term (at 87) 0 0) (some (T.app (T.const 8 0) (T.num 2))) ∷
    -- three arguments
    ask [] (at 107) 100 100 0 (term (at 107) 0 0) (some (T.app (T.app (T.app (T.const 8 0) (T.num 2)) (T.num 3)) (T.num 2))) ∷
    -- the first is no number, so the second, which would be refused, is not tried
    easy 109 (term (at 109) 0 0) (T.app (T.app (T.const 8 0) (T.const 0 0)) (T.app (T.app (T.const 10 0) (T.num 9223372036854775808)) (T.num 2))) ∷
    -- the second is no number
    easy 113 (term (at 113) 0 0) (T.app (T.app (T.const 8 0) (T.num 2)) (T.const 0 0)) ∷
    -- the constant zero is no number
    easy 115 (term (at 115) 0 0) (T.app (T.app (T.const 8 0) (T.const 1 0)) (T.num 2)) ∷
    -- succ of a number is no redex
    easy 118 (term (at 118) 0 0) (T.app (T.const 2 0) (T.num 2)) ∷
    -- mod, which has a value here, of no numbers: delta comes after arithmetic
    easy 117 (term (at 140) 1 2) (T.app (T.app (T.const 0 0) (T.const 0 0)) (T.const 0 0)) ∷
    -- DELTA. a definition
    easy 120 (term (at 139) 1 1) (T.app (T.const 0 0) (T.sort 1)) ∷
    -- level count 1, given 1
    easy 122 (term (at 5) 1 0) (T.const 0 0) ∷
    -- level count 1, given 0
    easy 121 (term (at 121) 0 0) (T.const 24 0) ∷
    -- an axiom
    easy 5 (term (at 5) 0 0) (T.const 0 0) ∷
    -- NO RULE. an applied pi
    easy 124 (term (at 124) 0 0) (T.app (T.pi (T.sort 0) (T.var 0)) (T.sort 0)) ∷
    -- an applied number
    easy 125 (term (at 125) 0 0) (T.app (T.num 2) (T.sort 0)) ∷
    -- REFUSALS. mul 2^63 2: 4 before 7
    scarce 106 0 100 100 4 ∷
    -- 7 before 5
    scarce 106 100 0 100 7 ∷
    -- 4 before 5
    scarce 88 0 0 100 4 ∷
    -- the step is there, the row is not
    scarce 88 100 0 100 5 ∷
    -- (lambda. lambda. f v1) (v0 shifted 4,095): the application's bound is 4,097; 8 before 5
    scarce 129 100 0 100 8 ∷
    -- 4 before 8
    scarce 129 0 100 100 4 ∷
    -- (lambda. lambda. v2 v1) (v0 shifted 4,095): the inner row's 5 before the outer row's 8
    scarce 133 100 0 100 5 ∷
    -- .. and with one free row the 8
    scarce 133 100 1 100 8 ∷
    -- a number's rows come before the step: 5 before 4
    scarce 67 0 2 100 5 ∷
    -- .. and with room for them the 4
    scarce 67 0 3 100 4 ∷
    -- the major's level is entered before the step: 6 before 4
    scarce 50 0 100 0 6 ∷
    -- premises left to right: the first argument is too large before the second is too deep
    scarce 135 100 100 2 7 ∷
    -- .. and the other way round
    scarce 137 100 100 2 6 ∷
    -- a premise's refusal ends the call where the rule would not have fired
    scarce 138 100 100 100 7 ∷
    -- a side reduction's steps are the call's
    scarce 111 1 100 100 4 ∷
    []

pub cases_hold : map (seen decls library) table ≡ map expected table
unfolding seen decls library table
cases_hold = refl

-- WHERE A ROLE IS NOT HELD: 0 f, 1 beq, 2 a recursor on numbers, 3 Quot.lift; nobody holds zero, succ, true, false or Quot.mk
pub bare_decls : List Decl
bare_decls = axiom' no_role ∷ axiom' (arith beq) ∷ rec_of 0 0 (rule 0 0 ∷ []) none ∷ axiom' quot_lift ∷ []

-- 0 sort 0, 1 f, 2 the number 0, 3 the number 2, 6 beq 2 2, 8 and 9 the recursor on 0 and on 2, 16 Quot.lift with 6 arguments
pub bare_library : Store
bare_library = grow [] (
    leaf (sort 0) ∷ leaf (const 0 0) ∷ leaf (num 0) ∷ leaf (num 2) ∷ leaf (const 1 0) ∷ ap' 4 3 ∷ ap' 5 3 ∷ leaf (const 2 0) ∷ ap' 7 2 ∷ ap' 7 3 ∷
    leaf (const 3 0) ∷ ap' 10 0 ∷ ap' 11 0 ∷ ap' 12 0 ∷ ap' 13 1 ∷ ap' 14 0 ∷ ap' 15 1 ∷ [])

pub bare_table : List Case
bare_table =
    -- beq without true and false: not tried, no level is entered
    ask [] (at 6) 100 100 0 (term (at 6) 0 0) (some (T.app (T.app (T.const 1 0) (T.num 2)) (T.num 2))) ∷
    -- a number stays a number where zero or succ is not held: no row, no rule
    easy 8 (term (at 8) 0 0) (T.app (T.const 2 0) (T.num 0)) ∷
    easy 9 (term (at 9) 0 0) (T.app (T.const 2 0) (T.num 2)) ∷
    -- Quot.lift reduces its major though nobody holds Quot.mk
    scarce 16 100 100 0 6 ∷ []

pub bare_cases_hold : map (seen bare_decls bare_library) bare_table ≡ map expected bare_table
unfolding seen bare_decls bare_library bare_table
bare_cases_hold = refl
