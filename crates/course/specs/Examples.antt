-- E1 to E11 of document 01: one table, one statement, proved by computation over the definitions.
use Rattle.std.specs.Prelude.{ℕ, ◌≡◌, refl, List, [], ◌∷◌, map}
use Rattle.std.proofs.Math.Option.{Option, none, some}
use Rattle.rules.specs.Kinds.{sort, const, app, lam, let', num}
use Rattle.rules.specs.Rows.{ptr, blank, var, node, leaf, Store, grow}
use Rattle.rules.specs.Arithmetic.{sub, mul}
use Rattle.rules.specs.Declarations.{no_role, zero', succ', quot_mk, quot_lift, arith, constructor, recursor, plain, Decl, Entry}
use Rattle.rules.specs.Call.{Answer, term, refused}
use Rattle.rules.specs.ReadOut.{Tree}
use Rattle.rules.specs.ReadOut as T
use Rattle.course.specs.Tables.{at, ap', axiom', of_form, Case, seen, expected}

-- 0 Quot.lift, 1 Quot.mk, 2 f, 3 zero, 4 succ, 5 sub, 6 the recursor of E11, 7 mul, 8 the definition of E8
unfoldable pub decls : List Decl
decls =
    axiom' quot_lift ∷ axiom' quot_mk ∷ axiom' no_role ∷ of_form (constructor 0 0) zero' ∷ of_form (constructor 0 1) succ' ∷ axiom' (arith sub) ∷
    of_form (recursor (record { parameters = 0; motives = 1; minors = 2; indices = 0; rules = record { constructor = 3; fields = 0; value = at 12 } ∷ record { constructor = 4; fields = 1; value = at 12 } ∷ [] })) no_role ∷
    axiom' (arith mul) ∷
    record { form = plain; levels = 1; type = at 0; value = some (at 12); role = no_role } ∷ []

-- five rows a line
unfoldable pub library : Store
unfolding grow
library = grow [] (
    leaf (sort 0) ∷ leaf (sort 1) ∷ leaf (sort 2) ∷ var 0 ∷ var 1 ∷
    node lam (at 0) (at 3) blank ∷ ap' 5 1 ∷ node lam (at 0) (at 4) blank ∷ node app (ptr 7 2) (at 1) blank ∷ node let' (at 2) (at 1) (at 3) ∷
    leaf (const 0 0) ∷ leaf (const 1 0) ∷ leaf (const 2 0) ∷ ap' 11 0 ∷ ap' 13 0 ∷
    ap' 14 1 ∷ ap' 10 0 ∷ ap' 16 0 ∷ ap' 17 0 ∷ ap' 18 12 ∷
    ap' 19 0 ∷ ap' 20 15 ∷ ap' 15 0 ∷ ap' 20 22 ∷ leaf (const 8 0) ∷
    leaf (num 2) ∷ leaf (num 3) ∷ leaf (const 5 0) ∷ ap' 27 25 ∷ ap' 28 26 ∷
    leaf (const 7 0) ∷ leaf (num 9223372036854775808) ∷ ap' 30 31 ∷ ap' 32 25 ∷ leaf (const 6 0) ∷
    ap' 34 0 ∷ ap' 35 0 ∷ ap' 36 0 ∷ ap' 37 25 ∷ [])

abbrev pub no_value : Entry
no_value = record { type = at 0; value = none }

-- with room for anything, at depth 0
abbrev pub ask : ℕ → Answer → Option Tree → Case
ask r a t = record { context = []; asked = at r; steps = 1000000; free = 65536; nesting = 500; says = a; reads = t }

-- with budgets that are just enough: context, term, steps, free rows, no nesting
abbrev pub ask_tight : List Entry → ℕ → ℕ → ℕ → Answer → Option Tree → Case
ask_tight xs r steps free a t = record { context = xs; asked = at r; steps = steps; free = free; nesting = 0; says = a; reads = t }

abbrev pub apps : Tree → List Tree → Tree
apps f [] = f
apps f (a ∷ as') = apps (T.app f a) as'

abbrev pub c : ℕ → Tree
c d = T.const d 0

-- each answer is the term by its pointer, steps, rows, and then its read-out; new rows have the numbers from 39 on

-- sort 0, steps 0: itself
abbrev pub E1 : Case
E1 = ask_tight [] 0 0 0 (term (at 0) 0 0) (some (T.sort 0))

-- (lambda sort 0. var 0) sort 1: sort 1
abbrev pub E2 : Case
E2 = ask 6 (term (at 1) 1 0) (some (T.sort 1))

-- (lambda sort 0. var 1) shifted 2, to sort 1, depth 3, no values: var 2
abbrev pub E3 : Case
E3 = ask_tight (no_value ∷ no_value ∷ no_value ∷ []) 8 1 1 (term (at 39) 1 1) (some (T.var 2))

-- let sort 2 := sort 1 in var 0: sort 1
abbrev pub E4 : Case
E4 = ask 9 (term (at 1) 1 0) (some (T.sort 1))

-- depth 2, newest value var 0: var 0: var 1
abbrev pub E5 : Case
E5 = ask_tight (no_value ∷ record { type = at 0; value = some (at 3) } ∷ []) 3 1 0 (term (ptr 3 1) 1 0) (some (T.var 1))

-- Quot.lift, 6 arguments, major Quot.mk of 3: f a
abbrev pub E6 : Case
E6 = ask 21 (term (at 39) 1 1) (some (T.app (c 2) (T.sort 1)))

-- same, Quot.mk of 4: itself
abbrev pub E7 : Case
E7 = ask 23 (term (at 23) 0 0) (some (apps (c 0) (T.sort 0 ∷ T.sort 0 ∷ T.sort 0 ∷ c 2 ∷ T.sort 0 ∷ apps (c 1) (T.sort 0 ∷ T.sort 0 ∷ T.sort 1 ∷ T.sort 0 ∷ []) ∷ [])))

-- definition of level count 1, given 0: itself
abbrev pub E8 : Case
E8 = ask 24 (term (at 24) 0 0) (some (c 8))

-- sub 2 3: 0
abbrev pub E9 : Case
E9 = ask 29 (term (at 39) 1 1) (some (T.num 0))

-- mul 2^63 2: refusal 7
abbrev pub E10 : Case
E10 = ask 33 (refused 7 0) none

-- recursor 0, 1, 2, 0, major 2, rule value an axiom, 1 field: 4 applications
abbrev pub E11 : Case
E11 = ask 38 (term (at 45) 1 7) (some (apps (c 2) (T.sort 0 ∷ T.sort 0 ∷ T.sort 0 ∷ T.num 1 ∷ [])))

unfoldable pub table : List Case
table = E1 ∷ E2 ∷ E3 ∷ E4 ∷ E5 ∷ E6 ∷ E7 ∷ E8 ∷ E9 ∷ E10 ∷ E11 ∷ []

pub E1_to_E11 : map (seen decls library) table ≡ map expected table
unfolding seen decls library table
E1_to_E11 = refl
