-- Inference as asks: a form is a small tree of what it asks in turn (a step, a row, a replacement, a reduction, the type of a part) until it answers.
-- What follows an ask depends on the store that it leaves and on the pointer that it gives. `asks` has a line for each form of a term; definitions only.
use Rattle.std.specs.Prelude.{ℕ, zero, suc, ◌+◌, Bool, true, false, List, [], ◌∷◌}
use Rattle.std.proofs.Math.Option.{Option, none, some}
use Rattle.rules.specs.Kinds.{sort, const, app, lam, pi, let', proj, num}
use Rattle.rules.specs.Rows.{Ptr, blank, Row, var, node, leaf, Store, row_at, bound, up}
use Rattle.rules.specs.Declarations.{nat, Decl, Env, decl_at, holder}
use Rattle.rules.specs.Inference.{type_of, under, imax}
use Rattle.inferring.specs.Views.{EqView, equal, differ, eq_view, PiView, is_pi, no_pi, pi_view, SortView, is_sort, no_sort, sort_view}

pub data Ask : Type 0 where
  answers : Ptr → Ask
  -- a form with no type by the rules
  untyped : Ask
  step_then : Ask → Ask
  -- that a sort's level is in range
  level_then : ℕ → Ask → Ask
  writes : Row → (Store → Ptr → Ask) → Ask
  -- a replacement: value, move, cutoff, pointer
  opens : Option Ptr → (k c : ℕ) → Ptr → (Store → Ptr → Ask) → Ask
  -- a reduction, and the type of a part, each perhaps under a new record of the given type
  reduces : Option Ptr → Ptr → (Store → Ptr → Ask) → Ask
  infers : Option Ptr → Ptr → (Store → Ptr → Ask) → Ask
  -- that its head is the named structure: what follows gets the count of parameters, the constructor, and the head's arguments
  structures : Ptr → ℕ → (ℕ → Decl → List Ptr → Ask) → Ask

-- the environment of an ask under a new record, or under none
abbrev pub with_record : Env → Option Ptr → Env
with_record e none = e
with_record e (some x) = under e x

-- TESTS

-- if it is there, go on; else there is no type
abbrev pub if_there : {A : Type 0} → Option A → (A → Ask) → Ask
if_there none next = untyped
if_there (some a) next = next a

abbrev pub if_equal : {a b : ℕ} → EqView a b → Ask → Ask
if_equal (equal q) y = y
if_equal (differ h) y = untyped

abbrev pub if_pi : {w : Row} → PiView w → (Ptr → Ptr → Ask) → Ask
if_pi (is_pi x b z q) next = next x b
if_pi (no_pi h) next = untyped

abbrev pub if_sort : {w : Row} → SortView w → (ℕ → Ask) → Ask
if_sort (is_sort l x y z q) next = next l
if_sort (no_sort h) next = untyped

abbrev pub if_argument : List Ptr → (Ptr → List Ptr → Ask) → Ask
if_argument [] next = untyped
if_argument (a ∷ ys) next = next a ys

abbrev pub if_true : Bool → Ask → Ask
if_true true y = y
if_true false y = untyped

-- whether a sort is sort 0
abbrev pub is_zero : ℕ → Bool
is_zero zero = true
is_zero (suc l) = false

-- PIECES

-- "reduced if not a pi": what follows gets the pi's type and body, and its shift
unfoldable pub pi_of : Ptr → (Store → Ptr → Ptr → ℕ → Ask) → Ask
pi_of p next = reduces none p λ s q. if_pi (pi_view (row_at s q.row)) λ x b. next s x b q.shift

-- "reduced to a sort"
unfoldable pub sort_of : Option Ptr → Ptr → (Store → ℕ → Ask) → Ask
sort_of X p next = reduces X p λ s q. if_sort (sort_view (row_at s q.row)) λ l. next s l

-- a binder's body under the binder's shift: "as it stands if s is 0"
unfoldable pub body_of : Store → Ptr → ℕ → (Store → Ptr → Ask) → Ask
body_of s b zero next = next s b
body_of s b (suc k) next = opens none (suc k) 1 b next

-- is it a proposition
unfoldable pub question : Ptr → (Store → Bool → Ask) → Ask
question p next = step_then (infers none p λ s T. sort_of none T λ s₁ l. next s₁ (is_zero l))

-- "if the structure type is a proposition the field type must be one"
unfoldable pub allowed : Store → Ptr → Bool → (Store → Ask) → Ask
allowed s p false next = next s
allowed s p true next = question p λ s₁ q. if_true q (next s₁)

-- FORMS

unfoldable pub sort_type : ℕ → Ask
sort_type l = level_then (suc l) (writes (leaf (sort (suc l))) λ s p. answers p)

unfoldable pub constant_type : Env → ℕ → ℕ → Ask
constant_type e c n = if_equal (eq_view (decl_at e.decls c).levels n) (answers (decl_at e.decls c).type)

unfoldable pub variable_type : Env → Store → ℕ → Ask
variable_type e s i = if_there (type_of e i) λ x. answers (up s x (suc i))

unfoldable pub number_type : Env → Ask
number_type e = if_there (holder e nat) λ c. writes (leaf (const c 0)) λ s p. answers p

unfoldable pub application_type : Ptr → Ptr → Ask
application_type f a =
    infers none f λ s T.
    pi_of T λ s₁ x b k.
    opens (some a) k 0 b λ s₂ p.
    answers p

unfoldable pub lambda_type : Store → Ptr → Ptr → ℕ → Ask
lambda_type s X b k =
    body_of s b k λ s₁ b₁.
    infers (some X) b₁ λ s₂ B.
    writes (node pi X B blank) λ s₃ p.
    answers p

-- a pi's body, when the sort of its type is known to be u: "only then is the body opened"
unfoldable pub pi_body : Store → Ptr → Ptr → ℕ → ℕ → Ask
pi_body s X b k u =
    body_of s b k λ s₁ b₁.
    infers (some X) b₁ λ s₂ B.
    sort_of (some X) B λ s₃ v.
    writes (leaf (sort (imax u v))) λ s₄ p.
    answers p

unfoldable pub pi_type : Ptr → Ptr → ℕ → Ask
unfolding pi_body
pi_type X b k =
    infers none X λ s T.
    sort_of none T λ s₁ u.
    pi_body s₁ X b k u

unfoldable pub let_type : Ptr → Ptr → ℕ → Ask
let_type v b k =
    step_then (
    opens (some v) k 0 b λ s t.
    infers none t λ s₁ p.
    answers p)

-- "walked through the parameters": n of them from W on, with the structure type's arguments ys
unfoldable pub parameters : ℕ → List Ptr → Store → Ptr → (Store → Ptr → Ask) → Ask
parameters zero ys s W next = next s W
parameters (suc n) ys s W next =
    pi_of W λ s₁ x b k.
    if_argument ys λ a ys₁.
    opens (some a) k 0 b λ s₂ W₁.
    parameters n ys₁ s₂ W₁ next

-- an earlier field: its remaining body has the bound n
abbrev pub if_loose : ℕ → Ask → Ask → Ask
if_loose zero y z = y
if_loose (suc n) y z = z

-- the earlier fields from number j on, n of them, of the structure X
unfoldable pub earlier : ℕ → Ptr → Bool → ℕ → ℕ → Store → Ptr → (Store → Ptr → Ask) → Ask
earlier c X q j zero s W next = next s W
earlier c X q j (suc n) s W next =
    pi_of W λ s₁ x b k.
    if_loose (bound s₁ b)
    (earlier c X q (suc j) n s₁ b next)
    (allowed s₁ (up s₁ x k) q λ s₂.
    writes (node (proj c j) X blank blank) λ s₃ f.
    opens (some f) k 0 b λ s₄ W₁.
    earlier c X q (suc j) n s₄ W₁ next)

-- the chosen field
unfoldable pub chosen : Bool → Ptr → Ask
chosen q F =
    pi_of F λ s x b k.
    allowed s (up s x k) q λ s₁.
    answers (up s x k)

-- from the structure's type S on
unfoldable pub field_type : ℕ → ℕ → Ptr → Ptr → Ask
unfolding chosen
field_type c i X S =
    reduces none S λ s S₁.
    question S₁ λ s₁ q.
    structures S₁ c λ n C ys.
    parameters n ys s₁ C.type λ s₂ W.
    earlier c X q 0 i s₂ W λ s₃ F.
    chosen q F

unfoldable pub projection_type : ℕ → ℕ → Ptr → Ask
unfolding field_type
projection_type c i X = infers none X λ s S. field_type c i X S

-- a row under the shift k
unfoldable pub at_row : Env → Store → ℕ → Row → Ask
at_row e s k (var i) = variable_type e s (i + k)
at_row e s k (node (sort l) x y z) = sort_type l
at_row e s k (node (const c n) x y z) = constant_type e c n
at_row e s k (node app f a z) = application_type (up s f k) (up s a k)
at_row e s k (node lam x b z) = lambda_type s (up s x k) b k
at_row e s k (node pi x b z) = pi_type (up s x k) b k
at_row e s k (node let' x v b) = let_type (up s v k) b k
at_row e s k (node (proj c i) v y z) = projection_type c i (up s v k)
at_row e s k (node (num n) x y z) = number_type e

unfoldable pub asks : Env → Store → Ptr → Ask
asks e s t = at_row e s t.shift (row_at s t.row)
