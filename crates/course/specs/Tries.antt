-- The rules as tries: a rule is a small tree of what it asks in turn (a side reduction, a number's rows) until it fires or does not.
-- `Comes`, `Runs` and the demands beside them are families over all tries: no constructor of theirs names a rule.
use Rattle.std.specs.Prelude.{ℕ, zero, suc, ◌+◌, ◌≡◌, List, [], ◌∷◌}
use Rattle.std.proofs.Math.Option.{Option, none, some}
use Rattle.rules.specs.Kinds.{sort, const, app, lam, pi, let', proj, num}
use Rattle.rules.specs.Rows.{Ptr, Row, var, node, Cell, Store, row_at, up, grow}
use Rattle.rules.specs.Declarations.{Decl, Env, decl_at, value_of}
use Rattle.rules.specs.Spines.{Spine}
use Rattle.rules.specs.Arithmetic.{compute}
use Rattle.rules.specs.Firings.{Tally, tally, Result, opened, itself, Written, Pays}
use Rattle.rules.specs.HeadTests.{field_at, quot_parts, quot_made, rec_parts, as_constructor, by_rule, as_number, operands, outcome, unfolds}
use Rattle.rules.specs.Refusals.{Demand, row, level, RowDue, Asks}

-- no rule; a rule fires; rows are written first; a side reduction is asked, and what follows depends on the store that it leaves,
-- on the head's row and on the arguments that it ends in
pub data Try : Type 0 where
  no_rule : Try
  fires : Result → List Ptr → Try
  writes : List Row → Try → Try
  reduces : Ptr → (Store → Row → List Ptr → Try) → Try

-- if it is there, go on; else no rule
abbrev pub with_it : {A : Type 0} → Option A → (A → Try) → Try
with_it none next = no_rule
with_it (some a) next = next a

-- if no rule fires, the next is tried, from whatever rows and steps the first try left
infixr 20 ◌or_else◌
unfoldable pub ◌or_else◌ : Try → Try → Try
no_rule or_else z = z
fires r xs or_else z = fires r xs
writes ws y or_else z = writes ws (y or_else z)
reduces p y or_else z = reduces p λ s w ys. y s w ys or_else z

unfoldable pub lambda : Ptr → ℕ → List Ptr → Try
lambda b k [] = no_rule
lambda b k (a ∷ xs) = fires (opened b a k) xs

unfoldable pub variable : Env → Store → ℕ → List Ptr → Try
variable e s i xs = with_it (value_of e i) λ v. fires (itself (up s v (suc i))) xs

unfoldable pub projection : Env → Ptr → ℕ → List Ptr → Try
projection e x i xs =
    reduces x λ s w ys.
    with_it (field_at e w ys i) λ a.
    fires (itself a) xs

unfoldable pub quot : Env → Decl → List Ptr → Try
quot e D xs =
    with_it (quot_parts D xs) λ q.
    reduces q.major λ s w ys.
    with_it (quot_made e w ys) λ a.
    fires (itself q.function) (a ∷ q.rest)

unfoldable pub recursion : Env → Decl → ℕ → List Ptr → Try
recursion e D n xs =
    with_it (rec_parts D n xs) λ q.
    reduces q.major λ s w ys.
    with_it (as_constructor e s w ys) λ c.
    writes c.rows (with_it (by_rule q.of xs c) λ ρ. fires (itself ρ.value) ρ.arguments)

unfoldable pub arithmetic : Env → Decl → List Ptr → Try
arithmetic e D xs =
    with_it (operands e D xs) λ q.
    reduces q.first λ s w ys.
    with_it (as_number w ys) λ x.
    reduces q.second λ s' w' ys'.
    with_it (as_number w' ys') λ y.
    with_it (outcome e (compute q.op x y)) λ r.
    fires r []

unfoldable pub delta : Decl → ℕ → List Ptr → Try
delta D n xs = with_it (unfolds D n) λ v. fires (itself v) xs

unfoldable pub constant : Env → Decl → ℕ → List Ptr → Try
constant e D n xs = quot e D xs or_else recursion e D n xs or_else arithmetic e D xs or_else delta D n xs

-- the rules at a head of row w and shift k
unfoldable pub at_row : Env → Store → ℕ → List Ptr → Row → Try
at_row e s k xs (var i) = variable e s (i + k) xs
at_row e s k xs (node (sort l) x y z) = no_rule
at_row e s k xs (node (const d n) x y z) = constant e (decl_at e.decls d) n xs
at_row e s k xs (node app x y z) = no_rule
at_row e s k xs (node lam x y z) = lambda y k xs
at_row e s k xs (node pi x y z) = no_rule
at_row e s k xs (node let' x y z) = fires (opened z (up s y k) k) xs
at_row e s k xs (node (proj d i) x y z) = projection e (up s x k) i xs
at_row e s k xs (node (num n) x y z) = no_rule

unfoldable pub rules : Env → Store → Ptr → List Ptr → Try
rules e s h xs = at_row e s h.shift xs (row_at s h.row)

-- what trying comes to
pub data End : Type 0 where
  missed : End
  firing : Result → List Ptr → End

mutual
  -- reduction by tries; side reductions stand at most d deep
  pub data Runs (e : Env) : ℕ → Tally → Ptr → Tally → Ptr → Type 0 where
    final : {d : ℕ} {m m' : Tally} {t h : Ptr} {xs : List Ptr} →
        Spine m.store t [] h xs → Comes e d m (rules e m.store h xs) m' missed → Runs e d m t m' t
    then : {d : ℕ} {m m₁ m₂ m' : Tally} {t t₂ t' h : Ptr} {xs zs : List Ptr} {r : Result} →
        Spine m.store t [] h xs → Comes e d m (rules e m.store h xs) m₁ (firing r zs) → Pays m₁ r zs m₂ t₂ → Runs e d m₂ t₂ m' t' →
        Runs e d m t m' t'

  pub data Comes (e : Env) : ℕ → Tally → Try → Tally → End → Type 0 where
    misses : {d : ℕ} {m : Tally} → Comes e d m no_rule m missed
    fires_now : {d : ℕ} {m : Tally} {r : Result} {xs : List Ptr} → Comes e d m (fires r xs) m (firing r xs)
    wrote : {d : ℕ} {m m' : Tally} {ws : List Row} {y : Try} {o : End} →
        Written m.store (grow m.store ws) → Comes e d (tally m.steps (grow m.store ws)) y m' o → Comes e d m (writes ws y) m' o
    side : {d : ℕ} {m m₁ m' : Tally} {p q h : Ptr} {ys : List Ptr} {y : Store → Row → List Ptr → Try} {o : End} →
        Runs e d m p m₁ q → Spine m₁.store q [] h ys → Comes e (suc d) m₁ (y m₁.store (row_at m₁.store h.row) ys) m' o →
        Comes e (suc d) m (reduces p y) m' o

mutual
  -- with d levels left below this one, reducing t comes to a demand when the tally is m₁
  pub data RunMeets (e : Env) : ℕ → Tally → Ptr → Demand → Tally → Type 0 where
    trying : {d : ℕ} {m m₁ : Tally} {t h : Ptr} {xs : List Ptr} {a : Demand} →
        Spine m.store t [] h xs → TryMeets e d m (rules e m.store h xs) a m₁ → RunMeets e d m t a m₁
    paying : {d : ℕ} {m m₁ m₂ : Tally} {t h : Ptr} {xs zs : List Ptr} {r : Result} {a : Demand} →
        Spine m.store t [] h xs → Comes e d m (rules e m.store h xs) m₁ (firing r zs) → Asks m₁ r zs a m₂ → RunMeets e d m t a m₂
    later : {d : ℕ} {m m₁ m₂ m₃ : Tally} {t t₂ h : Ptr} {xs zs : List Ptr} {r : Result} {a : Demand} →
        Spine m.store t [] h xs → Comes e d m (rules e m.store h xs) m₁ (firing r zs) → Pays m₁ r zs m₂ t₂ → RunMeets e d m₂ t₂ a m₃ →
        RunMeets e d m t a m₃

  -- and so does trying, before it comes to its end
  pub data TryMeets (e : Env) : ℕ → Tally → Try → Demand → Tally → Type 0 where
    writing : {d : ℕ} {m m₁ : Tally} {ws : List Row} {y : Try} {x : Cell} {now : Store} →
        RowDue m.store (grow m.store ws) x now → tally m.steps now ≡ m₁ → TryMeets e d m (writes ws y) (row x) m₁
    after_writing : {d : ℕ} {m m₁ : Tally} {ws : List Row} {y : Try} {a : Demand} →
        Written m.store (grow m.store ws) → TryMeets e d (tally m.steps (grow m.store ws)) y a m₁ → TryMeets e d m (writes ws y) a m₁
    too_deep : {m : Tally} {p : Ptr} {y : Store → Row → List Ptr → Try} → TryMeets e zero m (reduces p y) level m
    within : {d : ℕ} {m m₁ : Tally} {p : Ptr} {y : Store → Row → List Ptr → Try} {a : Demand} →
        RunMeets e d m p a m₁ → TryMeets e (suc d) m (reduces p y) a m₁
    after_side : {d : ℕ} {m m₁ m₂ : Tally} {p q h : Ptr} {ys : List Ptr} {y : Store → Row → List Ptr → Try} {a : Demand} →
        Runs e d m p m₁ q → Spine m₁.store q [] h ys → TryMeets e (suc d) m₁ (y m₁.store (row_at m₁.store h.row) ys) a m₂ →
        TryMeets e (suc d) m (reduces p y) a m₂
