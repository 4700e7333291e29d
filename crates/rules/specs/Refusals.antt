-- Refusals 4 to 8: the demand that the rules' own course comes to first and the limits cannot meet.
-- The demands are those of the head rules and nothing else; no budget stands in `Meets`.
use Rattle.std.specs.Prelude.{ℕ, zero, suc, ◌≤◌, ◌<◌, ◌≡◌, List, ◌∷◌, ◌++◌, length}
use Rattle.std.proofs.Math.Option.{some}
use Rattle.rules.specs.Maxima.{most_number}
use Rattle.rules.specs.Kinds.{proj}
use Rattle.rules.specs.Rows.{Ptr, Row, node, Cell, Store, up, grow, Got}
use Rattle.rules.specs.RowCheck.{Fits}
use Rattle.rules.specs.Declarations.{Recursor, Decl, Env}
use Rattle.rules.specs.Arithmetic.{Op}
use Rattle.rules.specs.Firings.{Tally, tally, Result, a_number, Due, NumberFits, AllFit, Pays}
use Rattle.rules.specs.HeadTests.{quot_parts_of, quot_parts, rec_parts_of, rec_parts, Made, as_constructor, as_number, operands_of, operands}
use Rattle.rules.specs.HeadRules.{Head, Constant, Reduces, Side, Fires, NoQuot, NoRec}

-- what a course asks for: a step, that a number fits, a row, a nesting level
pub data Demand : Type 0 where
  step : Demand
  fitting : ℕ → Demand
  row : Cell → Demand
  level : Demand

-- from s to s' rows are due one after the other: x is due when those before it stand, which is the store `now`
pub record RowDue (s s' : Store) (x : Cell) (now : Store) : Type 0 where
  pub before : List Cell
  pub after : List Cell
  pub split : s ++ (before ++ (x ∷ after)) ≡ s'
  pub fit : AllFit before
  pub stand : s ++ before ≡ now

-- "In a firing: 4, 7, then for each due row in turn 8, 5."
pub data Asks (m : Tally) : Result → List Ptr → Demand → Tally → Type 0 where
  its_step : {r : Result} {xs : List Ptr} → Asks m r xs step m
  its_number : {n : ℕ} {xs : List Ptr} {m₁ : Tally} → tally (suc m.steps) m.store ≡ m₁ → Asks m (a_number n) xs (fitting n) m₁
  its_row : {r : Result} {xs : List Ptr} {g : Got} {x : Cell} {now : Store} {m₁ : Tally} →
      NumberFits r → Due m.store r xs g → RowDue m.store g.store x now → tally (suc m.steps) now ≡ m₁ → Asks m r xs (row x) m₁

mutual
  -- with d levels left below this one, reducing t comes to the demand a when the tally is m₁
  pub data Meets (e : Env) : ℕ → Tally → Ptr → Demand → Tally → Type 0 where
    in_premise : {d : ℕ} {m m₁ : Tally} {t : Ptr} {a : Demand} → Premise e d m t a m₁ → Meets e d m t a m₁
    in_firing : {d : ℕ} {m m₁ m₂ : Tally} {t : Ptr} {r : Result} {xs : List Ptr} {a : Demand} →
        Fires e d m t m₁ r xs → Asks m₁ r xs a m₂ → Meets e d m t a m₂
    later : {d : ℕ} {m m₁ m₂ m₃ : Tally} {t t₂ : Ptr} {r : Result} {xs : List Ptr} {a : Demand} →
        Fires e d m t m₁ r xs → Pays m₁ r xs m₂ t₂ → Meets e d m₂ t₂ a m₃ → Meets e d m t a m₃

  -- a side reduction asks for its level first
  pub data SideMeets (e : Env) : ℕ → Tally → Ptr → Demand → Tally → Type 0 where
    its_level : {m : Tally} {p : Ptr} → SideMeets e zero m p level m
    within : {d : ℕ} {m m₁ : Tally} {p : Ptr} {a : Demand} → Meets e d m p a m₁ → SideMeets e (suc d) m p a m₁

  -- "Premises come first, left to right": the side reductions of each rule, and the rows of a number
  pub data Premise (e : Env) : ℕ → Tally → Ptr → Demand → Tally → Type 0 where
    structure : {d k c i : ℕ} {m m₁ : Tally} {t x y z : Ptr} {xs : List Ptr} {a : Demand} →
        Head m.store t (node (proj c i) x y z) k xs → SideMeets e d m (up m.store x k) a m₁ → Premise e d m t a m₁
    quot_major : {d n : ℕ} {m m₁ : Tally} {t f x : Ptr} {D : Decl} {xs zs : List Ptr} {a : Demand} →
        Constant e m.store t D n xs → quot_parts D xs ≡ some (quot_parts_of f x zs) → SideMeets e d m x a m₁ → Premise e d m t a m₁
    rec_major : {d n : ℕ} {m m₁ m₂ : Tally} {t x : Ptr} {D : Decl} {o : Recursor} {xs : List Ptr} {a : Demand} →
        Constant e m.store t D n xs → NoQuot e d m D xs m₁ → rec_parts D n xs ≡ some (rec_parts_of o x) → SideMeets e d m₁ x a m₂ →
        Premise e d m t a m₂
    number_row : {d n : ℕ} {m m₁ m₂ m₃ : Tally} {t x : Ptr} {D : Decl} {o : Recursor} {c : Made} {w : Row} {xs ys : List Ptr} {y : Cell} {now : Store} →
        Constant e m.store t D n xs → NoQuot e d m D xs m₁ → rec_parts D n xs ≡ some (rec_parts_of o x) → Side e d m₁ x m₂ w ys →
        as_constructor e m₂.store w ys ≡ some c → RowDue m₂.store (grow m₂.store c.rows) y now → tally m₂.steps now ≡ m₃ →
        Premise e d m t (row y) m₃
    first_number : {d n : ℕ} {m m₁ m₂ m₃ : Tally} {t x y : Ptr} {D : Decl} {o : Op} {xs : List Ptr} {a : Demand} →
        Constant e m.store t D n xs → NoQuot e d m D xs m₁ → NoRec e d m₁ D n xs m₂ → operands e D xs ≡ some (operands_of o x y) →
        SideMeets e d m₂ x a m₃ → Premise e d m t a m₃
    second_number : {d n v : ℕ} {m m₁ m₂ m₃ m₄ : Tally} {t x y : Ptr} {D : Decl} {o : Op} {w : Row} {xs ys : List Ptr} {a : Demand} →
        Constant e m.store t D n xs → NoQuot e d m D xs m₁ → NoRec e d m₁ D n xs m₂ → operands e D xs ≡ some (operands_of o x y) →
        Side e d m₂ x m₃ w ys → as_number w ys ≡ some v → SideMeets e d m₃ y a m₄ → Premise e d m t a m₄

-- the budgets: steps, and rows in all, library rows among them
pub record Limits : Type 0 where
  pub steps : ℕ
  pub rows : ℕ

pub record Within (lim : Limits) (m : Tally) : Type 0 where
  pub steps : m.steps ≤ lim.steps
  pub rows : length m.store ≤ lim.rows

-- a demand that cannot be met, and its number; of a row "8, 5"
pub data Fails (lim : Limits) (m : Tally) : Demand → ℕ → Type 0 where
  no_step : lim.steps ≤ m.steps → Fails lim m step 4
  no_free_row : {x : Cell} → Fits x → lim.rows ≤ length m.store → Fails lim m (row x) 5
  no_level : Fails lim m level 6
  too_large : {n : ℕ} → most_number < n → Fails lim m (fitting n) 7
  no_size : {x : Cell} → (Fits x → ⊥) → Fails lim m (row x) 8

-- "a refusal at any premise ends the whole call with that refusal". Tallies only grow, so whatever the course asked before was met: this one is the first.
pub record Refused (e : Env) (lim : Limits) (nesting : ℕ) (s : Store) (t : Ptr) (number : ℕ) : Type 0 where
  pub demand : Demand
  pub at : Tally
  pub meets : Meets e nesting (tally 0 s) t demand at
  pub within : Within lim at
  pub fails : Fails lim at demand number

-- the rules bring t to the final term t' within the limits, with these steps and rows
pub record Answered (e : Env) (lim : Limits) (nesting : ℕ) (s : Store) (t : Ptr) (t' : Ptr) (steps : ℕ) (s' : Store) : Type 0 where
  pub reduces : Reduces e nesting (tally 0 s) t (tally steps s') t'
  pub within : Within lim (tally steps s')
