-- The head rules as what follows from what: a constructor for each way that a rule fires and each way that it is missed, in document 01's order.
-- No budget stands here. In `Reduces e d` and the families beside it side reductions stand at most d levels deep.
use Rattle.std.specs.Prelude.{ℕ, suc, ◌+◌, ◌≡◌, List, [], ◌∷◌}
use Rattle.std.proofs.Math.Option.{none, some}
use Rattle.rules.specs.Kinds.{sort, const, lam, pi, let', proj, num}
use Rattle.rules.specs.Rows.{Ptr, Row, var, node, Store, row_at, up, grow}
use Rattle.rules.specs.Declarations.{Recursor, Decl, Env, decl_at, value_of}
use Rattle.rules.specs.Spines.{Spine}
use Rattle.rules.specs.Arithmetic.{Op, compute}
use Rattle.rules.specs.Firings.{Tally, tally, Result, opened, itself, Written, Pays}
use Rattle.rules.specs.HeadTests.{field_at, quot_parts_of, quot_parts, quot_made, rec_parts_of, rec_parts, Made, as_constructor, ruled, by_rule, as_number, operands_of, operands, outcome, unfolds}

-- t has a head of row w and shift k, and the arguments xs
pub record Head (s : Store) (t : Ptr) (w : Row) (k : ℕ) (xs : List Ptr) : Type 0 where
  pub at : Ptr
  pub spine : Spine s t [] at xs
  pub row : row_at s at.row ≡ w
  pub shift : at.shift ≡ k

-- t's head is a constant that names the declaration D and gives n levels
pub record Constant (e : Env) (s : Store) (t : Ptr) (D : Decl) (n : ℕ) (xs : List Ptr) : Type 0 where
  pub named : ℕ
  pub x : Ptr
  pub y : Ptr
  pub z : Ptr
  pub k : ℕ
  pub head : Head s t (node (const named n) x y z) k xs
  pub declared : decl_at e.decls named ≡ D

-- a head that no rule is for: a sort, a pi, a number, a lambda without arguments
pub data NoRuleFor : Row → List Ptr → Type 0 where
  a_sort : {l : ℕ} {x y z : Ptr} {xs : List Ptr} → NoRuleFor (node (sort l) x y z) xs
  a_pi : {x y z : Ptr} {xs : List Ptr} → NoRuleFor (node pi x y z) xs
  a_num : {n : ℕ} {x y z : Ptr} {xs : List Ptr} → NoRuleFor (node (num n) x y z) xs
  a_lambda : {x y z : Ptr} → NoRuleFor (node lam x y z) []

-- the reduced major, of row w with the arguments ys, stands for the constructor c, whose rows are "written before rules are looked up"
pub record Constructs (e : Env) (m : Tally) (w : Row) (ys : List Ptr) (c : Made) (m' : Tally) : Type 0 where
  pub rows : Store
  pub constructor : as_constructor e m.store w ys ≡ some c
  pub grown : grow m.store c.rows ≡ rows
  pub written : Written m.store rows
  pub then_tally : tally m.steps rows ≡ m'

mutual
  -- "reduction goes on with the result"; "If none fires, the term is final and the answer is the pointer it had."
  pub data Reduces (e : Env) : ℕ → Tally → Ptr → Tally → Ptr → Type 0 where
    final : {d : ℕ} {m m' : Tally} {t : Ptr} → Stuck e d m t m' → Reduces e d m t m' t
    then : {d : ℕ} {m m₁ m₂ m' : Tally} {t t₂ t' : Ptr} {r : Result} {xs : List Ptr} →
        Fires e d m t m₁ r xs → Pays m₁ r xs m₂ t₂ → Reduces e d m₂ t₂ m' t' → Reduces e d m t m' t'

  -- a side reduction, "one nesting level deeper": it ends in a head of row w with the arguments ys
  pub data Side (e : Env) : ℕ → Tally → Ptr → Tally → Row → List Ptr → Type 0 where
    ends : {d k : ℕ} {m m' : Tally} {p q : Ptr} {w : Row} {ys : List Ptr} →
        Reduces e d m p m' q → Head m'.store q w k ys → Side e (suc d) m p m' w ys

  -- a rule fires at the head of t: its premises leave the tally m₁, it gives r, and the remaining arguments are xs
  pub data Fires (e : Env) : ℕ → Tally → Ptr → Tally → Result → List Ptr → Type 0 where
    -- "Lambda, at least one argument: one argument a time, replaced into the body with k the head's shift."
    beta : {d k : ℕ} {m : Tally} {t x b z a : Ptr} {xs : List Ptr} →
        Head m.store t (node lam x b z) k (a ∷ xs) → Fires e d m t m (opened b a k) xs
    -- "Let: its value (shifted with the head) into the body, same k."
    zeta : {d k : ℕ} {m : Tally} {t x v b u : Ptr} {xs : List Ptr} →
        Head m.store t (node let' x v b) k xs → up m.store v k ≡ u → Fires e d m t m (opened b u k) xs
    -- "Variable i with a context value: the value shifted i + 1."
    variable : {d k i : ℕ} {m : Tally} {t v u : Ptr} {xs : List Ptr} →
        Head m.store t (var i) k xs → value_of e (i + k) ≡ some v → up m.store v (suc (i + k)) ≡ u → Fires e d m t m (itself u) xs
    -- "Projection: the structure's side reduction must end in a constructor with an argument at parameters + index; that argument."
    field : {d k c i : ℕ} {m m₁ : Tally} {t x y z a : Ptr} {w : Row} {xs ys : List Ptr} →
        Head m.store t (node (proj c i) x y z) k xs → Side e d m (up m.store x k) m₁ w ys → field_at e w ys i ≡ some a →
        Fires e d m t m₁ (itself a) xs
    -- "For a constant the rules are tried in the order below", each from the tally that the missed ones before it left.
    by_quot : {d n : ℕ} {m m₁ : Tally} {t : Ptr} {D : Decl} {r : Result} {xs ys : List Ptr} →
        Constant e m.store t D n xs → Quot e d m D xs m₁ r ys → Fires e d m t m₁ r ys
    by_recursor : {d n : ℕ} {m m₁ m₂ : Tally} {t : Ptr} {D : Decl} {r : Result} {xs ys : List Ptr} →
        Constant e m.store t D n xs → NoQuot e d m D xs m₁ → Rec e d m₁ D n xs m₂ r ys → Fires e d m t m₂ r ys
    by_arithmetic : {d n : ℕ} {m m₁ m₂ m₃ : Tally} {t : Ptr} {D : Decl} {r : Result} {xs ys : List Ptr} →
        Constant e m.store t D n xs → NoQuot e d m D xs m₁ → NoRec e d m₁ D n xs m₂ → Arith e d m₂ D xs m₃ r ys → Fires e d m t m₃ r ys
    by_delta : {d n : ℕ} {m m₁ m₂ m₃ : Tally} {t v : Ptr} {D : Decl} {xs : List Ptr} →
        Constant e m.store t D n xs → NoQuot e d m D xs m₁ → NoRec e d m₁ D n xs m₂ → NoArith e d m₂ D xs m₃ → unfolds D n ≡ some v →
        Fires e d m t m₃ (itself v) xs

  -- none fires; "Rows written by a side reduction that led to no rule stay."
  pub data Stuck (e : Env) : ℕ → Tally → Ptr → Tally → Type 0 where
    no_rule_for : {d k : ℕ} {m : Tally} {t : Ptr} {w : Row} {xs : List Ptr} →
        Head m.store t w k xs → NoRuleFor w xs → Stuck e d m t m
    no_value : {d k i : ℕ} {m : Tally} {t : Ptr} {xs : List Ptr} →
        Head m.store t (var i) k xs → value_of e (i + k) ≡ none → Stuck e d m t m
    no_field : {d k c i : ℕ} {m m₁ : Tally} {t x y z : Ptr} {w : Row} {xs ys : List Ptr} →
        Head m.store t (node (proj c i) x y z) k xs → Side e d m (up m.store x k) m₁ w ys → field_at e w ys i ≡ none → Stuck e d m t m₁
    none_fires : {d n : ℕ} {m m₁ m₂ m₃ : Tally} {t : Ptr} {D : Decl} {xs : List Ptr} →
        Constant e m.store t D n xs → NoQuot e d m D xs m₁ → NoRec e d m₁ D n xs m₂ → NoArith e d m₂ D xs m₃ → unfolds D n ≡ none →
        Stuck e d m t m₃

  -- "side reduction must end in Quot.mk with exactly 3 arguments. Result: argument 3 applied to the third, rest after the major."
  pub data Quot (e : Env) : ℕ → Tally → Decl → List Ptr → Tally → Result → List Ptr → Type 0 where
    is_made : {d : ℕ} {m m₁ : Tally} {D : Decl} {f x a : Ptr} {w : Row} {xs ys zs : List Ptr} →
        quot_parts D xs ≡ some (quot_parts_of f x zs) → Side e d m x m₁ w ys → quot_made e w ys ≡ some a → Quot e d m D xs m₁ (itself f) (a ∷ zs)

  pub data NoQuot (e : Env) : ℕ → Tally → Decl → List Ptr → Tally → Type 0 where
    no_quot : {d : ℕ} {m : Tally} {D : Decl} {xs : List Ptr} → quot_parts D xs ≡ none → NoQuot e d m D xs m
    not_made : {d : ℕ} {m m₁ : Tally} {D : Decl} {f x : Ptr} {w : Row} {xs ys zs : List Ptr} →
        quot_parts D xs ≡ some (quot_parts_of f x zs) → Side e d m x m₁ w ys → quot_made e w ys ≡ none → NoQuot e d m D xs m₁

  -- "major at parameters + motives + minors + indices, reduced"
  pub data Rec (e : Env) : ℕ → Tally → Decl → ℕ → List Ptr → Tally → Result → List Ptr → Type 0 where
    by_a_rule : {d n : ℕ} {m m₁ m₂ : Tally} {D : Decl} {o : Recursor} {c : Made} {x v : Ptr} {w : Row} {xs ys zs : List Ptr} →
        rec_parts D n xs ≡ some (rec_parts_of o x) → Side e d m x m₁ w ys → Constructs e m₁ w ys c m₂ → by_rule o xs c ≡ some (ruled v zs) →
        Rec e d m D n xs m₂ (itself v) zs

  pub data NoRec (e : Env) : ℕ → Tally → Decl → ℕ → List Ptr → Tally → Type 0 where
    no_recursor : {d n : ℕ} {m : Tally} {D : Decl} {xs : List Ptr} → rec_parts D n xs ≡ none → NoRec e d m D n xs m
    no_constructor : {d n : ℕ} {m m₁ : Tally} {D : Decl} {o : Recursor} {x : Ptr} {w : Row} {xs ys : List Ptr} →
        rec_parts D n xs ≡ some (rec_parts_of o x) → Side e d m x m₁ w ys → as_constructor e m₁.store w ys ≡ none → NoRec e d m D n xs m₁
    no_rule : {d n : ℕ} {m m₁ m₂ : Tally} {D : Decl} {o : Recursor} {c : Made} {x : Ptr} {w : Row} {xs ys : List Ptr} →
        rec_parts D n xs ≡ some (rec_parts_of o x) → Side e d m x m₁ w ys → Constructs e m₁ w ys c m₂ → by_rule o xs c ≡ none → NoRec e d m D n xs m₂

  -- "both reduce to numbers, first then second; the second is not tried if the first is no number"
  pub data Arith (e : Env) : ℕ → Tally → Decl → List Ptr → Tally → Result → List Ptr → Type 0 where
    computed : {d x y : ℕ} {m m₁ m₂ : Tally} {D : Decl} {o : Op} {r : Result} {a b : Ptr} {w w' : Row} {xs ys ys' : List Ptr} →
        operands e D xs ≡ some (operands_of o a b) → Side e d m a m₁ w ys → as_number w ys ≡ some x →
        Side e d m₁ b m₂ w' ys' → as_number w' ys' ≡ some y → outcome e (compute o x y) ≡ some r → Arith e d m D xs m₂ r []

  pub data NoArith (e : Env) : ℕ → Tally → Decl → List Ptr → Tally → Type 0 where
    no_operands : {d : ℕ} {m : Tally} {D : Decl} {xs : List Ptr} → operands e D xs ≡ none → NoArith e d m D xs m
    no_first : {d : ℕ} {m m₁ : Tally} {D : Decl} {o : Op} {a b : Ptr} {w : Row} {xs ys : List Ptr} →
        operands e D xs ≡ some (operands_of o a b) → Side e d m a m₁ w ys → as_number w ys ≡ none → NoArith e d m D xs m₁
    no_second : {d x : ℕ} {m m₁ m₂ : Tally} {D : Decl} {o : Op} {a b : Ptr} {w w' : Row} {xs ys ys' : List Ptr} →
        operands e D xs ≡ some (operands_of o a b) → Side e d m a m₁ w ys → as_number w ys ≡ some x →
        Side e d m₁ b m₂ w' ys' → as_number w' ys' ≡ none → NoArith e d m D xs m₂
