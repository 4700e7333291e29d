-- Inference as what follows from what, in document 01's order. No budget stands here.
-- In `Infers e d r` and the families beside it parts are inferred, and reductions started, at most d levels deep, under at most r new records.
use Rattle.std.specs.Prelude.{ℕ, zero, suc, ◌+◌, ◌-◌, ◌≤◌, ◌<◌, max, ◌≡◌, Bool, true, false, List, [], ◌∷◌, ◌++◌, length}
use Rattle.std.proofs.Math.Option.{Option, none, some}
use Rattle.rules.specs.Maxima.{most_level}
use Rattle.rules.specs.Kinds.{sort, const, app, lam, pi, let', proj, num}
use Rattle.rules.specs.Rows.{Ptr, blank, Row, var, node, leaf, Store, row_at, bound, up, Got, put}
use Rattle.rules.specs.Declarations.{nat, structure, Decl, Entry, Env, nth, decl_at, holder}
use Rattle.rules.specs.Replacement.{Replaces}
use Rattle.rules.specs.Firings.{Tally, tally, opened, Written, Pays}
use Rattle.rules.specs.HeadRules.{Head, Reduces}

-- the context type of variable i: index 0 is the newest record
abbrev pub type_on : Option Entry → Option Ptr
type_on none = none
type_on (some x) = some x.type

unfoldable pub type_of : Env → ℕ → Option Ptr
unfolding nth
type_of e i = type_on (nth e.context (length e.context - suc i))

-- "under a new record": with this type, and no value
abbrev pub under : Env → Ptr → Env
under e x = record { decls = e.decls; context = e.context ++ (record { type = x; value = none } ∷ []) }

-- "imax (0 if the second is 0, else the larger)"
abbrev pub imax : ℕ → ℕ → ℕ
imax u zero = 0
imax u (suc v) = max u (suc v)

-- WHAT IS WRITTEN, with no step

-- one row
pub record Puts (m : Tally) (w : Row) (m' : Tally) (p : Ptr) : Type 0 where
  pub due : Got
  pub is_due : put m.store w ≡ due
  pub written : Written m.store due.store
  pub then_tally : tally m.steps due.store ≡ m'
  pub then_at : due.at ≡ p

-- the rows of a replacement at cutoff c
pub record Opens (m : Tally) (v : Option Ptr) (k c : ℕ) (b : Ptr) (m' : Tally) (p : Ptr) : Type 0 where
  pub due : Got
  pub is_due : Replaces v k c m.store b due
  pub written : Written m.store due.store
  pub then_tally : tally m.steps due.store ≡ m'
  pub then_at : due.at ≡ p

-- a binder's body under the binder's shift s: "opened by replacement at cutoff 1, no value, move s (as it stands if s is 0)"
pub data Body (m : Tally) (b : Ptr) : ℕ → Tally → Ptr → Type 0 where
  as_it_stands : Body m b zero m b
  moved : {s : ℕ} {m' : Tally} {p : Ptr} → Opens m none (suc s) 1 b m' p → Body m b (suc s) m' p

-- REDUCTIONS THAT INFERENCE STARTS: "each reduction it starts, is one nesting level deeper"

pub data Reduced (e : Env) : ℕ → Tally → Ptr → Tally → Ptr → Type 0 where
  deeper : {d : ℕ} {m m' : Tally} {p q : Ptr} → Reduces e d m p m' q → Reduced e (suc d) m p m' q

-- "reduced to a sort"
pub record ToSort (e : Env) (d : ℕ) (m : Tally) (p : Ptr) (m' : Tally) (l : ℕ) : Type 0 where
  pub to : Ptr
  pub x : Ptr
  pub y : Ptr
  pub z : Ptr
  pub reduced : Reduced e d m p m' to
  pub row : row_at m'.store to.row ≡ node (sort l) x y z

-- "reduced if not a pi": to a pi of type x and body b, with the shift k
pub record ToPi (e : Env) (d : ℕ) (m : Tally) (p : Ptr) (m' : Tally) (x b : Ptr) (k : ℕ) : Type 0 where
  pub to : Ptr
  pub z : Ptr
  pub reduced : Reduced e d m p m' to
  pub row : row_at m'.store to.row ≡ node pi x b z
  pub shift : to.shift ≡ k

-- "its head must be the named structure, given as many levels as the constructor counts": the constructor, and the type's arguments
pub record OfStructure (e : Env) (s : Store) (p : Ptr) (c parameters : ℕ) (C : Decl) (ys : List Ptr) : Type 0 where
  pub n : ℕ
  pub x : Ptr
  pub y : Ptr
  pub z : Ptr
  pub k : ℕ
  pub its_constructor : ℕ
  pub head : Head s p (node (const c n) x y z) k ys
  pub is_structure : (decl_at e.decls c).form ≡ structure parameters its_constructor
  pub constructor : decl_at e.decls its_constructor ≡ C
  pub levels : n ≡ C.levels

-- whether a sort is sort 0
pub data SortZero : ℕ → Bool → Type 0 where
  zero_level : SortZero zero true
  not_zero : {l : ℕ} → SortZero (suc l) false

mutual
  -- the type of what t points at
  pub data Infers : Env → ℕ → ℕ → Tally → Ptr → Tally → Ptr → Type 0 where
    -- "Sort n: sort n + 1."
    of_sort : {e : Env} {d r l : ℕ} {m m' : Tally} {t x y z p : Ptr} →
        row_at m.store t.row ≡ node (sort l) x y z → suc l ≤ most_level → Puts m (leaf (sort (suc l))) m' p → Infers e d r m t m' p
    -- "Constant, counts equal: its type."
    of_constant : {e : Env} {d r c n : ℕ} {m : Tally} {t x y z p : Ptr} →
        row_at m.store t.row ≡ node (const c n) x y z → (decl_at e.decls c).levels ≡ n → (decl_at e.decls c).type ≡ p → Infers e d r m t m p
    -- "Variable i: its context type shifted i + 1."
    of_variable : {e : Env} {d r i : ℕ} {m : Tally} {t x p : Ptr} →
        row_at m.store t.row ≡ var i → type_of e (i + t.shift) ≡ some x → up m.store x (suc (i + t.shift)) ≡ p → Infers e d r m t m p
    -- "Number: constant Nat."
    of_number : {e : Env} {d r n c : ℕ} {m m' : Tally} {t x y z p : Ptr} →
        row_at m.store t.row ≡ node (num n) x y z → holder e nat ≡ some c → Puts m (leaf (const c 0)) m' p → Infers e d r m t m' p
    -- "Application: the function's type, reduced if not a pi, argument replaced into the body, k its shift."
    of_application : {e : Env} {d r k : ℕ} {m m₁ m₂ m₃ : Tally} {t f a z T x b p : Ptr} →
        row_at m.store t.row ≡ node app f a z → Part e d r m (up m.store f t.shift) m₁ T → ToPi e d m₁ T m₂ x b k →
        Opens m₂ (some (up m.store a t.shift)) k 0 b m₃ p → Infers e d r m t m₃ p
    -- "Lambda: body inferred under a new record, then pi."
    of_lambda : {e : Env} {d r : ℕ} {m m₁ m₂ m₃ : Tally} {t x b z X b₁ B p : Ptr} →
        row_at m.store t.row ≡ node lam x b z → up m.store x t.shift ≡ X → Body m b t.shift m₁ b₁ →
        Part (under e X) d r m₁ b₁ m₂ B → Puts m₂ (node pi X B blank) m₃ p → Infers e d (suc r) m t m₃ p
    -- "Pi: its type's type, reduced to a sort; only then is the body opened, its type inferred under a new record and reduced there to a sort; sort of imax"
    of_pi : {e : Env} {d r u v : ℕ} {m m₁ m₂ m₃ m₄ m₅ m₆ : Tally} {t x b z X T b₁ B p : Ptr} →
        row_at m.store t.row ≡ node pi x b z → up m.store x t.shift ≡ X → Part e d (suc r) m X m₁ T → ToSort e d m₁ T m₂ u →
        Body m₂ b t.shift m₃ b₁ → Part (under e X) d r m₃ b₁ m₄ B → ToSort (under e X) d m₄ B m₅ v →
        Puts m₅ (leaf (sort (imax u v))) m₆ p → Infers e d (suc r) m t m₆ p
    -- "Let: one step, value replaced as in the head rule, the result inferred one level deeper."
    of_let : {e : Env} {d r : ℕ} {m m₁ m₂ : Tally} {t x v b t₁ p : Ptr} →
        row_at m.store t.row ≡ node let' x v b → Pays m (opened b (up m.store v t.shift) t.shift) [] m₁ t₁ →
        Part e d r m₁ t₁ m₂ p → Infers e d r m t m₂ p
    -- "Projection: structure's type reduced; the question whether that type is a proposition is asked once; .. the constructor's type is walked through
    -- the parameters .. ; the chosen field likewise."
    of_projection : {e : Env} {d r c i parameters k : ℕ} {q : Bool} {m m₁ m₂ m₃ m₄ m₅ m₆ m₇ : Tally} {t v y z X S S₁ W F x b p : Ptr} {C : Decl} {ys : List Ptr} →
        row_at m.store t.row ≡ node (proj c i) v y z → up m.store v t.shift ≡ X → Part e d r m X m₁ S → Reduced e d m₁ S m₂ S₁ →
        IsProp e d r m₂ S₁ m₃ q → OfStructure e m₃.store S₁ c parameters C ys →
        Parameters e d r m₃ C.type parameters ys m₄ W → Earlier e d r m₄ W c X q zero i m₅ F → ToPi e d m₅ F m₆ x b k →
        Allowed e d r m₆ (up m₆.store x k) q m₇ → up m₆.store x k ≡ p → Infers e d r m t m₇ p

  -- "Each inference of a part .. is one nesting level deeper."
  pub data Part : Env → ℕ → ℕ → Tally → Ptr → Tally → Ptr → Type 0 where
    inferred : {e : Env} {d r : ℕ} {m m' : Tally} {t p : Ptr} → Infers e d r m t m' p → Part e (suc d) r m t m' p

  -- "A question "is it a proposition" costs one step, taken first: type of the type, reduced, sort 0"
  pub data IsProp : Env → ℕ → ℕ → Tally → Ptr → Tally → Bool → Type 0 where
    asked : {e : Env} {d r l : ℕ} {m m₁ m₂ : Tally} {p T : Ptr} {q : Bool} →
        Part e d r (tally (suc m.steps) m.store) p m₁ T → ToSort e d m₁ T m₂ l → SortZero l q → IsProp e d r m p m₂ q

  -- "walked through the parameters, reduced before each parameter": each argument of the structure's type in its turn
  pub data Parameters : Env → ℕ → ℕ → Tally → Ptr → ℕ → List Ptr → Tally → Ptr → Type 0 where
    walked : {e : Env} {d r : ℕ} {m : Tally} {W : Ptr} {ys : List Ptr} → Parameters e d r m W zero ys m W
    next : {e : Env} {d r n k : ℕ} {m m₁ m₂ m₃ : Tally} {W x b a W₁ W₂ : Ptr} {ys : List Ptr} →
        ToPi e d m W m₁ x b k → Opens m₁ (some a) k 0 b m₂ W₁ → Parameters e d r m₂ W₁ n ys m₃ W₂ → Parameters e d r m W (suc n) (a ∷ ys) m₃ W₂

  -- the earlier fields from number j on, n of them, of the structure X; "reduced before each .. field"
  pub data Earlier : Env → ℕ → ℕ → Tally → Ptr → ℕ → Ptr → Bool → ℕ → ℕ → Tally → Ptr → Type 0 where
    chosen : {e : Env} {d r c j : ℕ} {m : Tally} {W X : Ptr} {q : Bool} → Earlier e d r m W c X q j zero m W
    -- a remaining body without a loose variable is gone on with
    not_used : {e : Env} {d r c j n k : ℕ} {m m₁ m₂ : Tally} {W X x b W₁ : Ptr} {q : Bool} →
        ToPi e d m W m₁ x b k → bound m₁.store b ≡ 0 → Earlier e d r m₁ b c X q (suc j) n m₂ W₁ → Earlier e d r m W c X q j (suc n) m₂ W₁
    -- "For each earlier field whose remaining body has a loose variable, the field's projection is replaced in, and if the structure type is a
    -- proposition the field type must be one, asked before any of these rows"
    used : {e : Env} {d r c j n k : ℕ} {m m₁ m₂ m₃ m₄ m₅ : Tally} {W X x b f W₁ W₂ : Ptr} {q : Bool} →
        ToPi e d m W m₁ x b k → 0 < bound m₁.store b → Allowed e d r m₁ (up m₁.store x k) q m₂ →
        Puts m₂ (node (proj c j) X blank blank) m₃ f → Opens m₃ (some f) k 0 b m₄ W₁ →
        Earlier e d r m₄ W₁ c X q (suc j) n m₅ W₂ → Earlier e d r m W c X q j (suc n) m₅ W₂

  -- "if the structure type is a proposition the field type must be one"
  pub data Allowed : Env → ℕ → ℕ → Tally → Ptr → Bool → Tally → Type 0 where
    no_condition : {e : Env} {d r : ℕ} {m : Tally} {p : Ptr} → Allowed e d r m p false m
    is_one : {e : Env} {d r : ℕ} {m m' : Tally} {p : Ptr} → IsProp e d r m p m' true → Allowed e d r m p true m'
