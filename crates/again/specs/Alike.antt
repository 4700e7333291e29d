-- Two sides that are alike: what a relation between pointers of two stores must offer so that the rules go the same way on both sides, and what
-- it makes of lists, options, results, rows and environments. An embedding is one such relation; nothing here says which. Assumes nothing.
use Prim.Native.Nat.{ℕ, zero, suc, ◌+◌}
use Rattle.std.specs.Prelude.{◌≡◌, refl, Bool, true, false, List, [], ◌∷◌, ◌++◌, length, take, drop}
use Rattle.std.proofs.Common.{ap, subst}
use Rattle.std.proofs.Math.Option.{Option, none, some}
use Rattle.rules.specs.Kinds.{sort, const, app, lam, pi, let', proj, num}
use Rattle.rules.specs.Rows.{Ptr, blank, Row, var, node, leaf, Store, up, grow, put}
use Rattle.rules.specs.Declarations.{Role, Rule, Recursor, Form, plain, constructor, recursor, structure, Decl, Env, nth, decl_at, holder, value_of}
use Rattle.rules.specs.Firings.{Result, opened, itself, a_number, a_constant}
use Rattle.rules.specs.HeadTests.{given, provided}
use Rattle.substitution.specs.Stores.{Ext, ext_same, ext_then, ext_put}

-- OPTIONS AND LISTS, ELEMENT BY ELEMENT

pub data Opt {A B : Type 0} (R : A → B → Type 0) : Option A → Option B → Type 0 where
  nones : Opt R none none
  somes : {a : A} {b : B} → R a b → Opt R (some a) (some b)

pub data Each {A B : Type 0} (R : A → B → Type 0) : List A → List B → Type 0 where
  ended : Each R [] []
  next : {a : A} {b : B} {xs : List A} {ys : List B} → R a b → Each R xs ys → Each R (a ∷ xs) (b ∷ ys)

module _ {A B : Type 0} {R : A → B → Type 0} where
  pub nth_like : {xs : List A} {ys : List B} → Each R xs ys → (i : ℕ) → Opt R (nth xs i) (nth ys i)
  unfolding nth
  nth_like ended i = nones
  nth_like (next r q) zero = somes r
  nth_like (next r q) (suc i) = nth_like q i

  pub drop_like : {xs : List A} {ys : List B} (n : ℕ) → Each R xs ys → Each R (drop n xs) (drop n ys)
  drop_like zero q = q
  drop_like (suc n) ended = ended
  drop_like (suc n) (next {xs = xs} r q) = drop_like {xs = xs} n q

  pub take_like : {xs : List A} {ys : List B} (n : ℕ) → Each R xs ys → Each R (take n xs) (take n ys)
  take_like zero q = ended
  take_like (suc n) ended = ended
  take_like (suc n) (next {xs = xs} r q) = next r (take_like {xs = xs} n q)

  pub append_like : {xs xs' : List A} {ys ys' : List B} → Each R xs ys → Each R xs' ys' → Each R (xs ++ xs') (ys ++ ys')
  append_like ended q = q
  append_like (next r p) q = next r (append_like p q)

  pub length_like : {xs : List A} {ys : List B} → Each R xs ys → length xs ≡ length ys
  length_like ended = refl
  length_like (next r q) = ap suc (length_like q)

  pub opt_later : {Q : A → B → Type 0} {x : Option A} {y : Option B} → ((a : A) (b : B) → R a b → Q a b) → Opt R x y → Opt Q x y
  opt_later k nones = nones
  opt_later k (somes r) = somes (k _ _ r)

  pub each_later : {Q : A → B → Type 0} {xs : List A} {ys : List B} → ((a : A) (b : B) → R a b → Q a b) → Each R xs ys → Each Q xs ys
  each_later k ended = ended
  each_later k (next r q) = next (k _ _ r) (each_later k q)

  -- going on with what is there
  pub given_like : {C D : Type 0} {Q : C → D → Type 0} {x : Option A} {y : Option B} (f : A → Option C) (g : B → Option D) →
      Opt R x y → ((a : A) (b : B) → R a b → Opt Q (f a) (g b)) → Opt Q (given x f) (given y g)
  given_like f g nones k = nones
  given_like f g (somes r) k = k _ _ r

  pub provided_like : {a b : Bool} {x : Option A} {y : Option B} → a ≡ b → Opt R x y → Opt R (provided a x) (provided b y)
  provided_like {a} {x = x} {y = y} e q = subst (λ (c : Bool). Opt R (provided a x) (provided c y)) e (go a)
    where
      go : (c : Bool) → Opt R (provided c x) (provided c y)
      go true = q
      go false = nones

pub same_given : {A C D : Type 0} {Q : C → D → Type 0} {x y : Option A} (f : A → Option C) (g : A → Option D) →
    x ≡ y → ((a : A) → Opt Q (f a) (g a)) → Opt Q (given x f) (given y g)
same_given {A} {Q = Q} {x = x} f g e k = subst (λ (y : Option A). Opt Q (given x f) (given y g)) e (go x)
  where
    go : (z : Option A) → Opt Q (given z f) (given z g)
    go none = nones
    go (some a) = k a

-- A LIKENESS

-- both stores alike, grown, and alike again
pub record Grown (S : Store → Store → Type 0) (s s̃ s₁ s̃₁ : Store) : Type 0 where
  pub before : S s s̃
  pub left : Ext s s₁
  pub right : Ext s̃ s̃₁
  pub alike : S s₁ s̃₁

-- the rows that a rule writes before it fires: those of a number as a constructor
pub data NewRow (P : Store → Store → Ptr → Ptr → Type 0) (s s̃ : Store) : Row → Row → Type 0 where
  new_const : {d n : ℕ} → NewRow P s s̃ (leaf (const d n)) (leaf (const d n))
  new_num : {n : ℕ} → NewRow P s s̃ (leaf (num n)) (leaf (num n))
  new_app : {f f̃ a ã : Ptr} → P s s̃ f f̃ → P s s̃ a ã → NewRow P s s̃ (node app f a blank) (node app f̃ ã blank)

-- stores that are alike; pointers into them that are; bodies under a binder, each with the shift of the head above it
pub record Likeness : Type 1 where
  pub stores : Store → Store → Type 0
  pub pointers : Store → Store → Ptr → Ptr → Type 0
  pub bodies : Store → Store → Ptr → ℕ → Ptr → ℕ → Type 0
  pub later : {s s̃ s₁ s̃₁ : Store} {p p̃ : Ptr} → Grown stores s s̃ s₁ s̃₁ → pointers s s̃ p p̃ → pointers s₁ s̃₁ p p̃
  pub shifted : {s s̃ : Store} {p p̃ : Ptr} → stores s s̃ → pointers s s̃ p p̃ → (k : ℕ) → pointers s s̃ (up s p k) (up s̃ p̃ k)
  pub written : {s s̃ : Store} {w w̃ : Row} → stores s s̃ → NewRow pointers s s̃ w w̃ → stores (put s w).store (put s̃ w̃).store
  pub pointed : {s s̃ : Store} {w w̃ : Row} → stores s s̃ → NewRow pointers s s̃ w w̃ →
      pointers (put s w).store (put s̃ w̃).store (put s w).at (put s̃ w̃).at

module _ (L : Likeness) where
  pub grown_same : {s s̃ : Store} → L.stores s s̃ → Grown L.stores s s̃ s s̃
  grown_same {s} {s̃} a = record { before = a; left = ext_same s; right = ext_same s̃; alike = a }

  pub grown_then : {s s̃ s₁ s̃₁ s₂ s̃₂ : Store} → Grown L.stores s s̃ s₁ s̃₁ → Grown L.stores s₁ s̃₁ s₂ s̃₂ → Grown L.stores s s̃ s₂ s̃₂
  grown_then g h = record { before = g.before; left = ext_then g.left h.left; right = ext_then g.right h.right; alike = h.alike }

  pub pointers_later : {s s̃ s₁ s̃₁ : Store} {xs ys : List Ptr} → Grown L.stores s s̃ s₁ s̃₁ → Each (L.pointers s s̃) xs ys → Each (L.pointers s₁ s̃₁) xs ys
  pointers_later g q = each_later (λ a b r. L.later g r) q

  -- rows written in turn
  pub data RowsLike : Store → Store → List Row → List Row → Type 0 where
    no_rows : {s s̃ : Store} → RowsLike s s̃ [] []
    row_then : {s s̃ : Store} {w w̃ : Row} {ws w̃s : List Row} →
        NewRow L.pointers s s̃ w w̃ → RowsLike (put s w).store (put s̃ w̃).store ws w̃s → RowsLike s s̃ (w ∷ ws) (w̃ ∷ w̃s)

  pub put_grown : {s s̃ : Store} {w w̃ : Row} → L.stores s s̃ → NewRow L.pointers s s̃ w w̃ → Grown L.stores s s̃ (put s w).store (put s̃ w̃).store
  put_grown {s} {s̃} a n = record { before = a; left = ext_put s _; right = ext_put s̃ _; alike = L.written a n }

  pub rows_grown : {s s̃ : Store} {ws w̃s : List Row} → L.stores s s̃ → RowsLike s s̃ ws w̃s → Grown L.stores s s̃ (grow s ws) (grow s̃ w̃s)
  unfolding grow
  rows_grown a no_rows = grown_same a
  rows_grown a (row_then n q) = grown_then (put_grown a n) (rows_grown (L.written a n) q)

  -- RESULTS AND HEADS

  pub data ResultLike (s s̃ : Store) : Result → Result → Type 0 where
    opened_like : {b v b̃ ṽ : Ptr} {k l : ℕ} → L.bodies s s̃ b k b̃ l → L.pointers s s̃ v ṽ → ResultLike s s̃ (opened b v k) (opened b̃ ṽ l)
    itself_like : {p p̃ : Ptr} → L.pointers s s̃ p p̃ → ResultLike s s̃ (itself p) (itself p̃)
    number_like : {n : ℕ} → ResultLike s s̃ (a_number n) (a_number n)
    constant_like : {d : ℕ} → ResultLike s s̃ (a_constant d) (a_constant d)

  -- a head's row with its shift: the same variable, or the same kind with what the rules take from it
  pub data HeadLike (s s̃ : Store) : Row → ℕ → Row → ℕ → Type 0 where
    head_var : {i j k l : ℕ} → i + k ≡ j + l → HeadLike s s̃ (var i) k (var j) l
    head_sort : {u k l : ℕ} {x y z x̃ ỹ z̃ : Ptr} → HeadLike s s̃ (node (sort u) x y z) k (node (sort u) x̃ ỹ z̃) l
    head_const : {d n k l : ℕ} {x y z x̃ ỹ z̃ : Ptr} → HeadLike s s̃ (node (const d n) x y z) k (node (const d n) x̃ ỹ z̃) l
    head_app : {k l : ℕ} {x y z x̃ ỹ z̃ : Ptr} → HeadLike s s̃ (node app x y z) k (node app x̃ ỹ z̃) l
    head_lam : {k l : ℕ} {x y z x̃ ỹ z̃ : Ptr} → L.bodies s s̃ y k ỹ l → HeadLike s s̃ (node lam x y z) k (node lam x̃ ỹ z̃) l
    head_pi : {k l : ℕ} {x y z x̃ ỹ z̃ : Ptr} → HeadLike s s̃ (node pi x y z) k (node pi x̃ ỹ z̃) l
    head_let : {k l : ℕ} {x y z x̃ ỹ z̃ : Ptr} →
        L.pointers s s̃ (up s y k) (up s̃ ỹ l) → L.bodies s s̃ z k z̃ l → HeadLike s s̃ (node let' x y z) k (node let' x̃ ỹ z̃) l
    head_proj : {d i k l : ℕ} {x y z x̃ ỹ z̃ : Ptr} → L.pointers s s̃ (up s x k) (up s̃ x̃ l) → HeadLike s s̃ (node (proj d i) x y z) k (node (proj d i) x̃ ỹ z̃) l
    head_num : {n k l : ℕ} {x y z x̃ ỹ z̃ : Ptr} → HeadLike s s̃ (node (num n) x y z) k (node (num n) x̃ ỹ z̃) l

  -- ENVIRONMENTS: what the rules read of them

  pub record RuleLike (s s̃ : Store) (r r̃ : Rule) : Type 0 where
    pub constructor : r.constructor ≡ r̃.constructor
    pub fields : r.fields ≡ r̃.fields
    pub value : L.pointers s s̃ r.value r̃.value

  pub record RecursorLike (s s̃ : Store) (o õ : Recursor) : Type 0 where
    pub parameters : o.parameters ≡ õ.parameters
    pub motives : o.motives ≡ õ.motives
    pub minors : o.minors ≡ õ.minors
    pub indices : o.indices ≡ õ.indices
    pub rules : Each (RuleLike s s̃) o.rules õ.rules

  pub data FormLike (s s̃ : Store) : Form → Form → Type 0 where
    plain_like : FormLike s s̃ plain plain
    constructor_like : {ps fs : ℕ} → FormLike s s̃ (constructor ps fs) (constructor ps fs)
    recursor_like : {o õ : Recursor} → RecursorLike s s̃ o õ → FormLike s s̃ (recursor o) (recursor õ)
    structure_like : {ps c : ℕ} → FormLike s s̃ (structure ps c) (structure ps c)

  pub record DeclLike (s s̃ : Store) (D D̃ : Decl) : Type 0 where
    pub form : FormLike s s̃ D.form D̃.form
    pub levels : D.levels ≡ D̃.levels
    pub value : Opt (L.pointers s s̃) D.value D̃.value
    pub role : D.role ≡ D̃.role

  -- reduction reads no type
  pub record EnvLike (s s̃ : Store) (e ẽ : Env) : Type 0 where
    pub declared : (d : ℕ) → DeclLike s s̃ (decl_at e.decls d) (decl_at ẽ.decls d)
    pub holders : (r : Role) → holder e r ≡ holder ẽ r
    pub values : (i : ℕ) → Opt (L.pointers s s̃) (value_of e i) (value_of ẽ i)

  rule_later : {s s̃ s₁ s̃₁ : Store} → Grown L.stores s s̃ s₁ s̃₁ → (r r̃ : Rule) → RuleLike s s̃ r r̃ → RuleLike s₁ s̃₁ r r̃
  rule_later g r r̃ q = record { constructor = q.constructor; fields = q.fields; value = L.later g q.value }

  pub recursor_later : {s s̃ s₁ s̃₁ : Store} {o õ : Recursor} → Grown L.stores s s̃ s₁ s̃₁ → RecursorLike s s̃ o õ → RecursorLike s₁ s̃₁ o õ
  recursor_later g q = record {
    parameters = q.parameters;
    motives = q.motives;
    minors = q.minors;
    indices = q.indices;
    rules = each_later (rule_later g) q.rules;
  }

  form_later : {s s̃ s₁ s̃₁ : Store} {f f̃ : Form} → Grown L.stores s s̃ s₁ s̃₁ → FormLike s s̃ f f̃ → FormLike s₁ s̃₁ f f̃
  form_later g plain_like = plain_like
  form_later g constructor_like = constructor_like
  form_later g (recursor_like q) = recursor_like (recursor_later g q)
  form_later g structure_like = structure_like

  pub decl_later : {s s̃ s₁ s̃₁ : Store} {D D̃ : Decl} → Grown L.stores s s̃ s₁ s̃₁ → DeclLike s s̃ D D̃ → DeclLike s₁ s̃₁ D D̃
  decl_later g d = record {
    form = form_later g d.form;
    levels = d.levels;
    value = opt_later (λ a b r. L.later g r) d.value;
    role = d.role;
  }

  pub env_later : {s s̃ s₁ s̃₁ : Store} {e ẽ : Env} → Grown L.stores s s̃ s₁ s̃₁ → EnvLike s s̃ e ẽ → EnvLike s₁ s̃₁ e ẽ
  env_later g v = record {
    declared = λ d. decl_later g (v.declared d);
    holders = v.holders;
    values = λ i. opt_later (λ a b r. L.later g r) (v.values i);
  }
