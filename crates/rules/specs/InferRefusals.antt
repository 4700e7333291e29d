-- Refusals 4 to 11 of inference: the demand that its own course comes to first and the limits cannot meet. No budget stands in `InferMeets`.
use Rattle.std.specs.Prelude.{ℕ, zero, suc, ◌+◌, ◌≤◌, ◌<◌, ◌≡◌, Bool, true, false, List, [], ◌∷◌}
use Rattle.std.proofs.Math.Option.{Option, none, some}
use Rattle.rules.specs.Maxima.{most_level}
use Rattle.rules.specs.Kinds.{sort, const, app, lam, pi, let', proj, num}
use Rattle.rules.specs.Rows.{Ptr, blank, Row, var, node, leaf, Cell, Store, row_at, bound, up, Got, put}
use Rattle.rules.specs.Declarations.{nat, Decl, Env, decl_at, holder}
use Rattle.rules.specs.Replacement.{Replaces}
use Rattle.rules.specs.Firings.{Tally, tally, opened, Pays}
use Rattle.rules.specs.Refusals.{Demand, step, row, level, RowDue, Asks, SideMeets, Limits, Within, Fails}
use Rattle.rules.specs.Inference.{type_of, under, imax, Puts, Opens, Body, Reduced, ToSort, ToPi, OfStructure}
use Rattle.rules.specs.Inference.{Infers, Part, IsProp, Parameters, Earlier, Allowed}

-- what a course of inference asks for: what a reduction asks for; a form that has a type; a sort's level; a spare record
pub data InferDemand : Type 0 where
  as_reduction : Demand → InferDemand
  a_type : InferDemand
  a_level : ℕ → InferDemand
  a_record : InferDemand

-- WHAT IS WRITTEN: each due row in turn

pub data PutsMeets (m : Tally) (w : Row) : InferDemand → Tally → Type 0 where
  its_row : {g : Got} {x : Cell} {now : Store} {m₁ : Tally} →
      put m.store w ≡ g → RowDue m.store g.store x now → tally m.steps now ≡ m₁ → PutsMeets m w (as_reduction (row x)) m₁

pub data OpensMeets (m : Tally) (v : Option Ptr) (k c : ℕ) (b : Ptr) : InferDemand → Tally → Type 0 where
  its_row : {g : Got} {x : Cell} {now : Store} {m₁ : Tally} →
      Replaces v k c m.store b g → RowDue m.store g.store x now → tally m.steps now ≡ m₁ → OpensMeets m v k c b (as_reduction (row x)) m₁

pub data BodyMeets (m : Tally) (b : Ptr) : ℕ → InferDemand → Tally → Type 0 where
  in_move : {s : ℕ} {a : InferDemand} {m₁ : Tally} → OpensMeets m none (suc s) 1 b a m₁ → BodyMeets m b (suc s) a m₁

-- REDUCTIONS THAT INFERENCE STARTS

-- no sort is 9
pub data SortMeets (e : Env) (d : ℕ) (m : Tally) (p : Ptr) : InferDemand → Tally → Type 0 where
  in_reduction : {a : Demand} {m₁ : Tally} → SideMeets e d m p a m₁ → SortMeets e d m p (as_reduction a) m₁
  no_sort : {m₁ : Tally} {q : Ptr} → Reduced e d m p m₁ q →
      ((l : ℕ) (x y z : Ptr) → row_at m₁.store q.row ≡ node (sort l) x y z → ⊥) → SortMeets e d m p a_type m₁

-- no pi is 9
pub data PiMeets (e : Env) (d : ℕ) (m : Tally) (p : Ptr) : InferDemand → Tally → Type 0 where
  in_reduction : {a : Demand} {m₁ : Tally} → SideMeets e d m p a m₁ → PiMeets e d m p (as_reduction a) m₁
  no_pi : {m₁ : Tally} {q : Ptr} → Reduced e d m p m₁ q →
      ((x b z : Ptr) → row_at m₁.store q.row ≡ node pi x b z → ⊥) → PiMeets e d m p a_type m₁

mutual
  pub data InferMeets : Env → ℕ → ℕ → Tally → Ptr → InferDemand → Tally → Type 0 where
    -- "A row with level over 255 gives 10 before 8."
    sort_level : {e : Env} {d r l : ℕ} {m : Tally} {t x y z : Ptr} → row_at m.store t.row ≡ node (sort l) x y z → InferMeets e d r m t (a_level (suc l)) m
    sort_row : {e : Env} {d r l : ℕ} {m m₁ : Tally} {t x y z : Ptr} {a : InferDemand} →
        row_at m.store t.row ≡ node (sort l) x y z → suc l ≤ most_level → PutsMeets m (leaf (sort (suc l))) a m₁ → InferMeets e d r m t a m₁
    counts_differ : {e : Env} {d r c n : ℕ} {m : Tally} {t x y z : Ptr} →
        row_at m.store t.row ≡ node (const c n) x y z → ((decl_at e.decls c).levels ≡ n → ⊥) → InferMeets e d r m t a_type m
    no_record : {e : Env} {d r i : ℕ} {m : Tally} {t : Ptr} →
        row_at m.store t.row ≡ var i → type_of e (i + t.shift) ≡ none → InferMeets e d r m t a_type m
    no_nat : {e : Env} {d r n : ℕ} {m : Tally} {t x y z : Ptr} →
        row_at m.store t.row ≡ node (num n) x y z → holder e nat ≡ none → InferMeets e d r m t a_type m
    nat_row : {e : Env} {d r n c : ℕ} {m m₁ : Tally} {t x y z : Ptr} {a : InferDemand} →
        row_at m.store t.row ≡ node (num n) x y z → holder e nat ≡ some c → PutsMeets m (leaf (const c 0)) a m₁ → InferMeets e d r m t a m₁
    -- an application
    in_function : {e : Env} {d r : ℕ} {m m₁ : Tally} {t f x z : Ptr} {a : InferDemand} →
        row_at m.store t.row ≡ node app f x z → PartMeets e d r m (up m.store f t.shift) a m₁ → InferMeets e d r m t a m₁
    in_function_type : {e : Env} {d r : ℕ} {m m₁ m₂ : Tally} {t f x z T : Ptr} {a : InferDemand} →
        row_at m.store t.row ≡ node app f x z → Part e d r m (up m.store f t.shift) m₁ T → PiMeets e d m₁ T a m₂ → InferMeets e d r m t a m₂
    in_argument : {e : Env} {d r k : ℕ} {m m₁ m₂ m₃ : Tally} {t f v z T x b : Ptr} {a : InferDemand} →
        row_at m.store t.row ≡ node app f v z → Part e d r m (up m.store f t.shift) m₁ T → ToPi e d m₁ T m₂ x b k →
        OpensMeets m₂ (some (up m.store v t.shift)) k 0 b a m₃ → InferMeets e d r m t a m₃
    -- a lambda: its body's rows, "then the record is made (11), then the level entered (6)", then the pi's row
    in_body : {e : Env} {d r : ℕ} {m m₁ : Tally} {t x b z : Ptr} {a : InferDemand} →
        row_at m.store t.row ≡ node lam x b z → UnderMeets e d r m (up m.store x t.shift) b t.shift a m₁ → InferMeets e d r m t a m₁
    pi_row : {e : Env} {d r : ℕ} {m m₁ m₂ m₃ : Tally} {t x b z X b₁ B : Ptr} {a : InferDemand} →
        row_at m.store t.row ≡ node lam x b z → up m.store x t.shift ≡ X → Body m b t.shift m₁ b₁ →
        Part (under e X) d r m₁ b₁ m₂ B → PutsMeets m₂ (node pi X B blank) a m₃ → InferMeets e d (suc r) m t a m₃
    -- a pi
    in_type : {e : Env} {d r : ℕ} {m m₁ : Tally} {t x b z : Ptr} {a : InferDemand} →
        row_at m.store t.row ≡ node pi x b z → PartMeets e d r m (up m.store x t.shift) a m₁ → InferMeets e d r m t a m₁
    in_sort : {e : Env} {d r : ℕ} {m m₁ m₂ : Tally} {t x b z T : Ptr} {a : InferDemand} →
        row_at m.store t.row ≡ node pi x b z → Part e d r m (up m.store x t.shift) m₁ T → SortMeets e d m₁ T a m₂ → InferMeets e d r m t a m₂
    in_pi_body : {e : Env} {d r u : ℕ} {m m₁ m₂ m₃ : Tally} {t x b z T : Ptr} {a : InferDemand} →
        row_at m.store t.row ≡ node pi x b z → Part e d r m (up m.store x t.shift) m₁ T → ToSort e d m₁ T m₂ u →
        UnderMeets e d r m₂ (up m.store x t.shift) b t.shift a m₃ → InferMeets e d r m t a m₃
    in_body_sort : {e : Env} {d r u : ℕ} {m m₁ m₂ m₃ m₄ m₅ : Tally} {t x b z X T b₁ B : Ptr} {a : InferDemand} →
        row_at m.store t.row ≡ node pi x b z → up m.store x t.shift ≡ X → Part e d (suc r) m X m₁ T → ToSort e d m₁ T m₂ u →
        Body m₂ b t.shift m₃ b₁ → Part (under e X) d r m₃ b₁ m₄ B → SortMeets (under e X) d m₄ B a m₅ → InferMeets e d (suc r) m t a m₅
    imax_row : {e : Env} {d r u v : ℕ} {m m₁ m₂ m₃ m₄ m₅ m₆ : Tally} {t x b z X T b₁ B : Ptr} {a : InferDemand} →
        row_at m.store t.row ≡ node pi x b z → up m.store x t.shift ≡ X → Part e d (suc r) m X m₁ T → ToSort e d m₁ T m₂ u →
        Body m₂ b t.shift m₃ b₁ → Part (under e X) d r m₃ b₁ m₄ B → ToSort (under e X) d m₄ B m₅ v →
        PutsMeets m₅ (leaf (sort (imax u v))) a m₆ → InferMeets e d (suc r) m t a m₆
    -- a let: its step, its rows, then the level
    in_value : {e : Env} {d r : ℕ} {m m₁ : Tally} {t x v b : Ptr} {a : Demand} →
        row_at m.store t.row ≡ node let' x v b → Asks m (opened b (up m.store v t.shift) t.shift) [] a m₁ → InferMeets e d r m t (as_reduction a) m₁
    in_result : {e : Env} {d r : ℕ} {m m₁ m₂ : Tally} {t x v b t₁ : Ptr} {a : InferDemand} →
        row_at m.store t.row ≡ node let' x v b → Pays m (opened b (up m.store v t.shift) t.shift) [] m₁ t₁ →
        PartMeets e d r m₁ t₁ a m₂ → InferMeets e d r m t a m₂
    -- a projection
    in_structure : {e : Env} {d r c i : ℕ} {m m₁ : Tally} {t v y z : Ptr} {a : InferDemand} →
        row_at m.store t.row ≡ node (proj c i) v y z → PartMeets e d r m (up m.store v t.shift) a m₁ → InferMeets e d r m t a m₁
    after_structure : {e : Env} {d r c i : ℕ} {m m₁ m₂ : Tally} {t v y z X S : Ptr} {a : InferDemand} →
        row_at m.store t.row ≡ node (proj c i) v y z → up m.store v t.shift ≡ X → Part e d r m X m₁ S → FieldMeets e d r m₁ c i X S a m₂ → InferMeets e d r m t a m₂

  -- a part asks for its level first
  pub data PartMeets : Env → ℕ → ℕ → Tally → Ptr → InferDemand → Tally → Type 0 where
    its_level : {e : Env} {r : ℕ} {m : Tally} {t : Ptr} → PartMeets e zero r m t (as_reduction level) m
    within : {e : Env} {d r : ℕ} {m m₁ : Tally} {t : Ptr} {a : InferDemand} → InferMeets e d r m t a m₁ → PartMeets e (suc d) r m t a m₁

  -- a binder's body b under a new record of type X
  pub data UnderMeets : Env → ℕ → ℕ → Tally → Ptr → Ptr → ℕ → InferDemand → Tally → Type 0 where
    its_rows : {e : Env} {d r s : ℕ} {m m₁ : Tally} {X b : Ptr} {a : InferDemand} → BodyMeets m b s a m₁ → UnderMeets e d r m X b s a m₁
    its_record : {e : Env} {d s : ℕ} {m m₁ : Tally} {X b b₁ : Ptr} → Body m b s m₁ b₁ → UnderMeets e d zero m X b s a_record m₁
    its_part : {e : Env} {d r s : ℕ} {m m₁ m₂ : Tally} {X b b₁ : Ptr} {a : InferDemand} →
        Body m b s m₁ b₁ → PartMeets (under e X) d r m₁ b₁ a m₂ → UnderMeets e d (suc r) m X b s a m₂

  -- the question: its step is taken first
  pub data PropMeets : Env → ℕ → ℕ → Tally → Ptr → InferDemand → Tally → Type 0 where
    its_step : {e : Env} {d r : ℕ} {m : Tally} {p : Ptr} → PropMeets e d r m p (as_reduction step) m
    its_type : {e : Env} {d r : ℕ} {m m₁ : Tally} {p : Ptr} {a : InferDemand} → PartMeets e d r (tally (suc m.steps) m.store) p a m₁ → PropMeets e d r m p a m₁
    its_sort : {e : Env} {d r : ℕ} {m m₁ m₂ : Tally} {p T : Ptr} {a : InferDemand} →
        Part e d r (tally (suc m.steps) m.store) p m₁ T → SortMeets e d m₁ T a m₂ → PropMeets e d r m p a m₂

  -- field i of the structure X, whose type is S
  pub data FieldMeets : Env → ℕ → ℕ → Tally → ℕ → ℕ → Ptr → Ptr → InferDemand → Tally → Type 0 where
    in_reduction : {e : Env} {d r c i : ℕ} {m m₁ : Tally} {X S : Ptr} {a : Demand} → SideMeets e d m S a m₁ → FieldMeets e d r m c i X S (as_reduction a) m₁
    in_question : {e : Env} {d r c i : ℕ} {m m₁ m₂ : Tally} {X S S₁ : Ptr} {a : InferDemand} →
        Reduced e d m S m₁ S₁ → PropMeets e d r m₁ S₁ a m₂ → FieldMeets e d r m c i X S a m₂
    no_structure : {e : Env} {d r c i : ℕ} {q : Bool} {m m₁ m₂ : Tally} {X S S₁ : Ptr} →
        Reduced e d m S m₁ S₁ → IsProp e d r m₁ S₁ m₂ q → ((n : ℕ) (C : Decl) (ys : List Ptr) → OfStructure e m₂.store S₁ c n C ys → ⊥) →
        FieldMeets e d r m c i X S a_type m₂
    in_parameters : {e : Env} {d r c i n : ℕ} {q : Bool} {m m₁ m₂ m₃ : Tally} {X S S₁ : Ptr} {C : Decl} {ys : List Ptr} {a : InferDemand} →
        Reduced e d m S m₁ S₁ → IsProp e d r m₁ S₁ m₂ q → OfStructure e m₂.store S₁ c n C ys → ParametersMeet e d r m₂ C.type n ys a m₃ →
        FieldMeets e d r m c i X S a m₃
    in_earlier : {e : Env} {d r c i n : ℕ} {q : Bool} {m m₁ m₂ m₃ m₄ : Tally} {X S S₁ W : Ptr} {C : Decl} {ys : List Ptr} {a : InferDemand} →
        Reduced e d m S m₁ S₁ → IsProp e d r m₁ S₁ m₂ q → OfStructure e m₂.store S₁ c n C ys → Parameters e d r m₂ C.type n ys m₃ W →
        EarlierMeet e d r m₃ W c X q zero i a m₄ → FieldMeets e d r m c i X S a m₄
    in_chosen : {e : Env} {d r c i n : ℕ} {q : Bool} {m m₁ m₂ m₃ m₄ m₅ : Tally} {X S S₁ W F : Ptr} {C : Decl} {ys : List Ptr} {a : InferDemand} →
        Reduced e d m S m₁ S₁ → IsProp e d r m₁ S₁ m₂ q → OfStructure e m₂.store S₁ c n C ys → Parameters e d r m₂ C.type n ys m₃ W →
        Earlier e d r m₃ W c X q zero i m₄ F → PiMeets e d m₄ F a m₅ → FieldMeets e d r m c i X S a m₅
    not_allowed : {e : Env} {d r c i n k : ℕ} {q : Bool} {m m₁ m₂ m₃ m₄ m₅ m₆ : Tally} {X S S₁ W F x b : Ptr} {C : Decl} {ys : List Ptr} {a : InferDemand} →
        Reduced e d m S m₁ S₁ → IsProp e d r m₁ S₁ m₂ q → OfStructure e m₂.store S₁ c n C ys → Parameters e d r m₂ C.type n ys m₃ W →
        Earlier e d r m₃ W c X q zero i m₄ F → ToPi e d m₄ F m₅ x b k → AllowedMeets e d r m₅ (up m₅.store x k) q a m₆ → FieldMeets e d r m c i X S a m₆

  -- "reduced before each parameter"; an argument that is missing is 9, after that
  pub data ParametersMeet : Env → ℕ → ℕ → Tally → Ptr → ℕ → List Ptr → InferDemand → Tally → Type 0 where
    in_pi : {e : Env} {d r n : ℕ} {m m₁ : Tally} {W : Ptr} {ys : List Ptr} {a : InferDemand} → PiMeets e d m W a m₁ → ParametersMeet e d r m W (suc n) ys a m₁
    no_argument : {e : Env} {d r n k : ℕ} {m m₁ : Tally} {W x b : Ptr} → ToPi e d m W m₁ x b k → ParametersMeet e d r m W (suc n) [] a_type m₁
    argument_rows : {e : Env} {d r n k : ℕ} {m m₁ m₂ : Tally} {W x b v : Ptr} {ys : List Ptr} {a : InferDemand} →
        ToPi e d m W m₁ x b k → OpensMeets m₁ (some v) k 0 b a m₂ → ParametersMeet e d r m W (suc n) (v ∷ ys) a m₂
    later : {e : Env} {d r n k : ℕ} {m m₁ m₂ m₃ : Tally} {W x b v W₁ : Ptr} {ys : List Ptr} {a : InferDemand} →
        ToPi e d m W m₁ x b k → Opens m₁ (some v) k 0 b m₂ W₁ → ParametersMeet e d r m₂ W₁ n ys a m₃ → ParametersMeet e d r m W (suc n) (v ∷ ys) a m₃

  pub data EarlierMeet : Env → ℕ → ℕ → Tally → Ptr → ℕ → Ptr → Bool → ℕ → ℕ → InferDemand → Tally → Type 0 where
    in_field : {e : Env} {d r c j n : ℕ} {q : Bool} {m m₁ : Tally} {W X : Ptr} {a : InferDemand} → PiMeets e d m W a m₁ → EarlierMeet e d r m W c X q j (suc n) a m₁
    after_unused : {e : Env} {d r c j n k : ℕ} {q : Bool} {m m₁ m₂ : Tally} {W X x b : Ptr} {a : InferDemand} →
        ToPi e d m W m₁ x b k → bound m₁.store b ≡ 0 → EarlierMeet e d r m₁ b c X q (suc j) n a m₂ → EarlierMeet e d r m W c X q j (suc n) a m₂
    its_question : {e : Env} {d r c j n k : ℕ} {q : Bool} {m m₁ m₂ : Tally} {W X x b : Ptr} {a : InferDemand} →
        ToPi e d m W m₁ x b k → 0 < bound m₁.store b → AllowedMeets e d r m₁ (up m₁.store x k) q a m₂ → EarlierMeet e d r m W c X q j (suc n) a m₂
    its_projection : {e : Env} {d r c j n k : ℕ} {q : Bool} {m m₁ m₂ m₃ : Tally} {W X x b : Ptr} {a : InferDemand} →
        ToPi e d m W m₁ x b k → 0 < bound m₁.store b → Allowed e d r m₁ (up m₁.store x k) q m₂ →
        PutsMeets m₂ (node (proj c j) X blank blank) a m₃ → EarlierMeet e d r m W c X q j (suc n) a m₃
    replaced_in : {e : Env} {d r c j n k : ℕ} {q : Bool} {m m₁ m₂ m₃ m₄ : Tally} {W X x b f : Ptr} {a : InferDemand} →
        ToPi e d m W m₁ x b k → 0 < bound m₁.store b → Allowed e d r m₁ (up m₁.store x k) q m₂ →
        Puts m₂ (node (proj c j) X blank blank) m₃ f → OpensMeets m₃ (some f) k 0 b a m₄ → EarlierMeet e d r m W c X q j (suc n) a m₄
    after_used : {e : Env} {d r c j n k : ℕ} {q : Bool} {m m₁ m₂ m₃ m₄ m₅ : Tally} {W X x b f W₁ : Ptr} {a : InferDemand} →
        ToPi e d m W m₁ x b k → 0 < bound m₁.store b → Allowed e d r m₁ (up m₁.store x k) q m₂ →
        Puts m₂ (node (proj c j) X blank blank) m₃ f → Opens m₃ (some f) k 0 b m₄ W₁ → EarlierMeet e d r m₄ W₁ c X q (suc j) n a m₅ →
        EarlierMeet e d r m W c X q j (suc n) a m₅

  pub data AllowedMeets : Env → ℕ → ℕ → Tally → Ptr → Bool → InferDemand → Tally → Type 0 where
    in_asking : {e : Env} {d r : ℕ} {m m₁ : Tally} {p : Ptr} {a : InferDemand} → PropMeets e d r m p a m₁ → AllowedMeets e d r m p true a m₁
    no_proposition : {e : Env} {d r : ℕ} {m m₁ : Tally} {p : Ptr} → IsProp e d r m p m₁ false → AllowedMeets e d r m p true a_type m₁

-- 9 to 11; "A row with level over 255 gives 10"
pub data InferFails (lim : Limits) (m : Tally) : InferDemand → ℕ → Type 0 where
  as_reduction_fails : {a : Demand} {n : ℕ} → Fails lim m a n → InferFails lim m (as_reduction a) n
  no_type : InferFails lim m a_type 9
  too_high : {l : ℕ} → most_level < l → InferFails lim m (a_level l) 10
  no_spare_record : InferFails lim m a_record 11

-- with `spare` records lent past the depth
pub record InferRefused (e : Env) (lim : Limits) (nesting spare : ℕ) (s : Store) (t : Ptr) (number : ℕ) : Type 0 where
  pub demand : InferDemand
  pub at : Tally
  pub meets : InferMeets e nesting spare (tally 0 s) t demand at
  pub within : Within lim at
  pub fails : InferFails lim at demand number

-- the rules give t the type p within the limits, with these steps and rows
pub record InferAnswered (e : Env) (lim : Limits) (nesting spare : ℕ) (s : Store) (t : Ptr) (p : Ptr) (steps : ℕ) (s' : Store) : Type 0 where
  pub infers : Infers e nesting spare (tally 0 s) t (tally steps s') p
  pub within : Within lim (tally steps s')
