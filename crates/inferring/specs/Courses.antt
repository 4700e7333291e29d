-- What asks come to, and what they demand on the way: families over all asks, no constructor of which names a form. Definitions only.
-- In `Comes e d r` parts are inferred and reductions started at most d levels deep, under at most r new records. Reductions are runs of the tries.
use Rattle.std.specs.Prelude.{ℕ, zero, suc, ◌≤◌, List}
use Rattle.std.proofs.Math.Option.{Option, none, some}
use Rattle.rules.specs.Maxima.{most_level}
use Rattle.rules.specs.Rows.{Ptr, Row, Store}
use Rattle.rules.specs.Declarations.{Decl, Env}
use Rattle.rules.specs.Firings.{Tally, tally}
use Rattle.rules.specs.Refusals.{Demand, step, level}
use Rattle.rules.specs.Inference.{under, Puts, Opens, OfStructure}
use Rattle.rules.specs.InferRefusals.{InferDemand, as_reduction, a_type, a_level, a_record, PutsMeets, OpensMeets}
use Rattle.course.specs.Tries.{Runs, RunMeets}
use Rattle.inferring.specs.Asks.{Ask, answers, untyped, step_then, level_then, writes, opens, reduces, infers, structures, with_record, asks}

mutual
  -- the type of what t points at, by asks
  pub data Types : Env → ℕ → ℕ → Tally → Ptr → Tally → Ptr → Type 0 where
    by_asks : {e : Env} {d r : ℕ} {m m' : Tally} {t p : Ptr} → Comes e d r m (asks e m.store t) m' p → Types e d r m t m' p

  pub data Comes : Env → ℕ → ℕ → Tally → Ask → Tally → Ptr → Type 0 where
    answered : {e : Env} {d r : ℕ} {m : Tally} {p : Ptr} → Comes e d r m (answers p) m p
    stepped : {e : Env} {d r : ℕ} {m m' : Tally} {p : Ptr} {y : Ask} →
        Comes e d r (tally (suc m.steps) m.store) y m' p → Comes e d r m (step_then y) m' p
    leveled : {e : Env} {d r l : ℕ} {m m' : Tally} {p : Ptr} {y : Ask} → l ≤ most_level → Comes e d r m y m' p → Comes e d r m (level_then l y) m' p
    wrote : {e : Env} {d r : ℕ} {m m₁ m' : Tally} {q p : Ptr} {w : Row} {y : Store → Ptr → Ask} →
        Puts m w m₁ q → Comes e d r m₁ (y m₁.store q) m' p → Comes e d r m (writes w y) m' p
    opened : {e : Env} {d r k c : ℕ} {m m₁ m' : Tally} {v : Option Ptr} {b q p : Ptr} {y : Store → Ptr → Ask} →
        Opens m v k c b m₁ q → Comes e d r m₁ (y m₁.store q) m' p → Comes e d r m (opens v k c b y) m' p
    reduced : {e : Env} {d r : ℕ} {m m₁ m' : Tally} {X : Option Ptr} {q q' p : Ptr} {y : Store → Ptr → Ask} →
        Runs (with_record e X) d m q m₁ q' → Comes e (suc d) r m₁ (y m₁.store q') m' p → Comes e (suc d) r m (reduces X q y) m' p
    part : {e : Env} {d r : ℕ} {m m₁ m' : Tally} {q q' p : Ptr} {y : Store → Ptr → Ask} →
        Types e d r m q m₁ q' → Comes e (suc d) r m₁ (y m₁.store q') m' p → Comes e (suc d) r m (infers none q y) m' p
    part_under : {e : Env} {d r : ℕ} {m m₁ m' : Tally} {X q q' p : Ptr} {y : Store → Ptr → Ask} →
        Types (under e X) d r m q m₁ q' → Comes e (suc d) (suc r) m₁ (y m₁.store q') m' p → Comes e (suc d) (suc r) m (infers (some X) q y) m' p
    structured : {e : Env} {d r c n : ℕ} {m m' : Tally} {q p : Ptr} {C : Decl} {ys : List Ptr} {y : ℕ → Decl → List Ptr → Ask} →
        OfStructure e m.store q c n C ys → Comes e d r m (y n C ys) m' p → Comes e d r m (structures q c y) m' p

mutual
  -- inferring t comes to a demand when the tally is m₁
  pub data TypeMeets : Env → ℕ → ℕ → Tally → Ptr → InferDemand → Tally → Type 0 where
    by_asks : {e : Env} {d r : ℕ} {m m₁ : Tally} {t : Ptr} {a : InferDemand} → AskMeets e d r m (asks e m.store t) a m₁ → TypeMeets e d r m t a m₁

  pub data AskMeets : Env → ℕ → ℕ → Tally → Ask → InferDemand → Tally → Type 0 where
    no_type_there : {e : Env} {d r : ℕ} {m : Tally} → AskMeets e d r m untyped a_type m
    its_step : {e : Env} {d r : ℕ} {m : Tally} {y : Ask} → AskMeets e d r m (step_then y) (as_reduction step) m
    after_step : {e : Env} {d r : ℕ} {m m₁ : Tally} {a : InferDemand} {y : Ask} →
        AskMeets e d r (tally (suc m.steps) m.store) y a m₁ → AskMeets e d r m (step_then y) a m₁
    its_level : {e : Env} {d r l : ℕ} {m : Tally} {y : Ask} → AskMeets e d r m (level_then l y) (a_level l) m
    after_level : {e : Env} {d r l : ℕ} {m m₁ : Tally} {a : InferDemand} {y : Ask} →
        l ≤ most_level → AskMeets e d r m y a m₁ → AskMeets e d r m (level_then l y) a m₁
    its_row : {e : Env} {d r : ℕ} {m m₁ : Tally} {a : InferDemand} {w : Row} {y : Store → Ptr → Ask} → PutsMeets m w a m₁ → AskMeets e d r m (writes w y) a m₁
    after_row : {e : Env} {d r : ℕ} {m m₁ m₂ : Tally} {a : InferDemand} {q : Ptr} {w : Row} {y : Store → Ptr → Ask} →
        Puts m w m₁ q → AskMeets e d r m₁ (y m₁.store q) a m₂ → AskMeets e d r m (writes w y) a m₂
    its_rows : {e : Env} {d r k c : ℕ} {m m₁ : Tally} {a : InferDemand} {v : Option Ptr} {b : Ptr} {y : Store → Ptr → Ask} →
        OpensMeets m v k c b a m₁ → AskMeets e d r m (opens v k c b y) a m₁
    after_rows : {e : Env} {d r k c : ℕ} {m m₁ m₂ : Tally} {a : InferDemand} {v : Option Ptr} {b q : Ptr} {y : Store → Ptr → Ask} →
        Opens m v k c b m₁ q → AskMeets e d r m₁ (y m₁.store q) a m₂ → AskMeets e d r m (opens v k c b y) a m₂
    -- a reduction asks for its level first
    too_deep : {e : Env} {r : ℕ} {m : Tally} {X : Option Ptr} {q : Ptr} {y : Store → Ptr → Ask} → AskMeets e zero r m (reduces X q y) (as_reduction level) m
    in_reduction : {e : Env} {d r : ℕ} {m m₁ : Tally} {a : Demand} {X : Option Ptr} {q : Ptr} {y : Store → Ptr → Ask} →
        RunMeets (with_record e X) d m q a m₁ → AskMeets e (suc d) r m (reduces X q y) (as_reduction a) m₁
    after_reduction : {e : Env} {d r : ℕ} {m m₁ m₂ : Tally} {a : InferDemand} {X : Option Ptr} {q q' : Ptr} {y : Store → Ptr → Ask} →
        Runs (with_record e X) d m q m₁ q' → AskMeets e (suc d) r m₁ (y m₁.store q') a m₂ → AskMeets e (suc d) r m (reduces X q y) a m₂
    -- a part asks for its level first ..
    part_too_deep : {e : Env} {r : ℕ} {m : Tally} {q : Ptr} {y : Store → Ptr → Ask} → AskMeets e zero r m (infers none q y) (as_reduction level) m
    in_part : {e : Env} {d r : ℕ} {m m₁ : Tally} {a : InferDemand} {q : Ptr} {y : Store → Ptr → Ask} →
        TypeMeets e d r m q a m₁ → AskMeets e (suc d) r m (infers none q y) a m₁
    after_part : {e : Env} {d r : ℕ} {m m₁ m₂ : Tally} {a : InferDemand} {q q' : Ptr} {y : Store → Ptr → Ask} →
        Types e d r m q m₁ q' → AskMeets e (suc d) r m₁ (y m₁.store q') a m₂ → AskMeets e (suc d) r m (infers none q y) a m₂
    -- .. and under a new record for that before
    its_record : {e : Env} {d : ℕ} {m : Tally} {X q : Ptr} {y : Store → Ptr → Ask} → AskMeets e d zero m (infers (some X) q y) a_record m
    under_too_deep : {e : Env} {r : ℕ} {m : Tally} {X q : Ptr} {y : Store → Ptr → Ask} → AskMeets e zero (suc r) m (infers (some X) q y) (as_reduction level) m
    in_part_under : {e : Env} {d r : ℕ} {m m₁ : Tally} {a : InferDemand} {X q : Ptr} {y : Store → Ptr → Ask} →
        TypeMeets (under e X) d r m q a m₁ → AskMeets e (suc d) (suc r) m (infers (some X) q y) a m₁
    after_part_under : {e : Env} {d r : ℕ} {m m₁ m₂ : Tally} {a : InferDemand} {X q q' : Ptr} {y : Store → Ptr → Ask} →
        Types (under e X) d r m q m₁ q' → AskMeets e (suc d) (suc r) m₁ (y m₁.store q') a m₂ → AskMeets e (suc d) (suc r) m (infers (some X) q y) a m₂
    no_structure_there : {e : Env} {d r c : ℕ} {m : Tally} {q : Ptr} {y : ℕ → Decl → List Ptr → Ask} →
        ((n : ℕ) (C : Decl) (ys : List Ptr) → OfStructure e m.store q c n C ys → ⊥) → AskMeets e d r m (structures q c y) a_type m
    after_structure : {e : Env} {d r c n : ℕ} {m m₁ : Tally} {a : InferDemand} {q : Ptr} {C : Decl} {ys : List Ptr} {y : ℕ → Decl → List Ptr → Ask} →
        OfStructure e m.store q c n C ys → AskMeets e d r m (y n C ys) a m₁ → AskMeets e d r m (structures q c y) a m₁
