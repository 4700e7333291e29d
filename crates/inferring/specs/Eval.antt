-- Inference as a computation: nesting outside, the asks of a form inside. Rows are charged as in reduction (8, then 5, each due row in turn); a step
-- is 4, a level 6, no type 9, a sort's level 10, a record 11. `lost` is for rows whose recorded height is too small, as in course/Eval.
use Rattle.std.specs.Prelude.{ℕ, zero, suc, List}
use Rattle.std.proofs.Math.Option.{Option, none, some}
use Rattle.rules.specs.Maxima.{most_level}
use Rattle.rules.specs.Rows.{Ptr, Row, Store, cell_at, row_at, Got, put}
use Rattle.rules.specs.Declarations.{Decl, Env, decl_at}
use Rattle.rules.specs.Firings.{Tally, tally}
use Rattle.rules.specs.Refusals.{Limits}
use Rattle.rules.specs.Inference.{under}
use Rattle.course.specs.Views.{Cmp, up_to, over, cmp}
use Rattle.course.specs.Eval.{replace_by, Spined, spine, Res, ok, no, lost, Side, charge, side_at}
use Rattle.inferring.specs.Views.{StructureView, the_structure, no_structure, structure_view}
use Rattle.inferring.specs.Asks.{Ask, answers, untyped, step_then, level_then, writes, opens, reduces, infers, structures, with_record, asks}

-- the type of a part: in this environment, with so many spare records
abbrev pub Part : Type 0
Part = Env → ℕ → Side

-- a reduction's answer, or a part's, and what follows it
abbrev pub then_on : Side → Res → Res
then_on next (ok m p) = next m p
then_on next (no k) = no k
then_on next lost = lost

-- a step is due and none is left: 4
abbrev pub step_on : {a b : ℕ} → Cmp a b → Res → Res
step_on (up_to h) o = no 4
step_on (over h) o = o

-- a level over 255: 10
abbrev pub level_on : {a b : ℕ} → Cmp a b → Res → Res
level_on (up_to h) o = o
level_on (over h) o = no 10

-- the rows of g have been charged
abbrev pub charged_on : Side → Tally → Got → Option ℕ → Res
charged_on next m g none = next (tally m.steps g.store) g.at
charged_on next m g (some k) = no k

abbrev pub opened_on : Limits → Side → Tally → Option Got → Res
opened_on lim next m none = lost
opened_on lim next m (some g) = charged_on next m g (charge lim m.store g.store)

-- the head is the named structure, or there is no type: 9
abbrev pub structure_on : {e : Env} {c : ℕ} {w : Row} → (ℕ → Decl → Res) → StructureView e c w → Res
structure_on {e} next (the_structure n i q) = next n (decl_at e.decls i)
structure_on next (no_structure h) = no 9

abbrev pub head_on : (e : Env) (c : ℕ) → (ℕ → Decl → List Ptr → Res) → Store → Option Spined → Res
head_on e c next s none = lost
head_on e c next s (some h) = structure_on (λ n C. next n C h.arguments) (structure_view e c (row_at s h.head.row))

-- a part under a new record, which must be spare: 11
abbrev pub part_on : Env → Part → Option Ptr → ℕ → Side
part_on e part none r m q = part e r m q
part_on e part (some X) zero m q = no 11
part_on e part (some X) (suc r) m q = part (under e X) r m q

module _ (lim : Limits) (e : Env) (side : Env → Side) (part : Part) (r : ℕ) where
  unfoldable pub run : Ask → Tally → Res
  run (answers p) m = ok m p
  run untyped m = no 9
  run (step_then y) m = step_on (cmp lim.steps m.steps) (run y (tally (suc m.steps) m.store))
  run (level_then l y) m = level_on (cmp l most_level) (run y m)
  run (writes w y) m = charged_on (λ m₁ p. run (y m₁.store p) m₁) m (put m.store w) (charge lim m.store (put m.store w).store)
  run (opens v k c b y) m = opened_on lim (λ m₁ p. run (y m₁.store p) m₁) m (replace_by v k (cell_at m.store b.row).height c m.store b)
  run (reduces X q y) m = then_on (λ m₁ p. run (y m₁.store p) m₁) (side (with_record e X) m q)
  run (infers X q y) m = then_on (λ m₁ p. run (y m₁.store p) m₁) (part_on e part X r m q)
  run (structures q c y) m = head_on e c (λ n C ys. run (y n C ys) m) m.store (spine m.store q)

-- the type of a part, with d levels left: 6 where there is none
unfoldable pub type_at : Limits → ℕ → Part
type_at lim zero e r m t = no 6
type_at lim (suc d) e r m t = run lim e (λ e'. side_at e' lim d) (λ e' r' m' t'. type_at lim d e' r' m' t') r (asks e m.store t) m

-- the whole, the outermost level being level 0
unfoldable pub infer_eval : Env → Limits → ℕ → ℕ → Store → Ptr → Res
infer_eval e lim nesting spare s t = type_at lim (suc nesting) e spare (tally 0 s) t
