-- The evaluator says what the asks say: on a type, that they come to it within the limits, in scope over the old rows; on a refusal, that they come to
-- this demand within the limits, and that the demand fails them with this number. It is never lost. Assumes `Typed`, a term in scope, and room.
use Rattle.std.specs.Prelude.{ℕ, zero, suc, ◌≤◌, ◌≡◌, length}
use Rattle.std.proofs.Common.{le_refl, sym, ap, ◌∙◌, subst}
use Rattle.std.proofs.Math.Path.{refl}
use mathlib.Core.List.{List, []}
use Rattle.std.proofs.Math.Option.{Option, none, some}
use Rattle.rules.specs.Maxima.{most_level}
use Rattle.rules.specs.Rows.{Ptr, Row, Cell, Store, cell_at, row_at, cell, Got, put}
use Rattle.rules.specs.RowCheck.{AllPass, InScope}
use Rattle.rules.specs.Declarations.{Decl, Env, decl_at}
use Rattle.rules.specs.Accepted.{Closed}
use Rattle.rules.specs.Replacement.{Replaces}
use Rattle.rules.specs.Spines.{Spine}
use Rattle.rules.specs.Firings.{Tally, tally, Written}
use Rattle.rules.specs.Refusals.{row, RowDue, Limits, Within, no_step, no_level}
use Rattle.rules.specs.Inference.{under, Puts, Opens, OfStructure}
use Rattle.rules.specs.InferRefusals.{InferDemand, as_reduction, InferFails, as_reduction_fails, no_type, too_high, no_spare_record}
use Rattle.rules.specs.InferRefusals as F
use Rattle.course.specs.Views.{Cmp, up_to, over, cmp}
use Rattle.course.specs.Eval.{replace_by, Spined, spine, Res, ok, no, Side, side_at}
use Rattle.substitution.specs.Stores.{FieldsOk, Good, scope_good, Ext, ext_same, ext_then, ext_put, put_formed}
use Rattle.substitution.specs.Passing.{Worded, pass_formed, pass_worded, pass_sized, all_pass, put_worded, written_sized}
use Rattle.substitution.specs.Existence.{ValueGood, some_good, none_good}
use Rattle.substitution.specs.Paid.{replace_pass}
use Rattle.promises.specs.Stores.{ext_replaces}
use Rattle.promises.specs.Lost.{no_head}
use Rattle.promises.specs.Same.{spine_same}
use Rattle.promises.specs.SaysRows.{All, nothing, just, IsSpine, spine_says, replace_says}
use Rattle.promises.specs.SaysCharge.{ChargeSays, c_all, c_no, charge_says}
use Rattle.promises.specs.Says.{r_ok, r_no, r_lost, SideSays, no_level_left, a_level_left, side_says}
use Rattle.safety.specs.Sane.{depth_of, decl_count}
use Rattle.safety.specs.Scope.{AllIn, none_in, spine_in}
use Rattle.safety.specs.Keeps.{runs_keep}
use Rattle.safety.specs.NeverLost.{Found, found, reaches, run_never_lost}
use Rattle.inferring.specs.Views.{IsStructure, StructureView, the_structure, no_structure, structure_view}
use Rattle.inferring.specs.Asks.{Ask, answers, untyped, step_then, level_then, writes, opens, reduces, infers, structures, with_record, asks}
use Rattle.inferring.specs.Eval.{Part, then_on, step_on, level_on, charged_on, opened_on, structure_on, head_on, part_on, run, type_at}
use Rattle.inferring.specs.Courses.{Comes, answered, stepped, leveled, wrote, opened, reduced, part, part_under, structured, AskMeets}
use Rattle.inferring.specs.Courses as C
use Rattle.inferring.specs.Typed.{Typed, typed_later, RecordIn, no_record, a_record, typed_with, same_count, typed_under}
use Rattle.inferring.specs.Scope.{opened_scope, moved_scope}
use Rattle.inferring.specs.Safe.{OpensIn, value_opened, body_moved, Safe, safe_answers, safe_untyped, safe_step, safe_level, safe_writes, safe_opens}
use Rattle.inferring.specs.Safe.{safe_reduces, safe_infers, safe_structures}
use Rattle.inferring.specs.SafeForms.{asks_safe}

-- from s on, rows that pass and a pointer in scope at n
pub record Stands (D n : ℕ) (s s' : Store) (p : Ptr) : Type 0 where
  pub more : Ext s s'
  pub pass : AllPass D s'
  pub scope : InScope s' n p

module _ (lim : Limits) where
  pub data Says (e : Env) (d r : ℕ) (m : Tally) (y : Ask) : Res → Type 0 where
    s_ok : {m' : Tally} {p : Ptr} → Comes e d r m y m' p → Within lim m' → Stands (decl_count e) (depth_of e) m.store m'.store p → Says e d r m y (ok m' p)
    s_no : {m₁ : Tally} {a : InferDemand} {k : ℕ} → AskMeets e d r m y a m₁ → Within lim m₁ → InferFails lim m₁ a k → Says e d r m y (no k)

  -- of a part: it needs a level
  pub data PartSays (e : Env) : ℕ → ℕ → Tally → Ptr → Res → Type 0 where
    no_level_there : {r : ℕ} {m : Tally} {t : Ptr} → PartSays e zero r m t (no 6)
    a_level_there : {d r : ℕ} {m : Tally} {t : Ptr} {o : Res} → Says e d r m (asks e m.store t) o → PartSays e (suc d) r m t o

  -- what is said of the rest is said of the whole
  says_after : {e : Env} {d r : ℕ} {m m₁ : Tally} {y z : Ask} {o : Res} → Ext m.store m₁.store →
      ((m' : Tally) (p : Ptr) → Comes e d r m₁ z m' p → Comes e d r m y m' p) →
      ((a : InferDemand) (m₂ : Tally) → AskMeets e d r m₁ z a m₂ → AskMeets e d r m y a m₂) → Says e d r m₁ z o → Says e d r m y o
  says_after x f g (s_ok c v k) = s_ok (f _ _ c) v (record { more = ext_then x k.more; pass = k.pass; scope = k.scope })
  says_after x f g (s_no c v h) = s_no (g _ _ c) v h

-- WHAT A REPLACEMENT NEEDS AND LEAVES

opens_good : {s : Store} {n k c : ℕ} {v : Option Ptr} {b : Ptr} → OpensIn s n v k c b → Good s b
opens_good (value_opened h i) = h.good
opens_good (body_moved h) = h.good

opens_value : {s : Store} {n k c : ℕ} {v : Option Ptr} {b : Ptr} → OpensIn s n v k c b → ValueGood s v
opens_value (value_opened h i) = some_good (scope_good i)
opens_value (body_moved h) = none_good

opens_scope : {D : ℕ} {s : Store} {n k c : ℕ} {v : Option Ptr} {b : Ptr} {g : Got} → AllPass D s → OpensIn s n v k c b → Replaces v k c s b g →
    InScope g.store n g.at
opens_scope a (value_opened h i) q = opened_scope (pass_formed a) h i q
opens_scope a (body_moved h) q = moved_scope (pass_formed a) h q

pub opens_found : {D : ℕ} {s : Store} {n k c : ℕ} {v : Option Ptr} {b : Ptr} → AllPass D s → OpensIn s n v k c b →
    Found (replace_by v k (cell_at s b.row).height c s b)
opens_found {s = s} {k = k} {c = c} {v = v} {b = b} a i =
    (reaches v k (cell_at s b.row).height).at c s b (pass_formed a) (opens_good i) (opens_value i) (le_refl _)

pub opens_stand : {D : ℕ} {s : Store} {n k c : ℕ} {v : Option Ptr} {b : Ptr} {g : Got} → AllPass D s → OpensIn s n v k c b → Replaces v k c s b g →
    Written s g.store → Stands D n s g.store g.at
opens_stand a i q w = record { more = ext_replaces q; pass = replace_pass a (opens_good i) (opens_value i) q w; scope = opens_scope a i q }

-- WHAT A ROW WRITTEN LEAVES

pub row_passes : {D : ℕ} {s : Store} {w : Row} → AllPass D s → FieldsOk s (length s) w → Worded D w → Written s (put s w).store → AllPass D (put s w).store
row_passes a f b w = all_pass (put_formed (pass_formed a) f) (put_worded (pass_worded a) b) (written_sized (pass_sized a) w)

pub row_put : (m : Tally) (w : Row) → Written m.store (put m.store w).store → Puts m w (tally m.steps (put m.store w).store) (put m.store w).at
row_put m w z = record { due = put m.store w; is_due = refl; written = z; then_tally = refl; then_at = refl }

pub rows_opened : (m : Tally) {v : Option Ptr} {k c : ℕ} {b : Ptr} {g : Got} → Replaces v k c m.store b g → Written m.store g.store →
    Opens m v k c b (tally m.steps g.store) g.at
rows_opened m {g = g} q z = record { due = g; is_due = q; written = z; then_tally = refl; then_at = refl }

-- THE NAMED STRUCTURE

-- what a view of the head's row says of the whole
pub of_view : {e : Env} {s : Store} {q h : Ptr} {c n i : ℕ} {ys : List Ptr} → Spine s q [] h ys → IsStructure e c (row_at s h.row) n i →
    OfStructure e s q c n (decl_at e.decls i) ys
of_view {h = h} {i = i} sp is = record {
  n = is.n;
  x = is.x;
  y = is.y;
  z = is.z;
  k = h.shift;
  its_constructor = i;
  head = record { at = h; spine = sp; row = is.row; shift = refl };
  is_structure = is.form;
  constructor = refl;
  levels = is.levels;
}

-- and the other way: a term has one head
pub to_view : {e : Env} {s : Store} {q h : Ptr} {c n : ℕ} {C : Decl} {ys zs : List Ptr} → Spine s q [] h zs → (o : OfStructure e s q c n C ys) →
    IsStructure e c (row_at s h.row) n o.its_constructor
to_view {s = s} {h = h} sp o =
    let same = spine_same sp o.head.spine in
    record {
      n = o.n;
      x = o.x;
      y = o.y;
      z = o.z;
      row = ap (λ (p : Ptr). row_at s p.row) same.head ∙ o.head.row;
      form = o.is_structure;
      levels = o.levels ∙ ap (λ (C : Decl). C.levels) (sym o.constructor);
    }

-- WHAT IS SAID OF THE REST, after each ask
module _ (lim : Limits) where
  -- rows are charged: they stand, or one of them is refused
  after_charge : {e : Env} {d r : ℕ} {m : Tally} {y : Ask} {o : Option ℕ} (g : Got) (next : Side) → Within lim m → ChargeSays lim m.store g.store o →
      (Written m.store g.store → Within lim (tally m.steps g.store) → Says lim e d r m y (next (tally m.steps g.store) g.at)) →
      ((x : Cell) (now : Store) → RowDue m.store g.store x now → AskMeets e d r m y (as_reduction (row x)) (tally m.steps now)) →
      Says lim e d r m y (charged_on next m g o)
  after_charge g next v (c_all w h) f t = f w (record { steps = v.steps; rows = h })
  after_charge g next v (c_no x h k) f t = s_no (t _ _ x) (record { steps = v.steps; rows = h }) (as_reduction_fails (k _))

  step_says : {e : Env} {d r : ℕ} {m : Tally} {y : Ask} {o : Res} (c : Cmp lim.steps m.steps) → Within lim m →
      (Within lim (tally (suc m.steps) m.store) → Says lim e d r (tally (suc m.steps) m.store) y o) → Says lim e d r m (step_then y) (step_on c o)
  step_says (up_to h) v f = s_no C.its_step v (as_reduction_fails (no_step h))
  step_says {m = m} (over h) v f = says_after lim (ext_same m.store) (λ m' p c. stepped c) (λ a m₂ c. C.after_step c) (f (record { steps = h; rows = v.rows }))

  level_says : {e : Env} {d r : ℕ} {m : Tally} {y : Ask} {o : Res} (l : ℕ) (c : Cmp l most_level) → Within lim m → (l ≤ most_level → Says lim e d r m y o) →
      Says lim e d r m (level_then l y) (level_on c o)
  level_says {m = m} l (up_to h) v f = says_after lim (ext_same m.store) (λ m' p c. leveled h c) (λ a m₂ c. C.after_level h c) (f h)
  level_says l (over h) v f = s_no C.its_level v (too_high h)

  side_says_on : {e : Env} {d r : ℕ} {m : Tally} {X : Option Ptr} {q : Ptr} {y : Store → Ptr → Ask} {o : Res} (next : Side) → Within lim m → Typed e m.store →
      RecordIn e m.store X → InScope m.store (depth_of (with_record e X)) q →
      ((m₁ : Tally) (q' : Ptr) → Within lim m₁ → Stands (decl_count e) (depth_of (with_record e X)) m.store m₁.store q' →
      Says lim e d r m₁ (y m₁.store q') (next m₁ q')) →
      SideSays (with_record e X) lim m q d o → Says lim e d r m (reduces X q y) (then_on next o)
  side_says_on next v typed c i f no_level_left = s_no C.too_deep v (as_reduction_fails no_level)
  side_says_on next v typed c i f (a_level_left (r_no x u h)) = s_no (C.in_reduction x) u (as_reduction_fails h)
  side_says_on next v typed c i f (a_level_left (r_lost x)) = absurd (run_never_lost x (typed_with typed c).sane i)
  side_says_on next v typed c i f (a_level_left (r_ok {m' = m₁} {t' = q'} x u)) =
      let k = runs_keep x (typed_with typed c).sane i in
      let a = subst (λ (D : ℕ). AllPass D m₁.store) (same_count c) k.sane.pass in
      says_after lim k.more (λ m' p z. reduced x z) (λ b m₂ z. C.after_reduction x z)
      (f m₁ q' u (record { more = k.more; pass = a; scope = k.term }))

  -- a part as it stands
  part_says_on : {e : Env} {d r : ℕ} {m : Tally} {q : Ptr} {y : Store → Ptr → Ask} {o : Res} (next : Side) → Within lim m →
      ((m₁ : Tally) (q' : Ptr) → Within lim m₁ → Stands (decl_count e) (depth_of e) m.store m₁.store q' →
      Says lim e d r m₁ (y m₁.store q') (next m₁ q')) →
      PartSays lim e d r m q o → Says lim e d r m (infers none q y) (then_on next o)
  part_says_on next v f no_level_there = s_no C.part_too_deep v (as_reduction_fails no_level)
  part_says_on next v f (a_level_there (s_no x u h)) = s_no (C.in_part (C.by_asks x)) u h
  part_says_on next v f (a_level_there (s_ok {m' = m₁} {p = q'} x u k)) =
      says_after lim k.more (λ m' p z. part (C.by_asks x) z) (λ b m₂ z. C.after_part (C.by_asks x) z) (f m₁ q' u k)

  -- and under a new record
  under_says_on : {e : Env} {d r : ℕ} {m : Tally} {X q : Ptr} {y : Store → Ptr → Ask} {o : Res} (next : Side) → Within lim m →
      ((m₁ : Tally) (q' : Ptr) → Within lim m₁ → Stands (decl_count e) (depth_of (under e X)) m.store m₁.store q' →
      Says lim e d (suc r) m₁ (y m₁.store q') (next m₁ q')) →
      PartSays lim (under e X) d r m q o → Says lim e d (suc r) m (infers (some X) q y) (then_on next o)
  under_says_on next v f no_level_there = s_no C.under_too_deep v (as_reduction_fails no_level)
  under_says_on next v f (a_level_there (s_no x u h)) = s_no (C.in_part_under (C.by_asks x)) u h
  under_says_on next v f (a_level_there (s_ok {m' = m₁} {p = q'} x u k)) =
      says_after lim k.more (λ m' p z. part_under (C.by_asks x) z) (λ b m₂ z. C.after_part_under (C.by_asks x) z) (f m₁ q' u k)

-- THE ASKS, whatever the form is
module _ (lim : Limits) (d : ℕ) (parts : Part)
    (parts_say : (e : Env) (r : ℕ) (m : Tally) (t : Ptr) → Within lim m → Typed e m.store → InScope m.store (depth_of e) t → PartSays lim e d r m t (parts e r m t))
    (e : Env) where
  infers_say : {m : Tally} {q : Ptr} {y : Store → Ptr → Ask} {X : Option Ptr} (r : ℕ) (next : Side) → Within lim m → Typed e m.store →
      RecordIn e m.store X → InScope m.store (depth_of (with_record e X)) q →
      ((m₁ : Tally) (q' : Ptr) → Within lim m₁ → Stands (decl_count e) (depth_of (with_record e X)) m.store m₁.store q' →
      Says lim e d r m₁ (y m₁.store q') (next m₁ q')) →
      Says lim e d r m (infers X q y) (then_on next (part_on e parts X r m q))
  infers_say {m} {q} r next v typed no_record i f = part_says_on lim next v f (parts_say e r m q v typed i)
  infers_say zero next v typed (a_record h) i f = s_no C.its_record v no_spare_record
  infers_say {m} {q} (suc r) next v typed (a_record {X = X} h) i f =
      under_says_on lim next v f (parts_say (under e X) r m q v (typed_under typed h) i)

  structure_says : {m : Tally} {q h : Ptr} {c : ℕ} {ys : List Ptr} {y : ℕ → Decl → List Ptr → Ask} (r : ℕ) (next : ℕ → Decl → Res) →
      Within lim m → Typed e m.store → Spine m.store q [] h ys →
      ((n : ℕ) (C : Decl) → Closed m.store (length m.store) C.type → Says lim e d r m (y n C ys) (next n C)) →
      (w : StructureView e c (row_at m.store h.row)) → Says lim e d r m (structures q c y) (structure_on next w)
  structure_says {m} {c = c} r next v typed sp f (the_structure n i is) =
      let o = of_view sp is in
      says_after lim (ext_same m.store) (λ m' p z. structured o z) (λ b m₂ z. C.after_structure o z)
      (f n (decl_at e.decls i) (typed.type i (typed.constructor c n i is.form)))
  structure_says r next v typed sp f (no_structure h) = s_no (C.no_structure_there λ n C ys o. h n o.its_constructor (to_view sp o)) v no_type

  pub ask_says : (r : ℕ) (y : Ask) (m : Tally) → Within lim m → Typed e m.store → Safe e m.store y →
      Says lim e d r m y (run lim e (λ e'. side_at e' lim d) parts r y m)
  unfolding run
  ask_says r (answers p) m v typed (safe_answers i) =
      s_ok answered v (record { more = ext_same m.store; pass = typed.sane.pass; scope = i })
  ask_says r untyped m v typed safe_untyped = s_no C.no_type_there v no_type
  ask_says r (step_then y) m v typed (safe_step f) = step_says lim (cmp lim.steps m.steps) v λ u. ask_says r y (tally (suc m.steps) m.store) u typed f
  ask_says r (level_then l y) m v typed (safe_level f) = level_says lim l (cmp l most_level) v λ h. ask_says r y m v typed (f h)
  ask_says r (writes w y) m v typed (safe_writes o b f) =
      let x = ext_put m.store (cell m.store w) in
      after_charge lim (put m.store w) (λ m₁ p. run lim e (λ e'. side_at e' lim d) parts r (y m₁.store p) m₁) v (charge_says lim m.store (put m.store w).store x v.rows)
      (λ z u.
      let a = row_passes typed.sane.pass o b z in
      let p = row_put m w z in
      says_after lim x (λ m' q c. wrote p c) (λ c m₂ t. C.after_row p t)
      (ask_says r (y (put m.store w).store (put m.store w).at) (tally m.steps (put m.store w).store) u (typed_later x a typed) (f a)))
      (λ x now t. C.its_row (F.PutsMeets.its_row refl t refl))
  ask_says r (opens v' k c b y) m v typed (safe_opens i f) =
      on_found (opens_found typed.sane.pass i) (replace_says v' k _ c m.store b) λ g q z u.
      let s = opens_stand typed.sane.pass i q z in
      ask_says r (y g.store g.at) (tally m.steps g.store) u (typed_later s.more s.pass typed) (f _ _ s.more s.pass s.scope)
    where
      on_found : {x : Option Got} → Found x → All (Replaces v' k c m.store b) x →
          ((g : Got) → Replaces v' k c m.store b g → Written m.store g.store → Within lim (tally m.steps g.store) →
          Says lim e d r (tally m.steps g.store) (y g.store g.at)
          (run lim e (λ e'. side_at e' lim d) parts r (y g.store g.at) (tally m.steps g.store))) →
          Says lim e d r m (opens v' k c b y) (opened_on lim (λ m₁ p. run lim e (λ e'. side_at e' lim d) parts r (y m₁.store p) m₁) m x)
      on_found found (just {a = g} q) rest =
          after_charge lim g (λ m₁ p. run lim e (λ e'. side_at e' lim d) parts r (y m₁.store p) m₁) v (charge_says lim m.store g.store (ext_replaces q) v.rows)
          (λ z u.
          let p = rows_opened m q z in
          says_after lim (ext_replaces q) (λ m' q c. opened p c) (λ c m₂ t. C.after_rows p t) (rest g q z u))
          (λ x now t. C.its_rows (F.OpensMeets.its_row q t refl))
  ask_says r (reduces X q y) m v typed (safe_reduces c i f) =
      side_says_on lim _ v typed c i
      (λ m₁ q' u k. ask_says r (y m₁.store q') m₁ u (typed_later k.more k.pass typed) (f _ _ k.more k.pass k.scope))
      (side_says (with_record e X) lim d m q v)
  ask_says r (infers X q y) m v typed (safe_infers c i f) =
      infers_say r _ v typed c i
      (λ m₁ q' u k. ask_says r (y m₁.store q') m₁ u (typed_later k.more k.pass typed) (f _ _ k.more k.pass k.scope))
  ask_says r (structures q c y) m v typed (safe_structures i f) =
      on_head refl (spine_says _ m.store q []) λ n C ys t is. ask_says r (y n C ys) m v typed (f n C ys t is)
    where
      on_head : {x : Option Spined} → spine m.store q ≡ x → All (IsSpine m.store q []) x →
          ((n : ℕ) (C : Decl) (ys : List Ptr) → Closed m.store (length m.store) C.type → AllIn m.store (depth_of e) ys →
          Says lim e d r m (y n C ys) (run lim e (λ e'. side_at e' lim d) parts r (y n C ys) m)) →
          Says lim e d r m (structures q c y) (head_on e c (λ n C ys. run lim e (λ e'. side_at e' lim d) parts r (y n C ys) m) m.store x)
      on_head z nothing rest = absurd (run_never_lost {d = 0} {m = m} (no_head z) typed.sane i)
      on_head z (just {a = h} sp) rest =
          structure_says r _ v typed sp (λ n C t. rest n C h.arguments t (spine_in typed.sane.pass i none_in sp).arguments)
          (structure_view e c (row_at m.store h.head.row))

-- THE WHOLE

pub part_says : (lim : Limits) (d : ℕ) (e : Env) (r : ℕ) (m : Tally) (t : Ptr) → Within lim m → Typed e m.store → InScope m.store (depth_of e) t →
    PartSays lim e d r m t (type_at lim d e r m t)
unfolding type_at
part_says lim zero e r m t v typed i = no_level_there
part_says lim (suc d) e r m t v typed i =
    a_level_there (ask_says lim d (λ e' r' m' t'. type_at lim d e' r' m' t') (part_says lim d) e r (asks e m.store t) m v typed (asks_safe typed i))
