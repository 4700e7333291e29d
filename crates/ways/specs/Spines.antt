-- Spines on a formed store: they exist, the evaluator finds them, and head and arguments are in scope where the term is.
-- Assumes rows that are formed (crate substitution) and pointers that are good or in scope.
use Rattle.std.specs.Prelude.{ℕ, zero, suc, ◌≤◌, ◌<◌, ◌≡◌, refl, List, [], ◌∷◌}
use Rattle.std.proofs.Common.{le_refl, sym, ◌∙◌, subst}
use native.Mathlib.Omega.{arith}
use Rattle.std.proofs.Math.Path.{ap}
use Rattle.std.proofs.Math.Option.{Option, none, some}
use Rattle.rules.specs.Kinds.{app, table, fields}
use Rattle.rules.specs.Rows.{Ptr, Row, var, node, Cell, Store, cell_at, row_at, bound_on, bound, up_on, up, field_bound, field_height, cell}
use Rattle.rules.specs.RowCheck.{InScope}
use Rattle.rules.specs.Spines.{Spine, head, through, NoApp}
use Rattle.substitution.specs.Stores.{first_ok, second_ok, term_child, Formed, Good, scope_good, fields_at, Ext, ext_row, ext_up, ext_good, up_child}
use Rattle.course.specs.Views.{AppView, is_app, no_app, app_view}
use Rattle.course.specs.Eval.{Spined, spine_on, spine_by, spine}

-- THE TWO CHILDREN OF AN APPLICATION
module _ {s : Store} {p f a z : Ptr} (formed : Formed s) (q : row_at s p.row ≡ node app f a z) where
  pub function_good : Good s p → Good s f
  unfolding fields table
  function_good o = term_child (first_ok (fields_at formed o q))

  pub argument_good : Good s p → Good s a
  unfolding fields table
  argument_good o = term_child (second_ok (fields_at formed o q))

  row_exact : Good s p → cell_at s p.row ≡ cell s (node app f a z)
  row_exact o = (formed.each p.row o.lower).exact ∙ ap (cell s) q

  pub function_lower : Good s p → (cell_at s f.row).height < (cell_at s p.row).height
  unfolding cell fields table field_height
  function_lower o =
      let h = ap (λ (c : Cell). c.height) (row_exact o) in omega arith

  -- what they add to the row's bound
  bounds : Good s p → (bound s f ≤ (cell_at s p.row).bound) × (bound s a ≤ (cell_at s p.row).bound)
  unfolding cell fields table field_bound
  bounds o = let h = ap (λ (c : Cell). c.bound) (row_exact o) in (omega arith, omega arith)

-- a child that adds at most the row's bound, taking the pointer's shift on, is in scope where the pointer is
child_scope : {s : Store} {d : ℕ} {p x : Ptr} → InScope s d p → Good s x → bound s x ≤ (cell_at s p.row).bound → InScope s d (up s x p.shift)
child_scope {s} {d} {p} {x} i o h = go (cell_at s x.row).bound refl (cell_at s p.row).bound refl
  where
    go : (b : ℕ) → (cell_at s x.row).bound ≡ b → (c : ℕ) → (cell_at s p.row).bound ≡ c → InScope s d (up s x p.shift)
    go zero e c r = rw e (record { there = o.lower; still = o.still; within = rw e (omega arith) })
    go (suc b) e zero r = absurd (let z : bound_on (suc b) x.shift ≤ 0 = rw (e, r) at h in omega arith)
    go (suc b) e (suc c) r =
        let l : bound_on (suc b) x.shift ≤ suc c = rw (e, r) at h in
        let w : bound_on (suc c) p.shift ≤ d = rw r at i.within in
        rw e (record { there = o.lower; still = λ z. absurd (let y : suc b ≡ 0 = sym e ∙ z in omega arith); within = rw e (omega arith) })

module _ {s : Store} {d : ℕ} {p f a z : Ptr} (formed : Formed s) (q : row_at s p.row ≡ node app f a z) (i : InScope s d p) where
  pub function_scope : InScope s d (up s f p.shift)
  function_scope = child_scope i (function_good formed q (scope_good i)) (bounds formed q (scope_good i)).0

  pub argument_scope : InScope s d (up s a p.shift)
  argument_scope = child_scope i (argument_good formed q (scope_good i)) (bounds formed q (scope_good i)).1

pub data AllScope (s : Store) (d : ℕ) : List Ptr → Type 0 where
  no_more : AllScope s d []
  and_more : {x : Ptr} {xs : List Ptr} → InScope s d x → AllScope s d xs → AllScope s d (x ∷ xs)

pub record SpineScope (s : Store) (d : ℕ) (h : Ptr) (ys : List Ptr) : Type 0 where
  pub head : InScope s d h
  pub arguments : AllScope s d ys

pub spine_scope : {s : Store} {d : ℕ} {p h : Ptr} {xs ys : List Ptr} → Formed s → InScope s d p → AllScope s d xs → Spine s p xs h ys → SpineScope s d h ys
spine_scope f i o (head n) = record { head = i; arguments = o }
spine_scope f i o (through q r) = spine_scope f (function_scope f q i) (and_more (argument_scope f q i) o) r

-- THE SPINE EXISTS, and the evaluator finds it
pub up_row : (b : ℕ) (p : Ptr) (k : ℕ) → (up_on b p k).row ≡ p.row
up_row zero p k = refl
up_row (suc b) p k = refl

height_positive : (s : Store) (w : Row) → 0 < (cell s w).height
unfolding cell
height_positive s (var i) = omega arith
height_positive s (node κ x y z) = omega arith

pub spine_by_lem : {s : Store} → Formed s → (n : ℕ) (p : Ptr) (xs : List Ptr) {h : Ptr} {ys : List Ptr} → Good s p → (cell_at s p.row).height ≤ n → Spine s p xs h ys →
    spine_by n s p xs ≡ some (record { head = h; arguments = ys })
unfolding spine_by
spine_by_lem {s} f zero p xs o l r = absurd (let e = ap (λ (c : Cell). c.height) (f.each p.row o.lower).exact in let z = height_positive s (row_at s p.row) in omega arith)
spine_by_lem {s} f (suc n) p xs o l (head m) = go (app_view (row_at s p.row))
  where
    go : (v : AppView (row_at s p.row)) → spine_on (λ p' xs'. spine_by n s p' xs') s p xs v ≡ some (record { head = p; arguments = xs })
    go (no_app m') = refl
    go (is_app g a z e) = absurd (never (subst NoApp e m))
      where
        never : NoApp (node app g a z) → ⊥
        never = elim [ ]
spine_by_lem {s} f (suc n) p xs {h} {ys} o l (through {f = g} {a = a} {z = z} e r) = go (λ g' a' q. spine_by_lem f n g' a' q) (app_view (row_at s p.row))
  where
    go : ((p' : Ptr) (xs' : List Ptr) → Good s p' → (cell_at s p'.row).height ≤ n → Spine s p' xs' h ys → spine_by n s p' xs' ≡ some (record { head = h; arguments = ys })) →
        (v : AppView (row_at s p.row)) → spine_on (λ p' xs'. spine_by n s p' xs') s p xs v ≡ some (record { head = h; arguments = ys })
    go ih (no_app m) = absurd (never (subst NoApp e m))
      where
        never : NoApp (node app g a z) → ⊥
        never = elim [ ]
    go ih (is_app g' a' z' e') =
        let qg : g' ≡ g = cc in
        let qa : a' ≡ a = cc in
        let low = function_lower f e o in
        let t : (up s g p.shift).row ≡ g.row = up_row (cell_at s g.row).bound g p.shift in
        rw (qg, qa) (ih (up s g p.shift) (up s a p.shift ∷ xs) (up_child p.shift (function_good f e o)) (rw t (omega arith)) r)

pub spine_is : {s : Store} {p h : Ptr} {ys : List Ptr} → Formed s → Good s p → Spine s p [] h ys → spine s p ≡ some (record { head = h; arguments = ys })
spine_is {s} {p} f o r = spine_by_lem f (cell_at s p.row).height p [] o (le_refl _) r

pub record SpineTo (s : Store) (p : Ptr) (xs : List Ptr) : Type 0 where
  pub head : Ptr
  pub arguments : List Ptr
  pub is_spine : Spine s p xs head arguments

spine_from : {s : Store} → Formed s → (n : ℕ) (p : Ptr) (xs : List Ptr) → Good s p → (cell_at s p.row).height ≤ n → SpineTo s p xs
spine_from {s} f zero p xs o l = absurd (let e = ap (λ (c : Cell). c.height) (f.each p.row o.lower).exact in let z = height_positive s (row_at s p.row) in omega arith)
spine_from {s} f (suc n) p xs o l = go (λ p' xs' o' l'. spine_from f n p' xs' o' l') (app_view (row_at s p.row))
  where
    go : ((p' : Ptr) (xs' : List Ptr) → Good s p' → (cell_at s p'.row).height ≤ n → SpineTo s p' xs') → AppView (row_at s p.row) → SpineTo s p xs
    go ih (no_app m) = record { head = p; arguments = xs; is_spine = head m }
    go ih (is_app g a z e) =
        let low = function_lower f e o in
        let t : (up s g p.shift).row ≡ g.row = up_row (cell_at s g.row).bound g p.shift in
        let r = ih (up s g p.shift) (up s a p.shift ∷ xs) (up_child p.shift (function_good f e o)) (rw t (omega arith)) in
        record { head = r.head; arguments = r.arguments; is_spine = through e r.is_spine }

pub spine_exists : {s : Store} {p : Ptr} → Formed s → Good s p → SpineTo s p []
spine_exists {s} {p} f o = spine_from f (cell_at s p.row).height p [] o (le_refl _)

-- rows written later change no spine
pub spine_later : {s s' : Store} {p h : Ptr} {xs ys : List Ptr} → Formed s → Ext s s' → Good s p → Spine s p xs h ys → Spine s' p xs h ys
spine_later {p = p} f e o (head n) = head (subst NoApp (sym (ext_row e p.row o.lower)) n)
spine_later {s} {s'} {p} {h} {xs} {ys} f e o (through {f = g} {a = a} q r) =
    let u = ext_up e g p.shift (function_good f q o).lower in
    let v = ext_up e a p.shift (argument_good f q o).lower in
    let w : Spine s' (up s' g p.shift) (up s' a p.shift ∷ xs) h ys = rw (u, v) (spine_later f e (up_child p.shift (function_good f q o)) r) in
    through (ext_row e p.row o.lower ∙ q) w

-- THE HEAD AND THE ARGUMENTS AS FUNCTIONS, for contracts: what the evaluator finds
abbrev pub spined_on : Ptr → Option Spined → Spined
spined_on p none = record { head = p; arguments = [] }
spined_on p (some h) = h

unfoldable pub head_of : Store → Ptr → Ptr
head_of s p = (spined_on p (spine s p)).head

unfoldable pub args_of : Store → Ptr → List Ptr
args_of s p = (spined_on p (spine s p)).arguments

-- on a formed store they are the rules' head and arguments
pub args_are : {s : Store} {p h : Ptr} {ys : List Ptr} → Formed s → Good s p → Spine s p [] h ys → args_of s p ≡ ys
unfolding args_of
args_are {p = p} f o r = ap (λ (x : Option Spined). (spined_on p x).arguments) (spine_is f o r)

pub head_is : {s : Store} {p h : Ptr} {ys : List Ptr} → Formed s → Good s p → Spine s p [] h ys → head_of s p ≡ h
unfolding head_of
head_is {p = p} f o r = ap (λ (x : Option Spined). (spined_on p x).head) (spine_is f o r)

pub spine_of : {s : Store} {p : Ptr} → Formed s → Good s p → Spine s p [] (head_of s p) (args_of s p)
spine_of f o = let r = spine_exists f o in rw (head_is f o r.is_spine, args_are f o r.is_spine) r.is_spine

pub args_later : {s s' : Store} {p : Ptr} → Formed s → Formed s' → Ext s s' → Good s p → args_of s' p ≡ args_of s p
args_later f f' e o = args_are f' (ext_good e o) (spine_later f e o (spine_of f o))
