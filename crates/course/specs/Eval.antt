-- The rules as a computation: nesting outside, the loop over firings inside. Whatever goes down the rows goes by the recorded height and gives
-- `none` where that runs out, never a wrong pointer; `lost` is for that alone.
use Rattle.std.specs.Prelude.{ℕ, zero, suc, ◌+◌, ◌-◌, List, [], ◌∷◌, ◌++◌, length, drop}
use Rattle.std.proofs.Math.Option.{Option, none, some}
use Rattle.rules.specs.Kinds.{const, num, Tag, plain, term, body, fields}
use Rattle.rules.specs.Rows.{Ptr, ptr, Row, var, node, leaf, Cell, Store, cell_at, row_at, bound, up, grow, Got, got, put}
use Rattle.rules.specs.Declarations.{Env}
use Rattle.rules.specs.Replacement.{count}
use Rattle.rules.specs.Spines.{joined}
use Rattle.rules.specs.Firings.{Tally, tally, Result, opened, itself, a_number, a_constant}
use Rattle.rules.specs.HeadTests.{given}
use Rattle.rules.specs.Refusals.{Limits}
use Rattle.course.specs.Views.{Cmp, up_to, over, cmp, AppView, is_app, no_app, app_view, FitView, fits, no_fit, fit_view, NumberView, in_range}
use Rattle.course.specs.Views.{too_big, number_view}
use Rattle.course.specs.Tries.{Try, no_rule, fires, writes, reduces, rules}

-- REPLACEMENT
module _ (v : Option Ptr) (k : ℕ) where
  abbrev pub on_index : Option Ptr → (c : ℕ) → Store → ℕ → (i : ℕ) → Cmp c i → Cmp i c → Got
  on_index w c s r i (over h) q = got s (ptr r 0)
  on_index w c s r i (up_to h) (over l) = put s (var (i - count v + k))
  on_index none c s r i (up_to h) (up_to l) = put s (var (i - count v + k))
  on_index (some x) c s r i (up_to h) (up_to l) = got s (up s x c)

  abbrev pub on_field : (ℕ → Store → Ptr → Option Got) → Tag → ℕ → Store → Ptr → Option Got
  on_field rec plain c s p = some (got s p)
  on_field rec term c s p = rec c s p
  on_field rec body c s p = rec (suc c) s p

  unfoldable pub on_row : (ℕ → Store → Ptr → Option Got) → ℕ → Store → ℕ → Row → Option Got
  on_row rec c s r (var i) = some (on_index v c s r i (cmp c i) (cmp i c))
  on_row rec c s r (node κ x y z) =
      given (on_field rec (fields κ).first c s x) λ g₁.
      given (on_field rec (fields κ).second c g₁.store y) λ g₂.
      given (on_field rec (fields κ).third c g₂.store z) λ g₃.
      some (put g₃.store (node κ g₁.at g₂.at g₃.at))

  abbrev pub on_ptr : (ℕ → Store → Ptr → Option Got) → (c : ℕ) (s : Store) (p : Ptr) → Cmp (bound s p) c → Cmp (c + count v) p.shift → Option Got
  on_ptr rec c s p (up_to h) q = some (got s p)
  on_ptr rec c s p (over h) (up_to l) = some (got s (ptr p.row (p.shift - count v + k)))
  on_ptr rec c s p (over h) (over l) =
      given (on_row rec (c - p.shift) s p.row (row_at s p.row)) λ g.
      some (got g.store (up g.store g.at p.shift))

  unfoldable pub replace_by : ℕ → ℕ → Store → Ptr → Option Got
  replace_by zero c s p = none
  replace_by (suc f) c s p = on_ptr (λ c' s' p'. replace_by f c' s' p') c s p (cmp (bound s p) c) (cmp (c + count v) p.shift)

-- SPINES
pub record Spined : Type 0 where
  pub head : Ptr
  pub arguments : List Ptr

abbrev pub spine_on : (Ptr → List Ptr → Option Spined) → (s : Store) (p : Ptr) → List Ptr → AppView (row_at s p.row) → Option Spined
spine_on on s p xs (is_app f a z e) = on (up s f p.shift) (up s a p.shift ∷ xs)
spine_on on s p xs (no_app h) = some (record { head = p; arguments = xs })

unfoldable pub spine_by : ℕ → Store → Ptr → List Ptr → Option Spined
spine_by zero s p xs = none
spine_by (suc f) s p xs = spine_on (λ p' xs'. spine_by f s p' xs') s p xs (app_view (row_at s p.row))

abbrev pub spine : Store → Ptr → Option Spined
spine s p = spine_by (cell_at s p.row).height s p []

-- A FIRING'S ROWS
unfoldable pub give : Store → Result → Option Got
give s (opened b v k) = replace_by (some v) k (cell_at s b.row).height 0 s b
give s (itself p) = some (got s p)
give s (a_number n) = some (put s (leaf (num n)))
give s (a_constant d) = some (put s (leaf (const d 0)))

unfoldable pub due_of : Store → Result → List Ptr → Option Got
due_of s r xs = given (give s r) λ g. some (joined g.store g.at xs)

-- THE LIMITS

-- a term with its tally, a refusal's number, or lost
pub data Res : Type 0 where
  ok : Tally → Ptr → Res
  no : ℕ → Res
  lost : Res

-- what trying comes to
pub data Ans : Type 0 where
  missed : Tally → Ans
  firing : Tally → Result → List Ptr → Ans
  refuse : ℕ → Ans
  gone : Ans

abbrev pub Side : Type 0
Side = Tally → Ptr → Res

module _ (lim : Limits) where
  -- rows in turn, each 8 then 5; none if all may stand
  abbrev pub emit_on : (x : Cell) (s : Store) → FitView x → Cmp lim.rows (length s) → Option ℕ → Option ℕ
  emit_on x s (no_fit h) q later = some 8
  emit_on x s (fits h) (up_to l) later = some 5
  emit_on x s (fits h) (over l) later = later

  unfoldable pub emit : Store → List Cell → Option ℕ
  emit s [] = none
  emit s (x ∷ xs) = emit_on x s (fit_view x) (cmp lim.rows (length s)) (emit (s ++ (x ∷ [])) xs)

  -- the rows of s' past those of s
  abbrev pub charge : Store → Store → Option ℕ
  charge s s' = emit s (drop (length s) s')

  abbrev pub paid_on : Tally → Ptr → Option ℕ → Res
  paid_on m t none = ok m t
  paid_on m t (some k) = no k

  abbrev pub due_on : Tally → Option Got → Res
  due_on m none = lost
  due_on m (some g) = paid_on (tally (suc m.steps) g.store) g.at (charge m.store g.store)

  -- a firing: 4, 7, then its rows
  abbrev pub fire_on : (m : Tally) (r : Result) → List Ptr → Cmp lim.steps m.steps → NumberView r → Res
  fire_on m r xs (up_to h) q = no 4
  fire_on m r xs (over h) (too_big l) = no 7
  fire_on m r xs (over h) (in_range l) = due_on m (due_of m.store r xs)

  unfoldable pub fire : Tally → Result → List Ptr → Res
  fire m r xs = fire_on m r xs (cmp lim.steps m.steps) (number_view r)

  abbrev pub wrote_on : (Unit {0} → Ans) → Option ℕ → Ans
  wrote_on next none = next tt
  wrote_on next (some k) = refuse k

  abbrev pub spine_then : (Ptr → List Ptr → Ans) → Option Spined → Ans
  spine_then next none = gone
  spine_then next (some h) = next h.head h.arguments

  abbrev pub side_on : (Tally → Ptr → List Ptr → Ans) → Res → Ans
  side_on next (ok m q) = spine_then (next m) (spine m.store q)
  side_on next (no k) = refuse k
  side_on next lost = gone

  unfoldable pub try : Side → Try → Tally → Ans
  try side no_rule m = missed m
  try side (fires r xs) m = firing m r xs
  try side (writes ws y) m = wrote_on (λ z. try side y (tally m.steps (grow m.store ws))) (charge m.store (grow m.store ws))
  try side (reduces p y) m = side_on (λ m₁ h ys. try side (y m₁.store (row_at m₁.store h.row) ys) m₁) (side m p)

  -- trying the rules at the head of t
  unfoldable pub at_the_head : Env → Side → Tally → Ptr → Ans
  at_the_head e side m t = spine_then (λ h xs. try side (rules e m.store h xs) m) (spine m.store t)

  abbrev pub go_on : Side → Res → Res
  go_on again (ok m t) = again m t
  go_on again (no k) = no k
  go_on again lost = lost

  -- final, or fired and on with the result
  abbrev pub next : Side → Ptr → Ans → Res
  next again t (missed m) = ok m t
  next again t (firing m r xs) = go_on again (fire m r xs)
  next again t (refuse k) = no k
  next again t gone = lost

-- the loop over firings: as many as there are steps left, and one more try
unfoldable pub loop : Env → Limits → Side → ℕ → Side
loop e lim side zero m t = lost
loop e lim side (suc f) m t = next lim (λ m' t'. loop e lim side f m' t') t (at_the_head lim e side m t)

-- a side reduction, with d levels left
unfoldable pub side_at : Env → Limits → ℕ → Side
side_at e lim zero m t = no 6
side_at e lim (suc d) m t = loop e lim (side_at e lim d) (suc (lim.steps - m.steps)) m t

-- the whole, the outermost level being level 0
unfoldable pub eval : Env → Limits → ℕ → Store → Ptr → Res
eval e lim nesting s t = side_at e lim (suc nesting) (tally 0 s) t
