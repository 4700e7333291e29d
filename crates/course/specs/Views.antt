-- Tests that keep what they found, so that a case of the evaluator has the premise of its rule at hand.
use Rattle.std.specs.Prelude.{ℕ, ◌≤◌, ◌<◌, ◌≡◌, refl}
use Rattle.std.proofs.Math.Decide.{dec_lt}
use Rattle.std.proofs.Common.{arith}
use Rattle.rules.specs.Maxima.{most_bound, most_height, most_number}
use Rattle.rules.specs.Kinds.{sort, const, app, lam, pi, let', proj, num}
use Rattle.rules.specs.Rows.{Ptr, Row, var, node, Cell}
use Rattle.rules.specs.RowCheck.{Fits}
use Rattle.rules.specs.Spines.{NoApp, no_var, no_sort, no_const, no_lam, no_pi, no_let, no_proj, no_num}
use Rattle.rules.specs.Firings.{Result, opened, itself, a_number, a_constant, NumberFits, opened_fits, itself_fits, number_fits, constant_fits}

pub data Cmp (a b : ℕ) : Type 0 where
  up_to : a ≤ b → Cmp a b
  over : b < a → Cmp a b

unfoldable pub cmp : (a b : ℕ) → Cmp a b
unfolding dec_lt
cmp a b = go (dec_lt b a)
  where
    go : Dec (b < a) → Cmp a b
    go (yes h) = over h
    go (no h) = up_to (omega arith)

pub data AppView (w : Row) : Type 0 where
  is_app : (f a z : Ptr) → w ≡ node app f a z → AppView w
  no_app : NoApp w → AppView w

unfoldable pub app_view : (w : Row) → AppView w
app_view (var i) = no_app no_var
app_view (node (sort l) x y z) = no_app no_sort
app_view (node (const d n) x y z) = no_app no_const
app_view (node app x y z) = is_app x y z refl
app_view (node lam x y z) = no_app no_lam
app_view (node pi x y z) = no_app no_pi
app_view (node let' x y z) = no_app no_let
app_view (node (proj d i) x y z) = no_app no_proj
app_view (node (num n) x y z) = no_app no_num

-- a row within the sizes, or refusal 8
pub data FitView (x : Cell) : Type 0 where
  fits : Fits x → FitView x
  no_fit : (Fits x → ⊥) → FitView x

unfoldable pub fit_view : (x : Cell) → FitView x
unfolding cmp
fit_view x = go (cmp x.bound most_bound) (cmp x.height most_height)
  where
    go : Cmp x.bound most_bound → Cmp x.height most_height → FitView x
    go (up_to h) (up_to l) = fits (record { bound = h; height = l })
    go (up_to h) (over l) = no_fit (λ f. let z = f.height in omega arith)
    go (over h) l = no_fit (λ f. let z = f.bound in omega arith)

-- a number within 2^64 - 1, or refusal 7
pub data NumberView : Result → Type 0 where
  in_range : {r : Result} → NumberFits r → NumberView r
  too_big : {n : ℕ} → most_number < n → NumberView (a_number n)

unfoldable pub number_view : (r : Result) → NumberView r
unfolding cmp
number_view (opened b v k) = in_range opened_fits
number_view (itself p) = in_range itself_fits
number_view (a_number n) = go (cmp n most_number)
  where
    go : Cmp n most_number → NumberView (a_number n)
    go (up_to h) = in_range (number_fits h)
    go (over h) = too_big h
number_view (a_constant d) = in_range constant_fits
