-- The rows of a number as a constructor: charged one by one they are the rules' rows charged in turn; when they are paid all rows pass, and the
-- spine at the last of them has the constructor's arguments.
-- Assumes a store whose rows pass.
use Prim.Native.Nat.{ℕ, suc, ◌≤◌, ◌<◌}
use native.Mathlib.Omega.{arith}
use mathlib.Core.Path.{◌≡◌, refl, sym, ap, ◌∙◌, subst}
use mathlib.Core.List.{List, [], ◌∷◌}
use mathlib.Core.Option.{Option, none, some}
use lib.ListN.{length}
use Rattle.rules.specs.Maxima.{most_number}
use Rattle.rules.specs.Kinds.{Kind, const, app, num, plain, tags, table, fields}
use Rattle.rules.specs.Rows.{Ptr, ptr, blank, Row, node, leaf, Cell, Store, cell_at, row_at, up, field_bound, cell, grow, Got, got, put}
use Rattle.rules.specs.RowCheck.{InRange, sort_in, const_in, app_in, lam_in, pi_in, let_in, proj_in, num_in, plain_ok, RowOk, var_ok, node_ok, AllPass, InScope}
use Rattle.rules.specs.Spines.{Spine, head, through, NoApp, no_const, joined}
use Rattle.rules.specs.Firings.{a_number, a_constant}
use Rattle.rules.specs.Refusals.{Limits}
use Rattle.course.specs.Charged as course
use Rattle.course.specs.Charged.{and_on, put_in, join_in, give_in}
use Rattle.course.specs.Eval.{charge, give}
use Rattle.promises.specs.Charge.{settle_on, settle, first_of, charge_append, give_in_lem, join_in_lem}
use Rattle.substitution.specs.Stores.{FieldsOk, node_fields, Ext, ext_put, ext_then, ext_cell, ext_good, end_cell, end_row, put-length}
use Rattle.substitution.specs.Passing.{node_worded, pass_formed}
use Rattle.ways.specs.Spines.{args_of, args_are}
use Rattle.ways.specs.Stages.{Stage, put_stage, app_stage, put_at}
use Rattle.majors.specs.Majors.{succ_in}

-- A ROW, AND ROWS IN TURN, ARE CHARGED AS THE RULES CHARGE THEM

module _ (lim : Limits) where
  pub constant_charged : (s : Store) (c : ℕ) → put_in lim.rows s (leaf (const c 0)) ≡ settle lim s (put s (leaf (const c 0)))
  unfolding give_in give
  constant_charged s c = give_in_lem lim s (a_constant c) refl

  number_charged : (s : Store) (n : ℕ) → put_in lim.rows s (leaf (num n)) ≡ settle lim s (put s (leaf (num n)))
  unfolding give_in give
  number_charged s n = give_in_lem lim s (a_number n) refl

  app_charged : (s : Store) (f a : Ptr) → put_in lim.rows s (node app f a blank) ≡ settle lim s (put s (node app f a blank))
  unfolding join_in joined
  app_charged s f a = sym (go (put_in lim.rows s (node app f a blank))) ∙ join_in_lem lim s f (a ∷ [])
    where
      go : (o : course.Out) → and_on o (λ g. course.wrote (got g.store g.at)) ≡ o
      go (course.wrote g) = refl
      go (course.refused k) = refl
      go course.lost = refl

  then_charged : (s : Store) (g : Got) (next : Got → Got) → Ext s g.store → Ext g.store (next g).store →
      and_on (settle lim s g) (λ x. settle lim x.store (next x)) ≡ settle lim s (next g)
  then_charged s g next a b = go (charge lim s g.store) ∙ ap (settle_on (next g)) (sym (charge_append lim a b))
    where
      go : (c : Option ℕ) → and_on (settle_on g c) (λ x. settle lim x.store (next x)) ≡ settle_on (next g) (first_of c (charge lim g.store (next g).store))
      go none = refl
      go (some k) = refl

-- the three rows of succ, each put where the ones before it stand
module _ (s : Store) (c n : ℕ) where
  abbrev pub with_constant : Got
  with_constant = put s (leaf (const c 0))

  abbrev pub with_number : Got
  with_number = put with_constant.store (leaf (num n))

  abbrev pub with_both : Got
  with_both = put with_number.store (node app with_constant.at with_number.at blank)

  pub succ_charged : (lim : Limits) → succ_in lim.rows s c n ≡ settle lim s with_both
  unfolding succ_in
  succ_charged lim =
      (λ i. and_on (constant_charged lim s c i) λ f. and_on (number_charged lim f.store n i) λ b. app_charged lim b.store f.at b.at i)
      ∙ (λ i. and_on (settle lim s with_constant) λ f. then_charged lim f.store (put f.store (leaf (num n))) (λ b. put b.store (node app f.at b.at blank)) (ext_put _ _) (ext_put _ _) i)
      ∙ then_charged lim s with_constant (λ f. put (put f.store (leaf (num n))).store (node app f.at (put f.store (leaf (num n))).at blank)) (ext_put _ _) (ext_then (ext_put _ _) (ext_put _ _))

  -- the rules write them by number
  pub succ_rows : grow s (leaf (const c 0) ∷ leaf (num n) ∷ node app (ptr (length s) 0) (ptr (suc (length s)) 0) blank ∷ []) ≡ with_both.store
  unfolding grow
  succ_rows = ap (λ (k : ℕ). (put with_number.store (node app (ptr (length s) 0) (ptr k 0) blank)).store) (sym (put-length s (leaf (const c 0))))

-- ROWS PASS, WITH MORE DECLARATIONS

more_in_range : {D E : ℕ} {κ : Kind} → D ≤ E → InRange D κ → InRange E κ
more_in_range h (sort_in l) = sort_in l
more_in_range h (const_in {d = d} {n = n} low l) = const_in {d = d} {n = n} (omega arith) l
more_in_range h app_in = app_in
more_in_range h lam_in = lam_in
more_in_range h pi_in = pi_in
more_in_range h let_in = let_in
more_in_range h (proj_in {d = d} {i = i} low) = proj_in {d = d} {i = i} (omega arith)
more_in_range h (num_in l) = num_in l

more_row_ok : {D E : ℕ} {s : Store} {n : ℕ} {w : Row} → D ≤ E → RowOk D s n w → RowOk E s n w
more_row_ok h (var_ok l) = var_ok l
more_row_ok h (node_ok r a b c) = node_ok (more_in_range h r) a b c

pub more_pass : {D E : ℕ} {s : Store} → D ≤ E → AllPass D s → AllPass E s
more_pass h a = record { each = λ n l. record { fields = more_row_ok h (a.each n l).fields; exact = (a.each n l).exact; fits = (a.each n l).fits } }

-- ROWS WITHOUT CHILDREN

leaf_ok : {s : Store} {n : ℕ} {κ : Kind} → fields κ ≡ tags plain plain plain → FieldsOk s n (leaf κ)
leaf_ok {s} {n} {κ} e = node_fields {κ = κ} {x = blank} {y = blank} {z = blank} (rw e (plain_ok refl)) (rw e (plain_ok refl)) (rw e (plain_ok refl))

module _ {D : ℕ} (most : ℕ) {s : Store} {g : Got} (pass : AllPass D s) where
  pub constant_stage : (c : ℕ) → c < D → put_in most s (leaf (const c 0)) ≡ course.wrote g → Stage D s g
  unfolding fields table
  constant_stage c h q = put_stage most pass (leaf_ok {κ = const c 0} refl) (node_worded (const_in h (omega arith))) q

  number_stage : (n : ℕ) → n ≤ most_number → put_in most s (leaf (num n)) ≡ course.wrote g → Stage D s g
  unfolding fields table
  number_stage n h q = put_stage most pass (leaf_ok {κ = num n} refl) (node_worded (num_in h)) q

-- a closed row at the end
module _ (s : Store) where
  constant_closed : (c : ℕ) → (cell_at (put s (leaf (const c 0))).store (length s)).bound ≡ 0
  unfolding cell field_bound fields table
  constant_closed c = ap (λ (x : Cell). x.bound) (end_cell s (cell s (leaf (const c 0))))

  number_closed : (n : ℕ) → (cell_at (put s (leaf (num n))).store (length s)).bound ≡ 0
  unfolding cell field_bound fields table
  number_closed n = ap (λ (x : Cell). x.bound) (end_cell s (cell s (leaf (num n))))

closed_scope : (s : Store) (r d : ℕ) → r < length s → (cell_at s r).bound ≡ 0 → InScope s d (ptr r 0)
closed_scope s r d h e = record { there = h; still = λ _. refl; within = rw e (omega arith) }

closed_up : (s : Store) (r : ℕ) → (cell_at s r).bound ≡ 0 → up s (ptr r 0) 0 ≡ ptr r 0
closed_up s r e = rw e

app_closed : (s : Store) (f a : ℕ) → (cell_at s f).bound ≡ 0 → (cell_at s a).bound ≡ 0 → (cell s (node app (ptr f 0) (ptr a 0) blank)).bound ≡ 0
unfolding cell field_bound fields table
app_closed s f a e q = rw (e, q)

-- WHAT STANDS AT THE LAST ROW

-- the grown store passes; the pointer is in scope at any depth, and has these arguments
pub record LastRow (D : ℕ) (g : Got) (ys : List Ptr) : Type 0 where
  pub pass : AllPass D g.store
  pub scope : (d : ℕ) → InScope g.store d g.at
  pub arguments : args_of g.store g.at ≡ ys

put_wrote : (most : ℕ) (s : Store) (w : Row) {g : Got} → put_in most s w ≡ course.wrote g → put_in most s w ≡ course.wrote (put s w)
put_wrote most s w q = q ∙ ap course.wrote (sym (put_at most s w q).is)

pub constant_last : {D : ℕ} (most : ℕ) (s : Store) (c : ℕ) → AllPass D s → c < D → {g : Got} → put_in most s (leaf (const c 0)) ≡ course.wrote g →
    LastRow D (put s (leaf (const c 0))) []
constant_last most s c pass h q =
    let stage = constant_stage most pass c h (put_wrote most s (leaf (const c 0)) q) in
    record {
      pass = stage.pass;
      scope = λ d. closed_scope _ _ d stage.good.lower (constant_closed s c);
      arguments = args_are (pass_formed stage.pass) stage.good (head (subst NoApp (sym (end_row s (leaf (const c 0)))) no_const));
    }

-- a write and what comes after it were both done
record BothWrote (o : course.Out) (next : Got → course.Out) (g : Got) : Type 0 where
  first : Got
  is : o ≡ course.wrote first
  after : next first ≡ course.wrote g

both_wrote : (o : course.Out) (next : Got → course.Out) {g : Got} → and_on o next ≡ course.wrote g → BothWrote o next g
both_wrote (course.wrote h) next q = record { first = h; is = refl; after = q }
both_wrote (course.refused k) next q = absurd (let z : ◌≡◌ {A = ℕ} 0 1 = cc in omega arith)
both_wrote course.lost next q = absurd (let z : ◌≡◌ {A = ℕ} 0 1 = cc in omega arith)

put_then : (most : ℕ) (s : Store) (w : Row) (next : Got → course.Out) {g : Got} → and_on (put_in most s w) next ≡ course.wrote g →
    (put_in most s w ≡ course.wrote (put s w)) × (next (put s w) ≡ course.wrote g)
put_then most s w next q =
    let both = both_wrote (put_in most s w) next q in
    (put_wrote most s w both.is, ap next (put_at most s w both.is).is ∙ both.after)

module _ {D : ℕ} (most : ℕ) (s : Store) (c n : ℕ) (pass : AllPass D s) (named : c < D) (small : n ≤ most_number) {g : Got} (wrote : succ_in most s c n ≡ course.wrote g) where
  abbrev function : Ptr
  function = ptr (length s) 0

  abbrev below : Ptr
  below = (with_number s c n).at

  abbrev three : Store
  three = (with_both s c n).store

  after_constant : (put_in most s (leaf (const c 0)) ≡ course.wrote (with_constant s c n)) ×
      (and_on (put_in most (with_constant s c n).store (leaf (num n))) (λ b. put_in most b.store (node app function b.at blank)) ≡ course.wrote g)
  unfolding succ_in
  after_constant = put_then most s (leaf (const c 0)) _ wrote

  after_number : (put_in most (with_constant s c n).store (leaf (num n)) ≡ course.wrote (with_number s c n)) ×
      (put_in most (with_number s c n).store (node app function below blank) ≡ course.wrote g)
  after_number = put_then most (with_constant s c n).store (leaf (num n)) _ after_constant.1

  first_stage : Stage D s (with_constant s c n)
  first_stage = constant_stage most pass c named after_constant.0

  second_stage : Stage D (with_constant s c n).store (with_number s c n)
  second_stage = number_stage most first_stage.pass n small after_number.0

  third_stage : Stage D (with_number s c n).store (with_both s c n)
  third_stage = app_stage most second_stage.pass (ext_good second_stage.more first_stage.good) second_stage.good (put_wrote most _ _ after_number.1)

  -- the constant and the number, seen from the rows written after them
  constant_cell : cell_at three (length s) ≡ cell_at (with_constant s c n).store (length s)
  constant_cell = ext_cell (ext_then second_stage.more third_stage.more) (length s) first_stage.good.lower

  number_cell : cell_at three below.row ≡ cell_at (with_number s c n).store below.row
  number_cell = ext_cell third_stage.more below.row second_stage.good.lower

  function_closed : (cell_at three (length s)).bound ≡ 0
  function_closed = ap (λ (x : Cell). x.bound) constant_cell ∙ constant_closed s c

  below_closed : (cell_at three below.row).bound ≡ 0
  below_closed = ap (λ (x : Cell). x.bound) number_cell ∙ number_closed (with_constant s c n).store n

  constant_here : row_at three (length s) ≡ leaf (const c 0)
  constant_here = ap (λ (x : Cell). x.row) constant_cell ∙ end_row s (leaf (const c 0))

  last_closed : (cell_at three (with_both s c n).at.row).bound ≡ 0
  last_closed =
      ap (λ (x : Cell). x.bound) (end_cell (with_number s c n).store (cell (with_number s c n).store (node app function below blank)))
      ∙ app_closed (with_number s c n).store (length s) below.row
      (ap (λ (x : Cell). x.bound) (ext_cell second_stage.more (length s) first_stage.good.lower) ∙ constant_closed s c)
      (number_closed (with_constant s c n).store n)

  succ_spine : Spine three (with_both s c n).at [] function (below ∷ [])
  succ_spine =
      let inner : Spine three (up three function 0) (up three below 0 ∷ []) function (below ∷ []) =
      rw (closed_up three (length s) function_closed, closed_up three below.row below_closed) (head (subst NoApp (sym constant_here) no_const)) in
      through (end_row (with_number s c n).store (node app function below blank)) inner

  pub succ_last : LastRow D (with_both s c n) (ptr (suc (length s)) 0 ∷ [])
  succ_last = record {
    pass = third_stage.pass;
    scope = λ d. closed_scope three _ d third_stage.good.lower last_closed;
    arguments = args_are (pass_formed third_stage.pass) third_stage.good succ_spine ∙ ap (λ (k : ℕ). ptr k 0 ∷ []) (put-length s (leaf (const c 0)));
  }
