-- What the members of the cycle share around a side reduction: the answer as the caller's pattern has it, an argument
-- of the term whose head is tried, and what the readers of a reduced term are given.
-- Assumes what a member is given.
use Prim.Native.Nat.{ℕ, ◌+◌, ◌*◌, ◌/◌, ◌<◌}
use native.Mathlib.Omega.{arith}
use mathlib.Core.Path.{◌≡◌, subst}
use mathlib.Core.List.{List}
use mathlib.Core.Option.{some}
use lib.ListN.{length}
use Rattle.rules.specs.Rows as rules
use Rattle.rules.specs.RowCheck.{AllPass, InScope}
use Rattle.rules.specs.Declarations.{nth}
use Rattle.course.specs.Eval.{Res}
use Rattle.ways.specs.Spines.{args_of}
use Rattle.rows.specs.declared.Ptr.{Ptr}
use Rattle.rows.specs.Words.{ptr_of, store_of, whole}
use Rattle.rows.proofs.Store.{held_length}
use Rattle.spine.specs.Walks as walks
use Rattle.spine.proofs.ForCallers.{scope_at, may_ask, arguments_in_scope, argument_is, argument_scope}
use Rattle.fields.specs.Fields as fields
use Rattle.state.specs.declared.Given.{Given}
use Rattle.state.specs.declared.Meter.{Meter}
use Rattle.state.specs.State.{Reduced}
use Rattle.state.specs.State.{Headed}
use Rattle.cycle.specs.Cycle.{Asked, Counted, Ran, res_by}
use Rattle.cycle.proofs.Standing.{declarations_are, headed_of}
use Rattle.cycle.proofs.WaysOut.{q_asked, t_counted}
use Rattle.std.specs.Prelude.{Ok}

-- within a level, the members that ask for a side reduction stand one rank above it
pub side_falls : {t : ℕ} (n : ℕ) → 6 * n + 1 ≡ t → 6 * n + 0 < t
side_falls n e = omega arith

-- THE ANSWER, as the caller's pattern has it
pub ran_as : {l sc sc₁ : List ℕ} {m : Meter} {r r' : Reduced} {res : Res} → r ≡ r' → Ran l sc m r sc₁ res → Ran l sc m r' sc₁ res
ran_as {l} {sc} {sc₁} {m} {res = res} e k = subst (λ (o : Reduced). Ran l sc m o sc₁ res) e k

-- A TERM IN SCOPE
module _ {l ds rs cs sc : List ℕ} {g : Given} {m : Meter} {t : Ptr} (a : Asked l ds rs cs sc g m t) where
  pub rows_pass : AllPass (length ds / 16) (store_of l sc m.mark)
  rows_pass = subst (λ (D : ℕ). AllPass D (store_of l sc m.mark)) (declarations_are ds rs cs g.depth) a.stand.sane.pass

  -- its head and its arguments can be read
  pub may_read : fields.Reduced l ds sc t
  may_read = record {
    nlib = g.nlib;
    mark = m.mark;
    depth = g.depth;
    held = a.stand.held;
    pass = rows_pass;
    scope = a.scope;
    small = a.stand.small;
  }

  -- what is in scope stands below the mark
  pub scope_below : {p : Ptr} → InScope (store_of l sc m.mark) g.depth (ptr_of p) → p.row < g.nlib + m.mark
  scope_below {p} i =
      let many = held_length l sc m.mark g.nlib a.stand.held in
      let there = i.there in
      omega arith

-- AN ARGUMENT of the term whose head is tried
module _ {l ds rs cs sc : List ℕ} {g : Given} {m : Meter} {t : Ptr} {count : ℕ} (c : Counted l ds rs cs sc g m t count) where
  pub may_take : walks.Counted l sc t count
  may_take =
      may_ask l sc m.mark g.nlib _ g.depth c.asked.stand.held c.asked.stand.sane.pass t c.asked.scope c.asked.stand.small
      count c.counted

  -- an argument by its position is in scope
  pub nth_taken : {x : rules.Ptr} (i : ℕ) → nth (args_of (store_of l sc m.mark) (ptr_of t)) i ≡ some x → InScope (store_of l sc m.mark) g.depth x
  nth_taken i q =
      scope_at (arguments_in_scope l sc m.mark g.nlib _ g.depth c.asked.stand.held c.asked.stand.sane.pass t c.asked.scope) i q

  module _ {i : ℕ} {x : Ptr} (taken : walks.Argument (whole l sc) (ptr_of t) count i x) where
    pub taken_is : nth (args_of (store_of l sc m.mark) (ptr_of t)) i ≡ some (ptr_of x)
    taken_is =
        argument_is l sc m.mark g.nlib _ g.depth c.asked.stand.held c.asked.stand.sane.pass t c.asked.scope count i x c.counted taken

    pub taken_scope : InScope (store_of l sc m.mark) g.depth (ptr_of x)
    taken_scope =
        argument_scope l sc m.mark g.nlib _ g.depth c.asked.stand.held c.asked.stand.sane.pass t c.asked.scope count i x c.counted taken

    -- it may be reduced
    pub taken_asked : Asked l ds rs cs sc g m x
    taken_asked = record { stand = c.asked.stand; scope = taken_scope }

-- A SIDE REDUCTION of x came to q, in rows sc₁ up to m₁; t is the term whose head is tried, n the levels that are left
pub record Came (l ds rs cs sc : List ℕ) (g : Given) (m : Meter) (t : Ptr) (count n : ℕ) (x : Ptr) (sc₁ : List ℕ) (q : Ptr) (m₁ : Meter) : Type 0 where
  pub given : Counted l ds rs cs sc g m t count
  pub scope : InScope (store_of l sc m.mark) g.depth (ptr_of x)
  pub ran : Ran l sc m (Ok (q, m₁)) sc₁ (res_by l ds rs cs sc g m n (ptr_of x))

module _ {l ds rs cs sc : List ℕ} {g : Given} {m : Meter} {t : Ptr} {count n : ℕ} {x : Ptr} {sc₁ : List ℕ} {q : Ptr} {m₁ : Meter}
    (k : Came l ds rs cs sc g m t count n x sc₁ q m₁) where
  pub came_asked : Asked l ds rs cs sc₁ g m₁ q
  came_asked = q_asked k.given n k.scope k.ran

  pub came_read : fields.Reduced l ds sc₁ q
  came_read = may_read came_asked

  -- t is as it was
  pub still_counted : Counted l ds rs cs sc₁ g m₁ t count
  still_counted = t_counted k.given n k.scope k.ran

  pub still_headed : Headed l sc₁ g m₁ t count
  still_headed = headed_of still_counted
