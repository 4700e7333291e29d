-- The three cases of a pointer, and what each way out of the code comes to as the course has it. Assumes nothing but what the code is given.
use Prim.Native.Nat.{ℕ, zero, suc, ◌+◌, ◌*◌, ◌-◌, ◌≤◌, ◌<◌}
use native.Mathlib.Omega.{arith}
use mathlib.Core.Path.{◌≡◌, refl, sym, ap, ◌∙◌}
use mathlib.Core.List.{List}
use Rattle.rules.specs.Rows as rules
use Rattle.rules.specs.Rows.{Store, cell_at, row_at, bound, up, got}
use Rattle.rules.specs.Replacement.{count}
use Rattle.course.specs.Views.{Cmp, up_to, over, cmp}
use Rattle.course.specs.Charged as course
use Rattle.course.specs.Charged.{and_on, row_in, ptr_in, replace_in}
use Rattle.substitution.specs.Passing.{pass_formed}
use Rattle.safety.specs.NeverLost.{never_flat}
use Rattle.std.specs.Prelude.{Ok, Err}
use Rattle.rows.specs.declared.Ptr.{Ptr}
use Rattle.rows.specs.declared.refusals.Refusal.{Refusal}
use Rattle.rows.specs.Refusals.{Out}
use Rattle.rows.specs.Words.{ptr_of, store_of, whole, Stands, Held}
use Rattle.rows.specs.Writes.{Wrote}
use Rattle.rows.proofs.Store.{used_stands, bound_used, up_used, held_length}
use Rattle.rows.proofs.InTurn.{wrote_nothing, done_held, wrote_then}
use Rattle.replace.specs.declared.Sub.{Sub}
use Rattle.replace.specs.Replaced.{value_of, most_rows, height_of, RowReady, PtrReady, RowDone, Replaced}
use Rattle.replace.proofs.Later.{says_also}
use Rattle.replace.proofs.Indices.{near_done, near_refused, up_near}

-- a pointer that neither stays nor moves
pub record Inside (l sc : List ℕ) (nlib m : ℕ) (p : Ptr) (c : ℕ) (x : Sub) : Type 0 where
  pub given : PtrReady l sc nlib m p c x
  pub over_it : c < bound (store_of l sc m) (ptr_of p)
  pub low : p.shift < c + count (value_of x)

-- what is made of a row's answer
abbrev raised : ℕ → course.Out → course.Out
raised k o = and_on o (λ g. course.wrote (got g.store (up g.store g.at k)))

module _ {l sc : List ℕ} {nlib m : ℕ} {p : Ptr} {c : ℕ} {x : Sub} (given : PtrReady l sc nlib m p c x) where
  abbrev s : Store
  s = store_of l sc m

  abbrev most : ℕ
  most = most_rows nlib sc

  abbrev n : ℕ
  n = count (value_of x)

  abbrev held : Held l sc m nlib
  held = given.ready.sound.held

  there : p.row < nlib + m
  there = omega (arith, given.good.lower, held_length l sc m nlib held)

  pub pointer_stands : Stands l sc p.row
  pointer_stands = used_stands l sc m nlib held p.row there

  -- the bound that was read is the pointer's
  bound_here : {b : ℕ} → b ≡ bound (whole l sc) (ptr_of p) → b ≡ bound s (ptr_of p)
  bound_here e = e ∙ bound_used l sc m nlib held p.row there p.shift

  -- the course's answer for the pointer, by its two tests
  abbrev by_tests : ℕ → Cmp (bound s (ptr_of p)) c → Cmp (c + n) p.shift → course.Out
  by_tests f = ptr_in most (value_of x) x.by (replace_in most (value_of x) x.by f) c s (ptr_of p)

  abbrev tested : ℕ → course.Out
  tested f = by_tests f (cmp (bound s (ptr_of p)) c) (cmp (c + n) p.shift)

  -- fuel for the row's height is never 0
  with_fuel : {r : Out} {sc' : List ℕ} → ((f : ℕ) → height_of l sc m p.row ≤ suc f → Wrote l sc m r sc' (tested f)) →
      (f : ℕ) → height_of l sc m p.row ≤ f → Wrote l sc m r sc' (replace_in most (value_of x) x.by f c s (ptr_of p))
  unfolding replace_in
  with_fuel w zero h = absurd (never_flat (pass_formed given.ready.sound.pass) given.good h)
  with_fuel w (suc f) h = w f h

  -- THE COURSE'S CASES

  module _ (f : ℕ) where
    on_same : bound s (ptr_of p) ≤ c → (a : Cmp (bound s (ptr_of p)) c) (b : Cmp (c + n) p.shift) → course.wrote (got s (ptr_of p)) ≡ by_tests f a b
    on_same h (up_to q) b = refl
    on_same h (over q) b = absurd (omega arith)

    on_moved : c < bound s (ptr_of p) → c + n ≤ p.shift → (a : Cmp (bound s (ptr_of p)) c) (b : Cmp (c + n) p.shift) →
        course.wrote (got s (rules.ptr p.row (p.shift - n + x.by))) ≡ by_tests f a b
    on_moved h k (up_to q) b = absurd (omega arith)
    on_moved h k (over q) (up_to j) = refl
    on_moved h k (over q) (over j) = absurd (omega arith)

    -- the course's answer for the row
    abbrev in_row : course.Out
    in_row = row_in most (value_of x) x.by (replace_in most (value_of x) x.by f) (c - p.shift) s p.row (row_at s p.row)

    on_inside : c < bound s (ptr_of p) → p.shift < c + n → (a : Cmp (bound s (ptr_of p)) c) (b : Cmp (c + n) p.shift) →
        raised p.shift in_row ≡ by_tests f a b
    on_inside h k (up_to q) b = absurd (omega arith)
    on_inside h k (over q) (up_to j) = absurd (omega arith)
    on_inside h k (over q) (over j) = refl

  -- THE CODE'S WAYS OUT

  pub row_ready : RowReady l sc nlib m p.row (c - p.shift) x
  row_ready = record { ready = given.ready; there = there; near = let n = given.near in omega arith }

  module _ {b : ℕ} (read : b ≡ bound (whole l sc) (ptr_of p)) where
    pub same_done : b ≤ c → Replaced l sc nlib m p c x (Ok (p, m)) sc
    same_done h = record {
      wrote = with_fuel (λ f g. says_also (wrote_nothing l sc m p held.room) (on_same f (omega (arith, bound_here read)) _ _));
      near = near_done there (omega arith);
    }

    module _ {k : ℕ} (counted : k ≡ n) where
      pub moved_done : c < b → c + k ≤ p.shift → Replaced l sc nlib m p c x (Ok (record { row = p.row; shift = p.shift - k + x.by }, m)) sc
      moved_done h j = record {
        wrote = with_fuel (λ f g. says_also (wrote_nothing l sc m _ held.room)
            (ap (λ (i : ℕ). course.wrote (got s (rules.ptr p.row (p.shift - i + x.by)))) counted
            ∙ on_moved f (omega (arith, bound_here read)) (omega arith) _ _));
        near = near_done there (omega arith);
      }

      pub goes_inside : c < b → p.shift < c + k → Inside l sc nlib m p c x
      goes_inside h j = record { given = given; over_it = omega (arith, bound_here read); low = omega arith }

-- A ROW REPLACED IN

module _ {l sc : List ℕ} {nlib m : ℕ} {p : Ptr} {c : ℕ} {x : Sub} (inside : Inside l sc nlib m p c x) where
  -- what is made of the row's answer is the pointer's
  inside_wrote : {r : Out} {sc' : List ℕ} → ((f : ℕ) → height_of l sc m p.row ≤ suc f → Wrote l sc m r sc' (raised p.shift (in_row inside.given f))) →
      (f : ℕ) → height_of l sc m p.row ≤ f →
      Wrote l sc m r sc' (replace_in (most_rows nlib sc) (value_of x) x.by f c (store_of l sc m) (ptr_of p))
  inside_wrote w = with_fuel inside.given (λ f h. says_also (w f h) (on_inside inside.given f inside.over_it inside.low _ _))

  pub inside_refused : {k : Refusal} {sc' : List ℕ} → RowDone l sc nlib m p.row (c - p.shift) x (Err k) sc' → Replaced l sc nlib m p c x (Err k) sc'
  inside_refused done = record {
    wrote = inside_wrote (λ f h. let w = done.wrote f h in says_also w (sym w.says ∙ ap (raised p.shift) w.says));
    near = near_refused;
  }

  module _ {q : Ptr} {m' : ℕ} {sc' : List ℕ} (done : RowDone l sc nlib m p.row (c - p.shift) x (Ok (q, m')) sc') where
    below : q.row < nlib + m'
    below = done.near.below q m' refl

    held' : Held l sc' m' nlib
    held' = done_held l sc m q m' sc' _ (done.wrote (height_of l sc m p.row) (omega arith)) nlib inside.given.ready.sound.held

    pub inside_stands : Stands l sc' q.row
    inside_stands = used_stands l sc' m' nlib held' q.row below

    pub inside_done : {u : Ptr} → ptr_of u ≡ up (whole l sc') (ptr_of q) p.shift → Replaced l sc nlib m p c x (Ok (u, m')) sc'
    inside_done {u} read =
        let is : ptr_of u ≡ up (store_of l sc' m') (ptr_of q) p.shift = read ∙ up_used l sc' m' nlib held' q.row below q.shift p.shift in
        let near = up_near (cell_at (store_of l sc' m') q.row).bound (ptr_of q) p.shift in
        record {
          wrote = inside_wrote (λ f h.
              let w = done.wrote f h in
              says_also (wrote_then l sc m q m' sc' _ w (Ok (u, m')) sc' _ (wrote_nothing l sc' m' u held'.room))
              (ap (λ (g : rules.Ptr). course.wrote (got (store_of l sc' m') g)) is ∙ ap (raised p.shift) w.says));
          near = near_done
              (omega (arith, below, ap (λ (g : rules.Ptr). g.row) is, near.0))
              (omega (arith, ap (λ (g : rules.Ptr). g.shift) is, near.1, done.near.shift q m' refl, inside.low));
        }

-- the measure falls from a pointer to its row
pub rank_falls : (h rank : ℕ) → 3 * h + 1 ≡ rank → 3 * h < rank
rank_falls h rank e = omega arith
