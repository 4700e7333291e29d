-- The walk to the head: what holds at each application that it has reached, and what it has found at its end.
-- Assumes nothing.
use Prim.Native.Nat.{ℕ, ◌+◌, ◌≤◌, ◌<◌}
use native.Mathlib.Omega.{arith}
use mathlib.Core.Path.{◌≡◌, refl, ap}
use mathlib.Core.List.{List, [], ◌∷◌}
use lib.ListN.{length, get_or}
use Rattle.rules.specs.Rows as rules
use Rattle.rules.specs.Rows.{Cell, cell_at, up}
use Rattle.rules.specs.RowCheck.{InScope}
use Rattle.rules.specs.Spines.{Spine, head}
use Rattle.substitution.specs.Stores.{scope_good}
use Rattle.substitution.specs.Passing.{pass_formed}
use Rattle.ways.specs.Spines.{spine_later}
use Rattle.rows.specs.declared.Ptr.{Ptr}
use Rattle.rows.specs.Words.{ptr_of, pair_at, decode, words_at, store_of, whole, Stands}
use Rattle.rows.proofs.Store.{cell_is, used_stands, held_length}
use Rattle.spine.proofs.Prefix.{whole_ext}
use Rattle.spine.specs.Walks.{Walks, HasChild, Walked}
use Rattle.spine.proofs.Walking.{has_function, function_answered, step_scope, step_lower, step_spine, head_there}

-- the recorded height, where it stands
abbrev pub height_at : List ℕ → List ℕ → Ptr → ℕ
height_at l sc p = get_or (words_at l sc p.row) 8 0

-- the walk has come from t to h, and has `count` arguments behind it
pub record Walking (l sc : List ℕ) (t h : Ptr) (count : ℕ) : Type 0 where
  pub walks : Walks l sc t
  pub scope : InScope (store_of l sc walks.mark) walks.depth (ptr_of h)
  pub behind : List rules.Ptr
  pub many : length behind ≡ count
  pub goes : (x : rules.Ptr) (ys : List rules.Ptr) → Spine (store_of l sc walks.mark) (ptr_of h) behind x ys → Spine (store_of l sc walks.mark) (ptr_of t) [] x ys
  pub lower : count + height_at l sc h ≤ 2000

module _ (l sc : List ℕ) (t : Ptr) where
  -- a row below the mark: its recorded height is the one in the words
  height_is : (w : Walks l sc t) (p : Ptr) → InScope (store_of l sc w.mark) w.depth (ptr_of p) → (cell_at (store_of l sc w.mark) p.row).height ≡ height_at l sc p
  unfolding decode
  height_is w p i =
      let e = held_length l sc w.mark w.nlib w.held in
      let h = i.there in
      ap (λ (x : Cell). x.height) (cell_is l sc w.nlib w.held.whole_library w.mark p.row (omega arith))

  pub start : Walks l sc t → Walking l sc t t 0
  start w =
      let f = (w.pass.each t.row w.scope.there).fits.height in
      let e = height_is w t w.scope in
      record { walks = w; scope = w.scope; behind = []; many = refl; goes = λ x ys r. r; lower = omega arith }

  module _ (h : Ptr) (count : ℕ) (k : Walking l sc t h count) where
    pub stands : Stands l sc h.row
    stands =
        let w = k.walks in
        let e = held_length l sc w.mark w.nlib w.held in
        let i = k.scope.there in
        used_stands l sc w.mark w.nlib w.held h.row (omega arith)

    module _ (three : get_or (words_at l sc h.row) 0 0 ≡ 3) where
      pub child_there : HasChild l sc h 0
      child_there = let w = k.walks in has_function l sc w.mark w.nlib w.depth w.held (pass_formed w.pass) w.small h k.scope three

      module _ (r : Ptr) (e : ptr_of r ≡ up (whole l sc) (ptr_of (pair_at (words_at l sc h.row) 0)) h.shift) where
        e' : ptr_of r ≡ up (store_of l sc k.walks.mark) (ptr_of (pair_at (words_at l sc h.row) 0)) h.shift
        e' = let w = k.walks in function_answered l sc w.mark w.nlib w.depth w.held (pass_formed w.pass) w.small h k.scope three r e

        lies_lower : height_at l sc r < height_at l sc h
        lies_lower =
            let w = k.walks in
            let a = step_lower l sc w.mark w.nlib w.depth w.held (pass_formed w.pass) w.small h k.scope three r e' in
            let b = height_is w h k.scope in
            let c = height_is w r (step_scope l sc w.mark w.nlib w.depth w.held (pass_formed w.pass) w.small h k.scope three r e') in
            omega arith

        pub falls : height_at l sc r < height_at l sc h
        falls = lies_lower

        pub step : Walking l sc t r (count + 1)
        step =
            let w = k.walks in
            let low = lies_lower in
            let m = k.many in
            let b = k.lower in
            record {
              walks = w;
              scope = step_scope l sc w.mark w.nlib w.depth w.held (pass_formed w.pass) w.small h k.scope three r e';
              behind = up (store_of l sc w.mark) (ptr_of (pair_at (words_at l sc h.row) 1)) h.shift ∷ k.behind;
              many = omega arith;
              goes = λ x ys q. k.goes x ys (step_spine l sc w.mark w.nlib w.depth w.held (pass_formed w.pass) w.small h k.scope three r e' q);
              lower = omega arith;
            }

    -- the kind word is not 3: this is the head
    pub ended : (get_or (words_at l sc h.row) 0 0 ≡ 3 → ⊥) → Walked (whole l sc) (ptr_of t) (record { head = h; count = count })
    ended f =
        let w = k.walks in
        let s = k.goes (ptr_of h) k.behind (head (head_there l sc w.mark w.nlib w.held h k.scope f)) in
        record {
          arguments = k.behind;
          spine = spine_later (pass_formed w.pass) (whole_ext l sc w.mark w.nlib w.held) (scope_good w.scope) s;
          many = k.many;
        }
