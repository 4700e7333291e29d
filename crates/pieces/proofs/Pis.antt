-- A reduction to a pi: the ways out of `to_pi`.
-- Assumes what a member is given, and a term in scope.
use Prim.Native.Nat.{ℕ, zero, suc, ◌+◌, ◌≤◌, ◌<◌}
use native.Mathlib.Omega.{arith}
use mathlib.Core.Path.{◌≡◌, refl, sym, ap, ◌∙◌, subst}
use mathlib.Core.List.{List}
use mathlib.Core.Option.{none}
use Rattle.rules.specs.Kinds.{pi, table, fields}
use Rattle.rules.specs.Rows as rules
use Rattle.rules.specs.Rows.{Row, node, blank, Store, cell_at, row_at, up_on, up}
use Rattle.rules.specs.RowCheck.{InScope}
use Rattle.substitution.specs.Stores.{first_ok, term_child, Good}
use Rattle.safety.specs.Sane.{decl_count}
use Rattle.safety.specs.Scope.{RowIn, row_in}
use Rattle.inferring.specs.Views.{PiView, is_pi, no_pi, pi_view}
use Rattle.inferring.specs.Asks.{Ask, untyped, if_pi, pi_of, reduces}
use Rattle.inferring.specs.Eval.{run}
use Rattle.inferring.specs.Scope.{pi_type_in, pi_body_in}
use Rattle.rows.specs.declared.Ptr.{Ptr}
use Rattle.rows.specs.Words.{ptr_of, shape_at, words_at, store_of, whole, Stands}
use Rattle.rows.proofs.Store.{used_stands, up_used}
use Rattle.records.specs.declared.Pi.{Pi}
use Rattle.records.specs.Read.{pi_read}
use Rattle.records.proofs.SortsAndPis.{pi_found, no_pi_found}
use Rattle.state.specs.declared.Meter.{Meter}
use Rattle.state.specs.State.{Reduced, Used}
use Rattle.cycle.proofs.Shifts.{scope_shift}
use Rattle.rows.proofs.Store.{held_length}
use Rattle.typing.specs.Here.{Here, later, depth_at, env_at, res_at, Scope, Ready}
use Rattle.typing.specs.Gives.{gave, refused, Value, Gives, GivesPtr, InAt}
use Rattle.typing.specs.Pieces.{PiParts, PiIn, pi_ask}
use Rattle.typing.proofs.Places.{At, begins, goes_on, stops, piece_gives, piece_stops}
use Rattle.typing.proofs.Reducing.{side_gives}
use Rattle.pieces.specs.Found.{parts_of}
use Rattle.pieces.proofs.Reducts.{SideRan, ready_used, scope_there, reduct}
use Rattle.std.specs.Prelude.{Err, None, Ok, Option as Maybe, Some}
use Rattle.rows.specs.Refusals.{number_of}
use Rattle.rows.specs.declared.refusals.Refusal.{Refusal}

if_a_pi : (w : Row) (v : PiView w) (x b z : rules.Ptr) → w ≡ node pi x b z → (next : rules.Ptr → rules.Ptr → Ask) → if_pi v next ≡ next x b
if_a_pi w (is_pi x' b' z' q) x b z e next =
    let xs : x' ≡ x = cc in
    let bs : b' ≡ b = cc in
    ap (λ (y : rules.Ptr). next y b') xs ∙ ap (next x) bs
if_a_pi w (no_pi f) x b z e next = absurd (f x b z e)

if_no_pi : (w : Row) (v : PiView w) → ((x b z : rules.Ptr) → w ≡ node pi x b z → ⊥) → (next : rules.Ptr → rules.Ptr → Ask) → if_pi v next ≡ untyped
if_no_pi w (is_pi x b z q) f next = absurd (f x b z q)
if_no_pi w (no_pi f) g next = refl

-- a pointer that is in scope when shifted up was shifted at most the depth before
pub shift_before : (s : Store) (p : rules.Ptr) (k d : ℕ) → Good s p → InScope s d (up s p k) → p.shift ≤ d
shift_before s p k d good i = go (cell_at s p.row).bound good.still (scope_shift i)
  where
    go : (b : ℕ) → (b ≡ 0 → p.shift ≡ 0) → (up_on b p k).shift ≤ d → p.shift ≤ d
    go zero still h = omega arith
    go (suc b) still h = omega arith

type_good : {D : ℕ} {s : Store} {d k : ℕ} {x b z : rules.Ptr} → RowIn D s d k (node pi x b z) → Good s x
unfolding fields table
type_good r = term_child (first_ok r.fields)

-- THE WAYS OUT OF `to_pi`

module _ (n : ℕ) {h : Here} (ready : Ready h) {p : Ptr} (scope : Scope h (ptr_of p)) where
  -- the row that q points at is tested
  abbrev tested : (Store → PiParts → Ask) → Store → rules.Ptr → Ask
  tested next s q = if_pi (pi_view (row_at s q.row)) λ x b. next s (record { type = up s x q.shift; body = b; by = q.shift })

  reduction : {r : Reduced} {sc : List ℕ} → SideRan n h p r sc → GivesPtr n h (reduces none (ptr_of p)) r h.context sc
  reduction {r} ran = side_gives n h ready {p = p} scope r ran

  begun : (next : Store → PiParts → Ask) →
      At n h (res_at n h (pi_ask (ptr_of p) next)) h.context h.scratch h.meter (reduces none (ptr_of p) (tested next))
  unfolding pi_ask pi_of
  begun next = begins ready

  -- refused before there was a row to look at
  pub pi_stopped : {k : Refusal} {sc : List ℕ} → SideRan n h p (Err k) sc →
      Gives (PiIn (depth_at h)) n h (pi_ask (ptr_of p)) (refused (number_of k)) h.context sc
  pi_stopped ran = piece_stops refl (λ next. stops (reduction ran) (tested next) (begun next) refl) (reduction ran).keeps

  -- the reduct t, whose row was read
  module _ {t : Ptr} {m : Meter} {sc : List ℕ} (ran : SideRan n h p (Ok (t, m)) sc)
      {x : Maybe Pi} (read : x ≡ pi_read (shape_at (words_at h.library sc t.row))) where
    abbrev s : Store
    s = store_of h.library sc m.mark

    abbrev left : Value (InAt (depth_at h)) h h.context sc (ptr_of t) m
    left = reduct n ready scope ran

    abbrev used : Used h.library sc h.given.nlib m.mark
    used = ready_used left.after.ready

    there : t.row < h.given.nlib + m.mark
    there = scope_there left.after.ready left.fits

    at_row : (next : Store → PiParts → Ask) → At n h (res_at n h (pi_ask (ptr_of p) next)) h.context sc m (tested next s (ptr_of t))
    at_row next = goes_on (reduction ran) (tested next) (begun next) refl

    pub no_pi_reached : x ≡ None → Gives (PiIn (depth_at h)) n h (pi_ask (ptr_of p)) (refused 9) h.context sc
    unfolding run
    no_pi_reached q =
        piece_stops refl
        (λ next.
        let none_there = if_no_pi (row_at s t.row) (pi_view (row_at s t.row)) (no_pi_found h.library sc h.given.nlib m.mark used t there x read q) _ in
        record { is = sym (ap (res_at n (later h h.context sc m)) none_there) ∙ (at_row next).is; keeps = (reduction ran).keeps })
        (reduction ran).keeps

    module _ {a : Pi} (q : x ≡ Some a) where
      is_row : row_at s t.row ≡ node pi (ptr_of a.ty) (ptr_of a.body) blank
      is_row = pi_found h.library sc h.given.nlib m.mark used t there x read a q

      here_row : RowIn (decl_count (env_at h)) s (depth_at h) t.shift (node pi (ptr_of a.ty) (ptr_of a.body) blank)
      here_row = subst (RowIn (decl_count (env_at h)) s (depth_at h) t.shift) is_row (row_in left.after.ready.stand.sane.pass left.fits)

      type_there : a.ty.row < h.given.nlib + m.mark
      type_there = omega (arith, (type_good here_row).lower, held_length h.library sc m.mark h.given.nlib used.held)

      -- what the shift of the type requires
      pub type_stands : Stands h.library sc a.ty.row
      type_stands = used_stands h.library sc m.mark h.given.nlib used.held a.ty.row type_there

      pub type_shift : a.ty.shift + t.shift < 4294967296
      type_shift =
          omega (arith, ready.stand.small, shift_before s (ptr_of a.ty) t.shift (depth_at h) (type_good here_row) (pi_type_in here_row), scope_shift left.fits)

      pub pi_reached : {shifted : Ptr} → ptr_of shifted ≡ up (whole h.library sc) (ptr_of a.ty) t.shift →
          Gives (PiIn (depth_at h)) n h (pi_ask (ptr_of p)) (gave (parts_of (record { ty = shifted; body = a.body; by = t.shift })) m) h.context sc
      pi_reached {shifted} up_is =
          let type_is : ptr_of shifted ≡ up s (ptr_of a.ty) t.shift =
          up_is ∙ up_used h.library sc m.mark h.given.nlib used.held a.ty.row type_there a.ty.shift t.shift in
          piece_gives refl
          (λ next. record {
            is =
                sym (ap (res_at n (later h h.context sc m))
                (if_a_pi (row_at s t.row) (pi_view (row_at s t.row)) (ptr_of a.ty) (ptr_of a.body) blank is_row _
                ∙ ap (λ (y : rules.Ptr). next s (record { type = y; body = ptr_of a.body; by = t.shift })) (sym type_is)))
                ∙ (at_row next).is;
            after = left.after;
          })
          left.after
          (record { type = subst (InScope s (depth_at h)) (sym type_is) (pi_type_in here_row); body = pi_body_in here_row; by = scope_shift left.fits })
