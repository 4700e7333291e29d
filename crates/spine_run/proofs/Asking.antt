-- What the program's tests show: rows pass and the term is in scope, and so its spine may be walked and its arguments applied.
-- Assumes nothing.
use mathlib.Core.Bool.{false}
use Rattle.std.proofs.Common.{ℕ, ◌+◌, ◌≤◌, ◌<◌, ◌≡◌, List, get_or, sym, ap, ◌∙◌, arith}
use Rattle.rules.specs.Rows.{Cell, bound}
use Rattle.rules.specs.RowCheck as rules
use Rattle.rules.specs.RowCheck.{InScope}
use Rattle.rows.specs.declared.Ptr.{Ptr}
use Rattle.std.specs.Prelude.{Result, Ok, is_err, ⊤}
use Rattle.rows.specs.declared.refusals.Refused.{Refused}
use Rattle.rows.specs.Words.{ptr_of, decode, words_at, store_of, whole, Held}
use Rattle.rows.specs.Checks.{CheckSays, all_pass, broken}
use Rattle.rows.proofs.Store.{cell_is, bound_used, held_length}
use Rattle.spine.specs.declared.Spined.{Spined}
use Rattle.spine.specs.Walks.{Walks, Walked, Counted, Applies}
use Rattle.spine.proofs.ForCallers.{may_walk, may_ask, walked_count}
use Rattle.spine_run.specs.Ready.{Ready, Shows}

pub not_shown : {P : Type 0} → Shows P false
not_shown = record { yes = λ e. absurd (let z : ◌≡◌ {A = ℕ} 0 1 = cc in omega arith) }

-- the row check's answer is that all rows pass
pub pass_of : {D m nlib : ℕ} {l sc : List ℕ} {r : Result ⊤ Refused} → CheckSays D l sc m nlib r → is_err r ≡ false → rules.AllPass D (store_of l sc m)
pass_of (all_pass k) e = record { each = λ n h. k.rules n (let many = k.many in omega arith) }
pass_of (broken b) e = absurd (let z : ◌≡◌ {A = ℕ} 0 1 = cc in omega arith)

module _ (l sc : List ℕ) (m nlib : ℕ) (held : Held l sc m nlib) (t : Ptr) where
  -- a pointer to a used row, with a bound up to the depth, and shift 0 where the row is closed
  pub scope_of : (b : ℕ) → t.row < nlib + m → b ≡ bound (whole l sc) (ptr_of t) → b ≤ 4096 → (get_or (words_at l sc t.row) 7 0 ≡ 0 → t.shift ≡ 0) →
      InScope (store_of l sc m) 4096 (ptr_of t)
  unfolding decode
  scope_of b low is_bound small still =
      let many = held_length l sc m nlib held in
      let here = ap (λ (x : Cell). x.bound) (cell_is l sc nlib held.whole_library m t.row low) in
      let used = bound_used l sc m nlib held t.row low t.shift in
      record { there = omega arith; still = λ e. still (sym here ∙ e); within = rw (← used, ← is_bound) small }

  -- every test has passed but the last, that a closed pointer's shift is 0
  pub ready_by : {r : Result ⊤ Refused} → CheckSays 1 l sc m nlib r → is_err r ≡ false → t.row < nlib + m → (b : ℕ) → b ≡ bound (whole l sc) (ptr_of t) → b ≤ 4096 →
      (ws : List ℕ) → ws ≡ words_at l sc t.row → (k : ℕ) → k ≡ get_or ws 7 0 → (k ≡ 0 → t.shift ≡ 0) → Ready l sc m t
  ready_by says all low b is_bound small ws read k word still = record {
    pass = pass_of says all;
    scope = scope_of b low is_bound small (λ e. still (word ∙ ap (λ (xs : List ℕ). get_or xs 7 0) read ∙ e));
  }

  module _ (ready : Ready l sc m t) where
    pub walks_of : Walks l sc t
    walks_of = may_walk l sc m nlib 1 4096 held ready.pass t ready.scope (omega arith)

    module _ (r : Spined) (walked : Walked (whole l sc) (ptr_of t) r) where
      pub counted_of : Counted l sc t r.count
      counted_of = may_ask l sc m nlib 1 4096 held ready.pass t ready.scope (omega arith) _ (sym (walked_count l sc m nlib 1 4096 held ready.pass t ready.scope r walked))

      pub applies_of : (f : Ptr) (from to : ℕ) → f.row < nlib + m → from ≤ to → to ≤ r.count → Applies l sc nlib m f t r.count from to
      applies_of f from to there run inside = record {
        depth = 4096;
        declarations = 1;
        held = held;
        pass = ready.pass;
        scope = ready.scope;
        small = omega arith;
        counted = sym (walked_count l sc m nlib 1 4096 held ready.pass t ready.scope r walked);
        there = there;
        run = run;
        inside = inside;
      }
