-- `spine::child` meets its contract: the pair is read where the row stands, and takes the pointer's shift on.
-- Assumes nothing.
use native.Mathlib.Omega.{arith}
use mathlib.Core.Path.{◌≡◌, ap, ◌∙◌}
use mathlib.Core.List.{List}
use Prim.Native.Nat.{ℕ}
use Rattle.rules.specs.Rows.{up}
use Rattle.rows.specs.declared.Ptr.{Ptr}
use Rattle.rows.specs.Words.{ptr_of, pair_at, words_at, whole}
use Rattle.spine.proofs.child.Goals as goal
use Rattle.spine.proofs.child.Goals.{After-pair_of-p}

pub pair_of-p-requires : goal.pair_of-p-requires
pair_of-p-requires c = c.requires.j_bound

pair_is : (c : After-pair_of-p) →
    c.pair_of-p.result ≡ pair_at (words_at c.args.library.now c.args.scratch.now c.args.t.row) c.args.j
pair_is c = c.pair_of-p.ensures ∙ ap (λ (ws : List ℕ). pair_at ws c.args.j) c.row_at.ensures

pub shift_up-requires : goal.shift_up-requires
shift_up-requires c =
    let pair = pair_is (goal.at.shift_up-requires c).After-pair_of-p in
    let pre = c.requires.has_child in
    let fits = pre.fits in
    record { stands = rw pair pre.there; k_bound = rw pair (omega arith) }

pub returns : goal.returns
returns c =
    c.shift_up.ensures
    ∙ ap (λ (p : Ptr). up (whole c.args.library.now c.args.scratch.now) (ptr_of p) c.args.t.shift) (pair_is (goal.at.returns c).After-pair_of-p)
