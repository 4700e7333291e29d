-- What a caller reads off the walks' answers: head and count are those of the store of used rows, each argument is the one at its
-- position, and all of them are in scope where the term is.
-- Assumes rows that pass up to the mark and a term in scope there.
use Prim.Native.Nat.{ℕ, zero, suc, ◌≤◌}
use mathlib.Core.Path.{◌≡◌, sym, ap, ◌∙◌, subst}
use mathlib.Core.List.{List, []}
use mathlib.Core.Option.{some}
use native.Mathlib.Omega.{arith}
use lib.ListN.{length}
use Rattle.rules.specs.Maxima.{most_bound}
use Rattle.rules.specs.Rows as rules
use Rattle.rules.specs.Rows.{Store}
use Rattle.rules.specs.RowCheck.{AllPass, InScope}
use Rattle.rules.specs.Declarations.{nth}
use Rattle.rules.specs.Spines.{Spine}
use Rattle.substitution.specs.Stores.{scope_good}
use Rattle.substitution.specs.Passing.{pass_formed}
use Rattle.promises.specs.Same.{spine_same}
use Rattle.ways.specs.Spines.{head_of, args_of, spine_of, spine_later, spine_scope, SpineScope, AllScope, no_more, and_more}
use Rattle.rows.specs.declared.Ptr.{Ptr}
use Rattle.rows.specs.Words.{ptr_of, store_of, whole, Held}
use Rattle.spine.specs.declared.Spined.{Spined}
use Rattle.spine.specs.Walks.{Walks, Walked, Argument, Counted}
use Rattle.spine.proofs.Prefix.{whole_ext}

-- one of several in scope
pub scope_at : {s : Store} {d : ℕ} {x : rules.Ptr} {xs : List rules.Ptr} → AllScope s d xs → (i : ℕ) → nth xs i ≡ some x → InScope s d x
unfolding nth
scope_at no_more i e = absurd (let z : ◌≡◌ {A = ℕ} 0 1 = cc in omega arith)
scope_at {s} {d} (and_more o os) zero e = subst (InScope s d) (let z = e in cc) o
scope_at (and_more o os) (suc i) e = scope_at os i e

module _ (l sc : List ℕ) (m nlib D d : ℕ) (held : Held l sc m nlib) (pass : AllPass D (store_of l sc m)) (t : Ptr) (scope : InScope (store_of l sc m) d (ptr_of t)) where
  abbrev s : Store
  s = store_of l sc m

  -- TO CALL

  pub may_walk : d ≤ most_bound → Walks l sc t
  may_walk small = record { mark = m; nlib = nlib; depth = d; declarations = D; held = held; pass = pass; scope = scope; small = small }

  pub may_ask : d ≤ most_bound → (count : ℕ) → length (args_of s (ptr_of t)) ≡ count → Counted l sc t count
  unfolding may_walk
  may_ask small count many = record { walks = may_walk small; counted = many }

  -- WHAT IS ANSWERED

  -- a walk may read rows past the mark too, and they change no spine of the used ones
  spine_in_whole : Spine (whole l sc) (ptr_of t) [] (head_of s (ptr_of t)) (args_of s (ptr_of t))
  spine_in_whole = spine_later (pass_formed pass) (whole_ext l sc m nlib held) (scope_good scope) (spine_of (pass_formed pass) (scope_good scope))

  all_in_scope : SpineScope s d (head_of s (ptr_of t)) (args_of s (ptr_of t))
  all_in_scope = spine_scope (pass_formed pass) scope no_more (spine_of (pass_formed pass) (scope_good scope))

  pub head_in_scope : InScope s d (head_of s (ptr_of t))
  head_in_scope = all_in_scope.head

  pub arguments_in_scope : AllScope s d (args_of s (ptr_of t))
  arguments_in_scope = all_in_scope.arguments

  module _ (r : Spined) (walked : Walked (whole l sc) (ptr_of t) r) where
    pub walked_head : ptr_of r.head ≡ head_of s (ptr_of t)
    walked_head = (spine_same walked.spine spine_in_whole).head

    pub walked_count : r.count ≡ length (args_of s (ptr_of t))
    walked_count = sym walked.many ∙ ap length (spine_same walked.spine spine_in_whole).arguments

    pub walked_head_scope : InScope s d (ptr_of r.head)
    walked_head_scope = rw walked_head head_in_scope

  module _ (count i : ℕ) (r : Ptr) (many : length (args_of s (ptr_of t)) ≡ count) (answered : Argument (whole l sc) (ptr_of t) count i r) where
    pub argument_is : nth (args_of s (ptr_of t)) i ≡ some (ptr_of r)
    argument_is = answered.is _ _ spine_in_whole many

    pub argument_scope : InScope s d (ptr_of r)
    argument_scope = scope_at arguments_in_scope i argument_is
