-- The asks of those members that are a part of a form. Assumes nothing: these are definitions.
use Rattle.std.specs.Prelude.{ℕ}
use Rattle.std.proofs.Math.Option.{some}
use Rattle.rules.specs.Kinds.{proj}
use Rattle.rules.specs.Rows.{Ptr, blank, node, Store, bound, up}
use Rattle.inferring.specs.Asks.{Ask, writes, opens, structures, is_zero, pi_of, question, allowed, parameters, if_loose, earlier, chosen}

-- field i of the structure X, from its reduced type S on
unfoldable pub field_of : ℕ → ℕ → Ptr → Ptr → Ask
field_of c i X S =
    question S λ s q.
    structures S c λ n C ys.
    parameters n ys s C.type λ s₁ W.
    earlier c X q 0 i s₁ W λ s₂ F.
    chosen q F

-- earlier field j, when the structure type's own type is the sort of this level: what follows goes on with the rest of the constructor's type
unfoldable pub earlier_field : ℕ → Ptr → ℕ → ℕ → Ptr → (Store → Ptr → Ask) → Ask
earlier_field c X level j W next =
    pi_of W λ s x b k.
    if_loose (bound s b)
    (next s b)
    (allowed s (up s x k) (is_zero level) λ s₁.
    writes (node (proj c j) X blank blank) λ s₂ f.
    opens (some f) k 0 b next)

abbrev pub chosen_of : ℕ → Ptr → Ask
chosen_of level F = chosen (is_zero level) F
