-- The head's row of the rules, from the shape that was read there: a walk to the head, a lookup, and the kind word.
-- Assumes what the member is given.
use Prim.Native.Nat.{ℕ, zero, suc, ◌+◌, ◌<◌}
use native.Mathlib.Omega.{arith}
use mathlib.Core.Path.{◌≡◌, refl, sym, ap, ◌∙◌}
use mathlib.Core.List.{List}
use Rattle.rules.specs.Kinds.{const, lam, let', proj, table}
use Rattle.rules.specs.Rows as rules
use Rattle.rules.specs.Rows.{var, node, blank, Store, row_at}
use Rattle.rules.specs.Declarations.{Env}
use Rattle.course.specs.Tries.{no_rule, at_row}
use Rattle.ways.specs.Steps.{final}
use Rattle.ways.specs.Spines.{head_of, args_of}
use Rattle.rows.specs.declared.Ptr.{Ptr}
use Rattle.rows.specs.declared.Shape.{Shape}
use Rattle.rows.specs.Words.{ptr_of, kind_of, tags_at, row_by, row_of, shape_at, words_at, store_of, whole}
use Rattle.rows.proofs.Store.{row_used, held_length}
use Rattle.spine.specs.declared.Spined.{Spined}
use Rattle.spine.specs.Walks.{Walks, Walked}
use Rattle.spine.proofs.ForCallers.{may_walk, walked_head, walked_count, walked_head_scope}
use Rattle.tables.specs.Env.{env_of}
use Rattle.state.specs.declared.Given.{Given}
use Rattle.state.specs.declared.Meter.{Meter}
use Rattle.state.specs.State.{tally_of}
use Rattle.cycle.specs.Cycle.{Asked, Counted, head_by}
use Rattle.cycle.proofs.Constants.{tried}
use Rattle.cycle.proofs.Heads.{head_at}
use Rattle.cycle.proofs.Binders.{no_rule_tried}

-- kinds that no rule is for, and words that are no kind
no_rule_row : (e : Env) (st : Store) (j : ℕ) (xs : List rules.Ptr) (k : ℕ) (a b c : rules.Ptr) → (k ≡ 0 → ⊥) → (k ≡ 2 → ⊥) → (k ≡ 4 → ⊥) →
    (k ≡ 6 → ⊥) → (k ≡ 7 → ⊥) →
    at_row e st j xs (row_by k a b c) ≡ no_rule
unfolding at_row row_by kind_of tags_at table
no_rule_row e st j xs zero a b c h₀ h₂ h₄ h₆ h₇ = absurd (h₀ refl)
no_rule_row e st j xs (suc zero) a b c h₀ h₂ h₄ h₆ h₇ = refl
no_rule_row e st j xs (suc (suc zero)) a b c h₀ h₂ h₄ h₆ h₇ = absurd (h₂ refl)
no_rule_row e st j xs (suc (suc (suc zero))) a b c h₀ h₂ h₄ h₆ h₇ = refl
no_rule_row e st j xs (suc (suc (suc (suc zero)))) a b c h₀ h₂ h₄ h₆ h₇ = absurd (h₄ refl)
no_rule_row e st j xs (suc (suc (suc (suc (suc zero))))) a b c h₀ h₂ h₄ h₆ h₇ = refl
no_rule_row e st j xs (suc (suc (suc (suc (suc (suc zero)))))) a b c h₀ h₂ h₄ h₆ h₇ = absurd (h₆ refl)
no_rule_row e st j xs (suc (suc (suc (suc (suc (suc (suc zero))))))) a b c h₀ h₂ h₄ h₆ h₇ = absurd (h₇ refl)
no_rule_row e st j xs (suc (suc (suc (suc (suc (suc (suc (suc zero)))))))) a b c h₀ h₂ h₄ h₆ h₇ = refl
no_rule_row e st j xs (suc (suc (suc (suc (suc (suc (suc (suc (suc k))))))))) a b c h₀ h₂ h₄ h₆ h₇ = refl

module _ {l ds rs cs sc : List ℕ} {g : Given} {m : Meter} {t : Ptr} (a : Asked l ds rs cs sc g m t) where
  abbrev s : Store
  s = store_of l sc m.mark

  pub walk_allowed : Walks l sc t
  walk_allowed = may_walk l sc m.mark g.nlib _ g.depth a.stand.held a.stand.sane.pass t a.scope a.stand.small

  module _ (sp : Spined) (walked : Walked (whole l sc) (ptr_of t) sp) where
    pub head_walked : ptr_of sp.head ≡ head_of s (ptr_of t)
    head_walked = walked_head l sc m.mark g.nlib _ g.depth a.stand.held a.stand.sane.pass t a.scope sp walked

    -- the count that was walked is the spine's
    pub walked_counted : Counted l ds rs cs sc g m t sp.count
    walked_counted = record {
      asked = a;
      counted = sym (walked_count l sc m.mark g.nlib _ g.depth a.stand.held a.stand.sane.pass t a.scope sp walked);
    }

    pub head_below : sp.head.row < g.nlib + m.mark
    head_below =
        let i = walked_head_scope l sc m.mark g.nlib _ g.depth a.stand.held a.stand.sane.pass t a.scope sp walked in
        omega (arith, held_length l sc m.mark g.nlib a.stand.held, i.there)

    module _ (w : Shape) (read : w ≡ shape_at (words_at l sc sp.head.row)) where
      shape_row : row_at s (head_of s (ptr_of t)).row ≡ row_of w
      shape_row =
          ap (λ (h : rules.Ptr). row_at s h.row) (sym head_walked) ∙ row_used l sc m.mark g.nlib a.stand.held sp.head.row head_below w read

      row_by_lem : {k : ℕ} → w.kind ≡ k → row_at s (head_of s (ptr_of t)).row ≡ row_by k (ptr_of w.first) (ptr_of w.second) (ptr_of w.third)
      row_by_lem q = shape_row ∙ ap (λ (n : ℕ). row_by n (ptr_of w.first) (ptr_of w.second) (ptr_of w.third)) q

      -- BY THE KIND WORD
      pub shape_variable : w.kind ≡ 0 → row_at s (head_of s (ptr_of t)).row ≡ var w.first.row
      unfolding row_by
      shape_variable q = row_by_lem q

      pub shape_constant : w.kind ≡ 2 → row_at s (head_of s (ptr_of t)).row ≡ node (const w.first.row w.first.shift) blank blank blank
      unfolding row_by kind_of tags_at table
      shape_constant q = row_by_lem q

      pub shape_lambda : w.kind ≡ 4 → row_at s (head_of s (ptr_of t)).row ≡ node lam (ptr_of w.first) (ptr_of w.second) blank
      unfolding row_by kind_of tags_at table
      shape_lambda q = row_by_lem q

      pub shape_let : w.kind ≡ 6 → row_at s (head_of s (ptr_of t)).row ≡ node let' (ptr_of w.first) (ptr_of w.second) (ptr_of w.third)
      unfolding row_by kind_of tags_at table
      shape_let q = row_by_lem q

      pub shape_projection : w.kind ≡ 7 → row_at s (head_of s (ptr_of t)).row ≡ node (proj w.second.row w.second.shift) (ptr_of w.first) blank blank
      unfolding row_by kind_of tags_at table
      shape_projection q = row_by_lem q

      pub shape_other : (n : ℕ) → (w.kind ≡ 0 → ⊥) → (w.kind ≡ 2 → ⊥) → (w.kind ≡ 4 → ⊥) → (w.kind ≡ 6 → ⊥) → (w.kind ≡ 7 → ⊥) →
          final (tally_of l sc m) ≡ head_by l ds rs cs sc g m n (ptr_of t)
      shape_other n h₀ h₂ h₄ h₆ h₇ =
          no_rule_tried a n
          ∙ ap (tried (env_of ds rs cs g.depth) l g n sc m) (sym (no_rule_row (env_of ds rs cs g.depth) s (head_of s (ptr_of t)).shift (args_of s (ptr_of t)) w.kind _ _ _ h₀ h₂ h₄ h₆ h₇))
          ∙ sym (head_at a n shape_row)
