-- The roles of the lower declarations, remembered in a table of sixteen words: 0 at a role that is free.
-- Assumes nothing.
use Prim.Native.Nat.{ℕ, ◌+◌, ◌*◌, ◌≤◌, ◌<◌}
use native.Mathlib.Decide.{ℕ_discrete}
use native.Mathlib.Omega.{arith}
use mathlib.Core.Path.{◌≡◌, sym, ap, subst, ◌∙◌}
use mathlib.Core.Bool.{Bool}
use mathlib.Core.List.{List}
use borrow.Author.Tests.{eq-eqb, ne_eqb}
use lib.Dec.{eqb}
use lib.ListN.{length, get_or, set, length-set}
use lib.Seq.{get_or-set_same, get_or-set_other}
use Rattle.rows.specs.Checks.{Says}
use Rattle.rows.proofs.Answers.{says_no, says_same}
use Rattle.tables.specs.Clauses.{RoleFree, RoleRight}

-- no declaration below j has role k
pub record Free (ds : List ℕ) (k j : ℕ) : Type 0 where
  pub none : (i : ℕ) → i < j → get_or ds (16 * i + 7) 0 ≡ k → ⊥

module _ (ds : List ℕ) where
  pub record Seen (seen : List ℕ) (j : ℕ) : Type 0 where
    pub many : length seen ≡ 16
    pub each : (k : ℕ) → k < 16 → Says (Free ds k j) (eqb (get_or seen k 0) 0)

  -- what is asked of the table is what is asked of the lower declarations
  module _ (seen : List ℕ) (j role : ℕ) (know : Seen seen j) where
    to_right : RoleFree seen role → RoleRight ds j role
    to_right r = record { code = r.code; first = λ i h q. on i h q (ℕ_discrete role 0) }
      where
        on : (i : ℕ) → i < j → get_or ds (16 * i + 7) 0 ≡ role → Dec (role ≡ 0) → role ≡ 0
        on i h q (yes e) = e
        on i h q (no ne) =
            let code = r.code in
            absurd (((know.each role (omega arith)).yes (eq-eqb _ _ (r.free ne))).none i h q)

    from_right : RoleRight ds j role → RoleFree seen role
    from_right r = record { code = r.code; free = λ ne. on ne (ℕ_discrete (get_or seen role 0) 0) }
      where
        on : (role ≡ 0 → ⊥) → Dec (get_or seen role 0 ≡ 0) → get_or seen role 0 ≡ 0
        on ne (yes e) = e
        on ne (no n) =
            let code = r.code in
            absurd ((know.each role (omega arith)).no (ne_eqb _ _ n) (record { none = λ i h q. ne (r.first i h q) }))

    pub role_says : {b : Bool} → Says (RoleFree seen role) b → Says (RoleRight ds j role) b
    role_says = says_same to_right from_right

    -- declaration j has this role
    module _ (code : role ≤ 15) (here : role ≡ get_or ds (16 * j + 7) 0) where
      taken : Free ds role (j + 1) → ⊥
      taken f = f.none j (omega arith) (sym here)

      still_free : (k : ℕ) → (role ≡ k → ⊥) → Free ds k j → Free ds k (j + 1)
      still_free k ne f = record { none = λ i h q. on i h q (ℕ_discrete i j) }
        where
          on : (i : ℕ) → i < j + 1 → get_or ds (16 * i + 7) 0 ≡ k → Dec (i ≡ j) → ⊥
          on i h q (yes e) = ne (here ∙ ap (λ (n : ℕ). get_or ds (16 * n + 7) 0) (sym e) ∙ q)
          on i h q (no n) = f.none i (omega arith) q

      each_more : (k : ℕ) → k < 16 → Dec (role ≡ k) → Says (Free ds k (j + 1)) (eqb (get_or (set seen role 1) k 0) 0)
      each_more k h (yes e) =
          subst (λ (n : ℕ). Says (Free ds n (j + 1)) (eqb (get_or (set seen role 1) n 0) 0)) e
          (subst (λ (n : ℕ). Says (Free ds role (j + 1)) (eqb n 0)) (sym (get_or-set_same seen role 1 0 (omega (arith, know.many)))) (says_no taken))
      each_more k h (no ne) =
          subst (λ (n : ℕ). Says (Free ds k (j + 1)) (eqb n 0)) (sym (get_or-set_other seen role k 1 0 (λ e. ne (sym e))))
          (says_same (still_free k ne) (λ f. record { none = λ i l q. f.none i (omega arith) q }) (know.each k h))

      pub seen_more : Seen (set seen role 1) (j + 1)
      seen_more = record { many = length-set seen role 1 ∙ know.many; each = λ k h. each_more k h (ℕ_discrete role k) }
