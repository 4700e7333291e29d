-- The table of holders, from the last declaration down: it starts empty, and each declaration puts itself at its role's code.
-- Assumes nothing.
use Prim.Native.Nat.{ℕ, suc, ◌+◌, ◌*◌, ◌-◌, ◌/◌, ◌≤◌, ◌<◌}
use native.Mathlib.Decide.{ℕ_discrete}
use native.Mathlib.Nat.{sub-zero}
use native.Mathlib.Omega.{arith}
use mathlib.Core.Path.{◌≡◌, refl, sym, ap, ◌∙◌}
use mathlib.Core.Bool.{Bool}
use mathlib.Core.Logic.{◌⊎◌}
use mathlib.Core.List.{List}
use mathlib.Core.Option.{Option, some}
use borrow.Author.Tests.{eq-eqb, ne_eqb}
use lib.Dec.{eqb}
use lib.ListN.{length, get_or, set, replicate, get_or-replicate, length-set}
use lib.Seq.{get_or-set_same, get_or-set_other, get_or-take, get_or-drop}
use Rattle.std.specs.Prelude.{Option as Maybe, Some, None}
use Rattle.rules.specs.Declarations as rules
use Rattle.rules.specs.Declarations.{no_role, nat, zero', succ', true', false', quot_mk, quot_lift, quot_ind, arith as operation, role_code}
use Rattle.rules.specs.Declarations.{holder_on, holder_from, holder}
use Rattle.rules.specs.Arithmetic.{add, sub, mul, div, mod', beq, ble}
use Rattle.rules.specs.Accepted.{part}
use Rattle.tables.specs.declared.codes.Role.{Role}
use Rattle.tables.specs.Records.{records_from}
use Rattle.tables.specs.Env.{role_by, decl_of}
use Rattle.tables.specs.Codes.{role_in, role_as}
use Rattle.tables.specs.CodeLaws.{role_code_lem, role_on_is, unknown_role, role_known}
use Rattle.tables.specs.Read.{found_number, HoldersOf}

pub code_most : (ρ : rules.Role) → role_code ρ ≤ 15
code_most no_role = omega arith
code_most nat = omega arith
code_most zero' = omega arith
code_most succ' = omega arith
code_most true' = omega arith
code_most false' = omega arith
code_most quot_mk = omega arith
code_most quot_lift = omega arith
code_most quot_ind = omega arith
code_most (operation add) = omega arith
code_most (operation sub) = omega arith
code_most (operation mul) = omega arith
code_most (operation div) = omega arith
code_most (operation mod') = omega arith
code_most (operation beq) = omega arith
code_most (operation ble) = omega arith

-- word j of record e, where it stands
pub word_of : (k : ℕ) (ws : List ℕ) (i j : ℕ) → j < k → get_or (part k ws i) j 0 ≡ get_or ws (k * i + j) 0
word_of k ws i j h = get_or-take k _ j 0 h ∙ get_or-drop (k * i) ws j 0

module _ (ds : List ℕ) where
  abbrev count : ℕ
  count = length ds / 16

  abbrev held_from : List ℕ → ℕ → Role → Option ℕ
  held_from rs d role = holder_from d (role_as role) (records_from 16 ds (decl_of rs) d (count - d))

  -- what stands in the table for a role
  abbrev held : List (Maybe ℕ) → Role → Option ℕ
  held table role = found_number (get_or table (role_code (role_as role)) None)

  -- the table for the declarations from number d on
  pub record HoldersFrom (d : ℕ) (table : List (Maybe ℕ)) : Type 0 where
    pub many : length table ≡ 16
    pub holds : (rs : List ℕ) (role : Role) → held table role ≡ held_from rs d role

  pub holders_none : HoldersFrom count (replicate 16 None)
  unfolding holder_from records_from
  holders_none = record {
    many = refl;
    holds = λ rs role.
        let none_left : count - count ≡ 0 = omega arith in
        ap found_number (get_or-replicate 16 (role_code (role_as role)) None None (omega (arith, code_most (role_as role)))) ∙ rw none_left;
  }

  pub holders_all : (d : ℕ) (table : List (Maybe ℕ)) → d ≤ 0 → HoldersFrom d table → HoldersOf ds (record { of = table })
  unfolding holder
  holders_all d table least h = record {
    holds = λ rs cs depth role.
        let first : d ≡ 0 = omega arith in
        h.holds rs role
        ∙ ap (λ (i : ℕ). held_from rs i role) first
        ∙ ap (λ (n : ℕ). holder_from 0 (role_as role) (records_from 16 ds (decl_of rs) 0 n)) (sub-zero count);
  }

  -- the declaration before number n, with the role word w, comes in front of those from n on
  module _ (n w : ℕ) (table : List (Maybe ℕ)) (more : 0 < n) (inside : n ≤ count) (is_role : w ≡ get_or ds (16 * (n - 1) + 7) 0)
      (h : HoldersFrom n table) where
    abbrev d : ℕ
    d = n - 1

    in_front : (rs : List ℕ) (role : Role) →
        held_from rs d role ≡ holder_on (eqb (role_code (role_by w)) (role_code (role_as role))) (some d) (held_from rs n role)
    unfolding holder_from records_from decl_of
    in_front rs role =
        let left : count - d ≡ suc (count - n) = omega arith in
        let next : suc d ≡ n = omega arith in
        let word : get_or (part 16 ds d) 7 0 ≡ w = word_of 16 ds d 7 (omega arith) ∙ sym is_role in
        rw (left, next, ← word)

    -- another role's holder is not this one
    passed : (rs : List ℕ) (role : Role) → (role_code (role_by w) ≡ role_code (role_as role) → ⊥) → held_from rs n role ≡ held_from rs d role
    passed rs role ne =
        ap (λ (b : Bool). holder_on b (some d) (held_from rs n role)) (sym (ne_eqb _ _ ne)) ∙ sym (in_front rs role)

    pub holders_more : (w ≡ 0) ⊎ (15 < w) → HoldersFrom d table
    holders_more unknown = record { many = h.many; holds = λ rs role. h.holds rs role ∙ passed rs role (λ e. other role e (unknown_role w unknown)) }
      where
        other : (role : Role) → role_code (role_by w) ≡ role_code (role_as role) → role_in w ≡ None → ⊥
        other role e z =
            let same : None ≡ Some role = sym z ∙ role_known (role_in w) role (ap role_code (role_on_is w) ∙ e) in cc

    module _ (here : Role) (is : role_code (role_as here) ≡ w) where
      code_is : role_code (role_by w) ≡ role_code (role_as here)
      code_is = role_code_lem w (omega (arith, is, code_most (role_as here))) ∙ sym is

      abbrev put : List (Maybe ℕ)
      put = set table (role_code (role_as here)) (Some d)

      held_put : (rs : List ℕ) (role : Role) → Dec (role_code (role_as here) ≡ role_code (role_as role)) → held put role ≡ held_from rs d role
      held_put rs role (yes e) =
          ap (λ (k : ℕ). found_number (get_or put k None)) (sym e)
          ∙ ap found_number (get_or-set_same table (role_code (role_as here)) (Some d) None (omega (arith, h.many, code_most (role_as here))))
          ∙ ap (λ (b : Bool). holder_on b (some d) (held_from rs n role)) (sym (eq-eqb _ _ (code_is ∙ e)))
          ∙ sym (in_front rs role)
      held_put rs role (no ne) =
          ap found_number (get_or-set_other table (role_code (role_as here)) (role_code (role_as role)) (Some d) None (λ e. ne (sym e)))
          ∙ h.holds rs role
          ∙ passed rs role (λ e. ne (sym code_is ∙ e))

      pub holders_put : HoldersFrom d put
      holders_put = record {
        many = length-set table (role_code (role_as here)) (Some d) ∙ h.many;
        holds = λ rs role. held_put rs role (ℕ_discrete (role_code (role_as here)) (role_code (role_as role)));
      }
