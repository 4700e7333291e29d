-- A word and what it codes, both ways: kinds and roles, and the rules' role of a word.
-- Assumes nothing.
use Prim.Native.Nat.{ℕ, zero, suc, ◌≤◌, ◌<◌}
use Rattle.std.proofs.Common.{zero-add, arith, sym, ◌∙◌, inl, inr}
use Rattle.std.specs.Prelude.{◌≡◌, ◌⊎◌, Bool, true, false, leb, Option, Some, None, Result, Ok, Err}
use Rattle.std.specs.Result.{result_ok}
use borrow.Author.Tests.{leb-true, leb-false}
use Rattle.std.proofs.Math.Path.{refl, ap}
use Rattle.std.proofs.Math.ListN.{get_or-map, get_or-eq_default}
use Rattle.std.proofs.lemmas.List.FromFn.{get_or-range_with_len}
use Rattle.rules.specs.Declarations.{no_role, role_code}
use Rattle.rows.specs.declared.kinds.UnknownCode.{UnknownCode}
use Rattle.tables.specs.declared.codes.DeclKind.{DeclKind}
use Rattle.tables.specs.declared.codes.DeclKind.TheVariants.{Plain, Constructor, Recursor, Structure}
use Rattle.tables.specs.declared.codes.Role.{Role}
use Rattle.tables.specs.declared.codes.Role.TheVariants.{Nat, Zero, Succ, True, False, QuotMk, QuotLift, QuotInd}
use Rattle.tables.specs.declared.codes.Role.TheVariants.{Add, Sub, Mul, Div, Mod, Beq, Ble}
use Rattle.tables.specs.Env.{roles, role_by}
use Rattle.tables.specs.Codes.{kinds, kind_in, kind_code, KindDecodes, coded_roles, role_in, RoleDecodes, role_as, role_on}

none_some : {A : Type 0} {x : A} → None ≡ Some x → ⊥
none_some e = cc

-- KINDS

pub kind_in_is : (kind : DeclKind) → kind_in (kind_code kind) ≡ Some kind
unfolding kind_in
kind_in_is Plain = refl
kind_in_is Constructor = refl
kind_in_is Recursor = refl
kind_in_is Structure = refl

unknown_kind : (n : ℕ) → 3 < n → kind_in n ≡ None
unfolding kind_in
unknown_kind n h = get_or-eq_default kinds None h

abbrev code_on : Option DeclKind → ℕ
code_on None = 0
code_on (Some kind) = kind_code kind

-- a word that is read as a kind is its code
pub kind_word : (n : ℕ) (kind : DeclKind) → kind_in n ≡ Some kind → n ≡ kind_code kind
unfolding kind_in
kind_word zero kind e = ap code_on e
kind_word (suc zero) kind e = ap code_on e
kind_word (suc (suc zero)) kind e = ap code_on e
kind_word (suc (suc (suc zero))) kind e = ap code_on e
kind_word (suc (suc (suc (suc n)))) kind e = absurd (none_some e)

-- what `try_from` answered, as `ok` hands it on
pub kind_ok : (code : ℕ) (r : Result DeclKind UnknownCode) → KindDecodes code r → result_ok r ≡ kind_in code
kind_ok code (Ok kind) h = sym (kind_in_is kind) ∙ ap kind_in h
kind_ok code (Err e) h = sym (unknown_kind code h.1)

-- ROLES

-- the rules' roles stand in the list in the order of their codes
pub role_code_lem : (n : ℕ) → n ≤ 15 → role_code (role_by n) ≡ n
unfolding role_by
role_code_lem n h =
    sym (get_or-map role_code roles n no_role) ∙ get_or-range_with_len 0 16 n 0 (omega arith) ∙ zero-add n

-- a code past 15 is read as no role
pub no_code : (n : ℕ) → 16 ≤ n → role_code (role_by n) ≡ 0
unfolding role_by
no_code n h = ap role_code (get_or-eq_default roles no_role h)

-- whatever the word, the rules read the role that the code reads
pub role_on_is : (n : ℕ) → role_on (role_in n) ≡ role_by n
unfolding role_in role_by
role_on_is n = sym (get_or-map role_on coded_roles n None)

pub role_in_is : (role : Role) → role_in (role_code (role_as role)) ≡ Some role
unfolding role_in
role_in_is Nat = refl
role_in_is Zero = refl
role_in_is Succ = refl
role_in_is True = refl
role_in_is False = refl
role_in_is QuotMk = refl
role_in_is QuotLift = refl
role_in_is QuotInd = refl
role_in_is Add = refl
role_in_is Sub = refl
role_in_is Mul = refl
role_in_is Div = refl
role_in_is Mod = refl
role_in_is Beq = refl
role_in_is Ble = refl

pub unknown_role : (n : ℕ) → (n ≡ 0) ⊎ (15 < n) → role_in n ≡ None
unfolding role_in
unknown_role n (inl e) = ap role_in e
unknown_role n (inr h) = get_or-eq_default coded_roles None h

-- the rules' code of a role tells which it is
pub role_known : (o : Option Role) (role : Role) → role_code (role_on o) ≡ role_code (role_as role) → o ≡ Some role
role_known o role e = sym (back o) ∙ ap role_in e ∙ role_in_is role
  where
    back : (o : Option Role) → role_in (role_code (role_on o)) ≡ o
    back None = unknown_role 0 (inl refl)
    back (Some role) = role_in_is role

-- a word that is read as a role is its code
pub role_word : (n : ℕ) (role : Role) → role_in n ≡ Some role → n ≡ role_code (role_as role)
role_word n role e = on (leb n 15) refl
  where
    on : (b : Bool) → leb n 15 ≡ b → n ≡ role_code (role_as role)
    on true q = sym (role_code_lem n (leb-true n 15 q)) ∙ ap role_code (sym (role_on_is n) ∙ ap role_on e)
    on false q = absurd (none_some (sym (unknown_role n (inr (leb-false n 15 q))) ∙ e))

-- what `try_from` answered, as `ok` hands it on
pub role_ok : (code : ℕ) (r : Result Role UnknownCode) → RoleDecodes code r → result_ok r ≡ role_in code
role_ok code (Ok role) h = sym (role_in_is role) ∙ ap role_in h
role_ok code (Err e) h = sym (unknown_role code h.1)
