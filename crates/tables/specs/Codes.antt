-- The codes of a declaration's kind and role, and the roles as the rules'.
-- Assumes nothing: these are definitions.
use Rattle.std.specs.Prelude.{ℕ, ◌<◌, ◌≡◌, ◌⊎◌, List, [], ◌∷◌, get_or, Option, Some, None, Result, MatchResult}
use Rattle.rules.specs.Arithmetic.{add, sub, mul, div, mod', beq, ble}
use Rattle.rules.specs.Declarations as rules
use Rattle.rules.specs.Declarations.{no_role, nat, zero', succ', true', false', quot_mk, quot_lift, quot_ind, arith, role_code}
use Rattle.rows.specs.declared.kinds.UnknownCode.{UnknownCode}
use Rattle.tables.specs.declared.codes.DeclKind.{DeclKind}
use Rattle.tables.specs.declared.codes.DeclKind.TheVariants.{Plain, Constructor, Recursor, Structure}
use Rattle.tables.specs.declared.codes.Role.{Role}
use Rattle.tables.specs.declared.codes.Role.TheVariants.{Nat, Zero, Succ, True, False, QuotMk, QuotLift, QuotInd}
use Rattle.tables.specs.declared.codes.Role.TheVariants.{Add, Sub, Mul, Div, Mod, Beq, Ble}

-- KINDS

abbrev pub kind_code : DeclKind → ℕ
kind_code Plain = 0
kind_code Constructor = 1
kind_code Recursor = 2
kind_code Structure = 3

-- the kind with this code, or the word that no kind has
abbrev pub KindDecodes : ℕ → Result DeclKind UnknownCode → Type 0
KindDecodes code r = MatchResult r (λ kind. kind_code kind ≡ code) (λ e. (e.0 ≡ code) × (3 < code))

-- the kind of a word, if it has one
abbrev pub kinds : List (Option DeclKind)
kinds = Some Plain ∷ Some Constructor ∷ Some Recursor ∷ Some Structure ∷ []

unfoldable pub kind_in : ℕ → Option DeclKind
kind_in n = get_or kinds n None

-- ROLES

-- as the rules'
abbrev pub role_as : Role → rules.Role
role_as Nat = nat
role_as Zero = zero'
role_as Succ = succ'
role_as True = true'
role_as False = false'
role_as QuotMk = quot_mk
role_as QuotLift = quot_lift
role_as QuotInd = quot_ind
role_as Add = arith add
role_as Sub = arith sub
role_as Mul = arith mul
role_as Div = arith div
role_as Mod = arith mod'
role_as Beq = arith beq
role_as Ble = arith ble

abbrev pub role_on : Option Role → rules.Role
role_on None = no_role
role_on (Some role) = role_as role

-- the role with this code, or the word that no role has
abbrev pub RoleDecodes : ℕ → Result Role UnknownCode → Type 0
RoleDecodes code r = MatchResult r (λ role. role_code (role_as role) ≡ code) (λ e. (e.0 ≡ code) × ((code ≡ 0) ⊎ (15 < code)))

-- the role of a word, if it has one
abbrev pub coded_roles : List (Option Role)
coded_roles =
    None
    ∷ Some Nat
    ∷ Some Zero
    ∷ Some Succ
    ∷ Some True
    ∷ Some False
    ∷ Some QuotMk
    ∷ Some QuotLift
    ∷ Some QuotInd
    ∷ Some Add
    ∷ Some Sub
    ∷ Some Mul
    ∷ Some Div
    ∷ Some Mod
    ∷ Some Beq
    ∷ Some Ble
    ∷ []

unfoldable pub role_in : ℕ → Option Role
role_in n = get_or coded_roles n None
