-- What words stand for: given words stand for at most one row, declaration or record, and a row has at most one list of words.
-- Assumes nothing; that a number's low word is below 2^32 stands in `IsRow`.
use Rattle.std.specs.Prelude.{ℕ, ◌<◌, ◌≡◌, refl, List, [], ◌∷◌, get_or}
use Rattle.std.proofs.Common.{arith, sym, ap, ap₂, ◌∙◌}
use Rattle.std.proofs.Math.Option.{Option}
use Rattle.rules.specs.Kinds.{num}
use Rattle.rules.specs.Rows.{Ptr, ptr, leaf, Cell}
use Rattle.rules.specs.Arithmetic.{Op, add, sub, mul, div, mod', beq, ble, words_value}
use Rattle.rules.specs.Declarations.{Role, no_role, nat, zero', succ', true', false', quot_mk, quot_lift, quot_ind, arith as operation, op_code}
use Rattle.rules.specs.Declarations.{role_code, Rule, Form, recursor, Decl, Entry}
use Rattle.rules.specs.Accepted.{recorded, IsRow, var_row, sort_row, const_row, app_row, lam_row, pi_row, let_row, proj_row, num_row, IsRule}
use Rattle.rules.specs.Accepted.{rule_words, AreRules, IsForm, plain_words, constructor_words, recursor_words, structure_words, IsValue, absent}
use Rattle.rules.specs.Accepted.{present, IsDecl, decl_words, IsEntry, entry_words}
use Rattle.safety.specs.Lists.{nth_ext}

pub row_same : {ws : List ℕ} {c c' : Cell} → IsRow ws c → IsRow ws c' → c ≡ c'
row_same var_row var_row = refl
row_same sort_row sort_row = refl
row_same const_row const_row = refl
row_same app_row app_row = refl
row_same lam_row lam_row = refl
row_same pi_row pi_row = refl
row_same let_row let_row = refl
row_same proj_row proj_row = refl
row_same (num_row {b = b} {h = h} l q) (num_row l' q') = ap (λ (n : ℕ). recorded (leaf (num n)) b h) (sym q ∙ q')

-- two words below and above 2^32 are a number's in one way
number_words : {low low' high high' n : ℕ} →
    low < 4294967296 → low' < 4294967296 → words_value low high ≡ n → words_value low' high' ≡ n → (low ≡ low') × (high ≡ high')
number_words l l' q q' = (omega arith, omega arith)

pub row_words_same : {ws ws' : List ℕ} {c : Cell} → IsRow ws c → IsRow ws' c → ws ≡ ws'
row_words_same var_row var_row = refl
row_words_same sort_row sort_row = refl
row_words_same const_row const_row = refl
row_words_same app_row app_row = refl
row_words_same lam_row lam_row = refl
row_words_same pi_row pi_row = refl
row_words_same let_row let_row = refl
row_words_same proj_row proj_row = refl
row_words_same (num_row {b = b} {h = h} l q) (num_row l' q') =
    let z = number_words l l' q q' in ap₂ (λ (low high : ℕ). 8 ∷ low ∷ high ∷ 0 ∷ 0 ∷ 0 ∷ 0 ∷ b ∷ h ∷ []) z.0 z.1

-- DECLARATIONS AND RECORDS

rule_same : {ws : List ℕ} {ρ ρ' : Rule} → IsRule ws ρ → IsRule ws ρ' → ρ ≡ ρ'
rule_same rule_words rule_words = refl

rules_same : {all : List ℕ} {first count : ℕ} {rs rs' : List Rule} → AreRules all first count rs → AreRules all first count rs' → rs ≡ rs'
rules_same {rs = rs} {rs'} a b =
    nth_ext rs rs' (a.many ∙ sym b.many) λ i x y q q'. rule_same (a.words i x q) (b.words i y q')

form_same : {all : List ℕ} {kind : ℕ} {ws : List ℕ} {φ φ' : Form} → IsForm all kind ws φ → IsForm all kind ws φ' → φ ≡ φ'
form_same plain_words plain_words = refl
form_same constructor_words constructor_words = refl
form_same (recursor_words {ps = ps} {mo = mo} {mi = mi} {ix = ix} l r) (recursor_words l' r') =
    ap (λ (rs : List Rule). recursor (record { parameters = ps; motives = mo; minors = mi; indices = ix; rules = rs })) (rules_same r r')
form_same structure_words structure_words = refl

value_same : {flag v u : ℕ} {o o' : Option Ptr} → IsValue flag v u o → IsValue flag v u o' → o ≡ o'
value_same absent absent = refl
value_same present present = refl

-- codes are read back through a list: comparing the roles two by two would take over two hundred cases
codes : List Role
codes =
    no_role ∷ nat ∷ zero' ∷ succ' ∷ true' ∷ false' ∷ quot_mk ∷ quot_lift ∷ quot_ind ∷
    operation add ∷ operation sub ∷ operation mul ∷ operation div ∷ operation mod' ∷ operation beq ∷ operation ble ∷ []

op_read : (o : Op) → get_or codes (op_code o) no_role ≡ operation o
unfolding codes
op_read add = refl
op_read sub = refl
op_read mul = refl
op_read div = refl
op_read mod' = refl
op_read beq = refl
op_read ble = refl

role_read : (r : Role) → get_or codes (role_code r) no_role ≡ r
unfolding codes
role_read no_role = refl
role_read nat = refl
role_read zero' = refl
role_read succ' = refl
role_read true' = refl
role_read false' = refl
role_read quot_mk = refl
role_read quot_lift = refl
role_read quot_ind = refl
role_read (operation o) = op_read o

role_same : (r r' : Role) → role_code r ≡ role_code r' → r ≡ r'
role_same r r' q = sym (role_read r) ∙ ap (λ (n : ℕ). get_or codes n no_role) q ∙ role_read r'

pub decl_same : {all ws : List ℕ} {d d' : Decl} → IsDecl all ws d → IsDecl all ws d' → d ≡ d'
decl_same (decl_words {levels = l} {r = r} {s = s} {role = ρ} f v q) (decl_words {role = ρ'} f' v' q') =
    λ i. record { form = form_same f f' i; levels = l; type = ptr r s; value = value_same v v' i; role = role_same ρ ρ' (q ∙ sym q') i }

pub entry_same : {ws : List ℕ} {x x' : Entry} → IsEntry ws x → IsEntry ws x' → x ≡ x'
entry_same (entry_words {r = r} {s = s} v) (entry_words v') = λ i. record { type = ptr r s; value = value_same v v' i }
