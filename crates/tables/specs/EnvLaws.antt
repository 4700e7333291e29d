-- Accepted words stand for exactly one environment: the one that is read from them.
use Rattle.std.specs.Prelude.{ℕ, ◌/◌, ◌≡◌, refl, List, [], ◌∷◌, length}
use Rattle.std.proofs.Common.{zero-add, sym, ap, ◌∙◌}
use Rattle.std.proofs.Math.Option.{Option}
use Rattle.rules.specs.Rows.{Ptr, ptr, Store}
use Rattle.rules.specs.Arithmetic.{add, sub, mul, div, mod', beq, ble}
use Rattle.rules.specs.Declarations.{Role, no_role, nat, zero', succ', true', false', quot_mk, quot_lift, quot_ind, arith, role_code, Rule, Form}
use Rattle.rules.specs.Declarations.{recursor, Decl, Entry, Env}
use Rattle.rules.specs.Accepted.{Lent, IsRule, rule_words, AreRules, IsForm, plain_words, constructor_words, recursor_words, structure_words, IsValue}
use Rattle.rules.specs.Accepted.{absent, present, IsDecl, decl_words, IsEntry, entry_words, part, Accepted}
use Rattle.tables.specs.Records.{records_from, records_are}
use Rattle.tables.specs.Env.{role_by, value_by, rule_of, form_by, decl_of, entry_of, env_of}

pub role_read : (r : Role) → r ≡ role_by (role_code r)
unfolding role_by
role_read no_role = refl
role_read nat = refl
role_read zero' = refl
role_read succ' = refl
role_read true' = refl
role_read false' = refl
role_read quot_mk = refl
role_read quot_lift = refl
role_read quot_ind = refl
role_read (arith add) = refl
role_read (arith sub) = refl
role_read (arith mul) = refl
role_read (arith div) = refl
role_read (arith mod') = refl
role_read (arith beq) = refl
role_read (arith ble) = refl

pub value_read : {flag r s : ℕ} {v : Option Ptr} → IsValue flag r s v → v ≡ value_by flag (ptr r s)
unfolding value_by
value_read absent = refl
value_read present = refl

pub rule_read : {ws : List ℕ} {ρ : Rule} → IsRule ws ρ → ρ ≡ rule_of ws
unfolding rule_of
rule_read rule_words = refl

rules_read : {all : List ℕ} {first count : ℕ} {rs : List Rule} → AreRules all first count rs → rs ≡ records_from 4 all rule_of first count
rules_read {all} {first} {count} {rs} a = records_are 4 all rule_of first count rs a.many λ j ρ q. rule_read (a.words j ρ q)

form_read : {all : List ℕ} {kind a b c d e f g : ℕ} {φ : Form} → IsForm all kind (a ∷ b ∷ c ∷ d ∷ e ∷ f ∷ g ∷ []) φ →
    (u v w x y z q p : ℕ) → φ ≡ form_by all kind (u ∷ v ∷ w ∷ x ∷ y ∷ z ∷ q ∷ p ∷ a ∷ b ∷ c ∷ d ∷ e ∷ f ∷ g ∷ 0 ∷ [])
unfolding form_by
form_read plain_words u v w x y z q p = refl
form_read constructor_words u v w x y z q p = refl
form_read (recursor_words {ps = ps} {mo = mo} {mi = mi} {ix = ix} l a) u v w x y z q p =
    ap (λ (rs : List Rule). recursor (record { parameters = ps; motives = mo; minors = mi; indices = ix; rules = rs })) (rules_read a)
form_read structure_words u v w x y z q p = refl

pub decl_read : {all ws : List ℕ} {d : Decl} → IsDecl all ws d → d ≡ decl_of all ws
unfolding decl_of
decl_read (decl_words {kind} {levels} {r} {s} {flag} {v} {u} {code} {role = ro} f w q) =
    λ i. record {
      form = form_read f kind levels r s flag v u code i;
      levels = levels;
      type = ptr r s;
      value = value_read w i;
      role = (role_read ro ∙ ap role_by q) i;
    }

pub entry_read : {ws : List ℕ} {x : Entry} → IsEntry ws x → x ≡ entry_of ws
unfolding entry_of
entry_read (entry_words {r} {s} v) = λ i. record { type = ptr r s; value = value_read v i }

-- the whole
pub env_read : {w : Lent} {e : Env} {s : Store} → Accepted w e s → e ≡ env_of w.declarations w.rules w.context w.depth
env_read {w} {e} a = λ i. record { decls = decls i; context = entries i }
  where
    decls : e.decls ≡ records_from 16 w.declarations (decl_of w.rules) 0 (length w.declarations / 16)
    decls = records_are 16 w.declarations (decl_of w.rules) 0 (length w.declarations / 16) e.decls a.declarations.many λ j d q.
        decl_read (a.declarations.words j d q) ∙ ap (λ (n : ℕ). decl_of w.rules (part 16 w.declarations n)) (sym (zero-add j))

    entries : e.context ≡ records_from 5 w.context entry_of 0 w.depth
    entries = records_are 5 w.context entry_of 0 w.depth e.context a.records.many λ j x q.
        entry_read (a.records.words j x q) ∙ ap (λ (n : ℕ). entry_of (part 5 w.context n)) (sym (zero-add j))
