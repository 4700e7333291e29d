-- Declarations decided: sixteen words are a declaration or none, and a declaration keeps its rule or not. Assumes nothing.
use Prim.Native.Nat.{ℕ, zero, suc, ◌+◌, ◌*◌, ◌≤◌, ◌<◌}
use Rattle.std.proofs.Common.{add-zero, sym, ap, subst, length-drop, length-take-le}
use Rattle.std.proofs.Math.Decide.{dec_le, dec_lt, ℕ_discrete, map_dec}
use native.Mathlib.Omega.{arith}
use Rattle.std.specs.Prelude.{◌≡◌, List, [], ◌∷◌, ◌++◌, length, get_or, drop}
use Rattle.std.proofs.Math.Path.{refl}
use Rattle.std.proofs.Math.Option.{Option, none, some}
use Rattle.std.proofs.Math.ListN.{get_or-append}
use Rattle.rules.specs.Maxima.{most_levels, most_rules}
use Rattle.rules.specs.Rows.{Ptr, ptr, Store, cell_at}
use Rattle.rules.specs.Arithmetic.{Op, add, sub, mul, div, mod', beq, ble}
use Rattle.rules.specs.Declarations.{Role, no_role, nat, zero', succ', true', false', quot_mk, quot_lift, quot_ind, role_code, op_code, Rule, Recursor}
use Rattle.rules.specs.Declarations.{Form, plain, constructor, recursor, structure, Decl, nth, decl_at}
use Rattle.rules.specs.Declarations as D
use Rattle.rules.specs.Accepted.{part, IsRule, rule_words, AreRules, IsForm, plain_words, constructor_words, recursor_words, structure_words, IsValue}
use Rattle.rules.specs.Accepted.{absent, present, IsDecl, decl_words, Closed, IsConstructor, FormOk, plain_ok, constructor_ok, recursor_ok, structure_ok, DeclOk}
use Rattle.safety.specs.Lists.{none_some, some_same}
use Rattle.safety.specs.Words.{decl_same}
use Rattle.decides.specs.Decisions.{needs, dec_implies, dec_below, dec_there, dec_each, Found, it_is, finding, provided_that, look_through, Decidable}
use Rattle.decides.specs.WordsOut.{listed, written_out}

-- A VALUE: flag, row, shift

unused_value : (flag v u : ℕ) → ℕ
unused_value flag v u = get_or ((v + u) ∷ 0 ∷ []) flag 1

value_idle : {flag v u : ℕ} {o : Option Ptr} → IsValue flag v u o → unused_value flag v u ≡ 0
unfolding unused_value
value_idle absent = refl
value_idle present = refl

by_flag : (flag v u : ℕ) → unused_value flag v u ≡ 0 → Found (IsValue flag v u)
unfolding unused_value
by_flag zero v u q =
    let z₁ : v ≡ 0 = omega arith in
    let z₂ : u ≡ 0 = omega arith in
    it_is none (rw (z₁, z₂) absent)
by_flag (suc zero) v u q = it_is (some (ptr v u)) present
by_flag (suc (suc flag)) v u q = absurd (omega arith)

pub parse_value : (flag v u : ℕ) → Found (IsValue flag v u)
parse_value flag v u = provided_that (ℕ_discrete (unused_value flag v u) 0) (λ o is. value_idle is) (by_flag flag v u)

-- A ROLE, by its code

roles : List Role
roles =
    no_role ∷ nat ∷ zero' ∷ succ' ∷ true' ∷ false' ∷ quot_mk ∷ quot_lift ∷ quot_ind ∷
    D.arith add ∷ D.arith sub ∷ D.arith mul ∷ D.arith div ∷ D.arith mod' ∷ D.arith beq ∷ D.arith ble ∷ []

op_listed : (o : Op) → nth roles (op_code o) ≡ some (D.arith o)
unfolding nth roles
op_listed add = refl
op_listed sub = refl
op_listed mul = refl
op_listed div = refl
op_listed mod' = refl
op_listed beq = refl
op_listed ble = refl

role_listed : (r : Role) → nth roles (role_code r) ≡ some r
unfolding nth roles
role_listed no_role = refl
role_listed nat = refl
role_listed zero' = refl
role_listed succ' = refl
role_listed true' = refl
role_listed false' = refl
role_listed quot_mk = refl
role_listed quot_lift = refl
role_listed quot_ind = refl
role_listed (D.arith o) = op_listed o

parse_role : (code : ℕ) → Found (λ (r : Role). role_code r ≡ code)
parse_role code = look_through (λ r. ℕ_discrete (role_code r) code) roles λ r q. record { position = role_code r; there = role_listed r }

-- A RECURSOR'S RULES: where the list is long enough, any words are rules

whole_part : (k : ℕ) (ws : List ℕ) (i : ℕ) → k * i + k ≤ length ws → length (part k ws i) ≡ k
whole_part k ws i h = length-take-le k (drop (k * i) ws) (simp length-drop (omega arith))

rule_of : List ℕ → Rule
rule_of ws = record { constructor = get_or ws 0 0; fields = get_or ws 1 0; value = ptr (get_or ws 2 0) (get_or ws 3 0) }

four_words : (ws : List ℕ) → length ws ≡ 4 → IsRule ws (rule_of ws)
unfolding rule_of
four_words ws q = subst (λ (us : List ℕ). IsRule us (rule_of ws)) (sym (written_out 4 ws q)) rule_words

record RulesThere (all : List ℕ) (first count : ℕ) : Type 0 where
  rules : List Rule
  are : AreRules all first count rules

rules_there : (all : List ℕ) (first count : ℕ) → 4 * (first + count) ≤ length all → RulesThere all first count
unfolding nth
rules_there all first zero h = record { rules = []; are = record { inside = h; many = refl; words = λ i ρ q. absurd (none_some q) } }
rules_there all first (suc count) h = on (rules_there all (suc first) count (omega arith))
  where
    here : Rule
    here = rule_of (part 4 all first)

    is_here : IsRule (part 4 all first) here
    is_here = four_words (part 4 all first) (whole_part 4 all first (omega arith))

    on : RulesThere all (suc first) count → RulesThere all first (suc count)
    on rest = record {
      rules = here ∷ rest.rules;
      are = record { inside = h; many = ap suc rest.are.many; words = words };
    }
      where
        words : (i : ℕ) (ρ : Rule) → nth (here ∷ rest.rules) i ≡ some ρ → IsRule (part 4 all (first + i)) ρ
        words zero ρ q = subst (λ (j : ℕ). IsRule (part 4 all j) ρ) (sym (add-zero first)) (subst (IsRule (part 4 all first)) (some_same q) is_here)
        words (suc i) ρ q =
            let moved : suc first + i ≡ first + suc i = omega arith in
            subst (λ (j : ℕ). IsRule (part 4 all j) ρ) moved (rest.are.words i ρ q)

-- A FORM: by kind, its seven words

unused_form : (kind a b c d e f g : ℕ) → ℕ
unused_form kind a b c d e f g =
    let after_two = c + d + e + f + g in
    get_or ((a + b + after_two) ∷ after_two ∷ e ∷ after_two ∷ []) kind 1

module _ {all : List ℕ} where
  form_idle : {kind a b c d e f g : ℕ} {φ : Form} → IsForm all kind (a ∷ b ∷ c ∷ d ∷ e ∷ f ∷ g ∷ []) φ → unused_form kind a b c d e f g ≡ 0
  unfolding unused_form
  form_idle plain_words = refl
  form_idle constructor_words = refl
  form_idle (recursor_words h r) = refl
  form_idle structure_words = refl

  few_rules : {kind a b c d e f g : ℕ} {φ : Form} → IsForm all kind (a ∷ b ∷ c ∷ d ∷ e ∷ f ∷ g ∷ []) φ → kind ≡ 2 → g ≤ most_rules
  few_rules plain_words z = absurd (omega arith)
  few_rules constructor_words z = absurd (omega arith)
  few_rules (recursor_words h r) z = h
  few_rules structure_words z = absurd (omega arith)

  rules_inside : {kind a b c d e f g : ℕ} {φ : Form} → IsForm all kind (a ∷ b ∷ c ∷ d ∷ e ∷ f ∷ g ∷ []) φ → kind ≡ 2 → 4 * (f + g) ≤ length all
  rules_inside plain_words z = absurd (omega arith)
  rules_inside constructor_words z = absurd (omega arith)
  rules_inside (recursor_words h r) z = r.inside
  rules_inside structure_words z = absurd (omega arith)

module _ (all : List ℕ) (a b c d e f g : ℕ) where
  abbrev Form_of : ℕ → Type 0
  Form_of kind = Found (IsForm all kind (a ∷ b ∷ c ∷ d ∷ e ∷ f ∷ g ∷ []))

  a_recursor : e ≡ 0 → Form_of 2
  a_recursor z =
      provided_that (dec_le g most_rules) (λ φ is. few_rules is refl) λ few.
      provided_that (dec_le (4 * (f + g)) (length all)) (λ φ is. rules_inside is refl) λ inside.
      let there = rules_there all f g inside in
      it_is (recursor (record { parameters = a; motives = b; minors = c; indices = d; rules = there.rules })) (rw z (recursor_words few there.are))

  by_kind : (kind : ℕ) → unused_form kind a b c d e f g ≡ 0 → Form_of kind
  unfolding unused_form
  by_kind zero q =
      let z₁ : a ≡ 0 = omega arith in
      let z₂ : b ≡ 0 = omega arith in
      let z₃ : c ≡ 0 = omega arith in
      let z₄ : d ≡ 0 = omega arith in
      let z₅ : e ≡ 0 = omega arith in
      let z₆ : f ≡ 0 = omega arith in
      let z₇ : g ≡ 0 = omega arith in
      it_is plain (rw (z₁, z₂, z₃, z₄, z₅, z₆, z₇) plain_words)
  by_kind (suc zero) q =
      let z₃ : c ≡ 0 = omega arith in
      let z₄ : d ≡ 0 = omega arith in
      let z₅ : e ≡ 0 = omega arith in
      let z₆ : f ≡ 0 = omega arith in
      let z₇ : g ≡ 0 = omega arith in
      it_is (constructor a b) (rw (z₃, z₄, z₅, z₆, z₇) constructor_words)
  by_kind (suc (suc zero)) q = a_recursor q
  by_kind (suc (suc (suc zero))) q =
      let z₃ : c ≡ 0 = omega arith in
      let z₄ : d ≡ 0 = omega arith in
      let z₅ : e ≡ 0 = omega arith in
      let z₆ : f ≡ 0 = omega arith in
      let z₇ : g ≡ 0 = omega arith in
      it_is (structure a b) (rw (z₃, z₄, z₅, z₆, z₇) structure_words)
  by_kind (suc (suc (suc (suc kind)))) q = absurd (omega arith)

  parse_form : (kind : ℕ) → Form_of kind
  parse_form kind = provided_that (ℕ_discrete (unused_form kind a b c d e f g) 0) (λ φ is. form_idle is) (by_kind kind)

-- SIXTEEN WORDS

sixteen_words : {all ws : List ℕ} {x : Decl} → IsDecl all ws x → length ws ≡ 16
sixteen_words (decl_words f v q) = refl

-- the words of a declaration, part by part
record DeclParts (all ws : List ℕ) (x : Decl) : Type 0 where
  form : IsForm all (get_or ws 0 0) (listed 7 8 ws) x.form
  value : IsValue (get_or ws 4 0) (get_or ws 5 0) (get_or ws 6 0) x.value
  role : role_code x.role ≡ get_or ws 7 0
  last : get_or ws 15 0 ≡ 0

parts_of : {all ws : List ℕ} {x : Decl} → IsDecl all ws x → DeclParts all ws x
parts_of (decl_words f v q) = record { form = f; value = v; role = q; last = refl }

abbrev declared : List ℕ → Form → Option Ptr → Role → Decl
declared ws φ o r = record { form = φ; levels = get_or ws 1 0; type = ptr (get_or ws 2 0) (get_or ws 3 0); value = o; role = r }

from_parts : {all : List ℕ} (ws : List ℕ) {φ : Form} {o : Option Ptr} {r : Role} → length ws ≡ 16 → DeclParts all ws (declared ws φ o r) →
    IsDecl all ws (declared ws φ o r)
from_parts {all} ws {φ} {o} {r} many p =
    subst (λ (us : List ℕ). IsDecl all us (declared ws φ o r)) (sym (written_out 16 ws many)) (rw p.last (decl_words p.form p.value p.role))

pub parse_decl : (all ws : List ℕ) → Found (IsDecl all ws)
parse_decl all ws =
    provided_that (ℕ_discrete (length ws) 16) (λ x is. sixteen_words is) λ many.
    finding (parse_form all (get_or ws 8 0) (get_or ws 9 0) (get_or ws 10 0) (get_or ws 11 0) (get_or ws 12 0) (get_or ws 13 0) (get_or ws 14 0) (get_or ws 0 0))
    (λ x. x.form) (λ x is. (parts_of is).form) λ φ form.
    finding (parse_value (get_or ws 4 0) (get_or ws 5 0) (get_or ws 6 0)) (λ x. x.value) (λ x is. (parts_of is).value) λ o value.
    finding (parse_role (get_or ws 7 0)) (λ x. x.role) (λ x is. (parts_of is).role) λ r role.
    provided_that (ℕ_discrete (get_or ws 15 0) 0) (λ x is. (parts_of is).last) λ last.
    it_is (declared ws φ o r) (from_parts ws many (record { form = form; value = value; role = role; last = last }))

-- THE RULE OF A DECLARATION

closed : (s : Store) (L : ℕ) (p : Ptr) → Dec (Closed s L p)
closed s L p =
    needs (dec_lt p.row L) (λ c. c.there) λ there.
    needs (ℕ_discrete (cell_at s p.row).bound 0) (λ c. c.closed) λ shut.
    needs (ℕ_discrete p.shift 0) (λ c. c.still) λ still.
    yes (record { there = there; closed = shut; still = still })

is_constructor : (words : List ℕ) (c : ℕ) → Dec (IsConstructor words c)
is_constructor words c =
    needs (dec_lt (16 * c) (length words)) (λ k. k.there) λ there.
    needs (ℕ_discrete (get_or words (16 * c) 0) 1) (λ k. k.kind) λ kind.
    yes (record { there = there; kind = kind })

module _ {words : List ℕ} {s : Store} {L : ℕ} where
  named_by : {o : Recursor} → FormOk words s L (recursor o) → (i : ℕ) (ρ : Rule) → nth o.rules i ≡ some ρ → IsConstructor words ρ.constructor
  named_by (recursor_ok c v) = c

  closed_by : {o : Recursor} → FormOk words s L (recursor o) → (i : ℕ) (ρ : Rule) → nth o.rules i ≡ some ρ → Closed s L ρ.value
  closed_by (recursor_ok c v) = v

  structure_by : {ps c : ℕ} → FormOk words s L (structure ps c) → IsConstructor words c
  structure_by (structure_ok k) = k

form_ok : (words : List ℕ) (s : Store) (L : ℕ) (φ : Form) → Dec (FormOk words s L φ)
form_ok words s L plain = yes plain_ok
form_ok words s L (constructor ps fs) = yes constructor_ok
form_ok words s L (recursor o) =
    needs (dec_each {P = λ ρ. IsConstructor words ρ.constructor} (λ ρ. is_constructor words ρ.constructor) o.rules) named_by λ c.
    needs (dec_each {P = λ ρ. Closed s L ρ.value} (λ ρ. closed s L ρ.value) o.rules) closed_by λ v.
    yes (recursor_ok c v)
form_ok words s L (structure ps c) = map_dec structure_ok structure_by (is_constructor words c)

decl_ok : (words : List ℕ) (s : Store) (L : ℕ) (ds : List Decl) (j : ℕ) → Dec (DeclOk words s L ds j)
decl_ok words s L ds j =
    let x = decl_at ds j in
    let code = role_code x.role in
    needs (dec_le x.levels most_levels) (λ o. o.levels) λ levels.
    needs (closed s L x.type) (λ o. o.type) λ type.
    needs (dec_there {P = Closed s L} (closed s L) x.value) (λ o. o.value) λ value.
    needs (form_ok words s L x.form) (λ o. o.form) λ form.
    needs (dec_below {P = λ i. get_or words (16 * i + 7) 0 ≡ code → code ≡ 0} (λ i. dec_implies (ℕ_discrete (get_or words (16 * i + 7) 0) code) (ℕ_discrete code 0)) j)
    (λ o. o.first_holder) λ first.
    yes (record { levels = levels; type = type; value = value; form = form; first_holder = first })

-- of a later declaration nothing is read
decl_later : (words : List ℕ) (s : Store) (L : ℕ) (ds : List Decl) (x : Decl) (j : ℕ) → j < length ds → DeclOk words s L ds j → DeclOk words s L (ds ++ (x ∷ [])) j
unfolding decl_at
decl_later words s L ds x j h o =
    let same : decl_at (ds ++ (x ∷ [])) j ≡ decl_at ds j = get_or-append ds (x ∷ []) _ j h in
    record {
      levels = rw same o.levels;
      type = rw same o.type;
      value = rw same o.value;
      form = rw same o.form;
      first_holder = rw same o.first_holder;
    }

pub decls_decidable : (all words : List ℕ) (s : Store) (L : ℕ) → Decidable (IsDecl all) (DeclOk words s L)
decls_decidable all words s L = record { parse = parse_decl all; one = decl_same; ok = decl_ok words s L; later = decl_later words s L }
