-- A declaration whose words pass the clauses is one that the rules accept at its place, and the other way.
-- Assumes that the declaration's words are there.
use Prim.Native.Nat.{ℕ, ◌+◌, ◌*◌, ◌≤◌, ◌<◌}
use native.Mathlib.Omega.{arith}
use mathlib.Core.Path.{◌≡◌, refl, sym, ap, subst, ◌∙◌}
use mathlib.Core.List.{List, [], ◌∷◌}
use mathlib.Core.Option.{some}
use lib.ListN.{length, get_or}
use Rattle.rules.specs.Maxima.{most_levels}
use Rattle.rules.specs.Rows.{Ptr, Store, cell_at}
use Rattle.rules.specs.Declarations.{role_code, Rule, Form, Decl, nth, decl_at}
use Rattle.rules.specs.Accepted.{part, IsRule, rule_words, AreRules, IsForm, plain_words, constructor_words, recursor_words, structure_words, IsDecl}
use Rattle.rules.specs.Accepted.{decl_words, Closed, IsConstructor, FormOk, plain_ok, constructor_ok, recursor_ok, structure_ok, DeclOk}
use Rattle.tables.specs.Records.{records_from, records_many, records_nth}
use Rattle.tables.specs.Env.{rule_of, form_by, decl_of}
use Rattle.tables.specs.EnvLaws.{rule_read}
use Rattle.tables.specs.CodeLaws.{role_code_lem}
use Rattle.tables.specs.Clauses.{Scoped, Idle, RuleRight, RulesRight, FormRight, plain_right, constructor_right}
use Rattle.tables.specs.Clauses.{recursor_right, structure_right, DeclRight, DeclKeeps}
use Rattle.tables.proofs.Listed.{written_out, part_whole, idle_tail, some_same, nth_inside, nth_there, nth_get_d}
use Rattle.tables.proofs.Holding.{code_most, word_of}
use Rattle.tables.proofs.ScopeLaws.{to_closed, from_closed, to_value, value_is, from_value, scoped_agrees, value_agrees}
use Rattle.tables.proofs.Kept.{Means}

-- the seven words of a form, and the whole
abbrev form_words : List ℕ → List ℕ
form_words ws =
    get_or ws 8 0 ∷ get_or ws 9 0 ∷ get_or ws 10 0 ∷ get_or ws 11 0 ∷ get_or ws 12 0 ∷ get_or ws 13 0 ∷ get_or ws 14 0 ∷ []

-- which are but two, where the rest is idle
ten_idle : (ws : List ℕ) → Idle 10 ws → form_words ws ≡ get_or ws 8 0 ∷ get_or ws 9 0 ∷ 0 ∷ 0 ∷ 0 ∷ 0 ∷ 0 ∷ []
ten_idle ws i = λ k.
    get_or ws 8 0
    ∷ get_or ws 9 0
    ∷ i.each 10 (omega arith) (omega arith) k
    ∷ i.each 11 (omega arith) (omega arith) k
    ∷ i.each 12 (omega arith) (omega arith) k
    ∷ i.each 13 (omega arith) (omega arith) k
    ∷ i.each 14 (omega arith) (omega arith) k
    ∷ []

fewer_idle : (ws : List ℕ) → Idle 8 ws → Idle 10 ws
fewer_idle ws i = record { each = λ j low high. i.each j (omega arith) high }

module _ (ds rs : List ℕ) (s : Store) (L : ℕ) where
  -- RULES

  four_words : (i : ℕ) → 4 * i + 4 ≤ length rs → IsRule (part 4 rs i) (rule_of (part 4 rs i))
  unfolding rule_of
  four_words i h =
      subst (λ (us : List ℕ). IsRule us (rule_of (part 4 rs i))) (sym (written_out 4 (part 4 rs i) (part_whole 4 rs i h))) rule_words

  module _ (first count : ℕ) (inside : 4 * (first + count) ≤ length rs) where
    -- a rule of the list that is read stands in the words
    rule_there : (i : ℕ) (ρ : Rule) → nth (records_from 4 rs rule_of first count) i ≡ some ρ → (i < count) × (rule_of (part 4 rs (first + i)) ≡ ρ)
    rule_there i ρ q =
        let below : i < count = omega (arith, nth_inside (records_from 4 rs rule_of first count) i q, records_many 4 rs rule_of first count) in
        (below, some_same (sym (records_nth 4 rs rule_of first count i below) ∙ q))

    are_rules : AreRules rs first count (records_from 4 rs rule_of first count)
    are_rules = record {
      inside = inside;
      many = records_many 4 rs rule_of first count;
      words = λ i ρ q.
          let here = rule_there i ρ q in subst (IsRule (part 4 rs (first + i))) here.1 (four_words (first + i) (let below = here.0 in omega arith));
    }

  -- THE FORM

  to_form : (ws : List ℕ) {kind : ℕ} → FormRight ds rs s L ws kind → IsForm rs kind (form_words ws) (form_by rs kind ws)
  unfolding form_by
  to_form ws (plain_right i) =
      rw (ten_idle ws (fewer_idle ws i), i.each 8 (omega arith) (omega arith), i.each 9 (omega arith) (omega arith)) plain_words
  to_form ws (constructor_right i) = rw (ten_idle ws i) constructor_words
  to_form ws (recursor_right r) = rw r.k_flag (recursor_words r.few (are_rules (get_or ws 13 0) (get_or ws 14 0) r.inside))
  to_form ws (structure_right i c) = rw (ten_idle ws i) structure_words

  form_ok : (ws : List ℕ) {kind : ℕ} → FormRight ds rs s L ws kind → FormOk ds s L (form_by rs kind ws)
  unfolding form_by rule_of
  form_ok ws (plain_right i) = plain_ok
  form_ok ws (constructor_right i) = constructor_ok
  form_ok ws (recursor_right r) =
      recursor_ok
      (λ i ρ q.
      let here = rule_there (get_or ws 13 0) (get_or ws 14 0) r.inside i ρ q in
      subst (λ (z : Rule). IsConstructor ds z.constructor) here.1 (r.rules.each i here.0).constructor)
      (λ i ρ q.
      let here = rule_there (get_or ws 13 0) (get_or ws 14 0) r.inside i ρ q in
      subst (λ (z : Rule). Closed s L z.value) here.1 (to_closed (r.rules.each i here.0).value))
  form_ok ws (structure_right i c) = structure_ok c

  -- word 15 is 0 at every kind
  last_word : (ws : List ℕ) {kind : ℕ} → FormRight ds rs s L ws kind → get_or ws 15 0 ≡ 0
  last_word ws (plain_right i) = i.each 15 (omega arith) (omega arith)
  last_word ws (constructor_right i) = i.each 15 (omega arith) (omega arith)
  last_word ws (recursor_right r) = r.last
  last_word ws (structure_right i c) = i.each 15 (omega arith) (omega arith)

  -- the other way

  rule_right : {first count : ℕ} {xs : List Rule} → AreRules rs first count xs →
      ((i : ℕ) (ρ : Rule) → nth xs i ≡ some ρ → IsConstructor ds ρ.constructor) →
      ((i : ℕ) (ρ : Rule) → nth xs i ≡ some ρ → Closed s L ρ.value) → RulesRight ds rs s L first count
  unfolding rule_of
  rule_right {first} {count} {xs} a named closed = record { each = each }
    where
      each : (i : ℕ) → i < count → RuleRight ds rs s L (first + i)
      each i h =
          let ρ : Rule = get_or xs i (rule_of []) in
          let q : nth xs i ≡ some ρ = nth_there xs i (rule_of []) (omega (arith, a.many)) in
          let e : ρ ≡ rule_of (part 4 rs (first + i)) = rule_read (a.words i ρ q) in
          record {
            constructor = subst (λ (z : Rule). IsConstructor ds z.constructor) e (named i ρ q);
            value = subst (λ (z : Rule). Scoped s L 0 z.value) e (from_closed (closed i ρ q));
          }

  from_form : {kind a b c d e f g : ℕ} {φ : Form} → IsForm rs kind (a ∷ b ∷ c ∷ d ∷ e ∷ f ∷ g ∷ []) φ → FormOk ds s L φ →
      (t u v w x y z q : ℕ) → FormRight ds rs s L (t ∷ u ∷ v ∷ w ∷ x ∷ y ∷ z ∷ q ∷ a ∷ b ∷ c ∷ d ∷ e ∷ f ∷ g ∷ 0 ∷ []) kind
  from_form plain_words plain_ok t u v w x y z q = plain_right (idle_tail 8 8 _ refl)
  from_form constructor_words constructor_ok t u v w x y z q = constructor_right (idle_tail 10 6 _ refl)
  from_form (recursor_words few a) (recursor_ok named closed) t u v w x y z q =
      recursor_right (record { k_flag = refl; last = refl; few = few; inside = a.inside; rules = rule_right a named closed })
  from_form structure_words (structure_ok c) t u v w x y z q = structure_right (idle_tail 10 6 _ refl) c

  -- THE WHOLE

  sixteen_words : (ws : List ℕ) → length ws ≡ 16 → get_or ws 7 0 ≤ 15 → DeclRight ds rs s L ws → IsDecl rs ws (decl_of rs ws)
  unfolding decl_of
  sixteen_words ws many code r =
      subst (λ (us : List ℕ). IsDecl rs us (decl_of rs ws)) (sym (written_out 16 ws many))
      (rw (last_word ws r.form) (decl_words (to_form ws r.form) (to_value r.value) (role_code_lem (get_or ws 7 0) code)))

  -- what a declaration has to be, but for its role
  record DeclIn (x : Decl) : Type 0 where
    pub levels : x.levels ≤ most_levels
    pub type : Closed s L x.type
    pub value : (v : Ptr) → x.value ≡ some v → Closed s L v
    pub form : FormOk ds s L x.form

  decl_in : (ws : List ℕ) → DeclRight ds rs s L ws → DeclIn (decl_of rs ws)
  unfolding decl_of
  decl_in ws r = record {
    levels = r.levels;
    type = to_closed r.type;
    value = λ v q. to_closed (value_is r.value v q);
    form = form_ok ws r.form;
  }

  decl_right : {ws : List ℕ} {x : Decl} → IsDecl rs ws x → DeclIn x → DeclRight ds rs s L ws
  decl_right (decl_words {kind} {levels} {r} {s = k} {flag} {v} {u} {code} f o q) i = record {
    levels = i.levels;
    type = from_closed i.type;
    value = from_value o (λ w e. from_closed (i.value w e));
    form = from_form f i.form kind levels r k flag v u code;
  }

  its_role : {ws : List ℕ} {x : Decl} → IsDecl rs ws x → role_code x.role ≡ get_or ws 7 0
  its_role (decl_words f o q) = q

  -- the role word, in the record and in the whole list
  role_word : (j : ℕ) → get_or (part 16 ds j) 7 0 ≡ get_or ds (16 * j + 7) 0
  role_word j = word_of 16 ds j 7 (omega arith)

  module _ (j : ℕ) (keeps : DeclKeeps ds rs s L j) where
    code_small : get_or (part 16 ds j) 7 0 ≤ 15
    code_small = let small = keeps.role.code in omega (arith, role_word j)

    role_is : role_code (decl_of rs (part 16 ds j)).role ≡ get_or ds (16 * j + 7) 0
    unfolding decl_of
    role_is = role_code_lem (get_or (part 16 ds j) 7 0) code_small ∙ role_word j

    decl_ok : (x : Decl) → x ≡ decl_of rs (part 16 ds j) → (xs : List Decl) → decl_at xs j ≡ x → DeclOk ds s L xs j
    decl_ok x e xs at =
        let here : DeclIn (decl_at xs j) = subst DeclIn (sym (at ∙ e)) (decl_in (part 16 ds j) keeps.words) in
        let code : role_code (decl_at xs j).role ≡ get_or ds (16 * j + 7) 0 = ap (λ (y : Decl). role_code y.role) (at ∙ e) ∙ role_is in
        record {
          levels = here.levels;
          type = here.type;
          value = here.value;
          form = here.form;
          first_holder = λ i h q. code ∙ keeps.role.first i h (q ∙ code);
        }

  decl_keeps : (j : ℕ) (x : Decl) → IsDecl rs (part 16 ds j) x → (xs : List Decl) → decl_at xs j ≡ x → DeclOk ds s L xs j → DeclKeeps ds rs s L j
  decl_keeps j x is xs at ok =
      let code : role_code (decl_at xs j).role ≡ get_or ds (16 * j + 7) 0 = ap (λ (y : Decl). role_code y.role) at ∙ its_role is ∙ role_word j in
      let here : DeclIn x = subst DeclIn at (record { levels = ok.levels; type = ok.type; value = ok.value; form = ok.form }) in
      record {
        words = decl_right is here;
        role = record { code = omega (arith, code_most (decl_at xs j).role, code); first = λ i h q. sym code ∙ ok.first_holder i h (q ∙ sym code) };
      }

  at_place : (xs : List Decl) (j : ℕ) {x : Decl} → nth xs j ≡ some x → decl_at xs j ≡ x
  unfolding decl_at
  at_place xs j q = nth_get_d xs j _ q

  pub decls_mean : (n : ℕ) → 16 * n ≤ length ds → Means 16 ds (decl_of rs) (IsDecl rs) (DeclOk ds s L) (DeclKeeps ds rs s L) n
  decls_mean n room = record {
    is = λ j h keeps. sixteen_words (part 16 ds j) (part_whole 16 ds j (omega arith)) (code_small j keeps) keeps.words;
    ok = λ j keeps xs q. decl_ok j keeps _ refl xs (at_place xs j q);
    right = λ j x is xs q ok. decl_keeps j x is xs (at_place xs j q) ok;
  }

-- TWO STORES that agree on the library's rows

module _ {s t : Store} {L : ℕ} (agree : (r : ℕ) → r < L → cell_at s r ≡ cell_at t r) (ds rs : List ℕ) where
  form_agrees : {ws : List ℕ} {kind : ℕ} → FormRight ds rs s L ws kind → FormRight ds rs t L ws kind
  form_agrees (plain_right i) = plain_right i
  form_agrees (constructor_right i) = constructor_right i
  form_agrees (recursor_right r) =
      recursor_right (record {
        k_flag = r.k_flag;
        last = r.last;
        few = r.few;
        inside = r.inside;
        rules = record {
          each = λ i h. let one = r.rules.each i h in record { constructor = one.constructor; value = scoped_agrees agree one.value };
        };
      })
  form_agrees (structure_right i c) = structure_right i c

  pub decl_agrees : (j : ℕ) → DeclKeeps ds rs s L j → DeclKeeps ds rs t L j
  decl_agrees j k = record {
    words = record {
      levels = k.words.levels;
      type = scoped_agrees agree k.words.type;
      value = value_agrees agree k.words.value;
      form = form_agrees k.words.form;
    };
    role = k.role;
  }
