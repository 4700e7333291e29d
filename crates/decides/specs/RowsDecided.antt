-- Rows decided: nine words are a row or none, and a row passes or not. Assumes nothing.
use Prim.Native.Nat.{ℕ, zero, suc, ◌+◌, ◌≤◌, ◌<◌}
use Rattle.std.proofs.Common.{le_refl, sym, ap, ◌∙◌, subst}
use Rattle.std.proofs.Math.Decide.{dec_le, dec_lt, ℕ_discrete, map_dec}
use native.Mathlib.Omega.{arith}
use Rattle.std.specs.Prelude.{◌≡◌, refl, List, [], ◌∷◌, ◌++◌, length, get_or}
use Rattle.rules.specs.Maxima.{most_index, most_level, most_levels, most_number, most_bound, most_height}
use Rattle.rules.specs.Kinds.{Kind, sort, const, app, lam, pi, let', proj, num, Tag, plain, term, body, fields}
use Rattle.rules.specs.Rows.{Ptr, ptr, blank, Row, var, node, leaf, Cell, Store, cell_at, row_at, cell}
use Rattle.rules.specs.RowCheck.{InRange, sort_in, const_in, app_in, lam_in, pi_in, let_in, proj_in, num_in, ChildOk, FieldOk, plain_ok, term_ok, body_ok}
use Rattle.rules.specs.RowCheck.{RowOk, var_ok, node_ok, Fits, Passes}
use Rattle.rules.specs.Arithmetic.{words_value}
use Rattle.rules.specs.Accepted.{recorded, IsRow, var_row, sort_row, const_row, app_row, lam_row, pi_row, let_row, proj_row, num_row}
use Rattle.substitution.specs.Stores.{first_ok, second_ok, third_ok, term_child, body_child, Ext, ext_put, ext_cell, ext_field, ext_new_cell, cell_row}
use Rattle.substitution.specs.Passing.{row_fields}
use Rattle.safety.specs.Words.{row_same}
use Rattle.decides.specs.Decisions.{needs, dec_implies, Found, it_is, nothing, Decidable}
use Rattle.decides.specs.WordsOut.{written_out}

-- NINE WORDS

-- what the words between kind and bound that a kind does not use come to; 1 where there is no such kind
unused : (k b c d e f : ℕ) → ℕ
unused k b c d e f =
    let after_one = b + c + d + e + f in
    let after_two = c + d + e + f in
    let after_four = e + f in
    get_or (after_one ∷ after_one ∷ after_two ∷ after_four ∷ after_four ∷ after_four ∷ 0 ∷ after_four ∷ after_two ∷ []) k 1

nine_words : {ws : List ℕ} {x : Cell} → IsRow ws x → length ws ≡ 9
nine_words var_row = refl
nine_words sort_row = refl
nine_words const_row = refl
nine_words app_row = refl
nine_words lam_row = refl
nine_words pi_row = refl
nine_words let_row = refl
nine_words proj_row = refl
nine_words (num_row l q) = refl

idle : {k a b c d e f g h : ℕ} {x : Cell} → IsRow (k ∷ a ∷ b ∷ c ∷ d ∷ e ∷ f ∷ g ∷ h ∷ []) x → unused k b c d e f ≡ 0
unfolding unused
idle var_row = refl
idle sort_row = refl
idle const_row = refl
idle app_row = refl
idle lam_row = refl
idle pi_row = refl
idle let_row = refl
idle proj_row = refl
idle (num_row l q) = refl

low_word : {k a b c d e f g h : ℕ} {x : Cell} → IsRow (k ∷ a ∷ b ∷ c ∷ d ∷ e ∷ f ∷ g ∷ h ∷ []) x → k ≡ 8 → a < 4294967296
low_word var_row z = absurd (omega arith)
low_word sort_row z = absurd (omega arith)
low_word const_row z = absurd (omega arith)
low_word app_row z = absurd (omega arith)
low_word lam_row z = absurd (omega arith)
low_word pi_row z = absurd (omega arith)
low_word let_row z = absurd (omega arith)
low_word proj_row z = absurd (omega arith)
low_word (num_row l q) z = l

module _ (a b c d e f g h : ℕ) where
  abbrev Row_of : ℕ → Type 0
  Row_of k = Found (IsRow (k ∷ a ∷ b ∷ c ∷ d ∷ e ∷ f ∷ g ∷ h ∷ []))

  number_row : c ≡ 0 → d ≡ 0 → e ≡ 0 → f ≡ 0 → Dec (a < 4294967296) → Row_of 8
  number_row z₁ z₂ z₃ z₄ (yes l) = it_is (recorded (leaf (num (words_value a b))) g h) (rw (z₁, z₂, z₃, z₄) (num_row l refl))
  number_row z₁ z₂ z₃ z₄ (no l) = nothing (λ x is. l (low_word is refl))

  by_kind : (k : ℕ) → unused k b c d e f ≡ 0 → Row_of k
  unfolding unused
  by_kind zero q =
      let z₁ : b ≡ 0 = omega arith in
      let z₂ : c ≡ 0 = omega arith in
      let z₃ : d ≡ 0 = omega arith in
      let z₄ : e ≡ 0 = omega arith in
      let z₅ : f ≡ 0 = omega arith in
      it_is (recorded (var a) g h) (rw (z₁, z₂, z₃, z₄, z₅) var_row)
  by_kind (suc zero) q =
      let z₁ : b ≡ 0 = omega arith in
      let z₂ : c ≡ 0 = omega arith in
      let z₃ : d ≡ 0 = omega arith in
      let z₄ : e ≡ 0 = omega arith in
      let z₅ : f ≡ 0 = omega arith in
      it_is (recorded (leaf (sort a)) g h) (rw (z₁, z₂, z₃, z₄, z₅) sort_row)
  by_kind (suc (suc zero)) q =
      let z₂ : c ≡ 0 = omega arith in
      let z₃ : d ≡ 0 = omega arith in
      let z₄ : e ≡ 0 = omega arith in
      let z₅ : f ≡ 0 = omega arith in
      it_is (recorded (leaf (const a b)) g h) (rw (z₂, z₃, z₄, z₅) const_row)
  by_kind (suc (suc (suc zero))) q =
      let z₄ : e ≡ 0 = omega arith in
      let z₅ : f ≡ 0 = omega arith in
      it_is (recorded (node app (ptr a b) (ptr c d) blank) g h) (rw (z₄, z₅) app_row)
  by_kind (suc (suc (suc (suc zero)))) q =
      let z₄ : e ≡ 0 = omega arith in
      let z₅ : f ≡ 0 = omega arith in
      it_is (recorded (node lam (ptr a b) (ptr c d) blank) g h) (rw (z₄, z₅) lam_row)
  by_kind (suc (suc (suc (suc (suc zero))))) q =
      let z₄ : e ≡ 0 = omega arith in
      let z₅ : f ≡ 0 = omega arith in
      it_is (recorded (node pi (ptr a b) (ptr c d) blank) g h) (rw (z₄, z₅) pi_row)
  by_kind (suc (suc (suc (suc (suc (suc zero)))))) q = it_is (recorded (node let' (ptr a b) (ptr c d) (ptr e f)) g h) let_row
  by_kind (suc (suc (suc (suc (suc (suc (suc zero))))))) q =
      let z₄ : e ≡ 0 = omega arith in
      let z₅ : f ≡ 0 = omega arith in
      it_is (recorded (node (proj c d) (ptr a b) blank blank) g h) (rw (z₄, z₅) proj_row)
  by_kind (suc (suc (suc (suc (suc (suc (suc (suc zero)))))))) q =
      number_row (omega arith) (omega arith) (omega arith) (omega arith) (dec_lt a 4294967296)
  by_kind (suc (suc (suc (suc (suc (suc (suc (suc (suc k))))))))) q = absurd (omega arith)

parse_nine : (k a b c d e f g h : ℕ) → Found (IsRow (k ∷ a ∷ b ∷ c ∷ d ∷ e ∷ f ∷ g ∷ h ∷ []))
parse_nine k a b c d e f g h = on (ℕ_discrete (unused k b c d e f) 0)
  where
    on : Dec (unused k b c d e f ≡ 0) → Found (IsRow (k ∷ a ∷ b ∷ c ∷ d ∷ e ∷ f ∷ g ∷ h ∷ []))
    on (yes q) = by_kind a b c d e f g h k q
    on (no n) = nothing (λ x is. n (idle is))

pub parse_row : (ws : List ℕ) → Found (IsRow ws)
parse_row ws = on (ℕ_discrete (length ws) 9)
  where
    on : Dec (length ws ≡ 9) → Found (IsRow ws)
    on (yes q) = subst (λ (us : List ℕ). Found (IsRow us)) (sym (written_out 9 ws q)) (parse_nine _ _ _ _ _ _ _ _ _)
    on (no n) = nothing (λ x is. n (nine_words is))

-- THE ROW CHECK

sort_is : {D l : ℕ} → InRange D (sort l) → l ≤ most_level
sort_is (sort_in h) = h

const_is : {D d n : ℕ} → InRange D (const d n) → d < D
const_is (const_in h l) = h

levels_are : {D d n : ℕ} → InRange D (const d n) → n ≤ most_levels
levels_are (const_in h l) = l

proj_is : {D d i : ℕ} → InRange D (proj d i) → d < D
proj_is (proj_in h) = h

num_is : {D n : ℕ} → InRange D (num n) → n ≤ most_number
num_is (num_in h) = h

in_range : (D : ℕ) (κ : Kind) → Dec (InRange D κ)
in_range D (sort l) = map_dec sort_in sort_is (dec_le l most_level)
in_range D (const d n) = needs (dec_lt d D) const_is λ h. map_dec (const_in h) levels_are (dec_le n most_levels)
in_range D app = yes app_in
in_range D lam = yes lam_in
in_range D pi = yes pi_in
in_range D let' = yes let_in
in_range D (proj d i) = map_dec proj_in proj_is (dec_lt d D)
in_range D (num n) = map_dec num_in num_is (dec_le n most_number)

is_blank : (p : Ptr) → Dec (p ≡ blank)
is_blank p =
    needs (ℕ_discrete p.row 0) (λ e. ap (λ (z : Ptr). z.row) e) λ r.
    needs (ℕ_discrete p.shift 0) (λ e. ap (λ (z : Ptr). z.shift) e) λ s.
    yes (λ i. ptr (r i) (s i))

plain_is : {s : Store} {n : ℕ} {p : Ptr} → FieldOk s n p plain → p ≡ blank
plain_is (plain_ok q) = q

row_is : {D : ℕ} {s : Store} {n i : ℕ} → RowOk D s n (var i) → i ≤ most_index
row_is (var_ok h) = h

module _ (s : Store) (n : ℕ) where
  pub child : (p : Ptr) → Dec (ChildOk s n p)
  child p =
      needs (dec_lt p.row n) (λ o. o.lower) λ lower.
      needs (dec_implies (ℕ_discrete (cell_at s p.row).bound 0) (ℕ_discrete p.shift 0)) (λ o. o.still) λ still.
      yes (record { lower = lower; still = still })

  field : (p : Ptr) (τ : Tag) → Dec (FieldOk s n p τ)
  field p plain = map_dec plain_ok plain_is (is_blank p)
  field p term = map_dec term_ok term_child (child p)
  field p body = map_dec body_ok body_child (child p)

range_of : {D : ℕ} {s : Store} {n : ℕ} {κ : Kind} {x y z : Ptr} → RowOk D s n (node κ x y z) → InRange D κ
range_of (node_ok r a b c) = r

row : (D : ℕ) (s : Store) (n : ℕ) (w : Row) → Dec (RowOk D s n w)
row D s n (var i) = map_dec var_ok row_is (dec_le i most_index)
row D s n (node κ x y z) =
    needs (in_range D κ) range_of λ r.
    needs (field s n x (fields κ).first) (λ o. first_ok (row_fields o)) λ a.
    needs (field s n y (fields κ).second) (λ o. second_ok (row_fields o)) λ b.
    needs (field s n z (fields κ).third) (λ o. third_ok (row_fields o)) λ c.
    yes (node_ok r a b c)

-- a cell has exactly the bound and the height that its children give
exact_cell : (s : Store) (x : Cell) → x.bound ≡ (cell s x.row).bound → x.height ≡ (cell s x.row).height → x ≡ cell s x.row
exact_cell s x p q = λ i. record { row = sym (cell_row s x.row) i; bound = p i; height = q i }

exact : (s : Store) (x : Cell) → Dec (x ≡ cell s x.row)
exact s x =
    needs (ℕ_discrete x.bound (cell s x.row).bound) (λ e. ap (λ (c : Cell). c.bound) e) λ p.
    needs (ℕ_discrete x.height (cell s x.row).height) (λ e. ap (λ (c : Cell). c.height) e) λ q.
    yes (exact_cell s x p q)

fits : (x : Cell) → Dec (Fits x)
fits x =
    needs (dec_le x.bound most_bound) (λ f. f.bound) λ b.
    needs (dec_le x.height most_height) (λ f. f.height) λ h.
    yes (record { bound = b; height = h })

passes : (D : ℕ) (s : Store) (n : ℕ) → Dec (Passes D s n)
passes D s n =
    needs (row D s n (row_at s n)) (λ p. p.fields) λ f.
    needs (exact s (cell_at s n)) (λ p. p.exact) λ e.
    needs (fits (cell_at s n)) (λ p. p.fits) λ z.
    yes (record { fields = f; exact = e; fits = z })

-- A ROW PUT AFTER: whatever passed passes

row_later : {D : ℕ} {s s' : Store} {n : ℕ} {w : Row} → Ext s s' → n ≤ length s → RowOk D s n w → RowOk D s' n w
row_later e h (var_ok l) = var_ok l
row_later {n = n} e h (node_ok r a b c) = node_ok r (ext_field e h n (le_refl n) a) (ext_field e h n (le_refl n) b) (ext_field e h n (le_refl n) c)

passes_later : (D : ℕ) (s : Store) (x : Cell) (n : ℕ) → n < length s → Passes D s n → Passes D (s ++ (x ∷ [])) n
passes_later D s x n h p =
    let e = ext_put s x in
    let s' = s ++ (x ∷ []) in
    let same = ext_cell e n h in
    record {
      fields = subst (λ (c : Cell). RowOk D s' n c.row) (sym same) (row_later e (omega arith) p.fields);
      exact = same ∙ p.exact ∙ sym (ext_new_cell e (omega arith) (row_fields p.fields)) ∙ ap (λ (c : Cell). cell s' c.row) (sym same);
      fits = subst Fits (sym same) p.fits;
    }

pub rows_decidable : (D : ℕ) → Decidable IsRow (Passes D)
rows_decidable D = record { parse = parse_row; one = row_same; ok = passes D; later = passes_later D }
