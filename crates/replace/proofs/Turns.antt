-- The three fields of a row in turn, and then the new row: what each way out comes to as the course has it.
-- Assumes nothing but what the code is given.
use Prim.Native.Nat.{ℕ, suc, ◌+◌, ◌/◌, ◌≤◌, ◌<◌}
use native.Mathlib.Omega.{arith}
use mathlib.Core.Path.{◌≡◌, sym, ap, subst, ◌∙◌}
use mathlib.Core.List.{List}
use Rattle.rules.specs.Kinds.{Kind, Tag, plain, term, body, Tags, fields}
use Rattle.rules.specs.Rows as rules
use Rattle.rules.specs.Rows.{blank, Row, node, Store, row_at, field_height, Got, got}
use Rattle.course.specs.Charged as course
use Rattle.course.specs.Charged.{and_on, put_in, field_in, row_in, replace_in}
use Rattle.substitution.specs.Stores.{ext_length}
use Rattle.std.specs.Prelude.{Ok, Err}
use Rattle.rows.specs.declared.Ptr.{Ptr}
use Rattle.rows.specs.declared.Shape.{Shape}
use Rattle.rows.specs.declared.kinds.Tag as kinds
use Rattle.rows.specs.declared.refusals.Refusal.{Refusal}
use Rattle.rows.specs.Refusals.{Out}
use Rattle.rows.specs.Words.{ptr_of, tags_at, tag_at, shown, row_of, shape_at, store_of, words_at, Held}
use Rattle.rows.specs.Kinds.{tag_of}
use Rattle.rows.specs.Writes.{Wrote, Due}
use Rattle.rows.proofs.Store.{held_length}
use Rattle.rows.proofs.InTurn.{wrote_then}
use Rattle.rows.proofs.NineKinds as nine
use Rattle.rows.proofs.NineKinds.{kind_kept}
use Rattle.rows.proofs.DueRows.{due_again}
use Rattle.replace.specs.declared.Sub.{Sub}
use Rattle.replace.specs.Replaced.{value_of, shift_of, most_rows, height_of, FieldDone, RowReady, RowDone, Near}
use Rattle.replace.proofs.Later.{says_also, Went, went_nowhere, went_then}
use Rattle.replace.proofs.Indices.{near_refused, near_put}
use Rattle.replace.proofs.Fields.{FieldKept, FieldSays, field_says, kept_field, went_field, child_good}
use Rattle.replace.proofs.RowParts.{Seen, Next, sees, formed, the_kind, marks, row_node, first_child, second_child, third_child, child_ok, child_lower}

-- ONE FIELD, THEN THE REST

-- what the course answers for a field, where so many rows may stand, with fuel f
abbrev in_field : ℕ → Sub → ℕ → ℕ → Store → Tag → rules.Ptr → course.Out
in_field most x f c s τ p = field_in most (value_of x) x.by (replace_in most (value_of x) x.by f) τ c s p

module _ (most : ℕ) (x : Sub) (f c : ℕ) (s : Store) where
  field_refused : (τ τ' : Tag) (p : rules.Ptr) (rest : Got → course.Out) (k : ℕ) → τ' ≡ τ → course.refused k ≡ in_field most x f c s τ p →
      course.refused k ≡ and_on (in_field most x f c s τ' (shown τ p)) rest
  field_refused plain τ' p rest k t e = absurd cc
  field_refused term τ' p rest k t e = rw (t, ← e)
  field_refused body τ' p rest k t e = rw (t, ← e)

  field_then : (τ τ' : Tag) (p q : rules.Ptr) (s' : Store) (rest : Got → course.Out) → τ' ≡ τ → course.wrote (got s' q) ≡ in_field most x f c s τ p →
      rest (got s' (shown τ q)) ≡ and_on (in_field most x f c s τ' (shown τ p)) rest
  field_then plain τ' p q s' rest t e = let z : got s' q ≡ got s p = cc in rw t (ap (λ (g : Got). rest (got g.store blank)) z)
  field_then term τ' p q s' rest t e = rw (t, ← e)
  field_then body τ' p q s' rest t e = rw (t, ← e)

-- A FIELD IN TURN

-- the rules' pointer as the code's
abbrev code_ptr : rules.Ptr → Ptr
code_ptr p = record { row = p.row; shift = p.shift }

-- at scratch sc₁ with n₁ rows used, field p of mark τ became q, at scratch sc₂ with n₂ rows used
pub record Turn (l sc : List ℕ) (nlib m row c : ℕ) (x : Sub) (τ : Tag) (p : Ptr) (sc₁ : List ℕ) (n₁ : ℕ) (q : Ptr) (sc₂ : List ℕ) (n₂ : ℕ) : Type 0 where
  pub next : Next l sc nlib m row x τ p sc₁ n₁
  pub says : FieldSays l sc₁ n₁ (most_rows nlib sc) τ p c x (Ok (q, n₂)) sc₂

module _ {l sc : List ℕ} {nlib m row c : ℕ} {x : Sub} {τ : Tag} {p : Ptr} {sc₁ : List ℕ} {n₁ : ℕ} where
  module _ (next : Next l sc nlib m row x τ p sc₁ n₁) {tag : kinds.Tag} (is_tag : tag_of tag ≡ τ) where
    says_next : {r : Out} {sc₂ : List ℕ} → FieldDone l sc₁ nlib n₁ tag p c x r sc₂ → FieldSays l sc₁ n₁ (most_rows nlib sc) τ p c x r sc₂
    says_next done = field_says is_tag (ap (λ (k : ℕ). nlib + k / 9) next.went.same_length) done

    pub turned : {q : Ptr} {sc₂ : List ℕ} {n₂ : ℕ} → FieldDone l sc₁ nlib n₁ tag p c x (Ok (q, n₂)) sc₂ → Turn l sc nlib m row c x τ p sc₁ n₁ q sc₂ n₂
    turned done = record { next = next; says = says_next done }

  module _ {q : Ptr} {sc₂ : List ℕ} {n₂ : ℕ} (turn : Turn l sc nlib m row c x τ p sc₁ n₁ q sc₂ n₂) where
    here : FieldSays l sc₁ n₁ (most_rows nlib sc₁) τ p c x (Ok (q, n₂)) sc₂
    here =
        let same : most_rows nlib sc ≡ most_rows nlib sc₁ = ap (λ (k : ℕ). nlib + k / 9) (sym turn.next.went.same_length) in
        subst (λ (k : ℕ). FieldSays l sc₁ n₁ k τ p c x (Ok (q, n₂)) sc₂) same turn.says

    pub turn_kept : FieldKept turn.next.went.ready.sound.declarations τ (store_of l sc₁ n₁) (ptr_of p) (got (store_of l sc₂ n₂) (ptr_of q))
    turn_kept = kept_field turn.next.went.ready (child_ok turn.next) here

    pub turn_after : Went l sc nlib m x sc₂ n₂
    turn_after = went_then turn.next.went (went_field turn.next.went.ready (child_ok turn.next) here)

    -- rows are not fewer, a plain word is what it was, and a child stands
    turn_upward : n₁ ≤ n₂
    turn_upward =
        let before = held_length l sc₁ n₁ nlib turn.next.went.ready.sound.held in
        let after = held_length l sc₂ n₂ nlib turn_after.ready.sound.held in
        omega (arith, ext_length turn_kept.more, before, after)

    turn_same : τ ≡ plain → q ≡ p
    turn_same e = ap code_ptr (turn_kept.same e)

    turn_lower : (τ ≡ plain → ⊥) → q.row < nlib + n₂
    turn_lower f = omega (arith, (child_good turn_kept.field f).lower, held_length l sc₂ n₂ nlib turn_after.ready.sound.held)

module _ {l sc : List ℕ} {nlib m row c : ℕ} {x : Sub} {τ : Tag} {p : Ptr} {sc₁ : List ℕ} {n₁ : ℕ} (f : ℕ) (fuel : height_of l sc m row ≤ suc f) where
  field_wrote : Next l sc nlib m row x τ p sc₁ n₁ → {r : Out} {sc₂ : List ℕ} → FieldSays l sc₁ n₁ (most_rows nlib sc) τ p c x r sc₂ →
      Wrote l sc₁ n₁ r sc₂ (in_field (most_rows nlib sc) x f c (store_of l sc₁ n₁) τ (ptr_of p))
  field_wrote next says = says.wrote f (omega (arith, fuel, child_lower next))

  -- where the field is refused the row is, whatever comes after it
  stops : Next l sc nlib m row x τ p sc₁ n₁ → {k : Refusal} {sc₂ : List ℕ} → FieldSays l sc₁ n₁ (most_rows nlib sc) τ p c x (Err k) sc₂ →
      {τ' : Tag} → τ' ≡ τ → (rest : Got → course.Out) →
      Wrote l sc₁ n₁ (Err k) sc₂ (and_on (in_field (most_rows nlib sc) x f c (store_of l sc₁ n₁) τ' (shown τ (ptr_of p))) rest)
  stops next says {τ'} t rest =
      let w = field_wrote next says in
      says_also w (sym w.says ∙ field_refused (most_rows nlib sc) x f c (store_of l sc₁ n₁) τ τ' (ptr_of p) rest _ t w.says)

  -- what is answered for the rest is answered for the field and the rest
  goes_on : {q : Ptr} {sc₂ : List ℕ} {n₂ : ℕ} → Turn l sc nlib m row c x τ p sc₁ n₁ q sc₂ n₂ → {τ' : Tag} → τ' ≡ τ →
      {r : Out} {sc₃ : List ℕ} (rest : Got → course.Out) → Wrote l sc₂ n₂ r sc₃ (rest (got (store_of l sc₂ n₂) (shown τ (ptr_of q)))) →
      Wrote l sc₁ n₁ r sc₃ (and_on (in_field (most_rows nlib sc) x f c (store_of l sc₁ n₁) τ' (shown τ (ptr_of p))) rest)
  goes_on {q} {sc₂} {n₂} turn {τ'} t {r} {sc₃} rest v =
      let w = field_wrote turn.next turn.says in
      wrote_then l sc₁ n₁ q n₂ sc₂ _ w r sc₃ _
      (says_also v (field_then (most_rows nlib sc) x f c (store_of l sc₁ n₁) τ τ' (ptr_of p) (ptr_of q) (store_of l sc₂ n₂) rest t w.says))

-- THE ROW, FIELD BY FIELD

-- it was read, and has children
pub record Opened (l sc : List ℕ) (nlib m row c : ℕ) (x : Sub) (w : Shape) : Type 0 where
  pub seen : Seen l sc nlib m row c x w
  pub kind : w.kind ≡ 0 → ⊥

pub opens : {l sc : List ℕ} {nlib m row c : ℕ} {x : Sub} → RowReady l sc nlib m row c x → {ws : List ℕ} → ws ≡ words_at l sc row →
    {w : Shape} → w ≡ shape_at ws → (w.kind ≡ 0 → ⊥) → Opened l sc nlib m row c x w
opens given looked_up shape kind = record { seen = sees given looked_up shape; kind = kind }

-- its first field was done
pub record One (l sc : List ℕ) (nlib m row c : ℕ) (x : Sub) (w : Shape) (q₁ : Ptr) (sc₁ : List ℕ) (n₁ : ℕ) : Type 0 where
  pub opened : Opened l sc nlib m row c x w
  pub turn : Turn l sc nlib m row c x (tag_at w.kind 0) w.first sc m q₁ sc₁ n₁

-- and its second
pub record Two (l sc : List ℕ) (nlib m row c : ℕ) (x : Sub) (w : Shape) (q₁ q₂ : Ptr) (sc₂ : List ℕ) (n₂ : ℕ) : Type 0 where
  pub sc₁ : List ℕ
  pub n₁ : ℕ
  pub one : One l sc nlib m row c x w q₁ sc₁ n₁
  pub turn : Turn l sc nlib m row c x (tag_at w.kind 1) w.second sc₁ n₁ q₂ sc₂ n₂

-- and its third
pub record Three (l sc : List ℕ) (nlib m row c : ℕ) (x : Sub) (w : Shape) (q₁ q₂ q₃ : Ptr) (sc₃ : List ℕ) (n₃ : ℕ) : Type 0 where
  pub sc₂ : List ℕ
  pub n₂ : ℕ
  pub two : Two l sc nlib m row c x w q₁ q₂ sc₂ n₂
  pub turn : Turn l sc nlib m row c x (tag_at w.kind 2) w.third sc₂ n₂ q₃ sc₃ n₃

module _ {l sc : List ℕ} {nlib m row c : ℕ} {x : Sub} {w : Shape} where
  module _ (o : Opened l sc nlib m row c x w) where
    abbrev κ : Kind
    κ = the_kind o.seen o.kind

    tag_at_lem : (g : Tags → Tag) → g (fields κ) ≡ g (tags_at w.kind)
    tag_at_lem g = ap g (marks o.seen o.kind)

    -- the course's answer for the row, by its three fields: from the third on, from the second, from the first
    abbrev own : (g : Tags → Tag) → ℕ → Store → Ptr → course.Out
    own g f s p = in_field (most_rows nlib sc) x f c s (g (fields κ)) (shown (g (tags_at w.kind)) (ptr_of p))

    abbrev from_third : ℕ → rules.Ptr → rules.Ptr → Store → course.Out
    from_third f a b s = and_on (own (λ t. t.third) f s w.third) λ g. put_in (most_rows nlib sc) g.store (node κ a b g.at)

    abbrev from_second : ℕ → rules.Ptr → Store → course.Out
    from_second f a s = and_on (own (λ t. t.second) f s w.second) λ g. from_third f a g.at g.store

    abbrev from_first : ℕ → course.Out
    from_first f = and_on (own (λ t. t.first) f (store_of l sc m) w.first) λ g. from_second f g.at g.store

    row_done : {r : Out} {sc' : List ℕ} → ((f : ℕ) → height_of l sc m row ≤ suc f → Wrote l sc m r sc' (from_first f)) →
        Near nlib (shift_of x.value + c) r → RowDone l sc nlib m row c x r sc'
    unfolding row_in
    row_done wrote near = record {
      wrote = λ f fuel. says_also (wrote f fuel) (ap (row_in most (value_of x) x.by (rec f) c (store_of l sc m) row) (sym (row_node o.seen o.kind)));
      near = near;
    }
      where
        most : ℕ
        most = most_rows nlib sc

        rec : ℕ → ℕ → Store → rules.Ptr → course.Out
        rec f = replace_in most (value_of x) x.by f

    -- THE FIRST FIELD

    pub first_next : Next l sc nlib m row x (tag_at w.kind 0) w.first sc m
    first_next = record { went = went_nowhere l sc nlib m x o.seen.given.ready; child = first_child o.seen o.kind }

    module _ {tag : kinds.Tag} (is_tag : tag_of tag ≡ tag_at w.kind 0) where
      pub first_refused : {k : Refusal} {sc₁ : List ℕ} → FieldDone l sc nlib m tag w.first c x (Err k) sc₁ → RowDone l sc nlib m row c x (Err k) sc₁
      first_refused done = row_done (λ f fuel. stops f fuel first_next (says_next first_next is_tag done) (tag_at_lem (λ t. t.first)) _) near_refused

      pub first_done : {q₁ : Ptr} {sc₁ : List ℕ} {n₁ : ℕ} → FieldDone l sc nlib m tag w.first c x (Ok (q₁, n₁)) sc₁ →
          One l sc nlib m row c x w q₁ sc₁ n₁
      first_done done = record { opened = o; turn = turned first_next is_tag done }

  -- THE SECOND

  module _ {q₁ : Ptr} {sc₁ : List ℕ} {n₁ : ℕ} (one : One l sc nlib m row c x w q₁ sc₁ n₁) where
    pub second_next : Next l sc nlib m row x (tag_at w.kind 1) w.second sc₁ n₁
    second_next = record { went = turn_after one.turn; child = second_child one.opened.seen one.opened.kind }

    after_first : {r : Out} {sc' : List ℕ} → ((f : ℕ) → height_of l sc m row ≤ suc f →
        Wrote l sc₁ n₁ r sc' (from_second one.opened f (shown (tag_at w.kind 0) (ptr_of q₁)) (store_of l sc₁ n₁))) →
        (f : ℕ) → height_of l sc m row ≤ suc f → Wrote l sc m r sc' (from_first one.opened f)
    after_first wrote f fuel = goes_on f fuel one.turn (tag_at_lem one.opened (λ t. t.first)) _ (wrote f fuel)

    module _ {tag : kinds.Tag} (is_tag : tag_of tag ≡ tag_at w.kind 1) where
      pub second_refused : {k : Refusal} {sc₂ : List ℕ} → FieldDone l sc₁ nlib n₁ tag w.second c x (Err k) sc₂ → RowDone l sc nlib m row c x (Err k) sc₂
      second_refused done =
          row_done one.opened
          (after_first λ f fuel. stops f fuel second_next (says_next second_next is_tag done) (tag_at_lem one.opened (λ t. t.second)) _) near_refused

      pub second_done : {q₂ : Ptr} {sc₂ : List ℕ} {n₂ : ℕ} → FieldDone l sc₁ nlib n₁ tag w.second c x (Ok (q₂, n₂)) sc₂ →
          Two l sc nlib m row c x w q₁ q₂ sc₂ n₂
      second_done done = record { sc₁ = sc₁; n₁ = n₁; one = one; turn = turned second_next is_tag done }

  -- THE THIRD

  module _ {q₁ q₂ : Ptr} {sc₂ : List ℕ} {n₂ : ℕ} (two : Two l sc nlib m row c x w q₁ q₂ sc₂ n₂) where
    abbrev pub two_opened : Opened l sc nlib m row c x w
    two_opened = two.one.opened

    pub third_next : Next l sc nlib m row x (tag_at w.kind 2) w.third sc₂ n₂
    third_next = record { went = turn_after two.turn; child = third_child two_opened.seen two_opened.kind }

    after_second : {r : Out} {sc' : List ℕ} → ((f : ℕ) → height_of l sc m row ≤ suc f →
        Wrote l sc₂ n₂ r sc' (from_third two_opened f (shown (tag_at w.kind 0) (ptr_of q₁)) (shown (tag_at w.kind 1) (ptr_of q₂)) (store_of l sc₂ n₂))) →
        (f : ℕ) → height_of l sc m row ≤ suc f → Wrote l sc m r sc' (from_first two_opened f)
    after_second wrote = after_first two.one λ f fuel. goes_on f fuel two.turn (tag_at_lem two_opened (λ t. t.second)) _ (wrote f fuel)

    module _ {tag : kinds.Tag} (is_tag : tag_of tag ≡ tag_at w.kind 2) where
      pub third_refused : {k : Refusal} {sc₃ : List ℕ} → FieldDone l sc₂ nlib n₂ tag w.third c x (Err k) sc₃ → RowDone l sc nlib m row c x (Err k) sc₃
      third_refused done =
          row_done two_opened
          (after_second λ f fuel. stops f fuel third_next (says_next third_next is_tag done) (tag_at_lem two_opened (λ t. t.third)) _) near_refused

      pub third_done : {q₃ : Ptr} {sc₃ : List ℕ} {n₃ : ℕ} → FieldDone l sc₂ nlib n₂ tag w.third c x (Ok (q₃, n₃)) sc₃ →
          Three l sc nlib m row c x w q₁ q₂ q₃ sc₃ n₃
      third_done done = record { sc₂ = sc₂; n₂ = n₂; two = two; turn = turned third_next is_tag done }

  -- THE NEW ROW

  module _ {q₁ q₂ q₃ : Ptr} {sc₃ : List ℕ} {n₃ : ℕ} (three : Three l sc nlib m row c x w q₁ q₂ q₃ sc₃ n₃) where
    abbrev new : Shape
    new = record { kind = w.kind; first = q₁; second = q₂; third = q₃ }

    abbrev opened : Opened l sc nlib m row c x w
    opened = two_opened three.two

    pub new_held : Held l sc₃ n₃ nlib
    new_held = (turn_after three.turn).ready.sound.held

    pub new_due : Due (nlib + n₃) new
    new_due =
        let a = three.two.one.turn in
        let b = three.two.turn in
        let c = three.turn in
        due_again (nlib + n₃) w.kind w.first w.second w.third q₁ q₂ q₃ (formed opened.seen)
        (turn_same a) (turn_same b) (turn_same c)
        (λ f. omega (arith, turn_lower a f, turn_upward b, turn_upward c))
        (λ f. omega (arith, turn_lower b f, turn_upward c))
        (turn_lower c)

    new_row : row_of new ≡ node (κ opened) (shown (tag_at w.kind 0) (ptr_of q₁)) (shown (tag_at w.kind 1) (ptr_of q₂)) (shown (tag_at w.kind 2) (ptr_of q₃))
    new_row =
        nine.row_node w.kind (ptr_of q₁) (ptr_of q₂) (ptr_of q₃) opened.kind
        ∙ ap (λ (k : Kind). node k (shown (tag_at w.kind 0) (ptr_of q₁)) (shown (tag_at w.kind 1) (ptr_of q₂)) (shown (tag_at w.kind 2) (ptr_of q₃)))
        (kind_kept w.kind (ptr_of w.first) (ptr_of w.second) (ptr_of q₁) (ptr_of q₂) (formed opened.seen).kind
        (λ e. ap ptr_of (turn_same three.two.one.turn e)) (λ e. ap ptr_of (turn_same three.two.turn e)))

    abbrev put : ℕ → Row → course.Out
    put most y = put_in most (store_of l sc₃ n₃) y

    pub made_row : {r : Out} {sc₄ : List ℕ} → Wrote l sc₃ n₃ r sc₄ (put (most_rows nlib sc₃) (row_of new)) → RowDone l sc nlib m row c x r sc₄
    made_row {r} {sc₄} made =
        let same : most_rows nlib sc₃ ≡ most_rows nlib sc = ap (λ (k : ℕ). nlib + k / 9) (turn_after three.turn).same_length in
        let due = says_also made (ap (λ (k : ℕ). put k (row_of new)) same ∙ ap (put (most_rows nlib sc)) new_row) in
        row_done opened
        (after_second three.two λ f fuel. goes_on f fuel three.turn (tag_at_lem opened (λ t. t.third)) _ due)
        (near_put l sc₃ nlib n₃ _ _ new_held _ r sc₄ made)
