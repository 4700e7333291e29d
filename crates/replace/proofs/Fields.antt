-- A field as the table marks it: what a replacement in it keeps, and the ways out of the code that does it.
-- Assumes that every row passes.
use Prim.Native.Nat.{ℕ, suc, ◌+◌, ◌*◌, ◌≤◌, ◌<◌}
use native.Mathlib.Nat.{le_refl}
use native.Mathlib.Omega.{arith}
use native.Mathlib.Numerals.{add-one}
use mathlib.Core.Path.{◌≡◌, refl, sym, ap, subst, ◌∙◌}
use mathlib.Core.List.{List}
use mathlib.Core.Option.{Option}
use lib.ListN.{length}
use Rattle.rules.specs.Kinds.{Tag, plain, term, body}
use Rattle.rules.specs.Rows as rules
use Rattle.rules.specs.Rows.{Store, cell_at, field_height, Got, got}
use Rattle.rules.specs.RowCheck.{FieldOk, plain_ok, term_ok, body_ok, AllPass}
use Rattle.course.specs.Charged as course
use Rattle.course.specs.Charged.{field_in, replace_in}
use Rattle.substitution.specs.Stores.{Good, Ext, ext_same}
use Rattle.substitution.specs.Existence.{ValueGood}
use Rattle.rows.specs.declared.Ptr.{Ptr}
use Rattle.rows.specs.Refusals.{Out}
use Rattle.rows.specs.declared.kinds.Tag as kinds
use Rattle.rows.specs.declared.kinds.Tag.TheVariants.{Term, Body}
use Rattle.rows.specs.Kinds.{tag_of}
use Rattle.std.specs.Prelude.{Ok}
use Rattle.rows.specs.Words.{ptr_of, shown, store_of}
use Rattle.rows.specs.Writes.{Wrote}
use Rattle.rows.proofs.NineKinds.{term_not_plain, body_not_plain}
use Rattle.replace.specs.declared.Sub.{Sub}
use Rattle.replace.specs.Replaced.{value_of, most_rows, height_of, Ready, FieldReady, PtrReady, FieldDone, Replaced}
use Rattle.replace.proofs.Comes.{came}
use Rattle.replace.proofs.Later.{held_room, sound_later, ready_later, Went}

-- WHAT A FIELD KEEPS

-- rows that stood and rows that pass; the field is one still, and a plain word is what it was
pub record FieldKept (D : ℕ) (τ : Tag) (s : Store) (p : rules.Ptr) (g : Got) : Type 0 where
  pub more : Ext s g.store
  pub pass : AllPass D g.store
  pub field : FieldOk g.store (length g.store) (shown τ g.at) τ
  pub same : τ ≡ plain → g.at ≡ p

module _ (D : ℕ) (v : Option rules.Ptr) (k c : ℕ) (s : Store) (most f : ℕ) (pass : AllPass D s) (value : ValueGood s v) (room : length s ≤ most) where
  pub field_keeps : (τ : Tag) (p : rules.Ptr) (g : Got) → FieldOk s (length s) (shown τ p) τ → field_height s τ p ≤ f →
      course.wrote g ≡ field_in most v k (replace_in most v k f) τ c s p → FieldKept D τ s p g
  unfolding field_height
  field_keeps plain p g o h e =
      let z : got s p ≡ g = cc in
      subst (FieldKept D plain s p) z (record { more = ext_same s; pass = pass; field = plain_ok refl; same = λ _. refl })
  field_keeps term p g (term_ok o) h e =
      let q = came D v k c s p most f pass o value room h e in
      record { more = q.more; pass = q.pass; field = term_ok q.good; same = λ z. absurd (term_not_plain z) }
  field_keeps body p g (body_ok o) h e =
      let q = came D v k (suc c) s p most f pass o value room h e in
      record { more = q.more; pass = q.pass; field = body_ok q.good; same = λ z. absurd (body_not_plain z) }

-- a field that was done, by its mark; `most` rows may stand
pub record FieldSays (l sc : List ℕ) (m most : ℕ) (τ : Tag) (p : Ptr) (c : ℕ) (x : Sub) (r : Out) (sc' : List ℕ) : Type 0 where
  pub wrote : (f : ℕ) → field_height (store_of l sc m) τ (ptr_of p) ≤ f →
      Wrote l sc m r sc' (field_in most (value_of x) x.by (replace_in most (value_of x) x.by f) τ c (store_of l sc m) (ptr_of p))

pub field_says : {l sc : List ℕ} {nlib m : ℕ} {tag : kinds.Tag} {p : Ptr} {c : ℕ} {x : Sub} {r : Out} {sc' : List ℕ} {τ : Tag} {most : ℕ} →
    tag_of tag ≡ τ → most_rows nlib sc ≡ most → FieldDone l sc nlib m tag p c x r sc' → FieldSays l sc m most τ p c x r sc'
field_says {l} {sc} {nlib} {m} {p = p} {c} {x} {r} {sc'} {τ} e many d =
    subst (λ (n : ℕ). FieldSays l sc m n τ p c x r sc') many
    (subst (λ (t : Tag). FieldSays l sc m (most_rows nlib sc) t p c x r sc') e (record { wrote = d.wrote }))

module _ {l sc : List ℕ} {nlib m : ℕ} {τ : Tag} {p : Ptr} {c : ℕ} {x : Sub} (ready : Ready l sc nlib m x) {q : Ptr} {m' : ℕ} {sc' : List ℕ}
    (ok : FieldOk (store_of l sc m) (length (store_of l sc m)) (shown τ (ptr_of p)) τ)
    (done : FieldSays l sc m (most_rows nlib sc) τ p c x (Ok (q, m')) sc') where
  enough : ℕ
  enough = field_height (store_of l sc m) τ (ptr_of p)

  abbrev most : ℕ
  most = most_rows nlib sc

  abbrev write : Wrote l sc m (Ok (q, m')) sc'
      (field_in most (value_of x) x.by (replace_in most (value_of x) x.by enough) τ c (store_of l sc m) (ptr_of p))
  unfolding enough
  write = done.wrote enough (le_refl _)

  pub kept_field : FieldKept ready.sound.declarations τ (store_of l sc m) (ptr_of p) (got (store_of l sc' m') (ptr_of q))
  unfolding enough
  kept_field =
      field_keeps ready.sound.declarations (value_of x) x.by c (store_of l sc m) most enough ready.sound.pass ready.value
      (held_room l sc m nlib ready.sound.held) τ (ptr_of p) (got (store_of l sc' m') (ptr_of q)) ok (le_refl _) write.says

  pub went_field : Went l sc nlib m x sc' m'
  went_field = record {
    ready = ready_later ready kept_field.more (sound_later l sc nlib m ready.sound q m' sc' _ write kept_field.pass);
    more = kept_field.more;
    same_length = write.same_length;
  }

-- THE CODE'S WAYS OUT

pub term_is_child : {tag : kinds.Tag} → tag ≡ Term → tag_of tag ≡ plain → ⊥
term_is_child e f = term_not_plain (sym (ap tag_of e) ∙ f)

pub body_is_child : {tag : kinds.Tag} → tag ≡ Body → tag_of tag ≡ plain → ⊥
body_is_child e f = body_not_plain (sym (ap tag_of e) ∙ f)

pub child_good : {s : Store} {τ : Tag} {p : rules.Ptr} → FieldOk s (length s) (shown τ p) τ → (τ ≡ plain → ⊥) → Good s p
child_good (plain_ok o) h = absurd (h refl)
child_good (term_ok o) h = o
child_good (body_ok o) h = o

child_height : (s : Store) (τ : Tag) (p : rules.Ptr) → (τ ≡ plain → ⊥) → field_height s τ p ≡ (cell_at s p.row).height
unfolding field_height
child_height s plain p h = absurd (h refl)
child_height s term p h = refl
child_height s body p h = refl

module _ {l sc : List ℕ} {nlib m : ℕ} {tag : kinds.Tag} {p : Ptr} {c : ℕ} {x : Sub} where
  pub term_done : tag ≡ Term → {r : Out} {sc' : List ℕ} → Replaced l sc nlib m p c x r sc' → FieldDone l sc nlib m tag p c x r sc'
  unfolding field_height
  term_done e d = rw e (record { wrote = d.wrote })

  pub body_done : tag ≡ Body → {r : Out} {sc' : List ℕ} → Replaced l sc nlib m p (c + 1) x r sc' → FieldDone l sc nlib m tag p c x r sc'
  unfolding field_height
  body_done e {r} {sc'} d =
      let next : Replaced l sc nlib m p (suc c) x r sc' = subst (λ (i : ℕ). Replaced l sc nlib m p i x r sc') (add-one c) d in
      rw e (record { wrote = next.wrote })

  -- what the cycle asks for a field that is a pointer: that the measure falls, and that the pointer is ready
  pub child_asked : {rank : ℕ} (at : ℕ) → at ≤ c + 1 → (tag_of tag ≡ plain → ⊥) → FieldReady l sc nlib m tag p c x →
      3 * field_height (store_of l sc m) (tag_of tag) (ptr_of p) + 2 ≡ rank → (3 * height_of l sc m p.row + 1 < rank) × PtrReady l sc nlib m p at x
  child_asked at next child given rank =
      let high = child_height (store_of l sc m) (tag_of tag) (ptr_of p) child in (
        omega (arith, rank, high),
        record { ready = given.ready; good = child_good given.field child; near = let h = given.near in omega (arith, high); shift = given.shift child },
      )
