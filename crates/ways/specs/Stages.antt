-- A firing in stages, as code pays it: a row written, a run of arguments applied. After each stage all rows pass, and what was made stands there.
-- Assumes a store whose rows pass, and pointers that are good in it.
use Rattle.std.specs.Prelude.{ℕ, ◌≡◌, refl, List, [], ◌∷◌, length}
use Rattle.std.proofs.Common.{arith, subst}
use Rattle.rules.specs.Kinds.{app, table, fields}
use Rattle.rules.specs.Rows.{Ptr, blank, Row, node, Store, cell, Got, put}
use Rattle.rules.specs.RowCheck.{AllPass, Fits, app_in, plain_ok, term_ok}
use Rattle.course.specs.Views.{Cmp, up_to, over, cmp, FitView, fits, no_fit, fit_view}
use Rattle.course.specs.Charged.{Out, wrote, refused, and_on, put_on, put_in, join_in}
use Rattle.course.specs.Charged as C
use Rattle.substitution.specs.Stores.{FieldsOk, node_fields, Good, Ext, ext_same, ext_then, ext_put, ext_good, put_good}
use Rattle.substitution.specs.Passing.{Worded, node_worded, put_pass}
use Rattle.substitution.specs.Applied.{AllGood, no_more, and_good}

-- what a stage leaves
pub record Stage (D : ℕ) (s : Store) (g : Got) : Type 0 where
  pub more : Ext s g.store
  pub pass : AllPass D g.store
  pub good : Good g.store g.at

refused_wrote : {k : ℕ} {g : Got} → refused k ≡ wrote g → ⊥
refused_wrote {k} {g} q = let z : ◌≡◌ {A = ℕ} 0 1 = cc in omega arith

lost_wrote : {g : Got} → C.lost ≡ wrote g → ⊥
lost_wrote {g} q = let z : ◌≡◌ {A = ℕ} 0 1 = cc in omega arith

wrote_same : {g g' : Got} → wrote g ≡ wrote g' → g ≡ g'
wrote_same q = cc

-- a row that was written fits, and stands at the end
pub record PutAt (s : Store) (w : Row) (g : Got) : Type 0 where
  pub fit : Fits (cell s w)
  pub is : put s w ≡ g

pub put_at : (most : ℕ) (s : Store) (w : Row) {g : Got} → put_in most s w ≡ wrote g → PutAt s w g
unfolding put_in
put_at most s w {g} q = go (fit_view (cell s w)) (cmp most (length s)) q
  where
    go : (v : FitView (cell s w)) (c : Cmp most (length s)) → put_on most s w v c ≡ wrote g → PutAt s w g
    go (no_fit h) c q = absurd (refused_wrote q)
    go (fits h) (up_to l) q = absurd (refused_wrote q)
    go (fits h) (over l) q = record { fit = h; is = wrote_same q }

pub put_stage : {D : ℕ} (most : ℕ) {s : Store} {w : Row} {g : Got} → AllPass D s → FieldsOk s (length s) w → Worded D w → put_in most s w ≡ wrote g → Stage D s g
put_stage {D} most {s} {w} {g} a o v q =
    let p = put_at most s w q in
    subst (Stage D s) p.is (record { more = ext_put s (cell s w); pass = put_pass a o v p.fit; good = put_good s w })

-- an application
pub app_stage : {D : ℕ} (most : ℕ) {s : Store} {f a : Ptr} {g : Got} → AllPass D s → Good s f → Good s a → put_in most s (node app f a blank) ≡ wrote g → Stage D s g
unfolding fields table
app_stage most p o y q = put_stage most p (node_fields (term_ok o) (term_ok y) (plain_ok refl)) (node_worded app_in) q

pub all_later : {s s' : Store} {xs : List Ptr} → Ext s s' → AllGood s xs → AllGood s' xs
all_later e no_more = no_more
all_later e (and_good o r) = and_good (ext_good e o) (all_later e r)

-- a run of arguments
pub join_stage : {D : ℕ} (most : ℕ) {s : Store} {p : Ptr} (xs : List Ptr) {g : Got} → AllPass D s → Good s p → AllGood s xs → join_in most s p xs ≡ wrote g → Stage D s g
unfolding join_in
join_stage {D} most {s} {p} [] {g} a o r q = subst (Stage D s) (wrote_same q) (record { more = ext_same s; pass = a; good = o })
join_stage {D} most {s} {p} (x ∷ xs) {g} a o (and_good y r) q =
    go (λ s₁ p₁ a₁ o₁ r₁ q₁. join_stage most {s = s₁} {p = p₁} xs a₁ o₁ r₁ q₁) (put_in most s (node app p x blank)) refl q
  where
    go : ((s₁ : Store) (p₁ : Ptr) → AllPass D s₁ → Good s₁ p₁ → AllGood s₁ xs → join_in most s₁ p₁ xs ≡ wrote g → Stage D s₁ g) →
        (u : Out) → put_in most s (node app p x blank) ≡ u → and_on u (λ g₁. join_in most g₁.store g₁.at xs) ≡ wrote g → Stage D s g
    go rest (wrote g₁) e q =
        let k = app_stage most a o y e in
        let l = rest g₁.store g₁.at k.pass k.good (all_later k.more r) q in
        record { more = ext_then k.more l.more; pass = l.pass; good = l.good }
    go rest (refused n) e q = absurd (refused_wrote q)
    go rest C.lost e q = absurd (lost_wrote q)
