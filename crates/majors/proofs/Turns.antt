-- Writes in turn against the course's `and_on`: the first refusal is the answer, and what comes after a write that was done stands on its rows.
-- Assumes nothing.
use Prim.Native.Nat.{ℕ, ◌+◌, ◌<◌}
use native.Mathlib.Omega.{arith}
use mathlib.Core.Path.{refl, sym, ap, ◌∙◌, subst}
use mathlib.Core.List.{List}
use lib.ListN.{length}
use Rattle.rules.specs.Rows.{Row, Got, got}
use Rattle.course.specs.Charged as course
use Rattle.course.specs.Charged.{and_on, put_in}
use Rattle.substitution.specs.Stores.{put-length}
use Rattle.ways.specs.Stages.{put_at}
use Rattle.rows.specs.declared.Ptr.{Ptr}
use Rattle.rows.specs.Refusals.{Out}
use Rattle.rows.specs.Words.{ptr_of, store_of, Held}
use Rattle.rows.specs.Writes.{Wrote}
use Rattle.rows.proofs.Store.{held_length}
use Rattle.rows.proofs.InTurn.{done_held, wrote_then}
use Rattle.std.specs.Prelude.{Err, Ok}
use Rattle.rows.specs.declared.refusals.Refusal.{Refusal}

module _ (l sc : List ℕ) (m : ℕ) where
  pub then_refused : {k : Refusal} {sc₁ : List ℕ} {o : course.Out} (next : Got → course.Out) → Wrote l sc m (Err k) sc₁ o →
      Wrote l sc m (Err k) sc₁ (and_on o next)
  then_refused {k} {sc₁} {o} next w =
      subst (Wrote l sc m (Err k) sc₁) (sym w.says ∙ ap (λ (x : course.Out). and_on x next) w.says) w

  pub then_done : {p : Ptr} {m₁ : ℕ} {sc₁ : List ℕ} {o : course.Out} (next : Got → course.Out) {out : Out} {sc₂ : List ℕ} → Wrote l sc m (Ok (p, m₁)) sc₁ o →
      Wrote l sc₁ m₁ out sc₂ (next (got (store_of l sc₁ m₁) (ptr_of p))) → Wrote l sc m out sc₂ (and_on o next)
  then_done {p} {m₁} {sc₁} {o} next {out} {sc₂} first second =
      subst (Wrote l sc m out sc₂) (ap (λ (x : course.Out). and_on x next) first.says) (wrote_then l sc m p m₁ sc₁ o first out sc₂ _ second)

-- a row that was written stands below the new mark
pub put_below : (l sc : List ℕ) (nlib m most : ℕ) (w : Row) {p : Ptr} {m₁ : ℕ} {sc₁ : List ℕ} → Held l sc m nlib →
    Wrote l sc m (Ok (p, m₁)) sc₁ (put_in most (store_of l sc m) w) → p.row < nlib + m₁
put_below l sc nlib m most w {p} {m₁} {sc₁} held wrote =
    let at = put_at most (store_of l sc m) w (sym wrote.says) in
    let here = ap (λ (g : Got). g.at.row) at.is in
    let many = ap (λ (g : Got). length g.store) at.is in
    let longer = put-length (store_of l sc m) w in
    let after = held_length l sc₁ m₁ nlib (done_held l sc m p m₁ sc₁ _ wrote nlib held) in
    omega arith

-- two rows written in turn are held, and both stand
pub two_below : (l sc : List ℕ) (nlib m : ℕ) (w w₁ : Row) (most most₁ : ℕ) {f a : Ptr} {m₁ m₂ : ℕ} {sc₁ sc₂ : List ℕ} → Held l sc m nlib →
    Wrote l sc m (Ok (f, m₁)) sc₁ (put_in most (store_of l sc m) w) → Wrote l sc₁ m₁ (Ok (a, m₂)) sc₂ (put_in most₁ (store_of l sc₁ m₁) w₁) →
    Held l sc₂ m₂ nlib × ((f.row < nlib + m₂) × (a.row < nlib + m₂))
two_below l sc nlib m w w₁ most most₁ {f} {a} {m₁} {m₂} {sc₁} {sc₂} held first second =
    let held₁ = done_held l sc m f m₁ sc₁ _ first nlib held in
    let low = put_below l sc nlib m most w held first in
    let upward = (second.grown a m₂ refl).upward in
    (done_held l sc₁ m₁ a m₂ sc₂ _ second nlib held₁, (omega arith, put_below l sc₁ nlib m₁ most₁ w₁ held₁ second))
