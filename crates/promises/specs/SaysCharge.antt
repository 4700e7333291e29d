-- Rows charged in turn: all of them may stand, or one of them is the first that may not. It holds for all stores of at most the rows that the limits allow.
use Rattle.std.specs.Prelude.{ℕ, ◌≤◌, ◌<◌, ◌≡◌, refl, length, drop}
use Rattle.std.proofs.Common.{arith, ap, ◌∙◌, subst}
use mathlib.Core.List.{List, [], ◌∷◌, ◌++◌, append-nil, append_assoc}
use Rattle.std.proofs.Math.Option.{Option, none, some}
use Rattle.std.proofs.Math.ListN.{length-append}
use Rattle.rules.specs.Rows.{Cell, Store}
use Rattle.rules.specs.RowCheck.{Fits}
use Rattle.rules.specs.Firings.{tally, AllFit, none_left, and_then, Written}
use Rattle.rules.specs.Refusals.{row, RowDue, Limits, Fails, no_free_row, no_size}
use Rattle.course.specs.Views.{Cmp, up_to, over, cmp, FitView, fits, no_fit, fit_view}
use Rattle.course.specs.Eval.{emit_on, emit, charge}
use Rattle.substitution.specs.Stores.{Ext}
use Rattle.promises.specs.Stores.{ext_tail}

-- row x fails when the store is `now`, whatever the steps
abbrev pub RowFails : Limits → Store → Cell → ℕ → Type 0
RowFails lim now x k = (n : ℕ) → Fails lim (tally n now) (row x) k

module _ (lim : Limits) where
  data EmitSays (s : Store) (xs : List Cell) : Option ℕ → Type 0 where
    e_all : AllFit xs → length (s ++ xs) ≤ lim.rows → EmitSays s xs none
    e_no : {k : ℕ} (before after : List Cell) (x : Cell) → before ++ (x ∷ after) ≡ xs → AllFit before → length (s ++ before) ≤ lim.rows →
        RowFails lim (s ++ before) x k → EmitSays s xs (some k)

  -- the first row fails
  e_first : {s : Store} {x : Cell} {xs : List Cell} {k : ℕ} → length s ≤ lim.rows → RowFails lim s x k → EmitSays s (x ∷ xs) (some k)
  e_first {s} {x} {xs} {k} l f = e_no {k = k} [] xs x refl none_left (rw append-nil l) (λ n. rw append-nil (f n))

  -- it may stand: on to the others
  e_cons : {s : Store} {x : Cell} {xs : List Cell} {o : Option ℕ} → Fits x → EmitSays (s ++ (x ∷ [])) xs o → EmitSays s (x ∷ xs) o
  e_cons h (e_all a l) = e_all (and_then h a) (rw append_assoc at l)
  e_cons {x = x} h (e_no before after z e a l f) = e_no (x ∷ before) after z (ap (x ∷◌) e) (and_then h a) (rw append_assoc at l) (λ n. rw append_assoc at (f n))

  emit_says : (s : Store) (xs : List Cell) → length s ≤ lim.rows → EmitSays s xs (emit lim s xs)
  unfolding emit
  emit_says s [] l = e_all none_left (rw append-nil l)
  emit_says s (x ∷ xs) l = on (fit_view x) (cmp lim.rows (length s)) (λ h. emit_says (s ++ (x ∷ [])) xs (rw length-append (omega arith)))
    where
      on : (f : FitView x) (c : Cmp lim.rows (length s)) → (length s < lim.rows → EmitSays (s ++ (x ∷ [])) xs (emit lim (s ++ (x ∷ [])) xs)) →
          EmitSays s (x ∷ xs) (emit_on lim x s f c (emit lim (s ++ (x ∷ [])) xs))
      on (no_fit h) c ih = e_first l (λ n. no_size h)
      on (fits h) (up_to q) ih = e_first l (λ n. no_free_row h q)
      on (fits h) (over q) ih = e_cons h (ih q)

  -- of the rows from s to s'
  pub data ChargeSays (s s' : Store) : Option ℕ → Type 0 where
    c_all : Written s s' → length s' ≤ lim.rows → ChargeSays s s' none
    c_no : {k : ℕ} {x : Cell} {now : Store} → RowDue s s' x now → length now ≤ lim.rows → RowFails lim now x k → ChargeSays s s' (some k)

  of_store : {s s' : Store} {o : Option ℕ} (x : Ext s s') → EmitSays s x.new o → ChargeSays s s' o
  of_store x (e_all a h) = c_all (record { new = x.new; after = x.after; fit = a }) (rw x.after at h)
  of_store {s} x (e_no before after z e a h f) = c_no (record { before = before; after = after; split = ap (s ++◌) e ∙ x.after; fit = a; stand = refl }) h f

  pub charge_says : (s s' : Store) → Ext s s' → length s ≤ lim.rows → ChargeSays s s' (charge lim s s')
  charge_says s s' x l = of_store x (subst (λ (new : List Cell). EmitSays s new (charge lim s s')) (ext_tail x) (emit_says s (drop (length s) s') l))
