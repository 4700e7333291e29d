-- An answer of the course's replacement is the rules' own: a pointer is what they replace to, with every row passing, and a refusal is the
-- first of their due rows that may not stand. Assumes that every row passes and that pointer and value are good.
use Prim.Native.Nat.{ℕ, ◌≤◌}
use mathlib.Core.Path.{◌≡◌, refl, sym, ◌∙◌, subst}
use mathlib.Core.Option.{Option, none, some}
use lib.ListN.{length}
use Rattle.rules.specs.Rows.{Ptr, Cell, Store, cell_at, Got}
use Rattle.rules.specs.RowCheck.{AllPass}
use Rattle.rules.specs.Replacement.{Replaces}
use Rattle.rules.specs.Firings.{Written}
use Rattle.rules.specs.Refusals.{Limits, RowDue}
use Rattle.course.specs.Charged.{wrote, refused, replace_in}
use Rattle.course.specs.Eval.{replace_by, charge}
use Rattle.substitution.specs.Stores.{Good, Ext, ext_written}
use Rattle.substitution.specs.Passing.{pass_formed}
use Rattle.substitution.specs.Existence.{ValueGood, replace_keeps}
use Rattle.substitution.specs.Paid.{replace_pass}
use Rattle.promises.specs.SaysRows.{All, just, replace_says}
use Rattle.promises.specs.SaysCharge.{RowFails, ChargeSays, c_all, c_no, charge_says}
use Rattle.promises.specs.Charge.{settle_on, replace_in_lem}
use Rattle.safety.specs.NeverLost.{Found, found, reaches}

-- what the rules replace to, with rows that all pass
pub record Came (D : ℕ) (v : Option Ptr) (k c : ℕ) (s : Store) (p : Ptr) (g : Got) : Type 0 where
  pub replaces : Replaces v k c s p g
  pub written : Written s g.store
  pub more : Ext s g.store
  pub pass : AllPass D g.store
  pub good : Good g.store g.at

-- what the rules replace to, and the first of its rows that may not stand
pub record Stopped (most : ℕ) (v : Option Ptr) (k c : ℕ) (s : Store) (p : Ptr) (number : ℕ) : Type 0 where
  pub due : Got
  pub replaces : Replaces v k c s p due
  pub row : Cell
  pub now : Store
  pub is_due : RowDue s due.store row now
  pub fails : RowFails (record { steps = 0; rows = most }) now row number

module _ (D : ℕ) (v : Option Ptr) (k c : ℕ) (s : Store) (p : Ptr) (most f : ℕ) (pass : AllPass D s) (good : Good s p) (value : ValueGood s v)
    (room : length s ≤ most) (high : (cell_at s p.row).height ≤ f) where
  abbrev lim : Limits
  lim = record { steps = 0; rows = most }

  -- the rows of the plain computation, charged in turn
  record Settled : Type 0 where
    due : Got
    replaces : Replaces v k c s p due
    charged : ChargeSays lim s due.store (charge lim s due.store)
    is : replace_in most v k f c s p ≡ settle_on due (charge lim s due.store)

  settles : Settled
  settles = go (replace_by v k f c s p) refl ((reaches v k f).at c s p (pass_formed pass) good value high) (replace_says v k f c s p)
    where
      go : (r : Option Got) → replace_by v k f c s p ≡ r → Found r → All (Replaces v k c s p) r → Settled
      go none e x y = elim x [ ]
      go (some g) e found (just q) = record {
        due = g;
        replaces = q;
        charged = charge_says lim s g.store (replace_keeps (pass_formed pass) good value q).more room;
        is = replace_in_lem lim v k f c s p e;
      }

  came_by : {g g' : Got} {o : Option ℕ} → Replaces v k c s p g' → ChargeSays lim s g'.store o → settle_on g' o ≡ wrote g → Came D v k c s p g
  came_by {g} {g'} q (c_all w l) e =
      let z : g' ≡ g = cc in
      subst (Came D v k c s p) z (record {
        replaces = q;
        written = w;
        more = ext_written w;
        pass = replace_pass pass good value q w;
        good = (replace_keeps (pass_formed pass) good value q).good;
      })
  came_by q (c_no d l n) e = absurd cc

  pub came : {g : Got} → wrote g ≡ replace_in most v k f c s p → Came D v k c s p g
  came e = came_by settles.replaces settles.charged (sym settles.is ∙ sym e)

  stopped_by : {n : ℕ} {g : Got} {o : Option ℕ} → Replaces v k c s p g → ChargeSays lim s g.store o → settle_on g o ≡ refused n → Stopped most v k c s p n
  stopped_by q (c_all w l) e = absurd cc
  stopped_by {n} {g} q (c_no {k = i} {x = x} {now = now} d l fails) e =
      let z : i ≡ n = cc in
      record { due = g; replaces = q; row = x; now = now; is_due = d; fails = subst (RowFails lim now x) z fails }

  pub stopped : {n : ℕ} → refused n ≡ replace_in most v k f c s p → Stopped most v k c s p n
  stopped e = stopped_by settles.replaces settles.charged (sym settles.is ∙ sym e)
