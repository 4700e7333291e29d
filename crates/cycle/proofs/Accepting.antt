-- Accepted input is what the members of the cycle are given, at the start of a call.
-- Assumes `Accepted` of the rules, and the table of holders that was read from the declarations.
use Prim.Native.Nat.{ℕ, ◌+◌, ◌*◌, ◌/◌}
use native.Mathlib.Omega.{arith}
use mathlib.Core.Path.{◌≡◌, sym, subst}
use mathlib.Core.List.{List, ◌++◌}
use lib.ListN.{length, take}
use Rattle.rules.specs.Accepted.{Lent, IsRow, Keep, Accepted}
use Rattle.rules.specs.RowCheck.{Passes}
use Rattle.safety.specs.Sane.{accepted_sane}
use Rattle.rows.specs.declared.Ptr.{Ptr}
use Rattle.rows.specs.Words.{Held}
use Rattle.replace.proofs.Results.{checked_sound}
use Rattle.tables.specs.Read.{HoldersOf}
use Rattle.tables.specs.Verdicts.{lent_of, env_in, store_in}
use Rattle.tables.proofs.Given.{context_there, rules_there, role_given}
use Rattle.state.specs.declared.Given.{Given}
use Rattle.state.specs.declared.Meter.{Meter}
use Rattle.cycle.specs.Cycle.{Tabled, CodedRoles, Stand, Asked}

module _ (l ds rs cs sc : List ℕ) (mark : ℕ) (p : Ptr) (nesting : ℕ) (g : Given) where
  abbrev lent : Lent
  lent = lent_of l ds rs cs g.depth sc mark p g.steps nesting

  pub accepted_tabled : Accepted lent (env_in lent) (store_in lent) → HoldersOf ds g.holders → Tabled ds rs cs g
  accepted_tabled a h = record {
    rules = λ d there k. rules_there a d there k;
    records = context_there a;
    holders = h;
  }

  -- no step is taken yet
  abbrev start : Meter
  start = record { mark = mark; steps = 0 }

  module _ (a : Accepted lent (env_in lent) (store_in lent)) (h : HoldersOf ds g.holders) (rows : g.nlib ≡ length l / 9) where
    accepted_held : Held l sc mark g.nlib
    accepted_held = let z = a.sizes in record {
      whole_library = omega (arith, z.whole_library, rows);
      few = omega (arith, z.library, rows);
      whole_scratch = z.whole_scratch;
      fewer = z.scratch;
      room = z.mark;
    }

    pub accepted_stand : Stand l ds rs cs sc g start
    accepted_stand = let z = a.sizes in record {
      held = accepted_held;
      words = (checked_sound accepted_held (subst (λ (n : ℕ). Keep 9 (l ++ take (9 * mark) sc) IsRow (Passes (length ds / 16)) (n + mark) (store_in lent)) (sym rows) a.rows)).words;
      sane = accepted_sane a;
      tabled = accepted_tabled a h;
      small = omega (arith, z.depth, z.context);
      metered = omega arith;
      budget = z.steps;
    }

    -- and beside it, what no member asks: the role words are codes
    pub accepted_asked : Asked l ds rs cs sc g start p × CodedRoles ds
    accepted_asked = (record { stand = accepted_stand; scope = a.term }, record { coded = λ d there. role_given a d there })
