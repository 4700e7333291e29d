-- What the readers hand over by value: a declaration's type, the type of a variable as the rules', a row's words as a sort or a pi.
-- Assumes nothing: these are definitions.
use Rattle.std.specs.Prelude.{ℕ, ◌≡◌, List, eqb, get_or, Option as Maybe, Some, None}
use Rattle.std.proofs.Math.Option.{Option}
use Rattle.rules.specs.Rows as rules
use Rattle.rules.specs.Inference.{type_of}
use Rattle.rows.specs.declared.Ptr.{Ptr}
use Rattle.rows.specs.declared.Shape.{Shape}
use Rattle.rows.specs.Words.{ite, ptr_of}
use Rattle.tables.specs.Env.{env_of}
use Rattle.tables.specs.Read.{found}
use Rattle.records.specs.declared.Pi.{Pi}

-- of a declaration's sixteen words, its type
abbrev pub type_read : List ℕ → Ptr
type_read ws = record { row = get_or ws 2 0; shift = get_or ws 3 0 }

abbrev pub found_type : Maybe Ptr → Option rules.Ptr
found_type = found ptr_of

-- the type of variable i, whatever the declarations and the rules are
pub record TypeOf (cs : List ℕ) (depth i : ℕ) (x : Option rules.Ptr) : Type 0 where
  pub type : (ds rs : List ℕ) → x ≡ type_of (env_of ds rs cs depth) i

-- a row's words, by its kind: 1 is a sort and 5 a pi
unfoldable pub sort_read : Shape → Maybe ℕ
sort_read w = ite (eqb w.kind 1) (Some w.first.row) None

unfoldable pub pi_read : Shape → Maybe Pi
pi_read w = ite (eqb w.kind 5) (Some (record { ty = w.first; body = w.second })) None
