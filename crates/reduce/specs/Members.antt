-- What single members of the cycle promise beside the evaluator's own answer. Assumes nothing: these are definitions.
use Rattle.std.specs.Prelude.{ℕ, ◌≡◌, Bool, List, Option as Maybe}
use Rattle.std.proofs.Math.Option.{Option, none, some}
use Rattle.rules.specs.Arithmetic as rules
use Rattle.rules.specs.Declarations.{Env, decl_at}
use Rattle.rules.specs.HeadTests.{quot_position, operation_of, tried}
use Rattle.arith.specs.declared.Op.{Op}
use Rattle.arith.specs.Meaning.{op_of}
use Rattle.tables.specs.declared.Holders.{Holders}
use Rattle.tables.specs.declared.codes.Role.{Role}
use Rattle.tables.specs.Codes.{role_on}
use Rattle.tables.specs.Read.{found}
use Rattle.rows.specs.declared.Ptr.{Ptr}
use Rattle.rows.specs.Words.{ite}
use Rattle.tables.specs.Env.{env_of}
use Rattle.state.specs.declared.Given.{Given}
use Rattle.state.specs.declared.Meter.{Meter}
use Rattle.state.specs.State.{Answer}
use Rattle.state.specs.State.{Left}
use Rattle.majors.specs.Majors.{Agrees}
use Rattle.cycle.specs.Members.{quotient}

-- Quot.lift and Quot.ind differ in the major's position alone: the same promise for every declaration with that position
pub record QuotLeft (l ds rs cs sc : List ℕ) (g : Given) (m : Meter) (t : Ptr) (n position : ℕ) (r : Answer) (sc' : List ℕ) : Type 0 where
  pub left : (d : ℕ) → quot_position (decl_at (env_of ds rs cs g.depth).decls d).role ≡ some position →
      Left l sc m r sc' (quotient l ds rs cs sc g m t n d)

-- "beq and ble are tried only if roles true and false are held"
abbrev pub only : (rules.Op → Bool) → Option rules.Op → Option rules.Op
only test none = none
only test (some o) = ite (test o) (some o) none

-- the operation that is tried for a role, in every environment that agrees with the holders
pub record OpTried (hs : Holders) (role : Maybe Role) (r : Maybe Op) : Type 0 where
  pub is : (e : Env) → Agrees e hs → found op_of r ≡ only (tried e) (operation_of (role_on role))
