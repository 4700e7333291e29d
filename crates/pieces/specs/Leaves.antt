-- What the leaf functions of inference are given and promise: each answers its ask, whatever the lists are that it does not see.
-- Assumes nothing: these are definitions.
use Rattle.std.specs.Prelude.{ℕ, ◌+◌, ◌/◌, ◌≤◌, ◌<◌, ◌≡◌, List, eqb, length}
use Rattle.std.proofs.Math.Option.{some}
use Rattle.rules.specs.Rows as rules
use Rattle.rules.specs.Rows.{Store, cell_at}
use Rattle.rules.specs.Declarations.{Decl, nth, decl_at}
use Rattle.rules.specs.Accepted.{part, Closed}
use Rattle.course.specs.Charged.{replace_in}
use Rattle.inferring.specs.Asks.{Ask, opens, structures, if_there, pi_of, variable_type, number_type}
use Rattle.safety.specs.Scope.{AllIn}
use Rattle.ways.specs.Spines.{args_of}
use Rattle.rows.specs.declared.Ptr.{Ptr}
use Rattle.rows.specs.Words.{ite, ptr_of, store_of}
use Rattle.replace.specs.declared.Sub.{Sub}
use Rattle.replace.specs.Replaced.{value_of, height_of}
use Rattle.tables.specs.Read.{decl_read}
use Rattle.records.specs.Read.{type_read}
use Rattle.state.specs.declared.Given.{Given}
use Rattle.state.specs.declared.Meter.{Meter}
use Rattle.state.specs.State.{Reduced}
use Rattle.typing.specs.Here.{Here, here, env_at, store_at, Scope, Ready}
use Rattle.typing.specs.Gives.{Outcome, gave, refused, Gives, Infers}
use Rattle.typing.specs.Written.{Written}
use Rattle.pieces.specs.declared.Structure as code
use Rattle.std.specs.Prelude.{Err, None, Ok, Option as Maybe, Some}
use Rattle.rows.specs.declared.refusals.Refusal.TheVariants.{NoType}

-- A BODY: no value, and this move
abbrev pub no_sub : ℕ → Sub
no_sub by = record { value = None; by = by }

pub data BodyOf (l sc : List ℕ) (g : Given) (m : Meter) (b : Ptr) (by : ℕ) : Reduced → List ℕ → Type 0 where
  as_it_stands : {r : Reduced} {sc' : List ℕ} → by ≡ 0 → r ≡ Ok (b, m) → sc' ≡ sc → BodyOf l sc g m b by r sc'
  moved : {r : Reduced} {sc' : List ℕ} → (by ≡ 0 → ⊥) →
      Written l sc m r sc' (replace_in (g.nlib + length sc / 9) (value_of (no_sub by)) by (height_of l sc m.mark b.row) 1
      (store_of l sc m.mark) (ptr_of b)) →
      BodyOf l sc g m b by r sc'

-- A CONSTANT
abbrev pub const_type : List ℕ → Meter → ℕ → ℕ → Reduced
const_type ds m d levels = ite (eqb (decl_read (part 16 ds d)).levels levels) (Ok (type_read (part 16 ds d), m)) (Err NoType)

-- A VARIABLE: in some call with these lists
pub record LocalReady (l cs sc : List ℕ) (g : Given) (m : Meter) (i : ℕ) : Type 0 where
  pub decls : List ℕ
  pub rules : List ℕ
  pub ready : Ready (here l decls rules cs sc g m)
  pub index : i ≤ 65536

pub record LocalType (l cs sc : List ℕ) (g : Given) (m : Meter) (i : ℕ) (r : Reduced) : Type 0 where
  pub is : (n : ℕ) (ds rs : List ℕ) → Ready (here l ds rs cs sc g m) →
      Infers n (here l ds rs cs sc g m) (variable_type (env_at (here l ds rs cs sc g m)) (store_at (here l ds rs cs sc g m)) i) r cs sc

-- A NUMBER
pub record NumberType (l sc : List ℕ) (g : Given) (m : Meter) (r : Reduced) (sc' : List ℕ) : Type 0 where
  pub is : (n : ℕ) (ds rs cs : List ℕ) → Ready (here l ds rs cs sc g m) →
      Infers n (here l ds rs cs sc g m) (number_type (env_at (here l ds rs cs sc g m))) r cs sc'

-- THE STRUCTURE: its parameters, its constructor, and the arguments of the type that names it
pub record Structure : Type 0 where
  pub parameters : ℕ
  pub constructor : Decl
  pub arguments : List rules.Ptr

pub record StructureIn (d : ℕ) (s : Store) (a : Structure) : Type 0 where
  pub type : Closed s (length s) a.constructor.type
  pub arguments : AllIn s d a.arguments

unfoldable pub structure_ask : rules.Ptr → ℕ → (Store → Structure → Ask) → Store → Ask
structure_ask p c next s = structures p c λ n C ys. next s (record { parameters = n; constructor = C; arguments = ys })

-- the code's structure, where there is one
abbrev pub StructureFound : Type 0
StructureFound = Maybe code.Structure

-- the code's structure, as the asks': its constructor, and the arguments of the type t
abbrev pub parts_at : Here → Ptr → code.Structure → Structure
parts_at h t a = record {
  parameters = a.parameters;
  constructor = decl_at (env_at h).decls a.constructor;
  arguments = args_of (store_at h) (ptr_of t);
}

abbrev pub structure_outcome : Here → Ptr → StructureFound → Outcome Structure
structure_outcome h t (Some a) = gave (parts_at h t a) h.meter
structure_outcome h t None = refused 9

-- the constructor's number names a declaration, and the count is that of the arguments
pub record Counts (h : Here) (t : Ptr) (r : StructureFound) : Type 0 where
  pub there : (a : code.Structure) → r ≡ Some a → a.constructor < length h.decls / 16
  pub many : (a : code.Structure) → r ≡ Some a → length (args_of (store_at h) (ptr_of t)) ≡ a.count

pub record StructureReady (l ds sc : List ℕ) (g : Given) (m : Meter) (t : Ptr) (c : ℕ) : Type 0 where
  pub rules : List ℕ
  pub context : List ℕ
  pub ready : Ready (here l ds rules context sc g m)
  pub scope : Scope (here l ds rules context sc g m) (ptr_of t)
  pub named : c < length ds / 16

pub record StructureAt (l ds sc : List ℕ) (g : Given) (m : Meter) (t : Ptr) (c : ℕ) (r : StructureFound) : Type 0 where
  pub gives : (n : ℕ) (rs cs : List ℕ) → Ready (here l ds rs cs sc g m) → Scope (here l ds rs cs sc g m) (ptr_of t) →
      Gives (StructureIn g.depth) n (here l ds rs cs sc g m) (λ next. structure_ask (ptr_of t) c next (store_at (here l ds rs cs sc g m)))
      (structure_outcome (here l ds rs cs sc g m) t r) cs sc
  pub counts : (rs cs : List ℕ) → Ready (here l ds rs cs sc g m) → Scope (here l ds rs cs sc g m) (ptr_of t) → Counts (here l ds rs cs sc g m) t r

-- THE PARAMETERS: from w on, along the structure's type t, which has `count` arguments
pub record Walking (h : Here) (w t : Ptr) (count : ℕ) : Type 0 where
  pub at : Scope h (ptr_of w)
  pub along : Scope h (ptr_of t)
  pub many : length (args_of (store_at h) (ptr_of t)) ≡ count

-- one of them
unfoldable pub parameter_ask : rules.Ptr → List rules.Ptr → ℕ → (Store → rules.Ptr → Ask) → Ask
parameter_ask W ys i next =
    pi_of W λ s x b k.
    if_there (nth ys i) λ a.
    opens (some a) k 0 b next
