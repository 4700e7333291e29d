-- What inference asks of its input beside `Sane` of safety: declared types are closed, a record's type is in scope where the record stands, and a
-- structure names a declaration. Shows that accepted input has it, that an extension of the store keeps it, and that a new record whose type is
-- in scope keeps it, too.
use Prim.Native.Nat.{ℕ, zero, suc, ◌-◌, ◌≤◌, ◌<◌}
use Rattle.std.proofs.Math.Decide.{dec_lt}
use native.Mathlib.Omega.{arith}
use Rattle.std.specs.Prelude.{◌≡◌, refl, List, [], ◌∷◌, ◌++◌}
use Rattle.std.proofs.Math.Path.{sym, subst}
use Rattle.std.proofs.Common.{ap, ◌∙◌, length-append}
use Rattle.std.proofs.Math.Option.{Option, none, some}
use Rattle.std.proofs.Math.ListN.{length, get_or-eq_default}
use Rattle.rules.specs.Rows.{Ptr, Cell, Store}
use Rattle.rules.specs.RowCheck.{AllPass, InScope}
use Rattle.rules.specs.Declarations.{Form, plain, structure, Decl, Entry, Env, nth, decl_at, value_on, value_of}
use Rattle.rules.specs.Accepted.{Lent, Closed, FormOk, structure_ok, library_rows, Accepted}
use Rattle.rules.specs.Refusals.{Limits}
use Rattle.rules.specs.Call.{limits_of}
use Rattle.rules.specs.Inference.{type_on, type_of, under}
use Rattle.substitution.specs.Stores.{Ext, ext_length, ext_cell}
use Rattle.safety.specs.Lists.{nth_inside, nth_seam, none_some, some_same}
use Rattle.safety.specs.Sane.{depth_of, decl_count, Sane, in_later, sane_later, accepted_sane, accepted_depth}
use Rattle.inferring.specs.Asks.{with_record}

pub record Typed (e : Env) (s : Store) : Type 0 where
  pub sane : Sane e s
  pub type : (d : ℕ) → d < decl_count e → Closed s (length s) (decl_at e.decls d).type
  pub constructor : (d ps c : ℕ) → (decl_at e.decls d).form ≡ structure ps c → c < decl_count e
  pub record_type : (i : ℕ) (x : Ptr) → type_of e i ≡ some x → InScope s (depth_of e - suc i) x

-- a term in scope is asked over such a store, which the limits allow
pub record InferReady (e : Env) (lim : Limits) (s : Store) (t : Ptr) : Type 0 where
  pub typed : Typed e s
  pub term : InScope s (depth_of e) t
  pub room : length s ≤ lim.rows

-- A STORE THAT HAS GROWN

closed_later : {s s' : Store} {p : Ptr} → Ext s s' → Closed s (length s) p → Closed s' (length s') p
closed_later {p = p} x c = record {
  there = omega (arith, ext_length x, c.there);
  closed = ap (λ (c : Cell). c.bound) (ext_cell x p.row c.there) ∙ c.closed;
  still = c.still;
}

pub typed_later : {e : Env} {s s' : Store} → Ext s s' → AllPass (decl_count e) s' → Typed e s → Typed e s'
typed_later x a h = record {
  sane = sane_later x a h.sane;
  type = λ d l. closed_later x (h.type d l);
  constructor = h.constructor;
  record_type = λ i v q. in_later x (h.record_type i v q);
}

-- A NEW RECORD

nth_before : {A : Type 0} (xs ys : List A) (i : ℕ) → i < length xs → nth (xs ++ ys) i ≡ nth xs i
unfolding nth
nth_before [] ys i h = absurd (omega arith)
nth_before (x ∷ xs) ys zero h = refl
nth_before (x ∷ xs) ys (suc i) h = nth_before xs ys i (omega arith)

pub depth_under : (e : Env) (X : Ptr) → depth_of (under e X) ≡ suc (depth_of e)
depth_under e X = omega (arith, length-append e.context (record { type = X; value = none } ∷ []))

-- record i of the longer context is the new one, or one of the others, counted from the one before it
data Entered (e : Env) (X : Ptr) (i : ℕ) : Type 0 where
  the_new : nth (under e X).context (depth_of (under e X) - suc i) ≡ some (record { type = X; value = none }) → depth_of (under e X) - suc i ≡ depth_of e → Entered e X i
  another : (j : ℕ) → nth (under e X).context (depth_of (under e X) - suc i) ≡ nth e.context (depth_of e - suc j) →
      depth_of (under e X) - suc i ≡ depth_of e - suc j → Entered e X i

entered : (e : Env) (X : Ptr) (i : ℕ) → Entered e X i
entered e X i = on (dec_lt (depth_of (under e X) - suc i) (depth_of e))
  where
    new : Entry
    new = record { type = X; value = none }

    on : Dec (depth_of (under e X) - suc i < depth_of e) → Entered e X i
    on (yes h) =
        let z = depth_under e X in
        let same : depth_of (under e X) - suc i ≡ depth_of e - suc (i - 1) = omega arith in
        another (i - 1) (nth_before e.context (new ∷ []) _ h ∙ ap (nth e.context) same) same
    on (no h) =
        let z = depth_under e X in
        let same : depth_of (under e X) - suc i ≡ depth_of e = omega arith in
        the_new (nth_seam e.context new [] _ (sym same)) same

value_under : {e : Env} {s : Store} {X v : Ptr} {i : ℕ} → Sane e s → value_of (under e X) i ≡ some v → Entered e X i → InScope s (depth_of (under e X) - suc i) v
unfolding value_of
value_under sane q (the_new n l) = absurd (none_some (ap value_on (sym n) ∙ q))
value_under {s = s} {v = v} sane q (another j n l) = subst (λ (d : ℕ). InScope s d v) (sym l) (sane.context j v (ap value_on (sym n) ∙ q))

type_under : {e : Env} {s : Store} {X x : Ptr} {i : ℕ} → Typed e s → InScope s (depth_of e) X → type_of (under e X) i ≡ some x → Entered e X i →
    InScope s (depth_of (under e X) - suc i) x
unfolding type_of
type_under {s = s} {X} {x} typed h q (the_new n l) =
    let same : X ≡ x = some_same (ap type_on (sym n) ∙ q) in
    subst (λ (d : ℕ). InScope s d x) (sym l) (rw (← same) h)
type_under {s = s} {x = x} typed h q (another j n l) = subst (λ (d : ℕ). InScope s d x) (sym l) (typed.record_type j x (ap type_on (sym n) ∙ q))

pub typed_under : {e : Env} {s : Store} {X : Ptr} → Typed e s → InScope s (depth_of e) X → Typed (under e X) s
typed_under {e} {s} {X} typed h = record {
  sane = record {
    pass = typed.sane.pass;
    value = typed.sane.value;
    rule = typed.sane.rule;
    context = λ i v q. value_under typed.sane q (entered e X i);
  };
  type = typed.type;
  constructor = typed.constructor;
  record_type = λ i x q. type_under typed h q (entered e X i);
}

-- under a record or none
pub data RecordIn (e : Env) (s : Store) : Option Ptr → Type 0 where
  no_record : RecordIn e s none
  a_record : {X : Ptr} → InScope s (depth_of e) X → RecordIn e s (some X)

pub record_later : {e : Env} {s s' : Store} {X : Option Ptr} → Ext s s' → RecordIn e s X → RecordIn e s' X
record_later x no_record = no_record
record_later x (a_record h) = a_record (in_later x h)

pub typed_with : {e : Env} {s : Store} {X : Option Ptr} → Typed e s → RecordIn e s X → Typed (with_record e X) s
typed_with typed no_record = typed
typed_with typed (a_record h) = typed_under typed h

-- the declarations are the same
pub same_count : {e : Env} {s : Store} {X : Option Ptr} → RecordIn e s X → decl_count (with_record e X) ≡ decl_count e
same_count no_record = refl
same_count (a_record h) = refl

-- FROM THE LISTS OF DECLARATIONS AND RECORDS

-- a declaration's type is closed, and a structure names one of the D declarations
pub record DeclTyped (D : ℕ) (s : Store) (x : Decl) : Type 0 where
  pub type : Closed s (length s) x.type
  pub named : (ps c : ℕ) → x.form ≡ structure ps c → c < D

plain_structure : {ps c : ℕ} → plain ≡ structure ps c → ⊥
plain_structure q = let z : ◌≡◌ {A = ℕ} 0 1 = cc in omega arith

entry_typed : {x : Ptr} (o : Option Entry) → type_on o ≡ some x → (y : Entry) × (o ≡ some y) × (y.type ≡ x)
entry_typed none q = absurd (none_some q)
entry_typed (some y) q = (y, refl, some_same q)

module _ (e : Env) (s : Store) (decls : (j : ℕ) → j < decl_count e → DeclTyped (decl_count e) s (decl_at e.decls j))
    (records : (j : ℕ) (x : Entry) → nth e.context j ≡ some x → InScope s j x.type) where
  -- past the declarations stands an axiom
  named_in : (d ps c : ℕ) → (decl_at e.decls d).form ≡ structure ps c → Dec (d < decl_count e) → c < decl_count e
  unfolding decl_at
  named_in d ps c q (yes h) = (decls d h).named ps c q
  named_in d ps c q (no h) =
      let out : length e.decls ≤ d = omega arith in
      let same = sym (get_or-eq_default e.decls _ out) in
      absurd (plain_structure (ap (λ (x : Decl). x.form) same ∙ q))

  record_in : (i : ℕ) (x : Ptr) → type_of e i ≡ some x → InScope s (depth_of e - suc i) x
  unfolding type_of
  record_in i x q =
      let y = entry_typed (nth e.context (depth_of e - suc i)) q in
      subst (InScope s (depth_of e - suc i)) y.2 (records (depth_of e - suc i) y.0 y.1)

  pub typed_of : Sane e s → Typed e s
  typed_of sane = record {
    sane = sane;
    type = λ d h. (decls d h).type;
    constructor = λ d ps c q. named_in d ps c q (dec_lt d (decl_count e));
    record_type = record_in;
  }

-- ACCEPTED INPUT

module _ {w : Lent} {e : Env} {s : Store} (a : Accepted w e s) where
  in_store : {p : Ptr} → Closed s (library_rows w) p → Closed s (length s) p
  in_store c = record { there = omega (arith, c.there, a.rows.many); closed = c.closed; still = c.still }

  named_there : {φ : Form} {ps c : ℕ} → FormOk w.declarations s (library_rows w) φ → φ ≡ structure ps c → c < decl_count e
  named_there {ps = ps} {c = c} f q = on (subst (FormOk w.declarations s (library_rows w)) q f)
    where
      on : FormOk w.declarations s (library_rows w) (structure ps c) → c < decl_count e
      on (structure_ok h) = omega (arith, h.there, a.declarations.many, a.sizes.whole_declarations)

  decl_typed : (j : ℕ) → j < decl_count e → DeclTyped (decl_count e) s (decl_at e.decls j)
  decl_typed j h =
      let ok = a.declarations.rules j (omega (arith, h, a.declarations.many)) in
      record { type = in_store ok.type; named = λ ps c q. named_there ok.form q }

  entry_in : (j : ℕ) (x : Entry) → nth e.context j ≡ some x → InScope s j x.type
  entry_in j x q = (a.records.rules j (omega (arith, nth_inside e.context j q, a.records.many))).type x q

  pub accepted_typed : Typed e s
  accepted_typed = typed_of e s decl_typed entry_in (accepted_sane a)

  pub accepted_infer_ready : InferReady e (limits_of w) s w.term
  accepted_infer_ready = record {
    typed = accepted_typed;
    term = subst (λ (d : ℕ). InScope s d w.term) (sym (accepted_depth a)) a.term;
    room = omega (arith, a.rows.many, a.sizes.mark);
  }
