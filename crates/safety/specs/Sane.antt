-- What accepted input gives, as one record, and that an extension of the store whose rows pass keeps it.
-- Assumes `Accepted w e s` of the rules; `Sane` and `Ready` are all that the other files take from it.
use Prim.Native.Nat.{ℕ, suc, ◌+◌, ◌-◌, ◌≤◌, ◌<◌}
use Rattle.std.proofs.Math.Decide.{dec_lt}
use Rattle.std.proofs.Common.{arith, sym, ap, ◌∙◌, subst}
use Rattle.std.specs.Prelude.{◌≡◌, refl, List, [], ◌∷◌, Bool, true, false, length, eqb}
use Rattle.std.proofs.Math.Option.{Option, none, some}
use Rattle.std.proofs.Math.ListN.{get_or-eq_default}
use Rattle.rules.specs.Rows.{Ptr, Cell, Store, bound_on}
use Rattle.rules.specs.RowCheck.{AllPass, InScope}
use Rattle.rules.specs.Declarations.{Role, role_code, Rule, Recursor, Form, plain, recursor, Decl, Entry, Env, nth, decl_at, holder_on, holder_from}
use Rattle.rules.specs.Declarations.{holder, value_on, value_of}
use Rattle.rules.specs.Accepted.{Lent, Closed, FormOk, recursor_ok, library_rows, Accepted}
use Rattle.rules.specs.Refusals.{Limits}
use Rattle.rules.specs.Call.{limits_of}
use Rattle.substitution.specs.Stores.{Ext, ext_length, ext_cell, ext_bound}
use Rattle.safety.specs.Lists.{nth_inside, none_some, some_same}

-- how deep the context is, and how many declarations there are
abbrev pub depth_of : Env → ℕ
depth_of e = length e.context

abbrev pub decl_count : Env → ℕ
decl_count e = length e.decls

-- every row passes; the values of declarations and of rules are closed; a context value is in scope where its record stands
pub record Sane (e : Env) (s : Store) : Type 0 where
  pub pass : AllPass (decl_count e) s
  pub value : (d : ℕ) (v : Ptr) → (decl_at e.decls d).value ≡ some v → Closed s (length s) v
  pub rule : (d : ℕ) (o : Recursor) (i : ℕ) (ρ : Rule) →
      (decl_at e.decls d).form ≡ recursor o → nth o.rules i ≡ some ρ → Closed s (length s) ρ.value
  pub context : (i : ℕ) (v : Ptr) → value_of e i ≡ some v → InScope s (depth_of e - suc i) v

-- a term in scope is asked over a sane store that the limits allow
pub record Ready (e : Env) (lim : Limits) (s : Store) (t : Ptr) : Type 0 where
  pub sane : Sane e s
  pub term : InScope s (depth_of e) t
  pub room : length s ≤ lim.rows

-- A STORE THAT HAS GROWN

pub in_later : {s s' : Store} {d : ℕ} {p : Ptr} → Ext s s' → InScope s d p → InScope s' d p
in_later {p = p} x i = record {
  there = omega (arith, ext_length x, i.there);
  still = λ z. i.still (ap (λ (c : Cell). c.bound) (sym (ext_cell x p.row i.there)) ∙ z);
  within = omega (arith, i.within, ext_bound x p i.there);
}

closed_later : {s s' : Store} {p : Ptr} → Ext s s' → Closed s (length s) p → Closed s' (length s') p
closed_later {p = p} x c = record {
  there = omega (arith, ext_length x, c.there);
  closed = ap (λ (c : Cell). c.bound) (ext_cell x p.row c.there) ∙ c.closed;
  still = c.still;
}

pub sane_later : {e : Env} {s s' : Store} → Ext s s' → AllPass (decl_count e) s' → Sane e s → Sane e s'
sane_later x a h = record {
  pass = a;
  value = λ d v q. closed_later x (h.value d v q);
  rule = λ d o i ρ q r. closed_later x (h.rule d o i ρ q r);
  context = λ i v q. in_later x (h.context i v q);
}

-- what is closed is in scope everywhere
pub closed_in : {s : Store} {p : Ptr} (d : ℕ) → Closed s (length s) p → InScope s d p
closed_in {p = p} d c = record {
  there = c.there;
  still = λ z. c.still;
  within = omega (arith, ap (λ (n : ℕ). bound_on n p.shift) c.closed);
}

-- HOLDERS: whoever holds a role is a declaration, in every environment

holder_from_lem : (n : ℕ) (r : Role) (ds : List Decl) {d : ℕ} → holder_from n r ds ≡ some d → d < n + length ds
unfolding holder_from
holder_from_lem n r [] q = absurd (none_some q)
holder_from_lem n r (x ∷ ds) {d} q = on (eqb (role_code x.role) (role_code r)) q (λ q'. holder_from_lem (suc n) r ds q')
  where
    on : (b : Bool) →
        holder_on b (some n) (holder_from (suc n) r ds) ≡ some d → (holder_from (suc n) r ds ≡ some d → d < suc n + length ds) → d < n + length (x ∷ ds)
    on true q' ih = omega (arith, some_same q')
    on false q' ih = omega (arith, ih q')

pub holder_below : (e : Env) (r : Role) {d : ℕ} → holder e r ≡ some d → d < decl_count e
unfolding holder
holder_below e r q = omega (arith, holder_from_lem 0 r e.decls q)

-- FROM THE LISTS OF DECLARATIONS AND RECORDS

-- what a declaration names is closed
pub record DeclIn (s : Store) (x : Decl) : Type 0 where
  pub value : (v : Ptr) → x.value ≡ some v → Closed s (length s) v
  pub rule : (o : Recursor) (i : ℕ) (ρ : Rule) → x.form ≡ recursor o → nth o.rules i ≡ some ρ → Closed s (length s) ρ.value

plain_recursor : {o : Recursor} → plain ≡ recursor o → ⊥
plain_recursor q = let z : ◌≡◌ {A = ℕ} 0 1 = cc in omega arith

-- past the declarations stands an axiom without a value
past_in : (s : Store) (ds : List Decl) (d : ℕ) → length ds ≤ d → DeclIn s (decl_at ds d)
unfolding decl_at
past_in s ds d h =
    let same = sym (get_or-eq_default ds _ h) in
    record {
      value = λ v q. absurd (none_some (ap (λ (x : Decl). x.value) same ∙ q));
      rule = λ o i ρ q. absurd (plain_recursor (ap (λ (x : Decl). x.form) same ∙ q));
    }

entry_valued : {v : Ptr} (o : Option Entry) → value_on o ≡ some v → (x : Entry) × (o ≡ some x) × (x.value ≡ some v)
entry_valued none q = absurd (none_some q)
entry_valued (some x) q = (x, refl, q)

module _ (e : Env) (s : Store) (decls : (j : ℕ) → j < decl_count e → DeclIn s (decl_at e.decls j))
    (values : (j : ℕ) (x : Entry) (v : Ptr) → nth e.context j ≡ some x → x.value ≡ some v → InScope s j v) where
  decl_in : (d : ℕ) → Dec (d < decl_count e) → DeclIn s (decl_at e.decls d)
  decl_in d (yes h) = decls d h
  decl_in d (no h) = past_in s e.decls d (omega arith)

  context_in : (i : ℕ) (v : Ptr) → value_of e i ≡ some v → InScope s (depth_of e - suc i) v
  unfolding value_of
  context_in i v q = let x = entry_valued (nth e.context (depth_of e - suc i)) q in values (depth_of e - suc i) x.0 v x.1 x.2

  pub sane_of : AllPass (decl_count e) s → Sane e s
  sane_of a = record {
    pass = a;
    value = λ d. (decl_in d (dec_lt d (decl_count e))).value;
    rule = λ d. (decl_in d (dec_lt d (decl_count e))).rule;
    context = context_in;
  }

-- ACCEPTED INPUT

rule_closed : {words : List ℕ} {s : Store} {L : ℕ} {φ : Form} {o : Recursor} →
    FormOk words s L φ → φ ≡ recursor o → (i : ℕ) (ρ : Rule) → nth o.rules i ≡ some ρ → Closed s L ρ.value
rule_closed {words} {s} {L} {o = o} f q = on (subst (FormOk words s L) q f)
  where
    on : FormOk words s L (recursor o) → (i : ℕ) (ρ : Rule) → nth o.rules i ≡ some ρ → Closed s L ρ.value
    on (recursor_ok c v) = v

module _ {w : Lent} {e : Env} {s : Store} (a : Accepted w e s) where
  -- library rows and used scratch rows are the store
  rows_many : length s ≡ library_rows w + w.mark
  rows_many = a.rows.many

  in_store : {p : Ptr} → Closed s (library_rows w) p → Closed s (length s) p
  in_store c = record { there = omega (arith, c.there, rows_many); closed = c.closed; still = c.still }

  decl_known : (j : ℕ) → j < decl_count e → DeclIn s (decl_at e.decls j)
  decl_known j h =
      let ok = a.declarations.rules j (omega (arith, h, a.declarations.many)) in
      record { value = λ v q. in_store (ok.value v q); rule = λ o i ρ q r. in_store (rule_closed ok.form q i ρ r) }

  entry_known : (j : ℕ) (x : Entry) (v : Ptr) → nth e.context j ≡ some x → x.value ≡ some v → InScope s j v
  entry_known j x v q r = (a.records.rules j (omega (arith, nth_inside e.context j q, a.records.many))).value x v q r

  pub accepted_sane : Sane e s
  accepted_sane =
      sane_of e s decl_known entry_known
      (subst (λ (D : ℕ). AllPass D s) (sym a.declarations.many) (record { each = λ n h. a.rows.rules n (omega (arith, h, rows_many)) }))

  pub accepted_depth : depth_of e ≡ w.depth
  accepted_depth = a.records.many

  pub accepted_ready : Ready e (limits_of w) s w.term
  accepted_ready = record {
    sane = accepted_sane;
    term = subst (λ (d : ℕ). InScope s d w.term) (sym accepted_depth) a.term;
    room = omega (arith, rows_many, a.sizes.mark);
  }
