-- For accepted input the store is formed, the term good and the environment's pointers stand in the store; so a call's answer, asked again, is itself, in
-- proofs/OnCall.antt. Assumes that the words are accepted, and nothing else.
use Prim.Native.Nat.{ℕ, zero, suc, ◌-◌, ◌≤◌, ◌<◌}
use Rattle.std.proofs.Common.{arith, sym, ap, ◌∙◌, subst}
use Rattle.std.specs.Prelude.{◌≡◌, List, [], ◌∷◌, length}
use Rattle.std.proofs.Math.Path.{refl}
use Rattle.std.proofs.Math.Option.{Option, none, some}
use Rattle.std.proofs.Math.ListN.{get_or-eq_default}
use Rattle.rules.specs.Rows.{Ptr, blank, Store}
use Rattle.rules.specs.RowCheck.{AllPass}
use Rattle.rules.specs.Declarations.{no_role, Rule, Recursor, Form, plain, recursor, Decl, Entry, Env, nth, decl_at, value_on, value_of}
use Rattle.rules.specs.Accepted.{Lent, Closed, FormOk, recursor_ok, library_rows, declaration_count, Accepted}
use Rattle.substitution.specs.Places.{Place, below, here, past, place}
use Rattle.substitution.specs.Stores.{Formed, Good, scope_good}
use Rattle.substitution.specs.Passing.{pass_formed}
use Rattle.again.specs.Keeps.{EnvStands}

none_some : {A : Type 0} {a : A} → none ≡ some a → ⊥
none_some {A} {a} q = let n : ◌≡◌ {A = ℕ} 0 1 = cc in omega arith

plain_recursor : {o : Recursor} → plain ≡ recursor o → ⊥
plain_recursor {o} q = let n : ◌≡◌ {A = ℕ} 0 1 = cc in omega arith

-- what is found in a list stands before its end
nth_inside : {A : Type 0} {a : A} (xs : List A) (i : ℕ) → nth xs i ≡ some a → i < length xs
unfolding nth
nth_inside [] i q = absurd (none_some q)
nth_inside (x ∷ xs) zero q = omega arith
nth_inside (x ∷ xs) (suc i) q = let h = nth_inside xs i q in omega arith

-- past the list stands an axiom
no_decl : Decl
no_decl = record { form = plain; levels = 0; type = blank; value = none; role = no_role }

past_decls : (ds : List Decl) (d : ℕ) → length ds ≤ d → decl_at ds d ≡ no_decl
unfolding decl_at no_decl
past_decls ds d h = get_or-eq_default ds _ h

module _ {w : Lent} {e : Env} {s : Store} (a : Accepted w e s) where
  accepted_passes : AllPass (declaration_count w) s
  accepted_passes = record { each = λ n h. a.rows.rules n (let q = a.rows.many in omega arith) }

  pub accepted_formed : Formed s
  accepted_formed = pass_formed accepted_passes

  closed_good : {p : Ptr} → Closed s (library_rows w) p → Good s p
  closed_good c = record { lower = let q = a.rows.many in let h = c.there in omega arith; still = λ z. c.still }

  declared_value : (d : ℕ) (v : Ptr) → Place d (length e.decls) → (decl_at e.decls d).value ≡ some v → Good s v
  unfolding no_decl
  declared_value d v (below h) q = closed_good ((a.declarations.rules d (let z = a.declarations.many in omega arith)).value v q)
  declared_value d v (here h) q = absurd (none_some (ap (λ (D : Decl). D.value) (sym (past_decls e.decls d (omega arith))) ∙ q))
  declared_value d v (past h) q = absurd (none_some (ap (λ (D : Decl). D.value) (sym (past_decls e.decls d (omega arith))) ∙ q))

  rules_closed : {ws : List ℕ} {L : ℕ} {f : Form} {o : Recursor} → FormOk ws s L f → f ≡ recursor o → (i : ℕ) (r : Rule) → nth o.rules i ≡ some r → Closed s L r.value
  rules_closed {ws} {L} {f} {o} k q = go (subst (FormOk ws s L) q k)
    where
      go : FormOk ws s L (recursor o) → (i : ℕ) (r : Rule) → nth o.rules i ≡ some r → Closed s L r.value
      go (recursor_ok c v) = v

  declared_rule : (d : ℕ) (o : Recursor) → Place d (length e.decls) → (decl_at e.decls d).form ≡ recursor o →
      (i : ℕ) (r : Rule) → nth o.rules i ≡ some r → Good s r.value
  unfolding no_decl
  declared_rule d o (below h) q i r z = closed_good (rules_closed (a.declarations.rules d (let n = a.declarations.many in omega arith)).form q i r z)
  declared_rule d o (here h) q i r z = absurd (plain_recursor (ap (λ (D : Decl). D.form) (sym (past_decls e.decls d (omega arith))) ∙ q))
  declared_rule d o (past h) q i r z = absurd (plain_recursor (ap (λ (D : Decl). D.form) (sym (past_decls e.decls d (omega arith))) ∙ q))

  record_value : (j : ℕ) (v : Ptr) (x : Option Entry) → nth e.context j ≡ x → value_on x ≡ some v → Good s v
  record_value j v none h q = absurd (none_some q)
  record_value j v (some x) h q =
      scope_good ((a.records.rules j (let n = a.records.many in let l = nth_inside e.context j h in omega arith)).value x v h q)

  pub accepted_stands : EnvStands s e
  unfolding value_of
  accepted_stands = record {
    value = λ d v. declared_value d v (place d (length e.decls));
    rule = λ d o. declared_rule d o (place d (length e.decls));
    context = λ i v q. record_value (length e.context - suc i) v (nth e.context (length e.context - suc i)) refl q;
  }
