-- The environment carried along an embedding: every pointer renamed, of declarations' types and values, of rule values and of context records.
-- Shows that reduction reads it alike. Assumes nothing.
use Prim.Native.Nat.{ℕ, zero, suc, ◌-◌}
use Rattle.std.specs.Prelude.{◌≡◌, length, eqb}
use Rattle.std.proofs.Math.Path.{refl, ap, subst}
use Rattle.std.proofs.Common.{sym}
use mathlib.Core.List.{List, [], ◌∷◌, map}
use Rattle.std.proofs.Math.Option.{Option, none, some}
use Rattle.std.proofs.lemmas.List.{length-map}
use Rattle.rules.specs.Rows.{Ptr, Store}
use Rattle.rules.specs.Declarations.{Role, role_code, Rule, Recursor, Form, plain, constructor, recursor, structure, Decl, Entry, Env, nth, decl_at}
use Rattle.rules.specs.Declarations.{holder_on, holder_from, holder, value_on, value_of}
use Rattle.again.specs.Embeds.{ren}
use Rattle.again.specs.Carried.{ren_value}
use Rattle.again.specs.Alike.{Opt, nones, somes, Each, ended, next, RuleLike, FormLike, plain_like, constructor_like, recursor_like}
use Rattle.again.specs.Alike.{structure_like, DeclLike, EnvLike}
use Rattle.again.specs.Embedding.{embedding}

module _ (ρ : ℕ → ℕ) where
  abbrev pub ren_rule : Rule → Rule
  ren_rule r = record { constructor = r.constructor; fields = r.fields; value = ren ρ r.value }

  abbrev pub ren_recursor : Recursor → Recursor
  ren_recursor o = record { parameters = o.parameters; motives = o.motives; minors = o.minors; indices = o.indices; rules = map ren_rule o.rules }

  abbrev pub ren_form : Form → Form
  ren_form plain = plain
  ren_form (constructor ps fs) = constructor ps fs
  ren_form (recursor o) = recursor (ren_recursor o)
  ren_form (structure ps c) = structure ps c

  abbrev pub ren_decl : Decl → Decl
  ren_decl D = record { form = ren_form D.form; levels = D.levels; type = ren ρ D.type; value = ren_value ρ D.value; role = D.role }

  abbrev pub ren_entry : Entry → Entry
  ren_entry x = record { type = ren ρ x.type; value = ren_value ρ x.value }

  abbrev pub ren_env : Env → Env
  ren_env e = record { decls = map ren_decl e.decls; context = map ren_entry e.context }

  value_renamed : (x : Option Ptr) → Opt (λ (p p̃ : Ptr). ren ρ p ≡ p̃) x (ren_value ρ x)
  value_renamed none = nones
  value_renamed (some v) = somes refl

  rules_renamed : {s s̃ : Store} (rs : List Rule) → Each (RuleLike (embedding ρ) s s̃) rs (map ren_rule rs)
  rules_renamed [] = ended
  rules_renamed (r ∷ rs) = next (record { constructor = refl; fields = refl; value = refl }) (rules_renamed rs)

  form_renamed : {s s̃ : Store} (f : Form) → FormLike (embedding ρ) s s̃ f (ren_form f)
  form_renamed plain = plain_like
  form_renamed (constructor ps fs) = constructor_like
  form_renamed (recursor o) = recursor_like (record { parameters = refl; motives = refl; minors = refl; indices = refl; rules = rules_renamed o.rules })
  form_renamed (structure ps c) = structure_like

  declared_renamed : {s s̃ : Store} (ds : List Decl) (d : ℕ) → DeclLike (embedding ρ) s s̃ (decl_at ds d) (decl_at (map ren_decl ds) d)
  unfolding decl_at
  declared_renamed [] d = record { form = plain_like; levels = refl; value = nones; role = refl }
  declared_renamed (D ∷ ds) zero = record { form = form_renamed D.form; levels = refl; value = value_renamed D.value; role = refl }
  declared_renamed (D ∷ ds) (suc d) = declared_renamed ds d

  holder_renamed : (n : ℕ) (r : Role) (ds : List Decl) → holder_from n r ds ≡ holder_from n r (map ren_decl ds)
  unfolding holder_from
  holder_renamed n r [] = refl
  holder_renamed n r (D ∷ ds) = ap (holder_on (eqb (role_code D.role) (role_code r)) (some n)) (holder_renamed (suc n) r ds)

  record_renamed : (xs : List Entry) (i : ℕ) → Opt (λ (p p̃ : Ptr). ren ρ p ≡ p̃) (value_on (nth xs i)) (value_on (nth (map ren_entry xs) i))
  unfolding nth
  record_renamed [] i = nones
  record_renamed (x ∷ xs) zero = value_renamed x.value
  record_renamed (x ∷ xs) (suc i) = record_renamed xs i

  -- so it is carried
  pub env_renamed : {s s̃ : Store} (e : Env) → EnvLike (embedding ρ) s s̃ e (ren_env e)
  unfolding holder value_of
  env_renamed e = record {
    declared = declared_renamed e.decls;
    holders = λ r. holder_renamed 0 r e.decls;
    values = λ i.
        subst (λ (n : ℕ). Opt (λ (p p̃ : Ptr). ren ρ p ≡ p̃) (value_of e i) (value_on (nth (map ren_entry e.context) (n - suc i))))
        (sym (length-map e.context ren_entry)) (record_renamed e.context (length e.context - suc i));
  }
