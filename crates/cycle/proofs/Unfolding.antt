-- Delta and a variable's context value: what the firing answers is what trying the rule comes to.
-- Assumes what the member is given.
use Prim.Native.Nat.{ℕ, suc, ◌/◌, ◌<◌}
use mathlib.Core.Path.{◌≡◌, refl, sym, ap, ap₂, ◌∙◌}
use mathlib.Core.Bool.{Bool, true, false}
use mathlib.Core.List.{List}
use mathlib.Core.Option.{Option, none, some}
use lib.Dec.{eqb}
use lib.ListN.{length}
use Rattle.rules.specs.Rows as rules
use Rattle.rules.specs.Rows.{Store, up}
use Rattle.rules.specs.RowCheck.{InScope}
use Rattle.rules.specs.Accepted.{part}
use Rattle.rules.specs.Declarations.{Env, decl_at, value_of}
use Rattle.rules.specs.Firings.{itself}
use Rattle.rules.specs.HeadTests.{provided, unfolds}
use Rattle.course.specs.Tries.{Try, variable, delta}
use Rattle.course.specs.Eval.{missed, firing}
use Rattle.safety.specs.Sane.{depth_of, Sane, closed_in}
use Rattle.safety.specs.Scope.{itself_in, value_in}
use Rattle.safety.specs.Parts.{unfolds_to_lem}
use Rattle.ways.specs.Steps.{step_of}
use Rattle.ways.specs.Spines.{args_of}
use Rattle.ways.specs.Ways.{variable_none, variable_fires, delta_none, delta_fires}
use Rattle.rows.specs.declared.Ptr.{Ptr}
use Rattle.rows.specs.Words.{ite, ptr_of, store_of}
use Rattle.tables.specs.Env.{env_of}
use Rattle.tables.specs.Read.{decl_read}
use Rattle.tables.specs.ReadLaws.{levels_is, value_is}
use Rattle.state.specs.declared.Given.{Given}
use Rattle.state.specs.declared.Meter.{Meter}
use Rattle.state.specs.State.{tally_of, limits_in}
use Rattle.firing.specs.Fires.{unfold_step, raised, context_value, unfolds_to}
use Rattle.cycle.specs.Cycle.{Asked}
use Rattle.cycle.specs.Course.{fires_in}
use Rattle.cycle.proofs.Constants.{answer_to, tried}

-- A POINTER OR NONE, and a try that fires it or misses
module _ {e : Env} (l : List ℕ) (g : Given) (n : ℕ) (sc : List ℕ) (m : Meter) (sane : Sane e (store_of l sc m.mark)) (xs : List rules.Ptr) (y : Try) where
  unfolded : (o : Option rules.Ptr) → (o ≡ none → answer_to e l g n sc m y ≡ missed (tally_of l sc m)) →
      ((v : rules.Ptr) → o ≡ some v → answer_to e l g n sc m y ≡ firing (tally_of l sc m) (itself v) xs) →
      ((v : rules.Ptr) → o ≡ some v → InScope (store_of l sc m.mark) (depth_of e) v) → unfold_step (limits_in g sc) (tally_of l sc m) o xs ≡ tried e l g n sc m y
  unfolded none miss fire scope = sym (ap (step_of (limits_in g sc)) (miss refl))
  unfolded (some v) miss fire scope =
      fires_in (limits_in g sc) (tally_of l sc m) (itself v) xs sane (itself_in (scope v refl)) ∙ sym (ap (step_of (limits_in g sc)) (fire v refl))

-- DELTA, by the declaration's words
module _ (ds rs cs : List ℕ) (depth d n : ℕ) (there : d < length ds / 16) where
  provided_ite : (v : Option rules.Ptr) (b : Bool) → ite b v none ≡ provided b v
  provided_ite v true = refl
  provided_ite v false = refl

  pub unfolds_is : unfolds_to (decl_read (part 16 ds d)) n ≡ unfolds (decl_at (env_of ds rs cs depth).decls d) n
  unfolding unfolds
  unfolds_is =
      provided_ite _ (eqb (decl_read (part 16 ds d)).levels n)
      ∙ ap₂ (λ (k : ℕ) (v : Option rules.Ptr). provided (eqb k n) v)
      (sym (levels_is ds rs cs depth d there)) (sym (value_is ds rs cs depth d there))

module _ {l ds rs cs sc : List ℕ} {g : Given} {m : Meter} {t : Ptr} (a : Asked l ds rs cs sc g m t) (n : ℕ) where
  abbrev e : Env
  e = env_of ds rs cs g.depth

  abbrev s : Store
  s = store_of l sc m.mark

  abbrev xs : List rules.Ptr
  xs = args_of s (ptr_of t)

  pub delta_tried : (d levels : ℕ) → d < length ds / 16 →
      unfold_step (limits_in g sc) (tally_of l sc m) (unfolds_to (decl_read (part 16 ds d)) levels) xs ≡ tried e l g n sc m (delta (decl_at e.decls d) levels xs)
  delta_tried d levels there =
      let D = decl_at e.decls d in
      let sane = a.stand.sane in
      ap (λ (o : Option rules.Ptr). unfold_step (limits_in g sc) (tally_of l sc m) o xs) (unfolds_is ds rs cs g.depth d levels there)
      ∙ unfolded l g n sc m sane xs (delta D levels xs) (unfolds D levels) (λ q. delta_none e _ _ (tally_of l sc m) D levels xs q)
      (λ v q. delta_fires e _ _ (tally_of l sc m) D levels xs q)
      (λ v q. closed_in (depth_of e) (sane.value d v (unfolds_to_lem D levels q)))

  -- A CONTEXT VALUE, shifted i + 1
  pub variable_tried : (i : ℕ) → unfold_step (limits_in g sc) (tally_of l sc m) (context_value cs g.depth s i) xs ≡ tried e l g n sc m (variable e s i xs)
  unfolding value_of
  variable_tried i = on (value_of e i) refl
    where
      on : (o : Option rules.Ptr) → value_of e i ≡ o → unfold_step (limits_in g sc) (tally_of l sc m) (raised s (suc i) o) xs ≡ tried e l g n sc m (variable e s i xs)
      on none q = sym (ap (step_of (limits_in g sc)) (variable_none e _ _ (tally_of l sc m) i xs q))
      on (some v) q =
          fires_in (limits_in g sc) (tally_of l sc m) (itself (up s v (suc i))) xs a.stand.sane (itself_in (value_in i (a.stand.sane.context i v q)))
          ∙ sym (ap (step_of (limits_in g sc)) (variable_fires e _ _ (tally_of l sc m) i xs q))
