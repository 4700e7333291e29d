-- A term applied in turn to runs of two spines: the spines are read again in the rows that the runs before have written, and are the same there.
-- Assumes what `apply_rule` is given (`RunsApply`).
use Prim.Native.Nat.{ℕ, zero, suc, ◌+◌, ◌-◌, ◌/◌, ◌≤◌}
use native.Mathlib.Omega.{arith}
use mathlib.Core.Path.{◌≡◌, refl, sym, ap, ◌∙◌, subst}
use mathlib.Core.List.{List, ◌++◌, append_assoc}
use lib.ListN.{length, take, drop, length-drop}
use lib.Seq.{take_all}
use Rattle.rules.specs.Rows as rules
use Rattle.rules.specs.Rows.{Cell, Store, Got, got}
use Rattle.rules.specs.RowCheck.{InScope}
use Rattle.course.specs.Charged as course
use Rattle.course.specs.Charged.{and_on, join_in}
use Rattle.substitution.specs.Stores.{Ext, ext_same, ext_then, ext_length, ext_cell, ext_bound, scope_good}
use Rattle.substitution.specs.Passing.{pass_formed}
use Rattle.substitution.specs.Applied.{AllGood, no_more, and_good}
use Rattle.ways.specs.Spines as ways
use Rattle.ways.specs.Spines.{args_of, args_later, AllScope}
use Rattle.ways.specs.Stages.{Stage, all_later, join_stage}
use Rattle.rows.specs.declared.Ptr.{Ptr}
use Rattle.rows.specs.Refusals.{Out}
use Rattle.rows.specs.Words.{ptr_of, store_of, Held}
use Rattle.rows.specs.Writes.{Wrote}
use Rattle.rows.proofs.Store.{held_length}
use Rattle.rows.proofs.InTurn.{done_held}
use Rattle.spine.specs.Walks.{Applies, run_in}
use Rattle.spine.proofs.Applying.{join_append}
use Rattle.spine.proofs.ForCallers.{arguments_in_scope}
use Rattle.majors.specs.Majors.{RunsApply, three_runs}
use Rattle.majors.proofs.Turns.{then_refused, then_done}
use Rattle.std.specs.Prelude.{Err, Ok}
use Rattle.rows.specs.declared.refusals.Refusal.{Refusal}

-- LISTS OF GOOD POINTERS

scope_all : {s : Store} {d : ℕ} {xs : List rules.Ptr} → AllScope s d xs → AllGood s xs
scope_all ways.no_more = no_more
scope_all (ways.and_more i r) = and_good (scope_good i) (scope_all r)

good_take : {s : Store} {xs : List rules.Ptr} (n : ℕ) → AllGood s xs → AllGood s (take n xs)
good_take zero a = no_more
good_take (suc n) no_more = no_more
good_take (suc n) (and_good o r) = and_good o (good_take n r)

good_drop : {s : Store} {xs : List rules.Ptr} (n : ℕ) → AllGood s xs → AllGood s (drop n xs)
good_drop zero a = a
good_drop (suc n) no_more = no_more
good_drop (suc n) (and_good o r) = good_drop n r

-- a run to the end
run_rest : (k n : ℕ) (xs : List rules.Ptr) → length xs ≡ n → take (n - k) (drop k xs) ≡ drop k xs
run_rest k n xs many = take_all (n - k) (drop k xs) (omega (arith, length-drop k xs))

in_later : {s s' : Store} {d : ℕ} {p : rules.Ptr} → Ext s s' → InScope s d p → InScope s' d p
in_later {p = p} e i = record {
  there = omega (arith, ext_length e, i.there);
  still = λ z. i.still (ap (λ (c : Cell). c.bound) (sym (ext_cell e p.row i.there)) ∙ z);
  within = omega (arith, i.within, ext_bound e p i.there);
}

-- THREE RUNS ARE THREE WRITES IN TURN

module _ (most : ℕ) where
  abbrev pub then_join : List rules.Ptr → Got → course.Out
  then_join xs = λ g. join_in most g.store g.at xs

  abbrev pub then_joins : List rules.Ptr → List rules.Ptr → Got → course.Out
  then_joins xs ys = λ g. and_on (then_join xs g) (then_join ys)

  pub joins : (s : Store) (p : rules.Ptr) (xs ys zs : List rules.Ptr) → and_on (join_in most s p xs) (then_joins ys zs) ≡ join_in most s p (xs ++ ys ++ zs)
  joins s p xs ys zs =
      sym (join_append most s p xs (ys ++ zs) ∙ (λ i. and_on (join_in most s p xs) λ g. join_append most g.store g.at ys zs i))
      ∙ ap (join_in most s p) (sym (append_assoc xs ys zs))

-- THE WRITES

module _ (l sc : List ℕ) (nlib m : ℕ) (rule t : Ptr) (count before after : ℕ) (made : Ptr) (arity fields : ℕ)
    (given : RunsApply l sc nlib m rule t count before after made arity fields) where
  abbrev s : Store
  s = store_of l sc m

  abbrev most : ℕ
  most = nlib + length sc / 9

  abbrev D : ℕ
  D = given.used.declarations

  good_arguments : (u : Ptr) → InScope s given.depth (ptr_of u) → AllGood s (args_of s (ptr_of u))
  good_arguments u scope = scope_all (arguments_in_scope l sc m nlib _ _ given.used.held given.used.pass u scope)

  -- rows are used up to m₁, and p stands in them
  pub record Reached (sc₁ : List ℕ) (m₁ : ℕ) (p : Ptr) : Type 0 where
    pub held : Held l sc₁ m₁ nlib
    pub stage : Stage D s (got (store_of l sc₁ m₁) (ptr_of p))
    pub same : length sc₁ ≡ length sc

  pub begun : Reached sc m rule
  begun = record { held = given.used.held; stage = record { more = ext_same s; pass = given.used.pass; good = given.value }; same = refl }

  module _ (sc₁ : List ℕ) (m₁ : ℕ) (p : Ptr) (k : Reached sc₁ m₁ p) where
    abbrev s₁ : Store
    s₁ = store_of l sc₁ m₁

    -- one of the two spines, in the rows as they stand now
    module _ (u : Ptr) (n : ℕ) (scope : InScope s given.depth (ptr_of u)) (counted : length (args_of s (ptr_of u)) ≡ n) where
      same_arguments : args_of s₁ (ptr_of u) ≡ args_of s (ptr_of u)
      same_arguments = args_later (pass_formed given.used.pass) (pass_formed k.stage.pass) k.stage.more (scope_good scope)

      pub may_run : (from to : ℕ) → from ≤ to → to ≤ n → Applies l sc₁ nlib m₁ p u n from to
      may_run from to run inside = record {
        depth = given.depth;
        declarations = D;
        held = k.held;
        pass = k.stage.pass;
        scope = in_later k.stage.more scope;
        small = given.small;
        counted = ap length same_arguments ∙ counted;
        there = omega (arith, k.stage.good.lower, held_length l sc₁ m₁ nlib k.held);
        run = run;
        inside = inside;
      }

      run_is : (from to : ℕ) → run_in (nlib + length sc₁ / 9) s₁ (ptr_of p) (ptr_of u) from to ≡ join_in most s₁ (ptr_of p) (take (to - from) (drop from (args_of s (ptr_of u))))
      run_is from to = rw (k.same, same_arguments)

      -- the run to the spine's end
      pub rest_is : (from : ℕ) → run_in (nlib + length sc₁ / 9) s₁ (ptr_of p) (ptr_of u) from n ≡ join_in most s₁ (ptr_of p) (drop from (args_of s (ptr_of u)))
      rest_is from = run_is from n ∙ ap (join_in most s₁ (ptr_of p)) (run_rest from n (args_of s (ptr_of u)) counted)

    pub reached_next : (zs : List rules.Ptr) → AllGood s zs → {q : Ptr} {m₂ : ℕ} {sc₂ : List ℕ} →
        Wrote l sc₁ m₁ (Ok (q, m₂)) sc₂ (join_in most s₁ (ptr_of p) zs) → Reached sc₂ m₂ q
    reached_next zs good {q} {m₂} {sc₂} w =
        let next = join_stage most zs k.stage.pass k.stage.good (all_later k.stage.more good) (sym w.says) in
        record {
          held = done_held l sc₁ m₁ q m₂ sc₂ _ w nlib k.held;
          stage = record { more = ext_then k.stage.more next.more; pass = next.pass; good = next.good };
          same = w.same_length ∙ k.same;
        }

  -- THE THREE CALLS

  abbrev recursor_arguments : List rules.Ptr
  recursor_arguments = args_of s (ptr_of t)

  abbrev made_arguments : List rules.Ptr
  made_arguments = args_of s (ptr_of made)

  abbrev first_fields : List rules.Ptr
  first_fields = take before recursor_arguments

  abbrev last_fields : List rules.Ptr
  last_fields = drop (length made_arguments - fields) made_arguments

  abbrev rest : List rules.Ptr
  rest = drop after recursor_arguments

  abbrev result : course.Out
  result = join_in most s (ptr_of rule) (three_runs recursor_arguments before after made_arguments fields)

  in_turn : {out : Out} {sc' : List ℕ} → Wrote l sc m out sc' (and_on (join_in most s (ptr_of rule) first_fields) (then_joins most last_fields rest)) → Wrote l sc m out sc' result
  in_turn {out} {sc'} = subst (Wrote l sc m out sc') (joins most s (ptr_of rule) first_fields last_fields rest)

  first_run : {out : Out} {sc₁ : List ℕ} → Wrote l sc m out sc₁ (run_in most s (ptr_of rule) (ptr_of t) 0 before) → Wrote l sc m out sc₁ (join_in most s (ptr_of rule) first_fields)
  first_run w = let all : before - 0 ≡ before = omega arith in rw all at w

  pub may_begin : Applies l sc nlib m rule t count 0 before
  may_begin = may_run sc m rule begun t count given.scope given.counted 0 before (omega arith) given.before_inside

  pub refused_first : {sc₁ : List ℕ} {n : Refusal} → Wrote l sc m (Err n) sc₁ (run_in most s (ptr_of rule) (ptr_of t) 0 before) →
      Wrote l sc m (Err n) sc₁ result
  refused_first w = in_turn (then_refused l sc m (then_joins most last_fields rest) (first_run w))

  -- the first call was done
  module _ {p : Ptr} {m₁ : ℕ} {sc₁ : List ℕ} (called : Wrote l sc m (Ok (p, m₁)) sc₁ (run_in most s (ptr_of rule) (ptr_of t) 0 before)) where
    first : Wrote l sc m (Ok (p, m₁)) sc₁ (join_in most s (ptr_of rule) first_fields)
    first = first_run called

    abbrev second_call : course.Out
    second_call = run_in (nlib + length sc₁ / 9) (store_of l sc₁ m₁) (ptr_of p) (ptr_of made) (arity - fields) arity

    after_first : Reached sc₁ m₁ p
    after_first = reached_next sc m rule begun first_fields (good_take before (good_arguments t given.scope)) first

    pub may_go_on : Applies l sc₁ nlib m₁ p made arity (arity - fields) arity
    may_go_on = may_run sc₁ m₁ p after_first made arity given.made_scope given.made_counted (arity - fields) arity (omega arith) (omega arith)

    second_run : {out : Out} {sc₂ : List ℕ} → Wrote l sc₁ m₁ out sc₂ second_call → Wrote l sc₁ m₁ out sc₂ (join_in most (store_of l sc₁ m₁) (ptr_of p) last_fields)
    second_run {out} {sc₂} =
        subst (Wrote l sc₁ m₁ out sc₂)
        (rest_is sc₁ m₁ p after_first made arity given.made_scope given.made_counted (arity - fields)
        ∙ ap (λ (n : ℕ). join_in most (store_of l sc₁ m₁) (ptr_of p) (drop (n - fields) made_arguments)) (sym given.made_counted))

    pub refused_second : {sc₂ : List ℕ} {n : Refusal} → Wrote l sc₁ m₁ (Err n) sc₂ second_call → Wrote l sc m (Err n) sc₂ result
    refused_second w = in_turn (then_done l sc m (then_joins most last_fields rest) first (then_refused l sc₁ m₁ (then_join most rest) (second_run w)))

    -- the second call was done
    module _ {q : Ptr} {m₂ : ℕ} {sc₂ : List ℕ} (called_again : Wrote l sc₁ m₁ (Ok (q, m₂)) sc₂ second_call) where
      second : Wrote l sc₁ m₁ (Ok (q, m₂)) sc₂ (join_in most (store_of l sc₁ m₁) (ptr_of p) last_fields)
      second = second_run called_again

      abbrev third_call : course.Out
      third_call = run_in (nlib + length sc₂ / 9) (store_of l sc₂ m₂) (ptr_of q) (ptr_of t) after count

      after_second : Reached sc₂ m₂ q
      after_second = reached_next sc₁ m₁ p after_first last_fields (good_drop (length made_arguments - fields) (good_arguments made given.made_scope)) second

      pub may_end : Applies l sc₂ nlib m₂ q t count after count
      may_end = may_run sc₂ m₂ q after_second t count given.scope given.counted after count given.after_inside (omega arith)

      pub all_runs : {out : Out} {sc₃ : List ℕ} → Wrote l sc₂ m₂ out sc₃ third_call → Wrote l sc m out sc₃ result
      all_runs {out} {sc₃} w =
          in_turn (then_done l sc m (then_joins most last_fields rest) first
          (then_done l sc₁ m₁ (then_join most rest) second
          (subst (Wrote l sc₂ m₂ out sc₃) (rest_is sc₂ m₂ q after_second t count given.scope given.counted after) w)))
