-- The ways out of a recursor: not tried; refused in the major's reduction; no constructor; its rows refused; no rule for it; the rule fires.
-- Assumes what the member is given.
use Prim.Native.Nat.{ℕ, ◌*◌}
use native.Mathlib.Omega.{arith}
use mathlib.Core.Path.{◌≡◌, refl, sym, ap, ◌∙◌, subst}
use mathlib.Core.List.{List}
use mathlib.Core.Option.{Option, none, some}
use lib.ListN.{length, take}
use Rattle.rules.specs.Rows as rules
use Rattle.rules.specs.Rows.{Store, grow}
use Rattle.rules.specs.RowCheck.{InScope}
use Rattle.rules.specs.Declarations.{Rule, Recursor, Decl, Env, nth, decl_at}
use Rattle.rules.specs.Firings.{Tally, tally, itself, Written}
use Rattle.rules.specs.HeadTests.{Ruled, rec_parts_of, rec_parts, by_rule}
use Rattle.rules.specs.Refusals.{Limits}
use Rattle.course.specs.Tries.{recursion}
use Rattle.course.specs.Eval.{Ans, charge, try, side_at}
use Rattle.substitution.specs.Stores.{Good, scope_good, Ext, ext_then}
use Rattle.substitution.specs.Passing.{pass_worded}
use Rattle.promises.specs.Stores.{ext_grow}
use Rattle.promises.specs.SaysCharge.{ChargeSays, c_all, charge_says}
use Rattle.safety.specs.Lists.{none_some}
use Rattle.safety.specs.Sane.{depth_of, decl_count, Sane, sane_later, closed_in}
use Rattle.safety.specs.Scope.{all_later, itself_in}
use Rattle.safety.specs.Parts.{grow_pass, MadeIn, constructor_in, rec_in, RuledIn, by_rule_in}
use Rattle.ways.specs.Steps.{final, step_of, fire_in}
use Rattle.ways.specs.Spines.{args_of}
use Rattle.ways.specs.Ways.{rec_none, rec_refused, rec_no_constructor, rec_rows_refused, rec_missed, rec_fires}
use Rattle.rows.specs.declared.Ptr.{Ptr}
use Rattle.rows.specs.Words.{ptr_of, store_of}
use Rattle.tables.specs.Env.{env_of}
use Rattle.majors.specs.declared.Made.{Made}
use Rattle.state.specs.declared.Given.{Given}
use Rattle.state.specs.declared.Meter.{Meter}
use Rattle.state.specs.State.{Answer}
use Rattle.state.specs.State.{tally_of, limits_in, Left}
use Rattle.majors.specs.Majors.{Agrees, major_of, NotMade, RefusedMade, MadeAs}
use Rattle.majors.proofs.ForCallers.{holders_agree}
use Rattle.cycle.specs.Cycle.{Stand, Counted, Passed, Ran, res_by}
use Rattle.cycle.specs.Members.{recursed}
use Rattle.cycle.specs.Course.{parts_in, fires_in}
use Rattle.cycle.proofs.Standing.{to_depth, stand_within, stand_on, counted_on, nothing_passed, ran_passed, limits_on, left_on, passed_on}
use Rattle.cycle.proofs.WaysOut.{refused_left, final_left, left_as, q_asked, t_counted, grown_store, major_arguments, side_ended, missed_after, through}
use Rattle.std.specs.Prelude.{Err, Ok}
use Rattle.rows.specs.Refusals.{number_of}
use Rattle.state.specs.declared.Tried.TheVariants.{Final}
use Rattle.rows.specs.declared.refusals.Refusal.{Refusal}

module _ {l ds rs cs sc : List ℕ} {g : Given} {m : Meter} {t : Ptr} {count : ℕ} (c : Counted l ds rs cs sc g m t count) (n d levels : ℕ) where
  abbrev e : Env
  e = env_of ds rs cs g.depth

  abbrev D : Decl
  D = decl_at e.decls d

  abbrev xs : List rules.Ptr
  xs = args_of (store_of l sc m.mark) (ptr_of t)

  -- the evaluator's own answer
  abbrev answer : Ans
  answer = try (limits_in g sc) (side_at e (limits_in g sc) n) (recursion e D levels xs) (tally_of l sc m)

  pub holders_known : Agrees e g.holders
  holders_known = holders_agree ds rs cs g.holders g.depth c.asked.stand.tabled.holders

  pub rec_misses : rec_parts D levels xs ≡ none → Left l sc m (Ok (Final m)) sc (recursed l ds rs cs sc g m t n d levels)
  rec_misses q =
      final_left (nothing_passed sc m c.asked.stand.held.room) (sym (ap (step_of (limits_in g sc)) (rec_none e _ _ (tally_of l sc m) D levels xs q)))

  module _ {o : Recursor} {p : Ptr} (parts : rec_parts D levels xs ≡ some (rec_parts_of o (ptr_of p)))
      (i : InScope (store_of l sc m.mark) g.depth (ptr_of p)) where
    pub rec_stops : {sc₁ : List ℕ} {k : Refusal} → Ran l sc m (Err k) sc₁ (res_by l ds rs cs sc g m n (ptr_of p)) →
        Left l sc m (Err k) sc₁ (recursed l ds rs cs sc g m t n d levels)
    rec_stops r = refused_left r (sym (ap (step_of (limits_in g sc)) (rec_refused e _ _ (tally_of l sc m) D levels xs parts (sym r.says))))

    module _ {sc₁ : List ℕ} {q : Ptr} {m₁ : Meter} (r : Ran l sc m (Ok (q, m₁)) sc₁ (res_by l ds rs cs sc g m n (ptr_of p))) where
      abbrev s₁ : Store
      s₁ = store_of l sc₁ m₁.mark

      -- nothing was written for it, and nothing is left of the words but what the side reduction left
      pub no_constructor : {m₂ : Meter} {sc₂ : List ℕ} → NotMade sc₁ m₁ (major_of s₁ (ptr_of q) e) m₂ sc₂ →
          Left l sc m (Ok (Final m₂)) sc₂ (recursed l ds rs cs sc g m t n d levels)
      no_constructor {m₂} {sc₂} k =
          let here : Left l sc m (Ok (Final m₁)) sc₁ (recursed l ds rs cs sc g m t n d levels) =
          missed_after c n i r (rec_no_constructor e _ _ D levels xs parts (side_ended c n i r) k.is) in
          subst (λ (w : List ℕ). Left l sc m (Ok (Final m₂)) w (recursed l ds rs cs sc g m t n d levels)) (sym k.words)
          (subst (λ (x : Meter). Left l sc m (Ok (Final x)) sc₁ (recursed l ds rs cs sc g m t n d levels)) (sym k.meter) here)

      -- rows are charged under the limits of the start
      charged_as : {x : Option ℕ} (ws : List rules.Row) → charge (limits_in g sc₁) s₁ (grow s₁ ws) ≡ x → charge (limits_in g sc) s₁ (grow s₁ ws) ≡ x
      charged_as ws q = ap (λ (z : Limits). charge z s₁ (grow s₁ ws)) (sym (limits_on g (ran_passed r refl))) ∙ q

      pub rows_stop : {k : Refusal} {sc₂ : List ℕ} → RefusedMade (limits_in g sc₁) s₁ (major_of s₁ (ptr_of q) e) (number_of k) →
          take (9 * m₁.mark) sc₂ ≡ take (9 * m₁.mark) sc₁ → length sc₂ ≡ length sc₁ → Left l sc m (Err k) sc₂ (recursed l ds rs cs sc g m t n d levels)
      rows_stop {k} h kept same =
          through c n i r answer
          (record {
            says = sym (ap (step_of (limits_in g sc₁)) (rec_rows_refused e _ _ D levels xs parts (side_ended c n i r) h.is (charged_as h.made.rows h.charged)));
            kept = kept;
            same_length = same;
            grown = λ m' z. absurd (none_some z);
          })

      -- ITS ROWS STAND, up to m₂
      module _ {z : Made} {m₂ : Meter} {sc₂ : List ℕ} (h : MadeAs l sc₁ g m₁ (major_of s₁ (ptr_of q) e) z m₂ sc₂) (past : Passed sc₁ m₁ sc₂ m₂) where
        tally_is : tally_of l sc₂ m₂ ≡ tally m₁.steps (grow s₁ h.made.rows)
        tally_is = λ j. tally (h.steps j) (h.store j)

        through_both : Passed sc m sc₂ m₂
        through_both = passed_on (ran_passed r refl) past

        pub rule_missing : by_rule o xs h.made ≡ none → Left l sc m (Ok (Final m₂)) sc₂ (recursed l ds rs cs sc g m t n d levels)
        rule_missing q =
            final_left through_both
            (ap final tally_is ∙ sym (ap (step_of (limits_in g sc)) (rec_missed e _ _ D levels xs parts (side_ended c n i r) h.is (charged_as h.made.rows h.charged) q)))

        -- the constructor's rows pass, so the store that they stand in is sane ..
        made_scope : MadeIn (decl_count e) s₁ (depth_of e) h.made
        made_scope =
            let there = (q_asked c n i r).stand.sane.pass in
            constructor_in e ((pass_worded there).each _) (major_arguments c n i r) h.is

        made_written : Written s₁ (grow s₁ h.made.rows)
        made_written = on (subst (ChargeSays lim s₁ (grow s₁ h.made.rows)) h.charged (charge_says lim s₁ _ (ext_grow s₁ h.made.rows) (stand_within (q_asked c n i r).stand).rows))
          where
            lim : Limits
            lim = limits_in g sc₁

            on : ChargeSays (limits_in g sc₁) s₁ (grow s₁ h.made.rows) none → Written s₁ (grow s₁ h.made.rows)
            on (c_all w k) = w

        made_sane : Sane e (grow s₁ h.made.rows)
        made_sane =
            let there = (q_asked c n i r).stand.sane in
            sane_later (ext_grow s₁ h.made.rows) (grow_pass there.pass made_scope.rows made_written) there

        -- .. and so the rule's value and its arguments are in scope, and the firing's rows are there
        ruled_scope : {ρ : Ruled} → by_rule o xs h.made ≡ some ρ → RuledIn (grow s₁ h.made.rows) (depth_of e) ρ
        ruled_scope q =
            let args = (parts_in c.asked.stand.sane (to_depth c.asked.stand c.asked.scope)).arguments in
            by_rule_in o h.made (λ j x k. made_sane.rule d o j x (rec_in D levels args parts).form k)
            (all_later (ext_then (grown_store c n i r) (ext_grow s₁ h.made.rows)) args) made_scope.arguments q

        -- the rule fires in the rows that are left
        pub rule_fires : {ρ : Ruled} {a : Answer} {sc₃ : List ℕ} → by_rule o xs h.made ≡ some ρ →
            Left l sc₂ m₂ a sc₃ (fire_in (limits_in g sc₂) (tally_of l sc₂ m₂) (itself ρ.value) ρ.arguments) → Left l sc m a sc₃ (recursed l ds rs cs sc g m t n d levels)
        rule_fires {ρ} q k =
            left_as
            (ap (λ (z : Limits). fire_in z (tally_of l sc₂ m₂) (itself ρ.value) ρ.arguments) (limits_on g through_both)
            ∙ ap (λ (z : Tally). fire_in (limits_in g sc) z (itself ρ.value) ρ.arguments) tally_is
            ∙ fires_in (limits_in g sc) (tally m₁.steps (grow s₁ h.made.rows)) (itself ρ.value) ρ.arguments made_sane (itself_in (ruled_scope q).value)
            ∙ sym (ap (step_of (limits_in g sc)) (rec_fires e _ _ D levels xs parts (side_ended c n i r) h.is (charged_as h.made.rows h.charged) q)))
            (left_on through_both k)

        -- what the rule's firing is given: t in the rows that are left, and rule values that stand
        made_stand : Stand l ds rs cs sc₂ g m₂
        made_stand =
            let there = (q_asked c n i r).stand in
            stand_on there past (subst (Sane e) (sym h.store) made_sane) (omega (arith, h.steps, there.metered))

        made_more : Ext s₁ (store_of l sc₂ m₂.mark)
        made_more = subst (Ext s₁) (sym h.store) (ext_grow s₁ h.made.rows)

        pub made_counted : Counted l ds rs cs sc₂ g m₂ t count
        made_counted = counted_on (q_asked c n i r).stand made_stand made_more (t_counted c n i r)

        pub rule_values : (j : ℕ) (ρ : Rule) → nth o.rules j ≡ some ρ → Good (store_of l sc₂ m₂.mark) ρ.value
        rule_values j ρ k =
            let args = (parts_in c.asked.stand.sane (to_depth c.asked.stand c.asked.scope)).arguments in
            scope_good (closed_in (depth_of e) (made_stand.sane.rule d o j ρ (rec_in D levels args parts).form k))
