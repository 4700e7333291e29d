-- Reduced again, a final term answers itself: from the store that the first run left no rule fires at level 0, and no more steps are taken and no more rows
-- written than the first run took and wrote. The last try of the first run is embedded into the store that it left: old rows stay, new rows move past the end.
-- Assumes a formed store, a good term and an environment whose pointers stand in the store; for the evaluator, that it is not lost the second time.
use Rattle.std.specs.Prelude.{ℕ, ◌+◌, ◌≤◌, ◌<◌, ◌≡◌, [], map, length}
use Rattle.std.proofs.Common.{arith, sym, ap, ◌∙◌, subst, length-append}
use Rattle.std.proofs.Math.Path.{refl}
use Rattle.rules.specs.Kinds.{Tag}
use Rattle.rules.specs.Rows.{Ptr, ptr, Row, node, Store, cell_at}
use Rattle.rules.specs.RowCheck.{FieldOk, plain_ok, term_ok, body_ok}
use Rattle.rules.specs.Declarations.{Env}
use Rattle.rules.specs.Spines.{Spine}
use Rattle.rules.specs.Firings.{Tally, tally}
use Rattle.rules.specs.HeadRules.{Reduces, Stuck}
use Rattle.rules.specs.Refusals.{Limits, Within}
use Rattle.course.specs.Tries.{missed, Runs, final}
use Rattle.course.specs.ToTries.{to_runs}
use Rattle.course.specs.FromTries.{HeadEnd, is_stuck, rules_end, from_comes}
use Rattle.course.specs.Eval.{Res, ok, lost, eval}
use Rattle.promises.specs.Stores.{later_runs, later_comes}
use Rattle.promises.specs.Says.{ResSays, r_ok, r_no, r_lost, says}
use Rattle.promises.specs.Complete.{eval_complete_term}
use Rattle.substitution.specs.Places.{ltb_below, ltb_from}
use Rattle.substitution.specs.Stores.{FieldsOk, var_fields, node_fields, Formed, Good, fields_good, Ext, ext_length, ext_cell}
use Rattle.again.specs.Embeds.{ren, ren_field, ren_row, Embeds}
use Rattle.again.specs.Carried.{spine_carried}
use Rattle.again.specs.Embedding.{embedding}
use Rattle.again.specs.Course.{EnvCarried, try_carried}
use Rattle.again.specs.Keeps.{EnvStands, env_itself, env_stands_later, LastTry, last_try}
use Rattle.again.specs.Again.{moved, NoDearer, Again, room_again, AnsweredAgain, EvalAgain}

-- OLD ROWS STAY, NEW ONES MOVE PAST THE END

stays : (n k r : ℕ) → r < n → moved n k r ≡ r
unfolding moved
stays n k r h = rw (ltb_below r n h)

moves : (n k r : ℕ) → n ≤ r → moved n k r ≡ r + k
unfolding moved
moves n k r h = rw (ltb_from r n h)

-- what stands below n is renamed to itself
module _ (ρ : ℕ → ℕ) (n : ℕ) (fixed : (r : ℕ) → r < n → ρ r ≡ r) where
  pointer_fixed : (p : Ptr) → p.row < n → ren ρ p ≡ p
  pointer_fixed p h = ap (λ (r : ℕ). ptr r p.shift) (fixed p.row h)

  field_fixed : {s : Store} {p : Ptr} {τ : Tag} → FieldOk s n p τ → ren_field ρ τ p ≡ p
  field_fixed (plain_ok e) = refl
  field_fixed {p = p} (term_ok o) = pointer_fixed p o.lower
  field_fixed {p = p} (body_ok o) = pointer_fixed p o.lower

  row_fixed : {s : Store} {w : Row} → FieldsOk s n w → ren_row ρ w ≡ w
  unfolding ren_row
  row_fixed var_fields = refl
  row_fixed (node_fields {κ = κ} a b c) = λ i. node κ (field_fixed a i) (field_fixed b i) (field_fixed c i)

-- a formed store is embedded in what it grew to
pub grown_embeds : {s s' : Store} → Formed s → (x : Ext s s') → Embeds (moved (length s) (length x.new)) s s'
grown_embeds {s} {s'} f x = record {
  cells = λ r h.
      ap (cell_at s') (fixed r h) ∙ ext_cell x r h ∙
      λ i. record { row = sym (row_fixed ρ (length s) fixed (fields_good (omega arith) (f.each r h).fields)) i; bound = (cell_at s r).bound; height = (cell_at s r).height };
  low = λ r h. let q = fixed r h in let l = ext_length x in omega arith;
  new = λ j. moves (length s) (length x.new) (length s + j) (omega arith) ∙ (let l = count in omega arith);
}
  where
    ρ : ℕ → ℕ
    ρ = moved (length s) (length x.new)

    fixed : (r : ℕ) → r < length s → ρ r ≡ r
    fixed = stays (length s) (length x.new)

    count : length s' ≡ length s + length x.new
    count = ap length (sym x.after) ∙ length-append s x.new

-- REDUCED AGAIN

module _ {e : Env} {d : ℕ} where
  from_last : {s : Store} {m : Tally} {t' : Ptr} → EnvStands s e → LastTry e d (tally 0 s) m t' → Again e d s m t'
  from_last {s} {m} {t'} v l =
      let x : Ext l.before.store m.store = (later_comes e l.comes).rows in
      let ρ : ℕ → ℕ = moved (length l.before.store) (length x.new) in
      let fixed = pointer_fixed ρ (length l.before.store) (stays _ _) in
      let i = grown_embeds l.stands.formed x in
      let w : EnvCarried ρ e e l.before.store m.store = env_itself (embedding ρ) (env_stands_later l.since v) λ p o. fixed p o.lower in
      let k = try_carried ρ e e {m̃ = tally 0 m.store} l.head l.arguments i w l.comes in
      record {
        to = k.to;
        head = ren ρ l.head;
        arguments = map (ren ρ) l.arguments;
        spine = subst (λ (p : Ptr). Spine m.store p [] (ren ρ l.head) (map (ren ρ) l.arguments)) (fixed t' l.stands.good.lower) (spine_carried ρ l.spine i);
        comes = k.comes;
        cost = record { steps = let q = k.steps in omega arith; rows = let q = k.rows in let h = ext_length l.since.rows in omega arith };
      }

  pub again : {s : Store} {m : Tally} {t t' : Ptr} → Formed s → Good s t → EnvStands s e → Runs e d (tally 0 s) t m t' → Again e d s m t'
  again f o v r = from_last v (last_try e r (record { formed = f; good = o }) v)

-- WITHIN THE LIMITS

within_again : (lim : Limits) (s : Store) {m to : Tally} → Within lim m → length s ≤ length m.store → NoDearer s m to → Within (room_again lim s m.store) to
unfolding room_again
within_again lim s w l c =
    let p = c.steps in
    let q = c.rows in
    record { steps = let h = w.steps in omega arith; rows = let h = w.rows in omega arith }

-- THE RULES

stuck_of : {e : Env} {d : ℕ} {m m' : Tally} {t : Ptr} → HeadEnd e d m t m' missed → Stuck e d m t m'
stuck_of (is_stuck s) = s

pub answers_itself : {e : Env} {lim : Limits} {n : ℕ} {s : Store} {m : Tally} {t t' : Ptr} → Formed s → Good s t → EnvStands s e →
    Reduces e n (tally 0 s) t m t' → Within lim m → AnsweredAgain e lim n s m t'
answers_itself {e} {lim} {s = s} f o v r w =
    let q = to_runs e r in
    let k = again f o v q in
    record {
      to = k.to;
      stuck = stuck_of (rules_end e k.spine (from_comes e k.comes));
      within = within_again lim s w (ext_length (later_runs e q).rows) k.cost;
      cost = k.cost;
    }

-- THE EVALUATOR

record Ran (e : Env) (lim : Limits) (d : ℕ) (m : Tally) (t : Ptr) (m' : Tally) (t' : Ptr) : Type 0 where
  runs : Runs e d m t m' t'
  within : Within lim m'

ran : {e : Env} {lim : Limits} {d : ℕ} {m m' : Tally} {t t' : Ptr} {o : Res} → ResSays e lim d m t o → o ≡ ok m' t' → Ran e lim d m t m' t'
ran {m' = m'} {t' = t'} (r_ok {m' = m₁} {t' = t₁} r v) q =
    let p : m₁ ≡ m' = cc in
    let p' : t₁ ≡ t' = cc in
    rw (← p, ← p') (record { runs = r; within = v })
ran {m' = m'} {t' = t'} (r_no {k = k} x v f) q = absurd (let z : ◌≡◌ {A = ℕ} 0 1 = cc in omega arith)
ran {m' = m'} {t' = t'} (r_lost x) q = absurd (let z : ◌≡◌ {A = ℕ} 0 1 = cc in omega arith)

pub eval_again : {e : Env} {lim : Limits} {n : ℕ} {s : Store} {m : Tally} {t t' : Ptr} → Formed s → Good s t → EnvStands s e → length s ≤ lim.rows →
    (eval e (room_again lim s m.store) n m.store t' ≡ lost → ⊥) → eval e lim n s t ≡ ok m t' → EvalAgain e lim n s m t'
eval_again {e} {lim} {n} {s} {m} {t} f o v h l q =
    let r = ran (says e lim n s t h) q in
    let k = again f o v r.runs in
    record {
      to = k.to;
      evals = eval_complete_term e (room_again lim s m.store) (final k.spine k.comes)
          (within_again lim s r.within (ext_length (later_runs e r.runs).rows) k.cost) l;
      cost = k.cost;
    }
