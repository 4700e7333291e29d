-- A reduction to a sort: the ways out of `to_sort`, and what a caller reads off its answer, here and under a new record.
-- Assumes what a member is given, and a term in scope.
use Prim.Native.Nat.{ℕ, ◌+◌, ◌≤◌, ◌<◌}
use mathlib.Core.Path.{◌≡◌, refl, sym, ap, ◌∙◌, subst}
use mathlib.Core.List.{List}
use mathlib.Core.Option.{Option, none, some}
use Rattle.rules.specs.Maxima.{most_level}
use Rattle.rules.specs.Kinds.{sort}
use Rattle.rules.specs.Rows as rules
use Rattle.rules.specs.Rows.{Row, node, leaf, Store, row_at}
use Rattle.rules.specs.RowCheck.{sort_in}
use Rattle.rules.specs.Declarations.{Env}
use Rattle.rules.specs.Inference.{under}
use Rattle.course.specs.Eval.{Res, side_at}
use Rattle.substitution.specs.Passing.{Worded, node_worded, pass_worded}
use Rattle.safety.specs.Sane.{decl_count}
use Rattle.inferring.specs.Views.{SortView, is_sort, no_sort, sort_view}
use Rattle.inferring.specs.Asks.{Ask, untyped, with_record, if_sort, sort_of}
use Rattle.inferring.specs.Eval as eval
use Rattle.inferring.specs.Eval.{run}
use Rattle.rows.specs.declared.Ptr.{Ptr}
use Rattle.rows.specs.Words.{ptr_of, shape_at, words_at, store_of}
use Rattle.records.specs.Read.{sort_read}
use Rattle.records.proofs.SortsAndPis.{sort_found, no_sort_found}
use Rattle.state.specs.declared.Meter.{Meter}
use Rattle.state.specs.State.{Reduced, tally_of, Used}
use Rattle.typing.specs.Here.{Here, depth_at, env_at, tally_at, limits_at, spare_at, Scope, Ready, Keeps}
use Rattle.typing.specs.Gives.{Outcome, gave, refused, outcome_of, then_on, Value, Gives, InAt, res_by}
use Rattle.typing.specs.Pieces.{ran_with, ran_then, LevelIn, Sorted, within}
use Rattle.typing.proofs.Places.{gave_apart, nothing_kept, value_is}
use Rattle.typing.proofs.Alike.{res_alike, after_rows}
use Rattle.typing.proofs.Reducing.{reduced_says, reduced_keeps}
use Rattle.pieces.proofs.Reducts.{SideRan, ready_used, scope_there, reduct}
use Rattle.std.specs.Prelude.{Err, None, Ok, Option as Maybe, Some}
use Rattle.rows.specs.Refusals.{number_of}
use Rattle.rows.specs.declared.refusals.Refusal.{Refusal}

-- THE ROW OF THE REDUCT

if_a_sort : (w : Row) (v : SortView w) (level : ℕ) → w ≡ leaf (sort level) → (next : ℕ → Ask) → if_sort v next ≡ next level
if_a_sort w (is_sort l x y z q) level e next = let same : l ≡ level = cc in ap next same
if_a_sort w (no_sort f) level e next = absurd (f level _ _ _ e)

if_no_sort : (w : Row) (v : SortView w) → ((level : ℕ) (x y z : rules.Ptr) → w ≡ node (sort level) x y z → ⊥) → (next : ℕ → Ask) → if_sort v next ≡ untyped
if_no_sort w (is_sort l x y z q) f next = absurd (f l x y z q)
if_no_sort w (no_sort f) g next = refl

level_in : {D l : ℕ} → Worded D (leaf (sort l)) → l ≤ most_level
level_in (node_worded (sort_in h)) = h

-- THE WAYS OUT OF `to_sort`

module _ (n : ℕ) {h : Here} (ready : Ready h) {p : Ptr} (scope : Scope h (ptr_of p)) where
  -- the row that q points at is tested
  abbrev tested : (Store → ℕ → Ask) → Store → rules.Ptr → Ask
  tested next s q = if_sort (sort_view (row_at s q.row)) λ l. next s l

  -- what follows the reduction's answer, in any environment that asks for it
  abbrev follow : (e : Env) → ℕ → (Store → ℕ → Ask) → Res → Res
  follow e spare next x = eval.then_on (λ m q. ran_with n (limits_at h) e spare (tested next m.store q) m) x

  answered : {r : Reduced} {sc : List ℕ} → SideRan n h p r sc → (e : Env) (X : Option rules.Ptr) (spare : ℕ) → with_record e X ≡ env_at h →
      (next : Store → ℕ → Ask) →
      ran_with n (limits_at h) e spare (sort_of X (ptr_of p) next) (tally_at h) ≡ follow e spare next (res_by h.library sc (outcome_of r))
  unfolding run sort_of
  answered ran e X spare q next =
      ap (λ (e' : Env). follow e spare next (side_at e' (limits_at h) n (tally_at h) (ptr_of p))) q
      ∙ ap (follow e spare next) (sym (reduced_says n h ready {p = p} scope ran))

  -- refused before there was a row to look at
  pub sort_stopped : {k : Refusal} {sc : List ℕ} → SideRan n h p (Err k) sc → Sorted n h (ptr_of p) (refused (number_of k)) sc
  sort_stopped ran = record {
    says = answered ran;
    keeps = reduced_keeps n h ready {p = p} scope ran;
    value = λ l m q. absurd (gave_apart q);
  }

  -- the reduct t, whose row was read
  module _ {t : Ptr} {m : Meter} {sc : List ℕ} (ran : SideRan n h p (Ok (t, m)) sc)
      {x : Maybe ℕ} (read : x ≡ sort_read (shape_at (words_at h.library sc t.row))) where
    abbrev s : Store
    s = store_of h.library sc m.mark

    abbrev left : Value (InAt (depth_at h)) h h.context sc (ptr_of t) m
    left = reduct n ready scope ran

    abbrev used : Used h.library sc h.given.nlib m.mark
    used = ready_used left.after.ready

    there : t.row < h.given.nlib + m.mark
    there = scope_there left.after.ready left.fits

    -- what is asked in the store that was left
    abbrev asked_here : Env → ℕ → Ask → Res
    asked_here e spare y = ran_with n (limits_at h) e spare y (tally_of h.library sc m)

    pub sort_reached : {level : ℕ} → x ≡ Some level → Sorted n h (ptr_of p) (gave level m) sc
    sort_reached {level} q =
        let row = sort_found h.library sc h.given.nlib m.mark used t there x read level q in
        record {
          says = λ e X spare q next.
              answered ran e X spare q next
              ∙ ap (asked_here e spare) (if_a_sort (row_at s t.row) (sort_view (row_at s t.row)) level row (λ l. next s l));
          keeps = reduced_keeps n h ready {p = p} scope ran;
          value = λ l m₁ q. value_is {In = LevelIn} left.after
              (level_in (subst (Worded (decl_count (env_at h))) row ((pass_worded left.after.ready.stand.sane.pass).each t.row))) q;
        }

    pub no_sort_reached : x ≡ None → Sorted n h (ptr_of p) (refused 9) sc
    unfolding run
    no_sort_reached q = record {
      says = λ e X spare w next.
          answered ran e X spare w next
          ∙ ap (asked_here e spare)
          (if_no_sort (row_at s t.row) (sort_view (row_at s t.row)) (no_sort_found h.library sc h.given.nlib m.mark used t there x read q) (λ l. next s l));
      keeps = reduced_keeps n h ready {p = p} scope ran;
      value = λ l m₁ w. absurd (gave_apart w);
    }

-- FOR CALLERS

-- asked where the caller stands
pub sorted_gives : {n : ℕ} {h : Here} {p : rules.Ptr} {o : Outcome ℕ} {sc : List ℕ} → Sorted n h p o sc → Gives LevelIn n h (sort_of none p) o h.context sc
sorted_gives {n} {h} {p} {o} {sc} k = record {
  says = λ next. k.says (env_at h) none (spare_at h) refl next ∙ here_on o next;
  keeps = k.keeps;
  value = k.value;
}
  where
    here_on : (o : Outcome ℕ) (next : Store → ℕ → Ask) → ran_then n (limits_at h) (env_at h) (spare_at h) h.library sc next o ≡ then_on n h h.context sc next o
    here_on (gave l m) next = sym (res_alike n h sc m k.keeps.context k.keeps.same_length (next (store_of h.library sc m.mark) l))
    here_on (refused j) next = refl

-- asked under a new record of the caller, who stands at h: "reduced to a sort" where the record stands
pub sorted_under : {n : ℕ} {h : Here} → Ready h → (X : rules.Ptr) → env_at (within h h.context h.scratch h.meter) ≡ under (env_at h) X →
    {p : rules.Ptr} {o : Outcome ℕ} {sc : List ℕ} → Sorted n (within h h.context h.scratch h.meter) p o sc →
    Gives LevelIn n h (sort_of (some X) p) o h.context sc
sorted_under {n} {h} ready X is {p} {o} {sc} k = record {
  says = λ next. k.says (env_at h) (some X) (spare_at h) (sym is) next ∙ outside o next;
  keeps = outer;
  value = λ l m e.
      let v = k.value l m e in
      let a = v.after in
      record { after = after_rows ready a.passed a.more a.ready.stand.sane.pass a.ready.stand.metered; fits = v.fits };
}
  where
    outer : Keeps h h.context sc
    outer = record { kept = k.keeps.kept; same_length = k.keeps.same_length; context = nothing_kept (depth_at h) h.context }

    outside : (o : Outcome ℕ) (next : Store → ℕ → Ask) → ran_then n (limits_at h) (env_at h) (spare_at h) h.library sc next o ≡ then_on n h h.context sc next o
    outside (gave l m) next = sym (res_alike n h sc m outer.context outer.same_length (next (store_of h.library sc m.mark) l))
    outside (refused j) next = refl
