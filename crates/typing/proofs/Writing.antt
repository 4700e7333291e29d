-- Rows that inference writes: a row that was made, and a replacement, each as the ask that it answers.
-- Assumes what a member is given.
use Prim.Native.Nat.{ℕ}
use native.Mathlib.Nat.{le_refl}
use mathlib.Core.Path.{◌≡◌, refl, sym, ap, ◌∙◌, subst}
use mathlib.Core.List.{List}
use mathlib.Core.Option.{Option, none, some}
use lib.ListN.{length}
use lib.Seq.{drop-append_seam}
use Rattle.rules.specs.Rows as rules
use Rattle.rules.specs.Rows.{Row, Store, cell, cell_at, Got, got, put}
use Rattle.rules.specs.RowCheck.{AllPass}
use Rattle.rules.specs.Firings.{tally}
use Rattle.rules.specs.Refusals.{Limits}
use Rattle.rules.specs.Replacement.{Replaces}
use Rattle.course.specs.Views.{Cmp, up_to, over, cmp, FitView, fits, no_fit, fit_view}
use Rattle.course.specs.Charged as course
use Rattle.course.specs.Charged.{put_on, put_in, replace_in}
use Rattle.course.specs.Eval.{emit_on, emit, charge, replace_by}
use Rattle.promises.specs.Charge.{settle_on, replace_in_lem}
use Rattle.substitution.specs.Stores.{Good, Ext, ext_put}
use Rattle.substitution.specs.Passing.{pass_formed, put_pass}
use Rattle.substitution.specs.Existence.{ValueGood}
use Rattle.safety.specs.Sane.{decl_count}
use Rattle.safety.specs.NeverLost.{Found, reaches}
use Rattle.ways.specs.Stages.{put_at}
use Rattle.inferring.specs.Asks.{Ask, writes, opens}
use Rattle.inferring.specs.Eval.{run, charged_on, opened_on}
use Rattle.inferring.specs.Scope.{put_scope}
use Rattle.rows.specs.Refusals.{Out}
use Rattle.rows.specs.declared.Shape.{Shape}
use Rattle.rows.specs.Words.{ptr_of, row_of, store_of}
use Rattle.rows.specs.Writes.{Wrote}
use Rattle.replace.proofs.Later.{held_room}
use Rattle.replace.proofs.Comes.{came}
use Rattle.state.specs.declared.Meter.{Meter}
use Rattle.state.specs.State.{Reduced}
use Rattle.typing.specs.Here.{Here, depth_at, env_at, store_at, tally_at, limits_at, spare_at, res_at, Ready, Keeps, After}
use Rattle.typing.specs.Gives.{outcome_of, Gives, InAt}
use Rattle.typing.specs.Pieces.{ran_with}
use Rattle.typing.specs.Written.{reduced_by, Written, Writable}
use Rattle.typing.proofs.Places.{nothing_kept, piece_gives, piece_stops}
use Rattle.typing.proofs.Alike.{res_alike, after_rows}
use Rattle.std.specs.Prelude.{Err, Ok}

-- ROWS THAT WERE CHARGED

settled_wrote : (g g' : Got) (c : Option ℕ) → course.wrote g' ≡ settle_on g c → (c ≡ none) × (g' ≡ g)
settled_wrote g g' none q = (refl, cc)
settled_wrote g g' (some k) q = cc

settled_refused : (g : Got) (c : Option ℕ) {k : ℕ} → course.refused k ≡ settle_on g c → c ≡ some k
settled_refused g none q = cc
settled_refused g (some j) q = cc

-- what rows leave that may stand
pub record Stage (D : ℕ) (In : Store → rules.Ptr → Type 0) (s : Store) (g : Got) : Type 0 where
  pub more : Ext s g.store
  pub pass : AllPass D g.store
  pub fits : In g.store g.at

module _ (n : ℕ) (h : Here) (ready : Ready h) (In : Store → rules.Ptr → Type 0) (Y : (Store → rules.Ptr → Ask) → Ask) (g : Got)
    (is : (next : Store → rules.Ptr → Ask) →
    res_at n h (Y next) ≡ charged_on (λ m₁ p. ran_with n (limits_at h) (env_at h) (spare_at h) (next m₁.store p) m₁) (tally_at h) g
    (charge (limits_at h) (store_at h) g.store))
    (stage : charge (limits_at h) (store_at h) g.store ≡ none → Stage (decl_count (env_at h)) In (store_at h) g) where
  abbrev charged : Option ℕ
  charged = charge (limits_at h) (store_at h) g.store

  by_answer : {sc : List ℕ} (o : Out) → Wrote h.library h.scratch h.meter.mark o sc (settle_on g charged) →
      Gives In n h Y (outcome_of (reduced_by h.meter.steps o)) h.context sc
  by_answer {sc} (Ok (p, mark)) w =
      let m : Meter = record { mark = mark; steps = h.meter.steps } in
      let said = settled_wrote g (got (store_of h.library sc mark) (ptr_of p)) charged w.says in
      let st = subst (Stage (decl_count (env_at h)) In (store_at h)) (sym said.1) (stage said.0) in
      let after : After h h.context sc m =
      after_rows ready (record { kept = w.kept; same_length = w.same_length; grown = w.grown p mark refl }) st.more st.pass ready.stand.metered in
      piece_gives refl
      (λ next. record {
        is =
            res_alike n h sc m (nothing_kept (depth_at h) h.context) w.same_length (next (store_of h.library sc mark) (ptr_of p))
            ∙ sym (is next
            ∙ ap (charged_on (λ m₁ q. ran_with n (limits_at h) (env_at h) (spare_at h) (next m₁.store q) m₁) (tally_at h) g) said.0
            ∙ ap (λ (x : Got). ran_with n (limits_at h) (env_at h) (spare_at h) (next x.store x.at) (tally h.meter.steps x.store)) (sym said.1));
        after = after;
      })
      after
      st.fits
  by_answer {sc} (Err k) w =
      let keeps : Keeps h h.context sc = record { kept = w.kept; same_length = w.same_length; context = nothing_kept (depth_at h) h.context } in
      piece_stops refl
      (λ next. record {
        is = sym (is next
            ∙ ap (charged_on (λ m₁ q. ran_with n (limits_at h) (env_at h) (spare_at h) (next m₁.store q) m₁) (tally_at h) g)
            (settled_refused g charged w.says));
        keeps = keeps;
      })
      keeps

  pub written_gives : {r : Reduced} {sc : List ℕ} {due : course.Out} → Written h.library h.scratch h.meter r sc due → due ≡ settle_on g charged →
      Gives In n h Y (outcome_of r) h.context sc
  written_gives {r} {sc} {due} w settles =
      subst (λ (x : Reduced). Gives In n h Y (outcome_of x) h.context sc) (sym w.is)
      (by_answer w.answer (subst (Wrote h.library h.scratch h.meter.mark w.answer sc) settles w.wrote))

-- A ROW

put_settles : (lim : Limits) (s : Store) (w : Row) → put_in lim.rows s w ≡ settle_on (put s w) (charge lim s (put s w).store)
unfolding emit put_in
put_settles lim s w = rw drop-append_seam (on (fit_view (cell s w)) (cmp lim.rows (length s)))
  where
    on : (f : FitView (cell s w)) (c : Cmp lim.rows (length s)) → put_on lim.rows s w f c ≡ settle_on (put s w) (emit_on lim (cell s w) s f c none)
    on (no_fit f) c = refl
    on (fits f) (up_to l) = refl
    on (fits f) (over l) = refl

module _ (n : ℕ) (h : Here) (ready : Ready h) (w : Shape) (may : Writable h w) where
  abbrev s : Store
  s = store_at h

  row_stage : charge (limits_at h) s (put s (row_of w)).store ≡ none → Stage (decl_count (env_at h)) (InAt (depth_at h)) s (put s (row_of w))
  row_stage c =
      let wrote : put_in (limits_at h).rows s (row_of w) ≡ course.wrote (put s (row_of w)) =
      put_settles (limits_at h) s (row_of w) ∙ ap (settle_on (put s (row_of w))) c in
      let fit = (put_at (limits_at h).rows s (row_of w) wrote).fit in
      record {
        more = ext_put s (cell s (row_of w));
        pass = put_pass ready.stand.sane.pass may.fields may.worded fit;
        fits = put_scope s (row_of w) (depth_at h) may.bound;
      }

  pub row_gives : {r : Reduced} {sc : List ℕ} → Written h.library h.scratch h.meter r sc (put_in (limits_at h).rows s (row_of w)) →
      Gives (InAt (depth_at h)) n h (writes (row_of w)) (outcome_of r) h.context sc
  unfolding run
  row_gives k = written_gives n h ready (InAt (depth_at h)) (writes (row_of w)) (put s (row_of w)) (λ next. refl) row_stage k
      (put_settles (limits_at h) s (row_of w))

-- A REPLACEMENT

module _ (n : ℕ) (h : Here) (ready : Ready h) (In : Store → rules.Ptr → Type 0) (v : Option rules.Ptr) (k c : ℕ) (b : rules.Ptr)
    (good : Good (store_at h) b) (value : ValueGood (store_at h) v)
    (fit : (g : Got) → Replaces v k c (store_at h) b g → In g.store g.at) where
  abbrev here_store : Store
  here_store = store_at h

  abbrev height : ℕ
  height = (cell_at here_store b.row).height

  pub opening_gives : {r : Reduced} {sc : List ℕ} → Written h.library h.scratch h.meter r sc (replace_in (limits_at h).rows v k height c here_store b) →
      Gives In n h (opens v k c b) (outcome_of r) h.context sc
  unfolding run
  opening_gives {r} {sc} w = go (replace_by v k height c here_store b) refl
      ((reaches v k height).at c here_store b (pass_formed ready.stand.sane.pass) good value (le_refl _))
    where
      go : (x : Option Got) → replace_by v k height c here_store b ≡ x → Found x → Gives In n h (opens v k c b) (outcome_of r) h.context sc
      go none e there = elim there [ ]
      go (some g) e there =
          let settles : replace_in (limits_at h).rows v k height c here_store b ≡ settle_on g (charge (limits_at h) here_store g.store) =
          replace_in_lem (limits_at h) v k height c here_store b e in
          written_gives n h ready In (opens v k c b) g
          (λ next. ap (opened_on (limits_at h) (λ m₁ p. ran_with n (limits_at h) (env_at h) (spare_at h) (next m₁.store p) m₁) (tally_at h)) e)
          (λ q.
          let arrived = came (decl_count (env_at h)) v k c here_store b (limits_at h).rows height ready.stand.sane.pass good value
          (held_room h.library h.scratch h.meter.mark h.given.nlib ready.stand.held) (le_refl _) (sym (settles ∙ ap (settle_on g) q)) in
          record { more = arrived.more; pass = arrived.pass; fits = fit g arrived.replaces })
          w settles
