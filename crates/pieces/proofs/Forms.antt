-- Forms without parts, for callers: the type of a sort and of a constant. And a form that has no type, or is answered at once.
-- Assumes what a member is given, and a declaration that is there.
use Prim.Native.Nat.{ℕ, suc, ◌/◌, ◌≤◌, ◌<◌}
use native.Mathlib.Omega.{arith}
use mathlib.Core.Path.{◌≡◌, refl, sym, ap, ◌∙◌, subst}
use mathlib.Core.Bool.{Bool, true, false}
use mathlib.Core.List.{List}
use borrow.Author.Tests.{lt-ltb, le-ltb, eqb-true, eqb-false}
use lib.Dec.{eqb}
use lib.ListN.{length}
use Rattle.rules.specs.Maxima.{most_level}
use Rattle.rules.specs.Kinds.{sort}
use Rattle.rules.specs.Rows.{leaf}
use Rattle.rules.specs.Declarations.{decl_at}
use Rattle.rules.specs.Accepted.{part}
use Rattle.course.specs.Views.{Cmp, up_to, over, cmp}
use Rattle.course.specs.Charged as course
use Rattle.course.specs.Charged.{put_in}
use Rattle.safety.specs.Sane.{closed_in}
use Rattle.inferring.specs.Asks.{Ask, answers, untyped, writes, if_equal, sort_type, constant_type}
use Rattle.inferring.specs.Views.{EqView, equal, differ, eq_view}
use Rattle.inferring.specs.Eval.{run, level_on}
use Rattle.rows.specs.declared.Ptr.{Ptr}
use Rattle.rows.specs.Refusals.{Out}
use Rattle.rows.specs.Words.{ite, ptr_of, row_of}
use Rattle.rows.specs.Writes.{sort_in, out_of}
use Rattle.rows.proofs.DueRows.{sort_row_is}
use Rattle.rows.proofs.RefusalNumbers.{one_number}
use Rattle.tables.specs.Read.{decl_read}
use Rattle.tables.specs.ReadLaws.{levels_is}
use Rattle.records.specs.Read.{type_read}
use Rattle.records.proofs.Types.{type_is}
use Rattle.state.specs.State.{Reduced}
use Rattle.cycle.proofs.Standing.{declarations_are}
use Rattle.typing.specs.Here.{Here, depth_at, env_at, store_at, limits_at, res_at, Scope, Ready}
use Rattle.typing.specs.Gives.{Infers}
use Rattle.typing.specs.Written.{reduced_by, Written}
use Rattle.typing.proofs.Places.{At, nothing_kept, nothing_after, nothing_keeps, form_ends, form_stops, form_by_piece}
use Rattle.pieces.specs.Leaves.{const_type}
use Rattle.pieces.proofs.MadeRows.{sort_shape, made_sort_gives}
use Rattle.std.specs.Prelude.{Err, Ok}
use Rattle.rows.specs.declared.refusals.Refusal.TheVariants.{NoType, SortLevel}
use Rattle.rows.specs.Refusals.{number_of}
use Rattle.rows.specs.declared.refusals.Refusal.{Refusal}

-- AN ASK THAT IS ANOTHER

module _ {n : ℕ} {h : Here} (ready : Ready h) {y : Ask} where
  pub begins_as : (z : Ask) → y ≡ z → At n h (res_at n h y) h.context h.scratch h.meter z
  begins_as z e = record { is = sym (ap (res_at n h) e); after = nothing_after ready }

  -- no type: 9
  pub no_type : y ≡ untyped → Infers n h y (Err NoType) h.context h.scratch
  unfolding run
  no_type e = form_stops refl (record { is = sym (ap (res_at n h) e); keeps = nothing_keeps h })

  pub a_type : {p : Ptr} → y ≡ answers (ptr_of p) → Scope h (ptr_of p) → Infers n h y (Ok (p, h.meter)) h.context h.scratch
  a_type {p} e scope = form_ends (begins_as (answers (ptr_of p)) e) scope

-- A SORT

refused_answer : (l sc : List ℕ) {k : Refusal} (o : Out) → out_of o l sc ≡ course.refused (number_of k) → (steps : ℕ) → reduced_by steps o ≡ Err k
refused_answer l sc (Ok (p, m)) e steps = cc
refused_answer l sc {k} (Err j) e steps = let numbers : number_of j ≡ number_of k = cc in ap Err (one_number j k numbers)

module _ (n : ℕ) {h : Here} (ready : Ready h) (level : ℕ) {r : Reduced} {sc : List ℕ}
    (w : Written h.library h.scratch h.meter r sc (sort_in (limits_at h).rows (store_at h) (suc level))) where
  abbrev row_asked : Ask
  row_asked = writes (leaf (sort (suc level))) λ s p. answers p

  tests_level : res_at n h (sort_type level) ≡ level_on (cmp (suc level) most_level) (res_at n h row_asked)
  unfolding run sort_type
  tests_level = refl

  level_fits : suc level ≤ most_level → Written h.library h.scratch h.meter r sc (put_in (limits_at h).rows (store_at h) (row_of (sort_shape (suc level))))
  level_fits low =
      subst (Written h.library h.scratch h.meter r sc)
      (ap (λ (b : Bool). ite b (course.refused 10) (put_in (limits_at h).rows (store_at h) (leaf (sort (suc level))))) (le-ltb most_level (suc level) low)
      ∙ ap (put_in (limits_at h).rows (store_at h)) (sym (sort_row_is (suc level)))) w

  level_over : most_level < suc level → r ≡ Err SortLevel
  level_over high =
      w.is
      ∙ refused_answer h.library sc w.answer (w.wrote.says
      ∙ ap (λ (b : Bool). ite b (course.refused 10) (put_in (limits_at h).rows (store_at h) (leaf (sort (suc level))))) (lt-ltb most_level (suc level) high))
      h.meter.steps

  pub sort_infers : Infers n h (sort_type level) r h.context sc
  sort_infers = on (cmp (suc level) most_level) refl
    where
      on : (c : Cmp (suc level) most_level) → cmp (suc level) most_level ≡ c → Infers n h (sort_type level) r h.context sc
      on (up_to low) e =
          form_by_piece
          (record { is = sym (tests_level ∙ ap (λ (c : Cmp (suc level) most_level). level_on c (res_at n h row_asked)) e); after = nothing_after ready })
          (made_sort_gives ready (suc level) low n (level_fits low))
      on (over high) e =
          form_stops (level_over high)
          (record {
            is = sym (tests_level ∙ ap (λ (c : Cmp (suc level) most_level). level_on c (res_at n h row_asked)) e);
            keeps = record { kept = w.wrote.kept; same_length = w.wrote.same_length; context = nothing_kept (depth_at h) h.context };
          })

-- A CONSTANT

if_same : {a b : ℕ} (v : EqView a b) → a ≡ b → (y : Ask) → if_equal v y ≡ y
if_same (equal q) e y = refl
if_same (differ f) e y = absurd (f e)

if_other : {a b : ℕ} (v : EqView a b) → (a ≡ b → ⊥) → (y : Ask) → if_equal v y ≡ untyped
if_other (equal q) f y = absurd (f q)
if_other (differ g) f y = refl

pub const_infers : (n : ℕ) {h : Here} → Ready h → (d levels : ℕ) → d < length h.decls / 16 → {r : Reduced} → r ≡ const_type h.decls h.meter d levels →
    Infers n h (constant_type (env_at h) d levels) r h.context h.scratch
unfolding constant_type
const_infers n {h} ready d levels there {r} is =
    subst (λ (x : Reduced). Infers n h (constant_type (env_at h) d levels) x h.context h.scratch) (sym is) (on (eqb counted levels) refl)
  where
    ws : List ℕ
    ws = part 16 h.decls d

    counted : ℕ
    counted = (decl_read (part 16 h.decls d)).levels

    said : ℕ
    said = (decl_at (env_at h).decls d).levels

    same : said ≡ counted
    same = levels_is h.decls h.rules h.context (depth_at h) d there

    type : ptr_of (type_read (part 16 h.decls d)) ≡ (decl_at (env_at h).decls d).type
    type = type_is h.decls h.rules h.context (depth_at h) d there

    scope : Scope h (decl_at (env_at h).decls d).type
    scope = closed_in (depth_at h) (ready.typed.type d (omega (arith, there, declarations_are h.decls h.rules h.context (depth_at h))))

    on : (b : Bool) → eqb counted levels ≡ b →
        Infers n h (constant_type (env_at h) d levels) (ite b (Ok (type_read (part 16 h.decls d), h.meter)) (Err NoType)) h.context h.scratch
    on true e =
        a_type ready
        (if_same (eq_view said levels) (same ∙ eqb-true counted levels e) (answers (decl_at (env_at h).decls d).type) ∙ ap answers (sym type))
        (subst (Scope h) (sym type) scope)
    on false e = no_type ready (if_other (eq_view said levels) (λ q. eqb-false counted levels e (sym same ∙ q)) (answers (decl_at (env_at h).decls d).type))
