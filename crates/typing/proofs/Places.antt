-- A member of inference's cycle goes from place to place: what is still asked from here on comes to the answer of the start.
-- Shows that a piece's value leads to the next place, that its refusal is the answer of the whole, and that the last place is the answer.
-- Assumes what a member is given.
use Prim.Native.Nat.{ℕ, ◌*◌, ◌≤◌}
use native.Mathlib.Omega.{arith}
use mathlib.Core.Path.{◌≡◌, refl, sym, ap, ◌∙◌, subst}
use mathlib.Core.List.{List}
use lib.ListN.{take}
use lib.Seq.{take-take}
use Rattle.rules.specs.Rows as rules
use Rattle.rules.specs.Rows.{Store}
use Rattle.course.specs.Eval.{Res, no}
use Rattle.substitution.specs.Stores.{Ext, ext_same, ext_then}
use Rattle.inferring.specs.Asks.{Ask, answers}
use Rattle.inferring.specs.Eval.{run}
use Rattle.rows.specs.declared.Ptr.{Ptr}
use Rattle.rows.specs.Words.{ptr_of}
use Rattle.state.specs.declared.Meter.{Meter}
use Rattle.state.specs.State.{Reduced}
use Rattle.cycle.proofs.Standing.{nothing_passed, passed_on}
use Rattle.typing.specs.Here.{Here, later, depth_at, store_at, res_at, Scope, Ready, Kept, Keeps, After}
use Rattle.typing.specs.Gives.{Outcome, gave, refused, outcome_of, then_on, Value, Gives, InAt, res_by, Infers}
use Rattle.std.specs.Prelude.{Err, Ok}
use Rattle.rows.specs.declared.refusals.Refusal.{Refusal}
use Rattle.rows.specs.Refusals.{number_of}

-- WHAT IS KEPT, in turn

pub nothing_kept : (depth : ℕ) (cs : List ℕ) → Kept depth cs cs
nothing_kept depth cs = record { records = refl; same_length = refl }

pub kept_then : {depth : ℕ} {cs cs₁ cs₂ : List ℕ} → Kept depth cs cs₁ → Kept depth cs₁ cs₂ → Kept depth cs cs₂
kept_then a b = record { records = b.records ∙ a.records; same_length = b.same_length ∙ a.same_length }

pub fewer : (xs ys : List ℕ) (a b : ℕ) → a ≤ b → take b xs ≡ take b ys → take a xs ≡ take a ys
fewer xs ys a b h e = sym (take-take a b xs h) ∙ ap (take a) e ∙ take-take a b ys h

module _ {h : Here} {cs sc : List ℕ} {m : Meter} (a : After h cs sc m) where
  pub keeps_then : {cs₁ sc₁ : List ℕ} → Keeps (later h cs sc m) cs₁ sc₁ → Keeps h cs₁ sc₁
  keeps_then {sc₁ = sc₁} k = record {
    kept = fewer sc₁ sc (9 * h.meter.mark) (9 * m.mark) (let u = a.passed.grown.upward in omega arith) k.kept ∙ a.passed.kept;
    same_length = k.same_length ∙ a.passed.same_length;
    context = kept_then a.context k.context;
  }

  pub after_then : {cs₁ sc₁ : List ℕ} {m₁ : Meter} → After (later h cs sc m) cs₁ sc₁ m₁ → After h cs₁ sc₁ m₁
  after_then b = record {
    ready = b.ready;
    passed = passed_on a.passed b.passed;
    context = kept_then a.context b.context;
    more = ext_then a.more b.more;
  }

  pub after_keeps : Keeps h cs sc
  after_keeps = record { kept = a.passed.kept; same_length = a.passed.same_length; context = a.context }

pub nothing_after : {h : Here} → Ready h → After h h.context h.scratch h.meter
nothing_after {h} r = record {
  ready = r;
  passed = nothing_passed h.scratch h.meter r.stand.held.room;
  context = nothing_kept (depth_at h) h.context;
  more = ext_same (store_at h);
}

pub nothing_keeps : (h : Here) → Keeps h h.context h.scratch
nothing_keeps h = record { kept = refl; same_length = refl; context = nothing_kept (depth_at h) h.context }

-- PLACES

-- begun at h: what is asked now, y, comes to res
pub record At (n : ℕ) (h : Here) (res : Res) (cs sc : List ℕ) (m : Meter) (y : Ask) : Type 0 where
  pub is : res_at n (later h cs sc m) y ≡ res
  pub after : After h cs sc m

-- refused: res is this refusal
pub record Stopped (h : Here) (res : Res) (k : ℕ) (cs sc : List ℕ) : Type 0 where
  pub is : no k ≡ res
  pub keeps : Keeps h cs sc

pub begins : {n : ℕ} {h : Here} {y : Ask} → Ready h → At n h (res_at n h y) h.context h.scratch h.meter y
begins r = record { is = refl; after = nothing_after r }

-- a function's answer, by its outcome
pub gave_apart : {A : Type 0} {a : A} {m : Meter} {k : ℕ} → refused k ≡ gave a m → ⊥
gave_apart q = cc

module _ {A : Type 0} {In : Store → A → Type 0} {n : ℕ} {h : Here} {res : Res} {cs sc : List ℕ} {m : Meter} {Y : (Store → A → Ask) → Ask}
    {o : Outcome A} {cs₁ sc₁ : List ℕ} (piece : Gives In n (later h cs sc m) Y o cs₁ sc₁) (next : Store → A → Ask) (at : At n h res cs sc m (Y next)) where
  -- the piece gave a value: what follows is asked of it
  pub goes_on : {a : A} {m₁ : Meter} → o ≡ gave a m₁ → At n h res cs₁ sc₁ m₁ (next (store_at (later h cs₁ sc₁ m₁)) a)
  goes_on {a} {m₁} e = record {
    is = sym (piece.says next ∙ ap (then_on n (later h cs sc m) cs₁ sc₁ next) e) ∙ at.is;
    after = after_then at.after (piece.value a m₁ e).after;
  }

  -- the piece was refused: so is the whole
  pub stops : {k : ℕ} → o ≡ refused k → Stopped h res k cs₁ sc₁
  stops e = record {
    is = sym (piece.says next ∙ ap (then_on n (later h cs sc m) cs₁ sc₁ next) e) ∙ at.is;
    keeps = keeps_then at.after piece.keeps;
  }

-- what a piece's value may be used for
pub fits : {A : Type 0} {In : Store → A → Type 0} {n : ℕ} {h : Here} {Y : (Store → A → Ask) → Ask} {o : Outcome A} {cs sc : List ℕ} {a : A} {m : Meter} →
    Gives In n h Y o cs sc → o ≡ gave a m → In (store_at (later h cs sc m)) a
fits piece e = (piece.value _ _ e).fits

pub grows : {A : Type 0} {In : Store → A → Type 0} {n : ℕ} {h : Here} {Y : (Store → A → Ask) → Ask} {o : Outcome A} {cs sc : List ℕ} {a : A} {m : Meter} →
    Gives In n h Y o cs sc → o ≡ gave a m → Ext (store_at h) (store_at (later h cs sc m))
grows piece e = (piece.value _ _ e).after.more

-- THE WAYS OUT OF A PIECE

pub value_is : {A : Type 0} {In : Store → A → Type 0} {h : Here} {cs sc : List ℕ} {a b : A} {m m₁ : Meter} → After h cs sc m →
    In (store_at (later h cs sc m)) a → gave a m ≡ gave b m₁ → Value In h cs sc b m₁
value_is {A} {In} {h} {cs} {sc} {a} {b} {m} {m₁} after fit e =
    let meters : m ≡ m₁ = cc in
    let values : a ≡ b = cc in
    subst (λ (x : A). Value In h cs sc x m₁) values (subst (Value In h cs sc a) meters (record { after = after; fits = fit }))

module _ {A : Type 0} {In : Store → A → Type 0} {n : ℕ} {h : Here} {Y : (Store → A → Ask) → Ask} {cs sc : List ℕ} where
  pub piece_gives : {o : Outcome A} {a : A} {m : Meter} → o ≡ gave a m →
      ((next : Store → A → Ask) → At n h (res_at n h (Y next)) cs sc m (next (store_at (later h cs sc m)) a)) →
      After h cs sc m → In (store_at (later h cs sc m)) a → Gives In n h Y o cs sc
  piece_gives {o} {a} {m} q at after fit = record {
    says = λ next. sym (at next).is ∙ ap (then_on n h cs sc next) (sym q);
    keeps = after_keeps after;
    value = λ b m₁ e. value_is after fit (sym q ∙ e);
  }

  pub piece_stops : {o : Outcome A} {k : ℕ} → o ≡ refused k → ((next : Store → A → Ask) → Stopped h (res_at n h (Y next)) k cs sc) → Keeps h cs sc →
      Gives In n h Y o cs sc
  piece_stops {o} {k} q stop keeps = record {
    says = λ next. sym (stop next).is ∙ ap (then_on n h cs sc next) (sym q);
    keeps = keeps;
    value = λ b m₁ e. absurd (gave_apart (sym q ∙ e));
  }

-- a piece whose last piece gives its value
pub piece_by_piece : {A : Type 0} {In : Store → A → Type 0} {n : ℕ} {h : Here} {Y Y₁ : (Store → A → Ask) → Ask} {cs sc : List ℕ} {m : Meter} {o : Outcome A}
    {cs₁ sc₁ : List ℕ} →
    ((next : Store → A → Ask) → At n h (res_at n h (Y next)) cs sc m (Y₁ next)) → After h cs sc m → Gives In n (later h cs sc m) Y₁ o cs₁ sc₁ →
    Gives In n h Y o cs₁ sc₁
piece_by_piece {A} {In} {n} {h} {Y} {Y₁} {cs} {sc} {m} {o} {cs₁} {sc₁} at after last = record {
  says = λ next. sym (at next).is ∙ last.says next ∙ same o next;
  keeps = keeps_then after last.keeps;
  value = λ a m₁ e. let v = last.value a m₁ e in record { after = after_then after v.after; fits = v.fits };
}
  where
    same : (o : Outcome A) (next : Store → A → Ask) → then_on n (later h cs sc m) cs₁ sc₁ next o ≡ then_on n h cs₁ sc₁ next o
    same (gave a m₁) next = refl
    same (refused k) next = refl

-- THE WAYS OUT OF A FORM

module _ {n : ℕ} {h : Here} {y : Ask} {cs sc : List ℕ} where
  pub form_ends : {p : Ptr} {m : Meter} → At n h (res_at n h y) cs sc m (answers (ptr_of p)) → Scope (later h cs sc m) (ptr_of p) →
      Infers n h y (Ok (p, m)) cs sc
  unfolding run
  form_ends {p} {m} at scope = record {
    says = at.is;
    keeps = after_keeps at.after;
    value = λ b m₁ e. value_is {In = InAt (depth_at h)} at.after scope e;
  }

  pub form_stops : {r : Reduced} {k : Refusal} → r ≡ Err k → Stopped h (res_at n h y) (number_of k) cs sc →
      Infers n h y r cs sc
  form_stops {r} {k} q stop = record {
    says = ap (λ (x : Reduced). res_by h.library sc (outcome_of x)) q ∙ stop.is;
    keeps = stop.keeps;
    value = λ b m₁ e. absurd (gave_apart (sym (ap outcome_of q) ∙ e));
  }

-- a form whose last piece gives its answer
pub form_by_piece : {n : ℕ} {h : Here} {y : Ask} {cs sc : List ℕ} {m : Meter} {Y : (Store → rules.Ptr → Ask) → Ask} {r : Reduced} {cs₁ sc₁ : List ℕ} →
    At n h (res_at n h y) cs sc m (Y (λ s p. answers p)) → Gives (InAt (depth_at h)) n (later h cs sc m) Y (outcome_of r) cs₁ sc₁ → Infers n h y r cs₁ sc₁
form_by_piece {n} {h} {y} {r = Ok (p, m₁)} at piece = form_ends (goes_on piece _ at refl) (fits piece refl)
form_by_piece {n} {h} {y} {r = Err k} at piece = form_stops refl (stops piece _ at refl)

-- a form that is another form from here on
pub form_by_form : {n : ℕ} {h : Here} {y y₁ : Ask} {cs sc : List ℕ} {m : Meter} {r : Reduced} {cs₁ sc₁ : List ℕ} →
    At n h (res_at n h y) cs sc m y₁ → Infers n (later h cs sc m) y₁ r cs₁ sc₁ → Infers n h y r cs₁ sc₁
form_by_form at f = record {
  says = f.says ∙ at.is;
  keeps = keeps_then at.after f.keeps;
  value = λ p m e. let v = f.value p m e in record { after = after_then at.after v.after; fits = v.fits };
}
