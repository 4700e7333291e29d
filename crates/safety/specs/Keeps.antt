-- A course over a sane store leaves a sane store that extends it, and a term in scope at the same depth.
-- Shown for a firing, for trying and for a run. Assumes a sane store and a term in scope.
use Rattle.std.specs.Prelude.{ℕ, List, []}
use Rattle.rules.specs.Rows.{Ptr, Row, Store, row_at}
use Rattle.rules.specs.RowCheck.{InScope}
use Rattle.rules.specs.Declarations.{Env}
use Rattle.rules.specs.Spines.{Spine}
use Rattle.rules.specs.Firings.{Tally, Result, Pays}
use Rattle.course.specs.Tries.{Try, End, missed, firing, Runs, final, then, Comes, misses, fires_now, wrote, side}
use Rattle.substitution.specs.Stores.{Ext, ext_same, ext_then}
use Rattle.substitution.specs.Passing.{pass_formed, pass_worded}
use Rattle.substitution.specs.Fired.{pays_due}
use Rattle.substitution.specs.Paid.{pays_paid}
use Rattle.promises.specs.Stores.{ext_grow}
use Rattle.safety.specs.Sane.{depth_of, decl_count, Sane, in_later, sane_later}
use Rattle.safety.specs.Scope.{AllIn, none_in, all_good, spine_in, ResultIn, result_good, due_in}
use Rattle.safety.specs.Parts.{grow_pass}
use Rattle.safety.specs.Safe.{Safe, safe_none, safe_fires, safe_writes, safe_reduces, Follows, term_safe}

-- from s on, a sane store and a term in scope
pub record Leaves (e : Env) (s s' : Store) (t : Ptr) : Type 0 where
  pub more : Ext s s'
  pub sane : Sane e s'
  pub term : InScope s' (depth_of e) t

-- what trying comes to is in scope
pub data EndIn (e : Env) (s : Store) : End → Type 0 where
  missed_in : EndIn e s missed
  firing_in : {r : Result} {xs : List Ptr} → ResultIn (decl_count e) s (depth_of e) r → AllIn s (depth_of e) xs → EndIn e s (firing r xs)

pub record Ends (e : Env) (s s' : Store) (o : End) : Type 0 where
  pub more : Ext s s'
  pub sane : Sane e s'
  pub end : EndIn e s' o

-- A FIRING

pub pays_keep : {e : Env} {m m' : Tally} {r : Result} {xs : List Ptr} {t' : Ptr} → Sane e m.store → EndIn e m.store (firing r xs) → Pays m r xs m' t' →
    Leaves e m.store m'.store t'
pays_keep sane (firing_in i is) p =
    let k = pays_paid sane.pass (result_good i) (all_good is) p in
    record { more = k.more; sane = sane_later k.more k.pass sane; term = due_in (pass_formed sane.pass) i is (pays_due p) }

-- TRYING AND RUNS

then_leaves : {e : Env} {s s₁ s₂ : Store} {t : Ptr} → Ext s s₁ → Leaves e s₁ s₂ t → Leaves e s s₂ t
then_leaves x k = record { more = ext_then x k.more; sane = k.sane; term = k.term }

then_ends : {e : Env} {s s₁ s₂ : Store} {o : End} → Ext s s₁ → Ends e s₁ s₂ o → Ends e s s₂ o
then_ends x k = record { more = ext_then x k.more; sane = k.sane; end = k.end }

-- what follows a side reduction that left a term in scope is safe
pub after_side : {e : Env} {s s₁ : Store} {q h : Ptr} {ys : List Ptr} {y : Store → Row → List Ptr → Try} → Leaves e s s₁ q → Spine s₁ q [] h ys →
    Follows (decl_count e) (depth_of e) s y → Safe (decl_count e) (depth_of e) s₁ (y s₁ (row_at s₁ h.row) ys)
after_side {h = h} k q f =
    let a = k.sane.pass in
    f _ _ _ k.more a ((pass_worded a).each h.row) (spine_in a k.term none_in q).arguments

mutual
  pub runs_keep : {e : Env} {d : ℕ} {m m' : Tally} {t t' : Ptr} → Runs e d m t m' t' → Sane e m.store → InScope m.store (depth_of e) t →
      Leaves e m.store m'.store t'
  runs_keep (final s c) sane i =
      let k = comes_keep c sane (term_safe sane i s) in
      record { more = k.more; sane = k.sane; term = in_later k.more i }
  runs_keep (then s c p r) sane i =
      let k = comes_keep c sane (term_safe sane i s) in
      let q = pays_keep k.sane k.end p in
      then_leaves k.more (then_leaves q.more (runs_keep r q.sane q.term))

  pub comes_keep : {e : Env} {d : ℕ} {m m' : Tally} {y : Try} {o : End} → Comes e d m y m' o → Sane e m.store → Safe (decl_count e) (depth_of e) m.store y →
      Ends e m.store m'.store o
  comes_keep {m = m} misses sane safe_none = record { more = ext_same m.store; sane = sane; end = missed_in }
  comes_keep {m = m} fires_now sane (safe_fires i is) = record { more = ext_same m.store; sane = sane; end = firing_in i is }
  comes_keep {m = m} (wrote {ws = ws} w c) sane (safe_writes r f) =
      let a = grow_pass sane.pass r w in
      let x = ext_grow m.store ws in
      then_ends x (comes_keep c (sane_later x a sane) (f a))
  comes_keep (side r s c) sane (safe_reduces i f) =
      let k = runs_keep r sane i in
      then_ends k.more (comes_keep c k.sane (after_side k s f))
