-- Two courses from one start end the same, whatever their depths. It holds for all stores.
use Rattle.std.specs.Prelude.{ℕ, suc, ◌≡◌, refl, List, []}
use Rattle.std.proofs.Common.{arith, sym, ap, ◌∙◌, subst}
use Rattle.rules.specs.Kinds.{app}
use Rattle.rules.specs.Rows.{Ptr, Row, node, Store, Got}
use Rattle.rules.specs.Declarations.{Env}
use Rattle.rules.specs.Spines.{NoApp, Spine, head, through, joined}
use Rattle.rules.specs.Firings.{Tally, tally, Result, Gives, by_replacement, no_row, number_row, constant_row, Due, Pays}
use Rattle.substitution.specs.Existence.{replaces_unique}
use Rattle.course.specs.Tries.{Try, rules, End, missed, firing, Runs, final, then, Comes, misses, fires_now, wrote, side}

-- SPINES
pub record SameSpine (h h' : Ptr) (ys ys' : List Ptr) : Type 0 where
  pub head : h ≡ h'
  pub arguments : ys ≡ ys'

no_app_app : {w : Row} {f a z : Ptr} → NoApp w → w ≡ node app f a z → ⊥
no_app_app {f = f} {a = a} {z = z} n e = go (subst NoApp e n)
  where
    go : NoApp (node app f a z) → ⊥
    go = elim [ ]

pub spine_same : {s : Store} {p h h' : Ptr} {xs ys ys' : List Ptr} → Spine s p xs h ys → Spine s p xs h' ys' → SameSpine h h' ys ys'
spine_same (head n) (head n') = record { head = refl; arguments = refl }
spine_same (head n) (through e r) = absurd (no_app_app n e)
spine_same (through e r) (head n) = absurd (no_app_app n e)
spine_same (through {f = f} {a = a} e r) (through {f = f'} {a = a'} e' r') =
    let q : f' ≡ f = cc in
    let q' : a' ≡ a = cc in
    spine_same r (rw (q, q') at r')

-- A FIRING
gives_same : {s : Store} {r : Result} {g g' : Got} → Gives s r g → Gives s r g' → g ≡ g'
gives_same (by_replacement r) (by_replacement r') = replaces_unique r r'
gives_same (no_row e) (no_row e') = sym e ∙ e'
gives_same (number_row e) (number_row e') = sym e ∙ e'
gives_same (constant_row e) (constant_row e') = sym e ∙ e'

pub due_same : {s : Store} {r : Result} {xs : List Ptr} {g g' : Got} → Due s r xs g → Due s r xs g' → g ≡ g'
due_same {xs = xs} d d' = sym d.applied ∙ ap (λ (g : Got). joined g.store g.at xs) (gives_same d.gives d'.gives) ∙ d'.applied

pub record SameTerm (m m' : Tally) (t t' : Ptr) : Type 0 where
  pub tally : m ≡ m'
  pub term : t ≡ t'

pub pays_same : {m m₁ m₂ : Tally} {r : Result} {xs : List Ptr} {t₁ t₂ : Ptr} → Pays m r xs m₁ t₁ → Pays m r xs m₂ t₂ → SameTerm m₁ m₂ t₁ t₂
pays_same {m} p p' =
    let q = due_same p.is_due p'.is_due in
    record {
      tally = sym p.then_tally ∙ ap (λ (g : Got). tally (suc m.steps) g.store) q ∙ p'.then_tally;
      term = sym p.then_term ∙ ap (λ (g : Got). g.at) q ∙ p'.then_term;
    }

-- A COURSE
pub record SameEnd (m m' : Tally) (o o' : End) : Type 0 where
  pub tally : m ≡ m'
  pub end : o ≡ o'

pub not_both : {r : Result} {xs : List Ptr} → missed ≡ firing r xs → ⊥
not_both q = let z : ◌≡◌ {A = ℕ} 0 1 = cc in omega arith

-- the same end is the same firing, and it is paid the same
pub same_firing : {m m' : Tally} {r r' : Result} {xs xs' : List Ptr} → SameEnd m m' (firing r xs) (firing r' xs') →
    (P : Tally → Result → List Ptr → Type 0) → P m' r' xs' → P m r xs
same_firing {r = r} {r' = r'} {xs = xs} {xs' = xs'} z P h =
    let q : firing r xs ≡ firing r' xs' = z.end in
    let q₁ : r' ≡ r = cc in
    let q₂ : xs' ≡ xs = cc in
    rw (z.tally, ← q₁, ← q₂) h

pub pays_on : {m m' m₁ m₂ : Tally} {r r' : Result} {xs xs' : List Ptr} {t₁ t₂ : Ptr} → SameEnd m m' (firing r xs) (firing r' xs') →
    Pays m r xs m₁ t₁ → Pays m' r' xs' m₂ t₂ → SameTerm m₁ m₂ t₁ t₂
pays_on {m₂ = m₂} {t₂ = t₂} z p p' = pays_same p (same_firing z (λ m r xs. Pays m r xs m₂ t₂) p')

-- what a side reduction ends in: its tally, head and arguments
pub record SameSide (m m' : Tally) (h h' : Ptr) (ys ys' : List Ptr) : Type 0 where
  pub tally : m ≡ m'
  pub head : h ≡ h'
  pub arguments : ys ≡ ys'

pub side_same : {m m' : Tally} {t t' h h' : Ptr} {ys ys' : List Ptr} → SameTerm m m' t t' → Spine m.store t [] h ys → Spine m'.store t' [] h' ys' →
    SameSide m m' h h' ys ys'
side_same z s s' = let q = spine_same s (rw (← z.tally, ← z.term) at s') in record { tally = z.tally; head = q.head; arguments = q.arguments }

module _ (e : Env) where
  -- the same rules are tried at either reading of the spine
  pub through_one : {d : ℕ} {m m₁ : Tally} {t h h' : Ptr} {xs xs' : List Ptr} {o : End} → Spine m.store t [] h xs → Spine m.store t [] h' xs' →
      Comes e d m (rules e m.store h' xs') m₁ o → Comes e d m (rules e m.store h xs) m₁ o
  through_one s s' c = let q = spine_same s s' in rw (← q.head, ← q.arguments) at c

  mutual
    pub runs_same : {d d' : ℕ} {m m₁ m₂ : Tally} {t t₁ t₂ : Ptr} → Runs e d m t m₁ t₁ → Runs e d' m t m₂ t₂ → SameTerm m₁ m₂ t₁ t₂
    runs_same (final s c) (final s' c') = let z = comes_same c (through_one s s' c') in record { tally = z.tally; term = refl }
    runs_same (final s c) (then s' c' p' r') = let z = comes_same c (through_one s s' c') in absurd (not_both z.end)
    runs_same (then s c p r) (final s' c') = let z = comes_same c (through_one s s' c') in absurd (not_both (sym z.end))
    runs_same (then s c p r) (then s' c' p' r') = let z = pays_on (comes_same c (through_one s s' c')) p p' in runs_same r (rw (← z.tally, ← z.term) at r')

    pub comes_same : {d d' : ℕ} {m m₁ m₂ : Tally} {y : Try} {o o' : End} → Comes e d m y m₁ o → Comes e d' m y m₂ o' → SameEnd m₁ m₂ o o'
    comes_same misses misses = record { tally = refl; end = refl }
    comes_same fires_now fires_now = record { tally = refl; end = refl }
    comes_same (wrote w c) (wrote w' c') = comes_same c c'
    comes_same (side r s c) (side r' s' c') =
        let z = side_same (runs_same r r') s s' in comes_same c (rw (← z.tally, ← z.head, ← z.arguments) at c')
