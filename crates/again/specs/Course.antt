-- The simulation: an embedding of stores carries a course to a course. On the other side the course takes as many steps, writes as many rows, goes as
-- deep, ends in the same term renamed, and meets the same demands. Assumes nothing but the embedding and environments that are alike under it.
use Rattle.std.specs.Prelude.{ℕ, suc, ◌+◌, ◌≡◌, refl, List, [], map, length}
use Rattle.std.proofs.Common.{arith, subst}
use Rattle.rules.specs.Rows.{Ptr, Row, Store, row_at}
use Rattle.rules.specs.Declarations.{Env}
use Rattle.rules.specs.Spines.{Spine}
use Rattle.rules.specs.Firings.{Tally, tally, Result}
use Rattle.rules.specs.Refusals.{Demand, Limits, Within, Fails, no_step, no_free_row, no_level, too_large, no_size}
use Rattle.course.specs.Tries.{Try, fires, reduces, rules, End, missed, firing, Runs, final, then, Comes, misses, fires_now, wrote, side, RunMeets}
use Rattle.course.specs.Tries.{trying, paying, later, TryMeets, writing, after_writing, too_deep, within, after_side}
use Rattle.substitution.specs.Stores.{ext_length}
use Rattle.promises.specs.Stores.{Later, later_runs, later_comes, later_run_meets}
use Rattle.again.specs.Embeds.{ren, Embeds, as_many, fits_renamed, fits_back, written_carried, row_due_carried}
use Rattle.again.specs.Carried.{later_fired, ren_result, ren_demand, spine_carried, Beside, pays_carried, asks_carried}
use Rattle.again.specs.Alike.{Grown, rows_grown, EnvLike, env_later}
use Rattle.again.specs.Twins.{Twin, no_rules, both_fire, both_write, both_reduce, rules_twin, head_row_is}
use Rattle.again.specs.Embedding.{embedding, each_is, each_renamed, result_is, head_alike}

module _ (ρ : ℕ → ℕ) (e ẽ : Env) where
  -- the environments are alike: every pointer of one is the other's, renamed
  abbrev pub EnvCarried : Store → Store → Type 0
  EnvCarried s s̃ = EnvLike (embedding ρ) s s̃ e ẽ

  abbrev pub ren_end : End → End
  ren_end missed = missed
  ren_end (firing r xs) = firing (ren_result ρ r) (map (ren ρ) xs)

  grown : {m m̃ m₁ m̃₁ : Tally} → Embeds ρ m.store m̃.store → Later m m₁ → Later m̃ m̃₁ → Embeds ρ m₁.store m̃₁.store →
      Grown (Embeds ρ) m.store m̃.store m₁.store m̃₁.store
  grown b l r i = record { before = b; left = l.rows; right = r.rows; alike = i }

  -- the environments stay alike
  env_on : {m m̃ m₁ m̃₁ : Tally} → Embeds ρ m.store m̃.store → EnvCarried m.store m̃.store → Later m m₁ → Later m̃ m̃₁ →
      Embeds ρ m₁.store m̃₁.store → EnvCarried m₁.store m̃₁.store
  env_on b w l r i = env_later (embedding ρ) (grown b l r i) w

  -- the rules at a head and at its copy
  twins_at : {s s̃ : Store} → Embeds ρ s s̃ → EnvCarried s s̃ → (h : Ptr) (xs : List Ptr) → Twin (embedding ρ) s s̃ (rules e s h xs) (rules ẽ s̃ (ren ρ h) (map (ren ρ) xs))
  twins_at i v h xs = rules_twin (embedding ρ) h (ren ρ h) i v (head_alike ρ i h) (each_renamed ρ xs)

  fires_renamed : {d : ℕ} {m̃ : Tally} (r : Result) (xs : List Ptr) {r̃ : Result} {x̃s : List Ptr} → ren_result ρ r ≡ r̃ → map (ren ρ) xs ≡ x̃s →
      Comes ẽ d m̃ (fires r̃ x̃s) m̃ (firing (ren_result ρ r) (map (ren ρ) xs))
  fires_renamed {d} {m̃} r xs p q = subst (λ (y : Try). Comes ẽ d m̃ y m̃ (firing (ren_result ρ r) (map (ren ρ) xs))) (λ i. fires (p i) (q i)) fires_now

  -- ONE STEP AT A TIME: a and b are the steps that the two courses started with
  module _ (a b : ℕ) where
    record RunsTo (d : ℕ) (m̃ : Tally) (t : Ptr) (m' : Tally) (t' : Ptr) : Type 0 where
      to : Tally
      runs : Runs ẽ d m̃ (ren ρ t) to (ren ρ t')
      beside : Beside ρ a b m' to

    record ComesTo (d : ℕ) (m̃ : Tally) (ỹ : Try) (m' : Tally) (o : End) : Type 0 where
      to : Tally
      comes : Comes ẽ d m̃ ỹ to (ren_end o)
      beside : Beside ρ a b m' to

    -- after a side reduction and its copy
    past_side : {d : ℕ} {m̃ m₁ m' : Tally} {p p̃ q h : Ptr} {ys : List Ptr} {ỹ : Store → Row → List Ptr → Try} {o : End} (j : RunsTo d m̃ p m₁ q) → ren ρ p ≡ p̃ →
        Spine m₁.store q [] h ys → ComesTo (suc d) j.to (ỹ j.to.store (row_at j.to.store (ren ρ h).row) (map (ren ρ) ys)) m' o →
        ComesTo (suc d) m̃ (reduces p̃ ỹ) m' o
    past_side {d} {m̃} {q = q} j z s l = record {
      to = l.to;
      comes = side (subst (λ (x : Ptr). Runs ẽ d m̃ x j.to (ren ρ q)) z j.runs) (spine_carried ρ s j.beside.embeds) l.comes;
      beside = l.beside;
    }

    mutual
      run_on : {d : ℕ} {m m̃ m' : Tally} {t t' : Ptr} → Runs e d m t m' t' → Beside ρ a b m m̃ → EnvCarried m.store m̃.store → RunsTo d m̃ t m' t'
      run_on (final {h = h} {xs = xs} s c) v w =
          let d = come_on c v w (twins_at v.embeds w h xs) in
          record { to = d.to; runs = final (spine_carried ρ s v.embeds) d.comes; beside = d.beside }
      run_on (then {h = h} {xs = xs} s c p r) v w =
          let d = come_on c v w (twins_at v.embeds w h xs) in
          let q = pays_carried ρ p d.beside in
          let u = env_on v.embeds w (later_fired e c p) (later_fired ẽ d.comes q.pays) q.beside.embeds in
          let k = run_on r q.beside u in
          record { to = k.to; runs = then (spine_carried ρ s v.embeds) d.comes q.pays k.runs; beside = k.beside }

      come_on : {d : ℕ} {m m̃ m' : Tally} {y ỹ : Try} {o : End} → Comes e d m y m' o → Beside ρ a b m m̃ → EnvCarried m.store m̃.store →
          Twin (embedding ρ) m.store m̃.store y ỹ → ComesTo d m̃ ỹ m' o
      come_on {m̃ = m̃} misses v w no_rules = record { to = m̃; comes = misses; beside = v }
      come_on {m̃ = m̃} (fires_now {r = r} {xs = xs}) v w (both_fire z q) = record { to = m̃; comes = fires_renamed r xs (result_is ρ z) (each_is ρ q); beside = v }
      come_on (wrote x c) v w (both_write z k) =
          let g = rows_grown (embedding ρ) v.embeds z in
          let d = come_on c (record { embeds = g.alike; steps = v.steps }) (env_later (embedding ρ) g w) k in
          record { to = d.to; comes = wrote (written_carried ρ v.embeds g.alike g.right x) d.comes; beside = d.beside }
      come_on (side {h = h} {ys = ys} r s c) v w (both_reduce z k) =
          let j = run_on r v w in
          let i = j.beside.embeds in
          let g = grown v.embeds (later_runs e r) (later_runs ẽ j.runs) i in
          past_side j z s
          (come_on c j.beside (env_later (embedding ρ) g w) (k _ _ g _ _ _ _ (head_row_is (embedding ρ) (head_alike ρ i h)) (each_renamed ρ ys)))

    record RunMeetsTo (d : ℕ) (m̃ : Tally) (t : Ptr) (c : Demand) (m₁ : Tally) : Type 0 where
      to : Tally
      meets : RunMeets ẽ d m̃ (ren ρ t) (ren_demand ρ c) to
      beside : Beside ρ a b m₁ to

    record TryMeetsTo (d : ℕ) (m̃ : Tally) (ỹ : Try) (c : Demand) (m₁ : Tally) : Type 0 where
      to : Tally
      meets : TryMeets ẽ d m̃ ỹ (ren_demand ρ c) to
      beside : Beside ρ a b m₁ to

    meets_past_side : {d : ℕ} {m̃ m₁ m₂ : Tally} {p p̃ q h : Ptr} {ys : List Ptr} {ỹ : Store → Row → List Ptr → Try} {c : Demand} (j : RunsTo d m̃ p m₁ q) → ren ρ p ≡ p̃ →
        Spine m₁.store q [] h ys → TryMeetsTo (suc d) j.to (ỹ j.to.store (row_at j.to.store (ren ρ h).row) (map (ren ρ) ys)) c m₂ →
        TryMeetsTo (suc d) m̃ (reduces p̃ ỹ) c m₂
    meets_past_side {d} {m̃} {q = q} j z s l = record {
      to = l.to;
      meets = after_side (subst (λ (x : Ptr). Runs ẽ d m̃ x j.to (ren ρ q)) z j.runs) (spine_carried ρ s j.beside.embeds) l.meets;
      beside = l.beside;
    }

    mutual
      meet_on : {d : ℕ} {m m̃ m₁ : Tally} {t : Ptr} {c : Demand} → RunMeets e d m t c m₁ → Beside ρ a b m m̃ → EnvCarried m.store m̃.store → RunMeetsTo d m̃ t c m₁
      meet_on (trying {h = h} {xs = xs} s y) v w =
          let d = try_on y v w (twins_at v.embeds w h xs) in
          record { to = d.to; meets = trying (spine_carried ρ s v.embeds) d.meets; beside = d.beside }
      meet_on (paying {h = h} {xs = xs} s c q) v w =
          let d = come_on c v w (twins_at v.embeds w h xs) in
          let k = asks_carried ρ q d.beside in
          record { to = k.to; meets = paying (spine_carried ρ s v.embeds) d.comes k.asks; beside = k.beside }
      meet_on (later {h = h} {xs = xs} s c p x) v w =
          let d = come_on c v w (twins_at v.embeds w h xs) in
          let q = pays_carried ρ p d.beside in
          let u = env_on v.embeds w (later_fired e c p) (later_fired ẽ d.comes q.pays) q.beside.embeds in
          let k = meet_on x q.beside u in
          record { to = k.to; meets = later (spine_carried ρ s v.embeds) d.comes q.pays k.meets; beside = k.beside }

      try_on : {d : ℕ} {m m̃ m₁ : Tally} {y ỹ : Try} {c : Demand} → TryMeets e d m y c m₁ → Beside ρ a b m m̃ → EnvCarried m.store m̃.store →
          Twin (embedding ρ) m.store m̃.store y ỹ → TryMeetsTo d m̃ ỹ c m₁
      try_on {m̃ = m̃} (writing x q) v w (both_write z k) =
          let g = rows_grown (embedding ρ) v.embeds z in
          let y = row_due_carried ρ v.embeds g.alike g.right x in
          let to : Tally = tally m̃.steps y.then in
          record { to = to; meets = writing y.due refl; beside = subst (λ (u : Tally). Beside ρ a b u to) q (record { embeds = y.embeds; steps = v.steps }) }
      try_on (after_writing x c) v w (both_write z k) =
          let g = rows_grown (embedding ρ) v.embeds z in
          let d = try_on c (record { embeds = g.alike; steps = v.steps }) (env_later (embedding ρ) g w) k in
          record { to = d.to; meets = after_writing (written_carried ρ v.embeds g.alike g.right x) d.meets; beside = d.beside }
      try_on {m̃ = m̃} too_deep v w (both_reduce z k) = record { to = m̃; meets = too_deep; beside = v }
      try_on {m̃ = m̃} {c = c} (within {d = d} x) v w (both_reduce z k) =
          let j = meet_on x v w in
          record { to = j.to; meets = within (subst (λ (p : Ptr). RunMeets ẽ d m̃ p (ren_demand ρ c) j.to) z j.meets); beside = j.beside }
      try_on (after_side {h = h} {ys = ys} r s c) v w (both_reduce z k) =
          let j = run_on r v w in
          let i = j.beside.embeds in
          let g = grown v.embeds (later_runs e r) (later_runs ẽ j.runs) i in
          meets_past_side j z s
          (try_on c j.beside (env_later (embedding ρ) g w) (k _ _ g _ _ _ _ (head_row_is (embedding ρ) (head_alike ρ i h)) (each_renamed ρ ys)))

  -- THE SIMULATION

  -- as many steps and rows, as deep, the same term renamed
  pub record RunCarried (d : ℕ) (m m̃ : Tally) (t : Ptr) (m' : Tally) (t' : Ptr) : Type 0 where
    pub to : Tally
    pub runs : Runs ẽ d m̃ (ren ρ t) to (ren ρ t')
    pub embeds : Embeds ρ m'.store to.store
    pub steps : to.steps + m.steps ≡ m̃.steps + m'.steps
    pub rows : length to.store + length m.store ≡ length m̃.store + length m'.store

  start : {m m̃ : Tally} → Embeds ρ m.store m̃.store → Beside ρ m.steps m̃.steps m m̃
  start {m} {m̃} i = record { embeds = i; steps = let q : m̃.steps + m.steps ≡ m.steps + m̃.steps = omega arith in q }

  pub runs_carried : {d : ℕ} {m m̃ m' : Tally} {t t' : Ptr} →
      Embeds ρ m.store m̃.store → EnvCarried m.store m̃.store → Runs e d m t m' t' → RunCarried d m m̃ t m' t'
  runs_carried {m = m} {m̃ = m̃} i v r =
      let k = run_on m.steps m̃.steps r (start i) v in
      record {
        to = k.to;
        runs = k.runs;
        embeds = k.beside.embeds;
        steps = let q = k.beside.steps in omega arith;
        rows = as_many ρ i k.beside.embeds (ext_length (later_runs e r).rows);
      }

  -- the same of one try at the head
  pub record TryCarried (d : ℕ) (m m̃ : Tally) (h : Ptr) (xs : List Ptr) (m' : Tally) (o : End) : Type 0 where
    pub to : Tally
    pub comes : Comes ẽ d m̃ (rules ẽ m̃.store (ren ρ h) (map (ren ρ) xs)) to (ren_end o)
    pub embeds : Embeds ρ m'.store to.store
    pub steps : to.steps + m.steps ≡ m̃.steps + m'.steps
    pub rows : length to.store + length m.store ≡ length m̃.store + length m'.store

  pub try_carried : {d : ℕ} {m m̃ m' : Tally} (h : Ptr) (xs : List Ptr) {o : End} →
      Embeds ρ m.store m̃.store → EnvCarried m.store m̃.store → Comes e d m (rules e m.store h xs) m' o → TryCarried d m m̃ h xs m' o
  try_carried {m = m} {m̃ = m̃} h xs i v c =
      let k = come_on m.steps m̃.steps c (start i) v (twins_at i v h xs) in
      record {
        to = k.to;
        comes = k.comes;
        embeds = k.beside.embeds;
        steps = let q = k.beside.steps in omega arith;
        rows = as_many ρ i k.beside.embeds (ext_length (later_comes e c).rows);
      }

  -- the same demand, at corresponding tallies
  pub record MeetsCarried (d : ℕ) (m m̃ : Tally) (t : Ptr) (c : Demand) (m₁ : Tally) : Type 0 where
    pub to : Tally
    pub meets : RunMeets ẽ d m̃ (ren ρ t) (ren_demand ρ c) to
    pub embeds : Embeds ρ m₁.store to.store
    pub steps : to.steps + m.steps ≡ m̃.steps + m₁.steps
    pub rows : length to.store + length m.store ≡ length m̃.store + length m₁.store

  pub meets_carried : {d : ℕ} {m m̃ m₁ : Tally} {t : Ptr} {c : Demand} →
      Embeds ρ m.store m̃.store → EnvCarried m.store m̃.store → RunMeets e d m t c m₁ → MeetsCarried d m m̃ t c m₁
  meets_carried {m = m} {m̃ = m̃} i v x =
      let k = meet_on m.steps m̃.steps x (start i) v in
      record {
        to = k.to;
        meets = k.meets;
        embeds = k.beside.embeds;
        steps = let q = k.beside.steps in omega arith;
        rows = as_many ρ i k.beside.embeds (ext_length (later_run_meets e x).rows);
      }

  -- THE SAME REFUSAL: with as many steps and rows left on both sides

  pub record SameRoom (lim l̃im : Limits) (m m̃ : Tally) : Type 0 where
    pub steps : l̃im.steps + m.steps ≡ m̃.steps + lim.steps
    pub rows : l̃im.rows + length m.store ≡ length m̃.store + lim.rows

  fails_renamed : {lim l̃im : Limits} {m m̃ : Tally} {c : Demand} {k : ℕ} → SameRoom lim l̃im m m̃ → Fails lim m c k → Fails l̃im m̃ (ren_demand ρ c) k
  fails_renamed z (no_step h) = no_step (let q = z.steps in omega arith)
  fails_renamed z (no_free_row f h) = no_free_row (fits_renamed ρ f) (let q = z.rows in omega arith)
  fails_renamed z no_level = no_level
  fails_renamed z (too_large h) = too_large h
  fails_renamed z (no_size f) = no_size λ g. f (fits_back ρ g)

  pub within_renamed : {lim l̃im : Limits} {m m̃ : Tally} → SameRoom lim l̃im m m̃ → Within lim m → Within l̃im m̃
  within_renamed z w =
      let p = z.steps in
      let q = z.rows in
      record { steps = let h = w.steps in omega arith; rows = let h = w.rows in omega arith }

  pub record RefusalCarried (l̃im : Limits) (d : ℕ) (m̃ : Tally) (t : Ptr) (k : ℕ) : Type 0 where
    pub demand : Demand
    pub at : Tally
    pub meets : RunMeets ẽ d m̃ (ren ρ t) demand at
    pub within : Within l̃im at
    pub fails : Fails l̃im at demand k

  pub refusal_carried : {lim l̃im : Limits} {d k : ℕ} {m m̃ m₁ : Tally} {t : Ptr} {c : Demand} →
      Embeds ρ m.store m̃.store → EnvCarried m.store m̃.store → SameRoom lim l̃im m m̃ →
      RunMeets e d m t c m₁ → Within lim m₁ → Fails lim m₁ c k → RefusalCarried l̃im d m̃ t k
  refusal_carried {lim} {l̃im} {m = m} {m̃ = m̃} {m₁ = m₁} {c = c} i v z x w f =
      let j = meets_carried {m̃ = m̃} i v x in
      let room : SameRoom lim l̃im m₁ j.to = record {
        steps = let p = z.steps in let q = j.steps in omega arith;
        rows = let p = z.rows in let q = j.rows in omega arith;
      } in
      record { demand = ren_demand ρ c; at = j.to; meets = j.meets; within = within_renamed room w; fails = fails_renamed room f }
