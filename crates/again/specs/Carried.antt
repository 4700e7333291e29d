-- An embedding carries replacement, spines, what a firing has due and what it pays: on the other side the same is done with everything renamed,
-- as many rows are written, and the embedding goes on between the grown stores. Assumes nothing of the stores.
use Rattle.std.specs.Prelude.{ℕ, suc, ◌+◌, ◌-◌, ◌≡◌}
use Rattle.std.proofs.Common.{arith, ◌∙◌, subst}
use Rattle.std.proofs.Math.Path.{refl, sym, ap}
use mathlib.Core.List.{List, [], ◌∷◌, map}
use Rattle.std.proofs.Math.Option.{Option, none, some}
use Rattle.rules.specs.Kinds.{Kind, app, const, num, Tag, table, fields}
use Rattle.rules.specs.Rows.{Ptr, ptr, blank, Row, var, node, leaf, Store, up, Got, got, put}
use Rattle.rules.specs.Declarations.{Env}
use Rattle.rules.specs.Replacement.{count, Replaces, same, moved, inside, OnRow, stays, value, moves, children, OnField, word, child, under}
use Rattle.rules.specs.Spines.{NoApp, no_var, no_sort, no_const, no_lam, no_pi, no_let, no_proj, no_num, Spine, head, through, joined}
use Rattle.rules.specs.Firings.{Tally, tally, Result, opened, itself, a_number, a_constant, Gives, by_replacement, no_row, number_row, constant_row}
use Rattle.rules.specs.Firings.{Due, NumberFits, opened_fits, itself_fits, number_fits, constant_fits, Pays}
use Rattle.rules.specs.Refusals.{Demand, step, fitting, row, level, Asks, its_step, its_number, its_row}
use Rattle.course.specs.Tries.{Try, End, Comes}
use Rattle.promises.specs.Stores.{ext_due, Later, later_trans, later_comes, later_pays}
use Rattle.again.specs.Embeds.{ren, ren_field, ren_row, ren_cell, Embeds, row_at_lem, bound_at, up_at, put_embeds, end_renamed, written_carried, row_due_carried}

-- from a try to the tally after its firing
pub later_fired : (e : Env) {d : ℕ} {m m₁ m₂ : Tally} {y : Try} {o : End} {r : Result} {xs : List Ptr} {t : Ptr} → Comes e d m y m₁ o → Pays m₁ r xs m₂ t → Later m m₂
later_fired e c p = later_trans (later_comes e c) (later_pays p)

module _ (ρ : ℕ → ℕ) where
  -- what is got on one side is got by R on the other, its pointer renamed by f
  pub record Carried (f : Ptr → Ptr) (g : Got) (R : Got → Type 0) : Type 0 where
    pub result : Got
    pub holds : R result
    pub at : f g.at ≡ result.at
    pub embeds : Embeds ρ g.store result.store

  on_got : {f : Ptr → Ptr} {g g' : Got} {R : Got → Type 0} → g ≡ g' → Carried f g R → Carried f g' R
  on_got {f} {R = R} e c = subst (λ (g : Got). Carried f g R) e c

  put_carried : {s s̃ : Store} → Embeds ρ s s̃ → (w : Row) → Carried (ren ρ) (put s w) (λ g. put s̃ (ren_row ρ w) ≡ g)
  put_carried {s} {s̃} m w = record {
    result = put s̃ (ren_row ρ w);
    holds = refl;
    at = ap (λ (n : ℕ). ptr n 0) (end_renamed ρ m);
    embeds = put_embeds ρ m w;
  }

  -- REPLACEMENT

  abbrev pub ren_value : Option Ptr → Option Ptr
  ren_value none = none
  ren_value (some v) = some (ren ρ v)

  same_count : (v : Option Ptr) → count (ren_value v) ≡ count v
  same_count none = refl
  same_count (some v) = refl

  -- the fields' results are the new row's fields
  row_renamed : {κ : Kind} (x y z : Ptr) {x̃ ỹ z̃ : Ptr} → ren_field ρ (fields κ).first x ≡ x̃ → ren_field ρ (fields κ).second y ≡ ỹ →
      ren_field ρ (fields κ).third z ≡ z̃ →
      ren_row ρ (node κ x y z) ≡ node κ x̃ ỹ z̃
  unfolding ren_row
  row_renamed {κ} x y z p q r = λ i. node κ (p i) (q i) (r i)

  mutual
    unfolding ren_row

    pub replaces_carried : {v : Option Ptr} {k c : ℕ} {s s̃ : Store} {p : Ptr} {g : Got} →
        Replaces v k c s p g → Embeds ρ s s̃ → Carried (ren ρ) g (Replaces (ren_value v) k c s̃ (ren ρ p))
    replaces_carried {s̃ = s̃} {p = p} (same h e) m =
        on_got e (record { result = got s̃ (ren ρ p); holds = same (let q = bound_at ρ m p in omega arith) refl; at = refl; embeds = m })
    replaces_carried {v} {k} {s̃ = s̃} {p = p} (moved h l e) m =
        on_got e (record {
          result = got s̃ (ptr (ρ p.row) (p.shift - count v + k));
          holds = moved (let q = bound_at ρ m p in omega arith) (let q = same_count v in omega arith)
              (ap (λ (n : ℕ). got s̃ (ptr (ρ p.row) (p.shift - n + k))) (same_count v));
          at = refl;
          embeds = m;
        })
    replaces_carried {v} {k} {c} {s̃ = s̃} {p = p} (inside h l r e) m =
        let d = on_row_carried r m in
        on_got e (record {
          result = got d.result.store (up d.result.store d.result.at p.shift);
          holds = inside (let q = bound_at ρ m p in omega arith) (let q = same_count v in omega arith)
              (subst (λ (w : Row). OnRow (ren_value v) k (c - p.shift) s̃ (ρ p.row) w d.result) (sym (row_at_lem ρ m p.row)) d.holds) refl;
          at = sym (up_at ρ d.embeds _ p.shift) ∙ ap (λ (x : Ptr). up d.result.store x p.shift) d.at;
          embeds = d.embeds;
        })

    on_row_carried : {v : Option Ptr} {k c : ℕ} {s s̃ : Store} {r : ℕ} {w : Row} {g : Got} →
        OnRow v k c s r w g → Embeds ρ s s̃ → Carried (ren ρ) g (OnRow (ren_value v) k c s̃ (ρ r) (ren_row ρ w))
    on_row_carried {s̃ = s̃} {r = r} (stays h e) m = on_got e (record { result = got s̃ (ptr (ρ r) 0); holds = stays h refl; at = refl; embeds = m })
    on_row_carried {c = c} {s̃ = s̃} (value {x = x} h q e) m =
        on_got e (record { result = got s̃ (up s̃ (ren ρ x) c); holds = value h (ap ren_value q) refl; at = sym (up_at ρ m x c); embeds = m })
    on_row_carried {v} {k} {s̃ = s̃} (moves {i = i} h e) m =
        let d = put_carried m (var (i - count v + k)) in
        on_got e (record {
          result = d.result;
          holds = moves (let q = same_count v in omega arith) (ap (λ (n : ℕ). put s̃ (var (i - n + k))) (same_count v) ∙ d.holds);
          at = d.at;
          embeds = d.embeds;
        })
    on_row_carried (children {κ = κ} {g₁ = g₁} {g₂ = g₂} {g₃ = g₃} a b c e) m =
        let d₁ = on_field_carried a m in
        let d₂ = on_field_carried b d₁.embeds in
        let d₃ = on_field_carried c d₂.embeds in
        let d = put_carried d₃.embeds (node κ g₁.at g₂.at g₃.at) in
        on_got e (record {
          result = d.result;
          holds = children d₁.holds d₂.holds d₃.holds (ap (put d₃.result.store) (sym (row_renamed _ _ _ d₁.at d₂.at d₃.at)) ∙ d.holds);
          at = d.at;
          embeds = d.embeds;
        })

    on_field_carried : {v : Option Ptr} {k : ℕ} {τ : Tag} {c : ℕ} {s s̃ : Store} {p : Ptr} {g : Got} →
        OnField v k τ c s p g → Embeds ρ s s̃ → Carried (ren_field ρ τ) g (OnField (ren_value v) k τ c s̃ (ren_field ρ τ p))
    on_field_carried {s̃ = s̃} {p = p} (word e) m = on_got e (record { result = got s̃ p; holds = word refl; at = refl; embeds = m })
    on_field_carried (child r) m =
        let d = replaces_carried r m in record { result = d.result; holds = child d.holds; at = d.at; embeds = d.embeds }
    on_field_carried (under r) m =
        let d = replaces_carried r m in record { result = d.result; holds = under d.holds; at = d.at; embeds = d.embeds }

  -- SPINES

  no_app_renamed : {w : Row} → NoApp w → NoApp (ren_row ρ w)
  unfolding ren_row
  no_app_renamed no_var = no_var
  no_app_renamed no_sort = no_sort
  no_app_renamed no_const = no_const
  no_app_renamed no_lam = no_lam
  no_app_renamed no_pi = no_pi
  no_app_renamed no_let = no_let
  no_app_renamed no_proj = no_proj
  no_app_renamed no_num = no_num

  pub app_renamed : (f a z : Ptr) → ren_row ρ (node app f a z) ≡ node app (ren ρ f) (ren ρ a) z
  unfolding ren_row fields table
  app_renamed f a z = refl

  pub spine_carried : {s s̃ : Store} {p h : Ptr} {xs ys : List Ptr} →
      Spine s p xs h ys → Embeds ρ s s̃ → Spine s̃ (ren ρ p) (map (ren ρ) xs) (ren ρ h) (map (ren ρ) ys)
  spine_carried {p = p} (head n) m = head (subst NoApp (sym (row_at_lem ρ m p.row)) (no_app_renamed n))
  spine_carried {s̃ = s̃} {p = p} (through {h = h} {f = f} {a = a} {z = z} {xs = xs} {ys = ys} e c) m =
      through (row_at_lem ρ m p.row ∙ ap (ren_row ρ) e ∙ app_renamed f a z)
      (rw (← (up_at ρ m f p.shift), ← (up_at ρ m a p.shift)) at (spine_carried c m))

  -- A FIRING

  abbrev pub ren_result : Result → Result
  ren_result (opened b v k) = opened (ren ρ b) (ren ρ v) k
  ren_result (itself p) = itself (ren ρ p)
  ren_result (a_number n) = a_number n
  ren_result (a_constant d) = a_constant d

  joined_carried : {s s̃ : Store} → Embeds ρ s s̃ → (p : Ptr) (xs : List Ptr) →
      Carried (ren ρ) (joined s p xs) (λ g. joined s̃ (ren ρ p) (map (ren ρ) xs) ≡ g)
  unfolding joined
  joined_carried {s̃ = s̃} m p [] = record { result = got s̃ (ren ρ p); holds = refl; at = refl; embeds = m }
  joined_carried {s} {s̃} m p (a ∷ xs) =
      let d = put_carried m (node app p a blank) in
      let g : Got = put s̃ (node app (ren ρ p) (ren ρ a) blank) in
      let q : d.result ≡ g = sym d.holds ∙ ap (put s̃) (app_renamed p a blank) in
      let j = joined_carried {s = (put s (node app p a blank)).store} d.embeds (put s (node app p a blank)).at xs in
      record {
        result = j.result;
        holds = (λ i. joined (sym q i).store ((ap (λ (x : Got). x.at) (sym q) ∙ sym d.at) i) (map (ren ρ) xs)) ∙ j.holds;
        at = j.at;
        embeds = j.embeds;
      }

  pub num_renamed : (n : ℕ) → ren_row ρ (leaf (num n)) ≡ leaf (num n)
  unfolding ren_row fields table
  num_renamed n = refl

  pub const_renamed : (d n : ℕ) → ren_row ρ (leaf (const d n)) ≡ leaf (const d n)
  unfolding ren_row fields table
  const_renamed d n = refl

  leaf_carried : {s s̃ : Store} {w : Row} → Embeds ρ s s̃ → ren_row ρ w ≡ w → Carried (ren ρ) (put s w) (λ g. put s̃ w ≡ g)
  leaf_carried {s̃ = s̃} {w = w} m e =
      let d = put_carried m w in record { result = d.result; holds = ap (put s̃) (sym e) ∙ d.holds; at = d.at; embeds = d.embeds }

  gives_carried : {s s̃ : Store} {r : Result} {g : Got} → Gives s r g → Embeds ρ s s̃ → Carried (ren ρ) g (Gives s̃ (ren_result r))
  gives_carried (by_replacement q) m =
      let d = replaces_carried q m in record { result = d.result; holds = by_replacement d.holds; at = d.at; embeds = d.embeds }
  gives_carried {s̃ = s̃} (no_row {p = p} e) m = on_got e (record { result = got s̃ (ren ρ p); holds = no_row refl; at = refl; embeds = m })
  gives_carried (number_row {n = n} e) m =
      let d = leaf_carried m (num_renamed n) in
      on_got e (record { result = d.result; holds = number_row d.holds; at = d.at; embeds = d.embeds })
  gives_carried (constant_row {d = c} e) m =
      let d = leaf_carried m (const_renamed c 0) in
      on_got e (record { result = d.result; holds = constant_row d.holds; at = d.at; embeds = d.embeds })

  pub due_carried : {s s̃ : Store} {r : Result} {xs : List Ptr} {g : Got} → Due s r xs g → Embeds ρ s s̃ → Carried (ren ρ) g (Due s̃ (ren_result r) (map (ren ρ) xs))
  due_carried {xs = xs} q m =
      let d = gives_carried q.gives m in
      let j = joined_carried d.embeds q.result.at xs in
      on_got q.applied (record {
        result = j.result;
        holds = record {
          result = d.result;
          gives = d.holds;
          applied = ap (λ (p : Ptr). joined d.result.store p (map (ren ρ) xs)) (sym d.at) ∙ j.holds;
        };
        at = j.at;
        embeds = j.embeds;
      })

  number_renamed : {r : Result} → NumberFits r → NumberFits (ren_result r)
  number_renamed opened_fits = opened_fits
  number_renamed itself_fits = itself_fits
  number_renamed (number_fits h) = number_fits h
  number_renamed constant_fits = constant_fits

  -- TALLIES SIDE BY SIDE

  -- the stores are embedded, and the steps are as far apart as where one course started with a steps and the other with b
  pub record Beside (a b : ℕ) (m m̃ : Tally) : Type 0 where
    pub embeds : Embeds ρ m.store m̃.store
    pub steps : m̃.steps + a ≡ m.steps + b

  pub record PaysTo (a b : ℕ) (m̃ : Tally) (r : Result) (xs : List Ptr) (m' : Tally) (t' : Ptr) : Type 0 where
    pub to : Tally
    pub pays : Pays m̃ (ren_result r) (map (ren ρ) xs) to (ren ρ t')
    pub beside : Beside a b m' to

  pub pays_carried : {a b : ℕ} {m m̃ m' : Tally} {r : Result} {xs : List Ptr} {t' : Ptr} → Pays m r xs m' t' → Beside a b m m̃ → PaysTo a b m̃ r xs m' t'
  pays_carried {a} {b} {m} {m̃} q v =
      let d = due_carried q.is_due v.embeds in
      let to : Tally = tally (suc m̃.steps) d.result.store in
      record {
        to = to;
        pays = record {
          due = d.result;
          is_due = d.holds;
          number_fits = number_renamed q.number_fits;
          written = written_carried ρ v.embeds d.embeds (ext_due d.holds) q.written;
          then_tally = refl;
          then_term = sym d.at ∙ ap (ren ρ) q.then_term;
        };
        beside = subst (λ (x : Tally). Beside a b x to) q.then_tally (record { embeds = d.embeds; steps = let z = v.steps in omega arith });
      }

  -- DEMANDS

  abbrev pub ren_demand : Demand → Demand
  ren_demand step = step
  ren_demand (fitting n) = fitting n
  ren_demand (row x) = row (ren_cell ρ x)
  ren_demand level = level

  pub record AsksTo (a b : ℕ) (m̃ : Tally) (r : Result) (xs : List Ptr) (c : Demand) (m₁ : Tally) : Type 0 where
    pub to : Tally
    pub asks : Asks m̃ (ren_result r) (map (ren ρ) xs) (ren_demand c) to
    pub beside : Beside a b m₁ to

  pub asks_carried : {a b : ℕ} {m m̃ m₁ : Tally} {r : Result} {xs : List Ptr} {c : Demand} → Asks m r xs c m₁ → Beside a b m m̃ → AsksTo a b m̃ r xs c m₁
  asks_carried {m̃ = m̃} its_step v = record { to = m̃; asks = its_step; beside = v }
  asks_carried {a} {b} {m̃ = m̃} (its_number e) v =
      let to : Tally = tally (suc m̃.steps) m̃.store in
      record {
        to = to;
        asks = its_number refl;
        beside = subst (λ (x : Tally). Beside a b x to) e (record { embeds = v.embeds; steps = let z = v.steps in omega arith });
      }
  asks_carried {a} {b} {m̃ = m̃} (its_row f q x e) v =
      let d = due_carried q v.embeds in
      let y = row_due_carried ρ v.embeds d.embeds (ext_due d.holds) x in
      let to : Tally = tally (suc m̃.steps) y.then in
      record {
        to = to;
        asks = its_row (number_renamed f) d.holds y.due refl;
        beside = subst (λ (x : Tally). Beside a b x to) e (record { embeds = y.embeds; steps = let z = v.steps in omega arith });
      }
