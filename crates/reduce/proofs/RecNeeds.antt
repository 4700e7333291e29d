-- The recursor over plain values: the places on its way (the declaration read, the major read, the major reduced, the constructor there), what
-- each call from there is given, and each way out.
-- Assumes what the member is given.
use Prim.Native.Nat.{ℕ, ◌+◌, ◌*◌, ◌/◌, ◌≤◌, ◌<◌}
use native.Mathlib.Omega.{arith}
use mathlib.Core.Path.{◌≡◌, refl, sym, ap, ◌∙◌, subst}
use mathlib.Core.List.{List}
use mathlib.Core.Option.{Option, none, some}
use lib.ListN.{length}
use Rattle.rules.specs.Rows.{Store}
use Rattle.rules.specs.RowCheck.{InScope}
use Rattle.rules.specs.Accepted.{part}
use Rattle.rules.specs.Declarations as declarations
use Rattle.rules.specs.Declarations.{Recursor, Env, decl_at}
use Rattle.rules.specs.HeadTests.{Ruled, rec_parts_of, rec_parts, recursor_of, by_rule}
use Rattle.substitution.specs.Stores.{Ext, scope_good}
use Rattle.substitution.specs.Passing.{pass_formed}
use Rattle.promises.specs.Stores.{ext_grow}
use Rattle.ways.specs.Spines.{args_of, args_later}
use Rattle.rows.specs.declared.Ptr.{Ptr}
use Rattle.rows.specs.Words.{ptr_of, store_of, whole}
use Rattle.spine.specs.Walks as spine
use Rattle.tables.specs.declared.Decl.{Decl}
use Rattle.tables.specs.Records.{records_from}
use Rattle.tables.specs.Env.{rule_of, env_of}
use Rattle.tables.specs.Read.{decl_read}
use Rattle.tables.specs.ReadLaws.{levels_is, recursor_is, no_recursor}
use Rattle.state.specs.declared.Given.{Given}
use Rattle.state.specs.declared.Meter.{Meter}
use Rattle.state.specs.State.{Answer}
use Rattle.state.specs.State.{Reduced}
use Rattle.state.specs.State.{tally_of, limits_in, Left}
use Rattle.majors.specs.declared.Made.{Made}
use Rattle.majors.specs.Majors.{Major, major_of, Construction, meter_made, MadeAs, Constructed, MayRule, ruled_by, ruled_step}
use Rattle.majors.proofs.ForCallers.{ruled_is}
use Rattle.cycle.specs.Cycle.{Asked, Counted, Passed, Ran, res_by}
use Rattle.cycle.specs.Members.{recursed}
use Rattle.cycle.proofs.Standing.{headed_of, ran_passed, left_on, passed_on}
use Rattle.cycle.proofs.WaysOut.{left_as, q_asked, t_counted, same_arguments}
use Rattle.cycle.proofs.Tests.{other_levels, not_a_recursor, no_major, the_major}
use Rattle.cycle.proofs.Recursing.{holders_known, rec_misses, rec_stops, no_constructor, rows_stop, rule_missing, rule_fires, made_counted, rule_values}
use Rattle.reduce.proofs.Sides.{ran_as, taken_is, taken_scope, taken_asked}
use Rattle.std.specs.Prelude.{Err, None, Ok, Some}
use Rattle.tables.specs.declared.codes.DeclKind.TheVariants as kind
use Rattle.state.specs.declared.Tried.TheVariants.{Final}
use Rattle.rows.specs.declared.refusals.Refusal.{Refusal}

-- WHAT A RECURSOR'S WORDS SAY, as the code adds them up

abbrev pub before_of : Decl → ℕ
before_of x = x.parameters + x.second + x.minors

abbrev pub position_of : Decl → ℕ
position_of x = before_of x + x.indices

-- the rules' recursor
abbrev recursor_in : List ℕ → Decl → Recursor
recursor_in rs x = record {
  parameters = x.parameters;
  motives = x.second;
  minors = x.minors;
  indices = x.indices;
  rules = records_from 4 rs rule_of x.first_rule x.rules;
}

-- THE DECLARATION WAS READ

pub record Opened (l ds rs cs sc : List ℕ) (g : Given) (m : Meter) (t : Ptr) (count d : ℕ) (x : Decl) : Type 0 where
  pub counted : Counted l ds rs cs sc g m t count
  pub there : d < length ds / 16
  pub read : x ≡ decl_read (part 16 ds d)

module _ {l ds rs cs sc : List ℕ} {g : Given} {m : Meter} {t : Ptr} {count d : ℕ} {x : Decl} (o : Opened l ds rs cs sc g m t count d x) where
  abbrev said : declarations.Decl
  said = decl_at (env_of ds rs cs g.depth).decls d

  same_levels : said.levels ≡ x.levels
  same_levels = levels_is ds rs cs g.depth d o.there ∙ ap (λ (y : Decl). y.levels) (sym o.read)

  same_recursor : x.kind ≡ Some kind.Recursor → recursor_of said.form ≡ some (recursor_in rs x)
  same_recursor k =
      recursor_is ds rs cs g.depth d o.there (ap (λ (y : Decl). y.kind) (sym o.read) ∙ k)
      ∙ ap (λ (y : Decl). some (recursor_in rs y)) (sym o.read)

  rules_read : x.kind ≡ Some kind.Recursor → 4 * (x.first_rule + x.rules) ≤ length rs
  rules_read k =
      let same = sym o.read in
      subst (λ (y : Decl). 4 * (y.first_rule + y.rules) ≤ length rs) same
      (o.counted.asked.stand.tabled.rules d o.there (ap (λ (y : Decl). y.kind) same ∙ k))

  module _ (n levels : ℕ) where
    pub levels_differ : (x.levels ≡ levels → ⊥) → Left l sc m (Ok (Final m)) sc (recursed l ds rs cs sc g m t n d levels)
    levels_differ h = rec_misses o.counted n d levels (other_levels said levels _ λ q. h (sym same_levels ∙ q))

    pub no_recursors : (x.kind ≡ Some kind.Recursor → ⊥) → Left l sc m (Ok (Final m)) sc (recursed l ds rs cs sc g m t n d levels)
    no_recursors h =
        rec_misses o.counted n d levels
        (not_a_recursor said levels _ (no_recursor ds rs cs g.depth d o.there λ q. h (ap (λ (y : Decl). y.kind) o.read ∙ q)))

    pub too_few : x.levels ≡ levels → x.kind ≡ Some kind.Recursor → count ≤ position_of x → Left l sc m (Ok (Final m)) sc (recursed l ds rs cs sc g m t n d levels)
    too_few q k h =
        rec_misses o.counted n d levels
        (no_major said levels _ (same_levels ∙ q) (same_recursor k) (omega (arith, o.counted.counted)))

-- THE MAJOR p WAS READ, of a recursor whose count of levels is right

pub record Majored (l ds rs cs sc : List ℕ) (g : Given) (m : Meter) (t : Ptr) (count d levels : ℕ) (x : Decl) (p : Ptr) : Type 0 where
  pub opened : Opened l ds rs cs sc g m t count d x
  pub levelled : x.levels ≡ levels
  pub kind : x.kind ≡ Some kind.Recursor
  pub inside : position_of x < count
  pub major : spine.Argument (whole l sc) (ptr_of t) count (position_of x) p

module _ {l ds rs cs sc : List ℕ} {g : Given} {m : Meter} {t : Ptr} {count d levels : ℕ} {x : Decl} {p : Ptr}
    (o : Majored l ds rs cs sc g m t count d levels x p) where
  abbrev c : Counted l ds rs cs sc g m t count
  c = o.opened.counted

  the_parts : rec_parts (said o.opened) levels (args_of (store_of l sc m.mark) (ptr_of t)) ≡ some (rec_parts_of (recursor_in rs x) (ptr_of p))
  the_parts =
      the_major (said o.opened) levels _ (same_levels o.opened ∙ o.levelled) (same_recursor o.opened o.kind) (taken_is c o.major)

  in_scope : InScope (store_of l sc m.mark) g.depth (ptr_of p)
  in_scope = taken_scope c o.major

  pub major_asked : Asked l ds rs cs sc g m p
  major_asked = taken_asked c o.major

  pub major_stops : (n : ℕ) {r : Reduced} {sc₁ : List ℕ} {k : Refusal} →
      Ran l sc m r sc₁ (res_by l ds rs cs sc g m n (ptr_of p)) → r ≡ Err k → Left l sc m (Err k) sc₁ (recursed l ds rs cs sc g m t n d levels)
  major_stops n k q = rec_stops c n d levels the_parts in_scope (ran_as q k)

-- THE MAJOR CAME TO q

pub record Reached (l ds rs cs sc : List ℕ) (g : Given) (m : Meter) (t : Ptr) (count d levels : ℕ) (x : Decl) (p : Ptr) (n : ℕ)
    (q : Ptr) (m₁ : Meter) (sc₁ : List ℕ) : Type 0 where
  pub majored : Majored l ds rs cs sc g m t count d levels x p
  pub ran : Ran l sc m (Ok (q, m₁)) sc₁ (res_by l ds rs cs sc g m n (ptr_of p))

module _ {l ds rs cs sc : List ℕ} {g : Given} {m : Meter} {t : Ptr} {count d levels : ℕ} {x : Decl} {p : Ptr} {n : ℕ}
    {q : Ptr} {m₁ : Meter} {sc₁ : List ℕ} (o : Reached l ds rs cs sc g m t count d levels x p n q m₁ sc₁) where
  abbrev c₀ : Counted l ds rs cs sc g m t count
  c₀ = c o.majored

  abbrev e : Env
  e = env_of ds rs cs g.depth

  abbrev s₁ : Store
  s₁ = store_of l sc₁ m₁.mark

  -- it may be asked for as a constructor
  pub major_stands : Major l sc₁ g m₁ q
  major_stands =
      let a = q_asked c₀ n (in_scope o.majored) o.ran in
      let h = headed_of (t_counted c₀ n (in_scope o.majored) o.ran) in
      record { used = h.used; scope = a.scope; small = a.stand.small }

  module _ {r : Construction} {sc₂ : List ℕ} (k : Constructed l sc₁ g m₁ (major_of s₁ (ptr_of q)) r sc₂) where
    pub nothing_made : {m₂ : Meter} → r ≡ Ok (None, m₂) → Left l sc m (Ok (Final m₂)) sc₂ (recursed l ds rs cs sc g m t n d levels)
    nothing_made {m₂} w =
        no_constructor c₀ n d levels (the_parts o.majored) (in_scope o.majored) o.ran (k.nothing m₂ w e (holders_known c₀ n d levels))

    pub rows_refused : {j : Refusal} → r ≡ Err j → Left l sc m (Err j) sc₂ (recursed l ds rs cs sc g m t n d levels)
    rows_refused {j} w =
        rows_stop c₀ n d levels (the_parts o.majored) (in_scope o.majored) o.ran (k.refused j w e (holders_known c₀ n d levels)) k.kept k.same_length

-- THE CONSTRUCTOR z IS THERE

pub record Built (l ds rs cs sc : List ℕ) (g : Given) (m : Meter) (t : Ptr) (count d levels : ℕ) (x : Decl) (p : Ptr) (n : ℕ)
    (q : Ptr) (m₁ : Meter) (sc₁ : List ℕ) (z : Made) (m₂ : Meter) (sc₂ : List ℕ) : Type 0 where
  pub reached : Reached l ds rs cs sc g m t count d levels x p n q m₁ sc₁
  pub here : MadeAs l sc₁ g m₁ (major_of (store_of l sc₁ m₁.mark) (ptr_of q) (env_of ds rs cs g.depth)) z m₂ sc₂
  pub past : Passed sc₁ m₁ sc₂ m₂

pub built : {l ds rs cs sc : List ℕ} {g : Given} {m : Meter} {t : Ptr} {count d levels : ℕ} {x : Decl} {p : Ptr} {n : ℕ}
    {q : Ptr} {m₁ : Meter} {sc₁ : List ℕ} {z : Made} {m₂ : Meter} {sc₂ : List ℕ} {r : Construction} →
    Reached l ds rs cs sc g m t count d levels x p n q m₁ sc₁ →
    Constructed l sc₁ g m₁ (major_of (store_of l sc₁ m₁.mark) (ptr_of q)) r sc₂ → r ≡ Ok (Some z, m₂) →
    Built l ds rs cs sc g m t count d levels x p n q m₁ sc₁ z m₂ sc₂
built {d = d} {levels} {n = n} {z = z} {m₂} o h w = record {
  reached = o;
  here = h.made z m₂ w (e o) (holders_known (c₀ o) n d levels);
  past = record { kept = h.kept; same_length = h.same_length; grown = h.grown m₂ (ap meter_made w) };
}

module _ {l ds rs cs sc : List ℕ} {g : Given} {m : Meter} {t : Ptr} {count d levels : ℕ} {x : Decl} {p : Ptr} {n : ℕ}
    {q : Ptr} {m₁ : Meter} {sc₁ : List ℕ} {z : Made} {m₂ : Meter} {sc₂ : List ℕ}
    (o : Built l ds rs cs sc g m t count d levels x p n q m₁ sc₁ z m₂ sc₂) where
  abbrev begun : Counted l ds rs cs sc g m t count
  begun = c o.reached.majored

  abbrev parts : rec_parts (said o.reached.majored.opened) levels (args_of (store_of l sc m.mark) (ptr_of t)) ≡ some (rec_parts_of (recursor_in rs x) (ptr_of p))
  parts = the_parts o.reached.majored

  abbrev scope : InScope (store_of l sc m.mark) g.depth (ptr_of p)
  scope = in_scope o.reached.majored

  abbrev s₂ : Store
  s₂ = store_of l sc₂ m₂.mark

  still_counted : Counted l ds rs cs sc₂ g m₂ t count
  still_counted = made_counted begun n d levels parts scope o.reached.ran o.here o.past

  pub may_rule : MayRule l rs sc₂ g m₂ x.first_rule x.rules z t count (before_of x) (position_of x)
  may_rule = record {
    headed = headed_of still_counted;
    scope = o.here.scope;
    counted = ap length o.here.arguments ∙ o.here.many;
    rules = rules_read o.reached.majored.opened o.reached.majored.kind;
    values = rule_values begun n d levels parts scope o.reached.ran o.here o.past;
    order = omega arith;
    inside = o.reached.majored.inside;
  }

  -- t has the arguments that it had at the start
  t_arguments : args_of s₂ (ptr_of t) ≡ args_of (store_of l sc m.mark) (ptr_of t)
  t_arguments =
      let before = t_counted begun n scope o.reached.ran in
      args_later (pass_formed before.asked.stand.sane.pass) (pass_formed still_counted.asked.stand.sane.pass)
      (subst (Ext (store_of l sc₁ m₁.mark)) (sym o.here.store) (ext_grow (store_of l sc₁ m₁.mark) o.here.made.rows)) (scope_good before.asked.scope)
      ∙ same_arguments begun n scope o.reached.ran

  -- so the rule that the code looks up is the rules'
  abbrev looked_up : Option Ruled
  looked_up =
      ruled_by (records_from 4 rs rule_of x.first_rule x.rules) z.constructor (args_of s₂ (ptr_of z.term)) (before_of x) (position_of x) (args_of s₂ (ptr_of t))

  same_rule : looked_up ≡ by_rule (recursor_in rs x) (args_of (store_of l sc m.mark) (ptr_of t)) o.here.made
  same_rule =
      (λ j. ruled_by (recursor_in rs x).rules (sym o.here.declaration j) (o.here.arguments j) (before_of x) (position_of x) (t_arguments j))
      ∙ ruled_is (recursor_in rs x) o.here.made (args_of (store_of l sc m.mark) (ptr_of t))

  pub ruled_left : {a : Answer} {sc₃ : List ℕ} → Left l sc₂ m₂ a sc₃ (ruled_step (limits_in g sc₂) (tally_of l sc₂ m₂) looked_up) →
      Left l sc m a sc₃ (recursed l ds rs cs sc g m t n d levels)
  ruled_left {a} {sc₃} h = on _ refl (left_as (ap (ruled_step (limits_in g sc₂) (tally_of l sc₂ m₂)) same_rule) h)
    where
      on : (y : Option Ruled) → by_rule (recursor_in rs x) (args_of (store_of l sc m.mark) (ptr_of t)) o.here.made ≡ y →
          Left l sc₂ m₂ a sc₃ (ruled_step (limits_in g sc₂) (tally_of l sc₂ m₂) y) → Left l sc m a sc₃ (recursed l ds rs cs sc g m t n d levels)
      on none w h =
          left_as (rule_missing begun n d levels parts scope o.reached.ran o.here o.past w).says
          (left_on (passed_on (ran_passed o.reached.ran refl) o.past) h)
      on (some ρ) w h = rule_fires begun n d levels parts scope o.reached.ran o.here o.past w h
