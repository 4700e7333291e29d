-- What a run keeps: from a formed store and good pointers it leads to a formed store and a good pointer. It is the rules' twins once more, under the
-- likeness that asks of a pointer only that it stands in its store. Then the last try of a run: where it starts, the store is formed and the term good.
-- Assumes a formed store, a good term, and that the environment's pointers stand in the store.
use Rattle.std.specs.Prelude.{ℕ, suc, ◌≡◌, refl, List, [], ◌∷◌, length}
use Rattle.std.proofs.Common.{arith, subst}
use Rattle.std.proofs.Math.Option.{Option, none, some}
use Rattle.rules.specs.Kinds.{sort, const, app, lam, pi, let', proj, num, table, fields}
use Rattle.rules.specs.Rows.{Ptr, Row, var, node, Store, row_at, Got, put}
use Rattle.rules.specs.RowCheck.{plain_ok, term_ok}
use Rattle.rules.specs.Declarations.{Rule, Recursor, Form, plain, constructor, recursor, structure, Env, nth, decl_at, value_of}
use Rattle.rules.specs.Spines.{Spine}
use Rattle.rules.specs.Firings.{Tally, Result, Due, Pays}
use Rattle.course.specs.Tries.{Try, rules, End, missed, firing, Runs, final, then, Comes, misses, fires_now, wrote, side}
use Rattle.promises.specs.Stores.{Later, later_refl, later_trans, later_writes, later_runs, later_comes}
use Rattle.substitution.specs.Stores.{FieldsOk, node_fields, first_ok, second_ok, third_ok, term_child, body_child, Formed, Good, good_fields}
use Rattle.substitution.specs.Stores.{ext_same, ext_good, put_formed, put_good, up_child}
use Rattle.substitution.specs.Reading.{reads_exists}
use Rattle.substitution.specs.Existence.{Kept}
use Rattle.substitution.specs.Applied.{AllGood, no_more, and_good, all_good, none_left, spine_reads}
use Rattle.substitution.specs.Dues.{opened_good, itself_good, number_good, constant_good, due_keeps}
use Rattle.again.specs.Carried.{later_fired}
use Rattle.again.specs.Alike.{Opt, nones, somes, Each, ended, next, NewRow, new_const, new_num, new_app, Likeness, rows_grown, ResultLike}
use Rattle.again.specs.Alike.{opened_like, itself_like, number_like, constant_like, HeadLike, head_var, head_sort, head_const, head_app}
use Rattle.again.specs.Alike.{head_lam, head_pi, head_let, head_proj, head_num, FormLike, plain_like, constructor_like, recursor_like}
use Rattle.again.specs.Alike.{structure_like, EnvLike}
use Rattle.again.specs.Twins.{Twin, no_rules, both_fire, both_write, both_reduce, rules_twin, head_row_is}

-- THE ENVIRONMENT: the pointers that reduction reads stand in the store

pub record EnvStands (s : Store) (e : Env) : Type 0 where
  pub value : (d : ℕ) (v : Ptr) → (decl_at e.decls d).value ≡ some v → Good s v
  pub rule : (d : ℕ) (o : Recursor) → (decl_at e.decls d).form ≡ recursor o → (i : ℕ) (r : Rule) → nth o.rules i ≡ some r → Good s r.value
  pub context : (i : ℕ) (v : Ptr) → value_of e i ≡ some v → Good s v

opt_itself : {R : Ptr → Ptr → Type 0} (x : Option Ptr) → ((v : Ptr) → x ≡ some v → R v v) → Opt R x x
opt_itself none k = nones
opt_itself (some v) k = somes (k v refl)

each_itself : {R : Rule → Rule → Type 0} (rs : List Rule) → ((i : ℕ) (r : Rule) → nth rs i ≡ some r → R r r) → Each R rs rs
unfolding nth
each_itself [] k = ended
each_itself (r ∷ rs) k = next (k 0 r refl) (each_itself rs λ i. k (suc i))

-- under a likeness in which good pointers are like themselves, such an environment is
pub env_itself : (L : Likeness) {s s̃ : Store} {e : Env} → EnvStands s e → ((p : Ptr) → Good s p → L.pointers s s̃ p p) → EnvLike L s s̃ e e
env_itself L {s} {s̃} {e} v k = record {
  declared = λ d. record {
    form = form (decl_at e.decls d).form (v.rule d);
    levels = refl;
    value = opt_itself (decl_at e.decls d).value λ x q. k x (v.value d x q);
    role = refl;
  };
  holders = λ r. refl;
  values = λ i. opt_itself (value_of e i) λ x q. k x (v.context i x q);
}
  where
    form : (f : Form) → ((o : Recursor) → f ≡ recursor o → (i : ℕ) (r : Rule) → nth o.rules i ≡ some r → Good s r.value) → FormLike L s s̃ f f
    form plain h = plain_like
    form (constructor ps fs) h = constructor_like
    form (recursor o) h = recursor_like (record {
      parameters = refl;
      motives = refl;
      minors = refl;
      indices = refl;
      rules = each_itself o.rules λ i r q. record { constructor = refl; fields = refl; value = k r.value (h o refl i r q) };
    })
    form (structure ps c) h = structure_like

-- GOOD POINTERS AS A LIKENESS: nothing is said of the other side

new_fields : {s s̃ : Store} {w w̃ : Row} → NewRow (λ s s̃ p p̃. Good s p) s s̃ w w̃ → FieldsOk s (length s) w
unfolding fields table
new_fields new_const = node_fields (plain_ok refl) (plain_ok refl) (plain_ok refl)
new_fields new_num = node_fields (plain_ok refl) (plain_ok refl) (plain_ok refl)
new_fields (new_app f a) = node_fields (term_ok f) (term_ok a) (plain_ok refl)

pub written_formed : {s s̃ : Store} {w w̃ : Row} → Formed s → NewRow (λ s s̃ p p̃. Good s p) s s̃ w w̃ → Formed (put s w).store
written_formed f n = put_formed f (new_fields n)

pub pointed_good : {s s̃ : Store} {w w̃ : Row} → Formed s → NewRow (λ s s̃ p p̃. Good s p) s s̃ w w̃ → Good (put s w).store (put s w).at
pointed_good {s} {w = w} f n = put_good s w

abbrev pub standing : Likeness
standing = record {
  stores = λ s s̃. Formed s;
  pointers = λ s s̃ p p̃. Good s p;
  bodies = λ s s̃ b k b̃ l. Good s b;
  later = λ g o. ext_good g.left o;
  shifted = λ f o k. up_child k o;
  written = written_formed;
  pointed = pointed_good;
}

row_stands : {s s̃ : Store} (w : Row) (k : ℕ) → FieldsOk s (length s) w → HeadLike standing s s̃ w k w k
unfolding fields table
row_stands (var i) k o = head_var refl
row_stands (node (sort l) x y z) k o = head_sort
row_stands (node (const d n) x y z) k o = head_const
row_stands (node app x y z) k o = head_app
row_stands (node lam x y z) k o = head_lam (body_child (second_ok o))
row_stands (node pi x y z) k o = head_pi
row_stands (node let' x y z) k o = head_let (up_child k (term_child (second_ok o))) (body_child (third_ok o))
row_stands (node (proj d i) x y z) k o = head_proj (up_child k (term_child (first_ok o)))
row_stands (node (num n) x y z) k o = head_num

all_stand : {s : Store} {xs : List Ptr} → AllGood s xs → Each (λ (p p̃ : Ptr). Good s p) xs xs
all_stand no_more = ended
all_stand (and_good o q) = next o (all_stand q)

stand_all : {s : Store} {xs ys : List Ptr} → Each (λ (p p̃ : Ptr). Good s p) xs ys → AllGood s xs
stand_all ended = no_more
stand_all (next o q) = and_good o (stand_all q)

-- a head and its arguments
record SpineStands (s : Store) (h : Ptr) (xs : List Ptr) : Type 0 where
  head : HeadLike standing s s (row_at s h.row) h.shift (row_at s h.row) h.shift
  arguments : Each (λ (p p̃ : Ptr). Good s p) xs xs

spine_stands : {s : Store} {t h : Ptr} {xs : List Ptr} → Formed s → Good s t → Spine s t [] h xs → SpineStands s h xs
spine_stands {s} {h = h} f o p =
    let d = spine_reads f o (reads_exists f o).reads none_left p in
    record { head = row_stands (row_at s h.row) h.shift (good_fields f d.good); arguments = all_stand (all_good d.arguments) }

-- A FIRING

due_stands : {s s̃ : Store} {r r̃ : Result} {xs x̃s : List Ptr} {g : Got} → ResultLike standing s s̃ r r̃ →
    Each (λ (p p̃ : Ptr). Good s p) xs x̃s → Formed s → Due s r xs g → Kept s g
due_stands (opened_like b v) q f d = due_keeps {D = 0} f (opened_good b v) (stand_all q) d
due_stands (itself_like p) q f d = due_keeps {D = 0} f (itself_good p) (stand_all q) d
due_stands number_like q f d = due_keeps {D = 0} f number_good (stand_all q) d
due_stands (constant_like {d = c}) q f d = due_keeps {D = suc c} f (constant_good (omega arith)) (stand_all q) d

pub record Stands (m : Tally) (t : Ptr) : Type 0 where
  pub formed : Formed m.store
  pub good : Good m.store t

pays_stand : {m m' : Tally} {s̃ : Store} {r r̃ : Result} {xs x̃s : List Ptr} {t' : Ptr} → ResultLike standing m.store s̃ r r̃ →
    Each (λ (p p̃ : Ptr). Good m.store p) xs x̃s → Formed m.store → Pays m r xs m' t' → Stands m' t'
pays_stand {m} {t' = t'} z q f p =
    let k = due_stands z q f p.is_due in
    subst (λ (x : Tally). Stands x t') p.then_tally
    (record { formed = k.formed; good = subst (Good p.due.store) p.then_term k.good })

-- A COURSE

data EndStands (s : Store) : End → Type 0 where
  no_firing : EndStands s missed
  a_firing : {s̃ : Store} {r r̃ : Result} {xs x̃s : List Ptr} → ResultLike standing s s̃ r r̃ → Each (λ (p p̃ : Ptr). Good s p) xs x̃s → EndStands s (firing r xs)

record ComesToStand (m' : Tally) (o : End) : Type 0 where
  formed : Formed m'.store
  end : EndStands m'.store o

fired_stands : {m m' : Tally} {r : Result} {xs : List Ptr} {t' : Ptr} → EndStands m.store (firing r xs) → Formed m.store → Pays m r xs m' t' → Stands m' t'
fired_stands (a_firing z q) f p = pays_stand z q f p

good_later : {m m₁ : Tally} {p : Ptr} → Later m m₁ → Good m.store p → Good m₁.store p
good_later l o = ext_good l.rows o

pub env_stands_later : {m m₁ : Tally} {e : Env} → Later m m₁ → EnvStands m.store e → EnvStands m₁.store e
env_stands_later l v = record {
  value = λ d x q. good_later l (v.value d x q);
  rule = λ d o q i r z. good_later l (v.rule d o q i r z);
  context = λ i x q. good_later l (v.context i x q);
}

module _ (e : Env) where
  -- the rules at a good term's head, beside themselves
  twins_stand : {m : Tally} {t h : Ptr} {xs : List Ptr} → Stands m t → EnvStands m.store e → Spine m.store t [] h xs →
      Twin standing m.store m.store (rules e m.store h xs) (rules e m.store h xs)
  twins_stand {h = h} f v s =
      let p = spine_stands f.formed f.good s in
      rules_twin standing h h f.formed (env_itself standing v λ x o. o) p.head p.arguments

  mutual
    pub runs_stand : {d : ℕ} {m m' : Tally} {t t' : Ptr} → Runs e d m t m' t' → Stands m t → EnvStands m.store e → Stands m' t'
    runs_stand (final s c) f v =
        record { formed = (comes_stand c f.formed v (twins_stand f v s)).formed; good = good_later (later_comes e c) f.good }
    runs_stand (then s c p r) f v =
        let k = comes_stand c f.formed v (twins_stand f v s) in
        runs_stand r (fired_stands k.end k.formed p) (env_stands_later (later_fired e c p) v)

    comes_stand : {d : ℕ} {m m' : Tally} {s̃ : Store} {y ỹ : Try} {o : End} → Comes e d m y m' o → Formed m.store → EnvStands m.store e →
        Twin standing m.store s̃ y ỹ → ComesToStand m' o
    comes_stand misses f v no_rules = record { formed = f; end = no_firing }
    comes_stand fires_now f v (both_fire z q) = record { formed = f; end = a_firing z q }
    comes_stand {m = m} (wrote {ws = ws} x c) f v (both_write z k) =
        comes_stand c (rows_grown standing f z).alike (env_stands_later (later_writes m ws) v) k
    comes_stand {s̃ = s̃} (side {h = h} r s c) f v (both_reduce z k) =
        let j = runs_stand r (record { formed = f; good = z }) v in
        let l = later_runs e r in
        let p = spine_stands j.formed j.good s in
        comes_stand c j.formed (env_stands_later l v)
        (k _ s̃ (record { before = f; left = l.rows; right = ext_same s̃; alike = j.formed }) _ _ _ _ (head_row_is standing p.head) p.arguments)

  -- THE LAST TRY: a run ends by a try that is missed, at a formed store and a good term
  pub record LastTry (d : ℕ) (m m' : Tally) (t' : Ptr) : Type 0 where
    pub before : Tally
    pub head : Ptr
    pub arguments : List Ptr
    pub spine : Spine before.store t' [] head arguments
    pub comes : Comes e d before (rules e before.store head arguments) m' missed
    pub stands : Stands before t'
    pub since : Later m before

  pub last_try : {d : ℕ} {m m' : Tally} {t t' : Ptr} → Runs e d m t m' t' → Stands m t → EnvStands m.store e → LastTry d m m' t'
  last_try {m = m} (final {h = h} {xs = xs} s c) f v = record {
    before = m;
    head = h;
    arguments = xs;
    spine = s;
    comes = c;
    stands = f;
    since = later_refl m;
  }
  last_try (then s c p r) f v =
      let k = comes_stand c f.formed v (twins_stand f v s) in
      let l = later_fired e c p in
      let q = last_try r (fired_stands k.end k.formed p) (env_stands_later l v) in
      record {
        before = q.before;
        head = q.head;
        arguments = q.arguments;
        spine = q.spine;
        comes = q.comes;
        stands = q.stands;
        since = later_trans l q.since;
      }
