-- Recursors, from what their premises say to the tree rule that they stand for: the major as a constructor, the rule that counts, what it takes.
-- Assumes formed stores, a good term, and the premises of the rule's constructor; what stands in the environment is good in `base`.
use Rattle.std.specs.Prelude.{ℕ, zero, suc, ◌-◌, ◌≤◌, ◌≡◌, refl, Bool, true, false, List, [], ◌∷◌, ◌++◌, length, take, drop, eqb, leb}
use Rattle.std.proofs.Common.{sym, ap, ◌∙◌, subst as along}
use Rattle.std.proofs.Math.Option.{Option, none, some}
use Rattle.rules.specs.Kinds as K
use Rattle.rules.specs.Rows.{Ptr, ptr, blank, Row, node, leaf, Store, cell, grow, put}
use Rattle.rules.specs.Declarations.{zero', succ', Rule, Recursor, Form, plain, constructor, recursor, structure, Decl, Env, nth, holder}
use Rattle.rules.specs.Firings.{itself}
use Rattle.rules.specs.HeadTests.{provided, as_constant, as_number, recursor_of, before_indices, major_position, RecParts, rec_parts_of, rec_parts, Made}
use Rattle.rules.specs.HeadTests.{number_made, made_on, as_constructor, rule_on, rule_for, last_of, Ruled, ruled, by_rule}
use Rattle.rules.specs.HeadRules.{Constant}
use Rattle.rules.specs.ReadOut.{Tree, num, Reads, reads_const, reads_num}
use Rattle.substitution.specs.Stores.{Formed, Good, Ext, ext_then, ext_put, ext_good, put-length}
use Rattle.substitution.specs.Reading.{reads_exists, reads_unique, reads_later}
use Rattle.substitution.specs.Replacing.{put_reads}
use Rattle.substitution.specs.Applied.{apply, ReadAll, none_left, and_then, all_later}
use Rattle.substitution.specs.Fired.{ResultReads, num_fields, const_fields}
use Rattle.safety.specs.Lists.{none_some, some_same}
use Rattle.safety.specs.Parts.{given_some, provided_some}
use Rattle.readings.specs.TreeRules.{StandsFor, itself as as_it_is, as_zero, as_succ, Iota, AfterSide}
use Rattle.readings.specs.Taken.{read_nth, read_take, read_drop, read_append, read_length, const_head, number_head}
use Rattle.readings.specs.Rules.{Given, itself_later, SideRead, found}
use Rattle.readings.specs.Constants.{provided_true, same_number, up_to, constant_read}

-- THE MAJOR AS A CONSTRUCTOR

-- in the store with a number's rows, the constructor's arguments have trees, and with these the reduced major stands for it
record MadeRead (e : Env) (s : Store) (t : Tree) (c : Made) : Type 0 where
  trees : List Tree
  arguments : ReadAll (grow s c.rows) c.arguments trees
  stands_for : StandsFor e t c.declaration trees

-- succ of the number below: its one argument is the row of that number, written between the constant and the application
below_read : {s : Store} (c n : ℕ) → Formed s →
    ReadAll (grow s (leaf (K.const c 0) ∷ leaf (K.num n) ∷ node K.app (ptr (length s) 0) (ptr (suc (length s)) 0) blank ∷ [])) (ptr (suc (length s)) 0 ∷ []) (num n ∷ [])
unfolding grow
below_read {s} c n f =
    let d₁ = put_reads f (const_fields s c 0) reads_const in
    let s₁ = (put s (leaf (K.const c 0))).store in
    let d₂ = put_reads d₁.formed (num_fields s₁ n) reads_num in
    let s₂ = (put s₁ (leaf (K.num n))).store in
    let w = node K.app (ptr (length s) 0) (ptr (suc (length s)) 0) blank in
    let x = ext_put s₂ (cell s₂ w) in
    along (λ (r : ℕ). ReadAll (put s₂ w).store (ptr r 0 ∷ []) (num n ∷ [])) (put-length s (leaf (K.const c 0)))
    (and_then (ext_good x d₂.good) (reads_later d₂.formed x d₂.good d₂.reads) none_left)

number_made_lem : {s : Store} {c : Made} {t : Tree} (e : Env) (n : ℕ) → Formed s → num n ≡ t → number_made e s n ≡ some c → MadeRead e s t c
unfolding number_made
number_made_lem {s} {t = t} e zero f i q =
    let h = given_some (holder e zero') _ q in
    along (MadeRead e s t) (some_same h.then) (record {
      trees = [];
      arguments = none_left;
      stands_for = along (λ (z : Tree). StandsFor e z h.it []) i (as_zero h.first);
    })
number_made_lem {s} {t = t} e (suc n) f i q =
    let h = given_some (holder e succ') _ q in
    along (MadeRead e s t) (some_same h.then) (record {
      trees = num n ∷ [];
      arguments = below_read h.it n f;
      stands_for = along (λ (z : Tree). StandsFor e z h.it (num n ∷ [])) i (as_succ h.first);
    })

made_read : {e : Env} {base s s₁ : Store} {p : Ptr} {w : Row} {ys : List Ptr} {c : Made} → Formed s₁ → (d : SideRead e base s p s₁ w ys) →
    as_constructor e s₁ w ys ≡ some c → MadeRead e s₁ (found d) c
unfolding as_constructor grow apply
made_read {e} {s₁ = s₁} {w = w} {ys} {c} f d q = on (as_number w ys) refl q
  where
    on : (o : Option ℕ) → as_number w ys ≡ o → made_on e s₁ w ys o ≡ some c → MadeRead e s₁ (found d) c
    on none z q =
        let k = given_some (as_constant w) _ q in
        let head = const_head d.reads_head k.first in
        along (MadeRead e s₁ (found d)) (some_same k.then) (record {
          trees = d.arguments;
          arguments = d.reads_arguments;
          stands_for = as_it_is head.levels (ap (λ (t : Tree). apply t d.arguments) head.is);
        })
    on (some n) z q =
        let k = number_head d.reads_head d.reads_arguments z in
        number_made_lem e n f (k.is ∙ ap (apply d.head) (sym k.alone)) q

-- RECURSORS

recursor_of_lem : {o : Recursor} (φ : Form) → recursor_of φ ≡ some o → φ ≡ recursor o
recursor_of_lem plain q = absurd (none_some q)
recursor_of_lem (constructor ps fs) q = absurd (none_some q)
recursor_of_lem (recursor o) q = ap recursor (some_same q)
recursor_of_lem (structure ps c) q = absurd (none_some q)

pub record RecPicked (D : Decl) (n : ℕ) (xs : List Ptr) (o : Recursor) (x : Ptr) : Type 0 where
  pub form : D.form ≡ recursor o
  pub levels : D.levels ≡ n
  pub major : nth xs (major_position o) ≡ some x

pub rec_picked : {o : Recursor} {x : Ptr} (D : Decl) (n : ℕ) (xs : List Ptr) → rec_parts D n xs ≡ some (rec_parts_of o x) → RecPicked D n xs o x
unfolding rec_parts
rec_picked {o} {x} D n xs q =
    let test = eqb D.levels n in
    let r = given_some (provided test (recursor_of D.form)) _ q in
    let y = given_some (nth xs (major_position r.it)) _ r.then in
    let same = some_same y.then in
    along (λ (z : RecParts). RecPicked D n xs z.of z.major) same (record {
      form = recursor_of_lem D.form (provided_some test (recursor_of D.form) r.first);
      levels = same_number D.levels n (provided_true test (recursor_of D.form) r.first);
      major = y.first;
    })

record RulePicked (o : Recursor) (xs : List Ptr) (c : Made) (v : Ptr) (zs : List Ptr) : Type 0 where
  rule : Rule
  is_rule : rule_for c.declaration o.rules ≡ some rule
  enough : rule.fields ≤ length c.arguments
  value : rule.value ≡ v
  all : take (before_indices o) xs ++ drop (length c.arguments - rule.fields) c.arguments ++ drop (suc (major_position o)) xs ≡ zs

rule_picked : {v : Ptr} {zs : List Ptr} (o : Recursor) (xs : List Ptr) (c : Made) → by_rule o xs c ≡ some (ruled v zs) → RulePicked o xs c v zs
unfolding by_rule
rule_picked o xs c q =
    let r = given_some (rule_for c.declaration o.rules) _ q in
    let ys = c.arguments in
    let n = r.it.fields in
    let test = leb n (length ys) in
    let fs = given_some (last_of n ys) _ r.then in
    let same = some_same fs.then in
    let last = some_same (provided_some test (some (drop (length ys - n) ys)) fs.first) in
    record {
      rule = r.it;
      is_rule = r.first;
      enough = up_to n (length ys) (provided_true test (some (drop (length ys - n) ys)) fs.first);
      value = ap (λ (z : Ruled). z.value) same;
      all = ap (λ (z : List Ptr). take (before_indices o) xs ++ z ++ drop (suc (major_position o)) xs) last ∙ ap (λ (z : Ruled). z.arguments) same;
    }

-- the first rule for a constructor is one of the rules
record Ruling (rs : List Rule) (ρ : Rule) : Type 0 where
  position : ℕ
  found : nth rs position ≡ some ρ

rule_found : {ρ : Rule} (c : ℕ) (rs : List Rule) → rule_for c rs ≡ some ρ → Ruling rs ρ
unfolding rule_for nth
rule_found c [] q = absurd (none_some q)
rule_found {ρ} c (x ∷ rs) q = on (eqb x.constructor c) q (λ r. rule_found c rs r)
  where
    on : (b : Bool) → rule_on b (some x) (rule_for c rs) ≡ some ρ → (rule_for c rs ≡ some ρ → Ruling rs ρ) → Ruling (x ∷ rs) ρ
    on true q ih = record { position = 0; found = q }
    on false q ih = let r = ih q in record { position = suc r.position; found = r.found }

-- the last n, counted from either end
read_last : {s : Store} {ys : List Ptr} {us : List Tree} (n : ℕ) → ReadAll s ys us → ReadAll s (drop (length ys - n) ys) (drop (length us - n) us)
read_last {s} {ys} {us} n r = along (λ (l : ℕ). ReadAll s (drop (l - n) ys) (drop (length us - n) us)) (read_length r) (read_drop (length us - n) r)

-- s: where the term stands; s₁: where the major is asked; s₂: where it is reduced; then a number's rows
pub iota_read : {e : Env} {base s s₁ s₂ : Store} {t x v : Ptr} {D : Decl} {n : ℕ} {o : Recursor} {c : Made} {w : Row} {xs ys zs : List Ptr} {u : Tree} →
    Formed base → ((i : ℕ) (ρ : Rule) → nth o.rules i ≡ some ρ → Good base ρ.value) → Ext base s₂ →
    Formed s → Good s t → Reads s t u → Ext s s₁ → (h : Constant e s t D n xs) → rec_parts D n xs ≡ some (rec_parts_of o x) →
    Formed s₂ → Ext s₂ (grow s₂ c.rows) → SideRead e base s₁ x s₂ w ys → as_constructor e s₂ w ys ≡ some c → by_rule o xs c ≡ some (ruled v zs) →
    Given (AfterSide e base (Iota e base) u) (grow s₂ c.rows) (itself v) zs
iota_read {s₂ = s₂} {D = D} {n} {o} {c} {xs = xs} f₀ good x₀ f y r x h q f₂ x₂ d a p =
    let k = constant_read f y r h in
    let picked = rec_picked D n xs q in
    let major = read_nth (major_position o) k.arguments picked.major in
    let m = made_read f₂ d a in
    let by = rule_picked o xs c p in
    let i = rule_found c.declaration o.rules by.is_rule in
    let closed = good i.position by.rule i.found in
    let value = reads_exists f₀ closed in
    let s₃ = grow s₂ c.rows in
    let later = all_later f (ext_then x (ext_then d.more x₂)) k.arguments in
    let count = length m.trees - by.rule.fields in
    let first = read_take (before_indices o) later in
    let last = read_last by.rule.fields m.arguments in
    let rest = read_drop (suc (major_position o)) later in
    let trees = take (before_indices o) k.trees ++ drop count m.trees ++ drop (suc (major_position o)) k.trees in
    record {
      result = value.tree;
      rest = trees;
      reads_result = along (λ (z : Ptr). ResultReads s₃ (itself z) value.tree) by.value (itself_later f₀ (ext_then x₀ x₂) closed value.reads);
      reads_rest = along (λ (z : List Ptr). ReadAll s₃ z trees) by.all (read_append (read_append first last) rest);
      rule = record {
        asked = d.asked;
        found = found d;
        rule = record {
          declaration = h.named;
          levels = n;
          arguments = k.trees;
          is_before = k.is;
          equal_levels = ap (λ (z : Decl). z.levels) h.declared ∙ picked.levels;
          of = o;
          is_recursor = ap (λ (z : Decl). z.form) h.declared ∙ picked.form;
          is_major = major.there ∙ ap some (reads_unique (reads_later f x major.good major.reads) d.reads_asked);
          made = c.declaration;
          made_of = m.trees;
          stands_for = m.stands_for;
          rule = by.rule;
          is_rule = by.is_rule;
          enough = along (λ (l : ℕ). by.rule.fields ≤ l) (sym (read_length m.arguments)) by.enough;
          value = value.tree;
          reads_value = value.reads;
          is_after = refl;
        };
        steps = d.steps;
      };
    }
