-- Each head rule from what its premises say to the tree rule that it stands for. One law carries all of them: what a rule gives, applied to the
-- remaining arguments, reads as a tree applied to trees (`Given`). A side reduction comes in as what it was read out to (`SideRead`).
-- Assumes formed stores, a good term, and the premises of the rule's constructor. The rules of a constant stand in Constants.antt.
use Rattle.std.specs.Prelude.{ℕ, suc, ◌+◌, ◌≡◌, refl, List, ◌∷◌, length}
use Rattle.std.proofs.Common.{arith, sym, ap, ◌∙◌, subst as along}
use Rattle.std.proofs.Math.Option.{some}
use Rattle.rules.specs.Kinds.{table, fields}
use Rattle.rules.specs.Kinds as K
use Rattle.rules.specs.Rows.{Ptr, Row, node, Store, up, Got}
use Rattle.rules.specs.Rows as R
use Rattle.rules.specs.Declarations.{Form, plain, constructor, recursor, structure, Env, decl_at, value_of}
use Rattle.rules.specs.Firings.{Result, opened, itself, Due}
use Rattle.rules.specs.HeadTests.{as_constant, parameters_of, field_at}
use Rattle.rules.specs.HeadRules.{Head}
use Rattle.rules.specs.ReadOut.{Tree, var, lam, proj, shift, subst, Reads, ReadsRow, reads_var, reads_proj}
use Rattle.substitution.specs.Trees.{shift_high}
use Rattle.substitution.specs.Stores.{FieldsOk, first_ok, term_child, Formed, Good, fields_at, Ext, ext_good, up_child}
use Rattle.substitution.specs.Reading.{reads_exists, reads_unique, reads_later, RowReads, at_row}
use Rattle.substitution.specs.Bounds.{reads_up}
use Rattle.substitution.specs.Replacing.{Replaced}
use Rattle.substitution.specs.Heads.{BinderReads, lam_reads, LetReads, let_reads, value_reads}
use Rattle.substitution.specs.Applied.{apply, ReadAll, and_then, all_later}
use Rattle.substitution.specs.Fired.{ResultReads, opened_reads, itself_reads, due_reads, head_reads}
use Rattle.safety.specs.Lists.{none_some, some_same}
use Rattle.safety.specs.Sane.{Sane}
use Rattle.safety.specs.Parts.{given_some}
use Rattle.readings.specs.TreeRules.{Beta, Zeta, LocalDelta, Projection, Steps, AfterSide}
use Rattle.readings.specs.Taken.{read_nth, const_head}

-- THE SHARED LAW

-- what a rule gives, applied to the remaining arguments, reads as `after`, which the tree rule P allows
pub record Given (P : Tree → Type 0) (s : Store) (r : Result) (xs : List Ptr) : Type 0 where
  pub result : Tree
  pub rest : List Tree
  pub reads_result : ResultReads s r result
  pub reads_rest : ReadAll s xs rest
  pub rule : P (apply result rest)

-- what is due reads out as that
pub given_due : {P : Tree → Type 0} {s : Store} {r : Result} {xs : List Ptr} {g : Got} → Formed s → (v : Given P s r xs) → Due s r xs g →
    Replaced s g (apply v.result v.rest)
given_due f v d = due_reads f v.reads_result v.reads_rest d

-- a pointer that stood before rows were written
pub itself_later : {s s₁ : Store} {p : Ptr} {t : Tree} → Formed s → Ext s s₁ → Good s p → Reads s p t → ResultReads s₁ (itself p) t
itself_later f x o r = itself_reads (ext_good x o) (reads_later f x o r)

-- SIDE REDUCTIONS

-- from s to s₁ the pointer p was reduced to a head of row w with the arguments ys: what p reads as leads, by tree rules, to the head's tree
-- applied to the arguments' trees. Values of declarations, rules and records are read in `base`.
pub record SideRead (e : Env) (base s : Store) (p : Ptr) (s₁ : Store) (w : Row) (ys : List Ptr) : Type 0 where
  pub asked : Tree
  pub reads_asked : Reads s p asked
  pub shift : ℕ
  pub head : Tree
  pub arguments : List Tree
  pub reads_head : RowReads s₁ w shift head
  pub reads_arguments : ReadAll s₁ ys arguments
  pub more : Ext s s₁
  pub sane : Sane e s₁
  pub steps : Steps e base asked (apply head arguments)

abbrev pub found : {e : Env} {base s s₁ : Store} {p : Ptr} {w : Row} {ys : List Ptr} → SideRead e base s p s₁ w ys → Tree
found d = apply d.head d.arguments

-- BETA AND ZETA

beta_from : {s : Store} {a x b : Ptr} {k : ℕ} {xs : List Ptr} {t u : Tree} {us : List Tree} →
    BinderReads lam s x b k t → ReadAll s (a ∷ xs) us → apply t us ≡ u → Given (Beta u) s (opened b a k) xs
beta_from l (and_then {u = v} {us = us} o r q) e = record {
  result = subst v 0 l.body;
  rest = us;
  reads_result = opened_reads l.under o r refl;
  reads_rest = q;
  rule = record {
    type = l.type;
    body = l.body;
    argument = v;
    rest = us;
    is_before = ap (λ (z : Tree). apply z (v ∷ us)) l.is ∙ e;
    is_after = refl;
  };
}

pub beta_read : {s : Store} {t x b z a : Ptr} {k : ℕ} {xs : List Ptr} {u : Tree} → Formed s → Good s t → Reads s t u →
    Head s t (node K.lam x b z) k (a ∷ xs) → Given (Beta u) s (opened b a k) xs
beta_read {s} {x = x} {b} f o r h =
    let p = head_reads f o r h in
    beta_from (along (λ (n : ℕ). BinderReads lam s x b n p.tree) h.shift (lam_reads f p.good h.row p.reads)) p.arguments p.whole

zeta_from : {s : Store} {x v b a : Ptr} {k : ℕ} {xs : List Ptr} {t u : Tree} {us : List Tree} →
    LetReads s x v b k t → ReadAll s xs us → apply t us ≡ u → up s v k ≡ a → Given (Zeta u) s (opened b a k) xs
zeta_from {s} {us = us} l q e i = record {
  result = subst l.value 0 l.body;
  rest = us;
  reads_result = opened_reads l.under (along (Good s) i l.good_value) (along (λ (p : Ptr). Reads s p l.value) i l.reads_value) refl;
  reads_rest = q;
  rule = record {
    type = l.type;
    value = l.value;
    body = l.body;
    rest = us;
    is_before = ap (λ (z : Tree). apply z us) l.is ∙ e;
    is_after = refl;
  };
}

pub zeta_read : {s : Store} {t x v b a : Ptr} {k : ℕ} {xs : List Ptr} {u : Tree} → Formed s → Good s t → Reads s t u →
    Head s t (node K.let' x v b) k xs → up s v k ≡ a → Given (Zeta u) s (opened b a k) xs
zeta_read {s} {x = x} {v} {b} f o r h i =
    let p = head_reads f o r h in
    zeta_from (along (λ (n : ℕ). LetReads s x v b n p.tree) h.shift (let_reads f p.good h.row p.reads)) p.arguments p.whole i

-- A CONTEXT VALUE

var_tree : {s : Store} {i : ℕ} {t u : Tree} (k : ℕ) → ReadsRow s (R.var i) u → shift k 0 u ≡ t → var (i + k) ≡ t
var_tree {i = i} k reads_var e = sym (shift_high k 0 i (omega arith)) ∙ e

pub local_read : {e : Env} {base s : Store} {t v a : Ptr} {k i : ℕ} {xs : List Ptr} {u : Tree} → Formed base → Good base v → Ext base s →
    Formed s → Good s t → Reads s t u → Head s t (R.var i) k xs → value_of e (i + k) ≡ some v → up s v (suc (i + k)) ≡ a →
    Given (LocalDelta e base u) s (itself a) xs
local_read {s = s} {v = v} {k = k} {i} f₀ o₀ x f o r h has e =
    let p = head_reads f o r h in
    let w = at_row h.row p.reads in
    let value = reads_exists f₀ o₀ in
    let here = value_reads (i + k) f (ext_good x o₀) (reads_later f₀ x o₀ value.reads) in
    let is_var : var (i + k) ≡ p.tree = ap (λ (n : ℕ). var (i + n)) (sym h.shift) ∙ var_tree h.at.shift w.row w.is in
    record {
      result = shift (suc (i + k)) 0 value.tree;
      rest = p.trees;
      reads_result = itself_reads (along (Good s) e (up_child (suc (i + k)) (ext_good x o₀)))
          (along (λ (z : Ptr). Reads s z (shift (suc (i + k)) 0 value.tree)) e here);
      reads_rest = p.arguments;
      rule = record {
        index = i + k;
        at = v;
        value = value.tree;
        rest = p.trees;
        is_before = ap (λ (z : Tree). apply z p.trees) is_var ∙ p.whole;
        has_value = has;
        reads_value = value.reads;
        is_after = refl;
      };
    }

-- PROJECTION

proj_tree : {s : Store} {c i : ℕ} {x y z : Ptr} {t u asked : Tree} (k : ℕ) → Formed s → FieldsOk s (length s) (node (K.proj c i) x y z) →
    ReadsRow s (node (K.proj c i) x y z) u → shift k 0 u ≡ t → Reads s (up s x k) asked → proj c i asked ≡ t
unfolding shift fields table
proj_tree {c = c} {i} k f o (reads_proj q) e r = ap (proj c i) (reads_unique r (reads_up k f (term_child (first_ok o)) q)) ∙ e

pub record IsConstructor (φ : Form) (parameters : ℕ) : Type 0 where
  pub fields : ℕ
  pub is : φ ≡ constructor parameters fields

constructor_of : {n : ℕ} (φ : Form) → parameters_of φ ≡ some n → IsConstructor φ n
constructor_of plain q = absurd (none_some q)
constructor_of (constructor ps fs) q = record { fields = fs; is = ap (λ (n : ℕ). constructor n fs) (some_same q) }
constructor_of (recursor o) q = absurd (none_some q)
constructor_of (structure ps c) q = absurd (none_some q)

pub projection_read : {e : Env} {base s s₁ : Store} {t x y z a : Ptr} {k c i : ℕ} {w : Row} {xs ys : List Ptr} {u : Tree} →
    Formed s → Good s t → Reads s t u → Head s t (node (K.proj c i) x y z) k xs → SideRead e base s (up s x k) s₁ w ys → field_at e w ys i ≡ some a →
    Given (AfterSide e base (Projection e) u) s₁ (itself a) xs
unfolding field_at
projection_read {e} {s = s} {x = x} {y} {z} {k = k} {c} {i} {w} {ys = ys} f o r h d q =
    let p = head_reads f o r h in
    let row = along (λ (n : ℕ). RowReads s (node (K.proj c i) x y z) n p.tree) h.shift (at_row h.row p.reads) in
    let is_proj = proj_tree k f (fields_at f p.good h.row) row.row row.is d.reads_asked in
    let name = given_some (as_constant w) _ q in
    let count = given_some (parameters_of (decl_at e.decls name.it).form) _ name.then in
    let made = constructor_of (decl_at e.decls name.it).form count.first in
    let head = const_head d.reads_head name.first in
    let field = read_nth (count.it + i) d.reads_arguments count.then in
    record {
      result = field.tree;
      rest = p.trees;
      reads_result = itself_reads field.good field.reads;
      reads_rest = all_later f d.more p.arguments;
      rule = record {
        asked = d.asked;
        found = found d;
        rule = record {
          type = c;
          index = i;
          rest = p.trees;
          is_before = ap (λ (t : Tree). apply t p.trees) is_proj ∙ p.whole;
          named = name.it;
          levels = head.levels;
          arguments = d.arguments;
          is_found = ap (λ (t : Tree). apply t d.arguments) head.is;
          parameters = count.it;
          fields = made.fields;
          is_constructor = made.is;
          field = field.tree;
          is_field = field.there;
          is_after = refl;
        };
        steps = d.steps;
      };
    }
