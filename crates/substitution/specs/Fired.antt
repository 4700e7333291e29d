-- What a firing writes, read out: its result's tree applied to the trees of the remaining arguments. Then beta, zeta and a context
-- value as the head rules fire them, from the whole term before to the whole term after.
-- Assumes a formed store, that the term (and the context value) is a good pointer, and the premises of the rule's constructor.
use Rattle.std.specs.Prelude.{ℕ, suc, ◌+◌, ◌≡◌, refl, List, ◌∷◌, length}
use Rattle.std.proofs.Common.{arith, sym, ap, ◌∙◌, subst as along}
use Rattle.std.proofs.Math.Option.{some}
use Rattle.rules.specs.Kinds.{table, fields}
use Rattle.rules.specs.Kinds as K
use Rattle.rules.specs.Rows.{Ptr, Row, node, leaf, Store, up, Got, got}
use Rattle.rules.specs.Rows as R
use Rattle.rules.specs.RowCheck.{plain_ok}
use Rattle.rules.specs.Declarations.{Env, value_of}
use Rattle.rules.specs.Firings.{Tally, Result, opened, itself, a_number, a_constant, Gives, by_replacement, no_row, number_row, constant_row, Due, Pays}
use Rattle.rules.specs.HeadRules.{Head}
use Rattle.rules.specs.ReadOut.{Tree, var, const, app, lam, let', num, shift, subst, Reads, ReadsRow, reads_var, reads_const, reads_num}
use Rattle.substitution.specs.Trees.{shift_high}
use Rattle.substitution.specs.Stores.{FieldsOk, node_fields, Formed, Good, fields_at, Ext, ext_same, ext_then, up_child}
use Rattle.substitution.specs.Reading.{reads_exists, at_row}
use Rattle.substitution.specs.Replacing.{Replaced, to, put_reads}
use Rattle.substitution.specs.Heads.{BodyReads, body_given, BinderReads, lam_reads, LetReads, let_reads, value_reads}
use Rattle.substitution.specs.Applied.{apply, ReadAll, none_left, and_then, all_later, AllGood, all_good, SpineReads, spine_reads, joined_reads}

-- A RESULT

-- what a rule gives reads as: the body with the value put in, the pointer's tree, a number, a constant without levels
pub data ResultReads (s : Store) : Result → Tree → Type 0 where
  opened_reads : {b v : Ptr} {k : ℕ} {body u t : Tree} → BodyReads s b k body → Good s v → Reads s v u → subst u 0 body ≡ t → ResultReads s (opened b v k) t
  itself_reads : {p : Ptr} {t : Tree} → Good s p → Reads s p t → ResultReads s (itself p) t
  number_reads : {n : ℕ} → ResultReads s (a_number n) (num n)
  constant_reads : {d : ℕ} → ResultReads s (a_constant d) (const d 0)

pub num_fields : (s : Store) (n : ℕ) → FieldsOk s (length s) (leaf (K.num n))
unfolding fields table
num_fields s n = node_fields (plain_ok refl) (plain_ok refl) (plain_ok refl)

pub const_fields : (s : Store) (d n : ℕ) → FieldsOk s (length s) (leaf (K.const d n))
unfolding fields table
const_fields s d n = node_fields (plain_ok refl) (plain_ok refl) (plain_ok refl)

pub gives_reads : {s : Store} {r : Result} {g : Got} {t : Tree} → Formed s → ResultReads s r t → Gives s r g → Replaced s g t
gives_reads {s} {g = g} f (opened_reads b o r e) (by_replacement q) = along (Replaced s g) e (body_given f b o r q)
gives_reads {s} f (itself_reads o r) (no_row e) = to e (record { more = ext_same s; formed = f; good = o; reads = r })
gives_reads {s} f (number_reads {n = n}) (number_row e) = to e (put_reads f (num_fields s n) reads_num)
gives_reads {s} f (constant_reads {d = d}) (constant_row e) = to e (put_reads f (const_fields s d 0) reads_const)

-- what is due: the result applied to the remaining arguments
pub due_reads : {s : Store} {r : Result} {xs : List Ptr} {g : Got} {t : Tree} {us : List Tree} →
    Formed s → ResultReads s r t → ReadAll s xs us → Due s r xs g → Replaced s g (apply t us)
due_reads {xs = xs} f r q d =
    let a = gives_reads f r d.gives in
    let j = joined_reads xs a.formed a.good a.reads (all_later f a.more q) in
    to d.applied (record { more = ext_then a.more j.more; formed = j.formed; good = j.good; reads = j.reads })

-- what is paid for is what was due
pub pays_due : {m m' : Tally} {r : Result} {xs : List Ptr} {t' : Ptr} → Pays m r xs m' t' → Due m.store r xs (got m'.store t')
pays_due {m} {r = r} {xs} {t'} p =
    along (λ (x : Tally). Due m.store r xs (got x.store t')) p.then_tally
    (along (λ (t : Ptr). Due m.store r xs (got p.due.store t)) p.then_term p.is_due)

-- A HEAD

-- a term with its head h and its arguments xs, as the rules find them
pub head_reads : {s : Store} {t : Ptr} {w : Row} {k : ℕ} {xs : List Ptr} {u : Tree} →
    Formed s → Good s t → Reads s t u → (h : Head s t w k xs) → SpineReads s h.at xs u
unfolding apply
head_reads f o r h = spine_reads f o r none_left h.spine

-- what is good at a head: its row's fields, its arguments
pub record HeadGood (s : Store) (w : Row) (xs : List Ptr) : Type 0 where
  pub fields : FieldsOk s (length s) w
  pub arguments : AllGood s xs

pub head_good : {s : Store} {t : Ptr} {w : Row} {k : ℕ} {xs : List Ptr} → Formed s → Good s t → Head s t w k xs → HeadGood s w xs
head_good f o h =
    let p = head_reads f o (reads_exists f o).reads h in
    record { fields = fields_at f p.good h.row; arguments = all_good p.arguments }

-- FIRINGS

-- t reads as (λ type. body) argument rest.., and what is due reads as body with the argument put in, applied to the rest
pub record Beta (s : Store) (t : Ptr) (g : Got) : Type 0 where
  pub type : Tree
  pub body : Tree
  pub argument : Tree
  pub rest : List Tree
  pub before : Reads s t (apply (app (lam type body) argument) rest)
  pub after : Replaced s g (apply (subst argument 0 body) rest)

-- t reads as (let type := value in body) rest.., and what is due reads as body with the value put in, applied to the rest
pub record Zeta (s : Store) (t : Ptr) (g : Got) : Type 0 where
  pub type : Tree
  pub value : Tree
  pub body : Tree
  pub rest : List Tree
  pub before : Reads s t (apply (let' type value body) rest)
  pub after : Replaced s g (apply (subst value 0 body) rest)

-- t reads as `head` applied to the rest, and what is due, perhaps after more rows were written, reads as `value` applied to the rest
pub record Unfolds (s : Store) (t : Ptr) (head : Tree) (s₁ : Store) (g : Got) (value : Tree) : Type 0 where
  pub rest : List Tree
  pub before : Reads s t (apply head rest)
  pub after : Replaced s₁ g (apply value rest)

-- the head and the arguments are read: what remains is which tree each is
beta_from : {s : Store} {t a x b : Ptr} {k : ℕ} {xs : List Ptr} {u v : Tree} {us : List Tree} {g : Got} →
    Formed s → BinderReads lam s x b k u → ReadAll s (a ∷ xs) us → apply u us ≡ v → Reads s t v → Due s (opened b a k) xs g → Beta s t g
unfolding apply
beta_from {s} {t} f l (and_then {u = w} {us = us} o r q) e c d = record {
  type = l.type;
  body = l.body;
  argument = w;
  rest = us;
  before = along (Reads s t) (sym (ap (λ (z : Tree). apply (app z w) us) l.is ∙ e)) c;
  after = due_reads f (opened_reads l.under o r refl) q d;
}

pub beta_fires : {s : Store} {t x b z a : Ptr} {k : ℕ} {xs : List Ptr} {g : Got} →
    Formed s → Good s t → Head s t (node K.lam x b z) k (a ∷ xs) → Due s (opened b a k) xs g → Beta s t g
beta_fires {s} {x = x} {b} {k = k} f o h d =
    let r = reads_exists f o in
    let p = head_reads f o r.reads h in
    let l = lam_reads f p.good h.row p.reads in
    beta_from f (along (λ (n : ℕ). BinderReads lam s x b n p.tree) h.shift l) p.arguments p.whole r.reads d

zeta_from : {s : Store} {t x v b a : Ptr} {k : ℕ} {xs : List Ptr} {u w : Tree} {us : List Tree} {g : Got} →
    Formed s → LetReads s x v b k u → ReadAll s xs us → apply u us ≡ w → Reads s t w → up s v k ≡ a → Due s (opened b a k) xs g → Zeta s t g
zeta_from {s} {t} {us = us} f l q e c i d = record {
  type = l.type;
  value = l.value;
  body = l.body;
  rest = us;
  before = along (Reads s t) (sym (ap (λ (z : Tree). apply z us) l.is ∙ e)) c;
  after = due_reads f (opened_reads l.under (along (Good s) i l.good_value) (along (λ (p : Ptr). Reads s p l.value) i l.reads_value) refl) q d;
}

pub zeta_fires : {s : Store} {t x v b u : Ptr} {k : ℕ} {xs : List Ptr} {g : Got} →
    Formed s → Good s t → Head s t (node K.let' x v b) k xs → up s v k ≡ u → Due s (opened b u k) xs g → Zeta s t g
zeta_fires {s} {x = x} {v} {b} f o h e d =
    let r = reads_exists f o in
    let p = head_reads f o r.reads h in
    let l = let_reads f p.good h.row p.reads in
    zeta_from f (along (λ (n : ℕ). LetReads s x v b n p.tree) h.shift l) p.arguments p.whole r.reads e d

-- a pointer for the head, the arguments as they were
unfolds_from : {s s₁ : Store} {t p : Ptr} {xs : List Ptr} {h h' u value : Tree} {us : List Tree} {g : Got} →
    Formed s → Reads s t u → apply h us ≡ u → h ≡ h' → ReadAll s xs us → Ext s s₁ → Formed s₁ → Good s₁ p → Reads s₁ p value → Due s₁ (itself p) xs g →
    Unfolds s t h' s₁ g value
unfolds_from {s} {t = t} {us = us} f r e i q x f₁ o c d = record {
  rest = us;
  before = along (Reads s t) (sym e ∙ ap (λ (z : Tree). apply z us) i) r;
  after = due_reads f₁ (itself_reads o c) (all_later f x q) d;
}

var_tree : {s : Store} {i : ℕ} {t u : Tree} (k : ℕ) → ReadsRow s (R.var i) u → shift k 0 u ≡ t → t ≡ var (i + k)
var_tree {i = i} k reads_var e = sym e ∙ shift_high k 0 i (omega arith)

-- the variable is i under the head's shift k; its context value v is brought past the newest records, its own among them
pub variable_fires : (e : Env) {s : Store} {t v u : Ptr} {k i : ℕ} {xs : List Ptr} {g : Got} {value : Tree} →
    Formed s → Good s t → Good s v → Reads s v value → Head s t (R.var i) k xs → value_of e (i + k) ≡ some v → up s v (suc (i + k)) ≡ u →
    Due s (itself u) xs g → Unfolds s t (var (i + k)) s g (shift (suc (i + k)) 0 value)
variable_fires env {s} {k = k} {i} {value = value} f o y c h a e d =
    let r = reads_exists f o in
    let p = head_reads f o r.reads h in
    let w = at_row h.row p.reads in
    let is_var : p.tree ≡ var (i + k) = var_tree h.at.shift w.row w.is ∙ ap (λ (n : ℕ). var (i + n)) h.shift in
    unfolds_from f r.reads p.whole is_var p.arguments (ext_same s) f (along (Good s) e (up_child (suc (i + k)) y))
    (along (λ (z : Ptr). Reads s z (shift (suc (i + k)) 0 value)) e (value_reads (i + k) f y c)) d

const_tree : {s : Store} {d n : ℕ} {x y z : Ptr} {t u : Tree} (k : ℕ) → ReadsRow s (node (K.const d n) x y z) u → shift k 0 u ≡ t → t ≡ const d n
unfolding shift
const_tree k reads_const e = sym e

-- a constant's value, after the rules tried before have perhaps written rows
pub delta_fires : {s s₁ : Store} {t x y z v : Ptr} {k d n : ℕ} {xs : List Ptr} {g : Got} {value : Tree} →
    Formed s → Good s t → Head s t (node (K.const d n) x y z) k xs → Ext s s₁ → Formed s₁ → Good s₁ v → Reads s₁ v value → Due s₁ (itself v) xs g →
    Unfolds s t (const d n) s₁ g value
delta_fires f o h x f₁ q c d =
    let r = reads_exists f o in
    let p = head_reads f o r.reads h in
    let w = at_row h.row p.reads in
    unfolds_from f r.reads p.whole (const_tree h.at.shift w.row w.is) p.arguments x f₁ q c d
