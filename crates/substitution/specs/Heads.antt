-- The head rules' use of replacement, in textbook words: a lambda's argument, a let's value, a context's value; and a lambda's or
-- a pi's body opened for inference. Assumes a formed store and good pointers, and of a pointer what its row is.
use Rattle.std.specs.Prelude.{ℕ, suc, ◌≡◌, refl, length}
use Rattle.std.proofs.Common.{subst as along}
use Rattle.std.proofs.Math.Option.{none, some}
use Rattle.rules.specs.Kinds.{table, fields}
use Rattle.rules.specs.Kinds as K
use Rattle.rules.specs.Rows.{Ptr, node, Store, row_at, up, Got}
use Rattle.rules.specs.RowCheck.{FieldOk}
use Rattle.rules.specs.Replacement.{Replaces}
use Rattle.rules.specs.ReadOut.{Tree, lam, pi, let', shift, subst, Reads, ReadsRow, reads_lam, reads_pi, reads_let}
use Rattle.substitution.specs.TreeLaws.{move_some, shift_zero}
use Rattle.substitution.specs.Stores.{FieldsOk, first_ok, second_ok, third_ok, term_child, body_child, Formed, Good, fields_at, up_child}
use Rattle.substitution.specs.Reading.{at_row}
use Rattle.substitution.specs.Bounds.{reads_up}
use Rattle.substitution.specs.Replacing.{Replaced, a_value, replace_moves, replace_none_reads}

-- UNDER A BINDER

-- the pointer b reads as `base`, which the shift k of the head above its binder takes to `body`
pub record BodyReads (s : Store) (b : Ptr) (k : ℕ) (body : Tree) : Type 0 where
  pub base : Tree
  pub good : Good s b
  pub reads : Reads s b base
  pub is : shift k 1 base ≡ body

-- a value put in: the shift is replacement's move, and the value is not moved by it. Shown from replace_moves, so that nothing in specs/ rests on
-- replace_some_reads, whose statement edits of must-fail/ change.
pub body_given : {s : Store} {b a : Ptr} {k : ℕ} {body u : Tree} {g : Got} →
    Formed s → BodyReads s b k body → Good s a → Reads s a u → Replaces (some a) k 0 s b g → Replaced s g (subst u 0 body)
body_given {s} {k = k} {u = u} {g} f b o r q =
    along (λ (t : Tree). Replaced s g (subst u 0 t)) b.is
    (along (λ (v : Tree). Replaced s g (subst v 0 (shift k 1 b.base))) (shift_zero 0 u)
    (along (Replaced s g) (move_some u k 0 b.base) (replace_moves f b.good (a_value o r) b.reads q)))

-- opened as it stands
pub body_opened : {s : Store} {b : Ptr} {k : ℕ} {body : Tree} {g : Got} → Formed s → BodyReads s b k body → Replaces none k 1 s b g → Replaced s g body
body_opened {s} {g = g} f b q = along (Replaced s g) b.is (replace_none_reads f b.good b.reads q)

-- HEADS BY THEIR ROWS

-- a lambda or a pi: its type and its body, shifted with it
pub record BinderReads (binder : Tree → Tree → Tree) (s : Store) (x b : Ptr) (k : ℕ) (t : Tree) : Type 0 where
  pub type : Tree
  pub body : Tree
  pub good_type : Good s (up s x k)
  pub reads_type : Reads s (up s x k) type
  pub under : BodyReads s b k body
  pub is : binder type body ≡ t

binder_parts : {s : Store} {x b : Ptr} {t u w : Tree} (binder : Tree → Tree → Tree) (k : ℕ) →
    Formed s → FieldOk s (length s) x K.term → FieldOk s (length s) b K.body → Reads s x t → Reads s b u → binder (shift k 0 t) (shift k 1 u) ≡ w →
    BinderReads binder s x b k w
binder_parts {t = t} {u = u} binder k f o y q r e = record {
  type = shift k 0 t;
  body = shift k 1 u;
  good_type = up_child k (term_child o);
  reads_type = reads_up k f (term_child o) q;
  under = record { base = u; good = body_child y; reads = r; is = refl };
  is = e;
}

lam_row : {s : Store} {x b z : Ptr} {t u : Tree} (k : ℕ) →
    Formed s → FieldsOk s (length s) (node K.lam x b z) → ReadsRow s (node K.lam x b z) u → shift k 0 u ≡ t → BinderReads lam s x b k t
unfolding shift fields table
lam_row k f o (reads_lam q r) e = binder_parts lam k f (first_ok o) (second_ok o) q r e

pi_row : {s : Store} {x b z : Ptr} {t u : Tree} (k : ℕ) →
    Formed s → FieldsOk s (length s) (node K.pi x b z) → ReadsRow s (node K.pi x b z) u → shift k 0 u ≡ t → BinderReads pi s x b k t
unfolding shift fields table
pi_row k f o (reads_pi q r) e = binder_parts pi k f (first_ok o) (second_ok o) q r e

pub lam_reads : {s : Store} {p x b z : Ptr} {t : Tree} →
    Formed s → Good s p → row_at s p.row ≡ node K.lam x b z → Reads s p t → BinderReads lam s x b p.shift t
lam_reads {p = p} f o e r = let w = at_row e r in lam_row p.shift f (fields_at f o e) w.row w.is

pub pi_reads : {s : Store} {p x b z : Ptr} {t : Tree} →
    Formed s → Good s p → row_at s p.row ≡ node K.pi x b z → Reads s p t → BinderReads pi s x b p.shift t
pi_reads {p = p} f o e r = let w = at_row e r in pi_row p.shift f (fields_at f o e) w.row w.is

-- a let: its type, value and body, shifted with it
pub record LetReads (s : Store) (x v b : Ptr) (k : ℕ) (t : Tree) : Type 0 where
  pub type : Tree
  pub value : Tree
  pub body : Tree
  pub good_value : Good s (up s v k)
  pub reads_value : Reads s (up s v k) value
  pub under : BodyReads s b k body
  pub is : let' type value body ≡ t

let_row : {s : Store} {x v b : Ptr} {t u : Tree} (k : ℕ) →
    Formed s → FieldsOk s (length s) (node K.let' x v b) → ReadsRow s (node K.let' x v b) u → shift k 0 u ≡ t → LetReads s x v b k t
unfolding shift fields table
let_row k f o (reads_let {t = t} {u = u} {w = w} q r c) e = record {
  type = shift k 0 t;
  value = shift k 0 u;
  body = shift k 1 w;
  good_value = up_child k (term_child (second_ok o));
  reads_value = reads_up k f (term_child (second_ok o)) r;
  under = record { base = w; good = body_child (third_ok o); reads = c; is = refl };
  is = e;
}

pub let_reads : {s : Store} {p x v b : Ptr} {t : Tree} →
    Formed s → Good s p → row_at s p.row ≡ node K.let' x v b → Reads s p t → LetReads s x v b p.shift t
let_reads {p = p} f o e r = let w = at_row e r in let_row p.shift f (fields_at f o e) w.row w.is

-- THE THREE RULES

-- beta: the head reads as a lambda and the argument as a; the argument replaced into the body, with k the head's shift
pub beta_reads : {s : Store} {head arg x b z : Ptr} {type body a : Tree} {g : Got} →
    Formed s → Good s head → Good s arg → row_at s head.row ≡ node K.lam x b z → Reads s head (lam type body) → Reads s arg a →
    Replaces (some arg) head.shift 0 s b g → Replaced s g (subst a 0 body)
beta_reads {s} {body = body} {a = a} {g = g} f o y e r q c =
    let l = lam_reads f o e r in
    let same : l.body ≡ body = cc l.is in
    along (λ (t : Tree). Replaced s g (subst a 0 t)) same (body_given f l.under y q c)

-- let: its value, shifted with the head, into the body, same k
pub zeta_reads : {s : Store} {head x v b : Ptr} {type value body : Tree} {g : Got} →
    Formed s → Good s head → row_at s head.row ≡ node K.let' x v b → Reads s head (let' type value body) →
    Replaces (some (up s v head.shift)) head.shift 0 s b g → Replaced s g (subst value 0 body)
zeta_reads {s} {value = value} {body = body} {g = g} f o e r c =
    let l = let_reads f o e r in
    let same : l.body ≡ body = cc l.is in
    let same_value : l.value ≡ value = cc l.is in
    along (λ (t : Tree). Replaced s g (subst value 0 t)) same
    (along (λ (u : Tree). Replaced s g (subst u 0 l.body)) same_value (body_given f l.under l.good_value l.reads_value c))

-- a context value of variable i, brought to where the variable stands
pub value_reads : {s : Store} {v : Ptr} {value : Tree} (i : ℕ) → Formed s → Good s v → Reads s v value → Reads s (up s v (suc i)) (shift (suc i) 0 value)
value_reads i f o r = reads_up (suc i) f o r
