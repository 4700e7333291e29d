-- Pointers that merely read alike are a likeness too: at heads that read alike the rules are twins. Rows and their numbers may differ, so nothing is said
-- of what is written: that two such courses keep step is not shown here. Assumes formed stores and good pointers on both sides.
use Rattle.std.specs.Prelude.{ℕ, ◌+◌, ◌≡◌, refl, List, length}
use Rattle.std.proofs.Common.{arith, sym, ◌∙◌, subst as along}
use Rattle.rules.specs.Kinds.{table, fields}
use Rattle.rules.specs.Kinds as K
use Rattle.rules.specs.Rows.{Ptr, Row, node, Store, row_at, up, put}
use Rattle.rules.specs.Rows as R
use Rattle.rules.specs.RowCheck.{plain_ok, term_ok}
use Rattle.rules.specs.Declarations.{Env}
use Rattle.rules.specs.ReadOut.{Tree, var, sort, const, app, lam, pi, let', proj, num, shift, Reads, ReadsRow, reads_var, reads_sort, reads_const}
use Rattle.rules.specs.ReadOut.{reads_app, reads_lam, reads_pi, reads_let, reads_proj, reads_num}
use Rattle.substitution.specs.Trees.{shift_high}
use Rattle.substitution.specs.Stores.{FieldsOk, node_fields, first_ok, second_ok, third_ok, term_child, body_child, Formed, Good, good_fields}
use Rattle.substitution.specs.Stores.{ext_good, up_child}
use Rattle.substitution.specs.Reading.{reads_later, before_shift}
use Rattle.substitution.specs.Bounds.{reads_up}
use Rattle.substitution.specs.Replacing.{Replaced, put_reads}
use Rattle.substitution.specs.Heads.{BodyReads}
use Rattle.course.specs.Tries.{rules}
use Rattle.again.specs.Alike.{Each, Grown, NewRow, new_const, new_num, new_app, Likeness, HeadLike, head_var, head_sort, head_const, head_app}
use Rattle.again.specs.Alike.{head_lam, head_pi, head_let, head_proj, head_num, EnvLike}
use Rattle.again.specs.Twins.{Twin, rules_twin}

pub record BothFormed (s s̃ : Store) : Type 0 where
  pub left : Formed s
  pub right : Formed s̃

-- one tree, read on both sides
pub record ReadAlike (s s̃ : Store) (p p̃ : Ptr) : Type 0 where
  pub tree : Tree
  pub good : Good s p
  pub good_right : Good s̃ p̃
  pub reads : Reads s p tree
  pub reads_right : Reads s̃ p̃ tree

-- one body, once each has taken on the shift of the head above it
pub record BodyAlike (s s̃ : Store) (b : Ptr) (k : ℕ) (b̃ : Ptr) (l : ℕ) : Type 0 where
  pub body : Tree
  pub left : BodyReads s b k body
  pub right : BodyReads s̃ b̃ l body

pub later_alike : {s s̃ s₁ s̃₁ : Store} {p p̃ : Ptr} → Grown BothFormed s s̃ s₁ s̃₁ → ReadAlike s s̃ p p̃ → ReadAlike s₁ s̃₁ p p̃
later_alike g r = record {
  tree = r.tree;
  good = ext_good g.left r.good;
  good_right = ext_good g.right r.good_right;
  reads = reads_later g.before.left g.left r.good r.reads;
  reads_right = reads_later g.before.right g.right r.good_right r.reads_right;
}

pub shifted_alike : {s s̃ : Store} {p p̃ : Ptr} → BothFormed s s̃ → ReadAlike s s̃ p p̃ → (k : ℕ) → ReadAlike s s̃ (up s p k) (up s̃ p̃ k)
shifted_alike f r k = record {
  tree = shift k 0 r.tree;
  good = up_child k r.good;
  good_right = up_child k r.good_right;
  reads = reads_up k f.left r.good r.reads;
  reads_right = reads_up k f.right r.good_right r.reads_right;
}

-- a new row and its twin read as one tree
record NewReads (s s̃ : Store) (w w̃ : Row) : Type 0 where
  tree : Tree
  left : Replaced s (put s w) tree
  right : Replaced s̃ (put s̃ w̃) tree

new_reads : {s s̃ : Store} {w w̃ : Row} → BothFormed s s̃ → NewRow ReadAlike s s̃ w w̃ → NewReads s s̃ w w̃
unfolding fields table
new_reads f (new_const {d = d} {n = n}) = record {
  tree = const d n;
  left = put_reads f.left (node_fields (plain_ok refl) (plain_ok refl) (plain_ok refl)) reads_const;
  right = put_reads f.right (node_fields (plain_ok refl) (plain_ok refl) (plain_ok refl)) reads_const;
}
new_reads f (new_num {n = n}) = record {
  tree = num n;
  left = put_reads f.left (node_fields (plain_ok refl) (plain_ok refl) (plain_ok refl)) reads_num;
  right = put_reads f.right (node_fields (plain_ok refl) (plain_ok refl) (plain_ok refl)) reads_num;
}
new_reads f (new_app p q) = record {
  tree = app p.tree q.tree;
  left = put_reads f.left (node_fields (term_ok p.good) (term_ok q.good) (plain_ok refl)) (reads_app p.reads q.reads);
  right = put_reads f.right (node_fields (term_ok p.good_right) (term_ok q.good_right) (plain_ok refl)) (reads_app p.reads_right q.reads_right);
}

pub written_alike : {s s̃ : Store} {w w̃ : Row} → BothFormed s s̃ → NewRow ReadAlike s s̃ w w̃ → BothFormed (put s w).store (put s̃ w̃).store
written_alike f n = let r = new_reads f n in record { left = r.left.formed; right = r.right.formed }

pub pointed_alike : {s s̃ : Store} {w w̃ : Row} → BothFormed s s̃ → NewRow ReadAlike s s̃ w w̃ → ReadAlike (put s w).store (put s̃ w̃).store (put s w).at (put s̃ w̃).at
pointed_alike f n =
    let r = new_reads f n in
    record { tree = r.tree; good = r.left.good; good_right = r.right.good; reads = r.left.reads; reads_right = r.right.reads }

abbrev pub reading : Likeness
reading = record {
  stores = BothFormed;
  pointers = ReadAlike;
  bodies = BodyAlike;
  later = later_alike;
  shifted = shifted_alike;
  written = written_alike;
  pointed = pointed_alike;
}

-- HEADS

-- what a head's row and shift give to the tree that it reads as
data HeadReads (s : Store) (k : ℕ) : Row → Tree → Type 0 where
  at_var : {i j : ℕ} → i + k ≡ j → HeadReads s k (R.var i) (var j)
  at_sort : {l : ℕ} {x y z : Ptr} → HeadReads s k (node (K.sort l) x y z) (sort l)
  at_const : {d n : ℕ} {x y z : Ptr} → HeadReads s k (node (K.const d n) x y z) (const d n)
  at_app : {x y z : Ptr} {t u : Tree} → HeadReads s k (node K.app x y z) (app t u)
  at_lam : {x y z : Ptr} {t u : Tree} → BodyReads s y k u → HeadReads s k (node K.lam x y z) (lam t u)
  at_pi : {x y z : Ptr} {t u : Tree} → HeadReads s k (node K.pi x y z) (pi t u)
  at_let : {x y z : Ptr} {t u w : Tree} → Good s (up s y k) → Reads s (up s y k) u → BodyReads s z k w → HeadReads s k (node K.let' x y z) (let' t u w)
  at_proj : {d i : ℕ} {x y z : Ptr} {t : Tree} → Good s (up s x k) → Reads s (up s x k) t → HeadReads s k (node (K.proj d i) x y z) (proj d i t)
  at_num : {n : ℕ} {x y z : Ptr} → HeadReads s k (node (K.num n) x y z) (num n)

row_reads : {s : Store} {w : Row} {u : Tree} (k : ℕ) → Formed s → FieldsOk s (length s) w → ReadsRow s w u → HeadReads s k w (shift k 0 u)
unfolding shift fields table
row_reads {s} k f o (reads_var {i = i}) = along (HeadReads s k (R.var i)) (sym (shift_high k 0 i (omega arith))) (at_var refl)
row_reads k f o reads_sort = at_sort
row_reads k f o reads_const = at_const
row_reads k f o (reads_app q r) = at_app
row_reads k f o (reads_lam {u = u} q r) = at_lam (record { base = u; good = body_child (second_ok o); reads = r; is = refl })
row_reads k f o (reads_pi q r) = at_pi
row_reads k f o (reads_let {w = w} q r c) =
    at_let (up_child k (term_child (second_ok o))) (reads_up k f (term_child (second_ok o)) r) (record { base = w; good = body_child (third_ok o); reads = c; is = refl })
row_reads k f o (reads_proj q) = at_proj (up_child k (term_child (first_ok o))) (reads_up k f (term_child (first_ok o)) q)
row_reads k f o reads_num = at_num

head_reads : {s : Store} {h : Ptr} {t : Tree} → Formed s → Good s h → Reads s h t → HeadReads s h.shift (row_at s h.row) t
head_reads {s} {h} f o r =
    let b = before_shift r in along (HeadReads s h.shift (row_at s h.row)) b.is (row_reads h.shift f (good_fields f o) b.row)

-- one tree: the same kind
one_tree : {s s̃ : Store} {k l : ℕ} {w w̃ : Row} {t : Tree} → HeadReads s k w t → HeadReads s̃ l w̃ t → HeadLike reading s s̃ w k w̃ l
one_tree (at_var p) (at_var q) = head_var (p ∙ sym q)
one_tree at_sort at_sort = head_sort
one_tree at_const at_const = head_const
one_tree at_app at_app = head_app
one_tree (at_lam {u = u} b) (at_lam c) = head_lam (record { body = u; left = b; right = c })
one_tree at_pi at_pi = head_pi
one_tree (at_let {u = u} {w = w} o r b) (at_let p q c) =
    head_let (record { tree = u; good = o; good_right = p; reads = r; reads_right = q }) (record { body = w; left = b; right = c })
one_tree (at_proj {t = t} o r) (at_proj p q) = head_proj (record { tree = t; good = o; good_right = p; reads = r; reads_right = q })
one_tree at_num at_num = head_num

-- at heads that read alike, with arguments that do, the rules are twins
pub rules_read_alike : {s s̃ : Store} {e ẽ : Env} (h h̃ : Ptr) {xs x̃s : List Ptr} → BothFormed s s̃ → EnvLike reading s s̃ e ẽ → ReadAlike s s̃ h h̃ →
    Each (ReadAlike s s̃) xs x̃s → Twin reading s s̃ (rules e s h xs) (rules ẽ s̃ h̃ x̃s)
rules_read_alike h h̃ f v r q =
    rules_twin reading h h̃ f v (one_tree (head_reads f.left r.good r.reads) (head_reads f.right r.good_right r.reads_right)) q
