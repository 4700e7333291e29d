-- Spines read out: a pointer reads as its head's tree applied to its arguments' trees, and so does what joining arguments on writes.
-- Assumes a formed store and good pointers.
use Rattle.std.specs.Prelude.{ℕ, ◌≡◌, refl, List, [], ◌∷◌, length}
use Rattle.std.proofs.Common.{subst as along}
use Rattle.rules.specs.Kinds.{table, fields}
use Rattle.rules.specs.Kinds as K
use Rattle.rules.specs.Rows.{Ptr, blank, node, put, Store, up}
use Rattle.rules.specs.RowCheck.{plain_ok, term_ok}
use Rattle.rules.specs.Spines.{Spine, head, through, joined}
use Rattle.rules.specs.ReadOut.{Tree, app, shift, Reads, ReadsRow, reads_app}
use Rattle.substitution.specs.Stores.{FieldsOk, node_fields, first_ok, second_ok, term_child, Formed, Good, fields_at, Ext, ext_same, ext_then}
use Rattle.substitution.specs.Stores.{ext_good, up_child}
use Rattle.substitution.specs.Reading.{reads_exists, reads_later, at_row}
use Rattle.substitution.specs.Bounds.{reads_up}
use Rattle.substitution.specs.Replacing.{Replaced, put_reads}

-- a tree applied to trees in turn
unfoldable pub apply : Tree → List Tree → Tree
apply t [] = t
apply t (u ∷ us) = apply (app t u) us

-- good pointers, and the trees that they read as
pub data ReadAll (s : Store) : List Ptr → List Tree → Type 0 where
  none_left : ReadAll s [] []
  and_then : {a : Ptr} {u : Tree} {xs : List Ptr} {us : List Tree} → Good s a → Reads s a u → ReadAll s xs us → ReadAll s (a ∷ xs) (u ∷ us)

pub all_later : {s s' : Store} {xs : List Ptr} {us : List Tree} → Formed s → Ext s s' → ReadAll s xs us → ReadAll s' xs us
all_later f e none_left = none_left
all_later f e (and_then o r q) = and_then (ext_good e o) (reads_later f e o r) (all_later f e q)

-- good pointers alone
pub data AllGood (s : Store) : List Ptr → Type 0 where
  no_more : AllGood s []
  and_good : {a : Ptr} {xs : List Ptr} → Good s a → AllGood s xs → AllGood s (a ∷ xs)

pub all_good : {s : Store} {xs : List Ptr} {us : List Tree} → ReadAll s xs us → AllGood s xs
all_good none_left = no_more
all_good (and_then o r q) = and_good o (all_good q)

pub record AllRead (s : Store) (xs : List Ptr) : Type 0 where
  pub trees : List Tree
  pub all : ReadAll s xs trees

pub all_read : {s : Store} {xs : List Ptr} → Formed s → AllGood s xs → AllRead s xs
all_read f no_more = record { trees = []; all = none_left }
all_read f (and_good o q) =
    let r = reads_exists f o in
    let c = all_read f q in
    record { trees = r.tree ∷ c.trees; all = and_then o r.reads c.all }

-- DOWN A SPINE

-- the head h and the arguments ys of what reads as t
pub record SpineReads (s : Store) (h : Ptr) (ys : List Ptr) (t : Tree) : Type 0 where
  pub tree : Tree
  pub trees : List Tree
  pub good : Good s h
  pub reads : Reads s h tree
  pub arguments : ReadAll s ys trees
  pub whole : apply tree trees ≡ t

-- an application's function and argument, both shifted by k with it
record AppParts (s : Store) (f a : Ptr) (k : ℕ) (t : Tree) : Type 0 where
  function : Tree
  argument : Tree
  good_function : Good s (up s f k)
  good_argument : Good s (up s a k)
  reads_function : Reads s (up s f k) function
  reads_argument : Reads s (up s a k) argument
  whole : app function argument ≡ t

app_parts : {s : Store} {f a z : Ptr} {t u : Tree} (k : ℕ) →
    Formed s → FieldsOk s (length s) (node K.app f a z) → ReadsRow s (node K.app f a z) u → shift k 0 u ≡ t → AppParts s f a k t
unfolding shift fields table
app_parts k d o (reads_app {t = x} {u = y} q q') e = record {
  function = shift k 0 x;
  argument = shift k 0 y;
  good_function = up_child k (term_child (first_ok o));
  good_argument = up_child k (term_child (second_ok o));
  reads_function = reads_up k d (term_child (first_ok o)) q;
  reads_argument = reads_up k d (term_child (second_ok o)) q';
  whole = e;
}

pub spine_reads : {s : Store} {p h : Ptr} {xs ys : List Ptr} {t : Tree} {us : List Tree} →
    Formed s → Good s p → Reads s p t → ReadAll s xs us → Spine s p xs h ys → SpineReads s h ys (apply t us)
unfolding apply
spine_reads {t = t} {us = us} d o r q (head n) = record { tree = t; trees = us; good = o; reads = r; arguments = q; whole = refl }
spine_reads {s} {p} {us = us} d o r q (through {h = h} {ys = ys} e c) =
    let w = at_row e r in
    let b = app_parts p.shift d (fields_at d o e) w.row w.is in
    let r' = spine_reads d b.good_function b.reads_function (and_then b.good_argument b.reads_argument q) c in
    along (λ (t : Tree). SpineReads s h ys (apply t us)) b.whole r'

-- ARGUMENTS JOINED ON

pub app_fields : {s : Store} {p a : Ptr} → Good s p → Good s a → FieldsOk s (length s) (node K.app p a blank)
unfolding fields table
app_fields o q = node_fields (term_ok o) (term_ok q) (plain_ok refl)

pub joined_reads : {s : Store} {p : Ptr} {t : Tree} (xs : List Ptr) {us : List Tree} →
    Formed s → Good s p → Reads s p t → ReadAll s xs us → Replaced s (joined s p xs) (apply t us)
unfolding joined apply
joined_reads {s} [] f o r none_left = record { more = ext_same s; formed = f; good = o; reads = r }
joined_reads {s = s} {p = p} (a ∷ xs) f o r (and_then y q c) =
    let d = put_reads f (app_fields o y) (reads_app r q) in
    let j = joined_reads {s = (put s (node K.app p a blank)).store} xs d.formed d.good d.reads (all_later f d.more c) in
    record { more = ext_then d.more j.more; formed = j.formed; good = j.good; reads = j.reads }
