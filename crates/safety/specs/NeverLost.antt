-- Over a sane store with a term in scope the evaluator is never lost: the recorded height is enough for a spine and for a firing's rows, and a
-- course comes to no other place. Assumes a sane store and a term in scope.
use Prim.Native.Nat.{ℕ, zero, suc, ◌+◌, ◌-◌, ◌≤◌, ◌<◌}
use Rattle.std.proofs.Common.{le_refl, arith, sym, ap, ◌∙◌}
use Rattle.std.specs.Prelude.{◌≡◌, refl, List, [], ◌∷◌, length}
use Rattle.std.proofs.Math.Option.{Option, none, some}
use Rattle.rules.specs.Kinds.{Tag, app, table, fields}
use Rattle.rules.specs.Rows.{Ptr, Row, node, Cell, Store, cell_at, row_at, bound, up_on, up, field_height, cell, Got, got}
use Rattle.rules.specs.RowCheck.{FieldOk, plain_ok, term_ok, body_ok, InScope}
use Rattle.rules.specs.Declarations.{Env}
use Rattle.rules.specs.Replacement.{count, Replaces}
use Rattle.rules.specs.Spines.{joined}
use Rattle.rules.specs.Firings.{Tally, Result}
use Rattle.rules.specs.HeadTests.{given}
use Rattle.rules.specs.Refusals.{Limits}
use Rattle.course.specs.Views.{Cmp, up_to, over, cmp, AppView, is_app, no_app, app_view}
use Rattle.course.specs.Tries.{Try, firing}
use Rattle.course.specs.Eval.{on_field, on_row, on_ptr, replace_by, spine_on, spine_by, spine, give, due_of, lost, eval}
use Rattle.substitution.specs.Stores.{FieldsOk, var_fields, node_fields, first_ok, term_child, Formed, Good, good_fields, fields_at, scope_good, Ext}
use Rattle.substitution.specs.Stores.{ext_same, ext_then, ext_good_field, ext_field_height, up_child}
use Rattle.substitution.specs.Passing.{pass_formed}
use Rattle.substitution.specs.Existence.{ValueGood, some_good, value_good_later, replace_keeps, height_positive}
use Rattle.substitution.specs.Dues.{ResultGood, opened_good, itself_good, number_good, constant_good}
use Rattle.promises.specs.Stores.{ext_grow}
use Rattle.promises.specs.SaysRows.{All, just, replace_says}
use Rattle.promises.specs.Lost.{RunLoses, no_head, in_trying, in_paying, in_the_rest, TryLoses, past_rows, in_side, no_side_head, past_side}
use Rattle.promises.specs.Complete.{eval_lost}
use Rattle.safety.specs.Lists.{none_some}
use Rattle.safety.specs.Sane.{depth_of, decl_count, Sane, sane_later, Ready}
use Rattle.safety.specs.Scope.{result_good}
use Rattle.safety.specs.Parts.{grow_pass}
use Rattle.safety.specs.Safe.{Safe, safe_writes, safe_reduces, term_safe}
use Rattle.safety.specs.Keeps.{EndIn, firing_in, pays_keep, after_side, runs_keep, comes_keep}

pub data Found {A : Type 0} : Option A → Type 0 where
  found : {a : A} → Found (some a)

found_none : {A : Type 0} {o : Option A} → Found o → o ≡ none → ⊥
found_none found q = none_some (sym q)

-- a row's recorded height is that of its fields
height_at : {s : Store} {p : Ptr} → Formed s → Good s p → (cell_at s p.row).height ≡ (cell s (row_at s p.row)).height
height_at {p = p} f o = ap (λ (c : Cell). c.height) (f.each p.row o.lower).exact

pub never_flat : {s : Store} {p : Ptr} → Formed s → Good s p → (cell_at s p.row).height ≤ 0 → ⊥
never_flat {s} {p} f o h = omega (arith, height_positive s (row_at s p.row), height_at f o)

-- SPINES

up_row : (b : ℕ) (p : Ptr) (k : ℕ) → (up_on b p k).row ≡ p.row
up_row zero p k = refl
up_row (suc b) p k = refl

-- a function is lower than its application
function_lower : (s : Store) (f a z : Ptr) → (cell_at s f.row).height < (cell s (node app f a z)).height
unfolding cell fields table field_height
function_lower s f a z = omega arith

function_good : {s : Store} {p f a z : Ptr} → Formed s → Good s p → row_at s p.row ≡ node app f a z → Good s (up s f p.shift)
unfolding fields table
function_good {p = p} d o e = up_child p.shift (term_child (first_ok (fields_at d o e)))

spine_found : {s : Store} (n : ℕ) (p : Ptr) (xs : List Ptr) → Formed s → Good s p → (cell_at s p.row).height ≤ n → Found (spine_by n s p xs)
unfolding spine_by
spine_found zero p xs d o h = absurd (never_flat d o h)
spine_found {s} (suc n) p xs d o h = go (λ q ys. spine_found n q ys d) (app_view (row_at s p.row))
  where
    go : ((q : Ptr) (ys : List Ptr) → Good s q → (cell_at s q.row).height ≤ n → Found (spine_by n s q ys)) →
        (w : AppView (row_at s p.row)) → Found (spine_on (λ q ys. spine_by n s q ys) s p xs w)
    go ih (no_app i) = found
    go ih (is_app f a z e) =
        let same = ap (λ (r : ℕ). (cell_at s r).height) (up_row (cell_at s f.row).bound f p.shift) in
        let here = height_at d o ∙ ap (λ (w : Row). (cell s w).height) e in
        ih (up s f p.shift) (up s a p.shift ∷ xs) (function_good d o e) (omega (arith, same, here, function_lower s f a z))

then_found : {o : Option Got} (next : Got → Got) → Found o → Found (given o (λ g. some (next g)))
then_found next found = found

-- REPLACEMENT
module _ (v : Option Ptr) (k : ℕ) where
  -- pointers at rows of height at most n are replaced
  pub record Reaches (n : ℕ) : Type 0 where
    pub at : (c : ℕ) (s : Store) (p : Ptr) → Formed s → Good s p → ValueGood s v → (cell_at s p.row).height ≤ n → Found (replace_by v k n c s p)

  -- a result with what the next field starts from
  data Grown (s : Store) : Option Got → Type 0 where
    grown : {g : Got} → Ext s g.store → Formed g.store → Grown s (some g)

  replaced_grown : {c : ℕ} {s : Store} {p : Ptr} {o : Option Got} →
      Formed s → Good s p → ValueGood s v → Found o → All (Replaces v k c s p) o → Grown s o
  replaced_grown d o x found (just r) = let q = replace_keeps d o x r in grown q.more q.formed

  grown_then : {s : Store} {o : Option Got} {next : Got → Option Got} →
      Grown s o → ((g : Got) → Ext s g.store → Formed g.store → Found (next g)) → Found (given o next)
  grown_then (grown x d) h = h _ x d

  module _ (n : ℕ) (ready : Reaches n) where
    abbrev by : ℕ → Store → Ptr → Option Got
    by c s p = replace_by v k n c s p

    field_grown : {s : Store} {p : Ptr} {τ : Tag} (c : ℕ) →
        Formed s → FieldOk s (length s) p τ → ValueGood s v → field_height s τ p ≤ n → Grown s (on_field v k by τ c s p)
    unfolding field_height
    field_grown {s} c d (plain_ok o) x l = grown (ext_same s) d
    field_grown {s} {p} c d (term_ok o) x l = replaced_grown d o x (ready.at c s p d o x l) (replace_says v k n c s p)
    field_grown {s} {p} c d (body_ok o) x l = replaced_grown d o x (ready.at (suc c) s p d o x l) (replace_says v k n (suc c) s p)

    -- a field after others: its height is the one it had
    later_grown : {s s' : Store} {p : Ptr} {τ : Tag} (c : ℕ) → Ext s s' → Formed s' → FieldOk s (length s) p τ → ValueGood s v → field_height s τ p ≤ n →
        Grown s' (on_field v k by τ c s' p)
    later_grown c e d o x l = field_grown c d (ext_good_field e o) (value_good_later e x) (omega (arith, l, ext_field_height e (le_refl _) o))

    row_found : {s : Store} {w : Row} (c r : ℕ) →
        Formed s → FieldsOk s (length s) w → ValueGood s v → (cell s w).height ≤ suc n → Found (on_row v k by c s r w)
    unfolding on_row cell
    row_found c r d var_fields x l = found
    row_found c r d (node_fields a b z) x l =
        grown_then (field_grown c d a x (omega arith)) λ g₁ e₁ d₁.
        grown_then (later_grown c e₁ d₁ b x (omega arith)) λ g₂ e₂ d₂.
        grown_then (later_grown c (ext_then e₁ e₂) d₂ z x (omega arith)) λ g₃ e₃ d₃.
        found

    pointer_found : (c : ℕ) (s : Store) (p : Ptr) → Formed s → Good s p → ValueGood s v → (cell_at s p.row).height ≤ suc n →
        (a : Cmp (bound s p) c) (b : Cmp (c + count v) p.shift) → Found (on_ptr v k by c s p a b)
    pointer_found c s p d o x l (up_to h) b = found
    pointer_found c s p d o x l (over h) (up_to q) = found
    pointer_found c s p d o x l (over h) (over q) =
        then_found (λ g. got g.store (up g.store g.at p.shift))
        (row_found (c - p.shift) p.row d (good_fields d o) x (omega (arith, l, height_at d o)))

  pub reaches : (n : ℕ) → Reaches n
  unfolding replace_by
  reaches zero = record { at = λ c s p d o x l. absurd (never_flat d o l) }
  reaches (suc n) = record { at = λ c s p d o x l. pointer_found n (reaches n) c s p d o x l (cmp (bound s p) c) (cmp (c + count v) p.shift) }

-- A FIRING'S ROWS

give_found : {D : ℕ} {s : Store} {r : Result} → Formed s → ResultGood D s r → Found (give s r)
unfolding give
give_found {s = s} d (opened_good {b = b} {v = v} {k = k} o y) = (reaches (some v) k (cell_at s b.row).height).at 0 s b d o (some_good y) (le_refl _)
give_found d (itself_good o) = found
give_found d number_good = found
give_found d (constant_good h) = found

pub due_found : {D : ℕ} {s : Store} {r : Result} (xs : List Ptr) → Formed s → ResultGood D s r → Found (due_of s r xs)
unfolding due_of
due_found xs d i = then_found (λ g. joined g.store g.at xs) (give_found d i)

-- A COURSE

head_found : {e : Env} {s : Store} {t : Ptr} → Sane e s → InScope s (depth_of e) t → spine s t ≡ none → ⊥
head_found {s = s} {t} sane i = found_none (spine_found (cell_at s t.row).height t [] (pass_formed sane.pass) (scope_good i) (le_refl _))

rows_found : {e : Env} {s : Store} {r : Result} {xs : List Ptr} → Sane e s → EndIn e s (firing r xs) → due_of s r xs ≡ none → ⊥
rows_found {xs = xs} sane (firing_in i is) = found_none (due_found xs (pass_formed sane.pass) (result_good i))

mutual
  pub run_never_lost : {e : Env} {d : ℕ} {m : Tally} {t : Ptr} → RunLoses e d m t → Sane e m.store → InScope m.store (depth_of e) t → ⊥
  run_never_lost (no_head q) sane i = head_found sane i q
  run_never_lost (in_trying s y) sane i = try_never_lost y sane (term_safe sane i s)
  run_never_lost (in_paying s c q) sane i =
      let k = comes_keep c sane (term_safe sane i s) in
      rows_found k.sane k.end q
  run_never_lost (in_the_rest s c p r) sane i =
      let k = comes_keep c sane (term_safe sane i s) in
      let q = pays_keep k.sane k.end p in
      run_never_lost r q.sane q.term

  pub try_never_lost : {e : Env} {d : ℕ} {m : Tally} {y : Try} → TryLoses e d m y → Sane e m.store → Safe (decl_count e) (depth_of e) m.store y → ⊥
  try_never_lost {m = m} (past_rows {ws = ws} w y) sane (safe_writes r f) =
      let a = grow_pass sane.pass r w in
      try_never_lost y (sane_later (ext_grow m.store ws) a sane) (f a)
  try_never_lost (in_side r) sane (safe_reduces i f) = run_never_lost r sane i
  try_never_lost (no_side_head r q) sane (safe_reduces i f) = let k = runs_keep r sane i in head_found k.sane k.term q
  try_never_lost (past_side r s y) sane (safe_reduces i f) = let k = runs_keep r sane i in try_never_lost y k.sane (after_side k s f)

pub eval_never_lost : {e : Env} {lim : Limits} {s : Store} {t : Ptr} (nesting : ℕ) → Ready e lim s t → eval e lim nesting s t ≡ lost → ⊥
eval_never_lost {e} {lim} nesting r q = run_never_lost (eval_lost e lim r.room q) r.sane r.term
