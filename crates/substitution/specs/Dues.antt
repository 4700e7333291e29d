-- What is due for a good result and good arguments: there is exactly one such, and it keeps the store formed and its pointer good.
-- Assumes a formed store and good pointers, and for uniqueness nothing.
use Rattle.std.specs.Prelude.{ℕ, ◌<◌, ◌≡◌, refl, List}
use Rattle.std.proofs.Common.{sym, ap, ◌∙◌}
use Rattle.std.proofs.Math.Option.{some}
use Rattle.rules.specs.Kinds.{const, num}
use Rattle.rules.specs.Rows.{Ptr, leaf, Store, Got, got, put}
use Rattle.rules.specs.Spines.{joined}
use Rattle.rules.specs.Firings.{Result, opened, itself, a_number, a_constant, Gives, by_replacement, no_row, number_row, constant_row, Due}
use Rattle.rules.specs.ReadOut.{Tree}
use Rattle.rules.specs.ReadOut as T
use Rattle.substitution.specs.Stores.{Formed, Good}
use Rattle.substitution.specs.Reading.{reads_exists}
use Rattle.substitution.specs.Existence.{some_good, Kept, replaces_exists, replaces_unique}
use Rattle.substitution.specs.Applied.{AllGood, all_read}
use Rattle.substitution.specs.Fired.{ResultReads, opened_reads, itself_reads, number_reads, constant_reads, due_reads}

-- its pointers are good, and a constant that it writes is declared: there are D declarations
pub data ResultGood (D : ℕ) (s : Store) : Result → Type 0 where
  opened_good : {b v : Ptr} {k : ℕ} → Good s b → Good s v → ResultGood D s (opened b v k)
  itself_good : {p : Ptr} → Good s p → ResultGood D s (itself p)
  number_good : {n : ℕ} → ResultGood D s (a_number n)
  constant_good : {d : ℕ} → d < D → ResultGood D s (a_constant d)

-- WHAT IT KEEPS

-- a good result reads as a tree, so what is due is formed
record ReadResult (s : Store) (r : Result) : Type 0 where
  tree : Tree
  reads : ResultReads s r tree

result_read : {D : ℕ} {s : Store} {r : Result} → Formed s → ResultGood D s r → ReadResult s r
result_read f (opened_good {k = k} o y) =
    let b = reads_exists f o in
    let v = reads_exists f y in
    record {
      tree = T.subst v.tree 0 (T.shift k 1 b.tree);
      reads = opened_reads (record { base = b.tree; good = o; reads = b.reads; is = refl }) y v.reads refl;
    }
result_read f (itself_good o) = let r = reads_exists f o in record { tree = r.tree; reads = itself_reads o r.reads }
result_read f (number_good {n = n}) = record { tree = T.num n; reads = number_reads }
result_read f (constant_good {d = d} h) = record { tree = T.const d 0; reads = constant_reads }

pub due_keeps : {D : ℕ} {s : Store} {r : Result} {xs : List Ptr} {g : Got} → Formed s → ResultGood D s r → AllGood s xs → Due s r xs g → Kept s g
due_keeps f o q d =
    let x = due_reads f (result_read f o).reads (all_read f q).all d in
    record { more = x.more; formed = x.formed; good = x.good }

-- EXACTLY ONE

record GivesTo (s : Store) (r : Result) : Type 0 where
  result : Got
  gives : Gives s r result

gives_exists : {D : ℕ} {s : Store} {r : Result} → Formed s → ResultGood D s r → GivesTo s r
gives_exists f (opened_good {v = v} {k = k} o y) =
    let d = replaces_exists (some v) k 0 f o (some_good y) in
    record { result = d.result; gives = by_replacement d.replaces }
gives_exists {s = s} f (itself_good {p = p} o) = record { result = got s p; gives = no_row refl }
gives_exists {s = s} f (number_good {n = n}) = record { result = put s (leaf (num n)); gives = number_row refl }
gives_exists {s = s} f (constant_good {d = d} h) = record { result = put s (leaf (const d 0)); gives = constant_row refl }

pub record DueTo (s : Store) (r : Result) (xs : List Ptr) : Type 0 where
  pub result : Got
  pub due : Due s r xs result

pub due_exists : {D : ℕ} {s : Store} {r : Result} (xs : List Ptr) → Formed s → ResultGood D s r → DueTo s r xs
due_exists xs f o =
    let g = gives_exists f o in
    record { result = joined g.result.store g.result.at xs; due = record { result = g.result; gives = g.gives; applied = refl } }

gives_unique : {s : Store} {r : Result} {g g' : Got} → Gives s r g → Gives s r g' → g ≡ g'
gives_unique (by_replacement q) (by_replacement q') = replaces_unique q q'
gives_unique (no_row e) (no_row e') = sym e ∙ e'
gives_unique (number_row e) (number_row e') = sym e ∙ e'
gives_unique (constant_row e) (constant_row e') = sym e ∙ e'

pub due_unique : {s : Store} {r : Result} {xs : List Ptr} {g g' : Got} → Due s r xs g → Due s r xs g' → g ≡ g'
due_unique {xs = xs} d d' = sym d.applied ∙ ap (λ (g : Got). joined g.store g.at xs) (gives_unique d.gives d'.gives) ∙ d'.applied
