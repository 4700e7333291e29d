-- A context record whose five words pass the clauses is one that the rules accept at its place, and the other way.
-- Assumes that the record's words are there.
use Prim.Native.Nat.{ℕ, ◌*◌, ◌≤◌, ◌<◌}
use native.Mathlib.Omega.{arith}
use mathlib.Core.Path.{◌≡◌, sym, ap, subst, ◌∙◌}
use mathlib.Core.List.{List}
use mathlib.Core.Option.{some}
use lib.ListN.{length, get_or}
use Rattle.rules.specs.Rows.{Ptr, ptr, Store, cell_at}
use Rattle.rules.specs.RowCheck.{InScope}
use Rattle.rules.specs.Declarations.{Entry}
use Rattle.rules.specs.Accepted.{part, IsEntry, entry_words, EntryOk}
use Rattle.tables.specs.Env.{entry_of}
use Rattle.tables.specs.Clauses.{Scoped, ValueRight, EntryRight}
use Rattle.tables.proofs.Listed.{written_out, part_whole, some_same}
use Rattle.tables.proofs.ScopeLaws.{to_scope, from_scope, to_value, value_is, from_value, scoped_agrees, value_agrees}
use Rattle.tables.proofs.Kept.{Means}

-- what an entry has to be at position j
record EntryIn (s : Store) (j : ℕ) (x : Entry) : Type 0 where
  pub type : InScope s j x.type
  pub value : (v : Ptr) → x.value ≡ some v → InScope s j v

module _ (cs : List ℕ) (s : Store) (rows : ℕ) (all : rows ≡ length s) where
  five_words : (ws : List ℕ) (j : ℕ) → length ws ≡ 5 → ValueRight s rows j (ptr (get_or ws 2 0) (get_or ws 3 0)) (get_or ws 4 0) →
      IsEntry ws (entry_of ws)
  unfolding entry_of
  five_words ws j many v = subst (λ (us : List ℕ). IsEntry us (entry_of ws)) (sym (written_out 5 ws many)) (entry_words (to_value v))

  entry_in : (j : ℕ) → EntryRight cs s rows j → EntryIn s j (entry_of (part 5 cs j))
  unfolding entry_of
  entry_in j r = record { type = to_scope all r.type; value = λ v q. to_scope all (value_is r.value v q) }

  entry_right : (j : ℕ) {ws : List ℕ} {x : Entry} → IsEntry ws x → EntryIn s j x →
      Scoped s rows j (ptr (get_or ws 0 0) (get_or ws 1 0)) × ValueRight s rows j (ptr (get_or ws 2 0) (get_or ws 3 0)) (get_or ws 4 0)
  entry_right j (entry_words v) i = (from_scope all i.type, from_value v (λ w q. from_scope all (i.value w q)))

  pub entries_mean : (n : ℕ) → 5 * n ≤ length cs → Means 5 cs entry_of IsEntry (EntryOk s) (EntryRight cs s rows) n
  entries_mean n room = record {
    is = λ j h r. five_words (part 5 cs j) j (part_whole 5 cs j (omega arith)) r.value;
    ok = λ j r xs q.
        let here = entry_in j r in
        record {
          type = λ x e. subst (λ (y : Entry). InScope s j y.type) (some_same (sym q ∙ e)) here.type;
          value = λ x v e f. here.value v (ap (λ (y : Entry). y.value) (some_same (sym q ∙ e)) ∙ f);
        };
    right = λ j x is xs q ok.
        let parts = entry_right j is (record { type = ok.type x q; value = λ v e. ok.value x v q e }) in
        record { type = parts.0; value = parts.1 };
  }

pub entry_agrees : {s t : Store} {rows : ℕ} (agree : (r : ℕ) → r < rows → cell_at s r ≡ cell_at t r) (cs : List ℕ) (j : ℕ) →
    EntryRight cs s rows j → EntryRight cs t rows j
entry_agrees agree cs j r = record { type = scoped_agrees agree r.type; value = value_agrees agree r.value }
