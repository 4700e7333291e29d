-- The environment that the context's words stand for: it reads the first records alone, and after a push it is the old one under a new record.
-- Assumes nothing.
use Prim.Native.Nat.{ℕ, zero, suc, ◌+◌, ◌*◌, ◌≤◌}
use native.Mathlib.Nat.{add-zero, zero-add}
use native.Mathlib.Omega.{arith}
use mathlib.Core.Path.{◌≡◌, refl, sym, ap, ap₂, ◌∙◌}
use mathlib.Core.List.{List, [], ◌∷◌, ◌++◌}
use lib.ListN.{length, take}
use Rattle.rules.specs.Declarations.{Entry}
use Rattle.rules.specs.Accepted.{part}
use Rattle.rules.specs.Inference.{under}
use Rattle.rows.specs.declared.Ptr.{Ptr}
use Rattle.rows.specs.Words.{ptr_of}
use Rattle.tables.specs.Records.{records_from}
use Rattle.tables.specs.Env.{value_by, entry_of, env_of}
use Rattle.records.specs.Write.{pushed}
use Rattle.records.proofs.Words.{push_keeps, push_part, part_same}

-- n records from record i on, of two lists that agree on N records
records_same : (ws vs : List ℕ) (N i n : ℕ) → take (5 * N) ws ≡ take (5 * N) vs → i + n ≤ N → records_from 5 ws entry_of i n ≡ records_from 5 vs entry_of i n
unfolding records_from
records_same ws vs N i zero e h = refl
records_same ws vs N i (suc n) e h =
    ap₂ ◌∷◌ (ap entry_of (part_same ws vs N i e (omega arith))) (records_same ws vs N (suc i) n e (omega arith))

-- one record more
records_suc : (ws : List ℕ) (i n : ℕ) → records_from 5 ws entry_of i (suc n) ≡ records_from 5 ws entry_of i n ++ (entry_of (part 5 ws (i + n)) ∷ [])
unfolding records_from
records_suc ws i zero = ap (λ (k : ℕ). entry_of (part 5 ws k) ∷ []) (sym (add-zero i))
records_suc ws i (suc n) =
    let at : suc i + n ≡ i + suc n = omega arith in
    ap (λ (xs : List Entry). entry_of (part 5 ws i) ∷ xs)
    (records_suc ws (suc i) n ∙ ap (λ (k : ℕ). records_from 5 ws entry_of (suc i) n ++ (entry_of (part 5 ws k) ∷ [])) at)

-- an environment reads the records up to its depth, and what stands after them does not matter
pub env_same : (ds rs cs cs' : List ℕ) (depth : ℕ) → take (5 * depth) cs' ≡ take (5 * depth) cs → env_of ds rs cs' depth ≡ env_of ds rs cs depth
env_same ds rs cs cs' depth e =
    ap (λ (xs : List Entry). record { decls = (env_of ds rs cs depth).decls; context = xs }) (records_same cs' cs depth 0 depth e (omega arith))

module _ (cs cs' : List ℕ) (depth : ℕ) (x : Ptr) (room : 5 * depth + 5 ≤ length cs) (is : cs' ≡ pushed cs depth x) (ds rs : List ℕ) where
  pub env_kept : env_of ds rs cs' depth ≡ env_of ds rs cs depth
  env_kept = env_same ds rs cs cs' depth (push_keeps cs cs' depth x room is)

  pub env_pushed : env_of ds rs cs' (suc depth) ≡ under (env_of ds rs cs depth) (ptr_of x)
  unfolding entry_of value_by
  env_pushed =
      ap (λ (xs : List Entry). record { decls = (env_of ds rs cs depth).decls; context = xs })
      (records_suc cs' 0 depth
      ∙ ap₂ (λ (xs : List Entry) (us : List ℕ). xs ++ (entry_of us ∷ []))
      (records_same cs' cs depth 0 depth (push_keeps cs cs' depth x room is) (omega arith))
      (ap (part 5 cs') (zero-add depth) ∙ push_part cs cs' depth x room is))
