-- The rows in use are the front of all rows that stand in the two slices.
-- Assumes nothing.
use Prim.Native.Nat.{ℕ, zero, suc, ◌+◌, ◌*◌, ◌-◌, ◌/◌}
use native.Mathlib.Nat.{zero-add, suc-add}
use native.Mathlib.Omega.{arith}
use mathlib.Core.Path.{◌≡◌, sym, ap, ◌∙◌}
use mathlib.Core.List.{List, ◌∷◌, ◌++◌, append_assoc}
use lib.ListN.{length, take, drop}
use lib.Seq.{drop-drop}
use Rattle.rules.specs.Rows.{Store}
use Rattle.substitution.specs.Stores.{Ext}
use Rattle.rows.specs.Words.{decode, rows_of, store_of, whole, Held}
use Rattle.rows.proofs.Store.{store_is}

rows_add : (m k : ℕ) (ws : List ℕ) → rows_of (m + k) ws ≡ rows_of m ws ++ rows_of k (drop (9 * m) ws)
unfolding rows_of
rows_add zero k ws = ap (λ (n : ℕ). rows_of n ws) (zero-add k)
rows_add (suc m) k ws =
    let e : 9 + 9 * m ≡ 9 * suc m = omega arith in
    ap (λ (n : ℕ). rows_of n ws) (suc-add m k) ∙
    ap (decode (take 9 ws) ∷◌) (rows_add m k (drop 9 ws) ∙ ap (λ (vs : List ℕ). rows_of m (drop 9 ws) ++ rows_of k vs) (drop-drop (9 * m) 9 ws ∙ ap (λ (n : ℕ). drop n ws) e))

pub whole_ext : (l sc : List ℕ) (m nlib : ℕ) → Held l sc m nlib → Ext (store_of l sc m) (whole l sc)
whole_ext l sc m nlib held =
    let n : ℕ = length sc / 9 in
    let e : m + (n - m) ≡ n = omega (arith, held.room) in
    record {
      new = rows_of (n - m) (drop (9 * m) sc);
      after =
          ap (λ (s : Store). s ++ rows_of (n - m) (drop (9 * m) sc)) (store_is l sc nlib held.whole_library m) ∙
          append_assoc (rows_of nlib l) (rows_of m sc) _ ∙
          ap (λ (s : Store). rows_of nlib l ++ s) (sym (rows_add m (n - m) sc) ∙ ap (λ (k : ℕ). rows_of k sc) e) ∙
          sym (store_is l sc nlib held.whole_library n);
    }
