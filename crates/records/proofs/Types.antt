-- The types that inference reads: a declaration's is the one that the rules have, and a variable's context type is the rules' `type_of`.
-- Assumes nothing.
use Prim.Native.Nat.{ℕ, suc, ◌-◌, ◌/◌, ◌<◌}
use native.Mathlib.Nat.{zero-add}
use native.Mathlib.Omega.{arith}
use mathlib.Core.Path.{◌≡◌, sym, ap, ◌∙◌}
use mathlib.Core.List.{List}
use mathlib.Core.Option.{none, some}
use lib.ListN.{length, get_or}
use Rattle.rules.specs.Rows.{ptr}
use Rattle.rules.specs.Declarations.{Decl, nth, decl_at}
use Rattle.rules.specs.Accepted.{part}
use Rattle.rules.specs.Inference.{type_on, type_of}
use Rattle.rows.specs.Words.{ptr_of}
use Rattle.tables.specs.Records.{records_from, records_many, records_nth}
use Rattle.tables.specs.Env.{decl_of, entry_of, env_of}
use Rattle.tables.specs.ReadLaws.{decl_is}
use Rattle.records.specs.Read.{type_read, TypeOf}

-- what `type_at` reads of declaration d
pub type_is : (ds rs cs : List ℕ) (depth d : ℕ) → d < length ds / 16 → ptr_of (type_read (part 16 ds d)) ≡ (decl_at (env_of ds rs cs depth).decls d).type
unfolding decl_of
type_is ds rs cs depth d there = sym (ap (λ (x : Decl). x.type) (decl_is ds rs cs depth d there))

-- THE CONTEXT

module _ (cs : List ℕ) (depth i : ℕ) where
  pub no_context : depth ≡ 0 → TypeOf cs depth i none
  unfolding type_of nth records_from
  no_context e = record { type = λ ds rs. ap (λ (d : ℕ). type_of (env_of ds rs cs d) i) (sym e) }

  pub in_record : (depth ≡ 0 → ⊥) → (ws : List ℕ) → ws ≡ part 5 cs (depth - suc i) → TypeOf cs depth i (some (ptr (get_or ws 0 0) (get_or ws 1 0)))
  unfolding type_of entry_of
  in_record some_record ws read =
      let many : length (records_from 5 cs entry_of 0 depth) ≡ depth = records_many 5 cs entry_of 0 depth in
      let inside : depth - suc i < depth = omega arith in
      record {
        type = λ ds rs.
            rw many
            (ap (λ (us : List ℕ). some (entry_of us).type) (read ∙ ap (part 5 cs) (sym (zero-add (depth - suc i))))
            ∙ ap type_on (sym (records_nth 5 cs entry_of 0 depth (depth - suc i) inside)));
      }
