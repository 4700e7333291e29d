-- The calls and ways out of Quot.lift and Quot.ind, by the answers that the code has seen: the major at its position, its reduction,
-- Quot.mk's element, the function.
-- Assumes what the member is given.
use Prim.Native.Nat.{ℕ, ◌+◌, ◌/◌, ◌≤◌, ◌<◌}
use native.Mathlib.Numerals.{add-one}
use native.Mathlib.Omega.{arith}
use mathlib.Core.Path.{◌≡◌, sym, ap, ◌∙◌}
use mathlib.Core.List.{List, ◌∷◌}
use mathlib.Core.Option.{some}
use lib.ListN.{length, drop, get_or}
use Rattle.rules.specs.Rows as rules
use Rattle.rules.specs.Rows.{Store}
use Rattle.rules.specs.RowCheck.{InScope}
use Rattle.rules.specs.Accepted.{part}
use Rattle.rules.specs.Declarations as rules_role
use Rattle.rules.specs.Declarations.{nth, decl_at}
use Rattle.rules.specs.Firings.{itself}
use Rattle.rules.specs.HeadTests.{quot_parts_of, quot_position, quot_parts}
use Rattle.substitution.specs.Stores.{Good, scope_good}
use Rattle.safety.specs.Lists.{nth_there}
use Rattle.ways.specs.Steps.{fire_in}
use Rattle.ways.specs.Spines.{args_of}
use Rattle.rows.specs.declared.Ptr.{Ptr}
use Rattle.rows.specs.Words.{ptr_of, store_of, whole}
use Rattle.spine.specs.Walks as walks
use Rattle.spine.proofs.ForCallers.{scope_at, arguments_in_scope}
use Rattle.fields.specs.Fields.{QuotMade}
use Rattle.fields.proofs.ForCallers.{element_missed, element_found, element_scope}
use Rattle.tables.specs.declared.Decl.{Decl}
use Rattle.tables.specs.Env.{env_of}
use Rattle.tables.specs.Read.{decl_read}
use Rattle.tables.specs.ReadLaws.{has_role, has_no_such_role}
use Rattle.tables.specs.declared.codes.Role.{Role}
use Rattle.tables.specs.declared.codes.Role.TheVariants.{QuotLift, QuotInd}
use Rattle.state.specs.declared.Given.{Given}
use Rattle.state.specs.declared.Meter.{Meter}
use Rattle.state.specs.State.{Answer}
use Rattle.state.specs.State.{Reduced}
use Rattle.state.specs.State.{tally_of, limits_in, Headed, Left}
use Rattle.cycle.specs.Cycle.{Asked, Counted, Ran, res_by}
use Rattle.cycle.specs.Members.{quotient}
use Rattle.cycle.proofs.WaysOut.{same_arguments}
use Rattle.cycle.proofs.Quotients.{at_five, at_four, nowhere, no_parts, the_parts, few_parts, quot_misses, quot_stops, quot_ends, quot_gives}
use Rattle.reduce.specs.Members.{QuotLeft}
use Rattle.reduce.proofs.Sides.{ran_as, rows_pass, taken_is, taken_scope, taken_asked, Came, came_asked, still_counted, still_headed}
use Rattle.std.specs.Prelude.{Err, None, Ok, Option as Maybe, Some}
use Rattle.state.specs.declared.Tried.TheVariants.{Final}
use Rattle.rows.specs.declared.refusals.Refusal.{Refusal}

-- no argument at the position
pub no_major : {l ds rs cs sc : List ℕ} {g : Given} {m : Meter} {t : Ptr} {count : ℕ} → Counted l ds rs cs sc g m t count → (n position : ℕ) →
    count ≤ position → QuotLeft l ds rs cs sc g m t n position (Ok (Final m)) sc
no_major c n position few = record { left = λ d q. quot_misses c n d (few_parts _ _ q (omega (arith, c.counted, few))) }

-- THE MAJOR x was taken at the position
pub record Major (l ds rs cs sc : List ℕ) (g : Given) (m : Meter) (t : Ptr) (count position : ℕ) (x : Ptr) : Type 0 where
  pub given : Counted l ds rs cs sc g m t count
  pub low : 3 < position
  pub inside : position < count
  pub taken : walks.Argument (whole l sc) (ptr_of t) count position x

module _ {l ds rs cs sc : List ℕ} {g : Given} {m : Meter} {t : Ptr} {count position : ℕ} {x : Ptr} (major : Major l ds rs cs sc g m t count position x) where
  abbrev xs : List rules.Ptr
  xs = args_of (store_of l sc m.mark) (ptr_of t)

  pub major_scope : InScope (store_of l sc m.mark) g.depth (ptr_of x)
  major_scope = taken_scope major.given major.taken

  pub major_asked : Asked l ds rs cs sc g m x
  major_asked = taken_asked major.given major.taken

  -- the declarations with this position
  abbrev Placed : ℕ → Type 0
  Placed d = quot_position (decl_at (env_of ds rs cs g.depth).decls d).role ≡ some position

  -- with the function f at position 3, these are the parts
  parts_with : (f : Ptr) → nth xs 3 ≡ some (ptr_of f) → (d : ℕ) → Placed d →
      quot_parts (decl_at (env_of ds rs cs g.depth).decls d) xs ≡ some (quot_parts_of (ptr_of f) (ptr_of x) (drop (position + 1) xs))
  parts_with f at_three d q =
      the_parts _ xs q at_three (taken_is major.given major.taken) ∙ ap (λ (k : ℕ). some (quot_parts_of (ptr_of f) (ptr_of x) (drop k xs))) (sym (add-one position))

  -- the code reads the function last, and it is there from the start
  abbrev function : Ptr
  function = let p = get_or xs 3 (ptr_of x) in record { row = p.row; shift = p.shift }

  function_there : nth xs 3 ≡ some (ptr_of function)
  function_there = nth_there xs 3 (ptr_of x) (omega (arith, major.given.counted, major.low, major.inside))

  parts : (d : ℕ) → Placed d → quot_parts (decl_at (env_of ds rs cs g.depth).decls d) xs ≡ some (quot_parts_of (ptr_of function) (ptr_of x) (drop (position + 1) xs))
  parts = parts_with function function_there

  pub major_refused : (n : ℕ) {r : Reduced} {sc₁ : List ℕ} → Ran l sc m r sc₁ (res_by l ds rs cs sc g m n (ptr_of x)) → {k : Refusal} →
      r ≡ Err k → QuotLeft l ds rs cs sc g m t n position (Err k) sc₁
  major_refused n ran e = record { left = λ d q. quot_stops major.given n d (position + 1) (parts d q) major_scope (ran_as e ran) }

  -- its reduction came to q, and f is what was read there
  module _ {n : ℕ} {sc₁ : List ℕ} {q : Ptr} {m₁ : Meter} (k : Came l ds rs cs sc g m t count n x sc₁ q m₁)
      {f : (Maybe Ptr)} (answered : QuotMade l ds sc₁ q f) where
    asked : Asked l ds rs cs sc₁ g m₁ q
    asked = came_asked k

    pub no_element : f ≡ None → QuotLeft l ds rs cs sc g m t n position (Ok (Final m₁)) sc₁
    no_element z = record {
      left = λ d q'.
          quot_ends major.given n d (position + 1) (parts d q') major_scope k.ran
          (sym (element_missed l ds sc₁ q g.nlib m₁.mark g.depth asked.stand.held (rows_pass asked) asked.scope rs cs g.depth f answered z));
    }

    -- the element a, and the function h as the code reads it then
    module _ {a : Ptr} (z : f ≡ Some a) {h : Ptr} (read : walks.Argument (whole l sc₁) (ptr_of t) count 3 h) where
      at_three : nth xs 3 ≡ some (ptr_of h)
      at_three = ap (λ (ys : List rules.Ptr). nth ys 3) (sym (same_arguments k.given n k.scope k.ran)) ∙ taken_is (still_counted k) read

      function_scope : InScope (store_of l sc m.mark) g.depth (ptr_of h)
      function_scope =
          let s = major.given.asked.stand in
          scope_at (arguments_in_scope l sc m.mark g.nlib _ g.depth s.held s.sane.pass t major.given.asked.scope) 3 at_three

      abbrev s₁ : Store
      s₁ = store_of l sc₁ m₁.mark

      pub element_there : Headed l sc₁ g m₁ t count × ((Good s₁ (ptr_of h) × Good s₁ (ptr_of a)) × (position + 1 ≤ count))
      element_there =
          let scope = element_scope l ds sc₁ q g.nlib m₁.mark g.depth asked.stand.held (rows_pass asked) asked.scope rs cs g.depth f answered a z in
          (still_headed k, ((scope_good (taken_scope (still_counted k) read), scope_good scope), omega (arith, major.inside)))

      pub element_given : {o : Answer} {sc₂ : List ℕ} →
          Left l sc₁ m₁ o sc₂ (fire_in (limits_in g sc₁) (tally_of l sc₁ m₁) (itself (ptr_of h)) (ptr_of a ∷ drop (position + 1) (args_of s₁ (ptr_of t)))) →
          QuotLeft l ds rs cs sc g m t n position o sc₂
      element_given left = record {
        left = λ d q'.
            quot_gives major.given n d (position + 1) (parts_with h at_three d q') major_scope k.ran function_scope
            (sym (element_found l ds sc₁ q g.nlib m₁.mark g.depth asked.stand.held (rows_pass asked) asked.scope rs cs g.depth f answered a z))
            left;
      }

-- WHICH RULE, by the role that was read
module _ {l ds rs cs sc : List ℕ} {g : Given} {m : Meter} {t : Ptr} {count : ℕ} (c : Counted l ds rs cs sc g m t count) (n d : ℕ) (there : d < length ds / 16)
    {r : Decl} (read : r ≡ decl_read (part 16 ds d)) where
  abbrev role : rules_role.Role
  role = (decl_at (env_of ds rs cs g.depth).decls d).role

  as_read : {o : Maybe Role} → r.role ≡ o → (decl_read (part 16 ds d)).role ≡ o
  as_read e = sym (ap (λ (x : Decl). x.role) read) ∙ e

  pub lifts : {o : Answer} {sc₁ : List ℕ} → r.role ≡ Some QuotLift → QuotLeft l ds rs cs sc g m t n 5 o sc₁ →
      Left l sc m o sc₁ (quotient l ds rs cs sc g m t n d)
  lifts e k = k.left d (at_five role (has_role ds rs cs g.depth d there QuotLift (as_read e)))

  pub inducts : {o : Answer} {sc₁ : List ℕ} → r.role ≡ Some QuotInd → QuotLeft l ds rs cs sc g m t n 4 o sc₁ →
      Left l sc m o sc₁ (quotient l ds rs cs sc g m t n d)
  inducts e k = k.left d (at_four role (has_role ds rs cs g.depth d there QuotInd (as_read e)))

  pub no_quotient : (r.role ≡ Some QuotLift → ⊥) → (r.role ≡ Some QuotInd → ⊥) → Left l sc m (Ok (Final m)) sc (quotient l ds rs cs sc g m t n d)
  no_quotient h k =
      quot_misses c n d
      (no_parts _ _
      (nowhere role
      (has_no_such_role ds rs cs g.depth d there QuotLift (λ e. h (ap (λ (x : Decl). x.role) read ∙ e)))
      (has_no_such_role ds rs cs g.depth d there QuotInd (λ e. k (ap (λ (x : Decl). x.role) read ∙ e)))))
