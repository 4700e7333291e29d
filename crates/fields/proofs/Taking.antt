-- What is taken from a reduced constant, one law for each way out: a constructor's field, Quot.mk's element, or nothing.
-- Assumes rows that pass and a term in scope.
use Prim.Native.Nat.{ℕ, zero, suc, ◌+◌, ◌/◌, ◌≤◌, ◌<◌}
use native.Mathlib.Omega.{arith}
use mathlib.Core.Path.{◌≡◌, refl, sym, ap, ◌∙◌}
use mathlib.Core.Bool.{Bool}
use mathlib.Core.List.{List, [], ◌∷◌}
use mathlib.Core.Option.{Option, none, some}
use borrow.Author.Tests.{eq-eqb, ne_eqb}
use lib.Dec.{eqb}
use lib.ListN.{length}
use Rattle.std.specs.Prelude.{Option as Maybe, Some, None}
use Rattle.rules.specs.Rows as rules
use Rattle.rules.specs.Rows.{Row}
use Rattle.rules.specs.Declarations as declarations
use Rattle.rules.specs.Declarations.{Env, nth, decl_at, role_code}
use Rattle.rules.specs.Accepted.{part}
use Rattle.rules.specs.HeadTests.{given, provided, as_constant, parameters_of, field_at, third_of_three, quot_made}
use Rattle.ways.specs.Spines.{args_of}
use Rattle.rows.specs.declared.Ptr.{Ptr}
use Rattle.rows.specs.Words.{ptr_of, store_of, whole}
use Rattle.spine.specs.Walks.{Argument, Counted}
use Rattle.spine.proofs.ForCallers.{may_ask, argument_is}
use Rattle.tables.specs.declared.Decl.{Decl}
use Rattle.tables.specs.declared.codes.DeclKind.TheVariants.{Constructor}
use Rattle.tables.specs.declared.codes.Role.TheVariants.{QuotMk}
use Rattle.tables.specs.Env.{env_of}
use Rattle.tables.specs.Read.{decl_read}
use Rattle.tables.specs.ReadLaws.{parameters_are, no_parameters, has_role, has_no_such_role}
use Rattle.fields.specs.Fields.{Reduced, head_row, constant_read, found_field, Marked, ConstantAt, FieldAt, QuotMade}
use Rattle.fields.proofs.Constants.{names_here, its_mark}

-- THE CONSTANT THAT WAS FOUND

-- the rules' constant, of which the code has the declaration's words and the count of arguments
record Named (ds : List ℕ) (o : Option ℕ) (n : ℕ) (D : Decl) (count : ℕ) : Type 0 where
  number : ℕ
  is : o ≡ some number
  read : decl_read (part 16 ds number) ≡ D
  many : n ≡ count

named : {ds : List ℕ} {D : Decl} {count : ℕ} (o : Option ℕ) (n : ℕ) → constant_read ds o n ≡ Some (D, count) → Named ds o n D count
named none n e = cc
named {ds} {D} {count} (some c) n e =
    let same : (decl_read (part 16 ds c), n) ≡ (D, count) = cc in
    record { number = c; is = refl; read = ap (λ (p : Decl × ℕ). p.0) same; many = ap (λ (p : Decl × ℕ). p.1) same }

unnamed : (ds : List ℕ) (o : Option ℕ) (n : ℕ) → constant_read ds o n ≡ None → o ≡ none
unnamed ds none n e = refl
unnamed ds (some c) n e = cc

-- WHAT THE RULES' TESTS TURN ON

module _ (e : Env) (w : Row) (ys : List rules.Ptr) (i : ℕ) where
  abbrev field_of : Option ℕ → Option rules.Ptr
  field_of o = given o λ ps. nth ys (ps + i)

  abbrev field_in : Option ℕ → Option rules.Ptr
  field_in o = given o λ c. field_of (parameters_of (decl_at e.decls c).form)

  field_by : (o : Option ℕ) → as_constant w ≡ o → field_at e w ys i ≡ field_in o
  unfolding field_at
  field_by o q = ap field_in q

module _ (e : Env) (w : Row) (ys : List rules.Ptr) where
  abbrev element_of : Bool → Option rules.Ptr
  element_of b = provided b (third_of_three ys)

  abbrev element_in : Option ℕ → Option rules.Ptr
  element_in o = given o λ c. element_of (eqb (role_code (decl_at e.decls c).role) 6)

  element_by : (o : Option ℕ) → as_constant w ≡ o → quot_made e w ys ≡ element_in o
  unfolding quot_made
  element_by o q = ap element_in q

nth_past : (xs : List rules.Ptr) (i : ℕ) → length xs ≤ i → nth xs i ≡ none
unfolding nth
nth_past [] i h = refl
nth_past (x ∷ xs) zero h = absurd (omega arith)
nth_past (x ∷ xs) (suc i) h = nth_past xs i (omega arith)

three : (xs : List rules.Ptr) → length xs ≡ 3 → third_of_three xs ≡ nth xs 2
unfolding nth
three [] e = absurd (omega arith)
three (a ∷ []) e = absurd (omega arith)
three (a ∷ b ∷ []) e = absurd (omega arith)
three (a ∷ b ∷ c ∷ []) e = refl
three (a ∷ b ∷ c ∷ d ∷ xs) e = absurd (omega arith)

not_three : (xs : List rules.Ptr) → (length xs ≡ 3 → ⊥) → third_of_three xs ≡ none
not_three [] f = refl
not_three (a ∷ []) f = refl
not_three (a ∷ b ∷ []) f = refl
not_three (a ∷ b ∷ c ∷ []) f = absurd (f refl)
not_three (a ∷ b ∷ c ∷ d ∷ xs) f = refl

-- THE WAYS OUT

module _ (l ds sc : List ℕ) (q : Ptr) where
  -- the rules' answers, at a mark
  abbrev field_here : ℕ → List ℕ → List ℕ → ℕ → Marked l ds sc q → Option rules.Ptr
  field_here index rs cs depth k =
      field_at (env_of ds rs cs depth) (head_row (store_of l sc k.mark) (ptr_of q)) (args_of (store_of l sc k.mark) (ptr_of q)) index

  abbrev element_here : List ℕ → List ℕ → ℕ → Marked l ds sc q → Option rules.Ptr
  element_here rs cs depth k = quot_made (env_of ds rs cs depth) (head_row (store_of l sc k.mark) (ptr_of q)) (args_of (store_of l sc k.mark) (ptr_of q))

  field_says : (index : ℕ) (r : Maybe Ptr) →
      ((rs cs : List ℕ) (depth : ℕ) (k : Marked l ds sc q) → field_here index rs cs depth k ≡ found_field r) → FieldAt l ds sc q index r
  field_says index r f = record {
    is = λ rs cs depth nlib m d held pass scope. sym (f rs cs depth (record { nlib = nlib; mark = m; depth = d; held = held; pass = pass; scope = scope }));
  }

  element_says : (r : Maybe Ptr) → ((rs cs : List ℕ) (depth : ℕ) (k : Marked l ds sc q) → element_here rs cs depth k ≡ found_field r) → QuotMade l ds sc q r
  element_says r f = record {
    is = λ rs cs depth nlib m d held pass scope. sym (f rs cs depth (record { nlib = nlib; mark = m; depth = d; held = held; pass = pass; scope = scope }));
  }

  module _ (at : ConstantAt l ds sc q None) where
    pub no_constant_field : (index : ℕ) → FieldAt l ds sc q index None
    no_constant_field index = field_says index None λ rs cs depth k. field_by _ _ _ index none (unnamed ds _ _ (at.is k))

    pub no_constant_element : QuotMade l ds sc q None
    no_constant_element = element_says None λ rs cs depth k. element_by _ _ _ none (unnamed ds _ _ (at.is k))

  module _ (D : Decl) (count : ℕ) (at : ConstantAt l ds sc q (Some (D, count))) where
    module _ (k : Marked l ds sc q) where
      abbrev row : Row
      row = head_row (store_of l sc k.mark) (ptr_of q)

      abbrev args : List rules.Ptr
      args = args_of (store_of l sc k.mark) (ptr_of q)

      it : Named ds (as_constant row) (length args) D count
      it = named (as_constant row) (length args) (at.is k)

      below : it.number < length ds / 16
      below = names_here (ptr_of q) k.pass it.is

      argument_at : (i : ℕ) (p : Ptr) → Argument (whole l sc) (ptr_of q) count i p → nth args i ≡ some (ptr_of p)
      argument_at i p a = argument_is l sc k.mark k.nlib _ k.depth k.held k.pass q k.scope count i p it.many a

      module _ (rs cs : List ℕ) (depth : ℕ) where
        abbrev env : Env
        env = env_of ds rs cs depth

        -- the rules' declaration
        abbrev said : declarations.Decl
        said = decl_at env.decls it.number

        kind_is : (decl_read (part 16 ds it.number)).kind ≡ D.kind
        kind_is = ap (λ (x : Decl). x.kind) it.read

        field_without : (index : ℕ) → (D.kind ≡ Some Constructor → ⊥) → field_at env row args index ≡ none
        field_without index f =
            field_by env row args index (some it.number) it.is
            ∙ ap (field_of env row args index) (no_parameters ds rs cs depth it.number below λ e. f (sym kind_is ∙ e))

        field_with : (index : ℕ) → D.kind ≡ Some Constructor → field_at env row args index ≡ nth args (D.parameters + index)
        field_with index e =
            field_by env row args index (some it.number) it.is
            ∙ ap (field_of env row args index) (parameters_are ds rs cs depth it.number below (kind_is ∙ e) ∙ ap (λ (x : Decl). some x.parameters) it.read)

        role_is : (decl_read (part 16 ds it.number)).role ≡ D.role
        role_is = ap (λ (x : Decl). x.role) it.read

        element_without : (D.role ≡ Some QuotMk → ⊥) → quot_made env row args ≡ none
        element_without f =
            element_by env row args (some it.number) it.is
            ∙ ap (element_of env row args) (ne_eqb (role_code said.role) 6 (has_no_such_role ds rs cs depth it.number below QuotMk λ e. f (sym role_is ∙ e)))

        element_with : D.role ≡ Some QuotMk → quot_made env row args ≡ third_of_three args
        element_with e =
            element_by env row args (some it.number) it.is
            ∙ ap (element_of env row args) (eq-eqb (role_code said.role) 6 (has_role ds rs cs depth it.number below QuotMk (role_is ∙ e)))

    pub may_take : Reduced l ds sc q → Counted l sc q count
    may_take k = may_ask l sc k.mark k.nlib _ k.depth k.held k.pass q k.scope k.small count (it (its_mark k)).many

    module _ (index : ℕ) where
      pub no_constructor : (D.kind ≡ Some Constructor → ⊥) → FieldAt l ds sc q index None
      no_constructor f = field_says index None λ rs cs depth k. field_without k rs cs depth index f

      pub no_such_field : D.kind ≡ Some Constructor → count ≤ D.parameters + index → FieldAt l ds sc q index None
      no_such_field e h = field_says index None λ rs cs depth k. field_with k rs cs depth index e ∙ nth_past (args k) _ (omega (arith, h, (it k).many))

      pub the_field : D.kind ≡ Some Constructor → (i : ℕ) → i ≡ D.parameters + index → (p : Ptr) → Argument (whole l sc) (ptr_of q) count i p →
          FieldAt l ds sc q index (Some p)
      the_field e i is p a =
          field_says index (Some p) λ rs cs depth k.
          field_with k rs cs depth index e ∙ ap (nth (args k)) (sym is) ∙ argument_at k i p a

    pub no_quot_mk : (D.role ≡ Some QuotMk → ⊥) → QuotMade l ds sc q None
    no_quot_mk f = element_says None λ rs cs depth k. element_without k rs cs depth f

    pub other_count : D.role ≡ Some QuotMk → (count ≡ 3 → ⊥) → QuotMade l ds sc q None
    other_count e f = element_says None λ rs cs depth k. element_with k rs cs depth e ∙ not_three (args k) λ z. f (sym (it k).many ∙ z)

    pub the_element : D.role ≡ Some QuotMk → count ≡ 3 → (p : Ptr) → Argument (whole l sc) (ptr_of q) count 2 p → QuotMade l ds sc q (Some p)
    the_element e z p a = element_says (Some p) λ rs cs depth k. element_with k rs cs depth e ∙ three (args k) ((it k).many ∙ z) ∙ argument_at k 2 p a
