-- The ways out of `structure_at`: the head names another constant or none, its declaration is no structure, the levels differ, or it is the one.
-- Assumes what a member is given, whatever the rules and the context are, a type in scope, and a declaration that is there.
use Prim.Native.Nat.{ℕ, zero, suc, ◌+◌, ◌*◌, ◌/◌, ◌≤◌, ◌<◌}
use native.Mathlib.Omega.{arith}
use mathlib.Core.Path.{◌≡◌, refl, sym, ap, ◌∙◌, subst}
use mathlib.Core.List.{List}
use lib.ListN.{length}
use Rattle.std.specs.Prelude.{None, Some}
use Rattle.rules.specs.Kinds.{const, table}
use Rattle.rules.specs.Rows as rules
use Rattle.rules.specs.Rows.{Row, var, node, leaf, Store, row_at}
use Rattle.rules.specs.Declarations.{structure, Decl, Env, decl_at}
use Rattle.rules.specs.Accepted.{part}
use Rattle.course.specs.Eval.{Res, no}
use Rattle.substitution.specs.Stores.{scope_good}
use Rattle.substitution.specs.Passing.{pass_formed}
use Rattle.safety.specs.Scope.{none_in, spine_in}
use Rattle.ways.specs.Spines.{head_of, args_of, spine_is, spine_of}
use Rattle.inferring.specs.Views.{IsStructure, StructureView, the_structure, no_structure as none_view, structure_view, structure_same, const_differ}
use Rattle.inferring.specs.Asks.{Ask}
use Rattle.inferring.specs.Eval.{run, structure_on, head_on}
use Rattle.rows.specs.declared.Ptr.{Ptr}
use Rattle.rows.specs.declared.Shape.{Shape}
use Rattle.rows.specs.Words.{ptr_of, kind_of, tags_at, row_by, row_of, shape_at, words_at, whole, Stands}
use Rattle.rows.proofs.Store.{row_used, used_stands}
use Rattle.spine.specs.declared.Spined.{Spined}
use Rattle.spine.specs.Walks.{Walked}
use Rattle.tables.specs.declared.Decl as code
use Rattle.tables.specs.declared.codes.DeclKind.TheVariants as kinds
use Rattle.tables.specs.Env.{env_of}
use Rattle.tables.specs.Read.{decl_read}
use Rattle.tables.specs.ReadLaws.{levels_is, structure_is, no_structure}
use Rattle.state.specs.declared.Given.{Given}
use Rattle.state.specs.declared.Meter.{Meter}
use Rattle.cycle.specs.Cycle.{Asked}
use Rattle.cycle.proofs.Standing.{declarations_are}
use Rattle.cycle.proofs.HeadShapes.{head_walked, head_below, walked_counted, shape_constant}
use Rattle.typing.specs.Here.{Here, here, env_at, store_at, res_at, Scope, Ready}
use Rattle.typing.specs.Gives.{gave, refused, Gives}
use Rattle.typing.proofs.Places.{nothing_after, nothing_keeps, piece_gives, piece_stops}
use Rattle.typing.proofs.Reducing.{may_reduce}
use Rattle.pieces.specs.declared.Structure as found
use Rattle.pieces.specs.Leaves.{Structure, StructureIn, structure_ask, StructureReady, StructureAt}

-- A KIND WORD THAT IS NOT 2 gives no constant

no_constants : (k : ℕ) (a b c : rules.Ptr) {d n : ℕ} {x y z : rules.Ptr} → (k ≡ 2 → ⊥) → row_by k a b c ≡ node (const d n) x y z → ⊥
unfolding row_by kind_of tags_at table
no_constants zero a b c f e = cc
no_constants (suc zero) a b c f e = cc
no_constants (suc (suc zero)) a b c f e = f refl
no_constants (suc (suc (suc zero))) a b c f e = cc
no_constants (suc (suc (suc (suc zero)))) a b c f e = cc
no_constants (suc (suc (suc (suc (suc zero))))) a b c f e = cc
no_constants (suc (suc (suc (suc (suc (suc zero)))))) a b c f e = cc
no_constants (suc (suc (suc (suc (suc (suc (suc zero))))))) a b c f e = cc
no_constants (suc (suc (suc (suc (suc (suc (suc (suc zero)))))))) a b c f e = cc
no_constants (suc (suc (suc (suc (suc (suc (suc (suc (suc k))))))))) a b c f e = cc

-- THE EVALUATOR'S TEST

on_none : {e : Env} {c : ℕ} {w : Row} (next : ℕ → Decl → Res) (v : StructureView e c w) → ((ps i : ℕ) → IsStructure e c w ps i → ⊥) → structure_on next v ≡ no 9
on_none next (the_structure ps i q) f = absurd (f ps i q)
on_none next (none_view g) f = refl

on_one : {e : Env} {c : ℕ} {w : Row} (next : ℕ → Decl → Res) (v : StructureView e c w) (ps i : ℕ) → IsStructure e c w ps i →
    structure_on next v ≡ next ps (decl_at e.decls i)
on_one {e} next (the_structure ps' i' q) ps i is =
    let same = structure_same q is in
    ap (λ (k : ℕ). next k (decl_at e.decls i')) same.0 ∙ ap (λ (k : ℕ). next ps (decl_at e.decls k)) same.1
on_one next (none_view g) ps i is = absurd (g ps i is)

-- IN A CALL WITH THESE WORDS

module _ (l ds rs cs sc : List ℕ) (g : Given) (m : Meter) (ready : Ready (here l ds rs cs sc g m)) (t : Ptr) (c : ℕ)
    (scope : Scope (here l ds rs cs sc g m) (ptr_of t)) where
  abbrev h : Here
  h = here l ds rs cs sc g m

  abbrev s : Store
  s = store_at h

  abbrev head_row : Row
  head_row = row_at s (head_of s (ptr_of t)).row

  asked : Asked l ds rs cs sc g m t
  asked = may_reduce ready scope

  -- the structure with ps parameters and the constructor i
  abbrev with_parts : ℕ → Decl → Structure
  with_parts ps C = record { parameters = ps; constructor = C; arguments = args_of s (ptr_of t) }

  -- what follows it
  abbrev follows : ℕ → (Store → Structure → Ask) → ℕ → Decl → Res
  follows n next ps C = res_at n h (next s (with_parts ps C))

  structure_comes : (n : ℕ) (next : Store → Structure → Ask) →
      res_at n h (structure_ask (ptr_of t) c next s) ≡ structure_on (follows n next) (structure_view (env_at h) c head_row)
  unfolding run structure_ask
  structure_comes n next =
      let formed = pass_formed ready.stand.sane.pass in
      ap (head_on (env_at h) c (λ ps C ys. res_at n h (next s (record { parameters = ps; constructor = C; arguments = ys }))) s)
      (spine_is formed (scope_good scope) (spine_of formed (scope_good scope)))

  none_there : (n : ℕ) → ((ps i : ℕ) → IsStructure (env_at h) c head_row ps i → ⊥) →
      Gives (StructureIn g.depth) n h (λ next. structure_ask (ptr_of t) c next s) (refused 9) cs sc
  none_there n f =
      piece_stops refl
      (λ next. record { is = sym (structure_comes n next ∙ on_none (follows n next) (structure_view (env_at h) c head_row) f); keeps = nothing_keeps h })
      (nothing_keeps h)

  one_there : (n ps i : ℕ) → IsStructure (env_at h) c head_row ps i →
      Gives (StructureIn g.depth) n h (λ next. structure_ask (ptr_of t) c next s) (gave (with_parts ps (decl_at (env_at h).decls i)) m) cs sc
  one_there n ps i is =
      piece_gives refl
      (λ next. record {
        is = sym (structure_comes n next ∙ on_one (follows n next) (structure_view (env_at h) c head_row) ps i is);
        after = nothing_after ready;
      })
      (nothing_after ready)
      (record {
        type = ready.typed.type i (ready.typed.constructor c ps i is.form);
        arguments = let pass = ready.stand.sane.pass in (spine_in pass scope none_in (spine_of (pass_formed pass) (scope_good scope))).arguments;
      })

-- THE WAYS OUT

module _ {l ds sc : List ℕ} {g : Given} {m : Meter} {t : Ptr} {c : ℕ} (given : StructureReady l ds sc g m t c) where
  -- whatever the rules and the context are, the head's row is no such structure
  none_at : ((rs cs : List ℕ) (ready : Ready (here l ds rs cs sc g m)) (scope : Scope (here l ds rs cs sc g m) (ptr_of t)) (ps i : ℕ) →
      IsStructure (env_at (here l ds rs cs sc g m)) c (head_row l ds rs cs sc g m ready t c scope) ps i → ⊥) → StructureAt l ds sc g m t c None
  none_at f = record {
    gives = λ n rs cs ready scope. none_there l ds rs cs sc g m ready t c scope n (f rs cs ready scope);
    counts = λ rs cs ready scope. record { there = λ a q. cc; many = λ a q. cc };
  }

  module _ {sp : Spined} (walked : Walked (whole l sc) (ptr_of t) sp) where
    pub head_stands : Stands l sc sp.head.row
    head_stands = used_stands l sc m.mark g.nlib given.ready.stand.held sp.head.row (head_below (may_reduce given.ready given.scope) sp walked)

    -- the head's words were read
    module _ {ws : List ℕ} (at_head : ws ≡ words_at l sc sp.head.row) {w : Shape} (shaped : w ≡ shape_at ws) where
      read : w ≡ shape_at (words_at l sc sp.head.row)
      read = shaped ∙ ap shape_at at_head

      module _ (rs cs : List ℕ) (ready : Ready (here l ds rs cs sc g m)) (scope : Scope (here l ds rs cs sc g m) (ptr_of t)) where
        row_read : head_row l ds rs cs sc g m ready t c scope ≡ row_of w
        row_read =
            let a = asked l ds rs cs sc g m ready t c scope in
            ap (λ (p : rules.Ptr). row_at (store_at (here l ds rs cs sc g m)) p.row) (sym (head_walked a sp walked))
            ∙ row_used l sc m.mark g.nlib ready.stand.held sp.head.row (head_below a sp walked) w read

      pub no_constant : (w.kind ≡ 2 → ⊥) → StructureAt l ds sc g m t c None
      no_constant f = none_at λ rs cs ready scope ps i is.
          no_constants w.kind (ptr_of w.first) (ptr_of w.second) (ptr_of w.third) f (sym (row_read rs cs ready scope) ∙ is.row)

      module _ (kind : w.kind ≡ 2) where
        constant : (rs cs : List ℕ) (ready : Ready (here l ds rs cs sc g m)) (scope : Scope (here l ds rs cs sc g m) (ptr_of t)) →
            head_row l ds rs cs sc g m ready t c scope ≡ leaf (const w.first.row w.first.shift)
        constant rs cs ready scope = shape_constant (asked l ds rs cs sc g m ready t c scope) sp walked w read kind

        pub another_constant : (w.first.row ≡ c → ⊥) → StructureAt l ds sc g m t c None
        another_constant f = none_at λ rs cs ready scope ps i is. const_differ f (sym (constant rs cs ready scope) ∙ is.row)

        module _ {d : code.Decl} (of_d : d ≡ decl_read (part 16 ds c)) where
          same_kind : d.kind ≡ (decl_read (part 16 ds c)).kind
          same_kind = ap (λ (x : code.Decl). x.kind) of_d

          pub another_form : (d.kind ≡ Some kinds.Structure → ⊥) → StructureAt l ds sc g m t c None
          another_form f = none_at λ rs cs ready scope ps i is. no_structure ds rs cs g.depth c given.named (λ e. f (same_kind ∙ e)) ps i is.form

          module _ (form : d.kind ≡ Some kinds.Structure) where
            its_form : (rs cs : List ℕ) → (decl_at (env_of ds rs cs g.depth).decls c).form ≡ structure d.parameters d.second
            its_form rs cs =
                structure_is ds rs cs g.depth c given.named (sym same_kind ∙ form)
                ∙ ap (λ (x : code.Decl). structure x.parameters x.second) (sym of_d)

            constructor_there : d.second < length ds / 16
            constructor_there =
                let i = given.ready.typed.constructor c d.parameters d.second (its_form given.rules given.context) in
                omega (arith, i, declarations_are ds given.rules given.context g.depth)

            pub constructor_words : 16 * d.second + 16 ≤ length ds
            constructor_words = omega (arith, constructor_there)

            module _ {x : code.Decl} (of_x : x ≡ decl_read (part 16 ds d.second)) where
              its_levels : (rs cs : List ℕ) → (decl_at (env_of ds rs cs g.depth).decls d.second).levels ≡ x.levels
              its_levels rs cs = levels_is ds rs cs g.depth d.second constructor_there ∙ ap (λ (y : code.Decl). y.levels) (sym of_x)

              pub other_levels : (x.levels ≡ w.first.shift → ⊥) → StructureAt l ds sc g m t c None
              other_levels f = none_at λ rs cs ready scope ps i is.
                  f (sym (its_levels rs cs) ∙ counted rs cs is.form (sym (constant rs cs ready scope) ∙ is.row) is.levels)
                where
                  counted : (rs cs : List ℕ) {ps i n : ℕ} {y z u : rules.Ptr} → (decl_at (env_of ds rs cs g.depth).decls c).form ≡ structure ps i →
                      leaf (const w.first.row w.first.shift) ≡ node (const c n) y z u → n ≡ (decl_at (env_of ds rs cs g.depth).decls i).levels →
                      (decl_at (env_of ds rs cs g.depth).decls d.second).levels ≡ w.first.shift
                  counted rs cs {ps} {i} {n} form row levels =
                      let forms : structure d.parameters d.second ≡ structure ps i = sym (its_form rs cs) ∙ form in
                      let j : d.second ≡ i = cc in
                      let k : n ≡ w.first.shift = cc in
                      ap (λ (a : ℕ). (decl_at (env_of ds rs cs g.depth).decls a).levels) j ∙ sym levels ∙ k

              -- what is answered
              abbrev answer : found.Structure
              answer = record { parameters = d.parameters; constructor = d.second; count = sp.count }

              pub its_structure : w.first.row ≡ c → x.levels ≡ w.first.shift → StructureAt l ds sc g m t c (Some answer)
              its_structure names levels = record {
                gives = λ n rs cs ready scope.
                    one_there l ds rs cs sc g m ready t c scope n d.parameters d.second (record {
                      n = w.first.shift;
                      x = rules.blank;
                      y = rules.blank;
                      z = rules.blank;
                      row = constant rs cs ready scope ∙ ap (λ (k : ℕ). leaf (const k w.first.shift)) names;
                      form = its_form rs cs;
                      levels = sym (its_levels rs cs ∙ levels);
                    });
                counts = λ rs cs ready scope. record {
                  there = λ a q. let same : answer ≡ a = cc in subst (λ (b : found.Structure). b.constructor < length ds / 16) same constructor_there;
                  many = λ a q.
                      let same : answer ≡ a = cc in
                      (walked_counted (asked l ds rs cs sc g m ready t c scope) sp walked).counted ∙ ap (λ (b : found.Structure). b.count) same;
                };
              }
