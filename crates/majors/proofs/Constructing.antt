-- The major as a constructor, way by way: nothing, a constant as it stands, a number's rows written or refused.
-- Assumes rows that are used.
use Prim.Native.Nat.{ℕ, suc, ◌+◌, ◌-◌, ◌/◌, ◌≤◌}
use native.Mathlib.Omega.{arith}
use mathlib.Core.Path.{◌≡◌, refl, sym, ap, ◌∙◌, subst}
use mathlib.Core.List.{List, [], ◌∷◌}
use mathlib.Core.Option.{Option, none, some}
use lib.ListN.{length}
use lib.Seq.{drop-length}
use Rattle.rules.specs.Maxima.{most_number}
use Rattle.rules.specs.Kinds.{const, num, app}
use Rattle.rules.specs.Rows as rules
use Rattle.rules.specs.Rows.{Row, Store, Got, put, leaf, node, ptr, blank, grow}
use Rattle.rules.specs.RowCheck.{AllPass, InScope}
use Rattle.rules.specs.Declarations.{Env}
use Rattle.rules.specs.HeadTests as heads
use Rattle.rules.specs.HeadTests.{given, as_constant, as_number, number_made, made_on, as_constructor}
use Rattle.rules.specs.Refusals.{Limits}
use Rattle.course.specs.Charged as course
use Rattle.course.specs.Charged.{put_in}
use Rattle.course.specs.Eval.{charge, emit}
use Rattle.promises.specs.Charge.{settle_on, settle}
use Rattle.ways.specs.Spines.{args_of}
use Rattle.rows.specs.declared.Ptr.{Ptr}
use Rattle.rows.specs.Refusals.{Out}
use Rattle.rows.specs.Words.{ptr_of, store_of}
use Rattle.rows.specs.Writes.{Grown, Wrote}
use Rattle.rows.proofs.InTurn.{done_held, done_are_rows}
use Rattle.spine.specs.declared.Spined.{Spined}
use Rattle.state.specs.declared.Given.{Given}
use Rattle.state.specs.declared.Meter.{Meter}
use Rattle.state.specs.State.{metered_at, limits_in, Used}
use Rattle.majors.specs.declared.Made.{Made}
use Rattle.majors.specs.Majors.{Agrees, head_row, major_of, Construction, MadeAs, Constructed, ConstantMade, constant_in, succ_in, made_from}
use Rattle.majors.proofs.NumberRows.{constant_charged, succ_charged, succ_rows, with_both, more_pass, LastRow, constant_last, succ_last}
use Rattle.std.specs.Prelude.{Option as Maybe, Err, None, Ok, Some}
use Rattle.rows.specs.Refusals.{number_of}
use Rattle.tables.specs.declared.Holders.{Holders}
use Rattle.tables.specs.declared.codes.Role.TheVariants.{Zero, Succ}
use Rattle.tables.specs.Read.{found_number, holder_in}
use Rattle.rows.specs.declared.refusals.Refusal.{Refusal}

same_parts : {z z' : Maybe Made × Meter} → ◌≡◌ {A = Construction} (Ok z) (Ok z') → z ≡ z'
same_parts {z} q = ap (λ (o : Construction). go o) q
  where
    go : Construction → Maybe Made × Meter
    go (Ok x) = x
    go (Err k) = z

no_answer : {z : Maybe Made × Meter} {k : Refusal} → ◌≡◌ {A = Construction} (Ok z) (Err k) → ⊥
no_answer q = let n : ◌≡◌ {A = ℕ} 0 1 = cc in omega arith

-- a constructor is not none
some_made : {x : Made} {m m' : Meter} → ◌≡◌ {A = Construction} (Ok (Some x, m)) (Ok (None, m')) → ⊥
some_made q = let z = ap (λ (y : Maybe Made × Meter). y.0) (same_parts q) in cc

-- A NUMBER AS THE RULES MAKE IT

module _ (hs : Holders) (e : Env) (agrees : Agrees e hs) (s : Store) where
  abbrev zero_made : ℕ → heads.Made
  zero_made c = heads.made c [] (leaf (const c 0) ∷ [])

  zero_is : number_made e s 0 ≡ given (found_number (holder_in hs Zero)) (λ c. some (zero_made c))
  unfolding number_made
  zero_is = ap (λ (x : Option ℕ). given x (λ c. some (zero_made c))) (agrees.holds Zero)

  pub no_zero : holder_in hs Zero ≡ None → number_made e s 0 ≡ none
  no_zero h = zero_is ∙ ap (λ (x : Maybe ℕ). given (found_number x) (λ c. some (zero_made c))) h

  pub a_zero : {c : ℕ} → holder_in hs Zero ≡ Some c → number_made e s 0 ≡ some (zero_made c)
  a_zero h = zero_is ∙ ap (λ (x : Maybe ℕ). given (found_number x) (λ c. some (zero_made c))) h

  abbrev succ_made : ℕ → ℕ → heads.Made
  succ_made n c =
      heads.made c (ptr (suc (length s)) 0 ∷ []) (leaf (const c 0) ∷ leaf (num n) ∷ node app (ptr (length s) 0) (ptr (suc (length s)) 0) blank ∷ [])

  succ_is : (n : ℕ) → number_made e s (suc n) ≡ given (found_number (holder_in hs Succ)) (λ c. some (succ_made n c))
  unfolding number_made
  succ_is n = ap (λ (x : Option ℕ). given x (λ c. some (succ_made n c))) (agrees.holds Succ)

  pub no_succ : (n : ℕ) → holder_in hs Succ ≡ None → number_made e s (suc n) ≡ none
  no_succ n h = succ_is n ∙ ap (λ (x : Maybe ℕ). given (found_number x) (λ c. some (succ_made n c))) h

  pub a_succ : (n : ℕ) {c : ℕ} → holder_in hs Succ ≡ Some c → number_made e s (suc n) ≡ some (succ_made n c)
  a_succ n h = succ_is n ∙ ap (λ (x : Maybe ℕ). given (found_number x) (λ c. some (succ_made n c))) h

-- ROWS THAT ARE PAID, AND ROWS THAT ARE NOT

paid : (g : Got) (o : Option ℕ) {h : Got} → course.wrote h ≡ settle_on g o → (o ≡ none) × (g ≡ h)
paid g none q = (refl, cc)
paid g (some k) q = absurd (let z : ◌≡◌ {A = ℕ} 0 1 = cc in omega arith)

unpaid : (g : Got) (o : Option ℕ) {k : ℕ} → course.refused k ≡ settle_on g o → o ≡ some k
unpaid g none q = absurd (let z : ◌≡◌ {A = ℕ} 0 1 = cc in omega arith)
unpaid g (some n) q = cc

same_meter : {m m' : Meter} → some m ≡ some m' → m.mark ≡ m'.mark
same_meter {m} {m'} q = let z : m ≡ m' = cc in ap (λ (x : Meter). x.mark) z

-- the meter of an answer that is none
meter_is : {z z' : Maybe Made} {m m' : Meter} → ◌≡◌ {A = Construction} (Ok (z, m)) (Ok (z', m')) → m ≡ m'
meter_is q = ap (λ (y : Maybe Made × Meter). y.1) (same_parts q)

made_is : {z z' : Made} {m m' : Meter} → ◌≡◌ {A = Construction} (Ok (Some z, m)) (Ok (Some z', m')) → z ≡ z'
made_is q = let h = ap (λ (y : Maybe Made × Meter). y.0) (same_parts q) in cc

module _ (l sc : List ℕ) (g : Given) (m : Meter) (used : Used l sc g.nlib m.mark) where
  abbrev s : Store
  s = store_of l sc m.mark

  abbrev lim : Limits
  lim = limits_in g sc

  none_grown : Grown sc m.mark sc m.mark
  none_grown = record { upward = omega arith; room = used.held.room; past = refl; rows = λ i low high. absurd (omega arith) }

  module _ (major : Env → Option heads.Made) where
    pub nothing_made : ((e : Env) → Agrees e g.holders → major e ≡ none) → Constructed l sc g m major (Ok (None, m)) sc
    nothing_made is = record {
      nothing = λ m' q e agrees. record { is = is e agrees; meter = sym (meter_is q); words = refl };
      refused = λ k q. absurd (no_answer q);
      made = λ z m' q. absurd (some_made (sym q));
      kept = refl;
      same_length = refl;
      grown = λ m' q. subst (Grown sc m.mark sc) (same_meter q) none_grown;
    }

    -- rows that are due for a constructor, ending in `last`
    module _ (c : ℕ) (ys : List rules.Ptr) (rows : List Row) (is : (e : Env) → Agrees e g.holders → major e ≡ some (heads.made c ys rows))
        (last : Got) (ends : grow s rows ≡ last.store) (due : course.Out) (charged : due ≡ settle lim s last)
        (D : ℕ) (stands : (h : Got) → due ≡ course.wrote h → LastRow D last ys) where
      done_made : (p : Ptr) (mark : ℕ) (sc' : List ℕ) (sp : Spined) → length ys ≡ sp.count → Wrote l sc m.mark (Ok (p, mark)) sc' due →
          (e : Env) → Agrees e g.holders → MadeAs l sc g m (major e) (record { constructor = c; term = p; spine = sp }) (metered_at m mark) sc'
      done_made p mark sc' sp many w e agrees =
          let done = paid last (charge lim s last.store) (w.says ∙ charged) in
          let here = ap (λ (x : Got). x.store) done.1 in
          let top = stands _ (sym w.says) in
          record {
            made = heads.made c ys rows;
            is = is e agrees;
            declaration = refl;
            charged = ap (charge lim s) ends ∙ done.0;
            store = sym here ∙ sym ends;
            arguments = subst (λ (x : Got). args_of x.store x.at ≡ ys) done.1 top.arguments;
            many = many;
            scope = subst (λ (x : Got). InScope x.store g.depth x.at) done.1 (top.scope g.depth);
            steps = refl;
            used = record {
              held = done_held l sc m.mark p mark sc' due w g.nlib used.held;
              words = (done_are_rows l sc m.mark p mark sc' due w g.nlib used.held (record { each = used.words })).each;
              declarations = D;
              pass = subst (AllPass D) here top.pass;
            };
          }

      pub rows_made : (count : ℕ) → length ys ≡ count → (o : Out) (sc' : List ℕ) → Wrote l sc m.mark o sc' due →
          Constructed l sc g m major (made_from g m c count o) sc'
      rows_made count many (Ok (p, mark)) sc' w = record {
        nothing = λ m' q. absurd (some_made q);
        refused = λ k q. absurd (no_answer q);
        made = λ z m' q e agrees.
            subst (λ (n : Meter). MadeAs l sc g m (major e) z n sc') (meter_is q)
            (subst (λ (x : Made). MadeAs l sc g m (major e) x (metered_at m mark) sc') (made_is q) (done_made p mark sc' _ many w e agrees));
        kept = w.kept;
        same_length = w.same_length;
        grown = λ m' q. subst (Grown sc m.mark sc') (same_meter q) (w.grown p mark refl);
      }
      rows_made count many (Err k) sc' w = record {
        nothing = λ m' q. absurd (no_answer (sym q));
        refused = λ n q e agrees. record {
          made = heads.made c ys rows;
          is = is e agrees;
          charged =
              ap (charge lim s) ends ∙ unpaid last (charge lim s last.store) (w.says ∙ charged)
              ∙ (let z : k ≡ n = cc in ap (λ (j : Refusal). some (number_of j)) z);
        };
        made = λ z m' q. absurd (no_answer (sym q));
        kept = w.kept;
        same_length = w.same_length;
        grown = λ m' q. absurd (let z : ◌≡◌ {A = ℕ} 0 1 = cc in omega arith);
      }

  -- A NUMBER

  module _ (v : ℕ) where
    abbrev as_number_made : Env → Option heads.Made
    as_number_made e = number_made e s v

    module _ (is_zero : v ≡ 0) where
      pub zero_nothing : holder_in g.holders Zero ≡ None → Constructed l sc g m as_number_made (Ok (None, m)) sc
      zero_nothing h = nothing_made as_number_made (λ e agrees. ap (number_made e s) is_zero ∙ no_zero g.holders e agrees s h)

      pub zero_made_by : (c : ℕ) → holder_in g.holders Zero ≡ Some c → (o : Out) (sc' : List ℕ) →
          Wrote l sc m.mark o sc' (put_in (g.nlib + length sc / 9) s (leaf (const c 0))) →
          Constructed l sc g m as_number_made (made_from g m c 0 o) sc'
      unfolding grow
      zero_made_by c held o sc' w =
          rows_made as_number_made c [] (leaf (const c 0) ∷ []) (λ e agrees. ap (number_made e s) is_zero ∙ a_zero g.holders e agrees s held)
          (put s (leaf (const c 0))) refl _ (constant_charged lim s c)
          (used.declarations + suc c) (λ h q. constant_last _ s c (more_pass (omega arith) used.pass) (omega arith) q)
          0 refl o sc' w

    module _ (not_zero : v ≡ 0 → ⊥) where
      one_more : v ≡ suc (v - 1)
      one_more = omega arith

      pub succ_nothing : holder_in g.holders Succ ≡ None → Constructed l sc g m as_number_made (Ok (None, m)) sc
      succ_nothing h = nothing_made as_number_made (λ e agrees. ap (number_made e s) one_more ∙ no_succ g.holders e agrees s (v - 1) h)

      pub succ_made_by : v ≤ most_number → (c : ℕ) → holder_in g.holders Succ ≡ Some c → (n : ℕ) → n ≡ v - 1 → (o : Out) (sc' : List ℕ) →
          Wrote l sc m.mark o sc' (succ_in (g.nlib + length sc / 9) s c n) → Constructed l sc g m as_number_made (made_from g m c 1 o) sc'
      succ_made_by small c held n below o sc' w =
          let next : v ≡ suc n = omega arith in
          rows_made as_number_made c _ _ (λ e agrees. ap (number_made e s) next ∙ a_succ g.holders e agrees s n held)
          (with_both s c n) (succ_rows s c n) _ (succ_charged s c n lim)
          (used.declarations + suc c) (λ h q. succ_last _ s c n (more_pass (omega arith) used.pass) (omega arith) (omega arith) q)
          1 refl o sc' w

  -- THE MAJOR ITSELF

  module _ (q : Ptr) (scope : InScope s g.depth (ptr_of q)) where
    pub number_is : {r : Construction} {sc' : List ℕ} (v : ℕ) → some v ≡ as_number (head_row s (ptr_of q)) (args_of s (ptr_of q)) → Constructed l sc g m (as_number_made v) r sc' →
        Constructed l sc g m (major_of s (ptr_of q)) r sc'
    unfolding as_constructor
    number_is {r} {sc'} v is made =
        subst (λ (major : Env → Option heads.Made). Constructed l sc g m major r sc') (λ i e. made_on e s (head_row s (ptr_of q)) (args_of s (ptr_of q)) (is i)) made

    module _ (no_number : none ≡ as_number (head_row s (ptr_of q)) (args_of s (ptr_of q))) where
      constant_of : (e : Env) (o : Option ℕ) → as_constant (head_row s (ptr_of q)) ≡ o → major_of s (ptr_of q) e ≡ given o (λ c. some (heads.made c (args_of s (ptr_of q)) []))
      unfolding as_constructor
      constant_of e o is =
          ap (made_on e s (head_row s (ptr_of q)) (args_of s (ptr_of q))) (sym no_number) ∙ ap (λ (x : Option ℕ). given x (λ c. some (heads.made c (args_of s (ptr_of q)) []))) is

      constant_as : (c : ℕ) (sp : Spined) → as_constant (head_row s (ptr_of q)) ≡ some c → length (args_of s (ptr_of q)) ≡ sp.count → (e : Env) →
          MadeAs l sc g m (major_of s (ptr_of q) e) (record { constructor = c; term = q; spine = sp }) m sc
      unfolding grow emit
      constant_as c sp is many e = record {
        made = heads.made c (args_of s (ptr_of q)) [];
        is = constant_of e (some c) is;
        declaration = refl;
        charged = ap (emit lim s) (drop-length s);
        store = refl;
        arguments = refl;
        many = many;
        scope = scope;
        steps = refl;
        used = used;
      }

      constant_left : (sp : Spined) (o : Option ℕ) → as_constant (head_row s (ptr_of q)) ≡ o → length (args_of s (ptr_of q)) ≡ sp.count →
          Constructed l sc g m (major_of s (ptr_of q)) (Ok (constant_in q sp o, m)) sc
      constant_left sp none is many = nothing_made (major_of s (ptr_of q)) (λ e agrees. constant_of e none is)
      constant_left sp (some c) is many = record {
        nothing = λ m' h. absurd (some_made h);
        refused = λ k h. absurd (no_answer h);
        made = λ z m' h e agrees.
            subst (λ (n : Meter). MadeAs l sc g m (major_of s (ptr_of q) e) z n sc) (meter_is h)
            (subst (λ (x : Made). MadeAs l sc g m (major_of s (ptr_of q) e) x m sc) (made_is h) (constant_as c sp is many e));
        kept = refl;
        same_length = refl;
        grown = λ m' h. subst (Grown sc m.mark sc) (same_meter h) none_grown;
      }

      pub constant_is : {r : Maybe Made} → ConstantMade l sc q r → Constructed l sc g m (major_of s (ptr_of q)) (Ok (r, m)) sc
      constant_is {r} made =
          let known = made.is g.nlib m.mark g.depth used scope in
          subst (λ (x : Maybe Made). Constructed l sc g m (major_of s (ptr_of q)) (Ok (x, m)) sc) (sym known.0) (constant_left made.spined _ refl known.1)
