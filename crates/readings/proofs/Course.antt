-- By induction on how the rules' course came about: each firing reads out as a step by a tree rule, each reduction as steps in a row.
-- What the rules tried before have left, a sane store and arguments in scope, is taken from crates/safety.
-- Assumes that the rows are sane at the start and that the term is in scope; values are read in `base`, the rows that stood at the start.
use Rattle.std.specs.Prelude.{ℕ, suc, ◌+◌, ◌≡◌, List, length}
use Rattle.std.proofs.Common.{sym, ap, ◌∙◌, subst as along}
use Rattle.std.proofs.Math.Option.{some}
use Rattle.rules.specs.Kinds as K
use Rattle.rules.specs.Rows.{Ptr, Row, node, Store, up, grow}
use Rattle.rules.specs.Rows as R
use Rattle.rules.specs.RowCheck.{InScope}
use Rattle.rules.specs.Declarations.{Rule, Recursor, recursor, Decl, Env, nth, decl_at, value_of}
use Rattle.rules.specs.Accepted.{Closed}
use Rattle.rules.specs.Firings.{Tally, Result, itself}
use Rattle.rules.specs.HeadTests.{Made, unfolds}
use Rattle.rules.specs.HeadRules.{Head, Constant, Constructs, Reduces, Side, ends, Fires, beta, zeta, variable, field, by_quot, by_recursor}
use Rattle.rules.specs.HeadRules.{by_arithmetic, by_delta, Quot, is_made, NoQuot, Rec, by_a_rule, NoRec, Arith, computed, NoArith}
use Rattle.rules.specs.HeadRules as H
use Rattle.rules.specs.ReadOut.{Tree, Reads}
use Rattle.course.specs.Tries.{recursion, missed}
use Rattle.course.specs.ToTries.{to_runs, to_fires, to_stuck, to_no_quot, to_no_rec, to_no_arith}
use Rattle.promises.specs.Stores.{ext_grow}
use Rattle.substitution.specs.Stores.{Formed, Good, scope_good, Ext, ext_same, ext_then}
use Rattle.substitution.specs.Passing.{pass_formed}
use Rattle.substitution.specs.Reading.{reads_exists, reads_later, at_row}
use Rattle.substitution.specs.Fired.{pays_due, head_reads}
use Rattle.safety.specs.Sane.{depth_of, decl_count, Sane, in_later}
use Rattle.safety.specs.Scope.{AllIn, none_in, all_later, RowIn, row_in, structure_in, spine_in}
use Rattle.safety.specs.Parts.{quot_in, rec_in, operands_in, unfolds_to_lem}
use Rattle.safety.specs.Safe.{Safe, safe_quot, safe_recursion, safe_arithmetic, term_safe}
use Rattle.safety.specs.Keeps.{Leaves, Ends, pays_keep, runs_keep, comes_keep}
use Rattle.readings.specs.TreeRules.{LocalDelta, Delta, Projection, Quotient, Iota, Step, Steps, AfterSide, AfterBoth, done}
use Rattle.readings.specs.TreeRules.{projection, quotient, iota, arithmetic, delta, local_delta}
use Rattle.readings.specs.TreeRules as T
use Rattle.readings.specs.Rules.{Given, given_due, SideRead, beta_read, zeta_read, local_read, projection_read}
use Rattle.readings.specs.Constants.{delta_read, quotient_read}
use Rattle.readings.specs.Recursors.{rec_picked, iota_read}
use Rattle.readings.specs.Computed.{arithmetic_read}

pub formed : {e : Env} {s : Store} → Sane e s → Formed s
formed sane = pass_formed sane.pass

closed_good : {s : Store} {p : Ptr} → Closed s (length s) p → Good s p
closed_good c = record { lower = c.there; still = λ z. c.still }

given_as : {P Q : Tree → Type 0} {s : Store} {r : Result} {xs : List Ptr} → ((u : Tree) → P u → Q u) → Given P s r xs → Given Q s r xs
given_as f v = record { result = v.result; rest = v.rest; reads_result = v.reads_result; reads_rest = v.reads_rest; rule = f _ v.rule }

-- a number's rows are written, and then the store is m₁'s
constructs_store : {e : Env} {m m₁ : Tally} {w : Row} {ys : List Ptr} {c : Made} → Constructs e m w ys c m₁ → grow m.store c.rows ≡ m₁.store
constructs_store k = k.grown ∙ ap (λ (m : Tally). m.store) k.then_tally

-- WHAT STANDS AT A HEAD

module _ {e : Env} {s : Store} {t : Ptr} (sane : Sane e s) (i : InScope s (depth_of e) t) where
  pub structure_scope : {x y z : Ptr} {k c j : ℕ} {xs : List Ptr} → Head s t (node (K.proj c j) x y z) k xs → InScope s (depth_of e) (up s x k)
  structure_scope {x} {y} {z} {k} {c} {j} h =
      let head = (spine_in sane.pass i none_in h.spine).head in
      let row = along (λ (w : Row). RowIn (decl_count e) s (depth_of e) h.at.shift w) h.row (row_in sane.pass head) in
      structure_in (along (λ (n : ℕ). RowIn (decl_count e) s (depth_of e) n (node (K.proj c j) x y z)) h.shift row)

  arguments_scope : {D : Decl} {n : ℕ} {xs : List Ptr} → Constant e s t D n xs → AllIn s (depth_of e) xs
  arguments_scope h = (spine_in sane.pass i none_in h.head.spine).arguments

-- RULES THAT WERE MISSED: the store that the next rule is tried from

pub record After (e : Env) (s s₁ : Store) (xs : List Ptr) : Type 0 where
  pub more : Ext s s₁
  pub sane : Sane e s₁
  pub arguments : AllIn s₁ (depth_of e) xs

pub at_head : {e : Env} {s : Store} {t : Ptr} {D : Decl} {n : ℕ} {xs : List Ptr} → Sane e s → InScope s (depth_of e) t → Constant e s t D n xs → After e s s xs
at_head {s = s} sane i h = record { more = ext_same s; sane = sane; arguments = arguments_scope sane i h }

then_missed : {e : Env} {s s₁ s₂ : Store} {xs : List Ptr} → After e s s₁ xs → Ends e s₁ s₂ missed → After e s s₂ xs
then_missed a k = record { more = ext_then a.more k.more; sane = k.sane; arguments = all_later k.more a.arguments }

module _ {e : Env} {s : Store} {d : ℕ} {m : Tally} {D : Decl} {xs : List Ptr} (a : After e s m.store xs) where
  pub past_quot : {m₁ : Tally} → NoQuot e d m D xs m₁ → After e s m₁.store xs
  past_quot q = then_missed a (comes_keep (to_no_quot e q) a.sane (safe_quot a.sane a.arguments D))

  past_recursor : {m₁ : Tally} {n : ℕ} (j : ℕ) → decl_at e.decls j ≡ D → NoRec e d m D n xs m₁ → After e s m₁.store xs
  past_recursor {n = n} j same q =
      then_missed a (comes_keep (to_no_rec e q) a.sane
      (along (λ (D : Decl). Safe (decl_count e) (depth_of e) m.store (recursion e D n xs)) same (safe_recursion a.sane a.arguments j n)))

  pub past_arithmetic : {m₁ : Tally} → NoArith e d m D xs m₁ → After e s m₁.store xs
  past_arithmetic q = then_missed a (comes_keep (to_no_arith e q) a.sane (safe_arithmetic a.sane a.arguments D))

-- neither a quotient nor a recursor
pub past_two : {e : Env} {s : Store} {d n : ℕ} {m m₁ m₂ : Tally} {t : Ptr} {D : Decl} {xs : List Ptr} → After e s m.store xs → Constant e s t D n xs →
    NoQuot e d m D xs m₁ → NoRec e d m₁ D n xs m₂ → After e s m₂.store xs
past_two a h nq nr = past_recursor (past_quot a nq) h.named h.declared nr

-- THE COURSE

module _ {e : Env} {base : Store} (old : Sane e base) where
  -- the tree that a reduction of what reads as u ends in
  pub record ReductionRead (u : Tree) (s' : Store) (t' : Ptr) : Type 0 where
    pub tree : Tree
    pub reads : Reads s' t' tree
    pub steps : Steps e base u tree

  -- a rule with what it asked for is a step
  by_projection : {u : Tree} (v : Tree) → AfterSide e base (Projection e) u v → Step e base u v
  by_projection v a = projection a.rule a.steps

  by_quotient : {u : Tree} (v : Tree) → AfterSide e base (Quotient e) u v → Step e base u v
  by_quotient v a = quotient a.rule a.steps

  by_iota : {u : Tree} (v : Tree) → AfterSide e base (Iota e base) u v → Step e base u v
  by_iota v a = iota a.rule a.steps

  by_both : {u : Tree} (v : Tree) → AfterBoth e base u v → Step e base u v
  by_both v a = arithmetic a.rule a.first_steps a.second_steps

  after_step : {u v : Tree} {s' : Store} {t' : Ptr} → Step e base u v → ReductionRead v s' t' → ReductionRead u s' t'
  after_step p z = record { tree = z.tree; reads = z.reads; steps = T.then p z.steps }

  -- a side reduction that was read out, taken apart at its head
  ended : {s s₁ : Store} {p q : Ptr} {w : Row} {k : ℕ} {ys : List Ptr} {asked : Tree} → Reads s p asked → ReductionRead asked s₁ q → Leaves e s s₁ q →
      Head s₁ q w k ys → SideRead e base s p s₁ w ys
  ended {asked = asked} r z k h =
      let spine = head_reads (formed k.sane) (scope_good k.term) z.reads h in
      record {
        asked = asked;
        reads_asked = r;
        shift = h.at.shift;
        head = spine.tree;
        arguments = spine.trees;
        reads_head = at_row h.row spine.reads;
        reads_arguments = spine.arguments;
        more = k.more;
        sane = k.sane;
        steps = along (Steps e base asked) (sym spine.whole) z.steps;
      }

  value_good : {D : Decl} {v : Ptr} (j n : ℕ) → decl_at e.decls j ≡ D → unfolds D n ≡ some v → Good base v
  value_good {D} {v} j n same q = closed_good (old.value j v (ap (λ (D : Decl). D.value) same ∙ unfolds_to_lem D n q))

  rule_good : {D : Decl} {o : Recursor} (j : ℕ) → decl_at e.decls j ≡ D → D.form ≡ recursor o →
      (i : ℕ) (ρ : Rule) → nth o.rules i ≡ some ρ → Good base ρ.value
  rule_good {o = o} j same form i ρ q = closed_good (old.rule j o i ρ (ap (λ (D : Decl). D.form) same ∙ form) q)

  -- a context value, and a constant's value after the rules before it were missed
  pub local_at : {s : Store} {t v a : Ptr} {k j : ℕ} {xs : List Ptr} {u : Tree} → Ext base s → Sane e s → InScope s (depth_of e) t → Reads s t u →
      Head s t (R.var j) k xs → value_of e (j + k) ≡ some v → up s v (suc (j + k)) ≡ a → Given (LocalDelta e base u) s (itself a) xs
  local_at {v = v} {k = k} {j} x sane i r h q y = local_read (formed old) (scope_good (old.context (j + k) v q)) x (formed sane) (scope_good i) r h q y

  pub delta_at : {s s₁ : Store} {t v : Ptr} {D : Decl} {n : ℕ} {xs : List Ptr} {u : Tree} → Ext base s → Sane e s → InScope s (depth_of e) t → Reads s t u →
      Constant e s t D n xs → After e s s₁ xs → unfolds D n ≡ some v → Given (Delta e base u) s₁ (itself v) xs
  delta_at {n = n} x sane i r h a q =
      delta_read (formed old) (value_good h.named n h.declared q) (ext_then x a.more) (formed sane) (scope_good i) r a.more h q

  mutual
    pub reduction_read : {d : ℕ} {m m' : Tally} {t t' : Ptr} {u : Tree} → Ext base m.store → Sane e m.store → InScope m.store (depth_of e) t →
        Reads m.store t u → Reduces e d m t m' t' → ReductionRead u m'.store t'
    reduction_read {u = u} x sane i r (H.final st) =
        let a = to_stuck e st in
        let k = comes_keep a.comes sane (term_safe sane i a.spine) in
        record { tree = u; reads = reads_later (formed sane) k.more (scope_good i) r; steps = done }
    reduction_read x sane i r (H.then f p q) =
        let a = to_fires e f in
        let k = comes_keep a.comes sane (term_safe sane i a.spine) in
        let y = pays_keep k.sane k.end p in
        let g = firing_read x sane i r f in
        let x₂ = ext_then x (ext_then k.more y.more) in
        after_step g.rule (reduction_read x₂ y.sane y.term (given_due (formed k.sane) g (pays_due p)).reads q)

    pub side_read : {d : ℕ} {m m₁ : Tally} {p : Ptr} {w : Row} {ys : List Ptr} → Ext base m.store → Sane e m.store → InScope m.store (depth_of e) p →
        Side e d m p m₁ w ys → SideRead e base m.store p m₁.store w ys
    side_read x sane i (ends r h) =
        let asked = (reads_exists (formed sane) (scope_good i)).reads in
        ended asked (reduction_read x sane i asked r) (runs_keep (to_runs e r) sane i) h

    pub firing_read : {d : ℕ} {m m₁ : Tally} {t : Ptr} {r : Result} {xs : List Ptr} {u : Tree} → Ext base m.store → Sane e m.store →
        InScope m.store (depth_of e) t → Reads m.store t u → Fires e d m t m₁ r xs → Given (Step e base u) m₁.store r xs
    firing_read x sane i r (beta h) = given_as (λ v. T.beta) (beta_read (formed sane) (scope_good i) r h)
    firing_read x sane i r (zeta h q) = given_as (λ v. T.zeta) (zeta_read (formed sane) (scope_good i) r h q)
    firing_read x sane i r (variable h q y) = given_as (λ v. local_delta) (local_at x sane i r h q y)
    firing_read x sane i r (field h sd q) =
        given_as by_projection (projection_read (formed sane) (scope_good i) r h (side_read x sane (structure_scope sane i h) sd) q)
    firing_read x sane i r (by_quot h q) = given_as by_quotient (quot_read x sane i r h q)
    firing_read x sane i r (by_recursor h nq q) = given_as by_iota (rec_read x sane i r h (past_quot (at_head sane i h) nq) q)
    firing_read x sane i r (by_arithmetic h nq nr q) = given_as by_both (arith_read x sane i r h (past_two (at_head sane i h) h nq nr) q)
    firing_read x sane i r (by_delta h nq nr na q) =
        given_as (λ v. delta) (delta_at x sane i r h (past_arithmetic (past_two (at_head sane i h) h nq nr) na) q)

    -- the rules of a constant at t, which stands in s; the rules tried before have left the store of m
    pub quot_read : {d n : ℕ} {m m₁ : Tally} {t : Ptr} {D : Decl} {r : Result} {xs ys : List Ptr} {u : Tree} → Ext base m.store → Sane e m.store →
        InScope m.store (depth_of e) t → Reads m.store t u → Constant e m.store t D n xs → Quot e d m D xs m₁ r ys →
        Given (AfterSide e base (Quotient e) u) m₁.store r ys
    quot_read x sane i r h (is_made {D = D} q sd p) =
        quotient_read (formed sane) (scope_good i) r h q (side_read x sane (quot_in D (at_head sane i h).arguments q).major sd) p

    pub rec_read : {s : Store} {d n : ℕ} {m m₁ : Tally} {t : Ptr} {D : Decl} {r : Result} {xs ys : List Ptr} {u : Tree} → Ext base s → Sane e s →
        InScope s (depth_of e) t → Reads s t u → Constant e s t D n xs → After e s m.store xs → Rec e d m D n xs m₁ r ys →
        Given (AfterSide e base (Iota e base) u) m₁.store r ys
    rec_read {u = u} x sane i r h a (by_a_rule {n = n} {m₁ = m₁} {D = D} {c = c} {v = v} {xs = xs} {zs = zs} q sd made p) =
        let d = side_read (ext_then x a.more) a.sane (rec_in D n a.arguments q).major sd in
        let rules = rule_good h.named h.declared (rec_picked D n xs q).form in
        along (λ (s : Store). Given (AfterSide e base (Iota e base) u) s (itself v) zs) (constructs_store made)
        (iota_read (formed old) rules (ext_then x (ext_then a.more d.more)) (formed sane) (scope_good i) r a.more h q
        (formed d.sane) (ext_grow m₁.store c.rows) d made.constructor p)

    pub arith_read : {s : Store} {d n : ℕ} {m m₁ : Tally} {t : Ptr} {D : Decl} {r : Result} {xs ys : List Ptr} {u : Tree} → Ext base s → Sane e s →
        InScope s (depth_of e) t → Reads s t u → Constant e s t D n xs → After e s m.store xs → Arith e d m D xs m₁ r ys →
        Given (AfterBoth e base u) m₁.store r ys
    arith_read x sane i r h a (computed {D = D} q sd nx sd' ny out) =
        let parts = operands_in e D a.arguments q in
        let d = side_read (ext_then x a.more) a.sane parts.first sd in
        let d' = side_read (ext_then x (ext_then a.more d.more)) d.sane (in_later d.more parts.second) sd' in
        arithmetic_read (formed sane) (scope_good i) r a.more h q d nx d' ny out
