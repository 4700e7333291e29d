-- The walk to an argument: from t down the functions until as many arguments are left as the position wants.
-- Assumes nothing.
use Prim.Native.Nat.{ℕ, suc, ◌+◌, ◌-◌, ◌<◌}
use native.Mathlib.Omega.{arith}
use mathlib.Core.Path.{◌≡◌, refl, sym, ap, ◌∙◌, subst}
use mathlib.Core.List.{List, [], ◌∷◌, ◌++◌}
use mathlib.Core.Option.{some}
use native.Mathlib.Decide.{ℕ_discrete}
use lib.ListN.{length, get_or, length-append}
use lib.Seq.{append_snoc}
use Rattle.rules.specs.Kinds.{app}
use Rattle.rules.specs.Rows as rules
use Rattle.rules.specs.Rows.{node, Store, row_at, up}
use Rattle.rules.specs.RowCheck.{InScope}
use Rattle.rules.specs.Declarations.{nth}
use Rattle.rules.specs.Spines.{Spine, head, through, NoApp}
use Rattle.substitution.specs.Stores.{scope_good}
use Rattle.substitution.specs.Passing.{pass_formed}
use Rattle.promises.specs.Same.{spine_same}
use Rattle.ways.specs.Spines.{args_of, head_of, spine_of, spine_later}
use Rattle.rows.specs.declared.Ptr.{Ptr}
use Rattle.rows.specs.Words.{ptr_of, pair_at, words_at, store_of, whole}
use Rattle.spine.specs.Walks.{Walks, HasChild, Argument, Counted}
use Rattle.spine.proofs.Prefix.{whole_ext}
use Rattle.spine.proofs.Walking.{is_application, has_function, has_argument, function_answered, argument_answered, step_scope, head_there}

-- TAKING A SPINE APART
no_app_app : {w : rules.Row} {f a z : rules.Ptr} → NoApp w → w ≡ node app f a z → ⊥
no_app_app {w} {f} {a} {z} n e = go (subst NoApp e n)
  where
    go : NoApp (node app f a z) → ⊥
    go = elim [ ]

pub at_head : {s : Store} {p h : rules.Ptr} {zs xs : List rules.Ptr} → NoApp (row_at s p.row) → Spine s p zs h xs → zs ≡ xs
at_head n (head m) = refl
at_head n (through e r) = absurd (no_app_app n e)

pub at_application : {s : Store} {p h f a z : rules.Ptr} {zs xs : List rules.Ptr} → row_at s p.row ≡ node app f a z → Spine s p zs h xs →
    Spine s (up s f p.shift) (up s a p.shift ∷ zs) h xs
at_application e (head m) = absurd (no_app_app m e)
at_application {s} {p} {h} {f} {a} {zs = zs} {xs = xs} e (through {f = f'} {a = a'} e' r) =
    let qf : f' ≡ f = cc in
    let qa : a' ≡ a = cc in
    rw (qf, qa) at r

-- what is behind a walk is the end of the whole
pub record Front (zs xs : List rules.Ptr) : Type 0 where
  pub front : List rules.Ptr
  pub joined : front ++ zs ≡ xs

snoc_front : {x : rules.Ptr} {zs xs : List rules.Ptr} → Front (x ∷ zs) xs → Front zs xs
snoc_front {x} {zs} k = record { front = k.front ++ (x ∷ []); joined = append_snoc k.front x zs ∙ k.joined }

pub spine_front : {s : Store} {p h : rules.Ptr} {zs xs : List rules.Ptr} → Spine s p zs h xs → Front zs xs
spine_front (head m) = record { front = []; joined = refl }
spine_front (through e r) = snoc_front (spine_front r)

pub nth-front : (front : List rules.Ptr) (x : rules.Ptr) (zs : List rules.Ptr) → nth (front ++ (x ∷ zs)) (length front) ≡ some x
unfolding nth
nth-front [] x zs = refl
nth-front (y ∷ front) x zs = nth-front front x zs

-- the element that stands before an end of known length
nth_at : {x : rules.Ptr} {zs xs : List rules.Ptr} (n : ℕ) → Front (x ∷ zs) xs → length zs + suc n ≡ length xs → nth xs n ≡ some x
nth_at {x} {zs} {xs} n k q =
    let a = ap length k.joined in
    let b = length-append k.front (x ∷ zs) in
    let at : length k.front ≡ n = omega arith in
    subst (λ (j : ℕ). nth xs j ≡ some x) at (subst (λ (ys : List rules.Ptr). nth ys (length k.front) ≡ some x) k.joined (nth-front k.front x zs))

-- THE WALK

-- it has come from t to p, and the position `last` is the one of p's own argument
pub record Arguing (l sc : List ℕ) (t : Ptr) (count : ℕ) (p : Ptr) (last : ℕ) : Type 0 where
  pub walks : Walks l sc t
  pub scope : InScope (store_of l sc walks.mark) walks.depth (ptr_of p)
  pub the_head : rules.Ptr
  pub all : List rules.Ptr
  pub behind : List rules.Ptr
  pub whole_spine : Spine (store_of l sc walks.mark) (ptr_of t) [] the_head all
  pub spine : Spine (store_of l sc walks.mark) (ptr_of p) behind the_head all
  pub position : length behind + suc last ≡ length all
  pub counted : length all ≡ count

module _ (l sc : List ℕ) (t : Ptr) (count : ℕ) where
  pub begin : Counted l sc t count → 0 < count → Arguing l sc t count t (count - 1)
  begin c h =
      let w = c.walks in
      let q = c.counted in
      let r = spine_of (pass_formed w.pass) (scope_good w.scope) in
      record {
        walks = w;
        scope = w.scope;
        the_head = head_of (store_of l sc w.mark) (ptr_of t);
        all = args_of (store_of l sc w.mark) (ptr_of t);
        behind = [];
        whole_spine = r;
        spine = r;
        position = omega arith;
        counted = q;
      }

  -- the same place, its position written in another way
  pub moved : (p : Ptr) (last last' : ℕ) → last ≡ last' → Arguing l sc t count p last → Arguing l sc t count p last'
  moved p last last' e k = subst (λ (n : ℕ). Arguing l sc t count p n) e k

  module _ (p : Ptr) (last : ℕ) (k : Arguing l sc t count p last) where
    -- there is an argument to come, so this is an application
    pub application : get_or (words_at l sc p.row) 0 0 ≡ 3
    application = go (ℕ_discrete (get_or (words_at l sc p.row) 0 0) 3)
      where
        go : Dec (get_or (words_at l sc p.row) 0 0 ≡ 3) → get_or (words_at l sc p.row) 0 0 ≡ 3
        go (yes e) = e
        go (no f) =
            let w = k.walks in
            let e = at_head (head_there l sc w.mark w.nlib w.held p k.scope f) k.spine in
            let n = ap length e in
            let q = k.position in absurd (omega arith)

    pub function_there : HasChild l sc p 0
    function_there = let w = k.walks in has_function l sc w.mark w.nlib w.depth w.held (pass_formed w.pass) w.small p k.scope application

    pub argument_there : HasChild l sc p 1
    argument_there = let w = k.walks in has_argument l sc w.mark w.nlib w.depth w.held (pass_formed w.pass) w.small p k.scope application

    next_spine : Spine (store_of l sc k.walks.mark) (up (store_of l sc k.walks.mark) (ptr_of (pair_at (words_at l sc p.row) 0)) p.shift)
        (up (store_of l sc k.walks.mark) (ptr_of (pair_at (words_at l sc p.row) 1)) p.shift ∷ k.behind) k.the_head k.all
    next_spine = let w = k.walks in at_application (is_application l sc w.mark w.nlib w.depth w.held (pass_formed w.pass) w.small p k.scope application) k.spine

    pub onward : (r : Ptr) → ptr_of r ≡ up (whole l sc) (ptr_of (pair_at (words_at l sc p.row) 0)) p.shift → 0 < last → Arguing l sc t count r (last - 1)
    onward r e h =
        let w = k.walks in
        let q = k.position in
        let e' = function_answered l sc w.mark w.nlib w.depth w.held (pass_formed w.pass) w.small p k.scope application r e in
        record {
          walks = w;
          scope = step_scope l sc w.mark w.nlib w.depth w.held (pass_formed w.pass) w.small p k.scope application r e';
          the_head = k.the_head;
          all = k.all;
          behind = up (store_of l sc w.mark) (ptr_of (pair_at (words_at l sc p.row) 1)) p.shift ∷ k.behind;
          whole_spine = k.whole_spine;
          spine = rw e' next_spine;
          position = omega arith;
          counted = k.counted;
        }

    at_last : nth k.all last ≡ some (up (store_of l sc k.walks.mark) (ptr_of (pair_at (words_at l sc p.row) 1)) p.shift)
    at_last = nth_at last (spine_front next_spine) k.position

    -- the walk has come to position i
    pub found : (i : ℕ) → last ≡ i → (r : Ptr) → ptr_of r ≡ up (whole l sc) (ptr_of (pair_at (words_at l sc p.row) 1)) p.shift → Argument (whole l sc) (ptr_of t) count i r
    found i q r e = record { is = λ h xs s n. ap (nth xs) (sym q) ∙ same h xs s ∙ at_last ∙ ap some (sym e') }
      where
        e' : ptr_of r ≡ up (store_of l sc k.walks.mark) (ptr_of (pair_at (words_at l sc p.row) 1)) p.shift
        e' = let w = k.walks in argument_answered l sc w.mark w.nlib w.depth w.held (pass_formed w.pass) w.small p k.scope application r e

        same : (h : rules.Ptr) (xs : List rules.Ptr) → Spine (whole l sc) (ptr_of t) [] h xs → nth xs last ≡ nth k.all last
        same h xs s =
            let w = k.walks in
            let s' = spine_later (pass_formed w.pass) (whole_ext l sc w.mark w.nlib w.held) (scope_good w.scope) k.whole_spine in
            ap (λ (ys : List rules.Ptr). nth ys last) (spine_same s s').arguments
