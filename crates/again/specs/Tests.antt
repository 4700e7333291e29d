-- What the rules test without a reduction comes out alike on two sides that are alike: each test of the rules is there on both or on neither, and what
-- it takes is alike. Assumes a likeness, and stores and environments that are alike.
use Prim.Native.Nat.{ℕ, zero, suc, ◌+◌, ◌-◌}
use Rattle.std.specs.Prelude.{◌≡◌, refl, Bool, true, false, List, length, take, drop, leb}
use Rattle.std.proofs.Common.{ap}
use Rattle.std.proofs.Math.Path.{subst}
use Rattle.std.proofs.Math.Option.{Option, none, some}
use Rattle.std.proofs.Math.Dec.{eqb}
use Rattle.rules.specs.Kinds.{Kind, sort, const, app, lam, pi, let', proj, num}
use Rattle.rules.specs.Rows.{Ptr, ptr, Row, var, node, Store, grow, put}
use Rattle.rules.specs.Declarations.{Role, zero', succ', true', false', quot_mk, Rule, Recursor, Form, Decl, Env, nth, role_code}
use Rattle.rules.specs.Arithmetic.{Op, add, sub, mul, div, mod', beq, ble, Computed, number, truth}
use Rattle.rules.specs.HeadTests.{held, both, as_constant, as_number, parameters_of, field_at, quot_position, QuotParts, quot_parts, third_of_three, quot_made}
use Rattle.rules.specs.HeadTests.{recursor_of, before_indices, major_position, RecParts, rec_parts, Made, number_made, made_on, as_constructor, rule_on}
use Rattle.rules.specs.HeadTests.{rule_for, last_of, Ruled, by_rule, operation_of, tried, Operands, exactly_two, operands, outcome, unfolds}
use Rattle.substitution.specs.Stores.{put-length}
use Rattle.again.specs.Alike.{Opt, nones, somes, Each, ended, next, nth_like, drop_like, take_like, append_like, length_like, given_like}
use Rattle.again.specs.Alike.{provided_like, same_given, NewRow, new_const, new_num, new_app, Likeness, RowsLike, no_rows, row_then, put_grown}
use Rattle.again.specs.Alike.{ResultLike, number_like, constant_like, RuleLike, RecursorLike, FormLike, plain_like, constructor_like}
use Rattle.again.specs.Alike.{recursor_like, structure_like, DeclLike, EnvLike}

-- ROWS: two variables, or the same kind with the same words

pub data RowLike : Row → Row → Type 0 where
  vars : {i j : ℕ} → RowLike (var i) (var j)
  nodes : {κ : Kind} {x y z x̃ ỹ z̃ : Ptr} → RowLike (node κ x y z) (node κ x̃ ỹ z̃)

kind_constant : (κ : Kind) (x y z x̃ ỹ z̃ : Ptr) → as_constant (node κ x y z) ≡ as_constant (node κ x̃ ỹ z̃)
unfolding as_constant
kind_constant (sort l) x y z x̃ ỹ z̃ = refl
kind_constant (const d n) x y z x̃ ỹ z̃ = refl
kind_constant app x y z x̃ ỹ z̃ = refl
kind_constant lam x y z x̃ ỹ z̃ = refl
kind_constant pi x y z x̃ ỹ z̃ = refl
kind_constant let' x y z x̃ ỹ z̃ = refl
kind_constant (proj d i) x y z x̃ ỹ z̃ = refl
kind_constant (num n) x y z x̃ ỹ z̃ = refl

same_constant : {w w̃ : Row} → RowLike w w̃ → as_constant w ≡ as_constant w̃
unfolding as_constant
same_constant vars = refl
same_constant (nodes {κ = κ} {x = x} {y = y} {z = z} {x̃ = x̃} {ỹ = ỹ} {z̃ = z̃}) = kind_constant κ x y z x̃ ỹ z̃

kind_number_lem : {R : Ptr → Ptr → Type 0} (κ : Kind) (x y z x̃ ỹ z̃ : Ptr) {xs ys : List Ptr} → Each R xs ys → as_number (node κ x y z) xs ≡ as_number (node κ x̃ ỹ z̃) ys
unfolding as_number
kind_number_lem (sort l) x y z x̃ ỹ z̃ q = refl
kind_number_lem (const d n) x y z x̃ ỹ z̃ q = refl
kind_number_lem app x y z x̃ ỹ z̃ q = refl
kind_number_lem lam x y z x̃ ỹ z̃ q = refl
kind_number_lem pi x y z x̃ ỹ z̃ q = refl
kind_number_lem let' x y z x̃ ỹ z̃ q = refl
kind_number_lem (proj d i) x y z x̃ ỹ z̃ q = refl
kind_number_lem (num n) x y z x̃ ỹ z̃ ended = refl
kind_number_lem (num n) x y z x̃ ỹ z̃ (next r q) = refl

pub same_number : {R : Ptr → Ptr → Type 0} {w w̃ : Row} {xs ys : List Ptr} → RowLike w w̃ → Each R xs ys → as_number w xs ≡ as_number w̃ ys
unfolding as_number
same_number vars q = refl
same_number (nodes {κ = κ} {x = x} {y = y} {z = z} {x̃ = x̃} {ỹ = ỹ} {z̃ = z̃}) q = kind_number_lem κ x y z x̃ ỹ z̃ q

-- the same places in lists that are alike
nth_at : {R : Ptr → Ptr → Type 0} {xs ys : List Ptr} {i j : ℕ} → i ≡ j → Each R xs ys → Opt R (nth xs i) (nth ys j)
nth_at {R} {xs} {ys} {i} e q = subst (λ (j : ℕ). Opt R (nth xs i) (nth ys j)) e (nth_like q i)

drop_at : {R : Ptr → Ptr → Type 0} {xs ys : List Ptr} {i j : ℕ} → i ≡ j → Each R xs ys → Each R (drop i xs) (drop j ys)
drop_at {R} {xs} {ys} {i} e q = subst (λ (j : ℕ). Each R (drop i xs) (drop j ys)) e (drop_like i q)

take_at : {R : Ptr → Ptr → Type 0} {xs ys : List Ptr} {i j : ℕ} → i ≡ j → Each R xs ys → Each R (take i xs) (take j ys)
take_at {R} {xs} {ys} {i} e q = subst (λ (j : ℕ). Each R (take i xs) (take j ys)) e (take_like i q)

module _ (L : Likeness) where
  -- PROJECTION

  same_parameters : {s s̃ : Store} {f f̃ : Form} → FormLike L s s̃ f f̃ → parameters_of f ≡ parameters_of f̃
  same_parameters plain_like = refl
  same_parameters constructor_like = refl
  same_parameters (recursor_like o) = refl
  same_parameters structure_like = refl

  pub field_like : {s s̃ s₁ s̃₁ : Store} {e ẽ : Env} {w w̃ : Row} {ys ỹs : List Ptr} (i : ℕ) → EnvLike L s s̃ e ẽ → RowLike w w̃ → Each (L.pointers s₁ s̃₁) ys ỹs →
      Opt (L.pointers s₁ s̃₁) (field_at e w ys i) (field_at ẽ w̃ ỹs i)
  unfolding field_at
  field_like i v w q =
      same_given _ _ (same_constant w) λ c.
      same_given _ _ (same_parameters (v.declared c).form) λ ps.
      nth_like q (ps + i)

  -- QUOTIENTS

  pub record QuotLike (s s̃ : Store) (q q̃ : QuotParts) : Type 0 where
    pub function : L.pointers s s̃ q.function q̃.function
    pub major : L.pointers s s̃ q.major q̃.major
    pub rest : Each (L.pointers s s̃) q.rest q̃.rest

  pub quot_parts_like : {s s̃ : Store} {D D̃ : Decl} {xs x̃s : List Ptr} → DeclLike L s s̃ D D̃ → Each (L.pointers s s̃) xs x̃s →
      Opt (QuotLike s s̃) (quot_parts D xs) (quot_parts D̃ x̃s)
  unfolding quot_parts
  quot_parts_like d q =
      same_given _ _ (ap quot_position d.role) λ n.
      given_like _ _ (nth_like q 3) λ f f̃ pf.
      given_like _ _ (nth_like q n) λ x x̃ px.
      somes (record { function = pf; major = px; rest = drop_like (suc n) q })

  third_like : {R : Ptr → Ptr → Type 0} {ys ỹs : List Ptr} → Each R ys ỹs → Opt R (third_of_three ys) (third_of_three ỹs)
  third_like ended = nones
  third_like (next a ended) = nones
  third_like (next a (next b ended)) = nones
  third_like (next a (next b (next c ended))) = somes c
  third_like (next a (next b (next c (next d q)))) = nones

  pub quot_made_like : {s s̃ s₁ s̃₁ : Store} {e ẽ : Env} {w w̃ : Row} {ys ỹs : List Ptr} → EnvLike L s s̃ e ẽ → RowLike w w̃ → Each (L.pointers s₁ s̃₁) ys ỹs →
      Opt (L.pointers s₁ s̃₁) (quot_made e w ys) (quot_made ẽ w̃ ỹs)
  unfolding quot_made
  quot_made_like v w q =
      same_given _ _ (same_constant w) λ c.
      provided_like (ap (λ (r : Role). eqb (role_code r) (role_code quot_mk)) (v.declared c).role) (third_like q)

  -- RECURSORS

  recursor_of_like : {s s̃ : Store} {f f̃ : Form} → FormLike L s s̃ f f̃ → Opt (RecursorLike L s s̃) (recursor_of f) (recursor_of f̃)
  recursor_of_like plain_like = nones
  recursor_of_like constructor_like = nones
  recursor_of_like (recursor_like o) = somes o
  recursor_of_like structure_like = nones

  same_before : {s s̃ : Store} {o õ : Recursor} → RecursorLike L s s̃ o õ → before_indices o ≡ before_indices õ
  same_before r = λ i. r.parameters i + r.motives i + r.minors i

  same_major : {s s̃ : Store} {o õ : Recursor} → RecursorLike L s s̃ o õ → major_position o ≡ major_position õ
  same_major r = λ i. r.parameters i + r.motives i + r.minors i + r.indices i

  pub record RecLike (s s̃ : Store) (q q̃ : RecParts) : Type 0 where
    pub of : RecursorLike L s s̃ q.of q̃.of
    pub major : L.pointers s s̃ q.major q̃.major

  pub rec_parts_like : {s s̃ : Store} {D D̃ : Decl} {xs x̃s : List Ptr} (n : ℕ) → DeclLike L s s̃ D D̃ → Each (L.pointers s s̃) xs x̃s →
      Opt (RecLike s s̃) (rec_parts D n xs) (rec_parts D̃ n x̃s)
  unfolding rec_parts
  rec_parts_like n d q =
      given_like _ _ (provided_like (ap (λ (l : ℕ). eqb l n) d.levels) (recursor_of_like d.form)) λ o õ r.
      given_like _ _ (nth_at (same_major r) q) λ x x̃ px.
      somes (record { of = r; major = px })

  -- the arguments stand once the rows are written
  pub record MadeLike (s s̃ : Store) (c c̃ : Made) : Type 0 where
    pub declaration : c.declaration ≡ c̃.declaration
    pub rows : RowsLike L s s̃ c.rows c̃.rows
    pub arguments : Each (L.pointers (grow s c.rows) (grow s̃ c̃.rows)) c.arguments c̃.arguments

  -- a row put after another: its pointer has the next number
  next_pointed : {s s̃ : Store} {w w̃ u ũ : Row} → L.stores s s̃ → NewRow L.pointers s s̃ w w̃ →
      NewRow L.pointers (put s w).store (put s̃ w̃).store u ũ →
      L.pointers (put (put s w).store u).store (put (put s̃ w̃).store ũ).store (ptr (suc (length s)) 0) (ptr (suc (length s̃)) 0)
  next_pointed {s} {s̃} {w} {w̃} {u} {ũ} a n n' =
      subst (λ (i : ℕ). L.pointers (put (put s w).store u).store (put (put s̃ w̃).store ũ).store (ptr (suc (length s)) 0) (ptr i 0)) (put-length s̃ w̃)
      (subst (λ (i : ℕ). L.pointers (put (put s w).store u).store (put (put s̃ w̃).store ũ).store (ptr i 0) (put (put s̃ w̃).store ũ).at) (put-length s w)
      (L.pointed (L.written a n) n'))

  number_made_like : {s s̃ : Store} {e ẽ : Env} (n : ℕ) → L.stores s s̃ → EnvLike L s s̃ e ẽ → Opt (MadeLike s s̃) (number_made e s n) (number_made ẽ s̃ n)
  unfolding number_made grow
  number_made_like zero a v = same_given _ _ (v.holders zero') λ c. somes (record { declaration = refl; rows = row_then new_const no_rows; arguments = ended })
  number_made_like (suc n) a v =
      same_given _ _ (v.holders succ') λ c.
      let b = L.written a new_const in
      let function = L.later (put_grown L b new_num) (L.pointed a new_const) in
      let below = next_pointed a new_const new_num in
      somes (record {
        declaration = refl;
        rows = row_then new_const (row_then new_num (row_then (new_app function below) no_rows));
        arguments = next (L.later (put_grown L (L.written b new_num) (new_app function below)) below) ended;
      })

  pub made_like : {s s̃ : Store} {e ẽ : Env} {w w̃ : Row} {ys ỹs : List Ptr} → L.stores s s̃ → EnvLike L s s̃ e ẽ → RowLike w w̃ → Each (L.pointers s s̃) ys ỹs →
      Opt (MadeLike s s̃) (as_constructor e s w ys) (as_constructor ẽ s̃ w̃ ỹs)
  unfolding as_constructor grow
  made_like {s} {s̃} {e} {ẽ} {w} {w̃} {ys} {ỹs} a v r q =
      subst (λ (n : Option ℕ). Opt (MadeLike s s̃) (as_constructor e s w ys) (made_on ẽ s̃ w̃ ỹs n)) (same_number r q) (on (as_number w ys))
    where
      on : (n : Option ℕ) → Opt (MadeLike s s̃) (made_on e s w ys n) (made_on ẽ s̃ w̃ ỹs n)
      on none = same_given _ _ (same_constant r) λ c. somes (record { declaration = refl; rows = no_rows; arguments = q })
      on (some n) = number_made_like n a v

  rule_on_like : {R : Rule → Rule → Type 0} {a b : Bool} {x y x̃ ỹ : Option Rule} → a ≡ b → Opt R x x̃ → Opt R y ỹ → Opt R (rule_on a x y) (rule_on b x̃ ỹ)
  rule_on_like {R} {a} {x = x} {y = y} {x̃ = x̃} {ỹ = ỹ} e p q = subst (λ (c : Bool). Opt R (rule_on a x y) (rule_on c x̃ ỹ)) e (go a)
    where
      go : (c : Bool) → Opt R (rule_on c x y) (rule_on c x̃ ỹ)
      go true = p
      go false = q

  rule_for_like : {s s̃ : Store} {c c̃ : ℕ} {rs r̃s : List Rule} → c ≡ c̃ → Each (RuleLike L s s̃) rs r̃s → Opt (RuleLike L s s̃) (rule_for c rs) (rule_for c̃ r̃s)
  unfolding rule_for
  rule_for_like e ended = nones
  rule_for_like e (next r q) = rule_on_like (λ i. eqb (r.constructor i) (e i)) (somes r) (rule_for_like e q)

  last_like : {R : Ptr → Ptr → Type 0} {n ñ : ℕ} {ys ỹs : List Ptr} → n ≡ ñ → Each R ys ỹs → Opt (Each R) (last_of n ys) (last_of ñ ỹs)
  last_like e q = provided_like (λ i. leb (e i) (length_like q i)) (somes (drop_at (λ i. length_like q i - e i) q))

  pub record RuledLike (s s̃ : Store) (x x̃ : Ruled) : Type 0 where
    pub value : L.pointers s s̃ x.value x̃.value
    pub arguments : Each (L.pointers s s̃) x.arguments x̃.arguments

  pub by_rule_like : {s s̃ : Store} {o õ : Recursor} {xs x̃s : List Ptr} (c c̃ : Made) → RecursorLike L s s̃ o õ → Each (L.pointers s s̃) xs x̃s →
      c.declaration ≡ c̃.declaration → Each (L.pointers s s̃) c.arguments c̃.arguments → Opt (RuledLike s s̃) (by_rule o xs c) (by_rule õ x̃s c̃)
  unfolding by_rule
  by_rule_like c c̃ r q e ys =
      given_like _ _ (rule_for_like e r.rules) λ ρ ρ̃ p.
      given_like _ _ (last_like p.fields ys) λ fs f̃s z.
      somes (record {
        value = p.value;
        arguments = append_like (append_like (take_at (same_before r) q) z) (drop_at (ap suc (same_major r)) q);
      })

  -- ARITHMETIC

  same_tried : {s s̃ : Store} {e ẽ : Env} (o : Op) → EnvLike L s s̃ e ẽ → tried e o ≡ tried ẽ o
  same_tried add v = refl
  same_tried sub v = refl
  same_tried mul v = refl
  same_tried div v = refl
  same_tried mod' v = refl
  same_tried beq v = λ i. both (held (v.holders true' i)) (held (v.holders false' i))
  same_tried ble v = λ i. both (held (v.holders true' i)) (held (v.holders false' i))

  pub record OperandsLike (s s̃ : Store) (q q̃ : Operands) : Type 0 where
    pub op : q.op ≡ q̃.op
    pub first : L.pointers s s̃ q.first q̃.first
    pub second : L.pointers s s̃ q.second q̃.second

  two_like : {s s̃ : Store} (o : Op) {xs x̃s : List Ptr} → Each (L.pointers s s̃) xs x̃s → Opt (OperandsLike s s̃) (exactly_two o xs) (exactly_two o x̃s)
  two_like o ended = nones
  two_like o (next a ended) = nones
  two_like o (next a (next b ended)) = somes (record { op = refl; first = a; second = b })
  two_like o (next a (next b (next c q))) = nones

  pub operands_like : {s s̃ : Store} {e ẽ : Env} {D D̃ : Decl} {xs x̃s : List Ptr} → EnvLike L s s̃ e ẽ → DeclLike L s s̃ D D̃ → Each (L.pointers s s̃) xs x̃s →
      Opt (OperandsLike s s̃) (operands e D xs) (operands ẽ D̃ x̃s)
  unfolding operands
  operands_like v d q =
      same_given _ _ (ap operation_of d.role) λ o.
      provided_like (same_tried o v) (two_like o q)

  pub outcome_like : {s s̃ s₁ s̃₁ : Store} {e ẽ : Env} (c : Computed) → EnvLike L s s̃ e ẽ → Opt (ResultLike L s₁ s̃₁) (outcome e c) (outcome ẽ c)
  unfolding outcome
  outcome_like (number n) v = somes number_like
  outcome_like (truth true) v = same_given _ _ (v.holders true') λ c. somes constant_like
  outcome_like (truth false) v = same_given _ _ (v.holders false') λ c. somes constant_like

  -- DELTA

  pub unfolds_like : {s s̃ : Store} {D D̃ : Decl} (n : ℕ) → DeclLike L s s̃ D D̃ → Opt (L.pointers s s̃) (unfolds D n) (unfolds D̃ n)
  unfolding unfolds
  unfolds_like n d = provided_like (ap (λ (l : ℕ). eqb l n) d.levels) d.value
