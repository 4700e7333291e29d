-- An embedding is a likeness: pointers are alike where one is the other renamed. Shows what that is of results, lists, heads and environments.
-- Assumes nothing of the stores.
use Rattle.std.specs.Prelude.{ℕ, ◌≡◌, List, [], ◌∷◌, map}
use Rattle.std.proofs.Math.Path.{refl}
use Rattle.std.proofs.Common.{sym, ap, ◌∙◌, subst}
use Rattle.rules.specs.Kinds.{sort, const, app, lam, pi, let', proj, num, table, fields}
use Rattle.rules.specs.Rows.{Ptr, ptr, Row, var, node, Store, row_at, up, put}
use Rattle.rules.specs.Firings.{Result, opened, itself}
use Rattle.again.specs.Embeds.{ren, ren_row, Embeds, row_at_lem, up_at, put_embeds, end_renamed}
use Rattle.again.specs.Carried.{ren_result, app_renamed, num_renamed, const_renamed}
use Rattle.again.specs.Alike.{Each, ended, next, NewRow, new_const, new_num, new_app, Likeness, ResultLike, opened_like, itself_like}
use Rattle.again.specs.Alike.{number_like, constant_like, HeadLike, head_var, head_sort, head_const, head_app, head_lam, head_pi, head_let}
use Rattle.again.specs.Alike.{head_proj, head_num}

module _ (ρ : ℕ → ℕ) where
  abbrev pub Renamed : Store → Store → Ptr → Ptr → Type 0
  Renamed s s̃ p p̃ = ren ρ p ≡ p̃

  -- a body renamed, under a head of the same shift
  pub record SameBody (b : Ptr) (k : ℕ) (b̃ : Ptr) (l : ℕ) : Type 0 where
    pub body : ren ρ b ≡ b̃
    pub shift : k ≡ l

  new_row_is : {s s̃ : Store} {w w̃ : Row} → NewRow Renamed s s̃ w w̃ → ren_row ρ w ≡ w̃
  new_row_is (new_const {d = d} {n = n}) = const_renamed ρ d n
  new_row_is (new_num {n = n}) = num_renamed ρ n
  new_row_is (new_app {f = f} {a = a} p q) = app_renamed ρ f a _ ∙ λ i. node app (p i) (q i) (ptr 0 0)

  pub shifted_alike : {s s̃ : Store} {p p̃ : Ptr} → Embeds ρ s s̃ → ren ρ p ≡ p̃ → (k : ℕ) → ren ρ (up s p k) ≡ up s̃ p̃ k
  shifted_alike {s̃ = s̃} {p = p} m e k = sym (up_at ρ m p k) ∙ ap (λ (x : Ptr). up s̃ x k) e

  pub written_alike : {s s̃ : Store} {w w̃ : Row} → Embeds ρ s s̃ → NewRow Renamed s s̃ w w̃ → Embeds ρ (put s w).store (put s̃ w̃).store
  written_alike {s} {s̃} {w} m n = subst (λ (x : Row). Embeds ρ (put s w).store (put s̃ x).store) (new_row_is n) (put_embeds ρ m w)

  abbrev pub embedding : Likeness
  embedding = record {
    stores = Embeds ρ;
    pointers = Renamed;
    bodies = λ s s̃ b k b̃ l. SameBody b k b̃ l;
    later = λ g e. e;
    shifted = shifted_alike;
    written = written_alike;
    pointed = λ m n. ap (λ (i : ℕ). ptr i 0) (end_renamed ρ m);
  }

  -- RESULTS, LISTS AND HEADS

  pub each_is : {xs ys : List Ptr} → Each (λ (p p̃ : Ptr). ren ρ p ≡ p̃) xs ys → map (ren ρ) xs ≡ ys
  each_is ended = refl
  each_is (next e q) = λ i. e i ∷ each_is q i

  pub each_renamed : (xs : List Ptr) → Each (λ (p p̃ : Ptr). ren ρ p ≡ p̃) xs (map (ren ρ) xs)
  each_renamed [] = ended
  each_renamed (x ∷ xs) = next refl (each_renamed xs)

  pub result_is : {s s̃ : Store} {r r̃ : Result} → ResultLike embedding s s̃ r r̃ → ren_result ρ r ≡ r̃
  result_is (opened_like o e) = λ i. opened (o.body i) (e i) (o.shift i)
  result_is (itself_like e) = ap itself e
  result_is number_like = refl
  result_is constant_like = refl

  row_alike : {s s̃ : Store} → Embeds ρ s s̃ → (w : Row) (k : ℕ) → HeadLike embedding s s̃ w k (ren_row ρ w) k
  unfolding ren_row fields table
  row_alike m (var i) k = head_var refl
  row_alike m (node (sort l) x y z) k = head_sort
  row_alike m (node (const d n) x y z) k = head_const
  row_alike m (node app x y z) k = head_app
  row_alike m (node lam x y z) k = head_lam (record { body = refl; shift = refl })
  row_alike m (node pi x y z) k = head_pi
  row_alike m (node let' x y z) k = head_let (shifted_alike m refl k) (record { body = refl; shift = refl })
  row_alike m (node (proj d i) x y z) k = head_proj (shifted_alike m refl k)
  row_alike m (node (num n) x y z) k = head_num

  pub head_alike : {s s̃ : Store} → Embeds ρ s s̃ → (h : Ptr) → HeadLike embedding s s̃ (row_at s h.row) h.shift (row_at s̃ (ren ρ h).row) h.shift
  head_alike {s} {s̃} m h =
      subst (λ (w : Row). HeadLike embedding s s̃ (row_at s h.row) h.shift w h.shift) (sym (row_at_lem ρ m h.row)) (row_alike m (row_at s h.row) h.shift)
