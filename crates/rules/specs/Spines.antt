-- Spines: the head and the arguments of a pointer; arguments applied, one row each. The first n are `take n`, those without the first n `drop n`.
use Rattle.std.specs.Prelude.{ℕ, ◌≡◌, List, [], ◌∷◌}
use Rattle.rules.specs.Kinds.{sort, const, app, lam, pi, let', proj, num}
use Rattle.rules.specs.Rows.{Ptr, blank, Row, var, node, Store, row_at, up, Got, got, put}

pub data NoApp : Row → Type 0 where
  no_var : {i : ℕ} → NoApp (var i)
  no_sort : {l : ℕ} {x y z : Ptr} → NoApp (node (sort l) x y z)
  no_const : {d n : ℕ} {x y z : Ptr} → NoApp (node (const d n) x y z)
  no_lam : {x y z : Ptr} → NoApp (node lam x y z)
  no_pi : {x y z : Ptr} → NoApp (node pi x y z)
  no_let : {x y z : Ptr} → NoApp (node let' x y z)
  no_proj : {d i : ℕ} {x y z : Ptr} → NoApp (node (proj d i) x y z)
  no_num : {n : ℕ} {x y z : Ptr} → NoApp (node (num n) x y z)

-- "The head is found through applications, each child taking the pointer's shift on": p applied to xs has the head h and the arguments ys
pub data Spine (s : Store) : Ptr → List Ptr → Ptr → List Ptr → Type 0 where
  head : {p : Ptr} {xs : List Ptr} → NoApp (row_at s p.row) → Spine s p xs p xs
  through : {p h f a z : Ptr} {xs ys : List Ptr} → row_at s p.row ≡ node app f a z →
      Spine s (up s f p.shift) (up s a p.shift ∷ xs) h ys → Spine s p xs h ys

-- p applied to the arguments, "one row each"
unfoldable pub joined : Store → Ptr → List Ptr → Got
joined s p [] = got s p
joined s p (a ∷ xs) = let g : Got = put s (node app p a blank) in joined g.store g.at xs
