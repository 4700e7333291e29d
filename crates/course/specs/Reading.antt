-- The read-out as a function by the recorded height; none where that runs out.
use Rattle.std.specs.Prelude.{ℕ, zero, suc}
use Rattle.std.proofs.Math.Option.{Option, none, some}
use Rattle.rules.specs.Kinds.{sort, const, app, lam, pi, let', proj, num}
use Rattle.rules.specs.Rows.{Ptr, Row, var, node, Store, cell_at, row_at}
use Rattle.rules.specs.HeadTests.{given}
use Rattle.rules.specs.ReadOut.{Tree, shift}
use Rattle.rules.specs.ReadOut as T

unfoldable pub row_tree : (Ptr → Option Tree) → Row → Option Tree
row_tree read (var i) = some (T.var i)
row_tree read (node (sort l) x y z) = some (T.sort l)
row_tree read (node (const d n) x y z) = some (T.const d n)
row_tree read (node app x y z) = given (read x) λ f. given (read y) λ a. some (T.app f a)
row_tree read (node lam x y z) = given (read x) λ t. given (read y) λ b. some (T.lam t b)
row_tree read (node pi x y z) = given (read x) λ t. given (read y) λ b. some (T.pi t b)
row_tree read (node let' x y z) = given (read x) λ t. given (read y) λ v. given (read z) λ b. some (T.let' t v b)
row_tree read (node (proj d i) x y z) = given (read x) λ u. some (T.proj d i u)
row_tree read (node (num n) x y z) = some (T.num n)

unfoldable pub read_by : ℕ → Store → Ptr → Option Tree
unfolding row_tree shift
read_by zero s p = none
read_by (suc f) s p = given (row_tree (λ q. read_by f s q) (row_at s p.row)) λ u. some (shift p.shift 0 u)

unfoldable pub read_out : Store → Ptr → Option Tree
unfolding read_by cell_at
read_out s p = read_by (cell_at s p.row).height s p
