-- Larger budgets of nesting and of spare records give the same course. It holds for all stores.
use Rattle.std.specs.Prelude.{ℕ, zero, suc, ◌≤◌}
use Rattle.std.proofs.Common.{arith}
use Rattle.rules.specs.Rows.{Ptr}
use Rattle.rules.specs.Declarations.{Env}
use Rattle.rules.specs.Firings.{Tally}
use Rattle.promises.specs.Larger.{runs_deeper}
use Rattle.inferring.specs.Asks.{Ask, with_record}
use Rattle.inferring.specs.Courses.{Types, Comes}
use Rattle.inferring.specs.Courses as C

mutual
  pub types_deeper : {e : Env} {d r d' r' : ℕ} {m m' : Tally} {t p : Ptr} → Types e d r m t m' p → d ≤ d' → r ≤ r' → Types e d' r' m t m' p
  types_deeper (C.Types.by_asks c) l k = C.by_asks (comes_deeper c l k)

  pub comes_deeper : {e : Env} {d r d' r' : ℕ} {m m' : Tally} {y : Ask} {p : Ptr} → Comes e d r m y m' p → d ≤ d' → r ≤ r' → Comes e d' r' m y m' p
  comes_deeper C.answered l k = C.answered
  comes_deeper (C.stepped c) l k = C.stepped (comes_deeper c l k)
  comes_deeper (C.leveled h c) l k = C.leveled h (comes_deeper c l k)
  comes_deeper (C.wrote w c) l k = C.wrote w (comes_deeper c l k)
  comes_deeper (C.opened w c) l k = C.opened w (comes_deeper c l k)
  comes_deeper {d' = zero} (C.reduced x c) l k = absurd (omega arith)
  comes_deeper {e} {d' = suc d'} (C.reduced {X = X} x c) l k = C.reduced (runs_deeper (with_record e X) {d' = d'} x (omega arith)) (comes_deeper c l k)
  comes_deeper {d' = zero} (C.part x c) l k = absurd (omega arith)
  comes_deeper {d' = suc d'} (C.part x c) l k = C.part (types_deeper {d' = d'} x (omega arith) k) (comes_deeper c l k)
  comes_deeper {d' = zero} (C.part_under x c) l k = absurd (omega arith)
  comes_deeper {d' = suc d'} {r' = zero} (C.part_under x c) l k = absurd (omega arith)
  comes_deeper {d' = suc d'} {r' = suc r'} (C.part_under x c) l k =
      C.part_under (types_deeper {d' = d'} {r' = r'} x (omega arith) (omega arith)) (comes_deeper c l k)
  comes_deeper (C.structured o c) l k = C.structured o (comes_deeper c l k)
