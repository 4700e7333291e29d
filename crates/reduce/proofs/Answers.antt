-- An answer known by its variant: a promise about the answer is one about that variant. Assumes nothing.
use Prim.Native.Nat.{ℕ}
use mathlib.Core.Path.{◌≡◌, subst}
use mathlib.Core.List.{List}
use Rattle.ways.specs.Steps.{Step}
use Rattle.state.specs.declared.Meter.{Meter}
use Rattle.state.specs.State.{Answer}
use Rattle.state.specs.State.{Left}

pub left_when : {l sc sc₁ : List ℕ} {m : Meter} {r r' : Answer} {step : Step} → r ≡ r' → Left l sc m r sc₁ step → Left l sc m r' sc₁ step
left_when {l} {sc} {sc₁} {m} {step = step} is k = subst (λ (a : Answer). Left l sc m a sc₁ step) is k
