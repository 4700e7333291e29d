-- What a case's numbers keep: no sum wraps. Assumes nothing: this is a definition.
use Rattle.std.specs.Prelude.{◌≤◌, ℕ}
use Rattle.rows.specs.declared.Ptr.{Ptr}
use Rattle.replace.specs.declared.Sub.{Sub}
use Rattle.replace.specs.Replaced.{shift_of}

pub record Small (p : Ptr) (c : ℕ) (x : Sub) : Type 0 where
  pub cutoff : c ≤ 60000
  pub shift : p.shift ≤ 60000
  pub value_shift : shift_of x.value ≤ 60000
  pub move : x.by ≤ 60000
