-- From what was tested to what replacement requires. Assumes nothing.
use mathlib.Core.Bool.{true, false, not}
use Rattle.std.specs.Prelude.{Result, Option, None, Some, is_ok, nat_eq, ⊤}
use Rattle.std.proofs.Common.{ℕ, zero, suc, ◌+◌, ◌<◌, ◌≡◌, List, length, get_or, sym, ap, ◌∙◌, arith}
use mathlib.Core.Path.{subst}
use Rattle.rules.specs.Rows.{Cell, Store, cell_at}
use Rattle.substitution.specs.Stores.{Good}
use Rattle.substitution.specs.Existence.{ValueGood, none_good, some_good}
use Rattle.rows.specs.declared.Ptr.{Ptr}
use Rattle.rows.specs.declared.refusals.Refused.{Refused}
use Rattle.rows.specs.Words.{ptr_of, store_of, whole, words_at, Stands, Held}
use Rattle.rows.specs.Checks.{CheckSays, all_pass, broken}
use Rattle.rows.proofs.Store.{used_stands, cell_used, held_length}
use Rattle.rows.proofs.Lookup.{bound_read}
use Rattle.replace.specs.declared.Sub.{Sub}
use Rattle.replace.specs.Replaced.{value_by, value_of, Sound, PtrReady}
use Rattle.replace.proofs.Results.{checked_sound}
use Rattle.replace_run.specs.Small.{Small}

pub never : {P : Type 0} → false ≡ true → P
never e = absurd cc

-- A GOOD POINTER

module _ {l sc : List ℕ} {m nlib : ℕ} (held : Held l sc m nlib) (p : Ptr) (low : p.row < nlib + m) where
  pub there : Stands l sc p.row
  there = used_stands l sc m nlib held p.row low

  lower : p.row < length (store_of l sc m)
  lower = omega (arith, held_length l sc m nlib held)

  pub good_still : p.shift ≡ 0 → Good (store_of l sc m) (ptr_of p)
  good_still e = record { lower = lower; still = λ _. e }

  pub good_open : {ws : List ℕ} → ws ≡ words_at l sc p.row → {b : ℕ} → b ≡ get_or ws 7 0 → not (nat_eq b 0) ≡ true → Good (store_of l sc m) (ptr_of p)
  good_open {ws} read {b} e t =
      let here : (cell_at (whole l sc) p.row).bound ≡ b = bound_read l sc p.row there ws read b e in
      record { lower = lower; still = λ z. not_zero b t (sym here ∙ ap (λ (x : Cell). x.bound) (cell_used l sc m nlib held p.row low) ∙ z) }
    where
      not_zero : (n : ℕ) {P : Type 0} → not (nat_eq n 0) ≡ true → n ≡ 0 → P
      not_zero zero t e = never t
      not_zero (suc n) t e = absurd (omega arith)

-- A GOOD VALUE

module _ {s : Store} {o : Option Ptr} where
  pub no_value : o ≡ None → ValueGood s (value_by o)
  no_value is = subst (λ (v : Option Ptr). ValueGood s (value_by v)) (sym is) none_good

  pub one_value : {v : Ptr} → o ≡ Some v → Good s (ptr_of v) → ValueGood s (value_by o)
  one_value is good = subst (λ (v : Option Ptr). ValueGood s (value_by v)) (sym is) (some_good good)

-- READY ROWS

passed : {D : ℕ} {l sc : List ℕ} {m nlib : ℕ} {r : Result ⊤ Refused} → Held l sc m nlib → CheckSays D l sc m nlib r → true ≡ is_ok r → Sound l sc nlib m
passed held (all_pass keep) e = checked_sound held keep
passed held (broken h) e = never (sym e)

pub all_ready : {D : ℕ} {l sc : List ℕ} {m nlib : ℕ} {r : Result ⊤ Refused} {p : Ptr} {c : ℕ} {x : Sub} →
    Held l sc m nlib → CheckSays D l sc m nlib r → true ≡ is_ok r →
    Good (store_of l sc m) (ptr_of p) → ValueGood (store_of l sc m) (value_of x) → Small p c x → PtrReady l sc nlib m p c x
all_ready {p = p} held check e good value small =
    let sound = passed held check e in
    let fits = (sound.pass.each p.row good.lower).fits in
    record {
      ready = record {
        sound = sound;
        value = value;
        value_shift = let h = small.value_shift in omega arith;
        move = let h = small.move in omega arith;
      };
      good = good;
      near = let h = small.cutoff in let k = fits.height in omega arith;
      shift = let h = small.shift in omega arith;
    }
