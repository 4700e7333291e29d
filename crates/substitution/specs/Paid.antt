-- What a firing that is paid for keeps: every row passes, and the term is a good pointer into the grown store.
-- Plain words come from rows that stand or from the rule, so they stay in range with nothing known of pointers; sizes are what paying
-- asks for; the rest is `Formed`. Assumes that every row passes and that the rule's result and arguments are good.
use Rattle.std.specs.Prelude.{ℕ, ◌≤◌, ◌≡◌, List, [], ◌∷◌}
use Rattle.std.proofs.Common.{arith, subst}
use Rattle.std.proofs.Math.Option.{Option}
use Rattle.rules.specs.Maxima.{most_number}
use Rattle.rules.specs.Kinds.{Kind, app, Tag}
use Rattle.rules.specs.Rows.{Ptr, blank, Row, node, Store, Got, put}
use Rattle.rules.specs.RowCheck.{app_in, const_in, num_in, AllPass}
use Rattle.rules.specs.Replacement.{Replaces, same, moved, inside, OnRow, stays, value, moves, children, OnField, word, child, under}
use Rattle.rules.specs.Spines.{joined}
use Rattle.rules.specs.Firings.{Tally, Result, a_number, Gives, by_replacement, no_row, number_row, constant_row, Due, NumberFits, number_fits, Written, Pays}
use Rattle.substitution.specs.Stores.{Good, Ext}
use Rattle.substitution.specs.Passing.{Worded, var_worded, node_worded, AllWorded, pass_formed, pass_worded, pass_sized, all_pass, put_worded}
use Rattle.substitution.specs.Passing.{written_sized}
use Rattle.substitution.specs.Existence.{ValueGood, replace_keeps}
use Rattle.substitution.specs.Applied.{AllGood}
use Rattle.substitution.specs.Dues.{ResultGood, opened_good, itself_good, number_good, constant_good, due_keeps}

-- PLAIN WORDS

at : {D : ℕ} {g g' : Got} → g ≡ g' → AllWorded D g.store → AllWorded D g'.store
at {D} e a = subst (λ (g : Got). AllWorded D g.store) e a

the_kind : {D : ℕ} {κ : Kind} {x y z x' y' z' : Ptr} → Worded D (node κ x y z) → Worded D (node κ x' y' z')
the_kind (node_worded h) = node_worded h

mutual
  pub replace_worded : {D : ℕ} {v : Option Ptr} {k c : ℕ} {s : Store} {p : Ptr} {g : Got} → AllWorded D s → Replaces v k c s p g → AllWorded D g.store
  replace_worded a (same h e) = at e a
  replace_worded a (moved h l e) = at e a
  replace_worded {p = p} a (inside h l q e) = at e (row_worded a (a.each p.row) q)

  row_worded : {D : ℕ} {v : Option Ptr} {k c : ℕ} {s : Store} {r : ℕ} {w : Row} {g : Got} →
      AllWorded D s → Worded D w → OnRow v k c s r w g → AllWorded D g.store
  row_worded a b (stays h e) = at e a
  row_worded a b (value h z e) = at e a
  row_worded a b (moves h e) = at e (put_worded a var_worded)
  row_worded a b (children q₁ q₂ q₃ e) = at e (put_worded (field_worded (field_worded (field_worded a q₁) q₂) q₃) (the_kind b))

  field_worded : {D : ℕ} {v : Option Ptr} {k : ℕ} {τ : Tag} {c : ℕ} {s : Store} {p : Ptr} {g : Got} →
      AllWorded D s → OnField v k τ c s p g → AllWorded D g.store
  field_worded a (word e) = at e a
  field_worded a (child q) = replace_worded a q
  field_worded a (under q) = replace_worded a q

joined_worded : {D : ℕ} {s : Store} (p : Ptr) (xs : List Ptr) → AllWorded D s → AllWorded D (joined s p xs).store
unfolding joined
joined_worded p [] a = a
joined_worded {s = s} p (x ∷ xs) a = joined_worded {s = (put s (node app p x blank)).store} (put s (node app p x blank)).at xs (put_worded a (node_worded app_in))

-- REPLACEMENT

pub replace_pass : {D : ℕ} {v : Option Ptr} {k c : ℕ} {s : Store} {p : Ptr} {g : Got} →
    AllPass D s → Good s p → ValueGood s v → Replaces v k c s p g → Written s g.store → AllPass D g.store
replace_pass a o x q w = all_pass (replace_keeps (pass_formed a) o x q).formed (replace_worded (pass_worded a) q) (written_sized (pass_sized a) w)

-- A FIRING

number_in : {n : ℕ} → NumberFits (a_number n) → n ≤ most_number
number_in (number_fits h) = h

gives_worded : {D : ℕ} {s : Store} {r : Result} {g : Got} → AllWorded D s → ResultGood D s r → NumberFits r → Gives s r g → AllWorded D g.store
gives_worded a (opened_good o y) n (by_replacement q) = replace_worded a q
gives_worded a (itself_good o) n (no_row e) = at e a
gives_worded a number_good n (number_row e) = at e (put_worded a (node_worded (num_in (number_in n))))
gives_worded a (constant_good h) n (constant_row e) = at e (put_worded a (node_worded (const_in h (omega arith))))

due_worded : {D : ℕ} {s : Store} {r : Result} {xs : List Ptr} {g : Got} →
    AllWorded D s → ResultGood D s r → NumberFits r → Due s r xs g → AllWorded D g.store
due_worded {xs = xs} a o n d = at d.applied (joined_worded d.result.at xs (gives_worded a o n d.gives))

-- after a firing that is paid for
pub record Paid (D : ℕ) (s s' : Store) (t' : Ptr) : Type 0 where
  pub more : Ext s s'
  pub pass : AllPass D s'
  pub good : Good s' t'

due_paid : {D : ℕ} {s : Store} {r : Result} {xs : List Ptr} {g : Got} →
    AllPass D s → ResultGood D s r → AllGood s xs → NumberFits r → Due s r xs g → Written s g.store → Paid D s g.store g.at
due_paid a o q n d w =
    let k = due_keeps (pass_formed a) o q d in
    record { more = k.more; pass = all_pass k.formed (due_worded (pass_worded a) o n d) (written_sized (pass_sized a) w); good = k.good }

pub pays_paid : {D : ℕ} {m m' : Tally} {r : Result} {xs : List Ptr} {t' : Ptr} →
    AllPass D m.store → ResultGood D m.store r → AllGood m.store xs → Pays m r xs m' t' → Paid D m.store m'.store t'
pays_paid {D} {m} {t' = t'} a o q p =
    subst (λ (x : Tally). Paid D m.store x.store t') p.then_tally
    (subst (λ (t : Ptr). Paid D m.store p.due.store t) p.then_term (due_paid a o q p.number_fits p.is_due p.written))
