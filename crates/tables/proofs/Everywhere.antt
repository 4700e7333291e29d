-- `all` over the end of a slice and over a range, as an answer about each element or each number.
-- Assumes nothing.
use Rattle.std.proofs.Common.{◌≡◌, ℕ, ◌+◌, ◌-◌, ◌≤◌, ◌<◌, Bool, true, false, List, length, get_or, take, drop, MatchBool, arith, sym, ap, ◌∙◌, subst}
use Rattle.std.proofs.Common.{length-take, length-drop, get_or-take, get_or-drop}
use Rattle.std.specs.List.{HoldsAt, AllWithin, range_with_len}
use Rattle.std.proofs.lemmas.List.FromFn.{length-range_with_len, get_or-range_with_len}
use Rattle.rows.specs.Checks.{Says}
use Rattle.rows.proofs.Answers.{says_yes, says_no, says_same}

module _ (P : ℕ → Type 0) where
  -- what `all` answers over a list, of a test that says whether P holds
  abbrev pub AllAnswer : List ℕ → Bool → Type 0
  AllAnswer xs r = MatchBool r (AllWithin P xs 0 (length xs)) ((k : ℕ) × (k < length xs) × HoldsAt (λ x. P x → ⊥) xs k)

  says_each : (xs : List ℕ) (r : Bool) → AllAnswer xs r → Says ((k : ℕ) → k < length xs → P (get_or xs k 0)) r
  says_each xs true h = says_yes (λ k l. h k 0 (omega arith) l)
  says_each xs false h = says_no (λ f. h.2 0 (f h.0 h.1))

  -- the elements of n from a place on
  pub says_from : (ws : List ℕ) (n from : ℕ) (r : Bool) → length ws ≡ n → AllAnswer (take (n - from) (drop from ws)) r →
      Says ((i : ℕ) → from ≤ i → i < n → P (get_or ws i 0)) r
  says_from ws n from r size h =
      let part : List ℕ = take (n - from) (drop from ws) in
      let many : length part ≡ n - from = simp (length-take, length-drop) (omega arith) in
      let read : (k : ℕ) → k < length part → get_or part k 0 ≡ get_or ws (from + k) 0 = λ k l.
      get_or-take (n - from) (drop from ws) k 0 (omega arith) ∙ get_or-drop from ws k 0 in
      says_same
      (λ each i low high.
      let at : from + (i - from) ≡ i = omega arith in
      subst P (read (i - from) (omega arith) ∙ ap (λ (k : ℕ). get_or ws k 0) at) (each (i - from) (omega arith)))
      (λ each k l. subst P (sym (read k l)) (each (from + k) (omega arith) (omega arith)))
      (says_each part r h)

  -- the numbers of a range
  pub says_within : (first count : ℕ) (r : Bool) → AllAnswer (range_with_len first count) r → Says ((i : ℕ) → i < count → P (first + i)) r
  says_within first count r h =
      let many : length (range_with_len first count) ≡ count = length-range_with_len first count in
      says_same (λ each i l. subst P (get_or-range_with_len first count i 0 l) (each i (omega arith)))
      (λ each k l. let small : k < count = omega arith in subst P (sym (get_or-range_with_len first count k 0 small)) (each k small))
      (says_each (range_with_len first count) r h)
