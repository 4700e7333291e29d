-- The call `whnf` as a whole: two results that its statement allows are identical, the answer and whatever is left in the lent words.
-- Assumes nothing of the words.
use Rattle.std.specs.Prelude.{ℕ, zero, suc, ◌+◌, ◌*◌, ◌-◌, ◌<◌, ◌≡◌, List, ◌++◌, length, take, drop}
use Rattle.std.proofs.Common.{arith, sym, ap, ap₂, ◌∙◌, subst, take-append-drop, take-add}
use Rattle.rules.specs.Rows.{Ptr, Store}
use Rattle.rules.specs.Declarations.{Env}
use Rattle.rules.specs.Accepted.{Lent, part}
use Rattle.rules.specs.Refusals.{Refused, Answered}
use Rattle.rules.specs.Call.{Answer, term, refused, Left, limits_of, Untouched, Zeroed, Grown, Whnf, not_accepted, refuses, answers}
use Rattle.substitution.specs.Stores.{no_cell}
use Rattle.safety.specs.Lists.{nth_there}
use Rattle.safety.specs.Words.{row_words_same}
use Rattle.safety.specs.Answers.{answers_same, refusals_same, never_both}
use Rattle.safety.specs.Unique.{accepted_same, not_accepted_same}
use Rattle.safety.specs.Unique as U

-- WHAT IS LEFT

pub record SameLeft (l l' : Left) : Type 0 where
  pub mark : l.mark ≡ l'.mark
  pub scratch : l.scratch ≡ l'.scratch
  pub context : l.context ≡ l'.context

left_same : {l l' : Left} → SameLeft l l' → l ≡ l'
left_same z = λ i. record { mark = z.mark i; scratch = z.scratch i; context = z.context i }

pub untouched_same : {w : Lent} {l l' : Left} → Untouched w l → Untouched w l' → l ≡ l'
untouched_same a b = left_same (record { mark = a.mark ∙ sym b.mark; scratch = a.scratch ∙ sym b.scratch; context = a.context ∙ sym b.context })

pub zeroed_same : {w : Lent} {l l' : Left} → Zeroed w l → Zeroed w l' → l ≡ l'
zeroed_same a b = left_same (record { mark = a.mark ∙ sym b.mark; scratch = a.scratch ∙ sym b.scratch; context = a.context ∙ sym b.context })

-- two lists that agree on their first m records of nine words, and on the n records after those, agree on all m + n
records_agree : (xs ys : List ℕ) (m n : ℕ) → take (9 * m) xs ≡ take (9 * m) ys → ((i : ℕ) → i < n → part 9 xs (m + i) ≡ part 9 ys (m + i)) →
    take (9 * (m + n)) xs ≡ take (9 * (m + n)) ys
records_agree xs ys m zero h k = let q : m + 0 ≡ m = omega arith in rw q h
records_agree xs ys m (suc n) h k =
    let before = records_agree xs ys m n h (λ i l. k i (omega arith)) in
    let q : 9 * (m + suc n) ≡ 9 * (m + n) + 9 = omega arith in
    rw q (take-add (9 * (m + n)) 9 xs ∙ ap₂ ◌++◌ before (k n (omega arith)) ∙ sym (take-add (9 * (m + n)) 9 ys))

-- a new row has one list of words
grown_rows : {w : Lent} {s s' : Store} {l l' : Left} → Grown w s s' l → Grown w s s' l' → (i : ℕ) → i < length s' - length s →
    part 9 l.scratch (w.mark + i) ≡ part 9 l'.scratch (w.mark + i)
grown_rows {s = s} {s'} a b i h =
    let there = nth_there s' (length s + i) no_cell (omega arith) in
    row_words_same (a.rows i _ there) (b.rows i _ there)

pub grown_same : {w : Lent} {s s' : Store} {l l' : Left} → Grown w s s' l → Grown w s s' l' → l ≡ l'
grown_same {w} {s} {s'} {l} {l'} a b = left_same (record { mark = same_mark; scratch = same_scratch; context = a.context ∙ sym b.context })
  where
    n : ℕ
    n = w.mark + (length s' - length s)

    same_mark : l.mark ≡ l'.mark
    same_mark = a.mark ∙ sym b.mark

    first : take (9 * n) l.scratch ≡ take (9 * n) l'.scratch
    first = records_agree l.scratch l'.scratch w.mark (length s' - length s) (a.kept ∙ sym b.kept) (grown_rows a b)

    rest : drop (9 * n) l.scratch ≡ drop (9 * n) l'.scratch
    rest = rw a.mark at a.past ∙ sym (rw b.mark at b.past)

    same_scratch : l.scratch ≡ l'.scratch
    same_scratch = sym (take-append-drop (9 * n) l.scratch) ∙ ap₂ ◌++◌ first rest ∙ take-append-drop (9 * n) l'.scratch

-- THE CALL

pub record SameResult (a a' : Answer) (l l' : Left) : Type 0 where
  pub answer : a ≡ a'
  pub left : l ≡ l'

-- over one environment and one store
refuses_same : {w : Lent} {e : Env} {s : Store} {k k' : ℕ} {l l' : Left} → Refused e (limits_of w) w.nesting s w.term k → Zeroed w l →
    Refused e (limits_of w) w.nesting s w.term k' → Zeroed w l' → SameResult (refused k 0) (refused k' 0) l l'
refuses_same r z r' z' = record { answer = ap (λ (n : ℕ). refused n 0) (refusals_same r r'); left = zeroed_same z z' }

answers_alike : {w : Lent} {e : Env} {s s₁ s₂ : Store} {t₁ t₂ : Ptr} {k₁ k₂ n₁ n₂ : ℕ} {l l' : Left} →
    Answered e (limits_of w) w.nesting s w.term t₁ k₁ s₁ → length s₁ - length s ≡ n₁ → Grown w s s₁ l →
    Answered e (limits_of w) w.nesting s w.term t₂ k₂ s₂ → length s₂ - length s ≡ n₂ → Grown w s s₂ l' →
    SameResult (term t₁ k₁ n₁) (term t₂ k₂ n₂) l l'
answers_alike {w} {s = s} {l' = l'} a q g a' q' g' =
    let z = answers_same a a' in
    let rows = sym q ∙ ap (λ (x : Store). length x - length s) z.store ∙ q' in
    record { answer = λ i. term (z.term i) (z.steps i) (rows i); left = grown_same g (subst (λ (x : Store). Grown w s x l') (sym z.store) g') }

pub whnf_same : {w : Lent} {a a' : Answer} {l l' : Left} → Whnf w a l → Whnf w a' l' → SameResult a a' l l'
whnf_same {w} (not_accepted n u) (not_accepted n' u') =
    let z = not_accepted_same w n n' in record { answer = ap₂ refused z.0 z.1; left = untouched_same u u' }
whnf_same {w} (not_accepted n u) (refuses a r z) = absurd (U.not_accepted w n a)
whnf_same {w} (not_accepted n u) (answers a r q g) = absurd (U.not_accepted w n a)
whnf_same {w} (refuses a r z) (not_accepted n u) = absurd (U.not_accepted w n a)
whnf_same {w} (answers a r q g) (not_accepted n u) = absurd (U.not_accepted w n a)
whnf_same {w} (refuses a r z) (refuses a' r' z') =
    let e = accepted_same w a a' in refuses_same r z (rw (← e.0, ← e.1) at r') z'
whnf_same {w} (refuses a r z) (answers a' r' q' g') =
    let e = accepted_same w a a' in absurd (never_both (rw (← e.0, ← e.1) at r') r)
whnf_same {w} (answers a r q g) (refuses a' r' z') =
    let e = accepted_same w a a' in absurd (never_both r (rw (← e.0, ← e.1) at r'))
whnf_same {w} (answers a r q g) (answers a' r' q' g') =
    let e = accepted_same w a a' in answers_alike r q g (rw (← e.0, ← e.1) at r') (rw (← e.1) at q') (rw (← e.1) at g')
