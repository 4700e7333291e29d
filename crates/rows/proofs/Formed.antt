-- When nine words are a row of the rules, and which: a kind up to 8, the words that it does not use 0, and then what `decode` says.
-- Assumes nothing.
use Prim.Native.Nat.{ℕ, ◌≤◌, ◌<◌}
use native.Mathlib.Omega.{arith}
use mathlib.Core.Path.{◌≡◌, refl, sym, ap, subst}
use mathlib.Core.List.{List, [], ◌∷◌}
use lib.ListN.{length, get_or}
use Rattle.rules.specs.Kinds.{num, table}
use Rattle.rules.specs.Rows.{Cell, leaf}
use Rattle.rules.specs.Accepted.{recorded, IsRow, var_row, sort_row, const_row, app_row, lam_row, pi_row, let_row, proj_row, num_row}
use Rattle.rows.specs.declared.Ptr.{Ptr}
use Rattle.rows.specs.declared.Shape.{Shape}
use Rattle.rows.specs.Words.{pair, kind_of, tags_at, row_by, shape_at, decode, words_of}
use Rattle.rows.specs.Checks.{used, Tidy, Formed}
use Rattle.rows.proofs.Parts.{front_nine}
use Rattle.rows.proofs.NineKinds.{each_kind}

-- words are read as one row
pub is_decoded : {ws : List ℕ} {x : Cell} → IsRow ws x → x ≡ decode ws
unfolding decode row_by kind_of tags_at table
is_decoded var_row = refl
is_decoded sort_row = refl
is_decoded const_row = refl
is_decoded app_row = refl
is_decoded lam_row = refl
is_decoded pi_row = refl
is_decoded let_row = refl
is_decoded proj_row = refl
is_decoded (num_row {low} {high} {n} {b} {h} small e) = ap (λ (v : ℕ). recorded (leaf (num v)) b h) (sym e)

abbrev pub shape : ℕ → Ptr → Ptr → Ptr → Shape
shape k a b c = record { kind = k; first = a; second = b; third = c }

-- the words that a kind uses, and 0 for the others
pub one_word : (k i : ℕ) → k ≤ 8 → Formed (shape k (pair i 0) (pair 0 0) (pair 0 0))
one_word k i h =
    record { kind = h; tidy = record { word2 = λ _. refl; word3 = λ _. refl; word4 = λ _. refl; word5 = λ _. refl; word6 = λ _. refl } }

pub two_words : (k i j : ℕ) → k ≤ 8 → 2 ≤ used k → Formed (shape k (pair i j) (pair 0 0) (pair 0 0))
two_words k i j h u =
    record { kind = h; tidy = record { word2 = λ g. absurd (omega arith); word3 = λ _. refl; word4 = λ _. refl; word5 = λ _. refl; word6 = λ _. refl } }

pub two_pairs : (k : ℕ) (a b : Ptr) → k ≤ 8 → 4 ≤ used k → Formed (shape k a b (pair 0 0))
two_pairs k a b h u =
    record { kind = h; tidy = record { word2 = λ g. absurd (omega arith); word3 = λ g. absurd (omega arith); word4 = λ g. absurd (omega arith); word5 = λ _. refl; word6 = λ _. refl } }

pub three_pairs : (k : ℕ) (a b c : Ptr) → k ≤ 8 → 6 ≤ used k → Formed (shape k a b c)
three_pairs k a b c h u =
    record {
      kind = h;
      tidy = record {
        word2 = λ g. absurd (omega arith);
        word3 = λ g. absurd (omega arith);
        word4 = λ g. absurd (omega arith);
        word5 = λ g. absurd (omega arith);
        word6 = λ g. absurd (omega arith);
      };
    }

pub row_formed : {ws : List ℕ} {x : Cell} → IsRow ws x → Formed (shape_at ws)
unfolding used
row_formed (var_row {i}) = one_word 0 i (omega arith)
row_formed (sort_row {l}) = one_word 1 l (omega arith)
row_formed (const_row {d} {n}) = two_words 2 d n (omega arith) (omega arith)
row_formed (app_row {f} {fs} {a} {as'}) = two_pairs 3 (pair f fs) (pair a as') (omega arith) (omega arith)
row_formed (lam_row {t} {ts} {u} {us}) = two_pairs 4 (pair t ts) (pair u us) (omega arith) (omega arith)
row_formed (pi_row {t} {ts} {u} {us}) = two_pairs 5 (pair t ts) (pair u us) (omega arith) (omega arith)
row_formed (let_row {t} {ts} {v} {vs} {u} {us}) = three_pairs 6 (pair t ts) (pair v vs) (pair u us) (omega arith) (omega arith)
row_formed (proj_row {x} {xs} {d} {i}) = two_pairs 7 (pair x xs) (pair d i) (omega arith) (omega arith)
row_formed (num_row {low} {high} small e) = two_words 8 low high (omega arith) (omega arith)

module _ (a b c : Ptr) (bo h : ℕ) (word : a.row < 4294967296) where
  abbrev Written : ℕ → Type 0
  Written k = Tidy (shape k a b c) → IsRow (words_of (shape k a b c) bo h) (decode (words_of (shape k a b c) bo h))

  written : (k : ℕ) → k ≤ 8 → Written k
  unfolding decode row_by kind_of tags_at table used
  written =
      each_kind Written
      (λ t. rw (t.word2 (omega arith), t.word3 (omega arith), t.word4 (omega arith), t.word5 (omega arith), t.word6 (omega arith)) var_row)
      (λ t. rw (t.word2 (omega arith), t.word3 (omega arith), t.word4 (omega arith), t.word5 (omega arith), t.word6 (omega arith)) sort_row)
      (λ t. rw (t.word3 (omega arith), t.word4 (omega arith), t.word5 (omega arith), t.word6 (omega arith)) const_row)
      (λ t. rw (t.word5 (omega arith), t.word6 (omega arith)) app_row)
      (λ t. rw (t.word5 (omega arith), t.word6 (omega arith)) lam_row)
      (λ t. rw (t.word5 (omega arith), t.word6 (omega arith)) pi_row)
      (λ t. let_row)
      (λ t. rw (t.word5 (omega arith), t.word6 (omega arith)) proj_row)
      (λ t. rw (t.word3 (omega arith), t.word4 (omega arith), t.word5 (omega arith), t.word6 (omega arith)) (num_row word refl))

pub formed_row : (w : Shape) (b h : ℕ) → Formed w → w.first.row < 4294967296 → IsRow (words_of w b h) (decode (words_of w b h))
formed_row w b h f word = written w.first w.second w.third b h word w.kind f.kind f.tidy

-- nine words are their kind, pairs, bound and height
pub words_are : (ws : List ℕ) → length ws ≡ 9 → ws ≡ words_of (shape_at ws) (get_or ws 7 0) (get_or ws 8 0)
words_are ws l =
    front_nine (λ (us : List ℕ). length us ≡ 9 → us ≡ words_of (shape_at us) (get_or us 7 0) (get_or us 8 0))
    (λ a b c d e f g h i rest. last a b c d e f g h i rest) ws (omega arith) l
  where
    last : (a b c d e f g h i : ℕ) (rest : List ℕ) → length (a ∷ b ∷ c ∷ d ∷ e ∷ f ∷ g ∷ h ∷ i ∷ rest) ≡ 9 →
        a ∷ b ∷ c ∷ d ∷ e ∷ f ∷ g ∷ h ∷ i ∷ rest ≡ a ∷ b ∷ c ∷ d ∷ e ∷ f ∷ g ∷ h ∷ i ∷ []
    last a b c d e f g h i [] k = refl
    last a b c d e f g h i (r ∷ rest) k = absurd (omega arith)

pub decoded_row : (ws : List ℕ) → length ws ≡ 9 → Formed (shape_at ws) → get_or ws 1 0 < 4294967296 → IsRow ws (decode ws)
decoded_row ws l f word =
    subst (λ (us : List ℕ). IsRow us (decode us)) (sym (words_are ws l)) (formed_row (shape_at ws) (get_or ws 7 0) (get_or ws 8 0) f word)
