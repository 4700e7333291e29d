-- What is lent, as words; how rows, declarations and records are read from them; accepted input; refusals 1, 2 and 3 with their places.
use Rattle.std.specs.Prelude.{ℕ, ◌+◌, ◌*◌, ◌/◌, ◌%◌, ◌≤◌, ◌<◌, ◌≡◌, List, [], ◌∷◌, ◌++◌, length, get_or, take, drop}
use Rattle.std.proofs.Math.Option.{Option, none, some}
use Rattle.rules.specs.Maxima.{most_levels, most_rows, most_declarations, most_records, most_rules, most_rules_in_all, most_steps, most_nesting}
use Rattle.rules.specs.Kinds.{sort, const, app, lam, pi, let', proj, num}
use Rattle.rules.specs.Rows.{Ptr, ptr, blank, Row, var, node, leaf, Cell, Store, cell_at}
use Rattle.rules.specs.RowCheck.{Passes, InScope}
use Rattle.rules.specs.Arithmetic.{words_value}
use Rattle.rules.specs.Declarations.{Role, role_code, Rule, Recursor, Form, plain, constructor, recursor, structure, Decl, Entry, Env, nth, decl_at}

-- what a call is lent and asked
pub record Lent : Type 0 where
  pub library : List ℕ
  pub declarations : List ℕ
  pub rules : List ℕ
  pub context : List ℕ
  pub depth : ℕ
  pub scratch : List ℕ
  pub mark : ℕ
  pub term : Ptr
  pub steps : ℕ
  pub nesting : ℕ

-- WORDS

abbrev pub recorded : Row → ℕ → ℕ → Cell
recorded w b h = record { row = w; bound = b; height = h }

-- "A row is nine u32 words: kind, three pairs, bound, height." A number is its low word, then its high word.
pub data IsRow : List ℕ → Cell → Type 0 where
  var_row : {i b h : ℕ} → IsRow (0 ∷ i ∷ 0 ∷ 0 ∷ 0 ∷ 0 ∷ 0 ∷ b ∷ h ∷ []) (recorded (var i) b h)
  sort_row : {l b h : ℕ} → IsRow (1 ∷ l ∷ 0 ∷ 0 ∷ 0 ∷ 0 ∷ 0 ∷ b ∷ h ∷ []) (recorded (leaf (sort l)) b h)
  const_row : {d n b h : ℕ} → IsRow (2 ∷ d ∷ n ∷ 0 ∷ 0 ∷ 0 ∷ 0 ∷ b ∷ h ∷ []) (recorded (leaf (const d n)) b h)
  app_row : {f fs a as' b h : ℕ} → IsRow (3 ∷ f ∷ fs ∷ a ∷ as' ∷ 0 ∷ 0 ∷ b ∷ h ∷ []) (recorded (node app (ptr f fs) (ptr a as') blank) b h)
  lam_row : {t ts u us b h : ℕ} → IsRow (4 ∷ t ∷ ts ∷ u ∷ us ∷ 0 ∷ 0 ∷ b ∷ h ∷ []) (recorded (node lam (ptr t ts) (ptr u us) blank) b h)
  pi_row : {t ts u us b h : ℕ} → IsRow (5 ∷ t ∷ ts ∷ u ∷ us ∷ 0 ∷ 0 ∷ b ∷ h ∷ []) (recorded (node pi (ptr t ts) (ptr u us) blank) b h)
  let_row : {t ts v vs u us b h : ℕ} → IsRow (6 ∷ t ∷ ts ∷ v ∷ vs ∷ u ∷ us ∷ b ∷ h ∷ []) (recorded (node let' (ptr t ts) (ptr v vs) (ptr u us)) b h)
  proj_row : {x xs d i b h : ℕ} → IsRow (7 ∷ x ∷ xs ∷ d ∷ i ∷ 0 ∷ 0 ∷ b ∷ h ∷ []) (recorded (node (proj d i) (ptr x xs) blank blank) b h)
  num_row : {low high n b h : ℕ} → low < 4294967296 → words_value low high ≡ n → IsRow (8 ∷ low ∷ high ∷ 0 ∷ 0 ∷ 0 ∷ 0 ∷ b ∷ h ∷ []) (recorded (leaf (num n)) b h)

-- record i of a list of records of k words
abbrev pub part : ℕ → List ℕ → ℕ → List ℕ
part k ws i = take k (drop (k * i) ws)

-- a rule: constructor's declaration number, field count, value
pub data IsRule : List ℕ → Rule → Type 0 where
  rule_words : {c f r s : ℕ} → IsRule (c ∷ f ∷ r ∷ s ∷ []) (record { constructor = c; fields = f; value = ptr r s })

-- `count` rules from number `first` on; all stand within the list
pub record AreRules (all : List ℕ) (first count : ℕ) (rs : List Rule) : Type 0 where
  pub inside : 4 * (first + count) ≤ length all
  pub many : length rs ≡ count
  pub words : (i : ℕ) (ρ : Rule) → nth rs i ≡ some ρ → IsRule (part 4 all (first + i)) ρ

-- a declaration's kind and its words 8 to 14; a K flag (word 12) other than 0 and more than 64 rules break the rule
pub data IsForm (all : List ℕ) : ℕ → List ℕ → Form → Type 0 where
  plain_words : IsForm all 0 (0 ∷ 0 ∷ 0 ∷ 0 ∷ 0 ∷ 0 ∷ 0 ∷ []) plain
  constructor_words : {ps fs : ℕ} → IsForm all 1 (ps ∷ fs ∷ 0 ∷ 0 ∷ 0 ∷ 0 ∷ 0 ∷ []) (constructor ps fs)
  recursor_words : {ps mo mi ix first count : ℕ} {rs : List Rule} → count ≤ most_rules → AreRules all first count rs →
      IsForm all 2 (ps ∷ mo ∷ mi ∷ ix ∷ 0 ∷ first ∷ count ∷ []) (recursor (record { parameters = ps; motives = mo; minors = mi; indices = ix; rules = rs }))
  structure_words : {ps c : ℕ} → IsForm all 3 (ps ∷ c ∷ 0 ∷ 0 ∷ 0 ∷ 0 ∷ 0 ∷ []) (structure ps c)

-- a value: flag, row, shift
pub data IsValue : ℕ → ℕ → ℕ → Option Ptr → Type 0 where
  absent : IsValue 0 0 0 none
  present : {r s : ℕ} → IsValue 1 r s (some (ptr r s))

-- a declaration's sixteen words
pub data IsDecl (all : List ℕ) : List ℕ → Decl → Type 0 where
  decl_words : {kind levels r s flag v u code a b c d e f g : ℕ} {form : Form} {value : Option Ptr} {role : Role} →
      IsForm all kind (a ∷ b ∷ c ∷ d ∷ e ∷ f ∷ g ∷ []) form → IsValue flag v u value → role_code role ≡ code →
      IsDecl all (kind ∷ levels ∷ r ∷ s ∷ flag ∷ v ∷ u ∷ code ∷ a ∷ b ∷ c ∷ d ∷ e ∷ f ∷ g ∷ 0 ∷ [])
      (record { form = form; levels = levels; type = ptr r s; value = value; role = role })

-- a context record's five words: type, value, flag
pub data IsEntry : List ℕ → Entry → Type 0 where
  entry_words : {r s v u flag : ℕ} {value : Option Ptr} → IsValue flag v u value →
      IsEntry (r ∷ s ∷ v ∷ u ∷ flag ∷ []) (record { type = ptr r s; value = value })

-- THE RULES OF DECLARATIONS AND RECORDS

-- a closed term of the library, which has L rows
pub record Closed (s : Store) (L : ℕ) (p : Ptr) : Type 0 where
  pub there : p.row < L
  pub closed : (cell_at s p.row).bound ≡ 0
  pub still : p.shift ≡ 0

-- "Named constructors are of that kind." Only the kind word is read.
pub record IsConstructor (words : List ℕ) (c : ℕ) : Type 0 where
  pub there : 16 * c < length words
  pub kind : get_or words (16 * c) 0 ≡ 1

pub data FormOk (words : List ℕ) (s : Store) (L : ℕ) : Form → Type 0 where
  plain_ok : FormOk words s L plain
  constructor_ok : {ps fs : ℕ} → FormOk words s L (constructor ps fs)
  recursor_ok : {o : Recursor} →
      ((i : ℕ) (ρ : Rule) → nth o.rules i ≡ some ρ → IsConstructor words ρ.constructor) →
      ((i : ℕ) (ρ : Rule) → nth o.rules i ≡ some ρ → Closed s L ρ.value) → FormOk words s L (recursor o)
  structure_ok : {ps c : ℕ} → IsConstructor words c → FormOk words s L (structure ps c)

-- declaration j keeps its rule; "a second holder breaks the rule", and of a lower declaration only the role word is read
pub record DeclOk (words : List ℕ) (s : Store) (L : ℕ) (ds : List Decl) (j : ℕ) : Type 0 where
  pub levels : (decl_at ds j).levels ≤ most_levels
  pub type : Closed s L (decl_at ds j).type
  pub value : (v : Ptr) → (decl_at ds j).value ≡ some v → Closed s L v
  pub form : FormOk words s L (decl_at ds j).form
  pub first_holder : (i : ℕ) → i < j → get_or words (16 * i + 7) 0 ≡ role_code (decl_at ds j).role → role_code (decl_at ds j).role ≡ 0

-- "both with bound at most the record's position (from 0)"
pub record EntryOk (s : Store) (xs : List Entry) (j : ℕ) : Type 0 where
  pub type : (x : Entry) → nth xs j ≡ some x → InScope s j x.type
  pub value : (x : Entry) (v : Ptr) → nth xs j ≡ some x → x.value ≡ some v → InScope s j v

-- ACCEPTED INPUT

-- the first n records of k words are xs, and each keeps its rule
pub record Keep {A : Type 0} (k : ℕ) (ws : List ℕ) (Is : List ℕ → A → Type 0) (Ok : List A → ℕ → Type 0) (n : ℕ) (xs : List A) : Type 0 where
  pub many : length xs ≡ n
  pub words : (i : ℕ) (x : A) → nth xs i ≡ some x → Is (part k ws i) x
  pub rules : (i : ℕ) → i < n → Ok xs i

-- record j is the lowest of the first n that breaks its rule
pub record Lowest {A : Type 0} (k : ℕ) (ws : List ℕ) (Is : List ℕ → A → Type 0) (Ok : List A → ℕ → Type 0) (n j : ℕ) : Type 0 where
  pub inside : j < n
  pub lower : List A
  pub keep : Keep k ws Is Ok j lower
  pub breaks : (x : A) → Is (part k ws j) x → Ok (lower ++ (x ∷ [])) j → ⊥

-- "length not whole records, mark or depth past the end, or a number over the maxima"
pub record Sizes (w : Lent) : Type 0 where
  pub whole_library : length w.library % 9 ≡ 0
  pub whole_declarations : length w.declarations % 16 ≡ 0
  pub whole_rules : length w.rules % 4 ≡ 0
  pub whole_context : length w.context % 5 ≡ 0
  pub whole_scratch : length w.scratch % 9 ≡ 0
  pub mark : 9 * w.mark ≤ length w.scratch
  pub depth : 5 * w.depth ≤ length w.context
  pub library : length w.library ≤ 9 * most_rows
  pub scratch : length w.scratch ≤ 9 * most_rows
  pub declarations : length w.declarations ≤ 16 * most_declarations
  pub context : length w.context ≤ 5 * most_records
  pub rules : length w.rules ≤ 4 * most_rules_in_all
  pub steps : w.steps ≤ most_steps
  pub nesting : w.nesting ≤ most_nesting

-- "Scratch rows are numbered after library rows"; those from the mark on are not looked at
abbrev pub library_rows : Lent → ℕ
library_rows w = length w.library / 9

abbrev pub row_words : Lent → List ℕ
row_words w = w.library ++ take (9 * w.mark) w.scratch

abbrev pub declaration_count : Lent → ℕ
declaration_count w = length w.declarations / 16

abbrev pub RowsKept : Lent → Store → Type 0
RowsKept w s = Keep 9 (row_words w) IsRow (Passes (declaration_count w)) (library_rows w + w.mark) s

abbrev pub DeclarationsKept : Lent → Store → List Decl → Type 0
DeclarationsKept w s ds = Keep 16 w.declarations (IsDecl w.rules) (DeclOk w.declarations s (library_rows w)) (declaration_count w) ds

abbrev pub RecordsKept : Lent → Store → List Entry → Type 0
RecordsKept w s xs = Keep 5 w.context IsEntry (EntryOk s) w.depth xs

-- the words stand for these declarations, this context and these rows, and break no rule
pub record Accepted (w : Lent) (e : Env) (s : Store) : Type 0 where
  pub sizes : Sizes w
  pub rows : RowsKept w s
  pub declarations : DeclarationsKept w s e.decls
  pub records : RecordsKept w s e.context
  pub term : InScope s w.depth w.term

-- refusals 1, 2, 3, "tested in that order", with their places: "lowest such row"; "lowest declaration, else lowest record, else 0"
pub data NotAccepted (w : Lent) : ℕ → ℕ → Type 0 where
  no_sizes : (Sizes w → ⊥) → NotAccepted w 1 0
  a_row : {j : ℕ} → Sizes w → Lowest 9 (row_words w) IsRow (Passes (declaration_count w)) (library_rows w + w.mark) j → NotAccepted w 2 j
  a_declaration : {s : Store} {j : ℕ} → Sizes w → RowsKept w s →
      Lowest 16 w.declarations (IsDecl w.rules) (DeclOk w.declarations s (library_rows w)) (declaration_count w) j → NotAccepted w 3 j
  a_record : {s : Store} {ds : List Decl} {j : ℕ} → Sizes w → RowsKept w s → DeclarationsKept w s ds →
      Lowest 5 w.context IsEntry (EntryOk s) w.depth j → NotAccepted w 3 j
  the_term : {s : Store} {ds : List Decl} {xs : List Entry} → Sizes w → RowsKept w s → DeclarationsKept w s ds → RecordsKept w s xs →
      (InScope s w.depth w.term → ⊥) → NotAccepted w 3 0
