-- The kinds of a row, and the fixed table that says which of its three fields are terms and which stand under a binder.
use Rattle.std.specs.Prelude.{ℕ, List, [], ◌∷◌, get_or}

-- Kinds 1 to 8 with their plain words. Kind 0, the variable, has its own case in a row, since replacement treats it by itself.
pub data Kind : Type 0 where
  sort : (level : ℕ) → Kind
  const : (declaration levels : ℕ) → Kind
  app lam pi let' : Kind
  proj : (declaration index : ℕ) → Kind
  num : (value : ℕ) → Kind

abbrev pub kind_number : Kind → ℕ
kind_number (sort l) = 1
kind_number (const d n) = 2
kind_number app = 3
kind_number lam = 4
kind_number pi = 5
kind_number let' = 6
kind_number (proj d i) = 7
kind_number (num n) = 8

-- what stands in a field: a plain word, a term, a body under the binder
pub data Tag : Type 0 where
  plain term body : Tag

pub record Tags : Type 0 where
  pub first : Tag
  pub second : Tag
  pub third : Tag

abbrev pub tags : Tag → Tag → Tag → Tags
tags x y z = record { first = x; second = y; third = z }

-- nine kinds by three fields
unfoldable pub table : List Tags
table =
    tags plain plain plain  -- 0 variable
    ∷ tags plain plain plain  -- 1 sort
    ∷ tags plain plain plain  -- 2 constant
    ∷ tags term term plain  -- 3 application: function; argument
    ∷ tags term body plain  -- 4 lambda: type; body
    ∷ tags term body plain  -- 5 pi: type; body
    ∷ tags term term body  -- 6 let: type; value; body
    ∷ tags term plain plain  -- 7 projection: structure; declaration and field index
    ∷ tags plain plain plain  -- 8 number
    ∷ []

unfoldable pub fields : Kind → Tags
unfolding table
fields κ = get_or table (kind_number κ) (tags plain plain plain)
