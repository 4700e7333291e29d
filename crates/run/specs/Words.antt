-- A list's words with junk behind those in use. Assumes nothing: this is a definition.
use Rattle.std.specs.Prelude.{ℕ, ◌+◌, List, ◌++◌, take, drop, replicate}

-- `more` words that mean nothing, behind the first `count`
abbrev pub with_junk : List ℕ → ℕ → ℕ → List ℕ
with_junk words count more = take count words ++ replicate more 0xffff_ffff ++ drop (count + more) words
