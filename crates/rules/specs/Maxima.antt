-- The maxima, once. 0 is allowed everywhere.
use Rattle.std.specs.Prelude.{ℕ}

-- in a row
abbrev pub most_index : ℕ
most_index = 4095

abbrev pub most_level : ℕ
most_level = 255

abbrev pub most_levels : ℕ
most_levels = 16

abbrev pub most_number : ℕ
most_number = 18446744073709551615

abbrev pub most_bound : ℕ
most_bound = 4096

abbrev pub most_height : ℕ
most_height = 2000

-- in what is lent; library and scratch each
abbrev pub most_rows : ℕ
most_rows = 65536

abbrev pub most_declarations : ℕ
most_declarations = 4096

abbrev pub most_records : ℕ
most_records = 4096

-- of one recursor, and in the whole list
abbrev pub most_rules : ℕ
most_rules = 64

abbrev pub most_rules_in_all : ℕ
most_rules_in_all = 262144

abbrev pub most_steps : ℕ
most_steps = 1000000

abbrev pub most_nesting : ℕ
most_nesting = 500
