-- Lists of entries of one size.
use Rattle.std.specs.Prelude.{ℕ, ◌+◌, List, [], ◌++◌}

-- the number of entries, and their bytes
pub record Entries : Type 0 where
  pub count : ℕ
  pub bytes : List ℕ

abbrev pub no_entries : Entries
no_entries = record { count = 0; bytes = [] }

-- the list with one more entry at the end
abbrev pub with_entry : Entries → List ℕ → Entries
with_entry e entry = record { count = e.count + 1; bytes = e.bytes ++ entry }
