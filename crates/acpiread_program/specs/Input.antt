-- How many bytes of a file a report needs.
use Rattle.std.specs.Prelude.{ℕ, ◌+◌, ◌-◌, List, length, nat_lt, if◌then◌else◌}
use Rattle.acpi_base.specs.Bytes.{field_at}

-- how many bytes are read after a header: those that its length at offset 4 announces, and one more, which shows that a file is
-- longer
abbrev pub after_header : List ℕ → ℕ
after_header header = if nat_lt (length header) 36 then 0 else (field_at 4 4 header - 36) + 1
