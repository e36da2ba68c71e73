-- The parts after the head of a descriptor: a table, a name with a zero, and the data of a vendor (ACPI 6.5, 6.4.3.8.1).
use Rattle.std.specs.Prelude.{ℕ, ◌+◌, ◌-◌, nat_le, ◌&&◌, Bool, List, [], ◌∷◌, ◌++◌}
use Rattle.std.specs.List.{flat_map}
use Rattle.acpi_base.specs.Bytes.{le}

-- the offset of the name, after a head and a table of these sizes
abbrev pub name_at : ℕ → ℕ → ℕ
name_at head table = head + table

-- the offset of the vendor's data, after the name and a zero
abbrev pub vendor_at : ℕ → ℕ → ℕ → ℕ
vendor_at head table name = name_at head table + name + 1

-- the value of Length: the size of all but the first three bytes
abbrev pub length_of : ℕ → ℕ → ℕ → ℕ → ℕ
length_of head table name vendor = vendor_at head table name + vendor - 3

-- the offset of the vendor's data and the length fit their fields
abbrev pub parts_fit : ℕ → ℕ → ℕ → ℕ → Bool
parts_fit head table name vendor =
    nat_le (vendor_at head table name) 65535 && nat_le (vendor_at head table name + vendor) 65538

abbrev pub parts_bytes : List ℕ → List ℕ → List ℕ → List ℕ
parts_bytes table name vendor = table ++ (name ++ (0 ∷ vendor))

-- Pin Table: pins of two bytes each
abbrev pub pins_bytes : List ℕ → List ℕ
pins_bytes pins = flat_map (λ pin. le 2 pin) pins

-- ---- resource sources (6.4.3.5)

-- the index of the resource there, and the name of the device with a zero
abbrev pub source_bytes : ℕ → List ℕ → List ℕ
source_bytes index name = index ∷ (name ++ 0 ∷ [])

-- the size of these
abbrev pub source_size : ℕ → ℕ
source_size name = 2 + name
