-- Hart Info nodes (this project's profile).
use Rattle.std.specs.Prelude.{ℕ, ◌+◌, List, [], ◌∷◌, ◌++◌, length}
use Rattle.acpi_base.specs.Bytes.{le}
use Rattle.acpi_base.specs.Fields.{NamedField, word, dword, hex, preset, fields_joined}
use Rattle.acpi_core.specs.Entries.{no_entries, with_entry}
use Rattle.acpi_nodes.specs.declared.rhct.HartInfoNode.{HartInfoNode}

-- a hart with the offset of its ISA string, in four bytes
abbrev pub hart_info : ℕ → ℕ → HartInfoNode
hart_info uid isa_string = record { uid = uid; offsets = with_entry no_entries (le 4 isa_string) }

-- the hart with one more offset at the end
abbrev pub with_offset : HartInfoNode → ℕ → HartInfoNode
with_offset h offset = record { uid = h.uid; offsets = with_entry h.offsets (le 4 offset) }

abbrev pub hart_info_head_fields : HartInfoNode → List NamedField
hart_info_head_fields h =
    preset word "Type" 65535  -- 0
    ∷ word "Length" (12 + length h.offsets.bytes)  -- 2
    ∷ preset word "Revision" 1  -- 4
    ∷ word "Number of offsets" h.offsets.count  -- 6
    ∷ hex dword "ACPI Processor UID" h.uid  -- 8
    ∷ []

abbrev pub hart_info_head : HartInfoNode → List ℕ
hart_info_head h = fields_joined (hart_info_head_fields h)

abbrev pub hart_info_bytes : HartInfoNode → List ℕ
hart_info_bytes h = hart_info_head h ++ h.offsets.bytes  -- 12: Offsets
