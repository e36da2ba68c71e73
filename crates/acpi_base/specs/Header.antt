-- The standard header of a table (ACPI 6.5, 5.2.6).
use Rattle.std.specs.Prelude.{ℕ, List, [], ◌∷◌, codes}
use Rattle.acpi_base.specs.Fields.{NamedField, byte, dword, hex, text, fields_joined}
use Rattle.acpi_base.specs.declared.oem.Oem.{Oem}

-- the header of a table of this many bytes, with a checksum of 0
abbrev pub header_fields : List ℕ → ℕ → ℕ → Oem → List NamedField
header_fields signature size revision oem =
    text "Signature" 4 signature  -- 0
    ∷ dword "Length" size  -- 4
    ∷ byte "Revision" revision  -- 8
    ∷ hex byte "Checksum" 0  -- 9
    ∷ text "OEM ID" 6 oem.id  -- 10
    ∷ text "OEM Table ID" 8 oem.table_id  -- 16
    ∷ dword "OEM Revision" oem.revision  -- 24
    ∷ text "Creator ID" 4 (codes "RVAT")  -- 28
    ∷ hex dword "Creator Revision" 0x01000000  -- 32
    ∷ []

-- the 36 bytes of the header
abbrev pub header : List ℕ → ℕ → ℕ → Oem → List ℕ
header signature size revision oem = fields_joined (header_fields signature size revision oem)
