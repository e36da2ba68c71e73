-- The Firmware Performance Data Table (ACPI 6.5, 5.2.24).
use Rattle.std.specs.Prelude.{ℕ, List, [], ◌∷◌, codes}
use Rattle.acpi_base.specs.Fields.{NamedField, byte, word, qword, hex, preset, reserved, fields_joined}
use Rattle.acpi_base.specs.declared.oem.Oem.{Oem}
use Rattle.acpi_core.specs.Listing.{Listing, length_limit}
use Rattle.acpi_pc.specs.declared.fpdt.BootPointer.{BootPointer}
use Rattle.acpi_pc.specs.declared.fpdt.S3Pointer.{S3Pointer}

-- a table without records
abbrev pub fpdt : Oem → Listing
fpdt oem = record {
  signature = codes "FPDT";
  revision = 1;
  oem = oem;
  before = [];
  count_width = 0;
  after = [];
  limit = length_limit;
  structures = [];
}

-- Firmware Basic Boot Performance Pointer Record (5.2.24.4)
abbrev pub boot_fields : BootPointer → List NamedField
boot_fields p =
    preset word "Performance Record Type" 0  -- 0
    ∷ preset byte "Record Length" 16  -- 2
    ∷ preset byte "Revision" 1  -- 3
    ∷ reserved 4  -- 4
    ∷ hex qword "FBPT Pointer" p.address  -- 8
    ∷ []

abbrev pub boot_bytes : ℕ → List ℕ
boot_bytes address = fields_joined (boot_fields (record { address = address }))

-- S3 Performance Table Pointer Record (5.2.24.5)
abbrev pub s3_fields : S3Pointer → List NamedField
s3_fields p =
    preset word "Performance Record Type" 1  -- 0
    ∷ preset byte "Record Length" 16  -- 2
    ∷ preset byte "Revision" 1  -- 3
    ∷ reserved 4  -- 4
    ∷ hex qword "S3PT Pointer" p.address  -- 8
    ∷ []

abbrev pub s3_bytes : ℕ → List ℕ
s3_bytes address = fields_joined (s3_fields (record { address = address }))
