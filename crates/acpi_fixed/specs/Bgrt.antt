-- The Boot Graphics Resource Table (ACPI 6.5, 5.2.23).
use Rattle.std.specs.Prelude.{ℕ, List, [], ◌∷◌, codes, bit_or}
use Rattle.acpi_base.specs.Fields.{NamedField, byte, word, dword, qword, hex, preset, flags, one_of, fields_joined}
use Rattle.acpi_base.specs.Look.{Part, flag, choice, means}
use Rattle.acpi_base.specs.Table.{table_of}
use Rattle.acpi_base.specs.declared.oem.Oem.{Oem}
use Rattle.acpi_fixed.specs.declared.bgrt.BGRT.{BGRT}
use Rattle.acpi_fixed.specs.declared.bgrt.Orientation.{Orientation}
use Rattle.acpi_fixed.specs.declared.bgrt.Orientation.TheVariants as orientations

-- ---- Status

-- Orientation Offset, in bits 2:1
abbrev pub orientation_bits : Orientation → ℕ
orientation_bits orientations.Upright = 0x0
orientation_bits orientations.Degrees90 = 0x2
orientation_bits orientations.Degrees180 = 0x4
orientation_bits orientations.Degrees270 = 0x6

-- Displayed in bit 0
abbrev pub status_bits : List Part
status_bits =
    flag 0x1 "Displayed"
    ∷ choice 0x6 (
    means 0x0 "No Orientation Offset"
    ∷ means 0x2 "90 Degrees"
    ∷ means 0x4 "180 Degrees"
    ∷ means 0x6 "270 Degrees"
    ∷ []
    )
    ∷ []

abbrev pub status : BGRT → ℕ
status t = bit_or t.flags (orientation_bits t.orientation)

-- ---- the table

-- the word of Image Type
abbrev pub image_words : List (ℕ × List ℕ)
image_words =
    means 0 "Bitmap"
    ∷ []

-- the fields after the header
abbrev pub bgrt_fields : BGRT → List NamedField
bgrt_fields t =
    preset word "Version" 1  -- 36
    ∷ flags status_bits byte "Status" (status t)  -- 38
    ∷ one_of image_words byte "Image Type" 0  -- 39
    ∷ hex qword "Image Address" t.image_address  -- 40
    ∷ dword "Image Offset X" t.offset_x  -- 48
    ∷ dword "Image Offset Y" t.offset_y  -- 52
    ∷ []

abbrev pub bgrt_bytes : BGRT → List ℕ
bgrt_bytes t = table_of (codes "BGRT") 1 t.oem (fields_joined (bgrt_fields t))

-- a bitmap at an address that isn't displayed, with the place of its first pixel on the screen
abbrev pub bgrt_for : Oem → ℕ → ℕ → ℕ → BGRT
bgrt_for oem address x y = record {
  oem = oem;
  flags = 0;
  orientation = orientations.Upright;
  image_address = address;
  offset_x = x;
  offset_y = y;
}
