-- The Firmware ACPI Control Structure (ACPI 6.5, 5.2.10).
use Rattle.std.specs.Prelude.{ℕ, List, [], ◌∷◌, codes}
use Rattle.acpi_base.specs.Fields.{NamedField, byte, dword, qword, hex, flags, text, reserved, fields_joined}
use Rattle.acpi_base.specs.Look.{Part, flag}
use Rattle.acpi_fixed.specs.declared.facs.FACS.{FACS}

-- Global Lock (5.2.10.1)
abbrev pub global_lock_bits : List Part
global_lock_bits =
    flag 0x1 "Pending"
    ∷ flag 0x2 "Owned"
    ∷ []

-- Firmware Control Structure flags
abbrev pub facs_bits : List Part
facs_bits =
    flag 0x1 "S4BIOS_F"
    ∷ flag 0x2 "64BIT_WAKE_SUPPORTED_F"
    ∷ []

-- OSPM Enabled Firmware Control Structure flags
abbrev pub ospm_bits : List Part
ospm_bits =
    flag 0x1 "64BIT_WAKE_F"
    ∷ []

abbrev pub facs_fields : FACS → List NamedField
facs_fields f =
    text "Signature" 4 f.signature  -- 0
    ∷ dword "Length" f.length  -- 4
    ∷ hex dword "Hardware Signature" f.hardware_signature  -- 8
    ∷ hex dword "Firmware Waking Vector" f.waking  -- 12
    ∷ flags global_lock_bits dword "Global Lock" f.lock  -- 16
    ∷ flags facs_bits dword "Flags" f.flags  -- 20
    ∷ hex qword "X Firmware Waking Vector" f.x_waking  -- 24
    ∷ byte "Version" f.version  -- 32
    ∷ reserved 3  -- 33
    ∷ flags ospm_bits dword "OSPM Flags" f.ospm_flags  -- 36
    ∷ reserved 24  -- 40
    ∷ []

abbrev pub facs_bytes : FACS → List ℕ
facs_bytes f = fields_joined (facs_fields f)

abbrev pub facs_at_first : FACS
facs_at_first = record {
  signature = codes "FACS";
  length = 64;
  hardware_signature = 0;
  waking = 0;
  lock = 0;
  flags = 0;
  x_waking = 0;
  version = 1;
  ospm_flags = 0;
}
