-- Structures of NFIT that end with a list, and the capabilities of a platform (ACPI 6.5, 5.2.26).
use Rattle.std.specs.Prelude.{ℕ, ◌+◌, List, [], ◌∷◌, ◌++◌, length}
use Rattle.acpi_base.specs.Fields.{NamedField, byte, word, dword, hex, preset, flags, reserved, fields_joined}
use Rattle.acpi_base.specs.Look.{Part, flag}
use Rattle.acpi_core.specs.Entries.{no_entries}
use Rattle.acpi_pc.specs.declared.nfit.lists.FlushHint.{FlushHint}
use Rattle.acpi_pc.specs.declared.nfit.lists.Interleave.{Interleave}
use Rattle.acpi_pc.specs.declared.nfit.platform.Capabilities.{Capabilities}
use Rattle.acpi_pc.specs.declared.nfit.platform.SmbiosInformation.{SmbiosInformation}

-- ---- Interleave Structure (5.2.26.4)

abbrev pub interleave : ℕ → ℕ → Interleave
interleave index line_size = record { index = index; line_size = line_size; lines = no_entries }

abbrev pub interleave_head_fields : Interleave → List NamedField
interleave_head_fields i =
    preset word "Type" 2  -- 0
    ∷ word "Length" (16 + length i.lines.bytes)  -- 2
    ∷ word "Interleave Structure Index" i.index  -- 4
    ∷ reserved 2  -- 6
    ∷ dword "Number of Lines Described" i.lines.count  -- 8
    ∷ dword "Line Size" i.line_size  -- 12
    ∷ []

abbrev pub interleave_head : Interleave → List ℕ
interleave_head i = fields_joined (interleave_head_fields i)

abbrev pub interleave_bytes : Interleave → List ℕ
interleave_bytes i = interleave_head i ++ i.lines.bytes  -- 16: Line Offset

-- ---- SMBIOS Management Information Structure (5.2.26.5)

abbrev pub smbios : List ℕ → SmbiosInformation
smbios structures = record { structures = structures }

abbrev pub smbios_head_fields : SmbiosInformation → List NamedField
smbios_head_fields s =
    preset word "Type" 3  -- 0
    ∷ word "Length" (8 + length s.structures)  -- 2
    ∷ reserved 4  -- 4
    ∷ []

abbrev pub smbios_head : SmbiosInformation → List ℕ
smbios_head s = fields_joined (smbios_head_fields s)

abbrev pub smbios_bytes : SmbiosInformation → List ℕ
smbios_bytes s = smbios_head s ++ s.structures  -- 8: Data

-- ---- Flush Hint Address Structure (5.2.26.8)

abbrev pub flush_hint : ℕ → FlushHint
flush_hint handle = record { handle = handle; addresses = no_entries }

abbrev pub flush_head_fields : FlushHint → List NamedField
flush_head_fields h =
    preset word "Type" 6  -- 0
    ∷ word "Length" (16 + length h.addresses.bytes)  -- 2
    ∷ hex dword "NFIT Device Handle" h.handle  -- 4
    ∷ word "Number of Flush Hint Addresses" h.addresses.count  -- 8
    ∷ reserved 6  -- 10
    ∷ []

abbrev pub flush_head : FlushHint → List ℕ
flush_head h = fields_joined (flush_head_fields h)

abbrev pub flush_bytes : FlushHint → List ℕ
flush_bytes h = flush_head h ++ h.addresses.bytes  -- 16: Flush Hint Address

-- ---- Platform Capabilities Structure (5.2.26.9)

abbrev pub capabilities : ℕ → Capabilities
capabilities highest = record { highest = highest; flags = 0 }

-- Capabilities
abbrev pub capability_bits : List Part
capability_bits =
    flag 0x1 "CPU Cache Flush to NVDIMM Durability on Power Loss Capable"
    ∷ flag 0x2 "Memory Controller Flush to NVDIMM Durability on Power Loss Capable"
    ∷ flag 0x4 "Byte Addressable Persistent Memory Hardware Mirroring Capable"
    ∷ []

abbrev pub capabilities_fields : Capabilities → List NamedField
capabilities_fields c =
    preset word "Type" 7  -- 0
    ∷ preset word "Length" 16  -- 2
    ∷ byte "Highest Valid Capability" c.highest  -- 4
    ∷ reserved 3  -- 5
    ∷ flags capability_bits dword "Capabilities" c.flags  -- 8
    ∷ reserved 4  -- 12
    ∷ []

abbrev pub capabilities_bytes : Capabilities → List ℕ
capabilities_bytes c = fields_joined (capabilities_fields c)
