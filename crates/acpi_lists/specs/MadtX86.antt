-- Interrupt controllers of x86 in MADT (ACPI 6.5, 5.2.12).
use Rattle.std.specs.Prelude.{ℕ, List, [], ◌∷◌}
use Rattle.acpi_base.specs.Fields.{NamedField, byte, dword, hex, preset, flags, reserved, fields_joined}
use Rattle.acpi_base.specs.Look.{Part, flag}
use Rattle.acpi_lists.specs.declared.madt.EnabledStatus.{EnabledStatus}
use Rattle.acpi_lists.specs.declared.madt.EnabledStatus.TheVariants.{Disabled, Enabled, DisabledOnlineCapable}
use Rattle.acpi_lists.specs.declared.madt.x86.ProcessorLocalApic.{ProcessorLocalApic}
use Rattle.acpi_lists.specs.declared.madt.x86.IoApic.{IoApic}

-- ---- Processor Local APIC (5.2.12.2)

-- Local APIC Flags: Enabled at bit 0, Online Capable at bit 1
abbrev pub local_apic_flags : EnabledStatus → ℕ
local_apic_flags Disabled = 0x0
local_apic_flags Enabled = 0x1
local_apic_flags DisabledOnlineCapable = 0x2

-- Local APIC Flags (5.2.12.2)
abbrev pub local_apic_bits : List Part
local_apic_bits =
    flag 0x1 "Enabled"
    ∷ flag 0x2 "Online Capable"
    ∷ []

abbrev pub processor_local_apic_fields : ProcessorLocalApic → List NamedField
processor_local_apic_fields s =
    preset byte "Type" 0x00  -- 0
    ∷ preset byte "Length" 8  -- 1
    ∷ hex byte "ACPI Processor UID" s.processor_uid  -- 2
    ∷ hex byte "APIC ID" s.apic_id  -- 3
    ∷ flags local_apic_bits dword "Flags" (local_apic_flags s.status)  -- 4
    ∷ []

abbrev pub processor_local_apic_bytes : ProcessorLocalApic → List ℕ
processor_local_apic_bytes s = fields_joined (processor_local_apic_fields s)

abbrev pub processor_local_apic : ℕ → ℕ → EnabledStatus → ProcessorLocalApic
processor_local_apic uid apic_id status = record {
  processor_uid = uid;
  apic_id = apic_id;
  status = status;
}

-- ---- I/O APIC (5.2.12.3)

abbrev pub io_apic_fields : IoApic → List NamedField
io_apic_fields s =
    preset byte "Type" 0x01  -- 0
    ∷ preset byte "Length" 12  -- 1
    ∷ hex byte "I/O APIC ID" s.io_apic_id  -- 2
    ∷ reserved 1  -- 3
    ∷ hex dword "I/O APIC Address" s.io_apic_addr  -- 4
    ∷ dword "Global System Interrupt Base" s.gsi_base  -- 8
    ∷ []

abbrev pub io_apic_bytes : IoApic → List ℕ
io_apic_bytes s = fields_joined (io_apic_fields s)

abbrev pub io_apic : ℕ → ℕ → ℕ → IoApic
io_apic id address gsi_base = record {
  io_apic_id = id;
  io_apic_addr = address;
  gsi_base = gsi_base;
}
