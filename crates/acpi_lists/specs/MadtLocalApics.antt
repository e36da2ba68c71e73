-- Local APICs of x86 in MADT with addresses of 64 bits, and with ids of 32 bits (ACPI 6.5, 5.2.12).
use Rattle.std.specs.Prelude.{ℕ, List, [], ◌∷◌}
use Rattle.acpi_base.specs.Fields.{NamedField, byte, dword, qword, hex, preset, flags, reserved, fields_joined}
use Rattle.acpi_lists.specs.MadtX86.{local_apic_flags, local_apic_bits}
use Rattle.acpi_lists.specs.declared.madt.EnabledStatus.{EnabledStatus}
use Rattle.acpi_lists.specs.declared.madt.local_apics.LocalApicAddressOverride.{LocalApicAddressOverride}
use Rattle.acpi_lists.specs.declared.madt.local_apics.ProcessorLocalX2Apic.{ProcessorLocalX2Apic}

-- ---- Local APIC Address Override (5.2.12.8)

abbrev pub address_override_fields : LocalApicAddressOverride → List NamedField
address_override_fields s =
    preset byte "Type" 0x05  -- 0
    ∷ preset byte "Length" 12  -- 1
    ∷ reserved 2  -- 2
    ∷ hex qword "Local APIC Address" s.local_apic_address  -- 4
    ∷ []

abbrev pub address_override_bytes : LocalApicAddressOverride → List ℕ
address_override_bytes s = fields_joined (address_override_fields s)

abbrev pub address_override : ℕ → LocalApicAddressOverride
address_override address = record { local_apic_address = address }

-- ---- Processor Local x2APIC (5.2.12.12)

-- the flags are those of a local APIC
abbrev pub local_x2apic_fields : ProcessorLocalX2Apic → List NamedField
local_x2apic_fields s =
    preset byte "Type" 0x09  -- 0
    ∷ preset byte "Length" 16  -- 1
    ∷ reserved 2  -- 2
    ∷ hex dword "X2APIC ID" s.x2apic_id  -- 4
    ∷ flags local_apic_bits dword "Flags" (local_apic_flags s.status)  -- 8
    ∷ hex dword "ACPI Processor UID" s.processor_uid  -- 12
    ∷ []

abbrev pub local_x2apic_bytes : ProcessorLocalX2Apic → List ℕ
local_x2apic_bytes s = fields_joined (local_x2apic_fields s)

abbrev pub local_x2apic : ℕ → ℕ → EnabledStatus → ProcessorLocalX2Apic
local_x2apic uid id status = record {
  x2apic_id = id;
  status = status;
  processor_uid = uid;
}
