-- Processors of x86 and Arm, and interrupt translation services, in SRAT (ACPI 6.5, 5.2.16).
use Rattle.std.specs.Prelude.{ℕ, ◌/◌, ◌%◌, List, [], ◌∷◌}
use Rattle.acpi_base.specs.Fields.{NamedField, byte, dword, number_field, hex, preset, flags, reserved, fields_joined}
use Rattle.acpi_base.specs.Look.{Part, flag}
use Rattle.acpi_lists.specs.declared.srat.processors.ProcessorLocalApicAffinity.{ProcessorLocalApicAffinity}
use Rattle.acpi_lists.specs.declared.srat.processors.ProcessorLocalX2ApicAffinity.{ProcessorLocalX2ApicAffinity}
use Rattle.acpi_lists.specs.declared.srat.processors.GiccAffinity.{GiccAffinity}
use Rattle.acpi_lists.specs.declared.srat.processors.GicItsAffinity.{GicItsAffinity}

-- ---- Processor Local APIC/SAPIC Affinity Structure (5.2.16.1)

abbrev pub apic_affinity : ℕ → ℕ → ProcessorLocalApicAffinity
apic_affinity domain id = record { domain = domain; apic_id = id; flags = 0; local_sapic_eid = 0; clock_domain = 0 }

-- Flags of a processor
abbrev pub processor_bits : List Part
processor_bits =
    flag 0x1 "Enabled"
    ∷ []

-- Proximity Domain [7:0] and Proximity Domain [31:8]: a name contains no colon
abbrev pub apic_affinity_fields : ProcessorLocalApicAffinity → List NamedField
apic_affinity_fields p =
    preset byte "Type" 0  -- 0
    ∷ preset byte "Length" 16  -- 1
    ∷ byte "Proximity Domain [7-0]" (p.domain % 256)  -- 2
    ∷ hex byte "APIC ID" p.apic_id  -- 3
    ∷ flags processor_bits dword "Flags" p.flags  -- 4
    ∷ hex byte "Local SAPIC EID" p.local_sapic_eid  -- 8
    ∷ number_field 3 "Proximity Domain [31-8]" (p.domain / 256)  -- 9
    ∷ dword "Clock Domain" p.clock_domain  -- 12
    ∷ []

abbrev pub apic_affinity_bytes : ProcessorLocalApicAffinity → List ℕ
apic_affinity_bytes p = fields_joined (apic_affinity_fields p)

-- ---- Processor Local x2APIC Affinity Structure (5.2.16.3)

abbrev pub x2apic_affinity : ℕ → ℕ → ProcessorLocalX2ApicAffinity
x2apic_affinity domain id = record { domain = domain; x2apic_id = id; flags = 0; clock_domain = 0 }

abbrev pub x2apic_affinity_fields : ProcessorLocalX2ApicAffinity → List NamedField
x2apic_affinity_fields p =
    preset byte "Type" 2  -- 0
    ∷ preset byte "Length" 24  -- 1
    ∷ reserved 2  -- 2
    ∷ dword "Proximity Domain" p.domain  -- 4
    ∷ hex dword "X2APIC ID" p.x2apic_id  -- 8
    ∷ flags processor_bits dword "Flags" p.flags  -- 12
    ∷ dword "Clock Domain" p.clock_domain  -- 16
    ∷ reserved 4  -- 20
    ∷ []

abbrev pub x2apic_affinity_bytes : ProcessorLocalX2ApicAffinity → List ℕ
x2apic_affinity_bytes p = fields_joined (x2apic_affinity_fields p)

-- ---- GICC Affinity Structure (5.2.16.4)

abbrev pub gicc_affinity : ℕ → ℕ → GiccAffinity
gicc_affinity domain uid = record { domain = domain; processor_uid = uid; flags = 0; clock_domain = 0 }

abbrev pub gicc_affinity_fields : GiccAffinity → List NamedField
gicc_affinity_fields p =
    preset byte "Type" 3  -- 0
    ∷ preset byte "Length" 18  -- 1
    ∷ dword "Proximity Domain" p.domain  -- 2
    ∷ hex dword "ACPI Processor UID" p.processor_uid  -- 6
    ∷ flags processor_bits dword "Flags" p.flags  -- 10
    ∷ dword "Clock Domain" p.clock_domain  -- 14
    ∷ []

abbrev pub gicc_affinity_bytes : GiccAffinity → List ℕ
gicc_affinity_bytes p = fields_joined (gicc_affinity_fields p)

-- ---- GIC Interrupt Translation Service (ITS) Affinity Structure (5.2.16.5)

abbrev pub its_affinity : ℕ → ℕ → GicItsAffinity
its_affinity domain id = record { domain = domain; its_id = id }

abbrev pub its_affinity_fields : GicItsAffinity → List NamedField
its_affinity_fields s =
    preset byte "Type" 4  -- 0
    ∷ preset byte "Length" 12  -- 1
    ∷ dword "Proximity Domain" s.domain  -- 2
    ∷ reserved 2  -- 6
    ∷ hex dword "ITS ID" s.its_id  -- 8
    ∷ []

abbrev pub its_affinity_bytes : GicItsAffinity → List ℕ
its_affinity_bytes s = fields_joined (its_affinity_fields s)
