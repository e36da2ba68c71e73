-- Interrupts of x86 in MADT that come to another input, or can't be masked (ACPI 6.5, 5.2.12).
use Rattle.std.specs.Prelude.{ℕ, ◌+◌, ◌*◌, List, [], ◌∷◌}
use Rattle.acpi_base.specs.Fields.{NamedField, byte, word, dword, hex, preset, flags, one_of, reserved, fields_joined}
use Rattle.acpi_base.specs.Look.{Part, choice, means}
use Rattle.acpi_lists.specs.declared.madt.interrupts.Polarity.{Polarity}
use Rattle.acpi_lists.specs.declared.madt.interrupts.Polarity.TheVariants as polarities
use Rattle.acpi_lists.specs.declared.madt.interrupts.TriggerMode.{TriggerMode}
use Rattle.acpi_lists.specs.declared.madt.interrupts.TriggerMode.TheVariants as modes
use Rattle.acpi_lists.specs.declared.madt.interrupts.InterruptSourceOverride.{InterruptSourceOverride}
use Rattle.acpi_lists.specs.declared.madt.interrupts.NmiSource.{NmiSource}
use Rattle.acpi_lists.specs.declared.madt.interrupts.LocalApicNmi.{LocalApicNmi}
use Rattle.acpi_lists.specs.declared.madt.interrupts.LocalX2ApicNmi.{LocalX2ApicNmi}

-- ---- MPS INTI flags (5.2.12.5)

-- Polarity
abbrev pub polarity_number : Polarity → ℕ
polarity_number polarities.OfBus = 0
polarity_number polarities.ActiveHigh = 1
polarity_number polarities.ActiveLow = 3

-- Trigger Mode
abbrev pub trigger_mode_number : TriggerMode → ℕ
trigger_mode_number modes.OfBus = 0
trigger_mode_number modes.Edge = 1
trigger_mode_number modes.Level = 3

-- Polarity at bits 0 and 1, Trigger Mode at bits 2 and 3
abbrev pub inti_flags : Polarity → TriggerMode → ℕ
inti_flags polarity mode = polarity_number polarity + 4 * trigger_mode_number mode

-- ---- Interrupt Source Override (5.2.12.5)

-- the word of Bus
abbrev pub bus_words : List (ℕ × List ℕ)
bus_words =
    means 0 "ISA"
    ∷ []

-- MPS INTI flags: Polarity in bits 1:0, Trigger Mode in bits 3:2
abbrev pub inti_bits : List Part
inti_bits =
    choice 0x3 (means 0x0 "Conforms to Bus Polarity" ∷ means 0x1 "Active High" ∷ means 0x3 "Active Low" ∷ [])
    ∷ choice 0xc (means 0x0 "Conforms to Bus Trigger Mode" ∷ means 0x4 "Edge Triggered" ∷ means 0xc "Level Triggered" ∷ [])
    ∷ []

abbrev pub source_override_fields : InterruptSourceOverride → List NamedField
source_override_fields s =
    preset byte "Type" 0x02  -- 0
    ∷ preset byte "Length" 10  -- 1
    ∷ one_of bus_words byte "Bus" 0  -- 2: ISA
    ∷ byte "Source" s.source  -- 3
    ∷ dword "Global System Interrupt" s.global_system_interrupt  -- 4
    ∷ flags inti_bits word "Flags" (inti_flags s.polarity s.trigger_mode)  -- 8
    ∷ []

abbrev pub source_override_bytes : InterruptSourceOverride → List ℕ
source_override_bytes s = fields_joined (source_override_fields s)

abbrev pub source_override : ℕ → ℕ → InterruptSourceOverride
source_override source interrupt = record {
  source = source;
  global_system_interrupt = interrupt;
  polarity = polarities.OfBus;
  trigger_mode = modes.OfBus;
}

-- ---- Non-Maskable Interrupt Source (5.2.12.6)

abbrev pub nmi_source_fields : NmiSource → List NamedField
nmi_source_fields s =
    preset byte "Type" 0x03  -- 0
    ∷ preset byte "Length" 8  -- 1
    ∷ flags inti_bits word "Flags" (inti_flags s.polarity s.trigger_mode)  -- 2
    ∷ dword "Global System Interrupt" s.global_system_interrupt  -- 4
    ∷ []

abbrev pub nmi_source_bytes : NmiSource → List ℕ
nmi_source_bytes s = fields_joined (nmi_source_fields s)

abbrev pub nmi_source : ℕ → NmiSource
nmi_source interrupt = record {
  polarity = polarities.OfBus;
  trigger_mode = modes.OfBus;
  global_system_interrupt = interrupt;
}

-- ---- Local APIC NMI (5.2.12.7)

abbrev pub local_apic_nmi_fields : LocalApicNmi → List NamedField
local_apic_nmi_fields s =
    preset byte "Type" 0x04  -- 0
    ∷ preset byte "Length" 6  -- 1
    ∷ hex byte "ACPI Processor UID" s.processor_uid  -- 2
    ∷ flags inti_bits word "Flags" (inti_flags s.polarity s.trigger_mode)  -- 3
    ∷ byte "Local APIC LINT#" s.local_apic_lint  -- 5
    ∷ []

abbrev pub local_apic_nmi_bytes : LocalApicNmi → List ℕ
local_apic_nmi_bytes s = fields_joined (local_apic_nmi_fields s)

abbrev pub local_apic_nmi : ℕ → ℕ → LocalApicNmi
local_apic_nmi uid lint = record {
  processor_uid = uid;
  polarity = polarities.OfBus;
  trigger_mode = modes.OfBus;
  local_apic_lint = lint;
}

-- ---- Local x2APIC NMI (5.2.12.13)

abbrev pub local_x2apic_nmi_fields : LocalX2ApicNmi → List NamedField
local_x2apic_nmi_fields s =
    preset byte "Type" 0x0a  -- 0
    ∷ preset byte "Length" 12  -- 1
    ∷ flags inti_bits word "Flags" (inti_flags s.polarity s.trigger_mode)  -- 2
    ∷ hex dword "ACPI Processor UID" s.processor_uid  -- 4
    ∷ byte "Local x2APIC LINT#" s.local_x2apic_lint  -- 8
    ∷ reserved 3  -- 9
    ∷ []

abbrev pub local_x2apic_nmi_bytes : LocalX2ApicNmi → List ℕ
local_x2apic_nmi_bytes s = fields_joined (local_x2apic_nmi_fields s)

abbrev pub local_x2apic_nmi : ℕ → ℕ → LocalX2ApicNmi
local_x2apic_nmi uid lint = record {
  polarity = polarities.OfBus;
  trigger_mode = modes.OfBus;
  processor_uid = uid;
  local_x2apic_lint = lint;
}
