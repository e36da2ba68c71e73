-- Small resource descriptors (ACPI 6.5, 6.4.2). Each line has a field with its name in the standard.
use Rattle.std.specs.Prelude.{ℕ, ◌+◌, ◌*◌, Bool, List, [], ◌∷◌}
use Rattle.acpi_base.specs.Fields.{NamedField, byte, word, hex, preset, flags, one_of, fields_joined}
use Rattle.acpi_base.specs.Look.{Part, choice, flag, means}
use Rattle.acpi_ops.specs.Descriptor.{bit}
use Rattle.acpi_ops.specs.declared.small.DmaSpeed.{DmaSpeed}
use Rattle.acpi_ops.specs.declared.small.DmaSpeed.TheVariants as speeds
use Rattle.acpi_ops.specs.declared.small.DmaTransfer.{DmaTransfer}
use Rattle.acpi_ops.specs.declared.small.DmaTransfer.TheVariants as transfers
use Rattle.acpi_ops.specs.declared.small.DmaWidth.{DmaWidth}
use Rattle.acpi_ops.specs.declared.small.DmaWidth.TheVariants as widths
use Rattle.acpi_ops.specs.declared.small.Priority.{Priority}
use Rattle.acpi_ops.specs.declared.small.Priority.TheVariants as priorities

-- ---- interrupts of the 8259 controllers

-- IRQ Information: Interrupt Mode, Interrupt Polarity, Interrupt Sharing and Wake Capability
abbrev pub irq_flags : Bool → Bool → Bool → Bool → ℕ
irq_flags edge_triggered active_low shared wake = bit edge_triggered 0x01 + bit active_low 0x08 + bit shared 0x10 + bit wake 0x20

abbrev pub irq_bits : List Part
irq_bits =
    choice 0x01 (means 0x00 "Level Triggered" ∷ means 0x01 "Edge Triggered" ∷ [])
    ∷ choice 0x08 (means 0x00 "Active High" ∷ means 0x08 "Active Low" ∷ [])
    ∷ choice 0x30 (
    means 0x00 "Exclusive"
    ∷ means 0x10 "Shared"
    ∷ means 0x20 "Exclusive and Wake"
    ∷ means 0x30 "Shared and Wake"
    ∷ [])
    ∷ []

-- IRQ Descriptor (6.4.2.1) of three bytes after its tag
abbrev pub irq_fields : ℕ → ℕ → List NamedField
irq_fields mask information =
    preset byte "IRQ Descriptor" 0x23  -- 0
    ∷ hex word "IRQ Mask" mask  -- 1: bit n for interrupt n
    ∷ flags irq_bits byte "IRQ Information" information  -- 3
    ∷ []

abbrev pub irq_bytes : ℕ → ℕ → List ℕ
irq_bytes mask information = fields_joined (irq_fields mask information)

-- IRQ Descriptor (6.4.2.1) of two bytes after its tag
abbrev pub irq_no_flags_fields : ℕ → List NamedField
irq_no_flags_fields mask =
    preset byte "IRQ Descriptor" 0x22  -- 0
    ∷ hex word "IRQ Mask" mask  -- 1: bit n for interrupt n
    ∷ []

abbrev pub irq_no_flags_bytes : ℕ → List ℕ
irq_no_flags_bytes mask = fields_joined (irq_no_flags_fields mask)

-- ---- channels of the 8237 controllers

-- DMA channel speed supported, at bit 5
abbrev pub speed_number : DmaSpeed → ℕ
speed_number speeds.Compatibility = 0
speed_number speeds.TypeA = 1
speed_number speeds.TypeB = 2
speed_number speeds.TypeF = 3

-- DMA transfer type preference, at bit 0
abbrev pub transfer_number : DmaTransfer → ℕ
transfer_number transfers.Transfer8 = 0
transfer_number transfers.Transfer8And16 = 1
transfer_number transfers.Transfer16 = 2

-- Information: transfer type preference, bus master status and channel speed
abbrev pub dma_flags : DmaSpeed → Bool → DmaTransfer → ℕ
dma_flags speed bus_master transfer = transfer_number transfer + bit bus_master 0x04 + 0x20 * speed_number speed

abbrev pub dma_bits : List Part
dma_bits =
    choice 0x03 (means 0x00 "8-bit" ∷ means 0x01 "8- and 16-bit" ∷ means 0x02 "16-bit" ∷ [])
    ∷ flag 0x04 "Bus Master"
    ∷ choice 0x60 (means 0x00 "Compatibility" ∷ means 0x20 "Type A" ∷ means 0x40 "Type B" ∷ means 0x60 "Type F" ∷ [])
    ∷ []

-- DMA Descriptor (6.4.2.2)
abbrev pub dma_fields : ℕ → ℕ → List NamedField
dma_fields channels information =
    preset byte "DMA Descriptor" 0x2a  -- 0
    ∷ hex byte "DMA Channel Mask" channels  -- 1: bit n for channel n
    ∷ flags dma_bits byte "Information" information  -- 2
    ∷ []

abbrev pub dma_bytes : ℕ → ℕ → List ℕ
dma_bytes channels information = fields_joined (dma_fields channels information)

-- ---- alternatives

-- a priority of a configuration
abbrev pub priority_number : Priority → ℕ
priority_number priorities.Good = 0
priority_number priorities.Acceptable = 1
priority_number priorities.SubOptimal = 2

-- Priority: Compatibility priority and Performance/robustness
abbrev pub priority_flags : Priority → Priority → ℕ
priority_flags compatibility performance = priority_number compatibility + 4 * priority_number performance

abbrev pub priority_bits : List Part
priority_bits =
    choice 0x03 (
    means 0x00 "Good Compatibility"
    ∷ means 0x01 "Acceptable Compatibility"
    ∷ means 0x02 "Sub-optimal Compatibility"
    ∷ [])
    ∷ choice 0x0c (
    means 0x00 "Good Performance"
    ∷ means 0x04 "Acceptable Performance"
    ∷ means 0x08 "Sub-optimal Performance"
    ∷ [])
    ∷ []

-- Start Dependent Functions Descriptor (6.4.2.3) with a priority
abbrev pub start_dependent_fields : ℕ → List NamedField
start_dependent_fields priority =
    preset byte "Start Dependent Functions Descriptor" 0x31  -- 0
    ∷ flags priority_bits byte "Priority" priority  -- 1
    ∷ []

abbrev pub start_dependent_bytes : ℕ → List ℕ
start_dependent_bytes priority = fields_joined (start_dependent_fields priority)

-- Start Dependent Functions Descriptor (6.4.2.3) without a priority
abbrev pub start_dependent_no_priority_fields : List NamedField
start_dependent_no_priority_fields =
    preset byte "Start Dependent Functions Descriptor" 0x30  -- 0
    ∷ []

abbrev pub start_dependent_no_priority_bytes : List ℕ
start_dependent_no_priority_bytes = fields_joined start_dependent_no_priority_fields

-- End Dependent Functions Descriptor (6.4.2.4)
abbrev pub end_dependent_fields : List NamedField
end_dependent_fields =
    preset byte "End Dependent Functions Descriptor" 0x38  -- 0
    ∷ []

abbrev pub end_dependent_bytes : List ℕ
end_dependent_bytes = fields_joined end_dependent_fields

-- ---- fixed locations

-- Fixed Location I/O Port Descriptor (6.4.2.6)
abbrev pub fixed_port_fields : ℕ → ℕ → List NamedField
fixed_port_fields base size =
    preset byte "Fixed Location I/O Port Descriptor" 0x4b  -- 0
    ∷ hex word "Range Base Address" base  -- 1
    ∷ byte "Range Length" size  -- 3
    ∷ []

abbrev pub fixed_port_bytes : ℕ → ℕ → List ℕ
fixed_port_bytes base size = fields_joined (fixed_port_fields base size)

-- DMA Transfer Width
abbrev pub width_number : DmaWidth → ℕ
width_number widths.Width8 = 0
width_number widths.Width16 = 1
width_number widths.Width32 = 2
width_number widths.Width64 = 3
width_number widths.Width128 = 4
width_number widths.Width256 = 5

abbrev pub dma_widths : List (ℕ × List ℕ)
dma_widths =
    means 0 "8-bit"
    ∷ means 1 "16-bit"
    ∷ means 2 "32-bit"
    ∷ means 3 "64-bit"
    ∷ means 4 "128-bit"
    ∷ means 5 "256-bit"
    ∷ []

-- Fixed DMA Descriptor (6.4.2.7)
abbrev pub fixed_dma_fields : ℕ → ℕ → DmaWidth → List NamedField
fixed_dma_fields request_line channel width =
    preset byte "Fixed DMA Descriptor" 0x55  -- 0
    ∷ word "DMA Request Line" request_line  -- 1
    ∷ word "DMA Channel" channel  -- 3
    ∷ one_of dma_widths byte "DMA Transfer Width" (width_number width)  -- 5
    ∷ []

abbrev pub fixed_dma_bytes : ℕ → ℕ → DmaWidth → List ℕ
fixed_dma_bytes request_line channel width = fields_joined (fixed_dma_fields request_line channel width)
