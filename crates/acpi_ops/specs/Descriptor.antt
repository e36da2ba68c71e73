-- Resource descriptors (ACPI 6.5, 6.4). Each line has a field with its name in the standard.
use Rattle.std.specs.Prelude.{ℕ, ◌+◌, Bool, if◌then◌else◌, List, [], ◌∷◌}
use Rattle.acpi_base.specs.Fields.{NamedField, byte, word, dword, qword, hex, preset, flags, one_of, fields_joined}
use Rattle.acpi_base.specs.Look.{Part, choice, means}
use Rattle.acpi_base.specs.Gas.{space_number, size_number, address_spaces, access_sizes}
use Rattle.acpi_base.specs.declared.gas.GAS.{GAS}
use Rattle.acpi_ops.specs.declared.descriptor.InterruptFlags.{InterruptFlags}

-- a bit of a field of flags, or 0
abbrev pub bit : Bool → ℕ → ℕ
bit set value = if set then value else 0

-- Information: Write Status
abbrev pub write_bits : List Part
write_bits =
    choice 0x1 (means 0x0 "Read-only" ∷ means 0x1 "Read-write" ∷ [])
    ∷ []

-- 32-Bit Fixed Memory Range Descriptor (6.4.3.4)
abbrev pub fixed_fields : Bool → ℕ → ℕ → List NamedField
fixed_fields read_write base size =
    preset byte "32-Bit Fixed Memory Range Descriptor" 0x86  -- 0
    ∷ preset word "Length" 9  -- 1
    ∷ flags write_bits byte "Information" (bit read_write 1)  -- 3: Write Status
    ∷ hex dword "Range Base Address" base  -- 4
    ∷ dword "Range Length" size  -- 8
    ∷ []

abbrev pub fixed_bytes : Bool → ℕ → ℕ → List ℕ
fixed_bytes read_write base size = fields_joined (fixed_fields read_write base size)

-- Information: Decode
abbrev pub decode_bits : List Part
decode_bits =
    choice 0x1 (means 0x0 "Decode 10" ∷ means 0x1 "Decode 16" ∷ [])
    ∷ []

-- I/O Port Descriptor (6.4.2.5)
abbrev pub port_fields : ℕ → ℕ → ℕ → ℕ → ℕ → List NamedField
port_fields decode min max alignment size =
    preset byte "I/O Port Descriptor" 0x47  -- 0
    ∷ flags decode_bits byte "Information" decode  -- 1
    ∷ hex word "Range Minimum Base Address" min  -- 2
    ∷ hex word "Range Maximum Base Address" max  -- 4
    ∷ byte "Base Alignment" alignment  -- 6
    ∷ byte "Range Length" size  -- 7
    ∷ []

-- with 16-bit decoding
abbrev pub port_bytes : ℕ → ℕ → ℕ → ℕ → List ℕ
port_bytes min max alignment size = fields_joined (port_fields 1 min max alignment size)

-- with 10-bit decoding
abbrev pub port_10_bytes : ℕ → ℕ → ℕ → ℕ → List ℕ
port_10_bytes min max alignment size = fields_joined (port_fields 0 min max alignment size)

-- Interrupt Vector Flags: Consumer, Mode, Polarity, Sharing
abbrev pub interrupt_flags : Bool → Bool → Bool → Bool → ℕ
interrupt_flags consumer edge_triggered active_low shared =
    bit consumer 1 + bit edge_triggered 2 + bit active_low 4 + bit shared 8

-- the same, and Wake Capability
abbrev pub vector_flags : InterruptFlags → ℕ
vector_flags f = interrupt_flags f.consumer f.edge_triggered f.active_low f.shared + bit f.wake 16

-- Interrupt Vector Flags: Consumer, Mode, Polarity and Sharing
abbrev pub vector_bits : List Part
vector_bits =
    choice 0x01 (means 0x00 "Producer" ∷ means 0x01 "Consumer" ∷ [])
    ∷ choice 0x02 (means 0x00 "Level Triggered" ∷ means 0x02 "Edge Triggered" ∷ [])
    ∷ choice 0x04 (means 0x00 "Active High" ∷ means 0x04 "Active Low" ∷ [])
    ∷ choice 0x18 (
    means 0x00 "Exclusive"
    ∷ means 0x08 "Shared"
    ∷ means 0x10 "Exclusive and Wake"
    ∷ means 0x18 "Shared and Wake"
    ∷ [])
    ∷ []

-- Extended Interrupt Descriptor (6.4.3.6) of one interrupt
abbrev pub interrupt_fields : ℕ → ℕ → List NamedField
interrupt_fields vector_flags number =
    preset byte "Extended Interrupt Descriptor" 0x89  -- 0
    ∷ preset word "Length" 6  -- 1
    ∷ flags vector_bits byte "Interrupt Vector Flags" vector_flags  -- 3
    ∷ preset byte "Interrupt Table Length" 1  -- 4
    ∷ dword "Interrupt Number" number  -- 5
    ∷ []

abbrev pub interrupt_bytes : ℕ → ℕ → List ℕ
interrupt_bytes flags number = fields_joined (interrupt_fields flags number)

-- Generic Register Descriptor (6.4.3.7)
abbrev pub register_fields : GAS → List NamedField
register_fields gas =
    preset byte "Generic Register Descriptor" 0x82  -- 0
    ∷ preset word "Length" 12  -- 1
    ∷ one_of address_spaces byte "Address Space ID" (space_number gas.address_space_id)  -- 3
    ∷ byte "Register Bit Width" gas.register_bit_width  -- 4
    ∷ byte "Register Bit Offset" gas.register_bit_offset  -- 5
    ∷ one_of access_sizes byte "Access Size" (size_number gas.access_size)  -- 6
    ∷ hex qword "Register Address" gas.address  -- 7
    ∷ []

abbrev pub register_bytes : GAS → List ℕ
register_bytes gas = fields_joined (register_fields gas)
