-- Addresses of registers (ACPI 6.5, 5.2.3.2, Generic Address Structure).
use Rattle.std.specs.Prelude.{ℕ, ◌+◌, ◌*◌, ◌^◌, List, [], ◌∷◌}
use Prim.Native.String.{String}
use Rattle.acpi_base.specs.Fields.{NamedField, byte, qword, hex, one_of, bytes, fields_joined}
use Rattle.acpi_base.specs.Look.{means}
use Rattle.acpi_base.specs.Look as looks
use Rattle.acpi_base.specs.declared.gas.GAS.{GAS}
use Rattle.acpi_base.specs.declared.gas.AddressSpace.{AddressSpace}
use Rattle.acpi_base.specs.declared.gas.AddressSpace.TheVariants as spaces
use Rattle.acpi_base.specs.declared.gas.AccessSize.{AccessSize}
use Rattle.acpi_base.specs.declared.gas.AccessSize.TheVariants as sizes

-- Address Space ID
abbrev pub space_number : AddressSpace → ℕ
space_number spaces.SystemMemory = 0x00
space_number spaces.SystemIo = 0x01
space_number spaces.PciConfigSpace = 0x02
space_number spaces.EmbeddedController = 0x03
space_number spaces.Smbus = 0x04
space_number spaces.SystemCmos = 0x05
space_number spaces.PciBarTarget = 0x06
space_number spaces.Ipmi = 0x07
space_number spaces.GeneralPursposeIo = 0x08
space_number spaces.GenericSerialBus = 0x09
space_number spaces.PlatformCommunicationsChannel = 0x0a
space_number spaces.PlatformRuntimeMechanism = 0x0b
space_number spaces.FunctionalFixedHardware = 0x7f

-- Access Size
abbrev pub size_number : AccessSize → ℕ
size_number sizes.Undefined = 0
size_number sizes.ByteAccess = 1
size_number sizes.WordAccess = 2
size_number sizes.DwordAccess = 3
size_number sizes.QwordAccess = 4

-- the words of address spaces, as ASL has them (ACPI 6.5, 19.6.114, Register)
abbrev pub address_spaces : List (ℕ × List ℕ)
address_spaces =
    means 0x00 "SystemMemory"
    ∷ means 0x01 "SystemIO"
    ∷ means 0x02 "PCI_Config"
    ∷ means 0x03 "EmbeddedControl"
    ∷ means 0x04 "SMBus"
    ∷ means 0x05 "SystemCMOS"
    ∷ means 0x06 "PciBarTarget"
    ∷ means 0x07 "IPMI"
    ∷ means 0x08 "GeneralPurposeIO"
    ∷ means 0x09 "GenericSerialBus"
    ∷ means 0x0a "PCC"
    ∷ means 0x0b "PlatformRtMechanism"
    ∷ means 0x7f "FFixedHW"
    ∷ []

-- the words of access sizes
abbrev pub access_sizes : List (ℕ × List ℕ)
access_sizes =
    means 0 "Undefined"
    ∷ means 1 "Byte Access"
    ∷ means 2 "Word Access"
    ∷ means 3 "DWord Access"
    ∷ means 4 "QWord Access"
    ∷ []

abbrev pub gas_fields : GAS → List NamedField
gas_fields g =
    one_of address_spaces byte "Address Space ID" (space_number g.address_space_id)  -- 0
    ∷ byte "Register Bit Width" g.register_bit_width  -- 1
    ∷ byte "Register Bit Offset" g.register_bit_offset  -- 2
    ∷ one_of access_sizes byte "Access Size" (size_number g.access_size)  -- 3
    ∷ hex qword "Address" g.address  -- 4
    ∷ []

abbrev pub gas_bytes : GAS → List ℕ
gas_bytes g = fields_joined (gas_fields g)

-- a field that is the address of a register
abbrev pub register : String → GAS → NamedField
register name value = record (bytes name 12 (gas_bytes value)) { look = looks.register }

-- a register of this many bits at an address
abbrev pub gas : AddressSpace → ℕ → ℕ → AccessSize → ℕ → GAS
gas space bit_width bit_offset size address = record {
  address_space_id = space;
  register_bit_width = bit_width;
  register_bit_offset = bit_offset;
  access_size = size;
  address = address;
}

-- A register in the configuration space of a PCI function of segment 0 and bus 0. The address has the device's number at bit 32,
-- the function's at bit 16, and the register's offset in its low bits.
abbrev pub pci_config_gas : ℕ → AccessSize → ℕ → ℕ → ℕ → GAS
pci_config_gas bit_width size device function register =
    gas spaces.PciConfigSpace bit_width 0 size (device * 2 ^ 32 + function * 2 ^ 16 + register)

-- a register address in which every field is zero
abbrev pub no_register : GAS
no_register = gas spaces.SystemMemory 0 0 sizes.Undefined 0
