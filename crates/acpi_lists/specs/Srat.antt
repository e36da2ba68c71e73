-- The System Resource Affinity Table (ACPI 6.5, 5.2.16).
use Rattle.std.specs.Prelude.{◌≢◌, ℕ, ◌+◌, ◌*◌, ◌&&◌, nat_lt, Bool, true, List, [], ◌∷◌, ◌++◌, codes, Some}
use Rattle.acpi_base.specs.declared.error.Error.TheVariants.{Memory, PciAddress}
use Rattle.acpi_base.specs.Bytes.{le, zeros}
use Rattle.acpi_base.specs.Fields.{NamedField, byte, word, dword, qword, hex, preset, flags}
use Rattle.acpi_base.specs.Fields.{one_of, bytes, text, hex_of, reserved, fields_joined}
use Rattle.acpi_base.specs.Look.{Part, flag, part, means}
use Rattle.acpi_base.specs.Object.{Object, whole, provided, provided_ends_well}
use Rattle.acpi_base.specs.declared.oem.Oem.{Oem}
use Rattle.acpi_core.specs.Listing.{Listing, length_limit}
use Rattle.acpi_lists.specs.declared.srat.Handle.{Handle}
use Rattle.acpi_lists.specs.declared.srat.Handle.TheVariants.{Acpi, Pci}
use Rattle.acpi_lists.specs.declared.srat.MemoryAffinity.{MemoryAffinity}
use Rattle.acpi_lists.specs.declared.srat.GenericInitiator.{GenericInitiator}
use Rattle.acpi_lists.specs.declared.srat.RintcAffinity.{RintcAffinity}

-- a table of a revision without structures
abbrev pub srat_of : ℕ → Oem → Listing
srat_of revision oem = record {
  signature = codes "SRAT";
  revision = revision;
  oem = oem;
  before = le 4 1 ++ zeros 8;  -- 36: always 1; 40: reserved
  count_width = 0;
  after = [];
  limit = length_limit;
  structures = [];
}

-- that of the revision of `new`
abbrev pub srat : Oem → Listing
srat oem = srat_of 1 oem

-- ---- Memory Affinity Structure (5.2.16.2)

abbrev pub memory_affinity : ℕ → ℕ → ℕ → MemoryAffinity
memory_affinity domain base size = record { domain = domain; base = base; size = size; flags = 0 }

-- Flags of a range of memory
abbrev pub memory_bits : List Part
memory_bits =
    flag 0x1 "Enabled"
    ∷ flag 0x2 "Hot Pluggable"
    ∷ flag 0x4 "NonVolatile"
    ∷ []

abbrev pub memory_affinity_fields : MemoryAffinity → List NamedField
memory_affinity_fields m =
    preset byte "Type" 1  -- 0
    ∷ preset byte "Length" 40  -- 1
    ∷ dword "Proximity Domain" m.domain  -- 2
    ∷ reserved 2  -- 6
    ∷ hex qword "Base Address" m.base  -- 8
    ∷ qword "Length" m.size  -- 16
    ∷ reserved 4  -- 24
    ∷ flags memory_bits dword "Flags" m.flags  -- 28
    ∷ reserved 8  -- 32
    ∷ []

abbrev pub memory_affinity_bytes : MemoryAffinity → List ℕ
memory_affinity_bytes m = fields_joined (memory_affinity_fields m)

-- ---- Generic Initiator Affinity Structure (5.2.16.6)

-- ACPI and PCI device handles: 16 bytes
abbrev pub acpi_handle_fields : List ℕ → List ℕ → List NamedField
acpi_handle_fields hid uid =
    text "ACPI _HID" 8 hid  -- 0
    ∷ hex_of "ACPI _UID" 4 uid  -- 8
    ∷ reserved 4  -- 12
    ∷ []

-- PCI Device and Function Number: the device in bits 7:3, the function in bits 2:0
abbrev pub device_function_bits : List Part
device_function_bits =
    part 0xf8 0x08 "Device"
    ∷ part 0x07 0x01 "Function"
    ∷ []

abbrev pub pci_handle_fields : ℕ → ℕ → ℕ → ℕ → List NamedField
pci_handle_fields segment bus device function =
    word "PCI Segment" segment  -- 0
    ∷ byte "PCI Bus Number" bus  -- 2
    ∷ flags device_function_bits byte "PCI Device and Function Number" (device * 8 + function)  -- 3
    ∷ reserved 12  -- 4
    ∷ []

abbrev pub handle_bytes : Handle → List ℕ
handle_bytes (Acpi hid uid) = fields_joined (acpi_handle_fields hid uid)
handle_bytes (Pci segment bus device function) = fields_joined (pci_handle_fields segment bus device function)

-- Device Handle Type
abbrev pub handle_type : Handle → ℕ
handle_type (Acpi hid uid) = 0
handle_type (Pci segment bus device function) = 1

-- the device is below 32 and the function below 8
abbrev pub is_address : Handle → Bool
is_address (Acpi hid uid) = true
is_address (Pci segment bus device function) = nat_lt device 32 && nat_lt function 8

abbrev pub handle_object : Handle → Object
handle_object h = provided (is_address h) PciAddress (whole (handle_bytes h))

pub handle_ends_well : (h : Handle) → (handle_object h).end ≢ Some Memory
handle_ends_well h = provided_ends_well (is_address h) PciAddress (handle_bytes h) (λ is. cc)

abbrev pub generic_initiator : ℕ → Handle → GenericInitiator
generic_initiator domain handle = record { domain = domain; handle = handle; flags = 0 }

-- the words of Device Handle Type
abbrev pub handle_type_words : List (ℕ × List ℕ)
handle_type_words =
    means 0 "ACPI"
    ∷ means 1 "PCI"
    ∷ []

-- Flags of an initiator
abbrev pub initiator_bits : List Part
initiator_bits =
    flag 0x1 "Enabled"
    ∷ flag 0x2 "Architectural Transactions"
    ∷ []

abbrev pub generic_initiator_fields : GenericInitiator → List NamedField
generic_initiator_fields g =
    preset byte "Type" 5  -- 0
    ∷ preset byte "Length" 32  -- 1
    ∷ reserved 1  -- 2
    ∷ one_of handle_type_words byte "Device Handle Type" (handle_type g.handle)  -- 3
    ∷ dword "Proximity Domain" g.domain  -- 4
    ∷ bytes "Device Handle" 16 (handle_bytes g.handle)  -- 8
    ∷ flags initiator_bits dword "Flags" g.flags  -- 24
    ∷ reserved 4  -- 28
    ∷ []

abbrev pub generic_initiator_bytes : GenericInitiator → List ℕ
generic_initiator_bytes g = fields_joined (generic_initiator_fields g)

abbrev pub generic_initiator_object : GenericInitiator → Object
generic_initiator_object g = provided (is_address g.handle) PciAddress (whole (generic_initiator_bytes g))

pub generic_initiator_ends_well : (g : GenericInitiator) → (generic_initiator_object g).end ≢ Some Memory
generic_initiator_ends_well g = provided_ends_well (is_address g.handle) PciAddress (generic_initiator_bytes g) (λ is. cc)

-- ---- RINTC Affinity Structure (this project's profile)

abbrev pub rintc_affinity : List ℕ → ℕ → RintcAffinity
rintc_affinity uid clock_domain = record { domain = 0; uid = uid; flags = 0; clock_domain = clock_domain }

-- Flags of a hart
abbrev pub rintc_bits : List Part
rintc_bits =
    flag 0x1 "Enabled"
    ∷ []

abbrev pub rintc_affinity_fields : RintcAffinity → List NamedField
rintc_affinity_fields r =
    preset byte "Type" 7  -- 0
    ∷ preset byte "Length" 20  -- 1
    ∷ reserved 2  -- 2
    ∷ dword "Proximity Domain" r.domain  -- 4
    ∷ hex_of "ACPI Processor UID" 4 r.uid  -- 8
    ∷ flags rintc_bits dword "Flags" r.flags  -- 12
    ∷ dword "Clock Domain" r.clock_domain  -- 16
    ∷ []

abbrev pub rintc_affinity_bytes : RintcAffinity → List ℕ
rintc_affinity_bytes r = fields_joined (rintc_affinity_fields r)
