-- The Debug Port Table 2 (Microsoft, revision 0).
use Rattle.std.specs.Prelude.{◌≡◌, ℕ, ◌+◌, List, [], ◌∷◌, ◌++◌, length, codes, Option, Some, None}
use Rattle.std.specs.Prelude.{String, string_bytes}
use Rattle.std.specs.declared.alloc.Global.{Global}
use Rattle.acpi_base.specs.Bytes.{le}
use Rattle.acpi_base.specs.Fields.{NamedField, byte, word, hex, preset, one_of, reserved, fields_joined}
use Rattle.acpi_base.specs.Look.{means}
use Rattle.acpi_base.specs.Gas.{gas_bytes}
use Rattle.acpi_base.specs.Walk.{ArePieces}
use Rattle.acpi_base.specs.FurtherWalk.{dbg2_walk}
use Rattle.acpi_base.specs.declared.gas.GAS.{GAS}
use Rattle.acpi_base.specs.declared.oem.Oem.{Oem}
use Rattle.acpi_core.specs.Listing.{Listing, IsListing, length_limit}
use Rattle.acpi_fixed.specs.Spcr.{interface_number}
use Rattle.acpi_arm.specs.Offsets.{offset_if}
use Rattle.acpi_arm.specs.declared.dbg2.DebugPort.{DebugPort}
use Rattle.acpi_arm.specs.declared.dbg2.DebugPort.TheVariants.{Serial, Ieee1394, UsbXhci, UsbEhci, Net}

-- a table without devices
abbrev pub dbg2 : Oem → Listing
dbg2 oem = record {
  signature = codes "DBG2";
  revision = 0;
  oem = oem;
  before = le 4 44;  -- 36: OffsetDbgDeviceInfo
  count_width = 4;  -- 40: NumberDbgDeviceInfo
  after = [];
  limit = length_limit;
  structures = [];
}

-- What every table keeps: it is `dbg2` with the devices that were added. The offset of the first device stands before their
-- number.
pub record KeepsDevices (t : Listing) : Type 0 where
  pub is : IsListing t
  pub fixed : record t { structures = [] } ≡ dbg2 t.oem
  pub pieces : ArePieces dbg2_walk.sizes t.structures

-- ---- ports

abbrev pub port_type : DebugPort → ℕ
port_type (Serial interface) = 0x8000
port_type Ieee1394 = 0x8001
port_type UsbXhci = 0x8002
port_type UsbEhci = 0x8002
port_type (Net vendor) = 0x8003

abbrev pub port_subtype : DebugPort → ℕ
port_subtype (Serial interface) = interface_number interface
port_subtype Ieee1394 = 0
port_subtype UsbXhci = 0
port_subtype UsbEhci = 1
port_subtype (Net vendor) = vendor

-- ---- Debug Device Information structure

-- A device: its port, the number of its registers, the bytes of their addresses and of their sizes, the bytes of its name, and
-- the OEM data.
pub record Device : Type 0 where
  pub port : DebugPort
  pub count : ℕ
  pub addresses : List ℕ
  pub sizes : List ℕ
  pub name : List ℕ
  pub oem_data : List ℕ

-- the name in the namespace; a period is no device
abbrev pub name_of : Option (String Global) → List ℕ
name_of None = codes "."
name_of (Some name) = string_bytes name

abbrev pub debug_device : DebugPort → Device
debug_device port = record { port = port; count = 0; addresses = []; sizes = []; name = codes "."; oem_data = [] }

-- the device with one more register, and the number of bytes from it on
abbrev pub with_register : Device → GAS → ℕ → Device
with_register d address size = record d {
  count = d.count + 1;
  addresses = d.addresses ++ gas_bytes address;
  sizes = d.sizes ++ le 4 size;
}

-- where the lists of a device begin: after its fields come the addresses, the sizes, the name with a zero, and the OEM data
abbrev pub sizes_at : Device → ℕ
sizes_at d = 22 + length d.addresses

abbrev pub name_at : Device → ℕ
name_at d = sizes_at d + length d.sizes

abbrev pub oem_data_at : Device → ℕ
oem_data_at d = name_at d + (length d.name + 1)

abbrev pub device_size : Device → ℕ
device_size d = oem_data_at d + length d.oem_data

-- the words of Port Type
abbrev pub port_words : List (ℕ × List ℕ)
port_words =
    means 0x8000 "Serial"
    ∷ means 0x8001 "1394"
    ∷ means 0x8002 "USB"
    ∷ means 0x8003 "Net"
    ∷ []

abbrev pub device_head_fields : Device → List NamedField
device_head_fields d =
    preset byte "Revision" 0  -- 0
    ∷ word "Length" (device_size d)  -- 1
    ∷ byte "NumberofGenericAddressRegisters" d.count  -- 3
    ∷ word "NamespaceStringLength" (length d.name + 1)  -- 4
    ∷ word "NamespaceStringOffset" (name_at d)  -- 6
    ∷ word "OemDataLength" (length d.oem_data)  -- 8
    ∷ word "OemDataOffset" (offset_if (length d.oem_data) (oem_data_at d))  -- 10
    ∷ one_of port_words word "Port Type" (port_type d.port)  -- 12
    ∷ hex word "Port Subtype" (port_subtype d.port)  -- 14
    ∷ reserved 2  -- 16
    ∷ preset word "BaseAddressRegisterOffset" 22  -- 18
    ∷ word "AddressSizeOffset" (sizes_at d)  -- 20
    ∷ []

abbrev pub device_head : Device → List ℕ
device_head d = fields_joined (device_head_fields d)

abbrev pub device_bytes : Device → List ℕ
device_bytes d =
    device_head d
    ++ (d.addresses  -- 22: BaseAddressRegister
    ++ (d.sizes  -- AddressSize
    ++ (d.name  -- NamespaceString
    ++ (0 ∷ d.oem_data))))  -- OemData
