-- The NVDIMM Firmware Interface Table (ACPI 6.5, 5.2.26).
use Rattle.std.specs.Prelude.{ℕ, List, [], ◌∷◌, codes, take, Option, Some, None}
use Rattle.acpi_base.specs.Bytes.{zeros}
use Rattle.acpi_base.specs.Fields.{NamedField, byte, word, dword, qword, hex, preset, flags, uuid, reserved, fields_joined}
use Rattle.acpi_base.specs.Look.{Part, flag}
use Rattle.acpi_base.specs.declared.oem.Oem.{Oem}
use Rattle.acpi_core.specs.Listing.{Listing, length_limit}
use Rattle.acpi_pc.specs.declared.nfit.ranges.RangeType.{RangeType}
use Rattle.acpi_pc.specs.declared.nfit.ranges.RangeType.TheVariants as types
use Rattle.acpi_pc.specs.declared.nfit.ranges.SpaRange.{SpaRange}
use Rattle.acpi_pc.specs.declared.nfit.regions.BlockWindows.{BlockWindows}
use Rattle.acpi_pc.specs.declared.nfit.regions.ControlRegion.{ControlRegion}
use Rattle.acpi_pc.specs.declared.nfit.regions.DataWindow.{DataWindow}
use Rattle.acpi_pc.specs.declared.nfit.regions.RegionMapping.{RegionMapping}

-- the fields between the header and the first structure
abbrev pub nfit_fields : List NamedField
nfit_fields = reserved 4 ∷ []  -- 36

-- a table without structures
abbrev pub nfit : Oem → Listing
nfit oem = record {
  signature = codes "NFIT";
  revision = 1;
  oem = oem;
  before = fields_joined nfit_fields;
  count_width = 0;
  after = [];
  limit = length_limit;
  structures = [];
}

-- ---- System Physical Address Range Structure (5.2.26.2)

-- Address Range Type GUID: the first three parts have their lowest byte first
abbrev pub range_guid : RangeType → List ℕ
range_guid types.Volatile =  -- 7305944f-fdda-44e3-b16c-3f22d252e5d0
    0x4f ∷ 0x94 ∷ 0x05 ∷ 0x73 ∷ 0xda ∷ 0xfd ∷ 0xe3 ∷ 0x44 ∷ 0xb1 ∷ 0x6c ∷ 0x3f ∷ 0x22 ∷ 0xd2 ∷ 0x52 ∷ 0xe5 ∷ 0xd0 ∷ []
range_guid types.Persistent =  -- 66f0d379-b4f3-4074-ac43-0d3318b78cdb
    0x79 ∷ 0xd3 ∷ 0xf0 ∷ 0x66 ∷ 0xf3 ∷ 0xb4 ∷ 0x74 ∷ 0x40 ∷ 0xac ∷ 0x43 ∷ 0x0d ∷ 0x33 ∷ 0x18 ∷ 0xb7 ∷ 0x8c ∷ 0xdb ∷ []
range_guid types.ControlRegion =  -- 92f701f6-13b4-405d-910b-299367e8234c
    0xf6 ∷ 0x01 ∷ 0xf7 ∷ 0x92 ∷ 0xb4 ∷ 0x13 ∷ 0x5d ∷ 0x40 ∷ 0x91 ∷ 0x0b ∷ 0x29 ∷ 0x93 ∷ 0x67 ∷ 0xe8 ∷ 0x23 ∷ 0x4c ∷ []
range_guid types.DataWindow =  -- 91af0530-5d86-470e-a6b0-0a2db9408249
    0x30 ∷ 0x05 ∷ 0xaf ∷ 0x91 ∷ 0x86 ∷ 0x5d ∷ 0x0e ∷ 0x47 ∷ 0xa6 ∷ 0xb0 ∷ 0x0a ∷ 0x2d ∷ 0xb9 ∷ 0x40 ∷ 0x82 ∷ 0x49 ∷ []
range_guid types.VolatileDisk =  -- 77ab535a-45fc-624b-5560-f7b281d1f96e
    0x5a ∷ 0x53 ∷ 0xab ∷ 0x77 ∷ 0xfc ∷ 0x45 ∷ 0x4b ∷ 0x62 ∷ 0x55 ∷ 0x60 ∷ 0xf7 ∷ 0xb2 ∷ 0x81 ∷ 0xd1 ∷ 0xf9 ∷ 0x6e ∷ []
range_guid types.VolatileCd =  -- 3d5abd30-4175-87ce-6d64-d2ade523c4bb
    0x30 ∷ 0xbd ∷ 0x5a ∷ 0x3d ∷ 0x75 ∷ 0x41 ∷ 0xce ∷ 0x87 ∷ 0x6d ∷ 0x64 ∷ 0xd2 ∷ 0xad ∷ 0xe5 ∷ 0x23 ∷ 0xc4 ∷ 0xbb ∷ []
range_guid types.PersistentDisk =  -- 5cea02c9-4d07-69d3-269f-4496fbe096f9
    0xc9 ∷ 0x02 ∷ 0xea ∷ 0x5c ∷ 0x07 ∷ 0x4d ∷ 0xd3 ∷ 0x69 ∷ 0x26 ∷ 0x9f ∷ 0x44 ∷ 0x96 ∷ 0xfb ∷ 0xe0 ∷ 0x96 ∷ 0xf9 ∷ []
range_guid types.PersistentCd =  -- 08018188-42cd-bb48-100f-5387d53ded3d
    0x88 ∷ 0x81 ∷ 0x01 ∷ 0x08 ∷ 0xcd ∷ 0x42 ∷ 0x48 ∷ 0xbb ∷ 0x10 ∷ 0x0f ∷ 0x53 ∷ 0x87 ∷ 0xd5 ∷ 0x3d ∷ 0xed ∷ 0x3d ∷ []
range_guid (types.Vendor guid) = guid

abbrev pub spa_range : ℕ → RangeType → ℕ → ℕ → ℕ → SpaRange
spa_range index kind base size attribute = record {
  index = index;
  flags = 0;
  domain = 0;
  kind = kind;
  base = base;
  size = size;
  attribute = attribute;
  cookie = None;
}

-- Flags
abbrev pub spa_bits : List Part
spa_bits =
    flag 0x1 "Control Region Only for Hot Add"
    ∷ flag 0x2 "Proximity Domain Valid"
    ∷ flag 0x4 "SPALocationCookie Valid"
    ∷ []

-- a range without a location cookie has 56 bytes
abbrev pub spa_size : Option ℕ → ℕ
spa_size (Some cookie) = 64
spa_size None = 56

abbrev pub cookie_or_zero : Option ℕ → ℕ
cookie_or_zero (Some cookie) = cookie
cookie_or_zero None = 0

abbrev pub spa_fields : SpaRange → List NamedField
spa_fields r =
    preset word "Type" 0  -- 0
    ∷ word "Length" (spa_size r.cookie)  -- 2
    ∷ word "SPA Range Structure Index" r.index  -- 4
    ∷ flags spa_bits word "Flags" r.flags  -- 6
    ∷ reserved 4  -- 8
    ∷ hex dword "Proximity Domain" r.domain  -- 12
    ∷ uuid "Address Range Type GUID" (range_guid r.kind)  -- 16
    ∷ hex qword "System Physical Address Range Base" r.base  -- 32
    ∷ qword "System Physical Address Range Length" r.size  -- 40
    ∷ hex qword "Address Range Memory Mapping Attribute" r.attribute  -- 48
    ∷ hex qword "SPALocationCookie" (cookie_or_zero r.cookie)  -- 56
    ∷ []

abbrev pub spa_bytes : SpaRange → List ℕ
spa_bytes r = take (spa_size r.cookie) (fields_joined (spa_fields r))

-- ---- NVDIMM Region Mapping Structure (5.2.26.3)

abbrev pub region_mapping : ℕ → ℕ → ℕ → ℕ → RegionMapping
region_mapping handle range control size = record {
  handle = handle;
  physical_id = 0;
  region_id = 0;
  range = range;
  control_region = control;
  size = size;
  offset = 0;
  base = 0;
  interleave = 0;
  ways = 1;
  state = 0;
}

-- NVDIMM State Flags
abbrev pub state_bits : List Part
state_bits =
    flag 0x1 "SAVE Failed"
    ∷ flag 0x2 "RESTORE Failed"
    ∷ flag 0x4 "Platform Flush Failed"
    ∷ flag 0x8 "Not Armed"
    ∷ flag 0x10 "SMART Health Events Observed"
    ∷ flag 0x20 "Health Events Notified"
    ∷ flag 0x40 "Not Mapped"
    ∷ []

abbrev pub mapping_fields : RegionMapping → List NamedField
mapping_fields m =
    preset word "Type" 1  -- 0
    ∷ preset word "Length" 48  -- 2
    ∷ hex dword "NFIT Device Handle" m.handle  -- 4
    ∷ hex word "NVDIMM Physical ID" m.physical_id  -- 8
    ∷ hex word "NVDIMM Region ID" m.region_id  -- 10
    ∷ word "SPA Range Structure Index" m.range  -- 12
    ∷ word "NVDIMM Control Region Structure Index" m.control_region  -- 14
    ∷ qword "NVDIMM Region Size" m.size  -- 16
    ∷ qword "Region Offset" m.offset  -- 24
    ∷ hex qword "NVDIMM Physical Address Region Base" m.base  -- 32
    ∷ word "Interleave Structure Index" m.interleave  -- 40
    ∷ word "Interleave Ways" m.ways  -- 42
    ∷ flags state_bits word "NVDIMM State Flags" m.state  -- 44
    ∷ reserved 2  -- 46
    ∷ []

abbrev pub mapping_bytes : RegionMapping → List ℕ
mapping_bytes m = fields_joined (mapping_fields m)

-- ---- NVDIMM Control Region Structure (5.2.26.6)

abbrev pub no_windows : BlockWindows
no_windows = record { count = 0; size = 0; command = (0, 0); status = (0, 0) }

abbrev pub control_region : ℕ → ℕ → ℕ → ℕ → ℕ → ℕ → ControlRegion
control_region index vendor device revision serial_number interface_code = record {
  index = index;
  vendor = vendor;
  device = device;
  revision = revision;
  subsystem_vendor = 0;
  subsystem_device = 0;
  subsystem_revision = 0;
  valid = 0;
  location = 0;
  date = 0;
  serial_number = serial_number;
  interface_code = interface_code;
  windows = no_windows;
  flags = 0;
}

-- Valid Fields
abbrev pub valid_bits : List Part
valid_bits =
    flag 0x1 "Manufacturing Fields Valid"
    ∷ []

-- NVDIMM Control Region Flag
abbrev pub control_bits : List Part
control_bits =
    flag 0x1 "Block Data Windows Buffered"
    ∷ []

abbrev pub control_fields : ControlRegion → List NamedField
control_fields c =
    preset word "Type" 4  -- 0
    ∷ word "Length" 80  -- 2
    ∷ word "NVDIMM Control Region Structure Index" c.index  -- 4
    ∷ hex word "Vendor ID" c.vendor  -- 6
    ∷ hex word "Device ID" c.device  -- 8
    ∷ hex word "Revision ID" c.revision  -- 10
    ∷ hex word "Subsystem Vendor ID" c.subsystem_vendor  -- 12
    ∷ hex word "Subsystem Device ID" c.subsystem_device  -- 14
    ∷ hex word "Subsystem Revision ID" c.subsystem_revision  -- 16
    ∷ flags valid_bits byte "Valid Fields" c.valid  -- 18
    ∷ hex byte "Manufacturing Location" c.location  -- 19
    ∷ hex word "Manufacturing Date" c.date  -- 20
    ∷ reserved 2  -- 22
    ∷ hex dword "Serial Number" c.serial_number  -- 24
    ∷ hex word "Region Format Interface Code" c.interface_code  -- 28
    ∷ word "Number of Block Control Windows" c.windows.count  -- 30
    ∷ qword "Size of Block Control Window" c.windows.size  -- 32
    ∷ qword "Command Register Offset in Block Control Window" c.windows.command.0  -- 40
    ∷ qword "Size of Command Register in Block Control Windows" c.windows.command.1  -- 48
    ∷ qword "Status Register Offset in Block Control Window" c.windows.status.0  -- 56
    ∷ qword "Size of Status Register in Block Control Windows" c.windows.status.1  -- 64
    ∷ flags control_bits word "NVDIMM Control Region Flag" c.flags  -- 72
    ∷ reserved 6  -- 74
    ∷ []

abbrev pub control_bytes : ControlRegion → List ℕ
control_bytes c = fields_joined (control_fields c)

-- ---- NVDIMM Block Data Window Region Structure (5.2.26.7)

abbrev pub data_window : ℕ → ℕ → ℕ → ℕ → ℕ → ℕ → DataWindow
data_window control count start size capacity first = record {
  control_region = control;
  count = count;
  start = start;
  size = size;
  capacity = capacity;
  first_block = first;
}

abbrev pub window_fields : DataWindow → List NamedField
window_fields w =
    preset word "Type" 5  -- 0
    ∷ preset word "Length" 40  -- 2
    ∷ word "NVDIMM Control Region Structure Index" w.control_region  -- 4
    ∷ word "Number of Block Data Windows" w.count  -- 6
    ∷ qword "Block Data Window Start Offset" w.start  -- 8
    ∷ qword "Size of Block Data Window" w.size  -- 16
    ∷ qword "Block Accessible Memory Capacity" w.capacity  -- 24
    ∷ hex qword "Beginning Address of First Block" w.first_block  -- 32
    ∷ []

abbrev pub window_bytes : DataWindow → List ℕ
window_bytes w = fields_joined (window_fields w)
