-- The I/O Virtualization Reporting Structure (AMD 48882, AMD I/O Virtualization Technology Specification 3.07, 5.2).
use Rattle.std.specs.Prelude.{ℕ, ◌+◌, ◌*◌, List, [], ◌∷◌, ◌++◌, length, codes, bit_or}
use Rattle.acpi_base.specs.Fields.{NamedField, byte, word, dword, qword, hex, preset, one_of, flags, reserved, fields_joined}
use Rattle.acpi_base.specs.Look.{Part, flag, part, means}
use Rattle.acpi_base.specs.declared.oem.Oem.{Oem}
use Rattle.acpi_core.specs.Listing.{Listing, length_limit}
use Rattle.acpi_pc.specs.declared.ivrs.info.IvInfo.{IvInfo}
use Rattle.acpi_pc.specs.declared.ivrs.memory.Ivmd.{Ivmd}
use Rattle.acpi_pc.specs.declared.ivrs.memory.Peripherals.{Peripherals}
use Rattle.acpi_pc.specs.declared.ivrs.memory.Peripherals.TheVariants.{All, One, Range}
use Rattle.acpi_pc.specs.declared.ivrs.units.ExtendedIvhd.{ExtendedIvhd}
use Rattle.acpi_pc.specs.declared.ivrs.units.ExtendedType.{ExtendedType}
use Rattle.acpi_pc.specs.declared.ivrs.units.ExtendedType.TheVariants.{Functions, AcpiDevices}
use Rattle.acpi_pc.specs.declared.ivrs.units.Iommu.{Iommu}
use Rattle.acpi_pc.specs.declared.ivrs.units.Ivhd.{Ivhd}

-- ---- IVinfo (5.2.1)

-- GVASize in bits 7:5, PASize in bits 14:8, VASize in bits 21:15
abbrev pub iv_info : ℕ → ℕ → ℕ → IvInfo
iv_info guest physical virtual = record { number = guest * 0x20 + physical * 0x100 + virtual * 0x8000 }

abbrev pub with_feature : ℕ → IvInfo → IvInfo
with_feature bit info = record { number = bit_or info.number bit }

abbrev pub info_bits : List Part
info_bits =
    flag 0x1 "EFRSup"
    ∷ flag 0x2 "DmaRemapSup"
    ∷ part 0xe0 0x20 "GVASize"
    ∷ part 0x7f00 0x100 "PASize"
    ∷ part 0x3f8000 0x8000 "VASize"
    ∷ flag 0x400000 "HtAtsResv"
    ∷ []

-- the fields between the header and the first block
abbrev pub ivrs_fields : IvInfo → List NamedField
ivrs_fields info =
    flags info_bits dword "IVinfo" info.number  -- 36
    ∷ reserved 8  -- 40
    ∷ []

-- a table without blocks
abbrev pub ivrs_of : ℕ → Oem → IvInfo → Listing
ivrs_of revision oem info = record {
  signature = codes "IVRS";
  revision = revision;
  oem = oem;
  before = fields_joined (ivrs_fields info);
  count_width = 0;
  after = [];
  limit = length_limit;
  structures = [];
}

-- ---- I/O Virtualization Hardware Definition (5.2.2.1)

-- Flags; the last two are reserved in the types 11h and 40h
abbrev pub ivhd_bits : List Part
ivhd_bits =
    flag 0x1 "HtTunEn"
    ∷ flag 0x2 "PassPW"
    ∷ flag 0x4 "ResPassPW"
    ∷ flag 0x8 "Isoc"
    ∷ flag 0x10 "IotlbSup"
    ∷ flag 0x20 "Coherent"
    ∷ flag 0x40 "PreFSup"
    ∷ flag 0x80 "PPRSup"
    ∷ []

-- type 10h
abbrev pub ivhd : Iommu → ℕ → Ivhd
ivhd iommu features = record { iommu = iommu; features = features; entries = [] }

abbrev pub ivhd_head_fields : Ivhd → List NamedField
ivhd_head_fields u =
    preset byte "Type" 0x10  -- 0
    ∷ flags ivhd_bits byte "Flags" u.iommu.flags  -- 1
    ∷ word "Length" (24 + length u.entries)  -- 2
    ∷ hex word "DeviceID" u.iommu.device  -- 4
    ∷ hex word "Capability Offset" u.iommu.capability  -- 6
    ∷ hex qword "IOMMU Base Address" u.iommu.base  -- 8
    ∷ hex word "PCI Segment Group" u.iommu.segment  -- 16
    ∷ hex word "IOMMU Info" u.iommu.info  -- 18
    ∷ hex dword "IOMMU Feature Reporting" u.features  -- 20
    ∷ []

abbrev pub ivhd_head : Ivhd → List ℕ
ivhd_head u = fields_joined (ivhd_head_fields u)

abbrev pub ivhd_bytes : Ivhd → List ℕ
ivhd_bytes u = ivhd_head u ++ u.entries  -- 24: IVHD device entries

-- types 11h and 40h
abbrev pub extended_ivhd : ExtendedType → Iommu → ℕ → ℕ → ℕ → ExtendedIvhd
extended_ivhd kind iommu attributes features more = record {
  kind = kind;
  iommu = iommu;
  attributes = attributes;
  features = features;
  more_features = more;
  entries = [];
}

abbrev pub extended_number : ExtendedType → ℕ
extended_number Functions = 0x11
extended_number AcpiDevices = 0x40

-- the words of Type
abbrev pub extended_words : List (ℕ × List ℕ)
extended_words =
    means 0x11 "Type 11h"
    ∷ means 0x40 "Type 40h"
    ∷ []

abbrev pub extended_ivhd_head_fields : ExtendedIvhd → List NamedField
extended_ivhd_head_fields u =
    one_of extended_words byte "Type" (extended_number u.kind)  -- 0
    ∷ flags ivhd_bits byte "Flags" u.iommu.flags  -- 1
    ∷ word "Length" (40 + length u.entries)  -- 2
    ∷ hex word "DeviceID" u.iommu.device  -- 4
    ∷ hex word "Capability Offset" u.iommu.capability  -- 6
    ∷ hex qword "IOMMU Base Address" u.iommu.base  -- 8
    ∷ hex word "PCI Segment Group" u.iommu.segment  -- 16
    ∷ hex word "IOMMU Info" u.iommu.info  -- 18
    ∷ hex dword "IOMMU Attributes" u.attributes  -- 20
    ∷ hex qword "EFR Register Image" u.features  -- 24
    ∷ hex qword "EFR Register Image 2" u.more_features  -- 32
    ∷ []

abbrev pub extended_ivhd_head : ExtendedIvhd → List ℕ
extended_ivhd_head u = fields_joined (extended_ivhd_head_fields u)

abbrev pub extended_ivhd_bytes : ExtendedIvhd → List ℕ
extended_ivhd_bytes u = extended_ivhd_head u ++ u.entries  -- 40: IVHD device entries

-- ---- I/O Virtualization Memory Definition (5.2.3)

abbrev pub peripherals_number : Peripherals → ℕ
peripherals_number All = 0x20
peripherals_number (One device) = 0x21
peripherals_number (Range first last) = 0x22

abbrev pub first_device : Peripherals → ℕ
first_device All = 0
first_device (One device) = device
first_device (Range first last) = first

abbrev pub last_device : Peripherals → ℕ
last_device All = 0
last_device (One device) = 0
last_device (Range first last) = last

abbrev pub ivmd : Peripherals → ℕ → ℕ → Ivmd
ivmd peripherals start size = record { peripherals = peripherals; flags = 0; segment = 0; start = start; size = size }

-- Flags
abbrev pub ivmd_bits : List Part
ivmd_bits =
    flag 0x1 "Unity"
    ∷ flag 0x2 "IR"
    ∷ flag 0x4 "IW"
    ∷ flag 0x8 "ExclRange"
    ∷ []

abbrev pub ivmd_fields : Ivmd → List NamedField
ivmd_fields m =
    hex byte "Type" (peripherals_number m.peripherals)  -- 0
    ∷ flags ivmd_bits byte "Flags" m.flags  -- 1
    ∷ preset word "Length" 32  -- 2
    ∷ hex word "DeviceID" (first_device m.peripherals)  -- 4
    ∷ hex word "Auxiliary Data" (last_device m.peripherals)  -- 6
    ∷ hex word "PCI Segment Group" m.segment  -- 8
    ∷ reserved 6  -- 10
    ∷ hex qword "IVMD Start Address" m.start  -- 16
    ∷ hex qword "IVMD Memory Block Length" m.size  -- 24
    ∷ []

abbrev pub ivmd_bytes : Ivmd → List ℕ
ivmd_bytes m = fields_joined (ivmd_fields m)
