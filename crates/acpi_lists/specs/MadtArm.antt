-- Interrupt controllers of Arm in MADT (ACPI 6.5, 5.2.12).
use Rattle.std.specs.Prelude.{ℕ, List, [], ◌∷◌, bit_or}
use Rattle.acpi_base.specs.Fields.{NamedField, byte, word, dword, qword, hex, preset, flags, one_of, reserved, fields_joined}
use Rattle.acpi_base.specs.Look.{Part, flag, means}
use Rattle.acpi_lists.specs.declared.madt.EnabledStatus.{EnabledStatus}
use Rattle.acpi_lists.specs.declared.madt.EnabledStatus.TheVariants.{Disabled, Enabled, DisabledOnlineCapable}
use Rattle.acpi_lists.specs.declared.madt.arm.Trigger.{Trigger}
use Rattle.acpi_lists.specs.declared.madt.arm.Trigger.TheVariants.{Edge, Level}
use Rattle.acpi_lists.specs.declared.madt.arm.GicVersion.{GicVersion}
use Rattle.acpi_lists.specs.declared.madt.arm.GicVersion.TheVariants.{Unspecified, GICv1, GICv2, GICv3, GICv4}
use Rattle.acpi_lists.specs.declared.madt.arm.Gicc.{Gicc}
use Rattle.acpi_lists.specs.declared.madt.arm.EarlierGicc.{EarlierGicc}
use Rattle.acpi_lists.specs.declared.madt.arm.Gicd.{Gicd}
use Rattle.acpi_lists.specs.declared.madt.arm.GicMsi.{GicMsi}
use Rattle.acpi_lists.specs.declared.madt.arm.Gicr.{Gicr}
use Rattle.acpi_lists.specs.declared.madt.arm.GicIts.{GicIts}

-- ---- GIC CPU Interface (5.2.12.14)

-- GICC CPU Interface Flags
abbrev pub gicc_bits : List Part
gicc_bits =
    flag 0x1 "Enabled"
    ∷ flag 0x2 "Performance Interrupt Edge Triggered"
    ∷ flag 0x4 "VGIC Maintenance Interrupt Edge Triggered"
    ∷ flag 0x8 "Online Capable"
    ∷ []

abbrev pub gicc_fields : Gicc → List NamedField
gicc_fields s =
    preset byte "Type" 0x0b  -- 0
    ∷ preset byte "Length" 82  -- 1
    ∷ reserved 2  -- 2
    ∷ dword "CPU Interface Number" s.cpu_interface_number  -- 4
    ∷ hex dword "ACPI Processor UID" s.acpi_processor_uid  -- 8
    ∷ flags gicc_bits dword "Flags" s.flags  -- 12
    ∷ dword "Parking Protocol Version" s.parking_protocol_version  -- 16
    ∷ dword "Performance Interrupt GSIV" s.performance_interrupt  -- 20
    ∷ hex qword "Parked Address" s.parked_address  -- 24
    ∷ hex qword "Physical Base Address" s.base_address  -- 32
    ∷ hex qword "GICV" s.virtual_registers  -- 40
    ∷ hex qword "GICH" s.control_block_registers  -- 48
    ∷ dword "VGIC Maintenance Interrupt" s.maintenance_interrupt  -- 56
    ∷ hex qword "GICR Base Address" s.redistributor_base  -- 60
    ∷ hex qword "MPIDR" s.mpidr  -- 68
    ∷ byte "Processor Power Efficiency Class" s.power_efficiency_class  -- 76
    ∷ reserved 1  -- 77
    ∷ word "SPE Overflow Interrupt" s.overflow_interrupt  -- 78
    ∷ word "TRBE Interrupt" s.trbe_interrupt  -- 80
    ∷ []

abbrev pub gicc_bytes : Gicc → List ℕ
gicc_bytes s = fields_joined (gicc_fields s)

-- that of ACPI 6.0 to 6.4 (ACPI 6.3, 5.2.12.14)
abbrev pub earlier_gicc_fields : EarlierGicc → List NamedField
earlier_gicc_fields s =
    preset byte "Type" 0x0b  -- 0
    ∷ preset byte "Length" 80  -- 1
    ∷ reserved 2  -- 2
    ∷ dword "CPU Interface Number" s.gicc.cpu_interface_number  -- 4
    ∷ hex dword "ACPI Processor UID" s.gicc.acpi_processor_uid  -- 8
    ∷ flags gicc_bits dword "Flags" s.gicc.flags  -- 12
    ∷ dword "Parking Protocol Version" s.gicc.parking_protocol_version  -- 16
    ∷ dword "Performance Interrupt GSIV" s.gicc.performance_interrupt  -- 20
    ∷ hex qword "Parked Address" s.gicc.parked_address  -- 24
    ∷ hex qword "Physical Base Address" s.gicc.base_address  -- 32
    ∷ hex qword "GICV" s.gicc.virtual_registers  -- 40
    ∷ hex qword "GICH" s.gicc.control_block_registers  -- 48
    ∷ dword "VGIC Maintenance Interrupt" s.gicc.maintenance_interrupt  -- 56
    ∷ hex qword "GICR Base Address" s.gicc.redistributor_base  -- 60
    ∷ hex qword "MPIDR" s.gicc.mpidr  -- 68
    ∷ byte "Processor Power Efficiency Class" s.gicc.power_efficiency_class  -- 76
    ∷ reserved 1  -- 77
    ∷ word "SPE Overflow Interrupt" s.gicc.overflow_interrupt  -- 78: reserved before ACPI 6.3
    ∷ []

abbrev pub earlier_gicc_bytes : EarlierGicc → List ℕ
earlier_gicc_bytes s = fields_joined (earlier_gicc_fields s)

-- GICC CPU Interface Flags: Enabled at bit 0, Online Capable at bit 3
abbrev pub gicc_flags : EnabledStatus → ℕ
gicc_flags Disabled = 0x0
gicc_flags Enabled = 0x1
gicc_flags DisabledOnlineCapable = 0x8

-- only the flags may be other than zero
abbrev pub gicc : EnabledStatus → Gicc
gicc status = record {
  cpu_interface_number = 0;
  acpi_processor_uid = 0;
  flags = gicc_flags status;
  parking_protocol_version = 0;
  performance_interrupt = 0;
  parked_address = 0;
  base_address = 0;
  virtual_registers = 0;
  control_block_registers = 0;
  maintenance_interrupt = 0;
  redistributor_base = 0;
  mpidr = 0;
  power_efficiency_class = 0;
  overflow_interrupt = 0;
  trbe_interrupt = 0;
}

-- an edge adds its flag to those that are set, and a level changes none
abbrev pub with_edge : Trigger → ℕ → ℕ → ℕ
with_edge Edge flag flags = bit_or flags flag
with_edge Level flag flags = flags

-- Performance Interrupt Mode at bit 1
abbrev pub with_performance_interrupt : ℕ → Trigger → Gicc → Gicc
with_performance_interrupt gsi trigger s = record s { performance_interrupt = gsi; flags = with_edge trigger 0x2 s.flags }

-- VGIC Maintenance Interrupt Mode at bit 2
abbrev pub with_maintenance_interrupt : ℕ → Trigger → Gicc → Gicc
with_maintenance_interrupt gsi trigger s = record s { maintenance_interrupt = gsi; flags = with_edge trigger 0x4 s.flags }

-- ---- GIC Distributor (5.2.12.15)

-- GIC Version
abbrev pub version_number : GicVersion → ℕ
version_number Unspecified = 0x00
version_number GICv1 = 0x01
version_number GICv2 = 0x02
version_number GICv3 = 0x03
version_number GICv4 = 0x04

-- the words of GIC Version
abbrev pub gic_version_words : List (ℕ × List ℕ)
gic_version_words =
    means 0 "No GIC Version Specified"
    ∷ means 1 "GICv1"
    ∷ means 2 "GICv2"
    ∷ means 3 "GICv3"
    ∷ means 4 "GICv4"
    ∷ []

abbrev pub gicd_fields : Gicd → List NamedField
gicd_fields s =
    preset byte "Type" 0x0c  -- 0
    ∷ preset byte "Length" 24  -- 1
    ∷ reserved 2  -- 2
    ∷ hex dword "GIC ID" s.gic_id  -- 4
    ∷ hex qword "Physical Base Address" s.base_addr  -- 8
    ∷ preset dword "System Vector Base" 0  -- 16
    ∷ one_of gic_version_words byte "GIC Version" (version_number s.version)  -- 20
    ∷ reserved 3  -- 21
    ∷ []

abbrev pub gicd_bytes : Gicd → List ℕ
gicd_bytes s = fields_joined (gicd_fields s)

abbrev pub gicd : ℕ → ℕ → GicVersion → Gicd
gicd id address version = record {
  gic_id = id;
  base_addr = address;
  version = version;
}

-- ---- GIC MSI Frame (5.2.12.16)

-- GIC MSI Frame Flags
abbrev pub msi_frame_bits : List Part
msi_frame_bits =
    flag 0x1 "SPI Count/Base Select"
    ∷ []

abbrev pub gic_msi_fields : GicMsi → List NamedField
gic_msi_fields s =
    preset byte "Type" 0x0d  -- 0
    ∷ preset byte "Length" 24  -- 1
    ∷ reserved 2  -- 2
    ∷ hex dword "GIC MSI Frame ID" s.gic_msi_frame_id  -- 4
    ∷ hex qword "Physical Base Address" s.base_addr  -- 8
    ∷ flags msi_frame_bits dword "Flags" s.flags  -- 16
    ∷ word "SPI Count" s.spi_count  -- 20
    ∷ word "SPI Base" s.spi_base  -- 22
    ∷ []

abbrev pub gic_msi_bytes : GicMsi → List ℕ
gic_msi_bytes s = fields_joined (gic_msi_fields s)

abbrev pub gic_msi : GicMsi
gic_msi = record {
  gic_msi_frame_id = 0;
  base_addr = 0;
  flags = 0;
  spi_count = 0;
  spi_base = 0;
}

-- SPI Count/Base Select at bit 0
abbrev pub with_spis : ℕ → ℕ → GicMsi → GicMsi
with_spis count base s = record s { spi_count = count; spi_base = base; flags = bit_or s.flags 0x1 }

-- ---- GIC Redistributor (5.2.12.17)

abbrev pub gicr_fields : Gicr → List NamedField
gicr_fields s =
    preset byte "Type" 0x0e  -- 0
    ∷ preset byte "Length" 16  -- 1
    ∷ reserved 2  -- 2
    ∷ hex qword "Discovery Range Base Address" s.discovery_range_base  -- 4
    ∷ dword "Discovery Range Length" s.discovery_range_length  -- 12
    ∷ []

abbrev pub gicr_bytes : Gicr → List ℕ
gicr_bytes s = fields_joined (gicr_fields s)

abbrev pub gicr : ℕ → ℕ → Gicr
gicr address size = record {
  discovery_range_base = address;
  discovery_range_length = size;
}

-- ---- GIC Interrupt Translation Service (5.2.12.18)

abbrev pub gic_its_fields : GicIts → List NamedField
gic_its_fields s =
    preset byte "Type" 0x0f  -- 0
    ∷ preset byte "Length" 20  -- 1
    ∷ reserved 2  -- 2
    ∷ hex dword "GIC ITS ID" s.gic_its_id  -- 4
    ∷ hex qword "Physical Base Address" s.base_addr  -- 8
    ∷ reserved 4  -- 16
    ∷ []

abbrev pub gic_its_bytes : GicIts → List ℕ
gic_its_bytes s = fields_joined (gic_its_fields s)

abbrev pub gic_its : ℕ → ℕ → GicIts
gic_its id address = record {
  gic_its_id = id;
  base_addr = address;
}
