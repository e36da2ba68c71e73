-- The names of tables that are only read, and of their structures.
use Rattle.std.specs.Prelude.{ℕ, List, [], ◌∷◌, codes}
use Rattle.acpi_forms.specs.Name.{Named, one_kind, only_read}

-- Firmware Performance Data Table (FPDT)
abbrev pub fpdt_kinds : List (ℕ × List ℕ)
fpdt_kinds =
    (0, codes "Firmware Basic Boot Performance Pointer Record")
    ∷ (1, codes "S3 Performance Table Pointer Record")
    ∷ []

-- DMA Remapping Reporting Table (DMAR)
abbrev pub dmar_kinds : List (ℕ × List ℕ)
dmar_kinds =
    (0, codes "DMA Remapping Hardware Unit Definition (DRHD)")
    ∷ (1, codes "Reserved Memory Region Reporting Structure (RMRR)")
    ∷ (2, codes "Root Port ATS Capability Reporting Structure (ATSR)")
    ∷ (3, codes "Remapping Hardware Static Affinity Structure (RHSA)")
    ∷ (4, codes "ACPI Name-space Device Declaration Structure (ANDD)")
    ∷ (5, codes "SoC Integrated Address Translation Cache Reporting Structure (SATC)")
    ∷ (6, codes "SoC Integrated Device Property Reporting Structure (SIDP)")
    ∷ []

-- I/O Virtualization Reporting Structure (IVRS)
abbrev pub ivrs_kinds : List (ℕ × List ℕ)
ivrs_kinds =
    (16, codes "I/O Virtualization Hardware Definition (IVHD) Type 10h")
    ∷ (17, codes "I/O Virtualization Hardware Definition (IVHD) Type 11h")
    ∷ (64, codes "I/O Virtualization Hardware Definition (IVHD) Type 40h")
    ∷ (32, codes "I/O Virtualization Memory Definition (IVMD) for All Peripherals")
    ∷ (33, codes "I/O Virtualization Memory Definition (IVMD) for a Peripheral")
    ∷ (34, codes "I/O Virtualization Memory Definition (IVMD) for a Range of Peripherals")
    ∷ []

-- AMD Secure Processor Table (ASPT)
abbrev pub aspt_kinds : List (ℕ × List ℕ)
aspt_kinds =
    (0, codes "ASP Global Registers Structure")
    ∷ (1, codes "SEV Mailbox Registers Structure")
    ∷ (2, codes "ACPI Mailbox Registers Structure")
    ∷ []

-- NVDIMM Firmware Interface Table (NFIT)
abbrev pub nfit_kinds : List (ℕ × List ℕ)
nfit_kinds =
    (0, codes "System Physical Address (SPA) Range Structure")
    ∷ (1, codes "NVDIMM Region Mapping Structure")
    ∷ (2, codes "Interleave Structure")
    ∷ (3, codes "SMBIOS Management Information Structure")
    ∷ (4, codes "NVDIMM Control Region Structure")
    ∷ (5, codes "NVDIMM Block Data Window Region Structure")
    ∷ (6, codes "Flush Hint Address Structure")
    ∷ (7, codes "Platform Capabilities Structure")
    ∷ []

-- Platform Communications Channel Table (PCCT)
abbrev pub pcct_kinds : List (ℕ × List ℕ)
pcct_kinds =
    (0, codes "Generic Communications Subspace Structure")
    ∷ (1, codes "HW-Reduced Communications Subspace Structure")
    ∷ (2, codes "HW-Reduced Communications Subspace Structure Type 2")
    ∷ (3, codes "Extended PCC Subspace Structure for Initiators")
    ∷ (4, codes "Extended PCC Subspace Structure for Responders")
    ∷ (5, codes "HW Registers Based Communications Subspace Structure")
    ∷ []

-- Secure Devices Table (SDEV)
abbrev pub sdev_kinds : List (ℕ × List ℕ)
sdev_kinds =
    (0, codes "Secure ACPI_NAMESPACE_DEVICE Structure")
    ∷ (1, codes "Secure PCIe Endpoint Device Structure")
    ∷ []

-- Platform Health Assessment Table (PHAT)
abbrev pub phat_kinds : List (ℕ × List ℕ)
phat_kinds =
    (0, codes "Firmware Version Data Record")
    ∷ (1, codes "Firmware Health Data Record")
    ∷ []

-- Software Licensing Description Table (SLIC)
abbrev pub slic_kinds : List (ℕ × List ℕ)
slic_kinds =
    (0, codes "OEM Public Key")
    ∷ (1, codes "Windows Marker")
    ∷ []

-- Alert Standard Format Table (ASF!)
abbrev pub asf_kinds : List (ℕ × List ℕ)
asf_kinds =
    (0, codes "ASF_INFO")
    ∷ (1, codes "ASF_ALRT")
    ∷ (2, codes "ASF_RCTL")
    ∷ (3, codes "ASF_RMCP")
    ∷ (4, codes "ASF_ADDR")
    ∷ (128, codes "ASF_INFO, the Last Record")
    ∷ (129, codes "ASF_ALRT, the Last Record")
    ∷ (130, codes "ASF_RCTL, the Last Record")
    ∷ (131, codes "ASF_RMCP, the Last Record")
    ∷ (132, codes "ASF_ADDR, the Last Record")
    ∷ []

-- Arm Error Source Table (AEST)
abbrev pub aest_kinds : List (ℕ × List ℕ)
aest_kinds =
    (0, codes "Processor Error Node")
    ∷ (1, codes "Memory Error Node")
    ∷ (2, codes "SMMU Error Node")
    ∷ (3, codes "Vendor-defined Error Node")
    ∷ (4, codes "GIC Error Node")
    ∷ (5, codes "PCIe Error Node")
    ∷ (6, codes "Proxy Error Node")
    ∷ []

-- Platform Memory Topology Table (PMTT)
abbrev pub pmtt_kinds : List (ℕ × List ℕ)
pmtt_kinds =
    (0, codes "Socket")
    ∷ (1, codes "Memory Controller")
    ∷ (2, codes "DIMM")
    ∷ (255, codes "Vendor Specific Memory Device")
    ∷ []

-- PMTT of revision 1
abbrev pub earlier_pmtt_kinds : List (ℕ × List ℕ)
earlier_pmtt_kinds = (0, codes "Socket") ∷ (1, codes "Memory Controller") ∷ (2, codes "DIMM") ∷ []

-- RISC-V IO Mapping Table (RIMT) of the specification
abbrev pub specified_rimt_kinds : List (ℕ × List ℕ)
specified_rimt_kinds = (0, codes "RISC-V IOMMU") ∷ (1, codes "PCIe Root Complex") ∷ (2, codes "Platform Device") ∷ []

-- what a machine has when it boots
abbrev pub boot_tables : List Named
boot_tables =
    only_read "RSDT" "Root System Description Table (RSDT)" (one_kind "Entry")
    ∷ only_read "PSDT" "Persistent System Description Table (PSDT)" []
    ∷ only_read "OSDT" "Override System Description Table (OSDT)" []
    ∷ only_read "BOOT" "Simple Boot Flag Table (BOOT)" []
    ∷ only_read "DBGP" "Debug Port Table (DBGP)" []
    ∷ only_read "ECDT" "Embedded Controller Boot Resources Table (ECDT)" []
    ∷ only_read "UEFI" "UEFI ACPI Data Table (UEFI)" []
    ∷ only_read "FPDT" "Firmware Performance Data Table (FPDT)" fpdt_kinds
    ∷ only_read "IBFT" "iSCSI Boot Firmware Table (iBFT)" []
    ∷ only_read "iBFT" "iSCSI Boot Firmware Table (iBFT)" []
    ∷ only_read "WPBT" "Windows Platform Binary Table (WPBT)" []
    ∷ only_read "MSDM" "Microsoft Data Management Table (MSDM)" []
    ∷ only_read "SLIC" "Software Licensing Description Table (SLIC)" slic_kinds
    ∷ only_read "RGRT" "Regulatory Graphics Resource Table (RGRT)" []
    ∷ only_read "BDAT" "BIOS Data ACPI Table (BDAT)" []
    ∷ []

-- protection, and code outside the operating system
abbrev pub security_tables : List Named
security_tables =
    only_read "CCEL" "CC Event Log Table (CCEL)" []
    ∷ only_read "TDEL" "TD Event Log Table (TDEL)" []
    ∷ only_read "SVKL" "Storage Volume Key Location Table (SVKL)" (one_kind "Key Structure")
    ∷ only_read "SDEV" "Secure Devices Table (SDEV)" sdev_kinds
    ∷ only_read "DRTM" "D-RTM Resources Table (DRTM)" []
    ∷ only_read "XENV" "Xen Environment Table (XENV)" []
    ∷ only_read "STAO" "Status Override Table (STAO)" []
    ∷ only_read "PRMT" "Platform Runtime Mechanism Table (PRMT)" (one_kind "PRM Module Information Structure")
    ∷ only_read "ASPT" "AMD Secure Processor Table (ASPT)" aspt_kinds
    ∷ only_read "DTPR" "DMA TXT Protected Range Table (DTPR)" []
    ∷ []

-- errors, watchdogs and diagnosis
abbrev pub faults_tables : List Named
faults_tables =
    only_read "ERST" "Error Record Serialization Table (ERST)" (one_kind "Serialization Instruction Entry")
    ∷ only_read "EINJ" "Error Injection Table (EINJ)" (one_kind "Injection Instruction Entry")
    ∷ only_read "CPEP" "Corrected Platform Error Polling Table (CPEP)"
    (one_kind "Corrected Platform Error Polling Processor Structure")
    ∷ only_read "RASF" "ACPI RAS Feature Table (RASF)" []
    ∷ only_read "RAS2" "ACPI RAS2 Feature Table (RAS2)" (one_kind "RAS2 PCC Descriptor")
    ∷ only_read "PHAT" "Platform Health Assessment Table (PHAT)" phat_kinds
    ∷ only_read "PDTT" "Platform Debug Trigger Table (PDTT)" (one_kind "Trigger Identifier")
    ∷ only_read "WDAT" "Watchdog Action Table (WDAT)" (one_kind "Watchdog Instruction Entry")
    ∷ only_read "WDRT" "Watchdog Resource Table (WDRT)" []
    ∷ only_read "WDDT" "Watchdog Descriptor Table (WDDT)" []
    ∷ []

abbrev pub aest_names : Named
aest_names = only_read "AEST" "Arm Error Source Table (AEST)" aest_kinds

-- errors of Arm machines
abbrev pub arm_errors_tables : List Named
arm_errors_tables = aest_names ∷ []

abbrev pub arm_faults_tables : List Named
arm_faults_tables =
    only_read "AGDI" "Arm Generic Diagnostic Dump and Reset Interface Table (AGDI)" []
    ∷ only_read "SDEI" "Software Delegated Exceptions Interface Table (SDEI)" []
    ∷ []

-- devices
abbrev pub devices_tables : List Named
devices_tables =
    only_read "DMAR" "DMA Remapping Reporting Table (DMAR)" dmar_kinds
    ∷ only_read "IVRS" "I/O Virtualization Reporting Structure (IVRS)" ivrs_kinds
    ∷ only_read "IOVT" "I/O Virtualization Table (IOVT)" (one_kind "IOMMU Structure")
    ∷ only_read "APMT" "Arm Performance Monitoring Unit Table (APMT)" (one_kind "Arm Performance Monitoring Unit Node")
    ∷ only_read "CSRT" "Core System Resource Table (CSRT)" (one_kind "Resource Group")
    ∷ only_read "NHLT" "Non-HD Audio Link Table (NHLT)" []
    ∷ only_read "SWFT" "SoundWire File Table (SWFT)" (one_kind "SoundWire File")
    ∷ only_read "SBST" "Smart Battery Specification Table (SBST)" []
    ∷ only_read "MCHI" "Management Controller Host Interface Table (MCHI)" []
    ∷ only_read "SPMI" "Service Processor Management Interface Table (SPMI)" []
    ∷ only_read "ASF!" "Alert Standard Format Table (ASF!)" asf_kinds
    ∷ []

-- memory, power and performance
abbrev pub memory_tables : List Named
memory_tables =
    only_read "NFIT" "NVDIMM Firmware Interface Table (NFIT)" nfit_kinds
    ∷ only_read "PCCT" "Platform Communications Channel Table (PCCT)" pcct_kinds
    ∷ only_read "LPIT" "Low Power Idle Table (LPIT)" (one_kind "Native C-State Instruction Structure")
    ∷ only_read "MSCT" "Maximum System Characteristics Table (MSCT)"
    (one_kind "Maximum Proximity Domain Information Structure")
    ∷ only_read "MPST" "Memory Power State Table (MPST)" []
    ∷ only_read "PMTT" "Platform Memory Topology Table (PMTT)" pmtt_kinds
    ∷ only_read "MPAM" "Memory System Resource Partitioning and Monitoring Table (MPAM)" (one_kind "MPAM MSC Node")
    ∷ only_read "MRRM" "Memory Range and Region Mapping Structure (MRRM)" (one_kind "Memory Range Entry")
    ∷ only_read "ERDT" "Enhanced Resource Director Technology Table (ERDT)" []
    ∷ []

-- ---- second layouts of a signature

abbrev pub earlier_pmtt_names : Named
earlier_pmtt_names = only_read "PMTT" "Platform Memory Topology Table (PMTT) of revision 1" earlier_pmtt_kinds

abbrev pub specified_rimt_names : Named
specified_rimt_names = only_read "RIMT" "RISC-V IO Mapping Table (RIMT)" specified_rimt_kinds

-- ---- tables without a standard header

abbrev pub cdat_names : Named
cdat_names =
    only_read "" "Coherent Device Attribute Table (CDAT)" (
    (0, codes "Device Scoped Memory Affinity Structure (DSMAS)")
    ∷ (1, codes "Device Scoped Latency and Bandwidth Information Structure (DSLBIS)")
    ∷ (2, codes "Device Scoped Memory Side Cache Information Structure (DSMSCIS)")
    ∷ (3, codes "Device Scoped Initiator Structure (DSIS)")
    ∷ (4, codes "Device Scoped EFI Memory Type Structure (DSEMTS)")
    ∷ (5, codes "Switch Scoped Latency and Bandwidth Information Structure (SSLBIS)")
    ∷ []
    )

abbrev pub s3pt_names : Named
s3pt_names =
    only_read "S3PT" "S3 Performance Table (S3PT)"
    ((0, codes "S3 Resume Performance Record") ∷ (1, codes "S3 Suspend Performance Record") ∷ [])
