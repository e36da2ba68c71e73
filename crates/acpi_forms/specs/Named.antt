-- The names of tables and of their structures.
use Rattle.std.specs.Prelude.{ℕ, ◌==◌, List, [], ◌∷◌, codes, if◌then◌else◌}
use Rattle.acpi_base.specs.Walk.{named}
use Rattle.acpi_text.specs.declared.form.TableForm.{TableForm}
use Rattle.acpi_forms.specs.FurtherNames.{boot_tables, security_tables, faults_tables, arm_faults_tables, devices_tables}
use Rattle.acpi_forms.specs.FurtherNames.{arm_errors_tables, memory_tables}
use Rattle.acpi_forms.specs.Written.{the_bert, the_cedt, the_dbg2, the_facs, the_fadt, the_gtdt, the_header, the_hest}
use Rattle.acpi_forms.specs.Written.{the_hmat, the_iort, the_madt, the_mcfg, the_pptt, the_rhct, the_rimt, the_rqsc}
use Rattle.acpi_forms.specs.Written.{the_rsdp, the_slit, the_spcr, the_srat, the_tcpa, the_tpm2, the_viot, the_xsdt}
use Rattle.acpi_forms.specs.Written.{the_earlier_gtdt, the_hpet, the_waet, the_bgrt, the_wsmt}
use Rattle.acpi_forms.specs.Name.{named_as, one_kind, only_read}
pub use Rattle.acpi_forms.specs.Name.{Named, kinds, IsNamed}

-- the form in the row of a signature, or another form
unfoldable pub find_form : ℕ → List (List ℕ × TableForm) → TableForm → TableForm
find_form s [] other = other
find_form s (row ∷ rows) other = if s == named row.0 then row.1 else find_form s rows other

-- the names in the row of a signature, or other names
abbrev pub find_named : ℕ → List Named → Named → Named
find_named s [] other = other
find_named s (n ∷ more) other = if s == named n.signature then n else find_named s more other

-- ---- the structures of tables that are written

-- the structures of MADT (ACPI 6.5, 5.2.12): those that are written, and those that are only read
abbrev pub madt_kinds : List (ℕ × List ℕ)
madt_kinds =
    (0, codes "Processor Local APIC Structure")
    ∷ (1, codes "I/O APIC Structure")
    ∷ (2, codes "Interrupt Source Override Structure")
    ∷ (3, codes "Non-Maskable Interrupt (NMI) Source Structure")
    ∷ (4, codes "Local APIC NMI Structure")
    ∷ (5, codes "Local APIC Address Override Structure")
    ∷ (9, codes "Processor Local x2APIC Structure")
    ∷ (10, codes "Local x2APIC NMI Structure")
    ∷ (11, codes "GIC CPU Interface (GICC) Structure")
    ∷ (12, codes "GIC Distributor (GICD) Structure")
    ∷ (13, codes "GIC MSI Frame Structure")
    ∷ (14, codes "GIC Redistributor (GICR) Structure")
    ∷ (15, codes "GIC Interrupt Translation Service (ITS) Structure")
    ∷ (24, codes "RISC-V INTC Structure")
    ∷ (25, codes "RISC-V IMSIC Structure")
    ∷ (26, codes "RISC-V APLIC Structure")
    ∷ (27, codes "RISC-V PLIC Structure")
    ∷ (6, codes "I/O SAPIC Structure")
    ∷ (7, codes "Processor Local SAPIC Structure")
    ∷ (8, codes "Platform Interrupt Source Structure")
    ∷ (16, codes "Multiprocessor Wakeup Structure")
    ∷ (17, codes "Core Programmable Interrupt Controller (CORE PIC) Structure")
    ∷ (18, codes "Legacy I/O Programmable Interrupt Controller (LIO PIC) Structure")
    ∷ (19, codes "HyperTransport Programmable Interrupt Controller (HT PIC) Structure")
    ∷ (20, codes "Extend I/O Programmable Interrupt Controller (EIO PIC) Structure")
    ∷ (21, codes "MSI Programmable Interrupt Controller (MSI PIC) Structure")
    ∷ (22, codes "Bridge I/O Programmable Interrupt Controller (BIO PIC) Structure")
    ∷ (23, codes "Low Pin Count Programmable Interrupt Controller (LPC PIC) Structure")
    ∷ (28, codes "GICv5 Interrupt Routing Service (IRS) Structure")
    ∷ (29, codes "GICv5 Interrupt Translation Service (ITS) Structure")
    ∷ (30, codes "GICv5 ITS Translate Frame Structure")
    ∷ []

-- the structures of SRAT (ACPI 6.5, 5.2.16)
abbrev pub srat_kinds : List (ℕ × List ℕ)
srat_kinds =
    (0, codes "Processor Local APIC/SAPIC Affinity Structure")
    ∷ (1, codes "Memory Affinity Structure")
    ∷ (2, codes "Processor Local x2APIC Affinity Structure")
    ∷ (3, codes "GICC Affinity Structure")
    ∷ (4, codes "GIC Interrupt Translation Service (ITS) Affinity Structure")
    ∷ (5, codes "Generic Initiator Affinity Structure")
    ∷ (6, codes "Generic Port Affinity Structure")
    ∷ (7, codes "RINTC Affinity Structure")
    ∷ []

abbrev pub cedt_kinds : List (ℕ × List ℕ)
cedt_kinds =
    (0, codes "CXL Host Bridge Structure (CHBS)")
    ∷ (1, codes "CXL Fixed Memory Window Structure (CFMWS)")
    ∷ (2, codes "CXL XOR Interleave Math Structure (CXIMS)")
    ∷ (3, codes "RCEC Downstream Port Association Structure (RDPAS)")
    ∷ []

-- the sources of HEST (ACPI 6.5, 18.3.2)
abbrev pub hest_kinds : List (ℕ × List ℕ)
hest_kinds =
    (6, codes "PCI Express Root Port AER Structure")
    ∷ (7, codes "PCI Express Device AER Structure")
    ∷ (8, codes "PCI Express/PCI-X Bridge AER Structure")
    ∷ (9, codes "Generic Hardware Error Source Structure")
    ∷ (10, codes "Generic Hardware Error Source version 2 Structure")
    ∷ (0, codes "IA-32 Architecture Machine Check Exception Structure")
    ∷ (1, codes "IA-32 Architecture Corrected Machine Check Structure")
    ∷ (2, codes "IA-32 Architecture Non-Maskable Interrupt Structure")
    ∷ (11, codes "IA-32 Architecture Deferred Machine Check Structure")
    ∷ []

abbrev pub rqsc_kinds : List (ℕ × List ℕ)
rqsc_kinds = (0, codes "Capacity QoS Controller") ∷ (1, codes "Bandwidth QoS Controller") ∷ []

-- the nodes of PPTT (ACPI 6.5, 5.2.30)
abbrev pub pptt_kinds : List (ℕ × List ℕ)
pptt_kinds =
    (0, codes "Processor Hierarchy Node Structure")
    ∷ (1, codes "Cache Type Structure")
    ∷ (2, codes "ID Structure")
    ∷ []

abbrev pub rhct_kinds : List (ℕ × List ℕ)
rhct_kinds =
    (0, codes "ISA String Node")
    ∷ (1, codes "CMO Extension Node")
    ∷ (2, codes "MMU Node")
    ∷ (65535, codes "Hart Info Node")
    ∷ []

-- the nodes of VIOT (ACPI 6.5, 5.2.32)
abbrev pub viot_kinds : List (ℕ × List ℕ)
viot_kinds =
    (1, codes "PCI Range Node")
    ∷ (2, codes "Single MMIO Endpoint Node")
    ∷ (3, codes "virtio-iommu based on virtio-pci Node")
    ∷ (4, codes "virtio-iommu based on virtio-mmio Node")
    ∷ []

abbrev pub rimt_kinds : List (ℕ × List ℕ)
rimt_kinds = (0, codes "RISC-V IOMMU") ∷ (1, codes "PCIe Root Complex") ∷ (2, codes "Platform Device") ∷ []

-- the structures of HMAT (ACPI 6.5, 5.2.28)
abbrev pub hmat_kinds : List (ℕ × List ℕ)
hmat_kinds =
    (0, codes "Memory Proximity Domain Attributes Structure")
    ∷ (1, codes "System Locality Latency and Bandwidth Information Structure")
    ∷ (2, codes "Memory Side Cache Information Structure")
    ∷ []

-- the platform timers of GTDT (ACPI 6.5, 5.2.25)
abbrev pub gtdt_kinds : List (ℕ × List ℕ)
gtdt_kinds = (0, codes "GT Block Structure") ∷ (1, codes "Arm Generic Watchdog Structure") ∷ []

-- the nodes of IORT (Arm DEN0049E.d)
abbrev pub iort_kinds : List (ℕ × List ℕ)
iort_kinds =
    (0, codes "ITS Group")
    ∷ (1, codes "Named Component")
    ∷ (2, codes "Root Complex")
    ∷ (3, codes "SMMUv1 or SMMUv2")
    ∷ (4, codes "SMMUv3")
    ∷ (5, codes "Performance Monitoring Counter Group (PMCG)")
    ∷ (6, codes "Reserved Memory Range (RMR)")
    ∷ (7, codes "Interrupt Wire Bridge (IWB)")
    ∷ []

-- ---- tables that are written

abbrev pub xsdt_names : Named
xsdt_names = named_as the_xsdt "XSDT" "Extended System Description Table (XSDT)" (one_kind "Entry")

abbrev pub fadt_names : Named
fadt_names = named_as the_fadt "FACP" "Fixed ACPI Description Table (FADT)" []

abbrev pub facs_names : Named
facs_names = named_as the_facs "FACS" "Firmware ACPI Control Structure (FACS)" []

abbrev pub dsdt_names : Named
dsdt_names = named_as the_header "DSDT" "Differentiated System Description Table (DSDT)" []

abbrev pub ssdt_names : Named
ssdt_names = named_as the_header "SSDT" "Secondary System Description Table (SSDT)" []

abbrev pub bert_names : Named
bert_names = named_as the_bert "BERT" "Boot Error Record Table (BERT)" []

abbrev pub spcr_names : Named
spcr_names = named_as the_spcr "SPCR" "Serial Port Console Redirection Table (SPCR)" []

abbrev pub tcpa_names : Named
tcpa_names = named_as the_tcpa "TCPA" "Trusted Computing Platform Alliance Capabilities Table (TCPA)" []

abbrev pub tpm2_names : Named
tpm2_names = named_as the_tpm2 "TPM2" "Trusted Platform Module 2 Table (TPM2)" []

abbrev pub mcfg_names : Named
mcfg_names =
    named_as the_mcfg "MCFG" "PCI Express Memory Mapped Configuration Table (MCFG)"
    (one_kind "Configuration Space Base Address Allocation Structure")

abbrev pub srat_names : Named
srat_names = named_as the_srat "SRAT" "System Resource Affinity Table (SRAT)" srat_kinds

abbrev pub cedt_names : Named
cedt_names = named_as the_cedt "CEDT" "CXL Early Discovery Table (CEDT)" cedt_kinds

abbrev pub madt_names : Named
madt_names = named_as the_madt "APIC" "Multiple APIC Description Table (MADT)" madt_kinds

abbrev pub hest_names : Named
hest_names = named_as the_hest "HEST" "Hardware Error Source Table (HEST)" hest_kinds

abbrev pub rqsc_names : Named
rqsc_names = named_as the_rqsc "RQSC" "RISC-V Quality of Service Controllers Table (RQSC) (this project's profile)" rqsc_kinds

abbrev pub pptt_names : Named
pptt_names = named_as the_pptt "PPTT" "Processor Properties Topology Table (PPTT)" pptt_kinds

abbrev pub rhct_names : Named
rhct_names = named_as the_rhct "RHCT" "RISC-V Hart Capabilities Table (RHCT)" rhct_kinds

abbrev pub viot_names : Named
viot_names = named_as the_viot "VIOT" "Virtual I/O Translation Table (VIOT)" viot_kinds

abbrev pub rimt_names : Named
rimt_names = named_as the_rimt "RIMT" "RISC-V IO Mapping Table (RIMT) (this project's profile)" rimt_kinds

abbrev pub hmat_names : Named
hmat_names = named_as the_hmat "HMAT" "Heterogeneous Memory Attribute Table (HMAT)" hmat_kinds

abbrev pub slit_names : Named
slit_names = named_as the_slit "SLIT" "System Locality Information Table (SLIT)" []

abbrev pub gtdt_names : Named
gtdt_names = named_as the_gtdt "GTDT" "Generic Timer Description Table (GTDT)" gtdt_kinds

-- those of revision 1 or 2
abbrev pub earlier_gtdt_names : Named
earlier_gtdt_names = named_as the_earlier_gtdt "GTDT" "Generic Timer Description Table (GTDT)" gtdt_kinds

abbrev pub dbg2_names : Named
dbg2_names = named_as the_dbg2 "DBG2" "Debug Port Table 2 (DBG2)" (one_kind "Debug Device Information Structure")

abbrev pub iort_names : Named
iort_names = named_as the_iort "IORT" "IO Remapping Table (IORT)" iort_kinds

abbrev pub hpet_names : Named
hpet_names = named_as the_hpet "HPET" "IA-PC High Precision Event Timer Table (HPET)" []

abbrev pub waet_names : Named
waet_names = named_as the_waet "WAET" "Windows ACPI Emulated Devices Table (WAET)" []

abbrev pub bgrt_names : Named
bgrt_names = named_as the_bgrt "BGRT" "Boot Graphics Resource Table (BGRT)" []

abbrev pub wsmt_names : Named
wsmt_names = named_as the_wsmt "WSMT" "Windows SMM Security Mitigations Table (WSMT)" []

abbrev pub rsdp_names : Named
rsdp_names = named_as the_rsdp "RSD PTR " "Root System Description Pointer (RSDP)" []

-- a table of another signature
abbrev pub unknown : Named
unknown = named_as the_header "" "Unknown table" []

-- tables of fixed size, and of structures that don't name each other
abbrev pub tables : List Named
tables =
    xsdt_names
    ∷ fadt_names
    ∷ facs_names
    ∷ dsdt_names
    ∷ ssdt_names
    ∷ bert_names
    ∷ spcr_names
    ∷ tcpa_names
    ∷ tpm2_names
    ∷ mcfg_names
    ∷ madt_names
    ∷ srat_names
    ∷ cedt_names
    ∷ []

-- tables of errors, of nodes and of matrices
abbrev pub node_tables : List Named
node_tables =
    hest_names
    ∷ rqsc_names
    ∷ pptt_names
    ∷ rhct_names
    ∷ viot_names
    ∷ rimt_names
    ∷ hmat_names
    ∷ slit_names
    ∷ []

-- tables of an Arm machine
abbrev pub arm_tables : List Named
arm_tables = gtdt_names ∷ dbg2_names ∷ iort_names ∷ []

-- tables for the timers, the firmware and the devices of a PC
abbrev pub pc_tables : List Named
pc_tables = hpet_names ∷ waet_names ∷ bgrt_names ∷ wsmt_names ∷ []

-- ---- the names of a signature

-- the names of the tables of a signature that are only read, by the lists of these
abbrev pub named_memory : ℕ → Named
named_memory s = find_named s memory_tables unknown

abbrev pub named_devices : ℕ → Named
named_devices s = find_named s devices_tables (named_memory s)

abbrev pub named_arm_errors : ℕ → Named
named_arm_errors s = find_named s arm_errors_tables (named_devices s)

abbrev pub named_arm_faults : ℕ → Named
named_arm_faults s = find_named s arm_faults_tables (named_arm_errors s)

abbrev pub named_faults : ℕ → Named
named_faults s = find_named s faults_tables (named_arm_faults s)

abbrev pub named_security : ℕ → Named
named_security s = find_named s security_tables (named_faults s)

abbrev pub named_boot : ℕ → Named
named_boot s = find_named s boot_tables (named_security s)

-- the names of the tables of a signature that are written, too, by the lists of these
abbrev pub named_pc : ℕ → Named
named_pc s = find_named s pc_tables (named_boot s)

abbrev pub named_arm : ℕ → Named
named_arm s = find_named s arm_tables (named_pc s)

abbrev pub named_node : ℕ → Named
named_node s = find_named s node_tables (named_arm s)

-- the names of the tables of a signature, which is given as a number, lowest byte first
unfoldable pub names_of : ℕ → Named
names_of s = find_named s tables (named_node s)
