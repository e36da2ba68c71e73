-- The numbers that the standard allows, and the findings of a table.
use Rattle.std.specs.Prelude.{ℕ, List, [], ◌∷◌, ◌++◌, Option, codes}
use Prim.Native.String.{String}
use Rattle.acpi_base.specs.declared.walk.Place.TheVariants.{Nowhere, Byte, Word, DWord}
use Rattle.acpi_base.specs.declared.walk.Walk.{Walk}
use Rattle.acpi_text.specs.declared.form.Count.TheVariants.{Field}
use Rattle.acpi_text.specs.declared.form.TableForm.{TableForm}
use Rattle.acpi_rules.specs.declared.demand.Among.{Among}
use Rattle.acpi_rules.specs.declared.demand.Of.{Of}
use Rattle.acpi_rules.specs.declared.demand.Of.TheVariants.{Whole, Each, Kind, Entries}
use Rattle.acpi_rules.specs.declared.demand.When.{When}
use Rattle.acpi_rules.specs.declared.demand.When.TheVariants.{Always, Is, Not}
use Rattle.acpi_rules.specs.Demand.{Spot, Demand, Relation, differs, differs_with, apart, disjoint, at_most, addresses, blocks}
use Rattle.acpi_rules.specs.Demand.{counts, agrees, needed, needs, between, inside, multiple, not_all, all, points, refers, ends}
use Rattle.acpi_rules.specs.Demand.{differs_in, distances, includes, terminated, terminated_at, terminated_before}
use Rattle.acpi_rules.specs.Field.{table_fields}
use Rattle.acpi_rules.specs.Finding.{Finding}
use Rattle.acpi_rules.specs.Relation.{relations_findings}
use Rattle.acpi_rules.specs.Rules.{Allowed, Limit, fields_findings}

abbrev pub allow : String → ℕ → String → ℕ → ℕ → Allowed
allow table offset name from to = record { table = codes table; offset = offset; name = codes name; from = from; to = to }

-- Numbers that are allowed, although a form has no name for them.
abbrev pub allowed_numbers : List Allowed
allowed_numbers =
    -- Address spaces of an OEM (ACPI 6.5, 5.2.3.2).
    allow "" 0 "Address Space ID" 192 255
    -- INT_MODEL of ACPI 1.0 (5.2.9).
    ∷ allow "FACP" 44 "Reserved" 1 1
    -- The structure of a GICC in ACPI 5.0 to 6.4, and that of a Multiprocessor Wakeup in ACPI 6.6.
    ∷ allow "APIC" 0 "Length" 40 40
    ∷ allow "APIC" 0 "Length" 76 76
    ∷ allow "APIC" 0 "Length" 80 80
    ∷ allow "APIC" 0 "Length" 24 24
    -- A cache of ACPI 6.2 and 6.3.
    ∷ allow "PPTT" 0 "Length" 24 24
    -- A table without a PM timer.
    ∷ allow "FACP" 91 "PM_TMR_LEN" 0 0
    -- Features of a vendor (5.2.21).
    ∷ allow "RAS2" 0 "Feature Type" 128 255
    -- Methods of vendors, and methods of Arm and AMD (TCG ACPI Specification 1.4, 8).
    ∷ allow "TPM2" 0 "Start Method" 3 5
    ∷ allow "TPM2" 0 "Start Method" 9 11
    ∷ allow "TPM2" 0 "Start Method" 13 13
    ∷ allow "TPM2" 0 "Start Method" 15 15
    ∷ []

-- a range that holds in all tables of a signature
abbrev pub always : String → ℕ → String → ℕ → ℕ → String → Limit
always table offset name from to section = record {
  table = codes table;
  offset = offset;
  name = codes name;
  from = from;
  to = to;
  place = Nowhere;
  mask = 0;
  is = 0;
  section = codes section;
}

-- The length of the tables of a revision, which stands at offset 8.
abbrev pub length_of : String → ℕ → ℕ → String → Limit
length_of table revision size section = record {
  table = codes table;
  offset = 4;
  name = codes "Length";
  from = size;
  to = size;
  place = Byte 8;
  mask = 255;
  is = revision;
  section = codes section;
}

-- a range in a FADT whose flag HW_REDUCED_ACPI isn't set (ACPI 6.5, 5.2.9)
abbrev pub unless_reduced : ℕ → String → ℕ → ℕ → String → Limit
unless_reduced offset name from to section = record {
  table = codes "FACP";
  offset = offset;
  name = codes name;
  from = from;
  to = to;
  place = DWord 112;
  mask = 0x100000;
  is = 0;
  section = codes section;
}

-- The ranges of numbers in the fields of tables.
abbrev pub ranges : List Limit
ranges =
    length_of "FACP" 1 116 "ACPI 6.5, 5.2.9"
    ∷ length_of "FACP" 3 244 "ACPI 6.5, 5.2.9"
    ∷ length_of "FACP" 4 244 "ACPI 6.5, 5.2.9"
    ∷ length_of "FACP" 5 268 "ACPI 6.5, 5.2.9"
    ∷ length_of "FACP" 6 276 "ACPI 6.5, 5.2.9"
    ∷ unless_reduced 88 "PM1_EVT_LEN" 4 255 "ACPI 6.5, 5.2.9"
    ∷ unless_reduced 89 "PM1_CNT_LEN" 2 255 "ACPI 6.5, 5.2.9"
    ∷ unless_reduced 91 "PM_TMR_LEN" 4 4 "ACPI 6.5, 5.2.9"
    ∷ length_of "BERT" 1 48 "ACPI 6.5, 18.3.1"
    ∷ length_of "BGRT" 1 56 "ACPI 6.5, 5.2.23"
    ∷ length_of "CCEL" 1 56 "ACPI 6.5, 5.2.34"
    ∷ length_of "SBST" 1 48 "ACPI 6.5, 5.2.14"
    ∷ length_of "HPET" 1 56 "IA-PC HPET 1.0a, 3.2.4"
    ∷ length_of "WAET" 1 40 "WAET 1.2"
    ∷ length_of "WSMT" 1 40 "WSMT 1.0"
    ∷ length_of "BOOT" 1 40 "BOOT 2.1"
    ∷ length_of "DBGP" 1 52 "DBGP 1.0"
    ∷ always "SRAT" 36 "Reserved" 1 1 "ACPI 6.5, 5.2.16"
    ∷ always "XSDT" 0 "Entry" 1 0xffffffffffffffff "ACPI 6.5, 5.2.8"
    ∷ always "RSDT" 0 "Entry" 1 0xffffffff "ACPI 6.5, 5.2.7"
    ∷ always "APIC" 0 "I/O APIC Address" 1 0xffffffff "ACPI 6.5, 5.2.12.3"
    ∷ always "APIC" 0 "Source" 0 15 "ACPI 6.5, 5.2.12.5"
    ∷ always "HEST" 0 "Number of Records to Pre-allocate" 1 0xffffffff "ACPI 6.5, 18.3.2"
    ∷ always "HEST" 0 "Max Sections Per Record" 1 0xffffffff "ACPI 6.5, 18.3.2"
    ∷ always "HMAT" 0 "Entry Base Unit" 1 0xffffffffffffffff "ACPI 6.5, 5.2.28.4"
    ∷ always "GTDT" 0 "GT Block Timer Count" 0 8 "ACPI 6.5, 5.2.25.1"
    ∷ always "GTDT" 0 "GT Frame Number" 0 7 "ACPI 6.5, 5.2.25.1"
    ∷ always "HPET" 44 "Address" 1 0xffffffffffffffff "IA-PC HPET 1.0a, 3.2.4"
    ∷ always "MCFG" 0 "Base Address" 1 0xffffffffffffffff "PCI Firmware 3.3, 4.1.2"
    ∷ []

abbrev pub spot : ℕ → ℕ → String → Spot
spot offset width name = record { offset = offset; width = width; name = codes name }

abbrev pub rule : String → Of → When → Spot → Demand → String → Relation
rule table of when spot demand section = record {
  table = codes table;
  among = record { of = of; when = when };
  spot = spot;
  demand = demand;
  section = codes section;
}

-- ---- rules on several fields

-- Numbers and addresses that no two structures of a MADT have.
unfoldable pub numbered : List Relation
numbered =
    rule "APIC" (Kind 0) (Is (DWord 4) 1 1) (spot 2 1 "ACPI Processor UID") differs "ACPI 6.5, 5.2.12.2"
    ∷ rule "APIC" (Kind 0) (Is (DWord 4) 1 1) (spot 3 1 "APIC ID") differs "ACPI 6.5, 5.2.12.2"
    ∷ rule "APIC" (Kind 1) Always (spot 2 1 "I/O APIC ID") differs "ACPI 6.5, 5.2.12.3"
    ∷ rule "APIC" (Kind 1) Always (spot 4 4 "I/O APIC Address") differs "ACPI 6.5, 5.2.12.3"
    ∷ rule "APIC" (Kind 1) Always (spot 8 4 "Global System Interrupt Base") differs "ACPI 6.5, 5.2.12.3"
    ∷ rule "APIC" (Kind 2) Always (spot 3 1 "Source") differs "ACPI 6.5, 5.2.12.5"
    ∷ rule "APIC" (Kind 6) Always (spot 4 4 "Global System Interrupt Base") differs "ACPI 6.5, 5.2.12.9"
    ∷ rule "APIC" (Kind 6) Always (spot 8 8 "I/O SAPIC Address") differs "ACPI 6.5, 5.2.12.9"
    ∷ rule "APIC" (Kind 7) (Is (DWord 8) 1 1) (spot 3 2 "Local SAPIC ID") differs "ACPI 6.5, 5.2.12.10"
    ∷ rule "APIC" (Kind 9) (Is (DWord 8) 1 1) (spot 4 4 "X2APIC ID") differs "ACPI 6.5, 5.2.12.12"
    ∷ rule "APIC" (Kind 9) (Is (DWord 8) 1 1) (spot 12 4 "ACPI Processor UID") differs "ACPI 6.5, 5.2.12.12"
    ∷ rule "APIC" (Kind 11) (Is (DWord 12) 1 1) (spot 8 4 "ACPI Processor UID") differs "ACPI 6.5, 5.2.12.14"
    ∷ rule "APIC" (Kind 11) (Is (DWord 12) 1 1) (spot 68 8 "MPIDR") differs "ACPI 6.5, 5.2.12.14"
    ∷ rule "APIC" (Kind 13) Always (spot 4 4 "GIC MSI Frame ID") differs "ACPI 6.5, 5.2.12.16"
    ∷ rule "APIC" (Kind 15) Always (spot 4 4 "GIC ITS ID") differs "ACPI 6.5, 5.2.12.18"
    ∷ rule "APIC" (Kind 17) (Is (DWord 11) 1 1) (spot 3 4 "ACPI Processor ID") differs "ACPI 6.5, 5.2.12.20"
    ∷ rule "APIC" (Kind 17) (Is (DWord 11) 1 1) (spot 7 4 "Physical Processor ID") differs "ACPI 6.5, 5.2.12.20"
    ∷ rule "APIC" (Kind 24) (Is (DWord 4) 1 1) (spot 8 8 "Hart ID") differs "ACPI 6.6, 5.2.12"
    ∷ rule "APIC" (Kind 24) (Is (DWord 4) 1 1) (spot 16 4 "ACPI Processor UID") differs "ACPI 6.6, 5.2.12"
    ∷ rule "APIC" (Kind 26) Always (spot 3 1 "APLIC ID") differs "ACPI 6.6, 5.2.12"
    ∷ rule "APIC" (Kind 26) Always (spot 20 4 "Global System Interrupt Base") differs "ACPI 6.6, 5.2.12"
    ∷ rule "APIC" (Kind 27) Always (spot 3 1 "PLIC ID") differs "ACPI 6.6, 5.2.12"
    ∷ rule "APIC" (Kind 27) Always (spot 32 4 "Global System Interrupt Base") differs "ACPI 6.6, 5.2.12"
    -- An address override and a distributor, of which there is one.
    ∷ rule "APIC" (Kind 5) Always (spot 0 1 "Type") differs "ACPI 6.5, 5.2.12.8"
    ∷ rule "APIC" (Kind 12) Always (spot 0 1 "Type") differs "ACPI 6.5, 5.2.12.15"
    -- Ranges of redistributors.
    ∷ rule "APIC" (Kind 14) Always (spot 4 8 "Discovery Range Base Address") (disjoint (spot 12 4 "Discovery Range Length"))
    "ACPI 6.5, 5.2.12.17"
    ∷ []

-- Numbers and addresses that no two structures of another table have.
unfoldable pub different : List Relation
different =
    rule "SRAT" (Kind 0) (Is (DWord 4) 1 1) (spot 3 1 "APIC ID") (differs_with (spot 8 1 "Local SAPIC EID")) "ACPI 6.5, 5.2.16.1"
    ∷ rule "SRAT" (Kind 2) (Is (DWord 12) 1 1) (spot 8 4 "X2APIC ID") differs "ACPI 6.5, 5.2.16.3"
    ∷ rule "SRAT" (Kind 3) (Is (DWord 10) 1 1) (spot 6 4 "ACPI Processor UID") differs "ACPI 6.5, 5.2.16.4"
    ∷ rule "SRAT" (Kind 4) Always (spot 8 4 "ITS ID") differs "ACPI 6.5, 5.2.16.5"
    ∷ rule "SRAT" (Kind 7) (Is (DWord 12) 1 1) (spot 8 4 "ACPI Processor UID") differs "ACPI 6.6, 5.2.16"
    ∷ rule "PPTT" (Kind 0) (Is (DWord 4) 10 10) (spot 12 4 "ACPI Processor ID") differs "ACPI 6.5, 5.2.30.1"
    ∷ rule "PPTT" (Kind 1) (Is (DWord 4) 128 128) (spot 24 4 "Cache ID") differs "ACPI 6.5, 5.2.30.2"
    ∷ rule "HEST" Each Always (spot 2 2 "Source Id") differs "ACPI 6.5, 18.3.2"
    -- Frames of a block of timers.
    ∷ rule "GTDT" (Entries 0 (DWord 16) 20 (Field (DWord 12)) 40) Always (spot 0 1 "GT Frame Number") (differs_in 0)
    "ACPI 6.5, 5.2.25.1"
    ∷ rule "NFIT" (Kind 0) Always (spot 4 2 "SPA Range Structure Index") differs "ACPI 6.5, 5.2.26.2"
    ∷ rule "NFIT" (Kind 2) Always (spot 4 2 "Interleave Structure Index") differs "ACPI 6.5, 5.2.26.4"
    ∷ rule "NFIT" (Kind 4) Always (spot 4 2 "NVDIMM Control Region Structure Index") differs "ACPI 6.5, 5.2.26.6"
    ∷ rule "RHCT" (Kind 65535) Always (spot 8 4 "ACPI Processor UID") differs "ACPI 6.6"
    ∷ rule "CEDT" (Kind 0) Always (spot 4 4 "UID") differs "CXL 3.0, 9.17.1"
    ∷ rule "XSDT" Each Always (spot 0 8 "Entry") differs "ACPI 6.5, 5.2.8"
    ∷ rule "RSDT" Each Always (spot 0 4 "Entry") differs "ACPI 6.5, 5.2.7"
    ∷ rule "IORT" Each (Not (DWord 4) 0xffffffff 0) (spot 4 4 "Identifier") differs "Arm DEN0049E.d"
    ∷ rule "DMAR" (Kind 0) Always (spot 8 8 "Register Base Address") differs "VT-d 4.1, 8.3"
    -- A segment has one unit for all other devices.
    ∷ rule "DMAR" (Kind 0) (Is (Byte 4) 1 1) (spot 6 2 "Segment Number") differs "VT-d 4.1, 8.3"
    ∷ rule "LPIT" (Kind 0) Always (spot 8 2 "Unique ID") differs "Intel Low Power S0 Idle 1.1"
    ∷ rule "APMT" Each Always (spot 4 4 "Identifier") differs "Arm DEN0117"
    ∷ rule "MPAM" Each Always (spot 4 4 "Identifier") differs "Arm DEN0065"
    ∷ []

-- Ranges of a table that have nothing in common, or that end where they may.
unfoldable pub ordered : List Relation
ordered =
    -- Buses of a segment.
    rule "MCFG" Each Always (spot 10 1 "Start Bus Number")
    (apart (spot 8 2 "PCI Segment Group Number") (spot 11 1 "End Bus Number")) "PCI Firmware 3.3, 4.1.2"
    -- Ranges of addresses. A hot-pluggable range of a SRAT may have other ranges in it.
    ∷ rule "SRAT" (Kind 1) (Is (DWord 28) 3 1) (spot 8 8 "Base Address") (disjoint (spot 16 8 "Length")) "ACPI 6.5, 5.2.16.2"
    ∷ rule "CEDT" (Kind 0) Always (spot 16 8 "Base") (disjoint (spot 24 8 "Length")) "CXL 3.0, 9.17.1"
    ∷ rule "CEDT" (Kind 1) Always (spot 8 8 "Base HPA") (disjoint (spot 16 8 "Window Size")) "CXL 3.0, 9.17.1"
    -- Numbers that aren't greater than others.
    ∷ rule "MCFG" Each Always (spot 10 1 "Start Bus Number") (at_most (spot 11 1 "End Bus Number")) "PCI Firmware 3.3, 4.1.2"
    ∷ rule "DMAR" (Kind 1) Always (spot 8 8 "Reserved Memory Region Base Address")
    (at_most (spot 16 8 "Reserved Memory Region Limit Address")) "VT-d 4.1, 8.4"
    ∷ rule "MSCT" Each Always (spot 2 4 "Proximity Domain Range (low)") (at_most (spot 6 4 "Proximity Domain Range (high)"))
    "ACPI 6.5, 5.2.19"
    ∷ rule "VIOT" (Kind 1) Always (spot 8 2 "PCI Segment Start") (at_most (spot 10 2 "PCI Segment End")) "ACPI 6.5, 5.2.32"
    ∷ rule "VIOT" (Kind 1) Always (spot 12 2 "PCI BDF Start") (at_most (spot 14 2 "PCI BDF End")) "ACPI 6.5, 5.2.32"
    ∷ rule "WDAT" Whole Always (spot 56 4 "Minimum Count") (at_most (spot 52 4 "Maximum Count"))
    "Hardware Watchdog Timers Design Specification"
    -- Ranges of addresses that end before 2^64.
    ∷ rule "SRAT" (Kind 1) (Is (DWord 28) 1 1) (spot 8 8 "Base Address") (addresses (spot 16 8 "Length")) "ACPI 6.5, 5.2.16.2"
    ∷ rule "NFIT" (Kind 0) Always (spot 32 8 "System Physical Address Range Base")
    (addresses (spot 40 8 "System Physical Address Range Length")) "ACPI 6.5, 5.2.26.2"
    ∷ rule "BERT" Whole Always (spot 40 8 "Boot Error Region") (addresses (spot 36 4 "Boot Error Region Length"))
    "ACPI 6.5, 18.3.1"
    ∷ rule "CCEL" Whole Always (spot 48 8 "Log Area Start Address") (addresses (spot 40 8 "Log Area Minimum Length"))
    "ACPI 6.5, 5.2.34"
    ∷ rule "PCCT" (Kind 0) Always (spot 8 8 "Base Address") (addresses (spot 16 8 "Memory Length")) "ACPI 6.5, 14.1.3"
    ∷ rule "PCCT" (Kind 1) Always (spot 8 8 "Base Address") (addresses (spot 16 8 "Memory Length")) "ACPI 6.5, 14.1.4"
    ∷ rule "PCCT" (Kind 2) Always (spot 8 8 "Base Address") (addresses (spot 16 8 "Memory Length")) "ACPI 6.5, 14.1.5"
    ∷ rule "CEDT" (Kind 0) Always (spot 16 8 "Base") (addresses (spot 24 8 "Length")) "CXL 3.0, 9.17.1"
    ∷ rule "CEDT" (Kind 1) Always (spot 8 8 "Base HPA") (addresses (spot 16 8 "Window Size")) "CXL 3.0, 9.17.1"
    ∷ rule "IORT" (Kind 3) Always (spot 16 8 "Base Address") (addresses (spot 24 8 "Span")) "Arm DEN0049E.d"
    ∷ rule "IORT" (Entries 6 (DWord 24) 28 (Field (DWord 20)) 20) Always (spot 0 8 "Physical Range Offset")
    (addresses (spot 8 8 "Physical Range Length")) "Arm DEN0049E.d"
    ∷ rule "IVRS" (Kind 32) Always (spot 16 8 "IVMD Start Address") (addresses (spot 24 8 "IVMD Memory Block Length"))
    "AMD 48882, 5.2"
    ∷ rule "IVRS" (Kind 33) Always (spot 16 8 "IVMD Start Address") (addresses (spot 24 8 "IVMD Memory Block Length"))
    "AMD 48882, 5.2"
    ∷ rule "IVRS" (Kind 34) Always (spot 16 8 "IVMD Start Address") (addresses (spot 24 8 "IVMD Memory Block Length"))
    "AMD 48882, 5.2"
    ∷ rule "TPM2" Whole Always (spot 68 8 "Log Area Start Address") (addresses (spot 64 4 "Log Area Minimum Length"))
    "TCG ACPI Specification 1.4, 8"
    -- Buses of 1 MiB from bus 0 on, which begins at the base address also if the first bus is another one.
    ∷ rule "MCFG" Each Always (spot 0 8 "Base Address") (blocks (spot 11 1 "End Bus Number") 0x100000) "PCI Firmware 3.3, 4.1.2"
    ∷ []

-- Structures that have as many entries as they say, and the bytes of which they have the offsets.
unfoldable pub counted : List Relation
counted =
    rule "PPTT" (Kind 0) Always (spot 16 4 "Number of private resources") (counts 20 4) "ACPI 6.5, 5.2.30.1"
    ∷ rule "HMAT" (Kind 1) Always (spot 12 4 "Number of Initiator Proximity Domains") (counts 32 4) "ACPI 6.5, 5.2.28.4"
    ∷ rule "HMAT" (Kind 1) Always (spot 16 4 "Number of Target Proximity Domains") (counts 32 4) "ACPI 6.5, 5.2.28.4"
    ∷ rule "HMAT" (Kind 2) Always (spot 30 2 "Number of SMBIOS Handles") (counts 32 2) "ACPI 6.5, 5.2.28.5"
    ∷ rule "NFIT" (Kind 2) Always (spot 8 4 "Number of Lines Described") (counts 16 4) "ACPI 6.5, 5.2.26.4"
    ∷ rule "NFIT" (Kind 6) Always (spot 8 2 "Number of Flush Hint Addresses") (counts 16 8) "ACPI 6.5, 5.2.26.8"
    ∷ rule "GTDT" (Kind 0) Always (spot 12 4 "GT Block Timer Count") (counts 20 40) "ACPI 6.5, 5.2.25.1"
    ∷ rule "RHCT" (Kind 0) Always (spot 6 2 "ISA string length") (counts 8 1) "ACPI 6.6"
    ∷ rule "RHCT" (Kind 65535) Always (spot 6 2 "Number of offsets") (counts 12 4) "ACPI 6.6"
    ∷ rule "CEDT" (Kind 2) Always (spot 7 1 "Number of Bitmap Entries") (counts 8 8) "CXL 3.0, 9.17.1"
    ∷ rule "IORT" (Kind 0) Always (spot 16 4 "Number of ITSs") (counts 20 4) "Arm DEN0049E.d"
    ∷ rule "IORT" Each Always (spot 8 4 "Number of ID Mappings") (counts 16 20) "Arm DEN0049E.d"
    ∷ rule "IORT" (Kind 6) Always (spot 20 4 "Number of Memory Range Descriptors") (counts 28 20) "Arm DEN0049E.d"
    ∷ rule "DBG2" Each Always (spot 3 1 "NumberofGenericAddressRegisters") (counts 22 12) "Microsoft DBG2"
    ∷ rule "DBG2" Each Always (spot 4 2 "NamespaceStringLength") (counts 22 1) "Microsoft DBG2"
    ∷ rule "DBG2" Each Always (spot 8 2 "OemDataLength") (counts 22 1) "Microsoft DBG2"
    -- A node has 32 bytes at least.
    ∷ rule "MPST" Whole Always (spot 40 2 "Memory Power Node Count") (counts 44 32) "ACPI 6.5, 5.2.22"
    -- Bytes at an offset.
    ∷ rule "SDEV" (Kind 0) Always (spot 4 2 "Device Identifier Offset") (inside (spot 6 2 "Device Identifier Length") 1)
    "ACPI 6.5, 5.2.27"
    ∷ rule "SDEV" (Kind 0) Always (spot 8 2 "Vendor Specific Data Offset") (inside (spot 10 2 "Vendor Specific Data Length") 1)
    "ACPI 6.5, 5.2.27"
    ∷ rule "SDEV" (Kind 0) (Is (Byte 1) 2 2) (spot 12 2 "Secure Access Components Offset")
    (inside (spot 14 2 "Secure Access Components Length") 1) "ACPI 6.5, 5.2.27"
    ∷ rule "SDEV" (Kind 1) Always (spot 8 2 "PCI Path Offset") (inside (spot 10 2 "PCI Path Length") 1) "ACPI 6.5, 5.2.27"
    ∷ rule "SDEV" (Kind 1) Always (spot 12 2 "Vendor Specific Data Offset") (inside (spot 14 2 "Vendor Specific Data Length") 1)
    "ACPI 6.5, 5.2.27"
    ∷ rule "DBG2" Each Always (spot 6 2 "NamespaceStringOffset") (inside (spot 4 2 "NamespaceStringLength") 1) "Microsoft DBG2"
    ∷ rule "DBG2" Each Always (spot 10 2 "OemDataOffset") (inside (spot 8 2 "OemDataLength") 1) "Microsoft DBG2"
    ∷ rule "DBG2" Each Always (spot 18 2 "BaseAddressRegisterOffset")
    (inside (spot 3 1 "NumberofGenericAddressRegisters") 12) "Microsoft DBG2"
    ∷ rule "DBG2" Each Always (spot 20 2 "AddressSizeOffset") (inside (spot 3 1 "NumberofGenericAddressRegisters") 4)
    "Microsoft DBG2"
    ∷ rule "SPCR" Whole Always (spot 86 2 "NamespaceStringOffset") (inside (spot 84 2 "NamespaceStringLength") 1) "Microsoft SPCR"
    -- Distances (5.2.17).
    ∷ rule "SLIT" Whole Always (spot 36 8 "Number of System Localities") (distances (spot 44 1 "Distances from a Locality"))
    "ACPI 6.5, 5.2.17"
    ∷ []

-- Fields of a FADT that depend on each other.
unfoldable pub paired : List Relation
paired =
    -- Two fields have the same address, unless one is zero. Those of a register block are compared if it is in System I/O space.
    rule "FACP" Whole Always (spot 36 4 "FIRMWARE_CTRL") (agrees (spot 132 8 "X_FIRMWARE_CTRL")) "ACPI 6.5, 5.2.9"
    ∷ rule "FACP" Whole Always (spot 40 4 "DSDT") (agrees (spot 140 8 "X_DSDT")) "ACPI 6.5, 5.2.9"
    ∷ rule "FACP" Whole (Is (Byte 148) 255 1) (spot 56 4 "PM1a_EVT_BLK") (agrees (spot 152 8 "X_PM1a_EVT_BLK"))
    "ACPI 6.5, 5.2.9"
    ∷ rule "FACP" Whole (Is (Byte 160) 255 1) (spot 60 4 "PM1b_EVT_BLK") (agrees (spot 164 8 "X_PM1b_EVT_BLK"))
    "ACPI 6.5, 5.2.9"
    ∷ rule "FACP" Whole (Is (Byte 172) 255 1) (spot 64 4 "PM1a_CNT_BLK") (agrees (spot 176 8 "X_PM1a_CNT_BLK"))
    "ACPI 6.5, 5.2.9"
    ∷ rule "FACP" Whole (Is (Byte 184) 255 1) (spot 68 4 "PM1b_CNT_BLK") (agrees (spot 188 8 "X_PM1b_CNT_BLK"))
    "ACPI 6.5, 5.2.9"
    ∷ rule "FACP" Whole (Is (Byte 196) 255 1) (spot 72 4 "PM2_CNT_BLK") (agrees (spot 200 8 "X_PM2_CNT_BLK")) "ACPI 6.5, 5.2.9"
    ∷ rule "FACP" Whole (Is (Byte 208) 255 1) (spot 76 4 "PM_TMR_BLK") (agrees (spot 212 8 "X_PM_TMR_BLK")) "ACPI 6.5, 5.2.9"
    ∷ rule "FACP" Whole (Is (Byte 220) 255 1) (spot 80 4 "GPE0_BLK") (agrees (spot 224 8 "X_GPE0_BLK")) "ACPI 6.5, 5.2.9"
    ∷ rule "FACP" Whole (Is (Byte 232) 255 1) (spot 84 4 "GPE1_BLK") (agrees (spot 236 8 "X_GPE1_BLK")) "ACPI 6.5, 5.2.9"
    -- Fields that aren't zero, unless the flag HW_REDUCED_ACPI is set.
    ∷ rule "FACP" Whole (Is (DWord 112) 0x100000 0) (spot 56 4 "PM1a_EVT_BLK") (needed (spot 152 8 "X_PM1a_EVT_BLK"))
    "ACPI 6.5, 5.2.9"
    ∷ rule "FACP" Whole (Is (DWord 112) 0x100000 0) (spot 64 4 "PM1a_CNT_BLK") (needed (spot 176 8 "X_PM1a_CNT_BLK"))
    "ACPI 6.5, 5.2.9"
    ∷ rule "FACP" Whole (Is (DWord 112) 0x100000 0) (spot 52 1 "ACPI_ENABLE") (needs (spot 48 4 "SMI_CMD")) "ACPI 6.5, 5.2.9"
    ∷ rule "FACP" Whole (Is (DWord 112) 0x100000 0) (spot 53 1 "ACPI_DISABLE") (needs (spot 48 4 "SMI_CMD")) "ACPI 6.5, 5.2.9"
    ∷ rule "FACP" Whole (Is (DWord 112) 0x100000 0) (spot 54 1 "S4BIOS_REQ") (needs (spot 48 4 "SMI_CMD")) "ACPI 6.5, 5.2.9"
    ∷ rule "FACP" Whole (Is (DWord 112) 0x100000 0) (spot 55 1 "PSTATE_CNT") (needs (spot 48 4 "SMI_CMD")) "ACPI 6.5, 5.2.9"
    ∷ rule "FACP" Whole (Is (DWord 112) 0x100000 0) (spot 95 1 "CST_CNT") (needs (spot 48 4 "SMI_CMD")) "ACPI 6.5, 5.2.9"
    ∷ rule "FACP" Whole (Is (DWord 112) 0x100000 0) (spot 72 4 "PM2_CNT_BLK") (needs (spot 90 1 "PM2_CNT_LEN"))
    "ACPI 6.5, 5.2.9"
    ∷ rule "FACP" Whole (Is (DWord 112) 0x100000 0) (spot 76 4 "PM_TMR_BLK") (needs (spot 91 1 "PM_TMR_LEN")) "ACPI 6.5, 5.2.9"
    ∷ []

-- Fields that are multiples of numbers, or that have bits that are all set, or of which one is zero.
unfoldable pub aligned : List Relation
aligned =
    rule "FACP" Whole Always (spot 36 4 "FIRMWARE_CTRL") (multiple 64) "ACPI 6.5, 5.2.10"
    ∷ rule "FACP" Whole Always (spot 132 8 "X_FIRMWARE_CTRL") (multiple 64) "ACPI 6.5, 5.2.10"
    ∷ rule "FACP" Whole (Is (DWord 112) 0x100000 0) (spot 92 1 "GPE0_BLK_LEN") (multiple 2) "ACPI 6.5, 5.2.9"
    ∷ rule "FACP" Whole (Is (DWord 112) 0x100000 0) (spot 93 1 "GPE1_BLK_LEN") (multiple 2) "ACPI 6.5, 5.2.9"
    ∷ rule "DMAR" (Kind 0) Always (spot 8 8 "Register Base Address") (multiple 4096) "VT-d 4.1, 8.3"
    ∷ rule "DMAR" (Kind 1) Always (spot 8 8 "Reserved Memory Region Base Address") (multiple 4096) "VT-d 4.1, 8.4"
    ∷ rule "DMAR" (Kind 1) Always (spot 16 8 "Reserved Memory Region Limit Address") (all 4095) "VT-d 4.1, 8.4"
    ∷ rule "CEDT" (Kind 1) Always (spot 8 8 "Base HPA") (multiple 0x10000000) "CXL 3.0, 9.17.1"
    ∷ rule "CEDT" (Kind 1) Always (spot 16 8 "Window Size") (multiple 0x10000000) "CXL 3.0, 9.17.1"
    ∷ rule "IORT" (Entries 6 (DWord 24) 28 (Field (DWord 20)) 20) Always (spot 0 8 "Physical Range Offset") (multiple 0x10000)
    "Arm DEN0049E.d"
    ∷ rule "IORT" (Entries 6 (DWord 24) 28 (Field (DWord 20)) 20) Always (spot 8 8 "Physical Range Length") (multiple 0x10000)
    "Arm DEN0049E.d"
    ∷ rule "APIC" (Kind 16) Always (spot 8 8 "MailBoxAddress") (multiple 4096) "ACPI 6.5, 5.2.12.19"
    ∷ rule "MCFG" Each Always (spot 0 8 "Base Address") (multiple 0x100000) "PCI Firmware 3.3, 4.1.2"
    -- An enabled processor isn't Online Capable.
    ∷ rule "APIC" (Kind 0) Always (spot 4 4 "Flags") (not_all 3) "ACPI 6.5, 5.2.12.2"
    ∷ rule "APIC" (Kind 7) Always (spot 8 4 "Flags") (not_all 3) "ACPI 6.5, 5.2.12.10"
    ∷ rule "APIC" (Kind 9) Always (spot 8 4 "Flags") (not_all 3) "ACPI 6.5, 5.2.12.12"
    ∷ rule "APIC" (Kind 11) Always (spot 12 4 "Flags") (not_all 9) "ACPI 6.5, 5.2.12.14"
    ∷ rule "APIC" (Kind 24) Always (spot 4 4 "Flags") (not_all 3) "ACPI 6.6, 5.2.12"
    -- The Cache Level (bits 7:4) isn't above the Total Cache Levels (bits 3:0): it isn't 1 or 3 if these are 0, not 2 or 3 if
    -- they are 0 or 1, and not 3 if they are 2.
    ∷ rule "HMAT" (Kind 2) (Is (DWord 24) 15 0) (spot 24 4 "Cache Attributes") (not_all 16) "ACPI 6.5, 5.2.28.5"
    ∷ rule "HMAT" (Kind 2) (Is (DWord 24) 14 0) (spot 24 4 "Cache Attributes") (not_all 32) "ACPI 6.5, 5.2.28.5"
    ∷ rule "HMAT" (Kind 2) (Is (DWord 24) 15 2) (spot 24 4 "Cache Attributes") (not_all 48) "ACPI 6.5, 5.2.28.5"
    ∷ []

-- Fields whose range depends on other fields, or on the type of a structure.
unfoldable pub bounded : List Relation
bounded =
    rule "FACP" Whole (Is (DWord 112) 1024 1024) (spot 116 1 "Address Space ID") (between 0 2) "ACPI 6.5, 5.2.9"
    ∷ rule "FACP" Whole (Is (DWord 112) 1024 1024) (spot 117 1 "Register Bit Width") (between 8 8) "ACPI 6.5, 5.2.9"
    ∷ rule "FACP" Whole (Is (DWord 112) 1024 1024) (spot 118 1 "Register Bit Offset") (between 0 0) "ACPI 6.5, 5.2.9"
    ∷ rule "FACP" Whole (Not (DWord 248) 0xffffffff 0) (spot 244 1 "Address Space ID") (between 0 2) "ACPI 6.5, 5.2.9"
    ∷ rule "FACP" Whole (Not (DWord 248) 0xffffffff 0) (spot 245 1 "Register Bit Width") (between 8 8) "ACPI 6.5, 5.2.9"
    ∷ rule "FACP" Whole (Not (DWord 248) 0xffffffff 0) (spot 246 1 "Register Bit Offset") (between 0 0) "ACPI 6.5, 5.2.9"
    ∷ rule "ECDT" Whole Always (spot 36 1 "Address Space ID") (between 0 1) "ACPI 6.5, 5.2.15"
    ∷ rule "ECDT" Whole Always (spot 48 1 "Address Space ID") (between 0 1) "ACPI 6.5, 5.2.15"
    ∷ rule "HPET" Whole Always (spot 40 1 "Address Space ID") (between 0 1) "IA-PC HPET 1.0a, 3.2.4"
    ∷ rule "BGRT" Whole Always (spot 36 2 "Version") (between 1 1) "ACPI 6.5, 5.2.23"
    ∷ rule "APIC" Whole Always (spot 8 1 "Revision") (between 1 255) "ACPI 6.5, 5.2.12"
    ∷ rule "APIC" (Kind 4) Always (spot 5 1 "Local APIC LINT#") (between 0 1) "ACPI 6.5, 5.2.12.7"
    ∷ rule "APIC" (Kind 10) Always (spot 8 1 "Local x2APIC LINT#") (between 0 1) "ACPI 6.5, 5.2.12.13"
    ∷ rule "PPTT" (Kind 1) (Is (DWord 4) 128 128) (spot 24 4 "Cache ID") (between 1 0xffffffff) "ACPI 6.5, 5.2.30.2"
    ∷ rule "NFIT" (Kind 0) Always (spot 4 2 "SPA Range Structure Index") (between 1 65535) "ACPI 6.5, 5.2.26.2"
    ∷ rule "NFIT" (Kind 2) Always (spot 4 2 "Interleave Structure Index") (between 1 65535) "ACPI 6.5, 5.2.26.4"
    ∷ rule "NFIT" (Kind 4) Always (spot 4 2 "NVDIMM Control Region Structure Index") (between 1 65535) "ACPI 6.5, 5.2.26.6"
    ∷ rule "NFIT" (Kind 5) Always (spot 4 2 "NVDIMM Control Region Structure Index") (between 1 65535) "ACPI 6.5, 5.2.26.7"
    ∷ rule "PCCT" (Kind 0) Always (spot 16 8 "Memory Length") (between 9 0xffffffffffffffff) "ACPI 6.5, 14.1.3"
    ∷ rule "PCCT" (Kind 1) Always (spot 16 8 "Memory Length") (between 9 0xffffffffffffffff) "ACPI 6.5, 14.1.4"
    ∷ rule "PCCT" (Kind 2) Always (spot 16 8 "Memory Length") (between 9 0xffffffffffffffff) "ACPI 6.5, 14.1.5"
    ∷ rule "CEDT" (Kind 0) (Is (DWord 8) 0xffffffff 0) (spot 24 8 "Length") (between 8192 8192) "CXL 3.0, 9.17.1"
    ∷ rule "CEDT" (Kind 0) (Is (DWord 8) 0xffffffff 1) (spot 24 8 "Length") (between 0x10000 0x10000) "CXL 3.0, 9.17.1"
    ∷ rule "RHCT" Whole Always (spot 40 8 "Time Base Frequency") (between 1 0xffffffffffffffff) "ACPI 6.6"
    ∷ rule "TCPA" Whole (Is (Word 36) 65535 0) (spot 4 4 "Length") (between 50 50) "TCG ACPI Specification 1.4"
    ∷ rule "TCPA" Whole (Is (Word 36) 65535 1) (spot 4 4 "Length") (between 100 100) "TCG ACPI Specification 1.4"
    ∷ rule "RSD " Whole (Is (DWord 20) 0xffffffff 36) (spot 15 1 "Revision") (between 2 255) "ACPI 6.5, 5.2.5.3"
    ∷ []

-- Lengths that other fields determine, or that the standard states.
unfoldable pub sized : List Relation
sized =
    -- A window has as many targets as ways.
    rule "CEDT" (Kind 1) (Is (Byte 24) 255 0) (spot 2 2 "Record Length") (between 40 40) "CXL 3.0, 9.17.1"
    ∷ rule "CEDT" (Kind 1) (Is (Byte 24) 255 1) (spot 2 2 "Record Length") (between 44 44) "CXL 3.0, 9.17.1"
    ∷ rule "CEDT" (Kind 1) (Is (Byte 24) 255 2) (spot 2 2 "Record Length") (between 52 52) "CXL 3.0, 9.17.1"
    ∷ rule "CEDT" (Kind 1) (Is (Byte 24) 255 3) (spot 2 2 "Record Length") (between 68 68) "CXL 3.0, 9.17.1"
    ∷ rule "CEDT" (Kind 1) (Is (Byte 24) 255 4) (spot 2 2 "Record Length") (between 100 100) "CXL 3.0, 9.17.1"
    ∷ rule "CEDT" (Kind 1) (Is (Byte 24) 255 8) (spot 2 2 "Record Length") (between 48 48) "CXL 3.0, 9.17.1"
    ∷ rule "CEDT" (Kind 1) (Is (Byte 24) 255 9) (spot 2 2 "Record Length") (between 60 60) "CXL 3.0, 9.17.1"
    ∷ rule "CEDT" (Kind 1) (Is (Byte 24) 255 10) (spot 2 2 "Record Length") (between 84 84) "CXL 3.0, 9.17.1"
    -- The length of a header: with or without that of all tables in EINJ and ERST, as Linux takes both.
    ∷ rule "EINJ" Whole Always (spot 36 4 "Injection Header Size") (between 12 48) "ACPI 6.5, 18.6.1"
    ∷ rule "ERST" Whole Always (spot 36 4 "Serialization Header Size") (between 12 48) "ACPI 6.5, 18.5.1"
    ∷ rule "WDAT" Whole Always (spot 36 4 "Watchdog Header Length") (between 32 32)
    "Hardware Watchdog Timers Design Specification"
    ∷ rule "HEST" (Kind 9) Always (spot 33 1 "Length") (between 28 28) "ACPI 6.5, 18.3.2.9"
    ∷ rule "HEST" (Kind 10) Always (spot 33 1 "Length") (between 28 28) "ACPI 6.5, 18.3.2.9"
    ∷ []

-- Strings that end with a zero.
unfoldable pub strings : List Relation
strings =
    -- The numbers of their bytes, which count the zero, stand in fields.
    rule "DBG2" Each Always (spot 6 2 "NamespaceStringOffset") (terminated (spot 4 2 "NamespaceStringLength")) "Microsoft DBG2"
    ∷ rule "SPCR" Whole Always (spot 86 2 "NamespaceStringOffset") (terminated (spot 84 2 "NamespaceStringLength"))
    "Microsoft SPCR"
    ∷ rule "RHCT" (Kind 0) Always (spot 6 2 "ISA string length") (terminated_at 8) "ACPI 6.6"
    -- They end before the end of their structure or table, or before what follows them in it.
    ∷ rule "ECDT" Whole Always (spot 65 1 "EC_ID") (terminated_before 65 (spot 4 4 "Length")) "ACPI 6.5, 5.2.15"
    ∷ rule "DMAR" (Kind 4) Always (spot 8 1 "ACPI Object Name") (terminated_before 8 (spot 2 2 "Length")) "VT-d 4.1, 8.7"
    ∷ rule "IORT" (Kind 1) Always (spot 29 1 "Device Object Name") (terminated_before 29 (spot 12 4 "Reference to ID Array"))
    "Arm DEN0049E.d"
    ∷ rule "RIMT" (Kind 2) Always (spot 12 1 "Device Object Name") (terminated_before 12 (spot 8 2 "Offset of Mappings"))
    "RISC-V RIMT"
    ∷ []

-- Fields that are those of other structures of a table.
unfoldable pub referred : List Relation
referred =
    -- Offsets of structures.
    rule "PPTT" (Kind 0) Always (spot 8 4 "Parent") (points (0 ∷ [])) "ACPI 6.5, 5.2.30.1"
    ∷ rule "PPTT" (Entries 0 Nowhere 20 (Field (DWord 16)) 4) Always (spot 0 4 "Private Resource") (points (1 ∷ 2 ∷ []))
    "ACPI 6.5, 5.2.30.1"
    ∷ rule "PPTT" (Kind 1) Always (spot 8 4 "Next Level of Cache") (points (1 ∷ [])) "ACPI 6.5, 5.2.30.2"
    ∷ rule "RHCT" (Entries 65535 Nowhere 12 (Field (Word 6)) 4) Always (spot 0 4 "Offset") (points (0 ∷ 1 ∷ 2 ∷ [])) "ACPI 6.6"
    ∷ rule "IORT" (Entries 1 (DWord 12) 16 (Field (DWord 8)) 20) Always (spot 12 4 "Output Reference")
    (points (0 ∷ 3 ∷ 4 ∷ 7 ∷ [])) "Arm DEN0049E.d"
    ∷ rule "IORT" (Entries 2 (DWord 12) 16 (Field (DWord 8)) 20) Always (spot 12 4 "Output Reference")
    (points (0 ∷ 3 ∷ 4 ∷ 7 ∷ [])) "Arm DEN0049E.d"
    ∷ rule "IORT" (Entries 3 (DWord 12) 16 (Field (DWord 8)) 20) Always (spot 12 4 "Output Reference")
    (points (0 ∷ 3 ∷ 4 ∷ 7 ∷ [])) "Arm DEN0049E.d"
    ∷ rule "IORT" (Entries 4 (DWord 12) 16 (Field (DWord 8)) 20) Always (spot 12 4 "Output Reference")
    (points (0 ∷ 3 ∷ 4 ∷ 7 ∷ [])) "Arm DEN0049E.d"
    ∷ rule "IORT" (Entries 5 (DWord 12) 16 (Field (DWord 8)) 20) Always (spot 12 4 "Output Reference")
    (points (0 ∷ 3 ∷ 4 ∷ 7 ∷ [])) "Arm DEN0049E.d"
    ∷ rule "IORT" (Entries 6 (DWord 12) 16 (Field (DWord 8)) 20) Always (spot 12 4 "Output Reference")
    (points (0 ∷ 3 ∷ 4 ∷ 7 ∷ [])) "Arm DEN0049E.d"
    ∷ rule "IORT" (Kind 5) Always (spot 28 4 "Node Reference") (points (0 ∷ 1 ∷ 2 ∷ 3 ∷ 4 ∷ 7 ∷ [])) "Arm DEN0049E.d"
    ∷ rule "RIMT" (Entries 1 (Word 12) 16 (Field (Word 14)) 20) Always (spot 12 4 "Destination IOMMU Offset") (points (0 ∷ []))
    "RISC-V RIMT"
    ∷ rule "RIMT" (Entries 2 (Word 8) 12 (Field (Word 10)) 20) Always (spot 12 4 "Destination IOMMU Offset") (points (0 ∷ []))
    "RISC-V RIMT"
    ∷ rule "VIOT" (Kind 1) Always (spot 16 2 "Output Node") (points (3 ∷ 4 ∷ [])) "ACPI 6.5, 5.2.32"
    ∷ rule "VIOT" (Kind 2) Always (spot 16 2 "Output Node") (points (3 ∷ 4 ∷ [])) "ACPI 6.5, 5.2.32"
    -- Structures of which each has the offset of the next.
    ∷ rule "PPTT" (Kind 0) Always (spot 8 4 "Parent") ends "ACPI 6.5, 5.2.30.1"
    ∷ rule "PPTT" (Kind 1) Always (spot 8 4 "Next Level of Cache") ends "ACPI 6.5, 5.2.30.2"
    -- Numbers of other structures.
    ∷ rule "NFIT" (Kind 1) Always (spot 12 2 "SPA Range Structure Index") (refers 0 (spot 4 2 "SPA Range Structure Index"))
    "ACPI 6.5, 5.2.26.3"
    ∷ rule "NFIT" (Kind 1) Always (spot 14 2 "NVDIMM Control Region Structure Index")
    (refers 4 (spot 4 2 "NVDIMM Control Region Structure Index")) "ACPI 6.5, 5.2.26.3"
    ∷ rule "NFIT" (Kind 1) Always (spot 40 2 "Interleave Structure Index") (refers 2 (spot 4 2 "Interleave Structure Index"))
    "ACPI 6.5, 5.2.26.3"
    ∷ rule "NFIT" (Kind 5) Always (spot 4 2 "NVDIMM Control Region Structure Index")
    (refers 4 (spot 4 2 "NVDIMM Control Region Structure Index")) "ACPI 6.5, 5.2.26.7"
    ∷ []

-- Blocks of registers and regions of memory, which have an address and a length.
unfoldable pub placed : List Relation
placed =
    -- A block of a FADT needs a length, unless the flag HW_REDUCED_ACPI is set.
    rule "FACP" Whole (Is (DWord 112) 0x100000 0) (spot 80 4 "GPE0_BLK") (needs (spot 92 1 "GPE0_BLK_LEN")) "ACPI 6.5, 5.2.9"
    ∷ rule "FACP" Whole (Is (DWord 112) 0x100000 0) (spot 84 4 "GPE1_BLK") (needs (spot 93 1 "GPE1_BLK_LEN")) "ACPI 6.5, 5.2.9"
    ∷ rule "FACP" Whole (Is (DWord 112) 0x100000 0) (spot 200 8 "X_PM2_CNT_BLK") (needs (spot 90 1 "PM2_CNT_LEN"))
    "ACPI 6.5, 5.2.9"
    ∷ rule "FACP" Whole (Is (DWord 112) 0x100000 0) (spot 212 8 "X_PM_TMR_BLK") (needs (spot 91 1 "PM_TMR_LEN")) "ACPI 6.5, 5.2.9"
    ∷ rule "FACP" Whole (Is (DWord 112) 0x100000 0) (spot 224 8 "X_GPE0_BLK") (needs (spot 92 1 "GPE0_BLK_LEN")) "ACPI 6.5, 5.2.9"
    ∷ rule "FACP" Whole (Is (DWord 112) 0x100000 0) (spot 236 8 "X_GPE1_BLK") (needs (spot 93 1 "GPE1_BLK_LEN")) "ACPI 6.5, 5.2.9"
    -- A region of memory with a length needs an address.
    ∷ rule "BERT" Whole Always (spot 36 4 "Boot Error Region Length") (needs (spot 40 8 "Boot Error Region")) "ACPI 6.5, 18.3.1"
    ∷ rule "CCEL" Whole Always (spot 40 8 "Log Area Minimum Length") (needs (spot 48 8 "Log Area Start Address"))
    "ACPI 6.5, 5.2.34"
    -- Addresses that aren't zero, and lengths that have room for a Generic Error Status Block.
    ∷ rule "FACP" Whole (Is (DWord 112) 1024 1024) (spot 120 8 "Address") (between 1 0xffffffffffffffff) "ACPI 6.5, 5.2.9"
    ∷ rule "ECDT" Whole Always (spot 40 8 "Address") (between 1 0xffffffffffffffff) "ACPI 6.5, 5.2.15"
    ∷ rule "ECDT" Whole Always (spot 52 8 "Address") (between 1 0xffffffffffffffff) "ACPI 6.5, 5.2.15"
    ∷ rule "BERT" Whole (Not (DWord 36) 0xffffffff 0) (spot 36 4 "Boot Error Region Length") (between 20 0xffffffff)
    "ACPI 6.5, 18.3.1"
    ∷ rule "BGRT" Whole Always (spot 40 8 "Image Address") (between 1 0xffffffffffffffff) "ACPI 6.5, 5.2.23"
    ∷ rule "DMAR" (Kind 0) Always (spot 8 8 "Register Base Address") (between 1 0xffffffffffffffff) "VT-d 4.1, 8.3"
    ∷ rule "HEST" (Kind 9) (Is (Byte 7) 255 1) (spot 60 4 "Error Status Block Length") (between 20 0xffffffff)
    "ACPI 6.5, 18.3.2.7"
    ∷ rule "HEST" (Kind 10) (Is (Byte 7) 255 1) (spot 60 4 "Error Status Block Length") (between 20 0xffffffff)
    "ACPI 6.5, 18.3.2.8"
    ∷ []

-- Processors that are enabled, or that can be brought online (ACPI 6.5, 5.2.12).
abbrev pub processors : List Among
processors =
    record { of = Kind 0; when = Not (DWord 4) 3 0 }
    ∷ record { of = Kind 7; when = Not (DWord 8) 3 0 }
    ∷ record { of = Kind 9; when = Not (DWord 8) 3 0 }
    ∷ record { of = Kind 11; when = Not (DWord 12) 9 0 }
    ∷ record { of = Kind 17; when = Is (DWord 11) 1 1 }
    ∷ record { of = Kind 24; when = Not (DWord 4) 3 0 }
    ∷ []

-- Structures without which a table is of no use.
unfoldable pub included : List Relation
included =
    rule "APIC" Whole Always (spot 0 4 "Signature") (includes processors (codes "processor that is enabled or online capable"))
    "ACPI 6.5, 5.2.12"
    ∷ []

-- ---- all rules

-- the rules on several fields that a table breaks, in the order of the rules
abbrev pub standard_findings : Option Walk → List ℕ → List Finding
standard_findings walk bytes =
    relations_findings numbered walk bytes
    ++ relations_findings different walk bytes
    ++ relations_findings ordered walk bytes
    ++ relations_findings counted walk bytes
    ++ relations_findings paired walk bytes
    ++ relations_findings aligned walk bytes
    ++ relations_findings bounded walk bytes
    ++ relations_findings sized walk bytes
    ++ relations_findings strings walk bytes
    ++ relations_findings referred walk bytes
    ++ relations_findings placed walk bytes
    ++ relations_findings included walk bytes

-- The rules that a table breaks, by its form and its walk. First come those on each of its fields, in the order of their offsets.
-- Then come those on several fields, in the order of the rules.
abbrev pub table_findings : TableForm → Option Walk → List ℕ → List Finding
table_findings form walk bytes =
    fields_findings allowed_numbers ranges bytes (table_fields form walk bytes) ++ standard_findings walk bytes
