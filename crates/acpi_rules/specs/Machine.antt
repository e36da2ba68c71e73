-- The numbers that tables of one machine have from each other.
use Rattle.std.specs.Prelude.{ℕ, List, [], ◌∷◌, ◌++◌, codes}
use Prim.Native.String.{String}
use Rattle.acpi_base.specs.declared.walk.Place.TheVariants.{Nowhere, Word, DWord}
use Rattle.acpi_text.specs.declared.form.Count.TheVariants.{Field}
use Rattle.acpi_rules.specs.Across.{links_findings}
use Rattle.acpi_rules.specs.Demand.{Spot}
use Rattle.acpi_rules.specs.Finding.{Finding}
use Rattle.acpi_rules.specs.Link.{Column, Wanted, Link, one_of, below, index}
use Rattle.acpi_rules.specs.Single.{singles, copied, singles_findings, copies_findings}
use Rattle.acpi_rules.specs.Standard.{spot}
use Rattle.acpi_rules.specs.declared.demand.Of.{Of}
use Rattle.acpi_rules.specs.declared.demand.Of.TheVariants.{Whole, Each, Kind, Entries}
use Rattle.acpi_rules.specs.declared.demand.When.{When}
use Rattle.acpi_rules.specs.declared.demand.When.TheVariants.{Always, Is}

-- a number in two fields: its low bytes, and its high ones
abbrev pub wide : String → Of → When → Spot → Spot → Column
wide table of when low high =
    record { table = codes table; among = record { of = of; when = when }; low = low; high = high }

-- a number in one field
abbrev pub column : String → Of → When → Spot → Column
column table of when low = wide table of when low (spot 0 0 "")

abbrev pub link : Column → Wanted → String → String → Link
link column wanted other section =
    record { column = column; wanted = wanted; other = codes other; section = codes section }

-- ---- numbers that tables define

-- the numbers by which a SRAT names a processor (ACPI 6.5, 5.2.12)
abbrev pub processors : List Column
processors =
    column "APIC" (Kind 0) Always (spot 3 1 "APIC ID")
    ∷ column "APIC" (Kind 7) Always (spot 3 1 "Local SAPIC ID")
    ∷ column "APIC" (Kind 9) Always (spot 4 4 "X2APIC ID")
    ∷ column "APIC" (Kind 17) Always (spot 7 4 "Physical Processor ID")
    ∷ []

-- the identifiers of processors (ACPI 6.5, 5.2.12)
abbrev pub uids : List Column
uids =
    column "APIC" (Kind 0) Always (spot 2 1 "ACPI Processor UID")
    ∷ column "APIC" (Kind 7) Always (spot 12 4 "ACPI Processor UID Value")
    ∷ column "APIC" (Kind 9) Always (spot 12 4 "ACPI Processor UID")
    ∷ column "APIC" (Kind 11) Always (spot 8 4 "ACPI Processor UID")
    ∷ column "APIC" (Kind 17) Always (spot 3 4 "ACPI Processor ID")
    ∷ column "APIC" (Kind 24) Always (spot 16 4 "ACPI Processor UID")
    ∷ []

-- those of processors with a GIC (5.2.12.14)
abbrev pub giccs : List Column
giccs =
    column "APIC" (Kind 11) Always (spot 8 4 "ACPI Processor UID")
    ∷ []

-- those of RISC-V harts (ACPI 6.6, 5.2.12)
abbrev pub rintcs : List Column
rintcs =
    column "APIC" (Kind 24) Always (spot 16 4 "ACPI Processor UID")
    ∷ []

-- interrupt translation services (5.2.12.18)
abbrev pub itss : List Column
itss =
    column "APIC" (Kind 15) Always (spot 4 4 "GIC ITS ID")
    ∷ []

-- proximity domains (5.2.16)
abbrev pub domains : List Column
domains =
    wide "SRAT" (Kind 0) (Is (DWord 4) 1 1) (spot 2 1 "Proximity Domain [7-0]") (spot 9 3 "Proximity Domain [31-8]")
    ∷ column "SRAT" (Kind 1) (Is (DWord 28) 1 1) (spot 2 4 "Proximity Domain")
    ∷ column "SRAT" (Kind 2) (Is (DWord 12) 1 1) (spot 4 4 "Proximity Domain")
    ∷ column "SRAT" (Kind 3) (Is (DWord 10) 1 1) (spot 2 4 "Proximity Domain")
    ∷ column "SRAT" (Kind 4) Always (spot 2 4 "Proximity Domain")
    ∷ column "SRAT" (Kind 5) (Is (DWord 24) 1 1) (spot 4 4 "Proximity Domain")
    ∷ column "SRAT" (Kind 6) (Is (DWord 24) 1 1) (spot 4 4 "Proximity Domain")
    ∷ column "SRAT" (Kind 7) (Is (DWord 12) 1 1) (spot 4 4 "Proximity Domain")
    ∷ []

-- the number of localities (5.2.17)
abbrev pub localities : Column
localities = column "SLIT" Whole Always (spot 36 8 "Number of System Localities")

-- subspaces of platform communication channels (14.1)
abbrev pub subspaces : Column
subspaces = column "PCCT" Each Always (spot 0 1 "Type")

-- ---- rules

-- Numbers of processors, and of proximity domains, in a SRAT.
unfoldable pub affinities : List Link
affinities =
    link (column "SRAT" (Kind 0) (Is (DWord 4) 1 1) (spot 3 1 "APIC ID"))
    (one_of processors) "APIC ID, Local SAPIC ID, X2APIC ID or Physical Processor ID of APIC" "ACPI 6.5, 5.2.16.1"
    ∷ link (column "SRAT" (Kind 2) (Is (DWord 12) 1 1) (spot 8 4 "X2APIC ID"))
    (one_of processors) "APIC ID, Local SAPIC ID, X2APIC ID or Physical Processor ID of APIC" "ACPI 6.5, 5.2.16.3"
    ∷ link (column "SRAT" (Kind 3) (Is (DWord 10) 1 1) (spot 6 4 "ACPI Processor UID"))
    (one_of giccs) "ACPI Processor UID of APIC" "ACPI 6.5, 5.2.16.4"
    ∷ link (column "SRAT" (Kind 4) Always (spot 8 4 "ITS ID")) (one_of itss) "GIC ITS ID of APIC" "ACPI 6.5, 5.2.16.5"
    ∷ link (column "SRAT" (Kind 7) (Is (DWord 12) 1 1) (spot 8 4 "ACPI Processor UID"))
    (one_of rintcs) "ACPI Processor UID of APIC" "ACPI 6.6, 5.2.16"
    ∷ link (wide "SRAT" (Kind 0) (Is (DWord 4) 1 1) (spot 2 1 "Proximity Domain [7-0]") (spot 9 3 "Proximity Domain [31-8]"))
    (below localities) "Number of System Localities of SLIT" "ACPI 6.5, 5.2.17"
    ∷ link (column "SRAT" (Kind 1) (Is (DWord 28) 1 1) (spot 2 4 "Proximity Domain"))
    (below localities) "Number of System Localities of SLIT" "ACPI 6.5, 5.2.17"
    ∷ link (column "SRAT" (Kind 2) (Is (DWord 12) 1 1) (spot 4 4 "Proximity Domain"))
    (below localities) "Number of System Localities of SLIT" "ACPI 6.5, 5.2.17"
    ∷ link (column "SRAT" (Kind 3) (Is (DWord 10) 1 1) (spot 2 4 "Proximity Domain"))
    (below localities) "Number of System Localities of SLIT" "ACPI 6.5, 5.2.17"
    ∷ link (column "SRAT" (Kind 4) Always (spot 2 4 "Proximity Domain"))
    (below localities) "Number of System Localities of SLIT" "ACPI 6.5, 5.2.17"
    ∷ link (column "SRAT" (Kind 5) (Is (DWord 24) 1 1) (spot 4 4 "Proximity Domain"))
    (below localities) "Number of System Localities of SLIT" "ACPI 6.5, 5.2.17"
    ∷ link (column "SRAT" (Kind 6) (Is (DWord 24) 1 1) (spot 4 4 "Proximity Domain"))
    (below localities) "Number of System Localities of SLIT" "ACPI 6.5, 5.2.17"
    ∷ link (column "SRAT" (Kind 7) (Is (DWord 12) 1 1) (spot 4 4 "Proximity Domain"))
    (below localities) "Number of System Localities of SLIT" "ACPI 6.5, 5.2.17"
    ∷ []

-- Numbers in other tables.
unfoldable pub named : List Link
named =
    link (column "HMAT" (Kind 0) (Is (Word 8) 1 1) (spot 12 4 "Proximity Domain for the Attached Initiator"))
    (one_of domains) "Proximity Domain of SRAT" "ACPI 6.5, 5.2.28.3"
    ∷ link (column "HMAT" (Kind 0) Always (spot 16 4 "Proximity Domain for the Memory"))
    (one_of domains) "Proximity Domain of SRAT" "ACPI 6.5, 5.2.28.3"
    ∷ link (column "HMAT" (Entries 1 Nowhere 32 (Field (DWord 12)) 4) Always (spot 0 4 "Initiator Proximity Domain"))
    (one_of domains) "Proximity Domain of SRAT" "ACPI 6.5, 5.2.28.4"
    ∷ link (column "HMAT" (Kind 2) Always (spot 8 4 "Proximity Domain for the Memory"))
    (one_of domains) "Proximity Domain of SRAT" "ACPI 6.5, 5.2.28.5"
    ∷ link (column "NFIT" (Kind 0) (Is (Word 6) 2 2) (spot 12 4 "Proximity Domain"))
    (one_of domains) "Proximity Domain of SRAT" "ACPI 6.5, 5.2.26.2"
    ∷ link (column "PPTT" (Kind 0) (Is (DWord 4) 10 10) (spot 12 4 "ACPI Processor ID"))
    (one_of uids) "ACPI Processor UID of APIC" "ACPI 6.5, 5.2.30.1"
    ∷ link (column "RHCT" (Kind 65535) Always (spot 8 4 "ACPI Processor UID"))
    (one_of rintcs) "ACPI Processor UID of APIC" "ACPI 6.6"
    ∷ link (column "IORT" (Entries 0 Nowhere 20 (Field (DWord 16)) 4) Always (spot 0 4 "GIC ITS Identifier"))
    (one_of itss) "GIC ITS ID of APIC" "Arm DEN0049E.d"
    ∷ link (column "MPST" Whole Always (spot 36 1 "MPST Platform Communication Channel Identifier"))
    (index subspaces) "number of structures of PCCT" "ACPI 6.5, 5.2.22"
    ∷ link (column "PDTT" Each Always (spot 0 1 "Platform Communication Channel Identifier"))
    (index subspaces) "number of structures of PCCT" "ACPI 6.5, 5.2.29"
    ∷ link (column "RAS2" Each Always (spot 0 1 "PCC Identifier"))
    (index subspaces) "number of structures of PCCT" "ACPI 6.5, 5.2.21"
    ∷ []

-- The rules on several tables that a table breaks, by the tables of its machine, of which it is one: those on its numbers, in the
-- order of the rules, and then that it isn't the only one of its signature, or with its bytes.
abbrev pub machine_findings : List (List ℕ) → List ℕ → List Finding
machine_findings tables table =
    links_findings affinities tables table
    ++ links_findings named tables table
    ++ singles_findings singles tables table
    ++ copies_findings copied tables table
