-- The tables that a machine has once: `single` and `copy`.
use Rattle.std.specs.Prelude.{ℕ, ◌+◌, nat_le, if◌then◌else◌, List, [], ◌∷◌, take, codes}
use Rattle.std.specs.List.{flat_map}
use Rattle.std.specs.Str.{bytes_eq}
use Prim.Native.String.{String}
use Rattle.acpi_base.specs.Look as looks
use Rattle.acpi_rules.specs.Field.{Field}
use Rattle.acpi_rules.specs.Finding.{Finding}
use Rattle.acpi_rules.specs.Related.{relates}
use Rattle.acpi_rules.specs.declared.finding.Rule.{Rule}
use Rattle.acpi_rules.specs.declared.finding.Rule.TheVariants.{Single, Copy}
use Rattle.acpi_rules.specs.declared.single.Once.{Once as OnceData}

-- the tables of a signature, which a machine has once, and the section that has them
pub record Once : Type 0 where
  pub table : List ℕ
  pub section : List ℕ

abbrev pub once_by : OnceData → Once
once_by row = record { table = row.table.now; section = row.section.now }

abbrev pub only : String → String → Once
only table section = record { table = codes table; section = codes section }

-- The tables of which a machine has one. HPETs aren't among them, since each has its number (IA-PC HPET 1.0a, 3.2.4).
unfoldable pub singles : List Once
singles =
    only "APIC" "ACPI 6.5, 5.2.12"
    ∷ only "BERT" "ACPI 6.5, 18.3.1"
    ∷ only "BGRT" "ACPI 6.5, 5.2.23"
    ∷ only "CCEL" "ACPI 6.5, 5.2.34"
    ∷ only "CPEP" "ACPI 6.5, 5.2.18"
    ∷ only "DMAR" "VT-d 4.1, 8.1"
    ∷ only "DSDT" "ACPI 6.5, 5.2.11.1"
    ∷ only "ECDT" "ACPI 6.5, 5.2.15"
    ∷ only "EINJ" "ACPI 6.5, 18.6"
    ∷ only "ERST" "ACPI 6.5, 18.5"
    ∷ only "FACP" "ACPI 6.5, 5.2.9"
    ∷ only "FACS" "ACPI 6.5, 5.2.10"
    ∷ only "FPDT" "ACPI 6.5, 5.2.24"
    ∷ only "GTDT" "ACPI 6.5, 5.2.25"
    ∷ only "HEST" "ACPI 6.5, 18.3.2"
    ∷ only "HMAT" "ACPI 6.5, 5.2.28"
    ∷ only "IORT" "Arm DEN0049E.d"
    ∷ only "MCFG" "PCI Firmware 3.3, 4.1.2"
    ∷ only "MPST" "ACPI 6.5, 5.2.22"
    ∷ only "MSCT" "ACPI 6.5, 5.2.19"
    ∷ only "NFIT" "ACPI 6.5, 5.2.26"
    ∷ only "PCCT" "ACPI 6.5, 14.1"
    ∷ only "PDTT" "ACPI 6.5, 5.2.29"
    ∷ only "PPTT" "ACPI 6.5, 5.2.30"
    ∷ only "RHCT" "ACPI 6.6"
    ∷ only "SBST" "ACPI 6.5, 5.2.14"
    ∷ only "SDEV" "ACPI 6.5, 5.2.27"
    ∷ only "SLIT" "ACPI 6.5, 5.2.17"
    ∷ only "SPCR" "Microsoft SPCR"
    ∷ only "SRAT" "ACPI 6.5, 5.2.16"
    ∷ only "VIOT" "ACPI 6.5, 5.2.32"
    ∷ []

-- the tables of which a machine may have several, each of them once
unfoldable pub copied : List Once
copied = only "PSDT" "ACPI 6.5, 5.2.11.3" ∷ only "SSDT" "ACPI 6.5, 5.2.11.2" ∷ []

-- ---- how many tables there are

-- how many tables have a signature
abbrev pub namesakes : List (List ℕ) → List ℕ → ℕ
namesakes [] signature = 0
namesakes (table ∷ tables) signature = (if bytes_eq (take 4 table) signature then 1 else 0) + namesakes tables signature

-- how many tables have these bytes
abbrev pub copies : List (List ℕ) → List ℕ → ℕ
copies [] bytes = 0
copies (table ∷ tables) bytes = (if bytes_eq table bytes then 1 else 0) + copies tables bytes

-- ---- findings

-- the first field of a table
abbrev pub signature_field : List ℕ → Field
signature_field table = record { offset = 0; name = codes "Signature"; look = looks.number; width = 4; bytes = take 4 table }

-- A machine has one of the tables that a rule counts.
abbrev pub several_findings : Rule → List ℕ → ℕ → List ℕ → List Finding
several_findings rule section n table = if nat_le n 1 then [] else relates rule section n 0 [] (signature_field table)

-- A machine has one table of a signature.
abbrev pub single_findings : List (List ℕ) → List ℕ → Once → List Finding
single_findings tables table row =
    if bytes_eq row.table (take 4 table) then several_findings Single row.section (namesakes tables row.table) table else []

-- A machine has each table of a signature once.
abbrev pub copy_findings : List (List ℕ) → List ℕ → Once → List Finding
copy_findings tables table row =
    if bytes_eq row.table (take 4 table) then several_findings Copy row.section (copies tables table) table else []

abbrev pub singles_findings : List Once → List (List ℕ) → List ℕ → List Finding
singles_findings rows tables table = flat_map (single_findings tables table) rows

abbrev pub copies_findings : List Once → List (List ℕ) → List ℕ → List Finding
copies_findings rows tables table = flat_map (copy_findings tables table) rows
