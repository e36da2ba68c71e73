-- The forms of tables and records of fixed size.
use Rattle.std.specs.Prelude.{[], Some, take}
use Rattle.acpi_base.specs.Fields.{AreRowsOf}
use Rattle.acpi_fixed.specs.Bert.{bert_fields}
use Rattle.acpi_fixed.specs.Bgrt.{bgrt_fields}
use Rattle.acpi_fixed.specs.Facs.{facs_fields}
use Rattle.acpi_fixed.specs.Fadt.{fadt_fields}
use Rattle.acpi_fixed.specs.Hpet.{hpet_fields}
use Rattle.acpi_fixed.specs.Rsdp.{rsdp_fields}
use Rattle.acpi_fixed.specs.Spcr.{spcr_fields}
use Rattle.acpi_fixed.specs.Tcpa.{client_fields, server_fields}
use Rattle.acpi_fixed.specs.Tpm2.{tpm2_fields}
use Rattle.acpi_fixed.specs.Waet.{waet_fields}
use Rattle.acpi_fixed.specs.Wsmt.{wsmt_fields}
use Rattle.acpi_fixed.specs.declared.facs.FACS.{FACS}
use Rattle.acpi_fixed.specs.declared.rsdp.Rsdp.{Rsdp}
use Rattle.acpi_fixed.specs.declared.tpm2.LogArea.{LogArea}
use Rattle.acpi_fixed.specs.declared.tpm2.Tpm2.{Tpm2}
use Rattle.acpi_forms.specs.Rows.{rows_of, TableHas, TableHasAt}
use Rattle.acpi_text.specs.declared.form.TableForm.{TableForm}

-- the records that have no standard header (ACPI 6.5, 5.2.5.3 and 5.2.10)
abbrev pub IsRsdp : TableForm → Type 0
IsRsdp form = (pointer : Rsdp) → AreRowsOf (rows_of 0 form.parts.now) (rsdp_fields pointer)

abbrev pub IsFacs : TableForm → Type 0
IsFacs form = (facs : FACS) → AreRowsOf (rows_of 0 form.parts.now) (facs_fields facs)

-- a table of which the form knows the standard header alone
abbrev pub IsHeader : TableForm → Type 0
IsHeader form = TableHas {T = Unit {0}} (λ none. []) form

abbrev pub IsBert : TableForm → Type 0
IsBert form = TableHas bert_fields form

abbrev pub IsFadt : TableForm → Type 0
IsFadt form = TableHas fadt_fields form

-- The NamespaceString is the last field. It is as long as NamespaceStringLength says.
abbrev pub IsSpcr : TableForm → Type 0
IsSpcr form = TableHas (λ t. take 23 (spcr_fields t)) form

-- of a client and of a server, by the platform class
abbrev pub IsTcpa : TableForm → Type 0
IsTcpa form = TableHasAt 0 client_fields form × TableHasAt 1 server_fields form

-- with a log area; a table without one ends before it
abbrev pub IsTpm2 : TableForm → Type 0
IsTpm2 form = TableHas {T = Tpm2 × LogArea} (λ t. tpm2_fields t.0 (Some t.1)) form

abbrev pub IsHpet : TableForm → Type 0
IsHpet form = TableHas hpet_fields form

abbrev pub IsWaet : TableForm → Type 0
IsWaet form = TableHas waet_fields form

abbrev pub IsBgrt : TableForm → Type 0
IsBgrt form = TableHas bgrt_fields form

abbrev pub IsWsmt : TableForm → Type 0
IsWsmt form = TableHas wsmt_fields form
