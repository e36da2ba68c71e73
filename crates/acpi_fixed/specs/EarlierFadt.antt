-- The Fixed ACPI Description Table of releases before ACPI 6.0.
use Rattle.std.specs.Prelude.{◌≡◌, ℕ, ◌-◌, List, [], ◌∷◌, ◌++◌, length, take}
use Rattle.acpi_base.specs.Bytes.{put}
use Rattle.acpi_base.specs.Fields.{fields_joined}
use Rattle.acpi_base.specs.Table.{with_checksum, IsTrueTable}
use Rattle.acpi_base.specs.Walk.{ArePiecesOf}
use Rattle.acpi_fixed.specs.declared.fadt.FADTBuilder.{FADTBuilder}
use Rattle.acpi_fixed.specs.declared.fadt.earlier.EarlierFADT.{EarlierFADT}
use Rattle.acpi_fixed.specs.declared.fadt.earlier.FadtRelease.{FadtRelease}
use Rattle.acpi_fixed.specs.declared.fadt.earlier.FadtRelease.TheVariants.{Acpi1_0, Acpi2_0, Acpi3_0, Acpi5_0, Acpi5_1}
use Rattle.acpi_fixed.specs.Fadt.{header_fields, fadt_fields, fadt_at_first}
use Rattle.acpi_fixed.specs.FadtCalls.{BuilderCall, built}

-- where a release's fields end: after Flags, X_GPE1_BLK and SLEEP_STATUS_REG
abbrev pub release_size : FadtRelease → ℕ
release_size Acpi1_0 = 116
release_size Acpi2_0 = 244
release_size Acpi3_0 = 244
release_size Acpi5_0 = 268
release_size Acpi5_1 = 268

-- Revision, which is FADT Major Version from ACPI 5.1 on
abbrev pub release_revision : FadtRelease → ℕ
release_revision Acpi1_0 = 1
release_revision Acpi2_0 = 3
release_revision Acpi3_0 = 4
release_revision Acpi5_0 = 5
release_revision Acpi5_1 = 5

-- FADT Minor Version, which is reserved before ACPI 5.1
abbrev pub release_minor : FadtRelease → ℕ
release_minor Acpi1_0 = 0
release_minor Acpi2_0 = 0
release_minor Acpi3_0 = 0
release_minor Acpi5_0 = 0
release_minor Acpi5_1 = 1

-- these fields with the length and the versions of a release
abbrev pub released : FadtRelease → FADTBuilder → FADTBuilder
released release f = record f {
  length = release_size release;
  major_version = release_revision release;
  fadt_minor_version = release_minor release;
}

abbrev pub earlier_fadt : FadtRelease → FADTBuilder → EarlierFADT
earlier_fadt release f = record { release = release; int_model = 0; table = released release f }

-- the fields after the header, with INT_MODEL of ACPI 1.0 (ACPI 1.0, 5.2.5) in the reserved byte at 44
abbrev pub modelled : ℕ → FADTBuilder → List ℕ
modelled int_model f = put 8 (int_model ∷ []) (fields_joined (fadt_fields f))

-- the first bytes of a FADT, with their checksum
abbrev pub first_bytes : ℕ → ℕ → FADTBuilder → List ℕ
first_bytes size int_model f = with_checksum (fields_joined (header_fields f) ++ take (size - 36) (modelled int_model f))

abbrev pub earlier_fadt_bytes : EarlierFADT → List ℕ
earlier_fadt_bytes t = first_bytes (release_size t.release) t.int_model t.table

-- The table of an earlier release is valid: it has the release's size, contains its length and sums to zero. It has no
-- structures.
pub record IsValidEarlier (t : EarlierFADT) : Type 0 where
  pub valid : IsTrueTable (earlier_fadt_bytes t)
  pub size : length (earlier_fadt_bytes t) ≡ release_size t.release
  pub pieces : ArePiecesOf (earlier_fadt_bytes t) []

-- So is that of a new builder after any list of calls, with any INT_MODEL.
abbrev pub EarlierFadtsAreValid : Type 0
EarlierFadtsAreValid =
    (release : FadtRelease) (int_model : ℕ) (oem_id oem_table_id : List ℕ) (oem_revision : ℕ) (calls : List BuilderCall)
    → length oem_id ≡ 6 → length oem_table_id ≡ 8
    → IsValidEarlier
    (record (earlier_fadt release (built (fadt_at_first oem_id oem_table_id oem_revision) calls)) { int_model = int_model })
