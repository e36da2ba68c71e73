-- FADTs after any calls of their builder.
use Rattle.std.proofs.Common.{◌≡◌, ◌≤◌, ℕ, List, [], ◌∷◌, length, refl, ap, arith}
use Rattle.std.specs.Prelude.{codes}
use Rattle.acpi_fixed.specs.declared.fadt.FADTBuilder.{FADTBuilder}
use Rattle.acpi_fixed.specs.Fadt.{builder_bytes, fadt_at_first}
use Rattle.acpi_fixed.specs.FadtCalls.{BuilderCall, calls_dsdt_32, calls_dsdt_64, calls_firmware_ctrl_32, calls_firmware_ctrl_64}
use Rattle.acpi_fixed.specs.FadtCalls.{calls_acpi_enable, calls_acpi_disable, calls_flag, calls_gpe_info, calls_preferred_pm_profile}
use Rattle.acpi_fixed.specs.FadtCalls.{after_call, built, IsValidFadt, FadtsAreValid}
use Rattle.acpi_fixed.specs.declared.fadt.earlier.FadtRelease.{FadtRelease}
use Rattle.acpi_fixed.specs.declared.fadt.earlier.FadtRelease.TheVariants.{Acpi1_0, Acpi2_0, Acpi3_0, Acpi5_0, Acpi5_1}
use Rattle.acpi_fixed.specs.EarlierFadt.{release_size, earlier_fadt, IsValidEarlier, EarlierFadtsAreValid}
use Rattle.acpi_fixed.proofs.Tables.{length-builder, length-fadt, fadt_without_pieces, true_fadt, true_first}

-- The header's fields are those of a new builder.
record IsHeaded (f : FADTBuilder) : Type 0 where
  signature : f.signature ≡ codes "FACP"
  size : f.length ≡ 276
  id : length f.oem_id ≡ 6
  table_id : length f.oem_table_id ≡ 8
  creator : length f.creator_id ≡ 4
  creator_revision : length f.creator_revision ≡ 4

-- no call changes them
headed_on : (call : BuilderCall) (f : FADTBuilder) → IsHeaded f → IsHeaded (after_call call f)
headed_on (calls_dsdt_32 address) f is = record { signature = is.signature; size = is.size; id = is.id; table_id = is.table_id; creator = is.creator; creator_revision = is.creator_revision }
headed_on (calls_dsdt_64 address) f is = record { signature = is.signature; size = is.size; id = is.id; table_id = is.table_id; creator = is.creator; creator_revision = is.creator_revision }
headed_on (calls_firmware_ctrl_32 address) f is = record { signature = is.signature; size = is.size; id = is.id; table_id = is.table_id; creator = is.creator; creator_revision = is.creator_revision }
headed_on (calls_firmware_ctrl_64 address) f is = record { signature = is.signature; size = is.size; id = is.id; table_id = is.table_id; creator = is.creator; creator_revision = is.creator_revision }
headed_on calls_acpi_enable f is = record { signature = is.signature; size = is.size; id = is.id; table_id = is.table_id; creator = is.creator; creator_revision = is.creator_revision }
headed_on calls_acpi_disable f is = record { signature = is.signature; size = is.size; id = is.id; table_id = is.table_id; creator = is.creator; creator_revision = is.creator_revision }
headed_on (calls_flag flag) f is = record { signature = is.signature; size = is.size; id = is.id; table_id = is.table_id; creator = is.creator; creator_revision = is.creator_revision }
headed_on (calls_gpe_info blk0 blk1 len0 len1 base1) f is = record { signature = is.signature; size = is.size; id = is.id; table_id = is.table_id; creator = is.creator; creator_revision = is.creator_revision }
headed_on (calls_preferred_pm_profile profile) f is = record { signature = is.signature; size = is.size; id = is.id; table_id = is.table_id; creator = is.creator; creator_revision = is.creator_revision }

headed_after : (f : FADTBuilder) (calls : List BuilderCall) → IsHeaded f → IsHeaded (built f calls)
headed_after f [] is = is
headed_after f (call ∷ calls) is = headed_after (after_call call f) calls (headed_on call f is)

headed_is_valid : (f : FADTBuilder) → IsHeaded f → IsValidFadt f
headed_is_valid f is =
    let four : length f.signature ≡ 4 = ap length is.signature in
    let size : length (builder_bytes f) ≡ 276 = length-builder f four is.id is.table_id is.creator is.creator_revision in
    record { valid = true_fadt f four size is.size; size = length-fadt f size; pieces = fadt_without_pieces f four (rw is.signature refl) }

pub fadts_are_valid : FadtsAreValid
fadts_are_valid oem_id oem_table_id oem_revision calls six eight =
    let f = fadt_at_first oem_id oem_table_id oem_revision in
    headed_is_valid (built f calls) (headed_after f calls (record { signature = refl; size = refl; id = six; table_id = eight; creator = refl; creator_revision = refl }))

-- ---- of earlier releases

small_enough : (release : FadtRelease) → (36 ≤ release_size release) × (release_size release ≤ 276)
small_enough Acpi1_0 = (omega arith, omega arith)
small_enough Acpi2_0 = (omega arith, omega arith)
small_enough Acpi3_0 = (omega arith, omega arith)
small_enough Acpi5_0 = (omega arith, omega arith)
small_enough Acpi5_1 = (omega arith, omega arith)

earlier_is_valid : (release : FadtRelease) (int_model : ℕ) (f : FADTBuilder) → IsHeaded f → IsValidEarlier (record (earlier_fadt release f) { int_model = int_model })
earlier_is_valid release int_model f is =
    let t = (earlier_fadt release f).table in
    let four : length t.signature ≡ 4 = ap length is.signature in
    let small = small_enough release in
    let valid = true_first t (release_size release) int_model four is.id is.table_id is.creator is.creator_revision refl (rw is.signature refl) small.0 small.1 in
    record { valid = valid.0; size = valid.1; pieces = valid.2 }

pub earlier_fadts_are_valid : EarlierFadtsAreValid
earlier_fadts_are_valid release int_model oem_id oem_table_id oem_revision calls six eight =
    let f = fadt_at_first oem_id oem_table_id oem_revision in
    earlier_is_valid release int_model (built f calls) (headed_after f calls (record { signature = refl; size = refl; id = six; table_id = eight; creator = refl; creator_revision = refl }))
