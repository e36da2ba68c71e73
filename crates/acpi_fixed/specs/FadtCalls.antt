-- Lists of calls of a FADT's builder.
use Rattle.std.specs.Prelude.{◌≡◌, ℕ, List, [], ◌∷◌, length}
use Rattle.acpi_base.specs.Table.{IsTrueTable}
use Rattle.acpi_base.specs.Walk.{ArePiecesOf}
use Rattle.acpi_fixed.specs.declared.fadt.FADTBuilder.{FADTBuilder}
use Rattle.acpi_fixed.specs.declared.fadt.Flags.{Flags}
use Rattle.acpi_fixed.specs.declared.fadt.PmProfile.{PmProfile}
use Rattle.acpi_fixed.specs.Fadt.{fadt_at_first, fadt_bytes}
use Rattle.acpi_fixed.specs.Fadt.{with_dsdt, with_facs, with_commands, with_flag, with_profile, with_gpe_info}

-- a call, with its arguments
pub data BuilderCall : Type 0 where
  calls_dsdt_32 : ℕ → BuilderCall
  calls_dsdt_64 : ℕ → BuilderCall
  calls_firmware_ctrl_32 : ℕ → BuilderCall
  calls_firmware_ctrl_64 : ℕ → BuilderCall
  calls_acpi_enable : BuilderCall
  calls_acpi_disable : BuilderCall
  calls_flag : Flags → BuilderCall
  calls_gpe_info : ℕ → ℕ → ℕ → ℕ → ℕ → BuilderCall
  calls_preferred_pm_profile : PmProfile → BuilderCall

-- the fields after a call
abbrev pub after_call : BuilderCall → FADTBuilder → FADTBuilder
after_call (calls_dsdt_32 address) f = with_dsdt address 0 f
after_call (calls_dsdt_64 address) f = with_dsdt 0 address f
after_call (calls_firmware_ctrl_32 address) f = with_facs address 0 f
after_call (calls_firmware_ctrl_64 address) f = with_facs 0 address f
after_call calls_acpi_enable f = with_commands 1 0 f
after_call calls_acpi_disable f = with_commands 0 1 f
after_call (calls_flag flag) f = with_flag flag f
after_call (calls_gpe_info blk0 blk1 len0 len1 base1) f = with_gpe_info blk0 blk1 len0 len1 base1 f
after_call (calls_preferred_pm_profile profile) f = with_profile profile f

-- the fields after a list of calls
abbrev pub built : FADTBuilder → List BuilderCall → FADTBuilder
built f [] = f
built f (call ∷ calls) = built (after_call call f) calls

-- The table of these fields is valid: 276 bytes, which contain their number and sum to zero. It has no structures.
pub record IsValidFadt (f : FADTBuilder) : Type 0 where
  pub valid : IsTrueTable (fadt_bytes f)
  pub size : length (fadt_bytes f) ≡ 276
  pub pieces : ArePiecesOf (fadt_bytes f) []

-- So is that of a new builder after any list of calls.
abbrev pub FadtsAreValid : Type 0
FadtsAreValid =
    (oem_id oem_table_id : List ℕ) (oem_revision : ℕ) (calls : List BuilderCall) → length oem_id ≡ 6 → length oem_table_id ≡ 8
    → IsValidFadt (built (fadt_at_first oem_id oem_table_id oem_revision) calls)
