-- Generic Error Status Blocks (ACPI 6.5, 18.3.2.7.1).
use Rattle.std.specs.Prelude.{ℕ, ◌+◌, ◌==◌, if◌then◌else◌, List, [], ◌∷◌}
use Rattle.acpi_base.specs.Fields.{NamedField, dword, flags, one_of, fields_joined}
use Rattle.acpi_base.specs.Look.{Part, flag, part, means}
use Rattle.acpi_hest.specs.declared.hest.status.ErrorSeverity.{ErrorSeverity}
use Rattle.acpi_hest.specs.declared.hest.status.ErrorSeverity.TheVariants.{Recoverable, Fatal, Correctable, None}
use Rattle.acpi_hest.specs.declared.hest.status.GenericErrorStatus.{GenericErrorStatus}

abbrev pub severity_number : ErrorSeverity → ℕ
severity_number Recoverable = 0
severity_number Fatal = 1
severity_number Correctable = 2
severity_number None = 3

-- nothing for 0, or the value for one error, or the value for several
abbrev pub status_of : ℕ → ℕ → ℕ → ℕ
status_of count one several = if count == 0 then 0 else (if count == 1 then one else several)

-- 1 for one uncorrectable error, 2 for one correctable error, 4 for several uncorrectable and 8 for several correctable ones
abbrev pub error_status : ℕ → ℕ → ErrorSeverity → GenericErrorStatus
error_status correctable uncorrectable severity = record {
  status = status_of correctable 2 8 + status_of uncorrectable 1 4;
  severity = severity;
}

-- Block Status: the number of entries in bits 13:4
abbrev pub status_bits : List Part
status_bits =
    flag 0x0001 "Uncorrectable Error Valid"
    ∷ flag 0x0002 "Correctable Error Valid"
    ∷ flag 0x0004 "Multiple Uncorrectable Errors"
    ∷ flag 0x0008 "Multiple Correctable Errors"
    ∷ part 0x3ff0 0x0010 "Error Data Entry Count"
    ∷ []

-- the words of Error Severity
abbrev pub severity_words : List (ℕ × List ℕ)
severity_words =
    means 0 "Recoverable"
    ∷ means 1 "Fatal"
    ∷ means 2 "Corrected"
    ∷ means 3 "None"
    ∷ []

abbrev pub error_status_fields : GenericErrorStatus → List NamedField
error_status_fields s =
    flags status_bits dword "Block Status" s.status  -- 0
    ∷ dword "Raw Data Offset" 0  -- 4
    ∷ dword "Raw Data Length" 0  -- 8
    ∷ dword "Data Length" 0  -- 12
    ∷ one_of severity_words dword "Error Severity" (severity_number s.severity)  -- 16
    ∷ []

abbrev pub error_status_bytes : GenericErrorStatus → List ℕ
error_status_bytes s = fields_joined (error_status_fields s)
