-- TPM2 (TCG ACPI Specification, TPM 2.0).
use Rattle.std.specs.Prelude.{◌≡◌, ℕ, List, [], ◌∷◌, codes, Option, Some, None, IsSome, Result, Ok, Err}
use Rattle.acpi_base.specs.Fields.{NamedField, word, dword, qword, hex, one_of, bytes, reserved, fields_joined}
use Rattle.acpi_base.specs.Look.{means}
use Rattle.acpi_base.specs.Bytes.{zeros}
use Rattle.acpi_base.specs.Table.{table_of}
use Rattle.acpi_base.specs.declared.error.Error.{Error}
use Rattle.acpi_base.specs.declared.error.Error.TheVariants.{LogAreaSet}
use Rattle.acpi_base.specs.declared.oem.Oem.{Oem}
use Rattle.acpi_fixed.specs.Class.{class_number, class_words}
use Rattle.acpi_fixed.specs.declared.tpm2.PlatformClass.{PlatformClass}
use Rattle.acpi_fixed.specs.declared.tpm2.StartMethod.{StartMethod}
use Rattle.acpi_fixed.specs.declared.tpm2.StartMethod.TheVariants as methods
use Rattle.acpi_fixed.specs.declared.tpm2.LogArea.{LogArea}
use Rattle.acpi_fixed.specs.declared.tpm2.Tpm2.{Tpm2}

-- Start Method
abbrev pub method_number : StartMethod → ℕ
method_number methods.LegacyUse = 0x01
method_number methods.AcpiStart = 0x02
method_number methods.Mmio = 0x06
method_number methods.Crb = 0x07
method_number methods.CrbAndAcpiStart = 0x08
method_number methods.CrbAndSmcHvc = 0x0b
method_number methods.I2cFifo = 0x0c

-- the log area follows the parameters of the start method
abbrev pub area_fields : Option LogArea → List NamedField
area_fields None = []
area_fields (Some area) =
    bytes "Start Method Specific Parameters" 12 (zeros 12)  -- 52
    ∷ dword "Log Area Minimum Length" area.min_len  -- 64
    ∷ hex qword "Log Area Start Address" area.base_addr  -- 68
    ∷ []

-- the words of Start Method
abbrev pub method_words : List (ℕ × List ℕ)
method_words =
    means 1 "Vendor Specific Legacy Use"
    ∷ means 2 "ACPI Start Method"
    ∷ means 6 "Memory Mapped I/O"
    ∷ means 7 "Command Response Buffer"
    ∷ means 8 "Command Response Buffer with ACPI Start Method"
    ∷ means 11 "Command Response Buffer with Arm Secure Monitor or Hypervisor Call"
    ∷ means 12 "FIFO over I2C"
    ∷ []

-- the fields after the header
abbrev pub tpm2_fields : Tpm2 → Option LogArea → List NamedField
tpm2_fields t area =
    one_of class_words word "Platform Class" (class_number t.platform_class)  -- 36
    ∷ reserved 2  -- 38
    ∷ hex qword "Address of CRB Control Area" t.crb_or_fifo_base  -- 40: or of the FIFO
    ∷ one_of method_words dword "Start Method" (method_number t.start_method)  -- 48
    ∷ area_fields area

abbrev pub tpm2_with : Tpm2 → Option LogArea → List ℕ
tpm2_with t area = table_of (codes "TPM2") t.revision t.oem (fields_joined (tpm2_fields t area))

abbrev pub tpm2_bytes : Tpm2 → List ℕ
tpm2_bytes t = tpm2_with t t.log_area

abbrev pub tpm2_size : Option LogArea → ℕ
tpm2_size None = 52
tpm2_size (Some area) = 76

-- a table of a revision without a log area
abbrev pub tpm2_of : ℕ → Oem → PlatformClass → ℕ → StartMethod → Tpm2
tpm2_of revision oem class address method = record {
  revision = revision;
  oem = oem;
  platform_class = class;
  crb_or_fifo_base = address;
  start_method = method;
  log_area = None;
}

-- that of the revision of `new`
abbrev pub tpm2_for : Oem → PlatformClass → ℕ → StartMethod → Tpm2
tpm2_for oem class address method = tpm2_of 1 oem class address method

abbrev pub with_area : ℕ → ℕ → Tpm2 → Tpm2
with_area min_len base_addr t = record t { log_area = Some (record { min_len = min_len; base_addr = base_addr }) }

-- the log area is set if there was none; otherwise the call fails and nothing changes
abbrev pub LogAreaOnce : Tpm2 → ℕ → ℕ → Tpm2 → Result Unit Error → Type 0
LogAreaOnce old min_len base_addr new (Ok _) = (old.log_area ≡ None) × (new ≡ with_area min_len base_addr old)
LogAreaOnce old min_len base_addr new (Err e) = (e ≡ LogAreaSet) × (IsSome old.log_area) × (new ≡ old)
