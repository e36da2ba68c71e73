-- Generic Error Data Entries (ACPI 6.5, 18.3.2.7.1, in this project's profile: a section type of two bytes).
use Rattle.std.specs.Prelude.{◌≡◌, ℕ, List, [], ◌∷◌, replicate}
use Rattle.acpi_base.specs.Fields.{NamedField, byte, word, dword, hex, flags, one_of, bytes, text, uuid, fields_joined}
use Rattle.acpi_base.specs.Look.{Part, flag}
use Rattle.acpi_base.specs.Object.{Object, whole, chain, all_of}
use Rattle.acpi_hest.specs.declared.hest.error_data.GenericErrorData.{GenericErrorData}
use Rattle.acpi_hest.specs.declared.hest.status.ErrorSeverity.{ErrorSeverity}
use Rattle.acpi_hest.specs.Status.{severity_number, severity_words}

-- An entry of a severity. It has no data, and every other field is zero.
pub record IsNewErrorData {X : Type 0} {P : X → Type 0} (severity : ErrorSeverity) (d : GenericErrorData X P) : Type 0 where
  pub section_type : d.section_type ≡ 0
  pub severity_is : d.severity ≡ severity
  pub revision : d.revision ≡ 0
  pub validation : d.validation ≡ 0
  pub flags : d.flags ≡ 0
  pub error_data_length : d.error_data_length ≡ 0
  pub fru_id : d.fru_id ≡ replicate 16 0
  pub fru_text : d.fru_text ≡ replicate 20 0
  pub timestamp : d.timestamp ≡ replicate 8 0
  pub objects : d.objects.items ≡ []

-- the fields of an entry before its data
pub record ErrorHead : Type 0 where
  pub section_type : ℕ
  pub severity : ErrorSeverity
  pub revision : ℕ
  pub validation : ℕ
  pub flags : ℕ
  pub error_data_length : ℕ
  pub fru_id : List ℕ
  pub fru_text : List ℕ
  pub timestamp : List ℕ

abbrev pub head_of : {X : Type 0} {P : X → Type 0} → GenericErrorData X P → ErrorHead
head_of d = record {
  section_type = d.section_type;
  severity = d.severity;
  revision = d.revision;
  validation = d.validation;
  flags = d.flags;
  error_data_length = d.error_data_length;
  fru_id = d.fru_id;
  fru_text = d.fru_text;
  timestamp = d.timestamp;
}

-- Validation Bits
abbrev pub validation_bits : List Part
validation_bits =
    flag 0x1 "FRU Id Valid"
    ∷ flag 0x2 "FRU Text Valid"
    ∷ flag 0x4 "Timestamp Valid"
    ∷ []

-- Flags, those of a section descriptor (UEFI 2.10, N.2.2)
abbrev pub section_bits : List Part
section_bits =
    flag 0x01 "Primary"
    ∷ flag 0x02 "Containment Warning"
    ∷ flag 0x04 "Reset"
    ∷ flag 0x08 "Error Threshold Exceeded"
    ∷ flag 0x10 "Resource Not Accessible"
    ∷ flag 0x20 "Latent Error"
    ∷ flag 0x40 "Propagated"
    ∷ flag 0x80 "Overflow"
    ∷ []

abbrev pub error_head_fields : ErrorHead → List NamedField
error_head_fields h =
    hex word "Section Type" h.section_type  -- 0
    ∷ one_of severity_words dword "Error Severity" (severity_number h.severity)  -- 2
    ∷ hex word "Revision" h.revision  -- 6
    ∷ flags validation_bits byte "Validation Bits" h.validation  -- 8
    ∷ flags section_bits byte "Flags" h.flags  -- 9
    ∷ dword "Error Data Length" h.error_data_length  -- 10
    ∷ uuid "FRU Id" h.fru_id  -- 14
    ∷ text "FRU Text" 20 h.fru_text  -- 30
    ∷ bytes "Timestamp" 8 h.timestamp  -- 50
    ∷ []

abbrev pub error_data_head : {X : Type 0} {P : X → Type 0} → GenericErrorData X P → List ℕ
error_data_head d = fields_joined (error_head_fields (head_of d))

-- the entry and then its objects, up to the first error
abbrev pub error_data_object : {X : Type 0} {P : X → Type 0} → GenericErrorData X P → List Object → Object
error_data_object d objects = chain (whole (error_data_head d)) (all_of objects)
