-- Tables of texts, and texts to begin with.
use Rattle.std.specs.Prelude.{◌≡◌, ◌⊎◌, ℕ, List, length, Ok, Err}
use Rattle.std.specs.Str.{IsUtf8}
use Rattle.acpi_forms.specs.Makes.{IsMade, IsTemplateOf}
use Rattle.acpi_make.specs.declared.fault.MakeError.{MakeError}
use Rattle.acpi_make.specs.declared.make.Made.{Made}
use Rattle.acpi_c_calls.specs.Refused.{by_memory, by_make}
use Rattle.acpi_c_calls.specs.declared.fault.Fault.TheVariants.{Signature}
use Rattle.acpi_c_calls.specs.declared.refused.Refused.{Refused}

-- a text is made into these bytes
pub record IsTableOf (text bytes : List ℕ) : Type 0 where
  pub made : Made
  pub is : IsMade text (Ok made)
  pub same : bytes ≡ made.bytes.items

-- a text has this fault, or memory ran out
pub record IsMakeRefusal (text : List ℕ) (refused : Refused) : Type 0 where
  pub error : MakeError
  pub is : refused ≡ by_make text error
  pub why : IsMade text (Err error)

-- four bytes of UTF-8
pub record IsSignature (bytes : List ℕ) : Type 0 where
  pub text : IsUtf8 bytes
  pub four : length bytes ≡ 4

-- a text of the table of a signature
pub record IsTemplate (signature text : List ℕ) : Type 0 where
  pub signed : IsSignature signature
  pub is : IsTemplateOf signature text

-- there is no such signature, or memory ran out
abbrev pub IsTemplateRefusal : List ℕ → Refused → Type 0
IsTemplateRefusal signature refused =
    (refused ≡ by_memory) ⊎ ((refused ≡ record { fault = Signature; place = 0 }) × ¬ IsSignature signature)
