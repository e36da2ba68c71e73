-- Definition blocks of ASL.
use Rattle.std.specs.Prelude.{◌≡◌, ℕ, List}
use Rattle.acpi_compile.specs.Compiled.{IsCompiled}
use Rattle.acpi_compile.specs.declared.fault.AslError.{AslError}
use Rattle.acpi_c_calls.specs.Refused.{by_asl}
use Rattle.acpi_c_calls.specs.declared.refused.Refused.{Refused}

-- the bytes are a definition block whose ASL is the text
abbrev pub IsBlockOf : List ℕ → List ℕ → Type 0
IsBlockOf text bytes = IsCompiled text bytes

-- no block is made of a text, which has a fault on this line, or memory ran out
pub record IsCompileRefusal (text : List ℕ) (refused : Refused) : Type 0 where
  pub error : AslError
  pub is : refused ≡ by_asl text error
