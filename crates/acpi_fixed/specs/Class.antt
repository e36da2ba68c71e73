-- Platform classes (TCG ACPI Specification).
use Rattle.std.specs.Prelude.{ℕ, List, [], ◌∷◌}
use Rattle.acpi_base.specs.Look.{means}
use Rattle.acpi_fixed.specs.declared.tpm2.PlatformClass.{PlatformClass}
use Rattle.acpi_fixed.specs.declared.tpm2.PlatformClass.TheVariants.{Client, Server}

abbrev pub class_number : PlatformClass → ℕ
class_number Client = 0
class_number Server = 1

-- the words of Platform Class
abbrev pub class_words : List (ℕ × List ℕ)
class_words =
    means 0 "Client"
    ∷ means 1 "Server"
    ∷ []
