-- The rules on strings that end with a zero: `terminated`.
use Rattle.std.specs.Prelude.{ℕ, ◌+◌, ◌-◌, ◌==◌, ◌||◌, Bool, true, false, if◌then◌else◌, List, [], ◌∷◌, take, drop}
use Rattle.acpi_rules.specs.Demand.{Spot}
use Rattle.acpi_rules.specs.Finding.{Finding}
use Rattle.acpi_rules.specs.Item.{Item, number_in}
use Rattle.acpi_rules.specs.Related.{relates}
use Rattle.acpi_rules.specs.Rules.{number_of}
use Rattle.acpi_rules.specs.declared.finding.Rule.TheVariants.{Terminated}

-- whether bytes begin with a zero, or there are none
abbrev pub begins_with_zero : List ℕ → Bool
begins_with_zero [] = true
begins_with_zero (b ∷ bytes) = b == 0

-- Whether the last of as many bytes as a number says, which begin at an offset, is zero. No bytes need none, and those that end
-- after the bytes that are there break another rule.
abbrev pub ends_with_zero : ℕ → ℕ → List ℕ → Bool
ends_with_zero start size bytes = (size == 0) || begins_with_zero (drop (start + (size - 1)) bytes)

abbrev pub has_zero : List ℕ → Bool
has_zero [] = false
has_zero (b ∷ bytes) = (b == 0) || has_zero bytes

-- whether one of some bytes is zero, or there are none
abbrev pub has_end : List ℕ → Bool
has_end [] = true
has_end (b ∷ bytes) = has_zero (b ∷ bytes)

-- the bytes before an offset, or all if it is zero
abbrev pub bytes_before : ℕ → List ℕ → List ℕ
bytes_before end bytes = if end == 0 then bytes else take end bytes

-- A string that ends as it has to breaks no rule.
abbrev pub ending_findings : List ℕ → Bool → Item → List Finding
ending_findings section ends item = if ends then [] else relates Terminated section 0 0 [] item.field

-- As many bytes as another field says, which begin at the offset in a field, end with a zero.
abbrev pub terminated_findings : List ℕ → Spot → Item → List Finding
terminated_findings section size item =
    ending_findings section (ends_with_zero (number_of item.field) (number_in size item.bytes) item.bytes) item

-- As many bytes as a field says, which begin at an offset, end with a zero.
abbrev pub terminated_at_findings : List ℕ → ℕ → Item → List Finding
terminated_at_findings section start item =
    ending_findings section (ends_with_zero start (number_of item.field) item.bytes) item

-- One of the bytes from an offset to the one that another field has is zero, or of those to the end if that one is zero.
abbrev pub terminated_before_findings : List ℕ → ℕ → Spot → Item → List Finding
terminated_before_findings section start end item =
    ending_findings section (has_end (drop start (bytes_before (number_in end item.bytes) item.bytes))) item
