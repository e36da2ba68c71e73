-- The rules on the distances between localities (ACPI 6.5, 5.2.17).
use Rattle.std.specs.Prelude.{ℕ, zero, suc, ◌+◌, ◌*◌, ◌==◌, nat_le, if◌then◌else◌, List, [], ◌∷◌, ◌++◌, length, drop}
use Rattle.acpi_base.specs.Look as looks
use Rattle.acpi_rules.specs.Demand.{Spot}
use Rattle.acpi_rules.specs.Field.{Field}
use Rattle.acpi_rules.specs.Finding.{Finding}
use Rattle.acpi_rules.specs.Item.{Item}
use Rattle.acpi_rules.specs.Related.{relates}
use Rattle.acpi_rules.specs.Rules.{number_of}
use Rattle.acpi_rules.specs.declared.finding.Rule.TheVariants.{Count, Distance}

-- the distance at an offset
abbrev pub distance_at : List ℕ → ℕ → ℕ → Field
distance_at name at distance = record { offset = at; name = name; look = looks.number; width = 1; bytes = distance ∷ [] }

-- The distance from a locality to itself is 10. Each other one isn't below 10.
abbrev pub distance_findings : List ℕ → Field → ℕ → ℕ → List Finding
distance_findings section field zero distance =
    if distance == 10 then [] else relates Distance section 10 10 [] field
distance_findings section field (suc others) distance =
    if nat_le 10 distance then [] else relates Distance section 10 255 [] field

-- how many distances stand before the next one from a locality to itself: of n localities, n after each such one
abbrev pub others_after : ℕ → ℕ → ℕ
others_after n zero = n
others_after n (suc others) = others

-- the distances between n localities, before the first of which from a locality to itself there are so many others
abbrev pub row_findings : List ℕ → List ℕ → ℕ → ℕ → ℕ → List ℕ → List Finding
row_findings section name n others at [] = []
row_findings section name n others at (distance ∷ distances) =
    distance_findings section (distance_at name at distance) others distance
    ++ row_findings section name n (others_after n others) (at + 1) distances

-- There is a distance for each two localities.
abbrev pub matrix_findings : List ℕ → Spot → Item → List Finding
matrix_findings section first item =
    if first.offset + number_of item.field * number_of item.field == length item.bytes
    then row_findings section first.name (number_of item.field) 0 first.offset (drop first.offset item.bytes)
    else relates Count section 0 (length item.bytes) [] item.field
