-- The rules on numbers that are those of other structures, and on parts that a table has.
use Rattle.std.specs.Prelude.{ℕ, ◌==◌, ◌||◌, Bool, false, if◌then◌else◌, List, [], ◌∷◌, length, map, Option, codes}
use Rattle.std.specs.List.{flat_map}
use Rattle.acpi_base.specs.declared.walk.Walk.{Walk}
use Rattle.acpi_rules.specs.Demand.{Spot, Demand, differs_in, points, refers, includes}
use Rattle.acpi_rules.specs.Finding.{Finding}
use Rattle.acpi_rules.specs.Item.{Item, items}
use Rattle.acpi_rules.specs.Related.{relates}
use Rattle.acpi_rules.specs.Rules.{number_of}
use Rattle.acpi_rules.specs.declared.demand.Among.{Among}
use Rattle.acpi_rules.specs.declared.demand.Of.TheVariants.{Kind}
use Rattle.acpi_rules.specs.declared.demand.When.TheVariants.{Always}
use Rattle.acpi_rules.specs.declared.finding.Rule.TheVariants.{Reference, Present}

-- the structures of a type
abbrev pub of_kind : ℕ → Among
of_kind kind = record { of = Kind kind; when = Always }

-- where a part begins
abbrev pub start_spot : Spot
start_spot = record { offset = 0; width = 0; name = codes "offset" }

-- the offsets of those parts of a table that are one of these
abbrev pub starts_among : Option Walk → List ℕ → Among → List ℕ
starts_among walk bytes among = map (λ item. item.field.offset) (items among start_spot walk bytes)

-- the offsets of the structures of a type
abbrev pub starts : Option Walk → List ℕ → ℕ → List ℕ
starts walk bytes kind = starts_among walk bytes (of_kind kind)

-- the numbers that a demand allows besides zero, or the offsets of the parts that it speaks of
abbrev pub targets : Demand → Option Walk → List ℕ → List ℕ
targets (differs_in kind) walk bytes = starts walk bytes kind
targets (points types) walk bytes = flat_map (starts walk bytes) types
targets (refers kind spot) walk bytes = map (λ item. number_of item.field) (items (of_kind kind) spot walk bytes)
targets (includes parts what) walk bytes = flat_map (starts_among walk bytes) parts
targets demand walk bytes = []

-- the name of the field that has these numbers
abbrev pub target_name : Demand → List ℕ
target_name (refers kind spot) = spot.name
target_name demand = start_spot.name

abbrev pub contains : List ℕ → ℕ → Bool
contains [] n = false
contains (one ∷ more) n = (one == n) || contains more n

-- A number is zero, or one of these.
abbrev pub reference_findings : List ℕ → List ℕ → List ℕ → Item → List Finding
reference_findings section name numbers item =
    if (number_of item.field == 0) || contains numbers (number_of item.field) then []
    else relates Reference section 0 0 name item.field

-- A table has one of some parts, whose offsets these are.
abbrev pub present_findings : List ℕ → List ℕ → List ℕ → Item → List Finding
present_findings section what numbers item = if length numbers == 0 then relates Present section 0 0 what item.field else []
