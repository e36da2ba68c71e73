-- The rules on numbers of one part of a table: `at-most`, `no-overflow`, `inside`, `count`, `pair`, `required`, `needs`, `range`,
-- `multiple` and `not-all`.
use Rattle.std.specs.Prelude.{ℕ, ◌+◌, ◌-◌, ◌*◌, ◌%◌, ◌^◌, ◌==◌, nat_le, nat_lt, ◌&&◌, ◌||◌, not, if◌then◌else◌}
use Rattle.std.specs.Prelude.{bit_and, bit_or, List, [], length}
use Rattle.acpi_rules.specs.Demand.{Spot, Demand, at_most, addresses, blocks, inside, counts, agrees, needed, needs, between}
use Rattle.acpi_rules.specs.Demand.{multiple, not_all, all, terminated, terminated_at, terminated_before}
use Rattle.acpi_rules.specs.Finding.{Finding}
use Rattle.acpi_rules.specs.Item.{Item, has, number_in}
use Rattle.acpi_rules.specs.Related.{relates}
use Rattle.acpi_rules.specs.Rules.{number_of}
use Rattle.acpi_rules.specs.Terminated.{terminated_findings, terminated_at_findings, terminated_before_findings}
use Rattle.acpi_rules.specs.declared.finding.Rule.TheVariants.{AtMost, NoOverflow, Inside, Count, Pair, Required, Needs}
use Rattle.acpi_rules.specs.declared.finding.Rule.TheVariants.{Range, Multiple, NotAll}

-- A number isn't greater than that of another field.
abbrev pub order_findings : List ℕ → Spot → Item → List Finding
order_findings section other item =
    if not (has other item.bytes) || nat_le (number_of item.field) (number_in other item.bytes) then []
    else relates AtMost section (number_in other item.bytes) 0 other.name item.field

-- The last address of a range is below 2^64.
abbrev pub address_findings : List ℕ → Spot → Item → List Finding
address_findings section size item =
    if nat_lt (number_of item.field + (number_in size item.bytes - 1)) (2 ^ 64) then []
    else relates NoOverflow section (number_in size item.bytes) 0 size.name item.field

-- The last address of the last block of a size is below 2^64.
abbrev pub block_findings : List ℕ → Spot → ℕ → Item → List Finding
block_findings section last size item =
    if nat_lt (number_of item.field + size * number_in last item.bytes + (size - 1)) (2 ^ 64) then []
    else relates NoOverflow section (number_in last item.bytes) 0 last.name item.field

-- Entries of a size that begin at an offset, as many as another field says, stand in a part. No bytes have any offset.
abbrev pub inside_findings : List ℕ → Spot → ℕ → Item → List Finding
inside_findings section number size item =
    if (size * number_in number item.bytes == 0)
    || nat_le (number_of item.field + size * number_in number item.bytes) (length item.bytes)
    then [] else relates Inside section (number_in number item.bytes) (length item.bytes) number.name item.field

-- Entries of a size, as many as a number says, stand between an offset and the end of a part.
abbrev pub count_findings : List ℕ → ℕ → ℕ → Item → List Finding
count_findings section start size item =
    if nat_le (start + size * number_of item.field) (length item.bytes) then []
    else relates Count section 0 (length item.bytes) [] item.field

-- Two numbers are the same, unless one is zero.
abbrev pub pair_findings : List ℕ → Spot → Item → List Finding
pair_findings section other item =
    if (number_of item.field == 0) || (number_in other item.bytes == 0) || (number_of item.field == number_in other item.bytes)
    then [] else relates Pair section (number_in other item.bytes) 0 other.name item.field

-- One of two numbers isn't zero.
abbrev pub needed_findings : List ℕ → Spot → Item → List Finding
needed_findings section other item =
    if (number_of item.field == 0) && (number_in other item.bytes == 0)
    then relates Required section 0 0 other.name item.field else []

-- A number is zero, or another isn't.
abbrev pub needs_findings : List ℕ → Spot → Item → List Finding
needs_findings section other item =
    if (number_of item.field == 0) || not (number_in other item.bytes == 0) then []
    else relates Needs section 0 0 other.name item.field

-- A number is from one to another.
abbrev pub between_findings : List ℕ → ℕ → ℕ → Item → List Finding
between_findings section from to item =
    if nat_le from (number_of item.field) && nat_le (number_of item.field) to then []
    else relates Range section from to [] item.field

-- A number is a multiple of another.
abbrev pub multiple_findings : List ℕ → ℕ → Item → List Finding
multiple_findings section unit item =
    if number_of item.field % unit == 0 then [] else relates Multiple section unit 0 [] item.field

-- The bits of a mask aren't all set in a number.
abbrev pub not_all_findings : List ℕ → ℕ → Item → List Finding
not_all_findings section mask item =
    if bit_and (number_of item.field) mask == mask then relates NotAll section mask 0 [] item.field else []

-- The bits of a mask are all set in a number.
abbrev pub all_findings : List ℕ → ℕ → Item → List Finding
all_findings section mask item =
    if bit_and (number_of item.field) mask == mask then []
    else relates Range section (bit_or (number_of item.field) mask) (bit_or (number_of item.field) mask) [] item.field

-- what a part breaks of a demand on its numbers or a string
abbrev pub number_findings : Demand → List ℕ → Item → List Finding
number_findings (at_most other) section item = order_findings section other item
number_findings (addresses size) section item = address_findings section size item
number_findings (blocks last size) section item = block_findings section last size item
number_findings (inside number size) section item = inside_findings section number size item
number_findings (counts start size) section item = count_findings section start size item
number_findings (agrees other) section item = pair_findings section other item
number_findings (needed other) section item = needed_findings section other item
number_findings (needs other) section item = needs_findings section other item
number_findings (between from to) section item = between_findings section from to item
number_findings (multiple unit) section item = multiple_findings section unit item
number_findings (not_all mask) section item = not_all_findings section mask item
number_findings (all mask) section item = all_findings section mask item
number_findings (terminated size) section item = terminated_findings section size item
number_findings (terminated_at start) section item = terminated_at_findings section start item
number_findings (terminated_before start end) section item = terminated_before_findings section start end item
number_findings demand section item = []
