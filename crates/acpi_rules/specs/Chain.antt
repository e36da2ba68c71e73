-- The rule on structures of which each has the offset of the next: `cycle`.
use Rattle.std.specs.Prelude.{ℕ, zero, suc, ◌-◌, ◌==◌, Bool, true, if◌then◌else◌, List, [], ◌∷◌, length, map, slice_index_or}
use Rattle.std.specs.List.{flat_map}
use Rattle.acpi_rules.specs.Finding.{Finding}
use Rattle.acpi_rules.specs.Item.{Item}
use Rattle.acpi_rules.specs.Related.{relates}
use Rattle.acpi_rules.specs.Rules.{number_of}
use Rattle.acpi_rules.specs.declared.finding.Rule.TheVariants.{Cycle}

-- The place of the part that begins at an offset, where the first of these has the place k, and each has its field at the same
-- offset. It is 0 if none of them begins there.
abbrev pub place_from : ℕ → ℕ → ℕ → List Item → ℕ
place_from k at n [] = 0
place_from k at n (item ∷ items) = if item.field.offset - at == n then k else place_from (suc k) at n items

-- the place of the part that a part names in its field, or 0
abbrev pub next_place : ℕ → List Item → Item → ℕ
next_place at parts item = place_from 1 at (number_of item.field) parts

abbrev pub next_places : ℕ → List Item → List ℕ
next_places at parts = map (next_place at parts) parts

-- whether no part is left after at most n of them, from the one at a place on
abbrev pub ends_within : ℕ → List ℕ → ℕ → Bool
ends_within zero next place = place == 0
ends_within (suc n) next place = if place == 0 then true else ends_within n next (slice_index_or next (place - 1) 0)

-- The parts that follow one come to an end: no part is among them twice, so they are at most as many as there are.
abbrev pub end_findings : ℕ → List ℕ → List Item → List ℕ → Item → List Finding
end_findings at section parts next item =
    if ends_within (length parts) next (next_place at parts item) then [] else relates Cycle section 0 0 [] item.field

abbrev pub chain_findings : ℕ → List ℕ → List Item → List Finding
chain_findings at section parts = flat_map (end_findings at section parts (next_places at parts)) parts
