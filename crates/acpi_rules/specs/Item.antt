-- The parts of a table of which a rule speaks, each with its field.
use Rattle.std.specs.Prelude.{ℕ, zero, suc, ◌+◌, ◌==◌, nat_le, nat_lt, ◌&&◌, not, Bool, true, if◌then◌else◌, bit_and}
use Rattle.std.specs.Prelude.{List, [], ◌∷◌, length, take, drop, Option, Some, None}
use Rattle.std.specs.List.{flat_map}
use Rattle.acpi_base.specs.Bytes.{carried}
use Rattle.acpi_base.specs.Look as looks
use Rattle.acpi_base.specs.declared.walk.Place.{Place}
use Rattle.acpi_base.specs.declared.walk.Walk.{Walk}
use Rattle.acpi_rules.specs.Demand.{Spot}
use Rattle.acpi_rules.specs.Field.{Field, seen, Structure, structures_of}
use Rattle.acpi_rules.specs.declared.demand.Among.{Among}
use Rattle.acpi_rules.specs.declared.demand.Of.{Of}
use Rattle.acpi_rules.specs.declared.demand.Of.TheVariants.{Whole, Each, Kind, Entries}
use Rattle.acpi_rules.specs.declared.demand.When.{When}
use Rattle.acpi_rules.specs.declared.demand.When.TheVariants.{Always, Is, Not}
use Rattle.acpi_rules.specs.declared.item.Item.{Item as ItemData}
use Rattle.acpi_text.specs.Form.{number_at, count_of}
use Rattle.acpi_text.specs.Table.{start_of}

-- ---- a field of a part

-- whether bytes have a field
abbrev pub has : Spot → List ℕ → Bool
has spot bytes = nat_le (spot.offset + spot.width) (length bytes)

-- the bytes of a field, as far as there are bytes
abbrev pub bytes_in : Spot → List ℕ → List ℕ
bytes_in spot bytes = take spot.width (drop spot.offset bytes)

-- the number in a field, of which it has eight bytes at most
abbrev pub number_in : Spot → List ℕ → ℕ
number_in spot bytes = carried (take 8 (bytes_in spot bytes))

-- the field of a part that begins at an offset
abbrev pub field_in : Spot → ℕ → List ℕ → Field
field_in spot at bytes = record {
  offset = at + spot.offset;
  name = spot.name;
  look = looks.number;
  width = spot.width;
  bytes = bytes_in spot bytes;
}

-- ---- the parts of a table

-- a part's field, and the part's bytes
pub record Item : Type 0 where
  pub field : Field
  pub bytes : List ℕ

abbrev pub item_by : ItemData → Item
item_by item = record { field = seen item.field; bytes = item.bytes.now }

-- whether a part counts
abbrev pub counts_when : When → List ℕ → Bool
counts_when Always bytes = true
counts_when (Is place mask number) bytes = bit_and (number_at place bytes) mask == number
counts_when (Not place mask number) bytes = not (bit_and (number_at place bytes) mask == number)

-- a part, if it is one of these, and has the field
abbrev pub part_items : Among → Spot → Structure → List Item
part_items among spot s =
    if counts_when among.when s.bytes && has spot s.bytes
    then record { field = field_in spot s.offset s.bytes; bytes = s.bytes } ∷ [] else []

-- as many parts of a size as are wanted, or as there are bytes for
abbrev pub entries : ℕ → ℕ → ℕ → List ℕ → List Structure
entries zero size at bytes = []
entries (suc n) size at bytes =
    if nat_le size (length bytes)
    then record { offset = at; bytes = take size bytes } ∷ entries n size (at + size) (drop size bytes) else []

-- where the entries of a structure begin: at the offset in a field, if it isn't below the least one
abbrev pub first_entry : Place → ℕ → List ℕ → ℕ
first_entry first least bytes = if nat_lt (number_at first bytes) least then least else number_at first bytes

-- the entries of a structure that begin at an offset of its bytes
abbrev pub entries_in : ℕ → ℕ → ℕ → Structure → List Structure
entries_in start count size s = entries count size (s.offset + length (take start s.bytes)) (drop start s.bytes)

-- the parts of a structure that has a type
abbrev pub structure_items : Of → Among → Spot → Place → Structure → List Item
structure_items Whole among spot kind s = []
structure_items Each among spot kind s = part_items among spot s
structure_items (Kind number) among spot kind s = if number_at kind s.bytes == number then part_items among spot s else []
structure_items (Entries number first start count size) among spot kind s =
    if number_at kind s.bytes == number
    then flat_map (part_items among spot) (entries_in (first_entry first start s.bytes) (count_of count s.bytes) size s) else []

-- the structures of a table
abbrev pub structures_by : Walk → List ℕ → List Structure
structures_by walk bytes =
    let start = start_of walk bytes in structures_of walk.sizes (length (take start bytes)) (drop start bytes)

-- those parts of a table that have the field
abbrev pub items_by : Of → Among → Spot → Option Walk → List ℕ → List Item
items_by Whole among spot walk bytes = part_items among spot (record { offset = 0; bytes = bytes })
items_by of among spot None bytes = []
items_by of among spot (Some walk) bytes = flat_map (structure_items of among spot walk.kind) (structures_by walk bytes)

abbrev pub items : Among → Spot → Option Walk → List ℕ → List Item
items among spot walk bytes = items_by among.of among spot walk bytes
