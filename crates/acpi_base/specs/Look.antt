-- What the values of fields are.
use Rattle.std.specs.Prelude.{ℕ, List, [], ◌∷◌, codes}
use Prim.Native.String.{String}
use Rattle.acpi_base.specs.declared.row.Bits.{Bits}
use Rattle.acpi_base.specs.declared.row.Bits.TheVariants as bits
use Rattle.acpi_base.specs.declared.row.Look.{Look as LookData}
use Rattle.acpi_base.specs.declared.row.Look.TheVariants as looks
use Rattle.acpi_base.specs.declared.row.Row.{Row}
use Rattle.acpi_base.specs.declared.row.Row.TheVariants as rows
use Rattle.acpi_base.specs.declared.row.Word.{Word}

-- ---- words

-- this number means what the name says
abbrev pub means : ℕ → String → ℕ × List ℕ
means number name = (number, codes name)

-- ---- bits of a number

-- What bits of a number are. Their mask has a one for each of them.
-- - one_flag: a flag;
-- - one_choice: one of several things, by the number that has these bits in their places, and zeros in all others;
-- - one_number: a number of its own, which counts by the lowest bit of the mask.
pub data Part : Type 0 where
  one_flag : ℕ → List ℕ → Part
  one_choice : ℕ → List (ℕ × List ℕ) → Part
  one_number : ℕ → ℕ → List ℕ → Part

abbrev pub flag : ℕ → String → Part
flag mask name = one_flag mask (codes name)

abbrev pub choice : ℕ → List (ℕ × List ℕ) → Part
choice mask words = one_choice mask words

abbrev pub part : ℕ → ℕ → String → Part
part mask lowest name = one_number mask lowest (codes name)

-- ---- values

-- What the value of a field is:
-- - number: a number that counts or measures;
-- - hex: a number that is an address, an id or a mask;
-- - preset: a number that has this one right value;
-- - reference: a number that is the offset of another structure;
-- - flags: a number whose bits have meanings of their own;
-- - one_of: a number that stands for one of several things;
-- - bytes: bytes in their order;
-- - text: characters of ASCII, with zeros after them;
-- - uuid: a universally unique id;
-- - register: the address of a register (ACPI 6.5, 5.2.3.2);
-- - reserved: bytes that are zero.
pub data Look : Type 0 where
  number : Look
  hex : Look
  preset : ℕ → Look
  reference : Look
  flags : List Part → Look
  one_of : List (ℕ × List ℕ) → Look
  bytes : Look
  text : Look
  uuid : Look
  register : Look
  reserved : Look

-- ---- rows

abbrev pub words_of : List Word → List (ℕ × List ℕ)
words_of [] = []
words_of (word ∷ words) = (word.0, word.1.now) ∷ words_of words

abbrev pub part_of : Bits → Part
part_of (bits.Flag mask name) = one_flag mask name.now
part_of (bits.OneOf mask words) = one_choice mask (words_of words.now)
part_of (bits.Number mask lowest name) = one_number mask lowest name.now

abbrev pub bits_of : List Bits → List Part
bits_of [] = []
bits_of (part ∷ parts) = part_of part ∷ bits_of parts

abbrev pub row_look : Row → Look
row_look (rows.Number name width) = number
row_look (rows.Hex name width) = hex
row_look (rows.Preset name width value) = preset value
row_look (rows.Reference name width) = reference
row_look (rows.Flags name width parts) = flags (bits_of parts.now)
row_look (rows.OneOf name width words) = one_of (words_of words.now)
row_look (rows.Bytes name width) = bytes
row_look (rows.Text name width) = text
row_look (rows.Uuid name) = uuid
row_look (rows.Register name) = register
row_look (rows.Reserved width) = reserved

abbrev pub look_of : LookData → Look
look_of looks.Number = number
look_of looks.Hex = hex
look_of (looks.Preset value) = preset value
look_of looks.Reference = reference
look_of (looks.Flags parts) = flags (bits_of parts.now)
look_of (looks.OneOf words) = one_of (words_of words.now)
look_of looks.Bytes = bytes
look_of looks.Text = text
look_of looks.Uuid = uuid
look_of looks.Register = register
look_of looks.Reserved = reserved
