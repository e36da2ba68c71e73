-- Resource templates (ACPI 6.5, 6.4 and 19.6.117): buffers whose bytes are descriptors that have macros, and the end tag.
use Rattle.std.specs.Prelude.{ℕ, zero, suc, ◌+◌, ◌-◌, ◌*◌, ◌/◌, ◌%◌, nat_lt, nat_le, ◌==◌, ◌&&◌, ◌||◌, not, Bool, true, false}
use Rattle.std.specs.Prelude.{if◌then◌else◌, Option, Some, None, List, [], ◌∷◌, ◌++◌, length, take, slice_index_or, codes}
use Rattle.std.specs.Fmt.{decimal}
use Rattle.acpi_asl.specs.declared.descriptor.Part.{Part}
use Rattle.acpi_asl.specs.declared.descriptor.Part.TheVariants as parts
use Rattle.acpi_asl.specs.declared.descriptor.Offset.TheVariants as offsets
use Rattle.acpi_asl.specs.declared.descriptor.Braces.{Braces}
use Rattle.acpi_asl.specs.declared.descriptor.Braces.TheVariants as tails
use Rattle.acpi_asl.specs.declared.macros.Descriptor.{Descriptor}
use Rattle.acpi_asl.specs.Content.{value_of, digits_at, are_zero, offset_of, between, up_to_zero, source_at, all_hold}
use Rattle.acpi_asl.specs.Descriptor.{words, Row, facts, descriptors}
use Rattle.acpi_asl.specs.Number.{upper_digit, hex, string_text}
use Rattle.acpi_asl.specs.Place.{new_line}
use Rattle.acpi_terms_text.specs.Word.{word_in}
use Rattle.acpi_terms_text.specs.Descriptor.{item_size}

-- ---- the arguments of a macro

-- the comma before an argument
abbrev pub comma : Bool → List ℕ
comma first = if first then [] else codes ", "

-- A name of four characters, by a number: that of the template's tags, and how many bytes of the template begin with the item. So
-- no two items of a template have the same.
abbrev pub tag_text : ℕ → List ℕ
tag_text n = 0x59 ∷ upper_digit (n / 256 % 16) ∷ upper_digit (n / 16 % 16) ∷ upper_digit (n % 16) ∷ []

-- bytes
abbrev pub listed_bytes : Bool → List ℕ → List ℕ
listed_bytes first [] = []
listed_bytes first (b ∷ bytes) = (comma first ++ hex 1 b) ++ listed_bytes false bytes

-- the word of a number; from 0x80 on, where vendors define the numbers, the number
abbrev pub word_or_number : List (ℕ × List ℕ) → ℕ → List ℕ
word_or_number words b = if nat_lt b 128 then word_in words b else hex 1 b

-- a vendor's data, if there is any
abbrev pub vendor_text : List ℕ → List ℕ
vendor_text [] = []
vendor_text (b ∷ bytes) =
    codes "RawDataBuffer (" ++ (hex 2 (length (b ∷ bytes)) ++ (codes ") {" ++ (listed_bytes true (b ∷ bytes) ++ codes "}")))

-- The text of an argument; n is the number of a tag. A compiler accepts a range that is zero, which is set when the code runs,
-- only if its descriptor has a tag.
abbrev pub part_text : List ℕ → ℕ → Part → List ℕ
part_text item n (parts.Word x kind) = word_in (words kind) (value_of item x)
part_text item n (parts.WordOrNumber x kind) = word_or_number (words kind) (value_of item x)
part_text item n (parts.Bits x) = hex 1 (value_of item x)
part_text item n (parts.Number offset w) = codes "0x" ++ digits_at w offset item
part_text item n parts.Blank = []
part_text item n (parts.Tag a k b m) = if are_zero item a k && are_zero item b m then tag_text n else []
part_text item n (parts.Text from to) = string_text (up_to_zero (between item from to))
part_text item n (parts.Vendor from to) = vendor_text (between item from to)
part_text item n (parts.Index at) =
    if offset_of item at == length item then [] else hex 1 (slice_index_or item (offset_of item at) 0)
part_text item n (parts.Source at) = if offset_of item at == length item then [] else string_text (up_to_zero (source_at item at))

abbrev pub parts_text : List ℕ → ℕ → Bool → List Part → List ℕ
parts_text item n first [] = []
parts_text item n first (p ∷ ps) = (comma first ++ part_text item n p) ++ parts_text item n false ps

-- ---- the list in braces

-- the numbers of the bits that are set in a mask, for this many bits from bit i on
abbrev pub channels : Bool → ℕ → ℕ → ℕ → List ℕ
channels first i zero mask = []
channels first i (suc k) mask =
    (if mask % 2 == 1 then comma first ++ decimal i else []) ++ channels (first && not (mask % 2 == 1)) (i + 1) k (mask / 2)

-- numbers of four bytes each
abbrev pub dwords : Bool → List ℕ → List ℕ
dwords first (a ∷ b ∷ c ∷ d ∷ rest) = (comma first ++ (codes "0x" ++ digits_at 4 0 (a ∷ b ∷ c ∷ d ∷ rest))) ++ dwords false rest
dwords first _ = []

-- numbers of two bytes each
abbrev pub pairs : Bool → List ℕ → List ℕ
pairs first (a ∷ b ∷ rest) = (comma first ++ (codes "0x" ++ digits_at 2 0 (a ∷ b ∷ rest))) ++ pairs false rest
pairs first _ = []

abbrev pub list_text : Braces → List ℕ → List ℕ
list_text tails.Absent item = []
list_text tails.Irqs item = channels true 0 16 (slice_index_or item 1 0 + 256 * slice_index_or item 2 0)
list_text tails.Channels item = channels true 0 8 (slice_index_or item 1 0)
list_text (tails.Dwords from to) item = dwords true (between item from to)
list_text (tails.Pairs from to) item = pairs true (between item from to)
list_text (tails.Bytes from) item = listed_bytes true (between item from offsets.End)

abbrev pub is_absent : Braces → Bool
is_absent tails.Absent = true
is_absent _ = false

abbrev pub tail_text : Braces → List ℕ → List ℕ
tail_text tail item = if is_absent tail then [] else codes " {" ++ list_text tail item ++ codes "}"

-- ---- items

abbrev pub row_text : Row → ℕ → List ℕ → List ℕ
row_text r n item = r.macro ++ codes " (" ++ parts_text item n true r.parts ++ codes ")" ++ tail_text r.tail item

abbrev pub part_fits : List ℕ → Part → Bool
part_fits item (parts.Word x kind) = not (length (word_in (words kind) (value_of item x)) == 0)
part_fits item (parts.WordOrNumber x kind) =
    nat_le 128 (value_of item x) || not (length (word_in (words kind) (value_of item x)) == 0)
part_fits item _ = true

-- whether the bits of each word have one
abbrev pub parts_fit : List ℕ → List Part → Bool
parts_fit item [] = true
parts_fit item (p ∷ ps) = part_fits item p && parts_fit item ps

-- whether an item is written by the macro of a row
abbrev pub fits : Row → List ℕ → Bool
fits r item = all_hold item r.checks && parts_fit item r.parts

-- the first descriptor whose macro writes an item
abbrev pub found_in : List Descriptor → List ℕ → Option Descriptor
found_in [] item = None
found_in (d ∷ ds) item = if fits (facts d) item then Some d else found_in ds item

unfoldable pub found : List ℕ → Option Descriptor
found item = if length item == item_size item then found_in descriptors item else None

abbrev pub is_found : Option Descriptor → Bool
is_found None = false
is_found (Some d) = true

abbrev pub found_text : Option Descriptor → ℕ → List ℕ → List ℕ
found_text None n item = []
found_text (Some d) n item = row_text (facts d) n item

-- the item at the front
abbrev pub item : List ℕ → List ℕ
item bytes = take (item_size bytes) bytes

-- ---- templates

abbrev pub is_zero_alone : List ℕ → Bool
is_zero_alone (b ∷ []) = b == 0
is_zero_alone _ = false

-- Start Dependent Functions Descriptor (6.4.2.3), by its tag: the items up to the next one, or to the end of the functions, are
-- in braces after its macro.
abbrev pub begins_group : ℕ → Bool
begins_group tag = tag == 0x30 || tag == 0x31

-- End Dependent Functions Descriptor (6.4.2.4)
abbrev pub ends_groups : ℕ → Bool
ends_groups tag = tag == 0x38

-- whether the item after one with a tag is in a group
abbrev pub is_inside : Bool → ℕ → Bool
is_inside inside tag = if begins_group tag then true else (if ends_groups tag then false else inside)

-- whether an item with a tag may follow: there is no end of groups outside one
abbrev pub may_follow : Bool → ℕ → Bool
may_follow inside tag = inside || not (ends_groups tag)

-- Whether bytes are items that are written by macros, and then the end tag (ACPI 6.5, 6.4.2.9) with the checksum 0, outside a
-- group. The first number says how many bytes at the front belong to an item that began before.
abbrev pub is_template : Bool → ℕ → List ℕ → Bool
is_template inside left [] = false
is_template inside (suc left) (b ∷ bytes) = is_template inside left bytes
is_template inside zero (b ∷ bytes) =
    if b == 0x79 then (not inside && is_zero_alone bytes)
    else (may_follow inside b && is_found (found (item (b ∷ bytes)))
    && is_template (is_inside inside b) (item_size (b ∷ bytes) - 1) bytes)

-- the brace after a group, on a line at a depth
abbrev pub group_closes : ℕ → Bool → List ℕ
group_closes d inside = if inside then new_line d ++ codes "}" else []

-- the brace before a group
abbrev pub group_opens : ℕ → ℕ → List ℕ
group_opens d tag = if begins_group tag then new_line d ++ codes "{" else []

-- what is before the macro of an item with a tag
abbrev pub front_text : ℕ → Bool → ℕ → List ℕ
front_text d inside tag =
    if begins_group tag || ends_groups tag then group_closes d inside ++ new_line d
    else new_line (if inside then suc d else d)

-- the item at the front, on a line at a depth; a tag in it is the number of the bytes from it on, and `tags` more
abbrev pub item_text : ℕ → ℕ → Bool → ℕ → List ℕ → List ℕ → List ℕ
item_text tags d inside tag item bytes =
    front_text d inside tag ++ found_text (found item) (tags + length bytes) item ++ group_opens d tag

-- the macros of the items, each on a line at a depth
abbrev pub items_text : ℕ → ℕ → Bool → ℕ → List ℕ → List ℕ
items_text tags d inside left [] = []
items_text tags d inside (suc left) (b ∷ bytes) = items_text tags d inside left bytes
items_text tags d inside zero (b ∷ bytes) =
    if b == 0x79 then []
    else item_text tags d inside b (item (b ∷ bytes)) (b ∷ bytes)
    ++ items_text tags d (is_inside inside b) (item_size (b ∷ bytes) - 1) bytes

-- the template of these bytes at a depth
abbrev pub template_text : ℕ → ℕ → List ℕ → List ℕ
template_text tags d bytes =
    codes "ResourceTemplate ()" ++ (new_line d ++ codes "{") ++ items_text tags (suc d) false 0 bytes ++ (new_line d ++ codes "}")
