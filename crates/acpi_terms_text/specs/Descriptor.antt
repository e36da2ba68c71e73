-- The names of resource descriptors (ACPI 6.5, 6.4.2 and 6.4.3).
use Rattle.std.specs.Prelude.{ℕ, zero, suc, ◌+◌, ◌-◌, ◌*◌, ◌%◌, nat_lt, nat_le, ◌==◌, ◌&&◌, not, Bool, false}
use Rattle.std.specs.Prelude.{if◌then◌else◌, List, [], ◌∷◌, ◌++◌, length, take, codes}
use Rattle.acpi_terms_text.specs.Word.{word_in}

-- ---- items

-- the number after the tag of a large item
abbrev pub large_length : List ℕ → ℕ
large_length (low ∷ high ∷ more) = low + 256 * high
large_length _ = 0

-- The size of the item at the front. The tag of a small item has bit 7 clear, and its bits 0 to 2 are the number of bytes after
-- it.
abbrev pub item_size : List ℕ → ℕ
item_size [] = 0
item_size (tag ∷ more) = if nat_lt tag 128 then 1 + tag % 8 else 3 + large_length more

-- a tag without the length in it
abbrev pub item_type : ℕ → ℕ
item_type tag = if nat_lt tag 128 then tag - tag % 8 else tag

-- ---- names

-- The names of descriptors. Those of address spaces are followed by the name of their resource type.
abbrev pub names : List (ℕ × List ℕ)
names =
    (0x20, codes "IRQ")
    ∷ (0x28, codes "DMA")
    ∷ (0x30, codes "StartDependentFn")
    ∷ (0x38, codes "EndDependentFn")
    ∷ (0x40, codes "IO")
    ∷ (0x48, codes "FixedIO")
    ∷ (0x50, codes "FixedDMA")
    ∷ (0x70, codes "VendorShort")
    ∷ (0x81, codes "Memory24")
    ∷ (0x82, codes "Register")
    ∷ (0x84, codes "VendorLong")
    ∷ (0x85, codes "Memory32")
    ∷ (0x86, codes "Memory32Fixed")
    ∷ (0x87, codes "DWord")
    ∷ (0x88, codes "Word")
    ∷ (0x89, codes "ExtendedInterrupt")
    ∷ (0x8a, codes "QWord")
    ∷ (0x8b, codes "Extended")
    ∷ (0x8c, codes "GpioConnection")
    ∷ (0x8d, codes "PinFunction")
    ∷ (0x8e, codes "SerialBusConnection")
    ∷ (0x8f, codes "PinConfiguration")
    ∷ (0x90, codes "PinGroup")
    ∷ (0x91, codes "PinGroupFunction")
    ∷ (0x92, codes "PinGroupConfiguration")
    ∷ (0x93, codes "ClockInput")
    ∷ []

-- whether items of a type describe an address space (ACPI 6.5, 6.4.3.5)
abbrev pub is_space : ℕ → Bool
is_space n = nat_le 0x87 n && nat_le n 0x8b && not (n == 0x89)

-- resource types of address spaces
abbrev pub space_names : List (ℕ × List ℕ)
space_names = (0, codes "Memory") ∷ (1, codes "IO") ∷ (2, codes "BusNumber") ∷ []

-- `Space` for a resource type without a name
abbrev pub or_space : List ℕ → List ℕ
or_space [] = codes "Space"
or_space (c ∷ name) = c ∷ name

-- the name of an address space's resource type, which is the byte at 3
abbrev pub space_name : List ℕ → List ℕ
space_name (tag ∷ low ∷ high ∷ n ∷ more) = or_space (word_in space_names n)
space_name _ = codes "Space"

-- the rest of the name of an item of this many bytes at the front
abbrev pub name_end : ℕ → ℕ → List ℕ → List ℕ
name_end tag size bytes = if is_space (item_type tag) then space_name (take size bytes) else []

-- the name of the item at the front, if its type has one
abbrev pub item_name : ℕ → List ℕ → List ℕ
item_name tag more = word_in names (item_type tag) ++ name_end tag (item_size (tag ∷ more)) (tag ∷ more)

-- ---- templates

-- Whether bytes are items whose types have names, and then the end tag (ACPI 6.5, 6.4.2.9), with nothing after its checksum. The
-- first number says how many bytes at the front belong to an item that began before.
abbrev pub is_template : ℕ → List ℕ → Bool
is_template left [] = false
is_template (suc left) (b ∷ bytes) = is_template left bytes
is_template zero (b ∷ bytes) =
    if b == 0x79 then length bytes == 1
    else (not (length (word_in names (item_type b)) == 0) && is_template (item_size (b ∷ bytes) - 1) bytes)

-- the names of the items of a template
abbrev pub template_text : ℕ → List ℕ → List ℕ
template_text left [] = []
template_text (suc left) (b ∷ bytes) = template_text left bytes
template_text zero (b ∷ bytes) =
    if b == 0x79 then codes "EndTag"
    else item_name b bytes ++ (codes ", " ++ template_text (item_size (b ∷ bytes) - 1) bytes)
