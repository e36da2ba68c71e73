-- Address spaces (ACPI 6.5, 6.4.3.5).
use Rattle.std.specs.Prelude.{◌≢◌, ℕ, ◌+◌, ◌-◌, ◌*◌, ◌^◌, nat_le, nat_lt, ◌&&◌, Bool, false, List, [], ◌∷◌, ◌++◌, length}
use Rattle.std.specs.Prelude.{Option, Some, None}
use Rattle.acpi_base.specs.declared.error.Error.TheVariants.{Memory, AddressRange, FieldWidth}
use Rattle.acpi_base.specs.Bytes.{le}
use Rattle.acpi_base.specs.Object.{Object, whole, provided, provided_ends_well}
use Rattle.acpi_ops.specs.Descriptor.{bit}
use Rattle.acpi_ops.specs.Parts.{source_bytes, source_size}
use Rattle.acpi_ops.specs.declared.address_space.AddressSpace.{AddressSpace}
use Rattle.acpi_ops.specs.declared.address_space.AddressSpaceCacheable.{AddressSpaceCacheable}
use Rattle.acpi_ops.specs.declared.address_space.AddressSpaceCacheable.TheVariants as cacheable
use Rattle.acpi_ops.specs.declared.address_space.FixedEnd.{FixedEnd}
use Rattle.acpi_ops.specs.declared.address_space.FixedEnd.TheVariants as ends
use Rattle.acpi_ops.specs.declared.address_space.Movable.{Movable}

-- fields of one byte and of two, lowest byte first
abbrev pub byte : ℕ → List ℕ
byte value = value ∷ []

abbrev pub word : ℕ → List ℕ
word value = le 2 value

-- the bytes of fields, in order
abbrev pub record_of : List (List ℕ) → List ℕ
record_of [] = []
record_of (field ∷ fields) = field ++ record_of fields

-- Memory Type, of the type-specific flags for memory
abbrev pub cacheable_number : AddressSpaceCacheable → ℕ
cacheable_number cacheable.NotCacheable = 0
cacheable_number cacheable.Cacheable = 1
cacheable_number cacheable.WriteCombining = 2
cacheable_number cacheable.PreFetchable = 3

-- General Flags: Min Address Fixed at bit 2, and Max Address Fixed at bit 3
abbrev pub end_flags : FixedEnd → ℕ
end_flags ends.Neither = 0x00
end_flags ends.Min = 0x04
end_flags ends.Max = 0x08

-- a range whose ends are both fixed
abbrev pub fixed_range : {T : Type 0} → ℕ → ℕ → T → T → Option T → AddressSpace T
fixed_range kind flags min max translation = record {
  kind = kind;
  flags = flags;
  subtractive = false;
  min = min;
  max = max;
  translation = translation;
  movable = None;
}

-- with a resource source, whose name has this many bytes, the length fits its field
abbrev pub space_from_fits : ℕ → ℕ → Bool
space_from_fits w source = nat_le (3 + 5 * w + source_size source) 65535

module _ {T : Type 0} (number : T → ℕ) where
  abbrev pub or_zero : Option T → ℕ
  or_zero (Some v) = number v
  or_zero None = 0

  -- which ends are fixed, as General Flags
  abbrev pub fixed_flags : Option (Movable T) → ℕ
  fixed_flags (Some m) = end_flags m.fixed
  fixed_flags None = 0x0c

  abbrev pub granularity_in : Option (Movable T) → ℕ
  granularity_in (Some m) = number m.granularity
  granularity_in None = 0

  -- the size of a range, or all from its least address to its greatest
  abbrev pub size_in : Option (Movable T) → ℕ → ℕ
  size_in (Some m) all = or_zero m.length
  size_in None all = all

  abbrev pub size_of : AddressSpace T → ℕ
  size_of a = size_in a.movable (number a.max - number a.min + 1)

  -- the range isn't empty, and its size fits w bytes
  abbrev pub is_range : ℕ → AddressSpace T → Bool
  is_range w a = nat_le (number a.min) (number a.max) && nat_lt (size_of a) (2 ^ (8 * w))

  -- a descriptor with this Length and first byte, whose addresses have w bytes
  abbrev pub spaced : ℕ → ℕ → ℕ → AddressSpace T → List ℕ
  spaced size tag w a = record_of
      (byte tag  -- 0
      ∷ word size  -- 1: Length
      ∷ byte a.kind  -- 3: Resource Type
      ∷ byte (bit a.subtractive 0x02 + fixed_flags a.movable)  -- 4: General Flags, Decode Type and which ends are fixed
      ∷ byte a.flags  -- 5: Type Specific Flags
      ∷ le w (granularity_in a.movable)  -- 6: Address Space Granularity
      ∷ le w (number a.min)  -- 6 + w: Address Range Minimum
      ∷ le w (number a.max)  -- 6 + 2 w: Address Range Maximum
      ∷ le w (or_zero a.translation)  -- 6 + 3 w: Address Translation Offset
      ∷ le w (size_of a)  -- 6 + 4 w: Address Length
      ∷ [])

  abbrev pub space_bytes : ℕ → ℕ → AddressSpace T → List ℕ
  space_bytes tag w a = spaced (3 + 5 * w) tag w a

  abbrev pub space : ℕ → ℕ → AddressSpace T → Object
  space tag w a = provided (is_range w a) AddressRange (whole (space_bytes tag w a))

  -- with a resource source, from offset 6 + 5 w on
  abbrev pub space_from_bytes : ℕ → ℕ → AddressSpace T → ℕ → List ℕ → List ℕ
  space_from_bytes tag w a index source =
      spaced (3 + 5 * w + source_size (length source)) tag w a ++ source_bytes index source

  abbrev pub space_from : ℕ → ℕ → AddressSpace T → ℕ → List ℕ → Object
  space_from tag w a index source =
      provided (is_range w a) AddressRange
      (provided (space_from_fits w (length source)) FieldWidth (whole (space_from_bytes tag w a index source)))

-- Word, DWord and QWord Address Space Descriptors (6.4.3.5.3, 6.4.3.5.2 and 6.4.3.5.1)
abbrev pub word_space : AddressSpace ℕ → Object
word_space a = space (λ n. n) 0x88 2 a

abbrev pub dword_space : AddressSpace ℕ → Object
dword_space a = space (λ n. n) 0x87 4 a

abbrev pub qword_space : AddressSpace ℕ → Object
qword_space a = space (λ n. n) 0x8a 8 a

pub space_ends_well : {T : Type 0} (number : T → ℕ) (tag w : ℕ) (a : AddressSpace T) → (space number tag w a).end ≢ Some Memory
space_ends_well number tag w a = provided_ends_well (is_range number w a) AddressRange (space_bytes number tag w a) (λ is. cc)
