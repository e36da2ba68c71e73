-- Address spaces of a bridge, by numbers (ACPI 6.5, 6.4.3.5).
use Rattle.std.specs.Prelude.{ℕ, ◌+◌, ◌*◌, ◌==◌, if◌then◌else◌, Bool, List, ◌∷◌, Option, Some, None, Result, Err}
use Rattle.acpi_base.specs.Bytes.{le}
use Rattle.acpi_base.specs.Object.{Object}
use Rattle.acpi_ops.specs.AddressSpace.{cacheable_number, fixed_range}
use Rattle.acpi_ops.specs.Descriptor.{bit}
use Rattle.acpi_ops.specs.declared.address_space.AddressSpace.{AddressSpace}
use Rattle.acpi_ops.specs.declared.address_space.AddressSpaceCacheable.{AddressSpaceCacheable}
use Rattle.acpi_ops.specs.declared.address_space.AddressSpaceCacheable.TheVariants as cacheable
use Rattle.acpi_c_calls.specs.Writer.{piece_of}
use Rattle.acpi_c_calls.specs.declared.fault.Fault.{Fault}
use Rattle.acpi_c_calls.specs.declared.fault.Fault.TheVariants.{UnknownChoice}

abbrev pub bus_numbers : {T : Type 0} → T → T → AddressSpace T
bus_numbers min max = fixed_range 2 0 min max None

abbrev pub io_range : {T : Type 0} → T → T → T → AddressSpace T
io_range min max translation = fixed_range 1 3 min max (Some translation)

abbrev pub memory_range : {T : Type 0} → AddressSpaceCacheable → Bool → T → T → T → AddressSpace T
memory_range cached read_write min max translation =
    fixed_range 0 (2 * cacheable_number cached + bit read_write 1) min max (Some translation)

-- A register by the numbers of its address (ACPI 6.5, 6.4.3.7): its address space, its width and its offset in bits, the size of
-- an access, and the address.
abbrev pub register_piece : ℕ → ℕ → ℕ → ℕ → ℕ → List ℕ
register_piece space width offset access address =
    0x82  -- 0: Generic Register Descriptor
    ∷ 12 ∷ 0  -- 1: Length
    ∷ space  -- 3: Address Space ID
    ∷ width  -- 4: Register Bit Width
    ∷ offset  -- 5: Register Bit Offset
    ∷ access  -- 6: Access Size
    ∷ le 8 address  -- 7: Register Address

-- how memory may be cached, by its number
abbrev pub memory_type : ℕ → Option AddressSpaceCacheable
memory_type n =
    if n == 0 then Some cacheable.NotCacheable
    else (if n == 1 then Some cacheable.Cacheable
    else (if n == 2 then Some cacheable.WriteCombining
    else (if n == 3 then Some cacheable.PreFetchable
    else None)))

abbrev pub piece_if : {A : Type 0} → (A → Object) → Option A → Result (List ℕ) Fault
piece_if object (Some value) = piece_of (object value)
piece_if object None = Err UnknownChoice

-- a range of memory of a type, if there is one with this number
abbrev pub memory_piece : ℕ → (AddressSpaceCacheable → Object) → Result (List ℕ) Fault
memory_piece n object = piece_if object (memory_type n)
