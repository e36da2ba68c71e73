-- The descriptors of resources, as data: the macro of each, where the macro's arguments are in it, and what holds of each
-- descriptor that the macro makes (ACPI 6.5, 6.4 and 19.2.8).
use Rattle.std.specs.Prelude.{ℕ, ◌+◌, ◌-◌, ◌*◌, List, [], ◌∷◌, ◌++◌, codes}
use Rattle.acpi_asl.specs.Word.{region_spaces}
use Rattle.acpi_asl.specs.declared.descriptor.Bits.{Bits}
use Rattle.acpi_asl.specs.declared.descriptor.WordKind.{WordKind}
use Rattle.acpi_asl.specs.declared.descriptor.WordKind.TheVariants as kinds
use Rattle.acpi_asl.specs.declared.descriptor.Offset.{Offset}
use Rattle.acpi_asl.specs.declared.descriptor.Offset.TheVariants as offsets
use Rattle.acpi_asl.specs.declared.descriptor.Part.{Part}
use Rattle.acpi_asl.specs.declared.descriptor.Part.TheVariants as parts
use Rattle.acpi_asl.specs.declared.descriptor.Check.{Check}
use Rattle.acpi_asl.specs.declared.descriptor.Check.TheVariants as checks
use Rattle.acpi_asl.specs.declared.descriptor.Braces.{Braces}
use Rattle.acpi_asl.specs.declared.descriptor.Braces.TheVariants as tails
use Rattle.acpi_asl.specs.declared.macros.Descriptor.{Descriptor}
use Rattle.acpi_asl.specs.declared.macros.Descriptor.TheVariants as items

-- ---- the words of an argument, by the number that its bits are

abbrev pub words : WordKind → List (ℕ × List ℕ)
words kinds.Decode = (0, codes "Decode10") ∷ (1, codes "Decode16") ∷ []
words kinds.Mode = (0, codes "Level") ∷ (1, codes "Edge") ∷ []
words kinds.Polarity = (0, codes "ActiveHigh") ∷ (1, codes "ActiveLow") ∷ []
words kinds.Sharing = (0, codes "Exclusive") ∷ (1, codes "Shared") ∷ (2, codes "ExclusiveAndWake")
    ∷ (3, codes "SharedAndWake") ∷ []
words kinds.DmaType = (0, codes "Compatibility") ∷ (1, codes "TypeA") ∷ (2, codes "TypeB") ∷ (3, codes "TypeF") ∷ []
words kinds.Master = (0, codes "NotBusMaster") ∷ (1, codes "BusMaster") ∷ []
words kinds.Transfer = (0, codes "Transfer8") ∷ (1, codes "Transfer8_16") ∷ (2, codes "Transfer16") ∷ []
words kinds.DmaWidth = (0, codes "Width8bit") ∷ (1, codes "Width16bit") ∷ (2, codes "Width32bit")
    ∷ (3, codes "Width64bit") ∷ (4, codes "Width128bit") ∷ (5, codes "Width256bit") ∷ []
words kinds.Access = (0, codes "ReadOnly") ∷ (1, codes "ReadWrite") ∷ []
words kinds.Usage = (0, codes "ResourceProducer") ∷ (1, codes "ResourceConsumer") ∷ []
words kinds.Decoding = (0, codes "PosDecode") ∷ (1, codes "SubDecode") ∷ []
words kinds.Minimum = (0, codes "MinNotFixed") ∷ (1, codes "MinFixed") ∷ []
words kinds.Maximum = (0, codes "MaxNotFixed") ∷ (1, codes "MaxFixed") ∷ []
words kinds.Caching = (0, codes "NonCacheable") ∷ (1, codes "Cacheable") ∷ (2, codes "WriteCombining")
    ∷ (3, codes "Prefetchable") ∷ []
words kinds.Ranges = (1, codes "NonISAOnlyRanges") ∷ (2, codes "ISAOnlyRanges") ∷ (3, codes "EntireRange") ∷ []
words kinds.Memory = (0, codes "AddressRangeMemory") ∷ (1, codes "AddressRangeReserved")
    ∷ (2, codes "AddressRangeACPI") ∷ (3, codes "AddressRangeNVS") ∷ []
words kinds.Translation = (0, codes "TypeStatic") ∷ (1, codes "TypeTranslation") ∷ []
words kinds.Density = (0, codes "DenseTranslation") ∷ (1, codes "SparseTranslation") ∷ []
words kinds.Space = region_spaces
words kinds.Levels = (0, codes "ActiveHigh") ∷ (1, codes "ActiveLow") ∷ (2, codes "ActiveBoth") ∷ []
words kinds.PinConfig = (0, codes "PullDefault") ∷ (1, codes "PullUp") ∷ (2, codes "PullDown") ∷ (3, codes "PullNone") ∷ []
words kinds.Restriction = (0, codes "IoRestrictionNone") ∷ (1, codes "IoRestrictionInputOnly")
    ∷ (2, codes "IoRestrictionOutputOnly") ∷ (3, codes "IoRestrictionNoneAndPreserve") ∷ []
words kinds.Priority = (0, codes "0x00") ∷ (1, codes "0x01") ∷ (2, codes "0x02") ∷ []
words kinds.Initiator = (0, codes "ControllerInitiated") ∷ (1, codes "DeviceInitiated") ∷ []
words kinds.AddressingMode = (0, codes "AddressingMode7Bit") ∷ (1, codes "AddressingMode10Bit") ∷ []
words kinds.DevicePolarity = (0, codes "PolarityLow") ∷ (1, codes "PolarityHigh") ∷ []
words kinds.WireMode = (0, codes "FourWireMode") ∷ (1, codes "ThreeWireMode") ∷ []
words kinds.ClockPolarity = (0, codes "ClockPolarityLow") ∷ (1, codes "ClockPolarityHigh") ∷ []
words kinds.ClockPhase = (0, codes "ClockPhaseFirst") ∷ (1, codes "ClockPhaseSecond") ∷ []
words kinds.DataBits = (0, codes "DataBitsFive") ∷ (1, codes "DataBitsSix") ∷ (2, codes "DataBitsSeven")
    ∷ (3, codes "DataBitsEight") ∷ (4, codes "DataBitsNine") ∷ []
words kinds.StopBits = (0, codes "StopBitsZero") ∷ (1, codes "StopBitsOne") ∷ (2, codes "StopBitsOnePlusHalf")
    ∷ (3, codes "StopBitsTwo") ∷ []
words kinds.Endianness = (0, codes "LittleEndian") ∷ (1, codes "BigEndian") ∷ []
words kinds.Parity = (0, codes "ParityTypeNone") ∷ (1, codes "ParityTypeEven") ∷ (2, codes "ParityTypeOdd")
    ∷ (3, codes "ParityTypeMark") ∷ (4, codes "ParityTypeSpace") ∷ []
words kinds.FlowControl = (0, codes "FlowControlNone") ∷ (1, codes "FlowControlHardware") ∷ (2, codes "FlowControlXON") ∷ []
words kinds.ClockMode = (0, codes "Fixed") ∷ (1, codes "Variable") ∷ []
words kinds.ClockScale = (0, codes "Hz") ∷ (1, codes "KHz") ∷ (2, codes "MHz") ∷ []

-- ---- rows

-- bits of the byte at an offset, from one on, and how many; 8 for all that follow
abbrev pub bits : ℕ → ℕ → ℕ → Bits
bits offset shift size = record { offset = offset; shift = shift; size = size }

-- the word of these bits
abbrev pub word : ℕ → ℕ → ℕ → WordKind → Part
word offset shift size kind = parts.Word (bits offset shift size) kind

-- the word of the byte at an offset, or its number if a vendor defines it
abbrev pub word_or_number : ℕ → WordKind → Part
word_or_number offset kind = parts.WordOrNumber (bits offset 0 8) kind

-- these bits are zero
abbrev pub clear : ℕ → ℕ → ℕ → Check
clear offset shift size = checks.Is (bits offset shift size) 0

-- the byte at an offset is this number
abbrev pub byte : ℕ → ℕ → Check
byte offset value = checks.Is (bits offset 0 8) value

pub record Row : Type 0 where
  pub macro : List ℕ
  pub parts : List Part
  pub checks : List Check
  -- the list in braces
  pub tail : Braces

abbrev pub row : List ℕ → List Part → List Check → Braces → Row
row macro parts checks tail = record { macro = macro; parts = parts; checks = checks; tail = tail }

-- ---- address spaces (6.4.3.5): their general flags are at 4, and those of their type at 5

abbrev pub usage : Part
usage = word 4 0 1 kinds.Usage

abbrev pub decoding : Part
decoding = word 4 1 1 kinds.Decoding

abbrev pub minimum : Part
minimum = word 4 2 1 kinds.Minimum

abbrev pub maximum : Part
maximum = word 4 3 1 kinds.Maximum

-- Granularity, minimum, maximum, translation and length, of w bytes each, and what follows them. The descriptor needs a name if
-- the range and the length are zero.
abbrev pub range_of : ℕ → ℕ → List Part → List Part
range_of at w more =
    parts.Number at w ∷ parts.Number (at + w) w ∷ parts.Number (at + 2 * w) w ∷ parts.Number (at + 3 * w) w
    ∷ parts.Number (at + 4 * w) w ∷ more ++ parts.Tag at (3 * w) (at + 4 * w) w ∷ []

abbrev pub memory_parts : ℕ → ℕ → List Part → List Part
memory_parts at w more =
    usage ∷ decoding ∷ minimum ∷ maximum ∷ word 5 1 2 kinds.Caching ∷ word 5 0 1 kinds.Access
    ∷ range_of at w more ++ word 5 3 2 kinds.Memory ∷ word 5 5 1 kinds.Translation ∷ []

abbrev pub io_parts : ℕ → ℕ → List Part → List Part
io_parts at w more =
    usage ∷ minimum ∷ maximum ∷ decoding ∷ word 5 0 2 kinds.Ranges
    ∷ range_of at w more ++ word 5 4 1 kinds.Translation ∷ word 5 5 1 kinds.Density ∷ []

abbrev pub bus_parts : ℕ → ℕ → List Part → List Part
bus_parts at w more = usage ∷ minimum ∷ maximum ∷ decoding ∷ range_of at w more

-- a space that a vendor defines, with its type
abbrev pub space_parts : ℕ → ℕ → List Part → List Part
space_parts at w more =
    parts.Number 3 1 ∷ usage ∷ decoding ∷ minimum ∷ maximum ∷ parts.Number 5 1 ∷ range_of at w more

abbrev pub memory_checks : List Check
memory_checks = byte 3 0 ∷ clear 4 4 8 ∷ clear 5 6 8 ∷ []

abbrev pub io_checks : List Check
io_checks = byte 3 1 ∷ clear 4 4 8 ∷ clear 5 2 2 ∷ clear 5 6 8 ∷ []

abbrev pub bus_checks : List Check
bus_checks = byte 3 2 ∷ clear 4 4 8 ∷ byte 5 0 ∷ []

abbrev pub space_checks : List Check
space_checks = checks.Is (bits 3 6 8) 3 ∷ clear 4 4 8 ∷ []

-- the index and the name of a resource source, which may be left out
abbrev pub source : Offset → List Part
source at = parts.Index at ∷ parts.Source at ∷ []

-- an address space of this tag, whose numbers have w bytes, with what is checked of its type
abbrev pub space_of : ℕ → ℕ → List Check → List Check
space_of tag w own = byte 0 tag ∷ own ++ checks.Source (offsets.At (6 + 5 * w)) ∷ []

-- Extended Address Space Descriptor (6.4.3.5.4), with what is checked of its type. It has no source, but attributes at 48.
abbrev pub extended_of : List Check → List Check
extended_of own = byte 0 0x8b ∷ byte 1 53 ∷ byte 2 0 ∷ own ++ byte 6 1 ∷ byte 7 0 ∷ []

abbrev pub attributes : List Part
attributes = parts.Number 48 8 ∷ []

-- ---- connections to GPIO pins (6.4.3.8.1) of a type, and descriptors of pins (6.4.3.9 to 6.4.3.13)

-- Between the pins, the names and a vendor's data there is nothing else: the pins begin after n bytes, and the two bytes at an
-- offset say so. So do the next ones for the names and the vendor's data, and those after these for the length of this data.
abbrev pub pins_of : ℕ → ℕ → ℕ → ℕ → List Check
pins_of n table name vendor =
    byte table n ∷ byte (table + 1) 0 ∷ checks.Pairs (offsets.At n) (offsets.Stated name)
    ∷ checks.Text (offsets.Stated name) (offsets.Stated vendor) ∷ checks.Vendor vendor ∷ []

abbrev pub connection_of : ℕ → List Check → List Check
connection_of kind own = byte 0 0x8c ∷ byte 3 1 ∷ byte 4 kind ∷ clear 5 1 8 ∷ byte 6 0 ∷ own ++ pins_of 23 14 17 19

-- the controller's name and its index at an offset
abbrev pub controller : ℕ → ℕ → ℕ → List Part
controller name vendor index = parts.Text (offsets.Stated name) (offsets.Stated vendor) ∷ parts.Number index 1 ∷ []

-- The names of a controller and of a group: from n on, where the two bytes at an offset say so. A vendor's data follows them.
abbrev pub group_of : ℕ → ℕ → List Check
group_of n name =
    byte name n ∷ byte (name + 1) 0 ∷ checks.Text (offsets.At n) (offsets.Stated (name + 2))
    ∷ checks.Text (offsets.Stated (name + 2)) (offsets.Stated (name + 4)) ∷ checks.Vendor (name + 4) ∷ []

abbrev pub group_parts : ℕ → ℕ → List Part
group_parts n name =
    parts.Text (offsets.At n) (offsets.Stated (name + 2)) ∷ parts.Number (name - 1) 1
    ∷ parts.Text (offsets.Stated (name + 2)) (offsets.Stated (name + 4)) ∷ []

-- the vendor's data, whose offset is in the two bytes at another
abbrev pub vendor_at : ℕ → Part
vendor_at offset = parts.Vendor (offsets.Stated offset) offsets.End

abbrev pub pins_tail : ℕ → ℕ → Braces
pins_tail n name = tails.Pairs (offsets.At n) (offsets.Stated name)

-- ---- connections to serial buses (6.4.3.8.2)

-- the flag that transfers are begun by the device
abbrev pub initiator : Part
initiator = word 6 0 1 kinds.Initiator

-- a bus of this number, of a revision, whose own data has n bytes; a vendor's data may follow it
abbrev pub bus_of : ℕ → ℕ → ℕ → List Check → List Check
bus_of revision bus n own =
    byte 0 0x8e ∷ byte 3 revision ∷ byte 5 bus ∷ byte 8 0 ∷ byte 9 1 ∷ checks.AtLeast 10 n
    ∷ checks.Text offsets.BusData offsets.End ∷ own

-- the vendor's data of a bus whose own data has n bytes
abbrev pub bus_vendor : ℕ → Part
bus_vendor n = parts.Vendor (offsets.At (12 + n)) offsets.BusData

-- the controller's name and index, the usage, the descriptor's name, which is left out, and the vendor's data
abbrev pub bus_end : ℕ → List Part
bus_end n =
    parts.Text offsets.BusData offsets.End ∷ parts.Number 4 1 ∷ word 6 1 1 kinds.Usage ∷ parts.Blank ∷ bus_vendor n ∷ []

-- the same with the flag whether the connection is shared, which revision 2 has
abbrev pub bus_end_2 : ℕ → List Part
bus_end_2 n = parts.Text offsets.BusData offsets.End ∷ parts.Number 4 1 ∷ word 6 1 1 kinds.Usage ∷ parts.Blank
    ∷ word 6 2 1 kinds.Sharing ∷ bus_vendor n ∷ []

abbrev pub i2c_parts : List Part → List Part
i2c_parts end = parts.Number 16 2 ∷ initiator ∷ parts.Number 12 4 ∷ word 7 0 1 kinds.AddressingMode ∷ end

abbrev pub spi_parts : List Part → List Part
spi_parts end =
    parts.Number 19 2 ∷ word 7 1 1 kinds.DevicePolarity ∷ word 7 0 1 kinds.WireMode ∷ parts.Number 16 1 ∷ initiator
    ∷ parts.Number 12 4 ∷ word 18 0 8 kinds.ClockPolarity ∷ word 17 0 8 kinds.ClockPhase ∷ end

abbrev pub uart_parts : List Part → List Part
uart_parts end =
    parts.Number 12 4 ∷ word 7 4 3 kinds.DataBits ∷ word 7 2 2 kinds.StopBits ∷ parts.Number 21 1 ∷ word 7 7 8 kinds.Endianness
    ∷ word 20 0 8 kinds.Parity ∷ word 7 0 2 kinds.FlowControl ∷ parts.Number 16 2 ∷ parts.Number 18 2 ∷ end

-- ---- the descriptors

abbrev pub facts : Descriptor → Row
facts items.IrqNoFlags = row (codes "IRQNoFlags")
    ([])
    (byte 0 0x22 ∷ []) tails.Irqs
facts items.Irq = row (codes "IRQ")
    (word 3 0 1 kinds.Mode ∷ word 3 3 1 kinds.Polarity ∷ word 3 4 2 kinds.Sharing ∷ [])
    (byte 0 0x23 ∷ clear 3 1 2 ∷ clear 3 6 8 ∷ []) tails.Irqs
facts items.Dma = row (codes "DMA")
    (word 2 5 2 kinds.DmaType ∷ word 2 2 1 kinds.Master ∷ word 2 0 2 kinds.Transfer ∷ [])
    (byte 0 0x2a ∷ clear 2 3 2 ∷ clear 2 7 8 ∷ []) tails.Channels
facts items.StartDependentFnNoPri = row (codes "StartDependentFnNoPri")
    ([])
    (byte 0 0x30 ∷ []) tails.Absent
facts items.StartDependentFn = row (codes "StartDependentFn")
    (word 1 0 2 kinds.Priority ∷ word 1 2 2 kinds.Priority ∷ [])
    (byte 0 0x31 ∷ clear 1 4 8 ∷ []) tails.Absent
facts items.EndDependentFn = row (codes "EndDependentFn")
    ([])
    (byte 0 0x38 ∷ []) tails.Absent
facts items.Io = row (codes "IO")
    (word 1 0 1 kinds.Decode ∷ parts.Number 2 2 ∷ parts.Number 4 2 ∷ parts.Number 6 1 ∷ parts.Number 7 1 ∷
    parts.Tag 2 4 7 1 ∷ [])
    (byte 0 0x47 ∷ clear 1 1 8 ∷ []) tails.Absent
facts items.FixedIo = row (codes "FixedIO")
    (parts.Number 1 2 ∷ parts.Number 3 1 ∷ [])
    (byte 0 0x4b ∷ []) tails.Absent
facts items.FixedDma = row (codes "FixedDMA")
    (parts.Number 1 2 ∷ parts.Number 3 2 ∷ word 5 0 3 kinds.DmaWidth ∷ [])
    (byte 0 0x55 ∷ clear 5 3 8 ∷ []) tails.Absent
facts items.VendorShort = row (codes "VendorShort")
    ([])
    (checks.Is (bits 0 3 8) 0xe ∷ []) (tails.Bytes (offsets.At 1))
facts items.Memory24 = row (codes "Memory24")
    (word 3 0 1 kinds.Access ∷ parts.Number 4 2 ∷ parts.Number 6 2 ∷ parts.Number 8 2 ∷ parts.Number 10 2 ∷
    parts.Tag 4 4 10 2 ∷ [])
    (byte 0 0x81 ∷ byte 1 9 ∷ byte 2 0 ∷ clear 3 1 8 ∷ []) tails.Absent
facts items.Register = row (codes "Register")
    (word_or_number 3 kinds.Space ∷ parts.Number 4 1 ∷ parts.Number 5 1 ∷ parts.Number 7 8 ∷ parts.Number 6 1 ∷ [])
    (byte 0 0x82 ∷ byte 1 12 ∷ byte 2 0 ∷ []) tails.Absent
facts items.VendorLong = row (codes "VendorLong")
    ([])
    (byte 0 0x84 ∷ []) (tails.Bytes (offsets.At 3))
facts items.Memory32 = row (codes "Memory32")
    (word 3 0 1 kinds.Access ∷ parts.Number 4 4 ∷ parts.Number 8 4 ∷ parts.Number 12 4 ∷ parts.Number 16 4 ∷
    parts.Tag 4 8 16 4 ∷ [])
    (byte 0 0x85 ∷ byte 1 17 ∷ byte 2 0 ∷ clear 3 1 8 ∷ []) tails.Absent
facts items.Memory32Fixed = row (codes "Memory32Fixed")
    (word 3 0 1 kinds.Access ∷ parts.Number 4 4 ∷ parts.Number 8 4 ∷ [])
    (byte 0 0x86 ∷ byte 1 9 ∷ byte 2 0 ∷ clear 3 1 8 ∷ []) tails.Absent
facts items.DwordMemory =
    row (codes "DWordMemory") (memory_parts 6 4 (source (offsets.At 26))) (space_of 0x87 4 memory_checks) tails.Absent
facts items.DwordIo = row (codes "DWordIO") (io_parts 6 4 (source (offsets.At 26))) (space_of 0x87 4 io_checks) tails.Absent
facts items.DwordSpace =
    row (codes "DWordSpace") (space_parts 6 4 (source (offsets.At 26))) (space_of 0x87 4 space_checks) tails.Absent
facts items.WordIo = row (codes "WordIO") (io_parts 6 2 (source (offsets.At 16))) (space_of 0x88 2 io_checks) tails.Absent
facts items.WordBus =
    row (codes "WordBusNumber") (bus_parts 6 2 (source (offsets.At 16))) (space_of 0x88 2 bus_checks) tails.Absent
facts items.WordSpace =
    row (codes "WordSpace") (space_parts 6 2 (source (offsets.At 16))) (space_of 0x88 2 space_checks) tails.Absent
facts items.Interrupt = row (codes "Interrupt")
    (word 3 0 1 kinds.Usage ∷ word 3 1 1 kinds.Mode ∷ word 3 2 1 kinds.Polarity ∷ word 3 3 2 kinds.Sharing ∷
    parts.Index offsets.Entries ∷ parts.Source offsets.Entries ∷ parts.Blank ∷ [])
    (byte 0 0x89 ∷ clear 3 5 8 ∷ checks.Nonzero (bits 4 0 8) ∷ checks.Source offsets.Entries ∷ [])
    (tails.Dwords (offsets.At 5) offsets.Entries)
facts items.QwordMemory =
    row (codes "QWordMemory") (memory_parts 6 8 (source (offsets.At 46))) (space_of 0x8a 8 memory_checks) tails.Absent
facts items.QwordIo = row (codes "QWordIO") (io_parts 6 8 (source (offsets.At 46))) (space_of 0x8a 8 io_checks) tails.Absent
facts items.QwordSpace =
    row (codes "QWordSpace") (space_parts 6 8 (source (offsets.At 46))) (space_of 0x8a 8 space_checks) tails.Absent
facts items.ExtendedMemory = row (codes "ExtendedMemory") (memory_parts 8 8 attributes) (extended_of memory_checks) tails.Absent
facts items.ExtendedIo = row (codes "ExtendedIO") (io_parts 8 8 attributes) (extended_of io_checks) tails.Absent
facts items.ExtendedSpace = row (codes "ExtendedSpace") (space_parts 8 8 attributes) (extended_of space_checks) tails.Absent
facts items.GpioInt = row (codes "GpioInt")
    (word 7 0 1 kinds.Mode ∷ word 7 1 2 kinds.Levels ∷ word 7 3 2 kinds.Sharing
    ∷ word_or_number 9 kinds.PinConfig ∷ parts.Number 12 2
    ∷ controller 17 19 16 ++ word 5 0 1 kinds.Usage ∷ parts.Blank ∷ vendor_at 19 ∷ [])
    (connection_of 0 (clear 7 5 8 ∷ byte 8 0 ∷ byte 10 0 ∷ byte 11 0 ∷ [])) (pins_tail 23 17)
facts items.GpioIo = row (codes "GpioIo")
    (word 7 3 2 kinds.Sharing ∷ word_or_number 9 kinds.PinConfig ∷ parts.Number 12 2 ∷ parts.Number 10 2
    ∷ word 7 0 2 kinds.Restriction ∷ controller 17 19 16 ++ word 5 0 1 kinds.Usage ∷ parts.Blank ∷ vendor_at 19 ∷ [])
    (connection_of 1 (clear 7 2 1 ∷ clear 7 5 8 ∷ byte 8 0 ∷ [])) (pins_tail 23 17)
facts items.PinFunction = row (codes "PinFunction")
    (word 4 0 1 kinds.Sharing ∷ word_or_number 6 kinds.PinConfig ∷ parts.Number 7 2
    ∷ controller 12 14 11 ++ parts.Blank ∷ parts.Blank ∷ vendor_at 14 ∷ [])
    (byte 0 0x8d ∷ byte 3 1 ∷ clear 4 1 8 ∷ byte 5 0 ∷ pins_of 18 9 12 14) (pins_tail 18 12)
facts items.I2cBus2 = row (codes "I2cSerialBusV2") (i2c_parts (bus_end_2 6))
    (bus_of 2 1 6 (clear 6 3 8 ∷ clear 7 1 8 ∷ [])) tails.Absent
facts items.I2cBus = row (codes "I2cSerialBus") (i2c_parts (bus_end 6))
    (bus_of 1 1 6 (clear 6 2 8 ∷ clear 7 1 8 ∷ [])) tails.Absent
facts items.SpiBus2 = row (codes "SpiSerialBusV2") (spi_parts (bus_end_2 9))
    (bus_of 2 2 9 (clear 6 3 8 ∷ clear 7 2 8 ∷ [])) tails.Absent
facts items.SpiBus = row (codes "SpiSerialBus") (spi_parts (bus_end 9))
    (bus_of 1 2 9 (clear 6 2 8 ∷ clear 7 2 8 ∷ [])) tails.Absent
facts items.UartBus2 = row (codes "UartSerialBusV2") (uart_parts (bus_end_2 10)) (bus_of 2 3 10 (clear 6 3 8 ∷ [])) tails.Absent
facts items.UartBus = row (codes "UartSerialBus") (uart_parts (bus_end 10)) (bus_of 1 3 10 (clear 6 2 8 ∷ [])) tails.Absent
facts items.Csi2Bus = row (codes "Csi2Bus")
    (initiator ∷ parts.Bits (bits 7 0 2) ∷ parts.Bits (bits 7 2 8) ∷ bus_end 0) (bus_of 1 4 0 (clear 6 2 8 ∷ [])) tails.Absent
facts items.PinConfig = row (codes "PinConfig")
    (word 4 0 1 kinds.Sharing ∷ parts.Number 6 1 ∷ parts.Number 7 4
    ∷ controller 14 16 13 ++ word 4 1 1 kinds.Usage ∷ parts.Blank ∷ vendor_at 16 ∷ [])
    (byte 0 0x8f ∷ byte 3 1 ∷ clear 4 2 8 ∷ byte 5 0 ∷ pins_of 20 11 14 16) (pins_tail 20 14)
facts items.PinGroup = row (codes "PinGroup")
    (parts.Text (offsets.Stated 8) (offsets.Stated 10) ∷ word 4 0 1 kinds.Usage ∷ parts.Blank ∷ vendor_at 10 ∷ [])
    (byte 0 0x90 ∷ byte 3 1 ∷ clear 4 1 8 ∷ byte 5 0 ∷ pins_of 14 6 8 10) (pins_tail 14 8)
facts items.PinGroupFunction = row (codes "PinGroupFunction")
    (word 4 0 1 kinds.Sharing ∷ parts.Number 6 2 ∷ group_parts 17 9 ++ word 4 1 1 kinds.Usage ∷ parts.Blank ∷ vendor_at 13 ∷ [])
    (byte 0 0x91 ∷ byte 3 1 ∷ clear 4 2 8 ∷ byte 5 0 ∷ group_of 17 9) tails.Absent
facts items.PinGroupConfig = row (codes "PinGroupConfig")
    (word 4 0 1 kinds.Sharing ∷ parts.Number 6 1 ∷ parts.Number 7 4
    ∷ group_parts 20 12 ++ word 4 1 1 kinds.Usage ∷ parts.Blank ∷ vendor_at 16 ∷ [])
    (byte 0 0x92 ∷ byte 3 1 ∷ clear 4 2 8 ∷ byte 5 0 ∷ group_of 20 12) tails.Absent
facts items.ClockInput = row (codes "ClockInput")
    (parts.Number 8 4 ∷ parts.Number 6 2 ∷ word 4 1 2 kinds.ClockScale ∷ word 4 0 1 kinds.ClockMode
    ∷ parts.Source (offsets.At 12) ∷ parts.Index (offsets.At 12) ∷ [])
    (byte 0 0x93 ∷ byte 3 1 ∷ clear 4 3 8 ∷ byte 5 0 ∷ checks.Source (offsets.At 12) ∷ []) tails.Absent

abbrev pub descriptors : List Descriptor
descriptors =
    items.IrqNoFlags ∷ items.Irq ∷ items.Dma ∷ items.StartDependentFnNoPri ∷ items.StartDependentFn ∷ items.EndDependentFn
    ∷ items.Io ∷ items.FixedIo ∷ items.FixedDma ∷ items.VendorShort ∷ items.Memory24 ∷ items.Register ∷ items.VendorLong
    ∷ items.Memory32 ∷ items.Memory32Fixed ∷ items.DwordMemory ∷ items.DwordIo ∷ items.DwordSpace ∷ items.WordIo ∷ items.WordBus
    ∷ items.WordSpace ∷ items.Interrupt ∷ items.QwordMemory ∷ items.QwordIo ∷ items.QwordSpace ∷ items.ExtendedMemory
    ∷ items.ExtendedIo ∷ items.ExtendedSpace ∷ items.GpioInt ∷ items.GpioIo ∷ items.PinFunction ∷ items.I2cBus2 ∷ items.I2cBus
    ∷ items.SpiBus2 ∷ items.SpiBus ∷ items.UartBus2 ∷ items.UartBus ∷ items.Csi2Bus ∷ items.PinConfig ∷ items.PinGroup
    ∷ items.PinGroupFunction ∷ items.PinGroupConfig ∷ items.ClockInput ∷ []
