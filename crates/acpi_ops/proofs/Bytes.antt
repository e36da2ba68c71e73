-- Descriptors are bytes.
use Rattle.std.proofs.Common.{ℕ, ◌+◌, ◌*◌, ◌<◌, List, [], ◌∷◌, ◌++◌, length, Bool, true, false, Some, None, lit<, arith}
use Rattle.std.specs.Prelude.{Option}
use Rattle.std.specs.List.{flat_map}
use Rattle.acpi_base.specs.declared.error.Error.TheVariants.{AddressRange, FieldWidth}
use Rattle.acpi_base.specs.Bytes.{AreBytes, le}
use Rattle.acpi_base.specs.Fields.{NamedField, fields_joined}
use Rattle.acpi_base.specs.Gas.{space_number, size_number}
use Rattle.acpi_base.specs.Object.{whole, provided}
use Rattle.acpi_base.proofs.Bytes.{bytes_both, bytes_le}
use Rattle.acpi_ops.specs.declared.address_space.AddressSpace.{AddressSpace}
use Rattle.acpi_ops.specs.declared.address_space.FixedEnd.{FixedEnd}
use Rattle.acpi_ops.specs.declared.address_space.FixedEnd.TheVariants as ends
use Rattle.acpi_ops.specs.declared.address_space.Movable.{Movable}
use Rattle.acpi_ops.specs.AddressSpace.{byte, word, record_of, or_zero, end_flags, fixed_flags, granularity_in, size_of}
use Rattle.acpi_ops.specs.AddressSpace.{is_range, spaced, space_bytes, space_from_bytes}
use Rattle.acpi_ops.specs.Descriptor.{bit, vector_flags, fixed_fields, port_fields, interrupt_fields, register_fields}
use Rattle.acpi_ops.specs.declared.gpio.PinConfig.{PinConfig}
use Rattle.acpi_ops.specs.declared.gpio.Settings.{Settings}
use Rattle.acpi_ops.specs.declared.pins.PinSetting.{PinSetting}
use Rattle.acpi_ops.specs.declared.pins.PinUse.{PinUse}
use Rattle.acpi_ops.specs.declared.serial.Bus.{Bus}
use Rattle.acpi_ops.specs.Gpio.{config_number, gpio_head_fields, gpio_bytes}
use Rattle.acpi_ops.specs.Parts.{name_at, vendor_at, length_of, parts_bytes, pins_bytes, source_size}
use Rattle.acpi_ops.specs.Pins.{setting_number, use_flags, function_fields, function_bytes, configuration_fields, configuration_bytes}
use Rattle.acpi_ops.specs.Pins.{group_fields, group_bytes, group_function_fields, group_function_bytes}
use Rattle.acpi_ops.specs.Pins.{group_configuration_fields, group_configuration_bytes}
use Rattle.acpi_ops.specs.declared.clock.ClockSettings.{ClockSettings}
use Rattle.acpi_ops.specs.declared.csi2.Csi2Settings.{Csi2Settings}
use Rattle.acpi_ops.specs.Clock.{clock_flags, clock_fields, clock_from_bytes}
use Rattle.acpi_ops.specs.Csi2.{csi2_flags, csi2_type_flags, csi2_head_fields, csi2_bytes}
use Rattle.acpi_ops.specs.Interrupts.{interrupts_head_fields, numbers_bytes, interrupts_bytes}
use Rattle.acpi_ops.specs.Interrupts.{from_length, from_head_fields, from_bytes}
use Rattle.acpi_ops.specs.Memory.{memory_24_fields, memory_32_fields}
use Rattle.acpi_ops.specs.Serial.{general_flags, length_after, serial_head_fields, serial_bytes}
use Rattle.acpi_ops.specs.Vendor.{vendor_short_fields, vendor_long_fields}
use Rattle.acpi_ops.specs.Small.{irq_fields, irq_no_flags_fields, dma_fields, fixed_port_fields, fixed_dma_fields, width_number}
use Rattle.acpi_ops.specs.Small.{start_dependent_fields, start_dependent_no_priority_fields, end_dependent_fields}
use Rattle.acpi_ops.specs.Laws.{DescriptorsAreBytes}

-- fields of bytes
abbrev AreFields : List (List ℕ) → Type 0
AreFields [] = Unit {0}
AreFields (field ∷ fields) = AreBytes field × AreFields fields

joined : (fields : List (List ℕ)) → AreFields fields → AreBytes (record_of fields)
joined [] are = tt
joined (field ∷ fields) are = bytes_both field (record_of fields) are.0 (joined fields are.1)

tested : (test : Bool) (bytes : List ℕ) → AreBytes bytes → AreBytes (provided test AddressRange (whole bytes)).front
tested true bytes is = is
tested false bytes is = tt

-- the general flags are small
end_few : (e : FixedEnd) → end_flags e < 16
end_few ends.Neither = lit< tt
end_few ends.Min = lit< tt
end_few ends.Max = lit< tt

fixed_few : (m : Option (Movable ℕ)) → fixed_flags (λ n. n) m < 16
fixed_few (Some m) = end_few m.fixed
fixed_few None = lit< tt

bit_few : (set : Bool) → bit set 2 < 3
bit_few true = lit< tt
bit_few false = lit< tt

general_is_byte : (set : Bool) (m : Option (Movable ℕ)) → bit set 2 + fixed_flags (λ n. n) m < 256
general_is_byte set m = omega (arith, bit_few set, fixed_few m)

spaced_is_bytes : (size tag w : ℕ) (a : AddressSpace ℕ) → tag < 256 → a.kind < 256 → a.flags < 256 → AreBytes (spaced (λ n. n) size tag w a)
spaced_is_bytes size tag w a p q r =
    joined (byte tag ∷ word size ∷ byte a.kind ∷ byte (bit a.subtractive 2 + fixed_flags (λ n. n) a.movable) ∷ byte a.flags ∷ le w (granularity_in (λ n. n) a.movable) ∷ le w a.min ∷ le w a.max ∷ le w (or_zero (λ n. n) a.translation) ∷ le w (size_of (λ n. n) a) ∷ [])
    ((p, tt), (bytes_le 2 size, ((q, tt), ((general_is_byte a.subtractive a.movable, tt), ((r, tt), (bytes_le w (granularity_in (λ n. n) a.movable), (bytes_le w a.min, (bytes_le w a.max, (bytes_le w (or_zero (λ n. n) a.translation), (bytes_le w (size_of (λ n. n) a), tt))))))))))

abbrev AreNamed : List NamedField → Type 0
AreNamed [] = Unit {0}
AreNamed (field ∷ fields) = AreBytes field.bytes × AreNamed fields

named : (fields : List NamedField) → AreNamed fields → AreBytes (fields_joined fields)
named [] are = tt
named (field ∷ fields) are = bytes_both field.bytes (fields_joined fields) are.0 (named fields are.1)

-- ---- descriptors of any length

provided_bytes : (test : Bool) (bytes : List ℕ) → AreBytes bytes → AreBytes (provided test FieldWidth (whole bytes)).front
provided_bytes true bytes is = is
provided_bytes false bytes is = tt

lists : {X : Type 0} (f : X → List ℕ) (xs : List X) → ((x : X) → AreBytes (f x)) → AreBytes (flat_map f xs)
lists f [] each = tt
lists f (x ∷ xs) each = bytes_both (f x) (flat_map f xs) (each x) (lists f xs each)

several : (flags : ℕ) (numbers : List ℕ) → AreBytes (interrupts_bytes flags numbers)
several flags numbers =
    bytes_both (fields_joined (interrupts_head_fields flags (length numbers))) (numbers_bytes numbers)
    (named (interrupts_head_fields flags (length numbers)) (bytes_le 1 0x89, (bytes_le 2 (2 + 4 * length numbers), (bytes_le 1 flags, (bytes_le 1 (length numbers), tt)))))
    (lists (λ n. le 4 n) numbers (λ n. bytes_le 4 n))

short : (content : List ℕ) → AreBytes content → AreBytes (fields_joined (vendor_short_fields content))
short content are = named (vendor_short_fields content) (bytes_le 1 (0x70 + length content), (are, tt))

long : (content : List ℕ) → AreBytes content → AreBytes (fields_joined (vendor_long_fields content))
long content are = named (vendor_long_fields content) (bytes_le 1 0x84, (bytes_le 2 (length content), (are, tt)))

-- a name with a zero, and a vendor's data, after a table
parts_are : (table name vendor : List ℕ) → AreBytes table → AreBytes name → AreBytes vendor → AreBytes (parts_bytes table name vendor)
parts_are table name vendor p q r = bytes_both table (name ++ (0 ∷ vendor)) p (bytes_both name (0 ∷ vendor) q (lit< tt, r))

list_is : (pins : List ℕ) → AreBytes (pins_bytes pins)
list_is pins = lists (λ n. le 2 n) pins (λ n. bytes_le 2 n)

zero_after : (source : List ℕ) → AreBytes source → AreBytes (source ++ 0 ∷ [])
zero_after source p = bytes_both source (0 ∷ []) p (lit< tt, tt)

with_parts : (fields : List NamedField) (table name vendor : List ℕ) → AreNamed fields → AreBytes table → AreBytes name → AreBytes vendor
    → AreBytes (fields_joined fields ++ parts_bytes table name vendor)
with_parts fields table name vendor are p q r =
    bytes_both (fields_joined fields) (parts_bytes table name vendor) (named fields are) (parts_are table name vendor p q r)

pins_are : (s : Settings) (pins source vendor : List ℕ) → AreBytes source → AreBytes vendor → AreBytes (gpio_bytes s pins source vendor)
pins_are s pins source vendor q r =
    let n = length pins in let k = length source in let m = length vendor in
    with_parts (gpio_head_fields s n k m) (pins_bytes pins) source vendor
    (bytes_le 1 0x8c, (bytes_le 2 (length_of 23 (2 * n) k m), (bytes_le 1 1, (bytes_le 1 s.connection, (bytes_le 2 (bit s.consumer 1), (bytes_le 2 s.flags, (bytes_le 1 (config_number s.pin_config), (bytes_le 2 s.drive_strength, (bytes_le 2 s.debounce_timeout, (bytes_le 2 23, (bytes_le 1 0, (bytes_le 2 (name_at 23 (2 * n)), (bytes_le 2 (vendor_at 23 (2 * n) k), (bytes_le 2 m, tt))))))))))))))
    (list_is pins) q r

function_is : (shared : Bool) (c : PinConfig) (number : ℕ) (pins source vendor : List ℕ) → AreBytes source → AreBytes vendor → AreBytes (function_bytes shared c number pins source vendor)
function_is shared c number pins source vendor q r =
    let n = length pins in let k = length source in let m = length vendor in
    with_parts (function_fields shared c number n k m) (pins_bytes pins) source vendor
    (bytes_le 1 0x8d, (bytes_le 2 (length_of 18 (2 * n) k m), (bytes_le 1 1, (bytes_le 2 (bit shared 1), (bytes_le 1 (config_number c), (bytes_le 2 number, (bytes_le 2 18, (bytes_le 1 0, (bytes_le 2 (name_at 18 (2 * n)), (bytes_le 2 (vendor_at 18 (2 * n) k), (bytes_le 2 m, tt)))))))))))
    (list_is pins) q r

configuration_is : (u : PinUse) (setting : PinSetting) (value : ℕ) (pins source vendor : List ℕ) → AreBytes source → AreBytes vendor → AreBytes (configuration_bytes u setting value pins source vendor)
configuration_is u setting value pins source vendor q r =
    let n = length pins in let k = length source in let m = length vendor in
    with_parts (configuration_fields u setting value n k m) (pins_bytes pins) source vendor
    (bytes_le 1 0x8f, (bytes_le 2 (length_of 20 (2 * n) k m), (bytes_le 1 1, (bytes_le 2 (use_flags u), (bytes_le 1 (setting_number setting), (bytes_le 4 value, (bytes_le 2 20, (bytes_le 1 0, (bytes_le 2 (name_at 20 (2 * n)), (bytes_le 2 (vendor_at 20 (2 * n) k), (bytes_le 2 m, tt)))))))))))
    (list_is pins) q r

group_is : (consumer : Bool) (pins label vendor : List ℕ) → AreBytes label → AreBytes vendor → AreBytes (group_bytes consumer pins label vendor)
group_is consumer pins label vendor q r =
    let n = length pins in let k = length label in let m = length vendor in
    with_parts (group_fields consumer n k m) (pins_bytes pins) label vendor
    (bytes_le 1 0x90, (bytes_le 2 (length_of 14 (2 * n) k m), (bytes_le 1 1, (bytes_le 2 (bit consumer 1), (bytes_le 2 14, (bytes_le 2 (name_at 14 (2 * n)), (bytes_le 2 (vendor_at 14 (2 * n) k), (bytes_le 2 m, tt))))))))
    (list_is pins) q r

group_function_is : (u : PinUse) (number : ℕ) (source label vendor : List ℕ) → AreBytes source → AreBytes label → AreBytes vendor → AreBytes (group_function_bytes u number source label vendor)
group_function_is u number source label vendor p q r =
    let n = length source in let k = length label in let m = length vendor in
    with_parts (group_function_fields u number n k m) (source ++ 0 ∷ []) label vendor
    (bytes_le 1 0x91, (bytes_le 2 (length_of 17 (n + 1) k m), (bytes_le 1 1, (bytes_le 2 (use_flags u), (bytes_le 2 number, (bytes_le 1 0, (bytes_le 2 17, (bytes_le 2 (name_at 17 (n + 1)), (bytes_le 2 (vendor_at 17 (n + 1) k), (bytes_le 2 m, tt))))))))))
    (zero_after source p) q r

group_configuration_is : (u : PinUse) (setting : PinSetting) (value : ℕ) (source label vendor : List ℕ) → AreBytes source → AreBytes label → AreBytes vendor → AreBytes (group_configuration_bytes u setting value source label vendor)
group_configuration_is u setting value source label vendor p q r =
    let n = length source in let k = length label in let m = length vendor in
    with_parts (group_configuration_fields u setting value n k m) (source ++ 0 ∷ []) label vendor
    (bytes_le 1 0x92, (bytes_le 2 (length_of 20 (n + 1) k m), (bytes_le 1 1, (bytes_le 2 (use_flags u), (bytes_le 1 (setting_number setting), (bytes_le 4 value, (bytes_le 1 0, (bytes_le 2 20, (bytes_le 2 (name_at 20 (n + 1)), (bytes_le 2 (vendor_at 20 (n + 1) k), (bytes_le 2 m, tt)))))))))))
    (zero_after source p) q r

bus_are : (b : Bus) (own vendor source : List ℕ) → AreBytes own → AreBytes vendor → AreBytes source → AreBytes (serial_bytes b own vendor source)
bus_are b own vendor source p q r =
    let n = length own + length vendor in let k = length source in
    bytes_both (fields_joined (serial_head_fields b n k)) (own ++ (vendor ++ (source ++ 0 ∷ [])))
    (named (serial_head_fields b n k) (
      bytes_le 1 0x8e,
      (
        bytes_le 2 (length_after n k),
        (
          bytes_le 1 2,
          (
            bytes_le 1 0,
            (
              bytes_le 1 b.bus,
              (bytes_le 1 (general_flags b.general), (bytes_le 2 b.specific, (bytes_le 1 1, (bytes_le 2 n, tt)))),
            ),
          ),
        ),
      ),
    ))
    (bytes_both own (vendor ++ (source ++ 0 ∷ [])) p
    (bytes_both vendor (source ++ 0 ∷ []) q (bytes_both source (0 ∷ []) r (lit< tt, tt))))

-- ---- cameras, clocks and resource sources

csi2_are : (s : Csi2Settings) (vendor source : List ℕ) → AreBytes vendor → AreBytes source → AreBytes (csi2_bytes s vendor source)
csi2_are s vendor source q r =
    let n = length vendor in let k = length source in
    bytes_both (fields_joined (csi2_head_fields s n k)) (vendor ++ (source ++ 0 ∷ []))
    (named (csi2_head_fields s n k)
    (bytes_le 1 0x8e, (bytes_le 2 (length_after n k), (bytes_le 1 1, (bytes_le 1 s.remote_port, (bytes_le 1 4, (bytes_le 1 (csi2_flags s), (bytes_le 2 (csi2_type_flags s), (bytes_le 1 1, (bytes_le 2 n, tt))))))))))
    (bytes_both vendor (source ++ 0 ∷ []) q (zero_after source r))

clock_are : (c : ClockSettings) (more : ℕ) → AreBytes (fields_joined (clock_fields c more))
clock_are c more = named (clock_fields c more)
    (bytes_le 1 0x93, (bytes_le 2 (9 + more), (bytes_le 1 1, (bytes_le 2 (clock_flags c), (bytes_le 2 c.divisor, (bytes_le 4 c.numerator, tt))))))

clock_from_are : (c : ClockSettings) (index : ℕ) (source : List ℕ) → index < 256 → AreBytes source → AreBytes (clock_from_bytes c index source)
clock_from_are c index source p q =
    bytes_both (fields_joined (clock_fields c (source_size (length source)))) (index ∷ (source ++ 0 ∷ []))
    (clock_are c (source_size (length source))) (p, zero_after source q)

from_are : (flags : ℕ) (numbers : List ℕ) (index : ℕ) (source : List ℕ) → index < 256 → AreBytes source → AreBytes (from_bytes flags numbers index source)
from_are flags numbers index source p q =
    let n = length numbers in let k = length source in
    bytes_both (fields_joined (from_head_fields flags n k)) (numbers_bytes numbers ++ (index ∷ (source ++ 0 ∷ [])))
    (named (from_head_fields flags n k) (bytes_le 1 0x89, (bytes_le 2 (from_length n k), (bytes_le 1 flags, (bytes_le 1 n, tt)))))
    (bytes_both (numbers_bytes numbers) (index ∷ (source ++ 0 ∷ [])) (lists (λ n. le 4 n) numbers (λ n. bytes_le 4 n)) (p, zero_after source q))

space_from_are : (tag w : ℕ) (a : AddressSpace ℕ) (index : ℕ) (source : List ℕ) → tag < 256 → a.kind < 256 → a.flags < 256 → index < 256 → AreBytes source
    → AreBytes (space_from_bytes (λ n. n) tag w a index source)
space_from_are tag w a index source p q r i s =
    bytes_both (spaced (λ n. n) (3 + 5 * w + source_size (length source)) tag w a) (index ∷ (source ++ 0 ∷ []))
    (spaced_is_bytes (3 + 5 * w + source_size (length source)) tag w a p q r) (i, zero_after source s)

in_range : (range test : Bool) (bytes : List ℕ) → AreBytes bytes → AreBytes (provided range AddressRange (provided test FieldWidth (whole bytes))).front
in_range true test bytes is = provided_bytes test bytes is
in_range false test bytes is = tt

-- ---- all of them

pub descriptors_are_bytes : DescriptorsAreBytes
descriptors_are_bytes = record {
  fixed = λ read_write base size. named (fixed_fields read_write base size)
      (bytes_le 1 0x86, (bytes_le 2 9, (bytes_le 1 (bit read_write 1), (bytes_le 4 base, (bytes_le 4 size, tt)))));
  memory_24 = λ read_write min max alignment size. named (memory_24_fields read_write min max alignment size)
      (bytes_le 1 0x81, (bytes_le 2 9, (bytes_le 1 (bit read_write 1), (bytes_le 2 min, (bytes_le 2 max, (bytes_le 2 alignment, (bytes_le 2 size, tt)))))));
  memory_32 = λ read_write min max alignment size. named (memory_32_fields read_write min max alignment size)
      (bytes_le 1 0x85, (bytes_le 2 17, (bytes_le 1 (bit read_write 1), (bytes_le 4 min, (bytes_le 4 max, (bytes_le 4 alignment, (bytes_le 4 size, tt)))))));
  irq = λ mask information. named (irq_fields mask information)
      (bytes_le 1 0x23, (bytes_le 2 mask, (bytes_le 1 information, tt)));
  irq_no_flags = λ mask. named (irq_no_flags_fields mask)
      (bytes_le 1 0x22, (bytes_le 2 mask, tt));
  dma = λ channels information. named (dma_fields channels information)
      (bytes_le 1 0x2a, (bytes_le 1 channels, (bytes_le 1 information, tt)));
  start_dependent = λ priority. named (start_dependent_fields priority)
      (bytes_le 1 0x31, (bytes_le 1 priority, tt));
  start_dependent_no_priority = named start_dependent_no_priority_fields
      (bytes_le 1 0x30, tt);
  end_dependent = named end_dependent_fields
      (bytes_le 1 0x38, tt);
  port = λ min max alignment size _ _. named (port_fields 1 min max alignment size)
      (bytes_le 1 0x47, (bytes_le 1 1, (bytes_le 2 min, (bytes_le 2 max, (bytes_le 1 alignment, (bytes_le 1 size, tt))))));
  port_10 = λ min max alignment size. named (port_fields 0 min max alignment size)
      (bytes_le 1 0x47, (bytes_le 1 0, (bytes_le 2 min, (bytes_le 2 max, (bytes_le 1 alignment, (bytes_le 1 size, tt))))));
  fixed_port = λ base size. named (fixed_port_fields base size)
      (bytes_le 1 0x4b, (bytes_le 2 base, (bytes_le 1 size, tt)));
  fixed_dma = λ request_line channel width. named (fixed_dma_fields request_line channel width)
      (bytes_le 1 0x55, (bytes_le 2 request_line, (bytes_le 2 channel, (bytes_le 1 (width_number width), tt))));
  interrupt = λ flags number _. named (interrupt_fields flags number)
      (bytes_le 1 0x89, (bytes_le 2 6, (bytes_le 1 flags, (bytes_le 1 1, (bytes_le 4 number, tt)))));
  several = λ f numbers. provided_bytes _ (interrupts_bytes (vector_flags f) numbers) (several (vector_flags f) numbers);
  register = λ gas _ _. named (register_fields gas) (
    bytes_le 1 0x82,
    (
      bytes_le 2 12,
      (
        bytes_le 1 (space_number gas.address_space_id),
        (
          bytes_le 1 gas.register_bit_width,
          (bytes_le 1 gas.register_bit_offset, (bytes_le 1 (size_number gas.access_size), (bytes_le 8 gas.address, tt))),
        ),
      ),
    ),
  );
  space = λ tag w a p q r. tested (is_range (λ n. n) w a) (space_bytes (λ n. n) tag w a) (spaced_is_bytes (3 + 5 * w) tag w a p q r);
  short = λ content p. provided_bytes _ (fields_joined (vendor_short_fields content)) (short content p);
  long = λ content p. provided_bytes _ (fields_joined (vendor_long_fields content)) (long content p);
  pins = λ s pins source vendor p q. provided_bytes _ (gpio_bytes s pins source vendor) (pins_are s pins source vendor p q);
  function = λ shared c number pins source vendor p q.
      provided_bytes _ (function_bytes shared c number pins source vendor) (function_is shared c number pins source vendor p q);
  configuration = λ u setting value pins source vendor p q.
      provided_bytes _ (configuration_bytes u setting value pins source vendor) (configuration_is u setting value pins source vendor p q);
  group = λ consumer pins label vendor p q. provided_bytes _ (group_bytes consumer pins label vendor) (group_is consumer pins label vendor p q);
  group_function = λ u number source label vendor p q r.
      provided_bytes _ (group_function_bytes u number source label vendor) (group_function_is u number source label vendor p q r);
  group_configuration = λ u setting value source label vendor p q r.
      provided_bytes _ (group_configuration_bytes u setting value source label vendor) (group_configuration_is u setting value source label vendor p q r);
  bus = λ b own vendor source p q r. provided_bytes _ (serial_bytes b own vendor source) (bus_are b own vendor source p q r);
  camera = λ s vendor source p q. provided_bytes _ (csi2_bytes s vendor source) (csi2_are s vendor source p q);
  clock = λ c. clock_are c 0;
  clock_from = λ c index source p q. provided_bytes _ (clock_from_bytes c index source) (clock_from_are c index source p q);
  several_from = λ f numbers index source p q.
      provided_bytes _ (from_bytes (vector_flags f) numbers index source) (from_are (vector_flags f) numbers index source p q);
  space_from = λ tag w a index source p q r i s.
      in_range _ _ (space_from_bytes (λ n. n) tag w a index source) (space_from_are tag w a index source p q r i s);
}
