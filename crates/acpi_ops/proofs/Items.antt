-- Resource items.
use Rattle.std.proofs.Common.{◌≡◌, ℕ, ◌+◌, ◌*◌, ◌<◌, List, [], ◌∷◌, ◌++◌, length, take, Bool, true, false, ◌&&◌, cond, Some, None, refl, sym, ap, ◌∙◌, arith}
use Rattle.std.specs.Prelude.{nat_lt, nat_le}
use Rattle.std.specs.List.{concat, flat_map}
use Rattle.std.proofs.Math.Seq.{take-append_seam}
use Rattle.std.proofs.lemmas.Bool.Decides.{nat_tests}
use Rattle.std.proofs.lemmas.List.{append_cancel_left, length-append}
use Rattle.acpi_base.specs.declared.error.Error.TheVariants.{AddressRange, FieldWidth}
use Rattle.acpi_base.specs.Bytes.{le, carried}
use Rattle.acpi_base.specs.Fields.{fields_joined}
use Rattle.acpi_base.specs.Object.{whole, provided}
use Rattle.acpi_base.proofs.Bytes.{carried_le, length_le}
use Rattle.acpi_ops.specs.declared.gpio.PinConfig.{PinConfig}
use Rattle.acpi_ops.specs.declared.gpio.Settings.{Settings}
use Rattle.acpi_ops.specs.declared.pins.PinSetting.{PinSetting}
use Rattle.acpi_ops.specs.declared.pins.PinUse.{PinUse}
use Rattle.acpi_ops.specs.declared.serial.Bus.{Bus}
use Rattle.acpi_ops.specs.Descriptor.{bit, vector_flags}
use Rattle.acpi_ops.specs.Gpio.{config_number, gpio_bytes}
use Rattle.acpi_ops.specs.Parts.{name_at, vendor_at, length_of, parts_fit, parts_bytes, pins_bytes, source_size}
use Rattle.acpi_ops.specs.Pins.{setting_number, use_flags, function_bytes, configuration_bytes, group_bytes, group_function_bytes, group_configuration_bytes}
use Rattle.acpi_ops.specs.declared.clock.ClockSettings.{ClockSettings}
use Rattle.acpi_ops.specs.declared.csi2.Csi2Settings.{Csi2Settings}
use Rattle.acpi_ops.specs.Clock.{clock_flags, clock_from_bytes}
use Rattle.acpi_ops.specs.Csi2.{csi2_flags, csi2_type_flags, csi2_bytes, csi2_fits}
use Rattle.acpi_ops.specs.Interrupts.{numbers_bytes, interrupts_bytes, from_length, from_bytes, from_fits}
use Rattle.acpi_ops.specs.Serial.{general_flags, length_after, serial_fits, serial_bytes}
use Rattle.acpi_ops.specs.Vendor.{vendor_short_fields, vendor_long_fields}
use Rattle.acpi_ops.specs.AddressSpace.{is_range, space_bytes, space_from_fits, space_from_bytes}
use Rattle.acpi_ops.specs.AddressSpace.{fixed_flags, granularity_in, or_zero, size_of}
use Rattle.acpi_ops.specs.declared.address_space.AddressSpace.{AddressSpace}
use Rattle.acpi_ops.proofs.Spaces.{numbers}
use Rattle.acpi_ops.specs.Item.{large_size, item_size, IsItem, AreItems, SplitsInto}
use Rattle.acpi_ops.specs.Laws.{DescriptorsAreItems}

-- ---- one way

large_before : (more rest : List ℕ) (n : ℕ) → large_size more ≡ Some n → large_size (more ++ rest) ≡ Some n
large_before [] rest n h = absurd cc
large_before (low ∷ []) rest n h = absurd cc
large_before (low ∷ high ∷ more) rest n h = h

tag_before : (small : Bool) (size : ℕ) (more rest : List ℕ) (n : ℕ) → cond small (Some size) (large_size more) ≡ Some n → cond small (Some size) (large_size (more ++ rest)) ≡ Some n
tag_before true size more rest n h = h
tag_before false size more rest n h = large_before more rest n h

-- the size of an item doesn't depend on what follows
size_before : (item rest : List ℕ) (n : ℕ) → item_size item ≡ Some n → item_size (item ++ rest) ≡ Some n
size_before [] rest n h = absurd cc
size_before (tag ∷ more) rest n h = tag_before (nat_lt tag 128) _ more rest n h

same_first : (x y a b : List ℕ) → IsItem x → IsItem y → x ++ a ≡ y ++ b → (x ≡ y) × (a ≡ b)
same_first x y a b is is' same =
    let n : Some (length x) ≡ Some (length y) = sym (size_before x a (length x) is.size) ∙ ap item_size same ∙ size_before y b (length y) is'.size in
    let sizes : length x ≡ length y = cc in
    let firsts : x ≡ y = sym (take-append_seam x a) ∙ ap (λ (k : ℕ). take k (x ++ a)) sizes ∙ ap (take (length y)) same ∙ take-append_seam y b in
    (firsts, append_cancel_left y a b (ap (λ (l : List ℕ). l ++ a) (sym firsts) ∙ same))

no_item : IsItem [] → ⊥
no_item is = let h : item_size [] ≡ Some 0 = is.size in cc

nothing : (item rest : List ℕ) → IsItem item → item ++ rest ≡ [] → ⊥
nothing [] rest is same = no_item is
nothing (tag ∷ more) rest is same = cc

pub one_way : (a b : List (List ℕ)) → AreItems a → AreItems b → concat a ≡ concat b → a ≡ b
one_way [] [] is is' same = refl
one_way [] (y ∷ b) is is' same = absurd (nothing y (concat b) is'.0 (sym same))
one_way (x ∷ a) [] is is' same = absurd (nothing x (concat a) is.0 same)
one_way (x ∷ a) (y ∷ b) is is' same =
    let first = same_first x y (concat a) (concat b) is.0 is'.0 same in
    let rest = one_way a b is.1 is'.1 first.1 in
    ap (λ (l : List ℕ). l ∷ a) first.0 ∙ ap (λ (l : List (List ℕ)). y ∷ l) rest

pub splits_in_one_way : (bytes : List ℕ) (a b : List (List ℕ)) → SplitsInto bytes a → SplitsInto bytes b → a ≡ b
splits_in_one_way bytes a b first second = one_way a b first.0 second.0 (sym first.1 ∙ second.1)

-- ---- descriptors

whole_item : (test : Bool) (bytes : List ℕ) → IsItem bytes → (provided test AddressRange (whole bytes)).end ≡ None → IsItem (provided test AddressRange (whole bytes)).front
whole_item true bytes is h = is
whole_item false bytes is h = absurd cc

-- ---- descriptors of any length

provided_item : (test : Bool) (bytes : List ℕ) → (test ≡ true → IsItem bytes) → (provided test FieldWidth (whole bytes)).end ≡ None → IsItem (provided test FieldWidth (whole bytes)).front
provided_item true bytes is h = is refl
provided_item false bytes is h = absurd cc

-- a tag, the length of the rest, and the rest
large : (tag n : ℕ) (rest : List ℕ) → nat_lt tag 128 ≡ false → n < 65536 → length rest ≡ n → IsItem (tag ∷ (le 2 n ++ rest))
large tag n rest big few is =
    let value : carried (le 2 n) ≡ n = carried_le 2 n few in
    record { size = rw big (ap Some (omega (arith, value, is))) }

short_item : (content : List ℕ) → nat_le (length content) 7 ≡ true → IsItem (fields_joined (vendor_short_fields content))
short_item [] few = record { size = refl }
short_item (a ∷ []) few = record { size = refl }
short_item (a ∷ b ∷ []) few = record { size = refl }
short_item (a ∷ b ∷ c ∷ []) few = record { size = refl }
short_item (a ∷ b ∷ c ∷ d ∷ []) few = record { size = refl }
short_item (a ∷ b ∷ c ∷ d ∷ e ∷ []) few = record { size = refl }
short_item (a ∷ b ∷ c ∷ d ∷ e ∷ f ∷ []) few = record { size = refl }
short_item (a ∷ b ∷ c ∷ d ∷ e ∷ f ∷ g ∷ []) few = record { size = refl }
short_item (a ∷ b ∷ c ∷ d ∷ e ∷ f ∷ g ∷ h ∷ more) few = absurd (grind (arith, nat_tests))

long_few : (n : ℕ) → nat_le n 65535 ≡ true → n < 65536
long_few n few = grind (arith, nat_tests)

long_item : (content : List ℕ) → nat_le (length content) 65535 ≡ true → IsItem (fields_joined (vendor_long_fields content))
long_item content few = large 0x84 (length content) (content ++ []) refl (long_few (length content) few) (length-append content [] ∙ omega arith)

lists : {X : Type 0} (f : X → List ℕ) (w : ℕ) (xs : List X) → ((x : X) → length (f x) ≡ w) → length (flat_map f xs) ≡ w * length xs
lists f w [] each = omega arith
lists f w (x ∷ xs) each = length-append (f x) (flat_map f xs) ∙ omega (arith, each x, lists f w xs each)

several_few : (n : ℕ) → nat_le 1 n && nat_le n 255 ≡ true → 2 + 4 * n < 65536
several_few n few = grind (arith, nat_tests)

several_item : (flags : ℕ) (numbers : List ℕ) → nat_le 1 (length numbers) && nat_le (length numbers) 255 ≡ true → IsItem (interrupts_bytes flags numbers)
several_item flags numbers few =
    let list : length (numbers_bytes numbers) ≡ 4 * length numbers = lists (λ n. le 4 n) 4 numbers (λ n. length_le 4 n) in
    large 0x89 (2 + 4 * length numbers) (le 1 flags ++ (le 1 (length numbers) ++ numbers_bytes numbers)) refl
    (several_few (length numbers) few) (omega (arith, list))

-- ---- heads of h bytes with parts after them: a table of t bytes, a name and a vendor's data

parts_few : (h t n v : ℕ) → parts_fit h t n v ≡ true → length_of h t n v < 65536
parts_few h t n v fits = grind (arith, nat_tests)

parts_length : (table name vendor : List ℕ) → length (parts_bytes table name vendor) ≡ length table + length name + 1 + length vendor
parts_length table name vendor = omega (arith, length-append table (name ++ (0 ∷ vendor)), length-append name (0 ∷ vendor))

pins_length : (pins : List ℕ) → length (pins_bytes pins) ≡ 2 * length pins
pins_length pins = lists (λ n. le 2 n) 2 pins (λ n. length_le 2 n)

-- the fields after Length, and the parts
parts_item : (tag h t : ℕ) (fields table name vendor : List ℕ) → nat_lt tag 128 ≡ false → 3 + length fields ≡ h → length table ≡ t
    → parts_fit h t (length name) (length vendor) ≡ true
    → IsItem (tag ∷ (le 2 (length_of h t (length name) (length vendor)) ++ (fields ++ parts_bytes table name vendor)))
parts_item tag h t fields table name vendor big head sized fits =
    large tag (length_of h t (length name) (length vendor)) (fields ++ parts_bytes table name vendor) big
    (parts_few h t (length name) (length vendor) fits)
    (omega (arith, head, sized, length-append fields (parts_bytes table name vendor), parts_length table name vendor))

abbrev gpio_rest : Settings → ℕ → ℕ → ℕ → List ℕ
gpio_rest s p n v =
    le 1 1 ++ (le 1 s.connection ++ (le 2 (bit s.consumer 1) ++ (le 2 s.flags ++ (le 1 (config_number s.pin_config)
    ++ (le 2 s.drive_strength ++ (le 2 s.debounce_timeout ++ (le 2 23 ++ (le 1 0 ++ (le 2 (name_at 23 (2 * p))
    ++ (le 2 (vendor_at 23 (2 * p) n) ++ le 2 v))))))))))

gpio_item : (s : Settings) (pins source vendor : List ℕ) → parts_fit 23 (2 * length pins) (length source) (length vendor) ≡ true → IsItem (gpio_bytes s pins source vendor)
gpio_item s pins source vendor =
    parts_item 0x8c 23 (2 * length pins) (gpio_rest s (length pins) (length source) (length vendor)) (pins_bytes pins) source vendor refl refl (pins_length pins)

abbrev function_rest : Bool → PinConfig → ℕ → ℕ → ℕ → ℕ → List ℕ
function_rest shared c number p n v =
    le 1 1 ++ (le 2 (bit shared 1) ++ (le 1 (config_number c) ++ (le 2 number ++ (le 2 18 ++ (le 1 0 ++ (le 2 (name_at 18 (2 * p))
    ++ (le 2 (vendor_at 18 (2 * p) n) ++ le 2 v)))))))

function_item : (shared : Bool) (c : PinConfig) (number : ℕ) (pins source vendor : List ℕ)
    → parts_fit 18 (2 * length pins) (length source) (length vendor) ≡ true → IsItem (function_bytes shared c number pins source vendor)
function_item shared c number pins source vendor =
    parts_item 0x8d 18 (2 * length pins) (function_rest shared c number (length pins) (length source) (length vendor)) (pins_bytes pins) source vendor refl refl (pins_length pins)

abbrev configuration_rest : PinUse → PinSetting → ℕ → ℕ → ℕ → ℕ → List ℕ
configuration_rest u setting value p n v =
    le 1 1 ++ (le 2 (use_flags u) ++ (le 1 (setting_number setting) ++ (le 4 value ++ (le 2 20 ++ (le 1 0 ++ (le 2 (name_at 20 (2 * p))
    ++ (le 2 (vendor_at 20 (2 * p) n) ++ le 2 v)))))))

configuration_item : (u : PinUse) (setting : PinSetting) (value : ℕ) (pins source vendor : List ℕ)
    → parts_fit 20 (2 * length pins) (length source) (length vendor) ≡ true → IsItem (configuration_bytes u setting value pins source vendor)
configuration_item u setting value pins source vendor =
    parts_item 0x8f 20 (2 * length pins) (configuration_rest u setting value (length pins) (length source) (length vendor)) (pins_bytes pins) source vendor refl refl (pins_length pins)

abbrev group_rest : Bool → ℕ → ℕ → ℕ → List ℕ
group_rest consumer p n v =
    le 1 1 ++ (le 2 (bit consumer 1) ++ (le 2 14 ++ (le 2 (name_at 14 (2 * p)) ++ (le 2 (vendor_at 14 (2 * p) n) ++ le 2 v))))

group_item : (consumer : Bool) (pins label vendor : List ℕ) → parts_fit 14 (2 * length pins) (length label) (length vendor) ≡ true
    → IsItem (group_bytes consumer pins label vendor)
group_item consumer pins label vendor =
    parts_item 0x90 14 (2 * length pins) (group_rest consumer (length pins) (length label) (length vendor)) (pins_bytes pins) label vendor refl refl (pins_length pins)

abbrev group_function_rest : PinUse → ℕ → ℕ → ℕ → ℕ → List ℕ
group_function_rest u number s n v =
    le 1 1 ++ (le 2 (use_flags u) ++ (le 2 number ++ (le 1 0 ++ (le 2 17 ++ (le 2 (name_at 17 (s + 1)) ++ (le 2 (vendor_at 17 (s + 1) n) ++ le 2 v))))))

group_function_item : (u : PinUse) (number : ℕ) (source label vendor : List ℕ)
    → parts_fit 17 (length source + 1) (length label) (length vendor) ≡ true → IsItem (group_function_bytes u number source label vendor)
group_function_item u number source label vendor =
    parts_item 0x91 17 (length source + 1) (group_function_rest u number (length source) (length label) (length vendor)) (source ++ 0 ∷ []) label vendor refl refl
    (length-append source (0 ∷ []))

abbrev group_configuration_rest : PinUse → PinSetting → ℕ → ℕ → ℕ → ℕ → List ℕ
group_configuration_rest u setting value s n v =
    le 1 1 ++ (le 2 (use_flags u) ++ (le 1 (setting_number setting) ++ (le 4 value ++ (le 1 0 ++ (le 2 20 ++ (le 2 (name_at 20 (s + 1))
    ++ (le 2 (vendor_at 20 (s + 1) n) ++ le 2 v)))))))

group_configuration_item : (u : PinUse) (setting : PinSetting) (value : ℕ) (source label vendor : List ℕ)
    → parts_fit 20 (length source + 1) (length label) (length vendor) ≡ true → IsItem (group_configuration_bytes u setting value source label vendor)
group_configuration_item u setting value source label vendor =
    parts_item 0x92 20 (length source + 1) (group_configuration_rest u setting value (length source) (length label) (length vendor)) (source ++ 0 ∷ []) label vendor refl refl
    (length-append source (0 ∷ []))

serial_few : (o v s : ℕ) → serial_fits o v s ≡ true → length_after (o + v) s < 65536
serial_few o v s fits = grind (arith, nat_tests)

abbrev serial_rest : Bus → List ℕ → List ℕ → List ℕ → List ℕ
serial_rest b own vendor source =
    le 1 2 ++ (le 1 0 ++ (le 1 b.bus ++ (le 1 (general_flags b.general) ++ (le 2 b.specific ++ (le 1 1
    ++ (le 2 (length own + length vendor) ++ (own ++ (vendor ++ (source ++ 0 ∷ [])))))))))

serial_length : (own vendor source : List ℕ) → length (own ++ (vendor ++ (source ++ 0 ∷ []))) ≡ length own + length vendor + length source + 1
serial_length own vendor source =
    omega (arith, length-append own (vendor ++ (source ++ 0 ∷ [])), length-append vendor (source ++ 0 ∷ []), length-append source (0 ∷ []))

serial_item : (b : Bus) (own vendor source : List ℕ) → serial_fits (length own) (length vendor) (length source) ≡ true → IsItem (serial_bytes b own vendor source)
serial_item b own vendor source fits =
    large 0x8e (length_after (length own + length vendor) (length source)) (serial_rest b own vendor source) refl
    (serial_few (length own) (length vendor) (length source) fits) (omega (arith, serial_length own vendor source))

-- ---- cameras, clocks and resource sources

csi2_few : (p v s : ℕ) → csi2_fits p v s ≡ true → length_after v s < 65536
csi2_few p v s fits = grind (arith, nat_tests)

named_length : (name : List ℕ) → length (name ++ 0 ∷ []) ≡ length name + 1
named_length name = length-append name (0 ∷ [])

csi2_length : (vendor source : List ℕ) → length (vendor ++ (source ++ 0 ∷ [])) ≡ length vendor + length source + 1
csi2_length vendor source = omega (arith, length-append vendor (source ++ 0 ∷ []), named_length source)

abbrev csi2_rest : Csi2Settings → List ℕ → List ℕ → List ℕ
csi2_rest s vendor source =
    le 1 1 ++ (le 1 s.remote_port ++ (le 1 4 ++ (le 1 (csi2_flags s) ++ (le 2 (csi2_type_flags s) ++ (le 1 1
    ++ (le 2 (length vendor) ++ (vendor ++ (source ++ 0 ∷ []))))))))

csi2_item : (s : Csi2Settings) (vendor source : List ℕ) → csi2_fits s.local_port (length vendor) (length source) ≡ true → IsItem (csi2_bytes s vendor source)
csi2_item s vendor source fits =
    large 0x8e (length_after (length vendor) (length source)) (csi2_rest s vendor source) refl
    (csi2_few s.local_port (length vendor) (length source) fits) (omega (arith, csi2_length vendor source))

clock_few : (s : ℕ) → nat_le (9 + source_size s) 65535 ≡ true → 9 + source_size s < 65536
clock_few s fits = grind (arith, nat_tests)

abbrev clock_rest : ClockSettings → ℕ → List ℕ → List ℕ
clock_rest c index source =
    le 1 1 ++ (le 2 (clock_flags c) ++ (le 2 c.divisor ++ (le 4 c.numerator ++ (index ∷ (source ++ 0 ∷ [])))))

clock_item : (c : ClockSettings) (index : ℕ) (source : List ℕ) → nat_le (9 + source_size (length source)) 65535 ≡ true → IsItem (clock_from_bytes c index source)
clock_item c index source fits =
    large 0x93 (9 + source_size (length source)) (clock_rest c index source) refl
    (clock_few (length source) fits) (omega (arith, named_length source))

from_few : (n s : ℕ) → from_fits n s ≡ true → from_length n s < 65536
from_few n s fits = grind (arith, nat_tests)

from_item : (flags : ℕ) (numbers : List ℕ) (index : ℕ) (source : List ℕ) → from_fits (length numbers) (length source) ≡ true → IsItem (from_bytes flags numbers index source)
from_item flags numbers index source fits =
    let list : length (numbers_bytes numbers) ≡ 4 * length numbers = lists (λ n. le 4 n) 4 numbers (λ n. length_le 4 n) in
    large 0x89 (from_length (length numbers) (length source))
    (le 1 flags ++ (le 1 (length numbers) ++ (numbers_bytes numbers ++ (index ∷ (source ++ 0 ∷ []))))) refl
    (from_few (length numbers) (length source) fits)
    (omega (arith, list, length-append (numbers_bytes numbers) (index ∷ (source ++ 0 ∷ [])), named_length source))

spaced_few : (w s : ℕ) → space_from_fits w s ≡ true → 3 + 5 * w + source_size s < 65536
spaced_few w s fits = grind (arith, nat_tests)

abbrev spaced_rest : ℕ → AddressSpace ℕ → List ℕ
spaced_rest w a =
    a.kind ∷ (bit a.subtractive 2 + fixed_flags (λ n. n) a.movable) ∷ a.flags ∷ (le w (granularity_in (λ n. n) a.movable) ++ (le w a.min
    ++ (le w a.max ++ (le w (or_zero (λ n. n) a.translation) ++ (le w (size_of (λ n. n) a) ++ [])))))

spaced_size : (w : ℕ) (a : AddressSpace ℕ) → length (spaced_rest w a) ≡ 3 + 5 * w
spaced_size w a = omega (arith, numbers w (granularity_in (λ n. n) a.movable) a.min a.max (or_zero (λ n. n) a.translation) (size_of (λ n. n) a))

space_from_item : (tag w : ℕ) (a : AddressSpace ℕ) (index : ℕ) (source : List ℕ) → nat_lt tag 128 ≡ false → space_from_fits w (length source) ≡ true
    → IsItem (space_from_bytes (λ n. n) tag w a index source)
space_from_item tag w a index source big fits =
    large tag (3 + 5 * w + source_size (length source)) (spaced_rest w a ++ (index ∷ (source ++ 0 ∷ []))) big
    (spaced_few w (length source) fits)
    (omega (arith, spaced_size w a, length-append (spaced_rest w a) (index ∷ (source ++ 0 ∷ [])), named_length source))

-- a range, and then a length
in_range : (range test : Bool) (bytes : List ℕ) → (test ≡ true → IsItem bytes)
    → (provided range AddressRange (provided test FieldWidth (whole bytes))).end ≡ None → IsItem (provided range AddressRange (provided test FieldWidth (whole bytes))).front
in_range true test bytes is h = provided_item test bytes is h
in_range false test bytes is h = absurd cc

-- ---- all of them

pub descriptors_are_items : DescriptorsAreItems
descriptors_are_items = record {
  fixed = λ read_write base size. record { size = refl };
  memory_24 = λ read_write min max alignment size. record { size = refl };
  memory_32 = λ read_write min max alignment size. record { size = refl };
  irq = λ mask information. record { size = refl };
  irq_no_flags = λ mask. record { size = refl };
  dma = λ channels information. record { size = refl };
  start_dependent = λ priority. record { size = refl };
  start_dependent_no_priority = record { size = refl };
  end_dependent = record { size = refl };
  port = λ min max alignment size. record { size = refl };
  port_10 = λ min max alignment size. record { size = refl };
  fixed_port = λ base size. record { size = refl };
  fixed_dma = λ request_line channel width. record { size = refl };
  interrupt = λ flags number. record { size = refl };
  several = λ f numbers. provided_item _ (interrupts_bytes (vector_flags f) numbers) (several_item (vector_flags f) numbers);
  register = λ gas. record { size = refl };
  word = λ a. whole_item (is_range (λ n. n) 2 a) (space_bytes (λ n. n) 0x88 2 a) (record { size = refl });
  dword = λ a. whole_item (is_range (λ n. n) 4 a) (space_bytes (λ n. n) 0x87 4 a) (record { size = refl });
  qword = λ a. whole_item (is_range (λ n. n) 8 a) (space_bytes (λ n. n) 0x8a 8 a) (record { size = refl });
  short = λ content. provided_item _ (fields_joined (vendor_short_fields content)) (short_item content);
  long = λ content. provided_item _ (fields_joined (vendor_long_fields content)) (long_item content);
  pins = λ s pins source vendor. provided_item _ (gpio_bytes s pins source vendor) (gpio_item s pins source vendor);
  function = λ shared c number pins source vendor.
      provided_item _ (function_bytes shared c number pins source vendor) (function_item shared c number pins source vendor);
  configuration = λ u setting value pins source vendor.
      provided_item _ (configuration_bytes u setting value pins source vendor) (configuration_item u setting value pins source vendor);
  group = λ consumer pins label vendor. provided_item _ (group_bytes consumer pins label vendor) (group_item consumer pins label vendor);
  group_function = λ u number source label vendor.
      provided_item _ (group_function_bytes u number source label vendor) (group_function_item u number source label vendor);
  group_configuration = λ u setting value source label vendor.
      provided_item _ (group_configuration_bytes u setting value source label vendor) (group_configuration_item u setting value source label vendor);
  bus = λ b own vendor source. provided_item _ (serial_bytes b own vendor source) (serial_item b own vendor source);
  camera = λ s vendor source. provided_item _ (csi2_bytes s vendor source) (csi2_item s vendor source);
  clock = λ c. record { size = refl };
  clock_from = λ c index source. provided_item _ (clock_from_bytes c index source) (clock_item c index source);
  several_from = λ f numbers index source.
      provided_item _ (from_bytes (vector_flags f) numbers index source) (from_item (vector_flags f) numbers index source);
  space_from = λ tag w a index source big.
      in_range _ _ (space_from_bytes (λ n. n) tag w a index source) (space_from_item tag w a index source big);
}
