-- Laws about the definitions, which hold for all calls.
use Rattle.std.specs.Prelude.{◌≡◌, ◌≢◌, ℕ, ◌<◌, ◌≤◌, ◌^◌, nat_lt, Bool, true, false, List, [], ◌∷◌, ◌++◌, length, map, None}
use Rattle.acpi_base.specs.declared.gas.GAS.{GAS}
use Rattle.acpi_base.specs.Bytes.{AreBytes}
use Rattle.acpi_base.specs.Object.{Object, all_of}
use Rattle.acpi_term.specs.declared.mode.Mode.{Mode}
use Rattle.acpi_term.specs.declared.mode.Mode.TheVariants.{Term}
use Rattle.acpi_term.specs.declared.op.Op.{Op}
use Rattle.acpi_term.specs.declared.op.Op.TheVariants.{LNot, Match}
use Rattle.acpi_term.specs.declared.language.Language.TheVariants.{Standard}
use Rattle.acpi_term.specs.Language.{grammar_of}
use Rattle.acpi_term.specs.Name.{IsNameString}
use Rattle.acpi_term.specs.Tree.{Entry, Head, op, def_fatal, match_test, Terms, one}
use Rattle.acpi_term.specs.Tree.{def_method, def_leveled_method, def_package, def_roomy_package}
use Rattle.acpi_term.specs.Tree.{def_field, def_index_field, def_bank_field}
use Rattle.acpi_term.specs.Row.{row, writer_width}
use Rattle.acpi_term.specs.Spelling.{SpellEach, Spells, SpellEachIn, SpellsIn, AreStandardEntries, inner, is_test, IsPlain}
use Rattle.acpi_aml.specs.declared.field.FieldAccessType.{FieldAccessType}
use Rattle.acpi_aml.specs.declared.field.FieldEntry.{FieldEntry}
use Rattle.acpi_aml.specs.declared.field.FieldLockRule.{FieldLockRule}
use Rattle.acpi_aml.specs.declared.field.FieldUpdateRule.{FieldUpdateRule}
use Rattle.acpi_aml.specs.Field.{access_number, lock_number, update_number, entries_of}
use Rattle.acpi_ops.specs.declared.element.FieldElement.{FieldElement}
use Rattle.acpi_ops.specs.Element.{field_list_head, index_list_head, bank_list_head, AreElements}
use Rattle.acpi_ops.specs.Method.{leveled_method}
use Rattle.acpi_ops.specs.Package.{roomy_package}
use Rattle.acpi_ops.specs.Field.{index_field_head, bank_field_head}
use Rattle.acpi_ops.specs.declared.search.Comparison.{Comparison}
use Rattle.acpi_ops.specs.Search.{comparison_number}
use Rattle.acpi_term.specs.Template.{end_tag, template_bytes, buffer_of_bytes, template}
use Rattle.acpi_ops.specs.declared.address_space.AddressSpace.{AddressSpace}
use Rattle.acpi_ops.specs.AddressSpace.{space, word_space, dword_space, qword_space, space_from}
use Rattle.acpi_ops.specs.declared.descriptor.InterruptFlags.{InterruptFlags}
use Rattle.acpi_ops.specs.declared.gpio.PinConfig.{PinConfig}
use Rattle.acpi_ops.specs.declared.gpio.Settings.{Settings}
use Rattle.acpi_ops.specs.declared.pins.PinSetting.{PinSetting}
use Rattle.acpi_ops.specs.declared.pins.PinUse.{PinUse}
use Rattle.acpi_ops.specs.declared.serial.Bus.{Bus}
use Rattle.acpi_ops.specs.declared.small.DmaWidth.{DmaWidth}
use Rattle.acpi_ops.specs.declared.clock.ClockSettings.{ClockSettings}
use Rattle.acpi_ops.specs.declared.csi2.Csi2Settings.{Csi2Settings}
use Rattle.acpi_ops.specs.Clock.{clock_bytes, clock_from}
use Rattle.acpi_ops.specs.Csi2.{csi2}
use Rattle.acpi_ops.specs.Descriptor.{fixed_bytes, port_bytes, port_10_bytes, interrupt_bytes, register_bytes}
use Rattle.acpi_ops.specs.Gpio.{gpio}
use Rattle.acpi_ops.specs.Interrupts.{interrupts, interrupts_from}
use Rattle.acpi_ops.specs.Memory.{memory_24_bytes, memory_32_bytes}
use Rattle.acpi_ops.specs.Pins.{function, configuration, group, group_function, group_configuration}
use Rattle.acpi_ops.specs.Serial.{serial}
use Rattle.acpi_ops.specs.Small.{irq_bytes, irq_no_flags_bytes, dma_bytes, fixed_port_bytes, fixed_dma_bytes}
use Rattle.acpi_ops.specs.Small.{start_dependent_bytes, start_dependent_no_priority_bytes, end_dependent_bytes}
use Rattle.acpi_ops.specs.Vendor.{vendor_short, vendor_long}
use Rattle.acpi_ops.specs.Item.{IsItem, AreItems, SplitsInto}

-- ---- operators

-- If each operand spells a term and has no error, the operator spells its own term over these, in every place.
pub record OperatorMeans (o : Op) (objects : List Object) : Type 0 where
  pub spells : (arity : List ℕ → ℕ) (m : Mode) (ts : Terms) → SpellEach arity Term objects ts → (row (op o) objects).end ≡ None
      → Spells arity m (row (op o) objects).front (one (op o) 0 ts)

-- The same for the negation of the operator.
pub record NegationMeans (o : Op) (objects : List Object) : Type 0 where
  pub spells : (arity : List ℕ → ℕ) (m : Mode) (ts : Terms) → SpellEach arity Term objects ts
      → (row (op LNot) (row (op o) objects ∷ [])).end ≡ None
      → Spells arity m (row (op LNot) (row (op o) objects ∷ [])).front (one (op LNot) 0 (one (op o) 0 ts))

-- ---- what the language Standard alone has

-- a term that stands in the place of a test of a Match, or in the others
abbrev pub stands_in : Bool → Mode → Type 0
stands_in true m = is_test Standard m ≡ true
stands_in false m = IsPlain Standard m

-- If each child spells a term of its place, the head spells its own term over these, in every place of that kind and in the width
-- that is written.
pub record HeadMeans (test : Bool) (h : Head) (objects : List Object) : Type 0 where
  pub spells : (arity : List ℕ → ℕ) (m : Mode) (ts : Terms) → stands_in test m
      → SpellEachIn (grammar_of Standard arity) (inner Standard h) objects ts → (row h objects).end ≡ None
      → SpellsIn (grammar_of Standard arity) m (row h objects).front
      (one h (writer_width h (length objects) (all_of objects).front) ts)

-- A search, whose tests spell tests, and each test, whose operand spells a term.
pub record SearchesMean : Type 0 where
  pub search : (searched first second start : Object) → HeadMeans false (op Match) (searched ∷ first ∷ second ∷ start ∷ [])
  pub test : (c : Comparison) (operand : Object) → HeadMeans true (match_test (comparison_number c)) (operand ∷ [])

-- fatal errors of every type and code
abbrev pub FatalMeans : Type 0
FatalMeans =
    (kind code : ℕ) (argument : Object) → kind < 2 ^ 8 → code < 2 ^ 32 → HeadMeans false (def_fatal kind code) (argument ∷ [])

-- Fields that are reached by another field, with every access type, lock rule and update rule.
pub record FieldsOfFieldsMean (access : FieldAccessType) (lock : FieldLockRule) (update : FieldUpdateRule)
    (entries : List FieldEntry) : Type 0 where
  pub index : (index name : List ℕ) → IsNameString index → IsNameString name
      → HeadMeans false (index_field_head index name access lock update entries) []
  pub bank : (region bank : List ℕ) (value : Object) → IsNameString region → IsNameString bank
      → HeadMeans false (bank_field_head region bank access lock update entries) (value ∷ [])

abbrev pub FieldsMean : Type 0
FieldsMean =
    (access : FieldAccessType) (lock : FieldLockRule) (update : FieldUpdateRule) (entries : List FieldEntry)
    → AreStandardEntries Standard (entries_of entries) → FieldsOfFieldsMean access lock update entries

-- A package with room is that of the standard, unless it has as many elements: then it is a package without room for more.
pub record RoomyPackageMeans (room : ℕ) (objects : List Object) : Type 0 where
  pub is : length objects ≢ room → roomy_package room objects ≡ row (def_roomy_package room) objects
  pub full : length objects ≡ room → roomy_package room objects ≡ row def_package objects
  pub means : HeadMeans false (def_roomy_package room) objects

abbrev pub RoomyPackagesMean : Type 0
RoomyPackagesMean = (room : ℕ) (objects : List Object) → room < 2 ^ 8 → RoomyPackageMeans room objects

-- A method with a level from 1 to 15 is that of the standard, and one with level 0 is a method without a level.
pub record LeveledMethodMeans (path : List ℕ) (args : ℕ) (serialized : Bool) (objects : List Object) : Type 0 where
  pub is : (level : ℕ) → level ≤ 15
      → leveled_method path args serialized level objects ≡ row (def_leveled_method path args serialized level) objects
  pub none : leveled_method path args serialized 0 objects ≡ row (def_method path args serialized) objects
  pub means : (level : ℕ) → IsNameString path → 1 ≤ level → level ≤ 15
      → HeadMeans false (def_leveled_method path args serialized level) objects

abbrev pub LeveledMethodsMean : Type 0
LeveledMethodsMean =
    (path : List ℕ) (args : ℕ) (serialized : Bool) (objects : List Object) → LeveledMethodMeans path args serialized objects

-- Fields with these elements are the fields with the entries for which they stand, with every access type, lock rule and update
-- rule.
pub record FieldListsMean (access : FieldAccessType) (lock : FieldLockRule) (update : FieldUpdateRule)
    (elements : List FieldElement) (entries : List Entry) : Type 0 where
  pub field_is : (region : List ℕ) → row (field_list_head region access lock update elements) []
      ≡ row (def_field region (access_number access) (lock_number lock) (update_number update) entries) []
  pub field : (region : List ℕ) → IsNameString region
      → HeadMeans false (def_field region (access_number access) (lock_number lock) (update_number update) entries) []
  pub index_is : (index name : List ℕ) → row (index_list_head index name access lock update elements) []
      ≡ row (def_index_field index name (access_number access) (lock_number lock) (update_number update) entries) []
  pub index : (index name : List ℕ) → IsNameString index → IsNameString name
      → HeadMeans false (def_index_field index name (access_number access) (lock_number lock) (update_number update) entries) []
  pub bank_is : (region bank : List ℕ) (value : Object)
      → row (bank_list_head region bank access lock update elements) (value ∷ [])
      ≡ row (def_bank_field region bank (access_number access) (lock_number lock) (update_number update) entries) (value ∷ [])
  pub bank : (region bank : List ℕ) (value : Object) → IsNameString region → IsNameString bank
      → HeadMeans false (def_bank_field region bank (access_number access) (lock_number lock) (update_number update) entries)
      (value ∷ [])

abbrev pub AllFieldListsMean : Type 0
AllFieldListsMean =
    (access : FieldAccessType) (lock : FieldLockRule) (update : FieldUpdateRule) (elements : List FieldElement)
    (entries : List Entry) → AreElements elements entries → AreStandardEntries Standard entries
    → FieldListsMean access lock update elements entries

-- ---- resource items

-- Bytes split into items in at most one way.
abbrev pub SplitsInOneWay : Type 0
SplitsInOneWay = (bytes : List ℕ) (a b : List (List ℕ)) → SplitsInto bytes a → SplitsInto bytes b → a ≡ b

-- Each descriptor is one item. An address space, and a descriptor of any length, is one if it has no error.
pub record DescriptorsAreItems : Type 0 where
  pub fixed : (read_write : Bool) (base size : ℕ) → IsItem (fixed_bytes read_write base size)
  pub memory_24 : (read_write : Bool) (min max alignment size : ℕ) → IsItem (memory_24_bytes read_write min max alignment size)
  pub memory_32 : (read_write : Bool) (min max alignment size : ℕ) → IsItem (memory_32_bytes read_write min max alignment size)
  pub irq : (mask information : ℕ) → IsItem (irq_bytes mask information)
  pub irq_no_flags : (mask : ℕ) → IsItem (irq_no_flags_bytes mask)
  pub dma : (channels information : ℕ) → IsItem (dma_bytes channels information)
  pub start_dependent : (priority : ℕ) → IsItem (start_dependent_bytes priority)
  pub start_dependent_no_priority : IsItem start_dependent_no_priority_bytes
  pub end_dependent : IsItem end_dependent_bytes
  pub port : (min max alignment size : ℕ) → IsItem (port_bytes min max alignment size)
  pub port_10 : (min max alignment size : ℕ) → IsItem (port_10_bytes min max alignment size)
  pub fixed_port : (base size : ℕ) → IsItem (fixed_port_bytes base size)
  pub fixed_dma : (request_line channel : ℕ) (width : DmaWidth) → IsItem (fixed_dma_bytes request_line channel width)
  pub interrupt : (flags number : ℕ) → IsItem (interrupt_bytes flags number)
  pub several : (f : InterruptFlags) (numbers : List ℕ) → (interrupts f numbers).end ≡ None → IsItem (interrupts f numbers).front
  pub register : (gas : GAS) → IsItem (register_bytes gas)
  pub word : (a : AddressSpace ℕ) → (word_space a).end ≡ None → IsItem (word_space a).front
  pub dword : (a : AddressSpace ℕ) → (dword_space a).end ≡ None → IsItem (dword_space a).front
  pub qword : (a : AddressSpace ℕ) → (qword_space a).end ≡ None → IsItem (qword_space a).front
  pub short : (content : List ℕ) → (vendor_short content).end ≡ None → IsItem (vendor_short content).front
  pub long : (content : List ℕ) → (vendor_long content).end ≡ None → IsItem (vendor_long content).front
  pub pins : (s : Settings) (pins source vendor : List ℕ) → (gpio s pins source vendor).end ≡ None
      → IsItem (gpio s pins source vendor).front
  pub function : (shared : Bool) (c : PinConfig) (number : ℕ) (pins source vendor : List ℕ)
      → (function shared c number pins source vendor).end ≡ None → IsItem (function shared c number pins source vendor).front
  pub configuration : (u : PinUse) (setting : PinSetting) (value : ℕ) (pins source vendor : List ℕ)
      → (configuration u setting value pins source vendor).end ≡ None
      → IsItem (configuration u setting value pins source vendor).front
  pub group : (consumer : Bool) (pins label vendor : List ℕ) → (group consumer pins label vendor).end ≡ None
      → IsItem (group consumer pins label vendor).front
  pub group_function : (u : PinUse) (number : ℕ) (source label vendor : List ℕ)
      → (group_function u number source label vendor).end ≡ None → IsItem (group_function u number source label vendor).front
  pub group_configuration : (u : PinUse) (setting : PinSetting) (value : ℕ) (source label vendor : List ℕ)
      → (group_configuration u setting value source label vendor).end ≡ None
      → IsItem (group_configuration u setting value source label vendor).front
  pub bus : (b : Bus) (own vendor source : List ℕ) → (serial b own vendor source).end ≡ None
      → IsItem (serial b own vendor source).front
  pub camera : (s : Csi2Settings) (vendor source : List ℕ) → (csi2 s vendor source).end ≡ None
      → IsItem (csi2 s vendor source).front
  pub clock : (c : ClockSettings) → IsItem (clock_bytes c)
  pub clock_from : (c : ClockSettings) (index : ℕ) (source : List ℕ) → (clock_from c index source).end ≡ None
      → IsItem (clock_from c index source).front
  pub several_from : (f : InterruptFlags) (numbers : List ℕ) (index : ℕ) (source : List ℕ)
      → (interrupts_from f numbers index source).end ≡ None → IsItem (interrupts_from f numbers index source).front
  pub space_from : (tag w : ℕ) (a : AddressSpace ℕ) (index : ℕ) (source : List ℕ) → nat_lt tag 128 ≡ false
      → (space_from (λ n. n) tag w a index source).end ≡ None → IsItem (space_from (λ n. n) tag w a index source).front

-- A template is the buffer of bytes that split into its descriptors and the end tag.
pub record TemplateSplits (descriptors : List Object) : Type 0 where
  pub is : template descriptors ≡ buffer_of_bytes (template_bytes (all_of descriptors).front)
  pub splits : SplitsInto (template_bytes (all_of descriptors).front) (map (λ o. o.front) descriptors ++ end_tag ∷ [])

-- This holds for each template without an error, whose descriptors are items.
abbrev pub TemplatesSplit : Type 0
TemplatesSplit = (descriptors : List Object) → (template descriptors).end ≡ None → AreItems (map (λ o. o.front) descriptors)
    → TemplateSplits descriptors

-- Each descriptor is a list of bytes, if its fields of one byte are bytes, and so are the lists in it.
pub record DescriptorsAreBytes : Type 0 where
  pub fixed : (read_write : Bool) (base size : ℕ) → AreBytes (fixed_bytes read_write base size)
  pub memory_24 : (read_write : Bool) (min max alignment size : ℕ) → AreBytes (memory_24_bytes read_write min max alignment size)
  pub memory_32 : (read_write : Bool) (min max alignment size : ℕ) → AreBytes (memory_32_bytes read_write min max alignment size)
  pub irq : (mask information : ℕ) → AreBytes (irq_bytes mask information)
  pub irq_no_flags : (mask : ℕ) → AreBytes (irq_no_flags_bytes mask)
  pub dma : (channels information : ℕ) → AreBytes (dma_bytes channels information)
  pub start_dependent : (priority : ℕ) → AreBytes (start_dependent_bytes priority)
  pub start_dependent_no_priority : AreBytes start_dependent_no_priority_bytes
  pub end_dependent : AreBytes end_dependent_bytes
  pub port : (min max alignment size : ℕ) → alignment < 256 → size < 256 → AreBytes (port_bytes min max alignment size)
  pub port_10 : (min max alignment size : ℕ) → AreBytes (port_10_bytes min max alignment size)
  pub fixed_port : (base size : ℕ) → AreBytes (fixed_port_bytes base size)
  pub fixed_dma : (request_line channel : ℕ) (width : DmaWidth) → AreBytes (fixed_dma_bytes request_line channel width)
  pub interrupt : (flags number : ℕ) → flags < 256 → AreBytes (interrupt_bytes flags number)
  pub several : (f : InterruptFlags) (numbers : List ℕ) → AreBytes (interrupts f numbers).front
  pub register : (gas : GAS) → gas.register_bit_width < 256 → gas.register_bit_offset < 256 → AreBytes (register_bytes gas)
  pub space : (tag w : ℕ) (a : AddressSpace ℕ) → tag < 256 → a.kind < 256 → a.flags < 256
      → AreBytes (space (λ n. n) tag w a).front
  pub short : (content : List ℕ) → AreBytes content → AreBytes (vendor_short content).front
  pub long : (content : List ℕ) → AreBytes content → AreBytes (vendor_long content).front
  pub pins : (s : Settings) (pins source vendor : List ℕ) → AreBytes source → AreBytes vendor
      → AreBytes (gpio s pins source vendor).front
  pub function : (shared : Bool) (c : PinConfig) (number : ℕ) (pins source vendor : List ℕ) → AreBytes source → AreBytes vendor
      → AreBytes (function shared c number pins source vendor).front
  pub configuration : (u : PinUse) (setting : PinSetting) (value : ℕ) (pins source vendor : List ℕ)
      → AreBytes source → AreBytes vendor → AreBytes (configuration u setting value pins source vendor).front
  pub group : (consumer : Bool) (pins label vendor : List ℕ) → AreBytes label → AreBytes vendor
      → AreBytes (group consumer pins label vendor).front
  pub group_function : (u : PinUse) (number : ℕ) (source label vendor : List ℕ)
      → AreBytes source → AreBytes label → AreBytes vendor → AreBytes (group_function u number source label vendor).front
  pub group_configuration : (u : PinUse) (setting : PinSetting) (value : ℕ) (source label vendor : List ℕ)
      → AreBytes source → AreBytes label → AreBytes vendor
      → AreBytes (group_configuration u setting value source label vendor).front
  pub bus : (b : Bus) (own vendor source : List ℕ) → AreBytes own → AreBytes vendor → AreBytes source
      → AreBytes (serial b own vendor source).front
  pub camera : (s : Csi2Settings) (vendor source : List ℕ) → AreBytes vendor → AreBytes source
      → AreBytes (csi2 s vendor source).front
  pub clock : (c : ClockSettings) → AreBytes (clock_bytes c)
  pub clock_from : (c : ClockSettings) (index : ℕ) (source : List ℕ) → index < 256 → AreBytes source
      → AreBytes (clock_from c index source).front
  pub several_from : (f : InterruptFlags) (numbers : List ℕ) (index : ℕ) (source : List ℕ) → index < 256 → AreBytes source
      → AreBytes (interrupts_from f numbers index source).front
  pub space_from : (tag w : ℕ) (a : AddressSpace ℕ) (index : ℕ) (source : List ℕ) → tag < 256 → a.kind < 256 → a.flags < 256
      → index < 256 → AreBytes source → AreBytes (space_from (λ n. n) tag w a index source).front
