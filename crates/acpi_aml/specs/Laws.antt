-- Laws about the definitions, which hold for all calls.
use Rattle.std.specs.Prelude.{◌≡◌, ◌≢◌, ℕ, ◌≤◌, ◌<◌, ◌^◌, List, [], ◌∷◌, ◌++◌, length, None, Bool, true, false}
use Rattle.acpi_base.specs.Bytes.{AreBytes}
use Rattle.acpi_base.specs.Number as numbers
use Rattle.acpi_base.specs.Text as texts
use Rattle.acpi_base.specs.Object.{Object, whole, all_of}
use Rattle.acpi_term.specs.declared.mode.Mode.{Mode}
use Rattle.acpi_term.specs.declared.mode.Mode.TheVariants.{Term, Element, Count}
use Rattle.acpi_term.specs.Name.{IsName, IsNameString, IsText, begins_up}
use Rattle.acpi_term.specs.PathText.{is_name_text, path_spelling, path_of}
use Rattle.acpi_term.specs.Tree.{number, ones, string, arg, local, call, def_scope, def_device, def_method}
use Rattle.acpi_term.specs.Tree.{def_power_res, def_op_region, def_name, def_mutex, def_acquire, def_release, def_buffer}
use Rattle.acpi_term.specs.Tree.{def_package, def_var_package, def_if, def_while, def_else, Terms, end, count, one}
use Rattle.acpi_term.specs.Row.{row, around, layout, writer_width}
use Rattle.acpi_term.specs.declared.language.Language.TheVariants.{Written}
use Rattle.acpi_term.specs.Spelling.{AreStandardEntries, SpellEach, Spells, arguments}
use Rattle.acpi_term.specs.Template.{buffer_of_bytes, template_bytes, template}
use Rattle.acpi_aml.specs.declared.field.FieldAccessType.{FieldAccessType}
use Rattle.acpi_aml.specs.declared.field.FieldLockRule.{FieldLockRule}
use Rattle.acpi_aml.specs.declared.field.FieldUpdateRule.{FieldUpdateRule}
use Rattle.acpi_aml.specs.declared.field.FieldEntry.{FieldEntry}
use Rattle.acpi_aml.specs.declared.region.OpRegionSpace.{OpRegionSpace}
use Rattle.acpi_aml.specs.Region.{region_space}
use Rattle.acpi_aml.specs.Field.{entries_of, field_head}
use Rattle.acpi_aml.specs.Builder.{Builder, new_builder, with_elements, package_of}
use Rattle.acpi_aml.specs.Meaning.{Means, written, RowMeans}
use Rattle.acpi_aml.specs.NameText.{is_standard_text, name_of}

-- ---- one object, two ways to make it

-- A new builder to which at most 255 whole elements were added writes the package of these elements.
abbrev pub BuildersMakePackages : Type 0
BuildersMakePackages = (objects : List Object) → (all_of objects).end ≡ None → length objects ≤ 255
    → package_of (with_elements new_builder objects) ≡ row def_package objects

-- A scope around the joined bytes of whole children is the scope of these children.
abbrev pub RawIsScope : Type 0
RawIsScope = (path bytes : List ℕ) (objects : List Object) → (all_of objects).end ≡ None → (all_of objects).front ≡ bytes
    → around (layout (def_scope path) 0 0) (whole bytes) ≡ row (def_scope path) objects

-- ---- what constructors write
-- Each of these is the object in a constructor's contract. The premises are what its children spell, that its names are standard,
-- and the ranges of its own numbers.

-- objects with a name
pub record NamedObjectsMean (arity : List ℕ → ℕ) (path : List ℕ) : Type 0 where
  pub scope : (objects : List Object) → RowMeans arity (def_scope path) objects
  pub device : (objects : List Object) → RowMeans arity (def_device path) objects
  pub method : (args : ℕ) (serialized : Bool) (objects : List Object) → RowMeans arity (def_method path args serialized) objects
  pub power_resource : (level order : ℕ) (objects : List Object) → level < 2 ^ 8 → order < 2 ^ 16
      → RowMeans arity (def_power_res path level order) objects
  pub name : (value : Object) → RowMeans arity (def_name path) (value ∷ [])
  pub mutex : (level : ℕ) → level < 2 ^ 8 → RowMeans arity (def_mutex path level) []
  pub acquire : (timeout : ℕ) → timeout < 2 ^ 16 → RowMeans arity (def_acquire path timeout) []
  pub release : RowMeans arity (def_release path) []

abbrev pub NamesOfObjectsMean : Type 0
NamesOfObjectsMean = (arity : List ℕ → ℕ) (path : List ℕ) → IsName path → NamedObjectsMean arity path

-- regions in every address space
abbrev pub RegionsMean : Type 0
RegionsMean = (arity : List ℕ → ℕ) (path : List ℕ) (space : OpRegionSpace) (offset size : Object) → IsName path
    → RowMeans arity (def_op_region path (region_space space)) (offset ∷ size ∷ [])

-- fields with every access type, lock rule and update rule
abbrev pub FieldsMean : Type 0
FieldsMean =
    (arity : List ℕ → ℕ) (path : List ℕ) (access : FieldAccessType) (lock : FieldLockRule) (update : FieldUpdateRule)
    (entries : List FieldEntry)
    → IsName path → AreStandardEntries Written (entries_of entries)
    → RowMeans arity (field_head path access lock update entries) []

-- statements and lists
pub record StatementsMean (arity : List ℕ → ℕ) : Type 0 where
  pub if_holds : (predicate : Object) (objects : List Object) → RowMeans arity def_if (predicate ∷ objects)
  pub while_holds : (predicate : Object) (objects : List Object) → RowMeans arity def_while (predicate ∷ objects)
  pub otherwise : (objects : List Object) → RowMeans arity def_else objects
  pub packaged : (objects : List Object) → RowMeans arity def_package objects
  pub argument : (k : ℕ) → RowMeans arity (arg k) []
  pub variable : (k : ℕ) → RowMeans arity (local k) []

abbrev pub AllStatementsMean : Type 0
AllStatementsMean = (arity : List ℕ → ℕ) → StatementsMean arity

-- A call, if its name takes that number of arguments in this place.
abbrev pub CallsMean : Type 0
CallsMean =
    (arity : List ℕ → ℕ) (m : Mode) (path : List ℕ) (objects : List Object) (ts : Terms) → IsName path
    → length objects ≡ arguments arity m path
    → SpellEach arity Term objects ts → (row (call path) objects).end ≡ None
    → Spells arity m (row (call path) objects).front (written (call path) objects ts)

-- the term of a buffer of bytes: their number, and the bytes
abbrev pub buffer_term : List ℕ → Terms
buffer_term bytes =
    one (def_buffer bytes) (writer_width (def_buffer bytes) 1 (numbers.number (length bytes)))
    (one (number (length bytes)) (numbers.number_width (length bytes)) end)

-- A template of whole descriptors is the buffer of their bytes and the end tag.
abbrev pub TemplatesMean : Type 0
TemplatesMean =
    (arity : List ℕ → ℕ) (descriptors : List Object) → AreBytes (all_of descriptors).front
    → Means arity (template descriptors) (buffer_term (template_bytes (all_of descriptors).front))

-- ---- meanings of objects without a row

abbrev pub NumbersMean : Type 0
NumbersMean = (arity : List ℕ → ℕ) (v : ℕ) → v < 2 ^ 64
    → Means arity (whole (numbers.number v)) (one (number v) (numbers.number_width v) end)

-- ZERO, ONE and ONES
abbrev pub ConstantsMean : Type 0
ConstantsMean =
    (arity : List ℕ → ℕ) → Means arity (whole (0x00 ∷ [])) (one (number 0) 0 end)
    × Means arity (whole (0x01 ∷ [])) (one (number 1) 0 end)
    × Means arity (whole (0xff ∷ [])) (one ones 0 end)

abbrev pub TextsMean : Type 0
TextsMean = (arity : List ℕ → ℕ) (s : List ℕ) → IsText s → Means arity (whole (texts.text s)) (one (string s) 0 end)

-- A name alone is a call without arguments, in every place where none are listed for it.
abbrev pub NamesMean : Type 0
NamesMean = (arity : List ℕ → ℕ) (m : Mode) (name : List ℕ) → IsName name → arguments arity m name ≡ 0
    → Spells arity m name (one (call name) 0 end)

-- The path of a text of standard segments is such a name.
abbrev pub PathsMean : Type 0
PathsMean =
    (arity : List ℕ → ℕ) (m : Mode) (text : List ℕ) → is_name_text text ≡ true → arguments arity m (path_spelling text) ≡ 0
    → Spells arity m (path_of text).front (one (call (path_spelling text)) 0 end)

-- The name of a text of standard segments, or of none after a prefix, is a name of the standard.
abbrev pub NameTextsMean : Type 0
NameTextsMean =
    (text : List ℕ) → is_standard_text text ≡ true → IsNameString (name_of text).front × ((name_of text).end ≡ None)

-- A text that doesn't begin with `^`, and isn't `\` alone, has the same name as path.
abbrev pub PathsAreNames : Type 0
PathsAreNames = (text : List ℕ) → begins_up text ≡ false → text ≢ 0x5c ∷ [] → name_of text ≡ path_of text

-- A builder is the package of the elements that its bytes spell, if their number is the count.
abbrev pub BuildersMean : Type 0
BuildersMean =
    (arity : List ℕ → ℕ) (b : Builder) (elements : Terms) → count elements ≡ b.elements → b.elements ≤ 255
    → Spells arity Element b.bytes elements
    → Means arity (package_of b) (one def_package (writer_width def_package b.elements b.bytes) elements)

-- A variable package of an object that spells a number of elements and then the elements.
abbrev pub VarPackagesMean : Type 0
VarPackagesMean =
    (arity : List ℕ → ℕ) (object : Object) (terms : Terms) → 1 ≤ count terms → Spells arity Count object.front terms
    → Means arity (row def_var_package (object ∷ []))
    (one def_var_package (writer_width def_var_package (count terms) object.front) terms)

-- A buffer of bytes, as of `BufferData` and `Uuid`, is the buffer of their number and the bytes.
abbrev pub BuffersMean : Type 0
BuffersMean = (arity : List ℕ → ℕ) (bytes : List ℕ) → AreBytes bytes → Means arity (buffer_of_bytes bytes) (buffer_term bytes)

-- A buffer of an object that spells one term, followed by bytes, is the buffer of this term and these bytes.
abbrev pub BufferTermsMean : Type 0
BufferTermsMean =
    (arity : List ℕ → ℕ) (object : Object) (size rest : List ℕ) (t : Terms) → object.front ≡ size ++ rest → count t ≡ 1
    → Spells arity Term size t → AreBytes rest
    → Means arity (row (def_buffer []) (object ∷ [])) (one (def_buffer rest) (writer_width (def_buffer rest) 1 size) t)

-- a UUID of these bytes
abbrev pub UuidMeans : List ℕ → Type 0
UuidMeans uuid = (arity : List ℕ → ℕ) → Means arity (buffer_of_bytes uuid) (buffer_term uuid)

-- an EISA id of this number
abbrev pub EisaNameMeans : ℕ → Type 0
EisaNameMeans id = (arity : List ℕ → ℕ) → Means arity (whole (numbers.number id)) (one (number id) (numbers.number_width id) end)
