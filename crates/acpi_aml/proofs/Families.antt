-- What the constructors' objects mean.
use Rattle.std.proofs.Common.{◌≡◌, ℕ, ◌≤◌, ◌<◌, ◌^◌, List, [], ◌∷◌, ◌++◌, length, None, refl, sym, subst, arith, true}
use Rattle.acpi_base.specs.Bytes.{AreBytes}
use Rattle.acpi_base.specs.Object.{Object, all_of}
use Rattle.acpi_term.specs.declared.mode.Mode.{Mode}
use Rattle.acpi_term.specs.declared.mode.Mode.TheVariants.{Term}
use Rattle.acpi_term.specs.Name.{IsName}
use Rattle.acpi_term.specs.PathText.{is_name_text, path_spelling, path_of}
use Rattle.acpi_term.specs.Tree.{arg, local, call, def_scope, def_device, def_method, def_power_res, def_op_region, def_name, def_mutex, def_acquire, def_release, def_package, def_if, def_while, def_else, Terms, end, one}
use Rattle.acpi_term.specs.Row.{row}
use Rattle.acpi_term.specs.declared.language.Language.TheVariants.{Written}
use Rattle.acpi_term.specs.Spelling.{AreStandardEntries, HaveLeastWidths, SpellEach, Spells, arguments}
use Rattle.acpi_term.specs.Template.{buffer_of_bytes, template_bytes, template}
use Rattle.acpi_term.proofs.Rows.{rows_mean, ended_none}
use Rattle.acpi_term.proofs.NameTexts.{named_path}
use Rattle.acpi_aml.specs.declared.field.FieldAccessType.{FieldAccessType}
use Rattle.acpi_aml.specs.declared.field.FieldAccessType.TheVariants as access
use Rattle.acpi_aml.specs.declared.field.FieldLockRule.{FieldLockRule}
use Rattle.acpi_aml.specs.declared.field.FieldLockRule.TheVariants as lock
use Rattle.acpi_aml.specs.declared.field.FieldUpdateRule.{FieldUpdateRule}
use Rattle.acpi_aml.specs.declared.field.FieldUpdateRule.TheVariants as update
use Rattle.acpi_aml.specs.declared.field.FieldEntry.{FieldEntry}
use Rattle.acpi_aml.specs.declared.field.FieldEntry.TheVariants.{Named, Reserved}
use Rattle.acpi_aml.specs.declared.region.OpRegionSpace.{OpRegionSpace}
use Rattle.acpi_aml.specs.declared.region.OpRegionSpace.TheVariants as spaces
use Rattle.acpi_aml.specs.Region.{region_space}
use Rattle.acpi_aml.specs.Field.{access_number, lock_number, update_number, entries_of, field_head}
use Rattle.acpi_aml.specs.Meaning.{Means, written, RowMeans}
use Rattle.acpi_aml.specs.Laws.{NamedObjectsMean, StatementsMean, buffer_term}
use Rattle.acpi_aml.proofs.Meanings.{names_mean, buffers_mean}

pub named_objects : (arity : List ℕ → ℕ) (path : List ℕ) → IsName path → NamedObjectsMean arity path
named_objects arity path p = record {
  scope = λ objects ts spells m. rows_mean arity m (def_scope path) objects ts tt p tt spells;
  device = λ objects ts spells m. rows_mean arity m (def_device path) objects ts tt p tt spells;
  method = λ args serialized objects ts spells m. rows_mean arity m (def_method path args serialized) objects ts tt p tt spells;
  power_resource = λ level order objects low small ts spells m. rows_mean arity m (def_power_res path level order) objects ts tt (p, low, small) tt spells;
  name = λ value ts spells m. rows_mean arity m (def_name path) (value ∷ []) ts refl p tt spells;
  mutex = λ level low ts spells m. rows_mean arity m (def_mutex path level) [] ts refl (p, low) tt spells;
  acquire = λ timeout low ts spells m. rows_mean arity m (def_acquire path timeout) [] ts refl (p, low) tt spells;
  release = λ ts spells m. rows_mean arity m (def_release path) [] ts refl p tt spells;
}

-- ---- regions

space_small : (space : OpRegionSpace) → region_space space < 2 ^ 8
space_small spaces.SystemMemory = omega arith
space_small spaces.SystemIO = omega arith
space_small spaces.PCIConfig = omega arith
space_small spaces.EmbeddedControl = omega arith
space_small spaces.SMBus = omega arith
space_small spaces.SystemCMOS = omega arith
space_small spaces.PciBarTarget = omega arith
space_small spaces.IPMI = omega arith
space_small spaces.GeneralPurposeIO = omega arith
space_small spaces.GenericSerialBus = omega arith

pub regions_mean : (arity : List ℕ → ℕ) (path : List ℕ) (space : OpRegionSpace) (offset size : Object) → IsName path → RowMeans arity (def_op_region path (region_space space)) (offset ∷ size ∷ [])
regions_mean arity path space offset size p ts spells m = rows_mean arity m (def_op_region path (region_space space)) (offset ∷ size ∷ []) ts refl (p, space_small space) tt spells

-- ---- fields

access_small : (a : FieldAccessType) → access_number a ≤ 5
access_small access.Any = omega arith
access_small access.Byte = omega arith
access_small access.Word = omega arith
access_small access.DWord = omega arith
access_small access.QWord = omega arith
access_small access.Buffer = omega arith

lock_small : (l : FieldLockRule) → lock_number l ≤ 1
lock_small lock.NoLock = omega arith
lock_small lock.Lock = omega arith

update_small : (u : FieldUpdateRule) → update_number u ≤ 2
update_small update.Preserve = omega arith
update_small update.WriteAsOnes = omega arith
update_small update.WriteAsZeroes = omega arith

least_widths : (entries : List FieldEntry) → HaveLeastWidths (entries_of entries)
least_widths [] = tt
least_widths (Named name bits ∷ entries) = (refl, least_widths entries)
least_widths (Reserved bits ∷ entries) = (refl, least_widths entries)

pub fields_mean : (arity : List ℕ → ℕ) (path : List ℕ) (a : FieldAccessType) (l : FieldLockRule) (u : FieldUpdateRule) (entries : List FieldEntry) → IsName path → AreStandardEntries Written (entries_of entries) → RowMeans arity (field_head path a l u entries) []
fields_mean arity path a l u entries p named ts spells m =
    rows_mean arity m (field_head path a l u entries) [] ts refl (p, access_small a, lock_small l, update_small u, named) (least_widths entries) spells

-- ---- statements

pub statements_mean : (arity : List ℕ → ℕ) → StatementsMean arity
statements_mean arity = record {
  if_holds = λ predicate objects ts spells m. rows_mean arity m def_if (predicate ∷ objects) ts (omega arith) tt tt spells;
  while_holds = λ predicate objects ts spells m. rows_mean arity m def_while (predicate ∷ objects) ts (omega arith) tt tt spells;
  otherwise = λ objects ts spells m. rows_mean arity m def_else objects ts tt tt tt spells;
  packaged = λ objects ts spells m. rows_mean arity m def_package objects ts tt tt tt spells;
  argument = λ k ts spells m. rows_mean arity m (arg k) [] ts refl tt tt spells;
  variable = λ k ts spells m. rows_mean arity m (local k) [] ts refl tt tt spells;
}

pub calls_mean : (arity : List ℕ → ℕ) (m : Mode) (path : List ℕ) (objects : List Object) (ts : Terms) → IsName path → length objects ≡ arguments arity m path → SpellEach arity Term objects ts
    → (row (call path) objects).end ≡ None → Spells arity m (row (call path) objects).front (written (call path) objects ts)
calls_mean arity m path objects ts p same spells = rows_mean arity m (call path) objects ts same p tt spells

-- ---- paths and templates

pub paths_mean : (arity : List ℕ → ℕ) (m : Mode) (text : List ℕ) → is_name_text text ≡ true → arguments arity m (path_spelling text) ≡ 0 → Spells arity m (path_of text).front (one (call (path_spelling text)) 0 end)
paths_mean arity m text is none =
    let p = named_path text is in
    subst (λ (l : List ℕ). Spells arity m l (one (call (path_spelling text)) 0 end)) (sym p.2) (names_mean arity m (path_spelling text) p.0 none)

bytes_then : (a b : List ℕ) → AreBytes a → AreBytes b → AreBytes (a ++ b)
bytes_then [] b are then = then
bytes_then (x ∷ a) b are then = (are.0, bytes_then a b are.1 then)

pub templates_mean : (arity : List ℕ → ℕ) (descriptors : List Object) → AreBytes (all_of descriptors).front → Means arity (template descriptors) (buffer_term (template_bytes (all_of descriptors).front))
templates_mean arity descriptors are m h =
    let front = (all_of descriptors).front in
    let e = ended_none (all_of descriptors).end (buffer_of_bytes (template_bytes front)) h in
    subst (λ (l : List ℕ). Spells arity m l (buffer_term (template_bytes front))) (sym e.2) (buffers_mean arity (template_bytes front) (bytes_then front _ are (omega arith, (omega arith, tt))) m e.1)
