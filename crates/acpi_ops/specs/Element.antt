-- The elements of lists of fields (ACPI 6.5, 20.2.5.2).
use Rattle.std.specs.Prelude.{◌≡◌, ℕ, List, [], ◌∷◌, length, map, None}
use Rattle.acpi_base.specs.Number.{number_width}
use Rattle.acpi_term.specs.Tree.{Entry, connection_buffer, access_as, extended_access_as, connection}
use Rattle.acpi_term.specs.Tree.{Head, def_field, def_index_field, def_bank_field}
use Rattle.acpi_term.specs.Length.{least_width}
use Rattle.acpi_term.specs.Template.{buffer_of_bytes}
use Rattle.acpi_term.specs.Row.{connected, named_entry, reserved_entry}
use Rattle.acpi_aml.specs.Field.{access_number, lock_number, update_number}
use Rattle.acpi_aml.specs.declared.field.FieldAccessType.{FieldAccessType}
use Rattle.acpi_aml.specs.declared.field.FieldLockRule.{FieldLockRule}
use Rattle.acpi_aml.specs.declared.field.FieldUpdateRule.{FieldUpdateRule}
use Rattle.acpi_ops.specs.declared.element.FieldElement.{FieldElement}
use Rattle.acpi_ops.specs.declared.element.FieldElement.TheVariants.{Named, Reserved, AccessAs, ExtendedAccessAs}
use Rattle.acpi_ops.specs.declared.element.FieldElement.TheVariants.{Connection, ConnectionBuffer}

-- An element's entry. After the byte 02 there are the bytes of a name or those of a buffer.
abbrev pub element_of : FieldElement → Entry
element_of (Named name bits) = named_entry name bits
element_of (Reserved bits) = reserved_entry bits
element_of (AccessAs access attribute) = access_as access attribute
element_of (ExtendedAccessAs access attribute size) = extended_access_as access attribute size
element_of (Connection name) = connection name
element_of (ConnectionBuffer buffer) = connection buffer

abbrev pub elements_of : List FieldElement → List Entry
elements_of elements = map element_of elements

-- DefField, DefIndexField and DefBankField with these elements
abbrev pub field_list_head : List ℕ → FieldAccessType → FieldLockRule → FieldUpdateRule → List FieldElement → Head
field_list_head name access_type lock_rule update_rule elements =
    def_field name (access_number access_type) (lock_number lock_rule) (update_number update_rule) (elements_of elements)

abbrev pub index_list_head : List ℕ → List ℕ → FieldAccessType → FieldLockRule → FieldUpdateRule → List FieldElement → Head
index_list_head index name access_type lock_rule update_rule elements =
    def_index_field index name (access_number access_type) (lock_number lock_rule) (update_number update_rule)
    (elements_of elements)

abbrev pub bank_list_head : List ℕ → List ℕ → FieldAccessType → FieldLockRule → FieldUpdateRule → List FieldElement → Head
bank_list_head name bank access_type lock_rule update_rule elements =
    def_bank_field name bank (access_number access_type) (lock_number lock_rule) (update_number update_rule)
    (elements_of elements)

-- the entry of a connection's buffer of these bytes, in the widths that are written
abbrev pub connected_entry : List ℕ → Entry
connected_entry bytes =
    connection_buffer (least_width (length (connected (length bytes) (number_width (length bytes)) bytes))) (length bytes)
    (number_width (length bytes)) bytes

-- ---- the entries that elements stand for

-- a buffer of bytes, as `BufferData` makes it, and the entry of a connection's buffer of these bytes
pub record IsBufferOf (buffer : List ℕ) (e : Entry) : Type 0 where
  pub content : List ℕ
  pub entry : e ≡ connected_entry content
  pub is_whole : (buffer_of_bytes content).end ≡ None
  pub is : buffer ≡ (buffer_of_bytes content).front

abbrev pub IsElement : FieldElement → Entry → Type 0
IsElement (ConnectionBuffer buffer) e = IsBufferOf buffer e
IsElement element e = e ≡ element_of element

abbrev pub AreElements : List FieldElement → List Entry → Type 0
AreElements [] [] = Unit {0}
AreElements (element ∷ elements) (e ∷ entries) = IsElement element e × AreElements elements entries
AreElements _ _ = ⊥
