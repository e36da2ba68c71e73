-- The objects that a definition block makes when it is loaded, as JSON (ACPI 6.5, 5.3 and 20.2.5; RFC 8259).
use Rattle.std.specs.Prelude.{ℕ, nat_eq, ◌&&◌, Bool, false, if◌then◌else◌, List, [], ◌∷◌, ◌++◌}
use Rattle.std.specs.Prelude.{Option, Some, None, length, take, drop, codes}
use Rattle.std.specs.Fmt.{decimal}
use Rattle.std.specs.List.{starts_with}
use Rattle.acpi_terms_text.specs.Path.{path_in}
use Rattle.acpi_term.specs.Tree.{Entry, named, reserved, access_as, extended_access_as, connection, connection_buffer}
use Rattle.acpi_term.specs.Tree.{Head, number, string, def_scope, def_device, def_method}
use Rattle.acpi_term.specs.Tree.{def_power_res, def_field, def_op_region, def_name, def_mutex}
use Rattle.acpi_term.specs.Tree.{op, def_external, def_leveled_method}
use Rattle.acpi_term.specs.Tree.{def_processor, def_thermal_zone, def_index_field, def_bank_field}
use Rattle.acpi_term.specs.Tree.{Terms, end, term}
use Rattle.acpi_asl.specs.Eisa.{is_eisa, json_eisa}
use Rattle.acpi_asl.specs.Name.{segments_text}
use Rattle.acpi_asl.specs.Namespace.{word_of, named_by, operand_at, has_inside}
use Rattle.acpi_terms_text.specs.Comment.{is_id_name}
use Rattle.acpi_asl.specs.Number.{json_string, json_number}

-- ---- the object of a name, after a comma

unfoldable pub path_member : List ℕ → List ℕ
path_member path = codes ",{\"path\":\"\\\\" ++ segments_text false path

unfoldable pub kind_member : List ℕ → List ℕ
kind_member word = codes "\",\"kind\":\"" ++ word ++ codes "\""

unfoldable pub plain_object : List ℕ → List ℕ → List ℕ
plain_object path word = path_member path ++ kind_member word ++ codes "}"

-- that of a method, with the number of its arguments
unfoldable pub arguments_member : ℕ → List ℕ
arguments_member args = codes ",\"arguments\":" ++ decimal args

unfoldable pub method_object : List ℕ → ℕ → List ℕ
method_object path args = path_member path ++ kind_member (codes "Method") ++ arguments_member args ++ codes "}"

-- that of a name, with its value if this is a number or a string; that of _HID and _CID may be an EISA id
abbrev pub number_or_id : Bool → ℕ → ℕ → List ℕ
number_or_id id v w = if id && is_eisa w v then json_eisa v else json_number v

abbrev pub value_of : Bool → Head → ℕ → List ℕ
value_of id (number v) w = codes ",\"value\":" ++ number_or_id id v w
value_of id (string s) w = codes ",\"value\":" ++ json_string s
value_of id _ w = []

abbrev pub value_member : Bool → Terms → List ℕ
value_member id end = []
value_member id (term h w children others) = value_of id h w

unfoldable pub name_object : List ℕ → List ℕ → List ℕ
name_object path value = path_member path ++ (kind_member (codes "Name") ++ value) ++ codes "}"

-- those of the fields of a region
abbrev pub field_objects : List ℕ → List Entry → List ℕ
field_objects scope [] = []
field_objects scope (named name bits w ∷ entries) = plain_object (scope ++ name) (codes "Field") ++ field_objects scope entries
field_objects scope (reserved bits w ∷ entries) = field_objects scope entries
field_objects scope (access_as access attribute ∷ entries) = field_objects scope entries
field_objects scope (extended_access_as access attribute size ∷ entries) = field_objects scope entries
field_objects scope (connection name ∷ entries) = field_objects scope entries
field_objects scope (connection_buffer w size v bytes ∷ entries) = field_objects scope entries

-- that of the last operand, which an operator names
abbrev pub made_object : List ℕ → Option (List ℕ) → Option (List ℕ) → List ℕ
made_object scope (Some word) (Some name) = plain_object (path_in scope name) word
made_object scope _ _ = []

-- ---- terms

-- the objects of a head with these children in a scope
abbrev pub objects_of : List ℕ → Head → Terms → List ℕ
objects_of scope (def_scope name) children = plain_object (path_in scope name) (codes "Scope")
objects_of scope (def_device name) children = plain_object (path_in scope name) (codes "Device")
objects_of scope (def_processor name id address size) children = plain_object (path_in scope name) (codes "Processor")
objects_of scope (def_thermal_zone name) children = plain_object (path_in scope name) (codes "ThermalZone")
objects_of scope (def_power_res name level order) children = plain_object (path_in scope name) (codes "PowerResource")
objects_of scope (def_method name args s) children = method_object (path_in scope name) args
objects_of scope (def_leveled_method name args s level) children = method_object (path_in scope name) args
objects_of scope (def_name name) children = name_object (path_in scope name) (value_member (is_id_name name) children)
objects_of scope (def_op_region name space) children = plain_object (path_in scope name) (codes "OperationRegion")
objects_of scope (def_field name access lock update entries) children = field_objects scope entries
objects_of scope (def_index_field index name access lock update entries) children = field_objects scope entries
objects_of scope (def_bank_field name bank access lock update entries) children = field_objects scope entries
objects_of scope (def_mutex name level) children = plain_object (path_in scope name) (codes "Mutex")
objects_of scope (def_external name kind args) children = plain_object (path_in scope name) (codes "External")
objects_of scope (op o) children = made_object scope (word_of o) (operand_at (named_by o) children)
objects_of scope _ children = []

-- the scope of the terms inside a head
abbrev pub scope_in : List ℕ → Head → List ℕ
scope_in scope (def_scope name) = path_in scope name
scope_in scope (def_device name) = path_in scope name
scope_in scope (def_processor name id address size) = path_in scope name
scope_in scope (def_thermal_zone name) = path_in scope name
scope_in scope (def_power_res name level order) = path_in scope name
scope_in scope _ = scope

-- the objects of terms in a scope: each, and then those inside it
abbrev pub objects : List ℕ → Terms → List ℕ
objects scope end = []
objects scope (term h w children others) =
    (objects_of scope h children ++ (if has_inside h then objects (scope_in scope h) children else [])) ++ objects scope others

-- ---- the table

-- objects without the comma before the first
abbrev pub without_comma : List ℕ → List ℕ
without_comma text = if starts_with nat_eq text (codes ",") then drop 1 text else text

unfoldable pub signature_member : List ℕ → List ℕ
signature_member signature = codes "[\n{\"signature\":" ++ json_string signature

unfoldable pub length_member : ℕ → List ℕ
length_member size = codes ",\"length\":" ++ decimal size

unfoldable pub table_front : List ℕ → List ℕ
table_front header = signature_member (take 4 header) ++ length_member (length header)

unfoldable pub table_end : List ℕ → List ℕ
table_end all = codes ",\"objects\":[" ++ all ++ codes "]}\n]\n"

-- an array with the object of a table, whose bytes begin with its header
abbrev pub objects_text : List ℕ → Terms → List ℕ
objects_text header terms = table_front header ++ table_end (without_comma (objects [] terms))
