-- The objects that a definition block makes when it is loaded, as lines (ACPI 6.5, 5.3 and 20.2.5).
use Rattle.std.specs.Prelude.{ℕ, ◌+◌, ◌&&◌, Bool, true, false, if◌then◌else◌, List, [], ◌∷◌, ◌++◌, Option, Some}
use Rattle.std.specs.Prelude.{None, codes}
use Rattle.std.specs.Fmt.{decimal}
use Rattle.acpi_term.specs.Tree.{Entry, named, reserved, access_as, extended_access_as, connection, connection_buffer}
use Rattle.acpi_term.specs.Tree.{Head, number, string, def_scope, def_device, def_method}
use Rattle.acpi_term.specs.Tree.{def_power_res, def_field, def_op_region, def_name, def_mutex, def_buffer, def_package}
use Rattle.acpi_term.specs.Tree.{def_var_package, def_if, def_while, def_else, op, def_external, def_leveled_method}
use Rattle.acpi_term.specs.Tree.{def_processor, def_thermal_zone, def_roomy_package, def_index_field, def_bank_field}
use Rattle.acpi_term.specs.Tree.{Terms, end, term}
use Rattle.acpi_term.specs.declared.op.Op.{Op}
use Rattle.acpi_term.specs.declared.op.Op.TheVariants as ops
use Rattle.acpi_asl.specs.Eisa.{is_eisa, eisa_text}
use Rattle.acpi_asl.specs.Name.{segments_text, asl_name}
use Rattle.acpi_asl.specs.Number.{number_text, string_text}
use Rattle.acpi_asl.specs.Place.{spaces}
use Rattle.acpi_terms_text.specs.Comment.{is_id_name}
use Rattle.acpi_terms_text.specs.Objects.{made_by, name_at}

-- ---- the line of an object

abbrev pub object_line : ℕ → List ℕ → List ℕ → List ℕ
object_line d name what = ((spaces d ++ name) ++ (codes " " ++ what)) ++ codes "\n"

abbrev pub fields_lines : ℕ → List Entry → List ℕ
fields_lines d [] = []
fields_lines d (named name bits w ∷ entries) =
    object_line d (segments_text false name) (codes "Field") ++ fields_lines d entries
fields_lines d (reserved bits w ∷ entries) = fields_lines d entries
fields_lines d (access_as access attribute ∷ entries) = fields_lines d entries
fields_lines d (extended_access_as access attribute size ∷ entries) = fields_lines d entries
fields_lines d (connection name ∷ entries) = fields_lines d entries
fields_lines d (connection_buffer w size v bytes ∷ entries) = fields_lines d entries

-- ---- the value of a name

-- a value, after a space; only that of data in one line is there
abbrev pub value_of : Bool → Head → ℕ → List ℕ
value_of id (number v) w = codes " " ++ (if id && is_eisa w v then eisa_text v else number_text v w)
value_of id (string s) w = codes " " ++ string_text s
value_of id (def_buffer bytes) w = codes " Buffer"
value_of id def_package w = codes " Package"
value_of id (def_roomy_package room) w = codes " Package"
value_of id def_var_package w = codes " Package"
value_of id _ w = []

abbrev pub value_text : Bool → Terms → List ℕ
value_text id end = []
value_text id (term h w children others) = value_of id h w

-- ---- the object that an operator makes (ACPI 6.5, 20.2.5.1 and 20.2.5.2)

-- its word
abbrev pub word_of : Op → Option (List ℕ)
word_of ops.Alias = Some (codes "Alias")
word_of ops.Event = Some (codes "Event")
word_of ops.DataRegion = Some (codes "OperationRegion")
word_of ops.CreateBitField = Some (codes "BufferField")
word_of ops.CreateByteField = Some (codes "BufferField")
word_of ops.CreateWordField = Some (codes "BufferField")
word_of ops.CreateDWordField = Some (codes "BufferField")
word_of ops.CreateQWordField = Some (codes "BufferField")
word_of ops.CreateField = Some (codes "BufferField")
word_of _ = None

-- the place of the operand that names it
abbrev pub named_by : Op → Option ℕ
named_by ops.Alias = Some 1
named_by o = made_by o

-- the name that stands alone at a place
abbrev pub operand_at : Option ℕ → Terms → Option (List ℕ)
operand_at None operands = None
operand_at (Some place) operands = name_at place operands

-- its line
abbrev pub made_line : ℕ → Option (List ℕ) → Option (List ℕ) → List ℕ
made_line d (Some word) (Some name) = object_line d (asl_name name) word
made_line d _ _ = []

-- ---- terms

-- the lines of a head with these children
abbrev pub lines_of : ℕ → Head → Terms → List ℕ
lines_of d (def_scope name) children = object_line d (asl_name name) (codes "Scope")
lines_of d (def_device name) children = object_line d (asl_name name) (codes "Device")
lines_of d (def_processor name id address size) children = object_line d (asl_name name) (codes "Processor")
lines_of d (def_thermal_zone name) children = object_line d (asl_name name) (codes "ThermalZone")
lines_of d (def_power_res name level order) children = object_line d (asl_name name) (codes "PowerResource")
lines_of d (def_method name args s) children = object_line d (asl_name name) (codes "Method, arguments: " ++ decimal args)
lines_of d (def_leveled_method name args s level) children =
    object_line d (asl_name name) (codes "Method, arguments: " ++ decimal args)
lines_of d (def_name name) children = object_line d (asl_name name) (codes "Name" ++ value_text (is_id_name name) children)
lines_of d (def_op_region name space) children = object_line d (asl_name name) (codes "OperationRegion")
lines_of d (def_field name access lock update entries) children = fields_lines d entries
lines_of d (def_index_field index name access lock update entries) children = fields_lines d entries
lines_of d (def_bank_field name bank access lock update entries) children = fields_lines d entries
lines_of d (def_mutex name level) children = object_line d (asl_name name) (codes "Mutex")
lines_of d (def_external name kind args) children = object_line d (asl_name name) (codes "External")
lines_of d (op o) children = made_line d (word_of o) (operand_at (named_by o) children)
lines_of d _ children = []

-- Whether terms inside a head make names when the block is loaded: those inside an object, and statements that are then run. The
-- body of a method makes its names when it is called.
abbrev pub has_inside : Head → Bool
has_inside (def_scope name) = true
has_inside (def_device name) = true
has_inside (def_processor name id address size) = true
has_inside (def_thermal_zone name) = true
has_inside (def_power_res name level order) = true
has_inside def_if = true
has_inside def_else = true
has_inside def_while = true
has_inside _ = false

-- how much deeper these names are: those of statements aren't
abbrev pub deeper : Head → ℕ
deeper def_if = 0
deeper def_else = 0
deeper def_while = 0
deeper _ = 1

-- the lines of terms at depth d: each object, and then those inside it
abbrev pub names : ℕ → Terms → List ℕ
names d end = []
names d (term h w children others) =
    (lines_of d h children ++ (if has_inside h then names (d + deeper h) children else [])) ++ names d others
