-- The beginning of a term: its word, and what stands in its parentheses before its operands (ACPI 6.5, 19.2.3 to 19.2.6).
use Rattle.std.specs.Prelude.{ℕ, zero, suc, nat_lt, ◌==◌, ◌||◌, Bool, true, false, if◌then◌else◌, List, [], ◌++◌, codes}
use Rattle.std.specs.Fmt.{decimal}
use Rattle.acpi_term.specs.Tree.{Head, number, ones, string, local, arg, call, def_scope, def_device}
use Rattle.acpi_term.specs.Tree.{def_method, def_power_res, def_field, def_op_region, def_name, def_mutex, def_acquire}
use Rattle.acpi_term.specs.Tree.{def_release, def_buffer, def_package, def_var_package, def_if, def_while, def_else, op}
use Rattle.acpi_term.specs.Tree.{def_external, def_leveled_method, def_processor, def_thermal_zone, def_roomy_package}
use Rattle.acpi_term.specs.Tree.{def_index_field, def_bank_field, def_fatal, match_test, def_timeout, unread}
use Rattle.acpi_asl.specs.Number.{hex, number_text, short_hex, string_text}
use Rattle.acpi_asl.specs.Name.{asl_name}
use Rattle.acpi_asl.specs.declared.word.Keyword.TheVariants.{AccessType, LockRule, UpdateRule}
use Rattle.acpi_asl.specs.declared.word.Keyword.TheVariants.{RegionSpace, ObjectType, MatchOperator}
use Rattle.acpi_asl.specs.Word.{operator_word, keyword_text, serialize_word}
use Rattle.acpi_asl.specs.Place.{place, opened}

-- The word of a head in this width. A compiler makes a VarPackage of a Package only if its number of elements isn't a number. So
-- a comment says that it was one.
abbrev pub head_word : Head → ℕ → List ℕ
head_word (number v) w = number_text v w
head_word ones w = codes "Ones"
head_word (string s) w = string_text s
head_word (local k) w = codes "Local" ++ decimal k
head_word (arg k) w = codes "Arg" ++ decimal k
head_word (call name) w = asl_name name
head_word (def_scope name) w = codes "Scope"
head_word (def_device name) w = codes "Device"
head_word (def_method name args serialized) w = codes "Method"
head_word (def_power_res name level order) w = codes "PowerResource"
head_word (def_field name access lock update entries) w = codes "Field"
head_word (def_op_region name space) w = codes "OperationRegion"
head_word (def_name name) w = codes "Name"
head_word (def_mutex name level) w = codes "Mutex"
head_word (def_acquire name timeout) w = codes "Acquire"
head_word (def_release name) w = codes "Release"
head_word (def_buffer bytes) w = codes "Buffer"
head_word def_package w = codes "Package"
head_word def_var_package w = codes "Package /* VarPackage */"
head_word def_if w = codes "If"
head_word def_while w = codes "While"
head_word def_else w = codes "Else"
head_word (op o) w = operator_word o
head_word (def_external name kind args) w = codes "External"
head_word (def_leveled_method name args serialized level) w = codes "Method"
head_word (def_processor name id address size) w = codes "Processor"
head_word (def_thermal_zone name) w = codes "ThermalZone"
head_word (def_roomy_package room) w = codes "Package"
head_word (def_index_field index name access lock update entries) w = codes "IndexField"
head_word (def_bank_field name bank access lock update entries) w = codes "BankField"
head_word (def_fatal kind code) w = codes "Fatal"
head_word (match_test k) w = keyword_text MatchOperator k
head_word (def_timeout t) w = hex 2 t
head_word (unread error bytes) w = []

-- a further argument
abbrev pub further : List ℕ → List ℕ
further text = codes ", " ++ text

-- how a field is accessed
abbrev pub field_rules : ℕ → ℕ → ℕ → List ℕ
field_rules access lock update =
    further (keyword_text AccessType access)
    ++ further (keyword_text LockRule lock)
    ++ further (keyword_text UpdateRule update)

abbrev pub field_own : List ℕ → ℕ → ℕ → ℕ → List ℕ
field_own name access lock update = asl_name name ++ field_rules access lock update

abbrev pub method_own : List ℕ → ℕ → Bool → List ℕ
method_own name args serialized = asl_name name ++ further (decimal args) ++ further (serialize_word serialized)

-- the type of a method's result, or of a parameter after the first: any type
unfoldable pub parameter : List ℕ
parameter = codes ", UnknownObj"

unfoldable pub first_parameter : List ℕ
first_parameter = codes ", {UnknownObj"

-- this many parameters after the first
abbrev pub more_parameters : ℕ → List ℕ
more_parameters zero = []
more_parameters (suc n) = parameter ++ more_parameters n

-- The type of a method's result, and those of its parameters, of which a block says only how many there are.
abbrev pub parameters : ℕ → List ℕ
parameters zero = []
parameters (suc n) = parameter ++ first_parameter ++ more_parameters n ++ codes "}"

-- the arguments that aren't operands, of a head with n children
abbrev pub own : Head → ℕ → List ℕ
own (def_scope name) n = asl_name name
own (def_device name) n = asl_name name
own (def_method name args serialized) n = method_own name args serialized
own (def_power_res name level order) n = asl_name name ++ further (hex 1 level) ++ further (hex 2 order)
own (def_field name access lock update entries) n = field_own name access lock update
own (def_op_region name space) n = asl_name name ++ further (keyword_text RegionSpace space)
own (def_name name) n = asl_name name
own (def_mutex name level) n = asl_name name ++ further (hex 1 level)
own (def_acquire name timeout) n = asl_name name ++ further (hex 2 timeout)
own (def_release name) n = asl_name name
own def_package n = short_hex n
own (def_external name kind args) n = asl_name name ++ further (keyword_text ObjectType kind) ++ parameters args
own (def_leveled_method name args serialized level) n = method_own name args serialized ++ further (decimal level)
own (def_processor name id address size) n =
    asl_name name ++ further (hex 1 id) ++ further (hex 4 address) ++ further (hex 1 size)
own (def_thermal_zone name) n = asl_name name
own (def_roomy_package room) n = hex 1 room
own (def_index_field index name access lock update entries) n = asl_name index ++ further (field_own name access lock update)
own (def_bank_field name bank access lock update entries) n = asl_name name ++ further (asl_name bank)
own (def_fatal kind code) n = hex 1 kind ++ further (hex 4 code)
own _ n = []

-- Whether a head with n children has parentheses. A name that stands as a statement is a call, also without arguments.
abbrev pub has_parentheses : Bool → Head → ℕ → Bool
has_parentheses statement (number v) n = false
has_parentheses statement ones n = false
has_parentheses statement (string s) n = false
has_parentheses statement (local k) n = false
has_parentheses statement (arg k) n = false
has_parentheses statement (call name) n = statement || nat_lt 0 n
has_parentheses statement def_else n = false
has_parentheses statement (op o) n = nat_lt 0 n
has_parentheses statement (match_test k) n = false
has_parentheses statement (def_timeout t) n = false
has_parentheses statement _ n = true

-- the parentheses up to the operands
abbrev pub begun : Bool → Head → ℕ → List ℕ
begun statement h n = if has_parentheses statement h n then codes " (" ++ own h n else []

-- the end of parentheses without operands
abbrev pub ended : Bool → Head → ℕ → ℕ → List ℕ
ended statement h n d =
    if (place h n).arguments == 0
    then (if has_parentheses statement h n then codes ")" else []) ++ opened (place h n).body d
    else []

-- what stands before the children
abbrev pub opening : Bool → Head → ℕ → ℕ → ℕ → List ℕ
opening statement h w n d = head_word h w ++ begun statement h n ++ ended statement h n d
