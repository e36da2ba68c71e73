-- The terms that the code's values stand for.
use Rattle.std.specs.Prelude.{◌≡◌, ℕ, List, [], ◌∷◌, ◌++◌, map, string_bytes}
use Rattle.acpi_term.specs.Tree.{Entry, named, reserved, access_as, extended_access_as, connection, connection_buffer}
use Rattle.acpi_term.specs.Tree.{Head, number, ones, string, local, arg, call}
use Rattle.acpi_term.specs.Tree.{def_scope, def_device, def_method, def_power_res, def_field, def_op_region}
use Rattle.acpi_term.specs.Tree.{def_name, def_mutex, def_acquire, def_release, def_buffer, def_package}
use Rattle.acpi_term.specs.Tree.{def_var_package, def_if, def_while, def_else, op, Terms, end, term, one}
use Rattle.acpi_term.specs.Tree.{def_external, def_leveled_method, def_processor, def_thermal_zone, def_roomy_package}
use Rattle.acpi_term.specs.Tree.{def_index_field, def_bank_field}
use Rattle.acpi_term.specs.Tree.{def_fatal, match_test, def_timeout, unread}
use Rattle.acpi_term.specs.declared.term.TermEntry.{TermEntry}
use Rattle.acpi_term.specs.declared.term.TermEntry.TheVariants.{Named, Reserved, AccessAs, ExtendedAccessAs}
use Rattle.acpi_term.specs.declared.term.TermEntry.TheVariants.{Connection, ConnectionBuffer}
use Rattle.acpi_term.specs.declared.term.Term.{Term}
use Rattle.acpi_term.specs.declared.apart.Kind.{Kind}
use Rattle.acpi_term.specs.declared.apart.Kind.TheVariants as kinds
use Rattle.acpi_term.specs.declared.term.Term.TheOpen.{Term-F}
use Rattle.acpi_term.specs.declared.term.Term.TheFolds.{fold-Term}

-- a term alone: its head, its width and its children
abbrev pub Parts : Type 0
Parts = Head × ℕ × Terms

abbrev pub listed : List Parts → Terms
listed [] = end
listed (t ∷ ts) = term t.0 t.1 t.2 (listed ts)

abbrev pub entry_view : TermEntry → Entry
entry_view (Named name bits width) = named name bits width
entry_view (Reserved bits width) = reserved bits width
entry_view (AccessAs access attribute) = access_as access attribute
entry_view (ExtendedAccessAs access attribute size) = extended_access_as access attribute size
entry_view (Connection name) = connection name
entry_view (ConnectionBuffer width size size_width bytes) = connection_buffer width size size_width bytes.items

abbrev pub view_step : Term-F Parts → Parts
view_step (Term-F.Number value width) = (number value, width, end)
view_step Term-F.Ones = (ones, 0, end)
view_step (Term-F.Text s) = (string (string_bytes s), 0, end)
view_step (Term-F.Local n) = (local n, 0, end)
view_step (Term-F.Arg n) = (arg n, 0, end)
view_step (Term-F.Call name args) = (call name, 0, listed args.items)
view_step (Term-F.Scope width name body) = (def_scope name, width, listed body.items)
view_step (Term-F.Device width name body) = (def_device name, width, listed body.items)
view_step (Term-F.Method width args serialized name body) = (def_method name args serialized, width, listed body.items)
view_step (Term-F.PowerResource width level order name body) = (def_power_res name level order, width, listed body.items)
view_step (Term-F.Field width access lock update name entries) =
    (def_field name access lock update (map entry_view entries.items), width, end)
view_step (Term-F.OpRegion name space offset size) = (def_op_region name space, 0, listed (offset.value ∷ size.value ∷ []))
view_step (Term-F.Name name value) = (def_name name, 0, listed (value.value ∷ []))
view_step (Term-F.Mutex name level) = (def_mutex name level, 0, end)
view_step (Term-F.Acquire name timeout) = (def_acquire name timeout, 0, end)
view_step (Term-F.Release name) = (def_release name, 0, end)
view_step (Term-F.Buffer width size bytes) = (def_buffer bytes.items, width, listed (size.value ∷ []))
view_step (Term-F.Package width elements) = (def_package, width, listed elements.items)
view_step (Term-F.VarPackage width size elements) = (def_var_package, width, listed (size.value ∷ elements.items))
view_step (Term-F.If width predicate body) = (def_if, width, listed (predicate.value ∷ body.items))
view_step (Term-F.While width predicate body) = (def_while, width, listed (predicate.value ∷ body.items))
view_step (Term-F.Else width body) = (def_else, width, listed body.items)
view_step (Term-F.Op o operands) = (op o, 0, listed operands.items)
view_step (Term-F.External name kind args) = (def_external name kind args, 0, end)
view_step (Term-F.LeveledMethod width args serialized level name body) =
    (def_leveled_method name args serialized level, width, listed body.items)
view_step (Term-F.Processor width id size address name body) = (def_processor name id address size, width, listed body.items)
view_step (Term-F.ThermalZone width name body) = (def_thermal_zone name, width, listed body.items)
view_step (Term-F.RoomyPackage width room elements) = (def_roomy_package room, width, listed elements.items)
view_step (Term-F.IndexField width access lock update names entries) =
    (def_index_field names.value.selector names.value.name access lock update (map entry_view entries.items), width, end)
view_step (Term-F.BankField width access lock update names value entries) = (
  def_bank_field names.value.name names.value.selector access lock update (map entry_view entries.items),
  width,
  listed (value.value ∷ []),
)
view_step (Term-F.Fatal kind code argument) = (def_fatal kind code, 0, listed (argument.value ∷ []))
view_step (Term-F.MatchTest code operand) = (match_test code, 0, listed (operand.value ∷ []))
view_step (Term-F.Timeout milliseconds) = (def_timeout milliseconds, 0, end)
view_step (Term-F.Unread error bytes) = (unread error bytes.items, 0, end)

-- the head, the width and the children of a term
abbrev pub view : Term → Parts
view = fold-Term Parts view_step

-- the terms of a list
abbrev pub views : List Term → Terms
views ts = listed (map view ts)

-- a list of one term
abbrev pub single : Parts → Terms
single p = one p.0 p.1 p.2

-- the head that a kind stands for
abbrev pub head_of : Kind → Head
head_of (kinds.Number value) = number value
head_of kinds.Ones = ones
head_of (kinds.Text s) = string s.now
head_of (kinds.Local n) = local n
head_of (kinds.Arg n) = arg n
head_of (kinds.Call name) = call name.now
head_of (kinds.Scope name) = def_scope name.now
head_of (kinds.Device name) = def_device name.now
head_of (kinds.Method name args serialized) = def_method name.now args serialized
head_of (kinds.PowerResource name level order) = def_power_res name.now level order
head_of (kinds.Field name access lock update entries) = def_field name.now access lock update (map entry_view entries.now)
head_of (kinds.OpRegion name space) = def_op_region name.now space
head_of (kinds.Name name) = def_name name.now
head_of (kinds.Mutex name level) = def_mutex name.now level
head_of (kinds.Acquire name timeout) = def_acquire name.now timeout
head_of (kinds.Release name) = def_release name.now
head_of (kinds.Buffer bytes) = def_buffer bytes.now
head_of kinds.Package = def_package
head_of kinds.VarPackage = def_var_package
head_of kinds.If = def_if
head_of kinds.While = def_while
head_of kinds.Else = def_else
head_of (kinds.Op o) = op o
head_of (kinds.External name kind args) = def_external name.now kind args
head_of (kinds.LeveledMethod name args serialized level) = def_leveled_method name.now args serialized level
head_of (kinds.Processor name id address size) = def_processor name.now id address size
head_of (kinds.ThermalZone name) = def_thermal_zone name.now
head_of (kinds.RoomyPackage room) = def_roomy_package room
head_of (kinds.IndexField index name access lock update entries) =
    def_index_field index.now name.now access lock update (map entry_view entries.now)
head_of (kinds.BankField name bank access lock update entries) =
    def_bank_field name.now bank.now access lock update (map entry_view entries.now)
head_of (kinds.Fatal kind code) = def_fatal kind code
head_of (kinds.MatchTest code) = match_test code
head_of (kinds.Timeout milliseconds) = def_timeout milliseconds
head_of (kinds.Unread error bytes) = unread error bytes.now

-- a term taken apart: a head, a width, and its children in two lists
pub record IsApart (t : Term) (h : Head) (w : ℕ) (first others : List Term) : Type 0 where
  pub head : h ≡ (view t).0
  pub width : w ≡ (view t).1
  pub children : views (first ++ others) ≡ (view t).2
