-- The objects of a definition block, and how many arguments the methods of them take by the names of calls.
use Rattle.std.specs.Prelude.{◌≡◌, ℕ, zero, suc, ◌==◌, ◌/◌, nat_le, ◌&&◌, ◌||◌, not, Bool, true, false, if◌then◌else◌}
use Rattle.std.specs.Prelude.{List, [], ◌∷◌, ◌++◌, length, Option, Some, None, unwrap_or, codes}
use Rattle.std.specs.Option.{option_or}
use Rattle.std.specs.Str.{bytes_eq}
use Rattle.acpi_term.specs.Arity.{arity, grammar_by, with_all}
use Rattle.acpi_term.specs.declared.language.Language.TheVariants.{Standard}
use Rattle.acpi_term.specs.Name.{is_segment}
use Rattle.acpi_term.specs.PathText.{name_of_segments}
use Rattle.acpi_terms_text.specs.Path.{path_in, last_segment, parent}
use Rattle.acpi_terms_text.specs.declared.alias.Alias.{Alias}
use Rattle.acpi_terms_text.specs.declared.objects.Object.{Object}
use Rattle.acpi_terms_text.specs.declared.objects.Kept.{Kept}
use Rattle.acpi_terms_text.specs.declared.objects.Kept.TheVariants.{All, Among, In, Other}
use Rattle.acpi_term.specs.Tree.{Entry, named, Head, call, op, def_scope, def_device, def_method, def_power_res, def_field}
use Rattle.acpi_term.specs.Tree.{def_op_region, def_name, def_mutex, def_external, def_leveled_method, def_processor}
use Rattle.acpi_term.specs.Tree.{def_thermal_zone, def_index_field, def_bank_field, Terms, end, term}
use Rattle.acpi_term.specs.declared.op.Op.{Op}
use Rattle.acpi_term.specs.declared.op.Op.TheVariants as ops
use Rattle.acpi_read.specs.InPart.{AreReadInPart}

-- ---- scopes

-- the scope of a head's children; that of the root is empty
abbrev pub inside : List ℕ → Head → List ℕ
inside scope (def_scope name) = path_in scope name
inside scope (def_device name) = path_in scope name
inside scope (def_method name args serialized) = path_in scope name
inside scope (def_power_res name level order) = path_in scope name
inside scope (def_leveled_method name args serialized level) = path_in scope name
inside scope (def_processor name id address size) = path_in scope name
inside scope (def_thermal_zone name) = path_in scope name
inside scope _ = scope

-- ---- the names of an object

-- a number of arguments for a name, if there is one
abbrev pub counted : ℕ → Option (List ℕ) → List (List ℕ × ℕ)
counted n None = []
counted n (Some name) = (name, n) ∷ []

-- for the names of a path's segments from each on
abbrev pub from_each : ℕ → List ℕ → List (List ℕ × ℕ)
from_each n (a ∷ b ∷ c ∷ d ∷ path) = counted n (name_of_segments false (a ∷ b ∷ c ∷ d ∷ path)) ++ from_each n path
from_each n _ = []

-- For the names by which a path is called: that from the root, that without the root, and those from each further segment on. A
-- path of more than 255 segments has no name.
abbrev pub calls : ℕ → List ℕ → List (List ℕ × ℕ)
calls n path = counted n (name_of_segments true path) ++ from_each n path

-- whether an external object is a method, whose number of arguments is there (ACPI 6.5, 19.6.45 and 20.2.5.2, DefExternal)
abbrev pub is_method : ℕ → ℕ → Bool
is_method kind args = kind == 8 && nat_le args 7

-- An object that a call may name: its path, its name in the term that makes it, and the number of its arguments. Only methods
-- have arguments.
pub record Callee : Type 0 where
  pub path : List ℕ
  pub name : List ℕ
  pub args : ℕ

abbrev pub callee : List ℕ → List ℕ → ℕ → Callee
callee p n k = record { path = p; name = n; args = k }

abbrev pub callee_by : Object → Callee
callee_by o = callee o.path.items o.name o.args

-- one object, by its name in a scope
abbrev pub makes : List ℕ → List ℕ → ℕ → List Callee
makes scope name args = callee (path_in scope name) name args ∷ []

-- an object without arguments, if there is a name for it
abbrev pub if_named : List ℕ → Option (List ℕ) → List Callee
if_named scope None = []
if_named scope (Some name) = makes scope name 0

-- bytes that are a segment
abbrev pub as_segment : List ℕ → Option (List ℕ)
as_segment (a ∷ b ∷ c ∷ d ∷ []) = if is_segment a b c d then Some (a ∷ b ∷ c ∷ d ∷ []) else None
as_segment _ = None

-- that of an entry of a field (ACPI 6.5, 20.2.5.2, NamedField)
abbrev pub own_unit : List ℕ → Entry → List Callee
own_unit scope (named name bits width) = if_named scope (as_segment name)
own_unit scope _ = []

abbrev pub own_units : List ℕ → List Entry → List Callee
own_units scope [] = []
own_units scope (e ∷ entries) = own_unit scope e ++ own_units scope entries

-- An object of another block. What has no type (0) may be a method (8) of any number of arguments.
abbrev pub own_external : List ℕ → List ℕ → ℕ → ℕ → List Callee
own_external scope name kind args =
    if is_method kind args then makes scope name args else if kind == 0 || kind == 8 then [] else makes scope name 0

-- the place of the operand that names the object which an operator makes
abbrev pub made_by : Op → Option ℕ
made_by ops.Event = Some 0
made_by ops.DataRegion = Some 0
made_by ops.CreateBitField = Some 2
made_by ops.CreateByteField = Some 2
made_by ops.CreateWordField = Some 2
made_by ops.CreateDWordField = Some 2
made_by ops.CreateQWordField = Some 2
made_by ops.CreateField = Some 3
made_by _ = None

-- the name that stands alone at a place of a list
abbrev pub name_of : Head → Option (List ℕ)
name_of (call name) = Some name
name_of _ = None

abbrev pub name_at : ℕ → Terms → Option (List ℕ)
name_at n end = None
name_at zero (term h w children others) = name_of h
name_at (suc n) (term h w children others) = name_at n others

abbrev pub own_operand : List ℕ → Option ℕ → Terms → List Callee
own_operand scope None operands = []
own_operand scope (Some place) operands = if_named scope (name_at place operands)

-- the objects that a head with these children makes in a scope (ACPI 6.5, 20.2.5.1 and 20.2.5.2)
abbrev pub own_objects : List ℕ → Head → Terms → List Callee
own_objects scope (def_method name args serialized) children = makes scope name args
own_objects scope (def_leveled_method name args serialized level) children = makes scope name args
own_objects scope (def_external name kind args) children = own_external scope name kind args
own_objects scope (def_name name) children = makes scope name 0
own_objects scope (def_device name) children = makes scope name 0
own_objects scope (def_mutex name level) children = makes scope name 0
own_objects scope (def_op_region name space) children = makes scope name 0
own_objects scope (def_power_res name level order) children = makes scope name 0
own_objects scope (def_processor name id address size) children = makes scope name 0
own_objects scope (def_thermal_zone name) children = makes scope name 0
own_objects scope (def_field name access lock update entries) children = own_units scope entries
own_objects scope (def_index_field name other access lock update entries) children = own_units scope entries
own_objects scope (def_bank_field name bank access lock update entries) children = own_units scope entries
own_objects scope (op o) children = own_operand scope (made_by o) children
own_objects scope _ children = []

-- what all terms make, in the order of the bytes, if this is what a head with its children makes in a scope
abbrev pub made : {A : Type 0} → (List ℕ → Head → Terms → List A) → List ℕ → Terms → List A
made own scope end = []
made own scope (term h w children others) =
    own scope h children ++ (made own (inside scope h) children ++ made own scope others)

-- the objects of all terms
abbrev pub objects : List ℕ → Terms → List Callee
objects scope terms = made own_objects scope terms

-- the number of arguments of the first object of a path
abbrev pub args_at : List ℕ → List Callee → Option ℕ
args_at path [] = None
args_at path (m ∷ all) = if bytes_eq m.path path then Some m.args else args_at path all

-- ---- aliases (ACPI 6.5, 19.6.4)

-- an alias: the scope of its term, the name of its object, and its own name
pub record Aliased : Type 0 where
  pub scope : List ℕ
  pub source : List ℕ
  pub name : List ℕ

abbrev pub alias : List ℕ → List ℕ → List ℕ → Aliased
alias s o n = record { scope = s; source = o; name = n }

abbrev pub alias_by : Alias → Aliased
alias_by a = alias a.scope.items a.source a.name

abbrev pub if_both : List ℕ → Option (List ℕ) → Option (List ℕ) → List Aliased
if_both scope None name = []
if_both scope (Some source) None = []
if_both scope (Some source) (Some name) = alias scope source name ∷ []

-- that of an operator
abbrev pub alias_of : List ℕ → Op → Terms → List Aliased
alias_of scope ops.Alias operands = if_both scope (name_at 0 operands) (name_at 1 operands)
alias_of scope _ operands = []

abbrev pub own_aliases : List ℕ → Head → Terms → List Aliased
own_aliases scope (op o) children = alias_of scope o children
own_aliases scope _ children = []

-- the aliases of all terms
abbrev pub aliases : List ℕ → Terms → List Aliased
aliases scope terms = made own_aliases scope terms

-- In how many scopes around its own the object of a name is looked for: in all, if the name is a segment alone (ACPI 6.5, 5.3).
abbrev pub levels : List ℕ → List ℕ → ℕ
levels scope name = if length name == 4 then length scope / 4 else 0

-- the number of arguments of the first object that has a name in a scope, or else in one of the n scopes around it
abbrev pub args_near : ℕ → List ℕ → List ℕ → List Callee → Option ℕ
args_near zero scope name all = args_at (path_in scope name) all
args_near (suc n) scope name all = option_or (args_at (path_in scope name) all) (args_near n (parent scope) name all)

-- an alias makes an object, which takes as many arguments as the object that is found
abbrev pub with_alias : List Callee → Aliased → List Callee
with_alias all a =
    all ++ makes a.scope a.name (unwrap_or (args_near (levels a.scope a.source) a.scope a.source all) 0)

abbrev pub with_aliases : List Callee → List Aliased → List Callee
with_aliases all [] = all
with_aliases all (a ∷ more) = with_aliases (with_alias all a) more

-- ---- the objects whose number of arguments matters

-- the last segment of a method with arguments
abbrev pub own_segment : Callee → List (List ℕ × ℕ)
own_segment m = if m.args == 0 then [] else counted m.args (as_segment (last_segment m.name))

abbrev pub segments : List Callee → List (List ℕ × ℕ)
segments [] = []
segments (m ∷ all) = own_segment m ++ segments all

-- an object, if its last segment is one of these
abbrev pub if_among : List (List ℕ × ℕ) → Callee → List Callee
if_among among m = if arity among (last_segment m.name) == 0 then [] else m ∷ []

abbrev pub all_among : List (List ℕ × ℕ) → List Callee → List Callee
all_among among [] = []
all_among among (m ∷ all) = if_among among m ++ all_among among all

-- The methods with arguments, and all objects whose names end as those of one of them. Any other name takes no arguments.
abbrev pub callees : List Callee → List Callee
callees all = all_among (with_all [] (segments all)) all

-- ---- the same without a list of all objects

-- the last segment of the name of a method with arguments
abbrev pub segment_of : List ℕ → ℕ → List (List ℕ × ℕ)
segment_of name args = if args == 0 then [] else counted args (as_segment (last_segment name))

-- that of the method that a head makes, or declares as external
abbrev pub own_segments : Head → List (List ℕ × ℕ)
own_segments (def_method name args serialized) = segment_of name args
own_segments (def_leveled_method name args serialized level) = segment_of name args
own_segments (def_external name kind args) = if is_method kind args then segment_of name args else []
own_segments _ = []

-- those of all terms: the segments of their objects (`segments_made`)
abbrev pub segments_in : Terms → List (List ℕ × ℕ)
segments_in end = []
segments_in (term h w children others) = own_segments h ++ (segments_in children ++ segments_in others)

-- whether bytes have a segment somewhere
abbrev pub has_segment : List ℕ → List ℕ → Bool
has_segment (a ∷ b ∷ c ∷ d ∷ bytes) segment = bytes_eq (a ∷ b ∷ c ∷ d ∷ []) segment || has_segment (b ∷ c ∷ d ∷ bytes) segment
has_segment _ segment = false

-- whether an object of this name with this number of arguments is kept
abbrev pub keeps : Kept → List ℕ → ℕ → Bool
keeps All name args = true
keeps (Among among) name args = not (arity among.now (last_segment name) == 0)
keeps (In bytes) name args = has_segment bytes.now (last_segment name)
keeps (Other numbers) name args = not (arity numbers.now (last_segment name) == args)

abbrev pub if_kept : Kept → Callee → List Callee
if_kept kept m = if keeps kept m.name m.args then m ∷ [] else []

-- the objects that are kept: all of them, those of `all_among`, of `named_in`, or of `with_other` (`kept_is`)
abbrev pub all_kept : Kept → List Callee → List Callee
all_kept kept [] = []
all_kept kept (m ∷ all) = if_kept kept m ++ all_kept kept all

-- the objects whose last segment is somewhere in bytes: the bytes of terms name no other
abbrev pub named_in : List ℕ → List Callee → List Callee
named_in bytes [] = []
named_in bytes (m ∷ all) = (if has_segment bytes (last_segment m.name) then m ∷ [] else []) ++ named_in bytes all

-- the objects whose last segment has another number in a list
abbrev pub with_other : List (List ℕ × ℕ) → List Callee → List Callee
with_other own [] = []
with_other own (m ∷ all) = (if arity own (last_segment m.name) == m.args then [] else m ∷ []) ++ with_other own all

-- ---- numbers of arguments

-- the number of arguments of an object, for the names by which its path is called
abbrev pub numbers : Callee → List (List ℕ × ℕ)
numbers m = calls m.args m.path

-- the same of the objects with this number of arguments
abbrev pub numbers_of : ℕ → List Callee → List (List ℕ × ℕ)
numbers_of n [] = []
numbers_of n (m ∷ all) = (if m.args == n then numbers m else []) ++ numbers_of n all

-- the same of n numbers of arguments from k on
abbrev pub numbers_from : ℕ → ℕ → List Callee → List (List ℕ × ℕ)
numbers_from zero k all = []
numbers_from (suc n) k all = numbers_of k all ++ numbers_from n (suc k) all

-- the same of all; those with the fewest arguments come first
abbrev pub called : List Callee → List (List ℕ × ℕ)
called all = numbers_from 8 0 all

-- the names of the method that the operating system has: _OSI takes one argument (ACPI 6.5, 5.7.2)
abbrev pub predefined : List (List ℕ × ℕ)
predefined = calls 1 (codes "_OSI")

-- what calls may name in a block's terms: its objects, those of further blocks, which have the same namespace, and its aliases
abbrev pub all_callees : Terms → List Callee → List Callee
all_callees terms further = callees (with_aliases (objects [] terms ++ further) (aliases [] terms))

-- The numbers that a caller states, those of objects, and those of the operating system. If there are several for a name, the
-- first one holds.
abbrev pub own_numbers : List (List ℕ × ℕ) → List Callee → List (List ℕ × ℕ)
own_numbers stated all = with_all (with_all stated (called all)) predefined

-- The numbers that a caller states, and those of the operating system: by them a block is read to find its objects.
abbrev pub first_numbers : List (List ℕ × ℕ) → List (List ℕ × ℕ)
first_numbers stated = with_all stated predefined

-- To some objects were added those of the terms that can be read of bytes with these numbers.
pub record AddObjectsIn (stated : List (List ℕ × ℕ)) (bytes : List ℕ) (old new : List Callee) : Type 0 where
  pub terms : Terms
  pub read : AreReadInPart (grammar_by Standard (first_numbers stated)) bytes terms
  pub added : new ≡ with_aliases (old ++ objects [] terms) (aliases [] terms)

-- The numbers of names in a block with these bytes, if further blocks have these objects.
pub record AreOwn (stated : List (List ℕ × ℕ)) (further : List Callee) (bytes : List ℕ) (all : List (List ℕ × ℕ)) : Type 0 where
  pub terms : Terms
  pub read : AreReadInPart (grammar_by Standard (first_numbers stated)) bytes terms
  pub is : all ≡ own_numbers stated (all_callees terms further)
