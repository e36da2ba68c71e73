-- The names of a block for which it has no object. A compiler takes them with an External statement (ACPI 6.5, 5.3 and 19.6.45).
use Rattle.std.specs.Prelude.{◌≡◌, ℕ, zero, suc, ◌/◌, ◌==◌, ◌&&◌, ◌||◌, not, min, Bool, true, false, if◌then◌else◌, Option}
use Rattle.std.specs.Prelude.{Some, None, is_some, List, [], ◌∷◌, ◌++◌, length, codes}
use Rattle.acpi_term.specs.PathText.{name_of_segments}
use Rattle.acpi_term.specs.Tree.{Head, def_scope, def_device, def_method, def_power_res, def_field, def_op_region, def_name}
use Rattle.acpi_term.specs.Tree.{def_mutex, def_acquire, def_release, call, op, def_external, def_leveled_method, def_processor}
use Rattle.acpi_term.specs.Tree.{def_thermal_zone, def_index_field, def_bank_field, Entry, named, connection, Terms, end, term}
use Rattle.acpi_term.specs.Tree.{count}
use Rattle.acpi_terms_text.specs.Objects.{inside, name_at}
use Rattle.acpi_terms_text.specs.Path.{parent, path_in}
use Rattle.acpi_asl.specs.Namespace.{named_by}
use Rattle.acpi_asl.specs.Opening.{own}
use Rattle.acpi_asl.specs.Paths.{has}
use Rattle.acpi_asl.specs.Place.{place, next, in_braces, is_statement, new_line}
use Rattle.acpi_asl.specs.declared.absent.Pass.{Pass}
use Rattle.acpi_asl.specs.declared.absent.Pass.TheVariants.{Objects, Scopes, Methods, Around, Parents, Others}
use Rattle.acpi_asl.specs.declared.place.Body.TheVariants.{Statements}
use Rattle.acpi_asl.specs.declared.place.Place.{Place}

-- paths of objects
abbrev pub Known : Type 0
Known = List (List ℕ)

-- ---- names that find an object

-- whether a segment finds an object in a scope, or in one of this many scopes around it
abbrev pub finds : ℕ → Known → List ℕ → List ℕ → Bool
finds zero all scope segment = has all (scope ++ segment)
finds (suc levels) all scope segment = has all (scope ++ segment) || finds levels all (parent scope) segment

-- whether a name in a scope finds an object (ACPI 6.5, 5.3); four bytes are a segment alone
abbrev pub is_found : Known → List ℕ → List ℕ → Bool
is_found all scope name =
    if length name == 4 then finds (length scope / 4) all scope name else has all (path_in scope name)

-- the path of an object for a name that finds none: a segment alone finds it in the root
abbrev pub absent : List ℕ → List ℕ → List ℕ
absent scope name = if length name == 4 then name else path_in scope name

-- ---- what terms make and use

pub data Item : Type 0 where
  -- an object of this path
  made : List ℕ → Item
  -- a name in a scope, of an object of this type with so many arguments
  used : List ℕ → List ℕ → ℕ → ℕ → Item
  -- an object in the scope of this path
  made_in : List ℕ → Item

abbrev pub made_named : List ℕ → Option (List ℕ) → List Item
made_named scope None = []
made_named scope (Some name) = made (path_in scope name) ∷ []

abbrev pub made_operand : List ℕ → Option ℕ → Terms → List Item
made_operand scope None children = []
made_operand scope (Some place) children = made_named scope (name_at place children)

abbrev pub made_units : List ℕ → List Entry → List Item
made_units scope [] = []
made_units scope (named name bits w ∷ entries) = made (scope ++ name) ∷ made_units scope entries
made_units scope (e ∷ entries) = made_units scope entries

-- the objects that a head with these children makes
abbrev pub made_items : List ℕ → Head → Terms → List Item
made_items scope (def_name name) children = made (path_in scope name) ∷ []
made_items scope (def_device name) children = made (path_in scope name) ∷ []
made_items scope (def_method name args serialized) children = made (path_in scope name) ∷ []
made_items scope (def_leveled_method name args serialized level) children = made (path_in scope name) ∷ []
made_items scope (def_mutex name level) children = made (path_in scope name) ∷ []
made_items scope (def_op_region name space) children = made (path_in scope name) ∷ []
made_items scope (def_power_res name level order) children = made (path_in scope name) ∷ []
made_items scope (def_processor name id address size) children = made (path_in scope name) ∷ []
made_items scope (def_thermal_zone name) children = made (path_in scope name) ∷ []
made_items scope (def_external name kind args) children = made (path_in scope name) ∷ []
made_items scope (def_field name access lock update entries) children = made_units scope entries
made_items scope (def_index_field index name access lock update entries) children = made_units scope entries
made_items scope (def_bank_field name bank access lock update entries) children = made_units scope entries
made_items scope (op o) children = made_operand scope (named_by o) children
made_items scope _ children = []

-- this many scopes around a path
abbrev pub made_around : ℕ → List ℕ → List Item
made_around zero path = []
made_around (suc n) path = made (parent path) ∷ made_around n (parent path)

-- The scopes around an object of another block. A compiler knows them by the path of the object, but not of which type they are.
abbrev pub around_items : List ℕ → Head → List Item
around_items scope (def_external name kind args) = made_around (length (path_in scope name) / 4) (path_in scope name)
around_items scope _ = []

-- a name that is more than a segment
abbrev pub as_path : List ℕ → Option (List ℕ)
as_path name = if length name == 4 then None else Some name

-- the path by which a head makes an object in another scope than its own
abbrev pub path_made : Head → Option (List ℕ)
path_made (def_name name) = as_path name
path_made (def_device name) = as_path name
path_made (def_method name args serialized) = as_path name
path_made (def_leveled_method name args serialized level) = as_path name
path_made (def_mutex name level) = as_path name
path_made (def_op_region name space) = as_path name
path_made (def_power_res name level order) = as_path name
path_made (def_processor name id address size) = as_path name
path_made (def_thermal_zone name) = as_path name
path_made _ = None

abbrev pub made_by_path : List ℕ → Option (List ℕ) → List Item
made_by_path scope None = []
made_by_path scope (Some name) = made_in (parent (path_in scope name)) ∷ []

-- the other scope in which a head makes an object
abbrev pub parent_items : List ℕ → Head → List Item
parent_items scope h = made_by_path scope (path_made h)

-- the scopes that a head opens, as devices
abbrev pub scope_items : List ℕ → Head → List Item
scope_items scope (def_scope name) = used scope name 6 0 ∷ []
scope_items scope _ = []

-- the place after terms
abbrev pub left_after : Place → Terms → Place
left_after at end = at
left_after at (term h w children others) = left_after (next at false) others

-- whether a name with this many arguments in a place is a call: as a statement it is one without arguments, too
abbrev pub is_call : Place → ℕ → Bool
is_call at n = is_statement at || not (n == 0)

-- the methods that a head with this many children calls
abbrev pub method_items : Place → List ℕ → Head → ℕ → List Item
method_items at scope (call name) n = if is_call at n then used scope name 8 (min n 7) ∷ [] else []
method_items at scope _ n = []

-- the connections that the entries of a field name
abbrev pub connection_items : List ℕ → List Entry → List Item
connection_items scope [] = []
connection_items scope (connection name ∷ entries) = used scope name 0 0 ∷ connection_items scope entries
connection_items scope (e ∷ entries) = connection_items scope entries

-- the other objects that a head names
abbrev pub other_items : List ℕ → Head → List Item
other_items scope (call name) = used scope name 0 0 ∷ []
other_items scope (def_field name access lock update entries) = used scope name 0 0 ∷ connection_items scope entries
other_items scope (def_index_field index name access lock update entries) =
    used scope index 0 0 ∷ used scope name 0 0 ∷ connection_items scope entries
other_items scope (def_bank_field name bank access lock update entries) =
    used scope name 0 0 ∷ used scope bank 0 0 ∷ connection_items scope entries
other_items scope (def_acquire name timeout) = used scope name 0 0 ∷ []
other_items scope (def_release name) = used scope name 0 0 ∷ []
other_items scope _ = []

abbrev pub own_items : Pass → Place → List ℕ → Head → Terms → List Item
own_items Objects at scope h children = made_items scope h children
own_items Scopes at scope h children = scope_items scope h
own_items Methods at scope h children = method_items at scope h (count children)
own_items Around at scope h children = around_items scope h
own_items Parents at scope h children = parent_items scope h
own_items Others at scope h children = other_items scope h

-- those of terms in a scope, of which the first stands in this place
abbrev pub items : Pass → Place → List ℕ → Terms → List Item
items p at scope end = []
items p at scope (term h w children others) =
    own_items p at scope h children
    ++ (items p (place h (count children)) (inside scope h) children ++ items p (next at false) scope others)

-- those of the terms of a block
abbrev pub all_items : Pass → Terms → List Item
all_items p ts = items p (in_braces Statements) [] ts

-- whether a head names an object that something else makes, or makes one in another scope
abbrev pub uses_name : Head → Bool
uses_name (def_scope name) = true
uses_name (call name) = true
uses_name (def_field name access lock update entries) = true
uses_name (def_index_field index name access lock update entries) = true
uses_name (def_bank_field name bank access lock update entries) = true
uses_name (def_acquire name timeout) = true
uses_name (def_release name) = true
uses_name h = is_some (path_made h)

-- ---- External statements

-- the statement for an object that is absent
abbrev pub absent_line : ℕ → ℕ → Option (List ℕ) → List ℕ
absent_line kind args None = []
absent_line kind args (Some name) =
    new_line 1 ++ codes "/*= Absent */ External (" ++ own (def_external name kind args) 0 ++ codes ")"

-- the known names after an item
abbrev pub known_by : Known → Item → Known
known_by all (made path) = all ++ path ∷ []
known_by all (used scope name kind args) = if is_found all scope name then all else all ++ absent scope name ∷ []
known_by all (made_in path) = if has all path then all else all ++ path ∷ []

-- the statement for an item
abbrev pub line : Known → Item → List ℕ
line all (made path) = []
line all (used scope name kind args) =
    if is_found all scope name then [] else absent_line kind args (name_of_segments true (absent scope name))
line all (made_in path) = if has all path then [] else absent_line 6 0 (name_of_segments true path)

abbrev pub known_after : Known → List Item → Known
known_after all [] = all
known_after all (i ∷ is) = known_after (known_by all i) is

abbrev pub lines : Known → List Item → List ℕ
lines all [] = []
lines all (i ∷ is) = line all i ++ lines (known_by all i) is

-- Items were gone through: the names became known, and the statements were added to a text.
pub record AreAdded (is : List Item) (old new : Known) (before after : List ℕ) : Type 0 where
  pub known : new ≡ known_after old is
  pub text : after ≡ before ++ lines old is

-- the root, and the objects that the operating system makes (ACPI 6.5, 5.3.1 and 5.7)
abbrev pub first_objects : List Item
first_objects =
    made [] ∷ made (codes "_GPE") ∷ made (codes "_PR_") ∷ made (codes "_SB_") ∷ made (codes "_SI_") ∷ made (codes "_TZ_")
    ∷ made (codes "_GL_") ∷ made (codes "_OS_") ∷ made (codes "_OSI") ∷ made (codes "_REV") ∷ []

-- All objects of a block first, and then what it uses: the scopes, which have to be devices, the methods, the scopes in which it
-- makes objects by a path, and the others. The last two may be scopes around an object of another block.
abbrev pub block_items : Terms → List Item
block_items ts =
    first_objects
    ++ (all_items Objects ts
    ++ (all_items Scopes ts
    ++ (all_items Methods ts ++ (all_items Around ts ++ (all_items Parents ts ++ all_items Others ts)))))

-- the External statements for the names of a block for which it has no object
unfoldable pub absent_text : Terms → List ℕ
absent_text ts = lines [] (block_items ts)

-- ---- names that all find an object

abbrev pub are_found : Known → List Item → Bool
are_found all [] = true
are_found all (made path ∷ is) = are_found all is
are_found all (used scope name kind args ∷ is) = is_found all scope name && are_found all is
are_found all (made_in path ∷ is) = has all path && are_found all is

-- whether those that a head uses do
abbrev pub own_found : Known → List ℕ → Head → Bool
own_found all scope h =
    are_found all (scope_items scope h) && (are_found all (parent_items scope h) && are_found all (other_items scope h))

-- Whether those that terms in a scope use do. Then there are no External statements (`block_silent`).
abbrev pub all_found : Known → List ℕ → Terms → Bool
all_found all scope end = true
all_found all scope (term h w children others) =
    own_found all scope h && (all_found all (inside scope h) children && all_found all scope others)
