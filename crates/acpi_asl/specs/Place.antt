-- Where terms stand in the text of another: in its parentheses, or in its braces.
use Rattle.std.specs.Prelude.{ℕ, zero, suc, ◌-◌, nat_le, ◌==◌, ◌&&◌, not, Bool, true, false, if◌then◌else◌, List}
use Rattle.std.specs.Prelude.{◌+◌, ◌*◌, [], ◌∷◌, ◌++◌, codes}
use Rattle.acpi_term.specs.declared.op.Op.{Op}
use Rattle.acpi_term.specs.declared.op.Op.TheVariants as op
use Rattle.acpi_term.specs.Tree.{Head, number, call, def_scope, def_device}
use Rattle.acpi_term.specs.Tree.{def_method, def_power_res, def_field, def_op_region, def_name}
use Rattle.acpi_term.specs.Tree.{def_buffer, def_package, def_var_package, def_if, def_while, def_else, op}
use Rattle.acpi_term.specs.Tree.{def_leveled_method, def_processor, def_thermal_zone, def_roomy_package, def_index_field}
use Rattle.acpi_term.specs.Tree.{def_bank_field}
use Rattle.acpi_term.specs.Tree.{def_fatal, match_test}
use Rattle.acpi_terms_text.specs.Comment.{has_ids}
use Rattle.acpi_terms_text.specs.Path.{last_segment}
use Rattle.acpi_asl.specs.declared.place.Body.{Body}
use Rattle.acpi_asl.specs.declared.place.Body.TheVariants.{Absent, Statements, Elements, Rows}
use Rattle.acpi_asl.specs.declared.place.Place.{Place}

-- how many of an operator's last operands are targets, which may be left out (ACPI 6.5, 19.2.5)
abbrev pub targets : Op → ℕ
targets op.Add = 1
targets op.Concat = 1
targets op.Subtract = 1
targets op.Multiply = 1
targets op.ShiftLeft = 1
targets op.ShiftRight = 1
targets op.And = 1
targets op.Nand = 1
targets op.Or = 1
targets op.Nor = 1
targets op.Xor = 1
targets op.ConcatRes = 1
targets op.Mod = 1
targets op.Index = 1
targets op.ToString = 1
targets op.ToBuffer = 1
targets op.ToInteger = 1
targets op.Mid = 1
targets op.Divide = 2
targets op.Not = 1
targets op.FindSetLeftBit = 1
targets op.FindSetRightBit = 1
targets op.ToDecimalString = 1
targets op.ToHexString = 1
targets op.CondRefOf = 1
targets op.FromBCD = 1
targets op.ToBCD = 1
targets _ = 0

-- this many arguments, after others of the term itself or not, of which the last ones are targets; and what is in the braces
abbrev pub in_place : ℕ → Bool → ℕ → Body → Place
in_place n led last body =
    record { arguments = n; led = led; targets = last; body = body; ids = false; uuids = false; tags = 0; externals = false }

-- in the braces alone
abbrev pub in_braces : Body → Place
in_braces body = in_place 0 false 0 body

-- the same, where numbers are ids or not, buffers of 16 bytes are UUIDs or not, and the tags of templates have this number
abbrev pub with_values : Bool → Bool → ℕ → Place → Place
with_values ids uuids tags p =
    record {
      arguments = p.arguments;
      led = p.led;
      targets = p.targets;
      body = p.body;
      ids = ids;
      uuids = uuids;
      tags = tags;
      externals = p.externals;
    }

-- the same, after a block of External statements or not
abbrev pub with_externals : Bool → Place → Place
with_externals externals p =
    record {
      arguments = p.arguments;
      led = p.led;
      targets = p.targets;
      body = p.body;
      ids = p.ids;
      uuids = p.uuids;
      tags = p.tags;
      externals = externals;
    }

-- Whether a buffer of 16 bytes among a head's children is a UUID: if it is compared, as methods do with their first argument
-- (ACPI 6.5, 6.2.11 and 9.1.1).
abbrev pub has_uuids : Head → Bool
has_uuids (op op.LEqual) = true
has_uuids _ = false

-- The number of the tags in the resource template that is the value of a name with this last segment. The tags of a template are
-- names of the scope around it, so other names of a scope should have other numbers. A tag shows the number modulo 4,096.
abbrev pub tags_by : List ℕ → ℕ
tags_by (a ∷ b ∷ c ∷ d ∷ []) = 1021 * a + 509 * b + 251 * c + 67 * d
tags_by _ = 0

abbrev pub tags : Head → ℕ
tags (def_name name) = tags_by (last_segment name)
tags _ = 0

-- Where the n children of a head begin (ACPI 6.5, 19.2.3 to 19.2.5).
abbrev pub place : Head → ℕ → Place
place (call name) n = in_place n false 0 Absent
place (def_scope name) n = in_braces Statements
place (def_device name) n = in_braces Statements
place (def_method name args serialized) n = in_braces Statements
place (def_power_res name level order) n = in_braces Statements
place (def_field name access lock update entries) n = in_braces Rows
place (def_op_region name space) n = in_place 2 true 0 Absent
place (def_name name) n = in_place 1 true 0 Absent
place (def_buffer bytes) n = in_place 1 false 0 Rows
place def_package n = in_braces Elements
place def_var_package n = in_place 1 false 0 Elements
place def_if n = in_place 1 false 0 Statements
place def_while n = in_place 1 false 0 Statements
place def_else n = in_braces Statements
place (op o) n = in_place n false (targets o) Absent
place (def_leveled_method name args serialized level) n = in_braces Statements
place (def_processor name id address size) n = in_braces Statements
place (def_thermal_zone name) n = in_braces Statements
place (def_roomy_package room) n = in_braces Elements
place (def_index_field index name access lock update entries) n = in_braces Rows
place (def_fatal kind code) n = in_place 1 true 0 Absent
-- The value of a BankField is followed by other arguments, and the operand of a test by another argument of the Match.
place (def_bank_field name bank access lock update entries) n = in_place 2 true 0 Absent
place (match_test k) n = in_place 2 true 0 Absent
place _ n = in_braces Absent

-- the same, if the head stands in a place
abbrev pub place_in : Place → Head → ℕ → Place
place_in p h n = with_values (has_ids p.ids h) (has_uuids h) (tags h) (place h n)

-- the place after one term, which is a block of External statements or not
abbrev pub next : Place → Bool → Place
next p externals =
    with_externals externals
    (with_values p.ids p.uuids p.tags (in_place (p.arguments - 1) (not (p.arguments == 1)) p.targets p.body))

abbrev pub has_braces : Body → Bool
has_braces Absent = false
has_braces _ = true

abbrev pub is_elements : Body → Bool
is_elements Elements = true
is_elements _ = false

abbrev pub is_statements : Body → Bool
is_statements Statements = true
is_statements _ = false

-- whether a term in this place is a statement
abbrev pub is_statement : Place → Bool
is_statement p = p.arguments == 0 && is_statements p.body

-- whether the term is a target that is left out: NullName (ACPI 6.5, 20.2.2), which is the byte of Zero
abbrev pub is_null : Head → ℕ → Bool
is_null (number v) w = v == 0 && w == 0
is_null _ w = false

abbrev pub is_left_out : Place → Head → ℕ → Bool
is_left_out p h w = nat_le 1 p.arguments && nat_le p.arguments p.targets && is_null h w

-- ---- layout

-- four spaces for each level
abbrev pub spaces : ℕ → List ℕ
spaces zero = []
spaces (suc d) = 32 ∷ 32 ∷ 32 ∷ 32 ∷ spaces d

-- the beginning of a line
abbrev pub new_line : ℕ → List ℕ
new_line d = 10 ∷ spaces d

-- the depth of a term in a place of a term at depth d
abbrev pub depth_in : Place → ℕ → ℕ
depth_in p d = if p.arguments == 0 then suc d else d

abbrev pub opened : Body → ℕ → List ℕ
opened body d = if has_braces body then new_line d ++ codes "{" else []

abbrev pub closed : Body → ℕ → List ℕ
closed body d = if has_braces body then new_line d ++ codes "}" else []

-- the comma before a term in a place; none before a last argument that is left out
abbrev pub separator : Place → Bool → List ℕ
separator p left_out =
    if not p.led then []
    else (if p.arguments == 0 then (if is_elements p.body then codes "," else [])
    else (if left_out && p.arguments == 1 then [] else codes ", "))

-- what stands before a term in a place of a term at depth d
abbrev pub before : Place → Bool → ℕ → List ℕ
before p left_out d = separator p left_out ++ (if p.arguments == 0 then new_line (suc d) else [])

-- what stands after it: the end of the parentheses after the last argument
abbrev pub after : Place → ℕ → List ℕ
after p d = if p.arguments == 1 then codes ")" ++ opened p.body d else []
