-- Blocks: terms that are written call by call.
use Rattle.std.specs.Prelude.{◌≡◌, ◌≢◌, ℕ, ◌+◌, ◌==◌, nat_le, Bool, false, if◌then◌else◌}
use Rattle.std.specs.Prelude.{List, [], ◌∷◌, ◌++◌, length, take, drop, reverse, Option, Some, None, Result, Ok, Err, MatchResult}
use Rattle.std.specs.Prelude.{Vec}
use Rattle.std.specs.declared.alloc.Global.{Global}
use Rattle.acpi_base.specs.declared.error.Error.{Error}
use Rattle.acpi_base.specs.declared.error.Error.TheVariants.{FieldWidth, Memory, MethodArgs, PackageElements}
use Rattle.acpi_base.specs.Bytes.{le}
use Rattle.acpi_base.specs.Number.{number}
use Rattle.acpi_base.specs.Object.{Object, ended}
use Rattle.acpi_term.specs.Tree.{def_name, def_external, def_op_region, def_mutex, def_acquire, def_release, call, op}
use Rattle.acpi_term.specs.declared.op.Op.{Op}
use Rattle.acpi_term.specs.Operator.{operands}
use Rattle.acpi_term.specs.Template.{template_bytes}
use Rattle.acpi_term.specs.Row.{frame, method_flags, leveled_flags, row}
use Rattle.acpi_aml.specs.Field.{field_head}
use Rattle.acpi_aml.specs.NameText.{name_of}
use Rattle.acpi_aml.specs.Region.{region_space}
use Rattle.acpi_aml.specs.declared.field.FieldAccessType.{FieldAccessType}
use Rattle.acpi_aml.specs.declared.field.FieldLockRule.{FieldLockRule}
use Rattle.acpi_aml.specs.declared.field.FieldUpdateRule.{FieldUpdateRule}
use Rattle.acpi_aml.specs.declared.field.FieldEntry.{FieldEntry}
use Rattle.acpi_aml.specs.declared.region.OpRegionSpace.{OpRegionSpace}
use Rattle.acpi_ops.specs.declared.element.FieldElement.{FieldElement}
use Rattle.acpi_ops.specs.Element.{field_list_head}
use Rattle.acpi_build.specs.declared.error.BuildError.{BuildError}
use Rattle.acpi_build.specs.declared.error.BuildError.TheVariants as errors
use Rattle.acpi_build.specs.declared.level.Content.{Content}
use Rattle.acpi_build.specs.declared.level.Content.TheVariants.{Objects, Elements, Room, Descriptors}
use Rattle.acpi_build.specs.declared.level.Level.{Level}

-- Terms that are being written: the bytes so far, the innermost open object, and those around it, from the inside out. The last
-- of these levels isn't an object: it is the block.
pub record Writing : Type 0 where
  pub bytes : List ℕ
  pub level : Level
  pub outer : List Level

-- what was written, or the first error
abbrev pub Block : Type 0
Block = Result Writing BuildError

abbrev pub empty : Writing
empty = record { bytes = []; level = record { start = 0; content = Objects }; outer = [] }

-- ---- one object more

-- a package that has 255 elements takes no more, nor does one that has as many as it has room for
abbrev pub is_full : Content → Bool
is_full Objects = false
is_full (Elements n) = n == 255
is_full (Room n room) = nat_le room n
is_full Descriptors = false

abbrev pub counted : Content → Content
counted Objects = Objects
counted (Elements n) = Elements (n + 1)
counted (Room n room) = Room (n + 1) room
counted Descriptors = Descriptors

abbrev pub with_count : Level → Level
with_count level = record { start = level.start; content = counted level.content }

abbrev pub unless : Option Error → Writing → Block
unless None w = Ok w
unless (Some e) w = Err (errors.Object e)

-- an object, or `PackageElements`
abbrev pub element_of : Content → Object → Object
element_of content object = ended (if is_full content then Some PackageElements else None) object

abbrev pub with_object : Object → Writing → Block
with_object object w = unless (element_of w.level.content object).end (record {
  bytes = w.bytes ++ object.front;
  level = with_count w.level;
  outer = w.outer;
})

-- ---- objects that are opened and closed

-- The bytes before a PkgLength, and those after it, begin an object.
abbrev pub opened : Content → List ℕ → List ℕ → Writing → Writing
opened content code before w = record {
  bytes = w.bytes ++ (code ++ before);
  level = record { start = length (w.bytes ++ code); content = content };
  outer = w.level ∷ w.outer;
}

-- all bytes of an object after its PkgLength: a package has its number of elements or its room first, and
-- a buffer its size
abbrev pub within : Content → List ℕ → List ℕ
within Objects bytes = bytes
within (Elements n) bytes = n ∷ bytes
within (Room n room) bytes = room ∷ bytes
within Descriptors bytes = number (length (template_bytes bytes)) ++ template_bytes bytes

abbrev pub closed_into : List Level → Writing → Block
closed_into [] w = Err errors.NoneOpen
closed_into (level ∷ outer) w = with_object (frame [] (within w.level.content (drop w.level.start w.bytes))) (record {
  bytes = take w.level.start w.bytes;
  level = level;
  outer = outer;
})

-- The innermost object ends: its PkgLength is put before its content (ACPI 6.5, 20.2.4).
abbrev pub closed : Writing → Block
closed w = closed_into w.outer w

abbrev pub finished_in : List Level → List ℕ → Result (List ℕ) BuildError
finished_in [] bytes = Ok bytes
finished_in (level ∷ outer) bytes = Err errors.StillOpen

abbrev pub finished : Writing → Result (List ℕ) BuildError
finished w = finished_in w.outer w.bytes

-- ---- names

abbrev pub on_path : Option Error → Block → Block
on_path None block = block
on_path (Some e) block = Err (errors.Object e)

-- a step with the name of a text, or the error of the text
abbrev pub at_path : List ℕ → (List ℕ → Block) → Block
at_path text step = on_path (name_of text).end (step (name_of text).front)

abbrev pub with_name : List ℕ → Object → Writing → Block
with_name text object w = at_path text (λ path. with_object (row (def_name path) (object ∷ [])) w)

abbrev pub with_call : List ℕ → List Object → Writing → Block
with_call text args w = at_path text (λ path. with_object (row (call path) args) w)

abbrev pub with_external : List ℕ → ℕ → ℕ → Writing → Block
with_external text kind args w = at_path text (λ path. with_object (row (def_external path kind args) []) w)

abbrev pub with_region : List ℕ → OpRegionSpace → Object → Object → Writing → Block
with_region text space offset size w =
    at_path text (λ path. with_object (row (def_op_region path (region_space space)) (offset ∷ size ∷ [])) w)

abbrev pub with_field : List ℕ → FieldAccessType → FieldLockRule → FieldUpdateRule → List FieldEntry → Writing → Block
with_field text access lock update entries w =
    at_path text (λ path. with_object (row (field_head path access lock update entries) []) w)

abbrev pub with_field_list : List ℕ → FieldAccessType → FieldLockRule → FieldUpdateRule → List FieldElement → Writing → Block
with_field_list text access lock update elements w =
    at_path text (λ path. with_object (row (field_list_head path access lock update elements) []) w)

abbrev pub with_mutex : List ℕ → ℕ → Writing → Block
with_mutex text level w = at_path text (λ path. with_object (row (def_mutex path level) []) w)

abbrev pub with_acquire : List ℕ → ℕ → Writing → Block
with_acquire text timeout w = at_path text (λ path. with_object (row (def_acquire path timeout) []) w)

abbrev pub with_release : List ℕ → Writing → Block
with_release text w = at_path text (λ path. with_object (row (def_release path) []) w)

-- an operator with as many operands as it has
abbrev pub with_operator : Op → List Object → Writing → Block
with_operator o objects w =
    if length objects == operands o then with_object (row (op o) objects) w else Err errors.Operands

abbrev pub with_scope : List ℕ → Writing → Block
with_scope text w = at_path text (λ path. Ok (opened Objects (0x10 ∷ []) path w))

abbrev pub with_device : List ℕ → Writing → Block
with_device text w = at_path text (λ path. Ok (opened Objects (0x5b ∷ 0x82 ∷ []) path w))

abbrev pub with_thermal_zone : List ℕ → Writing → Block
with_thermal_zone text w = at_path text (λ path. Ok (opened Objects (0x5b ∷ 0x85 ∷ []) path w))

abbrev pub with_processor : List ℕ → ℕ → ℕ → ℕ → Writing → Block
with_processor text id address size w =
    at_path text (λ path. Ok (opened Objects (0x5b ∷ 0x83 ∷ []) (path ++ id ∷ (le 4 address ++ size ∷ [])) w))

abbrev pub with_power_resource : List ℕ → ℕ → ℕ → Writing → Block
with_power_resource text level order w =
    at_path text (λ path. Ok (opened Objects (0x5b ∷ 0x84 ∷ []) (path ++ level ∷ le 2 order) w))

abbrev pub with_method : List ℕ → ℕ → Bool → Writing → Block
with_method text args serialized w = at_path text (λ path.
    if nat_le args 7 then Ok (opened Objects (0x14 ∷ []) (path ++ method_flags args serialized ∷ []) w)
    else Err (errors.Object MethodArgs))

-- a method whose level fits four bits
abbrev pub with_leveled_method : List ℕ → ℕ → Bool → ℕ → Writing → Block
with_leveled_method text args serialized level w = at_path text (λ path.
    if nat_le level 15
    then (if nat_le args 7 then Ok (opened Objects (0x14 ∷ []) (path ++ leveled_flags args serialized level ∷ []) w)
    else Err (errors.Object MethodArgs))
    else Err (errors.Object FieldWidth))

abbrev pub with_package : Writing → Writing
with_package w = opened (Elements 0) (0x12 ∷ []) [] w

-- a package with room for so many elements
abbrev pub with_roomy_package : ℕ → Writing → Writing
with_roomy_package room w = opened (Room 0 room) (0x12 ∷ []) [] w

-- the package that has a name
abbrev pub with_named_package : List ℕ → Writing → Block
with_named_package text w = at_path text (λ path. Ok (opened (Elements 0) (0x08 ∷ path ++ 0x12 ∷ []) [] w))

-- the same with room
abbrev pub with_named_roomy_package : List ℕ → ℕ → Writing → Block
with_named_roomy_package text room w = at_path text (λ path. Ok (opened (Room 0 room) (0x08 ∷ path ++ 0x12 ∷ []) [] w))

-- the buffer of resource descriptors that has a name
abbrev pub with_resources : List ℕ → Writing → Block
with_resources text w = at_path text (λ path. Ok (opened Descriptors (0x08 ∷ path ++ 0x11 ∷ []) [] w))

abbrev pub with_if : Object → Writing → Block
with_if predicate w = with_object predicate (opened Objects (0xa0 ∷ []) [] w)

abbrev pub with_while : Object → Writing → Block
with_while predicate w = with_object predicate (opened Objects (0xa2 ∷ []) [] w)

abbrev pub with_else : Writing → Writing
with_else w = opened Objects (0xa1 ∷ []) [] w

-- ---- calls

-- the error of memory
abbrev pub out_of_memory : BuildError
out_of_memory = errors.Object Memory

-- a call did this step, or returns its error; the only other error is of memory
abbrev pub IsStep : Block → Writing → Result (Unit {0}) BuildError → Type 0
IsStep wanted w result = MatchResult result (λ _. wanted ≡ Ok w) (λ e. e ≢ out_of_memory → wanted ≡ Err e)

-- a block after a call with this result
abbrev pub kept : Block → Result (Unit {0}) BuildError → Block
kept block (Ok _) = block
kept block (Err e) = Err e

-- the end of a block that has no error
abbrev pub finished_block : Block → Result (List ℕ) BuildError
finished_block (Err e) = Err e
finished_block (Ok w) = finished w

-- ---- the code's values

abbrev pub state_of : Writing → Option BuildError → Block
state_of w None = Ok w
state_of w (Some e) = Err e

-- the bytes of a result
abbrev pub seen : Result (Vec ℕ Global) BuildError → Result (List ℕ) BuildError
seen (Ok bytes) = Ok bytes.items
seen (Err e) = Err e

abbrev pub writing : List ℕ → Level → List Level → Writing
writing bytes level outer = record { bytes = bytes; level = level; outer = reverse outer }
