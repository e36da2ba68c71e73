-- Laws about blocks. What is opened, filled and closed is one object: that of the constructor with the same children.
use Rattle.std.specs.Prelude.{◌≡◌, ℕ, ◌≤◌, false, List, [], ◌∷◌, ◌++◌, length, Option, Some, None, Result, Ok, Err}
use Rattle.acpi_base.specs.declared.error.Error.{Error}
use Rattle.acpi_base.specs.Object.{Object, all_of}
use Rattle.acpi_term.specs.Tree.{Head, def_name, def_package}
use Rattle.acpi_term.specs.Template.{template}
use Rattle.acpi_term.specs.Row.{own, own_width, layout, framed, row}
use Rattle.acpi_ops.specs.Package.{roomy_package}
use Rattle.acpi_build.specs.declared.error.BuildError.{BuildError}
use Rattle.acpi_build.specs.declared.error.BuildError.TheVariants as errors
use Rattle.acpi_build.specs.declared.level.Content.TheVariants.{Objects, Elements, Room, Descriptors}
use Rattle.acpi_build.specs.Block.{Writing, Block, empty, is_full, with_object, opened, closed, finished}

-- a step after another, unless that has an error
abbrev pub after : Block → (Writing → Block) → Block
after (Ok w) step = step w
after (Err e) step = Err e

abbrev pub with_objects : List Object → Writing → Block
with_objects [] w = Ok w
with_objects (object ∷ objects) w = after (with_object object w) (with_objects objects)

-- An object with a PkgLength is the row of its head: a scope, a device, a method, also one with a
-- level, a power resource, an If, an Else or a While.
abbrev pub ObjectsAreRows : Type 0
ObjectsAreRows =
    (h : Head) (code before : List ℕ) (objects : List Object) (w : Writing)
    → layout h (own_width h) (length objects) ≡ framed code before [] → own h (length objects) ≡ None
    → is_full w.level.content ≡ false
    → after (with_objects objects (opened Objects code before w)) closed ≡ with_object (row h objects) w

-- A package of at most 255 elements has their number.
abbrev pub PackagesAreRows : Type 0
PackagesAreRows =
    (objects : List Object) (w : Writing) → length objects ≤ 255 → is_full w.level.content ≡ false
    → after (with_objects objects (opened (Elements 0) (0x12 ∷ []) [] w)) closed ≡ with_object (row def_package objects) w

-- The same with a name.
abbrev pub NamedPackagesAreRows : Type 0
NamedPackagesAreRows =
    (path : List ℕ) (objects : List Object) (w : Writing) → length objects ≤ 255 → is_full w.level.content ≡ false
    → after (with_objects objects (opened (Elements 0) (0x08 ∷ path ++ 0x12 ∷ []) [] w)) closed
    ≡ with_object (row (def_name path) (row def_package objects ∷ [])) w

-- A package with room for its elements.
abbrev pub RoomyPackagesAreRows : Type 0
RoomyPackagesAreRows =
    (room : ℕ) (objects : List Object) (w : Writing) → length objects ≤ room → room ≤ 255 → is_full w.level.content ≡ false
    → after (with_objects objects (opened (Room 0 room) (0x12 ∷ []) [] w)) closed ≡ with_object (roomy_package room objects) w

-- The same with a name.
abbrev pub NamedRoomyPackagesAreRows : Type 0
NamedRoomyPackagesAreRows =
    (path : List ℕ) (room : ℕ) (objects : List Object) (w : Writing) → length objects ≤ room → room ≤ 255
    → is_full w.level.content ≡ false
    → after (with_objects objects (opened (Room 0 room) (0x08 ∷ path ++ 0x12 ∷ []) [] w)) closed
    ≡ with_object (row (def_name path) (roomy_package room objects ∷ [])) w

-- Resource descriptors with a name are a resource template with this name.
abbrev pub ResourcesAreTemplates : Type 0
ResourcesAreTemplates =
    (path : List ℕ) (objects : List Object) (w : Writing) → is_full w.level.content ≡ false
    → after (with_objects objects (opened Descriptors (0x08 ∷ path ++ 0x11 ∷ []) [] w)) closed
    ≡ with_object (row (def_name path) (template objects ∷ [])) w

-- the bytes of objects, or the first error
abbrev pub bytes_or : Option Error → List ℕ → Result (List ℕ) BuildError
bytes_or None bytes = Ok bytes
bytes_or (Some e) bytes = Err (errors.Object e)

abbrev pub finished_after : Block → Result (List ℕ) BuildError
finished_after (Ok w) = finished w
finished_after (Err e) = Err e

-- A block to which objects were added has their bytes, in order.
abbrev pub BlocksAreObjects : Type 0
BlocksAreObjects =
    (objects : List Object) → finished_after (with_objects objects empty) ≡ bytes_or (all_of objects).end (all_of objects).front
