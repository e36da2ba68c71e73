-- What is added to an open object, and what it is once it is closed.
use Rattle.std.proofs.Common.{◌≡◌, ℕ, ◌+◌, ◌≤◌, List, [], ◌∷◌, ◌++◌, length, take, drop, Bool, true, false, eqb, Some, None, refl, sym, ap, ◌∙◌, arith, append_assoc, take_at, drop_at}
use Rattle.std.specs.Prelude.{Option}
use Rattle.std.proofs.lemmas.List.{append-nil}
use Rattle.std.proofs.lemmas.Bool.{eqb-true, eqb-false}
use Rattle.std.proofs.lemmas.Bool.Decides.{nat_tests}
use Rattle.acpi_base.specs.declared.error.Error.{Error}
use Rattle.acpi_base.specs.Number.{number}
use Rattle.acpi_base.specs.Object.{Object, whole, ended, joined_by, all_of}
use Rattle.acpi_term.specs.Tree.{Head, def_name, def_package, def_roomy_package}
use Rattle.acpi_term.specs.Length.{least_width, with_length}
use Rattle.acpi_term.specs.Template.{template, template_bytes, buffer_of_bytes}
use Rattle.acpi_term.specs.Row.{Layout, own, own_width, layout, framed, frame_end, frame, around, row}
use Rattle.acpi_ops.specs.Package.{roomy_package}
use Rattle.acpi_build.specs.declared.level.Content.{Content}
use Rattle.acpi_build.specs.declared.level.Content.TheVariants.{Objects, Elements, Room, Descriptors}
use Rattle.acpi_build.specs.declared.level.Level.{Level}
use Rattle.acpi_build.specs.Block.{Writing, Block, empty, is_full, counted, with_count, unless, element_of, with_object, opened, within, closed}
use Rattle.acpi_build.specs.Laws.{after, with_objects, bytes_or, finished_after}

abbrev at_level : ℕ → Content → List Level → List ℕ → Writing
at_level start content outer bytes = record { bytes = bytes; level = record { start = start; content = content }; outer = outer }

-- the content after these objects
abbrev grown : List Object → Content → Content
grown [] content = content
grown (o ∷ os) content = grown os (counted content)

-- it has room for each of them
abbrev HasRoom : List Object → Content → Type 0
HasRoom [] content = Unit {0}
HasRoom (o ∷ os) content = (is_full content ≡ false) × HasRoom os (counted content)

roomy_element : (content : Content) (o : Object) → is_full content ≡ false → element_of content o ≡ o
roomy_element content o room = rw room refl

-- ---- objects that are added

module _ (start : ℕ) (outer : List Level) where
  after_one : (o : Object) (os : List Object) (content last : Content) (bytes : List ℕ) (end : Option Error)
      → with_objects os (at_level start content outer (bytes ++ o.front)) ≡ unless (all_of os).end (at_level start last outer ((bytes ++ o.front) ++ (all_of os).front))
      → after (unless end (at_level start content outer (bytes ++ o.front))) (with_objects os)
      ≡ unless (joined_by o.front o.wants_memory (all_of os) end).end (at_level start last outer (bytes ++ (joined_by o.front o.wants_memory (all_of os) end).front))
  after_one o os content last bytes None rest = rest ∙ ap (λ (l : List ℕ). unless (all_of os).end (at_level start last outer l)) (append_assoc bytes o.front (all_of os).front)
  after_one o os content last bytes (Some e) rest = refl

  pub added : (os : List Object) (content : Content) (bytes : List ℕ) → HasRoom os content
      → with_objects os (at_level start content outer bytes) ≡ unless (all_of os).end (at_level start (grown os content) outer (bytes ++ (all_of os).front))
  added [] content bytes room = ap (λ (l : List ℕ). unless None (at_level start content outer l)) (sym (append-nil bytes))
  added (o ∷ os) content bytes room =
      ap (λ (p : Object). after (unless p.end (at_level start (counted content) outer (bytes ++ o.front))) (with_objects os)) (roomy_element content o room.0)
      ∙ after_one o os (counted content) (grown os (counted content)) bytes o.end (added os (counted content) (bytes ++ o.front) room.1)

-- ---- objects that are closed

-- bytes before a frame, and within it
cut : (bytes code : List ℕ) (end : Option Error) (framing : List ℕ) (level : Level) (outer : List Level)
    → unless (ended end (whole framing)).end (record { bytes = (bytes ++ code) ++ (ended end (whole framing)).front; level = with_count level; outer = outer })
    ≡ unless (ended end (whole (code ++ framing))).end (record { bytes = bytes ++ (ended end (whole (code ++ framing))).front; level = with_count level; outer = outer })
cut bytes code None framing level outer = ap (λ (l : List ℕ). unless None (record { bytes = l; level = with_count level; outer = outer })) (append_assoc bytes code framing)
cut bytes code (Some e) framing level outer = refl

module _ (code before : List ℕ) (os : List Object) (w : Writing) (content : Content) (room : HasRoom os content) (free : is_full w.level.content ≡ false) where
  abbrev front : List ℕ
  front = (all_of os).front

  abbrev last : Content
  last = grown os content

  abbrev full : List ℕ
  full = (w.bytes ++ (code ++ before)) ++ front

  joined : full ≡ (w.bytes ++ code) ++ (before ++ front)
  joined = ap (λ (l : List ℕ). l ++ front) (sym (append_assoc w.bytes code before)) ∙ append_assoc (w.bytes ++ code) before front

  taken : take (length (w.bytes ++ code)) full ≡ w.bytes ++ code
  taken = ap (take (length (w.bytes ++ code))) joined ∙ take_at (w.bytes ++ code) (before ++ front) (length (w.bytes ++ code)) refl

  dropped : drop (length (w.bytes ++ code)) full ≡ before ++ front
  dropped = ap (drop (length (w.bytes ++ code))) joined ∙ drop_at (w.bytes ++ code) (before ++ front) (length (w.bytes ++ code)) refl

  closes : closed (at_level (length (w.bytes ++ code)) last (w.level ∷ w.outer) full) ≡ with_object (frame code (within last (before ++ front))) w
  closes =
      let inside = within last (before ++ front) in
      ap (λ (l : List ℕ). with_object (frame [] (within last l)) (record { bytes = take (length (w.bytes ++ code)) full; level = w.level; outer = w.outer })) dropped
      ∙ ap (λ (l : List ℕ). with_object (frame [] inside) (record { bytes = l; level = w.level; outer = w.outer })) taken
      ∙ ap (λ (p : Object). unless p.end (record { bytes = (w.bytes ++ code) ++ (frame [] inside).front; level = with_count w.level; outer = w.outer })) (roomy_element w.level.content (frame [] inside) free)
      ∙ cut w.bytes code (frame_end (length inside)) (with_length (least_width (length inside)) inside) w.level w.outer
      ∙ ap (λ (p : Object). unless p.end (record { bytes = w.bytes ++ (frame code inside).front; level = with_count w.level; outer = w.outer })) (sym (roomy_element w.level.content (frame code inside) free))

  closes_at : (end : Option Error) → after (unless end (at_level (length (w.bytes ++ code)) last (w.level ∷ w.outer) full)) closed
      ≡ with_object (ended end (frame code (within last (before ++ front)))) w
  closes_at None = closes
  closes_at (Some e) = ap (λ (p : Object). unless p.end (record { bytes = w.bytes ++ []; level = with_count w.level; outer = w.outer })) (sym (roomy_element w.level.content (ended (Some e) (whole [])) free))

  pub closed_object : after (with_objects os (opened content code before w)) closed ≡ with_object (ended (all_of os).end (frame code (within last (before ++ front)))) w
  closed_object =
      ap (λ (b : Block). after b closed) (added (length (w.bytes ++ code)) (w.level ∷ w.outer) os content (w.bytes ++ (code ++ before)) room)
      ∙ closes_at (all_of os).end

-- ---- what objects there are

objects_have_room : (os : List Object) → HasRoom os Objects
objects_have_room [] = tt
objects_have_room (o ∷ os) = (refl, objects_have_room os)

objects_grown : (os : List Object) → grown os Objects ≡ Objects
objects_grown [] = refl
objects_grown (o ∷ os) = objects_grown os

descriptors_have_room : (os : List Object) → HasRoom os Descriptors
descriptors_have_room [] = tt
descriptors_have_room (o ∷ os) = (refl, descriptors_have_room os)

descriptors_grown : (os : List Object) → grown os Descriptors ≡ Descriptors
descriptors_grown [] = refl
descriptors_grown (o ∷ os) = descriptors_grown os

elements_have_room : (os : List Object) (n : ℕ) → n + length os ≤ 255 → HasRoom os (Elements n)
elements_have_room [] n few = tt
elements_have_room (o ∷ os) n few = (grind (arith, nat_tests), elements_have_room os (n + 1) (omega arith))

elements_grown : (os : List Object) (n : ℕ) → grown os (Elements n) ≡ Elements (n + length os)
elements_grown [] n = ap Elements (omega arith)
elements_grown (o ∷ os) n = elements_grown os (n + 1) ∙ ap Elements (omega arith)

pub objects_are_rows : (h : Head) (code before : List ℕ) (os : List Object) (w : Writing)
    → layout h (own_width h) (length os) ≡ framed code before [] → own h (length os) ≡ None → is_full w.level.content ≡ false
    → after (with_objects os (opened Objects code before w)) closed ≡ with_object (row h os) w
objects_are_rows h code before os w is owns free =
    closed_object code before os w Objects (objects_have_room os) free
    ∙ ap (λ (c : Content). with_object (ended (all_of os).end (frame code (within c (before ++ (all_of os).front)))) w) (objects_grown os)
    ∙ ap (λ (l : List ℕ). with_object (ended (all_of os).end (frame code (before ++ l))) w) (sym (append-nil (all_of os).front))
    ∙ ap (λ (l : Layout). with_object (around l (all_of os)) w) (sym is)
    ∙ ap (λ (e : Option Error). with_object (ended e (around (layout h (own_width h) (length os)) (all_of os))) w) (sym owns)

few_own : (n : ℕ) → n ≤ 255 → own def_package n ≡ None
few_own n few = grind (arith, nat_tests)

package_is : (os : List Object) → length os ≤ 255 → ended (all_of os).end (frame (0x12 ∷ []) (length os ∷ (all_of os).front)) ≡ row def_package os
package_is os few =
    ap (λ (l : List ℕ). ended (all_of os).end (frame (0x12 ∷ []) (length os ∷ l))) (sym (append-nil (all_of os).front))
    ∙ ap (λ (e : Option Error). ended e (around (layout def_package 0 (length os)) (all_of os))) (sym (few_own (length os) few))

-- a package behind any code
packed : (code : List ℕ) (os : List Object) (w : Writing) → length os ≤ 255 → is_full w.level.content ≡ false
    → after (with_objects os (opened (Elements 0) code [] w)) closed ≡ with_object (ended (all_of os).end (frame code (length os ∷ (all_of os).front))) w
packed code os w few free =
    closed_object code [] os w (Elements 0) (elements_have_room os 0 (omega arith)) free
    ∙ ap (λ (c : Content). with_object (ended (all_of os).end (frame code (within c (all_of os).front))) w) (elements_grown os 0)
    ∙ ap (λ n. with_object (ended (all_of os).end (frame code (n ∷ (all_of os).front))) w) (omega arith)

pub packages_are_rows : (os : List Object) (w : Writing) → length os ≤ 255 → is_full w.level.content ≡ false
    → after (with_objects os (opened (Elements 0) (0x12 ∷ []) [] w)) closed ≡ with_object (row def_package os) w
packages_are_rows os w few free = packed (0x12 ∷ []) os w few free ∙ ap (λ (p : Object). with_object p w) (package_is os few)

-- ---- the same with a name

-- the name of a frame is a frame behind the name's bytes
named : (path code content : List ℕ) (end rest : Option Error) (wants : Bool)
    → ended end (ended rest (whole ((0x08 ∷ path ++ code) ++ content)))
    ≡ row (def_name path) (ended end (ended rest (whole (code ++ content))) ∷ [])
named path code content None None wants = ap whole (ap (λ (l : List ℕ). 0x08 ∷ l) (append_assoc path code content ∙ ap (λ (l : List ℕ). path ++ l) (sym (append-nil (code ++ content)))))
named path code content None (Some e) wants = refl
named path code content (Some e) rest wants = refl

named_frame : (path code content : List ℕ) (end : Option Error) → ended end (frame (0x08 ∷ path ++ code) content) ≡ row (def_name path) (ended end (frame code content) ∷ [])
named_frame path code content end = named path code (with_length (least_width (length content)) content) end (frame_end (length content)) false

pub named_packages_are_rows : (path : List ℕ) (os : List Object) (w : Writing) → length os ≤ 255 → is_full w.level.content ≡ false
    → after (with_objects os (opened (Elements 0) (0x08 ∷ path ++ 0x12 ∷ []) [] w)) closed ≡ with_object (row (def_name path) (row def_package os ∷ [])) w
named_packages_are_rows path os w few free =
    packed (0x08 ∷ path ++ 0x12 ∷ []) os w few free
    ∙ ap (λ (p : Object). with_object p w) (named_frame path (0x12 ∷ []) (length os ∷ (all_of os).front) (all_of os).end ∙ ap (λ (p : Object). row (def_name path) (p ∷ [])) (package_is os few))

-- ---- packages with room

room_for : (os : List Object) (n room : ℕ) → n + length os ≤ room → HasRoom os (Room n room)
room_for [] n room few = tt
room_for (o ∷ os) n room few = (grind (arith, nat_tests), room_for os (n + 1) room (omega arith))

room_grown : (os : List Object) (n room : ℕ) → grown os (Room n room) ≡ Room (n + length os) room
room_grown [] n room = ap (λ k. Room k room) (omega arith)
room_grown (o ∷ os) n room = room_grown os (n + 1) room ∙ ap (λ k. Room k room) (omega arith)

roomy_from : (t : Bool) (room : ℕ) (os : List Object) → eqb (length os) room ≡ t → length os ≤ room → room ≤ 255
    → ended (all_of os).end (frame (0x12 ∷ []) (room ∷ (all_of os).front)) ≡ roomy_package room os
roomy_from true room os h fits few =
    let same : length os ≡ room = eqb-true (length os) room h in
    rw h (ap (λ n. ended (all_of os).end (frame (0x12 ∷ []) (n ∷ (all_of os).front))) (sym same) ∙ package_is os (omega (arith, same)))
roomy_from false room os h fits few =
    let owns : own (def_roomy_package room) (length os) ≡ None = let other = eqb-false (length os) room h in grind (arith, nat_tests) in
    rw h (
    ap (λ (l : List ℕ). ended (all_of os).end (frame (0x12 ∷ []) (room ∷ l))) (sym (append-nil (all_of os).front))
    ∙ ap (λ (e : Option Error). ended e (around (layout (def_roomy_package room) 0 (length os)) (all_of os))) (sym owns)
    )

roomy_is : (room : ℕ) (os : List Object) → length os ≤ room → room ≤ 255 → ended (all_of os).end (frame (0x12 ∷ []) (room ∷ (all_of os).front)) ≡ roomy_package room os
roomy_is room os = roomy_from (eqb (length os) room) room os refl

-- a package with room behind any code
packed_with_room : (code : List ℕ) (room : ℕ) (os : List Object) (w : Writing) → length os ≤ room → is_full w.level.content ≡ false
    → after (with_objects os (opened (Room 0 room) code [] w)) closed ≡ with_object (ended (all_of os).end (frame code (room ∷ (all_of os).front))) w
packed_with_room code room os w fits free =
    closed_object code [] os w (Room 0 room) (room_for os 0 room (omega (arith, fits))) free
    ∙ ap (λ (c : Content). with_object (ended (all_of os).end (frame code (within c (all_of os).front))) w) (room_grown os 0 room)

pub roomy_packages_are_rows : (room : ℕ) (os : List Object) (w : Writing) → length os ≤ room → room ≤ 255 → is_full w.level.content ≡ false
    → after (with_objects os (opened (Room 0 room) (0x12 ∷ []) [] w)) closed ≡ with_object (roomy_package room os) w
roomy_packages_are_rows room os w fits few free = packed_with_room (0x12 ∷ []) room os w fits free ∙ ap (λ (p : Object). with_object p w) (roomy_is room os fits few)

pub named_roomy_packages_are_rows : (path : List ℕ) (room : ℕ) (os : List Object) (w : Writing) → length os ≤ room → room ≤ 255 → is_full w.level.content ≡ false
    → after (with_objects os (opened (Room 0 room) (0x08 ∷ path ++ 0x12 ∷ []) [] w)) closed ≡ with_object (row (def_name path) (roomy_package room os ∷ [])) w
named_roomy_packages_are_rows path room os w fits few free =
    packed_with_room (0x08 ∷ path ++ 0x12 ∷ []) room os w fits free
    ∙ ap (λ (p : Object). with_object p w) (named_frame path (0x12 ∷ []) (room ∷ (all_of os).front) (all_of os).end ∙ ap (λ (p : Object). row (def_name path) (p ∷ [])) (roomy_is room os fits few))

-- the buffer of these bytes is a frame of their number and the bytes
buffer_is : (bytes : List ℕ) → frame (0x11 ∷ []) (number (length bytes) ++ bytes) ≡ buffer_of_bytes bytes
buffer_is bytes = ap (λ (l : List ℕ). frame (0x11 ∷ []) (l ++ bytes)) (sym (append-nil (number (length bytes))))

pub resources_are_templates : (path : List ℕ) (os : List Object) (w : Writing) → is_full w.level.content ≡ false
    → after (with_objects os (opened Descriptors (0x08 ∷ path ++ 0x11 ∷ []) [] w)) closed ≡ with_object (row (def_name path) (template os ∷ [])) w
resources_are_templates path os w free =
    let inside = number (length (template_bytes (all_of os).front)) ++ template_bytes (all_of os).front in
    closed_object (0x08 ∷ path ++ 0x11 ∷ []) [] os w Descriptors (descriptors_have_room os) free
    ∙ ap (λ (c : Content). with_object (ended (all_of os).end (frame (0x08 ∷ path ++ 0x11 ∷ []) (within c (all_of os).front))) w) (descriptors_grown os)
    ∙ ap (λ (p : Object). with_object p w) (named_frame path (0x11 ∷ []) inside (all_of os).end ∙ ap (λ (p : Object). row (def_name path) (ended (all_of os).end p ∷ [])) (buffer_is (template_bytes (all_of os).front)))

-- ---- blocks

block_ends : (end : Option Error) (bytes : List ℕ) → finished_after (unless end (at_level 0 Objects [] bytes)) ≡ bytes_or end bytes
block_ends None bytes = refl
block_ends (Some e) bytes = refl

pub blocks_are_objects : (os : List Object) → finished_after (with_objects os empty) ≡ bytes_or (all_of os).end (all_of os).front
blocks_are_objects os =
    ap finished_after (added 0 [] os Objects [] (objects_have_room os)
    ∙ ap (λ (c : Content). unless (all_of os).end (at_level 0 c [] (all_of os).front)) (objects_grown os))
    ∙ block_ends (all_of os).end (all_of os).front
