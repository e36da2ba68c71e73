-- Laws about the definitions, which hold for all calls.
use Rattle.std.specs.Prelude.{◌≡◌, ◌↔◌, ℕ, ◌+◌, ◌^◌, ◌<◌, ◌≤◌, List, ◌++◌, length, Some, None, true}
use Rattle.acpi_base.specs.Bytes.{AreBytes}
use Rattle.acpi_base.specs.Number.{number_limit, number_bytes, number_width}
use Rattle.acpi_base.specs.Object.{Object, whole, all_of}
use Rattle.acpi_term.specs.declared.mode.Mode.{Mode}
use Rattle.acpi_term.specs.declared.language.Language.TheVariants.{Written}
use Rattle.acpi_term.specs.Language.{Grammar}
use Rattle.acpi_term.specs.Tree.{Head, Terms, count, one}
use Rattle.acpi_term.specs.Name.{IsName}
use Rattle.acpi_term.specs.PathText.{parts, with_dots, AreDotless, is_name_text, path_spelling, path_of}
use Rattle.acpi_term.specs.Length.{value, Frames, limit, length_bytes, with_length, FrameFits, least_width}
use Rattle.acpi_term.specs.Row.{row, around, layout, own, own_width, writer_width}
use Rattle.acpi_term.specs.Spelling.{Takes, IsStandard, IsWritten, SpellEach, Spells, SpellsIn, inner}
use Rattle.acpi_term.specs.Splits.{SplitsIn}

-- ---- rows

-- If a row has no error, its bytes spell the term of its head over the terms of its children, in every place and in the width
-- that is written.
abbrev pub RowsMean : Type 0
RowsMean =
    (arity : List ℕ → ℕ) (m : Mode) (h : Head) (objects : List Object) (ts : Terms)
    → Takes arity m h (length objects) → IsStandard Written h → IsWritten h → SpellEach arity (inner Written h) objects ts
    → (row h objects).end ≡ None
    → Spells arity m (row h objects).front (one h (writer_width h (length objects) (all_of objects).front) ts)

-- The same, where one list of bytes spells all children.
abbrev pub RowsOverMean : Type 0
RowsOverMean =
    (arity : List ℕ → ℕ) (m : Mode) (h : Head) (bytes : List ℕ) (ts : Terms)
    → Takes arity m h (count ts) → IsStandard Written h → IsWritten h → own h (count ts) ≡ None
    → Spells arity (inner Written h) bytes ts
    → (around (layout h (own_width h) (count ts)) (whole bytes)).end ≡ None
    → Spells arity m (around (layout h (own_width h) (count ts)) (whole bytes)).front (one h (writer_width h (count ts) bytes) ts)

-- If each object spells a term, the objects in order spell the list of these terms.
abbrev pub ObjectsMean : Type 0
ObjectsMean =
    (arity : List ℕ → ℕ) (m : Mode) (objects : List Object) (ts : Terms)
    → SpellEach arity m objects ts → (all_of objects).end ≡ None → Spells arity m (all_of objects).front ts

-- ---- unique reading

-- In each language bytes spell at most one list of terms, for each place of the first, and no other bytes spell this list.
abbrev pub AtMostOneList : Type 0
AtMostOneList =
    ((g : Grammar) (m : Mode) (bytes : List ℕ) (ts us : Terms) → SpellsIn g m bytes ts → SpellsIn g m bytes us
    → ts ≡ us)
    × ((g : Grammar) (m : Mode) (a b : List ℕ) (ts : Terms) → SpellsIn g m a ts → SpellsIn g m b ts → a ≡ b)

-- In each language, if two prefixes of the same bytes spell a term each, they are the same prefix and the same term.
abbrev pub AtMostOneFront : Type 0
AtMostOneFront =
    (g : Grammar) (m : Mode) (a_head b_head : Head) (v w : ℕ) (c d : Terms) (a b x y : List ℕ)
    → SpellsIn g m a (one a_head v c) → SpellsIn g m b (one b_head w d) → a ++ x ≡ b ++ y
    → (a ≡ b) × (one a_head v c ≡ one b_head w d) × (x ≡ y)

-- The spelling as a function and as a relation on cut bytes are the same.
abbrev pub SplitsAgree : Type 0
SplitsAgree = (g : Grammar) (m : Mode) (bytes : List ℕ) (ts : Terms) → SpellsIn g m bytes ts ↔ SplitsIn g m bytes ts

-- ---- names

-- A text of 1 to 255 standard segments is the text of a name, and its path has the bytes of that name and no error.
abbrev pub NameTextsAreNames : Type 0
NameTextsAreNames = (text : List ℕ) → is_name_text text ≡ true
    → IsName (path_spelling text) × ((path_of text).end ≡ None) × ((path_of text).front ≡ path_spelling text)

-- A text is its parts with dots between them, and no part contains a dot.
abbrev pub TextsAreTheirParts : Type 0
TextsAreTheirParts = (text : List ℕ) → (with_dots (parts text) ≡ text) × AreDotless (parts text)

-- ---- lengths and numbers

-- The bytes of a value in a width have that value. Bytes that have a value are the bytes of it in their width.
abbrev pub LengthsAreSpelled : Type 0
LengthsAreSpelled =
    ((w v : ℕ) → v < limit w → AreBytes (length_bytes w v) × (value (length_bytes w v) ≡ Some v)
    × (length (length_bytes w v) ≡ w))
    × ((p : List ℕ) (v : ℕ) → AreBytes p → value p ≡ Some v → (v < limit (length p)) × (length_bytes (length p) v ≡ p))

-- The PkgLengths of a content are the lengths in each width that fits it.
abbrev pub FramesAreSpelled : Type 0
FramesAreSpelled =
    ((w : ℕ) (content : List ℕ) → FrameFits w content
    → (p : List ℕ) × Frames p content × (length p ≡ w) × (with_length w content ≡ p ++ content))
    × ((p content : List ℕ) → Frames p content → FrameFits (length p) content × (with_length (length p) content ≡ p ++ content))

-- The PkgLength that is written fits, and no shorter one does. A content of 2^28 - 4 bytes or more has none.
abbrev pub FramesAreLeast : Type 0
FramesAreLeast =
    ((content : List ℕ) → 4 + length content < 2 ^ 28 → FrameFits (least_width (length content)) content)
    × ((p content : List ℕ) → Frames p content → (least_width (length content) ≤ length p) × (4 + length content < 2 ^ 28))

-- The first bytes of a frame have a value, which gives the end of the frame.
abbrev pub FramesEndWithTheirContent : Type 0
FramesEndWithTheirContent = (w : ℕ) (content : List ℕ) → FrameFits w content
    → value (length_bytes w (w + length content)) ≡ Some (length (with_length w content))

-- The length of a field entry is written in the least width that fits the length and that width together, or in 4 bytes if none
-- does. From 2^28 bits on it has no width.
abbrev pub FieldLengthsAreLeast : Type 0
FieldLengthsAreLeast =
    ((bits : ℕ) → bits < 2 ^ 28 → bits < limit (least_width bits))
    × ((bits w : ℕ) → w + bits < limit w → (least_width bits ≤ w) × (least_width bits + bits < limit (least_width bits)))
    × ((bits : ℕ) → 2 ^ 28 ≤ 4 + bits → least_width bits ≡ 4) × ((bits w : ℕ) → bits < limit w → bits < 2 ^ 28)

-- The number fits the width that is written, and no shorter one. From 2^64 on there is none.
abbrev pub NumbersAreLeast : Type 0
NumbersAreLeast =
    ((v : ℕ) → v < 2 ^ 64 → v < number_limit (number_width v))
    × ((v w : ℕ) → v < number_limit w → (v < 2 ^ 64) × (number_width v ≤ w)
    × (length (number_bytes v (number_width v)) ≤ length (number_bytes v w)))
