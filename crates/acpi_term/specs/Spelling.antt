-- The bytes that spell terms, and the terms that have a spelling (ACPI 6.5, 20.2).
use Rattle.std.specs.Prelude.{◌≡◌, ℕ, ◌<◌, ◌≤◌, ◌^◌, List, [], ◌∷◌, ◌++◌, None, Bool, true, false}
use Rattle.acpi_base.specs.Bytes.{AreBytes}
use Rattle.acpi_base.specs.Number.{number_limit}
use Rattle.acpi_base.specs.Object.{Object}
use Rattle.acpi_term.specs.declared.mode.Mode.{Mode}
use Rattle.acpi_term.specs.declared.mode.Mode.TheVariants.{Term, Element, Count, Searched, FirstTest, SecondTest}
use Rattle.acpi_term.specs.declared.mode.Mode.TheVariants.{Acquired, Released, Timeout}
use Rattle.acpi_term.specs.Tree.{Entry, named, reserved, access_as, extended_access_as, connection, connection_buffer}
use Rattle.acpi_term.specs.Tree.{Head, number, string, call, def_scope, def_device}
use Rattle.acpi_term.specs.Tree.{def_method, def_power_res, def_field, def_op_region, def_name, def_mutex}
use Rattle.acpi_term.specs.Tree.{def_acquire, def_release, def_buffer, def_package, def_var_package}
use Rattle.acpi_term.specs.Tree.{def_if, def_while, def_else, op, Terms, end, term, count, one}
use Rattle.acpi_term.specs.Tree.{def_external, def_leveled_method, def_processor, def_thermal_zone, def_roomy_package}
use Rattle.acpi_term.specs.Tree.{def_index_field, def_bank_field}
use Rattle.acpi_term.specs.Tree.{def_fatal, match_test, def_timeout, unread}
use Rattle.acpi_term.specs.declared.language.Language.TheVariants.{Written, Standard}
use Rattle.acpi_term.specs.Name.{AreSegments, IsNameIn, IsText, begins_name}
use Rattle.acpi_term.specs.Length.{limit, least_width, with_length, FrameFits}
use Rattle.acpi_term.specs.declared.language.Language.{Language}
use Rattle.acpi_term.specs.Language.{Grammar, has, written_grammar}
use Rattle.acpi_term.specs.Operator.{operands, language_of, place}
use Rattle.acpi_term.specs.Row.{connected, Layout, bare, framed, layout, own}

-- ---- spellings

-- a layout around these bytes, in which a frame's length has the width w
abbrev pub laid : Layout → ℕ → List ℕ → List ℕ
laid (bare before) w inside = before ++ inside
laid (framed code before after) w inside = code ++ with_length w (before ++ (inside ++ after))

-- a head of this width with n children, which are spelled by the bytes inside
abbrev pub spelled : Head → ℕ → ℕ → List ℕ → List ℕ
spelled h w n inside = laid (layout h w n) w inside

-- a list of terms: the spellings joined
abbrev pub spelling : Terms → List ℕ
spelling end = []
spelling (term h w children others) = spelled h w (count children) (spelling children) ++ spelling others

-- ---- the places of children

-- the place of a head's first child in a language
abbrev pub inner : Language → Head → Mode
inner l def_package = Element
inner l (def_roomy_package room) = Element
inner l def_var_package = Count
inner l (op o) = place l o
inner l _ = Term

-- the place after it
abbrev pub next : Mode → Mode
next Term = Term
next Element = Element
next Count = Element
next Searched = FirstTest
next FirstTest = SecondTest
next SecondTest = Term
next Acquired = Timeout
next Released = Term
next Timeout = Term

-- a test of a Match stands in this place of a language
abbrev pub is_test : Language → Mode → Bool
is_test Written m = false
is_test Standard FirstTest = true
is_test Standard SecondTest = true
is_test Standard _ = false

-- the timeout of an Acquire stands in this place of a language
abbrev pub is_timeout : Language → Mode → Bool
is_timeout Written m = false
is_timeout Standard Timeout = true
is_timeout Standard _ = false

-- a term stands in this place of a language
abbrev pub IsPlain : Language → Mode → Type 0
IsPlain l m = (is_test l m ≡ false) × (is_timeout l m ≡ false)

-- the head may stand in this place of a language: a test or a timeout in the place of one, and any other head in the others
abbrev pub Stands : Language → Mode → Head → Type 0
Stands l m (match_test k) = is_test l m ≡ true
Stands l m (def_timeout t) = (is_test l m ≡ false) × (is_timeout l m ≡ true)
Stands l m _ = IsPlain l m

-- ---- which terms have a spelling

-- the language has the entry and its name, and numbers fit their bytes
abbrev pub EntryIsStandard : Language → Entry → Type 0
EntryIsStandard l (named name bits w) = AreSegments 1 name
EntryIsStandard l (reserved bits w) = Unit {0}
EntryIsStandard l (access_as access attribute) = (has l Standard ≡ true) × (access < 2 ^ 8) × (attribute < 2 ^ 8)
EntryIsStandard l (extended_access_as access attribute size) = (has l Standard ≡ true) × (access < 2 ^ 8) × (attribute < 2 ^ 8)
    × (size < 2 ^ 8)
EntryIsStandard l (connection name) = (has l Standard ≡ true) × IsNameIn l name
EntryIsStandard l (connection_buffer w size v bytes) = (has l Standard ≡ true) × (size < 2 ^ 64) × AreBytes bytes

abbrev pub AreStandardEntries : Language → List Entry → Type 0
AreStandardEntries l [] = Unit {0}
AreStandardEntries l (e ∷ entries) = EntryIsStandard l e × AreStandardEntries l entries

-- The language has the head and its names, texts and data follow the standard, and numbers fit their fields.
abbrev pub IsStandard : Language → Head → Type 0
IsStandard l (number v) = v < 2 ^ 64
IsStandard l (string s) = IsText s
IsStandard l (call name) = IsNameIn l name
IsStandard l (def_scope name) = IsNameIn l name
IsStandard l (def_device name) = IsNameIn l name
IsStandard l (def_method name args serialized) = IsNameIn l name
IsStandard l (def_power_res name level order) = IsNameIn l name × (level < 2 ^ 8) × (order < 2 ^ 16)
IsStandard l (def_field name access lock update entries) =
    IsNameIn l name × (access ≤ 5) × (lock ≤ 1) × (update ≤ 2) × AreStandardEntries l entries
IsStandard l (def_op_region name space) = IsNameIn l name × (space < 2 ^ 8)
IsStandard l (def_name name) = IsNameIn l name
IsStandard l (def_mutex name level) = IsNameIn l name × (level < 2 ^ 8)
IsStandard l (def_acquire name timeout) = IsNameIn l name × (timeout < 2 ^ 16)
IsStandard l (def_release name) = IsNameIn l name
IsStandard l (def_buffer bytes) = AreBytes bytes
IsStandard l (op o) = has l (language_of o) ≡ true
IsStandard l (def_external name kind args) = (has l Standard ≡ true) × IsNameIn l name × (kind < 2 ^ 8) × (args < 2 ^ 8)
IsStandard l (def_leveled_method name args serialized level) = (has l Standard ≡ true) × IsNameIn l name × (1 ≤ level)
    × (level ≤ 15)
IsStandard l (def_processor name id address size) = (has l Standard ≡ true) × IsNameIn l name × (id < 2 ^ 8)
    × (address < 2 ^ 32) × (size < 2 ^ 8)
IsStandard l (def_thermal_zone name) = (has l Standard ≡ true) × IsNameIn l name
IsStandard l (def_roomy_package room) = (has l Standard ≡ true) × (room < 2 ^ 8)
IsStandard l (def_index_field index name access lock update entries) = (has l Standard ≡ true) × IsNameIn l index
    × IsNameIn l name × (access ≤ 5) × (lock ≤ 1) × (update ≤ 2) × AreStandardEntries l entries
IsStandard l (def_bank_field name bank access lock update entries) = (has l Standard ≡ true) × IsNameIn l name
    × IsNameIn l bank × (access ≤ 5) × (lock ≤ 1) × (update ≤ 2) × AreStandardEntries l entries
IsStandard l (def_fatal kind code) = (has l Standard ≡ true) × (kind < 2 ^ 8) × (code < 2 ^ 32)
IsStandard l (match_test k) = (has l Standard ≡ true) × (k ≤ 5)
IsStandard l (def_timeout t) = (has l Standard ≡ true) × (t < 2 ^ 16)
IsStandard l (unread error bytes) = ⊥
IsStandard l _ = Unit {0}

-- An entry's bits fit its width. A buffer's size fits its own width, and the buffer's length counts itself and the content.
abbrev pub EntryFits : Entry → Type 0
EntryFits (named name bits w) = bits < limit w
EntryFits (reserved bits w) = bits < limit w
EntryFits (connection_buffer w size v bytes) = (size < number_limit v) × FrameFits w (connected size v bytes)
EntryFits _ = Unit {0}

abbrev pub EntriesFit : List Entry → Type 0
EntriesFit [] = Unit {0}
EntriesFit (e ∷ entries) = EntryFits e × EntriesFit entries

-- An entry of bits has the width that is written. The others, which this library doesn't write, have any that fits.
abbrev pub HasLeastWidth : Entry → Type 0
HasLeastWidth (named name bits w) = w ≡ least_width bits
HasLeastWidth (reserved bits w) = w ≡ least_width bits
HasLeastWidth e = EntryFits e

abbrev pub HaveLeastWidths : List Entry → Type 0
HaveLeastWidths [] = Unit {0}
HaveLeastWidths (e ∷ entries) = HasLeastWidth e × HaveLeastWidths entries

abbrev pub LayoutFits : Layout → ℕ → List ℕ → Type 0
LayoutFits (bare before) w inside = w ≡ 0
LayoutFits (framed code before after) w inside = FrameFits w (before ++ (inside ++ after))

-- A number fits its width, and a frame's length counts itself and the content. Any other head has the width 0.
abbrev pub HeadFits : Head → ℕ → ℕ → List ℕ → Type 0
HeadFits (number v) w n inside = v < number_limit w
HeadFits (def_field name access lock update entries) w n inside = EntriesFit entries
    × LayoutFits (layout (def_field name access lock update entries) w n) w inside
HeadFits (def_index_field index name access lock update entries) w n inside = EntriesFit entries
    × LayoutFits (layout (def_index_field index name access lock update entries) w n) w inside
HeadFits (def_bank_field name bank access lock update entries) w n inside = EntriesFit entries
    × LayoutFits (layout (def_bank_field name bank access lock update entries) w n) w inside
HeadFits h w n inside = LayoutFits (layout h w n) w inside

-- there is a first byte, and it begins no name
abbrev pub BeginsNoName : List ℕ → Type 0
BeginsNoName [] = ⊥
BeginsNoName (b ∷ rest) = begins_name Standard b ≡ false

-- the first operand in this place, which begins the bytes, is no name, if none may stand there
abbrev pub IsUnnamed : Mode → List ℕ → Type 0
IsUnnamed Acquired inside = BeginsNoName inside
IsUnnamed Released inside = BeginsNoName inside
IsUnnamed m inside = Unit {0}

-- the first operand in this place may be a name
abbrev pub takes_names : Mode → Bool
takes_names Acquired = false
takes_names Released = false
takes_names m = true

-- An Acquire and a Release stand over what is no name.
abbrev pub IsOver : Head → List ℕ → Type 0
IsOver (op o) inside = IsUnnamed (place Standard o) inside
IsOver h inside = Unit {0}

-- a head that may stand over a name
abbrev pub TakesNames : Head → Type 0
TakesNames (op o) = takes_names (place Standard o) ≡ true
TakesNames h = Unit {0}

-- the widths inside of a head are those that are written
abbrev pub IsWritten : Head → Type 0
IsWritten (def_field name access lock update entries) = HaveLeastWidths entries
IsWritten (def_index_field index name access lock update entries) = HaveLeastWidths entries
IsWritten (def_bank_field name bank access lock update entries) = HaveLeastWidths entries
IsWritten _ = Unit {0}

module _ (arity : List ℕ → ℕ) where
  -- how many arguments follow a name in this place
  abbrev pub arguments : Mode → List ℕ → ℕ
  arguments Term name = arity name
  arguments Element name = 0
  arguments Count name = arity name
  arguments Searched name = arity name
  arguments FirstTest name = 0
  arguments SecondTest name = 0
  arguments Acquired name = arity name
  arguments Released name = arity name
  arguments Timeout name = 0

  -- the head may have n children
  abbrev pub Takes : Mode → Head → ℕ → Type 0
  Takes m (call name) n = n ≡ arguments m name
  Takes m (def_scope name) n = Unit {0}
  Takes m (def_device name) n = Unit {0}
  Takes m (def_method name args serialized) n = Unit {0}
  Takes m (def_power_res name level order) n = Unit {0}
  Takes m (def_op_region name space) n = n ≡ 2
  Takes m (def_name name) n = n ≡ 1
  Takes m (def_buffer bytes) n = n ≡ 1
  Takes m def_package n = Unit {0}
  Takes m def_var_package n = 1 ≤ n
  Takes m def_if n = 1 ≤ n
  Takes m def_while n = 1 ≤ n
  Takes m def_else n = Unit {0}
  Takes m (op o) n = n ≡ operands o
  Takes m (def_leveled_method name args serialized level) n = Unit {0}
  Takes m (def_processor name id address size) n = Unit {0}
  Takes m (def_thermal_zone name) n = Unit {0}
  Takes m (def_roomy_package room) n = Unit {0}
  Takes m (def_bank_field name bank access lock update entries) n = n ≡ 1
  Takes m (def_fatal kind code) n = n ≡ 1
  Takes m (match_test k) n = n ≡ 1
  Takes m _ n = n ≡ 0

module _ (g : Grammar) where
  -- a head of this width may have n children, which are spelled by the bytes inside
  pub record IsLegal (m : Mode) (h : Head) (w n : ℕ) (inside : List ℕ) : Type 0 where
    pub stands : Stands g.language m h
    pub takes : Takes g.arity m h n
    pub is_standard : IsStandard g.language h
    pub owns : own h n ≡ None
    pub fits : HeadFits h w n inside
    pub over : IsOver h inside

  -- the terms have a spelling, if the first stands in this place
  abbrev pub AreLegal : Mode → Terms → Type 0
  AreLegal m end = Unit {0}
  AreLegal m (term h w children others) = IsLegal m h w (count children) (spelling children)
      × AreLegal (inner g.language h) children × AreLegal (next m) others

-- the bytes spell these terms of a language, if the first stands in this place
abbrev pub SpellsIn : Grammar → Mode → List ℕ → Terms → Type 0
SpellsIn g m bytes ts = AreLegal g m ts × (bytes ≡ spelling ts)

-- each object spells a term, if the first stands in this place
abbrev pub SpellEachIn : Grammar → Mode → List Object → Terms → Type 0
SpellEachIn g m [] end = Unit {0}
SpellEachIn g m (o ∷ objects) (term h w children others) = SpellsIn g m o.front (one h w children)
    × SpellEachIn g (next m) objects others
SpellEachIn g m [] (term h w children others) = ⊥
SpellEachIn g m (o ∷ objects) end = ⊥

-- the same in the language that this library writes
abbrev pub Spells : (List ℕ → ℕ) → Mode → List ℕ → Terms → Type 0
Spells arity m bytes ts = SpellsIn (written_grammar arity) m bytes ts

abbrev pub SpellEach : (List ℕ → ℕ) → Mode → List Object → Terms → Type 0
SpellEach arity m objects ts = SpellEachIn (written_grammar arity) m objects ts
