-- Rules that tables break, as objects.
use Rattle.std.specs.Prelude.{ℕ, List, [], ◌++◌, codes}
use Rattle.std.specs.Fmt.{decimal}
use Rattle.acpi_base.specs.Bytes.{le}
use Rattle.acpi_json.specs.Number.{number}
use Rattle.acpi_json.specs.Text.{string, text_string}
use Rattle.acpi_rules.specs.Finding.{Finding}
use Rattle.acpi_rules.specs.Line.{severity, rule_name}
use Rattle.acpi_rules.specs.declared.finding.Rule.{Rule}
use Rattle.acpi_rules.specs.declared.finding.Rule.TheVariants.{ReservedBytes, ReservedBits, ReservedValue, StructureLength, Range}
use Rattle.acpi_rules.specs.declared.finding.Rule.TheVariants.{Unique, Overlap, Disjoint, AtMost, Inside, Count, Pair}
use Rattle.acpi_rules.specs.declared.finding.Rule.TheVariants.{Cycle, Distance, Multiple, NotAll, Below, Single, Copy, Terminated}

-- a number of eight bytes
unfoldable pub word : ℕ → List ℕ
word n = number (le 8 n)

-- the member with a number, after its name
abbrev pub member : List ℕ → ℕ → List ℕ
member name n = name ++ word n

-- the members with the numbers that are allowed: the least and the greatest
abbrev pub range : ℕ → ℕ → List ℕ
range least most = member (codes ",\"least\":") least ++ member (codes ",\"most\":") most

-- the member with the name of another field
abbrev pub other_member : List ℕ → List ℕ
other_member other = codes ",\"other\":" ++ string other

-- the member with the number of a rule on two fields: the offset of the part with the same number, the other field's number, or
-- the number below which the field's own has to be
abbrev pub other_number : Rule → ℕ → List ℕ
other_number Overlap n = member (codes ",\"also_at\":") n
other_number Disjoint n = member (codes ",\"also_at\":") n
other_number AtMost n = member (codes ",\"other_value\":") n
other_number Pair n = member (codes ",\"other_value\":") n
other_number Below n = member (codes ",\"below\":") n
other_number rule n = []

-- the members of a rule on two fields
abbrev pub relates : Rule → ℕ → List ℕ → List ℕ
relates rule n other = other_member other ++ other_number rule n

-- the members of a rule on bytes that begin at an offset: the field with their number, and how many bytes there are
abbrev pub inside : ℕ → List ℕ → List ℕ
inside bytes other = other_member other ++ member (codes ",\"bytes\":") bytes

-- The members that say what a rule allows, or what is wrong with the value: the bits or the number that is reserved; the numbers
-- that are allowed; the offset of the part with the same number; how many bytes there are for entries; the number of which the
-- value isn't a multiple; the bits of which one has to be zero; how many tables there are; the other field and what it has.
-- Reserved bytes that aren't zero have none, nor has a circle, nor a string without its zero.
unfoldable pub said : Rule → ℕ → ℕ → List ℕ → List ℕ
said ReservedBytes n most other = []
said Cycle n most other = []
said Terminated n most other = []
said ReservedBits n most other = member (codes ",\"reserved\":") n
said ReservedValue n most other = member (codes ",\"reserved\":") n
said StructureLength n most other = range n n
said Range n most other = range n most
said Distance n most other = range n most
said Unique n most other = member (codes ",\"also_at\":") n
said Inside n most other = inside most other
said Count n most other = member (codes ",\"bytes\":") most
said Multiple n most other = member (codes ",\"multiple_of\":") n
said NotAll n most other = member (codes ",\"bits\":") n
said Single n most other = member (codes ",\"tables\":") n
said Copy n most other = member (codes ",\"tables\":") n
said rule n most other = relates rule n other

-- the member with the name of a rule
unfoldable pub rule_member : Rule → List ℕ
rule_member rule = codes ",\"rule\":" ++ string (rule_name rule)

-- the member with the section that has the rule
unfoldable pub section_member : List ℕ → List ℕ
section_member section = codes ",\"section\":" ++ string section

-- the members with the offset, the name and the value of the field
unfoldable pub place : Finding → List ℕ
place f =
    codes ",\"offset\":" ++ decimal f.offset
    ++ codes ",\"name\":" ++ string f.name
    ++ codes ",\"value\":" ++ number f.bytes

-- the members with the file, the signature, and how severe the finding is
unfoldable pub table : List ℕ → List ℕ → List ℕ
table file signature =
    codes "{\"file\":" ++ text_string file
    ++ codes ",\"signature\":" ++ string signature
    ++ codes ",\"severity\":" ++ string (severity signature)

-- the object of a finding in a table of a signature, in a file of this name
unfoldable pub finding : List ℕ → List ℕ → Finding → List ℕ
finding file signature f =
    table file signature ++ place f ++ said f.rule f.number f.most f.other
    ++ section_member f.section ++ rule_member f.rule ++ codes "}"
