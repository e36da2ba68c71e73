-- What a finding says.
use Rattle.std.specs.Prelude.{ℕ, ◌==◌, ◌||◌, Bool, false, if◌then◌else◌, List, [], ◌∷◌, ◌++◌, codes}
use Rattle.std.specs.Fmt.{decimal}
use Rattle.std.specs.Str.{bytes_eq}
use Rattle.acpi_base.specs.Bytes.{le}
use Rattle.acpi_text.specs.Hex.{number_text}
use Rattle.acpi_text.specs.Label.{label}
use Rattle.acpi_text.specs.Note.{trimmed}
use Rattle.acpi_rules.specs.Finding.{Finding}
use Rattle.acpi_rules.specs.declared.finding.Rule.{Rule}
use Rattle.acpi_rules.specs.declared.finding.Rule.TheVariants.{ReservedBytes, ReservedBits, ReservedValue, StructureLength, Range}
use Rattle.acpi_rules.specs.declared.finding.Rule.TheVariants.{Unique, Overlap, Disjoint, AtMost, NoOverflow, Inside, Count, Pair}
use Rattle.acpi_rules.specs.declared.finding.Rule.TheVariants.{Required, Needs, Multiple, NotAll, Reference, Cycle, Distance}
use Rattle.acpi_rules.specs.declared.finding.Rule.TheVariants.{Present, Defined, Below, Single, Copy, Terminated}

-- the tables that ACPI 6.5 defines; another standard defines each other table
abbrev pub standard_tables : List (List ℕ)
standard_tables =
    codes "APIC" ∷ codes "BERT" ∷ codes "BGRT" ∷ codes "CCEL" ∷ codes "CPEP" ∷ codes "DSDT" ∷ codes "ECDT" ∷ codes "EINJ"
    ∷ codes "ERST" ∷ codes "FACP" ∷ codes "FACS" ∷ codes "FPDT" ∷ codes "GTDT" ∷ codes "HEST" ∷ codes "HMAT" ∷ codes "MPST"
    ∷ codes "MSCT" ∷ codes "NFIT" ∷ codes "PCCT" ∷ codes "PDTT" ∷ codes "PHAT" ∷ codes "PMTT" ∷ codes "PPTT" ∷ codes "PSDT"
    ∷ codes "RAS2" ∷ codes "RASF" ∷ codes "RSD " ∷ codes "RSDT" ∷ codes "S3PT" ∷ codes "SBST" ∷ codes "SDEV" ∷ codes "SLIT"
    ∷ codes "SRAT" ∷ codes "SSDT" ∷ codes "SVKL" ∷ codes "VIOT" ∷ codes "XSDT"
    ∷ []

abbrev pub contains : List (List ℕ) → List ℕ → Bool
contains [] signature = false
contains (one ∷ more) signature = bytes_eq one signature || contains more signature

-- A rule that is broken is an error in a table that ACPI 6.5 defines. In others it is a warning, since newer revisions of their
-- own standards give reserved bits and numbers a meaning.
abbrev pub severity : List ℕ → List ℕ
severity signature = if contains standard_tables signature then codes "error" else codes "warning"

-- the name of a rule
abbrev pub rule_name : Rule → List ℕ
rule_name ReservedBytes = codes "reserved-bytes"
rule_name ReservedBits = codes "reserved-bits"
rule_name ReservedValue = codes "reserved-value"
rule_name StructureLength = codes "structure-length"
rule_name Range = codes "range"
rule_name Unique = codes "unique"
rule_name Overlap = codes "overlap"
rule_name Disjoint = codes "disjoint"
rule_name AtMost = codes "at-most"
rule_name NoOverflow = codes "no-overflow"
rule_name Inside = codes "inside"
rule_name Count = codes "count"
rule_name Pair = codes "pair"
rule_name Required = codes "required"
rule_name Needs = codes "needs"
rule_name Multiple = codes "multiple"
rule_name NotAll = codes "not-all"
rule_name Terminated = codes "terminated"
rule_name Reference = codes "reference"
rule_name Cycle = codes "cycle"
rule_name Distance = codes "distance"
rule_name Present = codes "present"
rule_name Defined = codes "defined"
rule_name Below = codes "below"
rule_name Single = codes "single"
rule_name Copy = codes "copy"

-- a number in hexadecimal: two digits for each byte, from the highest that isn't zero
abbrev pub hex_text : ℕ → List ℕ
hex_text n = codes "0x" ++ number_text (trimmed (le 8 n))

-- a number that is reserved
abbrev pub reserved_text : ℕ → List ℕ
reserved_text n = codes ": " ++ decimal n ++ codes " is reserved"

-- the only number that is allowed
abbrev pub one_text : ℕ → List ℕ
one_text n = codes " has to be " ++ decimal n

-- the least number that is allowed
abbrev pub least_text : ℕ → List ℕ
least_text n = codes " has to be at least " ++ decimal n

-- the numbers that are allowed
abbrev pub range_text : ℕ → ℕ → List ℕ
range_text least most =
    if least == most then one_text least
    else (if most == 0xffffffffffffffff then least_text least
    else codes " has to be from " ++ decimal least ++ codes " to " ++ decimal most)

-- the words before and after the number of bytes that entries don't fit
unfoldable pub misfit_text : List ℕ
misfit_text = codes " doesn't fit the "

unfoldable pub bytes_text : List ℕ
bytes_text = codes " bytes that are there"

-- that a number of entries doesn't fit this many bytes
abbrev pub room_text : ℕ → List ℕ
room_text room = misfit_text ++ decimal room ++ bytes_text

-- the other field that says how many bytes begin at an offset
unfoldable pub with_text : List ℕ → List ℕ
with_text other = codes " with " ++ label other

-- the words before the number of bytes after which they end
unfoldable pub after_text : List ℕ
after_text = codes " ends after the "

-- that bytes at an offset, as many as another field says, end after this many
abbrev pub outside_text : ℕ → List ℕ → List ℕ
outside_text room other = with_text other ++ after_text ++ decimal room ++ bytes_text

-- of which structures a reference isn't the number
unfoldable pub target_text : List ℕ
target_text = codes " of a structure to which it may refer"

-- the words before the bits of which one has to be zero
unfoldable pub lacks_text : List ℕ
lacks_text = codes " has to lack one of the bits "

-- the bits of which one has to be zero
abbrev pub not_all_text : ℕ → List ℕ
not_all_text bits = lacks_text ++ hex_text bits

-- that a string doesn't end with a zero
unfoldable pub endless_text : List ℕ
endless_text = codes ": the string doesn't end with a zero"

-- what a finding on two fields says of the bytes of its field
abbrev pub pair_text : Rule → ℕ → ℕ → List ℕ → List ℕ
pair_text Pair number most other = codes " isn't " ++ label other ++ codes ", which is " ++ decimal number
pair_text Required number most other = codes " and " ++ label other ++ codes " are zero"
pair_text Needs number most other = codes " needs " ++ label other ++ codes ", which is zero"
pair_text AtMost number most other = codes " is above " ++ label other ++ codes ", which is " ++ decimal number
pair_text NoOverflow number most other = codes " with " ++ label other ++ codes ", which is too long"
pair_text rule number most other = range_text number most

-- the number of a field
abbrev pub own_text : ℕ → List ℕ
own_text n = codes ": " ++ decimal n

-- the words between the number of a field and the name of the limit that it reaches
unfoldable pub below_text : List ℕ
below_text = codes " isn't below the "

-- that the number of a field isn't below that of another one
abbrev pub limit_text : ℕ → List ℕ → List ℕ
limit_text n other = below_text ++ label other ++ codes ", which is " ++ decimal n

-- what stands before a number of tables
unfoldable pub machine_text : List ℕ
machine_text = codes ": the machine has "

-- how many tables a machine has, and which
abbrev pub tables_text : ℕ → List ℕ → List ℕ
tables_text n which = machine_text ++ decimal n ++ which

-- that a table has none of some parts
abbrev pub absent_text : List ℕ → List ℕ
absent_text what = codes ": there is no " ++ label what

-- what a finding on several fields says of the bytes of its field
abbrev pub relates_text : Rule → ℕ → ℕ → List ℕ → List ℕ
relates_text Unique number most other = codes ": also at " ++ decimal number
relates_text Overlap number most other =
    codes " up to " ++ label other ++ codes ": also at " ++ decimal number
relates_text Disjoint number most other =
    codes " with " ++ label other ++ codes ": also at " ++ decimal number
relates_text Inside number most other = outside_text most other
relates_text Count number most other = room_text most
relates_text Multiple number most other = codes " isn't n * " ++ decimal number
relates_text NotAll number most other = not_all_text number
relates_text Terminated number most other = endless_text
relates_text Reference number most other = codes " isn't the " ++ label other ++ target_text
relates_text Cycle number most other = codes " leads to a circle"
relates_text Present number most other = absent_text other
relates_text Defined number most other = codes " isn't any " ++ label other
relates_text Below number most other = own_text most ++ limit_text number other
relates_text Single number most other = tables_text number (codes " of them")
relates_text Copy number most other = tables_text number (codes " with the same bytes")
relates_text rule number most other = pair_text rule number most other

-- what a finding says of the bytes of its field
abbrev pub says : Rule → ℕ → ℕ → List ℕ → List ℕ
says ReservedBytes number most other = codes " isn't zero"
says ReservedBits number most other = codes " has the reserved bits " ++ hex_text number
says ReservedValue number most other = reserved_text number
says StructureLength number most other = one_text number
says rule number most other = relates_text rule number most other

-- the field of a finding, and its bytes
abbrev pub field_text : Finding → List ℕ
field_text f = codes " at " ++ decimal f.offset ++ codes ": " ++ label f.name ++ codes ": 0x" ++ number_text f.bytes

-- the section that has the rule of a finding, and the rule
abbrev pub source_text : Finding → List ℕ
source_text f = codes " (" ++ f.section ++ codes ") [" ++ rule_name f.rule ++ codes "]"

-- a finding in a table of a signature
abbrev pub finding_text : List ℕ → Finding → List ℕ
finding_text signature f = severity signature ++ field_text f ++ says f.rule f.number f.most f.other ++ source_text f
