-- What can be wrong, by numbers that stay. The words of an error of reading are those of `acpi_term`, those of a fault of a text
-- are those of `acpi_make`, and those of an error of writing are those of `acpi_base`.
use Rattle.std.specs.Prelude.{ℕ, ◌==◌, if◌then◌else◌, List, [], ◌∷◌, ◌++◌, Option, Some, None, codes}
use Rattle.std.specs.List.{find}
use Rattle.std.specs.Option.{option_map}
use Rattle.acpi_base.specs.Error.{text_of}
use Rattle.acpi_base.specs.declared.error.Error.TheVariants as writing
use Rattle.acpi_term.specs.ReadError.{message_of}
use Rattle.acpi_term.specs.declared.read_error.ReadError.TheVariants as errors
use Rattle.acpi_make.specs.Fault as texts
use Rattle.acpi_make.specs.declared.fault.Wanted.{Wanted}
use Rattle.acpi_make.specs.declared.fault.Wanted.TheVariants as wanted
use Rattle.acpi_c_calls.specs.declared.fault.Fault.{Fault}
use Rattle.acpi_c_calls.specs.declared.fault.Fault.TheVariants as fault

pub record Facts : Type 0 where
  pub number : ℕ
  pub words : List ℕ

abbrev pub known : ℕ → List ℕ → Facts
known n text = record { number = n; words = text }

abbrev pub expected : Wanted → List ℕ
expected one = codes "expected " ++ texts.words one

abbrev pub facts : Fault → Facts
facts fault.Memory = known 1 (codes "out of memory")
facts fault.Buffer = known 2 (codes "the buffer is too small")
facts fault.UnknownNumber = known 3 (codes "no fault has this number")
facts fault.Arities = known 4 (codes "a number of arguments isn't NAME=N, or a name has two")
facts fault.Signature = known 5 (codes "a signature has four bytes of text")
facts fault.Null = known 6 (codes "a pointer is NULL, and its size isn't 0")
facts fault.ShortHeader = known 16 (message_of (errors.ShortHeader 0))
facts fault.TableLength = known 17 (message_of (errors.TableLength 0))
facts fault.Sum = known 18 (message_of (errors.Sum 0))
facts fault.Structure = known 19 (message_of (errors.Structure 0))
facts fault.Count = known 20 (message_of (errors.Count 0))
facts fault.UnknownSource = known 21 (message_of (errors.UnknownSource 0))
facts fault.NoBlock = known 22 (codes "the signature isn't that of a definition block")
facts fault.FurtherBlock = known 23 (codes "a further block isn't a whole definition block")
facts fault.Truncated = known 32 (message_of (errors.Truncated 0))
facts fault.Opcode = known 33 (message_of (errors.Opcode 0))
facts fault.PkgLength = known 34 (message_of (errors.Length 0))
facts fault.Number = known 35 (message_of (errors.Number 0))
facts fault.Flags = known 36 (message_of (errors.Flags 0))
facts fault.Text = known 37 (message_of (errors.Text 0))
facts fault.TooDeep = known 38 (message_of (errors.TooDeep 0))
facts fault.ImageOutside = known 48 (codes "a table isn't in the image with its whole length")
facts fault.ImageSignature = known 49 (codes "the signature of a table is wrong")
facts fault.ImageLength = known 50 (codes "the length of a table is wrong")
facts fault.ImageRevision = known 51 (codes "the revision of the RSDP isn't 2")
facts fault.ImageSum = known 52 (codes "the bytes of a table in the image don't sum to zero")
facts fault.ImageEntries = known 53 (codes "the list of tables doesn't end after a whole entry")
facts fault.ImageNoFadt = known 54 (codes "no FADT is listed")
facts fault.ImageSecondFadt = known 55 (codes "the XSDT lists a second FADT")
facts fault.ImageOverlap = known 56 (codes "two tables overlap")
facts fault.LayBase = known 57 (codes "the address of an image isn't a multiple of 64")
facts fault.LaySecond = known 58 (codes "a second table of this signature")
facts fault.LayNoFadt = known 59 (codes "no table is a FADT")
facts fault.LayNoDsdt = known 60 (codes "no table is a DSDT")
facts fault.LayNoFacs = known 61 (codes "no table is a FACS, and the FADT doesn't have the flag HW_REDUCED_ACPI")
facts fault.LayShortFadt = known 62 (codes "the FADT has no field X_DSDT")
facts fault.LayNoSpace = known 63 (codes "the tables end after the last address")
facts fault.NoPointer = known 64 (codes "no RSDP is at a multiple of 16")
facts fault.WantsPrinting = known 65 (expected wanted.Printing)
facts fault.WantsSpace = known 66 (expected wanted.Space)
facts fault.WantsValue = known 67 (expected wanted.Value)
facts fault.WantsDigit = known 68 (expected wanted.Digit)
facts fault.WantsSecondDigit = known 69 (expected wanted.SecondDigit)
facts fault.WantsQuotationMark = known 70 (expected wanted.QuotationMark)
facts fault.WantsQuestionMark = known 71 (expected wanted.QuestionMark)
facts fault.WantsSlash = known 72 (expected wanted.Slash)
facts fault.WantsBrace = known 73 (expected wanted.Brace)
facts fault.WantsField = known 74 (expected wanted.Field)
facts fault.WantsName = known 75 (expected wanted.Name)
facts fault.WantsNumber = known 76 (expected wanted.Number)
facts fault.WantsLabel = known 77 (expected wanted.Label)
facts fault.WantsBytes = known 78 (expected wanted.Bytes)
facts fault.WantsNext = known 79 (expected wanted.Next)
facts fault.WantsNameless = known 80 (expected wanted.Nameless)
facts fault.WantsEnd = known 81 (expected wanted.End)
facts fault.WantsStructure = known 82 (expected wanted.Structure)
facts fault.WantsWidth = known 83 (expected wanted.Width)
facts fault.WantsWhole = known 84 (expected wanted.Whole)
facts fault.WantsOneTable = known 85 (expected wanted.OneTable)
facts fault.WantsTable = known 86 (expected wanted.Table)
facts fault.WantsFieldOf = known 87 (expected wanted.FieldOf)
facts fault.WantsAnotherNumber = known 88 (expected wanted.AnotherNumber)
facts fault.NotAsl = known 89 (codes "the text isn't the ASL of a definition block")
facts fault.WantsIndented = known 90 (expected wanted.Indented)
facts fault.WantsGroups = known 91 (expected wanted.Groups)
facts fault.NamePart = known 96 (text_of writing.NamePart)
facts fault.PathParts = known 97 (text_of writing.PathParts)
facts fault.EisaText = known 98 (text_of writing.EisaText)
facts fault.UuidText = known 99 (text_of writing.UuidText)
facts fault.ArgNumber = known 100 (text_of writing.ArgNumber)
facts fault.LocalNumber = known 101 (text_of writing.LocalNumber)
facts fault.MethodArgs = known 102 (text_of writing.MethodArgs)
facts fault.ObjectLength = known 103 (text_of writing.PkgLength)
facts fault.AddressRange = known 104 (text_of writing.AddressRange)
facts fault.UnknownChoice = known 105 (codes "no operator and no memory type has this number")
facts fault.OemText = known 106 (codes "an OEM ID has 6 bytes, and an OEM Table ID 8")
facts fault.NoneOpen = known 107 (codes "no object is open")
facts fault.StillOpen = known 108 (codes "an object is still open")
facts fault.TooManyOpen = known 109 (codes "at most 32 objects are open at a time")
facts fault.WriterState = known 110 (codes "a writer isn't as its last call left it")
facts fault.NotEmpty = known 111 (codes "a table begins in an empty writer")
facts fault.Outside = known 112 (codes "nothing is written at this offset")

abbrev pub number_of : Fault → ℕ
number_of f = (facts f).number

abbrev pub words : Fault → List ℕ
words f = (facts f).words

-- those of tables, AML and images
abbrev pub first_faults : List Fault
first_faults =
    fault.Memory ∷ fault.Buffer ∷ fault.UnknownNumber ∷ fault.Arities ∷ fault.Signature ∷ fault.Null ∷ fault.ShortHeader ∷
    fault.TableLength ∷ fault.Sum ∷ fault.Structure ∷ fault.Count ∷ fault.UnknownSource ∷ fault.NoBlock ∷ fault.FurtherBlock ∷
    fault.Truncated ∷ fault.Opcode ∷ fault.PkgLength ∷ fault.Number ∷ fault.Flags ∷ fault.Text ∷ fault.TooDeep ∷
    fault.ImageOutside ∷ fault.ImageSignature ∷ fault.ImageLength ∷ fault.ImageRevision ∷ fault.ImageSum ∷ fault.ImageEntries ∷
    fault.ImageNoFadt ∷ fault.ImageSecondFadt ∷ fault.ImageOverlap ∷ fault.LayBase ∷ fault.LaySecond ∷ fault.LayNoFadt ∷
    fault.LayNoDsdt ∷ fault.LayNoFacs ∷ fault.LayShortFadt ∷ fault.LayNoSpace ∷ fault.NoPointer ∷ []

-- those of texts and writers
abbrev pub later_faults : List Fault
later_faults =
    fault.WantsPrinting ∷ fault.WantsSpace ∷ fault.WantsValue ∷ fault.WantsDigit ∷ fault.WantsSecondDigit ∷
    fault.WantsQuotationMark ∷ fault.WantsQuestionMark ∷ fault.WantsSlash ∷ fault.WantsBrace ∷ fault.WantsField ∷
    fault.WantsName ∷ fault.WantsNumber ∷ fault.WantsLabel ∷ fault.WantsBytes ∷ fault.WantsNext ∷ fault.WantsNameless ∷
    fault.WantsEnd ∷ fault.WantsStructure ∷ fault.WantsWidth ∷ fault.WantsWhole ∷ fault.WantsOneTable ∷ fault.WantsTable ∷
    fault.WantsFieldOf ∷ fault.WantsAnotherNumber ∷ fault.NotAsl ∷ fault.WantsIndented ∷ fault.WantsGroups ∷ fault.NamePart ∷
    fault.PathParts ∷ fault.EisaText ∷ fault.UuidText ∷ fault.ArgNumber ∷ fault.LocalNumber ∷ fault.MethodArgs ∷ fault.ObjectLength ∷
    fault.AddressRange ∷ fault.UnknownChoice ∷ fault.OemText ∷ fault.NoneOpen ∷ fault.StillOpen ∷ fault.TooManyOpen ∷
    fault.WriterState ∷ fault.NotEmpty ∷ fault.Outside ∷ []

abbrev pub fault_among : List Fault → ℕ → Option Fault
fault_among faults n = find (λ f. number_of f == n) faults

abbrev pub or_else : Option Fault → Option Fault → Option Fault
or_else (Some f) other = Some f
or_else None other = other

-- the fault of a number
abbrev pub fault_of : ℕ → Option Fault
fault_of n = or_else (fault_among first_faults n) (fault_among later_faults n)

-- the words of a number: those of its fault, and `fine` of 0
abbrev pub words_of : ℕ → Option (List ℕ)
words_of n = if n == 0 then Some (codes "fine") else option_map words (fault_of n)
