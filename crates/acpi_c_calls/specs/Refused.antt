-- Why calls fail, and where.
use Rattle.std.specs.Prelude.{ℕ, List, Option, Some, None}
use Rattle.acpi_compile.specs.Squeeze.{line_of}
use Rattle.acpi_compile.specs.declared.fault.AslError.{AslError}
use Rattle.acpi_compile.specs.declared.fault.AslError.TheVariants as blocks
use Rattle.acpi_layout.specs.declared.fault.ImageFault.{ImageFault}
use Rattle.acpi_layout.specs.declared.fault.ImageFault.TheVariants as images
use Rattle.acpi_make.specs.Fault.{line_at}
use Rattle.acpi_make.specs.declared.fault.MakeError.{MakeError}
use Rattle.acpi_make.specs.declared.fault.MakeError.TheVariants as texts
use Rattle.acpi_make.specs.declared.fault.Wanted.{Wanted}
use Rattle.acpi_make.specs.declared.fault.Wanted.TheVariants as wanted
use Rattle.acpi_term.specs.ReadError.{offset_of}
use Rattle.acpi_term.specs.declared.read_error.ReadError.{ReadError}
use Rattle.acpi_term.specs.declared.read_error.ReadError.TheVariants as errors
use Rattle.acpi_c_calls.specs.declared.fault.Fault.{Fault}
use Rattle.acpi_c_calls.specs.declared.fault.Fault.TheVariants as fault
use Rattle.acpi_c_calls.specs.declared.refused.Refused.{Refused}

abbrev pub by_memory : Refused
by_memory = record { fault = fault.Memory; place = 0 }

-- ---- errors of reading

abbrev pub fault_of_read : ReadError → Fault
fault_of_read errors.Memory = fault.Memory
fault_of_read (errors.Truncated offset) = fault.Truncated
fault_of_read (errors.Opcode offset) = fault.Opcode
fault_of_read errors.NameText = fault.Arities
fault_of_read (errors.Length offset) = fault.PkgLength
fault_of_read (errors.Number offset) = fault.Number
fault_of_read (errors.Count offset) = fault.Count
fault_of_read (errors.Flags offset) = fault.Flags
fault_of_read (errors.Text offset) = fault.Text
fault_of_read (errors.TooDeep offset) = fault.TooDeep
fault_of_read errors.Arity = fault.Arities
fault_of_read (errors.ShortHeader offset) = fault.ShortHeader
fault_of_read (errors.TableLength offset) = fault.TableLength
fault_of_read (errors.Sum offset) = fault.Sum
fault_of_read (errors.Structure offset) = fault.Structure
fault_of_read (errors.UnknownSource offset) = fault.UnknownSource

-- a place, or 0 if there is none
abbrev pub or_zero : Option ℕ → ℕ
or_zero (Some n) = n
or_zero None = 0

abbrev pub by_read : ReadError → Refused
by_read error = record { fault = fault_of_read error; place = or_zero (offset_of error) }

-- ---- faults of images

abbrev pub fault_of_image : ImageFault → Fault
fault_of_image images.Memory = fault.Memory
fault_of_image (images.Outside address) = fault.ImageOutside
fault_of_image (images.Signature address) = fault.ImageSignature
fault_of_image (images.Length address) = fault.ImageLength
fault_of_image (images.Revision address) = fault.ImageRevision
fault_of_image (images.Sum address) = fault.ImageSum
fault_of_image (images.Entries address) = fault.ImageEntries
fault_of_image (images.NoFadt address) = fault.ImageNoFadt
fault_of_image (images.SecondFadt address) = fault.ImageSecondFadt
fault_of_image (images.Overlap first second) = fault.ImageOverlap

-- the address in a fault
abbrev pub place_of_image : ImageFault → ℕ
place_of_image images.Memory = 0
place_of_image (images.Outside address) = address
place_of_image (images.Signature address) = address
place_of_image (images.Length address) = address
place_of_image (images.Revision address) = address
place_of_image (images.Sum address) = address
place_of_image (images.Entries address) = address
place_of_image (images.NoFadt address) = address
place_of_image (images.SecondFadt address) = address
place_of_image (images.Overlap first second) = first

abbrev pub by_image : ImageFault → Refused
by_image error = record { fault = fault_of_image error; place = place_of_image error }

-- ---- faults of texts

abbrev pub fault_of_wanted : Wanted → Fault
fault_of_wanted wanted.Printing = fault.WantsPrinting
fault_of_wanted wanted.Space = fault.WantsSpace
fault_of_wanted wanted.Value = fault.WantsValue
fault_of_wanted wanted.Digit = fault.WantsDigit
fault_of_wanted wanted.SecondDigit = fault.WantsSecondDigit
fault_of_wanted wanted.QuotationMark = fault.WantsQuotationMark
fault_of_wanted wanted.QuestionMark = fault.WantsQuestionMark
fault_of_wanted wanted.Slash = fault.WantsSlash
fault_of_wanted wanted.Brace = fault.WantsBrace
fault_of_wanted wanted.Field = fault.WantsField
fault_of_wanted wanted.Name = fault.WantsName
fault_of_wanted wanted.Number = fault.WantsNumber
fault_of_wanted wanted.Label = fault.WantsLabel
fault_of_wanted wanted.Bytes = fault.WantsBytes
fault_of_wanted wanted.Next = fault.WantsNext
fault_of_wanted wanted.Nameless = fault.WantsNameless
fault_of_wanted wanted.End = fault.WantsEnd
fault_of_wanted wanted.Structure = fault.WantsStructure
fault_of_wanted wanted.Width = fault.WantsWidth
fault_of_wanted wanted.Groups = fault.WantsGroups
fault_of_wanted wanted.Whole = fault.WantsWhole
fault_of_wanted wanted.OneTable = fault.WantsOneTable
fault_of_wanted wanted.Table = fault.WantsTable
fault_of_wanted wanted.Indented = fault.WantsIndented
fault_of_wanted wanted.FieldOf = fault.WantsFieldOf
fault_of_wanted wanted.AnotherNumber = fault.WantsAnotherNumber

-- with the line of the text
abbrev pub by_make : List ℕ → MakeError → Refused
by_make text texts.Memory = by_memory
by_make text (texts.Fault wrong) = record { fault = fault_of_wanted wrong.wanted; place = line_at wrong.from text }

-- ---- faults of ASL

-- with the line of the text
abbrev pub by_asl : List ℕ → AslError → Refused
by_asl text blocks.Memory = by_memory
by_asl text (blocks.Fault wrong) = record { fault = fault.NotAsl; place = line_of wrong.at text }
