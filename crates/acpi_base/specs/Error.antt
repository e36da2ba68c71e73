-- The names and texts of errors.
use Rattle.std.specs.Prelude.{ℕ, List, ◌++◌, codes}
use Rattle.std.specs.Fmt.{decimal}
use Rattle.acpi_base.specs.declared.error.Error.{Error}
use Rattle.acpi_base.specs.declared.error.Error.TheVariants as errors

-- its name
abbrev pub name_of : Error → List ℕ
name_of errors.Memory = codes "Memory"
name_of (errors.Sink code) = codes "Sink"
name_of errors.NamePart = codes "NamePart"
name_of errors.PathParts = codes "PathParts"
name_of errors.EisaText = codes "EisaText"
name_of errors.UuidText = codes "UuidText"
name_of errors.ArgNumber = codes "ArgNumber"
name_of errors.LocalNumber = codes "LocalNumber"
name_of errors.MethodArgs = codes "MethodArgs"
name_of errors.PackageElements = codes "PackageElements"
name_of errors.PkgLength = codes "PkgLength"
name_of errors.AddressRange = codes "AddressRange"
name_of errors.FieldWidth = codes "FieldWidth"
name_of errors.PciAddress = codes "PciAddress"
name_of errors.Targets = codes "Targets"
name_of errors.Index = codes "Index"
name_of errors.Matrix = codes "Matrix"
name_of errors.ShortTable = codes "ShortTable"
name_of errors.LogAreaSet = codes "LogAreaSet"
name_of errors.ImsicSet = codes "ImsicSet"

-- its text
abbrev pub text_of : Error → List ℕ
text_of errors.Memory = codes "out of memory"
text_of (errors.Sink code) = codes "error " ++ decimal code ++ codes " of a sink"
text_of errors.NamePart = codes "a part of a path doesn't have four bytes"
text_of errors.PathParts = codes "a path has more than 255 parts"
text_of errors.EisaText = codes "an EISA id is three letters from A to Z and four hexadecimal digits"
text_of errors.UuidText = codes "a UUID is 8, 4, 4, 4 and 12 hexadecimal digits between dashes"
text_of errors.ArgNumber = codes "the number of an argument is at most 6"
text_of errors.LocalNumber = codes "the number of a local variable is at most 7"
text_of errors.MethodArgs = codes "a method has at most 7 arguments"
text_of errors.PackageElements = codes "a package has at most 255 elements"
text_of errors.PkgLength = codes "a PkgLength is less than 2^28"
text_of errors.AddressRange = codes "an address range ends before it starts, or is all of its type"
text_of errors.FieldWidth = codes "a length, a count or an offset doesn't fit its field"
text_of errors.PciAddress = codes "a PCI device is at most 31 and a PCI function at most 7"
text_of errors.Targets = codes "the number of interleave targets isn't the number of interleave ways"
text_of errors.Index = codes "an index is outside the matrix"
text_of errors.Matrix = codes "the size of a matrix doesn't fit 32 bits"
text_of errors.ShortTable = codes "a table has at least the 36 bytes of the standard header"
text_of errors.LogAreaSet = codes "the log area is set already"
text_of errors.ImsicSet = codes "the incoming MSI controller is there already"
