-- The bytes for which a line without a name stands, as the code has them.
use Rattle.acpi_make.specs.Compare as compare
use Rattle.acpi_make.specs.declared.compare.Range.{Range}

abbrev pub range_of : Range → compare.Range
range_of covered = record { start = covered.start; end = covered.end }
