-- What a template has in place of zeros, as the code has it.
use Rattle.acpi_make.specs.Template as template
use Rattle.acpi_make.specs.declared.template.Known.{Known}

abbrev pub known_of : Known → template.Known
known_of known = record { signature = known.signature.now; own = known.own.now; ones = known.ones.now }
