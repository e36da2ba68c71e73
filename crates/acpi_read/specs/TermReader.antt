-- How a reader of terms is meant.
use Rattle.acpi_term.specs.Arity.{grammar_by}
use Rattle.acpi_term.specs.Language.{Grammar}
use Rattle.acpi_term.specs.Reading.{Reader, term_at}
use Rattle.acpi_read.specs.declared.terms.TermReader.{TermReader}

abbrev pub grammar : TermReader → Grammar
grammar r = grammar_by r.language r.arities.now

abbrev pub reads : TermReader → Reader
reads r = term_at (grammar r) r.depth
