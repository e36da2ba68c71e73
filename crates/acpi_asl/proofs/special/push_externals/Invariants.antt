use Rattle.std.proofs.Common.{◌≡◌, ◌++◌, drop, string_bytes}
use Rattle.acpi_term.specs.View.{views}
use Rattle.acpi_asl.specs.Special.{externals_text}
use Rattle.acpi_asl.proofs.special.push_externals.Given as goal

abbrev pub invariant-externals : goal.invariant-externals
invariant-externals l =
    string_bytes l.text ++ externals_text l.depth l.lead (views (drop l.term-index l.terms)) ≡ string_bytes l.initial.text ++ externals_text l.depth l.first (views l.terms)
