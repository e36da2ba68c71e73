use Rattle.std.proofs.Common.{◌≡◌, ◌++◌, length, string_bytes}
use Rattle.acpi_terms_text.specs.Descriptor.{template_text}
use Rattle.acpi_terms_text.proofs.descriptor.push_template.Given as goal

abbrev pub invariant-items : goal.invariant-items
invariant-items l = string_bytes l.text ++ template_text 0 l.rest ≡ string_bytes l.initial.text ++ template_text 0 l.bytes

abbrev pub decreases-items : goal.decreases-items
decreases-items l = length l.rest
