use Rattle.std.proofs.Common.{◌≡◌, ◌++◌, length, map, string_bytes}
use denote.Text.{Utf8}
use denote.Shadow.{shadow}
use Rattle.acpi_c_calls.specs.Aml.{words}
use Rattle.acpi_c_calls.proofs.aml.words.Given as goal

abbrev pub invariant-words : goal.invariant-words
invariant-words l = shadow (Utf8 l.rest) × (map (λ word. string_bytes word) l.all.items ++ words l.rest ≡ words l.text)

abbrev pub decreases-words : goal.decreases-words
decreases-words l = length l.rest
