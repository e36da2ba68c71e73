use Rattle.std.proofs.Common.{◌≡◌}
use Rattle.acpi_term.specs.View.{views}
use Rattle.test_bench.specs.Nesting.{numbers, inside}
use Rattle.test_bench.proofs.reading.nested.Given as goal

abbrev pub invariant-fill : goal.invariant-fill
invariant-fill l = views l.terms.items ≡ numbers l._filled

abbrev pub invariant-wrap : goal.invariant-wrap
invariant-wrap l = views l.terms.items ≡ inside l._wrapped (numbers l.count)
