-- The search of a package (ACPI 6.5, 20.2.5.4).
use Rattle.std.specs.Prelude.{ℕ}
use Rattle.acpi_ops.specs.declared.search.Comparison.{Comparison}
use Rattle.acpi_ops.specs.declared.search.Comparison.TheVariants as comparisons

-- MatchOpcode: MTR, MEQ, MLE, MLT, MGE and MGT
abbrev pub comparison_number : Comparison → ℕ
comparison_number comparisons.Always = 0
comparison_number comparisons.Equal = 1
comparison_number comparisons.LessOrEqual = 2
comparison_number comparisons.Less = 3
comparison_number comparisons.GreaterOrEqual = 4
comparison_number comparisons.Greater = 5
