use Rattle.std.proofs.Common.{◌≡◌, refl, length, rules}
use Rattle.acpi_fixed.specs.Fadt.{builder_bytes}
use Rattle.acpi_fixed.proofs.Tables.{length-builder, length-fadt, fadt_is_zero, fadt_without_pieces, true_fadt}
use Rattle.acpi_fixed.proofs.laws.fadt_is_true.Goals as goal

size : (c : goal.Start) → length (builder_bytes c.args.fields) ≡ 276
size c = length-builder c.args.fields (search rules) (search rules) (search rules) (search rules) (search rules)

pub returns-clause-size : goal.returns-clause-size
returns-clause-size c = length-fadt c.args.fields (size c)

pub returns-clause-zero : goal.returns-clause-zero
returns-clause-zero c = fadt_is_zero c.args.fields (size c)

pub returns-clause-table : goal.returns-clause-table
returns-clause-table c = true_fadt c.args.fields (search rules) (size c)

pub returns-clause-pieces : goal.returns-clause-pieces
returns-clause-pieces c = λ is. fadt_without_pieces c.args.fields (search rules) (rw is refl)
