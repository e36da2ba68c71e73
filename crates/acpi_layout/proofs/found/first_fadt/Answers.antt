use Rattle.std.proofs.Common.{◌≡◌, get_or, codes, rules}
use Rattle.acpi_layout.proofs.Founds.{none_yet, signature_at}
use Rattle.acpi_layout.proofs.found.first_fadt.Goals as goal

pub returns-then-eq-clause-some : goal.returns-then-eq-clause-some
returns-then-eq-clause-some c =
    let named : (get_or c.args.tables.now c.loop-i.i none_yet).signature ≡ codes "FACP" = search rules in
    (c.loop-i-test.true, signature_at c.args.tables.now c.loop-i.i none_yet (codes "FACP") c.loop-i-test.true named)
