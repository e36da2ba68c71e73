use Rattle.std.proofs.Common.{arith}
use Rattle.acpi_base.proofs.Bytes.{bytes_each}
use Rattle.acpi_read.proofs.Fronts.{is_name}
use Rattle.acpi_read.proofs.terms.name.name.Goals as goal

pub name_of-requires : goal.name_of-requires
name_of-requires c =
    is_name c.args.language c.args.bytes.now c.in_ok-spelling.spelling.now c.in_ok-spelling.rest.now (bytes_each c.args.bytes.now (λ i. omega (arith, c.type_inv.bytes i))) c.in_ok-spelling.ensures
