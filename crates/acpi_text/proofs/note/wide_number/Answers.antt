use Rattle.std.proofs.Common.{◌-◌, arith}
use Rattle.acpi_base.proofs.Bytes.{bytes_each}
use Rattle.acpi_text.proofs.Numbers.{carried_fits}
use Rattle.acpi_text.proofs.note.wide_number.Goals as goal

pub overflow_mul-number : goal.overflow_mul-number
overflow_mul-number c =
    let are = bytes_each c.args.bytes.now (λ i. let h = c.type_inv.bytes i in omega arith) in
    let fits = carried_fits c.args.bytes.now c.bytes.left (c.bytes.left - 1) c.bytes.number are c.requires (omega arith) (omega arith) c.bytes.invariant.value in
    omega (arith, fits.1)

pub overflow_add-number : goal.overflow_add-number
overflow_add-number c =
    let are = bytes_each c.args.bytes.now (λ i. let h = c.type_inv.bytes i in omega arith) in
    let fits = carried_fits c.args.bytes.now c.bytes.left (c.bytes.left - 1) c.bytes.number are c.requires (omega arith) (omega arith) c.bytes.invariant.value in
    omega (arith, fits.1)
