use Rattle.std.proofs.Common.{arith}
use Rattle.std.proofs.lemmas.List.{length-append}
use Rattle.acpi_base.specs.Number.{number_bytes}
use Rattle.acpi_asl.proofs.Rooms.{length_number}
use Rattle.acpi_asl.proofs.room.after_own.Goals as goal

pub returns-in-Number : goal.returns-in-Number
returns-in-Number c =
    let value = c.in-Number.field-0 in
    let width = c.args.width in
    λ n inside. rw c.in-Number.is
    (omega (arith, length-append (number_bytes value width) inside, length_number value width, c.after_both.ensures, c.from.ensures))
