use Rattle.std.proofs.Common.{arith}
use Rattle.acpi_asl.proofs.Rooms.{connection_length}
use Rattle.acpi_asl.proofs.room.after_entry.Goals as goal

pub returns-in-ConnectionBuffer : goal.returns-in-ConnectionBuffer
returns-in-ConnectionBuffer c =
    let e = c.in-ConnectionBuffer in
    let sized = connection_length e.width e.size e.size_width e.bytes.items _ (c.length_size-in-ConnectionBuffer.ensures.is _) in
    rw e.is (omega (arith, sized, c.after_both-in-ConnectionBuffer.ensures, c.from-size.ensures, c.deref.ensures.len))
