use Rattle.std.proofs.Common.{inl, refl}
use Rattle.acpitool_program.proofs.Streams.{keeps_self}
use Rattle.acpitool_program.proofs.drawing.draw_image_bytes.Goals as goal

pub returns-in_ok-write_all-in-Ok : goal.returns-in_ok-write_all-in-Ok
returns-in_ok-write_all-in-Ok g c = inl (record {
  tables = c.in-Ok.tables.items;
  found = c.in-Ok.ensures.ok;
  wrote = rw (c.deref-in-Ok.ensures.value, c.in_ok-text-in-Ok.ensures, c.deref.ensures.value) at c.in_ok-write_all-in-Ok.ensures.bytes;
  silent = keeps_self _;
  is = refl;
})
