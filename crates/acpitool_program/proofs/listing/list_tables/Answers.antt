use Rattle.std.proofs.Common.{inl, refl}
use Rattle.acpitool_program.proofs.Streams.{keeps_self}
use Rattle.acpitool_program.proofs.listing.list_tables.Goals as goal

pub returns-in_ok-print_tables-in-Ok : goal.returns-in_ok-print_tables-in-Ok
returns-in_ok-print_tables-in-Ok g c = inl (record {
  tables = c.in-Ok.tables.items;
  found = c.in-Ok.ensures.ok;
  wrote = rw c.deref.ensures.value at c.in_ok-print_tables-in-Ok.ensures;
  silent = keeps_self _;
  is = refl;
})
