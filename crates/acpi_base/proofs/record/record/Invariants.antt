use Rattle.std.proofs.Common.{◌≡◌, take, length}
use Rattle.acpi_base.specs.Record.{fields_bytes}
use Rattle.acpi_base.proofs.record.record.Given as goal

abbrev pub invariant-loop-field : goal.invariant-loop-field
invariant-loop-field g l = record {
  size : length l.bytes ≡ g.row.N;
  at : l.at ≡ length (fields_bytes (take l.field-index l.fields));
  written : take l.at l.bytes ≡ fields_bytes (take l.field-index l.fields);
}
