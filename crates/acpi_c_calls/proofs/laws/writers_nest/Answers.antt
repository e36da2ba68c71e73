use Rattle.acpi_c_calls.proofs.Nested.{fine_is_done, piece_is_written, pieces_are_joined, row_is_written, buffer_is_written, template_is_written, entry_is_written, field_is_written, index_field_is_written, table_is_sealed}
use Rattle.acpi_c_calls.proofs.laws.writers_nest.Goals as goal

pub returns : goal.returns
returns c = record {
  fine = fine_is_done;
  pieces = piece_is_written;
  joined = pieces_are_joined;
  rows = row_is_written;
  buffers = buffer_is_written;
  templates = template_is_written;
  entries = entry_is_written;
  fields = field_is_written;
  index_fields = index_field_is_written;
  tables = table_is_sealed;
}
