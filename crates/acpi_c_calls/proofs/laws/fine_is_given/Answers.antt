use Rattle.acpi_c_calls.proofs.Numbers.{fine_is_given}
use Rattle.acpi_c_calls.proofs.laws.fine_is_given.Goals as goal

pub returns : goal.returns
returns c = record {
  structures = λ bytes. fine_is_given _ _;
  texts = λ bytes. fine_is_given _ _;
  findings = λ bytes. fine_is_given _ _;
  tables = λ text. fine_is_given _ _;
  notes = λ text. fine_is_given _ _;
  templates = λ signature. fine_is_given _ _;
  names = λ number. fine_is_given _ _;
}
