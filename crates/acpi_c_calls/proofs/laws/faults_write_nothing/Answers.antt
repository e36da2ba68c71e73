use Rattle.acpi_c_calls.proofs.Numbers.{fault_leaves}
use Rattle.acpi_c_calls.proofs.laws.faults_write_nothing.Goals as goal

pub returns : goal.returns
returns c = record {
  structures = λ bytes. fault_leaves _ _;
  texts = λ bytes. fault_leaves _ _;
  findings = λ bytes. fault_leaves _ _;
  tables = λ text. fault_leaves _ _;
  notes = λ text. fault_leaves _ _;
  templates = λ signature. fault_leaves _ _;
  names = λ number. fault_leaves _ _;
}
