use Rattle.acpi_c_calls.proofs.Numbers.{fine_is_true}
use Rattle.acpi_c_calls.proofs.laws.checks_are_fine.Goals as goal

pub returns : goal.returns
returns c = record {
  tables = λ bytes. fine_is_true _ _;
  terms = λ text bytes. fine_is_true _ _;
  images = λ bytes base rsdp. fine_is_true _ _;
}
