use Rattle.acpi_layout.proofs.Followed.{have_one_list}
use Rattle.acpi_layout.proofs.laws.images_have_one_list.Goals as goal

pub returns : goal.returns
returns c = have_one_list
