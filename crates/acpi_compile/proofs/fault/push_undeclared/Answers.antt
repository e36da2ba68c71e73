use Rattle.std.proofs.Common.{map, codes, string_bytes}
use Rattle.acpi_read.specs.Report.{printable}
use Rattle.acpi_read.proofs.Texts.{after_two}
use Rattle.acpi_compile.proofs.fault.push_undeclared.Goals as goal

pub returns : goal.returns
returns c =
    after_two (string_bytes c.args.text.now) (codes "no External statement for ") (map printable c.args.name.now) _ _ c.in_ok-push_str.ensures.bytes c.in_ok-push_shown.ensures
