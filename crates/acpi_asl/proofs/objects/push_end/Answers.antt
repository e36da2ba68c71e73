use Rattle.std.proofs.Common.{codes}
use Rattle.acpi_read.proofs.Texts.{after_three}
use Rattle.acpi_asl.specs.Objects.{table_end}
use Rattle.acpi_asl.proofs.objects.push_end.Goals as goal

pub returns : goal.returns
unfolding table_end
returns c =
    after_three _ (codes ",\"objects\":[") c.args.all.now (codes "]}\n]\n") _ _ _ c.in_ok-push_str.ensures.bytes
    c.in_ok-push_str-2.ensures.bytes c.in_ok-push_str-3.ensures.bytes
