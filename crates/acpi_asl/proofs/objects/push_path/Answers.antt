use Rattle.std.proofs.Common.{codes, false}
use Rattle.acpi_read.proofs.Texts.{after_two}
use Rattle.acpi_asl.specs.Name.{segments_text}
use Rattle.acpi_asl.specs.Objects.{path_member}
use Rattle.acpi_asl.proofs.objects.push_path.Goals as goal

pub returns : goal.returns
unfolding path_member
returns c =
    after_two _ (codes ",{\"path\":\"\\\\") (segments_text false c.args.path.now) _ _ c.in_ok-push_str.ensures.bytes c.in_ok-push_segments.ensures
