use Rattle.std.proofs.Common.{codes}
use Rattle.acpi_read.proofs.Texts.{after_two}
use Rattle.acpi_asl.specs.Number.{json_string}
use Rattle.acpi_asl.specs.Objects.{signature_member}
use Rattle.acpi_asl.proofs.objects.push_signature.Goals as goal

pub returns : goal.returns
unfolding signature_member
returns c =
    after_two _ (codes "[\n{\"signature\":") (json_string c.args.signature.now) _ _ c.in_ok-push_str.ensures.bytes c.in_ok-push_json_string.ensures
