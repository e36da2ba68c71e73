use Rattle.acpi_text.specs.Label.{label}
use Rattle.acpi_text.proofs.Offsets.{margin_added}
use Rattle.acpi_text.proofs.space.push_margin.Goals as goal

pub returns : goal.returns
returns c =
    margin_added c.args.depth c.args.offset (label c.args.name.now) _ _ _ _ c.in_ok-push_level.ensures c.in_ok-push_offset.ensures c.in_ok-push_label.ensures
