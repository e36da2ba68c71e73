use Rattle.acpi_read.proofs.Texts.{after_three}
use Rattle.acpitool_program.proofs.hint.push_question.Goals as goal

pub returns : goal.returns
returns c =
    after_three _ _ _ _ _ _ _ c.in_ok-push_str.ensures.bytes c.in_ok-push_shown.ensures c.in_ok-push_str-2.ensures.bytes
