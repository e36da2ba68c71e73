use Rattle.acpi_text.proofs.Parts.{showed_no_choice}
use Rattle.acpi_text.proofs.part.push_choice.Goals as goal

pub returns-in_ok-push_nameless-in-None : goal.returns-in_ok-push_nameless-in-None
returns-in_ok-push_nameless-in-None c =
    showed_no_choice c.args.depth c.args.choice c.args.offset c.args.bytes.now _ _ c.in-None.is c.in_ok-push_nameless-in-None.ensures
