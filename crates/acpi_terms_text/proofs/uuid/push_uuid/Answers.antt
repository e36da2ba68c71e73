use Rattle.std.proofs.lemmas.List.{take_rest}
use Rattle.acpi_terms_text.proofs.Groups.{groups_added}
use Rattle.acpi_terms_text.proofs.uuid.push_uuid.Goals as goal

pub returns : goal.returns
returns c = groups_added c.args.bytes.now _ _ _ _ _ _ _ c.in-len10-up.len_at_least (take_rest c.args.bytes.now 10) c.in_ok-push_group.ensures c.in_ok-push_group-2.ensures c.in_ok-push_group-3.ensures c.in_ok-push_group-4.ensures c.in_ok-push_hex.ensures
