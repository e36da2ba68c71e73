use Rattle.acpi_json.proofs.Structures.{members_added}
use Rattle.acpi_json.proofs.table.push_walked.Goals as goal

pub returns : goal.returns
returns c =
    members_added c.args.form.now c.args.walk.now _ c.args.bytes.now _ _ _ _ _ c.start_of.ensures c.split_within.ensures.front
    c.split_within.ensures.rest c.in_ok-push_parts_member.ensures c.in_ok-push_structures_member.ensures
