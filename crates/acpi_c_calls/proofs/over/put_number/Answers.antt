use Rattle.std.proofs.Common.{◌∙◌, List, ℕ, ap, take}
use Rattle.acpi_base.specs.Bytes.{put}
use Rattle.acpi_base.proofs.Values.{le_take}
use Rattle.acpi_c_calls.proofs.over.put_number.Goals as goal

pub returns : goal.returns
returns c =
    c.write_at.ensures
    ∙ ap (λ (with : List ℕ). put c.args.at with c.args.bytes.now)
    (ap (take c.args.width) c.to_le_bytes.ensures ∙ le_take c.args.width c.args.number c.requires.narrow)
