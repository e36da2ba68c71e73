use Rattle.std.proofs.Common.{◌%◌, ◌∙◌, refl, ap, sym, [], ◌∷◌}
use Rattle.std.specs.Prelude.{sum}
use Rattle.acpi_base.specs.Bytes.{le, put}
use Rattle.acpi_base.proofs.Tables.{set_length_is}
use Rattle.acpi_base.proofs.patch.set_length.Goals as goal

pub returns-clause-bytes : goal.returns-clause-bytes
returns-clause-bytes c =
    c.write_at-2.ensures ∙ (set_length_is c.args.bytes.now (le 4 c.args.size) _ _ _ _ _ c.requires.header refl c.write_at.ensures (c.patch.ensures.bytes ∙ ap (λ l. put 4 l c.write_at.new.bytes) c.to_le_bytes.ensures) (c.requires.summed ∙ sym (ap (λ b. sum b % 256) c.write_at.ensures)) c.patch.ensures.range c.patch.ensures.sum c.checksum.ensures).0

pub returns-clause-sum : goal.returns-clause-sum
returns-clause-sum c =
    (set_length_is c.args.bytes.now (le 4 c.args.size) _ _ _ _ _ c.requires.header refl c.write_at.ensures (c.patch.ensures.bytes ∙ ap (λ l. put 4 l c.write_at.new.bytes) c.to_le_bytes.ensures) (c.requires.summed ∙ sym (ap (λ b. sum b % 256) c.write_at.ensures)) c.patch.ensures.range c.patch.ensures.sum c.checksum.ensures).1
    ∙ ap (λ b. sum (put 9 (0 ∷ []) b) % 256) (sym c.write_at-2.ensures)
