use Rattle.std.proofs.Common.{◌%◌, ◌∙◌, ap, sym, arith, [], ◌∷◌}
use Rattle.std.specs.Prelude.{sum}
use Rattle.acpi_base.specs.Bytes.{put}
use Rattle.acpi_base.proofs.Tables.{seal_is}
use Rattle.acpi_base.proofs.header.seal.Goals as goal

pub returns-clause-bytes : goal.returns-clause-bytes
returns-clause-bytes c =
    c.write_at-2.ensures ∙ (seal_is c.args.bytes.now _ c.add.new.self.value _ c.requires c.write_at.ensures (omega (arith, c.add.ensures.value, c.new-running.ensures.value)) c.checksum.ensures).0

pub returns-clause-sum : goal.returns-clause-sum
returns-clause-sum c =
    (seal_is c.args.bytes.now _ c.add.new.self.value _ c.requires c.write_at.ensures (omega (arith, c.add.ensures.value, c.new-running.ensures.value)) c.checksum.ensures).1
    ∙ ap (λ b. sum (put 9 (0 ∷ []) b) % 256) (sym c.write_at-2.ensures)
