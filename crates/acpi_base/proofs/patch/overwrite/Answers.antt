use Rattle.std.proofs.Common.{◌≡◌, ◌+◌, ◌%◌, ◌∙◌, ap, sym, arith, get_or, [], ◌∷◌}
use Rattle.std.specs.Prelude.{sum}
use Rattle.acpi_base.specs.Bytes.{put}
use Rattle.acpi_base.proofs.Tables.{overwrite_is}
use Rattle.acpi_base.proofs.patch.overwrite.Goals as goal

pub returns-clause-bytes : goal.returns-clause-bytes
returns-clause-bytes c =
    let taken : (c.take.new.self.value + get_or c.patch.new.bytes 9 0) % 256 ≡ c.patch.new.running.value = omega (arith, c.take.ensures.value) in
    c.write_at-2.ensures ∙ (overwrite_is c.args.bytes.now c.args.with.now _ _ c.args.offset _ _ _ _ c.requires.header c.requires.within c.write_at.ensures c.patch.ensures.bytes (c.requires.summed ∙ sym (ap (λ b. sum b % 256) c.write_at.ensures)) c.patch.ensures.range c.patch.ensures.sum taken c.take.ensures.range c.checksum.ensures).0

pub returns-clause-sum : goal.returns-clause-sum
returns-clause-sum c =
    let taken : (c.take.new.self.value + get_or c.patch.new.bytes 9 0) % 256 ≡ c.patch.new.running.value = omega (arith, c.take.ensures.value) in
    (overwrite_is c.args.bytes.now c.args.with.now _ _ c.args.offset _ _ _ _ c.requires.header c.requires.within c.write_at.ensures c.patch.ensures.bytes (c.requires.summed ∙ sym (ap (λ b. sum b % 256) c.write_at.ensures)) c.patch.ensures.range c.patch.ensures.sum taken c.take.ensures.range c.checksum.ensures).1
    ∙ ap (λ b. sum (put 9 (0 ∷ []) b) % 256) (sym c.write_at-2.ensures)
