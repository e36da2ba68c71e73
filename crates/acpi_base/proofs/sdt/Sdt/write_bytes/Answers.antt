use Rattle.std.proofs.Common.{◌≡◌, ◌∙◌, ap, arith, length}
use Rattle.acpi_base.specs.Bytes.{put}
use Rattle.acpi_base.proofs.Puts.{length-put}
use Rattle.acpi_base.proofs.Tables.{written_back, sealed_table}
use Rattle.acpi_base.proofs.sdt.Sdt.write_bytes.Goals as goal

pub invariant_of-self : goal.invariant_of-self
invariant_of-self c =
    let held = c.deref_mut.result.now in
    let size : length held ≡ length c.self.inside.bytes.items = ap length c.deref_mut.ensures.value in
    let kept : length (put c.args.offset c.args.slice.now held) ≡ length held = length-put c.args.offset c.args.slice.now held (omega (arith, size, c.requires, ap (λ t. length t.bytes) c.self.view_is)) in
    let whole = sealed_table _ _ _ c.overwrite.ensures.bytes (omega (arith, kept, size, c.self.invariant.header)) (omega (arith, kept, size, c.self.invariant.fits)) c.overwrite.ensures.sum in
    rw (written_back _ c.overwrite.new.bytes c.self.inside.bytes.items (c.overwrite.auto.bytes ∙ c.deref_mut.ensures.len)) whole
