use Rattle.std.proofs.Common.{◌≡◌, ◌+◌, ◌%◌, ◌∙◌, refl, ap, sym, arith, [], ◌∷◌, ◌++◌, length, length-append}
use Rattle.std.specs.Prelude.{sum}
use Rattle.std.proofs.lemmas.Slice.{pushed}
use Rattle.acpi_base.specs.Bytes.{le, put}
use Rattle.acpi_base.proofs.Puts.{length-put}
use Rattle.acpi_base.proofs.Tables.{sum_extended, written_back, sealed_table}
use Rattle.acpi_base.proofs.sdt.Sdt.append_slice.Goals as goal

pub set_length-requires-clause-summed : goal.set_length-requires-clause-summed
set_length-requires-clause-summed c =
    let items : c.extend_from_slice.new.self.items ≡ c.self.inside.bytes.items ++ c.args.slice.now = pushed c.args.slice.now refl c.in_ok-extend_from_slice.was c.extend_from_slice.ensures.items in
    sum_extended _ _ _ _ c.self.invariant.header c.self.invariant.running c.add.ensures.value
    ∙ ap (λ b. sum (put 9 (0 ∷ []) b) % 256) (sym (c.deref_mut.ensures.value ∙ items))

pub invariant_of-self-2 : goal.invariant_of-self-2
invariant_of-self-2 c =
    let items : c.extend_from_slice.new.self.items ≡ c.self.inside.bytes.items ++ c.args.slice.now = pushed c.args.slice.now refl c.in_ok-extend_from_slice.was c.extend_from_slice.ensures.items in
    let held = c.deref_mut.result.now in
    let is : held ≡ c.self.inside.bytes.items ++ c.args.slice.now = c.deref_mut.ensures.value ∙ items in
    let size : length held ≡ length c.self.inside.bytes.items + length c.args.slice.now = ap length is ∙ length-append c.self.inside.bytes.items c.args.slice.now in
    let told : length (put 4 (le 4 c.in-Ok.size) held) ≡ length held = length-put 4 (le 4 c.in-Ok.size) held (omega (arith, size, c.self.invariant.header)) in
    let whole = sealed_table _ _ _ c.set_length.ensures.bytes (omega (arith, told, size, c.self.invariant.header)) (omega (arith, told, size, c.in-Ok.ensures, c.len.ensures)) c.set_length.ensures.sum in
    rw (written_back _ c.set_length.new.bytes c.extend_from_slice.new.self.items (c.set_length.auto.bytes ∙ c.deref_mut.ensures.len)) whole
