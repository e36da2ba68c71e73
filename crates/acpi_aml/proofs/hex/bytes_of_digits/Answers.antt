use Rattle.std.proofs.Common.{arith, refl, [], sym, ◌∙◌, length-set}
use Rattle.std.proofs.lemmas.List.{length-replicate}
use Rattle.acpi_aml.proofs.Digits.{read_none, read_more, read_all, read_fails}
use Rattle.acpi_aml.proofs.hex.bytes_of_digits.Goals as goal

pub loop-i-init : goal.loop-i-init
loop-i-init g c = record { size = length-replicate _ _; so_far = read_none c.args.text.now [] }

pub loop-i-preserved : goal.loop-i-preserved
loop-i-preserved g c = record {
  size = length-set _ _ _ ∙ c.loop-i.invariant.size;
  so_far = read_more c.args.text.now c.loop-i.bytes c.loop-i.i c.loop-i.invariant.so_far c.in_ok-bytes.field-0 _ (omega (arith, c.requires)) (omega (arith, c.loop-i.invariant.size)) (sym c.byte_of_digits.ensures ∙ c.in_ok-bytes.was) refl;
}

pub returns-in_err-bytes : goal.returns-in_err-bytes
returns-in_err-bytes g c = c.from_residual.ensures ∙ sym (read_fails c.args.text.now c.loop-i.bytes c.loop-i.i c.loop-i.invariant.so_far (omega (arith, c.requires)) (sym c.byte_of_digits.ensures ∙ c.in_err-bytes.was))

pub returns : goal.returns
returns g c = sym (read_all c.args.text.now c.loop-i.bytes c.loop-i.i c.loop-i.invariant.so_far (omega (arith, c.requires)) (omega (arith, c.loop-i.invariant.size)))
