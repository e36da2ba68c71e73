use Rattle.std.proofs.Common.{◌+◌, ◌∙◌, ap, [], ◌∷◌, ◌++◌, arith, length, length-append}
use Rattle.acpi_base.proofs.Objects.{at_exit}
use Rattle.acpi_term.specs.Length.{length_bytes}
use Rattle.acpi_aml.proofs.Builders.{frame_gives_nothing, parts_wrote, parts_refused}
use Rattle.acpi_aml.proofs.builder.write_package.Goals as goal

pub returns-in_err-length-clause-err : goal.returns-in_err-length-clause-err
returns-in_err-length-clause-err g c =
    at_exit _ _ _ c.from_residual.ensures.1 (frame_gives_nothing (18 ∷ []) (c.args.count ∷ (c.args.elements.now ++ [])) _ _ (omega (arith, length-append c.args.elements.now [])) _ c.in_err-length.ensures.err)

pub returns-clause-ok : goal.returns-clause-ok
returns-clause-ok g c =
    let told = c.in_ok-length.ensures.ok.is ∙ ap (λ w. length_bytes w (w + (length c.args.elements.now + 1))) c.in_ok-length.ensures.width in
    parts_wrote (18 ∷ []) (c.args.count ∷ (c.args.elements.now ++ [])) _ _ (omega (arith, length-append c.args.elements.now [])) _ _ c.in_ok-length.ensures.end told _ c.write_parts.ensures.ok

pub returns-clause-err : goal.returns-clause-err
returns-clause-err g c =
    let told = c.in_ok-length.ensures.ok.is ∙ ap (λ w. length_bytes w (w + (length c.args.elements.now + 1))) c.in_ok-length.ensures.width in
    parts_refused (18 ∷ []) (c.args.count ∷ (c.args.elements.now ++ [])) _ _ (omega (arith, length-append c.args.elements.now [])) _ _ c.in_ok-length.ensures.end told _ c.write_parts.ensures.err
