use Rattle.std.proofs.Common.{◌≡◌, ◌<◌, ◌^◌, ◌++◌, [], length, take, ap, ◌∙◌, arith}
use Rattle.acpi_base.specs.Bytes.{zeros}
use Rattle.acpi_arm.specs.IortNodes.{component_bytes, name_end}
use Rattle.acpi_arm.proofs.Iorts.{component_long, component_joined, four_zeros, zeros_of_four}
use Rattle.acpi_arm.proofs.Written.{wrote_structure, refused_structure, refused_length}
use Rattle.acpi_arm.proofs.iort.components.NamedComponentAml.to_aml_bytes.Goals as goal

written : (g : _) (c : goal.After-write_parts g) → c.head-head.result ++ (c.as_bytes-name.result.now ++ (take c.name_end-zeros.result four_zeros ++ (c.as_slice-mappings.result.now ++ []))) ≡ component_bytes c.args.self.now
written g c =
    component_joined c.args.self.now _ _ _ _ c.head-head.ensures c.as_bytes-name.ensures.value
    (zeros_of_four c.name_end-zeros.result c.name_end-zeros.ensures.few ∙ ap zeros c.name_end-zeros.ensures.is ∙ ap (λ t. zeros (name_end (length t))) c.as_bytes-name.ensures.value)
    c.as_slice-mappings.ensures.is

small : (g : _) (c : goal.After-write_parts g) → length (component_bytes c.args.self.now) < 2 ^ 16
small g c =
    omega (arith, component_long c.args.self.now, ap length c.as_bytes-name.ensures.value, ap (λ t. name_end (length t)) c.as_bytes-name.ensures.value, c.name_end-zeros.ensures.is, ap length c.as_slice-mappings.ensures.is, c.in_ok-start.ensures.ok, c.in_ok-size.ensures.ok, c.from.ensures)

pub returns-clause-ok : goal.returns-clause-ok
returns-clause-ok g c = wrote_structure _ (component_bytes c.args.self.now) _ _ _ (small g c) (written g c) c.write_parts.ensures.ok

pub returns-clause-err : goal.returns-clause-err
returns-clause-err g c = refused_structure _ (component_bytes c.args.self.now) _ _ _ (small g c) (written g c) c.write_parts.ensures.err

pub returns-in_err-start-clause-err : goal.returns-in_err-start-clause-err
returns-in_err-start-clause-err g c =
    refused_length _ (component_bytes c.args.self.now) _ _ _
    (omega (arith, component_long c.args.self.now, ap length c.as_bytes-name.ensures.value, ap (λ t. name_end (length t)) c.as_bytes-name.ensures.value, c.name_end-zeros.ensures.is))
    c.from_residual.ensures.1 c.in_err-start.ensures.err

pub returns-in_err-size-clause-err : goal.returns-in_err-size-clause-err
returns-in_err-size-clause-err g c =
    refused_length _ (component_bytes c.args.self.now) _ _ _
    (omega (arith, component_long c.args.self.now, ap length c.as_bytes-name.ensures.value, ap (λ t. name_end (length t)) c.as_bytes-name.ensures.value, c.name_end-zeros.ensures.is, ap length c.as_slice-mappings.ensures.is, c.in_ok-start.ensures.ok, c.from.ensures))
    c.from_residual-in_err-size.ensures.1 c.in_err-size.ensures.err
