use Rattle.std.proofs.Common.{◌≡◌, ◌<◌, ◌^◌, ◌++◌, [], ◌∷◌, length, ap, ◌∙◌, arith}
use Rattle.acpi_arm.specs.Dbg2.{device_bytes}
use Rattle.acpi_arm.proofs.Devices.{parts_joined, size_of_device}
use Rattle.acpi_arm.proofs.Written.{wrote_structure, refused_structure, refused_length}
use Rattle.acpi_arm.proofs.dbg2.DebugDeviceAml.to_aml_bytes.Goals as goal

written : (g : _) (c : goal.After-write_parts g) → c.head-head.result ++ (c.as_slice-addresses.result.now ++ (c.deref.result.now ++ (c.name-name.result.now ++ (0 ∷ (c.deref-2.result.now ++ []))))) ≡ device_bytes c.args.self.now
written g c =
    parts_joined c.args.self.now _ _ _ _ _ c.head-head.ensures (c.as_slice-addresses.ensures.is ∙ ap (λ x. x.addresses) c.self.view_is)
    (c.deref.ensures.value ∙ ap (λ x. x.sizes) c.self.view_is) c.name-name.ensures (c.deref-2.ensures.value ∙ ap (λ x. x.oem_data) c.self.view_is)

small : (g : _) (c : goal.After-write_parts g) → length (device_bytes c.args.self.now) < 2 ^ 16
small g c =
    omega (arith, size_of_device c.args.self.now, ap length c.as_slice-addresses.ensures.is, ap length c.name-name.ensures, ap (λ x. length x.addresses) c.self.view_is, ap (λ x. length x.sizes) c.self.view_is, ap (λ x. length x.oem_data) c.self.view_is, c.len.ensures, c.len-2.ensures, c.in_ok-name_start.ensures.ok, c.in_ok-oem_start.ensures.ok, c.in_ok-size.ensures.ok, c.from.ensures, c.from-2.ensures)

pub returns-clause-ok : goal.returns-clause-ok
returns-clause-ok g c = wrote_structure _ (device_bytes c.args.self.now) _ _ _ (small g c) (written g c) c.write_parts.ensures.ok

pub returns-clause-err : goal.returns-clause-err
returns-clause-err g c = refused_structure _ (device_bytes c.args.self.now) _ _ _ (small g c) (written g c) c.write_parts.ensures.err

pub returns-in_err-name_start-clause-err : goal.returns-in_err-name_start-clause-err
returns-in_err-name_start-clause-err g c =
    refused_length _ (device_bytes c.args.self.now) _ _ _
    (omega (arith, size_of_device c.args.self.now, ap length c.as_slice-addresses.ensures.is, ap (λ x. length x.addresses) c.self.view_is, ap (λ x. length x.sizes) c.self.view_is, c.len.ensures))
    c.from_residual.ensures.1 c.in_err-name_start.ensures.err

pub returns-in_err-oem_start-clause-err : goal.returns-in_err-oem_start-clause-err
returns-in_err-oem_start-clause-err g c =
    refused_length _ (device_bytes c.args.self.now) _ _ _
    (omega (arith, size_of_device c.args.self.now, ap length c.as_slice-addresses.ensures.is, ap length c.name-name.ensures, ap (λ x. length x.addresses) c.self.view_is, ap (λ x. length x.sizes) c.self.view_is, c.len.ensures, c.in_ok-name_start.ensures.ok, c.from.ensures))
    c.from_residual-in_err-oem_start.ensures.1 c.in_err-oem_start.ensures.err

pub returns-in_err-size-clause-err : goal.returns-in_err-size-clause-err
returns-in_err-size-clause-err g c =
    refused_length _ (device_bytes c.args.self.now) _ _ _
    (omega (arith, size_of_device c.args.self.now, ap length c.as_slice-addresses.ensures.is, ap length c.name-name.ensures, ap (λ x. length x.addresses) c.self.view_is, ap (λ x. length x.sizes) c.self.view_is, ap (λ x. length x.oem_data) c.self.view_is, c.len.ensures, c.len-2.ensures, c.in_ok-name_start.ensures.ok, c.in_ok-oem_start.ensures.ok, c.from.ensures, c.from-2.ensures))
    c.from_residual-in_err-size.ensures.1 c.in_err-size.ensures.err
