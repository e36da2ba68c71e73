use Rattle.std.proofs.Common.{◌≡◌, ◌<◌, ◌^◌, ◌++◌, [], length, ap, arith}
use Rattle.acpi_arm.specs.IortSmmus.{smmu_bytes}
use Rattle.acpi_arm.proofs.Iorts.{smmu_long, smmu_joined}
use Rattle.acpi_arm.proofs.Written.{wrote_structure, refused_structure, refused_length}
use Rattle.acpi_arm.proofs.iort.smmus.SmmuAml.to_aml_bytes.Goals as goal

written : (g : _) (c : goal.After-write_parts g) → c.head-head.result ++ (c.as_slice-contexts.result.now ++ (c.as_slice-monitors.result.now ++ (c.as_slice-mappings.result.now ++ []))) ≡ smmu_bytes c.args.self.now
written g c = smmu_joined c.args.self.now _ _ _ _ c.head-head.ensures c.as_slice-contexts.ensures.is c.as_slice-monitors.ensures.is c.as_slice-mappings.ensures.is

small : (g : _) (c : goal.After-write_parts g) → length (smmu_bytes c.args.self.now) < 2 ^ 16
small g c =
    omega (arith, smmu_long c.args.self.now, ap length c.as_slice-contexts.ensures.is, ap length c.as_slice-monitors.ensures.is, ap length c.as_slice-mappings.ensures.is, c.in_ok-size.ensures.ok)

pub returns-clause-ok : goal.returns-clause-ok
returns-clause-ok g c = wrote_structure _ (smmu_bytes c.args.self.now) _ _ _ (small g c) (written g c) c.write_parts.ensures.ok

pub returns-clause-err : goal.returns-clause-err
returns-clause-err g c = refused_structure _ (smmu_bytes c.args.self.now) _ _ _ (small g c) (written g c) c.write_parts.ensures.err

pub returns-in_err-size-clause-err : goal.returns-in_err-size-clause-err
returns-in_err-size-clause-err g c =
    refused_length _ (smmu_bytes c.args.self.now) _ _ _
    (omega (arith, smmu_long c.args.self.now, ap length c.as_slice-contexts.ensures.is, ap length c.as_slice-monitors.ensures.is, ap length c.as_slice-mappings.ensures.is))
    c.from_residual.ensures.1 c.in_err-size.ensures.err
