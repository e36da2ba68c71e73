use denote.Enum.Declared.{tag_of}
use Rattle.std.proofs.Common.{◌≡◌, ap, rules}
use Rattle.acpi_fixed.specs.contracts.fadt.PmProfile.{the_type}
use Rattle.acpi_fixed.specs.declared.fadt.PmProfile.{PmProfile}
use Rattle.acpi_fixed.specs.Fadt.{profile_number}
use Rattle.acpi_fixed.proofs.fadt.FADTBuilder.preferred_pm_profile.Goals as goal

told : (profile : PmProfile) → tag_of the_type profile ≡ profile_number profile
told profile = search rules

pub returns : goal.returns
returns c = ap (λ n. record c.args.self { preferred_pm_profile = n }) (told c.args.profile)
