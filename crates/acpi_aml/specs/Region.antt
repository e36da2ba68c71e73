-- Operation regions.
use Rattle.std.specs.Prelude.{ℕ}
use Rattle.acpi_aml.specs.declared.region.OpRegionSpace.{OpRegionSpace}
use Rattle.acpi_aml.specs.declared.region.OpRegionSpace.TheVariants as spaces

-- RegionSpace (ACPI 6.5, 20.2.5.2)
abbrev pub region_space : OpRegionSpace → ℕ
region_space spaces.SystemMemory = 0
region_space spaces.SystemIO = 1
region_space spaces.PCIConfig = 2
region_space spaces.EmbeddedControl = 3
region_space spaces.SMBus = 4
region_space spaces.SystemCMOS = 5
region_space spaces.PciBarTarget = 6
region_space spaces.IPMI = 7
region_space spaces.GeneralPurposeIO = 8
region_space spaces.GenericSerialBus = 9
