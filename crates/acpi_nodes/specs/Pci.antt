-- Addresses of PCI functions.
use Rattle.std.specs.Prelude.{ℕ, ◌+◌, ◌*◌}
use Rattle.acpi_nodes.specs.declared.pci.PciDevice.{PciDevice}

-- bus, device and function in one number
abbrev pub pci_device : ℕ → ℕ → ℕ → ℕ → PciDevice
pci_device segment bus device function = record { segment = segment; bdf = bus * 256 + device * 8 + function }
