-- TCPA of clients and servers (TCG ACPI Specification, TPM 1.2).
use Rattle.std.specs.Prelude.{ℕ, List, [], ◌∷◌, codes, bit_or}
use Rattle.acpi_base.specs.Fields.{NamedField, byte, word, dword, qword, hex, flags, one_of, bytes, reserved, fields_joined}
use Rattle.acpi_base.specs.Look.{Part, flag}
use Rattle.acpi_base.specs.Gas.{register, no_register}
use Rattle.acpi_base.specs.Table.{table_of}
use Rattle.acpi_base.specs.declared.gas.GAS.{GAS}
use Rattle.acpi_base.specs.declared.oem.Oem.{Oem}
use Rattle.acpi_fixed.specs.Class.{class_number, class_words}
use Rattle.acpi_fixed.specs.declared.tpm2.PlatformClass.TheVariants.{Client, Server}
use Rattle.acpi_fixed.specs.declared.tpm2.TpmClient1_2.{TpmClient1_2}
use Rattle.acpi_fixed.specs.declared.tpm2.TpmServer1_2.{TpmServer1_2}

-- ---- of a client

-- the fields after the header
abbrev pub client_fields : TpmClient1_2 → List NamedField
client_fields t =
    one_of class_words word "Platform Class" (class_number Client)  -- 36
    ∷ dword "Log Area Minimum Length" t.log_area_min_len  -- 38
    ∷ hex qword "Log Area Start Address" t.log_area_start_addr  -- 42
    ∷ []

abbrev pub client_bytes : TpmClient1_2 → List ℕ
client_bytes t = table_of (codes "TCPA") 2 t.oem (fields_joined (client_fields t))

-- a log area of at least this many bytes at an address
abbrev pub client_for : Oem → ℕ → ℕ → TpmClient1_2
client_for oem min_len start_addr = record {
  oem = oem;
  log_area_min_len = min_len;
  log_area_start_addr = start_addr;
}

-- ---- of a server

-- Device Flags
abbrev pub device_bits : List Part
device_bits =
    flag 0x1 "PCI Device"
    ∷ flag 0x2 "Bus is PNP"
    ∷ flag 0x4 "Configuration Address Valid"
    ∷ []

-- Interrupt Flags
abbrev pub interrupt_bits : List Part
interrupt_bits =
    flag 0x1 "Edge Triggered"
    ∷ flag 0x2 "Active Low"
    ∷ flag 0x4 "SCI by GPE"
    ∷ flag 0x8 "Global System Interrupt"
    ∷ []

-- the fields after the header
abbrev pub server_fields : TpmServer1_2 → List NamedField
server_fields t =
    one_of class_words word "Platform Class" (class_number Server)  -- 36
    ∷ reserved 2  -- 38
    ∷ qword "Log Area Minimum Length" t.log_area_min_len  -- 40
    ∷ hex qword "Log Area Start Address" t.log_area_start_addr  -- 48
    ∷ bytes "Specification Revision" 2 (1 ∷ 2 ∷ [])  -- 56: 1.2
    ∷ flags device_bits byte "Device Flags" t.device_flags  -- 58
    ∷ flags interrupt_bits byte "Interrupt Flags" t.interrupt_flags  -- 59
    ∷ byte "GPE" t.gpe  -- 60
    ∷ reserved 3  -- 61
    ∷ dword "Global System Interrupt" t.gsi  -- 64
    ∷ register "Base Address" t.base_addr  -- 68
    ∷ reserved 4  -- 80
    ∷ register "Configuration Address" t.config_addr  -- 84
    ∷ byte "PCI Segment Group Number" t.pci_segment  -- 96
    ∷ byte "PCI Bus Number" t.pci_bus  -- 97
    ∷ byte "PCI Device Number" t.pci_device  -- 98
    ∷ byte "PCI Function Number" t.pci_function  -- 99
    ∷ []

abbrev pub server_bytes : TpmServer1_2 → List ℕ
server_bytes t = table_of (codes "TCPA") 2 t.oem (fields_joined (server_fields t))

abbrev pub server_at_first : Oem → TpmServer1_2
server_at_first oem = record {
  oem = oem;
  log_area_min_len = 0;
  log_area_start_addr = 0;
  device_flags = 0;
  interrupt_flags = 0;
  gpe = 0;
  gsi = 0;
  base_addr = no_register;
  config_addr = no_register;
  pci_segment = 0;
  pci_bus = 0;
  pci_device = 0;
  pci_function = 0;
}

-- ---- what the setters of a server change

-- flags are joined by or to those that are set
abbrev pub with_device_flag : ℕ → TpmServer1_2 → TpmServer1_2
with_device_flag flag t = record t { device_flags = bit_or t.device_flags flag }

abbrev pub with_interrupt_flag : ℕ → TpmServer1_2 → TpmServer1_2
with_interrupt_flag flag t = record t { interrupt_flags = bit_or t.interrupt_flags flag }

abbrev pub with_log_area : ℕ → ℕ → TpmServer1_2 → TpmServer1_2
with_log_area min_len start_addr t = record t { log_area_min_len = min_len; log_area_start_addr = start_addr }

abbrev pub with_gpe : ℕ → TpmServer1_2 → TpmServer1_2
with_gpe number t = record t { gpe = number }

abbrev pub with_gsi : ℕ → TpmServer1_2 → TpmServer1_2
with_gsi number t = record t { gsi = number }

abbrev pub with_base : GAS → TpmServer1_2 → TpmServer1_2
with_base address t = record t { base_addr = address }

abbrev pub with_config : GAS → TpmServer1_2 → TpmServer1_2
with_config address t = record t { config_addr = address }

abbrev pub with_pci : ℕ → ℕ → ℕ → ℕ → TpmServer1_2 → TpmServer1_2
with_pci segment bus device function t = record t {
  pci_segment = segment;
  pci_bus = bus;
  pci_device = device;
  pci_function = function;
}
