-- The Serial Port Console Redirection table (Microsoft, SPCR revision 4).
use Rattle.std.specs.Prelude.{ℕ, List, [], ◌∷◌, ◌++◌, codes, bit_or, take}
use Rattle.acpi_base.specs.Fields.{NamedField, byte, word, dword, hex, preset, flags, one_of, text, reserved, fields_joined}
use Rattle.acpi_base.specs.Look.{Part, flag, means}
use Rattle.acpi_base.specs.Gas.{register, no_register}
use Rattle.acpi_base.specs.Table.{table_of}
use Rattle.acpi_base.specs.declared.gas.GAS.{GAS}
use Rattle.acpi_base.specs.declared.oem.Oem.{Oem}
use Rattle.acpi_fixed.specs.declared.spcr.BaudRate.{BaudRate}
use Rattle.acpi_fixed.specs.declared.spcr.BaudRate.TheVariants as rates
use Rattle.acpi_fixed.specs.declared.spcr.FlowControl.{FlowControl}
use Rattle.acpi_fixed.specs.declared.spcr.FlowControl.TheVariants as flows
use Rattle.acpi_fixed.specs.declared.spcr.InterfaceType.{InterfaceType}
use Rattle.acpi_fixed.specs.declared.spcr.InterfaceType.TheVariants as interfaces
use Rattle.acpi_fixed.specs.declared.spcr.InterruptController.{InterruptController}
use Rattle.acpi_fixed.specs.declared.spcr.InterruptController.TheVariants as controllers
use Rattle.acpi_fixed.specs.Sealed.{padded}
use Rattle.acpi_fixed.specs.declared.spcr.EarlierSPCR.{EarlierSPCR}
use Rattle.acpi_fixed.specs.declared.spcr.SPCR.{SPCR}
use Rattle.acpi_fixed.specs.declared.spcr.TerminalType.{TerminalType}
use Rattle.acpi_fixed.specs.declared.spcr.TerminalType.TheVariants as terminals

-- ---- enums

-- Interface Type: the subtypes of serial ports of the Debug Port Table 2 (Microsoft)
abbrev pub interface_number : InterfaceType → ℕ
interface_number interfaces.Uart16550 = 0x00
interface_number interfaces.Uart16550Subset = 0x01
interface_number interfaces.Max311xe = 0x02
interface_number interfaces.ArmPl011 = 0x03
interface_number interfaces.Msm8x60 = 0x04
interface_number interfaces.Nvidia16550 = 0x05
interface_number interfaces.TiOmap = 0x06
interface_number interfaces.Apm88xxxx = 0x08
interface_number interfaces.Msm8974 = 0x09
interface_number interfaces.Sam5250 = 0x0a
interface_number interfaces.IntelUsif = 0x0b
interface_number interfaces.Imx6 = 0x0c
interface_number interfaces.ArmSbsa32Bit = 0x0d
interface_number interfaces.ArmSbsa = 0x0e
interface_number interfaces.ArmDcc = 0x0f
interface_number interfaces.Bcm2835 = 0x10
interface_number interfaces.Sdm845Slow = 0x11
interface_number interfaces.Uart16550WithGas = 0x12
interface_number interfaces.Sdm845Fast = 0x13
interface_number interfaces.IntelLpss = 0x14
interface_number interfaces.RiscvSbi = 0x15

-- Interrupt Type, a flag for each controller of a global system interrupt
abbrev pub controller_flag : InterruptController → ℕ
controller_flag controllers.IoApic = 0x02
controller_flag controllers.IoSapic = 0x04
controller_flag controllers.ArmGic = 0x08
controller_flag controllers.RiscvPlic = 0x10

-- Configured Baud Rate
abbrev pub rate_number : BaudRate → ℕ
rate_number rates.AsIs = 0
rate_number rates.Baud9600 = 3
rate_number rates.Baud19200 = 4
rate_number rates.Baud57600 = 6
rate_number rates.Baud115200 = 7

-- Flow Control
abbrev pub flow_flag : FlowControl → ℕ
flow_flag flows.Dcd = 0x01
flow_flag flows.RtsCts = 0x02
flow_flag flows.XonXoff = 0x04

-- Terminal Type
abbrev pub terminal_number : TerminalType → ℕ
terminal_number terminals.Vt100 = 0
terminal_number terminals.ExtendedVt100 = 1
terminal_number terminals.VtUtf8 = 2
terminal_number terminals.Ansi = 3

-- ---- the table

-- the words of Interface Type
abbrev pub interface_words : List (ℕ × List ℕ)
interface_words =
    means 0x00 "16550"
    ∷ means 0x01 "16550 Subset"
    ∷ means 0x02 "MAX311xE SPI"
    ∷ means 0x03 "Arm PL011"
    ∷ means 0x04 "MSM8x60"
    ∷ means 0x05 "Nvidia 16550"
    ∷ means 0x06 "TI OMAP"
    ∷ means 0x08 "APM88xxxx"
    ∷ means 0x09 "MSM8974"
    ∷ means 0x0a "SAM5250"
    ∷ means 0x0b "Intel USIF"
    ∷ means 0x0c "i.MX 6"
    ∷ means 0x0d "Arm SBSA Generic UART, 32-bit Accesses"
    ∷ means 0x0e "Arm SBSA Generic UART"
    ∷ means 0x0f "Arm DCC"
    ∷ means 0x10 "BCM2835"
    ∷ means 0x11 "SDM845, 1.8432 MHz"
    ∷ means 0x12 "16550 with Generic Address"
    ∷ means 0x13 "SDM845, 7.372 MHz"
    ∷ means 0x14 "Intel LPSS"
    ∷ means 0x15 "RISC-V SBI Console"
    ∷ []

-- Interrupt Type
abbrev pub controller_bits : List Part
controller_bits =
    flag 0x01 "8259"
    ∷ flag 0x02 "I/O APIC"
    ∷ flag 0x04 "I/O SAPIC"
    ∷ flag 0x08 "Arm GIC"
    ∷ flag 0x10 "RISC-V PLIC or APLIC"
    ∷ []

-- the words of Configured Baud Rate
abbrev pub rate_words : List (ℕ × List ℕ)
rate_words =
    means 0 "As Is"
    ∷ means 3 "9600"
    ∷ means 4 "19200"
    ∷ means 6 "57600"
    ∷ means 7 "115200"
    ∷ []

-- the word of Parity
abbrev pub parity_words : List (ℕ × List ℕ)
parity_words =
    means 0 "No Parity"
    ∷ []

-- Flow Control
abbrev pub flow_bits : List Part
flow_bits =
    flag 0x1 "DCD Required"
    ∷ flag 0x2 "RTS/CTS"
    ∷ flag 0x4 "XON/XOFF"
    ∷ []

-- the words of Terminal Type
abbrev pub terminal_words : List (ℕ × List ℕ)
terminal_words =
    means 0 "VT100"
    ∷ means 1 "Extended VT100"
    ∷ means 2 "VT-UTF8"
    ∷ means 3 "ANSI"
    ∷ []

-- PCI Flags
abbrev pub pci_bits : List Part
pci_bits =
    flag 0x1 "PnP and Power Management"
    ∷ []

-- the fields after the header
abbrev pub spcr_fields : SPCR → List NamedField
spcr_fields t =
    one_of interface_words byte "Interface Type" (interface_number t.interface_type)  -- 36
    ∷ reserved 3  -- 37
    ∷ register "Base Address" t.base_address  -- 40
    ∷ flags controller_bits byte "Interrupt Type" t.interrupt_type  -- 52
    ∷ byte "IRQ" t.irq  -- 53
    ∷ dword "Global System Interrupt" t.gsi  -- 54
    ∷ one_of rate_words byte "Configured Baud Rate" (rate_number t.baud_rate)  -- 58
    ∷ one_of parity_words byte "Parity" t.parity  -- 59
    ∷ byte "Stop Bits" t.stop_bits  -- 60
    ∷ flags flow_bits byte "Flow Control" t.flow_control  -- 61
    ∷ one_of terminal_words byte "Terminal Type" (terminal_number t.terminal_type)  -- 62
    ∷ byte "Language" t.language  -- 63
    ∷ hex word "PCI Device ID" t.pci_device_id  -- 64
    ∷ hex word "PCI Vendor ID" t.pci_vendor_id  -- 66
    ∷ byte "PCI Bus Number" t.pci_bus  -- 68
    ∷ byte "PCI Device Number" t.pci_device  -- 69
    ∷ byte "PCI Function Number" t.pci_function  -- 70
    ∷ flags pci_bits dword "PCI Flags" t.pci_flags  -- 71
    ∷ byte "PCI Segment" t.pci_segment  -- 75
    ∷ dword "UART Clock Frequency" t.clock_frequency  -- 76
    ∷ dword "Precise Baud Rate" t.precise_baud_rate  -- 80
    ∷ preset word "NamespaceStringLength" 2  -- 84
    ∷ preset word "NamespaceStringOffset" 88  -- 86
    ∷ text "NamespaceString" 2 (codes "." ++ 0 ∷ [])  -- 88: no device
    ∷ []

abbrev pub spcr_bytes : SPCR → List ℕ
spcr_bytes t = table_of (codes "SPCR") 4 t.oem (fields_joined (spcr_fields t))

-- the table of revision 2, which has the same fields up to PCI Segment, and 4 reserved bytes after it
abbrev pub earlier_spcr_bytes : EarlierSPCR → List ℕ
earlier_spcr_bytes t = padded 80 (codes "SPCR") 2 t.table.oem (take 40 (fields_joined (spcr_fields t.table)))

-- a port with this many stop bits, whose other fields are 0; the ids of a PCI device are 0xffff where there is none
abbrev pub spcr_at_first : Oem → InterfaceType → GAS → ℕ → SPCR
spcr_at_first oem interface address stop_bits = record {
  oem = oem;
  interface_type = interface;
  base_address = address;
  interrupt_type = 0;
  irq = 0;
  gsi = 0;
  baud_rate = rates.AsIs;
  parity = 0;
  stop_bits = stop_bits;
  flow_control = 0;
  terminal_type = terminals.Vt100;
  language = 0;
  pci_device_id = 0xffff;
  pci_vendor_id = 0xffff;
  pci_bus = 0;
  pci_device = 0;
  pci_function = 0;
  pci_flags = 0;
  pci_segment = 0;
  clock_frequency = 0;
  precise_baud_rate = 0;
  lent = record {};
}

-- a console that the supervisor binary interface provides
abbrev pub spcr_for : Oem → SPCR
spcr_for oem = spcr_at_first oem interfaces.RiscvSbi no_register 0

-- ---- setters

abbrev pub with_interrupt : ℕ → SPCR → SPCR
with_interrupt flag t = record t { interrupt_type = bit_or t.interrupt_type flag }

abbrev pub with_pci_address : ℕ → ℕ → ℕ → ℕ → SPCR → SPCR
with_pci_address segment bus device function t =
    record t { pci_segment = segment; pci_bus = bus; pci_device = device; pci_function = function }
