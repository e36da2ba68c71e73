-- Connections to serial buses (ACPI 6.5, 6.4.3.8.2). Each line has a field with its name in the standard, and its offset.
use Rattle.std.specs.Prelude.{ℕ, ◌+◌, ◌*◌, nat_le, Bool, List, [], ◌∷◌, ◌++◌, length}
use Rattle.acpi_base.specs.declared.error.Error.TheVariants.{FieldWidth}
use Rattle.acpi_base.specs.Fields.{NamedField, byte, word, dword, hex, preset, flags, one_of, fields_joined}
use Rattle.acpi_base.specs.Look.{Part, choice, flag, means}
use Rattle.acpi_base.specs.Object.{Object, whole, provided}
use Rattle.acpi_ops.specs.Descriptor.{bit}
use Rattle.acpi_ops.specs.declared.serial.SerialFlags.{SerialFlags}
use Rattle.acpi_ops.specs.declared.serial.Bus.{Bus}
use Rattle.acpi_ops.specs.declared.serial.I2cSettings.{I2cSettings}
use Rattle.acpi_ops.specs.declared.serial.SpiSettings.{SpiSettings}
use Rattle.acpi_ops.specs.declared.serial.UartSettings.{UartSettings}
use Rattle.acpi_ops.specs.declared.serial.DataBits.{DataBits}
use Rattle.acpi_ops.specs.declared.serial.DataBits.TheVariants as data_bits
use Rattle.acpi_ops.specs.declared.serial.StopBits.{StopBits}
use Rattle.acpi_ops.specs.declared.serial.StopBits.TheVariants as stop_bits
use Rattle.acpi_ops.specs.declared.serial.FlowControl.{FlowControl}
use Rattle.acpi_ops.specs.declared.serial.FlowControl.TheVariants as controls
use Rattle.acpi_ops.specs.declared.serial.Parity.{Parity}
use Rattle.acpi_ops.specs.declared.serial.Parity.TheVariants as parities

-- ---- what the buses share

-- General Flags: Slave Mode, Consumer/Producer and Connection Sharing
abbrev pub general_flags : SerialFlags → ℕ
general_flags f = bit f.device_initiated 0x01 + bit f.consumer 0x02 + bit f.shared 0x04

abbrev pub general_bits : List Part
general_bits =
    choice 0x01 (means 0x00 "Controller Initiated" ∷ means 0x01 "Device Initiated" ∷ [])
    ∷ choice 0x02 (means 0x00 "Producer" ∷ means 0x02 "Consumer" ∷ [])
    ∷ choice 0x04 (means 0x00 "Exclusive" ∷ means 0x04 "Shared" ∷ [])
    ∷ []

abbrev pub bus_types : List (ℕ × List ℕ)
bus_types = means 1 "I2C" ∷ means 2 "SPI" ∷ means 3 "UART" ∷ []

-- the value of the length field: after it 9 bytes, the bus's data with the vendor's, and the controller's name with a zero
abbrev pub length_after : ℕ → ℕ → ℕ
length_after size source = 10 + size + source

-- Serial Bus Connection Descriptor before the data of its bus: the size of this data with the vendor's, and that of the
-- controller's name
abbrev pub serial_head_fields : Bus → ℕ → ℕ → List NamedField
serial_head_fields b size source =
    preset byte "Serial Bus Connection Descriptor" 0x8e  -- 0
    ∷ word "Length" (length_after size source)  -- 1
    ∷ preset byte "Revision ID" 2  -- 3
    ∷ preset byte "Resource Source Index" 0  -- 4
    ∷ one_of bus_types byte "Serial Bus Type" b.bus  -- 5
    ∷ flags general_bits byte "General Flags" (general_flags b.general)  -- 6
    ∷ hex word "Type Specific Flags" b.specific  -- 7
    ∷ preset byte "Type Specific Revision ID" 1  -- 9
    ∷ word "Type Data Length" size  -- 10
    ∷ []

-- The bus's data, the vendor's data and the name of the controller follow.
abbrev pub serial_bytes : Bus → List ℕ → List ℕ → List ℕ → List ℕ
serial_bytes b own vendor source =
    fields_joined (serial_head_fields b (length own + length vendor) (length source)) ++ (own ++ (vendor ++ (source ++ 0 ∷ [])))

-- the length fits its field
abbrev pub serial_fits : ℕ → ℕ → ℕ → Bool
serial_fits own vendor source = nat_le (length_after (own + vendor) source) 65535

abbrev pub serial : Bus → List ℕ → List ℕ → List ℕ → Object
serial b own vendor source =
    provided (serial_fits (length own) (length vendor) (length source)) FieldWidth (whole (serial_bytes b own vendor source))

-- ---- I2C (6.4.3.8.2.1)

-- Type Specific Flags: 10-bit addressing mode
abbrev pub i2c_bus : I2cSettings → SerialFlags → Bus
i2c_bus s general = record { bus = 1; general = general; specific = bit s.ten_bit_address 0x01 }

abbrev pub i2c_fields : I2cSettings → List NamedField
i2c_fields s =
    dword "Connection Speed" s.speed  -- 12: in hertz
    ∷ hex word "Slave Address" s.address  -- 16
    ∷ []

abbrev pub i2c : I2cSettings → SerialFlags → List ℕ → List ℕ → Object
i2c s general vendor source = serial (i2c_bus s general) (fields_joined (i2c_fields s)) vendor source

-- ---- SPI (6.4.3.8.2.2)

-- Type Specific Flags: Wire Mode and Device Polarity
abbrev pub spi_bus : SpiSettings → SerialFlags → Bus
spi_bus s general = record { bus = 2; general = general; specific = bit s.three_wires 0x01 + bit s.selected_high 0x02 }

abbrev pub clock_phases : List (ℕ × List ℕ)
clock_phases = means 0 "First Phase" ∷ means 1 "Second Phase" ∷ []

abbrev pub clock_polarities : List (ℕ × List ℕ)
clock_polarities = means 0 "Start Low" ∷ means 1 "Start High" ∷ []

abbrev pub spi_fields : SpiSettings → List NamedField
spi_fields s =
    dword "Connection Speed" s.speed  -- 12: in hertz
    ∷ byte "Data Bit Length" s.data_bits  -- 16
    ∷ one_of clock_phases byte "Phase" (bit s.second_phase 1)  -- 17
    ∷ one_of clock_polarities byte "Polarity" (bit s.clock_starts_high 1)  -- 18
    ∷ hex word "Device Selection" s.device  -- 19
    ∷ []

abbrev pub spi : SpiSettings → SerialFlags → List ℕ → List ℕ → Object
spi s general vendor source = serial (spi_bus s general) (fields_joined (spi_fields s)) vendor source

-- ---- UART (6.4.3.8.2.3)

-- Flow control, at bit 0
abbrev pub control_number : FlowControl → ℕ
control_number controls.Absent = 0
control_number controls.Hardware = 1
control_number controls.XonXoff = 2

-- Stop bits, at bit 2
abbrev pub stop_number : StopBits → ℕ
stop_number stop_bits.Zero = 0
stop_number stop_bits.One = 1
stop_number stop_bits.OneAndHalf = 2
stop_number stop_bits.Two = 3

-- Bits per byte, at bit 4
abbrev pub data_number : DataBits → ℕ
data_number data_bits.Five = 0
data_number data_bits.Six = 1
data_number data_bits.Seven = 2
data_number data_bits.Eight = 3
data_number data_bits.Nine = 4

-- Parity
abbrev pub parity_number : Parity → ℕ
parity_number parities.Absent = 0
parity_number parities.Even = 1
parity_number parities.Odd = 2
parity_number parities.Mark = 3
parity_number parities.Space = 4

abbrev pub parity_words : List (ℕ × List ℕ)
parity_words = means 0 "None" ∷ means 1 "Even" ∷ means 2 "Odd" ∷ means 3 "Mark" ∷ means 4 "Space" ∷ []

-- Serial Lines Enabled
abbrev pub line_bits : List Part
line_bits =
    flag 0x80 "Request To Send"
    ∷ flag 0x40 "Clear To Send"
    ∷ flag 0x20 "Data Terminal Ready"
    ∷ flag 0x10 "Data Set Ready"
    ∷ flag 0x08 "Ring Indicator"
    ∷ flag 0x04 "Data Carrier Detect"
    ∷ []

-- Type Specific Flags: flow control, stop bits, bits per byte and endianness
abbrev pub uart_bus : UartSettings → SerialFlags → Bus
uart_bus s general = record {
  bus = 3;
  general = general;
  specific = control_number s.flow_control + 4 * stop_number s.stop_bits + 16 * data_number s.data_bits + bit s.big_endian 0x80;
}

abbrev pub uart_fields : UartSettings → List NamedField
uart_fields s =
    dword "Default Baud Rate" s.baud_rate  -- 12: in bits a second
    ∷ word "Rx FIFO" s.receive_fifo  -- 16: in bytes
    ∷ word "Tx FIFO" s.transmit_fifo  -- 18: in bytes
    ∷ one_of parity_words byte "Parity" (parity_number s.parity)  -- 20
    ∷ flags line_bits byte "Serial Lines Enabled" s.lines  -- 21
    ∷ []

abbrev pub uart : UartSettings → SerialFlags → List ℕ → List ℕ → Object
uart s general vendor source = serial (uart_bus s general) (fields_joined (uart_fields s)) vendor source
