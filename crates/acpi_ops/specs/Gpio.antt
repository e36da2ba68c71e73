-- Connections to GPIO pins (ACPI 6.5, 6.4.3.8.1). Each line has a field with its name in the standard, and its offset.
use Rattle.std.specs.Prelude.{ℕ, ◌+◌, ◌*◌, List, [], ◌∷◌, ◌++◌, length}
use Rattle.acpi_base.specs.declared.error.Error.TheVariants.{FieldWidth}
use Rattle.acpi_base.specs.Fields.{NamedField, byte, word, hex, preset, flags, one_of, fields_joined}
use Rattle.acpi_base.specs.Look.{Part, choice, means}
use Rattle.acpi_base.specs.Object.{Object, whole, provided}
use Rattle.acpi_ops.specs.Descriptor.{bit}
use Rattle.acpi_ops.specs.Parts.{name_at, vendor_at, length_of, parts_fit, parts_bytes, pins_bytes}
use Rattle.acpi_ops.specs.declared.gpio.GpioPolarity.{GpioPolarity}
use Rattle.acpi_ops.specs.declared.gpio.GpioPolarity.TheVariants as polarities
use Rattle.acpi_ops.specs.declared.gpio.IoRestriction.{IoRestriction}
use Rattle.acpi_ops.specs.declared.gpio.IoRestriction.TheVariants as restrictions
use Rattle.acpi_ops.specs.declared.gpio.PinConfig.{PinConfig}
use Rattle.acpi_ops.specs.declared.gpio.PinConfig.TheVariants as configs
use Rattle.acpi_ops.specs.declared.gpio.GpioIntSettings.{GpioIntSettings}
use Rattle.acpi_ops.specs.declared.gpio.GpioIoSettings.{GpioIoSettings}
use Rattle.acpi_ops.specs.declared.gpio.Settings.{Settings}

-- ---- numbers

-- Interrupt Polarity, at bit 1
abbrev pub polarity_number : GpioPolarity → ℕ
polarity_number polarities.ActiveHigh = 0
polarity_number polarities.ActiveLow = 1
polarity_number polarities.ActiveBoth = 2

-- IO Restriction, at bit 0
abbrev pub restriction_number : IoRestriction → ℕ
restriction_number restrictions.InputAndOutput = 0
restriction_number restrictions.InputOnly = 1
restriction_number restrictions.OutputOnly = 2
restriction_number restrictions.InputAndOutputPreserved = 3

-- Pin Configuration
abbrev pub config_number : PinConfig → ℕ
config_number configs.Default = 0
config_number configs.PullUp = 1
config_number configs.PullDown = 2
config_number configs.PullNone = 3

-- Interrupt and IO Flags of an interrupt connection: Mode, Polarity, Sharing and Wake Capability
abbrev pub interrupt_bits : GpioIntSettings → ℕ
interrupt_bits s = bit s.edge_triggered 0x01 + 2 * polarity_number s.polarity + bit s.shared 0x08 + bit s.wake 0x10

-- Interrupt and IO Flags of an I/O connection: IO Restriction and Sharing
abbrev pub io_bits : GpioIoSettings → ℕ
io_bits s = restriction_number s.restriction + bit s.shared 0x08

-- ---- words

abbrev pub connection_types : List (ℕ × List ℕ)
connection_types = means 0 "Interrupt Connection" ∷ means 1 "IO Connection" ∷ []

abbrev pub general_bits : List Part
general_bits = choice 0x1 (means 0x0 "Producer" ∷ means 0x1 "Consumer" ∷ []) ∷ []

abbrev pub pin_configs : List (ℕ × List ℕ)
pin_configs = means 0 "Default" ∷ means 1 "Pull-up" ∷ means 2 "Pull-down" ∷ means 3 "No Pull" ∷ []

-- ---- the descriptor

-- the settings of both types of connections
abbrev pub of_interrupt : GpioIntSettings → Settings
of_interrupt s = record {
  connection = 0;
  consumer = s.consumer;
  flags = interrupt_bits s;
  pin_config = s.pin_config;
  drive_strength = 0;
  debounce_timeout = s.debounce_timeout;
}

abbrev pub of_io : GpioIoSettings → Settings
of_io s = record {
  connection = 1;
  consumer = s.consumer;
  flags = io_bits s;
  pin_config = s.pin_config;
  drive_strength = s.drive_strength;
  debounce_timeout = s.debounce_timeout;
}

-- GPIO Connection Descriptor before its pins: this many, a name of this many bytes, and this many bytes of the vendor
abbrev pub gpio_head_fields : Settings → ℕ → ℕ → ℕ → List NamedField
gpio_head_fields s pins source vendor =
    preset byte "GPIO Connection Descriptor" 0x8c  -- 0
    ∷ word "Length" (length_of 23 (2 * pins) source vendor)  -- 1
    ∷ preset byte "Revision ID" 1  -- 3
    ∷ one_of connection_types byte "GPIO Connection Type" s.connection  -- 4
    ∷ flags general_bits word "General Flags" (bit s.consumer 1)  -- 5
    ∷ hex word "Interrupt and IO Flags" s.flags  -- 7
    ∷ one_of pin_configs byte "Pin Configuration" (config_number s.pin_config)  -- 9
    ∷ word "Output Drive Strength" s.drive_strength  -- 10: in hundredths of a milliampere
    ∷ word "Debounce Timeout" s.debounce_timeout  -- 12: in hundredths of a millisecond
    ∷ preset word "Pin Table Offset" 23  -- 14
    ∷ preset byte "Resource Source Index" 0  -- 16
    ∷ word "Resource Source Name Offset" (name_at 23 (2 * pins))  -- 17
    ∷ word "Vendor Data Offset" (vendor_at 23 (2 * pins) source)  -- 19
    ∷ word "Vendor Data Length" vendor  -- 21
    ∷ []

-- The pins, the name of the controller and the vendor's data follow.
abbrev pub gpio_bytes : Settings → List ℕ → List ℕ → List ℕ → List ℕ
gpio_bytes s pins source vendor =
    fields_joined (gpio_head_fields s (length pins) (length source) (length vendor))
    ++ parts_bytes (pins_bytes pins) source vendor

abbrev pub gpio : Settings → List ℕ → List ℕ → List ℕ → Object
gpio s pins source vendor =
    provided (parts_fit 23 (2 * length pins) (length source) (length vendor)) FieldWidth (whole (gpio_bytes s pins source vendor))
