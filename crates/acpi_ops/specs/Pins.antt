-- Functions, configurations and groups of pins (ACPI 6.5, 6.4.3.9 to 6.4.3.13). Each line has a field
-- with its name in the standard, and its offset.
use Rattle.std.specs.Prelude.{ℕ, ◌+◌, ◌*◌, Bool, List, [], ◌∷◌, ◌++◌, length}
use Rattle.acpi_base.specs.declared.error.Error.TheVariants.{FieldWidth}
use Rattle.acpi_base.specs.Fields.{NamedField, byte, word, dword, preset, flags, one_of, fields_joined}
use Rattle.acpi_base.specs.Look.{Part, choice, means}
use Rattle.acpi_base.specs.Object.{Object, whole, provided}
use Rattle.acpi_ops.specs.Descriptor.{bit}
use Rattle.acpi_ops.specs.Gpio.{config_number, pin_configs}
use Rattle.acpi_ops.specs.Parts.{name_at, vendor_at, length_of, parts_fit, parts_bytes, pins_bytes}
use Rattle.acpi_ops.specs.declared.pins.PinSetting.{PinSetting}
use Rattle.acpi_ops.specs.declared.pins.PinSetting.TheVariants as settings
use Rattle.acpi_ops.specs.declared.pins.PinUse.{PinUse}
use Rattle.acpi_ops.specs.declared.gpio.PinConfig.{PinConfig}

-- ---- numbers and words

-- Pin Configuration Type
abbrev pub setting_number : PinSetting → ℕ
setting_number settings.Default = 0x00
setting_number settings.BiasPullUp = 0x01
setting_number settings.BiasPullDown = 0x02
setting_number settings.BiasDefault = 0x03
setting_number settings.BiasDisable = 0x04
setting_number settings.BiasHighImpedance = 0x05
setting_number settings.BiasBusHold = 0x06
setting_number settings.DriveOpenDrain = 0x07
setting_number settings.DriveOpenSource = 0x08
setting_number settings.DrivePushPull = 0x09
setting_number settings.DriveStrength = 0x0a
setting_number settings.SlewRate = 0x0b
setting_number settings.InputDebounce = 0x0c
setting_number settings.InputSchmittTrigger = 0x0d
setting_number (settings.Other number) = number

abbrev pub setting_words : List (ℕ × List ℕ)
setting_words =
    means 0x00 "Default" ∷ means 0x01 "Bias Pull-up" ∷ means 0x02 "Bias Pull-down" ∷ means 0x03 "Bias Default"
    ∷ means 0x04 "Bias Disable" ∷ means 0x05 "Bias High Impedance" ∷ means 0x06 "Bias Bus Hold" ∷ means 0x07 "Drive Open Drain"
    ∷ means 0x08 "Drive Open Source" ∷ means 0x09 "Drive Push Pull" ∷ means 0x0a "Drive Strength" ∷ means 0x0b "Slew Rate"
    ∷ means 0x0c "Input Debounce" ∷ means 0x0d "Input Schmitt Trigger" ∷ []

-- Flags: IO Sharing and Consumer/Producer
abbrev pub use_flags : PinUse → ℕ
use_flags u = bit u.shared 0x01 + bit u.consumer 0x02

abbrev pub sharing : Part
sharing = choice 0x1 (means 0x0 "Exclusive" ∷ means 0x1 "Shared" ∷ [])

abbrev pub sharing_bits : List Part
sharing_bits = sharing ∷ []

abbrev pub use_bits : List Part
use_bits = sharing ∷ choice 0x2 (means 0x0 "Producer" ∷ means 0x2 "Consumer" ∷ []) ∷ []

abbrev pub group_bits : List Part
group_bits = choice 0x1 (means 0x0 "Producer" ∷ means 0x1 "Consumer" ∷ []) ∷ []

-- ---- Pin Function Descriptor (6.4.3.9) before its pins: the number of pins, and the sizes of the controller's name and the
-- vendor's data

abbrev pub function_fields : Bool → PinConfig → ℕ → ℕ → ℕ → ℕ → List NamedField
function_fields shared config number pins source vendor =
    preset byte "Pin Function Descriptor" 0x8d  -- 0
    ∷ word "Length" (length_of 18 (2 * pins) source vendor)  -- 1
    ∷ preset byte "Revision ID" 1  -- 3
    ∷ flags sharing_bits word "Flags" (bit shared 0x01)  -- 4
    ∷ one_of pin_configs byte "Pin Pull Configuration" (config_number config)  -- 6
    ∷ word "Function Number" number  -- 7
    ∷ preset word "Pin Table Offset" 18  -- 9
    ∷ preset byte "Resource Source Index" 0  -- 11
    ∷ word "Resource Source Name Offset" (name_at 18 (2 * pins))  -- 12
    ∷ word "Vendor Data Offset" (vendor_at 18 (2 * pins) source)  -- 14
    ∷ word "Vendor Data Length" vendor  -- 16
    ∷ []

abbrev pub function_bytes : Bool → PinConfig → ℕ → List ℕ → List ℕ → List ℕ → List ℕ
function_bytes shared config number pins source vendor =
    fields_joined (function_fields shared config number (length pins) (length source) (length vendor))
    ++ parts_bytes (pins_bytes pins) source vendor

abbrev pub function : Bool → PinConfig → ℕ → List ℕ → List ℕ → List ℕ → Object
function shared config number pins source vendor =
    provided (parts_fit 18 (2 * length pins) (length source) (length vendor)) FieldWidth
    (whole (function_bytes shared config number pins source vendor))

-- ---- Pin Configuration Descriptor (6.4.3.10) before its pins

abbrev pub configuration_fields : PinUse → PinSetting → ℕ → ℕ → ℕ → ℕ → List NamedField
configuration_fields u setting value pins source vendor =
    preset byte "Pin Configuration Descriptor" 0x8f  -- 0
    ∷ word "Length" (length_of 20 (2 * pins) source vendor)  -- 1
    ∷ preset byte "Revision ID" 1  -- 3
    ∷ flags use_bits word "Flags" (use_flags u)  -- 4
    ∷ one_of setting_words byte "Pin Configuration Type" (setting_number setting)  -- 6
    ∷ dword "Pin Configuration Value" value  -- 7
    ∷ preset word "Pin Table Offset" 20  -- 11
    ∷ preset byte "Resource Source Index" 0  -- 13
    ∷ word "Resource Source Name Offset" (name_at 20 (2 * pins))  -- 14
    ∷ word "Vendor Data Offset" (vendor_at 20 (2 * pins) source)  -- 16
    ∷ word "Vendor Data Length" vendor  -- 18
    ∷ []

abbrev pub configuration_bytes : PinUse → PinSetting → ℕ → List ℕ → List ℕ → List ℕ → List ℕ
configuration_bytes u setting value pins source vendor =
    fields_joined (configuration_fields u setting value (length pins) (length source) (length vendor))
    ++ parts_bytes (pins_bytes pins) source vendor

abbrev pub configuration : PinUse → PinSetting → ℕ → List ℕ → List ℕ → List ℕ → Object
configuration u setting value pins source vendor =
    provided (parts_fit 20 (2 * length pins) (length source) (length vendor)) FieldWidth
    (whole (configuration_bytes u setting value pins source vendor))

-- ---- Pin Group Descriptor (6.4.3.11) before its pins: the group's label is its name

abbrev pub group_fields : Bool → ℕ → ℕ → ℕ → List NamedField
group_fields consumer pins label vendor =
    preset byte "Pin Group Descriptor" 0x90  -- 0
    ∷ word "Length" (length_of 14 (2 * pins) label vendor)  -- 1
    ∷ preset byte "Revision ID" 1  -- 3
    ∷ flags group_bits word "Flags" (bit consumer 0x01)  -- 4
    ∷ preset word "Pin Table Offset" 14  -- 6
    ∷ word "Resource Source Label Offset" (name_at 14 (2 * pins))  -- 8
    ∷ word "Vendor Data Offset" (vendor_at 14 (2 * pins) label)  -- 10
    ∷ word "Vendor Data Length" vendor  -- 12
    ∷ []

abbrev pub group_bytes : Bool → List ℕ → List ℕ → List ℕ → List ℕ
group_bytes consumer pins label vendor =
    fields_joined (group_fields consumer (length pins) (length label) (length vendor))
    ++ parts_bytes (pins_bytes pins) label vendor

abbrev pub group : Bool → List ℕ → List ℕ → List ℕ → Object
group consumer pins label vendor =
    provided (parts_fit 14 (2 * length pins) (length label) (length vendor)) FieldWidth
    (whole (group_bytes consumer pins label vendor))

-- ---- the same of a group: the controller's name with a zero is the table, and the group's label is the name

-- Pin Group Function Descriptor (6.4.3.12)
abbrev pub group_function_fields : PinUse → ℕ → ℕ → ℕ → ℕ → List NamedField
group_function_fields u number source label vendor =
    preset byte "Pin Group Function Descriptor" 0x91  -- 0
    ∷ word "Length" (length_of 17 (source + 1) label vendor)  -- 1
    ∷ preset byte "Revision ID" 1  -- 3
    ∷ flags use_bits word "Flags" (use_flags u)  -- 4
    ∷ word "Function Number" number  -- 6
    ∷ preset byte "Resource Source Index" 0  -- 8
    ∷ preset word "Resource Source Name Offset" 17  -- 9
    ∷ word "Resource Source Label Offset" (name_at 17 (source + 1))  -- 11
    ∷ word "Vendor Data Offset" (vendor_at 17 (source + 1) label)  -- 13
    ∷ word "Vendor Data Length" vendor  -- 15
    ∷ []

abbrev pub group_function_bytes : PinUse → ℕ → List ℕ → List ℕ → List ℕ → List ℕ
group_function_bytes u number source label vendor =
    fields_joined (group_function_fields u number (length source) (length label) (length vendor))
    ++ parts_bytes (source ++ 0 ∷ []) label vendor

abbrev pub group_function : PinUse → ℕ → List ℕ → List ℕ → List ℕ → Object
group_function u number source label vendor =
    provided (parts_fit 17 (length source + 1) (length label) (length vendor)) FieldWidth
    (whole (group_function_bytes u number source label vendor))

-- Pin Group Configuration Descriptor (6.4.3.13)
abbrev pub group_configuration_fields : PinUse → PinSetting → ℕ → ℕ → ℕ → ℕ → List NamedField
group_configuration_fields u setting value source label vendor =
    preset byte "Pin Group Configuration Descriptor" 0x92  -- 0
    ∷ word "Length" (length_of 20 (source + 1) label vendor)  -- 1
    ∷ preset byte "Revision ID" 1  -- 3
    ∷ flags use_bits word "Flags" (use_flags u)  -- 4
    ∷ one_of setting_words byte "Pin Configuration Type" (setting_number setting)  -- 6
    ∷ dword "Pin Configuration Value" value  -- 7
    ∷ preset byte "Resource Source Index" 0  -- 11
    ∷ preset word "Resource Source Name Offset" 20  -- 12
    ∷ word "Resource Source Label Offset" (name_at 20 (source + 1))  -- 14
    ∷ word "Vendor Data Offset" (vendor_at 20 (source + 1) label)  -- 16
    ∷ word "Vendor Data Length" vendor  -- 18
    ∷ []

abbrev pub group_configuration_bytes : PinUse → PinSetting → ℕ → List ℕ → List ℕ → List ℕ → List ℕ
group_configuration_bytes u setting value source label vendor =
    fields_joined (group_configuration_fields u setting value (length source) (length label) (length vendor))
    ++ parts_bytes (source ++ 0 ∷ []) label vendor

abbrev pub group_configuration : PinUse → PinSetting → ℕ → List ℕ → List ℕ → List ℕ → Object
group_configuration u setting value source label vendor =
    provided (parts_fit 20 (length source + 1) (length label) (length vendor)) FieldWidth
    (whole (group_configuration_bytes u setting value source label vendor))
