-- Hardware Error Notification Structures (ACPI 6.5, 18.3.2.9).
use Rattle.std.specs.Prelude.{ℕ, List, [], ◌∷◌}
use Rattle.acpi_base.specs.Fields.{NamedField, byte, word, dword, flags, one_of, fields_joined}
use Rattle.acpi_base.specs.Look.{Part, flag, means}
use Rattle.acpi_hest.specs.declared.hest.notification.NotificationStructure.{NotificationStructure}
use Rattle.acpi_hest.specs.declared.hest.notification.NotificationType.{NotificationType}
use Rattle.acpi_hest.specs.declared.hest.notification.NotificationType.TheVariants as types

abbrev pub type_number : NotificationType → ℕ
type_number types.Polled = 0
type_number types.ExternalIrq = 1
type_number types.LocalIrq = 2
type_number types.Sci = 3
type_number types.Nmi = 4
type_number types.Cmci = 5
type_number types.Mce = 6
type_number types.GpioSignal = 7
type_number types.Armv8Sea = 8
type_number types.Armv8Sei = 9
type_number types.ExternalGsiv = 10
type_number types.SoftwareException = 11
type_number types.RiscvSupervisorSoftwareEvent = 12
type_number types.RiscvLowPriorityRasInterrupt = 13
type_number types.RiscvHighPriorityRasInterrupt = 14
type_number types.RiscvHardwareErrorException = 15

-- a notification of this type and this length, in which every other field is zero
abbrev pub notification : ℕ → ℕ → NotificationStructure
notification kind length = record {
  kind = kind;
  length = length;
  conf_write_en = 0;
  poll_interval_ms = 0;
  vector = 0;
  polling_threshold_value = 0;
  polling_threshold_window_ms = 0;
  error_threshold_value = 0;
  error_threshold_window_ms = 0;
}

-- the zeros of a source without a notification
abbrev pub no_notification : NotificationStructure
no_notification = notification 0 0

-- the words of Type
abbrev pub notification_words : List (ℕ × List ℕ)
notification_words =
    means 0 "Polled"
    ∷ means 1 "External Interrupt"
    ∷ means 2 "Local Interrupt"
    ∷ means 3 "SCI"
    ∷ means 4 "NMI"
    ∷ means 5 "CMCI"
    ∷ means 6 "MCE"
    ∷ means 7 "GPIO-Signal"
    ∷ means 8 "ARMv8 SEA"
    ∷ means 9 "ARMv8 SEI"
    ∷ means 10 "External Interrupt - GSIV"
    ∷ means 11 "Software Delegated Exception"
    ∷ []

-- Configuration Write Enable: which fields an operating system may change
abbrev pub write_enable_bits : List Part
write_enable_bits =
    flag 0x01 "Type"
    ∷ flag 0x02 "Poll Interval"
    ∷ flag 0x04 "Switch To Polling Threshold Value"
    ∷ flag 0x08 "Switch To Polling Threshold Window"
    ∷ flag 0x10 "Error Threshold Value"
    ∷ flag 0x20 "Error Threshold Window"
    ∷ []

abbrev pub notification_fields : NotificationStructure → List NamedField
notification_fields n =
    one_of notification_words byte "Type" n.kind  -- 0
    ∷ byte "Length" n.length  -- 1
    ∷ flags write_enable_bits word "Configuration Write Enable" n.conf_write_en  -- 2
    ∷ dword "Poll Interval" n.poll_interval_ms  -- 4
    ∷ dword "Vector" n.vector  -- 8
    ∷ dword "Switch To Polling Threshold Value" n.polling_threshold_value  -- 12
    ∷ dword "Switch To Polling Threshold Window" n.polling_threshold_window_ms  -- 16
    ∷ dword "Error Threshold Value" n.error_threshold_value  -- 20
    ∷ dword "Error Threshold Window" n.error_threshold_window_ms  -- 24
    ∷ []

abbrev pub notification_bytes : NotificationStructure → List ℕ
notification_bytes n = fields_joined (notification_fields n)
