-- Generic hardware error sources (ACPI 6.5, 18.3.2.7 and 18.3.2.8).
use Rattle.std.specs.Prelude.{ℕ, List, [], ◌∷◌, ◌++◌}
use Rattle.acpi_base.specs.Fields.{NamedField, byte, word, dword, qword, hex, one_of, bytes, fields_joined}
use Rattle.acpi_base.specs.Gas.{register, no_register}
use Rattle.acpi_hest.specs.declared.hest.generic.Acknowledged.{Acknowledged}
use Rattle.acpi_hest.specs.declared.hest.generic.EnabledStatus.{EnabledStatus}
use Rattle.acpi_hest.specs.declared.hest.generic.Generic.{Generic}
use Rattle.acpi_hest.specs.declared.hest.generic.Unacknowledged.{Unacknowledged}
use Rattle.acpi_hest.specs.Aer.{enabled_number, enabled_words}
use Rattle.acpi_hest.specs.Notification.{no_notification, notification_bytes}

module _ {T : Type 0} {N : ℕ} where
  -- a source with this id, in which all fields except those of its version are zero
  abbrev pub generic : T → ℕ → EnabledStatus → Generic T N
  generic tail source_id enabled = record {
    source_id = source_id;
    enabled = enabled;
    num_records = 0;
    max_sections = 0;
    max_raw_length = 0;
    error_status_address = no_register;
    notification = no_notification;
    error_status_block_len = 0;
    tail = tail;
  }

  -- the fields that sources of both versions have
  abbrev pub generic_head_fields : ℕ → Generic T N → List NamedField
  generic_head_fields kind s =
      word "Type" kind  -- 0
      ∷ hex word "Source Id" s.source_id  -- 2
      ∷ hex word "Related Source Id" 0xffff  -- 4
      ∷ hex byte "Flags" 0  -- 6
      ∷ one_of enabled_words byte "Enabled" (enabled_number s.enabled)  -- 7
      ∷ dword "Number of Records to Pre-allocate" s.num_records  -- 8
      ∷ dword "Max Sections Per Record" s.max_sections  -- 12
      ∷ dword "Max Raw Data Length" s.max_raw_length  -- 16
      ∷ register "Error Status Address" s.error_status_address  -- 20
      ∷ bytes "Notification Structure" 28 (notification_bytes s.notification)  -- 32
      ∷ dword "Error Status Block Length" s.error_status_block_len  -- 60
      ∷ []

  abbrev pub generic_head : ℕ → Generic T N → List ℕ
  generic_head kind s = fields_joined (generic_head_fields kind s)

  abbrev pub generic_bytes : ℕ → (T → List NamedField) → Generic T N → List ℕ
  generic_bytes kind tail_fields s = generic_head kind s ++ fields_joined (tail_fields s.tail)

-- ---- the fields of each version

abbrev pub zero_unacknowledged : Unacknowledged
zero_unacknowledged = record {}

abbrev pub unacknowledged_fields : Unacknowledged → List NamedField
unacknowledged_fields t = []

abbrev pub zero_acknowledged : Acknowledged
zero_acknowledged = record { read_ack_register = no_register; read_ack_preserve = 0; read_ack_write = 0 }

abbrev pub acknowledged_fields : Acknowledged → List NamedField
acknowledged_fields t =
    register "Read Ack Register" t.read_ack_register  -- 64
    ∷ hex qword "Read Ack Preserve" t.read_ack_preserve  -- 76
    ∷ hex qword "Read Ack Write" t.read_ack_write  -- 84
    ∷ []
