-- The Platform Communications Channel Table (ACPI 6.5, 14.1).
use Rattle.std.specs.Prelude.{ℕ, List, [], ◌∷◌, codes}
use Rattle.acpi_base.specs.Fields.{NamedField, byte, word, dword, qword, hex, preset, one_of, flags, reserved, fields_joined}
use Rattle.acpi_base.specs.Gas.{register}
use Rattle.acpi_base.specs.Look.{Part, flag, choice, means}
use Rattle.acpi_base.specs.declared.oem.Oem.{Oem}
use Rattle.acpi_core.specs.Listing.{Listing, length_limit}
use Rattle.acpi_pc.specs.declared.pcct.channel.Channel.{Channel}
use Rattle.acpi_pc.specs.declared.pcct.channel.Doorbell.{Doorbell}
use Rattle.acpi_pc.specs.declared.pcct.channel.Interrupt.{Interrupt}
use Rattle.acpi_pc.specs.declared.pcct.extended.ExtendedChannel.{ExtendedChannel}
use Rattle.acpi_pc.specs.declared.pcct.extended.ExtendedSubspace.{ExtendedSubspace}
use Rattle.acpi_pc.specs.declared.pcct.extended.RegisterChannel.{RegisterChannel}
use Rattle.acpi_pc.specs.declared.pcct.extended.RegistersSubspace.{RegistersSubspace}
use Rattle.acpi_pc.specs.declared.pcct.extended.Role.{Role}
use Rattle.acpi_pc.specs.declared.pcct.extended.Role.TheVariants.{Initiator, Responder}
use Rattle.acpi_pc.specs.declared.pcct.subspaces.AcknowledgedSubspace.{AcknowledgedSubspace}
use Rattle.acpi_pc.specs.declared.pcct.subspaces.GenericSubspace.{GenericSubspace}
use Rattle.acpi_pc.specs.declared.pcct.subspaces.ReducedSubspace.{ReducedSubspace}

-- Global Flags (14.1.1)
abbrev pub pcct_bits : List Part
pcct_bits =
    flag 0x1 "Platform Interrupt"
    ∷ []

-- the fields between the header and the first subspace
abbrev pub pcct_fields : ℕ → List NamedField
pcct_fields set =
    flags pcct_bits dword "Flags" set  -- 36
    ∷ reserved 8  -- 40
    ∷ []

-- a table without subspaces
abbrev pub pcct : Oem → ℕ → Listing
pcct oem set = record {
  signature = codes "PCCT";
  revision = 2;
  oem = oem;
  before = fields_joined (pcct_fields set);
  count_width = 0;
  after = [];
  limit = length_limit;
  structures = [];
}

-- ---- interrupts

abbrev pub interrupt : ℕ → Interrupt
interrupt gsiv = record { gsiv = gsiv; flags = 0 }

-- Platform Interrupt Flags: Interrupt Polarity in bit 0, Interrupt Mode in bit 1
abbrev pub interrupt_bits : List Part
interrupt_bits =
    choice 0x1 (means 0x0 "Active High" ∷ means 0x1 "Active Low" ∷ [])
    ∷ choice 0x2 (means 0x0 "Level Triggered" ∷ means 0x2 "Edge Triggered" ∷ [])
    ∷ []

-- ---- Generic Communications Subspace, type 0 (14.1.3)

abbrev pub generic : Channel → GenericSubspace
generic channel = record { channel = channel }

abbrev pub generic_fields : GenericSubspace → List NamedField
generic_fields s =
    preset byte "Type" 0  -- 0
    ∷ preset byte "Length" 62  -- 1
    ∷ reserved 6  -- 2
    ∷ hex qword "Base Address" s.channel.base  -- 8
    ∷ qword "Memory Length" s.channel.size  -- 16
    ∷ register "Doorbell Register" s.channel.doorbell.register  -- 24
    ∷ hex qword "Doorbell Preserve" s.channel.doorbell.preserve  -- 36
    ∷ hex qword "Doorbell Write" s.channel.doorbell.write  -- 44
    ∷ dword "Nominal Latency" s.channel.latency  -- 52
    ∷ dword "Maximum Periodic Access Rate" s.channel.access_rate  -- 56
    ∷ word "Minimum Request Turnaround Time" s.channel.turnaround  -- 60
    ∷ []

abbrev pub generic_bytes : GenericSubspace → List ℕ
generic_bytes s = fields_joined (generic_fields s)

-- ---- HW-Reduced Communications Subspace, type 1 (14.1.4)

abbrev pub reduced : Interrupt → Channel → ReducedSubspace
reduced interrupt channel = record { interrupt = interrupt; channel = channel }

abbrev pub reduced_fields : ReducedSubspace → List NamedField
reduced_fields s =
    preset byte "Type" 1  -- 0
    ∷ preset byte "Length" 62  -- 1
    ∷ dword "Platform Interrupt" s.interrupt.gsiv  -- 2
    ∷ flags interrupt_bits byte "Platform Interrupt Flags" s.interrupt.flags  -- 6
    ∷ reserved 1  -- 7
    ∷ hex qword "Base Address" s.channel.base  -- 8
    ∷ qword "Memory Length" s.channel.size  -- 16
    ∷ register "Doorbell Register" s.channel.doorbell.register  -- 24
    ∷ hex qword "Doorbell Preserve" s.channel.doorbell.preserve  -- 36
    ∷ hex qword "Doorbell Write" s.channel.doorbell.write  -- 44
    ∷ dword "Nominal Latency" s.channel.latency  -- 52
    ∷ dword "Maximum Periodic Access Rate" s.channel.access_rate  -- 56
    ∷ word "Minimum Request Turnaround Time" s.channel.turnaround  -- 60
    ∷ []

abbrev pub reduced_bytes : ReducedSubspace → List ℕ
reduced_bytes s = fields_joined (reduced_fields s)

-- ---- HW-Reduced Communications Subspace, type 2 (14.1.5)

abbrev pub acknowledged : Interrupt → Channel → Doorbell → AcknowledgedSubspace
acknowledged interrupt channel acknowledge = record { interrupt = interrupt; channel = channel; acknowledge = acknowledge }

abbrev pub acknowledged_fields : AcknowledgedSubspace → List NamedField
acknowledged_fields s =
    preset byte "Type" 2  -- 0
    ∷ preset byte "Length" 90  -- 1
    ∷ dword "Platform Interrupt" s.interrupt.gsiv  -- 2
    ∷ flags interrupt_bits byte "Platform Interrupt Flags" s.interrupt.flags  -- 6
    ∷ reserved 1  -- 7
    ∷ hex qword "Base Address" s.channel.base  -- 8
    ∷ qword "Memory Length" s.channel.size  -- 16
    ∷ register "Doorbell Register" s.channel.doorbell.register  -- 24
    ∷ hex qword "Doorbell Preserve" s.channel.doorbell.preserve  -- 36
    ∷ hex qword "Doorbell Write" s.channel.doorbell.write  -- 44
    ∷ dword "Nominal Latency" s.channel.latency  -- 52
    ∷ dword "Maximum Periodic Access Rate" s.channel.access_rate  -- 56
    ∷ word "Minimum Request Turnaround Time" s.channel.turnaround  -- 60
    ∷ register "Platform Interrupt Ack Register" s.acknowledge.register  -- 62
    ∷ hex qword "Platform Interrupt Ack Preserve" s.acknowledge.preserve  -- 74
    ∷ hex qword "Platform Interrupt Ack Write" s.acknowledge.write  -- 82
    ∷ []

abbrev pub acknowledged_bytes : AcknowledgedSubspace → List ℕ
acknowledged_bytes s = fields_joined (acknowledged_fields s)

-- ---- who sends commands

abbrev pub role_number : Role → ℕ
role_number Initiator = 3
role_number Responder = 4

-- the words of Type
abbrev pub role_words : List (ℕ × List ℕ)
role_words =
    means 3 "Initiator"
    ∷ means 4 "Responder"
    ∷ []

-- ---- Extended PCC Subspace, types 3 and 4 (14.1.6)

abbrev pub extended : Role → Interrupt → ExtendedChannel → ExtendedSubspace
extended role interrupt channel = record { role = role; interrupt = interrupt; channel = channel }

abbrev pub extended_fields : ExtendedSubspace → List NamedField
extended_fields s =
    one_of role_words byte "Type" (role_number s.role)  -- 0
    ∷ preset byte "Length" 164  -- 1
    ∷ dword "Platform Interrupt" s.interrupt.gsiv  -- 2
    ∷ flags interrupt_bits byte "Platform Interrupt Flags" s.interrupt.flags  -- 6
    ∷ reserved 1  -- 7
    ∷ hex qword "Base Address" s.channel.base  -- 8
    ∷ dword "Memory Length" s.channel.size  -- 16
    ∷ register "Doorbell Register" s.channel.doorbell.register  -- 20
    ∷ hex qword "Doorbell Preserve" s.channel.doorbell.preserve  -- 32
    ∷ hex qword "Doorbell Write" s.channel.doorbell.write  -- 40
    ∷ dword "Nominal Latency" s.channel.latency  -- 48
    ∷ dword "Maximum Periodic Access Rate" s.channel.access_rate  -- 52
    ∷ dword "Minimum Request Turnaround Time" s.channel.turnaround  -- 56
    ∷ register "Platform Interrupt Ack Register" s.channel.acknowledge.register  -- 60
    ∷ hex qword "Platform Interrupt Ack Preserve" s.channel.acknowledge.preserve  -- 72
    ∷ hex qword "Platform Interrupt Ack Set" s.channel.acknowledge.write  -- 80
    ∷ reserved 8  -- 88
    ∷ register "Command Complete Check Register Address" s.channel.complete.register  -- 96
    ∷ hex qword "Command Complete Check Mask" s.channel.complete.mask  -- 108
    ∷ register "Command Complete Update Register Address" s.channel.update.register  -- 116
    ∷ hex qword "Command Complete Update Preserve Mask" s.channel.update.preserve  -- 128
    ∷ hex qword "Command Complete Update Set Mask" s.channel.update.write  -- 136
    ∷ register "Error Status Register" s.channel.error.register  -- 144
    ∷ hex qword "Error Status Mask" s.channel.error.mask  -- 156
    ∷ []

abbrev pub extended_bytes : ExtendedSubspace → List ℕ
extended_bytes s = fields_joined (extended_fields s)

-- ---- HW Registers Based Communications Subspace, type 5 (14.1.7)

abbrev pub registers : RegisterChannel → RegistersSubspace
registers channel = record { channel = channel }

abbrev pub registers_fields : RegistersSubspace → List NamedField
registers_fields s =
    preset byte "Type" 5  -- 0
    ∷ preset byte "Length" 96  -- 1
    ∷ word "Version" s.channel.version  -- 2
    ∷ hex qword "Base Address" s.channel.base  -- 4
    ∷ qword "Shared Memory Range Length" s.channel.size  -- 12
    ∷ register "Doorbell Register" s.channel.doorbell.register  -- 20
    ∷ hex qword "Doorbell Preserve" s.channel.doorbell.preserve  -- 32
    ∷ hex qword "Doorbell Write" s.channel.doorbell.write  -- 40
    ∷ register "Command Complete Check Register" s.channel.complete.register  -- 48
    ∷ hex qword "Command Complete Check Mask" s.channel.complete.mask  -- 60
    ∷ register "Error Status Register" s.channel.error.register  -- 68
    ∷ hex qword "Error Status Mask" s.channel.error.mask  -- 80
    ∷ dword "Nominal Latency" s.channel.latency  -- 88
    ∷ dword "Minimum Request Turnaround Time" s.channel.turnaround  -- 92
    ∷ []

abbrev pub registers_bytes : RegistersSubspace → List ℕ
registers_bytes s = fields_joined (registers_fields s)
