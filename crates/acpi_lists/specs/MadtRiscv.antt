-- Interrupt controllers of RISC-V in MADT.
use Rattle.std.specs.Prelude.{ℕ, List, [], ◌∷◌}
use Rattle.acpi_base.specs.Fields.{NamedField, byte, word, dword, qword, hex, preset, flags, bytes, reserved, fields_joined}
use Rattle.acpi_base.specs.Look.{Part, flag}
use Rattle.acpi_lists.specs.declared.madt.riscv.HartStatus.{HartStatus}
use Rattle.acpi_lists.specs.declared.madt.riscv.HartStatus.TheVariants.{Disabled, Enabled, OnlineCapable}
use Rattle.acpi_lists.specs.declared.madt.riscv.RINTC.{RINTC}
use Rattle.acpi_lists.specs.declared.madt.riscv.IMSIC.{IMSIC}
use Rattle.acpi_lists.specs.declared.madt.riscv.APLIC.{APLIC}
use Rattle.acpi_lists.specs.declared.madt.riscv.PLIC.{PLIC}

-- ---- RISC-V Interrupt Controller

-- Flags: Enabled at bit 0, Online Capable at bit 1
abbrev pub hart_flags : HartStatus → ℕ
hart_flags Disabled = 0x0
hart_flags Enabled = 0x1
hart_flags OnlineCapable = 0x2

-- RINTC Flags
abbrev pub hart_bits : List Part
hart_bits =
    flag 0x1 "Enabled"
    ∷ flag 0x2 "Online Capable"
    ∷ []

abbrev pub rintc_fields : RINTC → List NamedField
rintc_fields s =
    preset byte "Type" 0x18  -- 0
    ∷ preset byte "Length" 36  -- 1
    ∷ preset byte "Version" 1  -- 2
    ∷ reserved 1  -- 3
    ∷ flags hart_bits dword "Flags" (hart_flags s.hart_status)  -- 4
    ∷ hex qword "Hart ID" s.hart_id  -- 8
    ∷ hex dword "ACPI Processor UID" s.acpi_processor_uid  -- 16
    ∷ hex dword "External Interrupt Controller ID" s.ext_int_ctrl_id  -- 20
    ∷ hex qword "IMSIC Base Address" s.imsic_base_addr  -- 24
    ∷ dword "IMSIC Size" s.imsic_size  -- 32
    ∷ []

abbrev pub rintc_bytes : RINTC → List ℕ
rintc_bytes s = fields_joined (rintc_fields s)

abbrev pub rintc : HartStatus → ℕ → ℕ → ℕ → ℕ → ℕ → RINTC
rintc status hart uid controller imsic_address imsic_size = record {
  hart_status = status;
  hart_id = hart;
  acpi_processor_uid = uid;
  ext_int_ctrl_id = controller;
  imsic_base_addr = imsic_address;
  imsic_size = imsic_size;
}

-- ---- Incoming MSI Controller

abbrev pub imsic_fields : IMSIC → List NamedField
imsic_fields s =
    preset byte "Type" 0x19  -- 0
    ∷ preset byte "Length" 16  -- 1
    ∷ preset byte "Version" 1  -- 2
    ∷ reserved 1  -- 3
    ∷ hex dword "Flags" 0  -- 4
    ∷ word "Number of Supervisor Mode Interrupt Identities" s.num_supervisor_interrupt_identities  -- 8
    ∷ word "Number of Guest Mode Interrupt Identities" s.num_guest_interrupt_identities  -- 10
    ∷ byte "Guest Index Bits" s.guest_index_bits  -- 12
    ∷ byte "Hart Index Bits" s.hart_index_bits  -- 13
    ∷ byte "Group Index Bits" s.group_index_bits  -- 14
    ∷ byte "Group Index Shift" s.group_index_shift  -- 15
    ∷ []

abbrev pub imsic_bytes : IMSIC → List ℕ
imsic_bytes s = fields_joined (imsic_fields s)

abbrev pub imsic : ℕ → ℕ → ℕ → ℕ → ℕ → ℕ → IMSIC
imsic supervisor guest guest_bits hart_bits group_bits group_shift = record {
  num_supervisor_interrupt_identities = supervisor;
  num_guest_interrupt_identities = guest;
  guest_index_bits = guest_bits;
  hart_index_bits = hart_bits;
  group_index_bits = group_bits;
  group_index_shift = group_shift;
}

-- ---- Advanced Platform Level Interrupt Controller

abbrev pub aplic_fields : APLIC → List NamedField
aplic_fields s =
    preset byte "Type" 0x1a  -- 0
    ∷ preset byte "Length" 36  -- 1
    ∷ preset byte "Version" 1  -- 2
    ∷ hex byte "APLIC ID" s.aplic_id  -- 3
    ∷ hex dword "Flags" 0  -- 4
    ∷ bytes "Hardware ID" 8 s.hardware_id  -- 8
    ∷ word "Number of IDCs" s.number_of_idcs  -- 16
    ∷ word "Total External Interrupt Sources Supported" s.total_external_interrupt_sources  -- 18
    ∷ dword "Global System Interrupt Base" s.global_system_interrupt_base  -- 20
    ∷ hex qword "APLIC Address" s.aplic_address  -- 24
    ∷ dword "APLIC Size" s.aplic_size  -- 32
    ∷ []

abbrev pub aplic_bytes : APLIC → List ℕ
aplic_bytes s = fields_joined (aplic_fields s)

abbrev pub aplic : ℕ → List ℕ → ℕ → ℕ → ℕ → ℕ → ℕ → APLIC
aplic id hardware_id idcs gsi_base address size sources = record {
  aplic_id = id;
  hardware_id = hardware_id;
  number_of_idcs = idcs;
  total_external_interrupt_sources = sources;
  global_system_interrupt_base = gsi_base;
  aplic_address = address;
  aplic_size = size;
}

-- ---- Platform Level Interrupt Controller

abbrev pub plic_fields : PLIC → List NamedField
plic_fields s =
    preset byte "Type" 0x1b  -- 0
    ∷ preset byte "Length" 36  -- 1
    ∷ preset byte "Version" 1  -- 2
    ∷ hex byte "PLIC ID" s.plic_id  -- 3
    ∷ bytes "Hardware ID" 8 s.hardware_id  -- 4
    ∷ word "Total External Interrupt Sources Supported" s.total_external_interrupt_sources  -- 12
    ∷ word "Max Priority" s.max_priority  -- 14
    ∷ hex dword "Flags" 0  -- 16
    ∷ dword "PLIC Size" s.plic_size  -- 20
    ∷ hex qword "PLIC Address" s.plic_address  -- 24
    ∷ dword "Global System Interrupt Base" s.global_system_interrupt_base  -- 32
    ∷ []

abbrev pub plic_bytes : PLIC → List ℕ
plic_bytes s = fields_joined (plic_fields s)

abbrev pub plic : ℕ → List ℕ → ℕ → ℕ → ℕ → ℕ → ℕ → PLIC
plic id hardware_id sources max_priority size address gsi_base = record {
  plic_id = id;
  hardware_id = hardware_id;
  total_external_interrupt_sources = sources;
  max_priority = max_priority;
  plic_size = size;
  plic_address = address;
  global_system_interrupt_base = gsi_base;
}
