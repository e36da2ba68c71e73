-- The nodes of SMMUs in IORT (Arm DEN0049E.d).
use Rattle.std.specs.Prelude.{ℕ, ◌+◌, List, [], ◌∷◌, ◌++◌, length, bit_or}
use Rattle.acpi_base.specs.Fields.{NamedField, byte, word, dword, qword, hex, preset, flags, one_of, reserved, fields_joined}
use Rattle.acpi_base.specs.Look.{Part, flag, choice, means}
use Rattle.acpi_core.specs.Entries.{no_entries}
use Rattle.acpi_arm.specs.Offsets.{offset_if}
use Rattle.acpi_arm.specs.declared.iort.smmus.Httu.{Httu}
use Rattle.acpi_arm.specs.declared.iort.smmus.Httu.TheVariants as httus
use Rattle.acpi_arm.specs.declared.iort.smmus.Smmu.{Smmu}
use Rattle.acpi_arm.specs.declared.iort.smmus.SmmuInterrupt.{SmmuInterrupt}
use Rattle.acpi_arm.specs.declared.iort.smmus.SmmuModel.{SmmuModel}
use Rattle.acpi_arm.specs.declared.iort.smmus.SmmuModel.TheVariants as models
use Rattle.acpi_arm.specs.declared.iort.smmus.SmmuV3.{SmmuV3}
use Rattle.acpi_arm.specs.declared.iort.smmus.SmmuV3Model.{SmmuV3Model}
use Rattle.acpi_arm.specs.declared.iort.smmus.SmmuV3Model.TheVariants as models_3

-- ---- SMMUv1 or SMMUv2

abbrev pub model_number : SmmuModel → ℕ
model_number models.GenericV1 = 0
model_number models.GenericV2 = 1
model_number models.CoreLinkMmu400 = 2
model_number models.CoreLinkMmu500 = 3
model_number models.CoreLinkMmu401 = 4
model_number models.CaviumThunderX = 5

abbrev pub smmu_interrupt : ℕ → SmmuInterrupt
smmu_interrupt gsiv = record { gsiv = gsiv; flags = 0 }

-- Interrupt Flags
abbrev pub gsiv_bits : List Part
gsiv_bits =
    choice 0x1 (means 0x0 "Level Triggered" ∷ means 0x1 "Edge Triggered" ∷ [])
    ∷ []

abbrev pub smmu_interrupt_fields : SmmuInterrupt → List NamedField
smmu_interrupt_fields i =
    dword "GSIV" i.gsiv  -- 0
    ∷ flags gsiv_bits dword "Interrupt Flags" i.flags  -- 4
    ∷ []

abbrev pub smmu_interrupt_bytes : SmmuInterrupt → List ℕ
smmu_interrupt_bytes i = fields_joined (smmu_interrupt_fields i)

abbrev pub smmu : SmmuModel → ℕ → ℕ → SmmuInterrupt → Smmu
smmu model base span fault = record {
  identifier = 0;
  base = base;
  span = span;
  model = model;
  flags = 0;
  fault = fault;
  configuration_fault = smmu_interrupt 0;
  contexts = no_entries;
  monitors = no_entries;
  mappings = no_entries;
}

-- where the lists of an SMMU begin: after its fields come the context interrupts, the PMU interrupts, and the mappings
abbrev pub monitors_at : Smmu → ℕ
monitors_at s = 76 + length s.contexts.bytes

abbrev pub smmu_mappings_at : Smmu → ℕ
smmu_mappings_at s = monitors_at s + length s.monitors.bytes

abbrev pub smmu_size : Smmu → ℕ
smmu_size s = smmu_mappings_at s + length s.mappings.bytes

-- the words of Model
abbrev pub model_words : List (ℕ × List ℕ)
model_words =
    means 0 "Generic SMMUv1"
    ∷ means 1 "Generic SMMUv2"
    ∷ means 2 "Arm CoreLink MMU-400"
    ∷ means 3 "Arm CoreLink MMU-500"
    ∷ means 4 "Arm CoreLink MMU-401"
    ∷ means 5 "Cavium ThunderX SMMUv2"
    ∷ []

-- Flags of an SMMUv1 or SMMUv2
abbrev pub smmu_bits : List Part
smmu_bits =
    flag 0x1 "DVM Supported"
    ∷ flag 0x2 "Coherent Page Table Walk"
    ∷ []

abbrev pub smmu_head_fields : Smmu → List NamedField
smmu_head_fields s =
    preset byte "Type" 3  -- 0
    ∷ word "Length" (smmu_size s)  -- 1
    ∷ preset byte "Revision" 3  -- 3
    ∷ hex dword "Identifier" s.identifier  -- 4
    ∷ dword "Number of ID Mappings" s.mappings.count  -- 8
    ∷ dword "Reference to ID Array" (offset_if s.mappings.count (smmu_mappings_at s))  -- 12
    ∷ hex qword "Base Address" s.base  -- 16
    ∷ qword "Span" s.span  -- 24
    ∷ one_of model_words dword "Model" (model_number s.model)  -- 32
    ∷ flags smmu_bits dword "Flags" s.flags  -- 36
    ∷ preset dword "Reference to Global Interrupt Array" 60  -- 40
    ∷ dword "Number of Context Interrupts" s.contexts.count  -- 44
    ∷ dword "Reference to Context Interrupt Array" (offset_if s.contexts.count 76)  -- 48
    ∷ dword "Number of PMU Interrupts" s.monitors.count  -- 52
    ∷ dword "Reference to PMU Interrupt Array" (offset_if s.monitors.count (monitors_at s))  -- 56
    ∷ dword "SMMU_NSgIrpt GSIV" s.fault.gsiv  -- 60
    ∷ flags gsiv_bits dword "SMMU_NSgIrpt Interrupt Flags" s.fault.flags  -- 64
    ∷ dword "SMMU_NSgCfgIrpt GSIV" s.configuration_fault.gsiv  -- 68
    ∷ flags gsiv_bits dword "SMMU_NSgCfgIrpt Interrupt Flags" s.configuration_fault.flags  -- 72
    ∷ []

abbrev pub smmu_head : Smmu → List ℕ
smmu_head s = fields_joined (smmu_head_fields s)

-- 76: the context interrupts, the PMU interrupts, and the mappings
abbrev pub smmu_bytes : Smmu → List ℕ
smmu_bytes s = smmu_head s ++ (s.contexts.bytes ++ (s.monitors.bytes ++ s.mappings.bytes))

-- ---- SMMUv3

abbrev pub model_3_number : SmmuV3Model → ℕ
model_3_number models_3.Generic = 0
model_3_number models_3.HiSiliconHi161x = 1
model_3_number models_3.CaviumCn99xx = 2

-- HTTU Override, at bits 1 and 2 of the flags
abbrev pub httu_flags : Httu → ℕ
httu_flags httus.AccessFlag = 2
httu_flags httus.AccessFlagAndDirty = 4

abbrev pub smmu_v3 : SmmuV3Model → ℕ → SmmuV3
smmu_v3 model base = record {
  identifier = 0;
  base = base;
  flags = 0;
  httu = 0;
  vatos_address = 0;
  model = model;
  event_gsiv = 0;
  pri_gsiv = 0;
  gerr_gsiv = 0;
  sync_gsiv = 0;
  domain = 0;
  device_id_mapping = 0;
  mappings = no_entries;
}

-- Flags of an SMMUv3: HTTU Override in bits 2:1
abbrev pub smmu_v3_bits : List Part
smmu_v3_bits =
    flag 0x01 "COHACC Override"
    ∷ choice 0x06 (
    means 0x02 "HTTU Override of the Access Flag"
    ∷ means 0x04 "HTTU Override of the Access Flag and Dirty State"
    ∷ [])
    ∷ flag 0x08 "Proximity Domain Valid"
    ∷ flag 0x10 "DeviceID Mapping Index Valid"
    ∷ []

-- the words of Model
abbrev pub model_3_words : List (ℕ × List ℕ)
model_3_words =
    means 0 "Generic SMMUv3"
    ∷ means 1 "HiSilicon Hi161x"
    ∷ means 2 "Cavium CN99xx"
    ∷ []

abbrev pub smmu_v3_head_fields : SmmuV3 → List NamedField
smmu_v3_head_fields s =
    preset byte "Type" 4  -- 0
    ∷ word "Length" (68 + length s.mappings.bytes)  -- 1
    ∷ preset byte "Revision" 4  -- 3
    ∷ hex dword "Identifier" s.identifier  -- 4
    ∷ dword "Number of ID Mappings" s.mappings.count  -- 8
    ∷ dword "Reference to ID Array" (offset_if s.mappings.count 68)  -- 12
    ∷ hex qword "Base Address" s.base  -- 16
    ∷ flags smmu_v3_bits dword "Flags" (bit_or s.flags s.httu)  -- 24
    ∷ reserved 4  -- 28
    ∷ hex qword "VATOS Address" s.vatos_address  -- 32
    ∷ one_of model_3_words dword "Model" (model_3_number s.model)  -- 40
    ∷ dword "Event GSIV" s.event_gsiv  -- 44
    ∷ dword "PRI GSIV" s.pri_gsiv  -- 48
    ∷ dword "GERR GSIV" s.gerr_gsiv  -- 52
    ∷ dword "Sync GSIV" s.sync_gsiv  -- 56
    ∷ dword "Proximity Domain" s.domain  -- 60
    ∷ dword "DeviceID Mapping Index" s.device_id_mapping  -- 64
    ∷ []

abbrev pub smmu_v3_head : SmmuV3 → List ℕ
smmu_v3_head s = fields_joined (smmu_v3_head_fields s)

abbrev pub smmu_v3_bytes : SmmuV3 → List ℕ
smmu_v3_bytes s = smmu_v3_head s ++ s.mappings.bytes  -- 68: ID mappings
