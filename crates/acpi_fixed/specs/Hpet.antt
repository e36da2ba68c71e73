-- The IA-PC High Precision Event Timer Table (IA-PC HPET Specification 1.0a, 3.2.4).
use Rattle.std.specs.Prelude.{ℕ, ◌+◌, ◌-◌, ◌*◌, ◌^◌, List, [], ◌∷◌, codes, bit_or}
use Rattle.acpi_base.specs.Fields.{NamedField, byte, word, dword, flags, fields_joined}
use Rattle.acpi_base.specs.Look.{Part, flag, choice, part, means}
use Rattle.acpi_base.specs.Gas.{register}
use Rattle.acpi_base.specs.Table.{table_of}
use Rattle.acpi_base.specs.declared.gas.GAS.{GAS}
use Rattle.acpi_base.specs.declared.oem.Oem.{Oem}
use Rattle.acpi_fixed.specs.declared.hpet.EventTimerBlockId.{EventTimerBlockId}
use Rattle.acpi_fixed.specs.declared.hpet.HPET.{HPET}
use Rattle.acpi_fixed.specs.declared.hpet.PageProtection.{PageProtection}
use Rattle.acpi_fixed.specs.declared.hpet.PageProtection.TheVariants as protections

-- ---- Event Timer Block ID: the low 32 bits of the General Capabilities and ID Register (2.3.4)

-- The hardware's revision in bits 7:0, the number of comparators less one in bits 12:8, and the PCI vendor id in bits 31:16. Bits
-- 13 to 15 are zero.
abbrev pub block_number : ℕ → ℕ → ℕ → ℕ
block_number revision comparators vendor = revision + (comparators - 1) * 2 ^ 8 + vendor * 2 ^ 16

abbrev pub block_id : ℕ → ℕ → ℕ → EventTimerBlockId
block_id revision comparators vendor = record { number = block_number revision comparators vendor }

abbrev pub with_capability : ℕ → EventTimerBlockId → EventTimerBlockId
with_capability flag id = record id { number = bit_or id.number flag }

-- its parts
abbrev pub block_bits : List Part
block_bits =
    part 0xff 0x1 "Hardware Rev ID"
    ∷ part 0x1f00 0x100 "Number of Comparators"
    ∷ flag 0x2000 "COUNT_SIZE_CAP"
    ∷ flag 0x8000 "LegacyReplacement IRQ Routing Capable"
    ∷ part 0xffff0000 0x10000 "PCI Vendor ID"
    ∷ []

-- ---- Page Protection And OEM Attribute

abbrev pub protection_number : PageProtection → ℕ
protection_number protections.NoGuarantee = 0
protection_number protections.Page4Kb = 1
protection_number protections.Page64Kb = 2

-- Page Protection in bits 3:0, OEM Attributes in bits 7:4
abbrev pub attribute_bits : List Part
attribute_bits =
    choice 0xf (means 0x0 "No Guarantee" ∷ means 0x1 "4 KB" ∷ means 0x2 "64 KB" ∷ [])
    ∷ part 0xf0 0x10 "OEM Attributes"
    ∷ []

abbrev pub attributes : PageProtection → ℕ → ℕ
attributes protection oem_attributes = protection_number protection + 16 * oem_attributes

-- ---- the table

-- the fields after the header
abbrev pub hpet_fields : HPET → List NamedField
hpet_fields t =
    flags block_bits dword "Event Timer Block ID" t.block_id.number  -- 36
    ∷ register "BASE_ADDRESS" t.base_address  -- 40
    ∷ byte "HPET Number" t.number  -- 52
    ∷ word "Main Counter Minimum Clock_tick in Periodic Mode" t.minimum_tick  -- 53
    ∷ flags attribute_bits byte "Page Protection And OEM Attribute" (attributes t.page_protection t.oem_attributes)  -- 55
    ∷ []

abbrev pub hpet_bytes : HPET → List ℕ
hpet_bytes t = table_of (codes "HPET") 1 t.oem (fields_joined (hpet_fields t))

-- the first block, with its registers at an address; all other fields are 0
abbrev pub hpet_for : Oem → EventTimerBlockId → GAS → HPET
hpet_for oem id address = record {
  oem = oem;
  block_id = id;
  base_address = address;
  number = 0;
  minimum_tick = 0;
  page_protection = protections.NoGuarantee;
  oem_attributes = 0;
}
