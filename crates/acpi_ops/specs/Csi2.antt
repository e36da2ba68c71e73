-- Connections to CSI-2 buses (ACPI 6.5, 6.4.3.8.2.4). Each line has a field with its name in the standard, and its offset.
use Rattle.std.specs.Prelude.{ℕ, ◌+◌, ◌*◌, nat_le, nat_lt, ◌&&◌, Bool, List, [], ◌∷◌, ◌++◌, length}
use Rattle.acpi_base.specs.declared.error.Error.TheVariants.{FieldWidth}
use Rattle.acpi_base.specs.Fields.{NamedField, byte, word, hex, preset, flags, fields_joined}
use Rattle.acpi_base.specs.Look.{Part, choice, means}
use Rattle.acpi_base.specs.Object.{Object, whole, provided}
use Rattle.acpi_ops.specs.Descriptor.{bit}
use Rattle.acpi_ops.specs.Serial.{length_after}
use Rattle.acpi_ops.specs.declared.csi2.Csi2Phy.{Csi2Phy}
use Rattle.acpi_ops.specs.declared.csi2.Csi2Phy.TheVariants as phys
use Rattle.acpi_ops.specs.declared.csi2.Csi2Settings.{Csi2Settings}

-- PHY Type, at bit 0
abbrev pub phy_number : Csi2Phy → ℕ
phy_number phys.CPhy = 0
phy_number phys.DPhy = 1

-- General Flags: Slave Mode and Consumer/Producer
abbrev pub csi2_flags : Csi2Settings → ℕ
csi2_flags s = bit s.device_initiated 0x01 + bit s.consumer 0x02

abbrev pub csi2_general_bits : List Part
csi2_general_bits =
    choice 0x01 (means 0x00 "Controller Initiated" ∷ means 0x01 "Device Initiated" ∷ [])
    ∷ choice 0x02 (means 0x00 "Producer" ∷ means 0x02 "Consumer" ∷ [])
    ∷ []

-- Type Specific Flags: PHY Type, and Local Port Instance from bit 2 on
abbrev pub csi2_type_flags : Csi2Settings → ℕ
csi2_type_flags s = phy_number s.phy + 4 * s.local_port

-- CSI-2 Connection Descriptor before the data of the vendor: this many bytes, and a name of this many bytes
abbrev pub csi2_head_fields : Csi2Settings → ℕ → ℕ → List NamedField
csi2_head_fields s vendor source =
    preset byte "Serial Bus Connection Descriptor" 0x8e  -- 0
    ∷ word "Length" (length_after vendor source)  -- 1
    ∷ preset byte "Revision ID" 1  -- 3
    ∷ byte "Resource Source Index" s.remote_port  -- 4
    ∷ preset byte "Serial Bus Type" 4  -- 5
    ∷ flags csi2_general_bits byte "General Flags" (csi2_flags s)  -- 6
    ∷ hex word "Type Specific Flags" (csi2_type_flags s)  -- 7
    ∷ preset byte "Type Specific Revision ID" 1  -- 9
    ∷ word "Type Data Length" vendor  -- 10
    ∷ []

-- The vendor's data and the name of the controller follow.
abbrev pub csi2_bytes : Csi2Settings → List ℕ → List ℕ → List ℕ
csi2_bytes s vendor source =
    fields_joined (csi2_head_fields s (length vendor) (length source)) ++ (vendor ++ (source ++ 0 ∷ []))

-- the local port fits six bits, and the length its field
abbrev pub csi2_fits : ℕ → ℕ → ℕ → Bool
csi2_fits local_port vendor source = nat_lt local_port 64 && nat_le (length_after vendor source) 65535

abbrev pub csi2 : Csi2Settings → List ℕ → List ℕ → Object
csi2 s vendor source =
    provided (csi2_fits s.local_port (length vendor) (length source)) FieldWidth (whole (csi2_bytes s vendor source))
