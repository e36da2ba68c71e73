-- Addresses of registers as plain fields (ACPI 6.5, 5.2.3.2, Generic Address Structure).
use Rattle.std.specs.Prelude.{ℕ, List, [], ◌∷◌}
use Rattle.acpi_base.specs.Fields.{NamedField, byte, qword, hex, one_of, fields_joined}
use Rattle.acpi_base.specs.Gas.{address_spaces, access_sizes}
use Rattle.acpi_base.specs.declared.address.GenericAddress.{GenericAddress}

abbrev pub address_fields : GenericAddress → List NamedField
address_fields a =
    one_of address_spaces byte "Address Space ID" a.address_space_id  -- 0
    ∷ byte "Register Bit Width" a.register_bit_width  -- 1
    ∷ byte "Register Bit Offset" a.register_bit_offset  -- 2
    ∷ one_of access_sizes byte "Access Size" a.access_size  -- 3
    ∷ hex qword "Address" a.address  -- 4
    ∷ []

abbrev pub address_bytes : GenericAddress → List ℕ
address_bytes a = fields_joined (address_fields a)

-- a register as wide as its access, at a port or in memory
abbrev pub address_at : ℕ → ℕ → ℕ → ℕ → GenericAddress
address_at space bit_width size address = record {
  address_space_id = space;
  register_bit_width = bit_width;
  register_bit_offset = 0;
  access_size = size;
  address = address;
}
