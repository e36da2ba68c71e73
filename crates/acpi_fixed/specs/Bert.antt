-- The Boot Error Record Table (ACPI 6.5, 18.3.1).
use Rattle.std.specs.Prelude.{ℕ, List, [], ◌∷◌, codes}
use Rattle.acpi_base.specs.Fields.{NamedField, dword, qword, hex, fields_joined}
use Rattle.acpi_base.specs.Table.{table_of}
use Rattle.acpi_base.specs.declared.oem.Oem.{Oem}
use Rattle.acpi_fixed.specs.declared.bert.BERT.{BERT}

-- the fields after the header
abbrev pub bert_fields : BERT → List NamedField
bert_fields t =
    dword "Boot Error Region Length" t.error_region_length  -- 36
    ∷ hex qword "Boot Error Region" t.error_region_base  -- 40
    ∷ []

abbrev pub bert_bytes : BERT → List ℕ
bert_bytes t = table_of (codes "BERT") 1 t.oem (fields_joined (bert_fields t))

-- a table for a region of this many bytes at an address
abbrev pub bert_for : Oem → ℕ → ℕ → BERT
bert_for oem size address = record {
  oem = oem;
  error_region_length = size;
  error_region_base = address;
}
