-- Laws about the definitions, which hold for all calls.
use Rattle.std.specs.Prelude.{◌≡◌, ℕ, ◌%◌, List, [], length, sum, take}
use Rattle.acpi_base.specs.Table.{IsTrueTable}
use Rattle.acpi_base.specs.Walk.{ArePiecesOf}
use Rattle.acpi_base.specs.declared.oem.Oem.{Oem}
use Rattle.acpi_fixed.specs.declared.spcr.EarlierSPCR.{EarlierSPCR}
use Rattle.acpi_fixed.specs.declared.bert.BERT.{BERT}
use Rattle.acpi_fixed.specs.declared.bgrt.BGRT.{BGRT}
use Rattle.acpi_fixed.specs.declared.hpet.HPET.{HPET}
use Rattle.acpi_fixed.specs.declared.spcr.SPCR.{SPCR}
use Rattle.acpi_fixed.specs.declared.tpm2.TpmClient1_2.{TpmClient1_2}
use Rattle.acpi_fixed.specs.declared.tpm2.TpmServer1_2.{TpmServer1_2}
use Rattle.acpi_fixed.specs.declared.tpm2.Tpm2.{Tpm2}
use Rattle.acpi_fixed.specs.declared.waet.WAET.{WAET}
use Rattle.acpi_fixed.specs.declared.wsmt.WSMT.{WSMT}
use Rattle.acpi_fixed.specs.Bert.{bert_bytes}
use Rattle.acpi_fixed.specs.Bgrt.{bgrt_bytes}
use Rattle.acpi_fixed.specs.Hpet.{hpet_bytes}
use Rattle.acpi_fixed.specs.Rsdp.{rsdp_bytes, rsdp_for, rsdp0_bytes, rsdp0_for}
use Rattle.acpi_fixed.specs.Spcr.{spcr_bytes, earlier_spcr_bytes}
use Rattle.acpi_fixed.specs.Tcpa.{client_bytes, server_bytes}
use Rattle.acpi_fixed.specs.Tpm2.{tpm2_bytes, tpm2_size}
use Rattle.acpi_fixed.specs.Waet.{waet_bytes}
use Rattle.acpi_fixed.specs.Wsmt.{wsmt_bytes}

-- the first 20 bytes of a new pointer sum to zero, and so do all 36
abbrev pub PointersSumToZero : Type 0
PointersSumToZero =
    (oem_id : List ℕ) (xsdt_addr : ℕ) → length oem_id ≡ 6
    → (length (rsdp_bytes (rsdp_for oem_id xsdt_addr)) ≡ 36)
    × (sum (take 20 (rsdp_bytes (rsdp_for oem_id xsdt_addr))) % 256 ≡ 0)
    × (sum (rsdp_bytes (rsdp_for oem_id xsdt_addr)) % 256 ≡ 0)

-- all 20 bytes of a new pointer to an RSDT sum to zero
abbrev pub FirstPointersSumToZero : Type 0
FirstPointersSumToZero =
    (oem_id : List ℕ) (rsdt_addr : ℕ) → length oem_id ≡ 6
    → (length (rsdp0_bytes (rsdp0_for oem_id rsdt_addr)) ≡ 20) × (sum (rsdp0_bytes (rsdp0_for oem_id rsdt_addr)) % 256 ≡ 0)

-- ---- each table of this maker is a correct table of its size, without structures, for all values of its other fields

abbrev pub BertsAreTrue : Oem → Type 0
BertsAreTrue oem =
    (t : BERT) → t.oem ≡ oem
    → IsTrueTable (bert_bytes t) × (length (bert_bytes t) ≡ 48) × ArePiecesOf (bert_bytes t) []

abbrev pub SpcrsAreTrue : Oem → Type 0
SpcrsAreTrue oem =
    (t : SPCR) → t.oem ≡ oem
    → IsTrueTable (spcr_bytes t) × (length (spcr_bytes t) ≡ 90) × ArePiecesOf (spcr_bytes t) []

abbrev pub EarlierSpcrsAreTrue : Oem → Type 0
EarlierSpcrsAreTrue oem =
    (t : EarlierSPCR) → t.table.oem ≡ oem
    → IsTrueTable (earlier_spcr_bytes t) × (length (earlier_spcr_bytes t) ≡ 80) × ArePiecesOf (earlier_spcr_bytes t) []

abbrev pub ClientsAreTrue : Oem → Type 0
ClientsAreTrue oem =
    (t : TpmClient1_2) → t.oem ≡ oem
    → IsTrueTable (client_bytes t) × (length (client_bytes t) ≡ 50) × ArePiecesOf (client_bytes t) []

abbrev pub ServersAreTrue : Oem → Type 0
ServersAreTrue oem =
    (t : TpmServer1_2) → t.oem ≡ oem
    → IsTrueTable (server_bytes t) × (length (server_bytes t) ≡ 100) × ArePiecesOf (server_bytes t) []

abbrev pub Tpm2sAreTrue : Oem → Type 0
Tpm2sAreTrue oem =
    (t : Tpm2) → t.oem ≡ oem
    → IsTrueTable (tpm2_bytes t) × (length (tpm2_bytes t) ≡ tpm2_size t.log_area) × ArePiecesOf (tpm2_bytes t) []

abbrev pub HpetsAreTrue : Oem → Type 0
HpetsAreTrue oem =
    (t : HPET) → t.oem ≡ oem
    → IsTrueTable (hpet_bytes t) × (length (hpet_bytes t) ≡ 56) × ArePiecesOf (hpet_bytes t) []

abbrev pub WaetsAreTrue : Oem → Type 0
WaetsAreTrue oem =
    (t : WAET) → t.oem ≡ oem
    → IsTrueTable (waet_bytes t) × (length (waet_bytes t) ≡ 40) × ArePiecesOf (waet_bytes t) []

abbrev pub BgrtsAreTrue : Oem → Type 0
BgrtsAreTrue oem =
    (t : BGRT) → t.oem ≡ oem
    → IsTrueTable (bgrt_bytes t) × (length (bgrt_bytes t) ≡ 56) × ArePiecesOf (bgrt_bytes t) []

abbrev pub WsmtsAreTrue : Oem → Type 0
WsmtsAreTrue oem =
    (t : WSMT) → t.oem ≡ oem
    → IsTrueTable (wsmt_bytes t) × (length (wsmt_bytes t) ≡ 40) × ArePiecesOf (wsmt_bytes t) []
