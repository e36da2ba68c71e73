-- Which tables library calls write, and the fields of their forms.
use Rattle.acpi_forms.specs.FixedForms.{IsRsdp, IsFacs, IsHeader, IsBert, IsFadt, IsSpcr, IsTcpa, IsTpm2}
use Rattle.acpi_forms.specs.FixedForms.{IsHpet, IsWaet, IsBgrt, IsWsmt}
use Rattle.acpi_forms.specs.ListForms.{IsXsdt, IsMcfg, IsMadt, IsSrat, IsCedt}
use Rattle.acpi_forms.specs.HestForms.{IsHest, IsRqsc}
use Rattle.acpi_forms.specs.NodeForms.{IsPptt, IsRhct, IsViot, IsRimt}
use Rattle.acpi_forms.specs.MatrixForms.{IsHmat, IsSlit}
use Rattle.acpi_forms.specs.ArmForms.{IsGtdt, IsEarlierGtdt, IsDbg2, IsIort}
use Rattle.acpi_text.specs.declared.form.TableForm.{TableForm}

-- What library calls write of a table: nothing, its header alone, or all of it, as this record or table.
pub data Written : Type 0 where
  nothing : Written
  the_header : Written
  the_rsdp : Written
  the_facs : Written
  the_xsdt : Written
  the_bert : Written
  the_fadt : Written
  the_spcr : Written
  the_tcpa : Written
  the_tpm2 : Written
  the_mcfg : Written
  the_madt : Written
  the_srat : Written
  the_cedt : Written
  the_hest : Written
  the_rqsc : Written
  the_pptt : Written
  the_rhct : Written
  the_viot : Written
  the_rimt : Written
  the_hmat : Written
  the_slit : Written
  the_gtdt : Written
  the_earlier_gtdt : Written
  the_dbg2 : Written
  the_iort : Written
  the_hpet : Written
  the_waet : Written
  the_bgrt : Written
  the_wsmt : Written

-- a form has the fields that are written
abbrev pub HasFields : Written → TableForm → Type 0
HasFields nothing form = Unit {0}
HasFields the_header form = IsHeader form
HasFields the_rsdp form = IsRsdp form
HasFields the_facs form = IsFacs form
HasFields the_xsdt form = IsXsdt form
HasFields the_bert form = IsBert form
HasFields the_fadt form = IsFadt form
HasFields the_spcr form = IsSpcr form
HasFields the_tcpa form = IsTcpa form
HasFields the_tpm2 form = IsTpm2 form
HasFields the_mcfg form = IsMcfg form
HasFields the_madt form = IsMadt form
HasFields the_srat form = IsSrat form
HasFields the_cedt form = IsCedt form
HasFields the_hest form = IsHest form
HasFields the_rqsc form = IsRqsc form
HasFields the_pptt form = IsPptt form
HasFields the_rhct form = IsRhct form
HasFields the_viot form = IsViot form
HasFields the_rimt form = IsRimt form
HasFields the_hmat form = IsHmat form
HasFields the_slit form = IsSlit form
HasFields the_gtdt form = IsGtdt form
HasFields the_earlier_gtdt form = IsEarlierGtdt form
HasFields the_dbg2 form = IsDbg2 form
HasFields the_iort form = IsIort form
HasFields the_hpet form = IsHpet form
HasFields the_waet form = IsWaet form
HasFields the_bgrt form = IsBgrt form
HasFields the_wsmt form = IsWsmt form
