use Rattle.std.proofs.Common.{refl, rules, arith, take, ◌++◌}
use Rattle.std.specs.Prelude.{codes}
use Rattle.acpi_base.specs.Bytes.{zeros}
use Rattle.acpi_base.specs.Fields.{fields_joined}
use Rattle.acpi_fixed.specs.Bert.{bert_fields}
use Rattle.acpi_fixed.specs.Spcr.{spcr_fields}
use Rattle.acpi_fixed.specs.Tcpa.{client_fields, server_fields}
use Rattle.acpi_fixed.specs.Hpet.{hpet_fields}
use Rattle.acpi_fixed.specs.Waet.{waet_fields}
use Rattle.acpi_fixed.specs.Bgrt.{bgrt_fields}
use Rattle.acpi_fixed.specs.Wsmt.{wsmt_fields}
use Rattle.acpi_fixed.proofs.Tables.{true_body, true_from, true_tpm2}
use Rattle.acpi_fixed.proofs.laws.tables_are_true.Goals as goal

pub returns-clause-bert : goal.returns-clause-bert
returns-clause-bert c = λ t from. true_from c.args.oem t.oem (codes "BERT") 1 48 (bert_fields t) (search rules) (search rules) refl refl refl (omega arith) from

pub returns-clause-spcr : goal.returns-clause-spcr
returns-clause-spcr c = λ t from. true_from c.args.oem t.oem (codes "SPCR") 4 90 (spcr_fields t) (search rules) (search rules) refl refl refl (omega arith) from

pub returns-clause-earlier_spcr : goal.returns-clause-earlier_spcr
returns-clause-earlier_spcr c = λ t from. true_body c.args.oem t.table.oem (codes "SPCR") 2 80 (take 40 (fields_joined (spcr_fields t.table)) ++ zeros 4) (search rules) (search rules) refl refl refl (omega arith) from

pub returns-clause-client : goal.returns-clause-client
returns-clause-client c = λ t from. true_from c.args.oem t.oem (codes "TCPA") 2 50 (client_fields t) (search rules) (search rules) refl refl refl (omega arith) from

pub returns-clause-server : goal.returns-clause-server
returns-clause-server c = λ t from. true_from c.args.oem t.oem (codes "TCPA") 2 100 (server_fields t) (search rules) (search rules) refl refl refl (omega arith) from

pub returns-clause-tpm2 : goal.returns-clause-tpm2
returns-clause-tpm2 c = λ t from. true_tpm2 c.args.oem t t.log_area (search rules) (search rules) from

pub returns-clause-hpet : goal.returns-clause-hpet
returns-clause-hpet c = λ t from. true_from c.args.oem t.oem (codes "HPET") 1 56 (hpet_fields t) (search rules) (search rules) refl refl refl (omega arith) from

pub returns-clause-waet : goal.returns-clause-waet
returns-clause-waet c = λ t from. true_from c.args.oem t.oem (codes "WAET") 1 40 (waet_fields t) (search rules) (search rules) refl refl refl (omega arith) from

pub returns-clause-bgrt : goal.returns-clause-bgrt
returns-clause-bgrt c = λ t from. true_from c.args.oem t.oem (codes "BGRT") 1 56 (bgrt_fields t) (search rules) (search rules) refl refl refl (omega arith) from

pub returns-clause-wsmt : goal.returns-clause-wsmt
returns-clause-wsmt c = λ t from. true_from c.args.oem t.oem (codes "WSMT") 1 40 (wsmt_fields t) (search rules) (search rules) refl refl refl (omega arith) from
