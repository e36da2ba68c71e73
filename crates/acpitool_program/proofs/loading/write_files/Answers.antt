use Rattle.std.proofs.Common.{◌++◌, codes, drop}
use Rattle.acpitool_program.proofs.Loadings.{none_put, one_put, last_put}
use Rattle.acpitool_program.specs.Loading.{files_of}
use Rattle.acpitool_program.proofs.loading.write_files.Goals as goal

pub returns-then-first-ne0 : goal.returns-then-first-ne0
returns-then-first-ne0 g c =
    let to = c.args.to.now in
    let loader = c.args.loader.now in
    none_put (to ++ codes "/etc/acpi/tables") loader.tables.items (drop 1 (files_of loader to)) _ _ _ _ c.in_ok-first.first
    (rw c.as_slice-tables.ensures.value at c.in_ok-first.ensures) c.if-first-ne0.true

pub returns-then-second-ne0 : goal.returns-then-second-ne0
returns-then-second-ne0 g c =
    let to = c.args.to.now in
    let loader = c.args.loader.now in
    one_put (to ++ codes "/etc/acpi/tables") loader.tables.items (drop 1 (files_of loader to)) _ _ _ _ _ _ c.in_ok-first.first
    c.in_ok-second.second (rw c.as_slice-tables.ensures.value at c.in_ok-first.ensures) c.if-first-ne0.false
    (none_put (to ++ codes "/etc/acpi/rsdp") loader.rsdp.items (drop 2 (files_of loader to)) _ _ _ _ c.in_ok-second.second
    (rw c.as_slice-rsdp.ensures.value at c.in_ok-second.ensures) c.if-second-ne0.true)

pub returns : goal.returns
returns g c =
    let to = c.args.to.now in
    let loader = c.args.loader.now in
    one_put (to ++ codes "/etc/acpi/tables") loader.tables.items (drop 1 (files_of loader to)) _ _ _ _ _ _ c.in_ok-first.first
    c.in_ok-third.third (rw c.as_slice-tables.ensures.value at c.in_ok-first.ensures) c.if-first-ne0.false
    (one_put (to ++ codes "/etc/acpi/rsdp") loader.rsdp.items (drop 2 (files_of loader to)) _ _ _ _ _ _ c.in_ok-second.second
    c.in_ok-third.third (rw c.as_slice-rsdp.ensures.value at c.in_ok-second.ensures) c.if-second-ne0.false
    (last_put (to ++ codes "/etc/table-loader") loader.script.items _ _ _ _ c.in_ok-third.third
    (rw c.as_slice-script.ensures.value at c.in_ok-third.ensures)))
