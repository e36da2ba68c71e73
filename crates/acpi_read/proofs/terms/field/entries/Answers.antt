use Rattle.std.proofs.Common.{◌≡◌, ◌<◌, [], ◌∷◌, ◌++◌, length, map, arith, rules}
use Rattle.std.proofs.lemmas.List.{nil_from_length, map-append}
use Rattle.std.proofs.lemmas.Result.{err_from_is_err_and}
use Rattle.acpi_term.specs.View.{entry_view}
use Rattle.acpi_base.proofs.Bytes.{bytes_each}
use Rattle.acpi_read.specs.Cause.{cause_kind}
use Rattle.acpi_read.proofs.EntryLists.{entries_begin, entries_go_on, entries_shrink, entries_fail, entries_end}
use Rattle.acpi_read.proofs.terms.field.entries.Goals as goal

pub entries-init : goal.entries-init
entries-init c = rw c.new-entries.ensures.items (entries_begin c.args.language c.args.bytes.now (bytes_each c.args.bytes.now (λ i. omega (arith, c.type_inv.bytes i))))

pub returns-in_err-entry : goal.returns-in_err-entry
returns-in_err-entry c =
    let p = err_from_is_err_and c.from_residual.result c.from_residual.ensures.1 in
    let some : 0 < length c.entries.rest.now = search rules in
    rw (p.1, p.2) (entries_fail c.args.language c.args.bytes.now (map entry_view c.entries.entries.items) c.entries.rest.now some c.entries.invariant (cause_kind c.in_err-entry.field-0.0) c.in_err-entry.ensures)

pub entries-smaller : goal.entries-smaller
entries-smaller c =
    let some : 0 < length c.entries.rest.now = search rules in
    entries_shrink c.args.language c.args.bytes.now (map entry_view c.entries.entries.items) c.entries.rest.now some c.entries.invariant (entry_view c.in_ok-entry.entry) c.in_ok-entry.after.now c.in_ok-entry.ensures

pub entries-preserved : goal.entries-preserved
entries-preserved c =
    let x = c.in_ok-entry.entry in
    let some : 0 < length c.entries.rest.now = search rules in
    let e : map entry_view c.push.new.self.items ≡ map entry_view c.entries.entries.items ++ entry_view x ∷ [] = rw c.in_ok-push.ensures.items (map-append entry_view c.entries.entries.items (x ∷ [])) in
    rw e (entries_go_on c.args.language c.args.bytes.now (map entry_view c.entries.entries.items) c.entries.rest.now some c.entries.invariant (entry_view x) c.in_ok-entry.after.now c.in_ok-entry.ensures)

pub returns : goal.returns
returns c =
    let none : c.entries.rest.now ≡ [] = nil_from_length c.entries.rest.now (search rules) in
    entries_end c.args.language c.args.bytes.now (map entry_view c.entries.entries.items) c.entries.rest.now none c.entries.invariant
