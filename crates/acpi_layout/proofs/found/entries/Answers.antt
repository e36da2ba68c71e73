use Rattle.std.proofs.Common.{◌≡◌, ◌≢◌, ◌+◌, ◌*◌, ◌≤◌, sym, arith, List, length, ap, ◌∙◌, subst}
use Rattle.acpi_layout.specs.Addresses.{Space, memory_of}
use Rattle.acpi_layout.specs.declared.fault.ImageFault.{ImageFault}
use Rattle.acpi_layout.specs.declared.fault.ImageFault.TheVariants.{Memory}
use Rattle.acpi_layout.specs.declared.located.Located.{Located}
use Rattle.acpi_layout.specs.declared.root.Root.{Root}
use Rattle.acpi_base.specs.Bytes.{field_at}
use Rattle.acpi_layout.specs.Found.{entry_width, AreEntriesOf}
use Rattle.acpi_layout.specs.Fault.{IsTableFault, IsEntriesFault, part_of_entry, entry_is_no_table}
use Rattle.acpi_layout.proofs.Faults.{at_fault}
use Rattle.acpi_layout.proofs.Founds.{at_exit, entry_ends, entry_refused, entries_next, entries_are}
use Rattle.acpi_layout.proofs.found.entries.Goals as goal

-- no list of tables is what the XSDT or the RSDT lists
abbrev IsNone : Root → Space → Located → ImageFault → Type 0
IsNone root memory listing e = e ≢ Memory → (entries : List Located) → AreEntriesOf root memory listing entries → ⊥

pub returns-in_err-count-clause-err : goal.returns-in_err-count-clause-err
returns-in_err-count-clause-err c =
    at_exit _ (IsNone c.args.root (memory_of c.args.ranges.now) c.args.listing) _ c.from_residual.ensures.1 (λ other entries are. c.in_err-count.ensures.err (length entries) are.counted)

pub returns-in_err-table-clause-err : goal.returns-in_err-table-clause-err
returns-in_err-table-clause-err c =
    at_exit _ (IsNone c.args.root (memory_of c.args.ranges.now) c.args.listing) _ c.from_residual-in_err-table.ensures.1
    (λ other. entry_refused _ _ _ _ c.contents-whole.ensures.is _ c.in_ok-count.ensures.ok _ _ c.entry_at.ensures c.loop-i-test.true c.in_err-table.ensures.err)

pub entry_at-requires : goal.entry_at-requires
entry_at-requires c =
    subst (λ n. 36 + entry_width c.args.root * (c.loop-i.i + 1) ≤ n) (sym c.contents-whole.ensures.size)
    (entry_ends c.args.root c.args.listing.length _ c.loop-i.i c.in_ok-count.ensures.ok c.loop-i-test.true)

pub loop-i-preserved : goal.loop-i-preserved
loop-i-preserved c = record {
  counted = omega (arith, c.in_ok-push.ensures.len, c.loop-i.invariant.counted);
  each = entries_next _ _ _ _ _ _ _ _ c.in_ok-push.ensures.items c.loop-i.invariant.counted c.loop-i.invariant.each c.entry_at.ensures c.in_ok-table.ensures.ok;
}

pub returns-clause-ok : goal.returns-clause-ok
returns-clause-ok c =
    entries_are _ _ _ _ c.contents-whole.ensures.is _
    (subst (λ n. c.args.listing.length ≡ 36 + entry_width c.args.root * n) (omega (arith, c.loop-i.invariant.counted, c.loop-i-test.false, c.loop-i.auto.i-end)) c.in_ok-count.ensures.ok)
    (λ k d inside. c.loop-i.invariant.each k d (omega (arith, inside, c.loop-i.invariant.counted)))

abbrev Faulty : Root → Space → Located → ImageFault → Type 0
Faulty root memory listing e = e ≢ Memory → IsEntriesFault root memory listing e

pub returns-in_err-count-clause-fault : goal.returns-in_err-count-clause-fault
returns-in_err-count-clause-fault c =
    at_fault _ (Faulty c.args.root (memory_of c.args.ranges.now) c.args.listing) _ _ c.from_residual.ensures.1 c.in_err-count.ensures.fault (λ other. part_of_entry c.in_err-count.ensures.err)

pub returns-in_err-table-clause-fault : goal.returns-in_err-table-clause-fault
returns-in_err-table-clause-fault c =
    at_exit _ (Faulty c.args.root (memory_of c.args.ranges.now) c.args.listing) _ c.from_residual-in_err-table.ensures.1
    (λ other. entry_is_no_table c.loop-i.i (entry_ends c.args.root c.args.listing.length _ c.loop-i.i c.in_ok-count.ensures.ok c.loop-i-test.true)
    (subst (λ a. IsTableFault (memory_of c.args.ranges.now) a c.in_err-table.field-0.0)
    (c.entry_at.ensures ∙ ap (field_at (36 + entry_width c.args.root * c.loop-i.i) (entry_width c.args.root)) c.contents-whole.ensures.is) c.in_err-table.ensures.fault))
