use Rattle.std.proofs.Common.{rules}
use Rattle.std.proofs.lemmas.Result.{err_from_is_err_and}
use Rattle.acpi_term.proofs.Spells.{entries_start, entries_go_on, entries_stop, entries_done}
use Rattle.acpi_term.proofs.spell.spell_entries.Goals as goal

pub loop-entry-init : goal.loop-entry-init
loop-entry-init c = entries_start _ _

pub loop-entry-preserved : goal.loop-entry-preserved
loop-entry-preserved c = let e = c.in_ok-spell_entry.ensures in entries_go_on c.args.entries.now c.loop-entry.entry-index _ _ c.loop-entry.invariant _ _ (search rules) (search rules) e.ok e.fits

pub returns-in_err-spell_entry-clause-err : goal.returns-in_err-spell_entry-clause-err
returns-in_err-spell_entry-clause-err c =
    let p = err_from_is_err_and c.from_residual.result c.from_residual.ensures.1 in
    rw (p.1, p.2) (entries_stop c.args.entries.now c.loop-entry.entry-index _ _ c.loop-entry.invariant _ _ c.in_err-spell_entry.ensures.err (search rules) (search rules))

pub returns : goal.returns
returns c = let d = entries_done c.args.entries.now c.loop-entry.entry-index _ _ c.loop-entry.invariant c.loop-entry-test.false in record { ok = d.0; fits = d.1; err = tt }
