use Rattle.std.proofs.Common.{rules}
use Rattle.acpi_term.proofs.Spells.{field_laid, index_laid, bank_laid}
use Rattle.acpi_term.proofs.spell.own_bytes.Goals as goal

pub returns-in_ok-spell_entries-in-Field-clause-ok : goal.returns-in_ok-spell_entries-in-Field-clause-ok
returns-in_ok-spell_entries-in-Field-clause-ok c =
    rw c.in-Field.is (field_laid _ _ _ _ _ _ _ _ _ _ c.in_ok-flags-in-Field.ensures.ok (search rules) (search rules) c.in_ok-spell_entries-in-Field.ensures.ok c.in_ok-spell_entries-in-Field.ensures.fits)

pub returns-in_ok-spell_entries-in-IndexField-clause-ok : goal.returns-in_ok-spell_entries-in-IndexField-clause-ok
returns-in_ok-spell_entries-in-IndexField-clause-ok c =
    rw c.in-IndexField.is (index_laid _ _ _ _ _ _ _ _ _ _ _ c.in_ok-flags-in-IndexField.ensures.ok (search rules) (search rules) c.in_ok-spell_entries-in-IndexField.ensures.ok c.in_ok-spell_entries-in-IndexField.ensures.fits)

pub returns-in_ok-names-in-BankField-clause-ok : goal.returns-in_ok-names-in-BankField-clause-ok
returns-in_ok-names-in-BankField-clause-ok c =
    rw c.in-BankField.is (bank_laid _ _ _ _ _ _ _ _ _ c.in_ok-flagged-in-BankField.ensures.flags c.in_ok-flagged-in-BankField.ensures.fits (search rules))
