-- What terms mean that the language Standard alone has.
use Rattle.std.proofs.Common.{◌≤◌, List, [], ◌∷◌, refl, arith}
use Rattle.acpi_term.specs.declared.language.Language.TheVariants.{Standard}
use Rattle.acpi_term.specs.declared.op.Op.TheVariants.{Match}
use Rattle.acpi_term.specs.Language.{grammar_of}
use Rattle.acpi_term.specs.Tree.{op, def_fatal, match_test}
use Rattle.acpi_term.specs.Spelling.{HaveLeastWidths}
use Rattle.acpi_term.proofs.Rows.{rows_mean_in}
use Rattle.acpi_aml.specs.declared.field.FieldAccessType.{FieldAccessType}
use Rattle.acpi_aml.specs.declared.field.FieldAccessType.TheVariants as access
use Rattle.acpi_aml.specs.declared.field.FieldLockRule.{FieldLockRule}
use Rattle.acpi_aml.specs.declared.field.FieldLockRule.TheVariants as lock
use Rattle.acpi_aml.specs.declared.field.FieldUpdateRule.{FieldUpdateRule}
use Rattle.acpi_aml.specs.declared.field.FieldUpdateRule.TheVariants as update
use Rattle.acpi_aml.specs.declared.field.FieldEntry.{FieldEntry}
use Rattle.acpi_aml.specs.declared.field.FieldEntry.TheVariants.{Named, Reserved}
use Rattle.acpi_aml.specs.Field.{access_number, lock_number, update_number, entries_of}
use Rattle.acpi_ops.specs.Field.{index_field_head, bank_field_head}
use Rattle.acpi_ops.specs.declared.search.Comparison.{Comparison}
use Rattle.acpi_ops.specs.declared.search.Comparison.TheVariants as comparisons
use Rattle.acpi_ops.specs.Search.{comparison_number}
use Rattle.acpi_ops.specs.Laws.{SearchesMean, FatalMeans, FieldsMean}

comparison_small : (c : Comparison) → comparison_number c ≤ 5
comparison_small comparisons.Always = omega arith
comparison_small comparisons.Equal = omega arith
comparison_small comparisons.LessOrEqual = omega arith
comparison_small comparisons.Less = omega arith
comparison_small comparisons.GreaterOrEqual = omega arith
comparison_small comparisons.Greater = omega arith

pub searches_mean : SearchesMean
searches_mean = record {
  search = λ searched first second start. record {
    spells = λ arity m ts place spell h.
        rows_mean_in (grammar_of Standard arity) m (op Match) (searched ∷ first ∷ second ∷ start ∷ []) ts place refl refl tt refl spell h;
  };
  test = λ c operand. record {
    spells = λ arity m ts place spell h.
        rows_mean_in (grammar_of Standard arity) m (match_test (comparison_number c)) (operand ∷ []) ts place refl (refl, comparison_small c) tt tt spell h;
  };
}

pub fatal_means : FatalMeans
fatal_means kind code argument low small = record {
  spells = λ arity m ts place spell h.
      rows_mean_in (grammar_of Standard arity) m (def_fatal kind code) (argument ∷ []) ts place refl (refl, low, small) tt tt spell h;
}

-- ---- fields

pub access_small : (a : FieldAccessType) → access_number a ≤ 5
access_small access.Any = omega arith
access_small access.Byte = omega arith
access_small access.Word = omega arith
access_small access.DWord = omega arith
access_small access.QWord = omega arith
access_small access.Buffer = omega arith

pub lock_small : (l : FieldLockRule) → lock_number l ≤ 1
lock_small lock.NoLock = omega arith
lock_small lock.Lock = omega arith

pub update_small : (u : FieldUpdateRule) → update_number u ≤ 2
update_small update.Preserve = omega arith
update_small update.WriteAsOnes = omega arith
update_small update.WriteAsZeroes = omega arith

least_widths : (entries : List FieldEntry) → HaveLeastWidths (entries_of entries)
least_widths [] = tt
least_widths (Named name bits ∷ entries) = (refl, least_widths entries)
least_widths (Reserved bits ∷ entries) = (refl, least_widths entries)

pub fields_mean : FieldsMean
fields_mean a l u entries named = record {
  index = λ index name p q. record {
    spells = λ arity m ts place spell h.
        rows_mean_in (grammar_of Standard arity) m (index_field_head index name a l u entries) [] ts place refl
        (refl, p, q, access_small a, lock_small l, update_small u, named) (least_widths entries) tt spell h;
  };
  bank = λ region bank value p q. record {
    spells = λ arity m ts place spell h.
        rows_mean_in (grammar_of Standard arity) m (bank_field_head region bank a l u entries) (value ∷ []) ts place refl
        (refl, p, q, access_small a, lock_small l, update_small u, named) (least_widths entries) tt spell h;
  };
}
