use Rattle.std.proofs.Common.{List, map, refl}
use Rattle.acpi_term.specs.View.{entry_view}
use Rattle.acpi_term.specs.declared.term.TermEntry.{TermEntry}
use Rattle.acpi_terms_text.specs.Objects.{own_unit, own_units, all_kept}
use Rattle.acpi_terms_text.proofs.Segments.{kept_both}
use Rattle.acpi_terms_text.proofs.Runs.{runs_start, runs_on, runs_done}
use Rattle.acpi_terms_text.proofs.objects.push_units.Goals as goal

pub entries-init : goal.entries-init
entries-init c = runs_start _ _ _

pub entries-preserved : goal.entries-preserved
entries-preserved c =
    runs_on (λ (entries : List TermEntry). all_kept c.args.kept (own_units c.args.scope.now (map entry_view entries))) _ _ _ _ c.entries.invariant _ _ _ c.entries-test.true c.entry-item.is (kept_both c.args.kept (own_unit c.args.scope.now (entry_view c.entry-item.result)) _) c.in_ok-push_unit.ensures

pub returns : goal.returns
returns c = runs_done (λ (entries : List TermEntry). all_kept c.args.kept (own_units c.args.scope.now (map entry_view entries))) _ _ _ _ c.entries.invariant refl c.entries-test.false
