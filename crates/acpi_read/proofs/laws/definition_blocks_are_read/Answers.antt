use Rattle.std.proofs.Common.{◌≡◌, List, ℕ, [], ◌++◌, drop, sym, ap, ◌∙◌, subst, arith}
use Rattle.std.proofs.lemmas.List.{drop_at, append-nil}
use Rattle.acpi_base.specs.Object.{all_of}
use Rattle.acpi_base.specs.Sdt.{added}
use Rattle.acpi_base.proofs.Ends.{added_ends}
use Rattle.acpi_term.proofs.Rows.{each}
use Rattle.acpi_term.specs.declared.mode.Mode.TheVariants.{Term}
use Rattle.acpi_term.specs.Language.{written_grammar}
use Rattle.acpi_term.specs.Spelling.{Spells}
use Rattle.acpi_read.proofs.Refusals.{spelled_are_read}
use Rattle.acpi_read.proofs.laws.definition_blocks_are_read.Goals as goal

pub returns : goal.returns
returns c = λ arity header objects ts long spell end deep.
    let front = (all_of objects).front in
    let none : drop 36 header ≡ [] = ap (drop 36) (sym (append-nil header)) ∙ drop_at header [] 36 long in
    let is : drop 36 (added header front) ≡ front = added_ends 36 header front (omega arith) (omega (arith, long)) ∙ ap (λ l. l ++ front) none in
    spelled_are_read (written_grammar arity) (drop 36 (added header front)) ts (subst (λ (b : List ℕ). Spells arity Term b ts) (sym is) (each arity Term objects ts spell end).0) deep
