-- Definition blocks of well-formed parts.
use Rattle.std.proofs.Common.{◌≡◌, ℕ, List, [], ◌∷◌, ◌++◌, length, drop, refl, sym, ap, subst, ◌∙◌, arith}
use Rattle.std.specs.Prelude.{None}
use Rattle.std.proofs.lemmas.List.{append-nil, drop_at}
use Rattle.acpi_base.specs.Object.{all_of}
use Rattle.acpi_base.specs.Sdt.{added}
use Rattle.acpi_base.proofs.Lists.{joined_whole}
use Rattle.acpi_base.proofs.Ends.{added_ends}
use Rattle.acpi_term.specs.declared.mode.Mode.TheVariants.{Term}
use Rattle.acpi_term.specs.Language.{written_grammar}
use Rattle.acpi_term.specs.Spelling.{Spells, SpellEach}
use Rattle.acpi_term.proofs.Rows.{each, rows_mean}
use Rattle.acpi_read.specs.Laws.{Part, object_of, objects_of, AreWellFormed, meaning, BlocksMeanTheirParts}
use Rattle.acpi_read.proofs.Refusals.{spelled_are_read}

spell_each : (arity : List ℕ → ℕ) (parts : List Part) → AreWellFormed arity parts → (all_of (objects_of parts)).end ≡ None → SpellEach arity Term (objects_of parts) (meaning parts)
spell_each arity [] all whole = tt
spell_each arity (p ∷ parts) all whole =
    let o = object_of p in
    let both = joined_whole o.front o.wants_memory (all_of (objects_of parts)) o.end whole in
    (rows_mean arity Term p.head p.children p.terms all.0.takes all.0.is_standard all.0.written all.0.spell both.0, spell_each arity parts all.1 both.1)

pub blocks_mean_their_parts : BlocksMeanTheirParts
blocks_mean_their_parts arity start parts long all whole deep =
    let front = (all_of (objects_of parts)).front in
    let bytes = drop (length start) (added start front) in
    let ts = meaning parts in
    let none : drop (length start) start ≡ [] = ap (drop (length start)) (sym (append-nil start)) ∙ drop_at start [] (length start) refl in
    let is : bytes ≡ front = added_ends (length start) start front long (omega arith) ∙ ap (λ l. l ++ front) none in
    let spells : Spells arity Term bytes ts = subst (λ (b : List ℕ). Spells arity Term b ts) (sym is) (each arity Term (objects_of parts) ts (spell_each arity parts all whole) whole).0 in
    let read = spelled_are_read (written_grammar arity) bytes ts spells deep in
    record {
      are = record { spelled = spells; shallow = deep };
      only = read.0;
      errors = read.1;
      others = λ other found. found.spelled.1 ∙ sym spells.1;
    }
