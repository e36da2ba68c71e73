use Rattle.std.proofs.Common.{◌≡◌, map, drop}
use Rattle.acpi_terms_text.specs.Objects.{alias_by, callee_by, with_aliases}
use Rattle.acpi_terms_text.proofs.alias.add_aliases.Given as goal

abbrev pub invariant-aliases : goal.invariant-aliases
invariant-aliases l =
    with_aliases (map callee_by l.all.items) (map alias_by (drop l.alias-index l.aliases))
    ≡ with_aliases (map callee_by l.initial.all.items) (map alias_by l.aliases)
