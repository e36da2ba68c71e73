use Rattle.std.proofs.Common.{map, string_bytes, refl, sym, ◌∙◌}
use Rattle.acpitool_program.proofs.command.lay.Goals as goal

pub returns-then-begins_with : goal.returns-then-begins_with
returns-then-begins_with c = λ all is. c.laid_apart.ensures all (is, c.requires)

pub returns-else-begins_with : goal.returns-else-begins_with
returns-else-begins_with c = λ all is.
    c.laid.ensures all (map (λ word. string_bytes word) c.args.words.now) (is, c.requires)
    (sym c.begins_with.ensures ∙ c.if-begins_with.false, refl)
