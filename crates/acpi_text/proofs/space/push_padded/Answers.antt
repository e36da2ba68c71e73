use Rattle.std.proofs.Common.{[], ◌∷◌, ◌++◌, ◌-◌, refl, arith, rules}
use Rattle.std.proofs.lemmas.Str.{IsCharBoundary-from_ascii}
use Rattle.acpi_text.specs.Line.{spaces, margin}
use Rattle.acpi_text.proofs.Spaces.{column_ascii, column_reached}
use Rattle.acpi_text.proofs.space.push_padded.Goals as goal

pub range_from-requires : goal.range_from-requires
range_from-requires c = λ some. IsCharBoundary-from_ascii (spaces 40 ++ 58 ∷ []) (40 - c.saturating_sub-left.result) (column_ascii 40) (omega arith)

pub returns : goal.returns
returns c =
    column_reached (margin c.args.depth c.args.offset c.args.name.now) _ _ _ _ c.len-start.result c.len.result (40 - c.saturating_sub-left.result) c.saturating_sub-left.result
    (search rules) (search rules) c.in_ok-push_margin.ensures c.saturating_sub-left.ensures refl c.range_from.ensures.value c.in_ok-push_str.ensures.bytes
