use Rattle.std.proofs.Common.{List, ℕ, ◌++◌, ap, sym, ◌∙◌, arith, string_bytes}
use Rattle.acpi_read.proofs.Texts.{after_three}
use Rattle.acpi_asl.proofs.Pieces.{segments_step}
use Rattle.acpi_asl.proofs.name.+segments.Goals as goal

pub push_segments-returns : goal.push_segments-returns
push_segments-returns t c =
    let old = string_bytes c.args.text.now in
    after_three old _ _ _ _ _ _ c.in_ok-push_dot.ensures c.in_ok-push_segment.ensures c.in_ok-push_further_segments.ensures
    ∙ ap (λ (l : List ℕ). old ++ l) (sym (segments_step c.args.follows c.args.segments.now (omega (arith, c.in-len4-up.len_at_least))))
