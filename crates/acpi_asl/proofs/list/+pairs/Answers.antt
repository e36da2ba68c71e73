use Rattle.std.proofs.Common.{List, ℕ, ◌++◌, ap, sym, ◌∙◌, arith, string_bytes}
use Rattle.acpi_read.proofs.Texts.{after_two}
use Rattle.acpi_asl.proofs.Items.{pairs_step}
use Rattle.acpi_asl.proofs.list.+pairs.Goals as goal

pub returns : goal.returns
returns t c =
    let old = string_bytes c.args.text.now in
    after_two old _ _ _ _ c.in_ok-push_next_pair.ensures c.in_ok-push_pairs.ensures
    ∙ ap (λ (l : List ℕ). old ++ l) (sym (pairs_step c.args.first c.args.bytes.now (omega (arith, c.in-len2-up.len_at_least))))
