use Rattle.std.proofs.Common.{List, ℕ, ◌++◌, ap, sym, ◌∙◌, arith, string_bytes}
use Rattle.acpi_read.proofs.Texts.{after_two}
use Rattle.acpi_asl.proofs.Items.{dwords_step}
use Rattle.acpi_asl.proofs.list.+dwords.Goals as goal

pub returns : goal.returns
returns t c =
    let old = string_bytes c.args.text.now in
    after_two old _ _ _ _ c.in_ok-push_next_dword.ensures c.in_ok-push_dwords.ensures
    ∙ ap (λ (l : List ℕ). old ++ l) (sym (dwords_step c.args.first c.args.bytes.now (omega (arith, c.in-len4-up.len_at_least))))
