use Rattle.std.proofs.Common.{ℕ, ◌+◌, List, [], ◌∷◌, ◌++◌, Bor, length, ap, ◌∙◌}
use Rattle.std.specs.List.{flat_map}
use Rattle.acpi_base.proofs.Tables.{written_back}
use Rattle.test_support.specs.Expected.{makers}
use Rattle.test_support.proofs.Checked.{table_is}
use Rattle.test_support.proofs.table.table.Goals as goal

pub returns : goal.returns
returns c =
    let size = c.to_le_bytes-size.result in
    written_back _ c.seal.new.table c.in_ok-bytes.bytes.items (c.seal.auto.table ∙ c.deref_mut.ensures.len)
    ∙ table_is c.args.signature.now size c.in_ok-body.body.items (flat_map {X = Bor (List ℕ)} (λ part. part.now) c.args.parts.now) c.deref_mut.result.now c.seal.new.table c.args.revision c.in_ok-length_with.field-0
    c.in_ok-body.ensures
    (c.in_ok-length_with.ensures ∙ ap (λ (l : List ℕ). 36 + length l) c.deref.ensures.value)
    c.to_le_bytes-size.ensures
    (c.deref_mut.ensures.value ∙ c.in_ok-bytes.ensures ∙ ap (λ (l : List ℕ). c.args.signature.now ++ (size ++ (c.args.revision ∷ 0 ∷ (makers ++ (l ++ []))))) c.deref-2.ensures.value)
    c.seal.ensures
