use Rattle.std.proofs.Common.{◌≡◌, ℕ, List, ◌∷◌, length, sym, ap, ◌∙◌}
use Rattle.std.proofs.lemmas.List.{append-nil}
use Rattle.acpi_aml.proofs.Buffers.{wrote_sixteen, refused_sixteen}
use Rattle.acpi_aml.proofs.uuid.UuidAml.to_aml_bytes.Goals as goal

pub returns-clause-ok : goal.returns-clause-ok
returns-clause-ok g c =
    let size : length c.args.self.now ≡ 16 = ap length (sym c.self.view_is) ∙ c.self.told in
    let made : c.record-bytes.result ≡ 17 ∷ 19 ∷ 10 ∷ 16 ∷ c.args.self.now = c.record-bytes.ensures ∙ ap (λ (l : List ℕ). 17 ∷ 19 ∷ 10 ∷ 16 ∷ l) (append-nil c.self.inside.bytes ∙ c.self.view_is) in
    wrote_sixteen _ _ _ _ _ size made c.vec.ensures.0

pub returns-clause-err : goal.returns-clause-err
returns-clause-err g c =
    let size : length c.args.self.now ≡ 16 = ap length (sym c.self.view_is) ∙ c.self.told in
    let made : c.record-bytes.result ≡ 17 ∷ 19 ∷ 10 ∷ 16 ∷ c.args.self.now = c.record-bytes.ensures ∙ ap (λ (l : List ℕ). 17 ∷ 19 ∷ 10 ∷ 16 ∷ l) (append-nil c.self.inside.bytes ∙ c.self.view_is) in
    refused_sixteen _ _ _ _ _ size made c.vec.ensures.1
