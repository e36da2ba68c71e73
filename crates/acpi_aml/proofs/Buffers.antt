-- Buffers of bytes.
use Rattle.std.proofs.Common.{◌≡◌, ℕ, suc, ◌+◌, List, [], ◌∷◌, ◌++◌, length, sym, ap, subst, ◌∙◌}
use Rattle.std.specs.Prelude.{Result, OnOk, IfErr}
use Rattle.acpi_base.specs.declared.error.Error.{Error}
use Rattle.acpi_base.specs.Sink.{Meaning, Took, Refused}
use Rattle.acpi_base.specs.Number.{number}
use Rattle.acpi_base.specs.Object.{Object, whole, ended, Wrote, WriteRefused}
use Rattle.acpi_base.proofs.Objects.{wrote_whole, refused_whole}
use Rattle.acpi_term.specs.Tree.{def_buffer}
use Rattle.acpi_term.specs.Length.{least_width, length_bytes}
use Rattle.acpi_term.specs.Row.{frame_end, row}
use Rattle.acpi_term.specs.Template.{buffer_of_bytes}

-- the buffer of a size and bytes, where these are this many
sized : List ℕ → ℕ → Object
unfolding length_bytes
sized bytes n = ended (frame_end n) (whole (17 ∷ length_bytes (least_width n) (least_width n + n) ++ 10 ∷ 16 ∷ bytes))

pub sixteen : (bytes : List ℕ) → length bytes ≡ 16 → buffer_of_bytes bytes ≡ whole (17 ∷ 19 ∷ 10 ∷ 16 ∷ bytes)
unfolding length_bytes sized
sixteen bytes size =
    let told : buffer_of_bytes bytes ≡ sized bytes (length (10 ∷ 16 ∷ bytes)) = ap (λ (n : ℕ). row (def_buffer bytes) (whole (number n) ∷ [])) size in
    told ∙ ap (λ (n : ℕ). sized bytes (suc (suc n))) size

module _ {T : Type 0} (r : Result T Error) (made bytes : List ℕ) (m k : Meaning) (size : length bytes ≡ 16) (same : made ≡ 17 ∷ 19 ∷ 10 ∷ 16 ∷ bytes) where
  pub wrote_sixteen : OnOk r (Took m made k) → OnOk r (Wrote (buffer_of_bytes bytes) m k)
  wrote_sixteen took = subst (λ (o : Object). OnOk r (Wrote o m k)) (sym (sixteen bytes size)) (wrote_whole r made (17 ∷ 19 ∷ 10 ∷ 16 ∷ bytes) m k same took)

  pub refused_sixteen : IfErr r (λ e. Refused e m made k) → IfErr r (λ e. WriteRefused e (buffer_of_bytes bytes) m k)
  refused_sixteen refused = subst (λ (o : Object). IfErr r (λ e. WriteRefused e o m k)) (sym (sixteen bytes size)) (refused_whole r made (17 ∷ 19 ∷ 10 ∷ 16 ∷ bytes) m k same refused)
