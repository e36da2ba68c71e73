use Rattle.std.proofs.Common.{◌≡◌, refl, ap, ◌∙◌}
use Rattle.acpi_base.specs.Bytes.{put}
use Rattle.acpi_base.specs.declared.oem.Oem.{Oem}
use Rattle.acpi_matrices.specs.Slit.{Distances, slit, distance, with_distance}

-- two localities, whose distance was set
pub apart : (oem : Oem) (old new : Distances) → new ≡ with_distance old 0 1 20 → old ≡ slit oem 2
    → (distance new 0 1 ≡ 20) × (distance new 1 0 ≡ 20)
unfolding put
apart oem old new set is =
    let same : new ≡ with_distance (slit oem 2) 0 1 20 = set ∙ ap (λ t. with_distance t 0 1 20) is in
    (ap (λ t. distance t 0 1) same ∙ refl, ap (λ t. distance t 1 0) same ∙ refl)
