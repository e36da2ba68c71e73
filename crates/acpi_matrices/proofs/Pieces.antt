-- Structures that contain their length.
use Rattle.std.proofs.Common.{◌≡◌, ◌+◌, ◌*◌, ◌^◌, ◌<◌, refl, sym, ◌∙◌, arith, length}
use Rattle.acpi_base.specs.Walk.{IsPiece}
use Rattle.acpi_base.specs.declared.walk.Place.TheVariants.{DWord}
use Rattle.acpi_base.specs.declared.walk.Sizes.TheVariants.{ToldAt}
use Rattle.acpi_base.proofs.Bytes.{carried_le}
use Rattle.acpi_matrices.specs.Locality.{Locality, IsLocality, locality_bytes}
use Rattle.acpi_matrices.specs.Cache.{SideCache, cache_bytes}

most : 256 ^ 4 ≡ 2 ^ 32
most = refl

pub locality_piece : (l : Locality) → IsLocality l → IsPiece (ToldAt (DWord 4)) (locality_bytes l)
locality_piece l is =
    let size : length (locality_bytes l) ≡ 32 + length l.lists = omega arith in
    (omega (arith, size), carried_le 4 (32 + length l.lists) (omega (arith, is.lists, is.fits, most)) ∙ sym size)

pub cache_piece : (c : SideCache) → length c.handles ≡ 2 * c.count → c.count < 65536 → IsPiece (ToldAt (DWord 4)) (cache_bytes c)
cache_piece c whole few =
    let size : length (cache_bytes c) ≡ 32 + length c.handles = omega arith in
    (omega (arith, size), carried_le 4 (32 + length c.handles) (omega (arith, whole, few, most)) ∙ sym size)
