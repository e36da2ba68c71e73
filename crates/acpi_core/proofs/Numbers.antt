-- How many structures a table has.
use Rattle.std.proofs.Common.{◌≡◌, ℕ, ◌≤◌, ◌⊎◌, List, [], ◌∷◌, Bool, IsTrue, length, ◌∙◌, arith, ⊎_elim, length-append}
use Rattle.std.specs.List.{concat}
use Rattle.acpi_base.specs.Walk.{ArePieces, HasSizes, place_width, named}
use Rattle.acpi_base.specs.declared.walk.Sizes.{Sizes}
use Rattle.acpi_base.specs.declared.walk.Walk.{Walk}
use Rattle.acpi_base.proofs.Walks.{piece_has_bytes}
use Rattle.acpi_core.specs.Listing.{Listing}
use Rattle.acpi_core.specs.Flat.{number_up_to}
use Rattle.acpi_core.specs.Walk.{Keeps}
use Rattle.acpi_core.proofs.Flats.{small_number, told_number}
use Rattle.acpi_core.proofs.Kept.{sound_for}

-- each piece has a byte or more
few_pieces : (s : Sizes) (pieces : List (List ℕ)) → HasSizes s → ArePieces s pieces → length pieces ≤ length (concat pieces)
few_pieces s [] has all = omega arith
few_pieces s (p ∷ ps) has all = omega (arith, piece_has_bytes s p has all.0, few_pieces s ps has all.1, length-append p (concat ps))

-- a closed kind has fewer structures than bytes
pub closed_number : (ported : Bool) (w : Walk) (limit : ℕ) (closed : Bool) (t : Listing) (count : ℕ) → Keeps ported w limit closed t → count ≡ number_up_to (length t.structures)
    → IsTrue closed → count ≡ length t.structures
closed_number ported w limit closed t count kept told all =
    let few = few_pieces w.sizes t.structures (sound_for ported (named t.signature) w kept.walk.signature).has (kept.pieces all) in
    told ∙ small_number (length t.structures) (omega (arith, few, kept.is.fits, kept.is.limit))

some_width : (w count n : ℕ) → (w ≡ 0) ⊎ (count ≡ n) → 1 ≤ w → count ≡ n
some_width w count n h some = ⊎_elim (λ e. absurd (omega (arith, e, some))) (λ e. e) h

-- a number that stands in the table is that of its structures
pub told_number_of : (ported : Bool) (w : Walk) (limit : ℕ) (closed : Bool) (t : Listing) (count : ℕ) → Keeps ported w limit closed t → count ≡ number_up_to (length t.structures)
    → 1 ≤ place_width w.count → count ≡ length t.structures
told_number_of ported w limit closed t count kept told some =
    some_width t.count_width count (length t.structures) (told_number t.count_width (length t.structures) count kept.is.width kept.is.counted told)
    (omega (arith, some, kept.walk.count_width))
