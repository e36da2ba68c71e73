-- Windows of memory and their targets.
use Rattle.std.proofs.Common.{◌≡◌, ℕ, ◌+◌, ◌*◌, ◌≤◌, ◌<◌, true, false, sym, ◌∙◌, arith, length}
use Rattle.std.specs.Prelude.{None, ◌==◌}
use Rattle.acpi_base.specs.Object.{whole}
use Rattle.acpi_base.specs.Walk.{IsPiece}
use Rattle.acpi_base.specs.declared.walk.Place.TheVariants.{Word}
use Rattle.acpi_base.specs.declared.walk.Sizes.TheVariants.{ToldAt}
use Rattle.acpi_base.specs.declared.error.Error.TheVariants.{Targets}
use Rattle.std.proofs.lemmas.Bool.{eqb-true}
use Rattle.std.proofs.lemmas.Bool.Decides.{nat_tests}
use Rattle.acpi_base.proofs.Objects.{is_provided, provided_front}
use Rattle.acpi_core.proofs.Parts.{word_told}
use Rattle.acpi_lists.specs.declared.cedt.InterleaveWays.{InterleaveWays}
use Rattle.acpi_lists.specs.declared.cedt.InterleaveWays.TheVariants.{Ways1, Ways2, Ways4, Ways8, Ways16, Ways3, Ways6, Ways12}
use Rattle.acpi_lists.specs.Cedt.{Window, window_bytes, window_object, has_targets, ways_count, XorMaps, maps_bytes}

most_ways : (w : InterleaveWays) → ways_count w ≤ 16
most_ways Ways1 = omega arith
most_ways Ways2 = omega arith
most_ways Ways4 = omega arith
most_ways Ways8 = omega arith
most_ways Ways16 = omega arith
most_ways Ways3 = omega arith
most_ways Ways6 = omega arith
most_ways Ways12 = omega arith

few_targets : (w : Window) → has_targets w ≡ true → length w.targets ≤ 64
few_targets w holds = let is : length w.targets ≡ 4 * ways_count w.ways = eqb-true _ _ holds in omega (arith, is, most_ways w.ways)

window_piece : (w : Window) → has_targets w ≡ true → IsPiece (ToldAt (Word 2)) (window_bytes w)
window_piece w holds =
    let few = few_targets w holds in
    let size : length (window_bytes w) ≡ 36 + length w.targets = omega arith in
    (omega (arith, size), word_told (36 + length w.targets) (omega (arith, few)) ∙ sym size)

pub object_piece : (w : Window) → (window_object w).end ≡ None → IsPiece (ToldAt (Word 2)) (window_object w).front
object_piece w is_whole =
    let holds = is_provided Targets (has_targets w) (window_bytes w) is_whole in
    rw (provided_front Targets (has_targets w) (whole (window_bytes w)) holds) (window_piece w holds)

pub maps_piece : (x : XorMaps) → length x.maps ≡ 8 * x.count → x.count < 256 → IsPiece (ToldAt (Word 2)) (maps_bytes x)
maps_piece x whole few =
    let size : length (maps_bytes x) ≡ 8 + length x.maps = omega arith in
    (omega (arith, size), word_told (8 + length x.maps) (omega (arith, whole, few)) ∙ sym size)

pub isnt : (a b : ℕ) → (a ≡ b → ⊥) → (a == b) ≡ false
isnt a b other = grind (arith, nat_tests)
