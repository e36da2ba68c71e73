-- Where the cells of a system locality stand in its bytes.
use Rattle.std.proofs.Common.{◌≡◌, ℕ, ◌+◌, ◌*◌, List, length, take, drop, ap, ◌∙◌, arith}
use Rattle.std.proofs.Math.Seq.{drop-append-add}
use Rattle.acpi_base.specs.Bytes.{carried, field_at}
use Rattle.acpi_matrices.specs.Locality.{Locality, CellsStand, locality_head, locality_bytes}

-- a field of the lists, which come after the 32 bytes of the head
in_lists : (l : Locality) (at place width : ℕ) → at ≡ 32 + place → field_at at width (locality_bytes l) ≡ field_at place width l.lists
in_lists l at place width is =
    let head = locality_head l in
    let size : length head ≡ 32 = omega arith in
    let past : at ≡ length head + place = omega (arith, is, size) in
    ap (λ n. field_at n width (locality_bytes l)) past
    ∙ ap (λ b. carried (take width b)) (drop-append-add head l.lists place)

pub stand : (l : Locality) → CellsStand l
stand l = record {
  initiators = λ i. in_lists l (32 + 4 * i) (4 * i) 4 (omega arith);
  targets = λ t. in_lists l (32 + 4 * l.initiators + 4 * t) (4 * l.initiators + 4 * t) 4 (omega arith);
  entries = λ i t. in_lists l (32 + 4 * l.initiators + 4 * l.targets + 2 * (i * l.targets + t)) (4 * l.initiators + 4 * l.targets + 2 * (i * l.targets + t)) 2 (omega arith);
}
