-- Cells of a system locality.
use Rattle.std.proofs.Common.{◌≡◌, ℕ, ◌+◌, ◌*◌, ◌<◌, ◌≤◌, ◌++◌, length, replicate, true, ◌&&◌, nat_lt, ap, ◌∙◌, arith, inl, inr, ⊎_elim, length-append}
use Rattle.std.specs.Prelude.{◌⊎◌}
use Rattle.std.proofs.lemmas.Bool.{ltb-true, and_parts, cases_order}
use Rattle.std.proofs.lemmas.List.{length-replicate}
use Rattle.std.proofs.lemmas.Nat.{mul-add-lt}
use Rattle.std.proofs.Math.Nat.{mul_comm}
use Rattle.acpi_base.specs.Bytes.{le, field_at, zeros}
use Rattle.acpi_base.proofs.Bytes.{length_le, carried_le}
use Rattle.acpi_base.proofs.Puts.{length-put}
use Rattle.acpi_matrices.specs.Locality.{Locality, IsLocality, Cell, initiator_at, target_at, entry_at, has_cell, place_of, width_of, with_value, lists_size, CellsAreSet, NewCellsAreUnreachable}
use Rattle.acpi_matrices.proofs.Fields.{field_put, field_before, field_after, field_append, field_behind, field_filled, same_place}

below : (i t initiators targets : ℕ) → (nat_lt i initiators && nat_lt t targets) ≡ true → (i < initiators) × (t < targets)
below i t initiators targets has =
    let both = and_parts (nat_lt i initiators) (nat_lt t targets) has in (ltb-true i initiators both.0, ltb-true t targets both.1)

-- an entry's place among the entries
entry_within : (i t initiators targets : ℕ) → i < initiators → t < targets → i * targets + t < initiators * targets
entry_within i t initiators targets row column = omega (arith, mul-add-lt i targets t initiators row column, mul_comm targets initiators)

pub within : (l : Locality) (cell : Cell) → has_cell l cell ≡ true → place_of l.initiators l.targets cell + width_of cell ≤ lists_size l.initiators l.targets
within l (initiator_at i) has = let lt : i < l.initiators = ltb-true _ _ has in omega (arith, lt)
within l (target_at t) has = let lt : t < l.targets = ltb-true _ _ has in omega (arith, lt)
within l (entry_at i t) has =
    let is = below i t l.initiators l.targets has in
    omega (arith, entry_within i t l.initiators l.targets is.0 is.1)

-- two numbers apart, in this many bytes each
stepped : (w a b : ℕ) → (a ≡ b → ⊥) → (a + 1 ≤ b → w * a + w ≤ w * b) → (b + 1 ≤ a → w * b + w ≤ w * a) → (w * a + w ≤ w * b) ⊎ (w * b + w ≤ w * a)
stepped w a b differ up down = ⊎_elim (λ e. absurd (differ e)) (λ k. ⊎_elim (λ lt. inl (up (omega arith))) (λ lt. inr (down (omega arith))) k) (cases_order a b)

-- cells that differ don't overlap
pub apart : (l : Locality) (cell other : Cell) → has_cell l cell ≡ true → has_cell l other ≡ true → (other ≡ cell → ⊥)
    → (place_of l.initiators l.targets other + width_of other ≤ place_of l.initiators l.targets cell) ⊎ (place_of l.initiators l.targets cell + width_of cell ≤ place_of l.initiators l.targets other)
apart l (initiator_at i) (initiator_at j) has has' differ =
    stepped 4 j i (λ e. differ (ap initiator_at e)) (λ h. omega arith) (λ h. omega arith)
apart l (initiator_at i) (target_at u) has has' differ = let lt : i < l.initiators = ltb-true _ _ has in inr (omega (arith, lt))
apart l (initiator_at i) (entry_at j u) has has' differ = let lt : i < l.initiators = ltb-true _ _ has in inr (omega (arith, lt))
apart l (target_at t) (initiator_at j) has has' differ = let lt : j < l.initiators = ltb-true _ _ has' in inl (omega (arith, lt))
apart l (target_at t) (target_at u) has has' differ =
    ⊎_elim (λ h. inl (omega (arith, h))) (λ h. inr (omega (arith, h))) (stepped 4 u t (λ e. differ (ap target_at e)) (λ h. omega arith) (λ h. omega arith))
apart l (target_at t) (entry_at j u) has has' differ = let lt : t < l.targets = ltb-true _ _ has in inr (omega (arith, lt))
apart l (entry_at i t) (initiator_at j) has has' differ = let lt : j < l.initiators = ltb-true _ _ has' in inl (omega (arith, lt))
apart l (entry_at i t) (target_at u) has has' differ = let lt : u < l.targets = ltb-true _ _ has' in inl (omega (arith, lt))
apart l (entry_at i t) (entry_at j u) has has' differ =
    let one = below i t l.initiators l.targets has in
    let two = below j u l.initiators l.targets has' in
    let same : j * l.targets + u ≡ i * l.targets + t → ⊥ =
    λ e. let is = same_place l.targets j u i t two.1 one.1 e in differ (λ k. entry_at (is.0 k) (is.1 k)) in
    ⊎_elim (λ h. inl (omega (arith, h))) (λ h. inr (omega (arith, h))) (stepped 2 (j * l.targets + u) (i * l.targets + t) same (λ h. omega arith) (λ h. omega arith))

length-value : (cell : Cell) (value : ℕ) → length (le (width_of cell) value) ≡ width_of cell
length-value cell value = length_le (width_of cell) value

pub stays : (l : Locality) (cell : Cell) (value : ℕ) → IsLocality l → has_cell l cell ≡ true → IsLocality (with_value l cell value)
stays l cell value is has = record {
  lists = length-put (place_of l.initiators l.targets cell) (le (width_of cell) value) l.lists (omega (arith, length-value cell value, within l cell has, is.lists)) ∙ is.lists;
  fits = is.fits;
}

pub are_set : CellsAreSet
are_set l cell other value is has has' small =
    let p = place_of l.initiators l.targets cell in
    let b = le (width_of cell) value in
    let size = length-value cell value in
    let inside : p + width_of cell ≤ length l.lists = omega (arith, within l cell has, is.lists) in
    let o = place_of l.initiators l.targets other in (
      stays l cell value is has,
      field_put p (width_of cell) b l.lists size inside ∙ carried_le (width_of cell) value small,
      λ differ. ⊎_elim
          (λ low. field_before o (width_of other) p b l.lists low (omega (arith, inside)))
          (λ high. field_after o (width_of other) p b l.lists (omega (arith, high, size)) (omega (arith, inside, size)))
          (apart l cell other has has' differ),
    )

-- ---- a new matrix

pub length-new : (domains entries : ℕ) → length (zeros domains ++ replicate entries 255) ≡ domains + entries
length-new domains entries = omega (arith, length-append (zeros domains) (replicate entries 255), length-replicate {A = ℕ} domains 0, length-replicate {A = ℕ} entries 255)

in_domains : (o domains entries : ℕ) → o + 4 ≤ domains → field_at o 4 (zeros domains ++ replicate entries 255) ≡ 0
in_domains o domains entries low =
    field_append o 4 (zeros domains) (replicate entries 255) (omega (arith, length-replicate {A = ℕ} domains 0)) ∙ field_filled o 4 domains 0 low

in_entries : (k domains entries : ℕ) → k + 2 ≤ entries → field_at (domains + k) 2 (zeros domains ++ replicate entries 255) ≡ 0xffff
in_entries k domains entries low =
    field_behind domains k 2 (zeros domains) (replicate entries 255) (length-replicate {A = ℕ} domains 0) ∙ field_filled k 2 entries 255 low

pub are_unreachable : NewCellsAreUnreachable
are_unreachable hierarchy data_type transfer unit initiators targets (initiator_at i) has =
    let lt : i < initiators = ltb-true _ _ has in in_domains (4 * i) (4 * initiators + 4 * targets) (2 * (initiators * targets)) (omega (arith, lt))
are_unreachable hierarchy data_type transfer unit initiators targets (target_at t) has =
    let lt : t < targets = ltb-true _ _ has in in_domains (4 * initiators + 4 * t) (4 * initiators + 4 * targets) (2 * (initiators * targets)) (omega (arith, lt))
are_unreachable hierarchy data_type transfer unit initiators targets (entry_at i t) has =
    let is = below i t initiators targets has in
    in_entries (2 * (i * targets + t)) (4 * initiators + 4 * targets) (2 * (initiators * targets)) (omega (arith, entry_within i t initiators targets is.0 is.1))
