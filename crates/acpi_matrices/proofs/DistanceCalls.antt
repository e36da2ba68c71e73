-- Any list of calls that set distances.
use Rattle.std.proofs.Common.{◌≡◌, ℕ, List, [], ◌∷◌, refl, sym, ap, ◌∙◌}
use Rattle.std.specs.Prelude.{Result, Ok, Err}
use Rattle.acpi_matrices.specs.Slit.{Counted, Distances, DistanceCall, sets, AreDistanceCalls, slit_after, all_set, IsSlitAfterItsCalls}

is : (start : Counted) (calls : List DistanceCall) → AreDistanceCalls start calls → (slit_after start calls).table ≡ all_set start.table calls
is start [] c = refl
is start (sets a b value (Ok u) next ∷ calls) c = is next calls c.1 ∙ ap (λ t. all_set t calls) c.0.ok
is start (sets a b value (Err e) next ∷ calls) c = is next calls c.1 ∙ ap (λ t. all_set t.table calls) c.0.err

pub is_after_its_calls : (last : Counted) → IsSlitAfterItsCalls last
is_after_its_calls last = record {
  holds = λ oem localities start calls begins c ends.
      ap (λ (t : Counted). t.table) (sym ends) ∙ is start calls c ∙ ap (λ (t : Distances). all_set t calls) begins;
}
