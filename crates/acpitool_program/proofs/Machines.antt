-- The text of the tables of a machine.
use Rattle.std.proofs.Common.{◌≡◌, ℕ, Bool, List, map, sym, ap, ◌∙◌}
use Rattle.std.proofs.lemmas.Simd.{map-map}
use Rattle.std.specs.List.{flat_map}
use Rattle.acpitool_program.specs.Machine.{kept_by, printed_across, machine_text}
use Rattle.acpitool_program.specs.declared.machine.Kept.{Kept}

-- the text of tables that are compared with the bytes of all of them
pub text_of_all : (json : Bool) (kept : List Kept) (all : List (List ℕ)) (text : List ℕ) → all ≡ map (λ table. table.bytes.items) kept
    → text ≡ flat_map (printed_across json all) (map kept_by kept) → text ≡ machine_text json (map kept_by kept)
text_of_all json kept all text are is =
    let second : List ℕ × List ℕ → List ℕ = λ table. table.1 in
    is ∙ ap (λ l. flat_map (printed_across json l) (map kept_by kept)) (are ∙ sym (map-map second kept_by kept))
