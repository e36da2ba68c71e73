use Rattle.std.proofs.Common.{◌≡◌, ℕ, List, [], ◌∷◌, Ok, Err, ap, ◌∙◌}
use Rattle.std.specs.Prelude.{Result, IfOk}
use Rattle.acpi_base.specs.Object.{Object, whole, Builds}
use Rattle.acpi_base.specs.Sdt.{added, AddedObject}
use Rattle.acpi_base.specs.declared.error.Error.{Error}
use Rattle.acpi_term.specs.Length.{length_bytes}
use Rattle.acpi_term.specs.Row.{row}
use Rattle.acpi_term.specs.Tree.{def_package}

-- a table to which an object was added, that is its bytes
pub written : (object : Object) (old new bytes table contents : List ℕ) → AddedObject object old new → object ≡ whole bytes → bytes ≡ contents → old ≡ table
    → new ≡ added table contents
written object old new bytes table contents wrote is_whole is_bytes is_old =
    wrote.is ∙ ap (λ (o : Object). added old o.front) is_whole ∙ ap (added old) is_bytes ∙ ap (λ t. added t contents) is_old

pub package_bytes : (r : Result (List ℕ) Error) → Builds r (row def_package (whole (0 ∷ []) ∷ whole (1 ∷ []) ∷ [])) → IfOk r (λ bytes. bytes ≡ 0x12 ∷ 4 ∷ 2 ∷ 0 ∷ 1 ∷ [])
unfolding length_bytes
package_bytes (Ok bytes) built = built.is
package_bytes (Err e) built = tt
