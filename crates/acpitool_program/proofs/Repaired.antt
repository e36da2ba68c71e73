-- What is printed and written of bytes that are repaired.
use Rattle.std.proofs.Common.{◌≡◌, ℕ, List, Option, None, Result, Ok, Err, subst, inl}
use Rattle.std.specs.Prelude.{IfOk}
use Rattle.std.specs.Io.KnownBytes.{Appends}
use Rattle.acpi_forms.specs.Kind.{kind_of}
use Rattle.acpitool_program.specs.Making.{IsWritten}
use Rattle.acpitool_program.specs.Repair.{seals_as, unfit_of, repaired}
use Rattle.acpitool_program.specs.Repairing.{changes, RepairsBytes}
use Rattle.acpitool_program.specs.Text.{IsKind}
use Rattle.acpitool_program.specs.declared.repair.Seal.{Seal}

-- the new bytes were written, after what changed in these fields
pub repairs : {E : Type 0} (r : Result ℕ E) (name bytes new file : List ℕ) (seals : List Seal) (o o' e b e' : Option (List ℕ))
    → (new ≡ repaired bytes) × IsKind (kind_of bytes) new × (unfit_of bytes ≡ None) → seals ≡ seals_as (kind_of bytes) bytes
    → Appends e b (changes name bytes new seals) → IfOk r (λ status. IsWritten new file o o' b e' status)
    → IfOk r (λ status. RepairsBytes name bytes file o o' e e' status)
repairs (Ok s) name bytes new file seals o o' e b e' made are told wrote = inl (record {
  fit = made.2;
  is = subst (λ (l : List ℕ). IsKind (kind_of bytes) l) made.0 made.1;
  between = b;
  told =
      subst (λ (l : List ℕ). Appends e b (changes name bytes l (seals_as (kind_of bytes) bytes))) made.0
      (subst (λ (l : List Seal). Appends e b (changes name bytes new l)) are told);
  wrote = subst (λ (l : List ℕ). IsWritten l file o o' b e' s) made.0 wrote;
})
repairs (Err x) name bytes new file seals o o' e b e' made are told wrote = tt
