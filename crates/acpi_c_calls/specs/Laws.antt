-- What the results of calls mean.
use Rattle.std.specs.Prelude.{◌≡◌, ℕ, ◌≤◌, List, length, take, Some}
use Rattle.acpi_base.specs.Table.{IsTrueTable}
use Rattle.acpi_c_calls.specs.Aml.{AreTerms, IsAmlRefusal}
use Rattle.acpi_c_calls.specs.Names.{IsName, IsNoName}
use Rattle.acpi_c_calls.specs.Notes.{AreNotes}
use Rattle.acpi_c_calls.specs.Results.{Checks, Gives}
use Rattle.acpi_c_calls.specs.Fault.{number_of, fault_of}
use Rattle.acpi_c_calls.specs.Image.{IsImageOfTables, IsImageRefusal}
use Rattle.acpi_c_calls.specs.Make.{IsTableOf, IsMakeRefusal, IsTemplate, IsTemplateRefusal}
use Rattle.acpi_c_calls.specs.Show.{IsText, IsTextRefusal}
use Rattle.acpi_c_calls.specs.Findings.{AreFindings}
use Rattle.acpi_c_calls.specs.Structures.{AreStructures, IsStructuresRefusal}
use Rattle.acpi_c_calls.specs.Table.{IsTableRefusal}
use Rattle.acpi_c_calls.specs.declared.fault.Fault.{Fault}
use Rattle.acpi_c_calls.specs.declared.refused.Refused.{Refused}

-- A number is that of one fault, and 0 of none.
abbrev pub NumbersDiffer : Type 0
NumbersDiffer = (f : Fault) → (1 ≤ number_of f) × (fault_of (number_of f) ≡ Some f)

-- ---- each call

-- a check that returns 0 has found that the fact holds
abbrev pub FineIsTrue : Type 0 → (Refused → Type 0) → Type 0
FineIsTrue fact why = (place : ℕ) → Checks fact why 0 place → fact

-- what is given is at the front of the buffer, with its size
pub record IsFront {A : Type 0} (is : List A → Type 0) (new : List A) (size : ℕ) : Type 0 where
  pub fits : size ≤ length new
  pub found : is (take size new)

-- a call that returns 0 has given what it found
abbrev pub FineIsGiven : {A : Type 0} → (List A → Type 0) → (Refused → Type 0) → Type 0
FineIsGiven {A} is why = (old new : List A) (place size : ℕ) → Gives is why old new 0 place size → IsFront is new size

-- a call that returns the number of a fault has left the buffer unchanged
abbrev pub FaultLeaves : {A : Type 0} → (List A → Type 0) → (Refused → Type 0) → Type 0
FaultLeaves {A} is why =
    (old new : List A) (f : Fault) (place size : ℕ) → Gives is why old new (number_of f) place size → new ≡ old

-- ---- all calls

-- A check that returns 0 has found what it was asked for.
pub record ChecksAreFine : Type 0 where
  pub tables : (bytes : List ℕ) → FineIsTrue (IsTrueTable bytes) (IsTableRefusal bytes)
  pub terms : (text bytes : List ℕ) → FineIsTrue (AreTerms text bytes) (IsAmlRefusal text bytes)
  pub images : (bytes : List ℕ) (base rsdp : ℕ)
      → FineIsTrue (IsImageOfTables bytes base rsdp) (IsImageRefusal bytes base rsdp)

-- A call that returns 0 has given what it found: the front of the buffer, as much as the size says.
pub record FineIsAllGiven : Type 0 where
  pub structures : (bytes : List ℕ) → FineIsGiven (AreStructures bytes) (IsStructuresRefusal bytes)
  pub texts : (bytes : List ℕ) → FineIsGiven (IsText bytes) (IsTextRefusal bytes)
  pub findings : (bytes : List ℕ) → FineIsGiven (AreFindings bytes) (IsTextRefusal bytes)
  pub tables : (text : List ℕ) → FineIsGiven (IsTableOf text) (IsMakeRefusal text)
  pub notes : (text : List ℕ) → FineIsGiven (AreNotes text) (IsMakeRefusal text)
  pub templates : (signature : List ℕ) → FineIsGiven (IsTemplate signature) (IsTemplateRefusal signature)
  pub names : (number : ℕ) → FineIsGiven (IsName number) (IsNoName number)

-- A call that returns the number of a fault has written nothing into the buffer.
pub record FaultsWriteNothing : Type 0 where
  pub structures : (bytes : List ℕ) → FaultLeaves (AreStructures bytes) (IsStructuresRefusal bytes)
  pub texts : (bytes : List ℕ) → FaultLeaves (IsText bytes) (IsTextRefusal bytes)
  pub findings : (bytes : List ℕ) → FaultLeaves (AreFindings bytes) (IsTextRefusal bytes)
  pub tables : (text : List ℕ) → FaultLeaves (IsTableOf text) (IsMakeRefusal text)
  pub notes : (text : List ℕ) → FaultLeaves (AreNotes text) (IsMakeRefusal text)
  pub templates : (signature : List ℕ) → FaultLeaves (IsTemplate signature) (IsTemplateRefusal signature)
  pub names : (number : ℕ) → FaultLeaves (IsName number) (IsNoName number)
