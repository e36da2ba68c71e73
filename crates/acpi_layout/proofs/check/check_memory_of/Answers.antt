use Rattle.std.proofs.Common.{◌≢◌, ℕ, List, refl, subst}
use Rattle.std.specs.List.{All, Contains}
use Rattle.acpi_base.specs.Table.{IsTrueTable}
use Rattle.acpi_layout.specs.Addresses.{Space, memory_of}
use Rattle.acpi_layout.specs.declared.fault.ImageFault.{ImageFault}
use Rattle.acpi_layout.specs.declared.fault.ImageFault.TheVariants.{Memory}
use Rattle.acpi_layout.specs.declared.located.Located.{Located}
use Rattle.acpi_layout.specs.declared.root.Root.{Root}
use Rattle.acpi_layout.specs.Found.{contents, AreApart, HasTablesOf, least_fadt}
use Rattle.acpi_layout.specs.Fault.{no_pointer, no_listing, IsFadtFault, IsOverlap, HasFaultOf, memory_has_no_listing, memory_has_no_entries, memory_has_no_fadt, memory_has_no_facs, memory_has_no_dsdt, memory_has_overlap, memory_has_wrong_listing, memory_has_wrong_entry, memory_has_wrong_dsdt}
use Rattle.acpi_layout.proofs.Founds.{at_exit}
use Rattle.acpi_layout.proofs.Faults.{at_fault, listing_is, fadt_is, all_found, listed_are, those_apart}
use Rattle.acpi_layout.proofs.Followed.{pointer_lies, pointer_has, fadt_lies, listing_there, entries_there, fadt_there, facs_there, dsdt_there, all_apart, entries_correct, dsdt_correct}
use Rattle.acpi_layout.proofs.check.check_memory_of.Goals as goal

-- no list is an image
abbrev IsNone : Root → Space → ℕ → ImageFault → Type 0
IsNone root memory rsdp e = e ≢ Memory → (tables : List Located) → HasTablesOf root memory rsdp tables → ⊥

pub returns-in_err-pointer-clause-err : goal.returns-in_err-pointer-clause-err
returns-in_err-pointer-clause-err c =
    at_exit _ (IsNone c.args.root (memory_of c.args.ranges.now) c.args.rsdp) _ c.from_residual.ensures.1 (λ other tables im. c.in_err-pointer.ensures.err im.found.pointer im.found.pointer_is)

pub returns-in_err-listing-clause-err : goal.returns-in_err-listing-clause-err
returns-in_err-listing-clause-err c =
    at_exit _ (IsNone c.args.root (memory_of c.args.ranges.now) c.args.rsdp) _ c.from_residual-in_err-listing.ensures.1
    (λ other tables im. c.in_err-listing.ensures.err im.found.listing (listing_there _ _ _ _ im _ c.in_ok-pointer.ensures.ok))

pub returns-in_err-entries-clause-err : goal.returns-in_err-entries-clause-err
returns-in_err-entries-clause-err c =
    at_exit _ (IsNone c.args.root (memory_of c.args.ranges.now) c.args.rsdp) _ c.from_residual-in_err-entries.ensures.1
    (λ other tables im. c.in_err-entries.ensures.err other im.found.entries (entries_there _ _ _ _ im _ c.in_ok-pointer.ensures.ok _ c.in_ok-listing.ensures.ok))

pub returns-in_err-fadt-clause-err : goal.returns-in_err-fadt-clause-err
returns-in_err-fadt-clause-err c =
    at_exit _ (IsNone c.args.root (memory_of c.args.ranges.now) c.args.rsdp) _ c.from_residual-in_err-fadt.ensures.1
    (λ other tables im.
    c.in_err-fadt.ensures.err im.found.fadt
    (fadt_there _ _ _ _ im _ c.in_ok-pointer.ensures.ok _ c.in_ok-listing.ensures.ok _ _ c.in_ok-entries.ensures.ok c.deref.ensures.value))

pub control-requires-clause-lies : goal.control-requires-clause-lies
control-requires-clause-lies c = fadt_lies _ _ _ _ _ _ _ c.deref.ensures.value c.in_ok-entries.ensures.ok c.in_ok-fadt.ensures.ok

pub returns-in_err-facs-clause-err : goal.returns-in_err-facs-clause-err
returns-in_err-facs-clause-err c =
    at_exit _ (IsNone c.args.root (memory_of c.args.ranges.now) c.args.rsdp) _ c.from_residual-in_err-facs.ensures.1
    (λ other tables im.
    c.in_err-facs.ensures.err im.found.facs
    (facs_there _ _ _ _ im _ c.in_ok-pointer.ensures.ok _ c.in_ok-listing.ensures.ok _ _ c.in_ok-entries.ensures.ok c.deref.ensures.value _ c.in_ok-fadt.ensures.ok))

pub dsdt-requires-clause-lies : goal.dsdt-requires-clause-lies
dsdt-requires-clause-lies c = fadt_lies _ _ _ _ _ _ _ c.deref.ensures.value c.in_ok-entries.ensures.ok c.in_ok-fadt.ensures.ok

pub returns-in_err-dsdt-clause-err : goal.returns-in_err-dsdt-clause-err
returns-in_err-dsdt-clause-err c =
    at_exit _ (IsNone c.args.root (memory_of c.args.ranges.now) c.args.rsdp) _ c.from_residual-in_err-dsdt.ensures.1
    (λ other tables im.
    c.in_err-dsdt.ensures.err im.found.dsdt
    (dsdt_there _ _ _ _ im _ c.in_ok-pointer.ensures.ok _ c.in_ok-listing.ensures.ok _ _ c.in_ok-entries.ensures.ok c.deref.ensures.value _ c.in_ok-fadt.ensures.ok))

pub returns-in_err-are_apart-clause-err : goal.returns-in_err-are_apart-clause-err
returns-in_err-are_apart-clause-err c =
    at_exit _ (IsNone c.args.root (memory_of c.args.ranges.now) c.args.rsdp) _ c.from_residual-in_err-are_apart.ensures.1
    (λ other tables im.
    c.in_err-are_apart.ensures.err other
    (all_apart _ _ _ _ im _ c.in_ok-pointer.ensures.ok _ c.in_ok-listing.ensures.ok _ _ c.in_ok-entries.ensures.ok c.deref.ensures.value _ c.in_ok-fadt.ensures.ok _ _
    c.in_ok-facs.ensures.ok c.in_ok-dsdt.ensures.ok _ _ _ c.deref-2.ensures.value c.in_ok-tables.ensures.ok c.deref-3.ensures.value))

pub returns-in_err-are_correct-clause-err : goal.returns-in_err-are_correct-clause-err
returns-in_err-are_correct-clause-err c =
    at_exit _ (IsNone c.args.root (memory_of c.args.ranges.now) c.args.rsdp) _ c.from_residual-in_err-are_correct.ensures.1
    (λ other tables im.
    c.in_err-are_correct.ensures.err
    (entries_correct _ _ _ _ im _ c.in_ok-pointer.ensures.ok _ c.in_ok-listing.ensures.ok _ _ c.in_ok-entries.ensures.ok c.deref-4.ensures.value))

pub returns-in_err-is_correct-2-clause-err : goal.returns-in_err-is_correct-2-clause-err
returns-in_err-is_correct-2-clause-err c =
    at_exit _ (IsNone c.args.root (memory_of c.args.ranges.now) c.args.rsdp) _ c.from_residual-in_err-is_correct-2.ensures.1
    (λ other tables im.
    c.in_err-is_correct-2.ensures.err
    (dsdt_correct _ _ _ _ im _ c.in_ok-pointer.ensures.ok _ c.in_ok-listing.ensures.ok _ _ c.in_ok-entries.ensures.ok c.deref.ensures.value _ c.in_ok-fadt.ensures.ok _ _
    c.in_ok-facs.ensures.ok c.in_ok-dsdt.ensures.ok))

abbrev Faulty : Root → Space → ℕ → ImageFault → Type 0
Faulty root memory rsdp e = e ≢ Memory → HasFaultOf root memory rsdp e

pub returns-in_err-pointer-clause-fault : goal.returns-in_err-pointer-clause-fault
returns-in_err-pointer-clause-fault c =
    at_exit _ (Faulty c.args.root (memory_of c.args.ranges.now) c.args.rsdp) _ c.from_residual.ensures.1 (λ other. memory_has_no_listing (no_pointer c.in_err-pointer.ensures.fault))

pub returns-in_err-listing-clause-fault : goal.returns-in_err-listing-clause-fault
returns-in_err-listing-clause-fault c =
    at_exit _ (Faulty c.args.root (memory_of c.args.ranges.now) c.args.rsdp) _ c.from_residual-in_err-listing.ensures.1
    (λ other. memory_has_no_listing (no_listing c.in_ok-pointer.pointer c.in_ok-pointer.ensures.ok c.in_err-listing.ensures.fault))

pub returns-in_err-entries-clause-fault : goal.returns-in_err-entries-clause-fault
returns-in_err-entries-clause-fault c =
    at_exit _ (Faulty c.args.root (memory_of c.args.ranges.now) c.args.rsdp) _ c.from_residual-in_err-entries.ensures.1
    (λ other. memory_has_no_entries c.in_ok-listing.listing (listing_is _ _ _ _ _ c.in_ok-pointer.ensures.ok c.in_ok-listing.ensures.ok) (c.in_err-entries.ensures.fault other))

pub returns-in_err-fadt-clause-fault : goal.returns-in_err-fadt-clause-fault
returns-in_err-fadt-clause-fault c =
    let x = c.in_ok-listing.listing in
    at_exit _ (Faulty c.args.root (memory_of c.args.ranges.now) c.args.rsdp) _ c.from_residual-in_err-fadt.ensures.1
    (λ other.
    memory_has_no_fadt x c.in_ok-entries.entries.items (listing_is _ _ _ _ _ c.in_ok-pointer.ensures.ok c.in_ok-listing.ensures.ok) c.in_ok-entries.ensures.ok
    (subst (λ l. IsFadtFault (least_fadt c.args.root) x.address l c.in_err-fadt.field-0.0) c.deref.ensures.value c.in_err-fadt.ensures.fault))

pub returns-in_err-facs-clause-fault : goal.returns-in_err-facs-clause-fault
returns-in_err-facs-clause-fault c =
    at_exit _ (Faulty c.args.root (memory_of c.args.ranges.now) c.args.rsdp) _ c.from_residual-in_err-facs.ensures.1
    (λ other.
    memory_has_no_facs c.in_ok-fadt.fadt
    (fadt_is _ _ _ _ _ c.in_ok-pointer.ensures.ok c.in_ok-listing.ensures.ok _ _ c.in_ok-entries.ensures.ok c.deref.ensures.value _ c.in_ok-fadt.ensures.ok)
    c.in_err-facs.ensures.says c.in_err-facs.ensures.fault)

pub returns-in_err-dsdt-clause-fault : goal.returns-in_err-dsdt-clause-fault
returns-in_err-dsdt-clause-fault c =
    at_exit _ (Faulty c.args.root (memory_of c.args.ranges.now) c.args.rsdp) _ c.from_residual-in_err-dsdt.ensures.1
    (λ other.
    memory_has_no_dsdt c.in_ok-fadt.fadt
    (fadt_is _ _ _ _ _ c.in_ok-pointer.ensures.ok c.in_ok-listing.ensures.ok _ _ c.in_ok-entries.ensures.ok c.deref.ensures.value _ c.in_ok-fadt.ensures.ok)
    c.in_err-dsdt.ensures.fault)

pub returns-in_err-are_apart-clause-fault : goal.returns-in_err-are_apart-clause-fault
returns-in_err-are_apart-clause-fault c =
    let found = all_found _ _ _ _ _ c.in_ok-pointer.ensures.ok c.in_ok-listing.ensures.ok _ _ c.in_ok-entries.ensures.ok c.deref.ensures.value _ c.in_ok-fadt.ensures.ok
    _ _ c.in_ok-facs.ensures.ok c.in_ok-dsdt.ensures.ok in
    let listed = listed_are _ _ _ _ _ c.in_ok-pointer.ensures.ok c.in_ok-listing.ensures.ok _ _ c.in_ok-entries.ensures.ok c.deref.ensures.value _ c.in_ok-fadt.ensures.ok
    _ _ c.in_ok-facs.ensures.ok c.in_ok-dsdt.ensures.ok _ _ _ c.deref-3.ensures.value c.in_ok-tables.ensures.ok c.deref-2.ensures.value in
    at_exit _ (Faulty c.args.root (memory_of c.args.ranges.now) c.args.rsdp) _ c.from_residual-in_err-are_apart.ensures.1
    (λ other. memory_has_overlap found (subst (λ l. IsOverlap l c.in_err-are_apart.field-0.0) listed (c.in_err-are_apart.ensures.fault other)))

pub returns-in_err-is_correct-clause-fault : goal.returns-in_err-is_correct-clause-fault
returns-in_err-is_correct-clause-fault c =
    let found = all_found _ _ _ _ _ c.in_ok-pointer.ensures.ok c.in_ok-listing.ensures.ok _ _ c.in_ok-entries.ensures.ok c.deref.ensures.value _ c.in_ok-fadt.ensures.ok
    _ _ c.in_ok-facs.ensures.ok c.in_ok-dsdt.ensures.ok in
    let apart = those_apart _ _ _ _ _ c.in_ok-pointer.ensures.ok c.in_ok-listing.ensures.ok _ _ c.in_ok-entries.ensures.ok c.deref.ensures.value _ c.in_ok-fadt.ensures.ok
    _ _ c.in_ok-facs.ensures.ok c.in_ok-dsdt.ensures.ok _ _ _ c.deref-3.ensures.value c.in_ok-tables.ensures.ok c.deref-2.ensures.value
    c.in_ok-are_apart.ensures.ok in
    at_fault _ (Faulty c.args.root (memory_of c.args.ranges.now) c.args.rsdp) _ _ c.from_residual-in_err-is_correct.ensures.1 c.in_err-is_correct.ensures.fault
    (λ other. memory_has_wrong_listing found apart c.in_err-is_correct.ensures.err)

pub returns-in_err-are_correct-clause-fault : goal.returns-in_err-are_correct-clause-fault
returns-in_err-are_correct-clause-fault c =
    let found = all_found _ _ _ _ _ c.in_ok-pointer.ensures.ok c.in_ok-listing.ensures.ok _ _ c.in_ok-entries.ensures.ok c.deref.ensures.value _ c.in_ok-fadt.ensures.ok
    _ _ c.in_ok-facs.ensures.ok c.in_ok-dsdt.ensures.ok in
    let apart = those_apart _ _ _ _ _ c.in_ok-pointer.ensures.ok c.in_ok-listing.ensures.ok _ _ c.in_ok-entries.ensures.ok c.deref.ensures.value _ c.in_ok-fadt.ensures.ok
    _ _ c.in_ok-facs.ensures.ok c.in_ok-dsdt.ensures.ok _ _ _ c.deref-3.ensures.value c.in_ok-tables.ensures.ok c.deref-2.ensures.value
    c.in_ok-are_apart.ensures.ok in
    let fault = c.in_err-are_correct.ensures.fault in
    at_fault _ (Faulty c.args.root (memory_of c.args.ranges.now) c.args.rsdp) _ _ c.from_residual-in_err-are_correct.ensures.1 fault.3
    (λ other. memory_has_wrong_entry found fault.0 apart (subst (λ l. Contains l fault.0) c.deref-4.ensures.value fault.1) fault.2)

pub returns-in_err-is_correct-2-clause-fault : goal.returns-in_err-is_correct-2-clause-fault
returns-in_err-is_correct-2-clause-fault c =
    let found = all_found _ _ _ _ _ c.in_ok-pointer.ensures.ok c.in_ok-listing.ensures.ok _ _ c.in_ok-entries.ensures.ok c.deref.ensures.value _ c.in_ok-fadt.ensures.ok
    _ _ c.in_ok-facs.ensures.ok c.in_ok-dsdt.ensures.ok in
    let apart = those_apart _ _ _ _ _ c.in_ok-pointer.ensures.ok c.in_ok-listing.ensures.ok _ _ c.in_ok-entries.ensures.ok c.deref.ensures.value _ c.in_ok-fadt.ensures.ok
    _ _ c.in_ok-facs.ensures.ok c.in_ok-dsdt.ensures.ok _ _ _ c.deref-3.ensures.value c.in_ok-tables.ensures.ok c.deref-2.ensures.value
    c.in_ok-are_apart.ensures.ok in
    at_fault _ (Faulty c.args.root (memory_of c.args.ranges.now) c.args.rsdp) _ _ c.from_residual-in_err-is_correct-2.ensures.1 c.in_err-is_correct-2.ensures.fault
    (λ other. memory_has_wrong_dsdt found apart c.in_err-is_correct-2.ensures.err)

pub returns-clause-ok : goal.returns-clause-ok
returns-clause-ok c =
    let found = all_found _ _ _ _ _ c.in_ok-pointer.ensures.ok c.in_ok-listing.ensures.ok _ _ c.in_ok-entries.ensures.ok c.deref.ensures.value _ c.in_ok-fadt.ensures.ok
    _ _ c.in_ok-facs.ensures.ok c.in_ok-dsdt.ensures.ok in
    let listed = listed_are _ _ _ _ _ c.in_ok-pointer.ensures.ok c.in_ok-listing.ensures.ok _ _ c.in_ok-entries.ensures.ok c.deref.ensures.value _ c.in_ok-fadt.ensures.ok
    _ _ c.in_ok-facs.ensures.ok c.in_ok-dsdt.ensures.ok in
    record {
      found = found;
      listed = listed _ _ _ refl c.in_ok-tables.ensures.ok c.deref-2.ensures.value;
      apart = subst AreApart c.deref-3.ensures.value c.in_ok-are_apart.ensures.ok;
      listing_is_correct = c.in_ok-is_correct.ensures.ok;
      entries_are_correct = subst (λ (l : List Located). All (λ table. IsTrueTable (contents (memory_of c.args.ranges.now) table)) l) c.deref-4.ensures.value c.in_ok-are_correct.ensures.ok;
      dsdt_is_correct = c.in_ok-is_correct-2.ensures.ok;
    }

pub listing-requires-clause-lies : goal.listing-requires-clause-lies
listing-requires-clause-lies c = pointer_lies c.args.root (memory_of c.args.ranges.now) c.args.rsdp c.in_ok-pointer.pointer c.in_ok-pointer.ensures.ok

pub listing-requires-clause-within : goal.listing-requires-clause-within
listing-requires-clause-within c = pointer_has c.args.root (memory_of c.args.ranges.now) c.args.rsdp c.in_ok-pointer.pointer c.in_ok-pointer.ensures.ok
