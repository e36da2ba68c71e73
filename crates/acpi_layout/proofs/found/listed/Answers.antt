use Rattle.std.proofs.Common.{◌≡◌, ◌≢◌, ℕ, List, subst, sym}
use Rattle.acpi_layout.specs.Addresses.{Space, memory_of}
use Rattle.acpi_layout.specs.declared.fault.ImageFault.{ImageFault}
use Rattle.acpi_layout.specs.declared.root.Root.TheVariants.{Xsdt}
use Rattle.acpi_layout.specs.declared.fault.ImageFault.TheVariants.{Memory, Entries}
use Rattle.acpi_layout.specs.Found.{IsRoot, Lists}
use Rattle.acpi_layout.specs.Fault.{HasPartOfEntry, IsNoList, no_pointer, no_listing, list_has_no_xsdt, list_has_part_of_entry}
use Rattle.acpi_layout.proofs.Founds.{at_exit}
use Rattle.acpi_layout.proofs.Faults.{err_then}
use Rattle.acpi_layout.proofs.Followed.{pointer_lies, pointer_has}
use Rattle.acpi_layout.proofs.Listed.{xsdt_listed}
use Rattle.acpi_layout.proofs.found.listed.Goals as goal

-- no addresses are listed
abbrev IsNone : Space → ℕ → ImageFault → Type 0
IsNone memory rsdp e = e ≢ Memory → (addresses : List ℕ) → Lists memory rsdp addresses → ⊥

pub returns-in_err-pointer-clause-err : goal.returns-in_err-pointer-clause-err
returns-in_err-pointer-clause-err c =
    at_exit _ (IsNone (memory_of c.args.ranges.now) c.args.rsdp) _ c.from_residual.ensures.1
    (λ other addresses listed. c.in_err-pointer.ensures.err listed.xsdt_is.pointer listed.xsdt_is.pointer_is)

pub returns-in_err-xsdt-clause-err : goal.returns-in_err-xsdt-clause-err
returns-in_err-xsdt-clause-err c =
    at_exit _ (IsNone (memory_of c.args.ranges.now) c.args.rsdp) _ c.from_residual-in_err-xsdt.ensures.1
    (λ other addresses listed. c.in_err-xsdt.ensures.err listed.xsdt (xsdt_listed _ _ _ listed _ c.in_ok-pointer.ensures.ok))

abbrev Faulty : Space → ℕ → ImageFault → Type 0
Faulty memory rsdp e = e ≢ Memory → IsNoList memory rsdp e

pub returns-in_err-pointer-clause-fault : goal.returns-in_err-pointer-clause-fault
returns-in_err-pointer-clause-fault c =
    at_exit _ (Faulty (memory_of c.args.ranges.now) c.args.rsdp) _ c.from_residual.ensures.1 (λ other. list_has_no_xsdt (no_pointer c.in_err-pointer.ensures.fault))

pub returns-in_err-xsdt-clause-fault : goal.returns-in_err-xsdt-clause-fault
returns-in_err-xsdt-clause-fault c =
    at_exit _ (Faulty (memory_of c.args.ranges.now) c.args.rsdp) _ c.from_residual-in_err-xsdt.ensures.1
    (λ other. list_has_no_xsdt (no_listing c.in_ok-pointer.pointer c.in_ok-pointer.ensures.ok c.in_err-xsdt.ensures.fault))

pub returns-clause-fault : goal.returns-clause-fault
returns-clause-fault c =
    let P : ImageFault → Type 0 = λ e. e ≢ Memory → HasPartOfEntry Xsdt c.in_ok-xsdt.xsdt × (e ≡ Entries c.in_ok-xsdt.xsdt.address) in
    let Q = Faulty (memory_of c.args.ranges.now) c.args.rsdp in
    let there : IsRoot Xsdt (memory_of c.args.ranges.now) c.args.rsdp c.in_ok-xsdt.xsdt =
    record { pointer = c.in_ok-pointer.pointer; pointer_is = c.in_ok-pointer.ensures.ok; is = c.in_ok-xsdt.ensures.ok } in
    err_then P Q c.addresses.result
    (λ e is other. subst (IsNoList (memory_of c.args.ranges.now) c.args.rsdp) (sym (is other).1) (list_has_part_of_entry c.in_ok-xsdt.xsdt there (is other).0)) c.addresses.ensures.fault

pub listing-requires-clause-lies : goal.listing-requires-clause-lies
listing-requires-clause-lies c = pointer_lies Xsdt (memory_of c.args.ranges.now) c.args.rsdp c.in_ok-pointer.pointer c.in_ok-pointer.ensures.ok

pub listing-requires-clause-within : goal.listing-requires-clause-within
listing-requires-clause-within c = pointer_has Xsdt (memory_of c.args.ranges.now) c.args.rsdp c.in_ok-pointer.pointer c.in_ok-pointer.ensures.ok
