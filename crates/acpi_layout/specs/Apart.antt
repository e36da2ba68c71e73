-- How tables are compared for overlaps.
use Rattle.std.specs.Prelude.{ℕ, ◌+◌, ◌*◌, nat_lt, if◌then◌else◌, List, [], ◌∷◌}
use Rattle.std.specs.List.Sorted.{IsPermutation, IsNonDecreasingBy}
use Rattle.acpi_layout.specs.declared.fault.ImageFault.{ImageFault}
use Rattle.acpi_layout.specs.declared.fault.ImageFault.TheVariants as faults
use Rattle.acpi_layout.specs.declared.located.Located.{Located}

-- twice the address of the middle of a table
abbrev pub middle : Located → ℕ
middle table = 2 * table.address + table.length

-- tables with their places in a list, of which the first has place n
abbrev pub placed : ℕ → List Located → List (Located × ℕ)
placed n [] = []
placed n (table ∷ tables) = (table, n) ∷ placed (n + 1) tables

-- these are the tables with their places, in the order of their middles
pub record ByMiddle (tables : List Located) (all : List (Located × ℕ)) : Type 0 where
  pub same : IsPermutation (placed 0 tables) all
  pub sorted : IsNonDecreasingBy (λ (p : Located × ℕ). middle p.0) all

-- the fault of two tables that overlap: the one that stands first in the list is named first
abbrev pub overlap_of : Located × ℕ → Located × ℕ → ImageFault
overlap_of p q = if nat_lt p.1 q.1 then faults.Overlap p.0.address q.0.address else faults.Overlap q.0.address p.0.address
