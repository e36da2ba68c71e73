-- Packages with room, and methods with a level.
use Rattle.std.proofs.Common.{◌≡◌, ℕ, ◌+◌, ◌*◌, ◌≤◌, true, false, eqb, [], ◌∷◌, ◌++◌, length, refl, ap, arith}
use Rattle.std.specs.Prelude.{nat_le}
use Rattle.std.proofs.lemmas.Bool.{ne_eqb}
use Rattle.std.proofs.lemmas.Bool.Decides.{nat_tests}
use Rattle.acpi_base.specs.Object.{all_of, ended}
use Rattle.acpi_term.specs.declared.language.Language.TheVariants.{Standard}
use Rattle.acpi_term.specs.Language.{grammar_of}
use Rattle.acpi_term.specs.Tree.{def_roomy_package, def_method, def_leveled_method}
use Rattle.acpi_term.specs.Row.{own, around, framed, method_flags}
use Rattle.acpi_term.proofs.Rows.{rows_mean_in}
use Rattle.acpi_ops.specs.Laws.{RoomyPackagesMean, LeveledMethodsMean}

same_number : (n room : ℕ) → n ≡ room → eqb n room ≡ true
same_number n room is = grind (arith, nat_tests)

pub roomy_packages_mean : RoomyPackagesMean
roomy_packages_mean room objects small = record {
  is = λ other. let h : eqb (length objects) room ≡ false = ne_eqb (length objects) room other in rw h refl;
  full = λ same. let h = same_number (length objects) room same in rw h refl;
  means = record {
    spells = λ arity m ts place spell h. rows_mean_in (grammar_of Standard arity) m (def_roomy_package room) objects ts place tt (refl, small) tt tt spell h;
  };
}

fits : (level : ℕ) → level ≤ 15 → nat_le level 15 ≡ true
fits level few = grind (arith, nat_tests)

pub leveled_methods_mean : LeveledMethodsMean
leveled_methods_mean path args serialized objects = record {
  is = λ level few. let h = fits level few in rw h refl;
  none =
      let flags : method_flags args serialized + 16 * 0 ≡ method_flags args serialized = omega arith in
      ap (λ (n : ℕ). ended (own (def_method path args serialized) (length objects)) (around (framed (0x14 ∷ []) (path ++ n ∷ []) []) (all_of objects))) flags;
  means = λ level p some few. record {
    spells = λ arity m ts place spell h. rows_mean_in (grammar_of Standard arity) m (def_leveled_method path args serialized level) objects ts place tt (refl, p, some, few) tt tt spell h;
  };
}
