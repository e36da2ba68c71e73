-- Whether a made table is to be written.
use Rattle.std.proofs.Common.{◌≡◌, ℕ, Bool, List, Option, None, subst, refl}
use Rattle.std.specs.Option.{option_map}
use Rattle.acpi_make.specs.declared.extent.Own.{Own}
use Rattle.acpitool_program.proofs.Streams.{keeps_self}
use Rattle.acpitool_program.specs.Making.{IsJudged, MadeOrNot, NoTable}

-- what was judged of the same numbers and the same bytes
pub judged_by : (force : Bool) (name : List ℕ) (some owns : List Own) (few bytes : List ℕ) (err err' : Option (List ℕ)) (was is : Bool)
    → some ≡ owns → few ≡ bytes → was ≡ is → IsJudged force name some few err err' was → IsJudged force name owns bytes err err' is
judged_by force name some owns few bytes err err' was is numbers same written judged =
    subst (λ b. IsJudged force name owns bytes err err' b) written
    (subst (λ l. IsJudged force name owns l err err' was) same
    (subst (λ l. IsJudged force name l few err err' was) numbers judged))

-- no table is written if there is none
pub no_table : {Y : Type 0} (g : Y → List ℕ) (found : Option Y) (force : Bool) (name text : List ℕ) (out err err' : Option (List ℕ))
    → found ≡ None → MadeOrNot force name text (option_map g found) err err' → NoTable force name text out out err err' 1
no_table {Y} g found force name text out err err' none not = record {
  not = subst (λ (t : Option Y). MadeOrNot force name text (option_map g t) err err') none not;
  silent = keeps_self out;
  is = refl;
}
