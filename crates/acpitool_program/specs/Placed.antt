-- Images among the words of a command.
use Rattle.std.specs.Prelude.{◌≡◌, ℕ, ◌==◌, List}
use Rattle.std.specs.List.{before_first, after_first}
use Rattle.acpitool_program.specs.Command.{IsAddress}

-- the word is FILE@BASE, cut at its first `@`, and the base is an address in hexadecimal
pub record IsPlaced (word file : List ℕ) (base : ℕ) : Type 0 where
  pub is : file ≡ before_first (λ b. b == 64) word
  pub address : IsAddress (after_first (λ b. b == 64) word) base
