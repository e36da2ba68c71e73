-- Commands that are added one after another.
use Rattle.std.proofs.Common.{◌≡◌, ℕ, suc, ◌+◌, ◌-◌, ◌*◌, ◌<◌, ◌≤◌, List, [], ◌∷◌, ◌++◌, length, drop, get_or, refl, sym, ap, ◌∙◌, arith, append_assoc}
use Rattle.std.proofs.lemmas.List.{append-nil, at_drop_more, at_drop_all}
use Rattle.acpi_loader.specs.Command.{command_bytes, script_of}
use Rattle.acpi_loader.specs.Places.{entry_commands}
use Rattle.acpi_loader.specs.declared.command.Command.{Command}
use Rattle.acpi_loader.specs.declared.command.Command.TheVariants.{AddPointer}
use Rattle.acpi_loader.specs.declared.command.File.TheVariants as files

-- one command more
pub command_then : (commands : List Command) (i : ℕ) (d : Command) → i < length commands
    → (old new all : List ℕ) → old ++ script_of (drop i commands) ≡ all → new ≡ old ++ command_bytes (get_or commands i d)
    → new ++ script_of (drop (i + 1) commands) ≡ all
command_then commands i d inside old new all before added =
    let rest = script_of (drop (i + 1) commands) in
    ap (λ l. l ++ rest) added ∙ append_assoc old (command_bytes (get_or commands i d)) rest
    ∙ ap (λ l. old ++ l) (sym (at_drop_more script_of commands i d inside)) ∙ before

-- no command is left
pub commands_all : (commands : List Command) (i : ℕ) (new all : List ℕ) → length commands ≤ i → new ++ script_of (drop i commands) ≡ all → new ≡ all
commands_all commands i new all past before =
    sym (append-nil new) ∙ ap (λ l. new ++ l) (sym (at_drop_all script_of commands i past)) ∙ before

module _ (offset count i : ℕ) (old new all : List ℕ) where
  -- one entry more
  pub entry_then : i < count → old ++ script_of (entry_commands (offset + 8 * i) (count - i)) ≡ all
      → new ≡ old ++ command_bytes (AddPointer files.Tables files.Tables (offset + 8 * i))
      → new ++ script_of (entry_commands (offset + 8 * (i + 1)) (count - (i + 1))) ≡ all
  entry_then inside before added =
      let left = count - (i + 1) in
      let some : suc left ≡ count - i = omega (arith, inside) in
      let next : offset + 8 * (i + 1) ≡ offset + 8 * i + 8 = omega arith in
      let one = command_bytes (AddPointer files.Tables files.Tables (offset + 8 * i)) in
      ap (λ n. new ++ script_of (entry_commands n left)) next
      ∙ ap (λ l. l ++ script_of (entry_commands (offset + 8 * i + 8) left)) added
      ∙ append_assoc old one (script_of (entry_commands (offset + 8 * i + 8) left))
      ∙ ap (λ n. old ++ script_of (entry_commands (offset + 8 * i) n)) some ∙ before

  -- no entry is left
  pub entries_all : count ≤ i → new ++ script_of (entry_commands (offset + 8 * i) (count - i)) ≡ all → new ≡ all
  entries_all past before =
      let none : 0 ≡ count - i = omega (arith, past) in
      sym (append-nil new) ∙ ap (λ n. new ++ script_of (entry_commands (offset + 8 * i) n)) none ∙ before

-- ---- commands after others

script_append : (a b : List Command) → script_of (a ++ b) ≡ script_of a ++ script_of b
script_append [] b = refl
script_append (c ∷ a) b = ap (λ l. command_bytes c ++ l) (script_append a b) ∙ sym (append_assoc (command_bytes c) (script_of a) (script_of b))

joined : (a b : List Command) (s t u : List ℕ) → t ≡ s ++ script_of a → u ≡ t ++ script_of b → u ≡ s ++ script_of (a ++ b)
joined a b s t u one two =
    two ∙ ap (λ l. l ++ script_of b) one ∙ append_assoc s (script_of a) (script_of b) ∙ ap (λ l. s ++ l) (sym (script_append a b))

pub last_command : (a : List Command) (c : Command) (s t u : List ℕ) → t ≡ s ++ script_of a → u ≡ t ++ command_bytes c
    → u ≡ s ++ script_of (a ++ c ∷ [])
last_command a c s t u one two = joined a (c ∷ []) s t u one (two ∙ ap (λ l. t ++ l) (sym (append-nil (command_bytes c))))

pub all_commands : (a b c d e : List Command) (s0 s1 s2 s3 s4 s5 : List ℕ) → s0 ≡ [] → s1 ≡ s0 ++ script_of a → s2 ≡ s1 ++ script_of b
    → s3 ≡ s2 ++ script_of c → s4 ≡ s3 ++ script_of d → s5 ≡ s4 ++ script_of e → s5 ≡ script_of (a ++ (b ++ (c ++ (d ++ e))))
all_commands a b c d e s0 s1 s2 s3 s4 s5 none one two three four five =
    joined a (b ++ (c ++ (d ++ e))) s0 s1 s5 one (joined b (c ++ (d ++ e)) s1 s2 s5 two (joined c (d ++ e) s2 s3 s5 three (joined d e s3 s4 s5 four five)))
    ∙ ap (λ l. l ++ script_of (a ++ (b ++ (c ++ (d ++ e))))) none
