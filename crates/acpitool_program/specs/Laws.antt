-- What laws say.
use Rattle.std.specs.Prelude.{◌≡◌, ℕ, Bool, true, false, List, [], ◌∷◌, ◌++◌, Option, Some, None, map, string_bytes, codes}
use Rattle.acpi_base.specs.Bytes.{AreBytes}
use Rattle.acpi_forms.specs.Kind.{kind_of}
use Rattle.acpitool_program.specs.Command.{Asks, IsWrong}
use Rattle.acpitool_program.specs.Repair.{repaired}
use Rattle.acpitool_program.specs.Text.{IsKind}
use Rattle.acpitool_program.specs.declared.command.Command.{Command}
use Rattle.acpitool_program.specs.declared.command.Command.TheVariants.{Help, Version, Show, Check, Image, Make, Template}
use Rattle.acpitool_program.specs.declared.command.Command.TheVariants.{Disassemble, Names, Unpack, Cpio, Lay, Loader, Diff, Json}
use Rattle.acpitool_program.specs.declared.command.Command.TheVariants.{Repair, Tree}
use Rattle.acpitool_program.specs.declared.command.Style.{Style}
use Rattle.acpitool_program.specs.declared.command.Style.TheVariants.{Usual, Bare, Bytes}
use Rattle.acpitool_program.specs.declared.command.Wrong.{Wrong}

-- what a command contains: its word, its files, folders or signature, the words that state numbers, an address, and its option,
-- with an address of the option's own, or nothing
abbrev pub Content : Type 0
Content = List ℕ × List (List ℕ) × List (List ℕ) × ℕ × List ℕ

-- an option, if it is there
abbrev pub option_if : Bool → List ℕ → List ℕ
option_if true option = option
option_if false option = []

-- the option of `show`, if there is one
abbrev pub style_option : Style → List ℕ
style_option Usual = []
style_option Bare = codes "--no-offsets"
style_option Bytes = codes "--bytes"

-- the option before the address of an RSDP, and the address after its bytes
abbrev pub rsdp_if : Option ℕ → List ℕ
rsdp_if (Some rsdp) = codes "--rsdp" ++ rsdp ∷ []
rsdp_if None = []

abbrev pub content : Command → Content
content Help = (codes "help", [], [], 0, [])
content Version = (codes "--version", [], [], 0, [])
content (Show style files numbers) = (
  codes "show",
  map (λ word. string_bytes word) files.now,
  map (λ word. string_bytes word) numbers.now,
  0,
  style_option style,
)
content (Json files) = (codes "show", map (λ word. string_bytes word) files.now, [], 0, codes "--json")
content (Check json files) =
    (codes "check", map (λ word. string_bytes word) files.now, [], 0, option_if json (codes "--json"))
content (Image json file base) = (codes "image", file.now ∷ [], [], base, option_if json (codes "--json"))
content (Template signature) = (codes "template", signature.now ∷ [], [], 0, [])
content (Disassemble file numbers) = (codes "disassemble", file.now ∷ [], map (λ word. string_bytes word) numbers.now, 0, [])
content (Names json file numbers) = (
  codes "names",
  file.now ∷ [],
  map (λ word. string_bytes word) numbers.now,
  0,
  option_if json (codes "--json"),
)
content (Make force text file) = (codes "make", text.now ∷ file.now ∷ [], [], 0, option_if force (codes "--force"))
content (Unpack file folder base) = (codes "unpack", file.now ∷ folder.now ∷ [], [], base, [])
content (Cpio folder file) = (codes "cpio", folder.now ∷ file.now ∷ [], [], 0, [])
content (Lay rsdp folder file base) = (codes "lay", folder.now ∷ file.now ∷ [], [], base, rsdp_if rsdp)
content (Repair name file) = (codes "repair", name.now ∷ file.now ∷ [], [], 0, [])
content (Loader folder to) = (codes "loader", folder.now ∷ to.now ∷ [], [], 0, [])
content (Tree dot file) = (codes "tree", file.now ∷ [], [], 0, option_if dot (codes "--dot"))
content (Diff first second) = (codes "diff", first.now ∷ second.now ∷ [], [], 0, [])

-- words ask for at most one command
abbrev pub AskForOne : Type 0
AskForOne = (words : List (List ℕ)) (one two : Command) → Asks words one → Asks words two → content one ≡ content two

-- wrong words ask for no command
abbrev pub WrongAskForNothing : Type 0
WrongAskForNothing = (words : List (List ℕ)) (wrong : Wrong) (command : Command) → IsWrong words wrong → ¬ Asks words command

-- what is sound already stays as it is when it is repaired
abbrev pub SoundStay : Type 0
SoundStay = (bytes : List ℕ) → AreBytes bytes → IsKind (kind_of bytes) bytes → repaired bytes ≡ bytes
