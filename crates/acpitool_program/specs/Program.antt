-- What a run of the program prints.
use Rattle.std.specs.Prelude.{◌≡◌, ◌≢◌, ◌⊎◌, ℕ, max, Bool, true, false, List, [], ◌++◌, Option, Some, None, take, drop}
use Rattle.std.specs.Prelude.{codes, map}
use Rattle.std.specs.Prelude.{string_bytes, if◌then◌else◌}
use Rattle.std.specs.Str.{bytes_eq}
use Rattle.std.specs.Io.KnownBytes.{Keeps, Appends}
use Rattle.std.specs.declared.io.ErrorKind.{ErrorKind}
use Rattle.std.specs.declared.io.ErrorKind.TheVariants.{InvalidData}
use Rattle.acpi_forms.specs.Known.{is_known, meant}
use Rattle.acpi_forms.specs.Makes.{IsTemplateOf}
use Rattle.acpi_input.specs.Stated.{stated}
use Rattle.acpitool_program.specs.Command.{Asks, IsWrong, IsMisstated, file_count}
use Rattle.acpitool_program.specs.Apart.{LaysApart}
use Rattle.acpitool_program.specs.Archiving.{Archives}
use Rattle.acpitool_program.specs.Checking.{AreChecked}
use Rattle.acpitool_program.specs.Comparing.{Compares}
use Rattle.acpi_terms_text.specs.Objects.{Callee}
use Rattle.acpitool_program.specs.Disassembly.{DisassemblesFile, AddsFiles}
use Rattle.acpi_json.specs.Array.{array}
use Rattle.acpitool_program.specs.Job.{gathers, shows, lists}
use Rattle.acpitool_program.specs.Drawing.{Draws}
use Rattle.acpitool_program.specs.Laying.{LaysFolder}
use Rattle.acpitool_program.specs.Listing.{Listed}
use Rattle.acpitool_program.specs.Loading.{LoadsFolder}
use Rattle.acpitool_program.specs.Making.{Makes}
use Rattle.acpitool_program.specs.Outcome.{Outcome, AreTrueOutcomes, outputs, complaints, worst, kept_in, AreOfEach, AreOfTables}
use Rattle.acpitool_program.specs.Outcome.{AreOfWord, PrintedAs}
use Rattle.acpitool_program.specs.Repairing.{Repairs}
use Rattle.acpitool_program.specs.Shown.{AreFurther}
use Rattle.acpitool_program.specs.Unpacking.{Unpacks}
use Rattle.acpitool_program.specs.declared.command.Command.{Command}
use Rattle.acpitool_program.specs.declared.command.Command.TheVariants.{Help, Version, Show, Check, Image, Make, Template}
use Rattle.acpitool_program.specs.declared.command.Command.TheVariants.{Disassemble, Names, Unpack, Cpio, Lay, Loader, Diff, Json}
use Rattle.acpitool_program.specs.declared.command.Command.TheVariants.{Repair, Tree}
use Rattle.acpitool_program.specs.declared.command.Misstated.TheVariants as misstated
use Rattle.acpitool_program.specs.declared.command.Style.{Style}
use Rattle.acpi_asl.specs.declared.block.BlockText.{BlockText}
use Rattle.acpi_asl.specs.declared.block.BlockText.TheVariants as blocks
use Rattle.acpitool_program.specs.declared.command.Wrong.{Wrong}
use Rattle.acpitool_program.specs.declared.command.Wrong.TheVariants.{NoCommand, Unknown, Misplaced, NoFile, NoFileToCheck}
use Rattle.acpitool_program.specs.declared.command.Wrong.TheVariants.{NoImage, NoText, NoTable, Base, Number, Twice, NoSignature}
use Rattle.acpitool_program.specs.declared.command.Wrong.TheVariants.{Signature, NoBlock}
use Rattle.acpitool_program.specs.declared.command.Wrong.TheVariants.{NoPacked, NoFolder, NoTables, NoArchive}
use Rattle.acpitool_program.specs.declared.command.Wrong.TheVariants.{NoImageFile, NoBase, NoPointer}
use Rattle.acpitool_program.specs.declared.command.Wrong.TheVariants.{NoDamaged, NoFirst, NoSecond, NoDrawing}

-- ---- how the program is used

abbrev pub usage : List ℕ
usage =
    codes "usage: acpitool show [--no-offsets|--bytes] FILE .. [NAME=N ..] | show --json FILE .. | check [--json] FILE .."
    ++ codes " | diff FILE FILE"
    ++ codes " | disassemble FILE .. [NAME=N ..] | names [--json] FILE .. [NAME=N ..]"
    ++ codes " | image [--json] FILE [BASE]"
    ++ codes " | make [--force] TEXT FILE | repair FILE OUT | template SIGNATURE"
    ++ codes " | unpack FILE FOLDER [BASE] | cpio FOLDER FILE | lay [--rsdp ADDRESS] FOLDER FILE BASE"
    ++ codes " | loader FOLDER OUT"
    ++ codes " | tree [--dot] FILE | --help | --version\n"

abbrev pub version : List ℕ
version = codes "acpitool 0.1.0\n"

-- which word is wrong
abbrev pub wrong_line : Wrong → List ℕ
wrong_line NoCommand = codes "acpitool: no command\n"
wrong_line (Unknown word) = codes "acpitool: unknown word " ++ word.now ++ codes "\n"
wrong_line (Misplaced word) = codes "acpitool: at most one option, right after the command: " ++ word.now ++ codes "\n"
wrong_line NoFile = codes "acpitool: no file to show\n"
wrong_line NoFileToCheck = codes "acpitool: no file to check\n"
wrong_line NoImage = codes "acpitool: no file with an image\n"
wrong_line NoText = codes "acpitool: no text to make\n"
wrong_line NoTable = codes "acpitool: no file for the table\n"
wrong_line NoSignature = codes "acpitool: no signature\n"
wrong_line NoBlock = codes "acpitool: no file with a definition block\n"
wrong_line NoPacked = codes "acpitool: no file to unpack\n"
wrong_line NoFolder = codes "acpitool: no folder for the files\n"
wrong_line NoTables = codes "acpitool: no folder with tables\n"
wrong_line NoArchive = codes "acpitool: no file for the archive\n"
wrong_line NoImageFile = codes "acpitool: no file for the image\n"
wrong_line NoBase = codes "acpitool: no address for the image\n"
wrong_line NoPointer = codes "acpitool: no address for the RSDP\n"
wrong_line NoDamaged = codes "acpitool: no file to repair\n"
wrong_line NoFirst = codes "acpitool: no files to compare\n"
wrong_line NoSecond = codes "acpitool: no second file to compare\n"
wrong_line NoDrawing = codes "acpitool: no file to draw\n"
wrong_line (Signature word) = codes "acpitool: not a signature of four characters: " ++ word.now ++ codes "\n"
wrong_line (Base word) = codes "acpitool: not an address in hexadecimal: " ++ word.now ++ codes "\n"
wrong_line (Number word) =
    codes "acpitool: not NAME=N with names of four characters and N from 0 to 7: " ++ word.now ++ codes "\n"
wrong_line Twice = codes "acpitool: two numbers of arguments for one name\n"

abbrev pub wrong_text : Wrong → List ℕ
wrong_text wrong = wrong_line wrong ++ usage

-- ---- show

-- Words state these numbers of arguments. The tables of all files were gathered, and then shown as the option says. Definition
-- blocks may name the objects of each other.
pub record AreShown (style : Style) (files numbers : List (List ℕ))
    (out out' err err' : Option (List ℕ)) (status : ℕ) : Type 0 where
  pub all : List (List ℕ × ℕ)
  pub stated : stated numbers ≡ Some all
  pub gathered : List Outcome
  pub are : AreOfEach AreOfWord files gathered
  pub hold : AreTrueOutcomes gathers gathered
  pub further : List Callee
  pub named : AreFurther all (kept_in gathered) further
  pub shown : List Outcome
  pub of : AreOfTables (kept_in gathered) shown
  pub show : AreTrueOutcomes (shows style files all further) shown
  pub wrote : Appends out out' (outputs gathered ++ outputs shown)
  pub complained : Appends err err' (complaints gathered ++ complaints shown)
  pub is : status ≡ max (worst gathered) (worst shown)

-- which line says that words state no numbers
abbrev pub IsMisstatedAs : List (List ℕ) → Wrong → Type 0
IsMisstatedAs numbers (Number word) = IsMisstated numbers (misstated.Word word)
IsMisstatedAs numbers Twice = IsMisstated numbers misstated.Twice
IsMisstatedAs numbers _ = ⊥

-- words state no numbers of arguments, and a line says why
pub record NotStated (numbers : List (List ℕ)) (out out' err err' : Option (List ℕ)) (status : ℕ) : Type 0 where
  pub wrong : Wrong
  pub is_wrong : IsMisstatedAs numbers wrong
  pub is : status ≡ 2
  pub complained : Appends err err' (wrong_text wrong)
  pub silent : Keeps out out'

abbrev pub IsShown : Style → List (List ℕ) → List (List ℕ)
    → Option (List ℕ) → Option (List ℕ) → Option (List ℕ) → Option (List ℕ) → ℕ → Type 0
IsShown style files numbers out out' err err' status =
    AreShown style files numbers out out' err err' status ⊎ NotStated numbers out out' err err' status

-- ---- JSON

-- each file has its outcomes, whose objects are printed as an array
pub record AreListed (files : List (List ℕ)) (out out' err err' : Option (List ℕ)) (status : ℕ) : Type 0 where
  pub lines : List ℕ
  pub listed : PrintedAs lists (AreOfEach AreOfWord files) (Some []) (Some lines) err err' status
  pub wrote : Appends out out' (array lines)

-- ---- disassemble and names

-- the methods of the further blocks are known, and the text of the file's definition block is printed
pub record IsBlockAmong (block : BlockText) (all : List (List ℕ × ℕ)) (file : List ℕ) (names : List (List ℕ))
    (out out' err err' : Option (List ℕ)) (status : ℕ) : Type 0 where
  pub further : List Callee
  pub said : Option (List ℕ)
  pub adds : AddsFiles all names [] further err said 0
  pub disassembles : DisassemblesFile block all further file out out' said err' status

-- a further file has no definition block
pub record IsNoneAmong (all : List (List ℕ × ℕ)) (names : List (List ℕ)) (out out' err err' : Option (List ℕ)) (status : ℕ)
    : Type 0 where
  pub further : List Callee
  pub adds : AddsFiles all names [] further err err' status
  pub some : status ≢ 0
  pub silent : Keeps out out'

-- Words state these numbers of arguments, and the text is printed, or a further file has no definition block.
pub record IsBlockOf (block : BlockText) (file : List ℕ) (names stating : List (List ℕ))
    (out out' err err' : Option (List ℕ)) (status : ℕ) : Type 0 where
  pub all : List (List ℕ × ℕ)
  pub stated : stated stating ≡ Some all
  pub disassembles : IsBlockAmong block all file names out out' err err' status ⊎ IsNoneAmong all names out out' err err' status

abbrev pub IsBlockBy : BlockText → List ℕ → List (List ℕ) → List (List ℕ)
    → Option (List ℕ) → Option (List ℕ) → Option (List ℕ) → Option (List ℕ) → ℕ → Type 0
IsBlockBy block file names stating out out' err err' status =
    IsBlockOf block file names stating out out' err err' status ⊎ NotStated stating out out' err err' status

-- Words after the file are further files, up to the first that states a number of arguments.
abbrev pub IsBlockShown : BlockText → List ℕ → List (List ℕ)
    → Option (List ℕ) → Option (List ℕ) → Option (List ℕ) → Option (List ℕ) → ℕ → Type 0
IsBlockShown block file words out out' err err' status =
    IsBlockBy block file (take (file_count words) words) (drop (file_count words) words) out out' err err' status

-- what is printed of the objects of a definition block: JSON, or lines
abbrev pub names_text : Bool → BlockText
names_text true = blocks.Objects
names_text false = blocks.Names

-- ---- template

-- a signature as a word for a shell: that of a pointer ends in a space
abbrev pub as_word : List ℕ → List ℕ
as_word signature = if bytes_eq signature (codes "RSD ") then codes "'RSD '" else signature

-- the signature that was probably meant, if there is one
abbrev pub suggestion : Option (List ℕ) → List ℕ
suggestion (Some signature) = codes "; did you mean " ++ as_word signature ++ codes "?"
suggestion None = []

abbrev pub unknown_line : List ℕ → List ℕ
unknown_line signature = codes "acpitool: no table has the signature " ++ signature ++ suggestion (meant signature) ++ codes "\n"

-- a template of a signature that is known, or a line on one that isn't
abbrev pub IsTemplated : Bool → List ℕ → Option (List ℕ) → Option (List ℕ) → Option (List ℕ) → Option (List ℕ) → ℕ → Type 0
IsTemplated true signature out out' err err' status =
    (text : List ℕ) × (status ≡ 0) × Appends out out' text × Keeps err err' × IsTemplateOf signature text
IsTemplated false signature out out' err err' status =
    (status ≡ 1) × Keeps out out' × Appends err err' (unknown_line signature)

-- ---- lay

-- the image has an RSDP of its own, or there is one at an address apart from it
abbrev pub Lays : Option ℕ → List ℕ → List ℕ → ℕ
    → Option (List ℕ) → Option (List ℕ) → Option (List ℕ) → Option (List ℕ) → ℕ → Type 0
Lays None folder file base out out' err err' status = LaysFolder folder file base out out' err err' status
Lays (Some rsdp) folder file base out out' err err' status = LaysApart folder file base rsdp out out' err err' status

-- ---- all commands

-- what a command prints: the usage and more, the version, or what comes of tables and files
abbrev pub IsDone : Command → Option (List ℕ) → Option (List ℕ) → Option (List ℕ) → Option (List ℕ) → ℕ → Type 0
IsDone Help out out' err err' status = (more : List ℕ) × (status ≡ 0) × Appends out out' (usage ++ more) × Keeps err err'
IsDone Version out out' err err' status = (status ≡ 0) × Appends out out' version × Keeps err err'
IsDone (Show style files numbers) out out' err err' status =
    IsShown style (map (λ word. string_bytes word) files.now) (map (λ word. string_bytes word) numbers.now)
    out out' err err' status
IsDone (Json files) out out' err err' status =
    AreListed (map (λ word. string_bytes word) files.now) out out' err err' status
IsDone (Check json files) out out' err err' status =
    AreChecked json (map (λ word. string_bytes word) files.now) out out' err err' status
IsDone (Image json file base) out out' err err' status = Listed json file.now base out out' err err' status
IsDone (Template signature) out out' err err' status =
    IsTemplated (is_known signature.now) signature.now out out' err err' status
IsDone (Disassemble file numbers) out out' err err' status =
    IsBlockShown blocks.Asl file.now (map (λ word. string_bytes word) numbers.now) out out' err err' status
IsDone (Names json file numbers) out out' err err' status =
    IsBlockShown (names_text json) file.now (map (λ word. string_bytes word) numbers.now) out out' err err' status
IsDone (Unpack file folder base) out out' err err' status = Unpacks file.now folder.now base out out' err err' status
IsDone (Cpio folder file) out out' err err' status = Archives folder.now file.now out out' err err' status
IsDone (Lay rsdp folder file base) out out' err err' status = Lays rsdp folder.now file.now base out out' err err' status
IsDone (Loader folder to) out out' err err' status = LoadsFolder folder.now to.now out out' err err' status
IsDone (Repair name file) out out' err err' status = Repairs name.now file.now out out' err err' status
IsDone (Diff first second) out out' err err' status = Compares first.now second.now out out' err err' status
IsDone (Tree dot file) out out' err err' status = Draws dot file.now out out' err err' status
IsDone (Make force text file) out out' err err' status = Makes force text.now file.now out out' err err' status

-- a command that the words ask for was done
pub record Done (words : List (List ℕ)) (out out' err err' : Option (List ℕ)) (status : ℕ) : Type 0 where
  pub command : Command
  pub asked : Asks words command
  pub done : IsDone command out out' err err' status

-- the words are wrong, and a line says which
pub record Refused (words : List (List ℕ)) (out out' err err' : Option (List ℕ)) (status : ℕ) : Type 0 where
  pub wrong : Wrong
  pub is_wrong : IsWrong words wrong
  pub is : status ≡ 2
  pub complained : Appends err err' (wrong_text wrong)
  pub silent : Keeps out out'

abbrev pub Ended : List (List ℕ) → Option (List ℕ) → Option (List ℕ) → Option (List ℕ) → Option (List ℕ) → ℕ → Type 0
Ended words out out' err err' status = Done words out out' err err' status ⊎ Refused words out out' err err' status

-- ---- the process

-- the status of an error of the words or of the output: 2 if a word isn't UTF-8, and 1 otherwise
abbrev pub IsLost : ErrorKind → ℕ → Type 0
IsLost kind status = ((kind ≡ InvalidData) × (status ≡ 2)) ⊎ ((kind ≢ InvalidData) × (status ≡ 1))

-- the run ended as one on some words does, or it had an error
abbrev pub Started : Option (List ℕ) → Option (List ℕ) → Option (List ℕ) → Option (List ℕ) → ℕ → Type 0
Started out out' err err' status =
    ((words : List (List ℕ)) × Ended words out out' err err' status) ⊎ ((kind : ErrorKind) × IsLost kind status)
