-- What words ask for.
use Rattle.std.specs.Prelude.{◌≡◌, ◌≢◌, ◌⊎◌, ℕ, suc, ◌^◌, ◌<◌, ◌≤◌, ◌==◌, nat_eq, nat_lt, drop, not, ◌&&◌, ◌||◌}
use Rattle.std.specs.Prelude.{Bool, true, false}
use Rattle.std.specs.Prelude.{if◌then◌else◌, List, [], ◌∷◌, ◌++◌, Option, Some, None, length, slice_index, map, string_bytes}
use Rattle.std.specs.Prelude.{codes}
use Rattle.std.specs.List.{starts_with}
use Rattle.std.specs.Str.{bytes_eq}
use Rattle.std.specs.Str.Parse.{IsNumeral, digits_value, without_leading_plus}
use Rattle.acpi_input.specs.Stated.{stated_by, stated}
use Rattle.acpitool_program.specs.declared.command.Command.{Command}
use Rattle.acpitool_program.specs.declared.command.Command.TheVariants.{Help, Version, Show, Check, Image, Make, Template}
use Rattle.acpitool_program.specs.declared.command.Command.TheVariants.{Disassemble, Names, Unpack, Cpio, Lay, Loader, Diff, Json}
use Rattle.acpitool_program.specs.declared.command.Command.TheVariants.{Repair, Tree}
use Rattle.acpitool_program.specs.declared.command.Misstated.{Misstated}
use Rattle.acpitool_program.specs.declared.command.Misstated.TheVariants as misstated
use Rattle.acpitool_program.specs.declared.command.Style.{Style}
use Rattle.acpitool_program.specs.declared.command.Style.TheVariants.{Usual, Bare, Bytes}
use Rattle.acpitool_program.specs.declared.command.Verb.{Verb}
use Rattle.acpitool_program.specs.declared.command.Verb.TheVariants as verbs
use Rattle.acpitool_program.specs.declared.command.Wrong.{Wrong}
use Rattle.acpitool_program.specs.declared.command.Wrong.TheVariants.{NoCommand, Unknown, Misplaced, NoFile, NoFileToCheck}
use Rattle.acpitool_program.specs.declared.command.Wrong.TheVariants.{NoImage, NoText, NoTable, Base, Number, Twice, NoSignature}
use Rattle.acpitool_program.specs.declared.command.Wrong.TheVariants.{Signature, NoBlock}
use Rattle.acpitool_program.specs.declared.command.Wrong.TheVariants.{NoPacked, NoFolder, NoTables, NoArchive}
use Rattle.acpitool_program.specs.declared.command.Wrong.TheVariants.{NoImageFile, NoBase, NoPointer}
use Rattle.acpitool_program.specs.declared.command.Wrong.TheVariants.{NoDamaged, NoFirst, NoSecond, NoDrawing}

-- whether a word is an option: a dash and more
abbrev pub is_option : List ℕ → Bool
is_option word = nat_lt 1 (length word) && slice_index word 0 == 45

-- the option of `make` that writes a table whose numbers are wrong
abbrev pub is_force : List ℕ → Bool
is_force word = bytes_eq word (codes "--force")

-- whether a command takes an option
abbrev pub takes : Verb → List ℕ → Bool
takes verbs.Make word = is_force word
takes verb word = false

-- whether a command takes an option right after its own word
abbrev pub leads : Verb → List ℕ → Bool
leads verbs.Show word = bytes_eq word (codes "--json") || bytes_eq word (codes "--no-offsets") || bytes_eq word (codes "--bytes")
leads verbs.Check word = bytes_eq word (codes "--json")
leads verbs.Image word = bytes_eq word (codes "--json")
leads verbs.Names word = bytes_eq word (codes "--json")
leads verbs.Tree word = bytes_eq word (codes "--dot")
leads verbs.Lay word = bytes_eq word (codes "--rsdp")
leads verb word = false

-- whether the first word after a command is this option
abbrev pub begins_with : List ℕ → List (List ℕ) → Bool
begins_with option [] = false
begins_with option (word ∷ words) = bytes_eq word option

-- whether it is one that the command takes there
abbrev pub begins_with_option : Verb → List (List ℕ) → Bool
begins_with_option verb [] = false
begins_with_option verb (word ∷ words) = leads verb word

-- how `show` shows tables, by the first word after it
abbrev pub style_of : List (List ℕ) → Style
style_of words =
    if begins_with (codes "--no-offsets") words then Bare
    else (if begins_with (codes "--bytes") words then Bytes else Usual)

-- the words after it, or all words
abbrev pub after_option : Verb → List (List ℕ) → List (List ℕ)
after_option verb [] = []
after_option verb (word ∷ words) = if leads verb word then words else word ∷ words

-- the first option among words, but for those that a command takes
abbrev pub option_in : Verb → List (List ℕ) → Option (List ℕ)
option_in verb [] = None
option_in verb (word ∷ words) = if is_option word && not (takes verb word) then Some word else option_in verb words

-- the first option after a command, but for those that it takes
abbrev pub first_option : Verb → List (List ℕ) → Option (List ℕ)
first_option verb words = option_in verb (after_option verb words)

-- whether one of the words is `--force`
abbrev pub forces : List (List ℕ) → Bool
forces [] = false
forces (word ∷ words) = is_force word || forces words

-- the words without `--force`
abbrev pub unforced : List (List ℕ) → List (List ℕ)
unforced [] = []
unforced (word ∷ words) = if is_force word then unforced words else word ∷ unforced words

-- the word of a command
abbrev pub word_of : Verb → List ℕ
word_of verbs.Show = codes "show"
word_of verbs.Check = codes "check"
word_of verbs.Image = codes "image"
word_of verbs.Make = codes "make"
word_of verbs.Template = codes "template"
word_of verbs.Disassemble = codes "disassemble"
word_of verbs.Names = codes "names"
word_of verbs.Unpack = codes "unpack"
word_of verbs.Cpio = codes "cpio"
word_of verbs.Lay = codes "lay"
word_of verbs.Loader = codes "loader"
word_of verbs.Repair = codes "repair"
word_of verbs.Diff = codes "diff"
word_of verbs.Tree = codes "tree"

-- an option that asks for how the program is used
abbrev pub IsHelp : List ℕ → Type 0
IsHelp word = (word ≡ codes "--help") ⊎ (word ≡ codes "-h")

-- a first word that asks for it
pub record BeginsWithHelp (words : List (List ℕ)) : Type 0 where
  pub word : List ℕ
  pub more : List (List ℕ)
  pub is : words ≡ word ∷ more
  pub asks : IsHelp word ⊎ (word ≡ codes "help")

-- words after a command that ask for it
pub record AsksForHelp (words : List (List ℕ)) : Type 0 where
  pub verb : Verb
  pub more : List (List ℕ)
  pub is : words ≡ word_of verb ∷ more
  pub option : List ℕ
  pub first : first_option verb more ≡ Some option
  pub asks : IsHelp option

-- the words are a command and more, of which none is an option but those that it takes
abbrev pub AreAfter : Verb → List (List ℕ) → List (List ℕ) → Type 0
AreAfter verb words more = (words ≡ word_of verb ∷ more) × (first_option verb more ≡ None)

-- ---- numbers of arguments

abbrev pub has : ℕ → List ℕ → Bool
has b [] = false
has b (c ∷ word) = (c == b) || has b word

-- whether a word states a number of arguments: it has an equals sign and no slash
abbrev pub is_number : List ℕ → Bool
is_number word = has 61 word && not (has 47 word)

-- how many files there are: words before the first that states a number of arguments
abbrev pub file_count : List (List ℕ) → ℕ
file_count [] = 0
file_count (word ∷ words) = if is_number word then 0 else suc (file_count words)

-- how many files there are after `show`: after `--json` each word is one
abbrev pub files_after : List (List ℕ) → ℕ
files_after words =
    if begins_with (codes "--json") words
    then length (after_option verbs.Show words)
    else file_count (after_option verbs.Show words)

abbrev pub unstated_by : Option (List ℕ × ℕ) → List ℕ → Option (List ℕ) → Option (List ℕ)
unstated_by None word others = Some word
unstated_by (Some number) word others = others

-- the first word that isn't NAME=N with a digit from 0 to 7
abbrev pub first_unstated : List (List ℕ) → Option (List ℕ)
first_unstated [] = None
first_unstated (word ∷ words) = unstated_by (stated_by word) word (first_unstated words)

-- why words state no numbers of arguments
abbrev pub IsMisstated : List (List ℕ) → Misstated → Type 0
IsMisstated words (misstated.Word word) = first_unstated words ≡ Some word.now
IsMisstated words misstated.Twice = (first_unstated words ≡ None) × (stated words ≡ None)
IsMisstated words misstated.Memory = Unit {0}

-- ---- an address

-- a word without the `0x` or `0X` at its front
abbrev pub without_prefix : List ℕ → List ℕ
without_prefix word =
    if starts_with nat_eq word (codes "0x") || starts_with nat_eq word (codes "0X") then drop 2 word else word

-- the digits of an address: all of the word, or those after `0x` or `0X`, without a plus sign before them
abbrev pub address_digits : List ℕ → List ℕ
address_digits word = without_leading_plus (without_prefix word)

-- the word is this address in hexadecimal
pub record IsAddress (word : List ℕ) (address : ℕ) : Type 0 where
  pub numeral : IsNumeral 16 (address_digits word)
  pub is : address ≡ digits_value 16 (address_digits word)
  pub fits : address < 2 ^ 64

-- FILE and FILE BASE after `image`; without a word for it the base is 0
abbrev pub AreImage : List (List ℕ) → List ℕ → ℕ → Type 0
AreImage more file base =
    ((more ≡ file ∷ []) × (base ≡ 0)) ⊎ ((word : List ℕ) × (more ≡ file ∷ word ∷ []) × IsAddress word base)

-- FILE FOLDER and FILE FOLDER BASE after `unpack`
abbrev pub AreUnpack : List (List ℕ) → List ℕ → List ℕ → ℕ → Type 0
AreUnpack more file folder base = (rest : List (List ℕ)) × (more ≡ file ∷ rest) × AreImage rest folder base

-- the words after `lay`, or after `lay --rsdp ADDRESS`
abbrev pub IsRest : List (List ℕ) → Option ℕ → List (List ℕ) → Type 0
IsRest more None rest = (begins_with (codes "--rsdp") more ≡ false) × (more ≡ rest)
IsRest more (Some rsdp) rest =
    (option : List ℕ) × (word : List ℕ) × (more ≡ option ∷ word ∷ rest) × (bytes_eq option (codes "--rsdp") ≡ true)
    × IsAddress word rsdp

-- FOLDER FILE BASE after these
abbrev pub AreLay : List (List ℕ) → List ℕ → List ℕ → ℕ → Type 0
AreLay more folder file base = (word : List ℕ) × (more ≡ folder ∷ file ∷ word ∷ []) × IsAddress word base

-- the words ask for a command
abbrev pub Asks : List (List ℕ) → Command → Type 0
Asks words Help = BeginsWithHelp words ⊎ AsksForHelp words
Asks words Version = (more : List (List ℕ)) × (words ≡ codes "--version" ∷ more)
Asks words (Show style files numbers) =
    (more : List (List ℕ))
    × AreAfter verbs.Show words more
    × (begins_with (codes "--json") more ≡ false)
    × (style ≡ style_of more)
    × (after_option verbs.Show more
    ≡ map (λ word. string_bytes word) files.now ++ map (λ word. string_bytes word) numbers.now)
    × (length files.now ≡ file_count (after_option verbs.Show more))
    × (1 ≤ files_after more)
Asks words (Json files) =
    (more : List (List ℕ))
    × AreAfter verbs.Show words more
    × (begins_with (codes "--json") more ≡ true)
    × (after_option verbs.Show more ≡ map (λ word. string_bytes word) files.now)
    × (1 ≤ files_after more)
Asks words (Check json files) =
    (more : List (List ℕ))
    × AreAfter verbs.Check words more
    × (json ≡ begins_with (codes "--json") more)
    × (after_option verbs.Check more ≡ map (λ word. string_bytes word) files.now)
    × (1 ≤ length (after_option verbs.Check more))
Asks words (Image json file base) =
    (more : List (List ℕ))
    × AreAfter verbs.Image words more
    × (json ≡ begins_with (codes "--json") more)
    × AreImage (after_option verbs.Image more) file.now base
Asks words (Template signature) =
    (more : List (List ℕ)) × AreAfter verbs.Template words more × (more ≡ signature.now ∷ []) × (length signature.now ≡ 4)
Asks words (Disassemble file numbers) =
    (more : List (List ℕ)) × AreAfter verbs.Disassemble words more
    × (more ≡ file.now ∷ map (λ word. string_bytes word) numbers.now)
    × (1 ≤ file_count more)
Asks words (Names json file numbers) =
    (more : List (List ℕ))
    × AreAfter verbs.Names words more
    × (json ≡ begins_with (codes "--json") more)
    × (after_option verbs.Names more ≡ file.now ∷ map (λ word. string_bytes word) numbers.now)
    × (1 ≤ file_count (after_option verbs.Names more))
Asks words (Unpack file folder base) =
    (more : List (List ℕ)) × AreAfter verbs.Unpack words more × AreUnpack more file.now folder.now base
Asks words (Cpio folder file) = (more : List (List ℕ)) × AreAfter verbs.Cpio words more × (more ≡ folder.now ∷ file.now ∷ [])
Asks words (Lay rsdp folder file base) =
    (more : List (List ℕ)) × (rest : List (List ℕ)) × AreAfter verbs.Lay words more × IsRest more rsdp rest
    × AreLay rest folder.now file.now base
Asks words (Loader folder to) = (more : List (List ℕ)) × AreAfter verbs.Loader words more × (more ≡ folder.now ∷ to.now ∷ [])
Asks words (Repair name file) = (more : List (List ℕ)) × AreAfter verbs.Repair words more × (more ≡ name.now ∷ file.now ∷ [])
Asks words (Diff first second) =
    (more : List (List ℕ)) × AreAfter verbs.Diff words more × (more ≡ first.now ∷ second.now ∷ [])
Asks words (Tree dot file) =
    (more : List (List ℕ))
    × AreAfter verbs.Tree words more
    × (dot ≡ begins_with (codes "--dot") more)
    × (after_option verbs.Tree more ≡ file.now ∷ [])
Asks words (Make force text file) =
    (more : List (List ℕ)) × AreAfter verbs.Make words more × (force ≡ forces more) × (unforced more ≡ text.now ∷ file.now ∷ [])

-- the first word is no command
pub record IsNoCommand (words : List (List ℕ)) (word : List ℕ) : Type 0 where
  pub more : List (List ℕ)
  pub is : words ≡ word ∷ more
  pub no_help : word ≢ codes "--help"
  pub no_short_help : word ≢ codes "-h"
  pub no_help_word : word ≢ codes "help"
  pub no_version : word ≢ codes "--version"
  pub no_show : word ≢ codes "show"
  pub no_check : word ≢ codes "check"
  pub no_image : word ≢ codes "image"
  pub no_make : word ≢ codes "make"
  pub no_template : word ≢ codes "template"
  pub no_disassemble : word ≢ codes "disassemble"
  pub no_names : word ≢ codes "names"
  pub no_unpack : word ≢ codes "unpack"
  pub no_cpio : word ≢ codes "cpio"
  pub no_lay : word ≢ codes "lay"
  pub no_loader : word ≢ codes "loader"
  pub no_repair : word ≢ codes "repair"
  pub no_diff : word ≢ codes "diff"
  pub no_tree : word ≢ codes "tree"

-- A word after a command is an option that there isn't, or one that the command takes, but only right after its own word.
pub record IsNoOption (leading : Bool) (words : List (List ℕ)) (word : List ℕ) : Type 0 where
  pub verb : Verb
  pub more : List (List ℕ)
  pub is : words ≡ word_of verb ∷ more
  pub first : first_option verb more ≡ Some word
  pub no_help : word ≢ codes "--help"
  pub no_short_help : word ≢ codes "-h"
  pub leads : leads verb word ≡ leading

-- a word after `template SIGNATURE`
pub record IsAfterSignature (words : List (List ℕ)) (word : List ℕ) : Type 0 where
  pub more : List (List ℕ)
  pub after : AreAfter verbs.Template words more
  pub signature : List ℕ
  pub others : List (List ℕ)
  pub is : more ≡ signature ∷ word ∷ others

-- a word after `image FILE BASE`
pub record IsAfterBase (words : List (List ℕ)) (word : List ℕ) : Type 0 where
  pub more : List (List ℕ)
  pub after : AreAfter verbs.Image words more
  pub file : List ℕ
  pub base : List ℕ
  pub others : List (List ℕ)
  pub is : after_option verbs.Image more ≡ file ∷ base ∷ word ∷ others

-- a word after `make TEXT FILE`
pub record IsAfterFile (words : List (List ℕ)) (word : List ℕ) : Type 0 where
  pub more : List (List ℕ)
  pub after : AreAfter verbs.Make words more
  pub text : List ℕ
  pub file : List ℕ
  pub others : List (List ℕ)
  pub is : unforced more ≡ text ∷ file ∷ word ∷ others

-- a word after `unpack FILE FOLDER BASE`
pub record IsAfterUnpacked (words : List (List ℕ)) (word : List ℕ) : Type 0 where
  pub more : List (List ℕ)
  pub after : AreAfter verbs.Unpack words more
  pub file : List ℕ
  pub folder : List ℕ
  pub base : List ℕ
  pub others : List (List ℕ)
  pub is : more ≡ file ∷ folder ∷ base ∷ word ∷ others

-- a word after `cpio FOLDER FILE`
pub record IsAfterArchive (words : List (List ℕ)) (word : List ℕ) : Type 0 where
  pub more : List (List ℕ)
  pub after : AreAfter verbs.Cpio words more
  pub folder : List ℕ
  pub file : List ℕ
  pub others : List (List ℕ)
  pub is : more ≡ folder ∷ file ∷ word ∷ others

-- a word after `lay FOLDER FILE BASE`
pub record IsAfterLaid (words : List (List ℕ)) (word : List ℕ) : Type 0 where
  pub more : List (List ℕ)
  pub after : AreAfter verbs.Lay words more
  pub rsdp : Option ℕ
  pub rest : List (List ℕ)
  pub is_rest : IsRest more rsdp rest
  pub folder : List ℕ
  pub file : List ℕ
  pub base : List ℕ
  pub others : List (List ℕ)
  pub is : rest ≡ folder ∷ file ∷ base ∷ word ∷ others

-- so many words after `lay` or `lay --rsdp ADDRESS`
pub record HasLeft (words : List (List ℕ)) (count : ℕ) : Type 0 where
  pub more : List (List ℕ)
  pub after : AreAfter verbs.Lay words more
  pub rsdp : Option ℕ
  pub rest : List (List ℕ)
  pub is_rest : IsRest more rsdp rest
  pub are : length rest ≡ count

-- a word after `loader FOLDER OUT`
pub record IsAfterLoaded (words : List (List ℕ)) (word : List ℕ) : Type 0 where
  pub more : List (List ℕ)
  pub after : AreAfter verbs.Loader words more
  pub folder : List ℕ
  pub to : List ℕ
  pub others : List (List ℕ)
  pub is : more ≡ folder ∷ to ∷ word ∷ others

-- a word after `repair FILE OUT`
pub record IsAfterRepaired (words : List (List ℕ)) (word : List ℕ) : Type 0 where
  pub more : List (List ℕ)
  pub after : AreAfter verbs.Repair words more
  pub name : List ℕ
  pub file : List ℕ
  pub others : List (List ℕ)
  pub is : more ≡ name ∷ file ∷ word ∷ others

-- a word after `diff FILE FILE`
pub record IsAfterCompared (words : List (List ℕ)) (word : List ℕ) : Type 0 where
  pub more : List (List ℕ)
  pub after : AreAfter verbs.Diff words more
  pub first : List ℕ
  pub second : List ℕ
  pub others : List (List ℕ)
  pub is : more ≡ first ∷ second ∷ word ∷ others

-- a word after `tree FILE`
pub record IsAfterDrawn (words : List (List ℕ)) (word : List ℕ) : Type 0 where
  pub more : List (List ℕ)
  pub after : AreAfter verbs.Tree words more
  pub file : List ℕ
  pub others : List (List ℕ)
  pub is : after_option verbs.Tree more ≡ file ∷ word ∷ others

-- the word in the place of BASE after `lay` isn't an address
pub record IsNoLayBase (words : List (List ℕ)) (word : List ℕ) : Type 0 where
  pub more : List (List ℕ)
  pub after : AreAfter verbs.Lay words more
  pub rsdp : Option ℕ
  pub rest : List (List ℕ)
  pub is_rest : IsRest more rsdp rest
  pub folder : List ℕ
  pub file : List ℕ
  pub is : rest ≡ folder ∷ file ∷ word ∷ []
  pub not : (base : ℕ) → ¬ IsAddress word base

-- the word after `lay --rsdp` isn't an address
pub record IsNoPointer (words : List (List ℕ)) (word : List ℕ) : Type 0 where
  pub more : List (List ℕ)
  pub after : AreAfter verbs.Lay words more
  pub option : List ℕ
  pub rest : List (List ℕ)
  pub is : more ≡ option ∷ word ∷ rest
  pub leads : bytes_eq option (codes "--rsdp") ≡ true
  pub not : (base : ℕ) → ¬ IsAddress word base

-- the word in the place of BASE after `unpack` isn't an address
pub record IsNoUnpackBase (words : List (List ℕ)) (word : List ℕ) : Type 0 where
  pub more : List (List ℕ)
  pub after : AreAfter verbs.Unpack words more
  pub file : List ℕ
  pub folder : List ℕ
  pub is : more ≡ file ∷ folder ∷ word ∷ []
  pub not : (base : ℕ) → ¬ IsAddress word base

-- the word in the place of BASE isn't an address
pub record IsNoBase (words : List (List ℕ)) (word : List ℕ) : Type 0 where
  pub more : List (List ℕ)
  pub after : AreAfter verbs.Image words more
  pub file : List ℕ
  pub is : after_option verbs.Image more ≡ file ∷ word ∷ []
  pub not : (base : ℕ) → ¬ IsAddress word base

-- why words ask for nothing
abbrev pub IsWrong : List (List ℕ) → Wrong → Type 0
IsWrong words NoCommand = words ≡ []
IsWrong words (Unknown word) =
    IsNoCommand words word.now ⊎ IsNoOption false words word.now ⊎ IsAfterBase words word.now ⊎ IsAfterFile words word.now
    ⊎ IsAfterUnpacked words word.now ⊎ IsAfterArchive words word.now ⊎ IsAfterLaid words word.now
    ⊎ IsAfterCompared words word.now ⊎ IsAfterLoaded words word.now ⊎ IsAfterSignature words word.now
    ⊎ IsAfterDrawn words word.now ⊎ IsAfterRepaired words word.now
IsWrong words (Misplaced word) = IsNoOption true words word.now
IsWrong words NoFile = (more : List (List ℕ)) × AreAfter verbs.Show words more × (files_after more ≡ 0)
IsWrong words NoFileToCheck =
    (more : List (List ℕ)) × AreAfter verbs.Check words more × (length (after_option verbs.Check more) ≡ 0)
IsWrong words NoImage =
    (more : List (List ℕ)) × AreAfter verbs.Image words more × (length (after_option verbs.Image more) ≡ 0)
IsWrong words NoSignature = words ≡ codes "template" ∷ []
IsWrong words NoBlock =
    ((more : List (List ℕ)) × AreAfter verbs.Disassemble words more × (file_count more ≡ 0))
    ⊎ ((more : List (List ℕ)) × AreAfter verbs.Names words more × (file_count (after_option verbs.Names more) ≡ 0))
IsWrong words (Signature word) =
    (more : List (List ℕ)) × AreAfter verbs.Template words more × (more ≡ word.now ∷ []) × (length word.now ≢ 4)
IsWrong words NoText = (more : List (List ℕ)) × AreAfter verbs.Make words more × (unforced more ≡ [])
IsWrong words NoTable =
    ((more : List (List ℕ)) × AreAfter verbs.Make words more × (length (unforced more) ≡ 1))
    ⊎ ((more : List (List ℕ)) × AreAfter verbs.Repair words more × (length more ≡ 1))
IsWrong words NoPacked = words ≡ codes "unpack" ∷ []
IsWrong words NoFolder =
    ((more : List (List ℕ)) × AreAfter verbs.Unpack words more × (length more ≡ 1))
    ⊎ ((more : List (List ℕ)) × AreAfter verbs.Loader words more × (length more ≡ 1))
IsWrong words NoTables =
    (words ≡ codes "cpio" ∷ []) ⊎ HasLeft words 0 ⊎ (words ≡ codes "loader" ∷ [])
IsWrong words NoArchive = (more : List (List ℕ)) × AreAfter verbs.Cpio words more × (length more ≡ 1)
IsWrong words NoImageFile = HasLeft words 1
IsWrong words NoBase = HasLeft words 2
IsWrong words NoPointer =
    (more : List (List ℕ)) × AreAfter verbs.Lay words more × (begins_with (codes "--rsdp") more ≡ true) × (length more ≡ 1)
IsWrong words NoDamaged = words ≡ codes "repair" ∷ []
IsWrong words NoFirst = words ≡ codes "diff" ∷ []
IsWrong words NoSecond = (more : List (List ℕ)) × AreAfter verbs.Diff words more × (length more ≡ 1)
IsWrong words NoDrawing =
    (more : List (List ℕ)) × AreAfter verbs.Tree words more × (length (after_option verbs.Tree more) ≡ 0)
IsWrong words (Base word) =
    IsNoBase words word.now ⊎ IsNoUnpackBase words word.now ⊎ IsNoLayBase words word.now ⊎ IsNoPointer words word.now
IsWrong words (Number word) = ⊥
IsWrong words Twice = ⊥
