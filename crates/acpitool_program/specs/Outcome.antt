-- What a run prints.
use Rattle.std.specs.Prelude.{◌≡◌, ◌≢◌, ◌⊎◌, ℕ, max, Bool, true, false, List, [], ◌∷◌, ◌++◌, Option, Some, None, Ok, Err, map}
use Rattle.std.specs.Prelude.{codes, not}
use Rattle.std.specs.Str.{bytes_eq}
use Rattle.std.specs.Io.KnownBytes.{Appends}
use Rattle.acpi_dump.specs.Dump.{is_dump, tables_of}
use Rattle.acpi_dump.specs.Fault.{text_of}
use Rattle.acpi_dump.specs.declared.fault.DumpFault.{DumpFault}
use Rattle.acpi_layout.specs.Addresses.{Space, image_at}
use Rattle.acpi_layout.specs.Found.{contents}
use Rattle.acpi_layout.specs.declared.located.Located.{Located}
use Rattle.acpi_text.specs.Comment.{comment}
use Rattle.acpi_forms.specs.Kind.{kind_of}
use Rattle.acpi_read.specs.Report.{printable}
use Rattle.acpi_rules.specs.Finding.{Finding}
use Rattle.acpi_tree.specs.Image.{title}
use Rattle.acpitool_program.specs.Checked.{AreFindings, printed_findings, finding_status}
use Rattle.acpitool_program.specs.Fault.{line_of}
use Rattle.acpitool_program.specs.Image.{IsFoundImage}
use Rattle.acpitool_program.specs.Job.{Job, gathers, shows, checks, lists}
use Rattle.acpitool_program.specs.Listing.{IsNoImage, why}
use Rattle.acpitool_program.specs.Object.{IsObject}
use Rattle.acpitool_program.specs.Placed.{IsPlaced}
use Rattle.acpitool_program.specs.Shown.{IsShownAs, IsShownFault}
use Rattle.acpitool_program.specs.Structures.{HasFault}
use Rattle.acpitool_program.specs.Text.{IsKind, IsTextFault}
use Rattle.acpitool_program.specs.declared.fault.Fault.{Fault}
use Rattle.acpitool_program.specs.declared.image.NoImage.{NoImage}

-- What comes of a table or of a file that has a name:
-- - gathered: its bytes are what their signature says, and it is kept;
-- - shown: its text, after its name if that isn't the only word, and before further lines, and a fault of its terms or of its
--   structures, if there is one;
-- - checked: the rules that its bytes break, as JSON or as text, and a fault of its structures, if there is one;
-- - listed: the object of its bytes, which has a line, and a fault of its structures, if there is one;
-- - refused: its bytes aren't what their signature says;
-- - broken: it is a dump as text, with a line that can't be read;
-- - imageless: its bytes are no image from a base on;
-- - unread: it can't be read, and the system says why.
pub data Outcome : Type 0 where
  gathered : List ℕ → List ℕ → Outcome
  shown : Bool → List ℕ → List ℕ → List ℕ → List ℕ → Option Fault → Outcome
  checked : Bool → List ℕ → List ℕ → List Finding → Option Fault → Outcome
  listed : List ℕ → List ℕ → List ℕ → Option Fault → Outcome
  refused : List ℕ → List ℕ → Fault → Outcome
  broken : List ℕ → List ℕ → DumpFault → Outcome
  imageless : List ℕ → ℕ → List ℕ → NoImage → Outcome
  unread : List ℕ → List ℕ → Outcome

-- whether the table of this name is all that was asked for: the name is the only word
abbrev pub is_alone : List (List ℕ) → List ℕ → Bool
is_alone (file ∷ []) name = bytes_eq file name
is_alone files name = false

-- the lines before a text: its name as a comment, if there is more
abbrev pub heading : Bool → List ℕ → List ℕ
heading true name = comment name
heading false name = []

-- what goes to standard output
abbrev pub output : Outcome → List ℕ
output (gathered name bytes) = []
output (shown more name bytes text after fault) = heading more name ++ text ++ after
output (checked json name bytes findings fault) = printed_findings json name bytes findings
output (listed name bytes object fault) = object ++ 10 ∷ []
output (refused name bytes fault) = []
output (broken name dump fault) = []
output (imageless name base bytes fault) = []
output (unread name why) = []

-- the line of a fault, if there is one
abbrev pub fault_line : List ℕ → Option Fault → List ℕ
fault_line name None = []
fault_line name (Some fault) = name ++ codes ": " ++ line_of fault ++ 10 ∷ []

-- what goes to standard error
abbrev pub complaint : Outcome → List ℕ
complaint (gathered name bytes) = []
complaint (shown more name bytes text after fault) = fault_line name fault
complaint (checked json name bytes findings fault) = fault_line name fault
complaint (listed name bytes object fault) = fault_line name fault
complaint (refused name bytes fault) = fault_line name (Some fault)
complaint (broken name dump fault) = name ++ codes ": " ++ text_of fault ++ 10 ∷ []
complaint (imageless name base bytes fault) = name ++ codes ": " ++ why base fault ++ 10 ∷ []
complaint (unread name why) = name ++ codes ": " ++ why ++ 10 ∷ []

abbrev pub fault_status : Option Fault → ℕ
fault_status None = 0
fault_status (Some fault) = 1

abbrev pub status : Outcome → ℕ
status (gathered name bytes) = 0
status (shown more name bytes text after fault) = fault_status fault
status (checked json name bytes findings fault) = max (finding_status findings) (fault_status fault)
status (listed name bytes object fault) = fault_status fault
status (refused name bytes fault) = 1
status (broken name dump fault) = 1
status (imageless name base bytes fault) = 1
status (unread name why) = 2

-- The bytes are what their signature says.
abbrev pub IsGatheredFor : Job → List ℕ → Type 0
IsGatheredFor gathers bytes = IsKind (kind_of bytes) bytes
IsGatheredFor job bytes = ⊥

-- The text and the lines after it are those that `show` prints of the bytes with its option, and the fault is that of the terms
-- or of the structures. The name stands before them if it isn't the only word.
abbrev pub IsTextFor : Job → Bool → List ℕ → List ℕ → List ℕ → List ℕ → Option Fault → Type 0
IsTextFor (shows style files stated further) more name bytes text after fault =
    (more ≡ not (is_alone files name))
    × (unread : Option Fault)
    × IsShownAs style stated further bytes text after unread
    × IsShownFault unread bytes fault
IsTextFor job more name bytes text after fault = ⊥

-- These are the rules that the bytes break, and they are printed as it was asked for.
abbrev pub AreFindingsFor : Job → Bool → List ℕ → List Finding → Type 0
AreFindingsFor (checks asked) json bytes found = (json ≡ asked) × AreFindings bytes found
AreFindingsFor job json bytes found = ⊥

-- This is the object of the bytes in a file of this name.
abbrev pub IsObjectFor : Job → List ℕ → List ℕ → List ℕ → Type 0
IsObjectFor lists name bytes object = IsObject name bytes object
IsObjectFor job name bytes object = ⊥

-- A table is gathered, shown, checked or listed, as it was asked for. The fault is one of the structures or of the bytes, or the
-- first of a dump.
abbrev pub IsTrueOutcome : Job → Outcome → Type 0
IsTrueOutcome job (gathered name bytes) = IsGatheredFor job bytes
IsTrueOutcome job (shown more name bytes text after fault) = IsTextFor job more name bytes text after fault
IsTrueOutcome job (checked json name bytes found fault) =
    AreFindingsFor job json bytes found × HasFault (kind_of bytes) bytes fault
IsTrueOutcome job (listed name bytes object fault) = IsObjectFor job name bytes object × HasFault (kind_of bytes) bytes fault
IsTrueOutcome job (refused name bytes fault) = IsTextFault bytes fault
IsTrueOutcome job (broken name dump fault) = tables_of dump ≡ Err fault
IsTrueOutcome job (imageless name base bytes fault) = IsNoImage base bytes fault
IsTrueOutcome job (unread name why) = Unit {0}

-- ---- one after another

abbrev pub outputs : List Outcome → List ℕ
outputs [] = []
outputs (outcome ∷ more) = output outcome ++ outputs more

abbrev pub complaints : List Outcome → List ℕ
complaints [] = []
complaints (outcome ∷ more) = complaint outcome ++ complaints more

-- the greatest status, 0 if all are shown
abbrev pub worst : List Outcome → ℕ
worst [] = 0
worst (outcome ∷ more) = max (status outcome) (worst more)

abbrev pub AreTrueOutcomes : Job → List Outcome → Type 0
AreTrueOutcomes job [] = Unit {0}
AreTrueOutcomes job (outcome ∷ more) = IsTrueOutcome job outcome × AreTrueOutcomes job more

-- these outcomes were printed in order, and the worst status was returned
pub record Printed (job : Job) (outcomes : List Outcome)
    (out out' err err' : Option (List ℕ)) (returned : ℕ) : Type 0 where
  pub are : AreTrueOutcomes job outcomes
  pub wrote : Appends out out' (outputs outcomes)
  pub complained : Appends err err' (complaints outcomes)
  pub is : returned ≡ worst outcomes

-- ---- of which bytes

-- the outcome is that of these bytes
abbrev pub HasBytes : List ℕ → Outcome → Type 0
HasBytes bytes (gathered name its) = its ≡ bytes
HasBytes bytes (shown more name its text after fault) = its ≡ bytes
HasBytes bytes (checked json name its found fault) = its ≡ bytes
HasBytes bytes (listed name its object fault) = its ≡ bytes
HasBytes bytes (refused name its fault) = its ≡ bytes
HasBytes bytes (broken name dump fault) = ⊥
HasBytes bytes (imageless name base its fault) = ⊥
HasBytes bytes (unread name why) = ⊥

-- the outcome has this name
abbrev pub IsNamed : List ℕ → Outcome → Type 0
IsNamed name (gathered its bytes) = its ≡ name
IsNamed name (shown more its bytes text after fault) = its ≡ name
IsNamed name (checked json its bytes found fault) = its ≡ name
IsNamed name (listed its bytes object fault) = its ≡ name
IsNamed name (refused its bytes fault) = its ≡ name
IsNamed name (broken its dump fault) = its ≡ name
IsNamed name (imageless its base bytes fault) = its ≡ name
IsNamed name (unread its why) = its ≡ name

-- each outcome is that of its table, which is a name and bytes
abbrev pub AreEach : List (List ℕ × List ℕ) → List Outcome → Type 0
AreEach [] [] = Unit {0}
AreEach (table ∷ tables) (outcome ∷ more) =
    IsNamed table.0 outcome × HasBytes table.1 outcome × AreEach tables more
AreEach _ _ = ⊥

-- the outcomes are those of these tables, in order
pub record AreOfTables (tables : List (List ℕ × List ℕ)) (outcomes : List Outcome) : Type 0 where
  pub each : AreEach tables outcomes

-- the name of a table of a dump or an image: that of the file, and the table's title, in which a question mark stands for what
-- doesn't print
abbrev pub label : List ℕ → List ℕ → List ℕ
label name title = name ++ codes ": " ++ map printable title

abbrev pub labelled : List ℕ → List ℕ × List ℕ → List ℕ × List ℕ
labelled name table = (label name table.0, table.1)

-- a dump has outcomes of its tables, or one that says what is wrong with it
abbrev pub AreOfDump : List ℕ → List ℕ → List Outcome → Type 0
AreOfDump name dump outcomes =
    ((tables : List (List ℕ × List ℕ)) × (tables_of dump ≡ Ok tables) × AreOfTables (map (labelled name) tables) outcomes)
    ⊎ ((fault : DumpFault) × (outcomes ≡ broken name dump fault ∷ []))

-- a table of an image, whose title is its signature
abbrev pub in_image : List ℕ → Space → Located → List ℕ × List ℕ
in_image name memory table = labelled name (title table.signature, contents memory table)

-- an image has outcomes of its tables, as a dump, or one that says why the bytes are none
abbrev pub AreOfImage : List ℕ → ℕ → List ℕ → List Outcome → Type 0
AreOfImage name base bytes outcomes =
    ((tables : List Located) × IsFoundImage base bytes tables
    × AreOfTables (map (in_image name (image_at base bytes)) tables) outcomes)
    ⊎ ((fault : NoImage) × (outcomes ≡ imageless name base bytes fault ∷ []))

-- other bytes have one outcome
abbrev pub AreOfBytesBy : Bool → List ℕ → List ℕ → List Outcome → Type 0
AreOfBytesBy true name bytes outcomes = AreOfDump name bytes outcomes
AreOfBytesBy false name bytes outcomes = AreOfTables ((name, bytes) ∷ []) outcomes

-- the outcomes of a file's bytes
abbrev pub AreOfBytes : List ℕ → List ℕ → List Outcome → Type 0
AreOfBytes name bytes outcomes = AreOfBytesBy (is_dump bytes) name bytes outcomes

-- ---- of which files

-- the outcome of a file or a folder that can't be read
abbrev pub IsUnread : List ℕ → List Outcome → Type 0
IsUnread name outcomes = (why : List ℕ) × (outcomes ≡ unread name why ∷ [])

-- the outcomes of a file: the system says which bytes it has
abbrev pub AreOfFile : List ℕ → List Outcome → Type 0
AreOfFile name outcomes = ((bytes : List ℕ) × AreOfBytes name bytes outcomes) ⊎ IsUnread name outcomes

-- each word has a group of outcomes, in order
abbrev pub AreGroups : (List ℕ → List Outcome → Type 0) → List (List ℕ) → List (List Outcome) → Type 0
AreGroups Of [] [] = Unit {0}
AreGroups Of (word ∷ words) (group ∷ groups) = Of word group × AreGroups Of words groups
AreGroups Of _ _ = ⊥

abbrev pub joined : List (List Outcome) → List Outcome
joined [] = []
joined (group ∷ groups) = group ++ joined groups

-- the outcomes are those of each word, one after another
pub record AreOfEach (Of : List ℕ → List Outcome → Type 0) (words : List (List ℕ)) (outcomes : List Outcome) : Type 0 where
  pub groups : List (List Outcome)
  pub each : AreGroups Of words groups
  pub are : outcomes ≡ joined groups

-- the outcomes of a folder: the system says which files it has
abbrev pub AreOfFolder : List ℕ → List Outcome → Type 0
AreOfFolder folder outcomes =
    ((paths : List (List ℕ)) × AreOfEach AreOfFile paths outcomes) ⊎ IsUnread folder outcomes

-- the outcomes of the image in a file, from a base on
abbrev pub AreOfImageFile : List ℕ → ℕ → List Outcome → Type 0
AreOfImageFile file base outcomes = ((bytes : List ℕ) × AreOfImage file base bytes outcomes) ⊎ IsUnread file outcomes

-- the outcomes of a word FILE@BASE
abbrev pub AreOfPlaced : List ℕ → List Outcome → Type 0
AreOfPlaced word outcomes = (file : List ℕ) × (base : ℕ) × IsPlaced word file base × AreOfImageFile file base outcomes

-- the outcomes of a word: `-` is standard input, and any other word a file, a folder or an image
abbrev pub AreOfWord : List ℕ → List Outcome → Type 0
AreOfWord word outcomes =
    AreOfFile word outcomes
    ⊎ ((word ≢ codes "-") × AreOfFolder word outcomes)
    ⊎ AreOfPlaced word outcomes

-- ---- what calls print

-- the tables that are kept, each with its name: those that were gathered or checked
abbrev pub kept_of : Outcome → List (List ℕ × List ℕ)
kept_of (gathered name bytes) = (name, bytes) ∷ []
kept_of (shown more name bytes text after fault) = []
kept_of (checked json name bytes findings fault) = (name, bytes) ∷ []
kept_of (listed name bytes object fault) = []
kept_of (refused name bytes fault) = []
kept_of (broken name dump fault) = []
kept_of (imageless name base bytes fault) = []
kept_of (unread name why) = []

abbrev pub kept_in : List Outcome → List (List ℕ × List ℕ)
kept_in [] = []
kept_in (outcome ∷ more) = kept_of outcome ++ kept_in more

-- outcomes that are these were printed
pub record PrintedAs (job : Job) (Are : List Outcome → Type 0)
    (out out' err err' : Option (List ℕ)) (returned : ℕ) : Type 0 where
  pub outcomes : List Outcome
  pub are : Are outcomes
  pub printed : Printed job outcomes out out' err err' returned

-- the same, and the tables that they keep were added to others
pub record KeptAs (job : Job) (Are : List Outcome → Type 0) (out out' err err' : Option (List ℕ))
    (kept kept' : List (List ℕ × List ℕ)) (returned : ℕ) : Type 0 where
  pub outcomes : List Outcome
  pub are : Are outcomes
  pub printed : Printed job outcomes out out' err err' returned
  pub keeps : kept' ≡ kept ++ kept_in outcomes
