-- What is wrong with the bytes of a file, in words.
use Rattle.std.specs.Prelude.{◌≡◌, ◌≢◌, ◌⊎◌, ℕ, ◌+◌, List, ◌++◌, Option, Some, None, codes}
use Rattle.std.specs.Fmt.{decimal}
use Rattle.std.specs.Option.{option_map}
use Rattle.acpi_forms.specs.Words.{words, words_by}
use Rattle.acpi_make.specs.declared.file_kind.FileKind.{FileKind}
use Rattle.acpi_term.specs.ReadError.{offset_of}
use Rattle.acpi_term.specs.declared.read_error.ReadError.{ReadError}
use Rattle.acpi_term.specs.declared.read_error.ReadError.TheVariants.{Memory}
use Rattle.acpitool_program.specs.Another.{another_of, another_words}
use Rattle.acpitool_program.specs.declared.another.Another.{Another}
use Rattle.acpitool_program.specs.declared.fault.Fault.{Fault}

-- the words after the offset, if there is one
abbrev pub placed : Option ℕ → List ℕ → List ℕ
placed (Some offset) text = codes "at " ++ decimal offset ++ codes ": " ++ text
placed None text = text

-- the line of a fault, without its end
abbrev pub line_of : Fault → List ℕ
line_of fault = placed fault.place fault.words.now

-- a fault with this offset, if there is one, and these words
abbrev pub Says : Option ℕ → List ℕ → Fault → Type 0
Says place text fault = (fault.place ≡ place) × (fault.words.now ≡ text)

-- the fault of an error in bytes that their signature calls this
abbrev pub IsFaultOf : FileKind → ReadError → Fault → Type 0
IsFaultOf kind error = Says (offset_of error) (words_by kind error)

-- bytes are no table, and a fault says what they are
pub record IsFaultOfAnother (bytes : List ℕ) (fault : Fault) : Type 0 where
  pub another : Another
  pub is : another_of bytes ≡ Some another
  pub says : Says None (another_words another) fault

-- they are no dump and no other text, and a fault says of what they are by their signature what is wrong, or memory ran out
pub record IsFaultOfTable (kind : FileKind) (error : ReadError) (bytes : List ℕ) (fault : Fault) : Type 0 where
  pub none : error ≢ Memory → another_of bytes ≡ None
  pub says : IsFaultOf kind error fault

-- the fault of an error in the bytes of a file
abbrev pub IsFaultIn : FileKind → ReadError → List ℕ → Fault → Type 0
IsFaultIn kind error bytes fault = IsFaultOfAnother bytes fault ⊎ IsFaultOfTable kind error bytes fault

-- the fault of an error in terms that begin at an offset
abbrev pub IsFaultAfter : ℕ → ReadError → Fault → Type 0
IsFaultAfter start error = Says (option_map (λ n. start + n) (offset_of error)) (words error)
