-- Operators: the facts about each, and the operator of each opcode (ACPI 6.5, 20.2.5 and 20.3).
use Rattle.std.specs.Prelude.{◌≡◌, ℕ, List, [], ◌∷◌, Option, codes}
use Rattle.std.specs.List.{find}
use Rattle.std.specs.Str.{bytes_eq}
use Rattle.acpi_term.specs.declared.language.Language.{Language}
use Rattle.acpi_term.specs.declared.language.Language.TheVariants.{Written, Standard}
use Rattle.acpi_term.specs.declared.mode.Mode.{Mode}
use Rattle.acpi_term.specs.declared.mode.Mode.TheVariants.{Term, Element, Count, Searched, Acquired, Released}
use Rattle.acpi_term.specs.declared.op.Op.{Op}
use Rattle.acpi_term.specs.declared.op.Op.TheVariants as op

-- A target counts as an operand, and so does the name that an operator creates.
pub record Facts : Type 0 where
  pub opcode : List ℕ
  pub operands : ℕ
  -- its word in a report
  pub word : List ℕ
  -- the least language that has it
  pub language : Language
  -- the place of its first operand in the language of the standard
  pub place : Mode

abbrev pub known : List ℕ → ℕ → List ℕ → Facts
known code count text = record { opcode = code; operands = count; word = text; language = Written; place = Term }

-- the same, where the first operand has another place in the standard
abbrev pub known_naming : List ℕ → ℕ → List ℕ → Mode → Facts
known_naming code count text first = record { opcode = code; operands = count; word = text; language = Written; place = first }

-- an operator that only the standard has
abbrev pub other : List ℕ → ℕ → List ℕ → Facts
other code count text = record { opcode = code; operands = count; word = text; language = Standard; place = Term }

-- the same, where the first operand has another place
abbrev pub naming : List ℕ → ℕ → List ℕ → Mode → Facts
naming code count text first = record { opcode = code; operands = count; word = text; language = Standard; place = first }

abbrev pub facts : Op → Facts
facts op.LNot = known (0x92 ∷ []) 1 (codes "lnot")
facts op.LEqual = known (0x93 ∷ []) 2 (codes "lequal")
facts op.LLess = known (0x95 ∷ []) 2 (codes "lless")
facts op.LGreater = known (0x94 ∷ []) 2 (codes "lgreater")
facts op.LAnd = known (0x90 ∷ []) 2 (codes "land")
facts op.LOr = known (0x91 ∷ []) 2 (codes "lor")
facts op.Increment = known (0x75 ∷ []) 1 (codes "increment")
facts op.Decrement = known (0x76 ∷ []) 1 (codes "decrement")
facts op.Break = known (0xa5 ∷ []) 0 (codes "break")
facts op.ObjectType = known_naming (0x8e ∷ []) 1 (codes "objecttype") Element
facts op.SizeOf = known (0x87 ∷ []) 1 (codes "sizeof")
facts op.Return = known (0xa4 ∷ []) 1 (codes "return")
facts op.DeRefOf = known (0x83 ∷ []) 1 (codes "derefof")
facts op.Add = known (0x72 ∷ []) 3 (codes "add")
facts op.Concat = known (0x73 ∷ []) 3 (codes "concat")
facts op.Subtract = known (0x74 ∷ []) 3 (codes "subtract")
facts op.Multiply = known (0x77 ∷ []) 3 (codes "multiply")
facts op.ShiftLeft = known (0x79 ∷ []) 3 (codes "shiftleft")
facts op.ShiftRight = known (0x7a ∷ []) 3 (codes "shiftright")
facts op.And = known (0x7b ∷ []) 3 (codes "and")
facts op.Nand = known (0x7c ∷ []) 3 (codes "nand")
facts op.Or = known (0x7d ∷ []) 3 (codes "or")
facts op.Nor = known (0x7e ∷ []) 3 (codes "nor")
facts op.Xor = known (0x7f ∷ []) 3 (codes "xor")
facts op.ConcatRes = known (0x84 ∷ []) 3 (codes "concatres")
facts op.Mod = known (0x85 ∷ []) 3 (codes "mod")
facts op.Index = known (0x88 ∷ []) 3 (codes "index")
facts op.ToString = known (0x9c ∷ []) 3 (codes "tostring")
facts op.CreateDWordField = known (0x8a ∷ []) 3 (codes "createdwordfield")
facts op.CreateQWordField = known (0x8f ∷ []) 3 (codes "createqwordfield")
facts op.ToBuffer = known (0x96 ∷ []) 2 (codes "tobuffer")
facts op.ToInteger = known (0x99 ∷ []) 2 (codes "tointeger")
facts op.Store = known (0x70 ∷ []) 2 (codes "store")
facts op.Notify = known (0x86 ∷ []) 2 (codes "notify")
facts op.Mid = known (0x9e ∷ []) 4 (codes "mid")
facts op.CreateField = known (0x5b ∷ 0x13 ∷ []) 4 (codes "createfield")
facts op.Alias = naming (0x06 ∷ []) 2 (codes "alias") Element
facts op.RefOf = naming (0x71 ∷ []) 1 (codes "refof") Element
facts op.Divide = other (0x78 ∷ []) 4 (codes "divide")
facts op.Not = other (0x80 ∷ []) 2 (codes "not")
facts op.FindSetLeftBit = other (0x81 ∷ []) 2 (codes "findsetleftbit")
facts op.FindSetRightBit = other (0x82 ∷ []) 2 (codes "findsetrightbit")
facts op.Match = naming (0x89 ∷ []) 4 (codes "match") Searched
facts op.CreateWordField = other (0x8b ∷ []) 3 (codes "createwordfield")
facts op.CreateByteField = other (0x8c ∷ []) 3 (codes "createbytefield")
facts op.CreateBitField = other (0x8d ∷ []) 3 (codes "createbitfield")
facts op.ToDecimalString = other (0x97 ∷ []) 2 (codes "todecimalstring")
facts op.ToHexString = other (0x98 ∷ []) 2 (codes "tohexstring")
facts op.CopyObject = naming (0x9d ∷ []) 2 (codes "copyobject") Count
facts op.Continue = other (0x9f ∷ []) 0 (codes "continue")
facts op.Noop = other (0xa3 ∷ []) 0 (codes "noop")
facts op.BreakPoint = other (0xcc ∷ []) 0 (codes "breakpoint")
facts op.Event = naming (0x5b ∷ 0x02 ∷ []) 1 (codes "event") Element
facts op.CondRefOf = naming (0x5b ∷ 0x12 ∷ []) 2 (codes "condrefof") Element
facts op.LoadTable = other (0x5b ∷ 0x1f ∷ []) 6 (codes "loadtable")
facts op.Load = naming (0x5b ∷ 0x20 ∷ []) 2 (codes "load") Element
facts op.Stall = other (0x5b ∷ 0x21 ∷ []) 1 (codes "stall")
facts op.Sleep = other (0x5b ∷ 0x22 ∷ []) 1 (codes "sleep")
facts op.Signal = other (0x5b ∷ 0x24 ∷ []) 1 (codes "signal")
facts op.Wait = other (0x5b ∷ 0x25 ∷ []) 2 (codes "wait")
facts op.Reset = other (0x5b ∷ 0x26 ∷ []) 1 (codes "reset")
facts op.FromBCD = other (0x5b ∷ 0x28 ∷ []) 2 (codes "frombcd")
facts op.ToBCD = other (0x5b ∷ 0x29 ∷ []) 2 (codes "tobcd")
facts op.Unload = other (0x5b ∷ 0x2a ∷ []) 1 (codes "unload")
facts op.Revision = other (0x5b ∷ 0x30 ∷ []) 0 (codes "revision")
facts op.Debug = other (0x5b ∷ 0x31 ∷ []) 0 (codes "debug")
facts op.Timer = other (0x5b ∷ 0x33 ∷ []) 0 (codes "timer")
facts op.DataRegion = other (0x5b ∷ 0x88 ∷ []) 4 (codes "dataregion")
facts op.Acquire = naming (0x5b ∷ 0x23 ∷ []) 2 (codes "acquire") Acquired
facts op.Release = naming (0x5b ∷ 0x27 ∷ []) 1 (codes "release") Released

abbrev pub opcode : Op → List ℕ
opcode o = (facts o).opcode

abbrev pub operands : Op → ℕ
operands o = (facts o).operands

abbrev pub word : Op → List ℕ
word o = (facts o).word

abbrev pub language_of : Op → Language
language_of o = (facts o).language

-- the place of its first operand: in what this library writes, each operand stands as a term
abbrev pub place : Language → Op → Mode
place Written o = Term
place Standard o = (facts o).place

-- both languages have the operator, with n operands
abbrev pub IsKnown : Op → ℕ → Type 0
IsKnown o n = ◌≡◌ {A = Language × ℕ} (language_of o, operands o) (Written, n)

abbrev pub operators : List Op
operators =
    op.LNot ∷ op.LEqual ∷ op.LLess ∷ op.LGreater ∷ op.LAnd ∷ op.LOr ∷ op.Increment ∷ op.Decrement ∷ op.Break ∷ op.ObjectType ∷
    op.SizeOf ∷ op.Return ∷ op.DeRefOf ∷ op.Add ∷ op.Concat ∷ op.Subtract ∷ op.Multiply ∷ op.ShiftLeft ∷ op.ShiftRight ∷
    op.And ∷ op.Nand ∷ op.Or ∷ op.Nor ∷ op.Xor ∷ op.ConcatRes ∷ op.Mod ∷ op.Index ∷ op.ToString ∷ op.CreateDWordField ∷
    op.CreateQWordField ∷ op.ToBuffer ∷ op.ToInteger ∷ op.Store ∷ op.Notify ∷ op.Mid ∷ op.CreateField ∷
    op.Alias ∷ op.RefOf ∷ op.Divide ∷ op.Not ∷ op.FindSetLeftBit ∷ op.FindSetRightBit ∷ op.Match ∷
    op.CreateWordField ∷ op.CreateByteField ∷ op.CreateBitField ∷ op.ToDecimalString ∷ op.ToHexString ∷ op.CopyObject ∷
    op.Continue ∷ op.Noop ∷ op.BreakPoint ∷ op.Event ∷ op.CondRefOf ∷ op.LoadTable ∷ op.Load ∷ op.Stall ∷ op.Sleep ∷
    op.Signal ∷ op.Wait ∷ op.Reset ∷ op.FromBCD ∷ op.ToBCD ∷ op.Unload ∷ op.Revision ∷ op.Debug ∷ op.Timer ∷
    op.DataRegion ∷ op.Acquire ∷ op.Release ∷ []

-- the operator of an opcode
unfoldable pub op_of : List ℕ → Option Op
op_of code = find (λ o. bytes_eq (opcode o) code) operators
