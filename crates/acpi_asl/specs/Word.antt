-- The words of ASL (ACPI 6.5, 19.2 and 19.6).
use Rattle.std.specs.Prelude.{ℕ, Bool, if◌then◌else◌, List, [], ◌∷◌, codes}
use Rattle.acpi_term.specs.declared.op.Op.{Op}
use Rattle.acpi_term.specs.declared.op.Op.TheVariants as op
use Rattle.acpi_terms_text.specs.Word.{word_in}
use Rattle.acpi_asl.specs.Number.{hex}
use Rattle.acpi_asl.specs.declared.word.Keyword.{Keyword}
use Rattle.acpi_asl.specs.declared.word.Keyword.TheVariants.{AccessType, AccessAttribute, ExtendedAttribute, LockRule}
use Rattle.acpi_asl.specs.declared.word.Keyword.TheVariants.{UpdateRule, RegionSpace, ObjectType, MatchOperator}

-- ---- operators (ACPI 6.5, 19.2.5)

abbrev pub operator_word : Op → List ℕ
operator_word op.LNot = codes "LNot"
operator_word op.LEqual = codes "LEqual"
operator_word op.LLess = codes "LLess"
operator_word op.LGreater = codes "LGreater"
operator_word op.LAnd = codes "LAnd"
operator_word op.LOr = codes "LOr"
operator_word op.Increment = codes "Increment"
operator_word op.Decrement = codes "Decrement"
operator_word op.Break = codes "Break"
operator_word op.ObjectType = codes "ObjectType"
operator_word op.SizeOf = codes "SizeOf"
operator_word op.Return = codes "Return"
operator_word op.DeRefOf = codes "DerefOf"
operator_word op.Add = codes "Add"
operator_word op.Concat = codes "Concatenate"
operator_word op.Subtract = codes "Subtract"
operator_word op.Multiply = codes "Multiply"
operator_word op.ShiftLeft = codes "ShiftLeft"
operator_word op.ShiftRight = codes "ShiftRight"
operator_word op.And = codes "And"
operator_word op.Nand = codes "NAnd"
operator_word op.Or = codes "Or"
operator_word op.Nor = codes "NOr"
operator_word op.Xor = codes "XOr"
operator_word op.ConcatRes = codes "ConcatenateResTemplate"
operator_word op.Mod = codes "Mod"
operator_word op.Index = codes "Index"
operator_word op.ToString = codes "ToString"
operator_word op.CreateDWordField = codes "CreateDWordField"
operator_word op.CreateQWordField = codes "CreateQWordField"
operator_word op.ToBuffer = codes "ToBuffer"
operator_word op.ToInteger = codes "ToInteger"
operator_word op.Store = codes "Store"
operator_word op.Notify = codes "Notify"
operator_word op.Mid = codes "Mid"
operator_word op.CreateField = codes "CreateField"
operator_word op.Alias = codes "Alias"
operator_word op.RefOf = codes "RefOf"
operator_word op.Divide = codes "Divide"
operator_word op.Not = codes "Not"
operator_word op.FindSetLeftBit = codes "FindSetLeftBit"
operator_word op.FindSetRightBit = codes "FindSetRightBit"
operator_word op.Match = codes "Match"
operator_word op.CreateWordField = codes "CreateWordField"
operator_word op.CreateByteField = codes "CreateByteField"
operator_word op.CreateBitField = codes "CreateBitField"
operator_word op.ToDecimalString = codes "ToDecimalString"
operator_word op.ToHexString = codes "ToHexString"
operator_word op.CopyObject = codes "CopyObject"
operator_word op.Continue = codes "Continue"
operator_word op.Noop = codes "Noop"
operator_word op.BreakPoint = codes "BreakPoint"
operator_word op.Event = codes "Event"
operator_word op.CondRefOf = codes "CondRefOf"
operator_word op.LoadTable = codes "LoadTable"
operator_word op.Load = codes "Load"
operator_word op.Stall = codes "Stall"
operator_word op.Sleep = codes "Sleep"
operator_word op.Signal = codes "Signal"
operator_word op.Wait = codes "Wait"
operator_word op.Reset = codes "Reset"
operator_word op.FromBCD = codes "FromBCD"
operator_word op.ToBCD = codes "ToBCD"
operator_word op.Unload = codes "Unload"
operator_word op.Revision = codes "Revision"
operator_word op.Debug = codes "Debug"
operator_word op.Timer = codes "Timer"
operator_word op.DataRegion = codes "DataTableRegion"
operator_word op.Acquire = codes "Acquire"
operator_word op.Release = codes "Release"

-- ---- keywords of numbers (ACPI 6.5, 19.2.7)

-- a word, or the number where it has none
abbrev pub or_number : ℕ → List ℕ → List ℕ
or_number n [] = hex 1 n
or_number n (c ∷ word) = c ∷ word

-- access types (ACPI 6.5, 19.2.7, AccessTypeKeyword)
abbrev pub access_types : List (ℕ × List ℕ)
access_types =
    (0, codes "AnyAcc")
    ∷ (1, codes "ByteAcc")
    ∷ (2, codes "WordAcc")
    ∷ (3, codes "DWordAcc")
    ∷ (4, codes "QWordAcc")
    ∷ (5, codes "BufferAcc")
    ∷ []

-- access attributes (AccessAttribKeyword)
abbrev pub access_attributes : List (ℕ × List ℕ)
access_attributes =
    (2, codes "AttribQuick")
    ∷ (4, codes "AttribSendReceive")
    ∷ (6, codes "AttribByte")
    ∷ (8, codes "AttribWord")
    ∷ (10, codes "AttribBlock")
    ∷ (12, codes "AttribProcessCall")
    ∷ (13, codes "AttribBlockProcessCall")
    ∷ []

-- those with a length (ExtendedAttribKeyword)
abbrev pub extended_attributes : List (ℕ × List ℕ)
extended_attributes =
    (11, codes "AttribBytes")
    ∷ (14, codes "AttribRawBytes")
    ∷ (15, codes "AttribRawProcessBytes")
    ∷ []

-- lock rules (LockRuleKeyword)
abbrev pub lock_rules : List (ℕ × List ℕ)
lock_rules =
    (0, codes "NoLock")
    ∷ (1, codes "Lock")
    ∷ []

-- update rules (UpdateRuleKeyword)
abbrev pub update_rules : List (ℕ × List ℕ)
update_rules =
    (0, codes "Preserve")
    ∷ (1, codes "WriteAsOnes")
    ∷ (2, codes "WriteAsZeros")
    ∷ []

-- address spaces (RegionSpaceKeyword)
abbrev pub region_spaces : List (ℕ × List ℕ)
region_spaces =
    (0, codes "SystemMemory")
    ∷ (1, codes "SystemIO")
    ∷ (2, codes "PCI_Config")
    ∷ (3, codes "EmbeddedControl")
    ∷ (4, codes "SMBus")
    ∷ (5, codes "SystemCMOS")
    ∷ (6, codes "PciBarTarget")
    ∷ (7, codes "IPMI")
    ∷ (8, codes "GeneralPurposeIo")
    ∷ (9, codes "GenericSerialBus")
    ∷ (10, codes "PCC")
    ∷ (11, codes "PlatformRtMechanism")
    ∷ (127, codes "FFixedHW")
    ∷ []

-- object types (ObjectTypeKeyword)
abbrev pub object_types : List (ℕ × List ℕ)
object_types =
    (0, codes "UnknownObj")
    ∷ (1, codes "IntObj")
    ∷ (2, codes "StrObj")
    ∷ (3, codes "BuffObj")
    ∷ (4, codes "PkgObj")
    ∷ (5, codes "FieldUnitObj")
    ∷ (6, codes "DeviceObj")
    ∷ (7, codes "EventObj")
    ∷ (8, codes "MethodObj")
    ∷ (9, codes "MutexObj")
    ∷ (10, codes "OpRegionObj")
    ∷ (11, codes "PowerResObj")
    ∷ (12, codes "ProcessorObj")
    ∷ (13, codes "ThermalZoneObj")
    ∷ (14, codes "BuffFieldObj")
    ∷ (15, codes "DDBHandleObj")
    ∷ []

-- the ways in which Match compares (MatchOpKeyword)
abbrev pub match_operators : List (ℕ × List ℕ)
match_operators =
    (0, codes "MTR")
    ∷ (1, codes "MEQ")
    ∷ (2, codes "MLE")
    ∷ (3, codes "MLT")
    ∷ (4, codes "MGE")
    ∷ (5, codes "MGT")
    ∷ []

abbrev pub words_of : Keyword → List (ℕ × List ℕ)
words_of AccessType = access_types
words_of AccessAttribute = access_attributes
words_of ExtendedAttribute = extended_attributes
words_of LockRule = lock_rules
words_of UpdateRule = update_rules
words_of RegionSpace = region_spaces
words_of ObjectType = object_types
words_of MatchOperator = match_operators

-- the word of a number, or the number if there is none
abbrev pub keyword_text : Keyword → ℕ → List ℕ
keyword_text keyword n = or_number n (word_in (words_of keyword) n)

-- SerializeRuleKeyword
abbrev pub serialize_word : Bool → List ℕ
serialize_word serialized = if serialized then codes "Serialized" else codes "NotSerialized"
