-- The Error Record Serialization Table (ACPI 6.5, 18.5.1).
use Rattle.std.specs.Prelude.{ℕ, List, [], ◌∷◌, codes}
use Rattle.acpi_base.specs.Fields.{NamedField, byte, dword, qword, hex, flags, one_of, reserved, fields_joined}
use Rattle.acpi_base.specs.Gas.{register}
use Rattle.acpi_base.specs.Look.{Part, flag, means}
use Rattle.acpi_base.specs.declared.gas.GAS.{GAS}
use Rattle.acpi_base.specs.declared.oem.Oem.{Oem}
use Rattle.acpi_core.specs.Listing.{Listing, length_limit}
use Rattle.acpi_pc.specs.declared.erst.Action.{Action}
use Rattle.acpi_pc.specs.declared.erst.Action.TheVariants as actions
use Rattle.acpi_pc.specs.declared.erst.Instruction.{Instruction}
use Rattle.acpi_pc.specs.declared.erst.Instruction.TheVariants as instructions
use Rattle.acpi_pc.specs.declared.erst.SerializationEntry.{SerializationEntry}

-- the fields between the header and the number of entries
abbrev pub erst_fields : List NamedField
erst_fields =
    dword "Serialization Header Size" 48  -- 36
    ∷ reserved 4  -- 40
    ∷ []

-- a table without entries
abbrev pub erst : Oem → Listing
erst oem = record {
  signature = codes "ERST";
  revision = 1;
  oem = oem;
  before = fields_joined erst_fields;
  count_width = 4;  -- 44: Instruction Entry Count
  after = [];
  limit = length_limit;
  structures = [];
}

-- ---- Serialization Instruction Entry (18.5.1.2)

-- Serialization Action (18.5.1.1)
abbrev pub action_number : Action → ℕ
action_number actions.BeginWrite = 0
action_number actions.BeginRead = 1
action_number actions.BeginClear = 2
action_number actions.End = 3
action_number actions.SetRecordOffset = 4
action_number actions.Execute = 5
action_number actions.CheckBusyStatus = 6
action_number actions.GetCommandStatus = 7
action_number actions.GetRecordIdentifier = 8
action_number actions.SetRecordIdentifier = 9
action_number actions.GetRecordCount = 10
action_number actions.BeginDummyWrite = 11
action_number actions.GetErrorLogAddressRange = 13
action_number actions.GetErrorLogAddressRangeLength = 14
action_number actions.GetErrorLogAddressRangeAttributes = 15
action_number actions.GetExecuteTimings = 16

abbrev pub action_words : List (ℕ × List ℕ)
action_words =
    means 0 "BEGIN_WRITE_OPERATION"
    ∷ means 1 "BEGIN_READ_OPERATION"
    ∷ means 2 "BEGIN_CLEAR_OPERATION"
    ∷ means 3 "END_OPERATION"
    ∷ means 4 "SET_RECORD_OFFSET"
    ∷ means 5 "EXECUTE_OPERATION"
    ∷ means 6 "CHECK_BUSY_STATUS"
    ∷ means 7 "GET_COMMAND_STATUS"
    ∷ means 8 "GET_RECORD_IDENTIFIER"
    ∷ means 9 "SET_RECORD_IDENTIFIER"
    ∷ means 10 "GET_RECORD_COUNT"
    ∷ means 11 "BEGIN_DUMMY_WRITE_OPERATION"
    ∷ means 13 "GET_ERROR_LOG_ADDRESS_RANGE"
    ∷ means 14 "GET_ERROR_LOG_ADDRESS_RANGE_LENGTH"
    ∷ means 15 "GET_ERROR_LOG_ADDRESS_RANGE_ATTRIBUTES"
    ∷ means 16 "GET_EXECUTE_OPERATION_TIMINGS"
    ∷ []

-- Instruction (18.5.1.2.1)
abbrev pub instruction_number : Instruction → ℕ
instruction_number instructions.ReadRegister = 0
instruction_number instructions.ReadRegisterValue = 1
instruction_number instructions.WriteRegister = 2
instruction_number instructions.WriteRegisterValue = 3
instruction_number instructions.Noop = 4
instruction_number instructions.LoadVar1 = 5
instruction_number instructions.LoadVar2 = 6
instruction_number instructions.StoreVar1 = 7
instruction_number instructions.Add = 8
instruction_number instructions.Subtract = 9
instruction_number instructions.AddValue = 10
instruction_number instructions.SubtractValue = 11
instruction_number instructions.Stall = 12
instruction_number instructions.StallWhileTrue = 13
instruction_number instructions.SkipNextInstructionIfTrue = 14
instruction_number instructions.Goto = 15
instruction_number instructions.SetSourceAddressBase = 16
instruction_number instructions.SetDestinationAddressBase = 17
instruction_number instructions.MoveData = 18

abbrev pub instruction_words : List (ℕ × List ℕ)
instruction_words =
    means 0 "READ_REGISTER"
    ∷ means 1 "READ_REGISTER_VALUE"
    ∷ means 2 "WRITE_REGISTER"
    ∷ means 3 "WRITE_REGISTER_VALUE"
    ∷ means 4 "NOOP"
    ∷ means 5 "LOAD_VAR1"
    ∷ means 6 "LOAD_VAR2"
    ∷ means 7 "STORE_VAR1"
    ∷ means 8 "ADD"
    ∷ means 9 "SUBTRACT"
    ∷ means 10 "ADD_VALUE"
    ∷ means 11 "SUBTRACT_VALUE"
    ∷ means 12 "STALL"
    ∷ means 13 "STALL_WHILE_TRUE"
    ∷ means 14 "SKIP_NEXT_INSTRUCTION_IF_TRUE"
    ∷ means 15 "GOTO"
    ∷ means 16 "SET_SRC_ADDRESS_BASE"
    ∷ means 17 "SET_DST_ADDRESS_BASE"
    ∷ means 18 "MOVE_DATA"
    ∷ []

-- Flags
abbrev pub entry_bits : List Part
entry_bits =
    flag 0x1 "PRESERVE_REGISTER"
    ∷ []

abbrev pub entry_fields : SerializationEntry → List NamedField
entry_fields e =
    one_of action_words byte "Serialization Action" (action_number e.action)  -- 0
    ∷ one_of instruction_words byte "Instruction" (instruction_number e.instruction)  -- 1
    ∷ flags entry_bits byte "Flags" e.flags  -- 2
    ∷ reserved 1  -- 3
    ∷ register "Register Region" e.register  -- 4
    ∷ hex qword "Value" e.value  -- 16
    ∷ hex qword "Mask" e.mask  -- 24
    ∷ []

abbrev pub entry_bytes : SerializationEntry → List ℕ
entry_bytes e = fields_joined (entry_fields e)

abbrev pub entry : Action → Instruction → GAS → ℕ → ℕ → SerializationEntry
entry action instruction register value mask = record {
  action = action;
  instruction = instruction;
  flags = 0;
  register = register;
  value = value;
  mask = mask;
}
