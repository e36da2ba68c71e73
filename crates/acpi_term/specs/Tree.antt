-- Terms without their place in memory (ACPI 6.5, 20.2.5): each is a head, a width and its children.
use Rattle.std.specs.Prelude.{ℕ, suc, max, List, Bool}
use Rattle.acpi_term.specs.declared.op.Op.{Op}
use Rattle.acpi_term.specs.declared.read_error.ReadError.{ReadError}

-- An entry of a field (ACPI 6.5, 20.2.5.2). The width of a number of bits is in how many bytes it is written.
pub data Entry : Type 0 where
  -- name, bits, width
  named : List ℕ → ℕ → ℕ → Entry
  -- bits, width
  reserved : ℕ → ℕ → Entry
  -- AccessType, AccessAttrib
  access_as : ℕ → ℕ → Entry
  -- AccessType, ExtendedAccessAttrib, AccessLength
  extended_access_as : ℕ → ℕ → ℕ → Entry
  -- the name of a connection
  connection : List ℕ → Entry
  -- a connection's buffer: the width of its PkgLength, its size, the width of this number, and the bytes after it
  connection_buffer : ℕ → ℕ → ℕ → List ℕ → Entry

-- What a term is, without its width and its children. A name is given by the bytes that spell it.
pub data Head : Type 0 where
  number : ℕ → Head
  ones : Head
  string : List ℕ → Head
  local : ℕ → Head
  arg : ℕ → Head
  -- a name, with its arguments if it has any
  call : List ℕ → Head
  def_scope : List ℕ → Head
  def_device : List ℕ → Head
  -- name, number of arguments, whether serialized
  def_method : List ℕ → ℕ → Bool → Head
  -- name, system level, resource order
  def_power_res : List ℕ → ℕ → ℕ → Head
  -- name, access type, lock rule, update rule, entries
  def_field : List ℕ → ℕ → ℕ → ℕ → List Entry → Head
  -- name, address space
  def_op_region : List ℕ → ℕ → Head
  -- a name that is given a value
  def_name : List ℕ → Head
  -- name, level
  def_mutex : List ℕ → ℕ → Head
  -- name, timeout
  def_acquire : List ℕ → ℕ → Head
  def_release : List ℕ → Head
  -- the bytes after the size
  def_buffer : List ℕ → Head
  def_package : Head
  def_var_package : Head
  def_if : Head
  def_while : Head
  def_else : Head
  op : Op → Head
  -- what only the standard has: a name that another block defines, its object type and number of arguments
  def_external : List ℕ → ℕ → ℕ → Head
  -- name, number of arguments, whether serialized, synchronization level
  def_leveled_method : List ℕ → ℕ → Bool → ℕ → Head
  -- name, processor's id, address and length of its registers
  def_processor : List ℕ → ℕ → ℕ → ℕ → Head
  def_thermal_zone : List ℕ → Head
  -- a package with room for so many elements, which it doesn't have
  def_roomy_package : ℕ → Head
  -- name of the index, name of the data, access type, lock rule, update rule, entries
  def_index_field : List ℕ → List ℕ → ℕ → ℕ → ℕ → List Entry → Head
  -- name of the region, name of the bank's field, access type, lock rule, update rule, entries
  def_bank_field : List ℕ → List ℕ → ℕ → ℕ → ℕ → List Entry → Head
  -- type, code
  def_fatal : ℕ → ℕ → Head
  -- a test of a Match: a MatchOpcode, whose operand is the child
  match_test : ℕ → Head
  -- the timeout of an Acquire of an object that isn't a name
  def_timeout : ℕ → Head
  -- bytes that are no term, up to the end of a list, and why: no language has it
  unread : ReadError → List ℕ → Head

-- A list of terms: the first one's head, width and children, and the others. The width of a number is the number of its bytes
-- after the prefix, or 0 for the bytes 00 and 01. The width of a term with a frame is that of its PkgLength, 1 to 4. Any other
-- term has the width 0.
pub data Terms : Type 0 where
  end : Terms
  term : Head → ℕ → Terms → Terms → Terms

abbrev pub count : Terms → ℕ
count end = 0
count (term h w children others) = suc (count others)

-- The depth of terms: 1 for a term without children, and one more than the deepest child for any other. A list has the depth of
-- its deepest term.
abbrev pub depth : Terms → ℕ
depth end = 0
depth (term h w children others) = max (suc (depth children)) (depth others)

-- a list of one term
abbrev pub one : Head → ℕ → Terms → Terms
one h w children = term h w children end
