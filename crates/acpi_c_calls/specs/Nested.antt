-- What calls of a writer write, one after another and inside one another.
use Rattle.std.specs.Prelude.{◌≡◌, ℕ, ◌+◌, ◌≤◌, List, [], ◌∷◌, ◌++◌, length, take, None, Result, Ok}
use Rattle.acpi_base.specs.Bytes.{put}
use Rattle.acpi_base.specs.Header.{header}
use Rattle.acpi_base.specs.Object.{Object, whole}
use Rattle.acpi_base.specs.Sdt.{sealed}
use Rattle.acpi_base.specs.Table.{table_of}
use Rattle.acpi_base.specs.declared.oem.Oem.{Oem}
use Rattle.acpi_term.specs.Row.{framed, layout, frame, around, row, entry_bytes, entries_bytes, entries_end}
use Rattle.acpi_term.specs.Template.{template_bytes, buffer_of_bytes}
use Rattle.acpi_term.specs.Tree.{Entry, Head, def_buffer, def_field, def_index_field}
use Rattle.acpi_c_calls.specs.Field.{entry_piece}
use Rattle.acpi_c_calls.specs.Writer.{Written, Writes, adds, adds_bytes, opens, opens_row, inside, closes}
use Rattle.acpi_c_calls.specs.declared.fault.Fault.{Fault}
use Rattle.acpi_c_calls.specs.declared.state.State.{State}

-- a state has a place and a kind for each object that may be open
pub record HasPlaces (writer : Written) : Type 0 where
  pub marks : length writer.state.marks ≡ 32
  pub kinds : length writer.state.kinds ≡ 32

-- These bytes were written after those before, and no others. The same objects are open.
pub record Wrote (old : Written) (piece : List ℕ) (new : Written) : Type 0 where
  pub bytes : new.bytes ≡ put old.state.size piece old.bytes
  pub size : new.state.size ≡ old.state.size + length piece
  pub within : old.state.size + length piece ≤ length old.bytes
  pub depth : new.state.depth ≡ old.state.depth
  pub marks : take old.state.depth new.state.marks ≡ take old.state.depth old.state.marks
  pub kinds : take old.state.depth new.state.kinds ≡ take old.state.depth old.state.kinds

-- All bytes of an object without an error were written after those before.
pub record WroteObject (old : Written) (object : Object) (new : Written) : Type 0 where
  pub is_whole : object.end ≡ None
  pub wrote : Wrote old object.front new

-- a call without a fault leads from one writer to another
abbrev pub Leads : (List ℕ → State → Result Written Fault) → Written → Written → Type 0
Leads call old new = call old.bytes old.state ≡ Ok new

-- A call that returns 0 was done: there was no fault before, and it leads from the old buffer and state to the new ones.
abbrev pub FineIsDone : Type 0
FineIsDone =
    (call : List ℕ → State → Result Written Fault) (old new : Written) → Writes call old.bytes old.state new.bytes new.state 0
    → (old.state.fault ≡ 0) × Leads call old new

-- A call that writes bytes has written these.
abbrev pub PieceIsWritten : Type 0
PieceIsWritten = (piece : List ℕ) (old new : Written) → Leads (adds_bytes piece) old new → Wrote old piece new

-- What is written by one call after another is joined.
abbrev pub PiecesAreJoined : Type 0
PiecesAreJoined =
    (first second : List ℕ) (old mid new : Written) → Wrote old first mid → Wrote mid second new → Wrote old (first ++ second) new

-- An object that is opened, filled and closed is written as one piece: its opcode, and a frame of the bytes before its content
-- and of this content.
abbrev pub ClosedIsWritten : Type 0
ClosedIsWritten =
    (kind : ℕ) (code before content : List ℕ) (old opened filled new : Written) → HasPlaces old
    → Leads (opens kind code before) old opened → Wrote opened content filled → Leads closes filled new
    → WroteObject old (frame code (inside kind (before ++ content))) new

-- The same of a row with a frame: it is written around the content.
abbrev pub RowIsWritten : Type 0
RowIsWritten =
    (head : Head) (n : ℕ) (code before content : List ℕ) (old opened filled new : Written) → HasPlaces old
    → layout head 0 n ≡ framed code before [] → Leads (opens_row 0 head n) old opened → Wrote opened content filled
    → Leads closes filled new → WroteObject old (around (layout head 0 n) (whole content)) new

-- a buffer is that of its bytes
abbrev pub BufferIsWritten : Type 0
BufferIsWritten =
    (content : List ℕ) (old opened filled new : Written) → HasPlaces old → Leads (opens_row 1 (def_buffer []) 0) old opened
    → Wrote opened content filled → Leads closes filled new → WroteObject old (buffer_of_bytes content) new

-- a buffer of resource descriptors is that of these and of the end tag
abbrev pub TemplateIsWritten : Type 0
TemplateIsWritten =
    (content : List ℕ) (old opened filled new : Written) → HasPlaces old → Leads (opens_row 2 (def_buffer []) 0) old opened
    → Wrote opened content filled → Leads closes filled new → WroteObject old (buffer_of_bytes (template_bytes content)) new

-- A call that writes an entry of a field has written its bytes. It has less than 2^28 bits.
abbrev pub EntryIsWritten : Type 0
EntryIsWritten =
    (entry : Entry) (old new : Written) → Leads (adds (entry_piece entry)) old new
    → (entries_end (entry ∷ []) ≡ None) × Wrote old (entry_bytes entry) new

-- A field that is opened, filled with entries of less than 2^28 bits and closed is the row of these entries.
abbrev pub FieldIsWritten : Type 0
FieldIsWritten =
    (name : List ℕ) (access lock update : ℕ) (entries : List Entry) (old opened filled new : Written) → HasPlaces old
    → entries_end entries ≡ None → Leads (opens_row 0 (def_field name access lock update []) 0) old opened
    → Wrote opened (entries_bytes entries) filled → Leads closes filled new
    → WroteObject old (row (def_field name access lock update entries) []) new

-- the same of a field that is reached by an index
abbrev pub IndexFieldIsWritten : Type 0
IndexFieldIsWritten =
    (index name : List ℕ) (access lock update : ℕ) (entries : List Entry) (old opened filled new : Written) → HasPlaces old
    → entries_end entries ≡ None → Leads (opens_row 0 (def_index_field index name access lock update []) 0) old opened
    → Wrote opened (entries_bytes entries) filled → Leads closes filled new
    → WroteObject old (row (def_index_field index name access lock update entries) []) new

-- A header and a body whose length and checksum are set are the table of this body.
abbrev pub TableIsSealed : Type 0
TableIsSealed =
    (signature : List ℕ) (revision : ℕ) (oem : Oem) (body : List ℕ) → length signature ≡ 4 → length oem.id ≡ 6
    → length oem.table_id ≡ 8 → sealed (header signature 36 revision oem ++ body) ≡ table_of signature revision oem body

-- Calls write what the constructors of objects make, also inside one another.
pub record WritersNest : Type 0 where
  pub fine : FineIsDone
  pub pieces : PieceIsWritten
  pub joined : PiecesAreJoined
  pub rows : RowIsWritten
  pub buffers : BufferIsWritten
  pub templates : TemplateIsWritten
  pub entries : EntryIsWritten
  pub fields : FieldIsWritten
  pub index_fields : IndexFieldIsWritten
  pub tables : TableIsSealed
