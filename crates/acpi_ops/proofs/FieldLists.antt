-- Fields with any elements.
use Rattle.std.proofs.Common.{◌≡◌, ℕ, ◌+◌, ◌<◌, ◌≤◌, ◌^◌, List, [], ◌∷◌, ◌++◌, length, Bool, true, cond, Some, None, refl, sym, ap, subst, ◌∙◌, arith, length-append}
use Rattle.std.specs.Prelude.{Option, nat_lt}
use Rattle.std.proofs.lemmas.List.{append-nil}
use Rattle.std.proofs.lemmas.Bool.Decides.{nat_tests}
use Rattle.acpi_base.specs.declared.error.Error.{Error}
use Rattle.acpi_base.specs.declared.error.Error.TheVariants.{PkgLength}
use Rattle.acpi_base.specs.Number.{number, number_bytes, number_width}
use Rattle.acpi_base.specs.Object.{Object, all_of, ended}
use Rattle.acpi_term.specs.declared.language.Language.TheVariants.{Standard}
use Rattle.acpi_term.specs.Language.{grammar_of}
use Rattle.acpi_term.specs.Length.{least_width, with_length, FrameFits}
use Rattle.acpi_term.specs.Tree.{Entry, connection, connection_buffer, def_field, def_index_field, def_bank_field}
use Rattle.acpi_term.specs.Row.{connected, entry_bytes, entries_bytes, entry_length, entries_end, field_flags, frame_end, frame, Layout, framed, around, row}
use Rattle.acpi_term.specs.Spelling.{AreStandardEntries, EntryFits, HasLeastWidth, HaveLeastWidths}
use Rattle.acpi_term.specs.Template.{buffer_of_bytes}
use Rattle.acpi_term.proofs.Lengths.{number_carries}
use Rattle.acpi_term.proofs.Rows.{rows_mean_in, frame_fits_it, ended_none}
use Rattle.acpi_aml.specs.declared.field.FieldAccessType.{FieldAccessType}
use Rattle.acpi_aml.specs.declared.field.FieldLockRule.{FieldLockRule}
use Rattle.acpi_aml.specs.declared.field.FieldUpdateRule.{FieldUpdateRule}
use Rattle.acpi_aml.specs.Field.{access_number, lock_number, update_number}
use Rattle.acpi_ops.specs.declared.element.FieldElement.{FieldElement}
use Rattle.acpi_ops.specs.declared.element.FieldElement.TheVariants.{Named, Reserved, AccessAs, ExtendedAccessAs, Connection, ConnectionBuffer}
use Rattle.acpi_ops.specs.Element.{element_of, elements_of, connected_entry, IsBufferOf, IsElement, AreElements}
use Rattle.acpi_ops.specs.Laws.{AllFieldListsMean}
use Rattle.acpi_ops.proofs.Standard.{access_small, lock_small, update_small}

-- ---- one element

abbrev inside : List ℕ → List ℕ
inside bytes = connected (length bytes) (number_width (length bytes)) bytes

buffer_is : (bytes : List ℕ) → buffer_of_bytes bytes ≡ frame (0x11 ∷ []) (inside bytes)
buffer_is bytes = ap (λ (l : List ℕ). frame (0x11 ∷ []) (l ++ bytes)) (append-nil (number (length bytes)))

short_enough : (n : ℕ) → frame_end n ≡ None → (nat_lt n (2 ^ 28) ≡ true) × (n < 2 ^ 28)
short_enough n h = (grind (arith, nat_tests), grind (arith, nat_tests))

pub record StandsFor (a b : Entry) : Type 0 where
  pub bytes : entry_bytes a ≡ entry_bytes b
  pub fits : nat_lt (entry_length a) (2 ^ 28) ≡ nat_lt (entry_length b) (2 ^ 28)
  pub least : HasLeastWidth b

buffer_stands : (content : List ℕ) → (buffer_of_bytes content).end ≡ None → StandsFor (connection (buffer_of_bytes content).front) (connected_entry content)
buffer_stands content h =
    let e : (frame (0x11 ∷ []) (inside content)).end ≡ None = ap (λ (o : Object). o.end) (sym (buffer_is content)) ∙ h in
    let f = frame_fits_it (0x11 ∷ []) (inside content) e in
    let small = short_enough (length (inside content)) (ended_none (frame_end (length (inside content))) _ e).0 in
    let size = length-append (number (length content)) content in
    record {
      bytes = ap (λ (o : Object). 0x02 ∷ o.front) (buffer_is content) ∙ ap (λ (l : List ℕ). 0x02 ∷ l) f.1;
      fits = sym small.0;
      least = (number_carries (length content) (omega (arith, small.1, size)), f.0);
    }

same_stands : (a b : Entry) → b ≡ a → HasLeastWidth a → StandsFor a b
same_stands a b is least = record {
  bytes = ap entry_bytes (sym is);
  fits = ap (λ (e : Entry). nat_lt (entry_length e) (2 ^ 28)) (sym is);
  least = subst HasLeastWidth (sym is) least;
}

stands : (x : FieldElement) (e : Entry) → IsElement x e → StandsFor (element_of x) e
stands (Named name bits) e is = same_stands (element_of (Named name bits)) e is refl
stands (Reserved bits) e is = same_stands (element_of (Reserved bits)) e is refl
stands (AccessAs access attribute) e is = same_stands (element_of (AccessAs access attribute)) e is tt
stands (ExtendedAccessAs access attribute size) e is = same_stands (element_of (ExtendedAccessAs access attribute size)) e is tt
stands (Connection name) e is = same_stands (element_of (Connection name)) e is tt
stands (ConnectionBuffer buffer) e is =
    subst (λ (b : List ℕ). StandsFor (connection b) e) (sym is.is)
    (subst (λ (x : Entry). StandsFor (connection (buffer_of_bytes is.content).front) x) (sym is.entry) (buffer_stands is.content is.is_whole))

-- ---- lists

pub record StandFor (a b : List Entry) : Type 0 where
  pub bytes : entries_bytes a ≡ entries_bytes b
  pub end : entries_end a ≡ entries_end b
  pub least : HaveLeastWidths b

all_stand : (xs : List FieldElement) (entries : List Entry) → AreElements xs entries → StandFor (elements_of xs) entries
all_stand [] [] are = record { bytes = refl; end = refl; least = tt }
all_stand [] (e ∷ entries) are = absurd are
all_stand (x ∷ xs) [] are = absurd are
all_stand (x ∷ xs) (e ∷ entries) are =
    let one = stands x e are.0 in
    let more = all_stand xs entries are.1 in
    record {
      bytes = ap (λ (l : List ℕ). l ++ entries_bytes (elements_of xs)) one.bytes ∙ ap (λ (l : List ℕ). entry_bytes e ++ l) more.bytes;
      end = λ i. cond (one.fits i) (more.end i) (Some PkgLength);
      least = (one.least, more.least);
    }

-- a row with these bytes and this end
rows_same : (make : List ℕ → Layout) (objects : List Object) (a b : List ℕ) (x y : Option Error) → a ≡ b → x ≡ y
    → ended x (around (make a) (all_of objects)) ≡ ended y (around (make b) (all_of objects))
rows_same make objects a b x y p q = λ i. ended (q i) (around (make (p i)) (all_of objects))

pub field_lists_mean : AllFieldListsMean
field_lists_mean a l u xs entries are named =
    let s = all_stand xs entries are in
    let flags = field_flags (access_number a) (lock_number l) (update_number u) in
    record {
      field_is = λ region.
          rows_same (λ bytes. framed (0x5b ∷ 0x81 ∷ []) (region ++ flags ∷ bytes) []) [] (entries_bytes (elements_of xs)) (entries_bytes entries)
          (entries_end (elements_of xs)) (entries_end entries) s.bytes s.end;
      field = λ region p. record {
        spells = λ arity m ts place spell h.
            rows_mean_in (grammar_of Standard arity) m (def_field region (access_number a) (lock_number l) (update_number u) entries) [] ts place refl
            (p, access_small a, lock_small l, update_small u, named) s.least tt spell h;
      };
      index_is = λ index name.
          rows_same (λ bytes. framed (0x5b ∷ 0x86 ∷ []) (index ++ (name ++ flags ∷ bytes)) []) [] (entries_bytes (elements_of xs)) (entries_bytes entries)
          (entries_end (elements_of xs)) (entries_end entries) s.bytes s.end;
      index = λ index name p q. record {
        spells = λ arity m ts place spell h.
            rows_mean_in (grammar_of Standard arity) m (def_index_field index name (access_number a) (lock_number l) (update_number u) entries) [] ts place refl
            (refl, p, q, access_small a, lock_small l, update_small u, named) s.least tt spell h;
      };
      bank_is = λ region bank value.
          rows_same (λ bytes. framed (0x5b ∷ 0x87 ∷ []) (region ++ bank) (flags ∷ bytes)) (value ∷ []) (entries_bytes (elements_of xs)) (entries_bytes entries)
          (entries_end (elements_of xs)) (entries_end entries) s.bytes s.end;
      bank = λ region bank value p q. record {
        spells = λ arity m ts place spell h.
            rows_mean_in (grammar_of Standard arity) m (def_bank_field region bank (access_number a) (lock_number l) (update_number u) entries) (value ∷ []) ts place refl
            (refl, p, q, access_small a, lock_small l, update_small u, named) s.least tt spell h;
      };
    }
