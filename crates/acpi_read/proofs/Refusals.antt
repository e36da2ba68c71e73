-- What reading all of the bytes says of them.
use Rattle.std.proofs.Common.{◌≡◌, ℕ, ◌≤◌, leb, List, length, Result, Ok, Err, refl, sym, ◌∙◌, inl, inr, arith}
use Rattle.std.specs.Prelude.{IfOk, IfErr}
use Rattle.std.proofs.lemmas.Bool.{leb-false}
use Rattle.acpi_base.specs.Bytes.{AreBytes}
use Rattle.acpi_term.specs.declared.mode.Mode.TheVariants.{Term}
use Rattle.acpi_term.specs.declared.read_error.ReadError.{ReadError}
use Rattle.acpi_term.specs.declared.read_error.ReadError.TheVariants as errors
use Rattle.acpi_term.specs.Language.{Grammar}
use Rattle.acpi_term.specs.Tree.{Terms, depth}
use Rattle.acpi_term.specs.Spelling.{SpellsIn}
use Rattle.acpi_term.specs.Reading.{Fault, Deep, Bad, all_of, term_at}
use Rattle.acpi_term.proofs.Steps.{chosen}
use Rattle.acpi_term.proofs.Taken.{list_takes}
use Rattle.acpi_term.proofs.Unique.{reads, one_list}
use Rattle.acpi_read.specs.Cause.{Answers, IsPlaced}
use Rattle.acpi_read.specs.Terms.{AreReadIn, AreTooDeep, AreRefused, IsUnreadIn}

module _ (g : Grammar) (bytes : List ℕ) where
  abbrev read : Result Terms Fault
  read = all_of (term_at g 255) (length bytes) Term bytes

  pub is_read : {X : Type 0} (view : X → Terms) (r : Result X ReadError) → AreBytes bytes → Answers view r read → IfOk r (λ x. AreReadIn g bytes (view x))
  is_read view (Ok x) fits given =
      let t = list_takes g 255 (length bytes) Term bytes (view x) fits given in
      record { spelled = (t.fits, t.parts); shallow = t.deep }
  is_read view (Err e) fits given = tt

  too_deep : (offset : ℕ) → offset ≤ length bytes → read ≡ Err Deep → AreTooDeep g bytes offset
  too_deep offset within failed = record {
    within = within;
    deep = λ ts s. elim (chosen (leb (depth ts) 255) (Ok ts) (Err Deep) (Err Deep) (sym (reads g Term 255 bytes ts s) ∙ failed)) [
      | inl b ↦ absurd cc
      | inr b ↦ leb-false (depth ts) 255 b.0
    ];
  }

  refused : (offset : ℕ) → offset ≤ length bytes → read ≡ Err Bad → AreRefused g bytes offset
  refused offset within failed = record {
    within = within;
    no_terms = λ ts s. elim (chosen (leb (depth ts) 255) (Ok ts) (Err Deep) (Err Bad) (sym (reads g Term 255 bytes ts s) ∙ failed)) [
      | inl b ↦ absurd cc
      | inr b ↦ absurd cc
    ];
  }

  unread : {X : Type 0} (view : X → Terms) (e : ReadError) → Answers view (Err e) read → IsPlaced (length bytes) e → IsUnreadIn g bytes e
  unread view errors.Memory given told = tt
  unread view (errors.Truncated offset) given told = refused offset told given
  unread view (errors.Opcode offset) given told = refused offset told given
  unread view errors.NameText given told = told
  unread view (errors.Length offset) given told = refused offset told given
  unread view (errors.Number offset) given told = told
  unread view (errors.Count offset) given told = refused offset told given
  unread view (errors.Flags offset) given told = refused offset told given
  unread view (errors.Text offset) given told = refused offset told given
  unread view (errors.TooDeep offset) given told = too_deep offset told given
  unread view errors.Arity given told = told
  unread view (errors.ShortHeader offset) given told = told
  unread view (errors.TableLength offset) given told = told
  unread view (errors.Sum offset) given told = told
  unread view (errors.Structure offset) given told = told
  unread view (errors.UnknownSource offset) given told = told

  pub is_unread : {X : Type 0} (view : X → Terms) (r : Result X ReadError) → Answers view r read → IfErr r (IsPlaced (length bytes)) → IfErr r (IsUnreadIn g bytes)
  is_unread view (Ok x) given told = tt
  is_unread view (Err e) given told = unread view e given told

  -- ---- where terms are spelled

  module _ (ts : Terms) (s : SpellsIn g Term bytes ts) (shallow : depth ts ≤ 255) where
    pub only_these : (us : Terms) → AreReadIn g bytes us → us ≡ ts
    only_these us r = one_list g Term bytes us ts r.spelled s

    none_refused : {e : ReadError} (offset : ℕ) → AreRefused g bytes offset → e ≡ errors.Memory
    none_refused offset r = absurd (r.no_terms ts s)

    pub only_memory : (e : ReadError) → IsUnreadIn g bytes e → e ≡ errors.Memory
    only_memory errors.Memory r = refl
    only_memory (errors.Truncated offset) r = none_refused offset r
    only_memory (errors.Opcode offset) r = none_refused offset r
    only_memory errors.NameText r = absurd r
    only_memory (errors.Length offset) r = none_refused offset r
    only_memory (errors.Number offset) r = absurd r
    only_memory (errors.Count offset) r = none_refused offset r
    only_memory (errors.Flags offset) r = none_refused offset r
    only_memory (errors.Text offset) r = none_refused offset r
    only_memory (errors.TooDeep offset) r = absurd (omega (arith, r.deep ts s, shallow))
    only_memory errors.Arity r = absurd r
    only_memory (errors.ShortHeader offset) r = absurd r
    only_memory (errors.TableLength offset) r = absurd r
    only_memory (errors.Sum offset) r = absurd r
    only_memory (errors.Structure offset) r = absurd r
    only_memory (errors.UnknownSource offset) r = absurd r

pub spelled_are_read : (g : Grammar) (bytes : List ℕ) (ts : Terms) → SpellsIn g Term bytes ts → depth ts ≤ 255 → ((us : Terms) → AreReadIn g bytes us → us ≡ ts) × ((e : ReadError) → IsUnreadIn g bytes e → e ≡ errors.Memory)
spelled_are_read g bytes ts s shallow = (only_these g bytes ts s shallow, only_memory g bytes ts s shallow)
