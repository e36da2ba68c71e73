-- Memory is an error of any bytes.
use Rattle.std.proofs.Common.{◌≡◌, ◌∙◌, List, ℕ, refl, sym, inr}
use Rattle.acpi_forms.specs.Kind.{kind_of}
use Rattle.acpi_forms.specs.Words.{words_by}
use Rattle.acpi_make.specs.declared.file_kind.FileKind.{FileKind}
use Rattle.acpi_make.specs.declared.file_kind.FileKind.TheVariants.{Rsdp, Facs, Cdat, S3pt, Table}
use Rattle.acpi_term.specs.declared.read_error.ReadError.TheVariants.{Memory}
use Rattle.acpitool_program.specs.Fault.{IsFaultOf}
use Rattle.acpitool_program.specs.Text.{IsTextFault}
use Rattle.acpitool_program.specs.declared.fault.Fault.{Fault}

-- its words are the same for bytes of every kind
same_words : (kind : FileKind) → words_by kind Memory ≡ words_by Table Memory
same_words Rsdp = refl
same_words Facs = refl
same_words Cdat = refl
same_words S3pt = refl
same_words Table = refl

pub memory_is_fault : (fault : Fault) → IsFaultOf Table Memory fault → (bytes : List ℕ) → IsTextFault bytes fault
memory_is_fault fault is bytes =
    record {
      error = Memory;
      says = inr (record { none = λ other. absurd (other refl); says = (is.0, is.1 ∙ sym (same_words (kind_of bytes))) });
      cause = λ other. absurd (other refl);
    }
