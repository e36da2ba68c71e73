-- Tables as records after a header.
use Rattle.std.proofs.Common.{◌≡◌, ℕ, ◌+◌, ◌-◌, ◌≤◌, List, [], ◌++◌, length, take, drop, refl, sym, ◌∙◌, ap, subst, arith, length-drop, length-append}
use Rattle.std.specs.Prelude.{Result, OnOk, IfErr}
use Rattle.acpi_base.specs.Object.{whole, Wrote, WriteRefused}
use Rattle.acpi_base.specs.Sink.{Meaning}
use Rattle.acpi_base.specs.declared.error.Error.{Error}
use Rattle.std.proofs.lemmas.List.{append-nil, length-take-le, take-append-drop, length-replicate, drop-replicate}
use Rattle.acpi_base.specs.Bytes.{put, zeros}
use Rattle.acpi_fixed.specs.Sealed.{padded}
use Rattle.acpi_base.specs.Header.{header}
use Rattle.acpi_base.specs.Table.{with_checksum, table_of}
use Rattle.acpi_base.specs.declared.oem.Oem.{Oem}
use Rattle.acpi_base.proofs.Puts.{put_in}

-- a header and a body that were written over other bytes
pub behind_header : (h body before b1 b2 : List ℕ) → length h ≡ 36 → length before ≡ 36 + length body → b1 ≡ put 0 h before → b2 ≡ put 36 body b1 → b2 ≡ h ++ body
behind_header h body before b1 b2 long size first second =
    let rest = drop 36 before in
    let count : length rest ≡ length body = length-drop 36 before ∙ omega arith in
    let front : length (take 36 before) ≡ length h = length-take-le 36 before (omega arith) ∙ sym long in
    let one : b1 ≡ h ++ rest = first ∙ ap (put 0 h) (sym (take-append-drop 36 before)) ∙ put_in [] (take 36 before) rest h 0 refl front in
    second ∙ ap (put 36 body) (one ∙ ap (λ r. h ++ r) (sym (append-nil rest))) ∙ put_in h rest [] body 36 long count ∙ ap (λ b. h ++ b) (append-nil body)

-- the standard header tells the size
pub is_table : (s : List ℕ) (revision : ℕ) (oem : Oem) (size told : ℕ) (h made body : List ℕ) → size ≡ 36 + length made → told ≡ size → h ≡ header s told revision oem → made ≡ body
    → with_checksum (h ++ made) ≡ table_of s revision oem body
is_table s revision oem size told h made body long tells is same =
    ap (λ b. with_checksum (b ++ made)) (is ∙ ap (λ n. header s n revision oem) (tells ∙ long)) ∙ ap (table_of s revision oem) same

-- a header and a body that were written over zeros
behind_zeros : (h body b1 b2 : List ℕ) (n : ℕ) → length h ≡ 36 → 36 + length body ≤ n → b1 ≡ put 0 h (zeros n) → b2 ≡ put 36 body b1
    → b2 ≡ h ++ (body ++ zeros (n - 36 - length body))
behind_zeros h body b1 b2 n long fits first second =
    let rest = drop 36 (zeros n) in
    let m = length body in
    let size : length (zeros n) ≡ n = length-replicate n 0 in
    let front : length (take 36 (zeros n)) ≡ length h = length-take-le 36 (zeros n) (omega (arith, size, fits)) ∙ sym long in
    let one : b1 ≡ h ++ rest = first ∙ ap (put 0 h) (sym (take-append-drop 36 (zeros n))) ∙ put_in [] (take 36 (zeros n)) rest h 0 refl front in
    let count : length (take m rest) ≡ m = length-take-le m rest (omega (arith, size, fits, length-drop 36 (zeros n))) in
    let left : drop m rest ≡ zeros (n - 36 - m) = ap (drop m) (drop-replicate 36 n 0) ∙ drop-replicate m (n - 36) 0 in
    second
    ∙ ap (put 36 body) (one ∙ ap (λ r. h ++ r) (sym (take-append-drop m rest)))
    ∙ put_in h (take m rest) (drop m rest) body 36 long count
    ∙ ap (λ r. h ++ (body ++ r)) left

pub is_padded : (s : List ℕ) (revision : ℕ) (oem : Oem) (size told : ℕ) (h body b1 b2 : List ℕ) → length h ≡ 36 → 36 + length body ≤ size → told ≡ size
    → h ≡ header s told revision oem → b1 ≡ put 0 h (zeros size) → b2 ≡ put 36 body b1 → with_checksum b2 ≡ padded size s revision oem body
is_padded s revision oem size told h body b1 b2 long fits tells is first second =
    let made = body ++ zeros (size - 36 - length body) in
    let count : size ≡ 36 + length made = omega (arith, fits, length-append body (zeros (size - 36 - length body)), length-replicate {A = ℕ} (size - 36 - length body) 0) in
    ap with_checksum (behind_zeros h body b1 b2 size long fits first second) ∙ is_table s revision oem size told h made made count tells is refl

-- what was written is that table of the same bytes
module _ {T : Type 0} (r : Result T Error) (size : ℕ) (s : List ℕ) (revision : ℕ) (oem : Oem) (made body : List ℕ) (m k : Meaning) (is : made ≡ body) where
  pub wrote_padded : OnOk r (Wrote (whole (padded size s revision oem made)) m k) → OnOk r (Wrote (whole (padded size s revision oem body)) m k)
  wrote_padded of = subst (λ b. OnOk r (Wrote (whole (padded size s revision oem b)) m k)) is of

  pub refused_padded : IfErr r (λ e. WriteRefused e (whole (padded size s revision oem made)) m k)
      → IfErr r (λ e. WriteRefused e (whole (padded size s revision oem body)) m k)
  refused_padded of = subst (λ b. IfErr r (λ e. WriteRefused e (whole (padded size s revision oem b)) m k)) is of
