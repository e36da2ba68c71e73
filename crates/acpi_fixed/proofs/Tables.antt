-- Tables that are true, and pointers that sum to zero.
use Rattle.std.proofs.Common.{◌≡◌, ℕ, ◌+◌, ◌-◌, ◌%◌, ◌<◌, ◌≤◌, ◌^◌, List, [], ◌∷◌, ◌++◌, length, take, drop, refl, ◌∙◌, ap, arith, append_assoc, length-append}
use Rattle.std.specs.Prelude.{codes, sum, Option, Some, None}
use Rattle.std.proofs.lemmas.List.Sums.{sum_by-append}
use Rattle.acpi_base.specs.Bytes.{le, complement}
use Rattle.acpi_base.specs.Fields.{NamedField, fields_joined}
use Rattle.acpi_base.specs.Table.{table_of, IsTrueTable}
use Rattle.acpi_base.specs.Walk.{named, walk_of, ArePiecesOf}
use Rattle.acpi_base.specs.declared.oem.Oem.{Oem}
use Rattle.acpi_base.proofs.Tables.{table_is_true, checked_is_true, without_pieces, table_without_pieces, sum-with_checksum, length-with_checksum}
use Rattle.acpi_fixed.specs.declared.fadt.FADTBuilder.{FADTBuilder}
use Rattle.acpi_fixed.specs.declared.tpm2.LogArea.{LogArea}
use Rattle.acpi_fixed.specs.declared.tpm2.Tpm2.{Tpm2}
use Rattle.std.proofs.lemmas.List.{length-take-le}
use Rattle.acpi_fixed.specs.Fadt.{header_fields, fadt_fields, builder_bytes, fadt_bytes}
use Rattle.acpi_base.proofs.Puts.{length-put}
use Rattle.acpi_fixed.specs.EarlierFadt.{modelled, first_bytes}
use Rattle.acpi_fixed.specs.Laws.{PointersSumToZero, FirstPointersSumToZero}
use Rattle.acpi_fixed.specs.Rsdp.{rsdp_bytes, unsummed, with_first}
use Rattle.acpi_fixed.specs.Tpm2.{tpm2_fields, tpm2_with, tpm2_size}

-- ---- after the standard header

pub true_body : (here oem : Oem) (s : List ℕ) (revision size : ℕ) (body : List ℕ)
    → length here.id ≡ 6 → length here.table_id ≡ 8 → length s ≡ 4 → walk_of (named s) ≡ None → 36 + length body ≡ size → size < 2 ^ 32 → oem ≡ here
    → IsTrueTable (table_of s revision oem body) × (length (table_of s revision oem body) ≡ size) × ArePiecesOf (table_of s revision oem body) []
true_body here oem s revision size body six eight four none is small from =
    let id = ap (λ o. length o.id) from ∙ six in
    let table_id = ap (λ o. length o.table_id) from ∙ eight in
    let whole = table_is_true s body revision oem four id table_id (omega (arith, is, small)) in
    (whole.0, whole.1 ∙ is, table_without_pieces s revision oem body four none)

pub true_from : (here oem : Oem) (s : List ℕ) (revision size : ℕ) (fields : List NamedField)
    → length here.id ≡ 6 → length here.table_id ≡ 8 → length s ≡ 4 → walk_of (named s) ≡ None → 36 + length (fields_joined fields) ≡ size → size < 2 ^ 32 → oem ≡ here
    → IsTrueTable (table_of s revision oem (fields_joined fields)) × (length (table_of s revision oem (fields_joined fields)) ≡ size) × ArePiecesOf (table_of s revision oem (fields_joined fields)) []
true_from here oem s revision size fields = true_body here oem s revision size (fields_joined fields)

pub true_tpm2 : (here : Oem) (t : Tpm2) (area : Option LogArea) → length here.id ≡ 6 → length here.table_id ≡ 8 → t.oem ≡ here
    → IsTrueTable (tpm2_with t area) × (length (tpm2_with t area) ≡ tpm2_size area) × ArePiecesOf (tpm2_with t area) []
true_tpm2 here t None six eight from = true_from here t.oem (codes "TPM2") t.revision 52 (tpm2_fields t None) six eight refl refl refl (omega arith) from
true_tpm2 here t (Some area) six eight from = true_from here t.oem (codes "TPM2") t.revision 76 (tpm2_fields t (Some area)) six eight refl refl refl (omega arith) from

-- ---- RSDP

-- a byte that makes the sum of all bytes zero
sum_zero : (x y : List ℕ) → sum (x ++ complement (sum (x ++ 0 ∷ y)) % 256 ∷ y) % 256 ≡ 0
sum_zero x y =
    let k = complement (sum (x ++ 0 ∷ y)) % 256 in
    let before : sum (x ++ 0 ∷ y) ≡ sum x + sum (0 ∷ y) = sum_by-append (λ v. v) x (0 ∷ y) in
    let after : sum (x ++ k ∷ y) ≡ sum x + sum (k ∷ y) = sum_by-append (λ v. v) x (k ∷ y) in
    let first : sum (k ∷ y) ≡ 0 + k + sum y = sum_by-append (λ v. v) (k ∷ []) y in
    let zero : sum (0 ∷ y) ≡ 0 + 0 + sum y = sum_by-append (λ v. v) (0 ∷ []) y in
    omega (arith, before, after, first, zero)

pub pointers : PointersSumToZero
pointers (o0 ∷ o1 ∷ o2 ∷ o3 ∷ o4 ∷ o5 ∷ []) xsdt_addr six =
    let oem_id = o0 ∷ o1 ∷ o2 ∷ o3 ∷ o4 ∷ o5 ∷ [] in (
      refl,
      sum_zero (codes "RSD PTR ") (oem_id ++ 2 ∷ 0 ∷ 0 ∷ 0 ∷ 0 ∷ []),
      sum_zero (take 32 (rsdp_bytes (with_first (unsummed oem_id xsdt_addr)))) (0 ∷ 0 ∷ 0 ∷ []),
    )
pointers oem_id xsdt_addr six = absurd (omega arith)

pub first_pointers : FirstPointersSumToZero
first_pointers (o0 ∷ o1 ∷ o2 ∷ o3 ∷ o4 ∷ o5 ∷ []) rsdt_addr six =
    (refl, sum_zero (codes "RSD PTR ") (o0 ∷ o1 ∷ o2 ∷ o3 ∷ o4 ∷ o5 ∷ 0 ∷ le 4 rsdt_addr))
first_pointers oem_id rsdt_addr six = absurd (omega arith)

-- ---- FADT, whose header is the caller's

told_after : (s r : List ℕ) → length s ≡ 4 → take 4 (drop 4 (s ++ r)) ≡ take 4 r
told_after (s0 ∷ s1 ∷ s2 ∷ s3 ∷ []) r four = refl
told_after s r four = absurd (omega arith)

pub length-builder : (f : FADTBuilder)
    → length f.signature ≡ 4 → length f.oem_id ≡ 6 → length f.oem_table_id ≡ 8 → length f.creator_id ≡ 4 → length f.creator_revision ≡ 4
    → length (builder_bytes f) ≡ 276
length-builder f four six eight creator revision = simp length-append (omega (arith, four, six, eight, creator, revision))

pub length-fadt : (f : FADTBuilder) → length (builder_bytes f) ≡ 276 → length (fadt_bytes f) ≡ 276
length-fadt f size = length-with_checksum (builder_bytes f) (omega (arith, size)) ∙ size

pub fadt_is_zero : (f : FADTBuilder) → length (builder_bytes f) ≡ 276 → sum (fadt_bytes f) % 256 ≡ 0
fadt_is_zero f size = sum-with_checksum (builder_bytes f) (omega (arith, size))

pub fadt_without_pieces : (f : FADTBuilder) → length f.signature ≡ 4 → walk_of (named f.signature) ≡ None → ArePiecesOf (fadt_bytes f) []
fadt_without_pieces f four none = without_pieces f.signature _ (builder_bytes f) (append_assoc f.signature _ _) four none

pub true_fadt : (f : FADTBuilder) → length f.signature ≡ 4 → length (builder_bytes f) ≡ 276 → f.length ≡ 276 → IsTrueTable (fadt_bytes f)
true_fadt f four size is =
    (checked_is_true (builder_bytes f) 276 (omega (arith, size)) size (omega arith) (ap (λ b. take 4 (drop 4 b)) (append_assoc f.signature _ _) ∙ told_after f.signature _ four ∙ ap (le 4) is)).0

-- that of an earlier release, which is the first bytes of these fields
first_long : (f : FADTBuilder) (size int_model : ℕ)
    → length f.signature ≡ 4 → length f.oem_id ≡ 6 → length f.oem_table_id ≡ 8 → length f.creator_id ≡ 4 → length f.creator_revision ≡ 4
    → 36 ≤ size → size ≤ 276 → length (fields_joined (header_fields f) ++ take (size - 36) (modelled int_model f)) ≡ size
first_long f size int_model four six eight creator revision least most =
    let header = fields_joined (header_fields f) in
    let long : length header ≡ 36 = simp length-append (omega (arith, four, six, eight, creator, revision)) in
    let body : length (modelled int_model f) ≡ 240 = length-put 8 (int_model ∷ []) (fields_joined (fadt_fields f)) (omega arith) in
    let rest : length (take (size - 36) (modelled int_model f)) ≡ size - 36 = length-take-le (size - 36) (modelled int_model f) (omega (arith, body, most)) in
    omega (arith, long, rest, least, length-append header (take (size - 36) (modelled int_model f)))

pub true_first : (f : FADTBuilder) (size int_model : ℕ)
    → length f.signature ≡ 4 → length f.oem_id ≡ 6 → length f.oem_table_id ≡ 8 → length f.creator_id ≡ 4 → length f.creator_revision ≡ 4
    → f.length ≡ size → walk_of (named f.signature) ≡ None → 36 ≤ size → size ≤ 276
    → IsTrueTable (first_bytes size int_model f) × (length (first_bytes size int_model f) ≡ size) × ArePiecesOf (first_bytes size int_model f) []
true_first f size int_model four six eight creator revision is none least most =
    let bytes = fields_joined (header_fields f) ++ take (size - 36) (modelled int_model f) in
    let long = first_long f size int_model four six eight creator revision least most in
    let begins : bytes ≡ f.signature ++ _ = append_assoc f.signature _ _ in
    let checked = checked_is_true bytes size (omega (arith, long, least)) long (omega (arith, most)) (ap (λ b. take 4 (drop 4 b)) begins ∙ told_after f.signature _ four ∙ ap (le 4) is) in
    (checked.0, length-with_checksum bytes (omega (arith, long, least)) ∙ long, without_pieces f.signature _ bytes begins four none)
