-- What the bytes of a table are after their length and their checksums are set.
use Rattle.std.proofs.Common.{◌≡◌, ℕ, ◌+◌, ◌-◌, ◌%◌, ◌<◌, ◌≤◌, ◌^◌, Bool, cond, List, [], ◌∷◌, ◌++◌, length, take, drop, true, false, refl, sym, ◌∙◌, ap, arith, inl, inr, append_assoc, length-append}
use Rattle.std.specs.Prelude.{sum, slice_index, nat_lt, Option, Some, None}
use Rattle.std.proofs.lemmas.List.{take_all, take_at, drop_at, drop-take, length-take-le, take-append-drop}
use Rattle.std.proofs.lemmas.Slice.{drop-append-drop}
use Rattle.std.proofs.lemmas.Bool.Decides.{nat_tests}
use Rattle.acpi_forms.specs.Kind.{kind_of}
use Rattle.acpi_base.specs.Bytes.{le, carried, put, complement, field_at}
use Rattle.acpi_base.specs.Table.{IsTrueTable}
use Rattle.acpi_base.proofs.Bytes.{carried_le, length_le}
use Rattle.acpi_base.proofs.Puts.{length-put, put-append, sum-put, take-put}
use Rattle.acpitool_program.specs.Text.{IsKind}
use Rattle.acpitool_program.specs.Repair.{unfit_of, unfit_by, is_signed, seals_as, least, with_length, with_sum, set_seal, set_seals, needs, need, is_short_pointer}
use Rattle.acpitool_program.specs.Check.{IsPointer, IsControl, IsCoherent, IsPerformance}
use Rattle.acpi_make.specs.declared.file_kind.FileKind.{FileKind}
use Rattle.acpi_make.specs.declared.file_kind.FileKind.TheVariants.{Rsdp, Facs, Cdat, S3pt, Table}
use Rattle.acpitool_program.specs.Another.{another_of}
use Rattle.acpitool_program.specs.declared.another.Another.{Another}
use Rattle.acpitool_program.specs.declared.repair.Seal.{Seal}
use Rattle.acpitool_program.specs.declared.repair.Unfit.{Unfit}
use Rattle.acpitool_program.specs.declared.repair.Unfit.TheVariants.{Short, Long, NotSigned}
use Rattle.acpitool_program.specs.declared.repair.Seal.TheVariants.{Length, Checksum, FrontChecksum}

-- ---- bytes that were written

-- those at the offset
written : (at : ℕ) (a x : List ℕ) → at + length a ≤ length x → take (length a) (drop at (put at a x)) ≡ a
unfolding put
written at a x h =
    let rest = drop (at + length a) x in
    ap (take (length a)) (drop_at (take at x) (a ++ rest) at (length-take-le at x (omega arith))) ∙ take_at a rest (length a) refl

-- the first bytes, if the offset is among them
front : (count at : ℕ) (a x : List ℕ) → at + length a ≤ count → count ≤ length x → take count (put at a x) ≡ put at a (take count x)
front count at a x h k =
    let len : length (take count x) ≡ count = length-take-le count x k in
    ap (λ y. take count (put at a y)) (sym (take-append-drop count x))
    ∙ ap (take count) (put-append at a (take count x) (drop count x) (omega (arith, len)))
    ∙ take_at (put at a (take count x)) (drop count x) count (length-put at a (take count x) (omega (arith, len)) ∙ len)

after : (n at : ℕ) (a x : List ℕ) → at + length a ≤ n → at + length a ≤ length x → drop n (put at a x) ≡ drop n x
unfolding put
after n at a x h k =
    ap (drop n) (sym (append_assoc (take at x) a (drop (at + length a) x)))
    ∙ drop-append-drop (at + length a) x (take at x ++ a) n h (omega (arith, length-append (take at x) a, length-take-le at x (omega arith)))

-- ---- lengths

length_set : (at : ℕ) (x : List ℕ) → at + 4 ≤ length x → length (with_length at x) ≡ length x
length_set at x h = length-put at (le 4 (length x)) x (omega (arith, length_le 4 (length x)))

-- the length is the number of bytes
tells : (at : ℕ) (x : List ℕ) → at + 4 ≤ length x → length x < 2 ^ 32 → field_at at 4 (with_length at x) ≡ length x
tells at x h small =
    let four : length (le 4 (length x)) ≡ 4 = length_le 4 (length x) in
    let most : 256 ^ 4 ≡ 2 ^ 32 = refl in
    ap (λ n. carried (take n (drop at (with_length at x)))) (sym four)
    ∙ ap carried (written at (le 4 (length x)) x (omega (arith, four)))
    ∙ carried_le 4 (length x) (omega (arith, most))

-- a length stays if a later byte is written
stays_before : (o at b : ℕ) (x : List ℕ) → o + 4 ≤ at → at ≤ length x → field_at o 4 (put at (b ∷ []) x) ≡ field_at o 4 x
stays_before o at b x h k =
    ap carried (sym (drop-take o 4 (put at (b ∷ []) x)) ∙ ap (drop o) (take-put (o + 4) at (b ∷ []) x h k) ∙ drop-take o 4 x)

-- or an earlier one
stays_after : (o at b : ℕ) (x : List ℕ) → at + 1 ≤ o → at + 1 ≤ length x → field_at o 4 (put at (b ∷ []) x) ≡ field_at o 4 x
stays_after o at b x h k = ap (λ y. carried (take 4 y)) (after o at (b ∷ []) x h k)

-- ---- checksums

sum_length : (at count : ℕ) (x : List ℕ) → at + 1 ≤ length x → length (with_sum at count x) ≡ length x
sum_length at count x h =
    let c = put at (0 ∷ []) x in
    let one : length c ≡ length x = length-put at (0 ∷ []) x h in
    length-put at (complement (sum (take count c)) ∷ []) c (omega (arith, one)) ∙ one

-- the byte makes the first bytes sum to zero
sums : (at count : ℕ) (x : List ℕ) → at + 1 ≤ count → count ≤ length x → sum (take count (with_sum at count x)) % 256 ≡ 0
sums at count x h k =
    let c = put at (0 ∷ []) x in
    let b = complement (sum (take count c)) in
    let size : length c ≡ length x = length-put at (0 ∷ []) x (omega arith) in
    let len : length (take count c) ≡ count = length-take-le count c (omega (arith, size)) in
    let short : length (take count x) ≡ count = length-take-le count x k in
    let cleared : take 1 (drop at (take count c)) ≡ 0 ∷ [] =
    ap (λ y. take 1 (drop at y)) (front count at (0 ∷ []) x h k) ∙ written at (0 ∷ []) (take count x) (omega (arith, short)) in
    let moved : take count (put at (b ∷ []) c) ≡ put at (b ∷ []) (take count c) = front count at (b ∷ []) c h (omega (arith, size)) in
    let total : sum (put at (b ∷ []) (take count c)) + sum (take 1 (drop at (take count c))) ≡ sum (take count c) + sum (b ∷ []) =
    sum-put at (b ∷ []) (take count c) (omega (arith, len)) in
    omega (arith, ap sum moved, total, ap sum cleared)

-- a later byte doesn't change what the first bytes sum to
same_front : (count at m : ℕ) (x : List ℕ) → count ≤ at → at + 1 ≤ length x → take count (with_sum at m x) ≡ take count x
same_front count at m x h k =
    let c = put at (0 ∷ []) x in
    let size : length c ≡ length x = length-put at (0 ∷ []) x k in
    take-put count at (complement (sum (take m c)) ∷ []) c h (omega (arith, size)) ∙ take-put count at (0 ∷ []) x h (omega arith)

-- what `set_sum` leaves
pub set_byte : (at count : ℕ) (x c d : List ℕ) (v k : ℕ) → c ≡ put at (0 ∷ []) x → v ≡ (0 + sum (take count c)) % 256 → k ≡ (256 - v) % 256
    → d ≡ put at (k ∷ []) c → d ≡ with_sum at count x
set_byte at count x c d v k clear added right set =
    let same : k ≡ complement (sum (take count c)) = omega (arith, right, added) in
    set ∙ ap (λ n. put at (n ∷ []) c) same ∙ ap (λ y. put at (complement (sum (take count y)) ∷ []) y) clear

-- ---- what bytes of each kind are after it

sum_before : (o at count : ℕ) (x : List ℕ) → o + 4 ≤ at → at + 1 ≤ length x → field_at o 4 (with_sum at count x) ≡ field_at o 4 x
sum_before o at count x h k =
    let c = put at (0 ∷ []) x in
    let size : length c ≡ length x = length-put at (0 ∷ []) x k in
    stays_before o at (complement (sum (take count c))) c h (omega (arith, size)) ∙ stays_before o at 0 x h (omega arith)

sum_after : (o at count : ℕ) (x : List ℕ) → at + 1 ≤ o → at + 1 ≤ length x → field_at o 4 (with_sum at count x) ≡ field_at o 4 x
sum_after o at count x h k =
    let c = put at (0 ∷ []) x in
    let size : length c ≡ length x = length-put at (0 ∷ []) x k in
    stays_after o at (complement (sum (take count c))) c h (omega (arith, size)) ∙ stays_after o at 0 x h k

-- the byte makes all bytes sum to zero
sums_all : (at : ℕ) (x : List ℕ) → at + 1 ≤ length x → sum (with_sum at (length x) x) % 256 ≡ 0
sums_all at x h =
    let z = with_sum at (length x) x in
    let whole : take (length x) z ≡ z = take_all (length x) z (omega (arith, sum_length at (length x) x h)) in
    ap (λ l. sum l % 256) (sym whole) ∙ sums at (length x) x h (omega arith)

table_is : (x : List ℕ) → 36 ≤ length x → length x < 2 ^ 32 → IsTrueTable (set_seals (Length 4 ∷ Checksum 9 ∷ []) x)
table_is x some small =
    let y = with_length 4 x in
    let ly : length y ≡ length x = length_set 4 x (omega arith) in
    let lz : length (with_sum 9 (length y) y) ≡ length y = sum_length 9 (length y) y (omega (arith, ly)) in
    record {
      header = omega (arith, ly, lz);
      tells = sum_before 4 9 (length y) y (omega arith) (omega (arith, ly)) ∙ tells 4 x (omega arith) small ∙ sym ly ∙ sym lz;
      zero = sums_all 9 y (omega (arith, ly));
    }

coherent_is : (x : List ℕ) → 16 ≤ length x → length x < 2 ^ 32 → IsCoherent (set_seals (Length 0 ∷ Checksum 5 ∷ []) x)
coherent_is x some small =
    let y = with_length 0 x in
    let ly : length y ≡ length x = length_set 0 x (omega arith) in
    let lz : length (with_sum 5 (length y) y) ≡ length y = sum_length 5 (length y) y (omega (arith, ly)) in
    record {
      some = omega (arith, ly, lz);
      whole = sum_before 0 5 (length y) y (omega arith) (omega (arith, ly)) ∙ tells 0 x (omega arith) small ∙ sym ly ∙ sym lz;
      sums = sums_all 5 y (omega (arith, ly));
    }

-- the revision of a pointer stays
revision : (k : ℕ) (x : List ℕ) → 16 ≤ length x → slice_index (put 8 (k ∷ []) x) 15 ≡ slice_index x 15
unfolding put
revision k (x0 ∷ x1 ∷ x2 ∷ x3 ∷ x4 ∷ x5 ∷ x6 ∷ x7 ∷ x8 ∷ x9 ∷ x10 ∷ x11 ∷ x12 ∷ x13 ∷ x14 ∷ x15 ∷ r) h = refl
revision k x h = absurd (omega arith)

pointer_is : (b : Bool) (x : List ℕ) → is_short_pointer x ≡ b → cond b 20 36 ≤ length x → length x < 2 ^ 32
    → IsPointer (set_seals (cond b (FrontChecksum 8 ∷ []) (Length 20 ∷ FrontChecksum 8 ∷ Checksum 32 ∷ [])) x)
pointer_is true x is some small =
    let twenty : length x ≡ 20 = grind (arith, nat_tests, is) in
    let old : slice_index x 15 < 2 = grind (arith, nat_tests, is) in
    let c = put 8 (0 ∷ []) x in
    let lc : length c ≡ length x = length-put 8 (0 ∷ []) x (omega (arith, twenty)) in
    let lz : length (with_sum 8 20 x) ≡ length x = sum_length 8 20 x (omega (arith, twenty)) in
    let same : slice_index (with_sum 8 20 x) 15 ≡ slice_index x 15 =
    revision (complement (sum (take 20 c))) c (omega (arith, lc, twenty)) ∙ revision 0 x (omega (arith, twenty)) in
    record {
      some = omega (arith, lz, twenty);
      front = sums 8 20 x (omega arith) (omega (arith, twenty));
      rest = inl (omega (arith, same, old), lz ∙ twenty);
    }
pointer_is false x is some small =
    let y = with_length 20 x in
    let w = with_sum 8 20 y in
    let ly : length y ≡ length x = length_set 20 x (omega arith) in
    let lw : length w ≡ length y = sum_length 8 20 y (omega (arith, ly)) in
    let lz : length (with_sum 32 (length w) w) ≡ length w = sum_length 32 (length w) w (omega (arith, ly, lw)) in
    let told : field_at 20 4 w ≡ length x = sum_after 20 8 20 y (omega arith) (omega (arith, ly)) ∙ tells 20 x (omega arith) small in
    record {
      some = omega (arith, ly, lw, lz);
      front = ap (λ l. sum l % 256) (same_front 20 32 (length w) w (omega arith) (omega (arith, ly, lw)))
          ∙ sums 8 20 y (omega arith) (omega (arith, ly));
      rest = inr (
        omega (arith, ly, lw, lz),
        sum_before 20 32 (length w) w (omega arith) (omega (arith, ly, lw)) ∙ told ∙ sym ly ∙ sym lw ∙ sym lz,
        sums_all 32 w (omega (arith, ly, lw)),
      );
    }

control_is : (x : List ℕ) → 64 ≤ length x → length x < 2 ^ 32 → IsControl (with_length 4 x)
control_is x some small =
    let ly : length (with_length 4 x) ≡ length x = length_set 4 x (omega arith) in
    record { some = omega (arith, ly); whole = tells 4 x (omega arith) small ∙ sym ly }

performance_is : (x : List ℕ) → 8 ≤ length x → length x < 2 ^ 32 → IsPerformance (with_length 4 x)
performance_is x some small =
    let ly : length (with_length 4 x) ≡ length x = length_set 4 x (omega arith) in
    record { some = omega (arith, ly); whole = tells 4 x (omega arith) small ∙ sym ly }

pub is_kind : (kind : FileKind) (x : List ℕ) → least kind x ≤ length x → length x < 2 ^ 32 → IsKind kind (set_seals (seals_as kind x) x)
is_kind Table x some small = table_is x some small
is_kind Rsdp x some small = pointer_is (is_short_pointer x) x refl some small
is_kind Facs x some small = control_is x some small
is_kind S3pt x some small = performance_is x some small
is_kind Cdat x some small = coherent_is x some small

-- ---- room

pub has_room : (kind : FileKind) (x : List ℕ) → least kind x ≤ length x → need (seals_as kind x) ≤ length x
has_room Table x some = omega arith
has_room Rsdp x some = by (is_short_pointer x) some
  where
    by : (b : Bool) → cond b 20 36 ≤ length x → need (cond b (FrontChecksum 8 ∷ []) (Length 20 ∷ FrontChecksum 8 ∷ Checksum 32 ∷ [])) ≤ length x
    by true h = omega arith
    by false h = omega arith
has_room Facs x some = omega arith
has_room S3pt x some = omega arith
has_room Cdat x some = omega arith

-- fields keep the number of bytes
pub length_kept : (seal : Seal) (x : List ℕ) → needs seal ≤ length x → length (set_seal seal x) ≡ length x
length_kept (Length at) x h = length_set at x h
length_kept (Checksum at) x h = sum_length at (length x) x h
length_kept (FrontChecksum at) x h = sum_length at 20 x (omega arith)

-- ---- bytes that fit

fit_by : (n m : ℕ) (u v : Unfit) (rest : Option Unfit) (few many : Bool) → nat_lt n m ≡ few → nat_lt 0xffffffff n ≡ many
    → cond few (Some u) (cond many (Some v) rest) ≡ None → (m ≤ n) × (n < 2 ^ 32)
fit_by n m u v rest true many is_few is_many e = absurd (cc)
fit_by n m u v rest false true is_few is_many e = absurd (cc)
fit_by n m u v rest false false is_few is_many e = (grind (arith, nat_tests, is_few), grind (arith, nat_tests, is_many))

-- they are enough, and not more than a length can say
pub fits : (x : List ℕ) → unfit_of x ≡ None → (least (kind_of x) x ≤ length x) × (length x < 2 ^ 32)
fits x is = by (another_of x) is
  where
    by : (another : Option Another) → unfit_by another (kind_of x) x ≡ None → (least (kind_of x) x ≤ length x) × (length x < 2 ^ 32)
    by (Some another) e = absurd (cc)
    by None e =
        fit_by (length x) (least (kind_of x) x) (Short (least (kind_of x) x)) Long
        (cond (is_signed (kind_of x) x) None (Some NotSigned))
        (nat_lt (length x) (least (kind_of x) x)) (nat_lt 0xffffffff (length x)) refl refl e
