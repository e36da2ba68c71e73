-- Tables: their checksums, their lengths, and what they are as sinks.
use Rattle.std.proofs.Common.{◌≡◌, ℕ, ◌+◌, ◌-◌, ◌%◌, ◌<◌, ◌≤◌, ◌^◌, List, [], ◌∷◌, ◌++◌, length, take, drop, get_or, nat_lt, true, false, refl, sym, ◌∙◌, ap, arith, inl, inr, append_assoc, length-append}
use Rattle.std.specs.Prelude.{Result, Ok, Err, OnOk, IfErr, None, sum, slice_set}
use Rattle.std.proofs.lemmas.List.{append-nil, take_at, drop-take}
use Rattle.std.proofs.lemmas.Bool.{cases_lt}
use Rattle.std.proofs.lemmas.Bool.Decides.{nat_tests}
use Rattle.acpi_base.specs.declared.error.Error.{Error}
use Rattle.acpi_base.specs.Bytes.{le, carried, put, complement, field_at}
use Rattle.acpi_base.specs.declared.oem.Oem.{Oem}
use Rattle.acpi_base.proofs.Bytes.{carried_le}
use Rattle.acpi_base.specs.Sink.{Took, Refused}
use Rattle.acpi_base.specs.Object.{Object, Wrote}
use Rattle.acpi_base.specs.Header.{header}
use Rattle.acpi_base.specs.Walk.{named, walk_of, ArePiecesOf}
use Rattle.acpi_base.specs.Table.{with_checksum, table_of, IsTrueTable}
use Rattle.acpi_base.specs.Sdt.{sealed, added, overwritten, Contents, Addition, AddedObject, fits, sdt_of, is_field_width}
use Rattle.std.proofs.lemmas.List.Sums.{sum_by-append}
use Rattle.acpi_base.specs.Kept.{IsKept}
use Rattle.acpi_base.proofs.Puts.{put-put, put_comm, put_over, take-put, length-put, sum-put, put-append}

-- ---- checksums

-- the checksum's byte once it was cleared
cleared : (c : List ℕ) → 10 ≤ length c → sum (take 1 (drop 9 (put 9 (0 ∷ []) c))) ≡ 0
unfolding put
cleared (x0 ∷ x1 ∷ x2 ∷ x3 ∷ x4 ∷ x5 ∷ x6 ∷ x7 ∷ x8 ∷ x9 ∷ r) h = refl
cleared c h = absurd (omega arith)

pub sum-with_checksum : (bytes : List ℕ) → 10 ≤ length bytes → sum (with_checksum bytes) % 256 ≡ 0
sum-with_checksum bytes h =
    let c = put 9 (0 ∷ []) bytes in
    let k = complement (sum c) in
    let long : length c ≡ length bytes = length-put 9 (0 ∷ []) bytes h in
    let again : put 9 (k ∷ []) c ≡ with_checksum bytes = put-put 9 (k ∷ []) (0 ∷ []) bytes refl h in
    let sums : sum (put 9 (k ∷ []) c) + sum (take 1 (drop 9 c)) ≡ sum c + sum (k ∷ []) = sum-put 9 (k ∷ []) c (omega (arith, long)) in
    omega (arith, ap sum again, sums, cleared bytes h)

-- a checksum made true twice
checksum_again : (b : List ℕ) → 10 ≤ length b → with_checksum (with_checksum b) ≡ with_checksum b
unfolding put
checksum_again (x0 ∷ x1 ∷ x2 ∷ x3 ∷ x4 ∷ x5 ∷ x6 ∷ x7 ∷ x8 ∷ x9 ∷ r) h = refl
checksum_again b h = absurd (omega arith)

-- ---- signatures

-- a checksum leaves the signature
begins : (s x k : List ℕ) → length s ≡ 4 → take 4 (put 9 k (s ++ x)) ≡ s
unfolding put
begins (a ∷ b ∷ c ∷ d ∷ []) x k four = refl
begins (a ∷ b ∷ c ∷ d ∷ e ∷ s) x k four = absurd (omega arith)
begins s x k four = absurd (omega arith)

-- what a signature is read as
checked_named : (s x bytes : List ℕ) → bytes ≡ s ++ x → length s ≡ 4 → field_at 0 4 (with_checksum bytes) ≡ named s
checked_named s x bytes is four =
    let k = complement (sum (put 9 (0 ∷ []) bytes)) ∷ [] in ap carried (ap (λ b. take 4 (put 9 k b)) is ∙ begins s x k four)

pub table_named : (s : List ℕ) (revision : ℕ) (oem : Oem) (body : List ℕ) → length s ≡ 4 → field_at 0 4 (table_of s revision oem body) ≡ named s
table_named s revision oem body four = checked_named s _ (header s (36 + length body) revision oem ++ body) (append_assoc s _ body) four

-- what begins with a signature that has no walk has no pieces
pub without_pieces : (s x bytes : List ℕ) → bytes ≡ s ++ x → length s ≡ 4 → walk_of (named s) ≡ None → ArePiecesOf (with_checksum bytes) []
without_pieces s x bytes is four none = let by : walk_of (field_at 0 4 (with_checksum bytes)) ≡ None = ap walk_of (checked_named s x bytes is four) ∙ none in rw by refl

pub table_without_pieces : (s : List ℕ) (revision : ℕ) (oem : Oem) (body : List ℕ) → length s ≡ 4 → walk_of (named s) ≡ None → ArePiecesOf (table_of s revision oem body) []
table_without_pieces s revision oem body = without_pieces s _ (header s (36 + length body) revision oem ++ body) (append_assoc s _ body)

-- ---- lengths

sealed_sealed : (c d : List ℕ) → 10 ≤ length c → sealed (sealed c ++ d) ≡ sealed (c ++ d)
unfolding put
sealed_sealed (x0 ∷ x1 ∷ x2 ∷ x3 ∷ x4 ∷ x5 ∷ x6 ∷ x7 ∷ x8 ∷ x9 ∷ r) d h = refl
sealed_sealed c d h = absurd (omega arith)

pub length-with_checksum : (c : List ℕ) → 10 ≤ length c → length (with_checksum c) ≡ length c
length-with_checksum c h = length-put 9 (complement (sum (put 9 (0 ∷ []) c)) ∷ []) c h

length-sealed : (c : List ℕ) → 10 ≤ length c → length (sealed c) ≡ length c
length-sealed c h =
    let one : length (put 4 (le 4 (length c)) c) ≡ length c = length-put 4 (le 4 (length c)) c (omega arith) in
    length-with_checksum (put 4 (le 4 (length c)) c) (omega (arith, one)) ∙ one

pub length-added : (b a : List ℕ) → 10 ≤ length b → length (added b a) ≡ length b + length a
length-added b [] h = omega arith
length-added b (x ∷ a) h = length-sealed (b ++ x ∷ a) (omega (arith, length-append b (x ∷ a))) ∙ length-append b (x ∷ a)

pub added_added : (b a c : List ℕ) → 10 ≤ length b → added (added b a) c ≡ added b (a ++ c)
added_added b [] c h = refl
added_added b (x ∷ a) [] h = ap (λ t. sealed (b ++ x ∷ t)) (sym (append-nil a))
added_added b (x ∷ a) (y ∷ c) h =
    sealed_sealed (b ++ x ∷ a) (y ∷ c) (omega (arith, length-append b (x ∷ a))) ∙ ap sealed (append_assoc b (x ∷ a) (y ∷ c))

-- ---- as a sink

fits_added : (b a c : List ℕ) → 10 ≤ length b → length b + length a < 2 ^ 32 → fits (added b a) c ≡ fits b (a ++ c)
fits_added b [] c long h = refl
fits_added b (x ∷ a) [] long h = grind (arith, nat_tests, h, length-append (x ∷ a) [])
fits_added b (x ∷ a) (y ∷ c) long h =
    ap (λ n. nat_lt n (2 ^ 32)) (omega (arith, length-added b (x ∷ a) long, length-append (x ∷ a) (y ∷ c)))

sdt_took : (b a : List ℕ) → 10 ≤ length b → length b + length a < 2 ^ 32 → Took (sdt_of b) a (sdt_of (added b a))
unfolding sdt_of
sdt_took b a h small = record {
  moved = λ i. record { shows = λ c. added_added b a c h i; takes = λ c. fits_added b a c h small i; tells = is_field_width; wants_memory = true };
}

pub sdt_ok : (r : Result Unit Error) (old new : Contents) (a : List ℕ) → Addition r old a new → (36 ≤ length old.bytes) × (length old.bytes < 2 ^ 32) → OnOk r (Took (sdt_of old.bytes) a (sdt_of new.bytes))
sdt_ok (Ok x) old new a adds header = rw adds.ok (sdt_took old.bytes a (omega (arith, header.0)) adds.fits)
sdt_ok (Err e) old new a adds header = tt

too_long : (b a more : List ℕ) → length b < 2 ^ 32 → 2 ^ 32 ≤ length b + length a → fits b (a ++ more) ≡ false
too_long b [] more small long = absurd (omega arith)
too_long b (x ∷ a) more small long = grind (arith, nat_tests, small, long, length-append (x ∷ a) more)

pub sdt_err : (r : Result Unit Error) (old new : Contents) (a : List ℕ) → Addition r old a new → (36 ≤ length old.bytes) × (length old.bytes < 2 ^ 32) → IfErr r (λ e. Refused e (sdt_of old.bytes) a (sdt_of new.bytes))
unfolding sdt_of
sdt_err (Ok x) old new a adds header = tt
sdt_err (Err e) old new a adds header = record {
  beginning = record { part = []; rest = a; joined = refl; took = record { moved = ap (λ (c : Contents). sdt_of c.bytes) adds.err } };
  memory = λ is. refl;
  cause = λ is_other.
      let is = adds.cause is_other in
      record { told = ap is_field_width is.0; untaken = λ more. too_long old.bytes a more header.1 is.1 };
}

-- what a whole object that was written leaves
pub sdt_wrote : {T : Type 0} (r : Result T Error) (o : Object) (old new : List ℕ) → OnOk r (Wrote o (sdt_of old) (sdt_of new)) → OnOk r (AddedObject o old new)
unfolding sdt_of
sdt_wrote (Ok x) o old new wrote = record { is_whole = wrote.is_whole; is = ap (λ m. m.shows []) wrote.took.moved ∙ ap (added old) (append-nil o.front) }
sdt_wrote (Err e) o old new wrote = tt

-- ---- what the calls leave

-- a length patched in while the checksum is cleared
pub set_length_is : (b l c0 c1 : List ℕ) (r r' s : ℕ) → 36 ≤ length b → length l ≡ 4 → c0 ≡ put 9 (0 ∷ []) b → c1 ≡ put 4 l c0
    → r ≡ sum c0 % 256 → r' < 256 → (r' + sum c0) % 256 ≡ (r + sum c1) % 256 → s ≡ (256 - r') % 256
    → (put 9 (s ∷ []) c1 ≡ with_checksum (put 4 l b)) × (r' ≡ sum (put 9 (0 ∷ []) (put 9 (s ∷ []) c1)) % 256)
set_length_is b l c0 c1 r r' s long four is0 is1 sums small step complements =
    let size0 : length c0 ≡ length b = ap length is0 ∙ length-put 9 (0 ∷ []) b (omega arith) in
    let size1 : length c1 ≡ length b = ap length is1 ∙ length-put 4 l c0 (omega arith) ∙ size0 in
    let sizel : length (put 4 l b) ≡ length b = length-put 4 l b (omega arith) in
    let swap : c1 ≡ put 9 (0 ∷ []) (put 4 l b) = is1 ∙ ap (put 4 l) is0 ∙ put_comm 4 9 l (0 ∷ []) b (omega arith) (omega arith) in
    let over : put 9 (s ∷ []) c1 ≡ put 9 (s ∷ []) (put 4 l b) = ap (put 9 (s ∷ [])) swap ∙ put-put 9 (s ∷ []) (0 ∷ []) (put 4 l b) refl (omega (arith, sizel)) in
    let same : s ≡ complement (sum (put 9 (0 ∷ []) (put 4 l b))) = omega (arith, complements, step, sums, small, ap sum swap) in
    let back : put 9 (0 ∷ []) (put 9 (s ∷ []) c1) ≡ c1 = put-put 9 (0 ∷ []) (s ∷ []) c1 refl (omega (arith, size1)) ∙ ap (put 9 (0 ∷ [])) swap ∙ put-put 9 (0 ∷ []) (0 ∷ []) (put 4 l b) refl (omega (arith, sizel)) ∙ sym swap in
    (over ∙ ap (λ k. put 9 (k ∷ []) (put 4 l b)) same, omega (arith, ap sum back, step, sums, small))

-- ---- laws

-- the length stands at 4, whatever the checksum
field_kept : (c : List ℕ) → 10 ≤ length c → take 4 (drop 4 (with_checksum c)) ≡ take 4 (drop 4 c)
unfolding put
field_kept (x0 ∷ x1 ∷ x2 ∷ x3 ∷ x4 ∷ x5 ∷ x6 ∷ x7 ∷ x8 ∷ x9 ∷ r) h = refl
field_kept c h = absurd (omega arith)

field_put : (c : List ℕ) (v : ℕ) → 10 ≤ length c → take 4 (drop 4 (put 4 (le 4 v) c)) ≡ le 4 v
unfolding put
field_put (x0 ∷ x1 ∷ x2 ∷ x3 ∷ x4 ∷ x5 ∷ x6 ∷ x7 ∷ x8 ∷ x9 ∷ r) v h = refl
field_put c v h = absurd (omega arith)

-- a true checksum over bytes that contain their length
pub checked_is_true : (c : List ℕ) (n : ℕ) → 36 ≤ length c → length c ≡ n → n < 2 ^ 32 → take 4 (drop 4 c) ≡ le 4 n → IsTrueTable (with_checksum c) × (length (with_checksum c) ≡ n)
checked_is_true c n long is small told =
    let size : length (with_checksum c) ≡ n = length-with_checksum c (omega arith) ∙ is in
    let most : 256 ^ 4 ≡ 2 ^ 32 = refl in
    let tells : carried (take 4 (drop 4 (with_checksum c))) ≡ n = ap carried (field_kept c (omega arith) ∙ told) ∙ carried_le 4 n (omega (arith, most)) in
    (record { header = omega (arith, size, is); tells = tells ∙ sym size; zero = sum-with_checksum c (omega arith) }, size)

header_tells : (s : List ℕ) (size revision : ℕ) (oem : Oem) (rest : List ℕ) → length s ≡ 4 → take 4 (drop 4 (header s size revision oem ++ rest)) ≡ le 4 size
header_tells (a ∷ b ∷ c ∷ d ∷ []) size revision oem rest h = refl
header_tells (a ∷ b ∷ c ∷ d ∷ e ∷ s) size revision oem rest h = absurd (omega arith)
header_tells s size revision oem rest h = absurd (omega arith)

pub length-header : (s : List ℕ) (size revision : ℕ) (oem : Oem) → length s ≡ 4 → length oem.id ≡ 6 → length oem.table_id ≡ 8 → length (header s size revision oem) ≡ 36
length-header s size revision oem four six eight =
    simp length-append (omega (arith, four, six, eight))

pub table_is_true : (s body : List ℕ) (revision : ℕ) (oem : Oem) → length s ≡ 4 → length oem.id ≡ 6 → length oem.table_id ≡ 8 → 36 + length body < 2 ^ 32
    → IsTrueTable (table_of s revision oem body) × (length (table_of s revision oem body) ≡ 36 + length body)
table_is_true s body revision oem four six eight small =
    let h = header s (36 + length body) revision oem in
    let size : length (h ++ body) ≡ 36 + length body = omega (arith, length-append h body, length-header s (36 + length body) revision oem four six eight) in
    checked_is_true (h ++ body) (36 + length body) (omega (arith, size)) size small (header_tells s (36 + length body) revision oem body four)

-- bytes after a header that contains their length
pub headed_is_true : (bytes h rest s : List ℕ) (n revision : ℕ) (oem : Oem) → bytes ≡ h ++ rest → h ≡ header s n revision oem → length bytes ≡ n → 36 ≤ n → n < 2 ^ 32
    → length s ≡ 4 → IsTrueTable (with_checksum bytes)
headed_is_true bytes h rest s n revision oem is head size long small four =
    let told : take 4 (drop 4 bytes) ≡ le 4 n = ap (λ b. take 4 (drop 4 b)) (is ∙ ap (λ b. b ++ rest) head) ∙ header_tells s n revision oem rest four in
    (checked_is_true bytes n (omega (arith, size, long)) size small told).0

pub sealed_is_true : (c : List ℕ) → 36 ≤ length c → length c < 2 ^ 32 → IsTrueTable (sealed c) × (length (sealed c) ≡ length c)
sealed_is_true c long small =
    let told = put 4 (le 4 (length c)) c in
    let size : length told ≡ length c = length-put 4 (le 4 (length c)) c (omega arith) in
    checked_is_true told (length c) (omega (arith, size)) size small (field_put c (length c) (omega arith))

pub added_is_true : (table bytes : List ℕ) → 36 ≤ length table → 1 ≤ length bytes → length table + length bytes < 2 ^ 32
    → IsTrueTable (added table bytes) × (length (added table bytes) ≡ length table + length bytes)
added_is_true table [] long some small = absurd (omega arith)
added_is_true table (x ∷ xs) long some small =
    let size : length (table ++ x ∷ xs) ≡ length table + length (x ∷ xs) = length-append table (x ∷ xs) in
    let is = sealed_is_true (table ++ x ∷ xs) (omega (arith, size)) (omega (arith, size)) in
    (is.0, is.1 ∙ size)

pub overwritten_is_zero : (table bytes : List ℕ) (offset : ℕ) → 36 ≤ length table → offset + length bytes ≤ length table
    → (sum (overwritten table offset bytes) % 256 ≡ 0) × (length (overwritten table offset bytes) ≡ length table)
overwritten_is_zero table bytes offset long within =
    let size : length (put offset bytes table) ≡ length table = length-put offset bytes table within in
    (sum-with_checksum (put offset bytes table) (omega (arith, size)), length-with_checksum (put offset bytes table) (omega (arith, size)) ∙ size)

-- bytes that are written after the header leave the length field
pub overwritten_is_true : (table bytes : List ℕ) (offset : ℕ) → IsTrueTable table → 36 ≤ offset → offset + length bytes ≤ length table
    → IsTrueTable (overwritten table offset bytes)
overwritten_is_true table bytes offset valid after within =
    let wrote = put offset bytes table in
    let size : length wrote ≡ length table = length-put offset bytes table within in
    let zero = overwritten_is_zero table bytes offset valid.header within in
    let front : take 8 wrote ≡ take 8 table = take-put 8 offset bytes table (omega arith) (omega arith) in
    let field : take 4 (drop 4 wrote) ≡ take 4 (drop 4 table) = sym (drop-take 4 4 wrote) ∙ ap (drop 4) front ∙ drop-take 4 4 table in
    record {
      header = omega (arith, zero.1, valid.header);
      tells = ap carried (field_kept wrote (omega (arith, size, valid.header)) ∙ field) ∙ valid.tells ∙ sym zero.1;
      zero = zero.0;
    }

-- bytes written while the checksum is cleared are written all the same
cleared_put : (i x : ℕ) (a b : List ℕ) → 10 ≤ length b → i + length a ≤ length b → put 9 (x ∷ []) (put i a (put 9 (0 ∷ []) b)) ≡ put 9 (x ∷ []) (put i a b)
cleared_put i x a b long within =
    let size : length (put i a b) ≡ length b = length-put i a b within in
    elim (cases_lt 9 i) [
      | inl after ↦ ap (put 9 (x ∷ [])) (sym (put_comm 9 i (0 ∷ []) a b after within)) ∙ put-put 9 (x ∷ []) (0 ∷ []) (put i a b) refl (omega (arith, size))
      | inr low ↦ elim (cases_lt (i + length a) 10) [
        | inl before ↦ ap (put 9 (x ∷ [])) (put_comm i 9 a (0 ∷ []) b (omega arith) (omega arith)) ∙ put-put 9 (x ∷ []) (0 ∷ []) (put i a b) refl (omega (arith, size))
        | inr high ↦ ap (put 9 (x ∷ [])) (put_over i 9 a (0 ∷ []) b low (omega arith) within)
      ]
    ]

-- the byte at 9, among all
nine : (c : List ℕ) → 10 ≤ length c → sum (take 1 (drop 9 c)) ≡ 0 + get_or c 9 0
nine (x0 ∷ x1 ∷ x2 ∷ x3 ∷ x4 ∷ x5 ∷ x6 ∷ x7 ∷ x8 ∷ x9 ∷ r) h = refl
nine c h = absurd (omega arith)

at_nine : (c : List ℕ) → 10 ≤ length c → sum (put 9 (0 ∷ []) c) + get_or c 9 0 ≡ sum c
at_nine c h = omega (arith, sum-put 9 (0 ∷ []) c h, nine c h)

-- bytes written over others
pub overwrite_is : (b w c0 c1 : List ℕ) (i r r1 r2 s : ℕ) → 36 ≤ length b → i + length w ≤ length b → c0 ≡ put 9 (0 ∷ []) b → c1 ≡ put i w c0
    → r ≡ sum c0 % 256 → r1 < 256 → (r1 + sum c0) % 256 ≡ (r + sum c1) % 256 → (r2 + get_or c1 9 0) % 256 ≡ r1 → r2 < 256 → s ≡ (256 - r2) % 256
    → (put 9 (s ∷ []) c1 ≡ with_checksum (put i w b)) × (r2 ≡ sum (put 9 (0 ∷ []) (put 9 (s ∷ []) c1)) % 256)
overwrite_is b w c0 c1 i r r1 r2 s long within is0 is1 sums small step taken small2 complements =
    let size0 : length c0 ≡ length b = ap length is0 ∙ length-put 9 (0 ∷ []) b (omega arith) in
    let size1 : length c1 ≡ length b = ap length is1 ∙ length-put i w c0 (omega (arith, size0)) ∙ size0 in
    let same : (x : ℕ) → put 9 (x ∷ []) c1 ≡ put 9 (x ∷ []) (put i w b) = λ x. ap (λ c. put 9 (x ∷ []) c) (is1 ∙ ap (put i w) is0) ∙ cleared_put i x w b (omega arith) within in
    let others : r2 ≡ sum (put 9 (0 ∷ []) c1) % 256 = omega (arith, at_nine c1 (omega (arith, size1)), step, sums, small, taken, small2) in
    let is : s ≡ complement (sum (put 9 (0 ∷ []) (put i w b))) = omega (arith, complements, others, ap sum (same 0)) in
    let back : put 9 (0 ∷ []) (put 9 (s ∷ []) c1) ≡ put 9 (0 ∷ []) c1 = put-put 9 (0 ∷ []) (s ∷ []) c1 refl (omega (arith, size1)) in
    (same s ∙ ap (λ k. put 9 (k ∷ []) (put i w b)) is, omega (arith, others, ap sum back))

-- the bytes of a vector that was written through a slice
pub written_back : (n : ℕ) (new old : List ℕ) → length new ≡ n → take n (new ++ drop (length new) old) ≡ new
written_back n new old size = take_at new (drop (length new) old) n size

-- what a table keeps
pub sealed_table : (bytes b : List ℕ) (r : ℕ) → bytes ≡ with_checksum b → 36 ≤ length b → length b < 2 ^ 32 → r ≡ sum (put 9 (0 ∷ []) bytes) % 256 → IsKept bytes r
sealed_table bytes b r is long small sums =
    let size : length bytes ≡ length b = ap length is ∙ length-with_checksum b (omega arith) in
    record { header = omega (arith, size); fits = omega (arith, size); sealed = is ∙ sym (checksum_again b (omega arith)) ∙ sym (ap with_checksum is); running = sums }

-- bytes added at the end leave the sum of all but the checksum true
pub sum_extended : (b a : List ℕ) (r r' : ℕ) → 36 ≤ length b → r ≡ sum (put 9 (0 ∷ []) b) % 256 → r' ≡ (r + sum a) % 256 → r' ≡ sum (put 9 (0 ∷ []) (b ++ a)) % 256
sum_extended b a r r' long before now =
    omega (arith, before, now, ap sum (put-append 9 (0 ∷ []) b a (omega arith)), sum_by-append (λ v. v) (put 9 (0 ∷ []) b) a)

-- the same of all bytes, without a length
pub seal_is : (b c0 : List ℕ) (r s : ℕ) → 36 ≤ length b → c0 ≡ put 9 (0 ∷ []) b → r ≡ sum c0 % 256 → s ≡ (256 - r) % 256
    → (put 9 (s ∷ []) c0 ≡ with_checksum b) × (r ≡ sum (put 9 (0 ∷ []) (put 9 (s ∷ []) c0)) % 256)
seal_is b c0 r s long is0 sums complements =
    let size0 : length c0 ≡ length b = ap length is0 ∙ length-put 9 (0 ∷ []) b (omega arith) in
    let over : put 9 (s ∷ []) c0 ≡ put 9 (s ∷ []) b = ap (put 9 (s ∷ [])) is0 ∙ put-put 9 (s ∷ []) (0 ∷ []) b refl (omega arith) in
    let same : s ≡ complement (sum (put 9 (0 ∷ []) b)) = omega (arith, complements, sums, ap sum is0) in
    let back : put 9 (0 ∷ []) (put 9 (s ∷ []) c0) ≡ c0 = put-put 9 (0 ∷ []) (s ∷ []) c0 refl (omega (arith, size0)) ∙ ap (put 9 (0 ∷ [])) is0 ∙ put-put 9 (0 ∷ []) (0 ∷ []) b refl (omega arith) ∙ sym is0 in
    (over ∙ ap (λ k. put 9 (k ∷ []) b) same, omega (arith, ap sum back, sums))

set_at_nine : (bytes : List ℕ) (b : ℕ) → 10 ≤ length bytes → slice_set bytes 9 b ≡ put 9 (b ∷ []) bytes
unfolding put
set_at_nine (x0 ∷ x1 ∷ x2 ∷ x3 ∷ x4 ∷ x5 ∷ x6 ∷ x7 ∷ x8 ∷ x9 ∷ r) b h = refl
set_at_nine bytes b h = absurd (omega arith)

-- a checksum that is written again
pub checksum_set : (bytes : List ℕ) (r s : ℕ) → IsKept bytes r → s ≡ (256 - r) % 256 → slice_set bytes 9 s ≡ bytes
checksum_set bytes r s is complements =
    let same : s ≡ complement (sum (put 9 (0 ∷ []) bytes)) = omega (arith, complements, is.running) in
    set_at_nine bytes s (omega (arith, is.header)) ∙ ap (λ k. put 9 (k ∷ []) bytes) same ∙ sym is.sealed

pub table_is_zero : (bytes : List ℕ) (r : ℕ) → IsKept bytes r → sum bytes % 256 ≡ 0
table_is_zero bytes r is = ap (λ b. sum b % 256) is.sealed ∙ sum-with_checksum bytes (omega (arith, is.header))
