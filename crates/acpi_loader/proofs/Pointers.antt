-- What the commands leave of an RSDP.
use Rattle.std.proofs.Common.{◌≡◌, ℕ, ◌+◌, ◌%◌, ◌^◌, ◌<◌, List, [], ◌∷◌, ◌++◌, length, take, refl, sym, ap, ◌∙◌, arith, append_assoc, length-append}
use Rattle.std.specs.Prelude.{sum, codes}
use Rattle.std.proofs.lemmas.List.{take_at, drop_at}
use Rattle.acpi_base.specs.Bytes.{le, put, complement, carried, field_at}
use Rattle.acpi_base.proofs.Bytes.{carried_le, length_le}
use Rattle.acpi_fixed.specs.Rsdp.{rsdp_bytes, rsdp_for}
use Rattle.acpi_fixed.specs.declared.rsdp.Rsdp.{Rsdp}
use Rattle.acpi_loader.specs.Firmware.{pointed, summed}
use Rattle.acpi_loader.specs.Loader.{unsummed_rsdp}
use Rattle.acpi_loader.proofs.Moves.{pointed_here, checked, summed_here, summed_within}

complement_byte : (n : ℕ) → complement n % 256 ≡ complement n
complement_byte n = omega arith

-- the first 20 bytes: those after the checksum, and those after the 20
abbrev tail_of : List ℕ → List ℕ
tail_of id = id ++ 2 ∷ 0 ∷ 0 ∷ 0 ∷ 0 ∷ []

abbrev rest_of : ℕ → ℕ → List ℕ
rest_of a extended = 36 ∷ 0 ∷ 0 ∷ 0 ∷ (le 8 a ++ extended ∷ 0 ∷ 0 ∷ 0 ∷ [])

-- an RSDP with these checksums
abbrev whole : List ℕ → ℕ → ℕ → ℕ → List ℕ
whole id check a extended = (codes "RSD PTR " ++ check ∷ tail_of id) ++ rest_of a extended

-- what is before the extended checksum
abbrev ahead : List ℕ → ℕ → ℕ → List ℕ
ahead id check a = (codes "RSD PTR " ++ check ∷ tail_of id) ++ 36 ∷ 0 ∷ 0 ∷ 0 ∷ le 8 a

module _ (id : List ℕ) (six : length id ≡ 6) where
  tail_size : length (tail_of id) ≡ 11
  tail_size = omega (arith, length-append id (2 ∷ 0 ∷ 0 ∷ 0 ∷ 0 ∷ []), six)

  first_size : (check : ℕ) → length (codes "RSD PTR " ++ check ∷ tail_of id) ≡ 20
  first_size check = omega (arith, tail_size)

  ahead_size : (check a : ℕ) → length (ahead id check a) ≡ 32
  ahead_size check a =
      omega (arith, length-append (codes "RSD PTR " ++ check ∷ tail_of id) (36 ∷ 0 ∷ 0 ∷ 0 ∷ le 8 a), first_size check, length_le 8 a)

  cut : (check a extended : ℕ) → whole id check a extended ≡ ahead id check a ++ extended ∷ 0 ∷ 0 ∷ 0 ∷ []
  cut check a extended =
      sym (append_assoc (codes "RSD PTR " ++ check ∷ tail_of id) (36 ∷ 0 ∷ 0 ∷ 0 ∷ le 8 a) (extended ∷ 0 ∷ 0 ∷ 0 ∷ []))

  first_checked : (check other a extended : ℕ) → put 8 (other ∷ []) (whole id check a extended) ≡ whole id other a extended
  first_checked check other a extended = checked 8 check other (codes "RSD PTR ") (tail_of id ++ rest_of a extended) refl

  extended_checked : (check a extended other : ℕ) → put 32 (other ∷ []) (whole id check a extended) ≡ whole id check a other
  extended_checked check a extended other =
      ap (put 32 (other ∷ [])) (cut check a extended)
      ∙ checked 32 extended other (ahead id check a) (0 ∷ 0 ∷ 0 ∷ []) (ahead_size check a) ∙ sym (cut check a other)

  told : (t a v check extended : ℕ) → a < 2 ^ 64 → v ≡ a + t → pointed 24 t (whole id check a extended) ≡ whole id check v extended
  told t a v check extended small is =
      let start = codes "RSD PTR " ++ check ∷ tail_of id in
      let four = 36 ∷ 0 ∷ 0 ∷ 0 ∷ [] in
      let last = extended ∷ 0 ∷ 0 ∷ 0 ∷ [] in
      let size : length (start ++ four) ≡ 24 = omega (arith, length-append start four, first_size check) in
      ap (pointed 24 t) (sym (append_assoc start four (le 8 a ++ last))) ∙ pointed_here 24 a t v (start ++ four) last size small is
      ∙ append_assoc start four (le 8 v ++ last)

  tells : (check a extended : ℕ) → a < 2 ^ 64 → field_at 24 8 (whole id check a extended) ≡ a
  tells check a extended small =
      let start = codes "RSD PTR " ++ check ∷ tail_of id in
      let four = 36 ∷ 0 ∷ 0 ∷ 0 ∷ [] in
      let last = extended ∷ 0 ∷ 0 ∷ 0 ∷ [] in
      let size : length (start ++ four) ≡ 24 = omega (arith, length-append start four, first_size check) in
      ap (field_at 24 8) (sym (append_assoc start four (le 8 a ++ last)))
      ∙ ap (λ b. carried (take 8 b)) (drop_at (start ++ four) (le 8 a ++ last) 24 size)
      ∙ ap carried (take_at (le 8 a) last 8 (length_le 8 a)) ∙ carried_le 8 a small

  -- the checksum of the first 20 bytes
  abbrev first_sum : ℕ
  first_sum = complement (sum (codes "RSD PTR " ++ 0 ∷ tail_of id))

  first_summed : (a extended : ℕ) → summed 8 0 20 (whole id 0 a extended) ≡ whole id first_sum a extended
  first_summed a extended =
      let h = codes "RSD PTR " in
      summed_within 0 8 20 [] (h ++ 0 ∷ tail_of id) (rest_of a extended) refl (sym (first_size 0)) (omega arith)
      ∙ ap (λ l. l ++ rest_of a extended) (summed_here 8 20 h (tail_of id) refl (sym (first_size 0)))

  abbrev extended_sum : ℕ → ℕ
  extended_sum a = complement (sum (whole id first_sum a 0))

  all_summed : (a : ℕ) → summed 32 0 36 (whole id first_sum a 0) ≡ whole id first_sum a (extended_sum a)
  all_summed a =
      let h = ahead id first_sum a in
      let s = 0 ∷ 0 ∷ 0 ∷ [] in
      let size : 36 ≡ length (h ++ 0 ∷ s) = omega (arith, length-append h (0 ∷ s), ahead_size first_sum a) in
      ap (summed 32 0 36) (cut first_sum a 0) ∙ summed_here 32 36 h s (ahead_size first_sum a) size
      ∙ ap (λ l. h ++ complement (sum l) ∷ s) (sym (cut first_sum a 0)) ∙ sym (cut first_sum a (complement (sum (whole id first_sum a 0))))

  -- an RSDP of revision 2 with these checksums
  abbrev raw : ℕ → ℕ → ℕ → Rsdp
  raw check a extended = record {
    signature = codes "RSD PTR ";
    checksum = check;
    oem_id = id;
    revision = 2;
    length = 36;
    xsdt_addr = a;
    extended_checksum = extended;
  }

  raw_is : (check a extended : ℕ) → rsdp_bytes (raw check a extended) ≡ whole id (check % 256) a (extended % 256)
  raw_is check a extended =
      ap (λ l. codes "RSD PTR " ++ (check % 256) ∷ l) (sym (append_assoc id (2 ∷ 0 ∷ 0 ∷ 0 ∷ 0 ∷ []) (rest_of a (extended % 256))))

  -- the RSDP with its checksums
  pub pointer_is : (a : ℕ) → rsdp_bytes (rsdp_for id a) ≡ whole id first_sum a (extended_sum a)
  pointer_is a =
      let first = sum (take 20 (rsdp_bytes (raw 0 a 0))) in
      let front : take 20 (whole id 0 a 0) ≡ codes "RSD PTR " ++ 0 ∷ tail_of id
      = take_at (codes "RSD PTR " ++ 0 ∷ tail_of id) (rest_of a 0) 20 (first_size 0) in
      let one : complement first % 256 ≡ first_sum
      = complement_byte first ∙ ap (λ l. complement (sum (take 20 l))) (raw_is 0 a 0) ∙ ap (λ l. complement (sum l)) front in
      let half : rsdp_bytes (raw (complement first) a 0) ≡ whole id first_sum a 0
      = raw_is (complement first) a 0 ∙ ap (λ k. whole id k a 0) one in
      let all = sum (rsdp_bytes (raw (complement first) a 0)) in
      let two : complement all % 256 ≡ extended_sum a = complement_byte all ∙ ap (λ l. complement (sum l)) half in
      raw_is (complement first) a (complement all)
      ∙ ap (λ k. whole id k a (complement all % 256)) one ∙ ap (λ k. whole id first_sum a k) two

  pub pointer_done : (t a v : ℕ) → a < 2 ^ 64 → v ≡ a + t
      → summed 32 0 36 (summed 8 0 20 (pointed 24 t (unsummed_rsdp (rsdp_bytes (rsdp_for id a))))) ≡ rsdp_bytes (rsdp_for id v)
  pointer_done t a v small is =
      ap (λ l. summed 32 0 36 (summed 8 0 20 (pointed 24 t (unsummed_rsdp l)))) (pointer_is a)
      ∙ ap (λ l. summed 32 0 36 (summed 8 0 20 (pointed 24 t (put 8 (0 ∷ []) l)))) (extended_checked first_sum a (extended_sum a) 0)
      ∙ ap (λ l. summed 32 0 36 (summed 8 0 20 (pointed 24 t l))) (first_checked first_sum 0 a 0)
      ∙ ap (λ l. summed 32 0 36 (summed 8 0 20 l)) (told t a v 0 0 small is)
      ∙ ap (summed 32 0 36) (first_summed v 0) ∙ all_summed v ∙ sym (pointer_is v)

  -- the address of the XSDT, as it is read
  pub pointer_tells : (a : ℕ) → a < 2 ^ 64 → field_at 24 8 (rsdp_bytes (rsdp_for id a)) ≡ a
  pointer_tells a small = ap (field_at 24 8) (pointer_is a) ∙ tells first_sum a (extended_sum a) small

  pub pointer_size : (a : ℕ) → length (rsdp_bytes (rsdp_for id a)) ≡ 36
  pointer_size a =
      ap length (pointer_is a ∙ cut first_sum a (extended_sum a))
      ∙ omega (arith, length-append (ahead id first_sum a) (extended_sum a ∷ 0 ∷ 0 ∷ 0 ∷ []), ahead_size first_sum a)
