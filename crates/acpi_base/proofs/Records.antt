-- Records: fields written one after another.
use Rattle.std.proofs.Common.{◌≡◌, ℕ, ◌+◌, ◌<◌, ◌≤◌, List, [], ◌∷◌, ◌++◌, length, take, drop, get_or, refl, sym, ◌∙◌, ap, append_assoc, arith, length-append}
use Rattle.std.proofs.lemmas.List.{take_more, take_at, length-take-le, take-append-drop, take_all, append-nil}
use Rattle.acpi_base.specs.declared.record.Field.{Field}
use Rattle.acpi_base.specs.Bytes.{put}
use Rattle.acpi_base.specs.Record.{field_bytes, fields_bytes}

fields_bytes-append : (a b : List Field) → fields_bytes (a ++ b) ≡ fields_bytes a ++ fields_bytes b
fields_bytes-append [] b = refl
fields_bytes-append (r ∷ a) b = ap (λ (t : List ℕ). field_bytes r ++ t) (fields_bytes-append a b) ∙ sym (append_assoc (field_bytes r) (fields_bytes a) (fields_bytes b))

module _ (fields : List Field) (i : ℕ) (d : Field) (inside : i < length fields) where
  pub fields_more : fields_bytes (take (i + 1) fields) ≡ fields_bytes (take i fields) ++ field_bytes (get_or fields i d)
  fields_more = ap fields_bytes (take_more fields i d inside) ∙ fields_bytes-append (take i fields) (get_or fields i d ∷ []) ∙ ap (λ (t : List ℕ). fields_bytes (take i fields) ++ t) (append-nil (field_bytes (get_or fields i d)))

  pub length-fields_more : length (fields_bytes (take (i + 1) fields)) ≡ length (fields_bytes (take i fields)) + length (field_bytes (get_or fields i d))
  length-fields_more = ap length fields_more ∙ length-append (fields_bytes (take i fields)) (field_bytes (get_or fields i d))

  pub field_within : length (fields_bytes (take i fields)) + length (field_bytes (get_or fields i d)) ≤ length (fields_bytes fields)
  field_within =
      let all : fields_bytes fields ≡ fields_bytes (take (i + 1) fields) ++ fields_bytes (drop (i + 1) fields) = ap fields_bytes (sym (take-append-drop (i + 1) fields)) ∙ fields_bytes-append (take (i + 1) fields) (drop (i + 1) fields) in
      omega (arith, length-fields_more, ap length all, length-append (fields_bytes (take (i + 1) fields)) (fields_bytes (drop (i + 1) fields)))

  -- the next field after those that are written
  pub field_written : (at at' : ℕ) (b b' : List ℕ) → at ≡ length (fields_bytes (take i fields)) → take at b ≡ fields_bytes (take i fields) → at + length (field_bytes (get_or fields i d)) ≤ length b
      → at' ≡ at + length (field_bytes (get_or fields i d)) → b' ≡ put at (field_bytes (get_or fields i d)) b → take at' b' ≡ fields_bytes (take (i + 1) fields)
  unfolding put
  field_written at at' b b' is before fits next now =
      let r = field_bytes (get_or fields i d) in
      let whole : b' ≡ (take at b ++ r) ++ drop (at + length r) b = now ∙ sym (append_assoc (take at b) r (drop (at + length r) b)) in
      let size : length (take at b ++ r) ≡ at' = omega (arith, length-append (take at b) r, length-take-le at b (omega arith), next) in
      ap (take at') whole ∙ take_at (take at b ++ r) (drop (at + length r) b) at' size ∙ ap (λ t. t ++ r) before ∙ sym fields_more

-- all fields are written
pub all_written : (fields : List Field) (i at n : ℕ) (b : List ℕ) → length fields ≤ i → length b ≡ n → at ≡ length (fields_bytes (take i fields)) → take at b ≡ fields_bytes (take i fields)
    → length (fields_bytes fields) ≡ n → b ≡ fields_bytes fields
all_written fields i at n b done size is written fits =
    let all : take i fields ≡ fields = take_all i fields done in
    sym (take_all at b (omega (arith, is, ap (λ r. length (fields_bytes r)) all))) ∙ written ∙ ap fields_bytes all
