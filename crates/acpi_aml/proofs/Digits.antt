-- Bytes read from digits, two by two.
use Rattle.std.proofs.Common.{◌≡◌, ℕ, suc, ◌+◌, ◌*◌, ◌<◌, List, [], ◌∷◌, ◌++◌, length, take, drop, set, get_or, Some, None, refl, sym, ap, ◌∙◌, arith, append_assoc}
use Rattle.std.specs.Prelude.{Option}
use Rattle.std.proofs.Math.Seq.{drop-cons}
use Rattle.std.proofs.lemmas.List.{take_more_set, take_all, drop_all, append-nil}
use Rattle.acpi_aml.specs.Hex.{byte_of_digits, led, bytes_of_digits}

-- bytes before others, where these are there
abbrev pub before : List ℕ → Option (List ℕ) → Option (List ℕ)
before bytes (Some more) = Some (bytes ++ more)
before bytes None = None

before_none : (more : Option (List ℕ)) → before [] more ≡ more
before_none (Some more) = refl
before_none None = refl

before_led : (bytes : List ℕ) (b : ℕ) (more : Option (List ℕ)) → before bytes (led (Some b) more) ≡ before (bytes ++ b ∷ []) more
before_led bytes b (Some more) = ap Some (sym (append_assoc bytes (b ∷ []) more))
before_led bytes b None = refl

pair_at : (text : List ℕ) (j k l : ℕ) → k ≡ suc j → l ≡ suc k → k < length text → bytes_of_digits (drop j text) ≡ led (byte_of_digits (get_or text j 0) (get_or text k 0)) (bytes_of_digits (drop l text))
pair_at text j k l second third inside =
    let a : drop j text ≡ get_or text j 0 ∷ drop k text = rw second (drop-cons text j 0 (omega arith)) in
    let b : drop k text ≡ get_or text k 0 ∷ drop l text = rw third (drop-cons text k 0 inside) in
    ap bytes_of_digits (a ∙ ap (λ (t : List ℕ). get_or text j 0 ∷ t) b)

pub read_none : (text bytes : List ℕ) → bytes_of_digits text ≡ before (take 0 bytes) (bytes_of_digits (drop (2 * 0) text))
read_none text bytes = sym (before_none (bytes_of_digits text))

module _ (text bytes : List ℕ) (i : ℕ) (so_far : bytes_of_digits text ≡ before (take i bytes) (bytes_of_digits (drop (2 * i) text))) where
  pub read_more : (b : ℕ) (bytes' : List ℕ) → 2 * i + 1 < length text → i < length bytes → byte_of_digits (get_or text (2 * i) 0) (get_or text (2 * i + 1) 0) ≡ Some b → bytes' ≡ set bytes i b
      → bytes_of_digits text ≡ before (take (i + 1) bytes') (bytes_of_digits (drop (2 * (i + 1)) text))
  read_more b bytes' inside room here now =
      let pair = pair_at text (2 * i) (2 * i + 1) (2 * (i + 1)) (omega arith) (omega arith) inside in
      let front : take (i + 1) bytes' ≡ take i bytes ++ b ∷ [] = ap (take (i + 1)) now ∙ take_more_set bytes i b room in
      let rest = bytes_of_digits (drop (2 * (i + 1)) text) in
      so_far ∙ ap (before (take i bytes)) (pair ∙ ap (λ (o : Option ℕ). led o rest) here) ∙ before_led (take i bytes) b rest ∙ ap (λ (l : List ℕ). before l rest) (sym front)

  pub read_fails : 2 * i + 1 < length text → byte_of_digits (get_or text (2 * i) 0) (get_or text (2 * i + 1) 0) ≡ None → bytes_of_digits text ≡ None
  read_fails inside here =
      let pair = pair_at text (2 * i) (2 * i + 1) (2 * (i + 1)) (omega arith) (omega arith) inside in
      so_far ∙ ap (before (take i bytes)) (pair ∙ ap (λ (o : Option ℕ). led o (bytes_of_digits (drop (2 * (i + 1)) text))) here)

  pub read_all : length text ≡ 2 * i → length bytes ≡ i → bytes_of_digits text ≡ Some bytes
  read_all done size =
      let none : drop (2 * i) text ≡ [] = drop_all (2 * i) text (omega arith) in
      let all : take i bytes ≡ bytes = take_all i bytes (omega arith) in
      so_far ∙ ap (λ (l : List ℕ). before (take i bytes) (bytes_of_digits l)) none ∙ ap Some (append-nil (take i bytes) ∙ all)
