-- What is written as a string is one.
use Rattle.std.proofs.Common.{◌≡◌, ◌≢◌, ℕ, ◌/◌, ◌%◌, ◌<◌, ◌==◌, nat_le, ◌&&◌, Bool, true, false, cond}
use Rattle.std.proofs.Common.{List, [], ◌∷◌, ◌++◌, map, codes, refl, sym, ap, subst, ◌∙◌, arith, inl, inr}
use Rattle.std.proofs.lemmas.Bool.{and_parts, leb-true, lt-ltb, le-ltb, cases_lt}
use Rattle.std.specs.List.{concat, flat_map}
use Rattle.acpi_base.specs.Bytes.{AreBytes}
use Rattle.acpi_base.specs.Digit.{hex_byte}
use Rattle.acpi_json.specs.Laws.{IsCharacter, AreCharacters, IsString, StringsAreStrings}
use Rattle.acpi_json.specs.Text.{character, text_byte}

other_than : (c n : ℕ) → (c == n) ≡ false → (n == n) ≡ true → c ≢ n
other_than c n other same is = let e : true ≡ false = sym same ∙ sym (ap (λ k. k == n) is) ∙ other in cc

chosen : (c : ℕ) → c < 256 → (q s p : Bool) → (c == 34) ≡ q → (c == 92) ≡ s → (nat_le 32 c && nat_le c 126) ≡ p
    → IsCharacter (cond q (codes "\\\"") (cond s (codes "\\\\") (cond p (c ∷ []) (codes "\\u00" ++ hex_byte c))))
chosen c small true s p one two three = inr (inl refl)
chosen c small false true p one two three = inr (inr (inl refl))
chosen c small false false true one two three =
    let parts = and_parts (nat_le 32 c) (nat_le c 126) three in
    inl (c, (leb-true 32 c parts.0, other_than c 34 one refl, other_than c 92 two refl), refl)
chosen c small false false false one two three = inr (inr (inr (c / 16, c % 16, omega arith, omega arith, refl)))

character_is : (c : ℕ) → c < 256 → IsCharacter (character c)
character_is c small = chosen c small (c == 34) (c == 92) (nat_le 32 c && nat_le c 126) refl refl refl

text_byte_is : (c : ℕ) → c < 256 → IsCharacter (text_byte c)
text_byte_is c small =
    elim (cases_lt c 128) [
      | inl low ↦ subst IsCharacter (sym (ap (λ b. cond b (character c) (c ∷ [])) (lt-ltb c 128 low))) (character_is c small)
      | inr high ↦
          let itself : IsCharacter (c ∷ []) =
          inl (
            c,
            (omega (arith, high), (λ is. absurd (omega (arith, high, is))), (λ is. absurd (omega (arith, high, is)))),
            refl,
          ) in
          subst IsCharacter (sym (ap (λ b. cond b (character c) (c ∷ [])) (le-ltb c 128 high))) itself
    ]

module _ (one : ℕ → List ℕ) (one_is : (c : ℕ) → c < 256 → IsCharacter (one c)) where
  all_are : (bytes : List ℕ) → AreBytes bytes → AreCharacters (map one bytes)
  all_are [] are = tt
  all_are (b ∷ bytes) are = (one_is b are.0, all_are bytes are.1)

  joined : (bytes : List ℕ) → flat_map one bytes ≡ concat (map one bytes)
  joined [] = refl
  joined (b ∷ bytes) = ap (λ (l : List ℕ). one b ++ l) (joined bytes)

  string_is : (bytes : List ℕ) → AreBytes bytes → IsString (34 ∷ (flat_map one bytes ++ 34 ∷ []))
  string_is bytes are = record {
    characters = map one bytes;
    are = all_are bytes are;
    is = ap (λ (l : List ℕ). 34 ∷ (l ++ 34 ∷ [])) (joined bytes);
  }

pub strings_are_strings : StringsAreStrings
strings_are_strings bytes are = (string_is character character_is bytes are, string_is text_byte text_byte_is bytes are)
