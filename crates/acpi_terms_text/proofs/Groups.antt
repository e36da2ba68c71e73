-- Groups of digits, one after the other.
use Rattle.std.proofs.Common.{◌≡◌, ◌≤◌, ℕ, List, [], ◌∷◌, ◌++◌, length, get_or, drop, refl, ap, sym, ◌∙◌, append_assoc, arith}
use Rattle.acpi_read.specs.Lines.{hex_bytes}
use Rattle.acpi_terms_text.specs.Uuid.{uuid_text}

five : (old a b c d e one two three four new : List ℕ) → one ≡ old ++ a → two ≡ one ++ b → three ≡ two ++ c → four ≡ three ++ d
    → new ≡ four ++ e → new ≡ old ++ (a ++ (b ++ (c ++ (d ++ e))))
five old a b c d e one two three four new p q r s t =
    t ∙ ap (λ (l : List ℕ). l ++ e) (s ∙ ap (λ (l : List ℕ). l ++ d) (r ∙ ap (λ (l : List ℕ). l ++ c) (q ∙ ap (λ (l : List ℕ). l ++ b) p)))
    ∙ simp append_assoc

-- digits and `-` after them
abbrev pub group : List ℕ → List ℕ
group bytes = hex_bytes bytes ++ (0x2d ∷ [])

groups_of : (bytes : List ℕ) → 10 ≤ length bytes → uuid_text bytes
    ≡ group (get_or bytes 3 0 ∷ get_or bytes 2 0 ∷ get_or bytes 1 0 ∷ get_or bytes 0 0 ∷ [])
    ++ (group (get_or bytes 5 0 ∷ get_or bytes 4 0 ∷ [])
    ++ (group (get_or bytes 7 0 ∷ get_or bytes 6 0 ∷ [])
    ++ (group (get_or bytes 8 0 ∷ get_or bytes 9 0 ∷ [])
    ++ hex_bytes (drop 10 bytes))))
groups_of [] few = absurd (omega (arith, few))
groups_of (a ∷ []) few = absurd (omega (arith, few))
groups_of (a ∷ b ∷ []) few = absurd (omega (arith, few))
groups_of (a ∷ b ∷ c ∷ []) few = absurd (omega (arith, few))
groups_of (a ∷ b ∷ c ∷ d ∷ []) few = absurd (omega (arith, few))
groups_of (a ∷ b ∷ c ∷ d ∷ e ∷ []) few = absurd (omega (arith, few))
groups_of (a ∷ b ∷ c ∷ d ∷ e ∷ f ∷ []) few = absurd (omega (arith, few))
groups_of (a ∷ b ∷ c ∷ d ∷ e ∷ f ∷ g ∷ []) few = absurd (omega (arith, few))
groups_of (a ∷ b ∷ c ∷ d ∷ e ∷ f ∷ g ∷ h ∷ []) few = absurd (omega (arith, few))
groups_of (a ∷ b ∷ c ∷ d ∷ e ∷ f ∷ g ∷ h ∷ i ∷ []) few = absurd (omega (arith, few))
groups_of (a ∷ b ∷ c ∷ d ∷ e ∷ f ∷ g ∷ h ∷ i ∷ j ∷ node) few = refl

pub groups_added : (bytes node old one two three four new : List ℕ) → 10 ≤ length bytes → node ≡ drop 10 bytes
    → one ≡ old ++ group (get_or bytes 3 0 ∷ get_or bytes 2 0 ∷ get_or bytes 1 0 ∷ get_or bytes 0 0 ∷ [])
    → two ≡ one ++ group (get_or bytes 5 0 ∷ get_or bytes 4 0 ∷ [])
    → three ≡ two ++ group (get_or bytes 7 0 ∷ get_or bytes 6 0 ∷ [])
    → four ≡ three ++ group (get_or bytes 8 0 ∷ get_or bytes 9 0 ∷ [])
    → new ≡ four ++ hex_bytes node → new ≡ old ++ uuid_text bytes
groups_added bytes node old one two three four new many is p q r s t =
    five old _ _ _ _ _ one two three four new p q r s (t ∙ ap (λ (l : List ℕ). four ++ hex_bytes l) is)
    ∙ ap (λ (l : List ℕ). old ++ l) (sym (groups_of bytes many))
