-- ISA strings and what follows them.
use Rattle.std.proofs.Common.{◌≡◌, ℕ, zero, suc, ◌+◌, ◌%◌, ◌<◌, ◌≤◌, List, [], ◌∷◌, ◌++◌, true, false, refl, ap, ◌∙◌, arith, length, take}
use Rattle.std.proofs.lemmas.Bool.{lt-ltb, le-ltb}
use Rattle.std.proofs.lemmas.List.{append-nil}
use Rattle.acpi_base.specs.Bytes.{zeros}
use Rattle.acpi_nodes.specs.Rhct.{is_isa_string, isa_string_end, isa_string_head, isa_string_bytes}

abbrev pub two_zeros : List ℕ
two_zeros = 0 ∷ 0 ∷ []

zeros_of_two : (m : ℕ) → m < 2 → take (1 + m) two_zeros ≡ zeros (1 + m)
zeros_of_two zero small = refl
zeros_of_two (suc zero) small = refl
zeros_of_two (suc (suc m)) small = absurd (omega (arith, small))

joined : (t h : List ℕ) (n : ℕ) → h ≡ isa_string_head (length t) → n ≡ isa_string_end (length t) → h ++ (t ++ (take n two_zeros ++ [])) ≡ isa_string_bytes t
joined t h n head end =
    ap (λ x. x ++ (t ++ (take n two_zeros ++ []))) head
    ∙ ap (λ x. isa_string_head (length t) ++ (t ++ x)) (append-nil (take n two_zeros) ∙ (ap (λ k. take k two_zeros) end ∙ zeros_of_two ((length t + 1) % 2) (omega arith)))

pub three_parts : (text t h : List ℕ) (n : ℕ) → t ≡ text → h ≡ isa_string_head (length t) → n ≡ isa_string_end (length t) → h ++ (t ++ (take n two_zeros ++ [])) ≡ isa_string_bytes text
three_parts text t h n same head end = joined t h n head end ∙ ap isa_string_bytes same

pub short : (text t : List ℕ) → t ≡ text → length t ≤ 65525 → is_isa_string text ≡ true
short text t same small = rw (← same) (lt-ltb _ _ (omega (arith, small)))

pub long : (text t : List ℕ) → t ≡ text → 65525 < length t → is_isa_string text ≡ false
long text t same large = rw (← same) (le-ltb _ _ (omega (arith, large)))
