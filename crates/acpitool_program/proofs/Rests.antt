-- The words after `lay`, or after `lay --rsdp ADDRESS`.
use Rattle.std.proofs.Common.{◌≡◌, ℕ, true, false, List, ◌∷◌, length, Option, Some, None, refl, sym, ap, subst, ◌∙◌, arith, codes}
use Rattle.std.specs.Str.{bytes_eq}
use Rattle.acpitool_program.specs.Command.{begins_with, IsAddress, IsRest}

pub same_addresses : (v w : List ℕ) (base from : ℕ) → v ≡ w → IsAddress v base → IsAddress w from → base ≡ from
same_addresses v w base from same one two =
    let P : List ℕ → Type 0 = λ l. IsAddress l base in
    let here = subst P same one in
    here.is ∙ sym two.is

first_leads : (more others : List (List ℕ)) (option word : List ℕ) → more ≡ option ∷ word ∷ others → bytes_eq option (codes "--rsdp") ≡ true → begins_with (codes "--rsdp") more ≡ false → ⊥
first_leads more others option word is leads not =
    let e : true ≡ false = sym leads ∙ sym (ap (λ l. begins_with (codes "--rsdp") l) is) ∙ not in cc

pub same_rest : (more r s : List (List ℕ)) (a b : Option ℕ) → IsRest more a r → IsRest more b s → (a ≡ b) × (r ≡ s)
same_rest more r s None None one two = (refl, sym one.1 ∙ two.1)
same_rest more r s None (Some b) one two = absurd (first_leads more s two.0 two.1 two.2 two.3 one.0)
same_rest more r s (Some a) None one two = absurd (first_leads more r one.0 one.1 one.2 one.3 two.0)
same_rest more r s (Some a) (Some b) one two =
    let word : one.1 ≡ two.1 = cc (one.2, two.2) in
    let address : a ≡ b = same_addresses one.1 two.1 a b word one.4 two.4 in
    (ap (λ (n : ℕ). Some n) address, cc (one.2, two.2))

-- one word alone, which begins with the option
pub no_pointer : (more rest : List (List ℕ)) (rsdp : Option ℕ) → begins_with (codes "--rsdp") more ≡ true → length more ≡ 1 → IsRest more rsdp rest → ⊥
no_pointer more rest None first one is = let e : true ≡ false = sym first ∙ is.0 in cc
no_pointer more rest (Some rsdp) first one is = let two = ap length is.2 in absurd (omega (arith, one, two))

-- a second word that is no address
pub no_address : (more rest others : List (List ℕ)) (option word : List ℕ) (rsdp : Option ℕ) → more ≡ option ∷ word ∷ others
    → bytes_eq option (codes "--rsdp") ≡ true → ((n : ℕ) → ¬ IsAddress word n) → IsRest more rsdp rest → ⊥
no_address more rest others option word None is leads not one = first_leads more others option word is leads one.0
no_address more rest others option word (Some rsdp) is leads not one =
    let P : List ℕ → Type 0 = λ l. IsAddress l rsdp in
    let same : one.1 ≡ word = cc (is, one.2) in
    not rsdp (subst P same one.4)
