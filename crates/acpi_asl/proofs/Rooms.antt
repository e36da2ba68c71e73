-- What is left of a room after bytes.
use Rattle.std.proofs.Common.{◌≡◌, ℕ, zero, suc, ◌+◌, ◌-◌, ◌/◌, List, [], ◌∷◌, ◌++◌, length, refl, ap, ◌∙◌, arith, eqb, false}
use Rattle.std.proofs.lemmas.Bool.{ne_eqb}
use Rattle.std.proofs.lemmas.List.{length-append}
use Rattle.acpi_base.specs.Number.{number_bytes}
use Rattle.acpi_base.proofs.Bytes.{length_le}
use Rattle.acpi_term.specs.Length.{length_bytes}
use Rattle.acpi_term.specs.Spelling.{spelled, spelling}
use Rattle.acpi_term.specs.Row.{connected, entry_bytes}
use Rattle.acpi_term.specs.Tree.{connection_buffer, count}
use Rattle.acpi_term.specs.View.{view, views}
use Rattle.acpi_term.specs.declared.term.Term.{Term}
use Rattle.acpi_term.proofs.Lengths.{length_long}

pub length_shortest : (w v : ℕ) → w ≡ 0 → length (length_bytes w v) ≡ 1
unfolding length_bytes
length_shortest zero v is = refl
length_shortest (suc w) v is = absurd (omega (arith, is))

pub length_wide : (w v : ℕ) → (w ≡ 0 → ⊥) → length (length_bytes w v) ≡ w
unfolding length_bytes
length_wide zero v some = absurd (some refl)
length_wide (suc zero) v some = refl
length_wide (suc (suc k)) v some = ap length (length_long k v) ∙ ap suc (length_le (suc k) (v / 16))

pub length_number : (v w : ℕ) → length (number_bytes v w) ≡ suc w
length_number v zero = refl
length_number v (suc w) =
    let wide : eqb (suc w) 0 ≡ false = ne_eqb _ _ (λ z. omega (arith, z)) in
    rw wide (ap suc (length_le (suc w) v))

-- a connection's buffer, whose PkgLength has l bytes
pub connection_length : (w size v : ℕ) (bytes : List ℕ) (l : ℕ) → length (length_bytes w (w + length (connected size v bytes))) ≡ l
    → length (entry_bytes (connection_buffer w size v bytes)) ≡ length bytes + (2 + l + (1 + v))
connection_length w size v bytes l is =
    let content : List ℕ = connected size v bytes in
    omega (arith, is, length-append (length_bytes w (w + length content)) content, length-append (number_bytes size v) bytes, length_number size v)

-- ---- terms

lengths_both : (a b : List Term) → length (spelling (views (a ++ b))) ≡ length (spelling (views a)) + length (spelling (views b))
lengths_both [] b = omega arith
lengths_both (t ∷ a) b =
    let v = view t in
    let here : List ℕ = spelled v.0 v.1 (count v.2) (spelling v.2) in
    omega (arith, length-append here (spelling (views (a ++ b))), length-append here (spelling (views a)), lengths_both a b)

pub content_left : (a b : List Term) (left one two whole : ℕ) → one ≡ left - length (spelling (views a)) → two ≡ one - length (spelling (views b))
    → whole ≡ left - length (spelling (views (a ++ b))) → two ≡ whole
content_left a b left one two whole p q r = omega (arith, lengths_both a b, p, q, r)
