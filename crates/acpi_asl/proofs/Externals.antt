-- External statements in two lists.
use Rattle.std.proofs.Common.{◌≡◌, ℕ, ◌≤◌, Bool, true, false, List, [], ◌∷◌, ◌++◌, length, arith, refl, sym, ap, ◌∙◌, append_assoc}
use Rattle.std.specs.Prelude.{◌&&◌}
use Rattle.acpi_read.proofs.Texts.{after_two}
use Rattle.acpi_term.specs.declared.term.Term.{Term}
use Rattle.acpi_term.specs.View.{view, views}
use Rattle.acpi_asl.specs.Opening.{opening}
use Rattle.acpi_asl.specs.Place.{new_line}
use Rattle.acpi_asl.specs.Special.{is_external, are_external, is_end, externals_text}

pub end_of_both : (a b : List Term) → is_end (views (a ++ b)) ≡ (is_end (views a) && is_end (views b))
end_of_both [] b = refl
end_of_both (t ∷ a) b = refl

pub not_end : (ts : List Term) → 1 ≤ length ts → false ≡ is_end (views ts)
not_end [] some = absurd (omega (arith, some))
not_end (t ∷ ts) some = refl

and_assoc : (x y z : Bool) → (x && (y && z)) ≡ ((x && y) && z)
and_assoc true y z = refl
and_assoc false y z = refl

pub both_external : (a b : List Term) → are_external (views (a ++ b)) ≡ (are_external (views a) && are_external (views b))
both_external [] b = refl
both_external (t ∷ a) b =
    ap (λ (x : Bool). is_external (view t).0 && x) (both_external a b) ∙ and_assoc (is_external (view t).0) (are_external (views a)) (are_external (views b))

later : (d : ℕ) (a b : List Term) → externals_text d false (views (a ++ b)) ≡ externals_text d false (views a) ++ externals_text d false (views b)
later d [] b = refl
later d (t ∷ a) b =
    let here : List ℕ = new_line d ++ opening true (view t).0 (view t).1 0 d in
    ap (λ (l : List ℕ). here ++ l) (later d a b) ∙ sym (append_assoc here (externals_text d false (views a)) (externals_text d false (views b)))

both_text : (d : ℕ) (a b : List Term) → externals_text d true (views (a ++ b)) ≡ externals_text d true (views a) ++ externals_text d (is_end (views a)) (views b)
both_text d [] b = refl
both_text d (t ∷ a) b =
    let here : List ℕ = opening true (view t).0 (view t).1 0 d in
    ap (λ (l : List ℕ). here ++ l) (later d a b) ∙ sym (append_assoc here (externals_text d false (views a)) (externals_text d false (views b)))

pub block_written : (d : ℕ) (a b : List Term) (ended : Bool) (old one new : List ℕ) → ended ≡ is_end (views a)
    → one ≡ old ++ externals_text d true (views a) → new ≡ one ++ externals_text d ended (views b) → new ≡ old ++ externals_text d true (views (a ++ b))
block_written d a b ended old one new is p q =
    after_two old (externals_text d true (views a)) (externals_text d ended (views b)) one new p q
    ∙ ap (λ (x : Bool). old ++ (externals_text d true (views a) ++ externals_text d x (views b))) is
    ∙ ap (λ (l : List ℕ). old ++ l) (sym (both_text d a b))
