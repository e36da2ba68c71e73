use Rattle.std.proofs.Common.{◌≡◌, ℕ, ◌+◌, ◌≤◌, List, [], ◌∷◌, ◌++◌, length, Some, None, refl, sym, ap, subst, ◌∙◌, arith, append_assoc}
use Rattle.std.specs.Prelude.{Result, Ok, Err, OnOk, IfErr}
use Rattle.std.proofs.lemmas.List.{append-nil}
use Rattle.std.proofs.lemmas.Bool.Decides.{nat_tests}
use Rattle.acpi_base.specs.declared.error.Error.{Error}
use Rattle.acpi_base.specs.Sink.{Meaning, Took, Refused}
use Rattle.acpi_base.specs.Object.{Object, whole, all_of, ended, Wrote, WriteRefused}
use Rattle.acpi_base.proofs.Objects.{refused_by_sink, gives_nothing}
use Rattle.acpi_base.proofs.Lists.{joined_whole, chain_whole}
use Rattle.acpi_term.specs.Tree.{def_package, def_scope}
use Rattle.acpi_term.specs.Length.{least_width, length_bytes, with_length}
use Rattle.acpi_term.specs.Row.{own, layout, around, row, frame_end, frame}
use Rattle.acpi_term.proofs.Rows.{ended_some, frame_refused}
use Rattle.acpi_aml.specs.Builder.{Builder, new_builder, with_element, with_elements, package_of}

grown : (b : Builder) (os : List Object) → (all_of os).end ≡ None → with_elements b os ≡ record { bytes = b.bytes ++ (all_of os).front; elements = b.elements + length os }
grown b [] h = let n : b.elements ≡ b.elements + 0 = omega arith in λ i. record { bytes = sym (append-nil b.bytes) i; elements = n i }
grown b (o ∷ os) h =
    let both = joined_whole o.front o.wants_memory (all_of os) o.end h in
    let joined : (b.bytes ++ o.front) ++ (all_of os).front ≡ b.bytes ++ (all_of (o ∷ os)).front = append_assoc b.bytes o.front (all_of os).front ∙ ap (λ (p : Object). b.bytes ++ p.front) (sym (chain_whole o (all_of os) both.0)) in
    let n : b.elements + 1 + length os ≡ b.elements + length (o ∷ os) = omega arith in
    grown (with_element b o) os both.1 ∙ (λ i. record { bytes = joined i; elements = n i })

pub builders_make_packages : (os : List Object) → (all_of os).end ≡ None → length os ≤ 255 → package_of (with_elements new_builder os) ≡ row def_package os
builders_make_packages os h few =
    let owns : own def_package (length os) ≡ None = grind (arith, nat_tests) in
    let n : 0 + length os ≡ length os = omega arith in
    rw (owns, h) (ap package_of (grown new_builder os h) ∙ ap (λ k. around (layout def_package 0 k) (whole (all_of os).front)) n)

pub raw_is_scope : (path bytes : List ℕ) (os : List Object) → (all_of os).end ≡ None → (all_of os).front ≡ bytes → around (layout (def_scope path) 0 0) (whole bytes) ≡ row (def_scope path) os
raw_is_scope path bytes os h same = rw (h, same) refl

-- the parts of a frame, one after another
module _ (code content : List ℕ) (m : Meaning) (n : ℕ) (same : n ≡ length content) where
  -- a frame that is refused
  pub frame_gives_nothing : (e : Error) → frame_end n ≡ Some e → WriteRefused e (frame code content) m m
  frame_gives_nothing e h =
      gives_nothing e (frame code content) m (frame_refused n e h)
      (ended_some (frame_end (length content)) (whole (code ++ with_length (least_width (length content)) content)) e (ap frame_end (sym same) ∙ h))

  module _ (p : List ℕ) (k : Meaning) (fits : frame_end n ≡ None) (is : p ≡ length_bytes (least_width n) (least_width n + n)) where
    is_whole : frame code content ≡ whole (code ++ with_length (least_width (length content)) content)
    is_whole = ap (λ stop. ended stop (whole (code ++ with_length (least_width (length content)) content))) (ap frame_end (sym same) ∙ fits)

    parts_are : code ++ (p ++ content) ≡ (frame code content).front
    parts_are = ap (λ (l : List ℕ). code ++ (l ++ content)) (is ∙ ap (λ k. length_bytes (least_width k) (least_width k + k)) same) ∙ ap (λ (o : Object). o.front) (sym is_whole)

    pub parts_wrote : {T : Type 0} (r : Result T Error) → OnOk r (Took m (code ++ (p ++ content)) k) → OnOk r (Wrote (frame code content) m k)
    parts_wrote (Ok x) took = record { is_whole = ap (λ (o : Object). o.end) is_whole; took = subst (λ (l : List ℕ). Took m l k) parts_are took }
    parts_wrote (Err e) took = tt

    pub parts_refused : {T : Type 0} (r : Result T Error) → IfErr r (λ e. Refused e m (code ++ (p ++ content)) k) → IfErr r (λ e. WriteRefused e (frame code content) m k)
    parts_refused (Ok x) refused = tt
    parts_refused (Err e) refused = refused_by_sink e (frame code content) m k (subst (λ (l : List ℕ). Refused e m l k) parts_are refused)
