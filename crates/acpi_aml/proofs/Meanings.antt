-- What objects mean that aren't rows as they stand.
use Rattle.std.proofs.Common.{◌≡◌, ℕ, ◌+◌, ◌≤◌, ◌<◌, ◌^◌, List, [], ◌∷◌, ◌++◌, length, None, refl, sym, ap, subst, ◌∙◌, arith, length-append}
use Rattle.std.proofs.lemmas.List.{append-nil}
use Rattle.std.proofs.lemmas.Bool.Decides.{nat_tests}
use Rattle.acpi_base.specs.Bytes.{AreBytes}
use Rattle.acpi_base.specs.Number as numbers
use Rattle.acpi_base.specs.Text as texts
use Rattle.acpi_base.specs.Object.{Object, whole, ended, all_of}
use Rattle.acpi_base.proofs.Lists.{joined_whole, chain_whole}
use Rattle.acpi_term.specs.declared.mode.Mode.{Mode}
use Rattle.acpi_term.specs.declared.mode.Mode.TheVariants.{Term, Element, Count}
use Rattle.acpi_term.specs.Name.{IsName, IsText}
use Rattle.acpi_term.specs.Tree.{number, ones, string, def_buffer, call, def_package, def_var_package, Terms, end, count, one}
use Rattle.acpi_term.specs.Row.{own, row, frame, around, layout, frame_end, writer_width}
use Rattle.acpi_term.specs.Length.{least_width, with_length}
use Rattle.acpi_term.specs.Spelling.{Spells, arguments}
use Rattle.acpi_term.proofs.Rows.{rows_mean, rows_over_mean, ended_none, around_whole}
use Rattle.acpi_term.specs.Template.{buffer_of_bytes}
use Rattle.acpi_aml.specs.Builder.{Builder, package_of}
use Rattle.acpi_aml.specs.Meaning.{Means}

pub numbers_mean : (arity : List ℕ → ℕ) (v : ℕ) → v < 2 ^ 64 → Means arity (whole (numbers.number v)) (one (number v) (numbers.number_width v) end)
numbers_mean arity v small m h =
    let spells = rows_mean arity m (number v) [] end refl small tt tt refl in
    subst (λ (bytes : List ℕ). Spells arity m bytes (one (number v) (numbers.number_width v) end)) (append-nil (numbers.number v)) spells

pub constants_mean : (arity : List ℕ → ℕ) → Means arity (whole (0 ∷ [])) (one (number 0) 0 end) × Means arity (whole (1 ∷ [])) (one (number 1) 0 end) × Means arity (whole (255 ∷ [])) (one ones 0 end)
constants_mean arity = (numbers_mean arity 0 (omega arith), numbers_mean arity 1 (omega arith), λ m h. rows_mean arity m ones [] end refl tt tt tt refl)

pub texts_mean : (arity : List ℕ → ℕ) (s : List ℕ) → IsText s → Means arity (whole (texts.text s)) (one (string s) 0 end)
texts_mean arity s is m h =
    let spells = rows_mean arity m (string s) [] end refl is tt tt refl in
    subst (λ (bytes : List ℕ). Spells arity m bytes (one (string s) 0 end)) (append-nil (texts.text s)) spells

pub names_mean : (arity : List ℕ → ℕ) (m : Mode) (name : List ℕ) → IsName name → arguments arity m name ≡ 0 → Spells arity m name (one (call name) 0 end)
names_mean arity m name is none =
    let spells = rows_mean arity m (call name) [] end (sym none) is tt tt refl in
    subst (λ (bytes : List ℕ). Spells arity m bytes (one (call name) 0 end)) (append-nil name) spells

pub builders_mean : (arity : List ℕ → ℕ) (b : Builder) (elements : Terms) → count elements ≡ b.elements → b.elements ≤ 255 → Spells arity Element b.bytes elements
    → Means arity (package_of b) (one def_package (writer_width def_package b.elements b.bytes) elements)
builders_mean arity b elements same few spells m h =
    let owns : own def_package (count elements) ≡ None = grind (arith, nat_tests) in
    subst (λ k. (around (layout def_package 0 k) (whole b.bytes)).end ≡ None → Spells arity m (around (layout def_package 0 k) (whole b.bytes)).front (one def_package (writer_width def_package k b.bytes) elements)) same
    (λ end_none. rows_over_mean arity m def_package b.bytes elements tt tt tt owns spells end_none) h

pub var_packages_mean : (arity : List ℕ → ℕ) (object : Object) (terms : Terms) → 1 ≤ count terms → Spells arity Count object.front terms
    → Means arity (row def_var_package (object ∷ [])) (one def_var_package (writer_width def_var_package (count terms) object.front) terms)
var_packages_mean arity object terms some spells m h =
    let a = around_whole (layout def_var_package 0 1) (all_of (object ∷ [])) h in
    let first = joined_whole object.front object.wants_memory (whole []) object.end a.0 in
    let front : (all_of (object ∷ [])).front ≡ object.front = ap (λ (o : Object). o.front) (chain_whole object (whole []) first.0) ∙ append-nil object.front in
    let means : (around (layout def_var_package 0 1) (whole object.front)).end ≡ None → Spells arity m (around (layout def_var_package 0 1) (whole object.front)).front (one def_var_package (writer_width def_var_package (count terms) object.front) terms) =
    λ e. rows_over_mean arity m def_var_package object.front terms some tt tt refl spells e in
    let fits : (around (layout def_var_package 0 1) (whole object.front)).end ≡ None = subst (λ (bytes : List ℕ). (around (layout def_var_package 0 1) (whole bytes)).end ≡ None) front a.1 in
    subst (λ (bytes : List ℕ). Spells arity m bytes (one def_var_package (writer_width def_var_package (count terms) object.front) terms))
    (sym (a.2 ∙ ap (λ (bytes : List ℕ). (around (layout def_var_package 0 1) (whole bytes)).front) front)) (means fits)

-- what a frame can count is small
framed_small : (code content : List ℕ) → (ended (frame_end (length content)) (whole (code ++ with_length (least_width (length content)) content))).end ≡ None → 4 + length content < 2 ^ 28
framed_small code content h =
    let a : frame_end (length content) ≡ None = (ended_none (frame_end (length content)) (whole (code ++ with_length (least_width (length content)) content)) h).0 in
    grind (arith, nat_tests)

pub buffers_mean : (arity : List ℕ → ℕ) (bytes : List ℕ) → AreBytes bytes
    → Means arity (buffer_of_bytes bytes) (one (def_buffer bytes) (writer_width (def_buffer bytes) 1 (numbers.number (length bytes))) (one (number (length bytes)) (numbers.number_width (length bytes)) end))
buffers_mean arity bytes are m h =
    let n = length bytes in
    let size = numbers.number n in
    let fits = framed_small (17 ∷ []) ((size ++ []) ++ bytes) h in
    let small : n < 2 ^ 64 = omega (arith, length-append (size ++ []) bytes) in
    let spells = rows_mean arity m (def_buffer bytes) (whole size ∷ []) (one (number n) (numbers.number_width n) end) refl are tt (numbers_mean arity n small Term refl, tt) h in
    subst (λ (l : List ℕ). Spells arity m (buffer_of_bytes bytes).front (one (def_buffer bytes) (writer_width (def_buffer bytes) 1 l) (one (number n) (numbers.number_width n) end))) (append-nil size) spells

pub buffer_terms_mean : (arity : List ℕ → ℕ) (object : Object) (size rest : List ℕ) (t : Terms) → object.front ≡ size ++ rest → count t ≡ 1 → Spells arity Term size t → AreBytes rest
    → Means arity (row (def_buffer []) (object ∷ [])) (one (def_buffer rest) (writer_width (def_buffer rest) 1 size) t)
buffer_terms_mean arity object size rest t parts single spells are m h =
    let a = around_whole (layout (def_buffer []) 0 1) (all_of (object ∷ [])) h in
    let first = joined_whole object.front object.wants_memory (whole []) object.end a.0 in
    let front : (all_of (object ∷ [])).front ++ [] ≡ size ++ rest =
    append-nil (all_of (object ∷ [])).front ∙ ap (λ (o : Object). o.front) (chain_whole object (whole []) first.0) ∙ append-nil object.front ∙ parts in
    let same : around (layout (def_buffer []) 0 1) (whole (all_of (object ∷ [])).front) ≡ around (layout (def_buffer rest) 0 1) (whole size) = ap (frame (17 ∷ [])) front in
    let fits : (around (layout (def_buffer rest) 0 1) (whole size)).end ≡ None = subst (λ (o : Object). o.end ≡ None) same a.1 in
    let means : Spells arity m (around (layout (def_buffer rest) 0 1) (whole size)).front (one (def_buffer rest) (writer_width (def_buffer rest) 1 size) t) =
    subst (λ (k : ℕ). (around (layout (def_buffer rest) 0 k) (whole size)).end ≡ None → Spells arity m (around (layout (def_buffer rest) 0 k) (whole size)).front (one (def_buffer rest) (writer_width (def_buffer rest) k size) t)) single
    (λ e. rows_over_mean arity m (def_buffer rest) size t single are tt refl spells e) fits in
    subst (λ (l : List ℕ). Spells arity m l (one (def_buffer rest) (writer_width (def_buffer rest) 1 size) t)) (sym (a.2 ∙ ap (λ (o : Object). o.front) same)) means
