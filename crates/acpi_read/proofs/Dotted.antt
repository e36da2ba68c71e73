-- Texts of names.
use Rattle.std.proofs.Common.{◌≡◌, ℕ, ◌<◌, ◌≤◌, List, [], ◌∷◌, ◌++◌, length, take, drop, refl, sym, ap, subst, ◌∙◌, append_assoc, arith, inl, inr}
use Rattle.std.specs.Prelude.{Bool, true, false, ◌&&◌, ◌||◌, ◌==◌, if◌then◌else◌}
use Rattle.std.specs.List.{All}
use Rattle.std.specs.Str.{IsAscii}
use Rattle.std.proofs.lemmas.List.Elements.{All-cons, All-nil, All-tail, All-rest}
use Rattle.std.proofs.lemmas.Bool.{and_parts, ne_eqb}
use Rattle.std.proofs.lemmas.Bool.Decides.{nat_tests}
use Rattle.std.proofs.lemmas.Str.Ascii.{IsAscii-from_all}
use Rattle.acpi_term.specs.Name.{is_lead, is_part, is_segment, AreSegments, no_more, one_more, IsPath, single, double, multiple, IsName, relative, rooted, begins_up, IsAbove, no_path, path_above, further_up, as_written, root_alone, upwards}
use Rattle.acpi_term.proofs.Names.{lead_of}
use Rattle.acpi_read.specs.Lines.{dotted_segments, tail, segments_of, name_text, IsShown}

pub dots_last : (s : List ℕ) → length s ≤ 4 → dotted_segments s ≡ s
dots_last [] few = refl
dots_last (a ∷ []) few = refl
dots_last (a ∷ b ∷ []) few = refl
dots_last (a ∷ b ∷ c ∷ []) few = refl
dots_last (a ∷ b ∷ c ∷ d ∷ []) few = refl
dots_last (a ∷ b ∷ c ∷ d ∷ e ∷ rest) few = absurd (omega (arith, few))

pub dots_step : (s : List ℕ) → 4 < length s → dotted_segments s ≡ take 4 s ++ 46 ∷ dotted_segments (drop 4 s)
dots_step [] many = absurd (omega (arith, many))
dots_step (a ∷ []) many = absurd (omega (arith, many))
dots_step (a ∷ b ∷ []) many = absurd (omega (arith, many))
dots_step (a ∷ b ∷ c ∷ []) many = absurd (omega (arith, many))
dots_step (a ∷ b ∷ c ∷ d ∷ []) many = absurd (omega (arith, many))
dots_step (a ∷ b ∷ c ∷ d ∷ e ∷ rest) many = refl

-- as far as a segment before a dot
pub dots_go_on : (goal old front back new rest : List ℕ) → old ++ dotted_segments rest ≡ goal → 4 < length rest → front ≡ take 4 rest → back ≡ drop 4 rest → new ≡ (old ++ front) ++ 46 ∷ [] → new ++ dotted_segments back ≡ goal
dots_go_on goal old front back new rest is many f b added =
    let d = dotted_segments (drop 4 rest) in
    ap (λ (l : List ℕ). new ++ dotted_segments l) b ∙ ap (λ (l : List ℕ). l ++ d) added ∙ append_assoc (old ++ front) (46 ∷ []) d ∙ append_assoc old front (46 ∷ d)
    ∙ ap (λ (l : List ℕ). old ++ (l ++ 46 ∷ d)) f ∙ ap (λ (l : List ℕ). old ++ l) (sym (dots_step rest many)) ∙ is

abbrev IsLow : ℕ → Type 0
IsLow b = b < 128

abbrev Plain : List ℕ → Type 0
Plain s = All IsLow s

lead_plain : (b : ℕ) → is_lead b ≡ true → b < 128
lead_plain b h = grind (arith, nat_tests)

part_plain : (b : ℕ) → is_part b ≡ true → b < 128
part_plain b h = grind (arith, nat_tests)

segment_plain : (a b c d : ℕ) → is_segment a b c d ≡ true → (s : List ℕ) → Plain s → Plain (a ∷ b ∷ c ∷ d ∷ s)
unfolding is_segment
segment_plain a b c d h s others =
    let p = and_parts (is_lead a && is_part b && is_part c) (is_part d) h in
    let q = and_parts (is_lead a && is_part b) (is_part c) p.0 in
    let r = and_parts (is_lead a) (is_part b) q.0 in
    All-cons IsLow a (b ∷ c ∷ d ∷ s) (lead_plain a r.0) (All-cons IsLow b (c ∷ d ∷ s) (part_plain b r.1) (All-cons IsLow c (d ∷ s) (part_plain c q.1) (All-cons IsLow d s (part_plain d p.1) others)))

segments_plain : (n : ℕ) (s : List ℕ) → AreSegments n s → Plain s
segments_plain n s no_more = All-nil IsLow
segments_plain n s (one_more {n = m} {a = a} {b = b} {c = c} {d = d} {s = more} good others) = segment_plain a b c d good more (segments_plain m more others)

either_plain : (t : Bool) (xs ys : List ℕ) → Plain xs → Plain ys → Plain (if t then xs else ys)
either_plain true xs ys p q = p
either_plain false xs ys p q = q

tail_plain : (s : List ℕ) → Plain s → Plain (tail s)
tail_plain [] p = p
tail_plain (b ∷ s) p = All-tail IsLow b s p

segments_of_plain : (s : List ℕ) → Plain s → Plain (segments_of s)
segments_of_plain [] p = p
segments_of_plain (b ∷ s) p = let q = All-tail IsLow b s p in either_plain (b == 46 || b == 0) s _ q (either_plain (b == 47) (tail s) (b ∷ s) (tail_plain s q) p)

path_plain : (s : List ℕ) → IsPath s → Plain (segments_of s)
path_plain s (single one) = segments_of_plain s (segments_plain 1 s one)
path_plain s (double {s = two} both) = segments_plain 2 two both
path_plain s (multiple {n = n} {s = several} low high all) = segments_plain n several all

lead : List ℕ → ℕ
lead [] = 0
lead (b ∷ s) = b

leads : (b n : ℕ) (s rest : List ℕ) → b ∷ s ≡ n ∷ rest → b ≡ n
unfolding lead
leads b n s rest is = ap lead is

lead_not_up : (a : ℕ) (s rest : List ℕ) → a ∷ s ≡ 94 ∷ rest → is_lead a ≡ true → ⊥
lead_not_up a s rest is h = let same : a ≡ 94 = leads a 94 s rest is in let f : is_lead 94 ≡ true = rw same at h in cc

after_lead : (s : List ℕ) → IsPath s → (rest : List ℕ) → s ≡ 92 ∷ rest → Plain rest
after_lead s (single one) rest is = All-rest IsLow 92 rest s is (segments_plain 1 s one)
after_lead s (double {s = two} both) rest is = absurd (omega (arith, leads 46 92 two rest is))
after_lead s (multiple {n = n} {s = several} low high all) rest is = absurd (omega (arith, leads 47 92 (n ∷ several) rest is))

rooted_name_ascii : (name : List ℕ) → IsName name → (b : ℕ) (rest : List ℕ) → name ≡ b ∷ rest → b ≡ 92 → IsAscii (segments_of rest)
rooted_name_ascii name (relative path) b rest is root = IsAscii-from_all _ (segments_of_plain rest (after_lead name path rest (is ∙ ap (λ (n : ℕ). n ∷ rest) root)))
rooted_name_ascii name (rooted {s = s} path) b rest is root = let same : s ≡ rest = cc in IsAscii-from_all _ (subst (λ (l : List ℕ). Plain (segments_of l)) same (path_plain s path))

relative_name_ascii : (name : List ℕ) → IsName name → (b : ℕ) (rest : List ℕ) → name ≡ b ∷ rest → (b ≡ 92 → ⊥) → IsAscii (segments_of name)
relative_name_ascii name (relative path) b rest is other = IsAscii-from_all _ (path_plain name path)
relative_name_ascii name (rooted path) b rest is other = absurd (other (cc))

none_ascii : (s : List ℕ) → 0 ∷ [] ≡ s → IsAscii (segments_of s)
none_ascii s is = subst (λ (l : List ℕ). IsAscii (segments_of l)) is (IsAscii-from_all [] (All-nil IsLow))

pub rooted_ascii : (name : List ℕ) → IsShown name → (b : ℕ) (rest : List ℕ) → name ≡ b ∷ rest → b ≡ 92 → IsAscii (segments_of rest)
rooted_ascii name (inl (as_written p)) b rest is root = rooted_name_ascii name p b rest is root
rooted_ascii name (inl root_alone) b rest is root = none_ascii rest (cc)
rooted_ascii name (inl (upwards {s} p)) b rest is root = absurd (omega (arith, leads 94 b s rest is, root))
rooted_ascii name (inr no_path) b rest is root = absurd (omega (arith, leads 0 b [] rest is, root))
rooted_ascii name (inr (path_above p)) b rest is root = rooted_name_ascii name (relative p) b rest is root
rooted_ascii name (inr (further_up {s} p)) b rest is root = absurd (omega (arith, leads 94 b s rest is, root))

pub relative_ascii : (name : List ℕ) → IsShown name → begins_up name ≡ false → (b : ℕ) (rest : List ℕ) → name ≡ b ∷ rest → (b ≡ 92 → ⊥) → IsAscii (segments_of name)
relative_ascii name (inl (as_written p)) down b rest is other = relative_name_ascii name p b rest is other
relative_ascii name (inl root_alone) down b rest is other = absurd (other (sym (leads 92 b (0 ∷ []) rest is)))
relative_ascii name (inl (upwards p)) down b rest is other = absurd cc
relative_ascii name (inr no_path) down b rest is other = none_ascii name refl
relative_ascii name (inr (path_above p)) down b rest is other = relative_name_ascii name (relative p) b rest is other
relative_ascii name (inr (further_up p)) down b rest is other = absurd cc

-- what is shown after a further `^`
pub shown_after : (name rest : List ℕ) → IsShown name → name ≡ 94 ∷ rest → IsShown rest
shown_after name rest (inl (as_written (relative (single (one_more {a} {b} {c} {d} {s} h p))))) is = absurd (lead_not_up a (b ∷ c ∷ d ∷ s) rest is (lead_of a b c d h))
shown_after name rest (inl (as_written (relative (double {s} p)))) is = absurd (omega (arith, leads 46 94 s rest is))
shown_after name rest (inl (as_written (relative (multiple {n} {s} ge lt p)))) is = absurd (omega (arith, leads 47 94 (n ∷ s) rest is))
shown_after name rest (inl (as_written (rooted {s} p))) is = absurd (omega (arith, leads 92 94 s rest is))
shown_after name rest (inl root_alone) is = absurd (omega (arith, leads 92 94 (0 ∷ []) rest is))
shown_after name rest (inl (upwards {s} p)) is = let same : s ≡ rest = cc in inr (subst IsAbove same p)
shown_after name rest (inr no_path) is = absurd (omega (arith, leads 0 94 [] rest is))
shown_after name rest (inr (path_above (single (one_more {a} {b} {c} {d} {s} h p)))) is = absurd (lead_not_up a (b ∷ c ∷ d ∷ s) rest is (lead_of a b c d h))
shown_after name rest (inr (path_above (double {s} p))) is = absurd (omega (arith, leads 46 94 s rest is))
shown_after name rest (inr (path_above (multiple {n} {s} ge lt p))) is = absurd (omega (arith, leads 47 94 (n ∷ s) rest is))
shown_after name rest (inr (further_up {s} p)) is = let same : s ≡ rest = cc in inr (subst IsAbove same p)

-- the text of a name by its first byte
pub name_text_rooted : (name : List ℕ) (b : ℕ) (rest : List ℕ) → name ≡ b ∷ rest → b ≡ 92 → name_text name ≡ 92 ∷ dotted_segments (segments_of rest)
name_text_rooted name b rest is root = rw (is, root) refl

pub name_text_relative : (name : List ℕ) (b : ℕ) (rest : List ℕ) → name ≡ b ∷ rest → begins_up name ≡ false → (b ≡ 92 → ⊥) → name_text name ≡ dotted_segments (segments_of name)
name_text_relative name b rest is down other =
    let d : (b == 94) ≡ false = rw is at down in
    rw (is, ne_eqb b 92 other, d) refl

pub name_text_up : (rest after : List ℕ) → rest ≡ 94 ∷ after → name_text rest ≡ 94 ∷ name_text after
name_text_up rest after is = rw is refl

pub up_goes_on : (goal old new rest after : List ℕ) → old ++ name_text rest ≡ goal → rest ≡ 94 ∷ after → new ≡ old ++ 94 ∷ [] → new ++ name_text after ≡ goal
up_goes_on goal old new rest after so_far is added =
    ap (λ (l : List ℕ). l ++ name_text after) added ∙ append_assoc old (94 ∷ []) (name_text after) ∙ ap (λ (l : List ℕ). old ++ l) (sym (name_text_up rest after is)) ∙ so_far
