-- Aliases, and the objects that they make.
use Rattle.std.proofs.Common.{◌≡◌, ℕ, zero, suc, ◌+◌, ◌-◌, ◌<◌, Option, Some, None, List, [], ◌∷◌, ◌++◌, length, get_or, map, drop, refl, sym, ap, ◌∙◌, arith}
use Rattle.std.specs.Option.{option_or}
use Rattle.acpi_term.specs.Tree.{Terms}
use Rattle.acpi_read.proofs.Texts.{dropped}
use Rattle.acpi_terms_text.specs.Objects.{Aliased, Callee, aliases, args_at, args_near, alias_by, objects, with_alias, with_aliases}
use Rattle.acpi_terms_text.specs.Path.{parent, path_in}
use Rattle.acpi_terms_text.specs.declared.alias.Alias.{Alias}

-- ---- the object that a name finds

-- in a scope, or else in those around it
near_more : (n : ℕ) (scope name : List ℕ) (all : List Callee) → 0 < n
    → args_near n scope name all ≡ option_or (args_at (path_in scope name) all) (args_near (n - 1) (parent scope) name all)
near_more zero scope name all some = absurd (omega (arith, some))
near_more (suc n) scope name all some =
    let same : n ≡ suc n - 1 = omega arith in
    ap (λ (k : ℕ). option_or (args_at (path_in scope name) all) (args_near k (parent scope) name all)) same

-- it is found in the scope
pub found_here : (n : ℕ) (scope name : List ℕ) (all : List Callee) (here : Option ℕ) (args : ℕ) → here ≡ args_at (path_in scope name) all
    → here ≡ Some args → here ≡ args_near n scope name all
found_here zero scope name all here args is some = is
found_here (suc n) scope name all here args is some =
    some ∙ ap (λ (o : Option ℕ). option_or o (args_near n (parent scope) name all)) (sym some ∙ is)

-- it isn't
pub found_around : (n : ℕ) (scope inner name : List ℕ) (all : List Callee) (here found : Option ℕ) → 0 < n → inner ≡ parent scope
    → here ≡ args_at (path_in scope name) all → here ≡ None → found ≡ args_near (n - 1) inner name all
    → found ≡ args_near n scope name all
found_around n scope inner name all here found some into is none p =
    let rest = args_near (n - 1) (parent scope) name all in
    p ∙ ap (λ (s : List ℕ). args_near (n - 1) s name all) into ∙ ap (λ (o : Option ℕ). option_or o rest) (sym none ∙ is)
    ∙ sym (near_more n scope name all some)

-- ---- the objects that aliases make

pub aliases_on : (list : List Alias) (i : ℕ) (a : Alias) (now new whole : List Callee) → i < length list → a ≡ get_or list i a
    → new ≡ with_alias now (alias_by a) → with_aliases now (map alias_by (drop i list)) ≡ whole
    → with_aliases new (map alias_by (drop (i + 1) list)) ≡ whole
aliases_on list i a now new whole inside is added before =
    ap (λ (l : List Callee). with_aliases l (map alias_by (drop (i + 1) list))) added
    ∙ ap (λ (l : List Alias). with_aliases now (map alias_by l)) (sym (dropped list i a inside is)) ∙ before

-- those of a block, and then those of its aliases
pub block_added : (ts same : Terms) (old mid new : List Callee) (list : List Aliased) → same ≡ ts → mid ≡ old ++ objects [] ts
    → list ≡ aliases [] same → new ≡ with_aliases mid list → new ≡ with_aliases (old ++ objects [] ts) (aliases [] ts)
block_added ts same old mid new list equal before are added =
    added ∙ ap (λ (l : List Callee). with_aliases l list) before
    ∙ ap (with_aliases (old ++ objects [] ts)) (are ∙ ap (aliases []) equal)

pub no_aliases : (all : List Alias) → length all ≡ 0 → map alias_by all ≡ []
no_aliases [] none = refl
no_aliases (a ∷ all) none = absurd (omega (arith, none))
