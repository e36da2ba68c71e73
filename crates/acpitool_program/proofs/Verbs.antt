-- The first word of a command, and the words after it.
use Rattle.std.proofs.Common.{◌≡◌, ◌⊎◌, ℕ, List, ◌∷◌, Option, Some, None, refl, sym, ap, subst, ◌∙◌, inl, inr, codes}
use Rattle.std.specs.Prelude.{if◌then◌else◌}
use Rattle.std.specs.Str.{bytes_eq}
use Rattle.acpitool_program.specs.Command.{word_of, first_option, IsHelp, AsksForHelp, AreAfter}
use Rattle.acpitool_program.specs.declared.command.Verb.{Verb}
use Rattle.acpitool_program.specs.declared.command.Verb.TheVariants as verbs

pub heads : (words : List (List ℕ)) (a b : List ℕ) (x y : List (List ℕ)) → words ≡ a ∷ x → words ≡ b ∷ y → a ≡ b
heads words a b x y one two = cc

pub tails : (words : List (List ℕ)) (a b : List ℕ) (x y : List (List ℕ)) → words ≡ a ∷ x → words ≡ b ∷ y → x ≡ y
tails words a b x y one two = cc

-- the command of a word
abbrev verb_of : List ℕ → Option Verb
verb_of word =
    if bytes_eq word (codes "show") then Some verbs.Show
    else (if bytes_eq word (codes "check") then Some verbs.Check
    else (if bytes_eq word (codes "image") then Some verbs.Image
    else (if bytes_eq word (codes "make") then Some verbs.Make
    else (if bytes_eq word (codes "template") then Some verbs.Template
    else (if bytes_eq word (codes "disassemble") then Some verbs.Disassemble
    else (if bytes_eq word (codes "names") then Some verbs.Names
    else (if bytes_eq word (codes "unpack") then Some verbs.Unpack
    else (if bytes_eq word (codes "cpio") then Some verbs.Cpio
    else (if bytes_eq word (codes "lay") then Some verbs.Lay
    else (if bytes_eq word (codes "loader") then Some verbs.Loader
    else (if bytes_eq word (codes "repair") then Some verbs.Repair
    else (if bytes_eq word (codes "diff") then Some verbs.Diff
    else (if bytes_eq word (codes "tree") then Some verbs.Tree
    else None)))))))))))))

verb_is : (verb : Verb) → verb_of (word_of verb) ≡ Some verb
verb_is verbs.Show = refl
verb_is verbs.Check = refl
verb_is verbs.Image = refl
verb_is verbs.Make = refl
verb_is verbs.Template = refl
verb_is verbs.Disassemble = refl
verb_is verbs.Names = refl
verb_is verbs.Unpack = refl
verb_is verbs.Cpio = refl
verb_is verbs.Lay = refl
verb_is verbs.Loader = refl
verb_is verbs.Repair = refl
verb_is verbs.Diff = refl
verb_is verbs.Tree = refl

pub same_verb : (a b : Verb) → word_of a ≡ word_of b → a ≡ b
same_verb a b is = let e : Some a ≡ Some b = sym (verb_is a) ∙ ap verb_of is ∙ verb_is b in cc

no_verb : (verb : Verb) (word : List ℕ) → verb_of word ≡ None → word_of verb ≡ word → ⊥
no_verb verb word none is = let e : Some verb ≡ None = sym (verb_is verb) ∙ ap verb_of is ∙ none in cc

pub no_version : (verb : Verb) → word_of verb ≡ codes "--version" → ⊥
no_version verb is = no_verb verb (codes "--version") refl is

-- the word of a command doesn't ask for the usage
pub no_help : (verb : Verb) (word : List ℕ) → IsHelp word ⊎ (word ≡ codes "help") → word_of verb ≡ word → ⊥
no_help verb word (inl (inl is)) same = no_verb verb (codes "--help") refl (same ∙ is)
no_help verb word (inl (inr is)) same = no_verb verb (codes "-h") refl (same ∙ is)
no_help verb word (inr is) same = no_verb verb (codes "help") refl (same ∙ is)

-- words after a command don't ask for the usage and have no option that it doesn't take
pub asks_no_help : (words : List (List ℕ)) (help : AsksForHelp words) (verb : Verb) (more : List (List ℕ)) → AreAfter verb words more → ⊥
asks_no_help words help verb more after =
    let same : help.verb ≡ verb = same_verb help.verb verb (heads words _ _ _ _ help.is after.0) in
    let rest : help.more ≡ more = tails words _ _ _ _ help.is after.0 in
    let P : Verb → Type 0 = λ v. first_option v help.more ≡ Some help.option in
    let Q : List (List ℕ) → Type 0 = λ l. first_option verb l ≡ Some help.option in
    let some = subst Q rest (subst P same help.first) in
    let e : Some help.option ≡ None = sym some ∙ after.1 in cc
