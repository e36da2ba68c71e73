-- Words ask for at most one command.
use Rattle.std.proofs.Common.{◌≡◌, ◌⊎◌, ℕ, Bool, true, false, map, List, [], ◌∷◌, ◌++◌, Option, length, refl, sym, ap, subst, ◌∙◌, inl, inr, arith, codes, string_bytes}
use Rattle.std.proofs.lemmas.List.{length-map}
use Rattle.acpitool_program.proofs.Rests.{same_addresses, same_rest}
use Rattle.acpitool_program.proofs.Verbs.{heads, tails, same_verb, no_version, no_help, asks_no_help}
use Rattle.acpitool_program.specs.Command.{begins_with, style_of, after_option, file_count, forces, unforced, AreImage, AreUnpack, AreLay, IsRest, AreAfter, IsHelp, BeginsWithHelp, AsksForHelp, Asks}
use Rattle.acpitool_program.specs.Laws.{Content, option_if, style_option, rsdp_if, content, AskForOne}
use Rattle.acpitool_program.specs.declared.command.Command.{Command}
use Rattle.acpitool_program.specs.declared.command.Command.TheVariants.{Help, Version, Show, Check, Image, Make, Template}
use Rattle.acpitool_program.specs.declared.command.Command.TheVariants.{Disassemble, Names, Unpack, Cpio, Lay, Loader, Repair, Diff, Json, Tree}
use Rattle.acpitool_program.specs.declared.command.Style.{Style}
use Rattle.acpitool_program.specs.declared.command.Verb.{Verb}
use Rattle.acpitool_program.specs.declared.command.Verb.TheVariants as verbs

-- lists with parts of the same length have the same parts
same_parts : (a b d e : List (List ℕ)) → a ++ b ≡ d ++ e → length a ≡ length d → (a ≡ d) × (b ≡ e)
same_parts [] b [] e is long = (refl, is)
same_parts [] b (y ∷ d) e is long = absurd (omega (arith, long))
same_parts (x ∷ a) b [] e is long = absurd (omega (arith, long))
same_parts (x ∷ a) b (y ∷ d) e is long =
    let rest = same_parts a b d e (cc) (omega (arith, long)) in
    let first : x ≡ y = cc in
    (ap (λ z. z ∷ a) first ∙ ap (λ l. y ∷ l) rest.0, rest.1)

same_images : (m n : List (List ℕ)) (file other : List ℕ) (base from : ℕ) → m ≡ n → AreImage m file base → AreImage n other from
    → (file ≡ other) × (base ≡ from)
same_images m n file other base from same (inl x) (inl y) =
    let e : file ∷ [] ≡ other ∷ [] = sym x.0 ∙ same ∙ y.0 in (cc, x.1 ∙ sym y.1)
same_images m n file other base from same (inl x) (inr y) =
    let e : file ∷ [] ≡ other ∷ y.0 ∷ [] = sym x.0 ∙ same ∙ y.1 in absurd (cc)
same_images m n file other base from same (inr x) (inl y) =
    let e : file ∷ x.0 ∷ [] ≡ other ∷ [] = sym x.1 ∙ same ∙ y.0 in absurd (cc)
same_images m n file other base from same (inr x) (inr y) =
    let e : file ∷ x.0 ∷ [] ≡ other ∷ y.0 ∷ [] = sym x.1 ∙ same ∙ y.1 in
    (cc, same_addresses x.0 y.0 base from (cc) x.2 y.2)

-- ---- what a command contains, by the words after its own

abbrev IsOf : Verb → List (List ℕ) → Content → Type 0
IsOf verbs.Show more k =
    ((begins_with (codes "--json") more ≡ false) × (files : List (List ℕ)) × (numbers : List (List ℕ))
    × (after_option verbs.Show more ≡ files ++ numbers) × (length files ≡ file_count (after_option verbs.Show more))
    × (k ≡ (codes "show", files, numbers, 0, style_option (style_of more))))
    ⊎ ((begins_with (codes "--json") more ≡ true) × (k ≡ (codes "show", after_option verbs.Show more, [], 0, codes "--json")))
IsOf verbs.Check more k =
    k ≡ (codes "check", after_option verbs.Check more, [], 0, option_if (begins_with (codes "--json") more) (codes "--json"))
IsOf verbs.Image more k =
    (file : List ℕ) × (base : ℕ) × AreImage (after_option verbs.Image more) file base
    × (k ≡ (codes "image", file ∷ [], [], base, option_if (begins_with (codes "--json") more) (codes "--json")))
IsOf verbs.Make more k =
    (text : List ℕ) × (file : List ℕ) × (unforced more ≡ text ∷ file ∷ []) × (k ≡ (codes "make", text ∷ file ∷ [], [], 0, option_if (forces more) (codes "--force")))
IsOf verbs.Template more k = (signature : List ℕ) × (more ≡ signature ∷ []) × (k ≡ (codes "template", signature ∷ [], [], 0, []))
IsOf verbs.Disassemble more k =
    (file : List ℕ) × (numbers : List (List ℕ)) × (more ≡ file ∷ numbers) × (k ≡ (codes "disassemble", file ∷ [], numbers, 0, []))
IsOf verbs.Names more k =
    (file : List ℕ) × (numbers : List (List ℕ)) × (after_option verbs.Names more ≡ file ∷ numbers)
    × (k ≡ (codes "names", file ∷ [], numbers, 0, option_if (begins_with (codes "--json") more) (codes "--json")))
IsOf verbs.Unpack more k =
    (file : List ℕ) × (folder : List ℕ) × (base : ℕ) × AreUnpack more file folder base
    × (k ≡ (codes "unpack", file ∷ folder ∷ [], [], base, []))
IsOf verbs.Cpio more k =
    (folder : List ℕ) × (file : List ℕ) × (more ≡ folder ∷ file ∷ []) × (k ≡ (codes "cpio", folder ∷ file ∷ [], [], 0, []))
IsOf verbs.Lay more k =
    (rsdp : Option ℕ) × (rest : List (List ℕ)) × (folder : List ℕ) × (file : List ℕ) × (base : ℕ) × IsRest more rsdp rest
    × AreLay rest folder file base × (k ≡ (codes "lay", folder ∷ file ∷ [], [], base, rsdp_if rsdp))
IsOf verbs.Loader more k =
    (folder : List ℕ) × (to : List ℕ) × (more ≡ folder ∷ to ∷ []) × (k ≡ (codes "loader", folder ∷ to ∷ [], [], 0, []))
IsOf verbs.Repair more k =
    (name : List ℕ) × (file : List ℕ) × (more ≡ name ∷ file ∷ []) × (k ≡ (codes "repair", name ∷ file ∷ [], [], 0, []))
IsOf verbs.Diff more k =
    (first : List ℕ) × (second : List ℕ) × (more ≡ first ∷ second ∷ []) × (k ≡ (codes "diff", first ∷ second ∷ [], [], 0, []))
IsOf verbs.Tree more k =
    (file : List ℕ) × (after_option verbs.Tree more ≡ file ∷ [])
    × (k ≡ (codes "tree", file ∷ [], [], 0, option_if (begins_with (codes "--dot") more) (codes "--dot")))

one_of : (verb : Verb) (more : List (List ℕ)) (k l : Content) → IsOf verb more k → IsOf verb more l → k ≡ l
one_of verbs.Show more k l (inl one) (inl two) =
    let parts = same_parts one.1 one.2 two.1 two.2 (sym one.3 ∙ two.3) (one.4 ∙ sym two.4) in
    let files = parts.0 in
    let numbers = parts.1 in
    cc (one.5, two.5, files, numbers)
one_of verbs.Show more k l (inl one) (inr two) = let e : false ≡ true = sym one.0 ∙ two.0 in absurd (cc)
one_of verbs.Show more k l (inr one) (inl two) = let e : true ≡ false = sym one.0 ∙ two.0 in absurd (cc)
one_of verbs.Show more k l (inr one) (inr two) = one.1 ∙ sym two.1
one_of verbs.Check more k l one two = one ∙ sym two
one_of verbs.Image more k l one two =
    let all = after_option verbs.Image more in
    let same = same_images all all one.0 two.0 one.1 two.1 refl one.2 two.2 in
    let file = same.0 in
    let base = same.1 in
    cc (one.3, two.3, file, base)
one_of verbs.Make more k l one two = cc (one.2, one.3, two.2, two.3)
one_of verbs.Template more k l one two = cc (one.1, one.2, two.1, two.2)
one_of verbs.Disassemble more k l one two = cc (one.2, one.3, two.2, two.3)
one_of verbs.Names more k l one two = cc (one.2, one.3, two.2, two.3)
one_of verbs.Unpack more k l one two =
    let are = one.3 in
    let others = two.3 in
    let file : one.0 ≡ two.0 = heads more _ _ _ _ are.1 others.1 in
    let same = same_images are.0 others.0 one.1 two.1 one.2 two.2 (tails more _ _ _ _ are.1 others.1) are.2 others.2 in
    let folder = same.0 in
    let base = same.1 in
    cc (one.4, two.4, file, folder, base)
one_of verbs.Cpio more k l one two = cc (one.2, one.3, two.2, two.3)
one_of verbs.Lay more k l one two =
    let rests = same_rest more one.1 two.1 one.0 two.0 one.5 two.5 in
    let option : rsdp_if one.0 ≡ rsdp_if two.0 = ap (λ (rsdp : Option ℕ). rsdp_if rsdp) rests.0 in
    let rest : one.1 ≡ two.1 = rests.1 in
    let these = one.6 in
    let those = two.6 in
    let word : these.0 ≡ those.0 = cc (these.1, those.1, rest) in
    let folder : one.2 ≡ two.2 = cc (these.1, those.1, rest) in
    let file : one.3 ≡ two.3 = cc (these.1, those.1, rest) in
    let base = same_addresses these.0 those.0 one.4 two.4 word these.2 those.2 in
    cc (one.7, two.7, folder, file, base, option)
one_of verbs.Loader more k l one two = cc (one.2, one.3, two.2, two.3)
one_of verbs.Repair more k l one two = cc (one.2, one.3, two.2, two.3)
one_of verbs.Diff more k l one two = cc (one.2, one.3, two.2, two.3)
one_of verbs.Tree more k l one two = cc (one.1, one.2, two.1, two.2)

-- a command with the words after its own, and what it contains
record Contains (words : List (List ℕ)) (k : Content) : Type 0 where
  pub verb : Verb
  pub more : List (List ℕ)
  pub after : AreAfter verb words more
  pub of : IsOf verb more k

-- the words ask for the usage or the version, or are a command
abbrev AreOf : List (List ℕ) → Content → Type 0
AreOf words k =
    ((k ≡ content Help) × (BeginsWithHelp words ⊎ AsksForHelp words))
    ⊎ ((k ≡ content Version) × (more : List (List ℕ)) × (words ≡ codes "--version" ∷ more))
    ⊎ Contains words k

are_of : (words : List (List ℕ)) (command : Command) → Asks words command → AreOf words (content command)
are_of words Help help = inl (refl, help)
are_of words Version first = inr (inl (refl, first.0, first.1))
are_of words (Show style files numbers) all = inr (inr (record {
  verb = verbs.Show;
  more = all.0;
  after = all.1;
  of = inl (
    all.2,
    map (λ word. string_bytes word) files.now,
    map (λ word. string_bytes word) numbers.now,
    all.4,
    length-map files.now (λ word. string_bytes word) ∙ all.5,
    ap
        (λ (s : Style). (
          codes "show",
          map (λ word. string_bytes word) files.now,
          map (λ word. string_bytes word) numbers.now,
          0,
          style_option s,
        ))
        all.3,
  );
}))
are_of words (Json files) all = inr (inr (record {
  verb = verbs.Show;
  more = all.0;
  after = all.1;
  of = inr (all.2, ap (λ l. (codes "show", l, [], 0, codes "--json")) (sym all.3));
}))
are_of words (Check json files) all = inr (inr (record {
  verb = verbs.Check;
  more = all.0;
  after = all.1;
  of = ap (λ l. (codes "check", l, [], 0, option_if json (codes "--json"))) (sym all.3)
      ∙ ap (λ (b : Bool). (codes "check", after_option verbs.Check all.0, [], 0, option_if b (codes "--json"))) all.2;
}))
are_of words (Image json file base) all = inr (inr (record {
  verb = verbs.Image;
  more = all.0;
  after = all.1;
  of = (
    file.now,
    base,
    all.3,
    ap (λ (b : Bool). (codes "image", file.now ∷ [], [], base, option_if b (codes "--json"))) all.2,
  );
}))
are_of words (Template signature) all =
    inr (inr (record { verb = verbs.Template; more = all.0; after = all.1; of = (_, all.2, refl) }))
are_of words (Disassemble file numbers) all =
    inr (inr (record { verb = verbs.Disassemble; more = all.0; after = all.1; of = (_, _, all.2, refl) }))
are_of words (Names json file numbers) all = inr (inr (record {
  verb = verbs.Names;
  more = all.0;
  after = all.1;
  of = (
    file.now,
    map (λ word. string_bytes word) numbers.now,
    all.3,
    ap
        (λ (b : Bool). (codes "names", file.now ∷ [], map (λ word. string_bytes word) numbers.now, 0, option_if b (codes "--json")))
        all.2,
  );
}))
are_of words (Unpack file folder base) all =
    inr (inr (record { verb = verbs.Unpack; more = all.0; after = all.1; of = (_, _, _, all.2, refl) }))
are_of words (Cpio folder file) all =
    inr (inr (record { verb = verbs.Cpio; more = all.0; after = all.1; of = (_, _, all.2, refl) }))
are_of words (Lay rsdp folder file base) all = inr (inr (record {
  verb = verbs.Lay;
  more = all.0;
  after = all.2;
  of = (rsdp, all.1, folder.now, file.now, base, all.3, all.4, refl);
}))
are_of words (Loader folder to) all =
    inr (inr (record { verb = verbs.Loader; more = all.0; after = all.1; of = (_, _, all.2, refl) }))
are_of words (Repair name file) all =
    inr (inr (record { verb = verbs.Repair; more = all.0; after = all.1; of = (_, _, all.2, refl) }))
are_of words (Diff first second) all =
    inr (inr (record { verb = verbs.Diff; more = all.0; after = all.1; of = (_, _, all.2, refl) }))
are_of words (Tree dot file) all = inr (inr (record {
  verb = verbs.Tree;
  more = all.0;
  after = all.1;
  of = (
    file.now,
    all.3,
    ap (λ (b : Bool). (codes "tree", file.now ∷ [], [], 0, option_if b (codes "--dot"))) all.2,
  );
}))
are_of words (Make force text file) all = inr (inr (record {
  verb = verbs.Make;
  more = all.0;
  after = all.1;
  of = (_, _, all.3, ap (λ (f : Bool). (codes "make", text.now ∷ file.now ∷ [], [], 0, option_if f (codes "--force"))) all.2);
}))

-- ---- words have one of these

help_apart : (word : List ℕ) → IsHelp word ⊎ (word ≡ codes "help") → word ≡ codes "--version" → ⊥
help_apart word (inl (inl help)) same = let e : 6 ≡ 9 = ap length (sym help ∙ same) in cc
help_apart word (inl (inr help)) same = let e : 2 ≡ 9 = ap length (sym help ∙ same) in cc
help_apart word (inr help) same = let e : 4 ≡ 9 = ap length (sym help ∙ same) in cc

no_version_help : (words : List (List ℕ)) → BeginsWithHelp words ⊎ AsksForHelp words → (more : List (List ℕ)) → words ≡ codes "--version" ∷ more → ⊥
no_version_help words (inl first) more is = help_apart first.word first.asks (heads words _ _ _ _ first.is is)
no_version_help words (inr after) more is = no_version after.verb (heads words _ _ _ _ after.is is)

no_command_help : (words : List (List ℕ)) (k : Content) → BeginsWithHelp words ⊎ AsksForHelp words → Contains words k → ⊥
no_command_help words k (inl first) one = no_help one.verb first.word first.asks (heads words _ _ _ _ one.after.0 first.is)
no_command_help words k (inr after) one = asks_no_help words after one.verb one.more one.after

both_contain : (words : List (List ℕ)) (k l : Content) → Contains words k → Contains words l → k ≡ l
both_contain words k l one two =
    let verb : one.verb ≡ two.verb = same_verb one.verb two.verb (heads words _ _ _ _ one.after.0 two.after.0) in
    let more : one.more ≡ two.more = tails words _ _ _ _ one.after.0 two.after.0 in
    let P : Verb → Type 0 = λ v. IsOf v one.more k in
    let Q : List (List ℕ) → Type 0 = λ m. IsOf two.verb m k in
    one_of two.verb two.more k l (subst Q more (subst P verb one.of)) two.of

only_one : (words : List (List ℕ)) (k l : Content) → AreOf words k → AreOf words l → k ≡ l
only_one words k l (inl one) (inl two) = one.0 ∙ sym two.0
only_one words k l (inl one) (inr (inl two)) = absurd (no_version_help words one.1 two.1 two.2)
only_one words k l (inl one) (inr (inr two)) = absurd (no_command_help words l one.1 two)
only_one words k l (inr (inl one)) (inl two) = absurd (no_version_help words two.1 one.1 one.2)
only_one words k l (inr (inl one)) (inr (inl two)) = one.0 ∙ sym two.0
only_one words k l (inr (inl one)) (inr (inr two)) = absurd (no_version two.verb (heads words _ _ _ _ two.after.0 one.2))
only_one words k l (inr (inr one)) (inl two) = absurd (no_command_help words k two.1 one)
only_one words k l (inr (inr one)) (inr (inl two)) = absurd (no_version one.verb (heads words _ _ _ _ one.after.0 two.2))
only_one words k l (inr (inr one)) (inr (inr two)) = both_contain words k l one two

pub ask_for_one : AskForOne
ask_for_one words one two first second = only_one words (content one) (content two) (are_of words one first) (are_of words two second)
