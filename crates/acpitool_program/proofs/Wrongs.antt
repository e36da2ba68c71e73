-- Words that are wrong ask for no command.
use Rattle.std.proofs.Common.{◌≡◌, ◌≢◌, ◌⊎◌, ◌≤◌, ℕ, List, [], ◌∷◌, length, Option, Some, None, refl, ap, sym, subst, ◌∙◌, inl, inr, arith, codes}
use Rattle.acpitool_program.proofs.Rests.{same_rest, no_pointer, no_address}
use Rattle.acpitool_program.proofs.Verbs.{heads, tails, same_verb, no_version, no_help}
use Rattle.acpitool_program.specs.Command.{word_of, first_option, after_option, file_count, files_after, unforced, IsAddress, AreImage, AreUnpack, AreLay, IsRest, IsHelp, BeginsWithHelp, Asks, IsNoCommand}
use Rattle.acpitool_program.specs.Command.{IsAfterBase, IsAfterFile, IsAfterUnpacked, IsNoUnpackBase, IsAfterLaid, HasLeft, IsNoLayBase, IsNoPointer, IsWrong}
use Rattle.acpitool_program.specs.Laws.{WrongAskForNothing}
use Rattle.acpitool_program.specs.declared.command.Command.{Command}
use Rattle.acpitool_program.specs.declared.command.Command.TheVariants.{Help, Version, Show, Check, Image, Make, Template}
use Rattle.acpitool_program.specs.declared.command.Command.TheVariants.{Disassemble, Names, Unpack, Cpio, Lay, Loader, Repair, Diff, Json, Tree}
use Rattle.acpitool_program.specs.declared.command.Verb.{Verb}
use Rattle.acpitool_program.specs.declared.command.Verb.TheVariants as verbs
use Rattle.acpitool_program.specs.declared.command.Wrong.{Wrong}
use Rattle.acpitool_program.specs.declared.command.Wrong.TheVariants.{NoCommand, Unknown, Misplaced, NoFile, NoFileToCheck, NoImage, NoText}
use Rattle.acpitool_program.specs.declared.command.Wrong.TheVariants.{NoTable, Base, Number, Twice, NoSignature, Signature, NoBlock}
use Rattle.acpitool_program.specs.declared.command.Wrong.TheVariants.{NoPacked, NoFolder, NoTables, NoArchive}
use Rattle.acpitool_program.specs.declared.command.Wrong.TheVariants.{NoImageFile, NoBase, NoPointer, NoDamaged, NoFirst, NoSecond, NoDrawing}

-- ---- the words after a command

-- they are what the command takes
abbrev IsTaken : Verb → List (List ℕ) → Type 0
IsTaken verbs.Show more = 1 ≤ files_after more
IsTaken verbs.Check more = 1 ≤ length (after_option verbs.Check more)
IsTaken verbs.Image more = (file : List ℕ) × (base : ℕ) × AreImage (after_option verbs.Image more) file base
IsTaken verbs.Make more = (text : List ℕ) × (file : List ℕ) × (unforced more ≡ text ∷ file ∷ [])
IsTaken verbs.Template more = (signature : List ℕ) × (more ≡ signature ∷ []) × (length signature ≡ 4)
IsTaken verbs.Disassemble more = 1 ≤ file_count more
IsTaken verbs.Names more = 1 ≤ file_count (after_option verbs.Names more)
IsTaken verbs.Unpack more = (file : List ℕ) × (folder : List ℕ) × (base : ℕ) × AreUnpack more file folder base
IsTaken verbs.Cpio more = (folder : List ℕ) × (file : List ℕ) × (more ≡ folder ∷ file ∷ [])
IsTaken verbs.Lay more =
    (rsdp : Option ℕ) × (rest : List (List ℕ)) × (folder : List ℕ) × (file : List ℕ) × (base : ℕ) × IsRest more rsdp rest
    × AreLay rest folder file base
IsTaken verbs.Loader more = (folder : List ℕ) × (to : List ℕ) × (more ≡ folder ∷ to ∷ [])
IsTaken verbs.Tree more = (file : List ℕ) × (after_option verbs.Tree more ≡ file ∷ [])
IsTaken verbs.Repair more = (name : List ℕ) × (file : List ℕ) × (more ≡ name ∷ file ∷ [])
IsTaken verbs.Diff more = (first : List ℕ) × (second : List ℕ) × (more ≡ first ∷ second ∷ [])

-- they ask for the usage, or are what the command takes
abbrev Serves : Verb → List (List ℕ) → Type 0
Serves verb more =
    ((option : List ℕ) × (first_option verb more ≡ Some option) × IsHelp option)
    ⊎ ((first_option verb more ≡ None) × IsTaken verb more)

-- they have another option, or aren't what the command takes
abbrev Fails : Verb → List (List ℕ) → Type 0
Fails verb more =
    ((word : List ℕ) × (first_option verb more ≡ Some word) × (word ≢ codes "--help") × (word ≢ codes "-h"))
    ⊎ ((first_option verb more ≡ None) × ((taken : IsTaken verb more) → ⊥))

-- a command whose words serve, or fail
record With (Are : Verb → List (List ℕ) → Type 0) (words : List (List ℕ)) : Type 0 where
  pub verb : Verb
  pub more : List (List ℕ)
  pub is : words ≡ word_of verb ∷ more
  pub are : Are verb more

not_both : (verb : Verb) (more : List (List ℕ)) → Serves verb more → Fails verb more → ⊥
not_both verb more (inl help) (inl other) =
    let same : other.0 ≡ help.0 = cc (help.1, other.1) in elim help.2 [ inl is ↦ other.2 (same ∙ is) | inr is ↦ other.3 (same ∙ is) ]
not_both verb more (inl help) (inr none) = cc (help.1, none.0)
not_both verb more (inr none) (inl other) = cc (none.0, other.1)
not_both verb more (inr taken) (inr none) = none.1 taken.1

clash : (words : List (List ℕ)) → With Serves words → With Fails words → ⊥
clash words one two =
    let words_same : word_of one.verb ≡ word_of two.verb = heads words _ _ _ _ one.is two.is in
    let more_same : one.more ≡ two.more = tails words _ _ _ _ one.is two.is in
    let P : Verb → Type 0 = λ verb. Serves verb one.more in
    let Q : List (List ℕ) → Type 0 = λ more. Serves two.verb more in
    not_both two.verb two.more (subst Q more_same (subst P (same_verb one.verb two.verb words_same) one.are)) two.are

-- ---- commands

-- the words are one that asks for something, or a command whose words serve
abbrev Asked : List (List ℕ) → Type 0
Asked words =
    BeginsWithHelp words
    ⊎ ((more : List (List ℕ)) × (words ≡ codes "--version" ∷ more))
    ⊎ With Serves words

asked : (words : List (List ℕ)) (command : Command) → Asks words command → Asked words
asked words Help (inl first) = inl first
asked words Help (inr after) = inr (inr (record { verb = after.verb; more = after.more; is = after.is; are = inl (after.option, after.first, after.asks) }))
asked words Version first = inr (inl first)
asked words (Show style files numbers) all = inr (inr (record { verb = verbs.Show; more = all.0; is = all.1.0; are = inr (all.1.1, all.6) }))
asked words (Json files) all = inr (inr (record { verb = verbs.Show; more = all.0; is = all.1.0; are = inr (all.1.1, all.4) }))
asked words (Check json files) all = inr (inr (record { verb = verbs.Check; more = all.0; is = all.1.0; are = inr (all.1.1, all.4) }))
asked words (Image json file base) all =
    inr (inr (record { verb = verbs.Image; more = all.0; is = all.1.0; are = inr (all.1.1, (file.now, base, all.3)) }))
asked words (Template signature) all =
    inr (inr (record { verb = verbs.Template; more = all.0; is = all.1.0; are = inr (all.1.1, (signature.now, all.2, all.3)) }))
asked words (Disassemble file numbers) all =
    inr (inr (record { verb = verbs.Disassemble; more = all.0; is = all.1.0; are = inr (all.1.1, all.3) }))
asked words (Names json file numbers) all =
    inr (inr (record { verb = verbs.Names; more = all.0; is = all.1.0; are = inr (all.1.1, all.4) }))
asked words (Unpack file folder base) all =
    inr (inr (record { verb = verbs.Unpack; more = all.0; is = all.1.0; are = inr (all.1.1, (file.now, folder.now, base, all.2)) }))
asked words (Cpio folder file) all =
    inr (inr (record { verb = verbs.Cpio; more = all.0; is = all.1.0; are = inr (all.1.1, (folder.now, file.now, all.2)) }))
asked words (Lay rsdp folder file base) all = inr (inr (record {
  verb = verbs.Lay;
  more = all.0;
  is = all.2.0;
  are = inr (all.2.1, (rsdp, all.1, folder.now, file.now, base, all.3, all.4));
}))
asked words (Loader folder to) all =
    inr (inr (record { verb = verbs.Loader; more = all.0; is = all.1.0; are = inr (all.1.1, (folder.now, to.now, all.2)) }))
asked words (Repair name file) all =
    inr (inr (record { verb = verbs.Repair; more = all.0; is = all.1.0; are = inr (all.1.1, (name.now, file.now, all.2)) }))
asked words (Diff first second) all =
    inr (inr (record { verb = verbs.Diff; more = all.0; is = all.1.0; are = inr (all.1.1, (first.now, second.now, all.2)) }))
asked words (Tree dot file) all =
    inr (inr (record { verb = verbs.Tree; more = all.0; is = all.1.0; are = inr (all.1.1, (file.now, all.3)) }))
asked words (Make force text file) all =
    inr (inr (record { verb = verbs.Make; more = all.0; is = all.1.0; are = inr (all.1.1, (text.now, file.now, all.3)) }))

-- ---- wrong words

-- there is no word, no command, or a command whose words fail
abbrev Wronged : List (List ℕ) → Type 0
Wronged words = (words ≡ []) ⊎ ((word : List ℕ) × IsNoCommand words word) ⊎ With Fails words

no_third : (more others : List (List ℕ)) (a b d file : List ℕ) (base : ℕ) → more ≡ a ∷ b ∷ d ∷ others → AreImage more file base → ⊥
no_third more others a b d file base is (inl one) = cc (is, one.0)
no_third more others a b d file base is (inr two) = cc (is, two.1)

no_base : (more : List (List ℕ)) (a word file : List ℕ) (base : ℕ) → more ≡ a ∷ word ∷ [] → ((n : ℕ) → ¬ IsAddress word n)
    → AreImage more file base → ⊥
no_base more a word file base is not (inl one) = cc (is, one.0)
no_base more a word file base is not (inr two) =
    let P : List ℕ → Type 0 = λ l. IsAddress l base in
    let same : two.0 ≡ word = cc (is, two.1) in
    not base (subst P same two.2)

after_base : (words : List (List ℕ)) (word : List ℕ) → IsAfterBase words word → With Fails words
after_base words word one = record {
  verb = verbs.Image;
  more = one.more;
  is = one.after.0;
  are = inr (one.after.1, λ taken. no_third (after_option verbs.Image one.more) one.others one.file one.base word taken.0 taken.1 one.is taken.2);
}

-- a list of one word less, which `unpack` takes as its folder and base
no_packed : (more rest : List (List ℕ)) (file other folder : List ℕ) (base : ℕ) → more ≡ file ∷ rest
    → ((m : List (List ℕ)) → m ≡ rest → (f : List ℕ) (b : ℕ) → AreImage m f b → ⊥) → AreUnpack more other folder base → ⊥
no_packed more rest file other folder base is not taken =
    not taken.0 (cc (is, taken.1)) folder base taken.2

no_rest : (m : List (List ℕ)) → length m ≡ 0 → (file : List ℕ) (base : ℕ) → AreImage m file base → ⊥
no_rest m none file base (inl one) = let some = ap length one.0 in absurd (omega (arith, none, some))
no_rest m none file base (inr two) = let some = ap length two.1 in absurd (omega (arith, none, some))

after_unpacked : (words : List (List ℕ)) (word : List ℕ) → IsAfterUnpacked words word → With Fails words
after_unpacked words word one = record {
  verb = verbs.Unpack;
  more = one.more;
  is = one.after.0;
  are = inr (
    one.after.1,
    λ taken. no_packed one.more (one.folder ∷ one.base ∷ word ∷ one.others) one.file taken.0 taken.1 taken.2 one.is
        (λ m same file base image. no_third m one.others one.folder one.base word file base same image) taken.3,
  );
}

no_unpack_base : (words : List (List ℕ)) (word : List ℕ) → IsNoUnpackBase words word → With Fails words
no_unpack_base words word one = record {
  verb = verbs.Unpack;
  more = one.more;
  is = one.after.0;
  are = inr (
    one.after.1,
    λ taken. no_packed one.more (one.folder ∷ word ∷ []) one.file taken.0 taken.1 taken.2 one.is
        (λ m same file base image. no_base m one.folder word file base same one.not image) taken.3,
  );
}

-- a word alone, which `unpack` takes as its file
only_file : (more : List (List ℕ)) → length more ≡ 1 → (file folder : List ℕ) (base : ℕ) → AreUnpack more file folder base → ⊥
only_file more one file folder base taken =
    let size : length (file ∷ taken.0) ≡ 1 = sym (ap length taken.1) ∙ one in no_rest taken.0 (omega (arith, size)) folder base taken.2

after_laid : (words : List (List ℕ)) (word : List ℕ) → IsAfterLaid words word → With Fails words
after_laid words word one = record {
  verb = verbs.Lay;
  more = one.more;
  is = one.after.0;
  are = inr (
    one.after.1,
    λ taken.
        let rest = (same_rest one.more one.rest taken.1 one.rsdp taken.0 one.is_rest taken.5).1 in
        let are = taken.6 in
        cc (one.is, are.1, rest),
  );
}

no_lay_base : (words : List (List ℕ)) (word : List ℕ) → IsNoLayBase words word → With Fails words
no_lay_base words word one = record {
  verb = verbs.Lay;
  more = one.more;
  is = one.after.0;
  are = inr (
    one.after.1,
    λ taken.
        let rest = (same_rest one.more one.rest taken.1 one.rsdp taken.0 one.is_rest taken.5).1 in
        let are = taken.6 in
        let P : List ℕ → Type 0 = λ l. IsAddress l taken.4 in
        let same : are.0 ≡ word = cc (one.is, are.1, rest) in
        one.not taken.4 (subst P same are.2),
  );
}

-- so many words, which `lay` doesn't take
few_laid : (words : List (List ℕ)) (count : ℕ) → count ≤ 2 → HasLeft words count → With Fails words
few_laid words count few one = record {
  verb = verbs.Lay;
  more = one.more;
  is = one.after.0;
  are = inr (
    one.after.1,
    λ taken.
        let same = ap length (same_rest one.more one.rest taken.1 one.rsdp taken.0 one.is_rest taken.5).1 in
        let these = one.are in
        let three = ap length taken.6.1 in
        absurd (omega (arith, few, these, same, three)),
  );
}

no_rsdp : (words : List (List ℕ)) (word : List ℕ) → IsNoPointer words word → With Fails words
no_rsdp words word one = record {
  verb = verbs.Lay;
  more = one.more;
  is = one.after.0;
  are = inr (
    one.after.1,
    λ taken. no_address one.more taken.1 one.rest one.option word taken.0 one.is one.leads one.not taken.5,
  );
}

after_file : (words : List (List ℕ)) (word : List ℕ) → IsAfterFile words word → With Fails words
after_file words word one =
    record { verb = verbs.Make; more = one.more; is = one.after.0; are = inr (one.after.1, λ taken. cc (one.is, taken.2)) }

wronged : (words : List (List ℕ)) (wrong : Wrong) → IsWrong words wrong → Wronged words
wronged words NoCommand is = inl is
wronged words (Unknown word) (inl none) = inr (inl (word.now, none))
wronged words (Unknown word) (inr (inl option)) =
    inr (inr (record { verb = option.verb; more = option.more; is = option.is; are = inl (word.now, option.first, option.no_help, option.no_short_help) }))
wronged words (Unknown word) (inr (inr (inl third))) = inr (inr (after_base words word.now third))
wronged words (Unknown word) (inr (inr (inr (inl third)))) = inr (inr (after_file words word.now third))
wronged words (Unknown word) (inr (inr (inr (inr (inl fourth))))) = inr (inr (after_unpacked words word.now fourth))
wronged words (Unknown word) (inr (inr (inr (inr (inr (inl third)))))) = inr (inr (record {
  verb = verbs.Cpio;
  more = third.more;
  is = third.after.0;
  are = inr (third.after.1, λ taken. cc (third.is, taken.2));
}))
wronged words (Unknown word) (inr (inr (inr (inr (inr (inr (inl fourth))))))) = inr (inr (after_laid words word.now fourth))
wronged words (Unknown word) (inr (inr (inr (inr (inr (inr (inr (inl third)))))))) = inr (inr (record {
  verb = verbs.Diff;
  more = third.more;
  is = third.after.0;
  are = inr (third.after.1, λ taken. cc (third.is, taken.2));
}))
wronged words (Unknown word) (inr (inr (inr (inr (inr (inr (inr (inr (inl third))))))))) = inr (inr (record {
  verb = verbs.Loader;
  more = third.more;
  is = third.after.0;
  are = inr (third.after.1, λ taken. cc (third.is, taken.2));
}))
wronged words (Unknown word) (inr (inr (inr (inr (inr (inr (inr (inr (inr (inr (inl second))))))))))) = inr (inr (record {
  verb = verbs.Tree;
  more = second.more;
  is = second.after.0;
  are = inr (second.after.1, λ taken. cc (second.is, taken.1));
}))
wronged words (Unknown word) (inr (inr (inr (inr (inr (inr (inr (inr (inr (inl second)))))))))) = inr (inr (record {
  verb = verbs.Template;
  more = second.more;
  is = second.after.0;
  are = inr (second.after.1, λ taken. cc (second.is, taken.1));
}))
wronged words (Unknown word) (inr (inr (inr (inr (inr (inr (inr (inr (inr (inr (inr third))))))))))) = inr (inr (record {
  verb = verbs.Repair;
  more = third.more;
  is = third.after.0;
  are = inr (third.after.1, λ taken. cc (third.is, taken.2));
}))
wronged words (Misplaced word) option =
    inr (inr (record { verb = option.verb; more = option.more; is = option.is; are = inl (word.now, option.first, option.no_help, option.no_short_help) }))
wronged words NoFile all = inr (inr (record {
  verb = verbs.Show;
  more = all.0;
  is = all.1.0;
  are = inr (all.1.1, λ taken. let none = all.2 in omega (arith, none, taken));
}))
wronged words NoFileToCheck all = inr (inr (record {
  verb = verbs.Check;
  more = all.0;
  is = all.1.0;
  are = inr (all.1.1, λ taken. let none = all.2 in omega (arith, none, taken));
}))
wronged words NoImage all = inr (inr (record {
  verb = verbs.Image;
  more = all.0;
  is = all.1.0;
  are = inr (all.1.1, λ taken. no_rest (after_option verbs.Image all.0) all.2 taken.0 taken.1 taken.2);
}))
wronged words NoSignature is =
    inr (inr (record { verb = verbs.Template; more = []; is = is; are = inr (refl, λ taken. cc (taken.1)) }))
wronged words NoBlock (inl all) = inr (inr (record {
  verb = verbs.Disassemble;
  more = all.0;
  is = all.1.0;
  are = inr (all.1.1, λ taken. let none = all.2 in omega (arith, none, taken));
}))
wronged words NoBlock (inr all) = inr (inr (record {
  verb = verbs.Names;
  more = all.0;
  is = all.1.0;
  are = inr (all.1.1, λ taken. let none = all.2 in omega (arith, none, taken));
}))
wronged words (Signature word) all = inr (inr (record {
  verb = verbs.Template;
  more = all.0;
  is = all.1.0;
  are = inr (all.1.1, λ taken. let same : word.now ≡ taken.0 = cc (all.2, taken.1) in all.3 (ap length same ∙ taken.2));
}))
wronged words NoText all =
    inr (inr (record { verb = verbs.Make; more = all.0; is = all.1.0; are = inr (all.1.1, λ taken. cc (all.2, taken.2)) }))
wronged words NoTable (inl all) = inr (inr (record {
  verb = verbs.Make;
  more = all.0;
  is = all.1.0;
  are = inr (all.1.1, λ taken. let one = all.2 in let two = ap length taken.2 in omega (arith, one, two));
}))
wronged words NoTable (inr all) = inr (inr (record {
  verb = verbs.Repair;
  more = all.0;
  is = all.1.0;
  are = inr (all.1.1, λ taken. let one = all.2 in let two = ap length taken.2 in omega (arith, one, two));
}))
wronged words NoPacked is =
    inr (inr (record { verb = verbs.Unpack; more = []; is = is; are = inr (refl, λ taken. cc (taken.3.1)) }))
wronged words NoFolder (inl all) =
    inr (inr (record { verb = verbs.Unpack; more = all.0; is = all.1.0; are = inr (all.1.1, λ taken. only_file all.0 all.2 taken.0 taken.1 taken.2 taken.3) }))
wronged words NoFolder (inr all) = inr (inr (record {
  verb = verbs.Loader;
  more = all.0;
  is = all.1.0;
  are = inr (all.1.1, λ taken. let one = all.2 in let two = ap length taken.2 in omega (arith, one, two));
}))
wronged words NoTables (inl is) =
    inr (inr (record { verb = verbs.Cpio; more = []; is = is; are = inr (refl, λ taken. cc (taken.2)) }))
wronged words NoTables (inr (inr is)) =
    inr (inr (record { verb = verbs.Loader; more = []; is = is; are = inr (refl, λ taken. cc (taken.2)) }))
wronged words NoTables (inr (inl left)) = inr (inr (few_laid words 0 (omega arith) left))
wronged words NoImageFile left = inr (inr (few_laid words 1 (omega arith) left))
wronged words NoBase left = inr (inr (few_laid words 2 (omega arith) left))
wronged words NoPointer all = inr (inr (record {
  verb = verbs.Lay;
  more = all.0;
  is = all.1.0;
  are = inr (all.1.1, λ taken. no_pointer all.0 taken.1 taken.0 all.2 all.3 taken.5);
}))
wronged words NoDamaged is =
    inr (inr (record { verb = verbs.Repair; more = []; is = is; are = inr (refl, λ taken. cc (taken.2)) }))
wronged words NoFirst is =
    inr (inr (record { verb = verbs.Diff; more = []; is = is; are = inr (refl, λ taken. cc (taken.2)) }))
wronged words NoSecond all = inr (inr (record {
  verb = verbs.Diff;
  more = all.0;
  is = all.1.0;
  are = inr (all.1.1, λ taken. let one = all.2 in let two = ap length taken.2 in omega (arith, one, two));
}))
wronged words NoDrawing all = inr (inr (record {
  verb = verbs.Tree;
  more = all.0;
  is = all.1.0;
  are = inr (all.1.1, λ taken. let none = all.2 in let some = ap length taken.1 in omega (arith, none, some));
}))
wronged words NoArchive all = inr (inr (record {
  verb = verbs.Cpio;
  more = all.0;
  is = all.1.0;
  are = inr (all.1.1, λ taken. let one = all.2 in let two = ap length taken.2 in omega (arith, one, two));
}))
wronged words (Base word) (inl one) = inr (inr (record {
  verb = verbs.Image;
  more = one.more;
  is = one.after.0;
  are = inr (one.after.1, λ taken. no_base (after_option verbs.Image one.more) one.file word.now taken.0 taken.1 one.is one.not taken.2);
}))
wronged words (Base word) (inr (inl one)) = inr (inr (no_unpack_base words word.now one))
wronged words (Base word) (inr (inr (inl one))) = inr (inr (no_lay_base words word.now one))
wronged words (Base word) (inr (inr (inr one))) = inr (inr (no_rsdp words word.now one))
wronged words (Number word) none = absurd none
wronged words Twice none = absurd none

-- ---- both

is_command : (words : List (List ℕ)) (word : List ℕ) (verb : Verb) → IsNoCommand words word → word ≡ word_of verb → ⊥
is_command words word verbs.Show none is = none.no_show is
is_command words word verbs.Check none is = none.no_check is
is_command words word verbs.Image none is = none.no_image is
is_command words word verbs.Make none is = none.no_make is
is_command words word verbs.Template none is = none.no_template is
is_command words word verbs.Disassemble none is = none.no_disassemble is
is_command words word verbs.Names none is = none.no_names is
is_command words word verbs.Unpack none is = none.no_unpack is
is_command words word verbs.Cpio none is = none.no_cpio is
is_command words word verbs.Lay none is = none.no_lay is
is_command words word verbs.Loader none is = none.no_loader is
is_command words word verbs.Repair none is = none.no_repair is
is_command words word verbs.Diff none is = none.no_diff is
is_command words word verbs.Tree none is = none.no_tree is

no_help_first : (words : List (List ℕ)) (word first : List ℕ) → IsNoCommand words word → IsHelp first ⊎ (first ≡ codes "help")
    → word ≡ first → ⊥
no_help_first words word first none (inl (inl is)) same = none.no_help (same ∙ is)
no_help_first words word first none (inl (inr is)) same = none.no_short_help (same ∙ is)
no_help_first words word first none (inr is) same = none.no_help_word (same ∙ is)

no_words : (words : List (List ℕ)) (a : List ℕ) (x : List (List ℕ)) → words ≡ [] → words ≡ a ∷ x → ⊥
no_words words a x none some = cc

contradict : (words : List (List ℕ)) → Wronged words → Asked words → ⊥
contradict words (inl is) (inl help) = no_words words _ _ is help.is
contradict words (inl is) (inr (inl version)) = no_words words _ _ is version.1
contradict words (inl is) (inr (inr one)) = no_words words _ _ is one.is
contradict words (inr (inl none)) (inl help) =
    no_help_first words none.0 help.word none.1 help.asks (heads words _ _ _ _ none.1.is help.is)
contradict words (inr (inl none)) (inr (inl version)) = none.1.no_version (heads words _ _ _ _ none.1.is version.1)
contradict words (inr (inl none)) (inr (inr one)) = is_command words none.0 one.verb none.1 (heads words _ _ _ _ none.1.is one.is)
contradict words (inr (inr two)) (inl help) = no_help two.verb help.word help.asks (heads words _ _ _ _ two.is help.is)
contradict words (inr (inr two)) (inr (inl version)) = no_version two.verb (heads words _ _ _ _ two.is version.1)
contradict words (inr (inr two)) (inr (inr one)) = clash words one two

pub wrong_ask_for_nothing : WrongAskForNothing
wrong_ask_for_nothing words wrong command is asks = contradict words (wronged words wrong is) (asked words command asks)
