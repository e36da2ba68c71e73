-- The image of a folder's files.
use Rattle.std.proofs.Common.{◌≡◌, ◌⊎◌, ℕ, ◌<◌, Bool, true, false, List, [], ◌∷◌, ◌++◌, ◌+◌, Option, None, Some, length, take, drop, map, get_or, sym, ap, subst, ◌∙◌, inl, inr, Result, Ok, Err, MatchResult}
use Rattle.std.proofs.lemmas.List.{at_drop_more, map-append, map_more, take-append-drop}
use Rattle.std.specs.Io.KnownBytes.{Keeps, Appends}
use Rattle.acpi_compile.specs.Compiled.{is_asl}
use Rattle.acpi_layout.specs.Files.{IsLaid}
use Rattle.acpi_layout.specs.declared.layout.Image.{Image}
use Rattle.acpi_layout.specs.declared.located.Located.{Located}
use Rattle.acpi_make.specs.declared.extent.Own.{Own}
use Rattle.acpitool_program.proofs.Archives.{saved_then, not_saved_then}
use Rattle.acpitool_program.proofs.Streams.{keeps_kept, keeps_then, appends_nothing}
use Rattle.acpitool_program.specs.Compiling.{BlockPasses, HeldBlock, NotCompiled}
use Rattle.acpitool_program.specs.Image.{IsFoundImage}
use Rattle.acpitool_program.specs.Laying.{is_text, IsTableOfFields, IsTableBy, IsTableOf, OfTextOrNot, AreOfText, MayBeLaid, IsFile, IsNoFile, IsUnmade}
use Rattle.acpitool_program.specs.Laying.{AreFiles, IsRefused, IsMisread, IsNotFound, HaveNoneLaid, IsNotLaid, IsFoundOf, IsImageOf}
use Rattle.acpitool_program.specs.Laying.{IsSavedTo, IsSaved, IsLaidOut}
use Rattle.acpitool_program.specs.Making.{IsChecked, IsJudged, MadeText, Held, NotMade}
use Rattle.acpitool_program.specs.Noted.{AreNotes}
use Rattle.acpitool_program.specs.Outcome.{fault_line}
use Rattle.acpitool_program.specs.Structures.{IsSoundOr}
use Rattle.acpitool_program.specs.declared.fault.Fault.{Fault}

-- ---- files

unforced : (owns : List Own) (fault : Option Fault) → (false ≡ true) ⊎ ((owns ≡ []) × (fault ≡ None)) → (owns ≡ []) × (fault ≡ None)
unforced owns fault (inl is) = absurd (cc (is))
unforced owns fault (inr are) = are

-- nothing was printed of a table that is to be written without force
quietly : (path : List ℕ) (owns : List Own) (bytes : List ℕ) (a b : Option (List ℕ)) → IsJudged false path owns bytes a b true
    → Keeps a b × (owns ≡ []) × IsSoundOr bytes None
quietly path owns bytes a b judged =
    let are = unforced owns judged.fault judged.right in
    let Q : List Own → Type 0 = λ l. IsChecked l bytes judged.fault in
    let R : Option Fault → Type 0 = λ f. IsSoundOr bytes f in
    let S : List Own → Type 0 = λ l. AreNotes path bytes l judged.noted.text in
    let T : Option Fault → Type 0 = λ f. Appends a b (judged.noted.text ++ fault_line path f) in
    let U : List ℕ → Type 0 = λ l. Appends a b (l ++ []) in
    let told = subst S are.0 judged.noted.are in
    (appends_nothing a b (subst U told (subst T are.1 judged.noted.printed)), are.0, subst R are.1 (subst Q are.0 judged.checked))

made_then : (path text bytes : List ℕ) (a b : Option (List ℕ)) → MadeText false path text bytes a b → IsTableOfFields text bytes × Keeps a b
made_then path text bytes a b one =
    let all = quietly path one.made.untrue.items one.made.bytes.items a b one.judged in
    let P : List ℕ → Type 0 = λ l. IsSoundOr l None in
    (record { made = one.made; is = one.is; same = one.same; right = all.1; sound = subst P one.same all.2 }, all.0)

-- so it is with a block
undoubted : (path text : List ℕ) (a b : Option (List ℕ)) → BlockPasses false path text a b → Keeps a b
undoubted path text a b (inl kept) = kept
undoubted path text a b (inr forced) = absurd (cc (forced.0))

-- the same of a text that is ASL or not
table_by : (asl : Bool) (path text bytes : List ℕ) (a b : Option (List ℕ)) → OfTextOrNot asl path text (Some bytes) a b
    → IsTableBy asl text bytes × Keeps a b
table_by true path text bytes a b one = (one.0, undoubted path text a b one.1)
table_by false path text bytes a b one = made_then path text bytes a b one

pub table_then : (path text bytes : List ℕ) (a b : Option (List ℕ)) → OfTextOrNot (is_asl text) path text (Some bytes) a b
    → IsTableOf text bytes × Keeps a b
table_then path text bytes a b one = let both = table_by (is_asl text) path text bytes a b one in (record { by = both.0 }, both.1)

-- a file of its own bytes, and that of a text's table
pub plain_file : {Y : Type 0} (g : Y → List ℕ) (path : List ℕ) (bytes : Y) (found : Result Y ℕ) (a b : Option (List ℕ)) → is_text path ≡ false
    → MatchResult found (λ file. (file ≡ bytes) × MayBeLaid (g file) × Keeps a b) (λ status. IsNoFile path (g bytes) a b status)
    → MatchResult found (λ file. IsFile path (g file) × Keeps a b) (λ status. IsRefused path a b status)
plain_file g path bytes (Ok file) a b plain read =
    let P : Bool → Type 0 = λ t. AreOfText t (g file) in
    (record { of = subst P (sym plain) tt; may_be = read.1 }, read.2)
plain_file g path bytes (Err status) a b plain not = inl (g bytes, not)

pub text_file : {Y : Type 0} (g : Y → List ℕ) (path text : List ℕ) (table : Y) (found : Result Y ℕ) (a b c : Option (List ℕ)) → is_text path ≡ true
    → IsTableOf text (g table) × Keeps a b
    → MatchResult found (λ file. (file ≡ table) × MayBeLaid (g file) × Keeps b c) (λ status. IsNoFile path (g table) b c status)
    → MatchResult found (λ file. IsFile path (g file) × Keeps a c) (λ status. IsRefused path a c status)
text_file g path text table (Ok file) a b c textual made read =
    let P : Bool → Type 0 = λ t. AreOfText t (g file) in
    let Q : List ℕ → Type 0 = λ l. IsTableOf text l in
    (record { of = subst P (sym textual) (text, subst Q (ap g (sym read.0)) made.0); may_be = read.1 }, keeps_kept a b c made.1 read.2)
text_file g path text table (Err status) a b c textual made not = inl (
  g table,
  record { fault = not.fault; cause = not.cause; complained = keeps_then a b c _ made.1 not.complained; is = not.is },
)

-- one more file
are_more : (paths files : List (List ℕ)) (path file : List ℕ) → AreFiles paths files → IsFile path file
    → AreFiles (paths ++ path ∷ []) (files ++ file ∷ [])
are_more [] [] path file are one = (one, tt)
are_more [] (x ∷ files) path file are one = absurd are
are_more (p ∷ paths) [] path file are one = absurd are
are_more (p ∷ paths) (x ∷ files) path file are one = (are.0, are_more paths files path file are.1 one)

-- a text that has no table, after others
held_then : (path text : List ℕ) (a b c : Option (List ℕ)) → Keeps a b → Held false path text b c → Held false path text a c
held_then path text a b c kept not = record {
  made = not.made;
  is = not.is;
  judged = record {
    fault = not.judged.fault;
    checked = not.judged.checked;
    wrong = not.judged.wrong;
    no_force = not.judged.no_force;
    between = not.judged.between;
    noted = record {
      text = not.judged.noted.text;
      are = not.judged.noted.are;
      printed = keeps_then a b not.judged.between _ kept not.judged.noted.printed;
    };
    held = not.judged.held;
  };
}

unmade_fields : (path text : List ℕ) (a b c : Option (List ℕ)) → Keeps a b → Held false path text b c ⊎ NotMade path text b c
    → Held false path text a c ⊎ NotMade path text a c
unmade_fields path text a b c kept (inl not) = inl (held_then path text a b c kept not)
unmade_fields path text a b c kept (inr not) =
    inr (record { wrong = not.wrong; is = not.is; complained = keeps_then a b c _ kept not.complained })

unmade_block : (path text : List ℕ) (a b c : Option (List ℕ)) → Keeps a b
    → HeldBlock false path text b c ⊎ NotCompiled path text b c → HeldBlock false path text a c ⊎ NotCompiled path text a c
unmade_block path text a b c kept (inl not) = inl (record {
  bytes = not.bytes;
  compiled = not.compiled;
  judged = record {
    no_force = not.judged.no_force;
    between = not.judged.between;
    doubted = record {
      doubts = not.judged.doubted.doubts;
      some = not.judged.doubted.some;
      told = keeps_then a b not.judged.between _ kept not.judged.doubted.told;
    };
    held = not.judged.held;
  };
})
unmade_block path text a b c kept (inr not) =
    inr (record { at = not.at; why = not.why; complained = keeps_then a b c _ kept not.complained })

unmade_by : (asl : Bool) (path text : List ℕ) (a b c : Option (List ℕ)) → Keeps a b → OfTextOrNot asl path text None b c
    → OfTextOrNot asl path text None a c
unmade_by true path text a b c kept not = unmade_block path text a b c kept not
unmade_by false path text a b c kept not = unmade_fields path text a b c kept not

unmade_then : (path : List ℕ) (a b c : Option (List ℕ)) (status : ℕ) → Keeps a b → IsUnmade path b c status → IsUnmade path a c status
unmade_then path a b c status kept one =
    record { text = one.text; not = unmade_by (is_asl one.text) path one.text a b c kept one.not; is = one.is }

-- a file that is refused after others
refused_then : (path : List ℕ) (a b c : Option (List ℕ)) (status : ℕ) → Keeps a b → IsRefused path b c status → IsRefused path a c status
refused_then path a b c status kept (inl (bytes, none)) =
    inl (bytes, record { fault = none.fault; cause = none.cause; complained = keeps_then a b c _ kept none.complained; is = none.is })
refused_then path a b c status kept (inr (inl unread)) =
    inr (inl (record { why = unread.why; complained = keeps_then a b c _ kept unread.complained; is = unread.is }))
refused_then path a b c status kept (inr (inr (text, not))) = inr (inr (text, unmade_then path a b c status kept not))

module _ {X Y : Type 0} (f : X → List ℕ) (g : Y → List ℕ) (paths : List X) (i : ℕ) (x : X) (inside : i < length paths)
    (is : x ≡ get_or paths i x) where
  pub file_then : (files : List Y) (more : List Y) (file : Y) → more ≡ files ++ file ∷ [] → AreFiles (map f (take i paths)) (map g files)
      → IsFile (f x) (g file) → AreFiles (map f (take (i + 1) paths)) (map g more)
  file_then files more file grown are one =
      let front : map f (take (i + 1) paths) ≡ map f (take i paths) ++ f x ∷ []
      = map_more f paths i x inside ∙ ap (λ (y : X). map f (take i paths) ++ f y ∷ []) (sym is) in
      let all : map g more ≡ map g files ++ g file ∷ [] = ap (map g) grown ∙ map-append g files (file ∷ []) in
      let P : List (List ℕ) → Type 0 = λ l. AreFiles l (map g more) in
      let Q : List (List ℕ) → Type 0 = λ l. AreFiles (map f (take i paths) ++ f x ∷ []) l in
      subst P (sym front) (subst Q (sym all) (are_more (map f (take i paths)) (map g files) (f x) (g file) are one))

  pub misread_here : (files : List Y) (a b c : Option (List ℕ)) (status : ℕ) → AreFiles (map f (take i paths)) (map g files) → Keeps a b
      → IsRefused (f x) b c status → IsMisread (map f paths) a c status
  misread_here files a b c status are kept one = record {
    before = map f (take i paths);
    files = map g files;
    path = f x;
    after = map f (drop (i + 1) paths);
    are =
        ap (map f) (sym (take-append-drop i paths))
        ∙ map-append f (take i paths) (drop i paths)
        ∙ ap (λ l. map f (take i paths) ++ l) (at_drop_more (map f) paths i x inside
        ∙ ap (λ (y : X). f y ∷ map f (drop (i + 1) paths)) (sym is));
    fine = are;
    refused = refused_then (f x) a b c status kept one;
  }

-- ---- the image

-- what was laid, and what came of looking for its tables
pub found_then : (folder file : List ℕ) (base : ℕ) (paths files : List (List ℕ)) (image : Image) (found : Result Image ℕ)
    (e e' : Option (List ℕ)) → IsLaid base files image
    → MatchResult found (λ same. (same ≡ image) × ((tables : List Located) × IsFoundImage base image.bytes.items tables) × Keeps e e')
    (λ status. IsNotFound file base image.bytes.items e e' status)
    → MatchResult found (λ i. IsFoundOf base files i × Keeps e e') (λ status. HaveNoneLaid folder file base paths files e e' status)
found_then folder file base paths files image (Ok same) e e' laid found =
    let P : Image → Type 0 = λ i. IsFoundOf base files i in
    let this : P image = record { laid = laid; tables = found.1.0; found = found.1.1 } in
    (subst P (sym found.0) this, found.2)
found_then folder file base paths files image (Err status) e e' laid not = inr (image, laid, not)

none_then : (folder file : List ℕ) (base : ℕ) (paths files : List (List ℕ)) (a b c : Option (List ℕ)) (status : ℕ) → Keeps a b
    → HaveNoneLaid folder file base paths files b c status → HaveNoneLaid folder file base paths files a c status
none_then folder file base paths files a b c status kept (inl not) = inl (record {
  fault = not.fault;
  no_memory = not.no_memory;
  cause = not.cause;
  complained = keeps_then a b c _ kept not.complained;
  is = not.is;
})
none_then folder file base paths files a b c status kept (inr (image, laid, not)) = inr (
  image,
  laid,
  record { fault = not.fault; cause = not.cause; complained = keeps_then a b c _ kept not.complained; is = not.is },
)

-- what was read, and what came of laying it
pub laid_then : (folder file : List ℕ) (base : ℕ) (paths files : List (List ℕ)) (found : Result Image ℕ) (a b c : Option (List ℕ))
    → AreFiles paths files × Keeps a b
    → MatchResult found (λ i. IsFoundOf base files i × Keeps b c) (λ status. HaveNoneLaid folder file base paths files b c status)
    → MatchResult found (λ i. IsImageOf base paths i × Keeps a c) (λ status. IsNotLaid folder file base paths a c status)
laid_then folder file base paths files (Ok image) a b c read found = ((files, read.0, found.0), keeps_kept a b c read.1 found.1)
laid_then folder file base paths files (Err status) a b c read not =
    inr (inr (record { files = files; are = read.0; cause = none_then folder file base paths files a b c status read.1 not }))

saved_to_then : (image : Image) (file : List ℕ) (o o' a b c : Option (List ℕ)) (status : ℕ) → Keeps a b
    → IsSavedTo image file o o' b c status → IsSavedTo image file o o' a c status
saved_to_then image file o o' a b c status kept (inl saved) = inl (saved.0, saved_then a b c status kept saved.1)
saved_to_then image file o o' a b c status kept (inr not) = inr (not.0, not_saved_then file a b c status kept not.1)

image_saved_then : (image : Image) (file : List ℕ) (o o' a b c : Option (List ℕ)) (status : ℕ) → Keeps a b
    → IsSaved image file o o' b c status → IsSaved image file o o' a c status
image_saved_then image file o o' a b c status kept (inl out) = inl (out.0, out.1, keeps_then a b c _ kept out.2, out.3)
image_saved_then image file o o' a b c status kept (inr other) = inr (other.0, saved_to_then image file o o' a b c status kept other.1)

-- what was laid, and what came of writing it
pub written_out : (image : Image) (file : List ℕ) (base : ℕ) (o o' a b c : Option (List ℕ)) (status : ℕ)
    → ((paths : List (List ℕ)) × IsImageOf base paths image) × Keeps a b → IsSaved image file o o' b c status
    → IsLaidOut file base o o' a c status
written_out image file base o o' a b c status laid saved =
    record { paths = laid.0.0; image = image; of = laid.0.1; saved = image_saved_then image file o o' a b c status laid.1 saved }
