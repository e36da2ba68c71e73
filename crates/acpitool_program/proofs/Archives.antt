-- The tables of a folder's files.
use Rattle.std.proofs.Common.{◌≡◌, ℕ, zero, suc, ◌-◌, ◌≤◌, ◌<◌, ◌==◌, ◌||◌, ◌⊎◌, Bool, true, false, if◌then◌else◌, List, [], ◌∷◌, ◌++◌, ◌+◌, Option, Some, None, length, take, drop, map, get_or, refl, sym, ap, subst, ◌∙◌, append_assoc, arith, inl, inr}
use Rattle.std.proofs.lemmas.Bool.{eq-eqb}
use Rattle.std.proofs.lemmas.List.{append-nil, at_drop_more, map-append, map_more, take-append-drop}
use Rattle.std.specs.Io.KnownBytes.{Keeps}
use Rattle.std.specs.Option.{option_map, option_to_list}
use Rattle.acpi_cpio.specs.Archive.{tables_archive}
use Rattle.acpitool_program.specs.Archiving.{name_of, IsRead, AreRead, IsRefused, AreRefused, DontFit, ArchivesFiles}
use Rattle.acpitool_program.specs.Making.{Saved, NotSaved, IsWritten}
use Rattle.acpitool_program.proofs.Streams.{keeps_self, keeps_kept, keeps_then}
use Rattle.acpitool_program.specs.Command.{has}

or_true : (b : Bool) → (b || true) ≡ true
or_true true = refl
or_true false = refl

has_at : (l : List ℕ) (n : ℕ) → n < length l → get_or l n 0 ≡ 47 → has 47 l ≡ true
has_at [] n inside is = absurd (omega (arith, inside))
has_at (c ∷ l) zero inside is = ap (λ (b : Bool). b || has 47 l) (eq-eqb c 47 is)
has_at (c ∷ l) (suc n) inside is = ap (λ (b : Bool). (c == 47) || b) (has_at l n (omega (arith, inside)) is) ∙ or_true (c == 47)

-- what follows a slash and has none
pub name_here : (path : List ℕ) (start : ℕ) → start ≤ length path → has 47 (drop start path) ≡ false
    → (start ≡ 0) ⊎ (get_or path (start - 1) 0 ≡ 47) → name_of path ≡ drop start path
name_here [] zero within none slash = refl
name_here [] (suc n) within none slash = absurd (omega (arith, within))
name_here (c ∷ path) zero within none slash = ap (λ (b : Bool). if b then name_of path else c ∷ path) none
name_here (c ∷ path) (suc n) within none (inl is) = absurd (omega (arith, is))
name_here (c ∷ path) (suc zero) within none (inr is) =
    let here : 0 ≡ suc zero - 1 = omega arith in
    let slash : get_or (c ∷ path) 0 0 ≡ 47 = ap (λ (k : ℕ). get_or (c ∷ path) k 0) here ∙ is in
    let some : has 47 (c ∷ path) ≡ true = has_at (c ∷ path) 0 (omega arith) slash in
    ap (λ (b : Bool). if b then name_of path else c ∷ path) some ∙ name_here path 0 (omega arith) none (inl refl)
name_here (c ∷ path) (suc (suc n)) within none (inr is) =
    let here : suc n ≡ suc (suc n) - 1 = omega arith in
    let slash : get_or (c ∷ path) (suc n) 0 ≡ 47 = ap (λ (k : ℕ). get_or (c ∷ path) k 0) here ∙ is in
    let before : n ≡ suc n - 1 = omega arith in
    let some : has 47 (c ∷ path) ≡ true = has_at (c ∷ path) (suc n) (omega (arith, within)) slash in
    ap (λ (b : Bool). if b then name_of path else c ∷ path) some
    ∙ name_here path (suc n) (omega (arith, within)) none (inr (ap (λ (k : ℕ). get_or path k 0) (sym before) ∙ slash))

-- a file that is read after nothing was printed
read_then : (path : List ℕ) (found : Option (List ℕ × List ℕ)) (a b c : Option (List ℕ)) → Keeps a b → IsRead path found b c → IsRead path found a c
read_then path (Some table) a b c kept (bytes, one) =
    (bytes, record { taken = one.taken; are = one.are; is = one.is; silent = keeps_kept a b c kept one.silent })
read_then path None a b c kept (bytes, one) = (bytes, record { left_out = one.left_out; told = keeps_then a b c _ kept one.told })

-- one more file
are_more : (paths : List (List ℕ)) (tables : List (List ℕ × List ℕ)) (path : List ℕ) (found : Option (List ℕ × List ℕ))
    (a b c : Option (List ℕ)) → AreRead paths tables a b → IsRead path found b c
    → AreRead (paths ++ path ∷ []) (tables ++ option_to_list found) a c
are_more [] tables path found a b c are one = record {
  first = found;
  rest = [];
  between = c;
  one = read_then path found a b c are.1 one;
  others = (refl, keeps_self c);
  are = ap (λ l. l ++ option_to_list found) are.0 ∙ sym (append-nil (option_to_list found));
}
are_more (p ∷ paths) tables path found a b c are one = record {
  first = are.first;
  rest = are.rest ++ option_to_list found;
  between = are.between;
  one = are.one;
  others = are_more paths are.rest path found are.between b c are.others one;
  are = ap (λ l. l ++ option_to_list found) are.are ∙ append_assoc (option_to_list are.first) are.rest (option_to_list found);
}

map_listed : {X Y : Type 0} (g : X → Y) (found : Option X) → map g (option_to_list found) ≡ option_to_list (option_map g found)
map_listed g (Some x) = refl
map_listed g None = refl

module _ {X Y : Type 0} (f : X → List ℕ) (g : Y → List ℕ × List ℕ) (paths : List X) (i : ℕ) (x : X) (inside : i < length paths)
    (is : x ≡ get_or paths i x) where
  pub file_then : (tables more : List Y) (found : Option Y) (a b c : Option (List ℕ)) → more ≡ tables ++ option_to_list found
      → AreRead (map f (take i paths)) (map g tables) a b → IsRead (f x) (option_map g found) b c → AreRead (map f (take (i + 1) paths)) (map g more) a c
  file_then tables more found a b c grown are one =
      let front : map f (take (i + 1) paths) ≡ map f (take i paths) ++ f x ∷ []
      = map_more f paths i x inside ∙ ap (λ (y : X). map f (take i paths) ++ f y ∷ []) (sym is) in
      let all : map g more ≡ map g tables ++ option_to_list (option_map g found) =
      ap (map g) grown ∙ map-append g tables (option_to_list found) ∙ ap (λ l. map g tables ++ l) (map_listed g found) in
      let P : List (List ℕ) → Type 0 = λ l. AreRead l (map g more) a c in
      let Q : List (List ℕ × List ℕ) → Type 0 = λ l. AreRead (map f (take i paths) ++ f x ∷ []) l a c in
      subst P (sym front) (subst Q (sym all) (are_more (map f (take i paths)) (map g tables) (f x) (option_map g found) a b c are one))

  pub refused_here : (tables : List Y) (a b c : Option (List ℕ)) (status : ℕ) → AreRead (map f (take i paths)) (map g tables) a b
      → IsRefused (f x) b c status → AreRefused (map f paths) a c status
  refused_here tables a b c status are one = record {
    before = map f (take i paths);
    tables = map g tables;
    path = f x;
    after = map f (drop (i + 1) paths);
    between = b;
    are =
        ap (map f) (sym (take-append-drop i paths))
        ∙ map-append f (take i paths) (drop i paths)
        ∙ ap (λ l. map f (take i paths) ++ l) (at_drop_more (map f) paths i x inside
        ∙ ap (λ (y : X). f y ∷ map f (drop (i + 1) paths)) (sym is));
    fine = are;
    refused = one;
  }

-- ---- the archive

pub written_as : (a b file : List ℕ) (o o' e e' : Option (List ℕ)) (status : ℕ) → a ≡ b → IsWritten a file o o' e e' status
    → IsWritten b file o o' e e' status
written_as a b file o o' e e' status same written = subst (λ (l : List ℕ). IsWritten l file o o' e e' status) same written

pub saved_then : (a b c : Option (List ℕ)) (status : ℕ) → Keeps a b → Saved b c status → Saved a c status
saved_then a b c status kept one = record { silent = keeps_kept a b c kept one.silent; is = one.is }

pub not_saved_then : (file : List ℕ) (a b c : Option (List ℕ)) (status : ℕ) → Keeps a b → NotSaved file b c status → NotSaved file a c status
not_saved_then file a b c status kept one =
    record { why = one.why; complained = keeps_then a b c _ kept one.complained; is = one.is }

pub archived_then : (paths : List (List ℕ)) (tables : List (List ℕ × List ℕ)) (file : List ℕ) (o o' a b c : Option (List ℕ)) (status : ℕ)
    → AreRead paths tables a b → IsWritten (tables_archive tables) file o o' b c status ⊎ DontFit tables file o o' b c status
    → ArchivesFiles paths file o o' a c status
archived_then paths tables file o o' a b c status read written =
    inl (record { tables = tables; between = b; are = read; written = written })
