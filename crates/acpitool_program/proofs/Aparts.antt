-- The image of a folder's files, with the RSDP at an address of its own.
use Rattle.std.proofs.Common.{◌≡◌, ◌≢◌, ℕ, List, [], ◌∷◌, Option, Some, None, map, take, drop, sym, ap, subst, ◌∙◌, inl, inr, Result, Ok, Err}
use Rattle.std.proofs.Common.{MatchResult, IfOk, IfErr}
use Rattle.std.specs.Io.KnownBytes.{Keeps}
use Rattle.acpi_layout.specs.Addresses.{part, part_of, memory_of}
use Rattle.acpi_layout.specs.Fault.{HasFault}
use Rattle.acpi_layout.specs.Files.{IsLaid}
use Rattle.acpi_layout.specs.Found.{HasTables}
use Rattle.acpi_layout.specs.declared.fault.ImageFault.{ImageFault}
use Rattle.acpi_layout.specs.declared.fault.ImageFault.TheVariants.{Memory}
use Rattle.acpi_layout.specs.declared.layout.Image.{Image}
use Rattle.acpi_layout.specs.declared.located.Located.{Located}
use Rattle.acpi_layout.specs.declared.range.Range.{Range}
use Rattle.acpitool_program.proofs.Archives.{saved_then, not_saved_then}
use Rattle.acpitool_program.proofs.Kept.{laid_kept}
use Rattle.acpitool_program.proofs.Streams.{keeps_kept, keeps_then, appends_kept}
use Rattle.acpitool_program.specs.Apart.{pointer_at, tables_of, pointer_of, pointer_file, AreApart, AreFoundApart, AreNotFoundApart, IsSoundApart, IsNoApart, HaveNoneApart, IsApartOf}
use Rattle.acpitool_program.specs.Apart.{IsNotLaidApart, AreSaved, IsLaidApart, LaysApart}
use Rattle.acpitool_program.specs.Laying.{AreFiles}
use Rattle.acpitool_program.specs.Program.{Lays}

-- ---- the tables and the RSDP in memory

pub apart_is : (base rsdp n : ℕ) (bytes front back : List ℕ) (ranges : List Range) → n ≡ pointer_at bytes → front ≡ take n bytes
    → back ≡ drop n bytes → map part_of ranges ≡ part base front ∷ part rsdp back ∷ [] → AreApart base rsdp bytes ranges
apart_is base rsdp n bytes front back ranges at before after are =
    let first : front ≡ tables_of bytes = before ∙ ap (λ (k : ℕ). take k bytes) at in
    let second : back ≡ pointer_of bytes = after ∙ ap (λ (k : ℕ). drop k bytes) at in
    are ∙ ap (λ (l : List ℕ). part base l ∷ part rsdp back ∷ []) first
    ∙ ap (λ (l : List ℕ). part base (tables_of bytes) ∷ part rsdp l ∷ []) second

pub as_found : {Y E : Type 0} (g : Y → List Located) (base rsdp : ℕ) (bytes : List ℕ) (ranges : List Range) → AreApart base rsdp bytes ranges
    → (found : Result Y E) → IfOk found (λ tables. HasTables (memory_of ranges) rsdp (g tables))
    → IfOk found (λ tables. AreFoundApart base rsdp bytes (g tables))
as_found g base rsdp bytes ranges are (Ok tables) has = record { ranges = ranges; are = are; found = has }
as_found g base rsdp bytes ranges are (Err e) has = tt

pub as_not_found : {Y : Type 0} (base rsdp : ℕ) (bytes : List ℕ) (ranges : List Range) → AreApart base rsdp bytes ranges
    → (found : Result Y ImageFault) → IfErr found (λ e. e ≢ Memory → HasFault (memory_of ranges) rsdp e)
    → IfErr found (λ e. e ≢ Memory → AreNotFoundApart base rsdp bytes e)
as_not_found base rsdp bytes ranges are (Ok tables) has = tt
as_not_found base rsdp bytes ranges are (Err e) has = λ other. record { ranges = ranges; are = are; cause = has other }

-- ---- the image

-- what was laid, and what came of looking for its tables
pub found_apart : (folder file : List ℕ) (base rsdp : ℕ) (paths files : List (List ℕ)) (image : Image) (found : Result Image ℕ)
    (e e' : Option (List ℕ)) → IsLaid base files image
    → MatchResult found (λ same. (same ≡ image) × IsSoundApart base rsdp image.bytes.items × Keeps e e')
    (λ status. IsNoApart file base rsdp image.bytes.items e e' status)
    → MatchResult found (λ i. IsLaid base files i × IsSoundApart base rsdp i.bytes.items × Keeps e e')
    (λ status. HaveNoneApart folder file base rsdp paths files e e' status)
found_apart folder file base rsdp paths files image (Ok same) e e' laid found =
    let P : Image → Type 0 = λ i. IsLaid base files i × IsSoundApart base rsdp i.bytes.items in
    let this : P image = (laid, found.1) in
    let there : P same = subst P (sym found.0) this in
    (there.0, there.1, found.2)
found_apart folder file base rsdp paths files image (Err status) e e' laid not = inr (image, laid, not)

none_then : (folder file : List ℕ) (base rsdp : ℕ) (paths files : List (List ℕ)) (a b c : Option (List ℕ)) (status : ℕ) → Keeps a b
    → HaveNoneApart folder file base rsdp paths files b c status → HaveNoneApart folder file base rsdp paths files a c status
none_then folder file base rsdp paths files a b c status kept (inl not) = inl (record {
  fault = not.fault;
  no_memory = not.no_memory;
  cause = not.cause;
  complained = keeps_then a b c _ kept not.complained;
  is = not.is;
})
none_then folder file base rsdp paths files a b c status kept (inr (image, laid, inl not)) = inr (
  image,
  laid,
  inl (record { fault = not.fault; cause = not.cause; complained = keeps_then a b c _ kept not.complained; is = not.is }),
)
none_then folder file base rsdp paths files a b c status kept (inr (image, laid, inr not)) = inr (
  image,
  laid,
  inr (record {
    fault = not.fault;
    no_memory = not.no_memory;
    cause = not.cause;
    complained = keeps_then a b c _ kept not.complained;
    is = not.is;
  }),
)

-- what was read, and what came of laying it
pub laid_apart : (folder file pointer : List ℕ) (base rsdp : ℕ) (paths files : List (List ℕ)) (found : Result Image ℕ)
    (a b c : Option (List ℕ)) → AreFiles paths files × Keeps a b
    → MatchResult found (λ i. IsLaid base files i × IsSoundApart base rsdp i.bytes.items × Keeps b c)
    (λ status. HaveNoneApart folder file base rsdp paths files b c status)
    → MatchResult found (λ i. IsApartOf base rsdp paths i × Keeps a c)
    (λ status. IsNotLaidApart folder file pointer base rsdp paths a c status)
laid_apart folder file pointer base rsdp paths files (Ok image) a b c read found =
    (record { files = files; are = read.0; laid = found.0; sound = found.1 }, keeps_kept a b c read.1 found.2)
laid_apart folder file pointer base rsdp paths files (Err status) a b c read not = inr (inr (inr (record {
  files = files;
  are = read.0;
  cause = none_then folder file base rsdp paths files a b c status read.1 not;
})))

-- ---- two files

both_then : (file tables path pointer : List ℕ) (rsdp : ℕ) (o o' a b c : Option (List ℕ)) (status : ℕ) → Keeps a b
    → AreSaved file tables path pointer rsdp o o' b c status → AreSaved file tables path pointer rsdp o o' a c status
both_then file tables path pointer rsdp o o' a b c status kept (inl went) = inl (record {
  tables_went = record { saved = saved_then a b c 0 kept went.tables_went.saved };
  pointer_went = record { saved = saved_then a b c 0 kept went.pointer_went.saved };
  told = went.told;
  is = went.is;
})
both_then file tables path pointer rsdp o o' a b c status kept (inr (inl not)) =
    inr (inl (not.0, not_saved_then file a b c status kept not.1))
both_then file tables path pointer rsdp o o' a b c status kept (inr (inr not)) =
    inr (inr (not.0, not_saved_then path a b c status kept not.1))

-- what was laid, and what came of writing it
pub written_apart : (image : Image) (file : List ℕ) (base rsdp : ℕ) (o o' a b c : Option (List ℕ)) (status : ℕ)
    → ((paths : List (List ℕ)) × IsApartOf base rsdp paths image) × Keeps a b
    → AreSaved file (tables_of image.bytes.items) (pointer_file file) (pointer_of image.bytes.items) rsdp o o' b c status
    → IsLaidApart file base rsdp o o' a c status
written_apart image file base rsdp o o' a b c status laid saved = record {
  paths = laid.0.0;
  image = image;
  of = laid.0.1;
  saved = both_then file (tables_of image.bytes.items) (pointer_file file) (pointer_of image.bytes.items) rsdp o o' a b c status
      laid.1 saved;
}

-- ---- a flush after it

both_kept : (file tables path pointer : List ℕ) (rsdp : ℕ) (o o' o'' e e' : Option (List ℕ)) (s : ℕ) → Keeps o' o''
    → AreSaved file tables path pointer rsdp o o' e e' s → AreSaved file tables path pointer rsdp o o'' e e' s
both_kept file tables path pointer rsdp o o' o'' e e' s kept (inl went) = inl (record {
  tables_went = went.tables_went;
  pointer_went = went.pointer_went;
  told = appends_kept o o' o'' _ went.told kept;
  is = went.is;
})
both_kept file tables path pointer rsdp o o' o'' e e' s kept (inr (inl not)) = inr (inl (keeps_kept o o' o'' not.0 kept, not.1))
both_kept file tables path pointer rsdp o o' o'' e e' s kept (inr (inr not)) = inr (inr (keeps_kept o o' o'' not.0 kept, not.1))

apart_kept : (folder file : List ℕ) (base rsdp : ℕ) (o o' o'' e e' : Option (List ℕ)) (s : ℕ) → Keeps o' o''
    → LaysApart folder file base rsdp o o' e e' s → LaysApart folder file base rsdp o o'' e e' s
apart_kept folder file base rsdp o o' o'' e e' s kept (inl one) =
    inl (record { one = one.one; complained = one.complained; silent = keeps_kept o o' o'' one.silent kept; is = one.is })
apart_kept folder file base rsdp o o' o'' e e' s kept (inr (inl all)) = inr (inl (record {
  paths = all.paths;
  image = all.image;
  of = all.of;
  saved = both_kept file (tables_of all.image.bytes.items) (pointer_file file) (pointer_of all.image.bytes.items) rsdp
      o o' o'' e e' s kept all.saved;
}))
apart_kept folder file base rsdp o o' o'' e e' s kept (inr (inr none)) = inr (inr (none.0, keeps_kept o o' o'' none.1 kept))

pub lays_kept : (rsdp : Option ℕ) (folder file : List ℕ) (base : ℕ) (o o' o'' e e' : Option (List ℕ)) (s : ℕ) → Keeps o' o''
    → Lays rsdp folder file base o o' e e' s → Lays rsdp folder file base o o'' e e' s
lays_kept None folder file base o o' o'' e e' s kept done = laid_kept folder file base o o' o'' e e' s kept done
lays_kept (Some rsdp) folder file base o o' o'' e e' s kept done = apart_kept folder file base rsdp o o' o'' e e' s kept done
