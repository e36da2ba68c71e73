-- The loader of a folder's files.
use Rattle.std.proofs.Common.{◌≡◌, ℕ, List, [], ◌∷◌, ◌++◌, Option, refl, sym, ◌∙◌, inl, inr, codes, Result, Ok, Err, MatchResult}
use Rattle.std.specs.Prelude.{◌≢◌}
use Rattle.std.specs.Io.KnownBytes.{Keeps}
use Rattle.acpi_loader.specs.Loader.{IsLoader}
use Rattle.acpi_loader.specs.declared.loader.Loader.{Loader}
use Rattle.acpitool_program.proofs.Streams.{keeps_self, keeps_kept, keeps_then}
use Rattle.acpitool_program.specs.Laying.{AreFiles}
use Rattle.acpitool_program.specs.Loading.{HaveNoLoader, IsLoaderOf, IsNotLoaded, HasNoFolder, HasFolder, HasFolders, ArePut, files_of, IsPut, IsPutOut, IsLoaded}
use Rattle.acpitool_program.specs.Unpacking.{NotMade, IsUnpacked}

-- what was read, and what came of it
pub loaded_then : (folder : List ℕ) (paths files : List (List ℕ)) (found : Result Loader ℕ) (a b c : Option (List ℕ))
    → AreFiles paths files × Keeps a b
    → MatchResult found (λ loader. IsLoader files loader × Keeps b c) (λ status. HaveNoLoader folder paths files b c status)
    → MatchResult found (λ loader. IsLoaderOf paths loader × Keeps a c) (λ status. IsNotLoaded folder paths a c status)
loaded_then folder paths files (Ok loader) a b c read found = ((files, read.0, found.0), keeps_kept a b c read.1 found.1)
loaded_then folder paths files (Err status) a b c read not = inr (
  files,
  read.0,
  record {
    fault = not.fault;
    no_memory = not.no_memory;
    cause = not.cause;
    complained = keeps_then a b c _ read.1 not.complained;
    is = not.is;
  },
)

-- ---- folders

no_folder_then : (path : List ℕ) (a b c : Option (List ℕ)) (status : ℕ) → Keeps a b → HasNoFolder path b c status → HasNoFolder path a c status
no_folder_then path a b c status kept not = record { why = not.why; complained = keeps_then a b c _ kept not.complained; is = not.is }

-- a folder that is there
pub is_there : (path : List ℕ) (a b : Option (List ℕ)) (status : ℕ) → HasFolder path a b status → status ≡ 0 → Keeps a b
is_there path a b status (inl there) is = there.1
is_there path a b status (inr not) is = let e : 0 ≡ 1 = sym is ∙ not.is in absurd (cc)

-- a folder that isn't
pub is_not : (path : List ℕ) (a b : Option (List ℕ)) (status : ℕ) → HasFolder path a b status → status ≢ 0 → HasNoFolder path a b status
is_not path a b status (inl there) other = absurd (other there.0)
is_not path a b status (inr not) other = not

pub first_missing : (to : List ℕ) (a b : Option (List ℕ)) (status : ℕ) → HasFolder to a b status → status ≢ 0 → HasFolders to a b status
first_missing to a b status one other = inr (inl (is_not to a b status one other))

pub second_missing : (to : List ℕ) (a b c : Option (List ℕ)) (first status : ℕ) → HasFolder to a b first → first ≡ 0
    → HasFolder (to ++ codes "/etc") b c status → status ≢ 0 → HasFolders to a c status
second_missing to a b c first status one there two other =
    inr (inr (inl (no_folder_then (to ++ codes "/etc") a b c status (is_there to a b first one there) (is_not (to ++ codes "/etc") b c status two other))))

pub third_last : (to : List ℕ) (a b c d : Option (List ℕ)) (first second status : ℕ) → HasFolder to a b first → first ≡ 0
    → HasFolder (to ++ codes "/etc") b c second → second ≡ 0 → HasFolder (to ++ codes "/etc/acpi") c d status → HasFolders to a d status
third_last to a b c d first second status one there two there' (inl last) =
    let kept = keeps_kept a b c (is_there to a b first one there) (is_there (to ++ codes "/etc") b c second two there') in
    inl (last.0, keeps_kept a c d kept last.1)
third_last to a b c d first second status one there two there' (inr not) =
    let kept = keeps_kept a b c (is_there to a b first one there) (is_there (to ++ codes "/etc") b c second two there') in
    inr (inr (inr (no_folder_then (to ++ codes "/etc/acpi") a c d status kept not)))

pub are_there : (to : List ℕ) (a b : Option (List ℕ)) (status : ℕ) → HasFolders to a b status → status ≡ 0 → Keeps a b
are_there to a b status (inl there) is = there.1
are_there to a b status (inr (inl not)) is = let e : 0 ≡ 1 = sym is ∙ not.is in absurd (cc)
are_there to a b status (inr (inr (inl not))) is = let e : 0 ≡ 1 = sym is ∙ not.is in absurd (cc)
are_there to a b status (inr (inr (inr not))) is = let e : 0 ≡ 1 = sym is ∙ not.is in absurd (cc)

-- ---- files

-- a file that can't be made
pub none_put : (path bytes : List ℕ) (files : List (List ℕ × List ℕ)) (o o' e e' : Option (List ℕ)) (status : ℕ)
    → IsUnpacked path bytes o o' e e' status → status ≢ 0 → ArePut ((path, bytes) ∷ files) o o' e e' status
none_put path bytes files o o' e e' status (inl wrote) other = absurd (other wrote.is)
none_put path bytes files o o' e e' status (inr not) other = inl not

-- a file that was written, and others after it
pub one_put : (path bytes : List ℕ) (files : List (List ℕ × List ℕ)) (o o' o'' e e' e'' : Option (List ℕ)) (first status : ℕ)
    → IsUnpacked path bytes o o' e e' first → first ≡ 0 → ArePut files o' o'' e' e'' status → ArePut ((path, bytes) ∷ files) o o'' e e'' status
one_put path bytes files o o' o'' e e' e'' first status (inl wrote) is rest =
    inr (record { out' = o'; err' = e'; wrote = record { wrote = wrote.wrote; silent = wrote.silent; is = refl }; rest = rest })
one_put path bytes files o o' o'' e e' e'' first status (inr not) is rest = let e : 0 ≡ 1 = sym is ∙ not.is in absurd (cc)

-- the last file
pub last_put : (path bytes : List ℕ) (o o' e e' : Option (List ℕ)) (status : ℕ)
    → IsUnpacked path bytes o o' e e' status → ArePut ((path, bytes) ∷ []) o o' e e' status
last_put path bytes o o' e e' status (inl wrote) = inr (record {
  out' = o';
  err' = e';
  wrote = record { wrote = wrote.wrote; silent = wrote.silent; is = refl };
  rest = (keeps_self o', keeps_self e', wrote.is);
})
last_put path bytes o o' e e' status (inr not) = inl not

-- ---- with what was printed before

not_made_then : (path : List ℕ) (o o' a b c : Option (List ℕ)) (status : ℕ) → Keeps a b → NotMade path o o' b c status → NotMade path o o' a c status
not_made_then path o o' a b c status kept not =
    record { why = not.why; complained = keeps_then a b c _ kept not.complained; silent = not.silent; is = not.is }

put_then : (files : List (List ℕ × List ℕ)) (o o' a b c : Option (List ℕ)) (status : ℕ) → Keeps a b → ArePut files o o' b c status
    → ArePut files o o' a c status
put_then [] o o' a b c status kept none = (none.0, keeps_kept a b c kept none.1, none.2)
put_then (file ∷ files) o o' a b c status kept (inl not) = inl (not_made_then file.0 o o' a b c status kept not)
put_then (file ∷ files) o o' a b c status kept (inr one) = inr (record {
  out' = one.out';
  err' = one.err';
  wrote = record { wrote = one.wrote.wrote; silent = keeps_kept a b one.err' kept one.wrote.silent; is = one.wrote.is };
  rest = one.rest;
})

-- the folders are there, and files are written then
pub put_out : (loader : Loader) (to : List ℕ) (o o' a b c : Option (List ℕ)) (first status : ℕ) → HasFolders to a b first → first ≡ 0
    → IsPut loader to o o' b c status → IsPutOut loader to o o' a c status
put_out loader to o o' a b c first status there is put = inr (put_then (files_of loader to) o o' a b c status (are_there to a b first there is) put)

put_out_then : (loader : Loader) (to : List ℕ) (o o' a b c : Option (List ℕ)) (status : ℕ) → Keeps a b
    → IsPutOut loader to o o' b c status → IsPutOut loader to o o' a c status
put_out_then loader to o o' a b c status kept (inl (other, inl there, silent)) = absurd (other there.0)
put_out_then loader to o o' a b c status kept (inl (other, inr (inl not), silent)) =
    inl (other, inr (inl (no_folder_then to a b c status kept not)), silent)
put_out_then loader to o o' a b c status kept (inl (other, inr (inr (inl not)), silent)) =
    inl (other, inr (inr (inl (no_folder_then (to ++ codes "/etc") a b c status kept not))), silent)
put_out_then loader to o o' a b c status kept (inl (other, inr (inr (inr not)), silent)) =
    inl (other, inr (inr (inr (no_folder_then (to ++ codes "/etc/acpi") a b c status kept not))), silent)
put_out_then loader to o o' a b c status kept (inr put) = inr (put_then (files_of loader to) o o' a b c status kept put)

-- the loader of a folder, and what came of writing it
pub loaded_out : (loader : Loader) (to : List ℕ) (o o' a b c : Option (List ℕ)) (status : ℕ)
    → ((paths : List (List ℕ)) × IsLoaderOf paths loader) × Keeps a b → IsPutOut loader to o o' b c status → IsLoaded to o o' a c status
loaded_out loader to o o' a b c status loaded put =
    record { paths = loaded.0.0; loader = loader; of = loaded.0.1; put = put_out_then loader to o o' a b c status loaded.1 put }
