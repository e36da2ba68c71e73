-- What unpacked tables, archives, images and compared tables print, and a flush after it.
use Rattle.std.proofs.Common.{ℕ, Bool, true, false, List, [], ◌∷◌, ◌++◌, Option, inl, inr}
use Rattle.std.specs.Io.KnownBytes.{Keeps}
use Rattle.acpi_dump.specs.Dump.{is_dump}
use Rattle.acpi_layout.specs.declared.layout.Image.{Image}
use Rattle.acpitool_program.specs.Archiving.{Archives}
use Rattle.acpitool_program.specs.Comparing.{ComparesBytes, ComparesWith, Compares}
use Rattle.acpitool_program.specs.Laying.{IsSavedTo, IsSaved, LaysFolder}
use Rattle.acpitool_program.specs.Listing.{NotRead}
use Rattle.acpitool_program.specs.Loading.{ArePut, files_of, IsPutOut, LoadsFolder}
use Rattle.acpi_loader.specs.declared.loader.Loader.{Loader}
use Rattle.acpitool_program.specs.Making.{IsWritten}
use Rattle.acpitool_program.specs.Repairing.{RepairsBytes, Repairs}
use Rattle.acpitool_program.specs.Unpacking.{NotMade, AreUnpacked, AreFiles, UnpacksDump, UnpacksImage, UnpacksBy, Unpacks}
use Rattle.acpitool_program.proofs.Streams.{keeps_kept, appends_kept}

not_made_kept : (path : List ℕ) (o o' o'' e e' : Option (List ℕ)) (s : ℕ) → Keeps o' o'' → NotMade path o o' e e' s → NotMade path o o'' e e' s
not_made_kept path o o' o'' e e' s kept not =
    record { why = not.why; complained = not.complained; silent = keeps_kept o o' o'' not.silent kept; is = not.is }

pub unread_kept : (file : List ℕ) (o o' o'' e e' : Option (List ℕ)) (s : ℕ) → Keeps o' o'' → NotRead file o o' e e' s → NotRead file o o'' e e' s
unread_kept file o o' o'' e e' s kept not =
    record { why = not.why; complained = not.complained; silent = keeps_kept o o' o'' not.silent kept; is = not.is }

-- the last table is the one before the flush
tables_kept : (folder : List ℕ) (earlier tables : List (List ℕ)) (o o' o'' e e' : Option (List ℕ)) (s : ℕ) → Keeps o' o''
    → AreUnpacked folder earlier tables o o' e e' s → AreUnpacked folder earlier tables o o'' e e' s
tables_kept folder earlier [] o o' o'' e e' s kept are = (keeps_kept o o' o'' are.0 kept, are.1, are.2)
tables_kept folder earlier (table ∷ tables) o o' o'' e e' s kept are = record {
  out = are.out;
  err = are.err;
  first = are.first;
  rest = are.rest;
  one = are.one;
  others = tables_kept folder (earlier ++ table ∷ []) tables are.out o' o'' are.err e' are.rest kept are.others;
  is = are.is;
}

files_kept : (folder : List ℕ) (tables : List (List ℕ)) (o o' o'' e e' : Option (List ℕ)) (s : ℕ) → Keeps o' o''
    → AreFiles folder tables o o' e e' s → AreFiles folder tables o o'' e e' s
files_kept folder tables o o' o'' e e' s kept (inl not) = inl (not_made_kept folder o o' o'' e e' s kept not)
files_kept folder tables o o' o'' e e' s kept (inr are) = inr (tables_kept folder [] tables o o' o'' e e' s kept are)

dump_kept : (name folder dump : List ℕ) (o o' o'' e e' : Option (List ℕ)) (s : ℕ) → Keeps o' o''
    → UnpacksDump name folder dump o o' e e' s → UnpacksDump name folder dump o o'' e e' s
dump_kept name folder dump o o' o'' e e' s kept (inl (tables, is, are)) = inl (tables, is, files_kept folder _ o o' o'' e e' s kept are)
dump_kept name folder dump o o' o'' e e' s kept (inr broken) = inr (record {
  fault = broken.fault;
  cause = broken.cause;
  complained = broken.complained;
  silent = keeps_kept o o' o'' broken.silent kept;
  is = broken.is;
})

image_kept : (name folder : List ℕ) (base : ℕ) (bytes : List ℕ) (o o' o'' e e' : Option (List ℕ)) (s : ℕ) → Keeps o' o''
    → UnpacksImage name folder base bytes o o' e e' s → UnpacksImage name folder base bytes o o'' e e' s
image_kept name folder base bytes o o' o'' e e' s kept (inl (tables, is, are)) = inl (tables, is, files_kept folder _ o o' o'' e e' s kept are)
image_kept name folder base bytes o o' o'' e e' s kept (inr not) = inr (record {
  fault = not.fault;
  cause = not.cause;
  complained = not.complained;
  silent = keeps_kept o o' o'' not.silent kept;
  is = not.is;
})

by_kept : (dump : Bool) (name folder : List ℕ) (base : ℕ) (bytes : List ℕ) (o o' o'' e e' : Option (List ℕ)) (s : ℕ) → Keeps o' o''
    → UnpacksBy dump name folder base bytes o o' e e' s → UnpacksBy dump name folder base bytes o o'' e e' s
by_kept true name folder base bytes o o' o'' e e' s kept done = dump_kept name folder bytes o o' o'' e e' s kept done
by_kept false name folder base bytes o o' o'' e e' s kept done = image_kept name folder base bytes o o' o'' e e' s kept done

pub unpacked_kept : (name folder : List ℕ) (base : ℕ) (o o' o'' e e' : Option (List ℕ)) (s : ℕ) → Keeps o' o''
    → Unpacks name folder base o o' e e' s → Unpacks name folder base o o'' e e' s
unpacked_kept name folder base o o' o'' e e' s kept (inl (bytes, done)) =
    inl (bytes, by_kept (is_dump bytes) name folder base bytes o o' o'' e e' s kept done)
unpacked_kept name folder base o o' o'' e e' s kept (inr not) = inr (unread_kept name o o' o'' e e' s kept not)

pub written_kept : (bytes file : List ℕ) (o o' o'' e e' : Option (List ℕ)) (s : ℕ) → Keeps o' o''
    → IsWritten bytes file o o' e e' s → IsWritten bytes file o o'' e e' s
written_kept bytes file o o' o'' e e' s kept (inl out) = inl (out.0, appends_kept o o' o'' bytes out.1 kept, out.2)
written_kept bytes file o o' o'' e e' s kept (inr other) = inr (other.0, keeps_kept o o' o'' other.1 kept, other.2)

pub archived_kept : (folder file : List ℕ) (o o' o'' e e' : Option (List ℕ)) (s : ℕ) → Keeps o' o''
    → Archives folder file o o' e e' s → Archives folder file o o'' e e' s
archived_kept folder file o o' o'' e e' s kept (inl (paths, inl all)) = inl (
  paths,
  inl (record {
    tables = all.tables;
    between = all.between;
    are = all.are;
    written = elim all.written [
      | inl written ↦ inl (written_kept _ file o o' o'' all.between e' s kept written)
      | inr not ↦ inr (record {
        misfit = not.misfit;
        first = not.first;
        complained = not.complained;
        silent = keeps_kept o o' o'' not.silent kept;
        is = not.is;
      })
    ];
  }),
)
archived_kept folder file o o' o'' e e' s kept (inl (paths, inr (inl refused))) =
    inl (paths, inr (inl (refused.0, keeps_kept o o' o'' refused.1 kept)))
archived_kept folder file o o' o'' e e' s kept (inl (paths, inr (inr replaced))) =
    inl (paths, inr (inr (replaced.0, keeps_kept o o' o'' replaced.1 kept)))
archived_kept folder file o o' o'' e e' s kept (inr not) = inr (unread_kept folder o o' o'' e e' s kept not)

saved_to_kept : (image : Image) (file : List ℕ) (o o' o'' e e' : Option (List ℕ)) (s : ℕ) → Keeps o' o''
    → IsSavedTo image file o o' e e' s → IsSavedTo image file o o'' e e' s
saved_to_kept image file o o' o'' e e' s kept (inl saved) = inl (appends_kept o o' o'' _ saved.0 kept, saved.1)
saved_to_kept image file o o' o'' e e' s kept (inr not) = inr (keeps_kept o o' o'' not.0 kept, not.1)

saved_kept : (image : Image) (file : List ℕ) (o o' o'' e e' : Option (List ℕ)) (s : ℕ) → Keeps o' o''
    → IsSaved image file o o' e e' s → IsSaved image file o o'' e e' s
saved_kept image file o o' o'' e e' s kept (inl out) = inl (out.0, appends_kept o o' o'' _ out.1 kept, out.2, out.3)
saved_kept image file o o' o'' e e' s kept (inr other) = inr (other.0, saved_to_kept image file o o' o'' e e' s kept other.1)

pub laid_kept : (folder file : List ℕ) (base : ℕ) (o o' o'' e e' : Option (List ℕ)) (s : ℕ) → Keeps o' o''
    → LaysFolder folder file base o o' e e' s → LaysFolder folder file base o o'' e e' s
laid_kept folder file base o o' o'' e e' s kept (inl out) = inl (record {
  paths = out.paths;
  image = out.image;
  of = out.of;
  saved = saved_kept out.image file o o' o'' e e' s kept out.saved;
})
laid_kept folder file base o o' o'' e e' s kept (inr none) = inr (none.0, keeps_kept o o' o'' none.1 kept)

put_kept : (files : List (List ℕ × List ℕ)) (o o' o'' e e' : Option (List ℕ)) (s : ℕ) → Keeps o' o'' → ArePut files o o' e e' s → ArePut files o o'' e e' s
put_kept [] o o' o'' e e' s kept none = (keeps_kept o o' o'' none.0 kept, none.1, none.2)
put_kept (file ∷ files) o o' o'' e e' s kept (inl not) = inl (not_made_kept file.0 o o' o'' e e' s kept not)
put_kept (file ∷ files) o o' o'' e e' s kept (inr one) = inr (record {
  out' = one.out';
  err' = one.err';
  wrote = one.wrote;
  rest = put_kept files one.out' o' o'' one.err' e' s kept one.rest;
})

put_out_kept : (loader : Loader) (to : List ℕ) (o o' o'' e e' : Option (List ℕ)) (s : ℕ) → Keeps o' o''
    → IsPutOut loader to o o' e e' s → IsPutOut loader to o o'' e e' s
put_out_kept loader to o o' o'' e e' s kept (inl not) = inl (not.0, not.1, keeps_kept o o' o'' not.2 kept)
put_out_kept loader to o o' o'' e e' s kept (inr put) = inr (put_kept (files_of loader to) o o' o'' e e' s kept put)

pub loaded_kept : (folder to : List ℕ) (o o' o'' e e' : Option (List ℕ)) (s : ℕ) → Keeps o' o''
    → LoadsFolder folder to o o' e e' s → LoadsFolder folder to o o'' e e' s
loaded_kept folder to o o' o'' e e' s kept (inl all) = inl (record {
  paths = all.paths;
  loader = all.loader;
  of = all.of;
  put = put_out_kept all.loader to o o' o'' e e' s kept all.put;
})
loaded_kept folder to o o' o'' e e' s kept (inr none) = inr (none.0, keeps_kept o o' o'' none.1 kept)

bytes_repaired : (name bytes file : List ℕ) (o o' o'' e e' : Option (List ℕ)) (s : ℕ) → Keeps o' o''
    → RepairsBytes name bytes file o o' e e' s → RepairsBytes name bytes file o o'' e e' s
bytes_repaired name bytes file o o' o'' e e' s kept (inl its) = inl (record {
  fit = its.fit;
  is = its.is;
  between = its.between;
  told = its.told;
  wrote = written_kept _ file o o' o'' its.between e' s kept its.wrote;
})
bytes_repaired name bytes file o o' o'' e e' s kept (inr not) = inr (record {
  why = not.why;
  cause = not.cause;
  complained = not.complained;
  silent = keeps_kept o o' o'' not.silent kept;
  is = not.is;
})

pub repaired_kept : (name file : List ℕ) (o o' o'' e e' : Option (List ℕ)) (s : ℕ) → Keeps o' o''
    → Repairs name file o o' e e' s → Repairs name file o o'' e e' s
repaired_kept name file o o' o'' e e' s kept (inl (bytes, all)) = inl (bytes, bytes_repaired name bytes file o o' o'' e e' s kept all)
repaired_kept name file o o' o'' e e' s kept (inr not) = inr (unread_kept name o o' o'' e e' s kept not)

bytes_compared : (first a second b : List ℕ) (o o' o'' e e' : Option (List ℕ)) (s : ℕ) → Keeps o' o''
    → ComparesBytes first a second b o o' e e' s → ComparesBytes first a second b o o'' e e' s
bytes_compared first a second b o o' o'' e e' s kept (inl all) = inl (record {
  first = all.first;
  second = all.second;
  text = all.text;
  compared = all.compared;
  wrote = appends_kept o o' o'' _ all.wrote kept;
  silent = all.silent;
  is = all.is;
})
bytes_compared first a second b o o' o'' e e' s kept (inr (inl not)) = inr (inl (record {
  fault = not.fault;
  cause = not.cause;
  complained = not.complained;
  silent = keeps_kept o o' o'' not.silent kept;
  is = not.is;
}))
bytes_compared first a second b o o' o'' e e' s kept (inr (inr not)) = inr (inr (record {
  fault = not.fault;
  cause = not.cause;
  complained = not.complained;
  silent = keeps_kept o o' o'' not.silent kept;
  is = not.is;
}))

with_compared : (first a second : List ℕ) (o o' o'' e e' : Option (List ℕ)) (s : ℕ) → Keeps o' o''
    → ComparesWith first a second o o' e e' s → ComparesWith first a second o o'' e e' s
with_compared first a second o o' o'' e e' s kept (inl (b, all)) = inl (b, bytes_compared first a second b o o' o'' e e' s kept all)
with_compared first a second o o' o'' e e' s kept (inr not) = inr (unread_kept second o o' o'' e e' s kept not)

pub compared_kept : (first second : List ℕ) (o o' o'' e e' : Option (List ℕ)) (s : ℕ) → Keeps o' o''
    → Compares first second o o' e e' s → Compares first second o o'' e e' s
compared_kept first second o o' o'' e e' s kept (inl (a, all)) = inl (a, with_compared first a second o o' o'' e e' s kept all)
compared_kept first second o o' o'' e e' s kept (inr not) = inr (unread_kept first o o' o'' e e' s kept not)
