-- Tables of structures beyond those of the Rust crate. Most contain the offset of their first structure.
use Rattle.std.specs.Prelude.{◌≡◌, ◌↔◌, ℕ, ◌≤◌, ◌⊎◌, ◌==◌, List, [], ◌∷◌, length, codes}
use Rattle.std.specs.Prelude.{if◌then◌else◌, Option, Some, None, IsSome}
use Rattle.acpi_base.specs.Bytes.{field_at}
use Rattle.acpi_base.specs.Walk.{place_width, end_of, number_in, Tells, Walks, IsSound, ArePieces, ArePiecesOf}
use Rattle.acpi_base.specs.Walk.{named, find_row, walk_of, hest_walk}
use Rattle.acpi_base.specs.declared.further_walk.FurtherWalk.{FurtherWalk}
use Rattle.acpi_base.specs.declared.walk.Place.TheVariants.{Nowhere, Byte, Word, DWord}
use Rattle.acpi_base.specs.declared.walk.Sizes.TheVariants.{EachOf, ToldAt, ByType}
use Rattle.acpi_base.specs.declared.walk.Types.TheVariants.{AllSources}
use Rattle.acpi_base.specs.declared.walk.Walk.{Walk}

abbrev pub gtdt_walk : Walk
gtdt_walk = record { start = 104; sizes = ToldAt (Word 1); kind = Byte 0; count = DWord 88; first = DWord 92 }

abbrev pub iort_walk : Walk
iort_walk = record { start = 48; sizes = ToldAt (Word 1); kind = Byte 0; count = DWord 36; first = DWord 40 }

abbrev pub dbg2_walk : Walk
dbg2_walk = record { start = 44; sizes = ToldAt (Word 1); kind = Nowhere; count = DWord 40; first = DWord 36 }

abbrev pub rsdt_walk : Walk
rsdt_walk = record { start = 36; sizes = EachOf 4; kind = Nowhere; count = Nowhere; first = Nowhere }

abbrev pub fpdt_walk : Walk
fpdt_walk = record { start = 36; sizes = ToldAt (Byte 2); kind = Word 0; count = Nowhere; first = Nowhere }

abbrev pub slic_walk : Walk
slic_walk = record { start = 36; sizes = ToldAt (DWord 4); kind = DWord 0; count = Nowhere; first = Nowhere }

abbrev pub svkl_walk : Walk
svkl_walk = record { start = 40; sizes = EachOf 16; kind = Nowhere; count = DWord 36; first = Nowhere }

abbrev pub sdev_walk : Walk
sdev_walk = record { start = 36; sizes = ToldAt (Word 2); kind = Byte 0; count = Nowhere; first = Nowhere }

abbrev pub prmt_walk : Walk
prmt_walk = record { start = 60; sizes = ToldAt (Word 2); kind = Nowhere; count = DWord 56; first = DWord 52 }

abbrev pub erst_walk : Walk
erst_walk = record { start = 48; sizes = EachOf 32; kind = Nowhere; count = DWord 44; first = Nowhere }

abbrev pub einj_walk : Walk
einj_walk = record { start = 48; sizes = EachOf 32; kind = Nowhere; count = DWord 44; first = Nowhere }

abbrev pub cpep_walk : Walk
cpep_walk = record { start = 44; sizes = ToldAt (Byte 1); kind = Byte 0; count = Nowhere; first = Nowhere }

abbrev pub ras2_walk : Walk
ras2_walk = record { start = 40; sizes = EachOf 8; kind = Nowhere; count = Word 38; first = Nowhere }

abbrev pub aest_walk : Walk
aest_walk = record { start = 36; sizes = ToldAt (Word 1); kind = Byte 0; count = Nowhere; first = Nowhere }

abbrev pub phat_walk : Walk
phat_walk = record { start = 36; sizes = ToldAt (Word 2); kind = Word 0; count = Nowhere; first = Nowhere }

abbrev pub pdtt_walk : Walk
pdtt_walk = record { start = 44; sizes = EachOf 2; kind = Nowhere; count = Byte 36; first = DWord 40 }

abbrev pub wdat_walk : Walk
wdat_walk = record { start = 68; sizes = EachOf 24; kind = Nowhere; count = DWord 64; first = Nowhere }

abbrev pub dmar_walk : Walk
dmar_walk = record { start = 48; sizes = ToldAt (Word 2); kind = Word 0; count = Nowhere; first = Nowhere }

abbrev pub ivrs_walk : Walk
ivrs_walk = record { start = 48; sizes = ToldAt (Word 2); kind = Byte 0; count = Nowhere; first = Nowhere }

abbrev pub nfit_walk : Walk
nfit_walk = record { start = 40; sizes = ToldAt (Word 2); kind = Word 0; count = Nowhere; first = Nowhere }

abbrev pub pcct_walk : Walk
pcct_walk = record { start = 48; sizes = ToldAt (Byte 1); kind = Byte 0; count = Nowhere; first = Nowhere }

abbrev pub lpit_walk : Walk
lpit_walk = record { start = 36; sizes = ToldAt (DWord 4); kind = DWord 0; count = Nowhere; first = Nowhere }

abbrev pub msct_walk : Walk
msct_walk = record { start = 56; sizes = ToldAt (Byte 1); kind = Nowhere; count = Nowhere; first = DWord 36 }

abbrev pub pmtt_walk : Walk
pmtt_walk = record { start = 40; sizes = ToldAt (Word 2); kind = Byte 0; count = Nowhere; first = Nowhere }

abbrev pub mpam_walk : Walk
mpam_walk = record { start = 36; sizes = ToldAt (Word 0); kind = Nowhere; count = Nowhere; first = Nowhere }

abbrev pub apmt_walk : Walk
apmt_walk = record { start = 36; sizes = ToldAt (Word 0); kind = Nowhere; count = Nowhere; first = Nowhere }

abbrev pub csrt_walk : Walk
csrt_walk = record { start = 36; sizes = ToldAt (DWord 0); kind = Nowhere; count = Nowhere; first = Nowhere }

abbrev pub asf_walk : Walk
asf_walk = record { start = 36; sizes = ToldAt (Word 2); kind = Byte 0; count = Nowhere; first = Nowhere }

abbrev pub aspt_walk : Walk
aspt_walk = record { start = 40; sizes = ToldAt (Word 2); kind = Word 0; count = DWord 36; first = Nowhere }

abbrev pub iovt_walk : Walk
iovt_walk = record { start = 48; sizes = ToldAt (Word 2); kind = Word 0; count = Word 36; first = Word 38 }

abbrev pub mrrm_walk : Walk
mrrm_walk = record { start = 64; sizes = ToldAt (Word 2); kind = Word 0; count = Nowhere; first = Nowhere }

abbrev pub swft_walk : Walk
swft_walk = record { start = 36; sizes = ToldAt (DWord 8); kind = Nowhere; count = Nowhere; first = Nowhere }

abbrev pub further_walks : List (List ℕ × FurtherWalk)
further_walks =
    (codes "GTDT", record { walk = gtdt_walk; least = 96 })
    ∷ (codes "IORT", record { walk = iort_walk; least = 48 })
    ∷ (codes "DBG2", record { walk = dbg2_walk; least = 44 })
    ∷ (codes "RSDT", record { walk = rsdt_walk; least = 36 })
    ∷ (codes "FPDT", record { walk = fpdt_walk; least = 36 })
    ∷ (codes "SLIC", record { walk = slic_walk; least = 36 })
    ∷ (codes "SVKL", record { walk = svkl_walk; least = 40 })
    ∷ (codes "SDEV", record { walk = sdev_walk; least = 36 })
    ∷ (codes "PRMT", record { walk = prmt_walk; least = 60 })
    ∷ (codes "ERST", record { walk = erst_walk; least = 48 })
    ∷ (codes "EINJ", record { walk = einj_walk; least = 48 })
    ∷ (codes "CPEP", record { walk = cpep_walk; least = 44 })
    ∷ (codes "RAS2", record { walk = ras2_walk; least = 40 })
    ∷ (codes "AEST", record { walk = aest_walk; least = 36 })
    ∷ (codes "PHAT", record { walk = phat_walk; least = 36 })
    ∷ (codes "PDTT", record { walk = pdtt_walk; least = 44 })
    ∷ (codes "WDAT", record { walk = wdat_walk; least = 68 })
    ∷ (codes "DMAR", record { walk = dmar_walk; least = 48 })
    ∷ (codes "IVRS", record { walk = ivrs_walk; least = 48 })
    ∷ (codes "NFIT", record { walk = nfit_walk; least = 40 })
    ∷ (codes "PCCT", record { walk = pcct_walk; least = 48 })
    ∷ (codes "LPIT", record { walk = lpit_walk; least = 36 })
    ∷ (codes "MSCT", record { walk = msct_walk; least = 56 })
    ∷ (codes "PMTT", record { walk = pmtt_walk; least = 40 })
    ∷ (codes "MPAM", record { walk = mpam_walk; least = 36 })
    ∷ (codes "APMT", record { walk = apmt_walk; least = 36 })
    ∷ (codes "CSRT", record { walk = csrt_walk; least = 36 })
    ∷ (codes "ASF!", record { walk = asf_walk; least = 36 })
    ∷ (codes "ASPT", record { walk = aspt_walk; least = 40 })
    ∷ (codes "IOVT", record { walk = iovt_walk; least = 48 })
    ∷ (codes "MRRM", record { walk = mrrm_walk; least = 64 })
    ∷ (codes "SWFT", record { walk = swft_walk; least = 36 })
    ∷ []

abbrev pub full_hest_walk : Walk
full_hest_walk = record hest_walk { sizes = ByType (Word 0) AllSources }

-- the walk of a table of the Rust crate, with the structures that the crate doesn't write
abbrev pub full_walk_of : ℕ → Option Walk
full_walk_of s = if s == named (codes "HEST") then Some full_hest_walk else walk_of s

-- the walk of the further tables of a signature
abbrev pub further_walk_of : ℕ → Option FurtherWalk
further_walk_of s = find_row s further_walks

-- where the structures of a further table begin: where its field says, or at the start of the walk if it has no such field
abbrev pub begin_of : Walk → List ℕ → ℕ
begin_of w bytes = if place_width w.first == 0 then w.start else number_in w.first bytes

-- the walk from another start
abbrev pub walk_from : ℕ → Walk → Walk
walk_from start w = record w { start = start }

-- The structures begin there, and not before the least offset.
pub record Follows (f : FurtherWalk) (bytes : List ℕ) (pieces : List (List ℕ)) : Type 0 where
  pub later : f.least ≤ begin_of f.walk bytes
  pub walks : Walks (walk_from (begin_of f.walk bytes) f.walk) bytes pieces

-- A table without structures that contains 0 as their number and as the offset of the first. It ends where the fixed part of the
-- oldest or of the newest revision ends.
pub record HasNone (f : FurtherWalk) (bytes : List ℕ) : Type 0 where
  pub has : 1 ≤ place_width f.walk.first
  pub ends : (length bytes ≡ f.least) ⊎ (length bytes ≡ f.walk.start)
  pub none : Tells f.walk.count bytes 0
  pub nowhere : number_in f.walk.first bytes ≡ 0

-- The least offset isn't after the start of the walk, and the table's own fields end before it.
pub record IsSoundFurther (f : FurtherWalk) : Type 0 where
  pub walk : IsSound f.walk
  pub least : f.least ≤ f.walk.start
  pub count : end_of f.walk.count ≤ f.least
  pub told : end_of f.walk.first ≤ f.least
  pub some : 1 ≤ f.least

-- the pieces are the structures of a further table, if it is one
abbrev pub FollowsBy : Option FurtherWalk → List ℕ → List (List ℕ) → Type 0
FollowsBy (Some f) bytes pieces = Follows f bytes pieces ⊎ (HasNone f bytes × (pieces ≡ []))
FollowsBy None bytes pieces = pieces ≡ []

-- the pieces are found by the walk of a table of the Rust crate, or else by that of a further table
abbrev pub AreFoundBy : Option Walk → Option FurtherWalk → List ℕ → List (List ℕ) → Type 0
AreFoundBy (Some w) f bytes pieces = Walks w bytes pieces
AreFoundBy None f bytes pieces = FollowsBy f bytes pieces

-- the pieces are the structures of any table
abbrev pub AreStructuresOf : List ℕ → List (List ℕ) → Type 0
AreStructuresOf bytes pieces = AreFoundBy (full_walk_of (field_at 0 4 bytes)) (further_walk_of (field_at 0 4 bytes)) bytes pieces

-- Bytes have at most one list of structures.
abbrev pub OneListOfStructures : Type 0
OneListOfStructures =
    (bytes : List ℕ) (ps qs : List (List ℕ)) → AreStructuresOf bytes ps → AreStructuresOf bytes qs → ps ≡ qs

-- The structures of a table of the Rust crate are its pieces, unless it is a HEST.
abbrev pub StructuresArePieces : Type 0
StructuresArePieces =
    (bytes : List ℕ) → IsSome (walk_of (field_at 0 4 bytes)) → (field_at 0 4 bytes ≡ named (codes "HEST") → ⊥)
    → (pieces : List (List ℕ)) → AreStructuresOf bytes pieces ↔ ArePiecesOf bytes pieces

-- The pieces of a HEST are its structures, if each of these is one that the Rust crate writes.
abbrev pub SourcesArePieces : Type 0
SourcesArePieces =
    (bytes : List ℕ) → field_at 0 4 bytes ≡ named (codes "HEST")
    → (pieces : List (List ℕ)) → ArePiecesOf bytes pieces ↔ (AreStructuresOf bytes pieces × ArePieces hest_walk.sizes pieces)

-- the walk of the tables of a signature, in either list
abbrev pub either_walk : Option Walk → Option FurtherWalk → Option Walk
either_walk (Some w) f = Some w
either_walk None (Some f) = Some f.walk
either_walk None None = None

abbrev pub table_walk_of : ℕ → Option Walk
table_walk_of s = either_walk (full_walk_of s) (further_walk_of s)
