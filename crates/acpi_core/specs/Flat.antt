-- Tables as two lists of bytes: the fixed part, and all structures.
use Rattle.std.specs.Prelude.{◌≡◌, ℕ, ◌+◌, ◌-◌, ◌*◌, ◌%◌, ◌^◌, ◌<◌, ◌==◌, ◌||◌, ◌&&◌, ◌⊎◌, nat_lt, min, Bool, List, [], ◌∷◌, ◌++◌}
use Rattle.std.specs.Prelude.{length, sum}
use Rattle.std.specs.List.{concat}
use Rattle.acpi_base.specs.Bytes.{le, put}
use Rattle.acpi_core.specs.Listing.{Listing, IsListing, bytes_of, start_of}
use Rattle.acpi_core.specs.declared.count.Count.{Count}
use Rattle.acpi_core.specs.declared.form.Form.{Form}

-- a table without structures
abbrev pub new_listing : Form → List ℕ → List ℕ → Listing
new_listing form before after = record {
  signature = form.signature;
  revision = form.revision;
  oem = form.oem;
  before = before;
  count_width = form.count_width;
  after = after;
  limit = form.limit;
  structures = [];
}

-- a number, or 2^32 - 1 if it is more
abbrev pub number_up_to : ℕ → ℕ
number_up_to n = min n 4294967295

-- The two parts are those of a table: together they are its bytes, and the running sum is that of all bytes except the checksum.
pub record IsFlat (t : Listing) (fixed body : List ℕ) (running count count_at count_width limit : ℕ) : Type 0 where
  pub is : IsListing t
  pub fixed_size : length fixed ≡ start_of t
  pub bytes : fixed ++ body ≡ bytes_of t
  pub joined : body ≡ concat t.structures
  pub place : count_at ≡ 36 + length t.before
  pub same_width : count_width ≡ t.count_width
  pub same_limit : limit ≡ t.limit
  pub counted : count ≡ number_up_to (length t.structures)
  pub sums : running ≡ sum (put 9 (0 ∷ []) (fixed ++ body)) % 256

-- the number of structures has no field, or one of 2 or 4 bytes
abbrev pub HasWidth : ℕ → Type 0
HasWidth w = (w ≡ 0) ⊎ ((w ≡ 2) ⊎ (w ≡ 4))

-- the number fits its field, if it has one
abbrev pub FitsField : Count → Type 0
FitsField count = (count.width ≡ 0) ⊎ (count.number < 2 ^ (8 * count.width))

-- whether the length and the number of structures fit their fields after one more structure of this many bytes
abbrev pub has_space : ℕ → ℕ → ℕ → ℕ → ℕ → Bool
has_space size more limit count width = nat_lt (size + more) limit && (width == 0 || nat_lt (count + 1) (2 ^ (8 * width)))

-- a fixed part with a new length and a new number of structures, and a checksum of 0
abbrev pub patched : ℕ → ℕ → ℕ → ℕ → List ℕ → List ℕ
patched at width size count fixed = put at (le width count) (put 4 (le 4 size) (put 9 (0 ∷ []) fixed))

-- A fixed part with a new length and a new number of structures. Its checksum is that of the running sum, into which went
-- everything that changed and the structure.
pub record Settles (fixed : List ℕ) (old at width size count : ℕ) (structure settled : List ℕ) (new : ℕ) : Type 0 where
  pub is : settled ≡ put 9 ((256 - new) % 256 ∷ []) (patched at width size count fixed)
  pub sums : (new + sum (put 9 (0 ∷ []) fixed)) % 256 ≡ (old + (sum (patched at width size count fixed) + sum structure)) % 256
  pub range : new < 256
