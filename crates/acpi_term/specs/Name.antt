-- Names, as the bytes that spell them (ACPI 6.5, 20.2.2, NameString).
use Rattle.std.specs.Prelude.{◌≡◌, ℕ, zero, suc, ◌≤◌, ◌<◌, ◌==◌, ◌&&◌, ◌||◌, nat_le, Bool, true, false, if◌then◌else◌}
use Rattle.std.specs.Prelude.{List, [], ◌∷◌}
use Rattle.acpi_term.specs.declared.language.Language.{Language}
use Rattle.acpi_term.specs.declared.language.Language.TheVariants.{Written, Standard}
use Rattle.acpi_term.specs.Language.{is_standard}

-- LeadNameChar: `A` to `Z` or `_`
abbrev pub is_lead : ℕ → Bool
is_lead b = (nat_le 0x41 b && nat_le b 0x5a) || b == 0x5f

-- NameChar: these, or a digit
abbrev pub is_part : ℕ → Bool
is_part b = is_lead b || (nat_le 0x30 b && nat_le b 0x39)

-- the four bytes of a standard segment, NameSeg
unfoldable pub is_segment : ℕ → ℕ → ℕ → ℕ → Bool
is_segment a b c d = is_lead a && is_part b && is_part c && is_part d

-- this many standard segments
pub data AreSegments : ℕ → List ℕ → Type 0 where
  no_more : AreSegments zero []
  one_more : {n a b c d : ℕ} {s : List ℕ} → is_segment a b c d ≡ true → AreSegments n s → AreSegments (suc n) (a ∷ b ∷ c ∷ d ∷ s)

-- One segment; DualNamePrefix and two; or MultiNamePrefix, a count and that many, which are three or more here.
pub data IsPath : List ℕ → Type 0 where
  single : {s : List ℕ} → AreSegments 1 s → IsPath s
  double : {s : List ℕ} → AreSegments 2 s → IsPath (0x2e ∷ s)
  multiple : {n : ℕ} {s : List ℕ} → 3 ≤ n → n < 256 → AreSegments n s → IsPath (0x2f ∷ n ∷ s)

-- an optional RootChar, and a path
pub data IsName : List ℕ → Type 0 where
  relative : {s : List ℕ} → IsPath s → IsName s
  rooted : {s : List ℕ} → IsPath s → IsName (0x5c ∷ s)

-- whether bytes begin with ParentPrefixChar
abbrev pub begins_up : List ℕ → Bool
begins_up [] = false
begins_up (b ∷ rest) = b == 0x5e

-- a name without the ParentPrefixChars before it
abbrev pub without_parents : List ℕ → List ℕ
without_parents [] = []
without_parents (b ∷ rest) = if b == 0x5e then without_parents rest else b ∷ rest

-- after ParentPrefixChar: NullName, a path, or the same again
pub data IsAbove : List ℕ → Type 0 where
  no_path : IsAbove (0x00 ∷ [])
  path_above : {s : List ℕ} → IsPath s → IsAbove s
  further_up : {s : List ℕ} → IsAbove s → IsAbove (0x5e ∷ s)

-- NameString: a name that this library writes; RootChar and NullName; or ParentPrefixChar once or more before a path or NullName.
pub data IsNameString : List ℕ → Type 0 where
  as_written : {s : List ℕ} → IsName s → IsNameString s
  root_alone : IsNameString (0x5c ∷ 0x00 ∷ [])
  upwards : {s : List ℕ} → IsAbove s → IsNameString (0x5e ∷ s)

-- the names of a language
abbrev pub IsNameIn : Language → List ℕ → Type 0
IsNameIn Written s = IsName s
IsNameIn Standard s = IsNameString s

-- the first byte of a name of a language: that of a segment, DualNamePrefix, MultiNamePrefix, RootChar or ParentPrefixChar
abbrev pub begins_name : Language → ℕ → Bool
begins_name l b = is_lead b || b == 0x2e || b == 0x2f || b == 0x5c || (b == 0x5e && is_standard l)

-- AsciiCharList (ACPI 6.5, 20.2.3): bytes 01 to 7F
abbrev pub IsText : List ℕ → Type 0
IsText [] = Unit {0}
IsText (b ∷ s) = (0 < b) × (b < 0x80) × IsText s
