-- Memory Side Cache Information Structure (ACPI 6.5, 5.2.28.5).
use Rattle.std.specs.Prelude.{ℕ, ◌+◌, ◌*◌, List, [], ◌∷◌, ◌++◌, length}
use Rattle.acpi_base.specs.Fields.{NamedField, word, dword, qword, preset, flags, reserved, fields_joined}
use Rattle.acpi_base.specs.Look.{Part, choice, part, means}
use Rattle.acpi_matrices.specs.declared.hmat.cache.CacheLevel.{CacheLevel}
use Rattle.acpi_matrices.specs.declared.hmat.cache.CacheLevel.TheVariants as level
use Rattle.acpi_matrices.specs.declared.hmat.cache.Associativity.{Associativity}
use Rattle.acpi_matrices.specs.declared.hmat.cache.Associativity.TheVariants as spread
use Rattle.acpi_matrices.specs.declared.hmat.cache.WritePolicy.{WritePolicy}
use Rattle.acpi_matrices.specs.declared.hmat.cache.WritePolicy.TheVariants as policy

abbrev pub level_number : CacheLevel → ℕ
level_number level.None = 0
level_number level.One = 1
level_number level.Two = 2
level_number level.Three = 3

abbrev pub associativity_number : Associativity → ℕ
associativity_number spread.None = 0
associativity_number spread.DirectMapped = 1
associativity_number spread.Complex = 2

abbrev pub policy_number : WritePolicy → ℕ
policy_number policy.None = 0
policy_number policy.Writeback = 1
policy_number policy.Writethrough = 2

-- a cache, its number of SMBIOS handles, and their bytes: each handle has two
pub record SideCache : Type 0 where
  pub domain : ℕ
  pub cache_size : ℕ
  pub attributes : ℕ
  pub count : ℕ
  pub handles : List ℕ

-- Cache Attributes: the number of levels in bits 0 to 3, this level in 4 to 7, the associativity in 8 to 11, the write policy in
-- 12 to 15, and the bytes of a line in 16 to 31
abbrev pub attributes_of : CacheLevel → CacheLevel → Associativity → WritePolicy → ℕ → ℕ
attributes_of total this associativity policy line =
    level_number total + 16 * level_number this + 256 * associativity_number associativity
    + 4096 * policy_number policy + 65536 * line

-- a cache without handles
abbrev pub cache : ℕ → ℕ → CacheLevel → CacheLevel → Associativity → WritePolicy → ℕ → SideCache
cache domain cache_size total this associativity policy line = record {
  domain = domain;
  cache_size = cache_size;
  attributes = attributes_of total this associativity policy line;
  count = 0;
  handles = [];
}

-- Cache Attributes: levels in bits 7:0, Cache Associativity in 11:8, Write Policy in 15:12, Cache Line Size in 31:16
abbrev pub side_cache_bits : List Part
side_cache_bits =
    part 0x0000000f 0x00000001 "Total Cache Levels"
    ∷ part 0x000000f0 0x00000010 "Cache Level"
    ∷ choice 0x00000f00 (
    means 0x00000000 "Cache Associativity None"
    ∷ means 0x00000100 "Direct Mapped"
    ∷ means 0x00000200 "Complex Cache Indexing"
    ∷ [])
    ∷ choice 0x0000f000 (
    means 0x00000000 "Write Policy None"
    ∷ means 0x00001000 "Write Back"
    ∷ means 0x00002000 "Write Through"
    ∷ [])
    ∷ part 0xffff0000 0x00010000 "Cache Line Size"
    ∷ []

abbrev pub cache_head_fields : SideCache → List NamedField
cache_head_fields c =
    preset word "Type" 2  -- 0
    ∷ reserved 2  -- 2
    ∷ dword "Length" (32 + length c.handles)  -- 4
    ∷ dword "Proximity Domain for the Memory" c.domain  -- 8
    ∷ reserved 4  -- 12
    ∷ qword "Memory Side Cache Size" c.cache_size  -- 16
    ∷ flags side_cache_bits dword "Cache Attributes" c.attributes  -- 24
    ∷ reserved 2  -- 28
    ∷ word "Number of SMBIOS Handles" c.count  -- 30
    ∷ []

abbrev pub cache_head : SideCache → List ℕ
cache_head c = fields_joined (cache_head_fields c)

abbrev pub cache_bytes : SideCache → List ℕ
cache_bytes c = cache_head c ++ c.handles  -- 32: SMBIOS Handles
