-- Definition blocks that lie one after another.
use Rattle.std.proofs.Common.{◌≡◌, ◌≢◌, ℕ, ◌+◌, ◌-◌, ◌<◌, ◌≤◌, List, [], ◌∷◌, ◌++◌, Some, None, length, take, drop, refl, sym, ap, subst, ◌∙◌, arith, false, length-append}
use Rattle.std.specs.Prelude.{nat_lt}
use Rattle.std.specs.List.{concat}
use Rattle.std.proofs.lemmas.Bool.Decides.{nat_tests}
use Rattle.std.proofs.lemmas.List.{append-nil, take-append-drop, take_at}
use Rattle.acpi_base.specs.Bytes.{field_at}
use Rattle.acpi_base.specs.Table.{IsTrueTable}
use Rattle.acpi_terms_text.specs.Objects.{Callee, AddObjectsIn}
use Rattle.acpi_c_calls.specs.Among.{IsFurther, AreBlocks, AddBlocks, AreFurther, HaveNoBlock}
use Rattle.acpi_c_calls.specs.Lay.{first_table}
use Rattle.acpi_c_calls.proofs.Layings.{told_in, concat_push}

-- ---- the first block of bytes

same_front : (n : ℕ) (rest : List ℕ) → take (length (take n rest)) rest ≡ take n rest
same_front n rest =
    ap (take (length (take n rest))) (sym (take-append-drop n rest)) ∙ take_at (take n rest) (drop n rest) (length (take n rest)) refl

-- a table is found by its length
table_first : (table more : List ℕ) → IsTrueTable table → first_table (table ++ more) ≡ Some (length table)
table_first table more is =
    let long : 8 ≤ length table = omega (arith, is.header) in
    let told : field_at 4 4 (table ++ more) ≡ length table =
    sym (told_in (table ++ more) (length table) long) ∙ ap (field_at 4 4) (take_at table more (length table) refl) ∙ is.tells in
    let size = length-append table more in
    let enough : nat_lt (length (table ++ more)) 8 ≡ false = grind (arith, nat_tests, long, size) in
    let wide : nat_lt (length table) 8 ≡ false = grind (arith, nat_tests, long) in
    let inside : nat_lt (length (table ++ more)) (length table) ≡ false = grind (arith, nat_tests, size) in
    rw (told, enough, wide, inside) refl

block_first : (n : ℕ) (rest : List ℕ) → IsFurther (take n rest) → first_table rest ≡ Some (length (take n rest))
block_first n rest is =
    subst (λ (l : List ℕ). first_table l ≡ Some (length (take n rest))) (take-append-drop n rest) (table_first (take n rest) (drop n rest) is.table)

-- where no table begins
pub none_without : (rest : List ℕ) → first_table rest ≡ None → (n : ℕ) → IsFurther (take n rest) → ⊥
none_without rest none n is =
    let some = block_first n rest is in
    absurd (cc (none, some))

size_of : (rest : List ℕ) (n k : ℕ) → first_table rest ≡ Some n → first_table rest ≡ Some k → n ≡ k
size_of rest n k one other = cc (one, other)

-- where a table begins that is no block
pub none_but : (rest : List ℕ) (size : ℕ) → first_table rest ≡ Some size → (IsFurther (take size rest) → ⊥) → (n : ℕ) → IsFurther (take n rest) → ⊥
none_but rest size first none n is =
    let same : length (take n rest) ≡ size = size_of rest (length (take n rest)) size (block_first n rest is) first in
    none (subst IsFurther (sym (same_front n rest) ∙ ap (λ k. take k rest) same) is)

-- ---- one block more

are_push : (blocks : List (List ℕ)) (block : List ℕ) → AreBlocks blocks → IsFurther block → AreBlocks (blocks ++ block ∷ [])
are_push [] block are is = (is, tt)
are_push (b ∷ blocks) block are is = (are.0, are_push blocks block are.1 is)

add_push : (stated : List (List ℕ × ℕ)) (blocks : List (List ℕ)) (block : List ℕ) (old between new : List Callee)
    → AddBlocks stated blocks old between → AddObjectsIn stated (drop 36 block) between new → AddBlocks stated (blocks ++ block ∷ []) old new
add_push stated [] block old between new same added =
    (new, subst (λ (l : List Callee). AddObjectsIn stated (drop 36 block) l new) same added, refl)
add_push stated (b ∷ blocks) block old between new all added =
    (all.0, all.1, add_push stated blocks block all.0 between new all.2 added)

-- what is known after some blocks
abbrev pub After : List (List ℕ × ℕ) → List ℕ → List ℕ → List Callee → Type 0
After stated bytes rest objects =
    (blocks : List (List ℕ)) × (concat blocks ++ rest ≡ bytes) × AreBlocks blocks × AddBlocks stated blocks [] objects

pub next_block : (stated : List (List ℕ × ℕ)) (bytes rest : List ℕ) (n : ℕ) (old new : List Callee) → After stated bytes rest old → IsFurther (take n rest)
    → AddObjectsIn stated (drop 36 (take n rest)) old new → After stated bytes (drop n rest) new
next_block stated bytes rest n old new after is added = (
  after.0 ++ take n rest ∷ [],
  concat_push after.0 (take n rest) (drop n rest) ∙ ap (λ (l : List ℕ). concat after.0 ++ l) (take-append-drop n rest) ∙ after.1,
  are_push after.0 (take n rest) after.2 is,
  add_push stated after.0 (take n rest) [] old new after.3 added,
)

pub all_blocks : (stated : List (List ℕ × ℕ)) (bytes rest : List ℕ) (objects : List Callee) → After stated bytes rest objects → rest ≡ [] → AreFurther stated bytes objects
all_blocks stated bytes rest objects after none = record {
  blocks = after.0;
  joined = sym (append-nil (concat after.0)) ∙ ap (λ (l : List ℕ). concat after.0 ++ l) (sym none) ∙ after.1;
  are = after.2;
  added = after.3;
}

pub no_block : (stated : List (List ℕ × ℕ)) (bytes rest : List ℕ) (objects : List Callee) (offset : ℕ) → After stated bytes rest objects → rest ≢ []
    → ((n : ℕ) → IsFurther (take n rest) → ⊥) → offset ≡ length bytes - length rest → HaveNoBlock bytes offset
no_block stated bytes rest objects offset after some none is = record {
  blocks = after.0;
  rest = rest;
  joined = after.1;
  are = after.2;
  more = some;
  none = none;
  at = omega (arith, is, ap length after.1, length-append (concat after.0) rest);
}
