-- Walks of tables.
use Rattle.std.proofs.Common.{rules, ◌≡◌, ℕ, ◌+◌, ◌*◌, ◌≤◌, List, [], ◌∷◌, ◌++◌, length, take, drop, refl, sym, ap, subst, ◌∙◌, arith, length-append, length-drop}
use Rattle.std.specs.Prelude.{Option, Some, None, Bool, true, false, ◌==◌, ◌&&◌, nat_le, if◌then◌else◌}
use Rattle.std.specs.List.{concat}
use Rattle.std.proofs.lemmas.List.{append-nil, take-append-le, drop-append-le, take_at, drop_at}
use Rattle.std.proofs.lemmas.Bool.Decides.{nat_tests}
use Rattle.std.proofs.lemmas.List.Folds.{concat-append}
use Rattle.acpi_base.specs.Bytes.{carried, field_at}
use Rattle.acpi_base.specs.declared.walk.Sizes.{Sizes}
use Rattle.acpi_base.specs.declared.walk.Sizes.TheVariants.{EachOf, ToldAt, ByType}
use Rattle.acpi_base.specs.declared.walk.Place.{Place}
use Rattle.acpi_base.specs.declared.walk.TypeSize.{TypeSize}
use Rattle.acpi_base.specs.declared.walk.TypeSize.TheVariants.{Fixed, Counted}
use Rattle.acpi_base.specs.declared.walk.Walk.{Walk}
use Rattle.acpi_base.specs.Walk.{place_offset, place_width, end_of, number_in, find_size, told_by, size_of, size_by, type_size, rows_of, IsPiece, ArePieces, HasSizes, IsSound, OneWalk}
use Rattle.acpi_base.specs.Walk.{walks, find_row, walk_of, named, WalksBy, OneListOfPieces}

-- a field in the front of a list
pub field_front : (offset w : ℕ) (a b : List ℕ) → offset + w ≤ length a → field_at offset w (a ++ b) ≡ field_at offset w a
field_front offset w a b h =
    ap (λ t. carried (take w t)) (drop-append-le offset a b (omega arith))
    ∙ ap carried (take-append-le w (drop offset a) b (omega (arith, length-drop offset a)))

-- ---- a length that the type decides

-- What says the length of the structure with which bytes begin is within both.
abbrev IsSized : ℕ → Option TypeSize → List ℕ → ℕ → Type 0
IsSized least (Some row) bytes n = (told_by row ≤ length bytes) × (least ≤ n) × (told_by row ≤ n) × (size_of row bytes ≡ n)
IsSized least None bytes n = ⊥

if_some : (b : Bool) (o : Option ℕ) (n : ℕ) → (if b then o else None) ≡ Some n → (b ≡ true) × (o ≡ Some n)
if_some true o n is = (refl, is)
if_some false o n is = absurd cc

if_both : (a b : Bool) (m n : ℕ) → (if a && b then Some m else None) ≡ Some n → (a ≡ true) × (b ≡ true) × (m ≡ n)
if_both true true m n is = (refl, refl, cc)
if_both true false m n is = absurd cc
if_both false b m n is = absurd cc

is_sized : (least : ℕ) (o : Option TypeSize) (bytes : List ℕ) (n : ℕ) → size_by least o bytes ≡ Some n → IsSized least o bytes n
is_sized least None bytes n is = absurd cc
is_sized least (Some row) bytes n is =
    let size = size_of row bytes in
    let told = if_some (nat_le (told_by row) (length bytes)) (if nat_le least size && nat_le (told_by row) size then Some size else None) n is in
    let both = if_both (nat_le least size) (nat_le (told_by row) size) size n told.1 in
    (grind (arith, nat_tests, told.0), grind (arith, nat_tests, both.0, both.2), grind (arith, nat_tests, both.1, both.2), both.2)

sized_by : (least : ℕ) (o : Option TypeSize) (bytes : List ℕ) (n : ℕ) → IsSized least o bytes n → size_by least o bytes ≡ Some n
sized_by least None bytes n is = absurd is
sized_by least (Some row) bytes n is =
    let told : nat_le (told_by row) (length bytes) ≡ true = grind (arith, nat_tests, is.0) in
    let low : nat_le least (size_of row bytes) ≡ true = grind (arith, nat_tests, is.1, is.3) in
    let reached : nat_le (told_by row) (size_of row bytes) ≡ true = grind (arith, nat_tests, is.2, is.3) in
    rw (told, low, reached) (ap Some is.3)

size_front : (row : TypeSize) (p rest : List ℕ) → told_by row ≤ length p → size_of row (p ++ rest) ≡ size_of row p
size_front (Fixed first last size) p rest told = refl
size_front (Counted own size at each) p rest told = ap (λ n. size + each * n) (field_front at 1 p rest told)

sized_longer : (least : ℕ) (o : Option TypeSize) (p rest : List ℕ) (n : ℕ) → IsSized least o p n → IsSized least o (p ++ rest) n
sized_longer least None p rest n is = absurd is
sized_longer least (Some row) p rest n is = (omega (arith, is.0, length-append p rest), is.1, is.2, size_front row p rest is.0 ∙ is.3)

sized_shorter : (least : ℕ) (o : Option TypeSize) (p rest : List ℕ) (n : ℕ) → n ≤ length p → IsSized least o (p ++ rest) n → IsSized least o p n
sized_shorter least None p rest n within is = absurd is
sized_shorter least (Some row) p rest n within is =
    let told : told_by row ≤ length p = omega (arith, is.2, within) in
    (told, is.1, is.2, sym (size_front row p rest told) ∙ is.3)

least_sized : (least : ℕ) (o : Option TypeSize) (bytes : List ℕ) (n : ℕ) → IsSized least o bytes n → least ≤ n
least_sized least None bytes n is = absurd is
least_sized least (Some row) bytes n is = is.1

-- the bytes contain the type, and what its row says is within the structure
pub type_told : (kind : Place) (rows : List TypeSize) (bytes : List ℕ) (n : ℕ) → type_size kind rows bytes ≡ Some n
    → (end_of kind ≤ length bytes) × (size_by (end_of kind) (find_size (number_in kind bytes) rows) bytes ≡ Some n)
type_told kind rows bytes n is =
    let both = if_some (nat_le (end_of kind) (length bytes)) (size_by (end_of kind) (find_size (number_in kind bytes) rows) bytes) n is in
    (grind (arith, nat_tests, both.0), both.1)

pub told_type : (kind : Place) (rows : List TypeSize) (bytes : List ℕ) (n : ℕ) → end_of kind ≤ length bytes
    → size_by (end_of kind) (find_size (number_in kind bytes) rows) bytes ≡ Some n → type_size kind rows bytes ≡ Some n
told_type kind rows bytes n reaches is =
    let reached : nat_le (end_of kind) (length bytes) ≡ true = grind (arith, nat_tests, reaches) in
    rw reached is

-- the structure contains its type
pub type_reached : (kind : Place) (rows : List TypeSize) (bytes : List ℕ) (n : ℕ) → type_size kind rows bytes ≡ Some n → end_of kind ≤ n
type_reached kind rows bytes n is =
    let o = find_size (number_in kind bytes) rows in
    least_sized (end_of kind) o bytes n (is_sized (end_of kind) o bytes n (type_told kind rows bytes n is).1)

number_front : (kind : Place) (p rest : List ℕ) → end_of kind ≤ length p → number_in kind (p ++ rest) ≡ number_in kind p
number_front kind p rest reaches = field_front (place_offset kind) (place_width kind) p rest reaches

-- further bytes don't change the length
pub type_longer : (kind : Place) (rows : List TypeSize) (p rest : List ℕ) (n : ℕ) → type_size kind rows p ≡ Some n → type_size kind rows (p ++ rest) ≡ Some n
type_longer kind rows p rest n is =
    let told = type_told kind rows p n is in
    let least = end_of kind in
    let sized = sized_longer least (find_size (number_in kind p) rows) p rest n (is_sized least (find_size (number_in kind p) rows) p n told.1) in
    told_type kind rows (p ++ rest) n (omega (arith, told.0, length-append p rest))
    (sized_by least _ (p ++ rest) n (subst (λ k. IsSized least (find_size k rows) (p ++ rest) n) (sym (number_front kind p rest told.0)) sized))

-- nor do fewer, as long as the structure is among them
pub type_shorter : (kind : Place) (rows : List TypeSize) (p rest : List ℕ) (n : ℕ) → n ≤ length p → type_size kind rows (p ++ rest) ≡ Some n → type_size kind rows p ≡ Some n
type_shorter kind rows p rest n within is =
    let least = end_of kind in
    let reaches : least ≤ length p = omega (arith, type_reached kind rows (p ++ rest) n is, within) in
    let told = type_told kind rows (p ++ rest) n is in
    let sized = sized_shorter least (find_size (number_in kind (p ++ rest)) rows) p rest n within (is_sized least (find_size (number_in kind (p ++ rest)) rows) (p ++ rest) n told.1) in
    told_type kind rows p n reaches (sized_by least _ p n (subst (λ k. IsSized least (find_size k rows) p n) (number_front kind p rest reaches) sized))

-- rows that say the same of more types
pub type_wider : (kind : Place) (rows more : List TypeSize) (bytes : List ℕ) (n : ℕ)
    → ((k : ℕ) (row : TypeSize) → find_size k rows ≡ Some row → find_size k more ≡ Some row) → type_size kind rows bytes ≡ Some n → type_size kind more bytes ≡ Some n
type_wider kind rows more bytes n wider is =
    let told = type_told kind rows bytes n is in
    let k = number_in kind bytes in
    told_type kind more bytes n told.0 (size_wider (find_size k rows) (find_size k more) (wider k) told.1)
  where
    size_wider : (o p : Option TypeSize) → ((row : TypeSize) → o ≡ Some row → p ≡ Some row) → size_by (end_of kind) o bytes ≡ Some n → size_by (end_of kind) p bytes ≡ Some n
    size_wider None p same is = absurd cc
    size_wider (Some row) p same is = rw (same row refl) is

-- ---- structures

-- how long the structure is that bytes begin with
abbrev front_size : Sizes → List ℕ → Option ℕ
front_size (EachOf size) bytes = Some size
front_size (ToldAt place) bytes = Some (number_in place bytes)
front_size (ByType kind types) bytes = type_size kind (rows_of types) bytes

front_is : (s : Sizes) (p rest : List ℕ) → IsPiece s p → front_size s (p ++ rest) ≡ Some (length p)
front_is (EachOf size) p rest is = ap Some (sym is)
front_is (ToldAt place) p rest is = ap Some (field_front (place_offset place) (place_width place) p rest is.0 ∙ is.1)
front_is (ByType kind types) p rest is = type_longer kind (rows_of types) p rest (length p) is

pub piece_has_bytes : (s : Sizes) (p : List ℕ) → HasSizes s → IsPiece s p → 1 ≤ length p
piece_has_bytes (EachOf size) p has is = omega (arith, has, is)
piece_has_bytes (ToldAt place) p has is = omega (arith, has, is.0)
piece_has_bytes (ByType kind types) p has is = omega (arith, has, type_reached kind (rows_of types) p (length p) is)

same_some : (a b : ℕ) (o p : Option ℕ) → o ≡ p → o ≡ Some a → p ≡ Some b → a ≡ b
same_some a b o p same x y = let e : Some a ≡ Some b = sym x ∙ same ∙ y in cc

-- two pieces with which the same bytes begin are one
pub same_front : (s : Sizes) (p q x y : List ℕ) → IsPiece s p → IsPiece s q → p ++ x ≡ q ++ y → (p ≡ q) × (x ≡ y)
same_front s p q x y a b same =
    let size : length p ≡ length q = same_some (length p) (length q) (front_size s (p ++ x)) (front_size s (q ++ y)) (ap (front_size s) same) (front_is s p x a) (front_is s q y b) in
    (sym (take_at p x (length p) refl) ∙ ap (take (length p)) same ∙ take_at q y (length p) (sym size), sym (drop_at p x (length p) refl) ∙ ap (drop (length p)) same ∙ drop_at q y (length p) (sym size))

pub concat_push : (xss : List (List ℕ)) (x : List ℕ) → concat (xss ++ x ∷ []) ≡ concat xss ++ x
concat_push xss x = concat-append xss (x ∷ []) ∙ ap (λ z. concat xss ++ z) (append-nil x)

-- one piece more
pub pieces_push : (s : Sizes) (ps : List (List ℕ)) (p : List ℕ) → ArePieces s ps → IsPiece s p → ArePieces s (ps ++ p ∷ [])
pieces_push s [] p all one = (one, tt)
pieces_push s (q ∷ qs) p all one = (all.0, pieces_push s qs p all.1 one)

pub one_list : (s : Sizes) (ps qs : List (List ℕ)) → HasSizes s → ArePieces s ps → ArePieces s qs → concat ps ≡ concat qs → ps ≡ qs
one_list s [] [] has a b same = refl
one_list s [] (q ∷ qs) has a b same = absurd (omega (arith, piece_has_bytes s q has b.0, ap length same, length-append q (concat qs)))
one_list s (p ∷ ps) [] has a b same = absurd (omega (arith, piece_has_bytes s p has a.0, ap length same, length-append p (concat ps)))
one_list s (p ∷ ps) (q ∷ qs) has a b same =
    let both = same_front s p q (concat ps) (concat qs) a.0 b.0 same in
    let first = both.0 in
    let others = one_list s ps qs has a.1 b.1 both.1 in
    cc

pub one_walk : OneWalk
one_walk w bytes ps qs has a b = one_list w.sizes ps qs has a.each b.each (sym a.joined ∙ b.joined)

-- ---- the walks of all signatures

pub if_found : {W : Type 0} (P : W → Type 0) (b : Bool) (x : W) (o : Option W) (w : W) → P x → (o ≡ Some w → P w) → (if b then Some x else o) ≡ Some w → P w
if_found P true x o w holds rest is = let same : x ≡ w = cc in subst P same holds
if_found P false x o w holds rest is = rest is

-- what holds of each row of a list
abbrev pub HoldsOfRows : {W : Type 0} → (W → Type 0) → List (List ℕ × W) → Type 0
HoldsOfRows P [] = Unit {0}
HoldsOfRows P (row ∷ rows) = P row.1 × HoldsOfRows P rows

-- holds of the row that is found
pub found_holds : {W : Type 0} (P : W → Type 0) (s : ℕ) (rows : List (List ℕ × W)) (w : W) → HoldsOfRows P rows → find_row s rows ≡ Some w → P w
found_holds P s [] w all is = absurd cc
found_holds P s (row ∷ rows) w all is = if_found P (s == named row.0) row.1 (find_row s rows) w all.0 (found_holds P s rows w all.1) is

all_are_sound : HoldsOfRows IsSound walks
all_are_sound = search rules

pub is_sound : (s : ℕ) (w : Walk) → walk_of s ≡ Some w → IsSound w
is_sound s w is = found_holds IsSound s walks w all_are_sound is

pub one_by : (w : Walk) (bytes : List ℕ) (ps qs : List (List ℕ)) → IsSound w → WalksBy (Some w) bytes ps → WalksBy (Some w) bytes qs → ps ≡ qs
one_by w bytes ps qs sound a b = one_walk w bytes ps qs sound.has a b

pieces_by : (o : Option Walk) → ((w : Walk) → o ≡ Some w → IsSound w) → (bytes : List ℕ) (ps qs : List (List ℕ)) → WalksBy o bytes ps → WalksBy o bytes qs → ps ≡ qs
pieces_by (Some w) sound bytes ps qs a b = one_by w bytes ps qs (sound w refl) a b
pieces_by None sound bytes ps qs a b = a ∙ sym b

pub one_list_of_pieces : OneListOfPieces
one_list_of_pieces bytes ps qs a b = pieces_by (walk_of (field_at 0 4 bytes)) (is_sound (field_at 0 4 bytes)) bytes ps qs a b
