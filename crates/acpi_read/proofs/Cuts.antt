-- Bytes that are cut into pieces.
use Rattle.std.proofs.Common.{◌≡◌, ℕ, zero, suc, ◌+◌, ◌<◌, ◌≤◌, List, [], ◌∷◌, ◌++◌, length, take, drop, get_or, map, refl, sym, ap, subst, ◌∙◌, arith, append_assoc, length-append, length-drop, inl, inr}
use Rattle.std.specs.Prelude.{Option, Some, None, Result, Ok, Err, IfErr}
use Rattle.std.specs.List.{All, concat}
use Rattle.std.proofs.lemmas.List.{append-nil, take-append-drop, length-take-le, drop-drop, map_push}
use Rattle.acpi_base.specs.Bytes.{field_at}
use Rattle.acpi_base.specs.Walk.{place_offset, place_width, end_of, number_in, type_size, rows_of, least, IsPiece, ArePieces, HasSizes, IsSound, offsets_from, Walks, WalksBy, Tells}
use Rattle.acpi_base.specs.FurtherWalk.{begin_of, full_walk_of, walk_from, further_walk_of, HasNone, AreFoundBy, either_walk}
use Rattle.acpi_base.specs.declared.further_walk.FurtherWalk.{FurtherWalk}
use Rattle.acpi_base.specs.declared.walk.Place.{Place}
use Rattle.acpi_base.specs.declared.walk.Sizes.{Sizes}
use Rattle.acpi_base.specs.declared.walk.Sizes.TheVariants.{EachOf, ToldAt, ByType}
use Rattle.acpi_base.specs.declared.walk.Types.{Types}
use Rattle.acpi_base.specs.declared.walk.Walk.{Walk}
use Rattle.acpi_base.proofs.Walks.{field_front, piece_has_bytes, same_front, one_list, concat_push, pieces_push, type_longer, type_shorter, type_reached}
use Rattle.acpi_read.specs.Pieces.{Refusal, no_memory, bad_structure, bad_count, unknown_source, another, IsFront, NoFront, IsFrontFault, AreCut, NoCut, IsCutFault, IsFaultBy, NoWalk, NoneFollow, refusal_of, IsStructureFault}
use Rattle.acpi_term.specs.declared.read_error.ReadError.{ReadError}

-- ---- the first piece

-- the number in a field at a list's beginning
field_taken : (o w n : ℕ) (rest : List ℕ) → o + w ≤ n → n ≤ length rest → field_at o w (take n rest) ≡ field_at o w rest
field_taken o w n rest reaches fits =
    sym (field_front o w (take n rest) (drop n rest) (omega (arith, reaches, length-take-le n rest fits))) ∙ ap (field_at o w) (take-append-drop n rest)

pub same_front_size : (s t : Sizes) (m n : ℕ) (rest : List ℕ) → s ≡ t → m ≡ n → IsFront t n rest → IsFront s m rest
same_front_size s t m n rest same is front = rw (same, is) front

pub front_each : (n : ℕ) (rest : List ℕ) → n ≤ length rest → IsFront (EachOf n) n rest
front_each n rest fits = record { fits = fits; piece = length-take-le n rest fits }

pub front_told : (place : Place) (n : ℕ) (rest : List ℕ) → end_of place ≤ n → n ≤ length rest → n ≡ number_in place rest → IsFront (ToldAt place) n rest
front_told place n rest reaches fits is =
    let size = length-take-le n rest fits in
    record { fits = fits; piece = (omega (arith, size, reaches), field_taken (place_offset place) (place_width place) n rest reaches fits ∙ sym is ∙ sym size) }

same_value : (m n : ℕ) → Some m ≡ Some n → m ≡ n
same_value m n is = cc

pub front_typed : (kind : Place) (types : Types) (n : ℕ) (rest : List ℕ) → n ≤ length rest → type_size kind (rows_of types) rest ≡ Some n
    → IsFront (ByType kind types) n rest
front_typed kind types n rest fits is =
    let size = length-take-le n rest fits in
    let whole : type_size kind (rows_of types) (take n rest ++ drop n rest) ≡ Some n = ap (type_size kind (rows_of types)) (take-append-drop n rest) ∙ is in
    record { fits = fits; piece = type_shorter kind (rows_of types) (take n rest) (drop n rest) n (omega (arith, size)) whole ∙ ap Some (sym size) }

-- ---- no piece at the front

pub same_no_front : (s t : Sizes) (rest : List ℕ) → s ≡ t → NoFront t rest → NoFront s rest
same_no_front s t rest same none = rw same none

-- a piece at the front doesn't pass the bytes
within : (p q rest : List ℕ) → p ++ q ≡ rest → length p ≤ length rest
within p q rest is = omega (arith, ap length is, length-append p q)

pub none_each : (n : ℕ) (rest : List ℕ) → length rest < n → NoFront (EachOf n) rest
none_each n rest short p q is piece = omega (arith, within p q rest is, piece, short)

-- the number in a piece at the front is its length
told_length : (place : Place) (p q rest : List ℕ) → p ++ q ≡ rest → IsPiece (ToldAt place) p → number_in place rest ≡ length p
told_length place p q rest is piece = ap (number_in place) (sym is) ∙ field_front (place_offset place) (place_width place) p q piece.0 ∙ piece.1

pub none_reached : (place : Place) (rest : List ℕ) → length rest < end_of place → NoFront (ToldAt place) rest
none_reached place rest short p q is piece = omega (arith, within p q rest is, piece.0, short)

pub none_short : (place : Place) (n : ℕ) (rest : List ℕ) → n ≡ number_in place rest → n < end_of place → NoFront (ToldAt place) rest
none_short place n rest told short p q is piece = omega (arith, piece.0, told_length place p q rest is piece, told, short)

pub none_long : (place : Place) (n : ℕ) (rest : List ℕ) → n ≡ number_in place rest → length rest < n → NoFront (ToldAt place) rest
none_long place n rest told long p q is piece = omega (arith, within p q rest is, told_length place p q rest is piece, told, long)

-- the length that a type decides is that of a piece at the front
typed_length : (kind : Place) (types : Types) (p q rest : List ℕ) → p ++ q ≡ rest → IsPiece (ByType kind types) p
    → type_size kind (rows_of types) rest ≡ Some (length p)
typed_length kind types p q rest is piece =
    ap (type_size kind (rows_of types)) (sym is) ∙ type_longer kind (rows_of types) p q (length p) piece

pub none_typed : (kind : Place) (types : Types) (rest : List ℕ) → type_size kind (rows_of types) rest ≡ None → NoFront (ByType kind types) rest
none_typed kind types rest none p q is piece = let no : None ≡ Some (length p) = sym none ∙ typed_length kind types p q rest is piece in absurd cc

pub none_sized : (kind : Place) (types : Types) (n : ℕ) (rest : List ℕ) → type_size kind (rows_of types) rest ≡ Some n → length rest < n
    → NoFront (ByType kind types) rest
none_sized kind types n rest sized long p q is piece =
    let same = same_value n (length p) (sym sized ∙ typed_length kind types p q rest is piece) in omega (arith, within p q rest is, same, long)

-- ---- all pieces

pub no_cut : (s : Sizes) (done : List (List ℕ)) (rest : List ℕ) → HasSizes s → ArePieces s done → 1 ≤ length rest → NoFront s rest → NoCut s (concat done ++ rest)
no_cut s [] rest has all some none [] each is = omega (arith, ap length is, some)
no_cut s [] rest has all some none (p ∷ ps) each is = none p (concat ps) is each.0
no_cut s (d ∷ ds) rest has all some none [] each is =
    omega (arith, ap length is, length-append (d ++ concat ds) rest, length-append d (concat ds), some)
no_cut s (d ∷ ds) rest has all some none (p ∷ ps) each is =
    let both = same_front s p d (concat ps) (concat ds ++ rest) each.0 all.0 (is ∙ append_assoc d (concat ds) rest) in
    no_cut s ds rest has all.1 some none ps each.1 both.1

pub cut_fault : (e : Refusal) (s : Sizes) (start at : ℕ) (bytes : List ℕ) (done : List (List ℕ)) → HasSizes s → ArePieces s done → at < length bytes → concat done ++ drop at bytes ≡ drop start bytes
    → IsFrontFault e s at (drop at bytes) → IsCutFault e s start bytes
cut_fault no_memory s start at bytes done has all inside joined fault = absurd fault
cut_fault (bad_structure offset) s start at bytes done has all inside joined fault =
    (omega (arith, fault.0, inside), rw (← joined) (no_cut s done (drop at bytes) has all (omega (arith, length-drop at bytes, inside)) fault.1))
cut_fault (bad_count offset) s start at bytes done has all inside joined fault = absurd fault
cut_fault (unknown_source offset) s start at bytes done has all inside joined fault =
    (omega (arith, fault.0, inside), rw (← joined) (no_cut s done (drop at bytes) has all (omega (arith, length-drop at bytes, inside)) fault.1), rw fault.0 fault.2)
cut_fault another s start at bytes done has all inside joined fault = absurd fault

offsets_push : (start : ℕ) (ps : List (List ℕ)) (p : List ℕ) → offsets_from start (ps ++ p ∷ []) ≡ offsets_from start ps ++ (start + length (concat ps)) ∷ []
offsets_push start [] p = ap (λ n. n ∷ []) (omega arith)
offsets_push start (q ∷ ps) p =
    ap (λ l. start ∷ l) (offsets_push (start + length q) ps p ∙ ap (λ n. offsets_from (start + length q) ps ++ n ∷ []) (omega (arith, length-append q (concat ps))))

-- What was cut so far, up to an offset.
pub record IsCutSoFar (s : Sizes) (start at : ℕ) (bytes : List ℕ) (pieces : List (List ℕ)) (offsets : List ℕ) : Type 0 where
  pub within : at ≤ length bytes
  pub size : start + length (concat pieces) ≡ at
  pub joined : concat pieces ++ drop at bytes ≡ drop start bytes
  pub each : ArePieces s pieces
  pub places : offsets ≡ offsets_from start pieces

cut_more : (s : Sizes) (start at n : ℕ) (bytes p : List ℕ) (pieces : List (List ℕ)) (offsets : List ℕ) → IsCutSoFar s start at bytes pieces offsets → IsFront s n (drop at bytes) → p ≡ take n (drop at bytes)
    → IsCutSoFar s start (at + n) bytes (pieces ++ p ∷ []) (offsets ++ at ∷ [])
cut_more s start at n bytes p pieces offsets so front is =
    let long : length p ≡ n = ap length is ∙ length-take-le n (drop at bytes) front.fits in
    let rest : p ++ drop (at + n) bytes ≡ drop at bytes =
    ap (λ q. q ++ drop (at + n) bytes) is ∙ ap (λ q. take n (drop at bytes) ++ q) (sym (drop-drop n at bytes)) ∙ take-append-drop n (drop at bytes) in
    record {
      within = omega (arith, front.fits, length-drop at bytes, so.within);
      size = omega (arith, so.size, ap length (concat_push pieces p), length-append (concat pieces) p, long);
      joined = ap (λ b. b ++ drop (at + n) bytes) (concat_push pieces p) ∙ append_assoc (concat pieces) p (drop (at + n) bytes) ∙ ap (λ b. concat pieces ++ b) rest ∙ so.joined;
      each = pieces_push s pieces p so.each (rw is front.piece);
      places = ap (λ l. l ++ at ∷ []) so.places ∙ ap (λ k. offsets_from start pieces ++ k ∷ []) (sym so.size) ∙ sym (offsets_push start pieces p);
    }

-- the same, where the pieces are parts of others
pub cut_pushed : {P : Type 0} (f : P → List ℕ) (g : P → ℕ) (s : Sizes) (start at n : ℕ) (bytes : List ℕ) (xs ys : List P) (x : P) → ys ≡ xs ++ x ∷ [] → IsCutSoFar s start at bytes (map f xs) (map g xs)
    → IsFront s n (drop at bytes) → f x ≡ take n (drop at bytes) → g x ≡ at → IsCutSoFar s start (at + n) bytes (map f ys) (map g ys)
cut_pushed f g s start at n bytes xs ys x more so front is place =
    rw (ap (map f) more ∙ map_push f xs x, ap (map g) more ∙ map_push g xs x ∙ ap (λ k. map g xs ++ k ∷ []) place) (cut_more s start at n bytes (f x) (map f xs) (map g xs) so front is)

pub cut_whole : (s : Sizes) (start at : ℕ) (bytes : List ℕ) (pieces : List (List ℕ)) (offsets : List ℕ) → IsCutSoFar s start at bytes pieces offsets → length bytes ≤ at → AreCut s start bytes pieces offsets
cut_whole s start at bytes pieces offsets so all =
    let none : drop at bytes ≡ [] = nothing (drop at bytes) (omega (arith, length-drop at bytes, all)) in
    record { joined = sym so.joined ∙ ap (λ r. concat pieces ++ r) none ∙ append-nil (concat pieces); each = so.each; places = so.places }
  where
    nothing : (l : List ℕ) → length l ≡ 0 → l ≡ []
    nothing [] h = refl
    nothing (x ∷ l) h = absurd (omega arith)

pub front_goes_on : (s : Sizes) (n : ℕ) (rest : List ℕ) → HasSizes s → IsFront s n rest → 1 ≤ n
front_goes_on s n rest has front = omega (arith, piece_has_bytes s (take n rest) has front.piece, length-take-le n rest front.fits)

-- ---- the number of pieces

pub miscounted : (w : Walk) (bytes : List ℕ) (pieces : List (List ℕ)) (offsets : List ℕ) (n : ℕ) → HasSizes w.sizes → AreCut w.sizes w.start bytes pieces offsets → n ≡ length pieces → (Tells w.count bytes n → ⊥) → (others : List (List ℕ)) → Walks w bytes others → ⊥
miscounted w bytes pieces offsets n has cut is fails others walks =
    let same = one_list w.sizes others pieces has walks.each cut.each (sym walks.joined ∙ cut.joined) in
    fails (λ some. walks.counted some ∙ ap length same ∙ sym is)

-- ---- what each piece reaches

least_reached : (s : Sizes) (p : List ℕ) → IsPiece s p → least s ≤ length p
least_reached (EachOf n) p is = omega (arith, is)
least_reached (ToldAt place) p is = is.0
least_reached (ByType kind types) p is = type_reached kind (rows_of types) p (length p) is

each_reaches : (s : Sizes) (n : ℕ) → n ≤ least s → (ps : List (List ℕ)) → ArePieces s ps → All (λ p. n ≤ length p) ps
each_reaches s n low [] all k d h = absurd (omega arith)
each_reaches s n low (p ∷ ps) all zero d h = omega (arith, low, least_reached s p all.0)
each_reaches s n low (p ∷ ps) all (suc k) d h = each_reaches s n low ps all.1 k d (omega arith)

pub reached_by : (o : Option Walk) (w : Walk) (bytes : List ℕ) → o ≡ Some w → IsSound w → (pieces : List (List ℕ)) → WalksBy o bytes pieces → All (λ piece. end_of w.kind ≤ length piece) pieces
reached_by o w bytes is sound pieces walks = reached w bytes sound pieces (rw is at walks)
  where
    reached : (w : Walk) (bytes : List ℕ) → IsSound w → (pieces : List (List ℕ)) → WalksBy (Some w) bytes pieces → All (λ piece. end_of w.kind ≤ length piece) pieces
    reached w bytes sound pieces by = each_reaches w.sizes (end_of w.kind) sound.kind pieces by.each

-- ---- further tables

-- where no structures follow
pub none_from : (f : FurtherWalk) (bytes : List ℕ) (n : ℕ) → n ≡ begin_of f.walk bytes → (HasNone f bytes → ⊥) → NoWalk (walk_from n f.walk) bytes → NoneFollow f bytes
none_from f bytes n is some none pieces (inl follows) = none pieces (rw is follows.walks)
none_from f bytes n is some none pieces (inr empty) = some empty.0

pub none_later : (f : FurtherWalk) (bytes : List ℕ) (n : ℕ) → n ≡ begin_of f.walk bytes → n < f.least → (HasNone f bytes → ⊥) → NoneFollow f bytes
none_later f bytes n is early some pieces (inl follows) = omega (arith, follows.later, is, early)
none_later f bytes n is early some pieces (inr empty) = some empty.0

pub none_reaches : (f : FurtherWalk) (bytes : List ℕ) → length bytes < f.least → (HasNone f bytes → ⊥) → NoneFollow f bytes
none_reaches f bytes short some pieces (inl follows) = omega (arith, follows.later, follows.walks.reaches, short)
none_reaches f bytes short some pieces (inr empty) = some empty.0

-- an error of the walk is one of the further table
pub fault_from : (e : Refusal) (f : FurtherWalk) (n : ℕ) (bytes : List ℕ) (No Other : Type 0) → (No → Other) → IsFaultBy e (Some (walk_from n f.walk)) bytes No → IsFaultBy e (Some f.walk) bytes Other
fault_from no_memory f n bytes No Other follow fault = tt
fault_from (bad_structure offset) f n bytes No Other follow fault = (fault.0, follow fault.1)
fault_from (bad_count offset) f n bytes No Other follow fault = (fault.0, fault.1, follow fault.2)
fault_from (unknown_source offset) f n bytes No Other follow fault = (fault.0, follow fault.1, fault.2)
fault_from another f n bytes No Other follow fault = absurd fault

fault_by : (e : Refusal) (o : Option Walk) (p : Option FurtherWalk) (f : FurtherWalk) (bytes : List ℕ) → o ≡ None → p ≡ Some f
    → IsFaultBy e (Some f.walk) bytes (NoneFollow f bytes) → IsFaultBy e (either_walk o p) bytes ((pieces : List (List ℕ)) → AreFoundBy o p bytes pieces → ⊥)
fault_by e o p f bytes none some fault = rw (none, some) fault

-- an error of a further table is one of its structures
pub faults_further : {T : Type 0} (r : Result T ReadError) (s : ℕ) (f : FurtherWalk) (bytes table : List ℕ) → s ≡ field_at 0 4 table → full_walk_of s ≡ None → further_walk_of s ≡ Some f → bytes ≡ table
    → IfErr r (λ e. IsFaultBy (refusal_of e) (Some f.walk) bytes (NoneFollow f bytes)) → IfErr r (λ e. IsStructureFault e table)
faults_further (Ok x) s f bytes table told none some same fault = tt
faults_further (Err e) s f bytes table told none some same fault =
    fault_by (refusal_of e) (full_walk_of (field_at 0 4 table)) (further_walk_of (field_at 0 4 table)) f table (ap full_walk_of (sym told) ∙ none) (ap further_walk_of (sym told) ∙ some)
    (subst (λ (b : List ℕ). IsFaultBy (refusal_of e) (Some f.walk) b (NoneFollow f b)) same fault)

pub all_mapped : {P : Type 0} (f : P → List ℕ) (n : ℕ) (xs : List P) (i : ℕ) (d : P) → All (λ p. n ≤ length p) (map f xs) → i < length xs → n ≤ length (f (get_or xs i d))
all_mapped f n [] i d all h = absurd (omega arith)
all_mapped f n (x ∷ xs) zero d all h = all 0 (f d) (omega arith)
all_mapped f n (x ∷ xs) (suc i) d all h = all_mapped f n xs i d (λ k e inside. all (suc k) e (omega (arith, inside))) (omega arith)
