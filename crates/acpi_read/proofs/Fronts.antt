-- The front of bytes that a name was read from, as it is cut off them.
use Rattle.std.proofs.Common.{◌≡◌, ℕ, suc, false, ◌+◌, ◌-◌, ◌<◌, ◌≤◌, List, [], ◌∷◌, ◌++◌, length, take, drop, Option, Some, None, Result, Ok, Err, refl, sym, ap, subst, ◌∙◌, append_assoc, arith}
use Rattle.std.proofs.lemmas.Bool.{le-ltb, ne_eqb}
use Rattle.std.proofs.lemmas.List.{append-nil, take_at, drop_at, length-append}
use Rattle.acpi_base.specs.Bytes.{AreBytes}
use Rattle.acpi_base.proofs.Bytes.{bytes_after}
use Rattle.acpi_term.specs.declared.language.Language.{Language}
use Rattle.acpi_term.specs.Name.{IsNameString, begins_up}
use Rattle.acpi_term.specs.Reading.{Fault, Bad, segment_at, segments_at, several_at, path_at, name_at, above_at, name_string_at, name_in}
use Rattle.acpi_term.proofs.Names.{segment_takes, segments_takes, path_takes, headed, above_takes, name_in_takes, is_name_string, two_parts, many_parts}
use Rattle.acpi_read.specs.Cause.{FailsBy}
use Rattle.acpi_read.proofs.After.{after_front, whole, regrouped}

-- this many bytes can be cut off, and a reading returns these and the others
pub record CutAt (n : ℕ) (bytes : List ℕ) (read : Result (List ℕ × List ℕ) Fault) : Type 0 where
  pub within : n ≤ length bytes
  pub is : read ≡ Ok (take n bytes, drop n bytes)

cut_at_parts : (bytes s rest : List ℕ) (n : ℕ) (read : Result (List ℕ × List ℕ) Fault) → bytes ≡ s ++ rest → n ≡ length s → read ≡ Ok (s, rest) → CutAt n bytes read
cut_at_parts bytes s rest n read is len e =
    let front : take n bytes ≡ s = ap (take n) is ∙ take_at s rest n (sym len) in
    let back : drop n bytes ≡ rest = ap (drop n) is ∙ drop_at s rest n (sym len) in
    record { within = omega (arith, length-append s rest, ap length is); is = rw (front, back) e }

-- ---- several segments

-- what was read of several segments, and what is still to be read
pub record SegmentsRead (count i : ℕ) (bytes rest : List ℕ) : Type 0 where
  pub front : List ℕ
  pub parts : bytes ≡ front ++ rest
  pub is : segments_at count bytes ≡ after_front front (segments_at (count - i) rest)

pub segments_begin : (count : ℕ) (bytes : List ℕ) → SegmentsRead count 0 bytes bytes
segments_begin count bytes =
    let n : count - 0 ≡ count = omega arith in
    record { front = []; parts = refl; is = rw n (whole (segments_at count bytes)) }

pub segments_go_on : (count i : ℕ) (bytes rest s after : List ℕ) → i < count → SegmentsRead count i bytes rest → segment_at rest ≡ Ok (s, after) → SegmentsRead count (i + 1) bytes after
unfolding segments_at
segments_go_on count i bytes rest s after lt so_far e =
    let k : count - i ≡ suc (count - (i + 1)) = omega arith in
    let one : segments_at (count - i) rest ≡ after_front s (segments_at (count - (i + 1)) after) = rw (k, e) refl in
    record {
      front = so_far.front ++ s;
      parts = so_far.parts ∙ ap (λ (l : List ℕ). so_far.front ++ l) (segment_takes rest s after e).1 ∙ sym (append_assoc so_far.front s after);
      is = so_far.is ∙ ap (after_front so_far.front) one ∙ regrouped so_far.front s (segments_at (count - (i + 1)) after);
    }

pub segments_fail : (k : Option Fault) (count i : ℕ) (bytes rest : List ℕ) → i < count → SegmentsRead count i bytes rest → FailsBy k (segment_at rest) → FailsBy k (segments_at count bytes)
unfolding segments_at
segments_fail None count i bytes rest lt so_far h = tt
segments_fail (Some f) count i bytes rest lt so_far h =
    let n : count - i ≡ suc (count - (i + 1)) = omega arith in
    let one : segments_at (count - i) rest ≡ Err f = rw (n, h) refl in
    so_far.is ∙ ap (after_front so_far.front) one

pub segments_end : (count i : ℕ) (bytes rest : List ℕ) → count ≤ i → SegmentsRead count i bytes rest → CutAt (length bytes - length rest) bytes (segments_at count bytes)
unfolding segments_at
segments_end count i bytes rest le so_far =
    let n : count - i ≡ 0 = omega arith in
    let read : segments_at count bytes ≡ Ok (so_far.front, rest) = so_far.is ∙ rw (n, append-nil so_far.front) refl in
    cut_at_parts bytes so_far.front rest (length bytes - length rest) (segments_at count bytes) so_far.parts (omega (arith, ap length so_far.parts, length-append so_far.front rest)) read

pub segments_shorter : (count i : ℕ) (bytes rest : List ℕ) → SegmentsRead count i bytes rest → length rest ≤ length bytes
segments_shorter count i bytes rest so_far = omega (arith, ap length so_far.parts, length-append so_far.front rest)

-- ---- paths and names

pub two_cut : (b : ℕ) (more s r t rest : List ℕ) → b ≡ 46 → segment_at more ≡ Ok (s, r) → segment_at r ≡ Ok (t, rest) → CutAt (1 + length s + length t) (b ∷ more) (path_at (b ∷ more))
unfolding path_at
two_cut b more s r t rest is e f =
    let parts = two_parts b more s r t rest is (segment_takes more s r e).1 (segment_takes r t rest f).1 in
    cut_at_parts (b ∷ more) (46 ∷ s ++ t) rest (1 + length s + length t) (path_at (b ∷ more)) parts (omega (arith, length-append s t)) (rw (is, e, f) refl)

pub several_fail : (k : Option Fault) (b n : ℕ) (after : List ℕ) → b ≡ 47 → 3 ≤ n → FailsBy k (segments_at n after) → FailsBy k (path_at (b ∷ n ∷ after))
unfolding path_at several_at
several_fail None b n after is ge h = tt
several_fail (Some f) b n after is ge h = rw (is, le-ltb n 3 ge, h) refl

pub several_cut : (b n : ℕ) (after s rest : List ℕ) → b ≡ 47 → 3 ≤ n → segments_at n after ≡ Ok (s, rest) → CutAt (2 + length s) (b ∷ n ∷ after) (path_at (b ∷ n ∷ after))
unfolding path_at several_at
several_cut b n after s rest is ge e =
    let parts = many_parts b n after s rest is (segments_takes n after s rest e).1 in
    cut_at_parts (b ∷ n ∷ after) (47 ∷ n ∷ s) rest (2 + length s) (path_at (b ∷ n ∷ after)) parts (omega arith) (rw (is, le-ltb n 3 ge, e) refl)

pub rooted_cut : (b : ℕ) (more s rest : List ℕ) → AreBytes more → b ≡ 92 → path_at more ≡ Ok (s, rest) → CutAt (1 + length s) (b ∷ more) (name_at (b ∷ more))
unfolding name_at
rooted_cut b more s rest fits is e =
    let parts = headed b 92 more s rest is (path_takes more s rest fits e).1 in
    cut_at_parts (b ∷ more) (92 ∷ s) rest (1 + length s) (name_at (b ∷ more)) parts (omega arith) (rw (is, e) refl)

pub is_name : (l : Language) (bytes s rest : List ℕ) → AreBytes bytes → name_in l bytes ≡ Ok (s, rest) → IsNameString s
is_name l bytes s rest fits e = is_name_string l s (name_in_takes l bytes s rest fits e).0

-- ---- names with `^`

-- `^` was passed some times, and what is still to be read
pub record AboveRead (bytes rest : List ℕ) : Type 0 where
  pub front : List ℕ
  pub parts : bytes ≡ front ++ rest
  pub is : above_at bytes ≡ after_front front (above_at rest)

pub above_begins : (bytes : List ℕ) → AboveRead bytes bytes
above_begins bytes = record { front = []; parts = refl; is = whole (above_at bytes) }

pub above_goes_on : (bytes rest after : List ℕ) → rest ≡ 94 ∷ after → AboveRead bytes rest → AboveRead bytes after
unfolding above_at
above_goes_on bytes rest after next so_far =
    let one : above_at rest ≡ after_front (94 ∷ []) (above_at after) = rw next refl in
    record {
      front = so_far.front ++ 94 ∷ [];
      parts = so_far.parts ∙ ap (λ (l : List ℕ). so_far.front ++ l) next ∙ sym (append_assoc so_far.front (94 ∷ []) after);
      is = so_far.is ∙ ap (after_front so_far.front) one ∙ regrouped so_far.front (94 ∷ []) (above_at after);
    }

pub above_fails : (k : Option Fault) (bytes rest : List ℕ) → AboveRead bytes rest → FailsBy k (above_at rest) → FailsBy k (above_at bytes)
above_fails None bytes rest so_far h = tt
above_fails (Some f) bytes rest so_far h = so_far.is ∙ ap (after_front so_far.front) h

pub above_shorter : (bytes rest : List ℕ) → AboveRead bytes rest → length rest ≤ length bytes
above_shorter bytes rest so_far = omega (arith, ap length so_far.parts, length-append so_far.front rest)

pub above_ends : (bytes rest s after : List ℕ) → AreBytes bytes → AboveRead bytes rest → above_at rest ≡ Ok (s, after) → CutAt (length bytes - length rest + length s) bytes (above_at bytes)
above_ends bytes rest s after fits so_far e =
    let f = so_far.front in
    let left : AreBytes rest = bytes_after f rest (subst AreBytes so_far.parts fits) in
    let parts : bytes ≡ (f ++ s) ++ after = so_far.parts ∙ ap (λ (l : List ℕ). f ++ l) (above_takes rest s after left e).1 ∙ sym (append_assoc f s after) in
    let read : above_at bytes ≡ Ok (f ++ s, after) = so_far.is ∙ ap (after_front f) e in
    let long : length bytes - length rest + length s ≡ length (f ++ s) = omega (arith, ap length so_far.parts, length-append f rest, length-append f s) in
    cut_at_parts bytes (f ++ s) after (length bytes - length rest + length s) (above_at bytes) parts long read

pub no_path : (bytes : List ℕ) → bytes ≡ [] → above_at bytes ≡ Err Bad
unfolding above_at
no_path bytes e = rw e refl

pub null_here : (b : ℕ) (rest : List ℕ) → b ≡ 0 → above_at (b ∷ rest) ≡ Ok (0 ∷ [], rest)
unfolding above_at
null_here b rest none = rw none refl

pub path_here : (b : ℕ) (rest : List ℕ) → (b ≡ 0 → ⊥) → begins_up (b ∷ rest) ≡ false → above_at (b ∷ rest) ≡ path_at (b ∷ rest)
unfolding above_at
path_here b rest some down = rw (ne_eqb b 0 some, down) refl

pub upwards_cut : (more s rest : List ℕ) → AreBytes more → above_at more ≡ Ok (s, rest) → CutAt (1 + length s) (94 ∷ more) (name_string_at (94 ∷ more))
unfolding name_string_at
upwards_cut more s rest fits e =
    let parts : 94 ∷ more ≡ (94 ∷ s) ++ rest = ap (λ (l : List ℕ). 94 ∷ l) (above_takes more s rest fits e).1 in
    cut_at_parts (94 ∷ more) (94 ∷ s) rest (1 + length s) (name_string_at (94 ∷ more)) parts (omega arith) (rw e refl)

pub upwards_fail : (k : Option Fault) (more : List ℕ) → FailsBy k (above_at more) → FailsBy k (name_string_at (94 ∷ more))
unfolding name_string_at
upwards_fail None more h = tt
upwards_fail (Some f) more h = rw h refl
