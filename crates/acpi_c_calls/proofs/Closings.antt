-- Bytes that are moved up, with others before and after them.
use Rattle.std.proofs.Common.{◌≡◌, ℕ, ◌+◌, ◌-◌, ◌≤◌, List, ◌++◌, length, take, drop, sym, ap, ◌∙◌, arith, append_assoc, length-append}
use Rattle.std.specs.List.{copy_within}
use Rattle.acpi_base.specs.Bytes.{put}
use Rattle.acpi_base.proofs.Puts.{length-mid}
use Rattle.acpi_c_calls.proofs.Joins.{put_two, put_front}

-- bytes that are copied to another place
moved : (x : List ℕ) (at end to : ℕ) → at ≤ end → end ≤ length x → copy_within x at end to ≡ put to (take (end - at) (drop at x)) x
unfolding put
moved x at end to order within =
    let c = take (end - at) (drop at x) in
    let lc : length c ≡ end - at = length-mid at (end - at) x (omega (arith, order, within)) in
    append_assoc (take to x) c (drop (to + (end - at)) x) ∙ ap (λ (n : ℕ). take to x ++ (c ++ drop (to + n) x)) (sym lc)

pub surrounded : (x first second last : List ℕ) (at end : ℕ) → at ≤ end → end + (length first + length second) + length last ≤ length x
    → put at first (put (at + length first) second (put (at + (length first + length second) + (end - at)) last (copy_within x at end (at + (length first + length second)))))
    ≡ put at (first ++ (second ++ (take (end - at) (drop at x) ++ last))) x
surrounded x first second last at end order room =
    let c = take (end - at) (drop at x) in
    let lc : length c ≡ end - at = length-mid at (end - at) x (omega (arith, order, room)) in
    let to = at + (length first + length second) in
    let rest = c ++ last in
    let lr : length rest ≡ (end - at) + length last = length-append c last ∙ omega (arith, lc) in
    let s1 : copy_within x at end to ≡ put to c x = moved x at end to order (omega (arith, room)) in
    let s2 : put (to + (end - at)) last (put to c x) ≡ put to rest x =
    ap (λ (n : ℕ). put (to + n) last (put to c x)) (sym lc) ∙ put_two to c last x (omega (arith, lc, order, room)) in
    let same : to ≡ at + length first + length second = omega arith in
    let s3 : put (at + length first) second (put to rest x) ≡ put (at + length first) (second ++ rest) x =
    ap (λ (n : ℕ). put (at + length first) second (put n rest x)) same ∙ put_front (at + length first) second rest x (omega (arith, lr, order, room)) in
    let s4 : put at first (put (at + length first) (second ++ rest) x) ≡ put at (first ++ (second ++ rest)) x =
    put_front at first (second ++ rest) x (omega (arith, lr, length-append second rest, order, room)) in
    ap (λ (l : List ℕ). put at first (put (at + length first) second l)) (ap (put (to + (end - at)) last) s1 ∙ s2)
    ∙ ap (put at first) s3 ∙ s4
