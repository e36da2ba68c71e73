-- Bytes that are written one after another.
use Rattle.std.proofs.Common.{◌≡◌, ℕ, ◌+◌, ◌≤◌, List, ◌++◌, length, take, drop, sym, ap, ◌∙◌, arith, append_assoc, length-append, length-drop}
use Rattle.std.proofs.lemmas.List.{length-take-le, take-append-drop}
use Rattle.acpi_base.specs.Bytes.{put}
use Rattle.acpi_base.proofs.Puts.{put_in, put_comm, parts, length-mid, length-put}

-- two lists, one after the other
pub put_two : (i : ℕ) (a b x : List ℕ) → i + (length a + length b) ≤ length x → put (i + length a) b (put i a x) ≡ put i (a ++ b) x
put_two i a b x within =
    let n = length a in
    let m = length b in
    let p = take i x in
    let mid = take (n + m) (drop i x) in
    let s = drop (n + m) (drop i x) in
    let q = take n mid in
    let r = drop n mid in
    let lp : length p ≡ i = length-take-le i x (omega (arith, within)) in
    let lm : length mid ≡ n + m = length-mid i (n + m) x within in
    let lq : length q ≡ n = length-take-le n mid (omega (arith, lm)) in
    let lr : length r ≡ m = length-drop n mid ∙ omega (arith, lm) in
    let whole : x ≡ p ++ (mid ++ s) = parts i (n + m) x in
    let cut : x ≡ p ++ (q ++ (r ++ s)) = whole ∙ ap (λ (l : List ℕ). p ++ (l ++ s)) (sym (take-append-drop n mid)) ∙ ap (λ (l : List ℕ). p ++ l) (append_assoc q r s) in
    let first : put i a x ≡ (p ++ a) ++ (r ++ s) = ap (put i a) cut ∙ put_in p q (r ++ s) a i lp lq ∙ sym (append_assoc p a (r ++ s)) in
    let second : put (i + n) b ((p ++ a) ++ (r ++ s)) ≡ (p ++ a) ++ (b ++ s) = put_in (p ++ a) r s b (i + n) (length-append p a ∙ omega (arith, lp)) lr in
    let both : put i (a ++ b) x ≡ p ++ ((a ++ b) ++ s) = ap (put i (a ++ b)) whole ∙ put_in p mid s (a ++ b) i lp (lm ∙ sym (length-append a b)) in
    ap (put (i + n) b) first ∙ second ∙ append_assoc p a (b ++ s) ∙ ap (λ (l : List ℕ). p ++ l) (sym (append_assoc a b s)) ∙ sym both

-- three lists
pub put_three : (i : ℕ) (a b c x : List ℕ) → i + (length a + (length b + length c)) ≤ length x
    → put (i + length a + length b) c (put (i + length a) b (put i a x)) ≡ put i (a ++ (b ++ c)) x
put_three i a b c x within =
    let after : i + length a + (length b + length c) ≤ length (put i a x) = rw (length-put i a x (omega (arith, within))) (omega (arith, within)) in
    put_two (i + length a) b c (put i a x) after ∙ put_two i a (b ++ c) x (rw (length-append b c) within)

-- one list, and then another before it
pub put_front : (i : ℕ) (a b x : List ℕ) → i + (length a + length b) ≤ length x → put i a (put (i + length a) b x) ≡ put i (a ++ b) x
put_front i a b x within =
    put_comm i (i + length a) a b x (omega arith) (omega (arith, within)) ∙ put_two i a b x within
