use Rattle.std.proofs.Common.{◌≡◌, ℕ, ◌+◌, ◌%◌, ◌≤◌, List, ◌++◌, length, take, drop, refl, sym, ap, ◌∙◌, arith, append_assoc, length-append, length-take, length-drop}
use Rattle.std.specs.Prelude.{sum}
use Rattle.std.proofs.lemmas.List.{take-append-le, drop-append-le, take_at, drop_at, length-take-le, take-append-drop, drop-drop}
use Rattle.std.proofs.lemmas.List.Sums.{sum_by-append}
use Rattle.std.proofs.lemmas.Slice.{drop-append-drop}
use borrow.Rule.Slice.PartMut.{put_mid}
use Rattle.acpi_base.specs.Bytes.{put}

-- a write over the middle of three parts
pub put_in : (p m s a : List ℕ) (i : ℕ) → length p ≡ i → length m ≡ length a → put i a (p ++ (m ++ s)) ≡ p ++ (a ++ s)
unfolding put
put_in p m s a i e f =
    let t : take i (p ++ (m ++ s)) ≡ p = take_at p (m ++ s) i e in
    let n : length (p ++ m) ≡ i + length a = length-append p m ∙ omega arith in
    let d : drop (i + length a) (p ++ (m ++ s)) ≡ s = rw (← append_assoc p m s) (drop_at (p ++ m) s (i + length a) n) in
    rw (t, d)

-- three parts of a list
pub parts : (i n : ℕ) (x : List ℕ) → x ≡ take i x ++ (take n (drop i x) ++ drop n (drop i x))
parts i n x = sym (rw (take-append-drop n (drop i x)) (take-append-drop i x))

pub length-mid : (i n : ℕ) (x : List ℕ) → i + n ≤ length x → length (take n (drop i x)) ≡ n
length-mid i n x h = length-take-le n (drop i x) (rw (length-drop i x) (omega arith))

pub length-put : (i : ℕ) (a x : List ℕ) → i + length a ≤ length x → length (put i a x) ≡ length x
unfolding put
length-put i a x h = simp (length-append, length-take, length-drop) (omega arith)

pub put-put : (i : ℕ) (a b x : List ℕ) → length a ≡ length b → i + length a ≤ length x → put i a (put i b x) ≡ put i a x
put-put i a b x e h =
    let n = length a in
    let p = take i x in let m = take n (drop i x) in let s = drop n (drop i x) in
    let lp : length p ≡ i = length-take-le i x (omega arith) in
    let lm : length m ≡ n = length-mid i n x h in
    let one : put i b x ≡ p ++ (b ++ s) = ap (put i b) (parts i n x) ∙ put_in p m s b i lp (lm ∙ e) in
    let two : put i a (p ++ (b ++ s)) ≡ p ++ (a ++ s) = put_in p b s a i lp (sym e) in
    let three : put i a x ≡ p ++ (a ++ s) = ap (put i a) (parts i n x) ∙ put_in p m s a i lp lm in
    ap (put i a) one ∙ two ∙ sym three

pub put_comm : (i j : ℕ) (a b x : List ℕ) → i + length a ≤ j → j + length b ≤ length x → put i a (put j b x) ≡ put j b (put i a x)
put_comm i j a b x h k =
    let n = length a in let m = length b in
    let front = take j x in let mid = take m (drop j x) in let tail = drop m (drop j x) in
    let p = take i front in let q = take n (drop i front) in let r = drop n (drop i front) in
    let lf : length front ≡ j = length-take-le j x (omega arith) in
    let lm : length mid ≡ m = length-mid j m x k in
    let lp : length p ≡ i = length-take-le i front (rw lf (omega arith)) in
    let lq : length q ≡ n = length-mid i n front (rw lf h) in
    let cut : x ≡ front ++ (mid ++ tail) = parts j m x in
    let cut2 : front ≡ p ++ (q ++ r) = parts i n front in
    -- b first
    let b1 : put j b x ≡ front ++ (b ++ tail) = ap (put j b) cut ∙ put_in front mid tail b j lf lm in
    let group : (z : List ℕ) → front ++ z ≡ p ++ (q ++ (r ++ z)) = λ z. ap (λ f. f ++ z) cut2 ∙ simp append_assoc in
    let b2 : put i a (put j b x) ≡ p ++ (a ++ (r ++ (b ++ tail))) = ap (put i a) (b1 ∙ group (b ++ tail)) ∙ put_in p q (r ++ (b ++ tail)) a i lp lq in
    -- a first
    let a1 : put i a x ≡ p ++ (a ++ (r ++ (mid ++ tail))) = ap (put i a) (cut ∙ group (mid ++ tail)) ∙ put_in p q (r ++ (mid ++ tail)) a i lp lq in
    let head = p ++ (a ++ r) in
    let lh : length head ≡ j = omega (arith, length-append p (a ++ r), length-append a r, length-append p (q ++ r), length-append q r, ap length cut2, lf, lq, lp) in
    let regroup : (z : List ℕ) → p ++ (a ++ (r ++ z)) ≡ head ++ z = λ z. simp append_assoc in
    let a2 : put j b (put i a x) ≡ head ++ (b ++ tail) = ap (put j b) (a1 ∙ regroup (mid ++ tail)) ∙ put_in head mid tail b j lh lm in
    b2 ∙ regroup (b ++ tail) ∙ sym a2

pub sum-put : (i : ℕ) (a x : List ℕ) → i + length a ≤ length x → sum (put i a x) + sum (take (length a) (drop i x)) ≡ sum x + sum a
sum-put i a x h =
    let n = length a in
    let p = take i x in let m = take n (drop i x) in let s = drop n (drop i x) in
    let lp : length p ≡ i = length-take-le i x (omega arith) in
    let lm : length m ≡ n = length-mid i n x h in
    let e : put i a x ≡ p ++ (a ++ s) = ap (put i a) (parts i n x) ∙ put_in p m s a i lp lm in
    let l : sum (put i a x) ≡ sum p + (sum a + sum s) = ap sum e ∙ sum_by-append (λ v. v) p (a ++ s) ∙ ap (λ z. sum p + z) (sum_by-append (λ v. v) a s) in
    let r : sum x ≡ sum p + (sum m + sum s) = ap sum (parts i n x) ∙ sum_by-append (λ v. v) p (m ++ s) ∙ ap (λ z. sum p + z) (sum_by-append (λ v. v) m s) in
    omega (arith, l, r)

-- what `copy_from_slice` leaves
pub put_mid-put : (at k : ℕ) (xs ys w : List ℕ) → ys ≡ w → k ≡ length w → put_mid at k xs ys ≡ put at w xs
unfolding put
put_mid-put at k xs ys w e f = rw (e, f, drop-drop (length w) at xs) refl

pub sum_step : (r s1 s2 m a f0 f1 : ℕ) → (s1 + m) % 256 ≡ r → s2 ≡ (s1 + a) % 256 → f1 + m ≡ f0 + a → (s2 + f0) % 256 ≡ (r + f1) % 256
sum_step r s1 s2 m a f0 f1 h k e = omega arith

-- bytes after those that are written over
pub put-append : (i : ℕ) (a x y : List ℕ) → i + length a ≤ length x → put i a (x ++ y) ≡ put i a x ++ y
unfolding put
put-append i a x y h = rw (take-append-le i x y (omega arith), drop-append-le (i + length a) x y h) (simp append_assoc)

pub take-put : (n i : ℕ) (a x : List ℕ) → n ≤ i → i ≤ length x → take n (put i a x) ≡ take n x
unfolding put
take-put n i a x h k =
    take-append-le n (take i x) (a ++ drop (i + length a) x) (omega (arith, length-take-le i x k)) ∙ sym (take-append-le n (take i x) (drop i x) (omega (arith, length-take-le i x k))) ∙ ap (take n) (take-append-drop i x)

drop-put : (n i : ℕ) (a x : List ℕ) → i + length a ≤ n → i + length a ≤ length x → drop n (put i a x) ≡ drop n x
unfolding put
drop-put n i a x h k =
    ap (drop n) (sym (append_assoc (take i x) a (drop (i + length a) x)))
    ∙ drop-append-drop (i + length a) x (take i x ++ a) n h (omega (arith, length-append (take i x) a, length-take-le i x (omega arith)))

-- what is written over doesn't matter
pub put_over : (i j : ℕ) (a b x : List ℕ) → i ≤ j → j + length b ≤ i + length a → i + length a ≤ length x → put i a (put j b x) ≡ put i a x
unfolding put
put_over i j a b x low high within =
    let front : take i (put j b x) ≡ take i x = take-put i j b x low (omega arith) in
    let back : drop (i + length a) (put j b x) ≡ drop (i + length a) x = drop-put (i + length a) j b x high (omega arith) in
    rw (front, back) refl
