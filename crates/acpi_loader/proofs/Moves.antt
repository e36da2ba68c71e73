-- What commands do to a part of a file.
use Rattle.std.proofs.Common.{◌≡◌, ℕ, suc, ◌+◌, ◌*◌, ◌%◌, ◌^◌, ◌<◌, ◌≤◌, List, [], ◌∷◌, ◌++◌, length, take, drop, refl, sym, ap, ◌∙◌, arith, append_assoc, length-append}
use Rattle.std.specs.Prelude.{sum}
use Rattle.std.proofs.Math.Seq.{drop-append-add}
use Rattle.std.proofs.lemmas.List.{take_at, drop_at, take-append-le, drop-append-le, length-drop, length-take-le, take-append-drop, append-nil}
use Rattle.acpi_base.specs.Bytes.{le, put, carried, complement, field_at}
use Rattle.acpi_base.proofs.Bytes.{carried_le, length_le}
use Rattle.acpi_base.proofs.Puts.{put_in, put-append}
use Rattle.acpi_loader.specs.Firmware.{pointed, summed}

-- bytes that are written over those behind others
pub put_behind : (n j : ℕ) (v p y : List ℕ) → length p ≡ n → j + length v ≤ length y → put (n + j) v (p ++ y) ≡ p ++ put j v y
unfolding put
put_behind n j v p y at within =
    let front = take j y in
    let mid = take (length v) (drop j y) in
    let back = drop (length v) (drop j y) in
    let lf : length front ≡ j = length-take-le j y (omega arith) in
    let lm : length mid ≡ length v = length-take-le (length v) (drop j y) (omega (arith, length-drop j y)) in
    let cut : y ≡ front ++ (mid ++ back) = sym (ap (λ l. front ++ l) (take-append-drop (length v) (drop j y)) ∙ take-append-drop j y) in
    let here : put j v y ≡ front ++ (v ++ back) = ap (put j v) cut ∙ put_in front mid back v j lf lm in
    let there : put (n + j) v ((p ++ front) ++ (mid ++ back)) ≡ (p ++ front) ++ (v ++ back)
    = put_in (p ++ front) mid back v (n + j) (omega (arith, length-append p front, at, lf)) lm in
    ap (λ l. put (n + j) v (p ++ l)) cut ∙ ap (put (n + j) v) (sym (append_assoc p front (mid ++ back))) ∙ there
    ∙ append_assoc p front (v ++ back) ∙ ap (λ l. p ++ l) (sym here)

-- a write in the middle of three parts
pub put_within : (n j : ℕ) (v p x r : List ℕ) → length p ≡ n → j + length v ≤ length x → put (n + j) v (p ++ (x ++ r)) ≡ p ++ (put j v x ++ r)
put_within n j v p x r at within =
    put_behind n j v p (x ++ r) at (omega (arith, length-append x r, within)) ∙ ap (λ l. p ++ l) (put-append j v x r within)

-- the bytes in the middle of three parts
pub part_within : (n j w : ℕ) (p x r : List ℕ) → length p ≡ n → j + w ≤ length x → take w (drop (n + j) (p ++ (x ++ r))) ≡ take w (drop j x)
part_within n j w p x r at within =
    let place : n + j ≡ length p + j = omega (arith, at) in
    ap (λ k. take w (drop k (p ++ (x ++ r)))) place
    ∙ ap (take w) (drop-append-add p (x ++ r) j ∙ drop-append-le j x r (omega arith))
    ∙ take-append-le w (drop j x) r (omega (arith, length-drop j x))

-- a pointer of a table that stands between others
pub pointed_within : (n j t : ℕ) (p x r : List ℕ) → length p ≡ n → j + 8 ≤ length x → pointed (n + j) t (p ++ (x ++ r)) ≡ p ++ (pointed j t x ++ r)
pointed_within n j t p x r at within =
    ap (λ b. put (n + j) (le 8 (carried b + t)) (p ++ (x ++ r))) (part_within n j 8 p x r at within)
    ∙ put_within n j (le 8 (field_at j 8 x + t)) p x r at (omega (arith, within, length_le 8 (field_at j 8 x + t)))

-- an address is added to a number that stands behind these bytes
pub pointed_here : (n k t v : ℕ) (p s : List ℕ) → length p ≡ n → k < 2 ^ 64 → v ≡ k + t → pointed n t (p ++ (le 8 k ++ s)) ≡ p ++ (le 8 v ++ s)
pointed_here n k t v p s at small is =
    let before : field_at n 8 (p ++ (le 8 k ++ s)) ≡ k
    = ap (λ b. carried (take 8 b)) (drop_at p (le 8 k ++ s) n at) ∙ ap carried (take_at (le 8 k) s 8 (length_le 8 k)) ∙ carried_le 8 k small in
    ap (λ a. put n (le 8 (a + t)) (p ++ (le 8 k ++ s))) before
    ∙ ap (λ a. put n (le 8 a) (p ++ (le 8 k ++ s))) (sym is)
    ∙ put_in p (le 8 k) s (le 8 v) n at (length_le 8 k ∙ sym (length_le 8 v))

-- ---- checksums

-- the checksum behind these bytes
pub checked : (m c d : ℕ) (h s : List ℕ) → length h ≡ m → put m (d ∷ []) (h ++ c ∷ s) ≡ h ++ d ∷ s
checked m c d h s at = put_in h (c ∷ []) s (d ∷ []) m at refl

summed_byte : (n : ℕ) → (0 + complement n) % 256 ≡ complement n
summed_byte n = omega arith

-- a checksum of 0 behind these bytes, which is that of all of them
pub summed_here : (m size : ℕ) (h s : List ℕ) → length h ≡ m → size ≡ length (h ++ 0 ∷ s)
    → summed m 0 size (h ++ 0 ∷ s) ≡ h ++ complement (sum (h ++ 0 ∷ s)) ∷ s
summed_here m size h s at all =
    let x = h ++ 0 ∷ s in
    let was : field_at m 1 x ≡ 0 = ap (λ b. carried (take 1 b)) (drop_at h (0 ∷ s) m at) in
    let whole : take size x ≡ x = ap (λ k. take k x) all ∙ ap (take (length x)) (sym (append-nil x)) ∙ take_at x [] (length x) refl in
    ap (λ k. put m ((k + complement (sum (take size x))) % 256 ∷ []) x) was
    ∙ ap (λ l. put m ((0 + complement (sum l)) % 256 ∷ []) x) whole
    ∙ ap (λ k. put m (k ∷ []) x) (summed_byte (sum x))
    ∙ checked m 0 (complement (sum x)) h s at

-- the checksum of a table that stands between others
pub summed_within : (n j size : ℕ) (p x r : List ℕ) → length p ≡ n → size ≡ length x → j + 1 ≤ size
    → summed (n + j) n size (p ++ (x ++ r)) ≡ p ++ (summed j 0 size x ++ r)
summed_within n j size p x r at all within =
    let whole : take size (drop n (p ++ (x ++ r))) ≡ take size x
    = ap (take size) (drop_at p (x ++ r) n at) ∙ take-append-le size x r (omega (arith, all)) in
    let inside : j + 1 ≤ length x = omega (arith, all, within) in
    let c = (field_at j 1 x + complement (sum (take size x))) % 256 in
    ap (λ b. put (n + j) ((carried b + complement (sum (take size (drop n (p ++ (x ++ r)))))) % 256 ∷ []) (p ++ (x ++ r))) (part_within n j 1 p x r at inside)
    ∙ ap (λ l. put (n + j) ((field_at j 1 x + complement (sum l)) % 256 ∷ []) (p ++ (x ++ r))) whole
    ∙ put_within n j (c ∷ []) p x r at inside
