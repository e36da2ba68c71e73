-- Fields of lists over whose parts others are written, and rows of a matrix.
use Rattle.std.proofs.Common.{◌≡◌, ℕ, ◌+◌, ◌-◌, ◌*◌, ◌/◌, ◌<◌, ◌≤◌, List, ◌++◌, length, take, drop, replicate, sym, ap, ◌∙◌, arith, append_assoc, length-append}
use Rattle.std.proofs.lemmas.List.{take-append-le, drop-append-le, take_at, drop_at, length-take-le, length-drop, take-append-drop, drop-replicate, take-replicate}
use Rattle.std.proofs.lemmas.Nat.{div-mul-add}
use Rattle.std.proofs.lemmas.Slice.{drop-append-drop}
use Rattle.std.proofs.Math.Seq.{drop-append-add}
use Rattle.acpi_base.specs.Bytes.{put, carried, field_at}

-- the field that is written over
pub field_put : (p w : ℕ) (b x : List ℕ) → length b ≡ w → p + w ≤ length x → field_at p w (put p b x) ≡ carried b
unfolding put
field_put p w b x size within =
    let begins : length (take p x) ≡ p = length-take-le p x (omega arith) in
    ap (λ l. carried (take w l)) (drop_at (take p x) (b ++ drop (p + length b) x) p begins) ∙ ap carried (take_at b (drop (p + length b) x) w size)

-- fields of the first of two lists, and of the second
pub field_append : (o w : ℕ) (x y : List ℕ) → o + w ≤ length x → field_at o w (x ++ y) ≡ field_at o w x
field_append o w x y within =
    ap (λ l. carried (take w l)) (drop-append-le o x y (omega arith)) ∙ ap carried (take-append-le w (drop o x) y (omega (arith, length-drop o x)))

pub field_behind : (k o w : ℕ) (x y : List ℕ) → length x ≡ k → field_at (k + o) w (x ++ y) ≡ field_at o w y
field_behind k o w x y size = ap (λ n. field_at (n + o) w (x ++ y)) (sym size) ∙ ap (λ l. carried (take w l)) (drop-append-add x y o)

-- fields before what is written over, and behind it
pub field_before : (o w p : ℕ) (b x : List ℕ) → o + w ≤ p → p ≤ length x → field_at o w (put p b x) ≡ field_at o w x
unfolding put
field_before o w p b x low within =
    let begins : length (take p x) ≡ p = length-take-le p x within in
    field_append o w (take p x) (b ++ drop (p + length b) x) (omega (arith, begins))
    ∙ sym (field_append o w (take p x) (drop p x) (omega (arith, begins))) ∙ ap (field_at o w) (take-append-drop p x)

pub field_after : (o w p : ℕ) (b x : List ℕ) → p + length b ≤ o → p + length b ≤ length x → field_at o w (put p b x) ≡ field_at o w x
unfolding put
field_after o w p b x high within =
    ap (λ l. carried (take w l))
    (ap (drop o) (sym (append_assoc (take p x) b (drop (p + length b) x)))
    ∙ drop-append-drop (p + length b) x (take p x ++ b) o high (omega (arith, length-append (take p x) b, length-take-le p x (omega arith))))

-- a field of a list of one value
pub field_filled : (o w n v : ℕ) → o + w ≤ n → field_at o w (replicate n v) ≡ carried (replicate w v)
field_filled o w n v within = ap (λ l. carried (take w l)) (drop-replicate o n v) ∙ ap carried (take-replicate w (n - o) v (omega arith))

-- a place in a matrix whose rows have n places is in one row and one column
pub same_place : (n b a d c : ℕ) → a < n → c < n → b * n + a ≡ d * n + c → (b ≡ d) × (a ≡ c)
same_place n b a d c small small' same =
    let row : b ≡ d = sym (div-mul-add b n a small) ∙ ap (λ k. k / n) same ∙ div-mul-add d n c small' in
    (row, omega (arith, same, ap (λ k. k * n) row))
