-- Structures of two parts.
use Rattle.std.proofs.Common.{◌≡◌, ℕ, ◌+◌, ◌*◌, ◌/◌, ◌%◌, ◌<◌, ◌^◌, List, [], ◌++◌, ap, ◌∙◌, arith}
use Rattle.std.proofs.lemmas.List.{append-nil}

pub two_parts : (h b head body : List ℕ) → h ≡ head → b ≡ body → h ++ (b ++ []) ≡ head ++ body
two_parts h b head body first second = ap (λ x. x ++ (b ++ [])) first ∙ ap (λ x. head ++ x) (append-nil b ∙ second)

-- a length of two bytes, as it is told
pub word_told : (n : ℕ) → n < 2 ^ 16 → n % 256 + 256 * (n / 256 % 256 + 256 * 0) ≡ n
word_told n small = omega arith
