-- All bytes of a reader.
use Rattle.std.proofs.Common.{◌≡◌, ◌^◌, ◌≤◌, ◌∙◌, ap, ℕ, min, List, Option, Some, None, IfSome, length, take, arith}
use Rattle.std.proofs.lemmas.List.{length-take, take_all}

-- where fewer were read than could be
pub whole : (known : Option (List ℕ)) (bytes : List ℕ) → length bytes ≤ 4294967295
    → IfSome known (λ file. bytes ≡ take (2 ^ 32) file) → IfSome known (λ file. bytes ≡ file)
whole None bytes short is = tt
whole (Some file) bytes short is =
    let l : length bytes ≡ min (2 ^ 32) (length file) = ap length is ∙ length-take (2 ^ 32) file in
    is ∙ take_all (2 ^ 32) file (omega (arith, l, short))
