-- UUIDs that are read as they are shown.
use Rattle.std.proofs.Common.{◌≡◌, ℕ, Option, Some, List, [], ◌∷◌, ◌++◌, reverse, refl, arith}
use Rattle.acpi_aml.specs.Uuid.{grouped}
use Rattle.acpi_terms_text.specs.Laws.{UuidTextsAreRead}
use Rattle.acpi_terms_text.proofs.Pairs.{bytes_read}

grouped_is : (o p q r s : Option (List ℕ)) (a b c d e : List ℕ) → o ≡ Some a → p ≡ Some b → q ≡ Some c → r ≡ Some d → s ≡ Some e
    → grouped o p q r s ≡ Some (reverse a ++ (reverse b ++ (reverse c ++ (d ++ e))))
grouped_is o p q r s a b c d e io ip iq ir is = rw (io, ip, iq, ir, is) refl

pub uuid_read : UuidTextsAreRead
uuid_read [] is = absurd (omega (arith, is.size))
uuid_read (x0 ∷ []) is = absurd (omega (arith, is.size))
uuid_read (x0 ∷ x1 ∷ []) is = absurd (omega (arith, is.size))
uuid_read (x0 ∷ x1 ∷ x2 ∷ []) is = absurd (omega (arith, is.size))
uuid_read (x0 ∷ x1 ∷ x2 ∷ x3 ∷ []) is = absurd (omega (arith, is.size))
uuid_read (x0 ∷ x1 ∷ x2 ∷ x3 ∷ x4 ∷ []) is = absurd (omega (arith, is.size))
uuid_read (x0 ∷ x1 ∷ x2 ∷ x3 ∷ x4 ∷ x5 ∷ []) is = absurd (omega (arith, is.size))
uuid_read (x0 ∷ x1 ∷ x2 ∷ x3 ∷ x4 ∷ x5 ∷ x6 ∷ []) is = absurd (omega (arith, is.size))
uuid_read (x0 ∷ x1 ∷ x2 ∷ x3 ∷ x4 ∷ x5 ∷ x6 ∷ x7 ∷ []) is = absurd (omega (arith, is.size))
uuid_read (x0 ∷ x1 ∷ x2 ∷ x3 ∷ x4 ∷ x5 ∷ x6 ∷ x7 ∷ x8 ∷ []) is = absurd (omega (arith, is.size))
uuid_read (x0 ∷ x1 ∷ x2 ∷ x3 ∷ x4 ∷ x5 ∷ x6 ∷ x7 ∷ x8 ∷ x9 ∷ []) is = absurd (omega (arith, is.size))
uuid_read (x0 ∷ x1 ∷ x2 ∷ x3 ∷ x4 ∷ x5 ∷ x6 ∷ x7 ∷ x8 ∷ x9 ∷ x10 ∷ []) is = absurd (omega (arith, is.size))
uuid_read (x0 ∷ x1 ∷ x2 ∷ x3 ∷ x4 ∷ x5 ∷ x6 ∷ x7 ∷ x8 ∷ x9 ∷ x10 ∷ x11 ∷ []) is = absurd (omega (arith, is.size))
uuid_read (x0 ∷ x1 ∷ x2 ∷ x3 ∷ x4 ∷ x5 ∷ x6 ∷ x7 ∷ x8 ∷ x9 ∷ x10 ∷ x11 ∷ x12 ∷ []) is = absurd (omega (arith, is.size))
uuid_read (x0 ∷ x1 ∷ x2 ∷ x3 ∷ x4 ∷ x5 ∷ x6 ∷ x7 ∷ x8 ∷ x9 ∷ x10 ∷ x11 ∷ x12 ∷ x13 ∷ []) is = absurd (omega (arith, is.size))
uuid_read (x0 ∷ x1 ∷ x2 ∷ x3 ∷ x4 ∷ x5 ∷ x6 ∷ x7 ∷ x8 ∷ x9 ∷ x10 ∷ x11 ∷ x12 ∷ x13 ∷ x14 ∷ []) is = absurd (omega (arith, is.size))
uuid_read (x0 ∷ x1 ∷ x2 ∷ x3 ∷ x4 ∷ x5 ∷ x6 ∷ x7 ∷ x8 ∷ x9 ∷ x10 ∷ x11 ∷ x12 ∷ x13 ∷ x14 ∷ x15 ∷ []) is =
    let are = is.are in
    grouped_is _ _ _ _ _ (x3 ∷ x2 ∷ x1 ∷ x0 ∷ []) (x5 ∷ x4 ∷ []) (x7 ∷ x6 ∷ []) (x8 ∷ x9 ∷ []) (x10 ∷ x11 ∷ x12 ∷ x13 ∷ x14 ∷ x15 ∷ [])
    (bytes_read (x3 ∷ x2 ∷ x1 ∷ x0 ∷ []) (are.1.1.1.0, (are.1.1.0, (are.1.0, (are.0, tt)))))
    (bytes_read (x5 ∷ x4 ∷ []) (are.1.1.1.1.1.0, (are.1.1.1.1.0, tt)))
    (bytes_read (x7 ∷ x6 ∷ []) (are.1.1.1.1.1.1.1.0, (are.1.1.1.1.1.1.0, tt)))
    (bytes_read (x8 ∷ x9 ∷ []) (are.1.1.1.1.1.1.1.1.0, (are.1.1.1.1.1.1.1.1.1.0, tt)))
    (bytes_read (x10 ∷ x11 ∷ x12 ∷ x13 ∷ x14 ∷ x15 ∷ []) are.1.1.1.1.1.1.1.1.1.1)
uuid_read (x0 ∷ x1 ∷ x2 ∷ x3 ∷ x4 ∷ x5 ∷ x6 ∷ x7 ∷ x8 ∷ x9 ∷ x10 ∷ x11 ∷ x12 ∷ x13 ∷ x14 ∷ x15 ∷ x16 ∷ more) is = absurd (omega (arith, is.size))
