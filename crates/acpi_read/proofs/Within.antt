-- What is opened lies within the bytes.
use Rattle.std.proofs.Common.{◌≡◌, ℕ, zero, suc, ◌+◌, ◌≤◌, List, [], ◌∷◌, ◌++◌, length, Result, Ok, Err, refl, sym, ap, arith}
use Rattle.std.specs.Prelude.{IfOk}
use Rattle.std.proofs.lemmas.List.{append-nil, length-append}
use Rattle.acpi_base.specs.Bytes.{AreBytes}
use Rattle.acpi_term.specs.declared.mode.Mode.{Mode}
use Rattle.acpi_term.specs.Language.{Grammar}
use Rattle.acpi_term.specs.Tree.{def_buffer, def_package}
use Rattle.acpi_term.specs.Length.{length_bytes}
use Rattle.acpi_term.specs.Row.{Layout, bare, framed, layout}
use Rattle.acpi_term.specs.Spelling.{laid, spelled}
use Rattle.acpi_term.specs.Reading.{Opened, follows, fills, packs, rooms, begins, banks, least_of, open_at}
use Rattle.acpi_term.proofs.Openings.{OpenTakes, open_takes}
use Rattle.acpi_read.specs.declared.terms.cause.Cause.{Cause}
use Rattle.acpi_read.specs.declared.terms.open.TermStart as code
use Rattle.acpi_read.specs.Cause.{Gives}
use Rattle.acpi_read.specs.TermStart.{seen, LiesWithin}

framed_long : (code p before inside after : List ℕ) → (length inside ≤ length (code ++ (p ++ (before ++ (inside ++ after))))) × (length after ≤ length (code ++ (p ++ (before ++ (inside ++ after)))))
framed_long code p before inside after =
    let a = length-append code (p ++ (before ++ (inside ++ after))) in
    let b = length-append p (before ++ (inside ++ after)) in
    let c = length-append before (inside ++ after) in
    let d = length-append inside after in
    (omega (arith, a, b, c, d), omega (arith, a, b, c, d))

-- a layout has the bytes that it is round
laid_long : (l : Layout) (w : ℕ) (inside : List ℕ) → length inside ≤ length (laid l w inside)
laid_long (bare before) w inside = omega (arith, length-append before inside)
laid_long (framed code before after) w inside = (framed_long code (length_bytes w (w + length (before ++ (inside ++ after)))) before inside after).0

parts_within : (bytes first after : List ℕ) (n : ℕ) → bytes ≡ first ++ after → n ≤ length first → n + length after ≤ length bytes
parts_within bytes first after n is le = omega (arith, ap length is, length-append first after, le)

module _ (g : Grammar) (m : Mode) where
  opened_within : (bytes : List ℕ) (o : Opened) → OpenTakes g m bytes o → LiesWithin (length bytes) o
  opened_within bytes (follows h w n []) t = omega arith
  opened_within bytes (follows h w zero (b ∷ rest)) t =
      let p = (t.1 [] (b ∷ rest) refl (record { nothing = λ z. refl; something = λ z. absurd (omega (arith, z)) })).0 in
      omega (arith, parts_within bytes (spelled h w zero []) (b ∷ rest) 0 p (omega arith))
  opened_within bytes (follows h w (suc n) (b ∷ rest)) t =
      let all = b ∷ rest in
      let p = (t.1 all [] (sym (append-nil all)) (record { nothing = λ z. absurd (omega (arith, z)); something = λ z. omega arith })).0 in
      omega (arith, parts_within bytes (spelled h w (suc n) all) [] (length all) p (laid_long (layout h w (suc n)) w all))
  opened_within bytes (fills h w inside after) t =
      parts_within bytes (spelled h w (least_of h) inside) after (length inside) (t.2 (least_of h) (omega arith)).0 (laid_long (layout h w (least_of h)) w inside)
  opened_within bytes (packs w n inside after) t = parts_within bytes (spelled def_package w n inside) after (length inside) t.2 (laid_long (layout def_package w n) w inside)
  opened_within bytes (rooms w n inside after) t = parts_within bytes (spelled def_package w n inside) after (length inside) t.2.0 (laid_long (layout def_package w n) w inside)
  opened_within bytes (begins w content after) t =
      let p = (t.2 [] content refl).0 in
      parts_within bytes (spelled (def_buffer content) w 1 []) after (length content) p (framed_long (0x11 ∷ []) (length_bytes w (w + length content)) [] [] content).1
  opened_within bytes (banks w name bank content after) t = t.3

  pub is_within : (bytes : List ℕ) (r : Result code.TermStart Cause) → AreBytes bytes → Gives seen r (open_at g m bytes) → IfOk r (λ o. LiesWithin (length bytes) (seen o))
  is_within bytes (Ok o) fits given = opened_within bytes (seen o) (open_takes g m bytes (seen o) fits given)
  is_within bytes (Err e) fits given = tt
