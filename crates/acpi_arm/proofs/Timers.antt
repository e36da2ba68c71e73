-- The timers of a GTDT of revision 2.
use Rattle.std.proofs.Common.{◌≡◌, ℕ, ◌+◌, ◌≤◌, List, [], ◌∷◌, ◌++◌, length, take, drop, refl, sym, ap, ◌∙◌, arith, inl, inr, length-append}
use Rattle.std.specs.Prelude.{codes}
use Rattle.std.proofs.lemmas.List.{drop-drop, drop_at}
use Rattle.acpi_base.specs.Bytes.{put, carried, zeros, field_at}
use Rattle.acpi_base.specs.Fields.{fields_joined}
use Rattle.acpi_base.specs.Header.{header}
use Rattle.acpi_base.specs.Table.{with_checksum}
use Rattle.acpi_base.specs.Walk.{named}
use Rattle.acpi_base.specs.FurtherWalk.{AreFoundBy, full_walk_of, further_walk_of}
use Rattle.acpi_base.specs.declared.oem.Oem.{Oem}
use Rattle.acpi_base.proofs.Tables.{table_is_true, table_named, length-header}
use Rattle.acpi_arm.specs.Gtdt.{timers_fields, earlier_gtdt_bytes, EarlierGtdtsAreTrue}

-- a checksum leaves what comes later
later_kept : (c : List ℕ) → 10 ≤ length c → drop 10 (with_checksum c) ≡ drop 10 c
unfolding put
later_kept (x0 ∷ x1 ∷ x2 ∷ x3 ∷ x4 ∷ x5 ∷ x6 ∷ x7 ∷ x8 ∷ x9 ∷ r) long = refl
later_kept c long = absurd (omega arith)

-- a field of a body after a header
field_after : (h body : List ℕ) (n w : ℕ) → length h ≡ 36 → field_at (36 + n) w (with_checksum (h ++ body)) ≡ field_at n w body
field_after h body n w long =
    let all = h ++ body in
    let sum : 36 + n ≡ 10 + (26 + n) = omega arith in
    let parted : drop (36 + n) (with_checksum all) ≡ drop (26 + n) (drop 10 (with_checksum all)) =
    ap (λ k. drop k (with_checksum all)) sum ∙ sym (drop-drop (26 + n) 10 (with_checksum all)) in
    let kept = ap (drop (26 + n)) (later_kept all (omega (arith, long, length-append h body))) in
    let joined : drop (26 + n) (drop 10 all) ≡ drop n (drop 36 all) =
    drop-drop (26 + n) 10 all ∙ ap (λ k. drop k all) (sym sum) ∙ sym (drop-drop n 36 all) in
    ap (λ b. carried (take w b)) (parted ∙ kept ∙ joined ∙ ap (drop n) (drop_at h body 36 long))

pub earlier_gtdts : (oem : Oem) → length oem.id ≡ 6 → length oem.table_id ≡ 8 → EarlierGtdtsAreTrue oem
earlier_gtdts oem six eight t from =
    let id = ap (λ o. length o.id) from ∙ six in
    let table_id = ap (λ o. length o.table_id) from ∙ eight in
    let body = fields_joined (timers_fields t.timers) ++ zeros 8 in
    let h = header (codes "GTDT") 96 2 t.oem in
    let long : length h ≡ 36 = length-header (codes "GTDT") 96 2 t.oem refl id table_id in
    let true_one = table_is_true (codes "GTDT") body 2 t.oem refl id table_id (omega arith) in
    let count : field_at 88 4 (earlier_gtdt_bytes t) ≡ 0 = field_after h body 52 4 long in
    let first : field_at 92 4 (earlier_gtdt_bytes t) ≡ 0 = field_after h body 56 4 long in
    let is : field_at 0 4 (earlier_gtdt_bytes t) ≡ named (codes "GTDT") = table_named (codes "GTDT") 2 t.oem body refl in
    let none : AreFoundBy (full_walk_of (named (codes "GTDT"))) (further_walk_of (named (codes "GTDT"))) (earlier_gtdt_bytes t) [] =
    inr (record { has = omega arith; ends = inl true_one.1; none = λ some. count; nowhere = first }, refl) in
    (true_one.0, true_one.1, rw is none)
