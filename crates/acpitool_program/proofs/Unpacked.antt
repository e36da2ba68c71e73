-- Tables that are written to files, one after another.
use Rattle.std.proofs.Common.{◌≡◌, ℕ, ◌<◌, ◌≤◌, ◌+◌, max, List, [], ◌∷◌, ◌++◌, Option, length, map, take, drop, get_or, refl, sym, ap, subst, ◌∙◌, arith, inl, Ok}
use Rattle.std.proofs.lemmas.List.{at_drop_more, drop_all, map_more}
use Rattle.acpi_dump.specs.Dump.{titled, tables_of}
use Rattle.acpi_dump.specs.declared.dump.Dumped.{Dumped}
use Rattle.acpitool_program.proofs.Streams.{keeps_self}
use Rattle.acpitool_program.specs.Unpacking.{path_of, IsUnpacked, AreUnpacked, AreFiles, UnpacksDump}

module _ {X : Type 0} (f : X → List ℕ) (folder : List ℕ) (xs : List X) (o e : Option (List ℕ)) where
  -- what the tables from an index on come to, and all of them
  abbrev pub SoFar : ℕ → Option (List ℕ) → Option (List ℕ) → ℕ → Type 0
  SoFar i out err worst =
      (out' err' : Option (List ℕ)) (s : ℕ) → AreUnpacked folder (map f (take i xs)) (map f (drop i xs)) out out' err err' s
      → AreUnpacked folder [] (map f xs) o out' e err' (max worst s)

  pub none_yet : SoFar 0 o e 0
  none_yet = λ out' err' s all. let same : s ≡ max 0 s = grind arith in subst (AreUnpacked folder [] (map f xs) o out' e err') same all

  pub one_more : (i : ℕ) (d : X) (out out' err err' : Option (List ℕ)) (worst status next : ℕ) → i < length xs
      → next ≡ max worst status → SoFar i out err worst
      → IsUnpacked (path_of folder (map f (take i xs)) (f (get_or xs i d))) (f (get_or xs i d)) out out' err err' status
      → SoFar (i + 1) out' err' next
  one_more i d out out' err err' worst status next inside greater so_far this = λ out'' err'' s rest.
      let table = f (get_or xs i d) in
      let after = map f (drop (i + 1) xs) in
      let front : map f (take (i + 1) xs) ≡ map f (take i xs) ++ table ∷ [] = map_more f xs i d inside in
      let back : map f (drop i xs) ≡ table ∷ after = at_drop_more (map f) xs i d inside in
      let Rest : List (List ℕ) → Type 0 = λ earlier. AreUnpacked folder earlier after out' out'' err' err'' s in
      let Both : List (List ℕ) → Type 0 = λ tables. AreUnpacked folder (map f (take i xs)) tables out out'' err err'' (max status s) in
      let both : Both (table ∷ after) =
      record { out = out'; err = err'; first = status; rest = s; one = this; others = subst Rest front rest; is = refl } in
      let sum : max worst (max status s) ≡ max next s = grind (arith, greater) in
      subst (AreUnpacked folder [] (map f xs) o out'' e err'') sum (so_far out'' err'' (max status s) (subst Both (sym back) both))

  pub all_done : (i : ℕ) (out err : Option (List ℕ)) (worst : ℕ) → length xs ≤ i → SoFar i out err worst
      → AreUnpacked folder [] (map f xs) o out e err worst
  all_done i out err worst past so_far =
      let none : map f (drop i xs) ≡ [] = ap (map f) (drop_all i xs past) in
      let Rest : List (List ℕ) → Type 0 = λ tables. AreUnpacked folder (map f (take i xs)) tables out out err err 0 in
      let nothing : Rest [] = (keeps_self out, keeps_self err, refl) in
      let same : max worst 0 ≡ worst = grind arith in
      subst (AreUnpacked folder [] (map f xs) o out e err) same (so_far out err 0 (subst Rest (sym none) nothing))

bytes_only : (tables : List Dumped) → map (λ table. table.1) (map titled tables) ≡ map (λ table. table.bytes.items) tables
bytes_only [] = refl
bytes_only (table ∷ tables) = ap (λ l. table.bytes.items ∷ l) (bytes_only tables)

-- the tables of a dump
pub dump_unpacked : (name folder dump : List ℕ) (tables : List Dumped) (all : List (List ℕ)) (o o' e e' : Option (List ℕ)) (status : ℕ)
    → tables_of dump ≡ Ok (map titled tables) → all ≡ map (λ table. table.bytes.items) tables → AreFiles folder all o o' e e' status
    → UnpacksDump name folder dump o o' e e' status
dump_unpacked name folder dump tables all o o' e e' status read are files =
    inl (map titled tables, read, subst (λ (l : List (List ℕ)). AreFiles folder l o o' e e' status) (are ∙ sym (bytes_only tables)) files)
