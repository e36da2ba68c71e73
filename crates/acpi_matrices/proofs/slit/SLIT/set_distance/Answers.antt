use Rattle.std.proofs.Common.{◌≡◌, ◌+◌, ◌%◌, ◌<◌, [], ◌∷◌, ◌++◌, sym, ap, ◌∙◌, arith, length, take, drop}
use Rattle.std.specs.Prelude.{sum}
use Rattle.std.proofs.lemmas.Bool.{and_from, lt-ltb}
use Rattle.acpi_base.specs.Bytes.{put}
use Rattle.acpi_base.proofs.Tables.{written_back}
use Rattle.acpi_matrices.specs.Slit.{Counted, place_of, cost_of, has_cell, with_distance, parts_of, IsParts}
use Rattle.acpi_matrices.proofs.Distances.{parts_set}
use Rattle.acpi_matrices.proofs.slit.SLIT.set_distance.Goals as goal

record Steps (c : goal.After-write_at) : Type 0 where
  column : c.args.domain_a < c.self.inside.localities
  row : c.args.domain_b < c.self.inside.localities
  cells : take c.self.inside.cells.len (c.set_cells.new.cells ++ drop (length c.set_cells.new.cells) c.self.inside.cells.items) ≡ c.set_cells.new.cells
  parts : IsParts c.write_at.new.bytes c.self.inside.localities c.set_cells.new.cells c.set_cells.new.running.value
  is : parts_of c.write_at.new.bytes c.self.inside.localities c.set_cells.new.cells
      ≡ with_distance (parts_of c.self.inside.fixed c.self.inside.localities c.self.inside.cells.items) c.args.domain_a c.args.domain_b c.args.locality_value

steps : (c : goal.After-write_at) → Steps c
steps c =
    let i = c.self.inside in
    let n = i.localities in
    let a = c.args.domain_a in
    let b = c.args.domain_b in
    let v = c.args.locality_value in
    let column : a < n = omega (arith, c.if-domain_a-localities.false) in
    let row : b < n = omega (arith, c.if-domain_b-localities.false) in
    let set : c.set_cells.new.cells ≡ put (place_of n b a) (v ∷ []) (put (place_of n a b) (v ∷ []) i.cells.items) =
    c.set_cells.ensures.cells ∙ ap (λ l. put (place_of n b a) (v ∷ []) (put (place_of n a b) (v ∷ []) l)) c.deref_mut.ensures.value in
    let step : (c.set_cells.new.running.value + sum i.cells.items) % 256 ≡ (i.sum.value + sum c.set_cells.new.cells) % 256 =
    ap (λ l. (c.set_cells.new.running.value + sum l) % 256) (sym c.deref_mut.ensures.value) ∙ c.set_cells.ensures.sum in
    let both = parts_set i.fixed c.write_at.new.bytes i.cells.items c.set_cells.new.cells n i.sum.value c.set_cells.new.running.value a b v c.self.invariant column row set step c.set_cells.ensures.range
    (c.write_at.ensures ∙ ap (λ k. put 9 (k ∷ []) i.fixed) c.checksum.ensures) in
    record {
      column = column;
      row = row;
      cells = written_back _ c.set_cells.new.cells i.cells.items (c.set_cells.auto.cells ∙ c.deref_mut.ensures.len);
      parts = both.0;
      is = both.1;
    }

pub invariant_of-self : goal.invariant_of-self
invariant_of-self c = let s = steps c in rw s.cells s.parts

pub returns : goal.returns
returns c =
    let i = c.self.inside in
    let s = steps c in
    record {
      ok = ap (λ l. parts_of c.write_at.new.bytes i.localities l) s.cells ∙ s.is ∙ ap (λ (t : Counted). with_distance t.table c.args.domain_a c.args.domain_b c.args.locality_value) c.self.view_is;
      inside = ap (λ (t : Counted). has_cell t.table c.args.domain_a c.args.domain_b) (sym c.self.view_is) ∙ and_from _ _ (lt-ltb _ _ s.column) (lt-ltb _ _ s.row);
      err = tt;
      cause = tt;
      cost = c.set_cells.ensures.counted ∙ ap (λ (t : Counted). t.summed + cost_of c.args.domain_a c.args.domain_b) c.self.view_is;
    }
