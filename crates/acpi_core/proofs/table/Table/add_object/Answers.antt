use Rattle.std.proofs.Common.{◌≡◌, ℕ, ◌+◌, ◌-◌, List, ◌++◌, true, ◌∙◌, ap, sym, subst, arith, length, take, drop, None, length-append}
use Rattle.acpi_base.specs.Object.{Appended}
use Rattle.acpi_core.specs.Listing.{with_structure}
use Rattle.acpi_core.specs.Flat.{has_space, Settles}
use Rattle.acpi_core.specs.Addition.{refusal_of, addition_cost}
use Rattle.acpi_core.proofs.Patches.{behind}
use Rattle.acpi_core.proofs.Flats.{flat_added, room_is, is_accepted}
use Rattle.acpi_core.proofs.table.Table.add_object.Goals as goal

-- what the steps leave
record Steps (g : _) (c : goal.After-self-in-Ok-2-1 g) : Type 0 where
  is_whole : (g.S.Structure.writes c.args.structure.now).end ≡ None
  items : c.append_to.new.bytes.items ≡ c.self.inside.body.items ++ (g.S.Structure.writes c.args.structure.now).front
  size : c.in-Ok.size ≡ length c.self.inside.fixed + length c.self.inside.body.items + length (g.S.Structure.writes c.args.structure.now).front
  space : has_space (length c.self.inside.fixed + length c.self.inside.body.items) (length (g.S.Structure.writes c.args.structure.now).front) c.self.inside.limit c.self.inside.count.number c.self.inside.count.width ≡ true
  settles : Settles c.self.inside.fixed c.self.inside.sum.value c.self.inside.count.at c.self.inside.count.width c.in-Ok.size c.in-Ok.number (g.S.Structure.writes c.args.structure.now).front c.settle.new.fixed c.settle.new.running.value
  counted : c.settle.new.running.summed ≡ c.self.inside.sum.summed + addition_cost c.self.inside.listed.table (length (g.S.Structure.writes c.args.structure.now).front)
  listed : c.with-self-inside.result.table ≡ with_structure c.self.inside.listed.table (g.S.Structure.writes c.args.structure.now).front

steps : (g : _) (c : goal.After-self-in-Ok-2-1 g) → Steps g c
steps g c =
    let i = c.self.inside in
    let o = g.S.Structure.writes c.args.structure.now in
    let start = c.len-start.result in
    let appended : Appended o i.body.items c.append_to.new.bytes.items = c.in_default.ensures.ok in
    let begins : length i.body.items ≡ start = omega (arith, c.len-start.ensures, i.body.ok.0) in
    let first : take (length c.deref.result.now - start) (drop start c.deref.result.now) ≡ o.front = behind c.deref.result.now i.body.items o.front start (c.deref.ensures.value ∙ appended.joined) begins in
    let second : take (length c.deref-in-Ok.result.now - start) (drop start c.deref-in-Ok.result.now) ≡ o.front =
    behind c.deref-in-Ok.result.now i.body.items o.front start (c.deref-in-Ok.ensures.value ∙ appended.joined) begins in
    let more : c.len.result - start ≡ length o.front = omega (arith, c.len.ensures, c.append_to.new.bytes.ok.0, ap length appended.joined, length-append i.body.items o.front, begins) in
    let from : g.row.N + start ≡ length i.fixed + length i.body.items = omega (arith, begins, c.self.told) in
    record {
      is_whole = appended.is_whole;
      items = appended.joined;
      size = omega (arith, c.in-Ok.ensures.size, more, from);
      space = sym (ap (λ n. has_space n (c.len.result - start) i.limit i.count.number i.count.width) from ∙ ap (λ n. has_space (length i.fixed + length i.body.items) n i.limit i.count.number i.count.width) more) ∙ c.in-Ok.ensures.ok;
      settles = subst (λ (s : List ℕ). Settles i.fixed i.sum.value i.count.at i.count.width c.in-Ok.size c.in-Ok.number s c.settle.new.fixed c.settle.new.running.value) first c.settle.ensures.settles;
      counted = omega (arith, c.settle.ensures.counted, ap length first, c.self.invariant.same_width);
      listed = c.with-self-inside.ensures ∙ ap (with_structure i.listed.table) second;
    }

pub invariant_of-self-in-Ok : goal.invariant_of-self-in-Ok
invariant_of-self-in-Ok g c =
    let i = c.self.inside in
    let s = steps g c in
    flat_added i.listed.table i.fixed i.body.items _ _ _ _ _ c.self.invariant (g.S.Structure.writes c.args.structure.now).front _ _ _ _ _ _ s.listed s.items s.size s.space c.in-Ok.ensures.fits c.in-Ok.ensures.number s.settles

pub returns-in-Ok : goal.returns-in-Ok
returns-in-Ok g c =
    let i = c.self.inside in
    let s = steps g c in
    let o = g.S.Structure.writes c.args.structure.now in
    let room = room_is i.listed.table i.fixed i.body.items _ _ _ _ _ c.self.invariant (length o.front) in
    let accepted = is_accepted i.listed.table o.end (length o.front) s.is_whole (sym room ∙ s.space) in
    record {
      ok = s.listed ∙ ap (λ t. with_structure t.table o.front) c.self.view_is;
      accepted = ap (λ t. refusal_of t.table o.end (length o.front)) (sym c.self.view_is) ∙ accepted;
      err = tt;
      cause = tt;
      cost = rw (← c.self.view_is) s.counted;
    }
