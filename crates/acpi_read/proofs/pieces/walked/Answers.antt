use Rattle.std.proofs.Common.{◌≡◌, true, false, arith, map, sym, ◌∙◌, length}
use Rattle.std.proofs.lemmas.List.{length-map}
use Rattle.acpi_read.proofs.Cuts.{miscounted}
use Rattle.acpi_read.proofs.pieces.walked.Goals as goal

pub returns-then-not-tells-2-clause-err : goal.returns-then-not-tells-2-clause-err
returns-then-not-tells-2-clause-err c =
    let pieces = c.in_ok-pieces.pieces.items in
    let number : c.len.result ≡ length pieces = omega (arith, c.len.ensures, c.in_ok-pieces.pieces.ok.0) in (
      c.offset-then-not-tells-2.ensures,
      omega (arith, c.if-bytes-walk.false, c.offset-then-not-tells-2.ensures, c.requires.sound.count),
      miscounted c.args.walk c.args.bytes.now (map (λ p. p.bytes.now) pieces) (map (λ p. p.offset) pieces) c.len.result c.requires.sound.has c.in_ok-pieces.ensures.ok
          (number ∙ sym (length-map pieces (λ p. p.bytes.now))) (λ tells. let no : false ≡ true = sym c.if-not-tells-2.true ∙ c.tells-2.ensures.1 tells in absurd cc),
    )
