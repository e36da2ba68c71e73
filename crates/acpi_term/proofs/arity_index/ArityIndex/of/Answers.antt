use Rattle.std.proofs.Common.{◌≡◌, ℕ, List, ◌∷◌, [], ◌++◌, ◌+◌, ◌<◌, length, get_or, take, sym, ap, ◌∙◌, add-one}
use Rattle.std.proofs.Math.Seq.{take-suc}
use Rattle.acpi_term.specs.ArityIndex.{number_of}
use Rattle.acpi_term.proofs.arity_index.ArityIndex.of.Goals as goal

next : (all : List (List ℕ × ℕ)) (i : ℕ) (a : List ℕ × ℕ) (name : List ℕ) → i < length all → a ≡ get_or all i a → name ≡ a.0
    → take (i + 1) all ≡ take i all ++ (name, a.1) ∷ []
next all i a name below at named =
    ap (λ n. take n all) (add-one i) ∙ take-suc all i a below ∙ ap (λ b. take i all ++ b ∷ []) (sym at ∙ ap (λ n. (n, a.1)) (sym named))

pub counts-preserved : goal.counts-preserved
counts-preserved c = λ name.
    let more = next c.args.counts.now c.counts.name-index c.counts-item.result c.as_bytes.result.now c.counts-test.true c.counts-item.is c.as_bytes.ensures.bytes in
    c.in_ok-add.ensures.added (take c.counts.name-index c.args.counts.now) c.counts.invariant name ∙ ap (λ all. number_of all name) (sym more)
