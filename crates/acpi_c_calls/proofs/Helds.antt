-- Bytes that are held.
use Rattle.std.proofs.Common.{◌≡◌, ℕ, zero, suc, ◌+◌, ◌-◌, ◌≤◌, List, [], ◌∷◌, ◌++◌, Bool, true, false, ◌||◌, IsTrue, Some, Ok, Err, length, take, drop, refl, sym, ap, ◌∙◌, arith, inl, inr, append_assoc, length-append}
use Rattle.std.specs.Prelude.{◌⊎◌}
use Rattle.std.proofs.lemmas.List.{append-nil, length-take-le, take_at, take_all}
use Rattle.std.proofs.Math.Seq.{take-append-add}
use Rattle.acpi_base.specs.Bytes.{put}
use Rattle.acpi_base.specs.declared.error.Error.{Error}
use Rattle.acpi_base.specs.declared.error.Error.TheVariants.{Memory}
use Rattle.acpi_base.specs.Sink.{Took, IsTold}
use Rattle.acpi_base.specs.Object.{Object, Wrote, WriteRefused, EndsIn}
use Rattle.acpi_c_calls.specs.Held.{held_of, held_wants_none}
use Rattle.acpi_c_calls.specs.Writer.{fault_of_error, piece_of}

-- what is cut off before more follows is cut off after it
pub take_again : (n : ℕ) (x y : List ℕ) → take n (take n x ++ y) ≡ take n (x ++ y)
take_again zero x y = refl
take_again (suc n) [] y = refl
take_again (suc n) (b ∷ x) y = ap (λ (l : List ℕ). b ∷ l) (take_again n x y)

all_again : (old bytes more : List ℕ) → take 1024 (take 1024 (old ++ bytes) ++ more) ≡ take 1024 (old ++ (bytes ++ more))
all_again old bytes more = take_again 1024 (old ++ bytes) more ∙ ap (take 1024) (append_assoc old bytes more)

all_after : (old bytes : List ℕ) → Took (held_of old) bytes (held_of (take 1024 (old ++ bytes)))
unfolding held_of
all_after old bytes = record {
  moved = λ i. record { shows = λ more. all_again old bytes more i; takes = λ _. true; tells = λ _. false; wants_memory = false };
}

pub held_after : (old new bytes : List ℕ) → new ≡ take 1024 (old ++ bytes) → Took (held_of old) bytes (held_of new)
held_after old new bytes is = rw is (all_after old bytes)

-- bytes that are written after others
added : (b w : List ℕ) (size end : ℕ) → size + length w ≤ length b → end ≡ size + length w → take end (put size w b) ≡ take size b ++ w
unfolding put
added b w size end within is =
    let p = take size b in
    let lp : length p ≡ size = length-take-le size b (omega (arith, within)) in
    ap (take end) (sym (append_assoc p w (drop (size + length w) b)))
    ∙ take_at (p ++ w) (drop (size + length w) b) end (length-append p w ∙ omega (arith, lp, is))

-- all of them, where there is space
pub added_all : (b v : List ℕ) (size : ℕ) → size + length v ≤ length b → take (size + length v) (put size v b) ≡ take (length b) (take size b ++ v)
added_all b v size within =
    let lp : length (take size b) ≡ size = length-take-le size b (omega (arith, within)) in
    added b v size (size + length v) within refl
    ∙ sym (take_all (length b) (take size b ++ v) (omega (arith, within, lp, length-append (take size b) v)))

-- otherwise as many as there is space for
pub added_some : (b v : List ℕ) (size : ℕ) → size ≤ length b → length b - size ≤ length v
    → take (length b) (put size (take (length b - size) v) b) ≡ take (length b) (take size b ++ v)
added_some b v size within more =
    let room = length b - size in
    let w = take room v in
    let lp : length (take size b) ≡ size = length-take-le size b within in
    let lw : length w ≡ room = length-take-le room v more in
    added b w size (length b) (omega (arith, lw, within)) (omega (arith, lw, within))
    ∙ sym (ap (λ (n : ℕ). take n (take size b ++ v)) (omega (arith, lp, within)) ∙ take-append-add (take size b) v room)

-- ---- an object that is held

held_took : (old new bytes : List ℕ) → length new ≤ 1024 → Took (held_of old) bytes (held_of new) → new ≡ take 1024 (old ++ bytes)
unfolding held_of
held_took old new bytes few took =
    let shown : take 1024 (new ++ []) ≡ take 1024 (old ++ (bytes ++ [])) = ap (λ m. m.shows []) took.moved in
    let shown' : take 1024 new ≡ take 1024 (old ++ bytes) = rw (append-nil new, append-nil bytes) at shown in
    sym (take_all 1024 new few) ∙ shown'

or_false : (b : Bool) → IsTrue (b || false) → IsTrue b
or_false true h = h
or_false false h = h

-- nothing is refused, so a refused write is refused by the object
only_object : (e : Error) (o : Object) (old new : List ℕ) → EndsIn e o (held_of old) (held_of new) ⊎ IsTold e (held_of old) o.front → o.end ≡ Some e
unfolding held_of
only_object e o old new (inl ended) = ended.end
only_object e o old new (inr told) = absurd (let t = told.told in cc)

is_memory : (e : Error) (o : Object) (old new : List ℕ) → o.wants_memory ≡ false → WriteRefused e o (held_of old) (held_of new) → e ≡ Memory → ⊥
is_memory e o old new dry refused is =
    let wants : IsTrue o.wants_memory = or_false o.wants_memory (rw (held_wants_none old) at (refused.memory is)) in
    let never : false ≡ true = sym dry ∙ wants in
    cc

pub held_ok : (o : Object) (new : List ℕ) → length new ≤ 1024 → length o.front ≤ 1024 → Wrote o (held_of []) (held_of new) → Ok new ≡ piece_of o
held_ok o new few small wrote =
    let is : new ≡ o.front = held_took [] new o.front few wrote.took ∙ take_all 1024 o.front small in
    rw (is, wrote.is_whole) refl

pub held_err : (e : Error) (o : Object) (new : List ℕ) → o.wants_memory ≡ false → WriteRefused e o (held_of []) (held_of new) → Err (fault_of_error e) ≡ piece_of o
held_err e o new dry refused =
    let end : o.end ≡ Some e = only_object e o [] new (refused.cause (is_memory e o [] new dry refused)) in
    rw end refl
