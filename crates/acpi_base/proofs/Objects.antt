use Rattle.std.proofs.Common.{◌≡◌, ℕ, List, [], ◌++◌, Bool, true, false, ◌||◌, IsTrue, None, Some, refl, sym, inl, inr}
use Rattle.std.specs.Prelude.{Result, Ok, Err, IsErrAnd, IfErr, OnOk}
use Rattle.std.proofs.lemmas.Result.{err_from_is_err_and}
use Rattle.acpi_base.specs.declared.error.Error.{Error}
use Rattle.acpi_base.specs.declared.error.Error.TheVariants.{Memory}
use Rattle.acpi_base.specs.Sink.{Meaning, Took, Refused}
use Rattle.acpi_base.specs.Object.{Object, whole, provided, Wrote, WriteRefused}
use Rattle.acpi_base.proofs.Sinks.{took_nothing, took_more, refused_later, refused_longer}

or_true : (a b : Bool) → IsTrue b → IsTrue (a || b)
or_true true b h = refl
or_true false b h = h

-- an object is refused where the sink refuses its bytes
pub refused_by_sink : (e : Error) (o : Object) (m k : Meaning) → Refused e m o.front k → WriteRefused e o m k
refused_by_sink e o m k refused = record {
  beginning = refused.beginning;
  memory = λ is. or_true o.wants_memory m.wants_memory (refused.memory is);
  cause = λ is. inr (refused.cause is);
}

-- the sink took `a`, and then refused `b`, and the object is these and `rest`
pub refused_at : (e : Error) (o : Object) (m n k : Meaning) (a b rest : List ℕ) → (a ++ b) ++ rest ≡ o.front → Took m a n → Refused e n b k → WriteRefused e o m k
refused_at e o m n k a b rest joined first refused =
    let long : Refused e m ((a ++ b) ++ rest) k = refused_longer e m k (a ++ b) rest (refused_later e m n k a b first refused) in
    refused_by_sink e o m k (rw joined at long)

-- what the exit of a `?` returns
pub at_exit : {T : Type 0} (r : Result T Error) (P : Error → Type 0) (e : Error) → IsErrAnd r (λ y. y ≡ e) → P e → IfErr r P
at_exit r P e is holds = let p = err_from_is_err_and r is in rw (p.1, p.2) holds

-- a sink's refusal, answered as it is by an object of these bytes
pub answered : {T : Type 0} (r : Result T Error) (o : Object) (bytes : List ℕ) (m k : Meaning) → o.front ≡ bytes → IfErr r (λ e. Refused e m bytes k) → IfErr r (λ e. WriteRefused e o m k)
answered (Ok x) o bytes m k same refused = tt
answered (Err e) o bytes m k same refused = refused_by_sink e o m k (rw same refused)

-- the same, after the sink took `a`
pub answered_after : {T : Type 0} (r : Result T Error) (o : Object) (a b : List ℕ) (m n k : Meaning) → o.front ≡ a ++ b → Took m a n → IfErr r (λ e. Refused e n b k) → IfErr r (λ e. WriteRefused e o m k)
answered_after (Ok x) o a b m n k same first refused = tt
answered_after (Err e) o a b m n k same first refused = refused_by_sink e o m k (rw same (refused_later e m n k a b first refused))

pub wrote_after : {T : Type 0} (r : Result T Error) (o : Object) (a b : List ℕ) (m n k : Meaning) → o.end ≡ None → o.front ≡ a ++ b → Took m a n → OnOk r (Took n b k) → OnOk r (Wrote o m k)
wrote_after (Ok x) o a b m n k is_whole same first second = record { is_whole = is_whole; took = rw same (took_more m n k a b first second) }
wrote_after (Err e) o a b m n k is_whole same first second = tt

-- an object that is refused before it has given anything
pub gives_nothing : (e : Error) (o : Object) (m : Meaning) → (e ≡ Memory → ⊥) → (o.front ≡ []) × (o.end ≡ Some e) → WriteRefused e o m m
gives_nothing e o m other is =
    let took : Took m o.front m = rw is.0 (took_nothing m) in
    record {
      beginning = record { part = []; rest = o.front; joined = refl; took = took_nothing m };
      memory = λ same. absurd (other same);
      cause = λ _. inl (record { end = is.1; took = took });
    }

-- an object that wasn't provided
pub refused_unprovided : (e x : Error) (test : Bool) (o : Object) (m : Meaning) → (x ≡ Memory → ⊥) → test ≡ false → e ≡ x → WriteRefused e (provided test x o) m m
refused_unprovided e x test o m other fails is = rw (fails, is) (gives_nothing x (provided false x o) m other (refl, refl))

-- and what was
pub is_provided : (e : Error) (test : Bool) (bytes : List ℕ) → (provided test e (whole bytes)).end ≡ None → test ≡ true
is_provided e true bytes h = refl
is_provided e false bytes h = absurd cc

pub provided_front : (e : Error) (test : Bool) (o : Object) → test ≡ true → (provided test e o).front ≡ o.front
provided_front e test o holds = rw holds refl

-- bytes that were made beforehand, given to a sink at once
pub wrote_whole : {T : Type 0} (r : Result T Error) (made bytes : List ℕ) (m k : Meaning) → made ≡ bytes → OnOk r (Took m made k) → OnOk r (Wrote (whole bytes) m k)
wrote_whole (Ok x) made bytes m k same took = record { is_whole = refl; took = rw same at took }
wrote_whole (Err e) made bytes m k same took = tt

pub refused_whole : {T : Type 0} (r : Result T Error) (made bytes : List ℕ) (m k : Meaning) → made ≡ bytes → IfErr r (λ e. Refused e m made k) → IfErr r (λ e. WriteRefused e (whole bytes) m k)
refused_whole r made bytes m k same refused = answered r (whole bytes) made m k (sym same) refused

pub wrote_provided : {T : Type 0} (r : Result T Error) (e : Error) (test : Bool) (made bytes : List ℕ) (m k : Meaning) → test ≡ true → made ≡ bytes → OnOk r (Took m made k) → OnOk r (Wrote (provided test e (whole bytes)) m k)
wrote_provided r e test made bytes m k holds same took = rw holds (wrote_whole r made bytes m k same took)

pub refused_provided : {T : Type 0} (r : Result T Error) (e : Error) (test : Bool) (made bytes : List ℕ) (m k : Meaning) → test ≡ true → made ≡ bytes → IfErr r (λ x. Refused x m made k) → IfErr r (λ x. WriteRefused x (provided test e (whole bytes)) m k)
refused_provided r e test made bytes m k holds same refused = rw holds (refused_whole r made bytes m k same refused)
