-- Objects written one after another.
use Rattle.std.proofs.Common.{◌≡◌, ℕ, ◌+◌, ◌<◌, length, take, drop, get_or, map, List, [], ◌∷◌, ◌++◌, Bool, true, false, ◌||◌, IsTrue, Some, None, refl, sym, ◌∙◌, ap, subst, append_assoc, inl, inr, ⊎_elim}
use Rattle.std.specs.Prelude.{Option, Result, Ok, Err, IsErrAnd, IfErr, OnOk}
use Rattle.acpi_base.specs.declared.error.Error.{Error}
use Rattle.acpi_base.specs.Sink.{Meaning, after, Took, Refused}
use Rattle.acpi_base.specs.Object.{Object, whole, chain, joined_by, all_of, Wrote, WriteRefused}
use Rattle.acpi_base.proofs.Lists.{joined_whole, chain_whole, all_of_push, taken, parted}
use Rattle.acpi_base.proofs.Objects.{at_exit}
use Rattle.acpi_base.proofs.Sinks.{after-after, took_more, took_beginning_later, took_beginning_longer}

or_left : (a b c : Bool) → IsTrue (a || c) → IsTrue ((a || b) || c)
or_left true b c h = refl
or_left false true c h = refl
or_left false false c h = h

or_right : (a b c : Bool) → IsTrue (b || c) → IsTrue ((a || b) || c)
or_right true b c h = refl
or_right false b c h = h

or_assoc : (a b c : Bool) → ((a || b) || c) ≡ (a || (b || c))
or_assoc true b c = refl
or_assoc false b c = refl

-- a refusal in the first ends both
pub refused_first : (e : Error) (p q : Object) (m k : Meaning) → WriteRefused e p m k → WriteRefused e (chain p q) m k
refused_first e p q m k refused = by_end p.end refl
  where
    by_end : (end : Option Error) → p.end ≡ end → WriteRefused e (joined_by p.front p.wants_memory q p.end) m k
    by_end None is = rw is (record {
      beginning = took_beginning_longer m k p.front q.front refused.beginning;
      memory = λ h. or_left p.wants_memory q.wants_memory m.wants_memory (refused.memory h);
      cause = λ other.
          ⊎_elim (λ own. (let no : Some e ≡ None = sym own.end ∙ is in absurd cc))
          (λ there. inr (record { told = there.told; untaken = λ more. rw (append_assoc p.front q.front more) (there.untaken (q.front ++ more)) })) (refused.cause other);
    })
    by_end (Some f) is = rw is (record {
      beginning = refused.beginning;
      memory = λ h. or_left p.wants_memory q.wants_memory m.wants_memory (refused.memory h);
      cause = λ other. ⊎_elim (λ own. inl (record { end = sym is ∙ own.end; took = own.took })) (λ there. inr there) (refused.cause other);
    })

-- a refusal in the second is one of both, where the first went whole
pub refused_second : (e : Error) (p q : Object) (m n k : Meaning) → Wrote p m n → WriteRefused e q n k → WriteRefused e (chain p q) m k
refused_second e p q m n k first refused =
    let late : WriteRefused e q (after m p.front) k = rw first.took.moved at refused in
    rw first.is_whole (record {
      beginning = took_beginning_later m n k p.front q.front first.took refused.beginning;
      memory = λ h. or_right p.wants_memory q.wants_memory m.wants_memory (late.memory h);
      cause = λ other.
          ⊎_elim (λ own. inl (record { end = own.end; took = record { moved = own.took.moved ∙ after-after m p.front q.front } }))
          (λ there. inr (record { told = there.told; untaken = λ more. rw (append_assoc p.front q.front more) (there.untaken more) })) (late.cause other);
    })

pub wrote_push : (os : List Object) (o : Object) (m n k : Meaning) → Wrote (all_of os) m n → Wrote o n k → Wrote (all_of (os ++ o ∷ [])) m k
wrote_push os o m n k before here =
    let pushed = all_of_push os o before.is_whole here.is_whole in
    record { is_whole = pushed.0; took = rw pushed.1 (took_more m n k (all_of os).front o.front before.took here.took) }

all_of-append : (os qs : List Object) → (all_of os).end ≡ None → all_of (os ++ qs) ≡ chain (all_of os) (all_of qs)
all_of-append [] qs h = refl
all_of-append (p ∷ os) qs h =
    let both = joined_whole p.front p.wants_memory (all_of os) p.end h in
    let a = all_of os in
    let q = all_of qs in
    let left : all_of ((p ∷ os) ++ qs) ≡ joined_by p.front p.wants_memory (joined_by a.front a.wants_memory q None) None =
    chain_whole p (all_of (os ++ qs)) both.0 ∙ ap (λ o. joined_by p.front p.wants_memory o None) (all_of-append os qs both.1 ∙ chain_whole a q both.1) in
    let right : chain (all_of (p ∷ os)) q ≡ joined_by (p.front ++ a.front) (p.wants_memory || a.wants_memory) q None =
    ap (λ o. chain o q) (chain_whole p a both.0) ∙ ap (joined_by (p.front ++ a.front) (p.wants_memory || a.wants_memory) q) both.1 in
    let same : joined_by (p.front ++ a.front) (p.wants_memory || a.wants_memory) q None ≡ joined_by p.front p.wants_memory (joined_by a.front a.wants_memory q None) None =
    λ i. record { front = append_assoc p.front a.front q.front i; end = q.end; wants_memory = or_assoc p.wants_memory a.wants_memory q.wants_memory i } in
    left ∙ sym same ∙ sym right

module _ {X : Type 0} (f : X → Object) (xs : List X) (i : ℕ) (x : X) (inside : i < length xs) (is : x ≡ get_or xs i x) where
  pub wrote_next : (m n k : Meaning) → Wrote (all_of (map f (take i xs))) m n → Wrote (f x) n k → Wrote (all_of (map f (take (i + 1) xs))) m k
  wrote_next m n k before here = rw (taken f xs i x inside is) (wrote_push (map f (take i xs)) (f x) m n k before here)

  pub refused_next : {T : Type 0} (r : Result T Error) (e : Error) (m n k : Meaning) → IsErrAnd r (λ y. y ≡ e) → Wrote (all_of (map f (take i xs))) m n → WriteRefused e (f x) n k → IfErr r (λ y. WriteRefused y (all_of (map f xs)) m k)
  refused_next r e m n k exit before here =
      let rest = all_of (map f (drop (i + 1) xs)) in
      at_exit r (λ y. WriteRefused y (all_of (map f xs)) m k) e exit
      (rw (parted f xs i x inside is, all_of-append (map f (take i xs)) (f x ∷ map f (drop (i + 1) xs)) before.is_whole)
      (refused_second e (all_of (map f (take i xs))) (chain (f x) rest) m n k before (refused_first e (f x) rest n k here)))

-- the same, where the list is another's items
pub refused_among : {X T : Type 0} (f : X → Object) (xs ys : List X) (i : ℕ) (x : X) (r : Result T Error) (e : Error) (m n k : Meaning) → xs ≡ ys → i < length xs → x ≡ get_or xs i x
    → IsErrAnd r (λ y. y ≡ e) → Wrote (all_of (map f (take i xs))) m n → WriteRefused e (f x) n k → IfErr r (λ y. WriteRefused y (all_of (map f ys)) m k)
refused_among f xs ys i x r e m n k same inside is exit before here =
    subst (λ zs. IfErr r (λ y. WriteRefused y (all_of (map f zs)) m k)) same (refused_next f xs i x inside is r e m n k exit before here)

-- bytes and then an object
pub wrote_behind : {T : Type 0} (r : Result T Error) (head made : List ℕ) (o : Object) (m n k : Meaning) → made ≡ head → Took m made n → OnOk r (Wrote o n k) → OnOk r (Wrote (chain (whole head) o) m k)
wrote_behind (Ok u) head made o m n k is first wrote = record { is_whole = wrote.is_whole; took = took_more m n k head o.front (rw is at first) wrote.took }
wrote_behind (Err e) head made o m n k is first wrote = tt

pub refused_behind : {T : Type 0} (r : Result T Error) (head made : List ℕ) (o : Object) (m n k : Meaning) → made ≡ head → Took m made n → IfErr r (λ e. WriteRefused e o n k) → IfErr r (λ e. WriteRefused e (chain (whole head) o) m k)
refused_behind (Ok u) head made o m n k is first refused = tt
refused_behind (Err e) head made o m n k is first refused = refused_second e (whole head) o m n k (record { is_whole = refl; took = rw is at first }) refused

-- bytes that a sink refuses, and then an object
pub refused_head : (e : Error) (head made : List ℕ) (o : Object) (m k : Meaning) → made ≡ head → Refused e m made k → WriteRefused e (chain (whole head) o) m k
refused_head e head made o m k is refused =
    let same : Refused e m head k = rw is at refused in
    refused_first e (whole head) o m k (record { beginning = same.beginning; memory = same.memory; cause = λ other. inr (same.cause other) })
