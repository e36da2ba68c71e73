-- What a writer has, before and after calls.
use Rattle.std.proofs.Common.{List, [], ◌++◌, Option, Some, None, ℕ, refl, sym, ap, ◌∙◌, append_assoc}
use Rattle.std.proofs.lemmas.List.{append-nil}
use Rattle.std.specs.Io.KnownBytes.{Keeps, Appends}

pub keeps_self : (a : Option (List ℕ)) → Keeps a a
keeps_self None = tt
keeps_self (Some xs) = refl

pub keeps_kept : (a b c : Option (List ℕ)) → Keeps a b → Keeps b c → Keeps a c
keeps_kept None b c one two = tt
keeps_kept (Some xs) None c one two = absurd one
keeps_kept (Some xs) (Some ys) None one two = absurd two
keeps_kept (Some xs) (Some ys) (Some zs) one two = two ∙ one

pub keeps_then : (a b c : Option (List ℕ)) (x : List ℕ) → Keeps a b → Appends b c x → Appends a c x
keeps_then None b c x one two = tt
keeps_then (Some xs) None c x one two = absurd one
keeps_then (Some xs) (Some ys) None x one two = absurd two
keeps_then (Some xs) (Some ys) (Some zs) x one two = two ∙ ap (λ l. l ++ x) one

pub appends_none : (a : Option (List ℕ)) → Appends a a []
appends_none None = tt
appends_none (Some xs) = sym (append-nil xs)

pub appends_nothing : (a b : Option (List ℕ)) → Appends a b [] → Keeps a b
appends_nothing None b none = tt
appends_nothing (Some xs) None none = absurd none
appends_nothing (Some xs) (Some ys) none = none ∙ append-nil xs

pub appends_kept : (a b c : Option (List ℕ)) (x : List ℕ) → Appends a b x → Keeps b c → Appends a c x
appends_kept None b c x one two = tt
appends_kept (Some xs) None c x one two = absurd one
appends_kept (Some xs) (Some ys) None x one two = absurd two
appends_kept (Some xs) (Some ys) (Some zs) x one two = two ∙ one

pub appends_then : (a b c : Option (List ℕ)) (x y : List ℕ) → Appends a b x → Appends b c y → Appends a c (x ++ y)
appends_then None b c x y one two = tt
appends_then (Some xs) None c x y one two = absurd one
appends_then (Some xs) (Some ys) None x y one two = absurd two
appends_then (Some xs) (Some ys) (Some zs) x y one two = two ∙ ap (λ l. l ++ y) one ∙ append_assoc xs x y
