-- Calls whose error is kept.
use Rattle.std.specs.Prelude.{◌≡◌, ◌≢◌, Result, Ok, Err}

-- A call of what keeps its first error: an error stays. Otherwise it does a step, or there is no memory for it.
abbrev pub Does : {S E : Type 0} → E → (S → Result S E) → Result S E → Result S E → Type 0
Does memory step (Err e) new = new ≡ Err e
Does memory step (Ok state) new = new ≢ Err memory → new ≡ step state
