-- What a call takes off a list. Assumes nothing.
use Rattle.std.specs.Prelude.{◌<◌, ◌≤◌, List, length, Result, Option, IfOk, OnSome}

-- the list is no longer than before, and shorter where the call hands something out
abbrev pub Shrinks : {A B E : Type 0} → Result (Option A) E → List B → List B → Type 0
Shrinks result old new = IfOk result (λ given. OnSome given (length new < length old)) × (length new ≤ length old)
