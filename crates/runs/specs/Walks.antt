-- What a walk along a source's list comes to. Assumes nothing.
use Rattle.std.specs.Prelude.{ℕ, ◌-◌, min, List, length, ℤ, Some, Option, slice_index_or}
use Rattle.refusals.specs.Answers.{Answer, gives}
use Rattle.tokens.specs.declared.token.Token.{Token}
use Rattle.windows.specs.Lists.{stamps, blank}
use Rattle.windows.specs.Windows.{admission}
use Rattle.windows.specs.Reads.{follow}

-- so many steps along a list lead to the token of that place, or to the EOF where the list is shorter; 10 capacity
abbrev pub come_to : List Token → ℤ → ℕ → Answer (Option Token)
come_to list capacity steps = follow (admission capacity) (gives (Some (slice_index_or (stamps 0 list) (min steps (length list - 1)) blank)))
