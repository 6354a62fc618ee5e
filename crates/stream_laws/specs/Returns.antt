-- The mark of a stream that came back to it. Assumes nothing.
use Rattle.std.specs.Prelude.{ℤ, Ok, Err, Result}
use Rattle.refusals.specs.declared.Refusal.{Refusal}
use Rattle.refusals.specs.Answers.{Answer, gives, refuses}
use Rattle.refusals.specs.Numbers.{number}
use Rattle.stream_laws.specs.declared.Return.{Return}

-- the number of the mark
abbrev pub mark_made : Result Return Refusal → Answer ℤ
mark_made (Ok q) = gives q.mark.number
mark_made (Err e) = refuses (number e)
