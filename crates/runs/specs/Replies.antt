-- What a call answered, by values and the numbers of refusals. Assumes nothing.
use Rattle.std.specs.Prelude.{ℕ, ℤ, Some, Option, Ok, Err, Result}
use Rattle.refusals.specs.declared.Refusal.{Refusal}
use Rattle.refusals.specs.Answers.{Answer, gives, refuses}
use Rattle.refusals.specs.Numbers as refusals
use Rattle.tokens.specs.declared.token.Token.{Token as Record}
use Rattle.runs.specs.declared.call.Reply.{Reply}
use Rattle.runs.specs.declared.call.Reply.TheVariants.{Done, Number, Count, Token}

pub data Replied : Type 0 where
  done : Replied
  number : ℤ → Replied
  count : ℕ → Replied
  token : Option Record → Replied
  refused : ℕ → Replied

abbrev pub reply_of : Result Reply Refusal → Replied
reply_of (Ok Done) = done
reply_of (Ok (Number z)) = number z
reply_of (Ok (Count n)) = count n
reply_of (Ok (Token t)) = token t
reply_of (Err e) = refused (refusals.number e)

abbrev pub as_done : Answer (Unit {0}) → Replied
as_done (gives u) = done
as_done (refuses n) = refused n

abbrev pub as_number : Answer ℤ → Replied
as_number (gives z) = number z
as_number (refuses n) = refused n

abbrev pub as_token : Answer (Option Record) → Replied
as_token (gives t) = token t
as_token (refuses n) = refused n

abbrev pub as_got : Answer Record → Replied
as_got (gives t) = token (Some t)
as_got (refuses n) = refused n

abbrev pub as_count : Answer ℕ → Replied
as_count (gives n) = count n
as_count (refuses n) = refused n
