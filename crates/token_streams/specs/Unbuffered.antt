-- What an unbuffered token stream means: all of its source's list, and how far the stream has come in it. Assumes nothing.
use Rattle.std.specs.Prelude.{ℕ, suc, ◌+◌, ◌-◌, min, max, false, List, [], length, slice_index_or}
use Rattle.tokens.specs.declared.token.Token.{Token}
use Rattle.streams.specs.Streams.{Status, sliding, resting}
use Rattle.windows.specs.Lists.{stamps, blank}

-- what lies behind a token stream: its source's list as it was when the stream was made, and the text of each token record
pub record Feed : Type 0 where
  pub list : List Token
  pub text : Token → List ℕ

-- the cursor, the floor and the number pulled are indexes of the list; capacity is that of the window
pub record Unbuffered : Type 0 where
  pub feed : Feed
  pub status : Status
  pub capacity : ℕ
  pub cursor : ℕ
  pub floor : ℕ
  pub pulled : ℕ

-- the tokens of the whole list, stamped from 0
abbrev pub tokens : Unbuffered → List Token
tokens u = stamps 0 u.feed.list

abbrev pub token_at : Unbuffered → ℕ → Token
token_at u i = slice_index_or (tokens u) i blank

abbrev pub eof_index : Unbuffered → ℕ
eof_index u = length u.feed.list - 1

abbrev pub reach : Unbuffered → ℕ
reach u = u.floor + u.capacity

-- the index at which an index is looked for: its own, or the EOF's where the list is shorter
abbrev pub clamped : Unbuffered → ℕ → ℕ
clamped u i = min i (eof_index u)

-- the stream once the token of an index was needed: all tokens up to that one are pulled, but none at the reach or above
abbrev pub needed : Unbuffered → ℕ → Unbuffered
needed u i = record { feed = u.feed; status = u.status; capacity = u.capacity; cursor = u.cursor; floor = u.floor; pulled = max u.pulled (min (reach u) (suc i)) }

-- the stream with its cursor on an index; the floor follows while no mark is out
abbrev pub moved : Unbuffered → ℕ → Unbuffered
moved u i = record { feed = u.feed; status = u.status; capacity = u.capacity; cursor = i; floor = resting (sliding u.capacity) u.status.marks i u.floor; pulled = u.pulled }

-- the stream with another status; the floor comes to the cursor where no mark is out
abbrev pub with_status : Unbuffered → Status → Unbuffered
with_status u t = record { feed = u.feed; status = t; capacity = u.capacity; cursor = u.cursor; floor = resting (sliding u.capacity) t.marks u.cursor u.floor; pulled = u.pulled }

-- a stream that was just made over a source
abbrev pub unopened : Feed → Unbuffered
unopened f = record { feed = f; status = record { opened = false; marks = [] }; capacity = 0; cursor = 0; floor = 0; pulled = 0 }
