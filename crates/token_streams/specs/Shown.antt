-- Which stream of a source's tokens an unbuffered stream shows. Assumes nothing.
use Rattle.std.specs.Prelude.{◌≡◌, ℕ, ◌-◌, ◌<◌, ◌≤◌, true, false, List, [], length, Some, Option}
use Rattle.tokens.specs.declared.token.Token.{Token}
use Rattle.tokens.specs.declared.token_source.TokenSource.{Ghosts}
use Rattle.streams.specs.Streams.{Status}
use Rattle.streams.specs.Marks.{numbers}
use Rattle.windows.specs.Windows.{View, end}
use Rattle.windows.specs.Held.{Holds}
use Rattle.token_streams.specs.declared.token_stream.UnbufferedTokenStream.{UnbufferedTokenStream}
use Rattle.token_streams.specs.Unbuffered.{Unbuffered, token_at, reach}

abbrev pub status_of : {S : Type 0} → UnbufferedTokenStream S → Status
status_of x = record { opened = x.«open»; marks = numbers x.marks.numbering x.marks.out }

-- the parts of a stream as they hold together
pub record Together (u : Unbuffered) (v : View) (coming : List Token) (text : Token → List ℕ) (cursor : ℕ) (before : Option Token) (status : Status) : Type 0 where
  pub holds : Holds u.feed.list v coming
  pub same_text : text ≡ u.feed.text
  pub same_status : status ≡ u.status
  pub same_capacity : v.capacity ≡ u.capacity
  pub same_cursor : cursor ≡ u.cursor
  pub same_floor : v.start ≡ u.floor
  pub same_pulled : end v ≡ u.pulled
  pub above_floor : u.floor ≤ u.cursor
  pub on_token : u.cursor < length u.feed.list
  pub seen : u.cursor ≤ u.pulled
  pub in_window : u.pulled ≤ reach u
  pub nothing_yet : u.status.opened ≡ false → u.pulled ≤ u.floor
  pub room : u.status.opened ≡ true → 2 ≤ u.capacity
  pub sees : u.status.opened ≡ true → u.cursor < reach u
  pub at_rest : u.status.marks ≡ [] → u.floor ≡ u.cursor
  pub token_before : 0 < u.floor → before ≡ Some (token_at u (u.floor - 1))

abbrev pub Shows : {S : Type 0} → Ghosts S → UnbufferedTokenStream S → Unbuffered → Type 0
Shows source x u = Together u x.buffer.window (source.coming x.buffer.source) (source.text x.buffer.source) x.cursor x.before (status_of x)
