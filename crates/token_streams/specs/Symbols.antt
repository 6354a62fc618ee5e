-- The tokens of a stream as symbols. Assumes nothing.
use Rattle.std.specs.Prelude.{◌≡◌, map, refl}
use Rattle.std.proofs.Common.{◌∙◌}
use Rattle.characters.specs.Signed.{upward}
use Rattle.tokens.specs.declared.token.Token.{Token}
use Rattle.streams.specs.Streams.{Symbol, Stream, sliding}
use Rattle.token_streams.specs.Unbuffered.{Feed, Unbuffered, tokens}

-- a token's type at its index
abbrev pub symbol : Token → Symbol
symbol k = record { index = upward k.index; number = k.token_type }

-- every token of an unbuffered stream is visible
abbrev pub stream_of : Unbuffered → Stream
stream_of u = record { status = u.status; symbols = map symbol (tokens u); cursor = u.cursor; floor = u.floor; sight = sliding u.capacity }

-- a stream of symbols is that of one of the streams of tokens which are shown
pub record SymbolsOf (shown : Unbuffered → Type 0) (s : Stream) : Type 0 where
  pub stream : Unbuffered
  pub is_shown : shown stream
  pub symbols : s ≡ stream_of stream

-- a stream of tokens over the same list and texts is shown still
pub record Still (shown : Unbuffered → Type 0) (f : Feed) : Type 0 where
  pub stream : Unbuffered
  pub is_shown : shown stream
  pub same_feed : stream.feed ≡ f

abbrev pub Unaltered : (Unbuffered → Type 0) → (Unbuffered → Type 0) → Type 0
Unaltered shown shown' = (u : Unbuffered) → shown u → Still shown' u.feed

pub unaltered_same : (shown : Unbuffered → Type 0) → Unaltered shown shown
unaltered_same shown u s = record { stream = u; is_shown = s; same_feed = refl }

pub unaltered_chained : (one two three : Unbuffered → Type 0) → Unaltered one two → Unaltered two three → Unaltered one three
unaltered_chained one two three f g u s =
    let a = f u s in
    let b = g a.stream a.is_shown in
    record { stream = b.stream; is_shown = b.is_shown; same_feed = b.same_feed ∙ a.same_feed }
