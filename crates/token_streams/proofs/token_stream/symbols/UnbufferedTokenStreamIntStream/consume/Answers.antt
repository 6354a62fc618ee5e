use Rattle.std.proofs.Common.{sym, ap, ◌∙◌}
use Rattle.streams.specs.Calls as symbols
use Rattle.token_streams.specs.Calls.{after_consume}
use Rattle.token_streams.proofs.Symbols.{consume_same, consumed_same}
use Rattle.token_streams.proofs.token_stream.symbols.UnbufferedTokenStreamIntStream.consume.Goals as goal

pub returns-clause-value : goal.returns-clause-value
returns-clause-value g c = λ s of.
    let u = of.stream in
    c.consume.ensures.value u of.is_shown ∙ sym (consume_same u of.is_shown.holds.ended of.is_shown.on_token) ∙ ap symbols.consume (sym of.symbols)

pub returns-clause-after : goal.returns-clause-after
returns-clause-after g c = λ s of.
    let u = of.stream in
    record {
      stream = after_consume u;
      is_shown = c.consume.ensures.after u of.is_shown;
      symbols = ap symbols.consumed of.symbols ∙ consumed_same u of.is_shown.holds.ended of.is_shown.on_token;
    }
