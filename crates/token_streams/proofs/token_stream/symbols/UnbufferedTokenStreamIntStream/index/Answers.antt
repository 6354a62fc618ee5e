use Rattle.std.proofs.Common.{sym, ap, ◌∙◌}
use Rattle.streams.specs.Calls as symbols
use Rattle.token_streams.proofs.Symbols.{index_same}
use Rattle.token_streams.proofs.token_stream.symbols.UnbufferedTokenStreamIntStream.index.Goals as goal

pub returns : goal.returns
returns g c = record {
  value = λ s of.
      let u = of.stream in
      c.index.ensures.value u of.is_shown ∙ sym (index_same u of.is_shown.holds.ended of.is_shown.on_token) ∙ ap symbols.index_answer (sym of.symbols);
}
