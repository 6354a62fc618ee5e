use Rattle.std.proofs.Common.{pos, sym, ap, ◌∙◌, w32}
use Rattle.std.proofs.lemmas.Int.{to_z-of_z}
use Rattle.streams.specs.Calls as symbols
use Rattle.token_streams.specs.Calls.{la}
use Rattle.token_streams.proofs.Symbols.{la_same}
use Rattle.token_streams.proofs.token_stream.symbols.UnbufferedTokenStreamIntStream.la.Goals as goal

pub returns-clause-value : goal.returns-clause-value
returns-clause-value g c = λ s of.
    let k = c.args.k in
    let u = of.stream in
    c.la.ensures.value u of.is_shown ∙ ap (la u) (to_z-of_z w32 k c.ranges.k) ∙ sym (la_same u of.is_shown.holds.ended of.is_shown.on_token k) ∙ ap (λ s. symbols.la s (pos 0) k) (sym of.symbols)
