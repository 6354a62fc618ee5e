use Rattle.std.proofs.Common.{ap, ◌∙◌, w32}
use Rattle.std.proofs.lemmas.Int.{to_z-of_z}
use Rattle.token_streams.specs.Calls.{get}
use Rattle.token_streams.proofs.Held.{get_found}
use Rattle.token_streams.proofs.Steps.{is_open}
use Rattle.token_streams.proofs.token_stream.UnbufferedTokenStream.get.Goals as goal

pub returns : goal.returns
returns g c = record {
  value = λ u s. c.get.ensures.value ∙ get_found s (is_open s c.in_ok-opened.ensures.open) _ ∙ ap (get u) (to_z-of_z w32 c.args.index c.ranges.index);
}
