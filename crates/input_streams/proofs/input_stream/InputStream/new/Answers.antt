use Rattle.std.proofs.Common.{ap}
use Rattle.streams.specs.Marks.{numbered, numbers}
use Rattle.input_streams.proofs.Moves.{start_small, shows_first}
use Rattle.input_streams.proofs.input_stream.InputStream.new.Goals as goal

pub invariant_of-result : goal.invariant_of-result
invariant_of-result g c =
    let input = g.D.InputData in
    record {
      inside = start_small (input.meaning c.args.text) (input.lawful c.args.text) _ _ c.start_from-index.ensures.value;
      alike = λ n. ap (λ how. numbered how n) c.new.ensures.numbering;
    }

pub returns-clause-shows : goal.returns-clause-shows
returns-clause-shows g c =
    let input = g.D.InputData in
    shows_first (input.meaning c.args.text) (input.lawful c.args.text) _ _ c.start_from-index.ensures.value (ap (numbers c.new.result.numbering) c.new.ensures.none)
