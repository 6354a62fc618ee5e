use Rattle.std.proofs.Common.{◌≡◌, pos, rules}
use Rattle.input_streams.proofs.Moves.{start_small, is_sought}
use Rattle.input_streams.proofs.input_stream.InputStreamIntStream.seek.Goals as goal

pub invariant_of-self : goal.invariant_of-self
invariant_of-self g c =
    let input = g.D.InputData in
    let self = c.args.self.now in
    record { inside = start_small (input.meaning self.text) (input.lawful self.text) _ _ c.start_from-self.ensures.value; alike = self.alike }

pub returns-clause-after : goal.returns-clause-after
returns-clause-after g c = λ s shown.
    let input = g.D.InputData in
    let text = c.args.self.now.text in
    let to : c.args.index ≡ pos c.in_ok-index.index = search rules in
    (is_sought (input.meaning text) (input.lawful text) _ _ s shown _ _ _ to c.start_from-self.ensures.value).1
