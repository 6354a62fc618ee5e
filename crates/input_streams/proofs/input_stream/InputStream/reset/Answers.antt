use Rattle.input_streams.proofs.Moves.{start_small, shows_front, is_reset}
use Rattle.input_streams.proofs.input_stream.InputStream.reset.Goals as goal

pub invariant_of-self : goal.invariant_of-self
invariant_of-self g c =
    let input = g.D.InputData in
    let self = c.args.self.now in
    record { inside = start_small (input.meaning self.text) (input.lawful self.text) _ _ c.start_from-self.ensures.value; alike = self.alike }

pub returns-clause-shows : goal.returns-clause-shows
returns-clause-shows g c =
    let input = g.D.InputData in
    let self = c.args.self.now in
    shows_front (input.meaning self.text) (input.lawful self.text) _ _ c.start_from-self.ensures.value

pub returns-clause-after : goal.returns-clause-after
returns-clause-after g c = λ s shown.
    let input = g.D.InputData in
    let self = c.args.self.now in
    is_reset (input.meaning self.text) (input.lawful self.text) _ _ s shown _ c.start_from-self.ensures.value
