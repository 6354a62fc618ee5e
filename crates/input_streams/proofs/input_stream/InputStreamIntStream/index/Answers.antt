use Rattle.std.proofs.Common.{◌^◌, ◌<◌, ap, ◌∙◌, arith, w32}
use Rattle.std.proofs.lemmas.Int.{to_z_pos}
use Rattle.refusals.specs.Answers.{gives}
use Rattle.input_streams.proofs.Moves.{index_is}
use Rattle.input_streams.proofs.input_stream.InputStreamIntStream.index.Goals as goal

pub returns : goal.returns
returns g c =
    let input = g.D.InputData in
    let self = c.args.self.now in
    let small : self.index < 2 ^ 31 = omega (arith, self.inside) in
    let position = ap gives (to_z_pos w32 self.index small) in
    record { value = λ s shown. position ∙ index_is (input.meaning self.text) (input.lawful self.text) self.index _ s shown; position = position }
