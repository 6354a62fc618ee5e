use Rattle.std.proofs.Common.{sym, ap, ◌∙◌, w32, SFits, rules}
use Rattle.std.proofs.lemmas.Int.{to_z-of_z}
use Rattle.refusals.specs.Answers.{gives}
use Rattle.input_streams.proofs.Moves.{counts_ahead, counts_behind, looked_ahead, looked_behind}
use Rattle.input_streams.proofs.input_stream.InputStreamIntStream.la.Goals as goal

pub returns-in-Less-clause-value : goal.returns-in-Less-clause-value
returns-in-Less-clause-value g c = λ s shown.
    let fits : SFits w32 c.number_behind.result = search rules in
    let input = g.D.InputData in
    let self = c.args.self.now in
    let passed = to_z-of_z w32 c.args.k c.ranges.k in
    let steps = counts_behind _ c.in-Less.ensures in
    ap gives (to_z-of_z w32 c.number_behind.result fits)
    ∙ looked_behind (input.meaning self.text) (input.lawful self.text) _ _ s shown c.args.k steps.0 _ _ (sym passed ∙ steps.1) (c.unsigned_abs.ensures.value ∙ steps.2) c.number_behind.ensures.value

pub returns-in-Greater-clause-value : goal.returns-in-Greater-clause-value
returns-in-Greater-clause-value g c = λ s shown.
    let fits : SFits w32 c.number_ahead.result = search rules in
    let input = g.D.InputData in
    let self = c.args.self.now in
    let passed = to_z-of_z w32 c.args.k c.ranges.k in
    let steps = counts_ahead _ c.in-Greater.ensures in
    ap gives (to_z-of_z w32 c.number_ahead.result fits)
    ∙ looked_ahead (input.meaning self.text) (input.lawful self.text) _ _ s shown c.args.k _ _ (sym passed ∙ steps) c.number_ahead.ensures.value
