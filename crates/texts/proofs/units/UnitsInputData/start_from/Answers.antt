use Rattle.std.proofs.Common.{sym, ◌∙◌}
use Rattle.texts.proofs.Row.{row_from_min}
use Rattle.texts.proofs.units.UnitsInputData.start_from.Goals as goal

pub returns : goal.returns
returns g c = record { value = c.min.ensures ∙ sym (row_from_min g.T.Unit.number c.args.self.now.units.now c.args.at) }
