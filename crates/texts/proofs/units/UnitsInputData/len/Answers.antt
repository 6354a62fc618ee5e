use Rattle.std.proofs.Common.{sym}
use Rattle.texts.proofs.Row.{row_size}
use Rattle.texts.proofs.units.UnitsInputData.len.Goals as goal

pub returns : goal.returns
returns g c = record { value = sym (row_size g.T.Unit.number c.args.self.now.units.now) }
