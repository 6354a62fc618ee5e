use Rattle.std.proofs.Common.{arith}
use Rattle.texts.proofs.Row.{row_back_checked}
use Rattle.texts.proofs.units.UnitsInputData.back.Goals as goal

pub returns : goal.returns
returns g c =
    let self = c.args.self.now in
    record { value = row_back_checked g.T.Unit.number self.units.now self.few c.args.steps c.args.from _ _ (omega arith) c.min.ensures c.checked_sub.ensures }
