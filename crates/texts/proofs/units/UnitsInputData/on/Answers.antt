use Rattle.std.proofs.Common.{◌+◌, ◌<◌, leb, length, sym, ap, ◌∙◌, arith}
use Rattle.std.specs.Bool.{then_some}
use Rattle.texts.proofs.Row.{row_on_tested, row_on_none}
use Rattle.texts.proofs.units.UnitsInputData.on.Goals as goal

pub returns-in_err-at : goal.returns-in_err-at
returns-in_err-at g c =
    let self = c.args.self.now in
    let far : length self.units.now < c.args.from + c.args.steps = omega (arith, self.few) in
    rw c.from_residual.ensures record { value = sym (row_on_none g.T.Unit.number self.units.now self.few c.args.steps c.args.from (omega arith) far) }

pub returns : goal.returns
returns g c =
    let self = c.args.self.now in
    record { value = c.then_some.ensures ∙ ap (λ a. then_some (leb a (length self.units.now)) a) c.in_ok-at.ensures.1 ∙ row_on_tested g.T.Unit.number self.units.now self.few c.args.steps c.args.from (omega arith) }
