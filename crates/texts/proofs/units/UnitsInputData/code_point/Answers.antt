use Rattle.std.proofs.Common.{◌%◌, ◌^◌, Some, sym, ap, ◌∙◌, add-one, arith}
use Rattle.texts.proofs.Row.{row_item, row_item_past, row_from}
use Rattle.texts.proofs.units.UnitsInputData.code_point.Goals as goal

pub returns-in_err-get-clause-value : goal.returns-in_err-get-clause-value
returns-in_err-get-clause-value g c = rw c.from_residual.ensures (sym (row_item_past g.T.Unit.number c.args.self.now.units.now c.args.at c.in_err-get.ensures.lookup.3))

pub returns-clause-value : goal.returns-clause-value
returns-clause-value g c =
    let found = c.in_ok-get.ensures.lookup in
    ap (λ n. Some (n % 2 ^ 31)) c.number-code.ensures.value ∙ sym (row_item g.T.Unit.number c.args.self.now.units.now c.args.at _ found.3.0 found.1)

pub returns-clause-next : goal.returns-clause-next
returns-clause-next g c = add-one c.args.at ∙ sym (row_from g.T.Unit.number c.args.self.now.units.now _ (omega (arith, c.in_ok-get.ensures.lookup.3.0)))
