use Rattle.std.proofs.Common.{refl, ap, ◌∙◌}
use Rattle.texts.specs.Units.{row_of}
use Rattle.texts.proofs.Row.{row_got}
use Rattle.texts.proofs.units.UnitsInputData.part.Goals as goal

pub returns-clause-value : goal.returns-clause-value
returns-clause-value g c =
    ap (λ r. row_of g.T.Unit.number r.now) c.unwrap_or-units.ensures ∙ row_got g.T.Unit.number c.args.self.now.units.now c.args.from c.args.to c.get.result _ c.get.ensures.lookup refl
