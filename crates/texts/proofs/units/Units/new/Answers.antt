use Rattle.std.proofs.Common.{◌^◌, ◌<◌, map, sym, ap, ◌∙◌}
use Rattle.std.proofs.lemmas.List.Elements.{All-nil, All-same}
use Rattle.characters.proofs.Intervals.{is_granted}
use Rattle.texts.specs.Units.{in_a_row, row_of}
use Rattle.texts.proofs.Row.{row_none}
use Rattle.texts.proofs.Checked.{small_given, each_small, numbers_given, text_given, text_refused}
use Rattle.texts.proofs.units.Units.new.Goals as goal
use Rattle.texts.proofs.units.Units.new.Goals.{then-is_ok, else-is_ok}

pub returns : goal.returns
returns g c =
    let number = g.T.Unit.number in
    record {
      value =
          elim c.if-is_ok.branch [
            | then-is_ok w ↦ ap (λ r. row_of number r.now) w.units-is ∙ text_given number c.args.units.now _ (is_granted _ (sym c.is_ok.ensures.value ∙ w.if-is_ok.true) ∙ c.check.ensures.value)
            | else-is_ok w ↦ ap (λ r. row_of number r.now) w.units-is ∙ row_none number ∙ text_refused (map number c.args.units.now) _ c.check.ensures.value (sym c.is_ok.ensures.value ∙ w.if-is_ok.false)
          ];
      uncut =
          elim c.if-is_ok.branch [
            | then-is_ok w ↦ ap (λ r. in_a_row (map number r.now)) w.units-is ∙ numbers_given (map number c.args.units.now) _ (is_granted _ (sym c.is_ok.ensures.value ∙ w.if-is_ok.true) ∙ c.check.ensures.value)
            | else-is_ok w ↦ ap (λ r. in_a_row (map number r.now)) w.units-is ∙ text_refused (map number c.args.units.now) _ c.check.ensures.value (sym c.is_ok.ensures.value ∙ w.if-is_ok.false)
          ];
      small =
          elim c.if-is_ok.branch [
            | then-is_ok w ↦ All-same (λ u. number u < 2 ^ 31) _ _ (ap (λ r. r.now) w.units-is) (each_small number c.args.units.now (small_given (map number c.args.units.now) _ (is_granted _ (sym c.is_ok.ensures.value ∙ w.if-is_ok.true) ∙ c.check.ensures.value)))
            | else-is_ok w ↦ All-same (λ u. number u < 2 ^ 31) _ _ (ap (λ r. r.now) w.units-is) (All-nil (λ u. number u < 2 ^ 31))
          ];
    }
