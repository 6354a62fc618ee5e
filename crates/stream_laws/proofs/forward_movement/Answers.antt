use Rattle.std.proofs.Common.{sym, ◌∙◌}
use Rattle.stream_laws.proofs.Laws.{index_after}
use Rattle.stream_laws.proofs.forward_movement.Goals as goal

pub returns : goal.returns
returns g c =
    let i = g.S.IntStream in
    let steps = c.consume-step.ensures in
    let there = c.index-after.ensures in
    record {
      forward_movement = λ s shown y before step.
          let on = index_after s y (i.lawful c.args.stream.now s shown).0 (sym (c.index-before.ensures.value s shown) ∙ before) (sym (steps.value s shown) ∙ step) in
          (on.0, there.value _ (steps.after s shown) ∙ on.1, on.2);
      here = c.index-before.ensures.value;
      step = steps.value;
      there = λ s shown. there.value _ (steps.after s shown);
      after = steps.after;
      status = steps.status;
      unaltered = steps.unaltered;
    }
