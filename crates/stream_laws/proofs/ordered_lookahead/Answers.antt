use Rattle.std.proofs.Common.{sym, ◌∙◌}
use Rattle.streams.specs.Streams.{Stream}
use Rattle.streams.specs.Calls.{consumed}
use Rattle.stream_laws.proofs.Laws.{behind_was_ahead}
use Rattle.stream_laws.proofs.ordered_lookahead.Goals as goal

pub returns : goal.returns
returns g c =
    let i = g.S.IntStream in
    let x = c.args.stream.now in
    let looks = c.la-ahead.ensures in
    let steps = c.consume-step.ensures in
    let back = c.la-behind.ensures in
    let stepped : (s : Stream) → i.shows x s → i.shows c.consume-step.new.self (consumed s) = λ s shown. steps.after s (looks.after s shown) in
    record {
      ordered_lookahead = λ s shown z ahead step.
          back.value _ (stepped s shown)
          ∙ behind_was_ahead s i.NOTHING_BEFORE z (i.lawful x s shown).0 (sym (looks.value s shown) ∙ ahead) (sym (steps.value s (looks.after s shown)) ∙ step);
      ahead = looks.value;
      step = λ s shown. steps.value s (looks.after s shown);
      behind = λ s shown. back.value _ (stepped s shown);
      after = λ s shown. back.after _ (stepped s shown);
      status = back.status ∙ steps.status ∙ looks.status;
      unaltered = i.chained _ _ _ looks.unaltered (i.chained _ _ _ steps.unaltered back.unaltered);
    }
