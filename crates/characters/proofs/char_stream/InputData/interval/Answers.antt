use Rattle.std.proofs.Common.{cond, sym, ap, ◌∙◌, w32}
use Rattle.std.proofs.lemmas.Int.{to_z-of_z}
use Rattle.characters.specs.Text.{empty, cuts, part, start_from}
use Rattle.characters.specs.Signed.{upward, past, interval_check}
use Rattle.characters.proofs.Intervals.{interval_given, is_granted}
use Rattle.characters.proofs.char_stream.InputData.interval.Goals as goal

pub returns-then-is_ok : goal.returns-then-is_ok
returns-then-is_ok g c =
    let self = g.Self.InputData in
    let t = self.meaning c.args.self.now in
    let start = to_z-of_z w32 c.args.start c.ranges.start in
    let stop = to_z-of_z w32 c.args.stop c.ranges.stop in
    let low = c.upward.ensures.value ∙ ap upward start in
    let high = c.start_from.ensures.value ∙ ap (start_from t) (c.past.ensures.value ∙ ap past stop) in
    let checked = is_granted _ (sym c.is_ok.ensures.value ∙ c.if-is_ok.true) ∙ c.check_interval.ensures.value ∙ (λ i. interval_check t (start i) (stop i)) in
    record {
      value =
          c.part.ensures.value ∙ (λ i. cond (cuts t (low i) (high i)) (part t (low i) (high i)) empty)
          ∙ interval_given t (self.lawful c.args.self.now) c.args.start c.args.stop (sym checked);
    }
