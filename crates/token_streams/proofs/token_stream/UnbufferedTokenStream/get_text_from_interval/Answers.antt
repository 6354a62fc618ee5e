use Rattle.std.proofs.Common.{◌∙◌, w32, to_z, of_z}
use Rattle.std.proofs.lemmas.Int.{to_z-of_z}
use Rattle.token_streams.specs.Calls.{text, text_left}
use Rattle.token_streams.proofs.Held.{text_found, text_left_found}
use Rattle.token_streams.proofs.Steps.{is_open}
use Rattle.token_streams.proofs.token_stream.UnbufferedTokenStream.get_text_from_interval.Goals as goal

pub returns : goal.returns
returns g c =
    let start = to_z-of_z w32 c.args.start c.ranges.start in
    let stop = to_z-of_z w32 c.args.stop c.ranges.stop in
    record {
      value = λ u s. c.text.ensures.value ∙ text_found s (is_open s c.in_ok-opened.ensures.open) (to_z w32 (of_z w32 c.args.start)) (to_z w32 (of_z w32 c.args.stop)) c.args.out.now ∙ (λ i. text u (start i) (stop i) c.args.out.now);
      after = λ u s. c.text.ensures.after ∙ text_left_found s (is_open s c.in_ok-opened.ensures.open) (to_z w32 (of_z w32 c.args.start)) (to_z w32 (of_z w32 c.args.stop)) c.args.out.now ∙ (λ i. text_left u (start i) (stop i) c.args.out.now);
    }
