use Rattle.std.proofs.Common.{◌≡◌, ◌∙◌, ap, sym, arith, rules, w32}
use Rattle.std.proofs.lemmas.Grind.{common_steps}
use Rattle.std.proofs.lemmas.Int.{to_z-of_z}
use Rattle.refusals.specs.Answers.{answer}
use Rattle.token_streams.specs.Calls.{text}
use Rattle.runs.specs.Replies.{reply_of, as_count}
use Rattle.runs.specs.Runs.{replied}
use Rattle.runs.proofs.session.Session.call.Goals as goal

pub returns-in-Text-clause-value : goal.returns-in-Text-clause-value
returns-in-Text-clause-value g c =
    let counted : reply_of c.map-in-Text.result ≡ as_count (answer c.get_text_from_interval-written.result) = grind (arith, common_steps) in
    let start = to_z-of_z w32 c.in-Text.start (search rules) in
    let stop = to_z-of_z w32 c.in-Text.stop (search rules) in
    λ u s. counted ∙ ap as_count (c.get_text_from_interval-written.ensures.value u s ∙ (λ i. text u (start i) (stop i) c.args.out.now)) ∙ ap (replied u c.args.out.now) (sym c.in-Text.is)
