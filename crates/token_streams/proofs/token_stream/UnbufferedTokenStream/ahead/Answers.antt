use Rattle.std.proofs.Common.{sym, ap, ◌∙◌}
use Rattle.refusals.specs.Answers.{gives}
use Rattle.windows.specs.Windows.{token_of}
use Rattle.token_streams.proofs.Together.{ahead_on, ahead_token, ahead_at}
use Rattle.token_streams.proofs.Answered.{ahead_some}
use Rattle.token_streams.proofs.Steps.{is_open}
use Rattle.token_streams.proofs.token_stream.UnbufferedTokenStream.ahead.Goals as goal

pub returns-in_err-at-clause-after : goal.returns-in_err-at-clause-after
returns-in_err-at-clause-after g c = λ u s. let see = c.see.ensures in ahead_on s _ _ _ c.args.k (is_open s c.requires.opened) see.start see.capacity see.after see.pulled see.texts

pub returns-clause-value : goal.returns-clause-value
returns-clause-value g c = λ u s.
    let see = c.see.ensures in
    let here = ahead_at s c.args.k c.in_ok-at.at (λ list holds. sym c.in_ok-at.ensures.ok_part ∙ see.value list holds) in
    ap gives (c.get.ensures.value ∙ ap (token_of c.see.new.self.window) here.0 ∙ ahead_token s _ _ _ c.args.k (is_open s c.requires.opened) see.start see.capacity see.after see.pulled see.texts here.1) ∙ ahead_some u c.args.k here.1

pub returns-clause-after : goal.returns-clause-after
returns-clause-after g c = λ u s. let see = c.see.ensures in ahead_on s _ _ _ c.args.k (is_open s c.requires.opened) see.start see.capacity see.after see.pulled see.texts
