use Rattle.std.proofs.Common.{refl, ap, ◌∙◌, subst}
use Rattle.streams.specs.Calls.{marks_after_release, status_with}
use Rattle.token_streams.specs.Shown.{status_of}
use Rattle.token_streams.proofs.Together.{Frees, frees}
use Rattle.token_streams.proofs.Marking.{marks_as_releasing, together_released}
use Rattle.token_streams.proofs.Steps.{together_as}
use Rattle.token_streams.proofs.token_stream.UnbufferedTokenStream.release.Goals as goal

pub returns-clause-after : goal.returns-clause-after
returns-clause-after g c = λ u s.
    let self = c.args.self.now in
    let n = c.args.mark.number in
    let left = c.release.new.self in
    let settled = c.settle.ensures in
    let marks = c.release.ensures.after ∙ marks_as_releasing (status_of self) c.in_default.ensures.open n in
    let status = ap (λ ms. record { opened = self.open; marks = ms }) marks in
    let same = ap (λ t. marks_after_release t n) s.same_status in
    together_as refl settled.window (ap g.S.TokenSource.coming settled.source) (ap g.S.TokenSource.text settled.source) settled.cursor settled.before settled.status
    (together_released s (marks_after_release u.status n) _ _ (subst (Frees _) (marks ∙ same) (frees left.numbering left.out)) (status ∙ ap (λ t. status_with t (marks_after_release t n)) s.same_status))
