use Rattle.std.proofs.Common.{length, negsuc, ap, ◌∙◌}
use Rattle.streams.specs.Calls.{marks_after_mark, status_with}
use Rattle.streams.specs.Marks.{numbers, marking, after_marking}
use Rattle.token_streams.specs.Shown.{status_of}
use Rattle.token_streams.proofs.Answered.{when_opened}
use Rattle.token_streams.proofs.Marking.{next_number, marks_as_marking, marking_keeps, together_marked}
use Rattle.token_streams.proofs.Steps.{is_open}
use Rattle.token_streams.proofs.token_stream.UnbufferedTokenStream.mark.Goals as goal

pub returns : goal.returns
returns g c =
    let self = c.args.self.now in
    let t = status_of self in
    let made = c.mark.ensures in
    let number = next_number self.marks.numbering self.marks.out self.falling in
    let ms = numbers self.marks.numbering self.marks.out in
    let kept = made.after ∙ ap (after_marking ms) number ∙ marks_as_marking t c.in_ok-opened.ensures.open _ in
    let status = ap (λ ms. record { opened = self.open; marks = ms }) kept in
    record {
      value = made.value ∙ ap (marking ms) number ∙ when_opened t _ c.in_ok-opened.ensures.open;
      after = λ u s.
          let o = is_open s c.in_ok-opened.ensures.open in
          let n = negsuc (length ms) in
          together_marked s (marks_after_mark u.status n) _ (λ none. marking_keeps u.status.marks n (marks_as_marking u.status o n ∙ none))
          (status ∙ ap (λ t. status_with t (marks_after_mark t n)) s.same_status);
      status = status;
    }
