use Rattle.std.proofs.Common.{length, negsuc, ap, ◌∙◌}
use Rattle.streams.specs.Streams.{with_marks}
use Rattle.streams.specs.Calls.{marks_after_mark}
use Rattle.token_streams.specs.Calls.{after_mark}
use Rattle.token_streams.specs.Shown.{status_of}
use Rattle.token_streams.proofs.Symbols.{marks_same}
use Rattle.token_streams.proofs.token_stream.symbols.UnbufferedTokenStreamIntStream.mark.Goals as goal

pub returns-clause-after : goal.returns-clause-after
returns-clause-after g c = λ s of.
    let found = c.mark.ensures in
    let n = negsuc (length (status_of c.args.self.now).marks) in
    let u = of.stream in
    record {
      stream = after_mark u n;
      is_shown = found.after u of.is_shown;
      symbols =
          ap (with_marks s) (ap (λ t. t.marks) found.status ∙ ap (λ t. marks_after_mark t n) of.is_shown.same_status)
          ∙ ap (λ s. with_marks s (marks_after_mark u.status n)) of.symbols ∙ marks_same u of.is_shown.holds.ended of.is_shown.on_token (marks_after_mark u.status n);
    }
