use Rattle.std.proofs.Common.{length, sym, ap, ◌∙◌, arith}
use Rattle.streams.specs.Marks.{falls, released}
use Rattle.streams.proofs.Numbers.{length_numbers}
use Rattle.token_streams.specs.Calls.{after_release}
use Rattle.token_streams.specs.Shown.{status_of}
use Rattle.runs.proofs.Synced.{shrunk}
use Rattle.runs.proofs.session.Session.close.Goals as goal

pub back-preserved : goal.back-preserved
back-preserved g c =
    let was = c.back.stream in
    let t = status_of was in
    let left = c.release.new.self.marks in
    let n = c.in-Some.mark.number in
    let less = shrunk t n (sym (ap released c.unwrap.ensures) ∙ c.release.ensures.value) in
    let out = length_numbers was.marks.numbering was.marks.out in
    let now_out = sym (length_numbers left.numbering left.out) ∙ ap (λ t. length t.marks) c.release.ensures.status in (
      omega (arith, c.in-Some.ensures.after, out, now_out, less, c.back.invariant.0),
      ap falls c.in-Some.ensures.numbering ∙ c.back.invariant.1,
      λ u s.
          let kept = c.back.invariant.2 u s in
          record { stream = after_release kept.stream n; is_shown = c.release.ensures.after kept.stream kept.is_shown; same_feed = kept.same_feed; same_pulled = kept.same_pulled },
    )
