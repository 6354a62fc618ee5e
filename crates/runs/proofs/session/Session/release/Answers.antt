use Rattle.std.proofs.Common.{length, sym, ap, ◌∙◌, arith}
use Rattle.streams.proofs.Numbers.{length_numbers}
use Rattle.token_streams.specs.Shown.{status_of}
use Rattle.runs.proofs.Synced.{shrunk, not_shrunk}
use Rattle.runs.proofs.session.Session.release.Goals as goal

pub invariant_of-self-clause-all : goal.invariant_of-self-clause-all
invariant_of-self-clause-all g c =
    let self = c.args.self.now in
    let t = status_of self.stream in
    let left = c.release.new.self.marks in
    let less = shrunk t _ c.in-Ok.ensures.value in
    let out = length_numbers self.stream.marks.numbering self.stream.marks.out in
    let now_out = sym (length_numbers left.numbering left.out) ∙ ap (λ t. length t.marks) c.in-Ok.ensures.status in
    omega (arith, c.pop.ensures.after, out, now_out, less, self.all)

pub invariant_of-self-in-Err-1 : goal.invariant_of-self-in-Err-1
invariant_of-self-in-Err-1 g c =
    let self = c.args.self.now in
    let t = status_of self.stream in
    let left = c.release.new.self.marks in
    let kept = not_shrunk t _ _ c.in-Err.ensures.value in
    let out = length_numbers self.stream.marks.numbering self.stream.marks.out in
    let now_out = sym (length_numbers left.numbering left.out) ∙ ap (λ t. length t.marks) c.in-Err.ensures.status in
    record { all = omega (arith, out, now_out, kept, self.all); falling = self.falling }
