use Rattle.std.proofs.Common.{◌≡◌, ◌-◌, ◌≤◌, length, pos, ap, ◌∙◌, arith, w32, to_z, rules}
use Rattle.std.proofs.lemmas.Int.{ints}
use Rattle.refusals.specs.Answers.{gives}
use Rattle.token_streams.specs.Shown.{status_of}
use Rattle.token_streams.proofs.Answered.{when_opened}
use Rattle.token_streams.proofs.token_stream.UnbufferedTokenStream.size.Goals as goal

pub overflow_cast-result : goal.overflow_cast-result
overflow_cast-result g c =
    let window = c.args.self.now.buffer.window in
    let few : c.end.result - c.start.result ≤ 1048576 = omega (arith, c.end.ensures.few) in
    search rules

pub returns-clause-held : goal.returns-clause-held
returns-clause-held g c =
    let self = c.args.self.now in
    let window = self.buffer.window in
    let few : c.end.result - c.start.result ≤ 1048576 = omega (arith, c.end.ensures.few) in
    let count : to_z w32 (c.end.result - c.start.result) ≡ pos (length window.tokens) = omega (arith, ints, c.end.ensures.value, c.start.ensures.value) in
    ap gives count ∙ when_opened (status_of self) (gives (pos (length window.tokens))) c.in_ok-opened.ensures.open
