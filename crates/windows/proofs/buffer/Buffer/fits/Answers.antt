use Rattle.std.proofs.Common.{◌≡◌, ◌+◌, ◌-◌, ◌<◌, ◌≤◌, length, subst, arith}
use Rattle.windows.proofs.Texts.{Tells, tells_stop, tells_short, tells_more}
use Rattle.windows.proofs.buffer.Buffer.fits.Goals as goal

pub returns-in_default : goal.returns-in_default
returns-in_default g c =
    let v = c.args.self.now.window in
    let low : v.start ≤ c.sum.at = omega (arith, c.requires.held) in
    record { value = tells_stop (g.S.TokenSource.text c.args.self.now.source) v c.args.from c.args.to c.args.room c.sum.at c.sum.left low c.sum-test.true c.in_default.ensures.value c.sum.invariant }

pub returns-in_default-checked_sub : goal.returns-in_default-checked_sub
returns-in_default-checked_sub g c =
    let v = c.args.self.now.window in
    let text = g.S.TokenSource.text c.args.self.now.source in
    let low : v.start ≤ c.sum.at = omega (arith, c.requires.held) in
    let less : c.sum.left < length (text c.in-Some.token) = omega (arith, c.in_default-checked_sub.ensures, c.text_len.ensures.value) in
    record { value = tells_short text v c.args.from c.args.to c.args.room c.sum.at c.sum.left c.in-Some.token low c.sum-test.true c.in-Some.ensures.value c.sum.invariant less }

pub sum-preserved : goal.sum-preserved
sum-preserved g c =
    let v = c.args.self.now.window in
    let text = g.S.TokenSource.text c.args.self.now.source in
    let low : v.start ≤ c.sum.at = omega (arith, c.requires.held) in
    let enough : length (text c.in-Some.token) ≤ c.sum.left = omega (arith, c.in-Some-checked_sub.ensures, c.text_len.ensures.value) in
    let rest : c.sum.left - length (text c.in-Some.token) ≡ c.in-Some-checked_sub.rest = omega (arith, c.in-Some-checked_sub.ensures, c.text_len.ensures.value) in
    subst (Tells text v c.args.from c.args.to c.args.room (c.sum.at + 1)) rest (tells_more text v c.args.from c.args.to c.args.room c.sum.at c.sum.left c.in-Some.token low c.sum-test.true c.in-Some.ensures.value c.sum.invariant enough)
