-- Each way out with nothing breaks a rule of the three bytes that a code point would begin with.
use Rattle.std.proofs.Common.{arith}
use Rattle.std.proofs.lemmas.List.{take_rest}
use Rattle.std.proofs.lemmas.Bool.{ltb-true, ltb-false}
use Rattle.utf8.proofs.Forms.{forms, three, proper_at}
use Rattle.utf8.proofs.three.Goals as goal

pub returns-in-default : goal.returns-in-default
returns-in-default c = record { cases = λ d rest b. omega (arith, ltb-true, forms b) }

pub returns-in-err-tail : goal.returns-in-err-tail
returns-in-err-tail c = rw c.from-residual.ensures record { cases = λ d rest b. c.in-err-tail.ensures.cases (omega (arith, forms b)) }

pub returns-in-err-code : goal.returns-in-err-code
returns-in-err-code c = rw c.from-residual-in-err-code.ensures record { cases = λ d rest b. c.in-err-code.ensures.cases (omega (arith, forms b)) }

pub returns-in-err-proper : goal.returns-in-err-proper
returns-in-err-proper c =
    let second = c.in-ok-tail.ensures in
    let third = c.in-ok-code.ensures in
    rw c.from-residual-in-err-proper.ensures record {
      cases = λ d rest b. c.in-err-proper.ensures.cases (proper_at b (omega (arith, forms b)));
    }

pub returns : goal.returns
returns c =
    let second = c.in-ok-tail.ensures in
    let third = c.in-ok-code.ensures in
    let p = c.in-ok-proper.ensures.cases in
    record { cases = rw take_rest (three c.args.bytes.now _ p.1.value (omega (arith, ltb-false))) }
